-- What a refused call answers. Assumes nothing.
use Rattle.std.proofs.Common.{◌≡◌, ℕ, ◌<◌, ◌≤◌, ◌⊎◌, List, length, Ok, Err, sym, refl, ap, ◌∙◌, subst, inl, inr, arith}
use Rattle.orc.specs.Meaning.{Meaning}
use Rattle.orc.specs.Expressions.{bytes}
use Rattle.orc.specs.Calls.{Pending}
use Rattle.orc.specs.Steps.{Act}
use Rattle.forms.specs.Reading.{expression_of}
use Rattle.runs.specs.declared.call.Call.{Call}
use Rattle.runs.specs.declared.call.Call.TheVariants.{Wait}
use Rattle.runs.specs.declared.refusal.Refusal.{Refusal}
use Rattle.runs.specs.declared.refusal.Refusal.TheVariants.{Outgrown}
use Rattle.runs.specs.States.{State}
use Rattle.runs.specs.Outcomes.{Response, Takes, largest_form, settled, stepped, Refuses, is_outgrown, Outcome, refuses}
use Rattle.runs.specs.Recording.{MeetsLimit}
use Rattle.runs.specs.Moving.{OneOutcome}
use Rattle.runs.proofs.Making.{made_or_limited, can_be_waited, takes_leaf}
use Rattle.runs.proofs.Single.{one_outcome as one_outcome_of}
use Rattle.engine.specs.Moves.{Move, MayBeMade}
use Rattle.engine.specs.Making.{Limited, EveryTransitionIsMade, EveryPassageIsWaited}
use Rattle.engine.proofs.Given.{keeps}
use Rattle.engine.specs.declared.plain.Plain.{Plain}
use Rattle.engine.specs.Stands.{state_of, KeptIfRefused}

module _ (m : Meaning) (p : Plain) (c : Call) (r : Response) (f g : Refusal) (is : r ≡ Err f) (same : f ≡ g) where
  pub refused_outcome : Refuses m (state_of p) c g → Outcome m (state_of p) c r (state_of p)
  refused_outcome h = subst (λ x. Outcome m (state_of p) c x (state_of p)) (sym is) (subst (λ x. Outcome m (state_of p) c (Err x) (state_of p)) (sym same) (refuses h))

  pub refused_keeps : KeptIfRefused r p p
  refused_keeps = subst (λ x. KeptIfRefused x p p) (sym is) refl

-- each transition that the call names is made, since the call has only one outcome
pub every_transition : (m : Meaning) (p : Plain) (c : Call) (r : Response) (s' : State) → Outcome m (state_of p) c r s' → EveryTransitionIsMade m (state_of p) c r s'
every_transition m p c r s' o loaded l a gone e named st =
    let one = one_outcome_of m (state_of p) (keeps p) c in
    let mine = one.only o in
    by one mine (made_or_limited loaded (subst (λ c. Takes m (state_of p) c a gone e) named (takes_leaf l st)))
  where
    by : (one : OneOutcome m (state_of p) c) → (r ≡ one.response) × (s' ≡ one.next) → Outcome m (state_of p) c (Ok tt) (stepped m (state_of p) c a gone e) ⊎ MeetsLimit m (state_of p) c → ((r ≡ Ok tt) × (s' ≡ stepped m (state_of p) c a gone e)) ⊎ Limited (state_of p) r s'
    by one mine (inl done) = let its = one.only done in inl (mine.0 ∙ sym its.0, mine.1 ∙ sym its.1)
    by one mine (inr limit) =
        let its = one.only limit.refused in
        inr (record { refusal = limit.refusal; limit = limit.limit; refused = mine.0 ∙ sym its.0; stays = mine.1 ∙ sym its.1 })

-- what settles too large is refused
pub outgrown : (m : Meaning) (p : Plain) (c : Call) (a : Act) (gone : List Pending) (bs bs' : List ℕ) → Move m (state_of p) c a gone bs → bs' ≡ bytes (settled m (state_of p) c (expression_of bs)) → (f : Refusal) → f ≡ Outgrown (length bs') → largest_form < length bs' → Refuses m (state_of p) c f
outgrown m p c a gone bs bs' move settles f is large =
    let same = ap length settles in
    subst (Refuses m (state_of p) c) (sym (is ∙ ap Outgrown same)) (is_outgrown move.loaded move.takes move.room (omega arith))

-- what does not may be made
pub may_be_made : (m : Meaning) (p : Plain) (c : Call) (a : Act) (gone : List Pending) (bs bs' : List ℕ) → Move m (state_of p) c a gone bs → bs' ≡ bytes (settled m (state_of p) c (expression_of bs)) → length bs' ≤ largest_form → MayBeMade m (state_of p) c a gone bs bs'
may_be_made m p c a gone bs bs' move settles small = record { move = move; settles = settles; fits = omega (arith, ap length settles) }

-- time that can pass is waited, likewise
pub every_passage : (m : Meaning) (p : Plain) (d : ℕ) (r : Response) (s' : State) → Outcome m (state_of p) (Wait d) r s' → EveryPassageIsWaited m (state_of p) d r s'
every_passage m p d r s' o loaded pass =
    let one = one_outcome_of m (state_of p) (keeps p) (Wait d) in
    let mine = one.only o in
    elim (can_be_waited loaded d pass) [
      | inl done ↦ let its = one.only done in inl (mine.0 ∙ sym its.0, mine.1 ∙ sym its.1)
      | inr end ↦ let its = one.only end in inr (mine.0 ∙ sym its.0, mine.1 ∙ sym its.1)
    ]
