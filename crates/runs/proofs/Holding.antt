-- What every state of a run keeps, over what its sites can reply. Assumes nothing.
use Rattle.std.proofs.Common.{◌≡◌, ℕ, suc, ◌+◌, true, not, List, length, filter, refl, ◌∙◌}
use Rattle.std.specs.List.{AllByRecursion}
use Rattle.std.proofs.ByRecursion.{All-weaker, kept_by_passes}
use Rattle.std.proofs.lemmas.Bool.{not-true, not-false, leb-true}
use Rattle.orc.specs.Meaning.{Meaning, within_reach, can_stand, Lawful}
use Rattle.orc.specs.Expressions.{Expression}
use Rattle.orc.specs.Calls.{Pending, pending_calls, handle_at, lapses, lapsed}
use Rattle.orc.specs.Steps.{Act, called, inner, out, Leaf, Step}
use Rattle.orc.specs.Sound.{AllCanStand}
use Rattle.orc.specs.Laws.{begun as made}
use Rattle.orc.specs.Files.{File, WellFormed}
use Rattle.orc.proofs.Keeping.{kept_by_steps}
use Rattle.orc.proofs.Simplifying.{pending_simplified, nothing_unbegun}
use Rattle.runs.specs.declared.call.Call.{Call}
use Rattle.runs.specs.States.{State, world_of, begun, unloaded}
use Rattle.runs.specs.Outcomes.{Response, by_go, by_answer, Outcome, refuses, takes, passes}
use Rattle.runs.specs.Bounds.{operands_pass, Holds}
use Rattle.runs.proofs.Keeping.{pending_settled, kept_stepped, kept, goal_nothing_pending, kept_at_begin, kept_unloaded}
use Rattle.runs.proofs.Ranging.{simplified_passes, lapsed_passes, RangedAct, KnownAct, ranged_step, known_step, proper_known}
use Rattle.runs.proofs.Standing.{carried, decides_itself, reached_stands, made_stands, reply_begins}

-- the pending call that an act begins can stand
made_stand : (m : Meaning) → Lawful m → (t k : ℕ) (a : Act) → RangedAct a → KnownAct m a → AllByRecursion (λ p. can_stand (handle_at m p) p.since t ≡ true) (made t k a)
made_stand m laws t k (called s v) r q = (made_stands m laws s v t (leb-true v 65535 r.1) q.0, tt)
made_stand m laws t k inner r q = tt
made_stand m laws t k (out w) r q = tt

all_reached : (m : Meaning) (n : ℕ) (ps : List Pending) → AllByRecursion (λ p. within_reach (handle_at m p) p.since n ≡ true) (filter (λ p. not (lapses m n p)) ps)
all_reached m n ps = All-weaker _ _ (λ p h. not-false _ (not-true _ h)) (filter (λ p. not (lapses m n p)) ps) (kept_by_passes (λ p. not (lapses m n p)) ps)

module _ {m : Meaning} {s : State} (laws : Lawful m) (h : Holds m s) where
  -- After a transition each pending call can stand, before those lapse that no window reaches.
  pub all_stand : {l : Leaf} {a : Act} {gone : List Pending} {e : Expression} → Step (world_of m s) s.clock (suc s.issued) s.expression l a gone e → AllCanStand m s.clock e
  all_stand {a = a} st =
      let k = h.keeps in
      let b = (kept_by_steps (world_of m s) k.definitions_kept.sound).accounted st k.expression_kept.unbegun in
      let r = (ranged_step laws k.definitions_kept.ranged st k.expression_kept.ranged).1 in
      let q = (known_step h.definitions_known st h.known).1 in
      carried _ _ (λ p. decides_itself (can_stand (handle_at m p) p.since s.clock)) b (reached_stands m s.clock (pending_calls s.expression) h.within_reach_now) (made_stand m laws s.clock (suc s.issued) a r q)

  -- Every outcome keeps what a state of a run keeps.
  pub held : {s' : State} {c : Call} {r : Response} → Outcome m s c r s' → Holds m s'
  held (refuses x) = h
  held (takes {a = a} {e = e} l (by_go st) short fits) =
      record {
        keeps = kept laws h.keeps (takes l (by_go st) short fits);
        known = simplified_passes _ _ _ (lapsed m s.clock e) (lapsed_passes _ _ _ m s.clock e (known_step h.definitions_known st h.known).0);
        definitions_known = h.definitions_known;
        within_reach_now = rw (pending_settled m s.clock (kept_stepped laws h.keeps st)) (all_reached m s.clock (pending_calls e));
      }
  held (takes {a = a} {e = e} l (by_answer {k} {v} st) short fits) =
      let b = (kept_by_steps (world_of m s) h.keeps.definitions_kept.sound).accounted st h.keeps.expression_kept.unbegun in
      let none : AllByRecursion (λ p. within_reach (handle_at m p) p.since s.clock ≡ true) (made s.clock (suc s.issued) a) = rw (reply_begins k v refl st) tt in
      record {
        keeps = kept laws h.keeps (takes l (by_answer st) short fits);
        known = simplified_passes _ _ _ e (known_step h.definitions_known st h.known).0;
        definitions_known = h.definitions_known;
        within_reach_now = rw (pending_simplified e (kept_stepped laws h.keeps st).unbegun) (carried _ _ (λ p. decides_itself (within_reach (handle_at m p) p.since s.clock)) b h.within_reach_now none);
      }
  held (passes {d} l p near) =
      let e = s.expression in
      let n = s.clock + d in
      record {
        keeps = kept laws h.keeps (passes l p near);
        known = simplified_passes _ _ _ (lapsed m n e) (lapsed_passes _ _ _ m n e h.known);
        definitions_known = h.definitions_known;
        within_reach_now = rw (pending_settled m n h.keeps.expression_kept) (all_reached m n (pending_calls e));
      }

pub held_at_begin : (m : Meaning) (file : File) → WellFormed m file → Holds m (begun file)
held_at_begin m file w =
    let n = length file.definitions in
    let e = file.goal in
    let none = goal_nothing_pending m file w in
    let ps = pending_simplified e (nothing_unbegun e none) ∙ none in
    record {
      keeps = kept_at_begin m file w;
      known = simplified_passes _ _ _ e (proper_known m n e w.goal_proper);
      definitions_known = All-weaker _ _ (λ d h. proper_known m n d.body h.body_proper) file.definitions w.definitions_well_formed;
      within_reach_now = rw ps tt;
    }

pub held_unloaded : (m : Meaning) → Holds m unloaded
unfolding pending_calls operands_pass
held_unloaded m = record { keeps = kept_unloaded; known = refl; definitions_known = tt; within_reach_now = tt }
