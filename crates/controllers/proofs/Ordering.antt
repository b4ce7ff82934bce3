-- Orders that are made one after the other. Assumes nothing.
use Rattle.std.proofs.Common.{◌≡◌, ℕ, suc, ◌+◌, ◌<◌, List, [], ◌∷◌, ◌++◌, length, get_or, set, take, drop, Some, None, Option, refl, sym, ◌∙◌, ap, subst, arith, MatchOption}
use Rattle.std.proofs.lemmas.List.{take_more, drop_more, length-take-le, append_assoc}
use Rattle.std.proofs.Math.Seq.{set-append_seam, get_or-append_seam}
use Rattle.orc.specs.Meaning.{Meaning}
use Rattle.runs.specs.declared.call.Call.{Call}
use Rattle.runs.specs.Refusals.{told}
use Rattle.runs.specs.States.{State}
use Rattle.runs.specs.Outcomes.{Response, Outcome}
use Rattle.runs.specs.Histories.{History, start, after}
use Rattle.runs.specs.Facts.{BodiesFit, StateFits}
use Rattle.runs.specs.Recording.{InRange}
use Rattle.controllers.specs.declared.verdict.Verdict.{Verdict}
use Rattle.controllers.specs.declared.order.Order.{Order}
use Rattle.controllers.specs.Told.{no_call, verdict_on, shortened}
use Rattle.controllers.specs.Orders.{call_of, noted, Makes, Met, none_left, is_call, is_no_call}
use Rattle.controllers.proofs.Telling.{verdict_whole}
use Rattle.controllers.proofs.Refusing.{told_near}

-- a call that is made of an order tells what it met
pub makes_call : (m : Meaning) (s s' : State) (o : Order) (c : Call) (r : Response) (v : Verdict) → BodiesFit s.definitions → StateFits s → InRange c → call_of o ≡ Some c → Outcome m s c r s' → v ≡ shortened (verdict_on told r) → Makes m s o v s'
makes_call m s s' o c r v bodies fits ranged is outcome said =
    let P : Option Call → Type 0 = λ x. MatchOption x ((v ≡ no_call) × (s' ≡ s)) (λ c. (r : Response) × Outcome m s c r s' × (v ≡ verdict_on told r)) in
    subst P (sym is) (r, outcome, verdict_whole told r v said (told_near m s bodies fits c r s' ranged outcome))

-- one order more, at the end
met_call : {os os' : List Order} {cs : List Call} {rs : List Response} (o : Order) (c : Call) (r : Response) → call_of o ≡ Some c → Met os cs rs os'
    → Met (os ++ (o ∷ [])) (cs ++ (c ∷ [])) (rs ++ (r ∷ [])) (os' ++ (noted o (verdict_on told r) ∷ []))
met_call o c r is none_left = is_call is none_left
met_call o c r is (is_call this rest) = is_call this (met_call o c r is rest)
met_call o c r is (is_no_call this rest) = is_no_call this (met_call o c r is rest)

met_no_call : {os os' : List Order} {cs : List Call} {rs : List Response} (o : Order) → call_of o ≡ None → Met os cs rs os' → Met (os ++ (o ∷ [])) cs rs (os' ++ (noted o no_call ∷ []))
met_no_call o is none_left = is_no_call is none_left
met_no_call o is (is_call this rest) = is_call this (met_no_call o is rest)
met_no_call o is (is_no_call this rest) = is_no_call this (met_no_call o is rest)

-- none is lost
met_length : {os os' : List Order} {cs : List Call} {rs : List Response} → Met os cs rs os' → length os' ≡ length os
met_length none_left = refl
met_length (is_call this rest) = ap suc (met_length rest)
met_length (is_no_call this rest) = ap suc (met_length rest)

-- The first i of the orders os are made, from s₀ on, and noted in os'. That leaves s.
pub record MadeTo (m : Meaning) (s₀ : State) (os : List Order) (i : ℕ) (os' : List Order) (s : State) : Type 0 where
  pub calls : List Call
  pub responses : List Response
  pub done : List Order
  pub met : Met (take i os) calls responses done
  pub rest : os' ≡ done ++ drop i os
  pub history : History m s₀ calls responses s

pub made_none : (m : Meaning) (s : State) (os : List Order) → MadeTo m s os 0 os s
made_none m s os = record { calls = []; responses = []; done = []; met = none_left; rest = refl; history = start }

module _ (m : Meaning) (s₀ s s' : State) (os os' : List Order) (i : ℕ) (o d : Order) (v : Verdict) (within : i < length os) (so_far : MadeTo m s₀ os i os' s) (this : o ≡ get_or os' i d) where
  count : length so_far.done ≡ i
  count = met_length so_far.met ∙ length-take-le i os (omega arith)

  here : os' ≡ so_far.done ++ (get_or os i o ∷ drop (i + 1) os)
  here = so_far.rest ∙ ap (λ l. so_far.done ++ l) (drop_more os i o within)

  same : get_or os i o ≡ o
  same = sym (this ∙ (ap (λ l. get_or l i d) here ∙ (ap (λ n. get_or (so_far.done ++ (get_or os i o ∷ drop (i + 1) os)) n d) (sym count) ∙ get_or-append_seam so_far.done (get_or os i o) (drop (i + 1) os) d)))

  -- with what it met noted
  written : (v : Verdict) → set os' i (noted o v) ≡ (so_far.done ++ (noted o v ∷ [])) ++ drop (i + 1) os
  written v =
      ap (λ l. set l i (noted o v)) here
      ∙ (ap (λ n. set (so_far.done ++ (get_or os i o ∷ drop (i + 1) os)) n (noted o v)) (sym count)
      ∙ (set-append_seam so_far.done (get_or os i o) (drop (i + 1) os) (noted o v)
      ∙ sym (append_assoc so_far.done (noted o v ∷ []) (drop (i + 1) os))))

  longer : take (i + 1) os ≡ take i os ++ (o ∷ [])
  longer = take_more os i o within ∙ ap (λ z. take i os ++ (z ∷ [])) same

  by_case : (x : Option Call) → call_of o ≡ x → MatchOption x ((v ≡ no_call) × (s' ≡ s)) (λ c. (r : Response) × Outcome m s c r s' × (v ≡ verdict_on told r)) → MadeTo m s₀ os (i + 1) (set os' i (noted o v)) s'
  by_case None is (said, stays) =
      record {
        calls = so_far.calls;
        responses = so_far.responses;
        done = so_far.done ++ (noted o v ∷ []);
        met = subst (λ l. Met l so_far.calls so_far.responses (so_far.done ++ (noted o v ∷ []))) (sym longer)
            (subst (λ w. Met (take i os ++ (o ∷ [])) so_far.calls so_far.responses (so_far.done ++ (noted o w ∷ []))) (sym said) (met_no_call o is so_far.met));
        rest = written v;
        history = subst (λ z. History m s₀ so_far.calls so_far.responses z) (sym stays) so_far.history;
      }
  by_case (Some c) is (r, outcome, said) =
      record {
        calls = so_far.calls ++ (c ∷ []);
        responses = so_far.responses ++ (r ∷ []);
        done = so_far.done ++ (noted o v ∷ []);
        met = subst (λ l. Met l (so_far.calls ++ (c ∷ [])) (so_far.responses ++ (r ∷ [])) (so_far.done ++ (noted o v ∷ []))) (sym longer)
            (subst (λ w. Met (take i os ++ (o ∷ [])) (so_far.calls ++ (c ∷ [])) (so_far.responses ++ (r ∷ [])) (so_far.done ++ (noted o w ∷ []))) (sym said) (met_call o c r is so_far.met));
        rest = written v;
        history = after so_far.history outcome;
      }

  pub made_one : Makes m s o v s' → MadeTo m s₀ os (i + 1) (set os' i (noted o v)) s'
  made_one makes = by_case (call_of o) refl makes
