-- The first that passes a test, found from the front. Assumes nothing.
use Rattle.std.proofs.Common.{◌≡◌, ℕ, Bool, true, false, cond, List, [], ◌∷◌, map, Some, None, Option, MatchOption, sym, refl, subst}
use Rattle.std.specs.List.{AllByRecursion, find}
use Rattle.std.specs.Option.{option_map}
use Rattle.orc.specs.Calls.{Pending}
use Rattle.places.specs.Scans.{Placed}
use Rattle.runs.specs.Outcomes.{First, at_once, further_on}

module _ (test : Pending → Bool) where
  -- what is found, by its ticket, is the first of the calls
  abbrev FirstByTicket : Option ℕ → List Pending → Type 0
  FirstByTicket r ps = MatchOption r (AllByRecursion (λ p. test p ≡ false) ps) (λ k. (p : Pending) × First test ps p × (p.ticket ≡ k))

  -- one before the others that fails changes nothing
  passed : (x : Placed) (ps : List Pending) (r : Option ℕ) → test x.call ≡ false → FirstByTicket r ps → FirstByTicket r (x.call ∷ ps)
  passed x ps None fails h = (fails, h)
  passed x ps (Some k) fails h = (h.0, further_on fails h.1, h.2)

  found : (placed : List Placed) → FirstByTicket (option_map (λ p. p.call.ticket) (find (λ p. test p.call) placed)) (map (λ p. p.call) placed)
  found [] = tt
  found (x ∷ xs) = by (test x.call) refl (found xs)
    where
      by : (b : Bool) → test x.call ≡ b → FirstByTicket (option_map (λ p. p.call.ticket) (find (λ p. test p.call) xs)) (map (λ p. p.call) xs)
          → FirstByTicket (option_map (λ p. p.call.ticket) (cond b (Some x) (find (λ p. test p.call) xs))) (x.call ∷ map (λ p. p.call) xs)
      by true is rest = (x.call, at_once is, refl)
      by false is rest = passed x _ _ is rest

  pub found_first : (placed : List Placed) (r : Option ℕ) (ps : List Pending) → r ≡ option_map (λ p. p.call.ticket) (find (λ p. test p.call) placed) → map (λ p. p.call) placed ≡ ps → MatchOption r (AllByRecursion (λ p. test p ≡ false) ps) (λ k. (p : Pending) × First test ps p × (p.ticket ≡ k))
  found_first placed r ps is all = subst (FirstByTicket r) all (subst (λ o. FirstByTicket o (map (λ p. p.call) placed)) (sym is) (found placed))
