-- A scan over commands, one behind the other. Assumes nothing.
use Rattle.std.proofs.Common.{◌≡◌, ℕ, zero, suc, ◌+◌, ◌<◌, ◌≤◌, Bool, true, false, cond, ◌&&◌, eqb, ltb, leb, List, [], ◌∷◌, length, Some, None, Option, refl, ap, ◌∙◌, arith}
use Rattle.std.proofs.lemmas.Bool.{eq-eqb, ne_eqb}
use Rattle.std.proofs.lemmas.Bool.Decides.{nat_tests}
use Rattle.formats.specs.Operands.{byte_at}
use Rattle.formats.specs.Widths.{width_of}
use Rattle.forms.specs.Pendings.{call_at}
use Rattle.places.specs.Scans.{Placed, behind, met, scanned, placed_from}

-- a command that is there ends behind its beginning, and within the bytes
pub record Whole (bs : List ℕ) (at next : ℕ) : Type 0 where
  pub further : at < next
  pub there : next ≡ at + width_of (byte_at bs at)
  pub within : next ≤ length bs

pub behind_whole : (bs : List ℕ) (at next : ℕ) → behind bs at ≡ Some next → Whole bs at next
behind_whole bs at next is = by (width_of (byte_at bs at)) refl is
  where
    by : (w : ℕ) → width_of (byte_at bs at) ≡ w → cond (ltb 0 w && leb (at + w) (length bs)) (Some (at + w)) None ≡ Some next → Whole bs at next
    by w wide is' = record { further = grind (arith, nat_tests); there = grind (arith, nat_tests); within = grind (arith, nat_tests) }

pub whole_behind : (bs : List ℕ) (at : ℕ) → 0 < width_of (byte_at bs at) → at + width_of (byte_at bs at) ≤ length bs → behind bs at ≡ Some (at + width_of (byte_at bs at))
whole_behind bs at some within = by (width_of (byte_at bs at)) some within
  where
    by : (w : ℕ) → 0 < w → at + w ≤ length bs → cond (ltb 0 w && leb (at + w) (length bs)) (Some (at + w)) None ≡ Some (at + w)
    by w some' within' = grind (arith, nat_tests)

pub nothing_behind : (bs : List ℕ) (at : ℕ) → length bs ≤ at → behind bs at ≡ None
nothing_behind bs at past = by (width_of (byte_at bs at))
  where
    by : (w : ℕ) → cond (ltb 0 w && leb (at + w) (length bs)) (Some (at + w)) None ≡ None
    by w = grind (arith, nat_tests)

module _ (bs : List ℕ) where
  -- any bound that is large enough gives the same
  met_same : (at : ℕ) (is : Bool) (p : Placed) (rest rest' : ℕ → List Placed) → ((next : ℕ) → at < next → rest next ≡ rest' next) → (o : Option ℕ) → behind bs at ≡ o → met o is p rest ≡ met o is p rest'
  met_same at is p rest rest' same None b = refl
  met_same at true p rest rest' same (Some next) b = ap (λ ps. p ∷ ps) (same next (behind_whole bs at next b).further)
  met_same at false p rest rest' same (Some next) b = same next (behind_whole bs at next b).further

  enough : (k k' at : ℕ) → length bs ≤ at + k → length bs ≤ at + k' → scanned k bs at ≡ scanned k' bs at
  unfolding scanned
  enough zero zero at all all' = refl
  enough zero (suc k') at all all' = rw (nothing_behind bs at (omega arith))
  enough (suc k) zero at all all' = rw (nothing_behind bs at (omega arith))
  enough (suc k) (suc k') at all all' =
      met_same at (eqb (byte_at bs at) 6) (record { place = at; call = call_at bs at }) (λ next. scanned k bs next) (λ next. scanned k' bs next)
      (λ next further. enough k k' next (omega arith) (omega arith)) (behind bs at) refl

  step : (at : ℕ) → placed_from bs at ≡ met (behind bs at) (eqb (byte_at bs at) 6) (record { place = at; call = call_at bs at }) (λ next. placed_from bs next)
  unfolding scanned
  step at = enough (length bs) (suc (length bs)) at (omega arith) (omega arith)

  pub meets_nothing : (at : ℕ) → behind bs at ≡ None → placed_from bs at ≡ []
  meets_nothing at none = step at ∙ (rw none)

  pub meets_other : (at next : ℕ) → behind bs at ≡ Some next → (byte_at bs at ≡ 6 → ⊥) → placed_from bs at ≡ placed_from bs next
  meets_other at next some other = step at ∙ (rw (some, ne_eqb (byte_at bs at) 6 other))

  pub meets_pending : (at next : ℕ) → behind bs at ≡ Some next → byte_at bs at ≡ 6 → placed_from bs at ≡ record { place = at; call = call_at bs at } ∷ placed_from bs next
  meets_pending at next some is = step at ∙ (rw (some, eq-eqb (byte_at bs at) 6 is))
