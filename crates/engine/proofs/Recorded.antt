-- A record's events, and elements by their number. Assumes nothing.
use Rattle.std.proofs.Common.{◌≡◌, ℕ, zero, suc, ◌<◌, ◌≤◌, List, [], ◌∷◌, length, get_or, replicate, Some, None, Option, MatchOption, Bor, sym, refl, ap, ◌∙◌, arith}
use Rattle.std.specs.List.{HoldsAt}
use Rattle.std.specs.Option.{option_copied}
use Rattle.std.proofs.lemmas.List.{length-map}
use Rattle.fixed.specs.Items.{items_of}
use Rattle.orc.specs.Expressions.{entry}
use Rattle.events.specs.Events.{entry_of}
use Rattle.engine.specs.Held.{Record, entries}

pub event_count : (r : Record) → length (items_of r) ≡ length (entries r)
event_count r = sym (length-map (items_of r) entry_of)

-- a list of equal elements has them everywhere, and the default behind them
pub same_everywhere : {X : Type 0} (n i : ℕ) (x : X) → get_or (replicate n x) i x ≡ x
same_everywhere zero i x = refl
same_everywhere (suc n) zero x = refl
same_everywhere (suc n) (suc i) x = same_everywhere n i x

-- an element by its number
pub entry_there : {X : Type 0} (xs : List X) (i : ℕ) (d : X) → i < length xs → Some (get_or xs i d) ≡ entry xs i
entry_there [] i d h = absurd (omega arith)
entry_there (x ∷ xs) zero d h = refl
entry_there (x ∷ xs) (suc i) d h = entry_there xs i d (omega arith)

entry_past : (xs : List ℕ) (i : ℕ) → length xs ≤ i → None ≡ entry xs i
entry_past [] i past = refl
entry_past (y ∷ xs) zero past = absurd (omega arith)
entry_past (y ∷ xs) (suc i) past = entry_past xs i (omega arith)

pub got_at : (xs : List ℕ) (i : ℕ) (r : Option (Bor ℕ)) → MatchOption r (length xs ≤ i) (λ x. (i < length xs) × HoldsAt (λ y. x.now ≡ y) xs i) → option_copied r ≡ entry xs i
got_at xs i None past = entry_past xs i past
got_at xs i (Some x) there = ap Some (there.1 x.now) ∙ entry_there xs i x.now there.0
