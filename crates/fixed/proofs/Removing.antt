-- Items taken out of the first part of an array. Assumes nothing.
use Rattle.std.proofs.Common.{◌≡◌, ℕ, ◌-◌, ◌<◌, ◌≤◌, List, ◌++◌, length, take, drop, max, min, sym, ap, ◌∙◌, ap₂, inl, inr, arith}
use Rattle.std.specs.List.{remove_range, copy_within}
use Rattle.std.proofs.lemmas.Bool.{cases_lt}
use Rattle.std.proofs.lemmas.List.{take-take, drop-take, drop_all, length-take-le, length-drop}
use Rattle.std.proofs.lemmas.List.Edits.{take-paste}

module _ {T : Type 0} (xs : List T) (start end len : ℕ) (fits : len ≤ length xs) where
  -- what stands behind the removed items, of which none are past the end
  behind : (last : ℕ) → last ≡ min end len → start < last → take (len - last) (drop last xs) ≡ drop (max start end) (take len xs)
  behind last is some =
      elim (cases_lt len end) [
        | inl past ↦ grind (arith, is, drop_all (max start end) (take len xs), drop_all last (take len xs), drop-take last (len - last) xs, length-take-le len xs)
        | inr within ↦ grind (arith, is, drop-take last (len - last) xs)
      ]

  pub removed : (last : ℕ) → last ≡ min end len → start < last → take (len - (last - start)) (copy_within xs last len start) ≡ remove_range (take len xs) start (max start end)
  removed last is some =
      let within : last ≤ len = omega (arith, is) in
      ap (λ n. take n (copy_within xs last len start)) (omega arith)
      ∙ take-paste xs start (drop last xs) (len - last) (omega arith) (simp length-drop (omega arith))
      ∙ ap₂ ◌++◌ (sym (take-take start len xs (omega arith))) (behind last is some)
