-- The bytes from an offset on, as a list, and numbers that are read there. Assumes nothing.
use Rattle.std.proofs.Common.{◌≡◌, ℕ, ◌+◌, ◌-◌, ◌/◌, ◌%◌, ◌≤◌, List, [], ◌∷◌, ◌++◌, map, length, take, drop, sym, ap, ◌∙◌, add-zero, add_assoc, arith}
use Rattle.std.specs.List.{range_with_len}
use Rattle.std.proofs.lemmas.List.FromFn.{fill_by_all}
use Rattle.std.proofs.lemmas.List.{get_or-take, get_or-drop, length-take-le, length-drop, take-append-drop, drop-drop}
use Rattle.formats.specs.Operands.{byte_at, Bytes, two_at, four_at}

-- what is read past the offset is read in the list
module _ (bs : List ℕ) (at : ℕ) {l : List ℕ} (left : drop at bs ≡ l) where
  pub byte_left : (k : ℕ) → byte_at bs (at + k) ≡ byte_at l k
  byte_left k = sym (get_or-drop at bs k 0) ∙ ap (λ l. byte_at l k) left

  pub two_left : (k : ℕ) → two_at bs (at + k) ≡ two_at l k
  two_left k = simp (add_assoc, byte_left)

  pub four_left : (k : ℕ) → four_at bs (at + k) ≡ four_at l k
  four_left k = simp (add_assoc, byte_left)

  pub length_left : length bs - at ≡ length l
  length_left = sym (length-drop at bs) ∙ ap length left

  pub drop_left : (n : ℕ) → drop (at + n) bs ≡ drop n l
  drop_left n = sym (drop-drop n at bs) ∙ ap (drop n) left

pub first_left : (bs : List ℕ) (at : ℕ) {b : ℕ} {l : List ℕ} → drop at bs ≡ b ∷ l → byte_at bs at ≡ b
first_left bs at left = rw add-zero at (byte_left bs at left 0)

-- what stands from an offset on is n bytes, one by one, and what stands behind them
pub byte_by_byte : (bs : List ℕ) (at n : ℕ) → at + n ≤ length bs → map (λ k. byte_at bs (at + k)) (range_with_len 0 n) ++ drop (at + n) bs ≡ drop at bs
byte_by_byte bs at n within =
    let l = drop at bs in
    let firsts : take n l ≡ map (λ k. byte_at bs (at + k)) (range_with_len 0 n)
    = fill_by_all (λ k. byte_at bs (at + k)) (take n l) n 0 (length-take-le n l (simp length-drop (omega arith))) (λ k below. get_or-take n l k 0 below ∙ get_or-drop at bs k 0) in
    rw (← firsts, ← (drop-drop n at bs)) (take-append-drop n l)

-- a number that is read has the bytes that it was read from
module _ (bs : List ℕ) (bytes : Bytes bs) where
  pub two_back : (i : ℕ) → two_at bs i / 256 ∷ two_at bs i % 256 ∷ [] ≡ byte_at bs i ∷ byte_at bs (i + 1) ∷ []
  two_back i = search arith

  pub four_back : (i : ℕ) → four_at bs i / 16777216 ∷ (four_at bs i / 65536) % 256 ∷ (four_at bs i / 256) % 256 ∷ four_at bs i % 256 ∷ [] ≡ byte_at bs i ∷ byte_at bs (i + 1) ∷ byte_at bs (i + 2) ∷ byte_at bs (i + 3) ∷ []
  four_back i = search arith
