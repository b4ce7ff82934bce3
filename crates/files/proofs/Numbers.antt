-- The definitions of a file by number, and what stands behind them. Assumes nothing.
use Rattle.std.proofs.Common.{◌≡◌, ℕ, zero, suc, ◌+◌, ◌<◌, ◌≤◌, List, ◌∷◌, [], length, Some, None, refl, sym, ap, ◌∙◌, add-one, arith}
use Rattle.std.proofs.iter.Yields.{nat_range_steps}
use Rattle.std.specs.Iterator.{Yields}
use Rattle.std.specs.declared.ops.Range.{Range}
use Rattle.orc.specs.Expressions.{entry}
use Rattle.files.specs.Contents.{first_definition, behind_definition, definitions_of, behind_definitions}

-- n definitions on, and one more
last_behind : (n : ℕ) (l : List ℕ) → behind_definitions (suc n) l ≡ behind_definition (behind_definitions n l)
unfolding behind_definitions
last_behind zero l = refl
last_behind (suc n) l = last_behind n (behind_definition l)

pub behind_more : (n : ℕ) (l : List ℕ) → behind_definitions (n + 1) l ≡ behind_definition (behind_definitions n l)
behind_more n l = ap (λ k. behind_definitions k l) (add-one n) ∙ last_behind n l

-- the definitions by number
pub entry_within : (n : ℕ) (l : List ℕ) (i : ℕ) → i < n → entry (definitions_of n l) i ≡ Some (first_definition (behind_definitions i l))
unfolding definitions_of behind_definitions
entry_within zero l i within = absurd (omega arith)
entry_within (suc n) l zero within = refl
entry_within (suc n) l (suc i) within = entry_within n (behind_definition l) i (omega arith)

pub entry_past : (n : ℕ) (l : List ℕ) (i : ℕ) → n ≤ i → entry (definitions_of n l) i ≡ None
unfolding definitions_of
entry_past zero l i past = refl
entry_past (suc n) l zero past = absurd (omega arith)
entry_past (suc n) l (suc i) past = entry_past n (behind_definition l) i (omega arith)

pub count_of : (n : ℕ) (l : List ℕ) → length (definitions_of n l) ≡ n
unfolding definitions_of
count_of zero l = refl
count_of (suc n) l = ap suc (count_of n (behind_definition l))

-- what is left of a range that gave some numbers
pub range_left : (xs : List ℕ) (s t : Range ℕ) → Yields nat_range_steps s xs t → s.start ≤ s.end → (t.end ≡ s.end) × (t.start ≡ s.start + length xs) × (t.start ≤ t.end)
range_left [] s t is within = (sym (ap (λ r. r.end) is), omega (arith, ap (λ (r : Range ℕ). r.start) is), omega (arith, within, ap (λ (r : Range ℕ). r.start) is, ap (λ (r : Range ℕ). r.end) is))
range_left (x ∷ xs) s t is within =
    let next = is.1 in
    let rest = range_left xs is.0 t is.2 (omega (arith, next.0, next.1.0, next.1.2)) in
    (rest.0 ∙ next.0, omega (arith, rest.1, next.1.2), rest.2)
