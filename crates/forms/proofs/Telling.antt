-- A table of lengths tells where forms end. Assumes nothing.
use Rattle.std.proofs.Common.{◌≡◌, ℕ, zero, suc, ◌+◌, ◌<◌, ◌≤◌, Bool, true, false, eqb, List, length, take, drop, set, sym, refl, ap, ◌∙◌, subst, add_assoc, arith}
use Rattle.std.proofs.lemmas.Bool.{eqb-true, eqb-false}
use Rattle.std.proofs.lemmas.List.{get_or-drop, get_or-take, get_or-set_same, get_or-set_other, length-drop, length-take}
use Rattle.formats.specs.Operands.{byte_at}
use Rattle.formats.specs.Widths.{width_of}
use Rattle.forms.specs.Shapes.{has_parts, WholeCommand, FormAt, without_parts, with_parts}
use Rattle.forms.specs.Lengths.{length_at, PartsTold, Tells, Told, ToldFrom}
use Rattle.forms.proofs.Counting.{wide}

module _ (bs ts : List ℕ) (told : Told bs ts) where
  -- k bounds the length
  ends_there : (k at : ℕ) → length_at ts at ≤ k → 0 < length_at ts at → at + length_at ts at ≤ length bs → FormAt bs at (at + length_at ts at)
  ends_there zero at few some within = absurd (omega arith)
  ends_there (suc k) at few some within = by_parts (λ at few some within. ends_there k at few some within) (has_parts (byte_at bs at)) refl
    where
      there : Tells bs ts at (length_at ts at)
      there = told at some within

      by_parts : ((at : ℕ) → length_at ts at ≤ k → 0 < length_at ts at → at + length_at ts at ≤ length bs → FormAt bs at (at + length_at ts at))
          → (b : Bool) → has_parts (byte_at bs at) ≡ b → FormAt bs at (at + length_at ts at)
      by_parts part false leaf =
          let n = there.without_parts leaf in
          without_parts (record { of_a_form = there.of_a_form; whole = omega (arith, n, within) }) leaf (ap (λ n. at + n) n)
      by_parts part true split =
          let w = width_of (byte_at bs at) in
          let some-bytes = wide (byte_at bs at) there.of_a_form in
          let p = there.with_parts split in
          let first = p.first in
          let second = p.second in
          let all = p.all in
          let f = part (at + w) (omega arith) first (omega arith) in
          let g = part (at + w + length_at ts (at + w)) (omega arith) second (omega arith) in
          let end : at + w + length_at ts (at + w) + length_at ts (at + w + length_at ts (at + w)) ≡ at + length_at ts at = omega arith in
          with_parts (record { of_a_form = there.of_a_form; whole = omega arith }) split f (subst (λ (n : ℕ). FormAt bs (at + w + length_at ts (at + w)) n) end g)

  ends_at_front : 0 < length_at ts 0 → length_at ts 0 ≤ length bs → FormAt bs 0 (length_at ts 0)
  ends_at_front some within =
      let end : 0 + length_at ts 0 ≡ length_at ts 0 = omega arith in
      subst (λ (n : ℕ). FormAt bs 0 n) end (ends_there (length_at ts 0) 0 (omega arith) some (omega arith))

  pub told_at_front : (n : ℕ) → n ≡ length_at ts 0 → 0 < n → n ≤ length bs → FormAt bs 0 n
  told_at_front n is some within = subst (λ (n : ℕ). FormAt bs 0 n) (sym is) (ends_at_front (omega arith) (omega arith))

  -- what is told of what stands from an offset on
  pub told_behind : (n : ℕ) → n ≤ length bs → Told (drop n bs) (drop n ts)
  told_behind n within at some fits =
      let here : length_at (drop n ts) at ≡ length_at ts (n + at) = get_or-drop n ts at 0 in
      let byte : byte_at (drop n bs) at ≡ byte_at bs (n + at) = get_or-drop n bs at 0 in
      let long = length-drop n bs in
      let there = told (n + at) (omega arith) (omega arith) in
      record {
        of_a_form = omega (arith, there.of_a_form);
        without_parts = λ leaf. here ∙ there.without_parts (ap has_parts (sym byte) ∙ leaf) ∙ ap width_of (sym byte);
        with_parts = λ split. moved n at (width_of (byte_at bs (n + at))) (width_of (byte_at (drop n bs) at)) (length_at ts (n + at)) (length_at (drop n ts) at) (ap width_of (sym byte)) (sym here) (there.with_parts (ap has_parts (sym byte) ∙ split));
      }
    where
      moved : (n at w w' m m' : ℕ) → w ≡ w' → m ≡ m' → PartsTold ts (n + at) w m → PartsTold (drop n ts) at w' m'
      moved n at w w' m m' same-w same-m p =
          let first = p.first in
          let second = p.second in
          let all = p.all in
          let a : length_at (drop n ts) (at + w') ≡ length_at ts (n + at + w) = get_or-drop n ts (at + w') 0 ∙ ap (length_at ts) (omega arith) in
          let b : length_at (drop n ts) (at + w' + length_at (drop n ts) (at + w')) ≡ length_at ts (n + at + w + length_at ts (n + at + w)) = get_or-drop n ts (at + w' + length_at (drop n ts) (at + w')) 0 ∙ ap (length_at ts) (omega arith) in
          record { first = omega arith; second = omega arith; all = omega arith }

  -- and of what stands in front of one
  pub told_before : (n : ℕ) → n ≤ length bs → Told (take n bs) ts
  told_before n within at some fits =
      let long = length-take n bs in
      let there = told at some (omega arith) in
      let byte : byte_at (take n bs) at ≡ byte_at bs at = get_or-take n bs at 0 (omega arith) in
      record {
        of_a_form = omega (arith, there.of_a_form);
        without_parts = λ leaf. there.without_parts (ap has_parts (sym byte) ∙ leaf) ∙ ap width_of (sym byte);
        with_parts = λ split. subst (λ (w : ℕ). PartsTold ts at w (length_at ts at)) (ap width_of (sym byte)) (there.with_parts (ap has_parts (sym byte) ∙ split));
      }

module _ (bs ts : List ℕ) where
  -- one offset more is told of
  pub told_one_more : (at n : ℕ) → at < length ts → ToldFrom (at + 1) bs ts → (0 < n → Tells bs ts at n) → ToldFrom at bs (set ts at n)
  told_one_more at n there told now at' from some fits = by_place (eqb at' at) refl
    where
      -- what is told behind an offset stays as it was
      stays : (i m : ℕ) → at ≤ i → Tells bs ts i m → Tells bs (set ts at n) i m
      stays i m from tells =
          let some-bytes = wide (byte_at bs i) tells.of_a_form in
          record {
            of_a_form = tells.of_a_form;
            without_parts = tells.without_parts;
            with_parts = λ split.
                let p = tells.with_parts split in
                let w = width_of (byte_at bs i) in
                let a : length_at (set ts at n) (i + w) ≡ length_at ts (i + w) = get_or-set_other ts at (i + w) n 0 (λ same. omega arith) in
                let b : length_at (set ts at n) (i + w + length_at (set ts at n) (i + w)) ≡ length_at ts (i + w + length_at ts (i + w)) = get_or-set_other ts at (i + w + length_at (set ts at n) (i + w)) n 0 (λ same. omega arith) ∙ ap (λ k. length_at ts (i + w + k)) a in
                record { first = omega (arith, p.first); second = omega (arith, p.second); all = omega (arith, p.all) };
          }

      by_place : (b : Bool) → eqb at' at ≡ b → Tells bs (set ts at n) at' (length_at (set ts at n) at')
      by_place true is =
          let here : at' ≡ at = eqb-true at' at is in
          let put : length_at (set ts at n) at' ≡ n = ap (length_at (set ts at n)) here ∙ get_or-set_same ts at n 0 there in
          rw put (rw here (stays at n (omega arith) (now (omega arith))))
      by_place false is =
          let other = eqb-false at' at is in
          let kept : length_at (set ts at n) at' ≡ length_at ts at' = get_or-set_other ts at at' n 0 other in
          rw kept (stays at' (length_at ts at') from (told at' (omega (arith, other)) (omega arith) (omega arith)))
