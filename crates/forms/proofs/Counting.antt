-- Forms in a row, counted as a scan meets their commands. Assumes nothing.
use Rattle.std.proofs.Common.{◌≡◌, ℕ, ◌+◌, ◌-◌, ◌<◌, ◌≤◌, true, false, List, sym, refl, ap, ◌∙◌, subst, subst₂, arith}
use Rattle.std.proofs.lemmas.Bool.{true≢false}
use Rattle.std.proofs.lemmas.Bool.Decides.{nat_tests}
use Rattle.formats.specs.Operands.{byte_at}
use Rattle.formats.specs.Widths.{width_of}
use Rattle.forms.specs.Shapes.{has_parts, WholeCommand, FormBy, without_parts, with_parts}

-- from an offset up to another stand k forms by a rule
pub data Row (Rule : ℕ → Type 0) (bs : List ℕ) : ℕ → ℕ → ℕ → Type 0 where
  none : {k at end : ℕ} → k ≡ 0 → end ≡ at → Row Rule bs k at end
  more : {k j at middle end : ℕ} → k ≡ j + 1 → FormBy Rule bs at middle → Row Rule bs j middle end → Row Rule bs k at end

module _ {Rule : ℕ → Type 0} {bs : List ℕ} where
  -- one command on: a command without parts ends a form, one with parts opens one more
  pub over_alone : {k j at end : ℕ} → k ≡ j + 1 → Rule at → has_parts (byte_at bs at) ≡ false → Row Rule bs j (at + width_of (byte_at bs at)) end → Row Rule bs k at end
  over_alone one whole is row = more one (without_parts whole is refl) row

  over_two : {k j at end : ℕ} → k + 1 ≡ j + 1 → Rule at → has_parts (byte_at bs at) ≡ true → {middle : ℕ} → FormBy Rule bs (at + width_of (byte_at bs at)) middle → 0 < k → Row Rule bs j middle end → Row Rule bs k at end
  over_two one whole is left some (none zero _) = absurd (omega arith)
  over_two one whole is left some (more again right row) = more (omega arith) (with_parts whole is left right) row

  pub over_split : {k at end : ℕ} → 0 < k → Rule at → has_parts (byte_at bs at) ≡ true → Row Rule bs (k + 1) (at + width_of (byte_at bs at)) end → Row Rule bs k at end
  over_split some whole is (none zero _) = absurd (omega arith)
  over_split some whole is (more one left row) = over_two one whole is left some row

  moved : {j k at at' end : ℕ} → j ≡ k → at ≡ at' → Row Rule bs j at end → Row Rule bs k at' end
  moved {end} p q row = subst₂ (λ (k at : ℕ). Row Rule bs k at end) p q row

  -- and what such a row has to begin with
  pub begins : {k at end : ℕ} → 0 < k → Row Rule bs k at end → Rule at
  begins some (none zero _) = absurd (omega arith)
  begins some (more _ (without_parts whole _ _) _) = whole
  begins some (more _ (with_parts whole _ _ _) _) = whole

  pub behind_alone : {k at end : ℕ} → 0 < k → has_parts (byte_at bs at) ≡ false → Row Rule bs k at end → Row Rule bs (k - 1) (at + width_of (byte_at bs at)) end
  behind_alone some is (none zero _) = absurd (omega arith)
  behind_alone some is (more one (without_parts _ _ here) row) = moved (omega (arith, one)) here row
  behind_alone some is (more _ (with_parts _ split _ _) _) = absurd (true≢false (sym split ∙ is))

  pub behind_split : {k at end : ℕ} → 0 < k → has_parts (byte_at bs at) ≡ true → Row Rule bs k at end → Row Rule bs (k + 1) (at + width_of (byte_at bs at)) end
  behind_split some is (none zero _) = absurd (omega arith)
  behind_split some is (more _ (without_parts _ leaf _) _) = absurd (true≢false (sym is ∙ leaf))
  behind_split some is (more one (with_parts _ _ left right) row) = more refl left (more one right row)

  -- one form, and none
  pub one_in_row : {at end : ℕ} → FormBy Rule bs at end → Row Rule bs 1 at end
  one_in_row form = more refl form (none refl refl)

  at_its_end : {j at end : ℕ} → 1 ≡ j + 1 → {start : ℕ} → FormBy Rule bs start at → Row Rule bs j at end → FormBy Rule bs start end
  at_its_end one {start} form (none _ here) = subst (λ (n : ℕ). FormBy Rule bs start n) (sym here) form
  at_its_end one form (more some _ _) = absurd (omega arith)

  pub one_of_row : {at end : ℕ} → Row Rule bs 1 at end → FormBy Rule bs at end
  one_of_row (none zero _) = absurd (omega (arith, zero))
  one_of_row (more one form row) = at_its_end one form row

  pub row_ends : {k at end : ℕ} → k ≡ 0 → Row Rule bs k at end → end ≡ at
  row_ends empty (none _ here) = here
  row_ends empty (more one _ _) = absurd (omega arith)

-- a command of a form has at least its own byte
pub wide : (b : ℕ) → b ≤ 6 → 0 < width_of b
wide b command = grind (arith, nat_tests)

-- A scan for the end of the form at an offset has come to a second offset, and as many forms in a row are yet to come as are
-- open: the form ends where they end.
pub record Scan (Rule : ℕ → Type 0) (bs : List ℕ) (at open-forms end : ℕ) : Type 0 where
  pub few : at + open-forms ≤ end + 1
  pub ends_there : (e : ℕ) → Row Rule bs open-forms end e → FormBy Rule bs at e
  pub only_there : (e : ℕ) → FormBy Rule bs at e → Row Rule bs open-forms end e

module _ {Rule : ℕ → Type 0} {bs : List ℕ} {at : ℕ} where
  pub starts : Scan Rule bs at 1 at
  starts = record { few = omega arith; ends_there = λ e row. one_of_row row; only_there = λ e form. one_in_row form }

  module _ {n end : ℕ} (scan : Scan Rule bs at n end) where
    pub done : n ≡ 0 → FormBy Rule bs at end × ((e : ℕ) → FormBy Rule bs at e → end ≡ e)
    done empty = (scan.ends_there end (none empty refl), λ e form. sym (row_ends empty (scan.only_there e form)))

    module _ (some : 0 < n) where
      pub nowhere : (Rule end → ⊥) → (e : ℕ) → FormBy Rule bs at e → ⊥
      nowhere missing e form = missing (begins some (scan.only_there e form))

      module _ (b w : ℕ) (here : b ≡ byte_at bs end) (stands : Rule end) (whole : WholeCommand bs end) (width : w ≡ width_of b) where
        same_width : w ≡ width_of (byte_at bs end)
        same_width = width ∙ ap width_of here

        pub passes_split : has_parts b ≡ true → Scan Rule bs at (n + 1) (end + w)
        passes_split is =
            let parts : has_parts (byte_at bs end) ≡ true = rw here at is in
            let wide = wide (byte_at bs end) whole.of_a_form in
            let few = scan.few in
            record {
              few = omega (arith, same_width);
              ends_there = λ e row. scan.ends_there e (over_split some stands parts (rw same_width at row));
              only_there = λ e form. rw same_width (behind_split some parts (scan.only_there e form));
            }

        pub passes_alone : has_parts b ≡ false → Scan Rule bs at (n - 1) (end + w)
        passes_alone is =
            let parts : has_parts (byte_at bs end) ≡ false = rw here at is in
            let wide = wide (byte_at bs end) whole.of_a_form in
            let few = scan.few in
            record {
              few = omega (arith, same_width);
              ends_there = λ e row. scan.ends_there e (over_alone (omega arith) stands parts (rw same_width at row));
              only_there = λ e form. rw same_width (behind_alone some parts (scan.only_there e form));
            }
