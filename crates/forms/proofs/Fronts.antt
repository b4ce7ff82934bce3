-- The command at the front of a form decides what the form is read as. Assumes nothing.
use Rattle.std.proofs.Common.{◌≡◌, ℕ, suc, ◌-◌, ◌<◌, ◌≤◌, List, [], ◌∷◌, ◌++◌, length, drop, sym, refl, ap, ◌∙◌, ap₂, subst, arith}
use Rattle.std.specs.List.{between}
use Rattle.std.proofs.lemmas.Slice.{between_to_end}
use Rattle.std.proofs.lemmas.List.{length-drop, append_cancel_left}
use Rattle.orc.specs.Expressions.{Expression, stop, pending, bytes}
use Rattle.formats.specs.Operands.{byte_at}
use Rattle.formats.specs.Widths.{width_of}
use Rattle.forms.specs.Reading.{Opening, alone, of_two, no_form, opened, opening, continued, read, expression_of}
use Rattle.forms.specs.Shapes.{WholeCommand}
use Rattle.forms.specs.declared.pending.Pending.{Pending}
use Rattle.forms.specs.Pendings.{pending_of, call_at}
use Rattle.forms.specs.Heads.{IsForm, TwoParts}
use Rattle.forms.proofs.Counting.{wide}
use Rattle.forms.proofs.Openings.{Begins, with_none, with_alone, with_two, begins_with, opening_whole}
use Rattle.forms.proofs.Lenient.{step}

-- as many levels as there are bytes are one and the rest
first_step : (bs : List ℕ) {o : Opening} → opening bs ≡ o → 0 < length bs → expression_of bs ≡ (continued o (drop (width_of (byte_at bs 0)) bs) (λ l. read (length bs - 1) l)).expression
unfolding expression_of
first_step bs is some = let same : length bs ≡ suc (length bs - 1) = omega arith in ap (λ k. (read k bs).expression) same ∙ ap (λ r. r.expression) (step (length bs - 1) bs is)

none_whole : (bs : List ℕ) → (WholeCommand bs 0 → ⊥) → Begins bs → opening bs ≡ no_form
none_whole bs none (with_none is _) = is
none_whole bs none (with_alone _ _ command whole _) = absurd (none (record { of_a_form = command; whole = omega arith }))
none_whole bs none (with_two _ _ command whole _) = absurd (none (record { of_a_form = command; whole = omega arith }))

nothing_read : (bs : List ℕ) → opening bs ≡ no_form → stop ≡ expression_of bs
unfolding expression_of read
nothing_read [] is = refl
nothing_read (b ∷ bs) is = sym (first_step (b ∷ bs) is (omega arith))

pub headed_none : (bs : List ℕ) → (WholeCommand bs 0 → ⊥) → stop ≡ expression_of bs
headed_none bs none = nothing_read bs (none_whole bs none (begins_with bs))

-- the bytes in front of the parts
pub one_in_front : (bs : List ℕ) (b : ℕ) → byte_at bs 0 ≡ b → 1 ≤ length bs → bs ≡ b ∷ drop 1 bs
one_in_front [] b is some = absurd (omega arith)
one_in_front (x ∷ bs) b is some = cc

pub two_in_front : (bs : List ℕ) (b : ℕ) → byte_at bs 0 ≡ b → 2 ≤ length bs → bs ≡ b ∷ byte_at bs 1 ∷ drop 2 bs
two_in_front [] b is some = absurd (omega arith)
two_in_front (x ∷ []) b is some = absurd (omega arith)
two_in_front (x ∷ y ∷ bs) b is some = cc

-- two parts of a form are forms, whatever it is made by; o are the bytes in front of them
pub both_are_forms : (bs o : List ℕ) {t l r : List ℕ} (make : Expression → Expression → Expression) → ((f g : Expression) → bytes (make f g) ≡ o ++ (bytes f ++ bytes g))
    → bs ≡ o ++ t → make (expression_of l) (expression_of r) ≡ expression_of bs → TwoParts t l r → IsForm bs → IsForm l × IsForm r
both_are_forms bs o {t} {l} {r} make written there headed both form =
    let f = expression_of l in
    let g = expression_of r in
    let parts : t ≡ bytes f ++ bytes g = append_cancel_left o t (bytes f ++ bytes g) (sym there ∙ sym form ∙ ap bytes (sym headed) ∙ written f g) in
    let same = both.exact f g parts in
    (sym same.0, sym same.1)

module _ (bs : List ℕ) (whole : WholeCommand bs 0) (b : ℕ) (is : byte_at bs 0 ≡ b) where
  some_bytes : 0 < length bs
  some_bytes = omega (arith, wide (byte_at bs 0) whole.of_a_form, whole.whole)

  pub reaches : width_of b ≤ length bs
  reaches = omega (arith, whole.whole, ap width_of is)

  opening_is : opening bs ≡ opened b bs
  opening_is = opening_whole bs b is (omega (arith, whole.whole))

  pub headed_alone : (e : Expression) → opened b bs ≡ alone e → e ≡ expression_of bs
  headed_alone e made = sym (first_step bs (opening_is ∙ made) some_bytes)

  pub headed_pending : b ≡ 6 → (p : Pending) → pending_of p ≡ call_at bs 0 → pending p.ticket p.site p.value p.clock ≡ expression_of bs
  headed_pending six p there = ap (λ q. pending q.ticket q.site q.argument q.since) there ∙ headed_alone _ (ap (λ n. opened n bs) six)

  -- what stands behind the command
  abbrev Behind : List ℕ → List ℕ → Type 0
  Behind l r = TwoParts (drop (width_of b) bs) l r

  pub headed_two : (make : Expression → Expression → Expression) → opened b bs ≡ of_two make → {l r : List ℕ} → Behind l r → make (expression_of l) (expression_of r) ≡ expression_of bs
  headed_two make made {l} {r} parts =
      let some = wide (byte_at bs 0) whole.of_a_form in
      let behind = drop (width_of b) bs in
      let k = length bs - 1 in
      let enough : length behind ≤ k = simp length-drop (omega (arith, some_bytes, ap width_of is)) in
      let left = parts.left_read k enough in
      let right = parts.right_read k enough in
      sym (first_step bs (opening_is ∙ made) some_bytes ∙ ap (λ n. (continued (of_two make) (drop (width_of n) bs) (λ l. read k l)).expression) is ∙ ap₂ make left right)

  -- the parts of a form are forms; o are the bytes in front of them
  pub parts_are_forms : (o : List ℕ) {l r : List ℕ} (make : Expression → Expression → Expression) → opened b bs ≡ of_two make → ((f g : Expression) → bytes (make f g) ≡ o ++ (bytes f ++ bytes g))
      → bs ≡ o ++ drop (width_of b) bs → Behind l r → IsForm bs → IsForm l × IsForm r
  parts_are_forms o make made written there parts form = both_are_forms bs o make written there (headed_two make made parts) parts form
