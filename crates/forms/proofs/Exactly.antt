-- The bytes of an expression have the shape of a form, which ends where they end, and its commands are as an expression has
-- them. Assumes nothing.
use Rattle.std.proofs.Common.{◌≡◌, ℕ, suc, ◌+◌, ◌≤◌, true, false, List, ◌∷◌, ◌++◌, length, drop, sym, refl, ◌∙◌, subst, append_assoc, arith}
use Rattle.std.proofs.lemmas.List.{length-append, drop_at}
use Rattle.std.proofs.lemmas.Bool.{true≢false}
use Rattle.orc.specs.Expressions.{Parameter, value, variable, Expression, stop, site_call, definition_call, parallel, sequential, pruning, pending, mark, bytes}
use Rattle.formats.specs.Operands.{byte_at}
use Rattle.formats.specs.Widths.{width_of}
use Rattle.forms.specs.Shapes.{has_parts, has_parameter, FormBy, FormAt, without_parts, with_parts, ExactCommand}
use Rattle.formats.proofs.Left.{byte_left, length_left, drop_left, first_left}

-- a form by a rule is one by any looser rule
pub loosened : {Rule Rule' : ℕ → Type 0} {bs : List ℕ} → ((at : ℕ) → Rule at → Rule' at) → {at end : ℕ} → FormBy Rule bs at end → FormBy Rule' bs at end
loosened looser (without_parts {at} stands leaf is) = without_parts (looser at stands) leaf is
loosened looser (with_parts {at} stands split f g) = with_parts (looser at stands) split (loosened looser f) (loosened looser g)

marks_fit : (p : Parameter) → mark p ≤ 1
marks_fit (value v) = omega arith
marks_fit (variable x) = omega arith

module _ (bs : List ℕ) where
  abbrev Exact : ℕ → ℕ → Type 0
  Exact at end = FormBy (ExactCommand bs) bs at end

  module _ (at : ℕ) {b : ℕ} {l : List ℕ} (left : drop at bs ≡ b ∷ l) (command : b ≤ 6) (all : width_of b ≤ suc (length l)) (marked : has_parameter b ≡ true → byte_at bs (at + 2) ≤ 1) where
    exact_there : ExactCommand bs at
    exact_there =
        let here = first_left bs at left in
        let long = length_left bs at left in
        record { command = record { of_a_form = omega arith; whole = rw here (omega arith) }; marked = λ is. marked (rw here at is) }

    leaf_there : has_parts b ≡ false → Exact at (at + width_of b)
    leaf_there is = let here = first_left bs at left in without_parts exact_there (rw here is) (rw here)

    split_there : has_parts b ≡ true → {middle end : ℕ} → Exact (at + width_of b) middle → Exact middle end → Exact at end
    split_there is f g = let here = first_left bs at left in with_parts exact_there (rw here is) (rw here f) g

  -- a command without a parameter has no mark
  no_mark : (b at : ℕ) → has_parameter b ≡ false → has_parameter b ≡ true → byte_at bs (at + 2) ≤ 1
  no_mark b at none is = absurd (true≢false (sym is ∙ none))

  -- a list stands as a form wherever it stands
  abbrev FormOf : List ℕ → Type 0
  FormOf l = (at : ℕ) (rest : List ℕ) → drop at bs ≡ l ++ rest → Exact at (at + length l)

  -- two forms behind a command
  both_there : (f g : List ℕ) → FormOf f → FormOf g → (at : ℕ) {b : ℕ} {l : List ℕ} (rest : List ℕ) → drop at bs ≡ b ∷ l → b ≤ 6 → width_of b ≤ suc (length l) → has_parameter b ≡ false → has_parts b ≡ true
      → drop (at + width_of b) bs ≡ (f ++ g) ++ rest → Exact at (at + width_of b + length (f ++ g))
  both_there f g form-f form-g at {b} rest left command all unmarked is behind =
      let first : drop (at + width_of b) bs ≡ f ++ (g ++ rest) = behind ∙ append_assoc f g rest in
      let second : drop (at + width_of b + length f) bs ≡ g ++ rest = drop_left bs (at + width_of b) first (length f) ∙ drop_at f (g ++ rest) (length f) refl in
      let end : at + width_of b + length f + length g ≡ at + width_of b + length (f ++ g) = simp length-append (omega arith) in
      subst (Exact at) end (split_there at left command all (no_mark b at unmarked) is (form-f (at + width_of b) (g ++ rest) first) (form-g (at + width_of b + length f) rest second))

  pub exact_shape : (e : Expression) → FormOf (bytes e)
  unfolding bytes
  exact_shape stop at rest left = leaf_there at left (omega arith) (omega arith) (no_mark 0 at refl) refl
  exact_shape (site_call s p) at rest left = leaf_there at left (omega arith) (omega arith) (λ _. rw (byte_left bs at left 2) (marks_fit p)) refl
  exact_shape (definition_call i p) at rest left = leaf_there at left (omega arith) (omega arith) (λ _. rw (byte_left bs at left 2) (marks_fit p)) refl
  exact_shape (parallel f g) at rest left =
      subst (Exact at) (omega arith) (both_there (bytes f) (bytes g) (λ n r. exact_shape f n r) (λ n r. exact_shape g n r) at rest left (omega arith) (omega arith) refl refl (drop_left bs at left 1))
  exact_shape (sequential x f g) at rest left =
      subst (Exact at) (omega arith) (both_there (bytes f) (bytes g) (λ n r. exact_shape f n r) (λ n r. exact_shape g n r) at rest left (omega arith) (omega arith) refl refl (drop_left bs at left 2))
  exact_shape (pruning x f g) at rest left =
      subst (Exact at) (omega arith) (both_there (bytes f) (bytes g) (λ n r. exact_shape f n r) (λ n r. exact_shape g n r) at rest left (omega arith) (omega arith) refl refl (drop_left bs at left 2))
  exact_shape (pending k s v c) at rest left = leaf_there at left (omega arith) (omega arith) (no_mark 6 at refl) refl

  pub shape : (e : Expression) (at : ℕ) (rest : List ℕ) → drop at bs ≡ bytes e ++ rest → FormAt bs at (at + length (bytes e))
  shape e at rest left = loosened (λ at exact. exact.command) (exact_shape e at rest left)
