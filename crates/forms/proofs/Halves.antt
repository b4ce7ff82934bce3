-- The two parts of a form, as reading takes them. Assumes nothing.
use Rattle.std.proofs.Common.{◌≡◌, ℕ, ◌+◌, ◌-◌, ◌≤◌, List, [], ◌++◌, length, take, drop, sym, refl, ap, ◌∙◌, subst, inl, inr, arith, Option, Some, None, IfSome, MatchOption, unwrap_or}
use Rattle.std.specs.List.{between}
use Rattle.std.proofs.lemmas.List.{length-append, drop-drop, drop_all, drop_at, take_at, take-append-drop}
use Rattle.std.proofs.lemmas.Slice.{between_to_end}
use Rattle.std.proofs.lemmas.Bool.{true≢false}
use Rattle.orc.specs.Expressions.{bytes, size}
use Rattle.forms.specs.Reading.{read, expression_of}
use Rattle.forms.specs.Shapes.{FormAt, without_parts, with_parts}
use Rattle.forms.specs.Heads.{TwoParts}
use Rattle.formats.proofs.Left.{drop_left}
use Rattle.forms.proofs.Exactly.{shape}
use Rattle.forms.proofs.Lenient.{read_as, read_enough, form_reads, left_over}
use Rattle.forms.proofs.ReadBack.{read_alone}

-- a form ends in one place
pub ends_once : {bs : List ℕ} {at end end' : ℕ} → FormAt bs at end → FormAt bs at end' → end ≡ end'
ends_once (without_parts _ _ is) (without_parts _ _ is') = is ∙ sym is'
ends_once (without_parts _ leaf _) (with_parts _ split _ _) = absurd (true≢false (sym split ∙ leaf))
ends_once (with_parts _ split _ _) (without_parts _ leaf _) = absurd (true≢false (sym split ∙ leaf))
ends_once {bs} {end'} (with_parts _ _ f g) (with_parts _ _ f' g') = let same = ends_once f f' in ends_once g (subst (λ (n : ℕ). FormAt bs n end') (sym same) g')

-- enough is as many as there are bytes
read_all : (k : ℕ) (l : List ℕ) → length l ≤ k → (read k l).expression ≡ expression_of l
unfolding expression_of
read_all k l enough = ap (λ r. r.expression) (read_enough k (length l) l enough (omega arith))

module _ (bs : List ℕ) (at end : ℕ) (first : at ≤ end) (last : end ≤ length bs) where
  split_there : drop at bs ≡ between at end bs ++ drop end bs
  split_there =
      let there : at + (end - at) ≡ end = omega arith in
      sym (take-append-drop (end - at) (drop at bs)) ∙ ap (λ l. between at end bs ++ l) (drop-drop (end - at) at bs ∙ ap (λ n. drop n bs) there)

  behind_a_form : FormAt bs at end → TwoParts (drop at bs) (between at end bs) (drop end bs)
  behind_a_form form =
      let there = form_reads bs form in
      let lengths : length (drop at bs) ≡ length (between at end bs) + length (drop end bs) = ap length split_there ∙ length-append (between at end bs) (drop end bs) in
      let both : (k : ℕ) → length (drop at bs) ≤ k → read k (drop at bs) ≡ read_as there.expression (drop end bs)
      = λ k enough. ap (read k) split_there ∙ there.reads k (drop end bs) (omega arith) in
      record {
        together = split_there;
        left_read = λ k enough. ap (λ r. r.expression) (both k enough) ∙ sym (read_alone (between at end bs) there.reads);
        right_read = λ k enough. ap (λ r. (read k r.rest).expression) (both k enough) ∙ read_all k (drop end bs) (omega arith);
        exact = λ f g is.
            let same = ends_once form (shape bs f at (bytes g) is) in
            let wide : length (bytes f) ≡ end - at = omega arith in
            (ap (take (end - at)) is ∙ take_at (bytes f) (bytes g) (end - at) wide, ap (λ n. drop n bs) same ∙ drop_left bs at is (length (bytes f)) ∙ drop_at (bytes f) (bytes g) (length (bytes f)) refl);
      }

  behind_all_bytes : ((e : ℕ) → FormAt bs at e → ⊥) → end ≡ length bs → TwoParts (drop at bs) (between at end bs) (drop end bs)
  behind_all_bytes none is =
      let nothing : drop end bs ≡ [] = drop_all end bs (omega arith) in
      let everything : between at end bs ≡ drop at bs = between_to_end bs at end (omega arith) in
      record {
        together = split_there;
        left_read = λ k enough. read_all k (drop at bs) enough ∙ ap expression_of (sym everything);
        right_read = λ k enough.
            elim (left_over bs k at) [
              | inl (e, form, _) ↦ absurd (none e form)
              | inr left ↦ ap (λ l. (read k l).expression) left ∙ read_all k [] (omega arith) ∙ ap expression_of (sym nothing)
            ];
        exact = λ f g is. absurd (none _ (shape bs f at (bytes g) is));
      }

from_start : (bs : List ℕ) (end : ℕ) → TwoParts bs (between 0 end bs) (drop end bs) → TwoParts bs (take end bs) (drop end bs)
from_start bs end both = let whole : end - 0 ≡ end = omega arith in subst (λ (n : ℕ). TwoParts bs (take n bs) (drop end bs)) whole both

-- The bytes behind a command, if a form that begins there ends at o.
pub two_parts : (bs : List ℕ) (o : Option ℕ) → IfSome o (λ end. FormAt bs 0 end) → ((end : ℕ) → FormAt bs 0 end → o ≡ Some end)
    → TwoParts bs (take (unwrap_or o (length bs)) bs) (drop (unwrap_or o (length bs)) bs)
two_parts bs None found only = from_start bs (length bs) (behind_all_bytes bs 0 (length bs) (omega arith) (omega arith) (λ e form. cc (only e form)) refl)
two_parts bs (Some end) form only = from_start bs end (behind_a_form bs 0 end (omega arith) (form_reads bs form).within form)

-- It ends there or earlier.
pub ends_within : (bs : List ℕ) (o : Option ℕ) → IfSome o (λ end. FormAt bs 0 end) → unwrap_or o (length bs) ≤ length bs
ends_within bs None found = omega arith
ends_within bs (Some end) form = (form_reads bs form).within

-- What is read is as long as the form at the front.
pub size_read : (bs : List ℕ) (n : ℕ) → FormAt bs 0 n → size (expression_of bs) ≡ n
unfolding expression_of
size_read bs n form =
    let there = form_reads bs form in
    let lengths : length bs ≡ length (between 0 n bs) + length (drop n bs) = ap length (split_there bs 0 n (omega arith) there.within) ∙ length-append (between 0 n bs) (drop n bs) in
    let whole : read (length bs) bs ≡ read_as there.expression (drop n bs)
    = ap (read (length bs)) (split_there bs 0 n (omega arith) there.within) ∙ there.reads (length bs) (drop n bs) (omega arith) in
    ap (λ r. size r.expression) whole ∙ omega (arith, there.sized)

pub size_there : (bs : List ℕ) (o : Option ℕ) → IfSome o (λ end. FormAt bs 0 end) → ((end : ℕ) → FormAt bs 0 end → o ≡ Some end)
    → MatchOption o ((n : ℕ) → FormAt bs 0 n → ⊥) (λ n. FormAt bs 0 n × (size (expression_of bs) ≡ n))
size_there bs None found only = λ n form. cc (only n form)
size_there bs (Some n) form only = (form, size_read bs n form)
