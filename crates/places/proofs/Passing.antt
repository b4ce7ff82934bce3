-- What stands behind a form that is read, and what is due in the form by what it begins with. Assumes nothing.
use Rattle.std.proofs.Common.{◌≡◌, ℕ, suc, ◌+◌, ◌-◌, ◌<◌, ◌≤◌, cond, ltb, List, [], ◌∷◌, ◌++◌, length, take, drop, Some, None, Option, IfSome, unwrap_or, inl, inr, sym, refl, ap, ◌∙◌, arith}
use Rattle.std.specs.List.{between}
use Rattle.std.proofs.lemmas.Bool.{le-ltb}
use Rattle.std.proofs.lemmas.List.{length-drop, drop_all, take-append-drop, length-take-le}
use Rattle.orc.specs.Expressions.{Parameter, value, variable, Expression, stop, site_call, definition_call, parallel, sequential, pruning, size}
use Rattle.orc.specs.Calls.{ready, due_count}
use Rattle.formats.specs.Operands.{byte_at}
use Rattle.formats.specs.Widths.{width_of}
use Rattle.forms.specs.Reading.{Opening, alone, of_two, no_form, parameter_at, opened, opening, continued, read, expression_of}
use Rattle.forms.specs.Shapes.{WholeCommand, FormAt}
use Rattle.forms.proofs.Counting.{wide}
use Rattle.forms.proofs.Openings.{Begins, with_none, with_alone, with_two, begins_with, opening_whole}
use Rattle.forms.proofs.Lenient.{step, read_as, read_empty, read_enough, form_reads, left_over}
use Rattle.forms.proofs.Halves.{size_read}
use Rattle.places.specs.Places.{later, due_place}
use Rattle.places.specs.Passing.{rest_of, DueHere, DueInBoth, DueInFirst}

module _ (l : List ℕ) where
  pub rest_within : length (rest_of l) ≤ length l
  rest_within =
      elim (left_over l (length l) 0) [
        | inl (end, form, left) ↦ let there = form_reads l form in rw left (omega (arith, length-drop end l))
        | inr nothing ↦ rw nothing (omega arith)
      ]

  -- where something is left behind a form, the form is whole
  pub size_before : 0 < length (rest_of l) → size (expression_of l) + length (rest_of l) ≡ length l
  size_before some =
      elim (left_over l (length l) 0) [
        | inl (end, form, left) ↦ let there = (form_reads l form).within in omega (arith, size_read l end form, ap length left, length-drop end l)
        | inr nothing ↦ absurd (omega (arith, ap length nothing))
      ]

  behind_it : (end : ℕ) → FormAt l 0 end → drop end l ≡ rest_of l
  behind_it end form =
      let there = form_reads l form in
      let front : between 0 end l ≡ take end l = let all : end - 0 ≡ end = omega arith in ap (λ n. take n l) all in
      let together : l ≡ between 0 end l ++ drop end l = sym (take-append-drop end l) ∙ ap (λ f. f ++ drop end l) (sym front) in
      let whole : read (length l) l ≡ read_as there.expression (drop end l)
      = ap (read (length l)) together ∙ there.reads (length l) (drop end l) (rw front (omega (arith, length-take-le end l there.within, there.within))) in
      sym (ap (λ r. r.rest) whole)

  -- what a scan for the end of the form comes to
  pub rest_told : (o : Option ℕ) → IfSome o (λ end. FormAt l 0 end) → ((end : ℕ) → FormAt l 0 end → o ≡ Some end) → drop (unwrap_or o (length l)) l ≡ rest_of l
  rest_told None found only =
      elim (left_over l (length l) 0) [
        | inl (end, form, _) ↦ absurd (cc (only end form))
        | inr nothing ↦ drop_all (length l) l (omega arith) ∙ sym nothing
      ]
  rest_told (Some end) form only = behind_it end form

  first_read : {o : Opening} → opening l ≡ o → 0 < length l → read (length l) l ≡ continued o (drop (width_of (byte_at l 0)) l) (λ l'. read (length l - 1) l')
  first_read is some = let same : length l ≡ suc (length l - 1) = omega arith in ap (λ k. read k l) same ∙ step (length l - 1) l is

  -- bytes that begin with no whole command
  nothing_read : (l' : List ℕ) → l' ≡ l → opening l ≡ no_form → read (length l) l ≡ read_as stop []
  nothing_read [] same is = rw (sym same) (read_empty 0)
  nothing_read (b ∷ l') same is = let long : suc (length l') ≡ length l = ap length same in first_read is (omega arith)

  no_command : (WholeCommand l 0 → ⊥) → Begins l → opening l ≡ no_form
  no_command none (with_none is _) = is
  no_command none (with_alone _ _ command whole _) = absurd (none (record { of_a_form = command; whole = omega arith }))
  no_command none (with_two _ _ command whole _) = absurd (none (record { of_a_form = command; whole = omega arith }))

-- what is read from some bytes without parts, and m calls due in it
module _ (bs : List ℕ) (e : Expression) (m : ℕ) (rest : List ℕ) (is : read (length bs) bs ≡ read_as e rest) (count : due_count e ≡ m) (place : (n : ℕ) → due_place n e ≡ cond (ltb n m) (Some 0) None) where
  pub due_here : m + length rest ≤ length bs → DueHere bs m rest
  unfolding expression_of
  due_here few =
      let same : expression_of bs ≡ e = ap (λ r. r.expression) is in
      record {
        count = ap due_count same ∙ count;
        place = λ n. ap (due_place n) same ∙ place n;
        behind = ap (λ r. r.rest) is;
        few = few;
      }

none_at : (n : ℕ) → ◌≡◌ {A = Option ℕ} None (cond (ltb n 0) (Some 0) None)
none_at n = rw (le-ltb n 0 (omega arith))

pub nothing_due : (bs : List ℕ) → (WholeCommand bs 0 → ⊥) → DueHere bs 0 []
unfolding due_count due_place
nothing_due bs none = due_here bs stop 0 [] (nothing_read bs bs refl (no_command bs none (begins_with bs))) refl (λ n. none_at n) (omega arith)

module _ (bs : List ℕ) (whole : WholeCommand bs 0) (b : ℕ) (is : byte_at bs 0 ≡ b) where
  some_bytes : 0 < width_of b
  some_bytes = omega (arith, wide (byte_at bs 0) whole.of_a_form, ap width_of is)

  pub reaches : width_of b ≤ length bs
  reaches = omega (arith, whole.whole, ap width_of is)

  abbrev behind : List ℕ
  behind = drop (width_of b) bs

  long : length behind + width_of b ≡ length bs
  long = omega (arith, length-drop (width_of b) bs, reaches)

  opening_is : opening bs ≡ opened b bs
  opening_is = opening_whole bs b is (omega (arith, whole.whole))

  there : drop (width_of (byte_at bs 0)) bs ≡ behind
  there = ap (λ n. drop (width_of n) bs) is

  alone_read : (e : Expression) → opened b bs ≡ alone e → read (length bs) bs ≡ read_as e behind
  alone_read e made = first_read bs (opening_is ∙ made) (omega (arith, some_bytes, reaches)) ∙ ap (read_as e) there

  two_read : (make : Expression → Expression → Expression) → opened b bs ≡ of_two make → read (length bs) bs ≡ read_as (make (expression_of behind) (expression_of (rest_of behind))) (rest_of (rest_of behind))
  unfolding expression_of
  two_read make made =
      let k = length bs - 1 in
      let short : length behind ≤ k = omega (arith, long, some_bytes) in
      let left : read k behind ≡ read (length behind) behind = read_enough k (length behind) behind short (omega arith) in
      let right : read k (rest_of behind) ≡ read (length (rest_of behind)) (rest_of behind) = read_enough k (length (rest_of behind)) (rest_of behind) (omega (arith, short, rest_within behind)) (omega arith) in
      first_read bs (opening_is ∙ made) (omega (arith, some_bytes, reaches)) ∙ (cc)

  alone_due : (e : Expression) → opened b bs ≡ alone e → (m : ℕ) → due_count e ≡ m → ((n : ℕ) → due_place n e ≡ cond (ltb n m) (Some 0) None) → m ≤ 1 → DueHere bs m behind
  alone_due e made m count place few = due_here bs e m behind (alone_read e made) count place (omega (arith, long, some_bytes))

  -- two parts of which the calls of both are due, or of the first alone
  module _ (make : Expression → Expression → Expression) (made : opened b bs ≡ of_two make) where
    wide_part : length bs - length behind ≡ width_of b
    wide_part = omega (arith, long)

    two_is : expression_of bs ≡ make (expression_of behind) (expression_of (rest_of behind))
    unfolding expression_of
    two_is = ap (λ r. r.expression) (two_read make made)

    pub both_due : ((f g : Expression) → due_count (make f g) ≡ due_count f + due_count g)
        → ((n : ℕ) (f g : Expression) → due_place n (make f g) ≡ cond (ltb n (due_count f)) (later (width_of b) (due_place n f)) (later (width_of b + size f) (due_place (n - due_count f) g)))
        → DueInBoth bs behind
    both_due count place =
        record {
          shorter = omega (arith, long, some_bytes);
          count = ap due_count two_is ∙ count _ _;
          place = λ n. ap (due_place n) two_is ∙ (rw wide_part (place n _ _));
          behind = ap (λ r. r.rest) (two_read make made);
        }

    pub first_due : ((f g : Expression) → due_count (make f g) ≡ due_count f) → ((n : ℕ) (f g : Expression) → due_place n (make f g) ≡ later (width_of b) (due_place n f)) → DueInFirst bs behind
    first_due count place =
        record {
          shorter = omega (arith, long, some_bytes);
          count = ap due_count two_is ∙ count _ _;
          place = λ n. ap (due_place n) two_is ∙ (rw wide_part (place n _ _));
          behind = ap (λ r. r.rest) (two_read make made);
        }

at_most_one : (p : Parameter) → ready p ≤ 1
at_most_one (value v) = omega arith
at_most_one (variable x) = omega arith

-- by the command at the front
module _ (bs : List ℕ) (whole : WholeCommand bs 0) where
  pub stop_due : byte_at bs 0 ≡ 0 → DueHere bs 0 (drop 1 bs)
  unfolding due_count due_place
  stop_due is = alone_due bs whole 0 is stop refl 0 refl (λ n. none_at n) (omega arith)

  pub site_call_due : byte_at bs 0 ≡ 1 → DueHere bs (ready (parameter_at bs 2)) (drop 5 bs)
  unfolding due_count due_place
  site_call_due is = alone_due bs whole 1 is (site_call (byte_at bs 1) (parameter_at bs 2)) refl (ready (parameter_at bs 2)) refl (λ n. refl) (at_most_one (parameter_at bs 2))

  pub definition_call_due : byte_at bs 0 ≡ 2 → DueHere bs (ready (parameter_at bs 2)) (drop 5 bs)
  unfolding due_count due_place
  definition_call_due is = alone_due bs whole 2 is (definition_call (byte_at bs 1) (parameter_at bs 2)) refl (ready (parameter_at bs 2)) refl (λ n. refl) (at_most_one (parameter_at bs 2))

  pub parallel_due : byte_at bs 0 ≡ 3 → DueInBoth bs (drop 1 bs)
  unfolding due_count due_place
  parallel_due is = both_due bs whole 3 is parallel refl (λ f g. refl) (λ n f g. refl)

  pub sequential_due : byte_at bs 0 ≡ 4 → DueInFirst bs (drop 2 bs)
  unfolding due_count due_place
  sequential_due is = first_due bs whole 4 is (sequential (byte_at bs 1)) refl (λ f g. refl) (λ n f g. refl)

  pub pruning_due : byte_at bs 0 ≡ 5 → DueInBoth bs (drop 2 bs)
  unfolding due_count due_place
  pruning_due is = both_due bs whole 5 is (pruning (byte_at bs 1)) refl (λ f g. refl) (λ n f g. refl)

  pub pending_due : byte_at bs 0 ≡ 6 → DueHere bs 0 (drop 12 bs)
  unfolding due_count due_place
  pending_due is = alone_due bs whole 6 is _ refl 0 refl (λ n. none_at n) (omega arith)
