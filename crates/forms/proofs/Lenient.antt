-- How a list is read that may be no form: where its first form ends, and that no more of it counts. Assumes nothing.
use Rattle.std.proofs.Common.{◌≡◌, ℕ, zero, suc, ◌+◌, ◌-◌, ◌<◌, ◌≤◌, true, false, ◌⊎◌, List, [], ◌++◌, length, take, drop, sym, refl, ap, ◌∙◌, subst, subst₂, inl, inr, append_assoc, arith, take-add, Option, Some, None, IfSome}
use Rattle.std.specs.List.{between}
use Rattle.std.proofs.lemmas.List.{length-append, length-drop, drop-drop, get_or-drop, nil_from_length}
use Rattle.std.proofs.lemmas.Bool.{true≢false}
use Rattle.std.proofs.lemmas.List.Edits.{length-between, get_or-between}
use Rattle.orc.specs.Expressions.{Expression, stop, bytes, size}
use Rattle.formats.specs.Operands.{byte_at}
use Rattle.formats.specs.Widths.{width_of}
use Rattle.forms.specs.Reading.{Opening, alone, of_two, no_form, opened, opening, Read, continued, read}
use Rattle.forms.specs.Shapes.{has_parts, WholeCommand, FormAt, without_parts, with_parts}
use Rattle.forms.specs.Commands.{byte_of}
use Rattle.forms.specs.declared.command.Command.{Command as Named}
use Rattle.forms.specs.declared.command.Command.TheVariants.{Stop, SiteCall, DefinitionCall, Parallel, Sequential, Pruning, Pending}
use Rattle.forms.proofs.Naming.{command_of}
use Rattle.forms.proofs.Counting.{wide}
use Rattle.forms.proofs.Openings.{Begins, with_none, with_alone, with_two, begins_with, opening_whole, opening_front, behind_front}

abbrev behind : List ℕ → List ℕ
behind l = drop (width_of (byte_at l 0)) l

-- one step of reading, by what the list begins with
pub step : (k : ℕ) (l : List ℕ) {o : Opening} → opening l ≡ o → read (suc k) l ≡ continued o (behind l) (λ l. read k l)
unfolding read
step k l is = ap (λ o. continued o (behind l) (λ l. read k l)) is

-- what was read, as a value
abbrev pub read_as : Expression → List ℕ → Read
read_as e l = record { expression = e; rest = l }

step_alone : (k : ℕ) (l : List ℕ) {e : Expression} {t : List ℕ} → opening l ≡ alone e → behind l ≡ t → read (suc k) l ≡ read_as e t
step_alone k l {e} is there = step k l is ∙ ap (read_as e) there

both : (Expression → Expression → Expression) → Read → (List ℕ → Read) → Read
both make left part = read_as (make left.expression (part left.rest).expression) (part left.rest).rest

step_two : (k : ℕ) (l : List ℕ) {make : Expression → Expression → Expression} {t r r' : List ℕ} {left right : Expression}
    → opening l ≡ of_two make → behind l ≡ t → read k t ≡ read_as left r → read k r ≡ read_as right r' → read (suc k) l ≡ read_as (make left right) r'
unfolding both
step_two k l {make} {r} {left} is there first second =
    step k l is
    ∙ ap (λ t. both make (read k t) (λ l. read k l)) there
    ∙ ap (λ left. both make left (λ l. read k l)) first
    ∙ ap (λ right. read_as (make left right.expression) right.rest) second

behind_shorter : (l : List ℕ) → byte_at l 0 ≤ 6 → width_of (byte_at l 0) ≤ length l → length (behind l) < length l
behind_shorter l command whole = let some = wide (byte_at l 0) command in simp length-drop (omega arith)

-- what is left is no longer than what was there
rest_by_begin : (k : ℕ) (l : List ℕ) → ((l' : List ℕ) → length (read k l').rest ≤ length l') → Begins l → length (read (suc k) l).rest ≤ length l
rest_by_begin k l shorter (with_none is _) = rw (step k l is) (omega arith)
rest_by_begin k l shorter (with_alone e is command whole _) = rw (step k l is) (omega (arith, behind_shorter l command whole))
rest_by_begin k l shorter (with_two make is command whole _) =
    let left = read k (behind l) in
    rw (step k l is) (omega (arith, behind_shorter l command whole, shorter (behind l), shorter left.rest))

rest_shorter : (k : ℕ) (l : List ℕ) → length (read k l).rest ≤ length l
unfolding read
rest_shorter zero l = omega arith
rest_shorter (suc k) l = rest_by_begin k l (λ l'. rest_shorter k l') (begins_with l)

-- any number that is large enough reads the same
same_by_begin : (k k' : ℕ) (l : List ℕ) → ((l' : List ℕ) → length l' < length l → read k l' ≡ read k' l') → Begins l → read (suc k) l ≡ read (suc k') l
same_by_begin k k' l same (with_none is _) = step k l is ∙ sym (step k' l is)
same_by_begin k k' l same (with_alone e is _ _ _) = step k l is ∙ sym (step k' l is)
same_by_begin k k' l same (with_two make is command whole _) =
    let short = behind_shorter l command whole in
    let left = same (behind l) short in
    let right = same (read k (behind l)).rest (omega (arith, rest_shorter k (behind l))) in
    step k l is ∙ (cc) ∙ sym (step k' l is)

pub read_empty : (k : ℕ) → read k [] ≡ record { expression = stop; rest = [] }
unfolding read
read_empty zero = refl
read_empty (suc k) = refl

pub read_enough : (k k' : ℕ) (l : List ℕ) → length l ≤ k → length l ≤ k' → read k l ≡ read k' l
read_enough zero k' l enough enough' = let none = nil_from_length l (omega arith) in rw (none, read_empty 0, read_empty k')
read_enough (suc k) zero l enough enough' = let none = nil_from_length l (omega arith) in rw (none, read_empty (suc k), read_empty 0)
read_enough (suc k) (suc k') l enough enough' = same_by_begin k k' l (λ l' shorter. read_enough k k' l' (omega arith) (omega arith)) (begins_with l)

-- the bytes p are read as e, whatever stands behind them
abbrev pub ReadsAs : List ℕ → Expression → Type 0
ReadsAs p e = (k : ℕ) (x : List ℕ) → length p ≤ k → read k (p ++ x) ≡ read_as e x

-- a whole command: bytes as many as its width
pub record Command (o : List ℕ) : Type 0 where
  pub some : 0 < length o
  pub long : length o ≡ width_of (byte_at o 0)

pub alone_reads : (o : List ℕ) (e : Expression) → Command o → opening o ≡ alone e → ReadsAs o e
alone_reads o e c is zero x enough = absurd (omega arith)
alone_reads o e c is (suc k) x enough = step_alone k (o ++ x) (opening_front o x c.some c.long ∙ is) (behind_front o x c.some c.long)

pub two_read : (o f g : List ℕ) (make : Expression → Expression → Expression) (left right : Expression) → Command o → opening o ≡ of_two make
    → ReadsAs f left → ReadsAs g right → ReadsAs (o ++ (f ++ g)) (make left right)
two_read o f g make left right c is reads-f reads-g zero x enough = absurd (omega (arith, length-append o (f ++ g)))
two_read o f g make left right c is reads-f reads-g (suc k) x enough =
    let lengths : length o + (length f + length g) ≤ suc k = simp length-append at enough in
    let rest = f ++ (g ++ x) in
    let there : (o ++ (f ++ g)) ++ x ≡ o ++ rest = simp append_assoc in
    rw there (step_two k (o ++ rest) (opening_front o rest c.some c.long ∙ is) (behind_front o rest c.some c.long) (reads-f k (g ++ x) (omega arith)) (reads-g k x (omega arith)))

joined_between : (bs : List ℕ) (i j k : ℕ) → i ≤ j → j ≤ k → between i k bs ≡ between i j bs ++ between j k bs
joined_between bs i j k first second =
    let all : k - i ≡ j - i + (k - j) = omega arith in
    let there : i + (j - i) ≡ j = omega arith in
    ap (λ n. take n (drop i bs)) all ∙ take-add (j - i) (k - j) (drop i bs)
    ∙ ap (λ l. between i j bs ++ take (k - j) l) (drop-drop (j - i) i bs ∙ ap (λ n. drop n bs) there)

-- how long an expression is by what it begins with, w being the width of that
abbrev Sized : ℕ → Opening → Type 0
Sized w (alone e) = size e ≡ w
Sized w (of_two make) = (f g : Expression) → size (make f g) ≡ w + (size f + size g)
Sized w no_form = Unit {0}

opened_sized : (l : List ℕ) (c : Named) → Sized (width_of (byte_of c)) (opened (byte_of c) l)
unfolding bytes
opened_sized l Stop = refl
opened_sized l SiteCall = refl
opened_sized l DefinitionCall = refl
opened_sized l Parallel = λ f g. omega (arith, length-append (bytes f) (bytes g))
opened_sized l Sequential = λ f g. omega (arith, length-append (bytes f) (bytes g))
opened_sized l Pruning = λ f g. omega (arith, length-append (bytes f) (bytes g))
opened_sized l Pending = refl

opening_sized : (l : List ℕ) → byte_at l 0 ≤ 6 → width_of (byte_at l 0) ≤ length l → Sized (width_of (byte_at l 0)) (opening l)
opening_sized l command whole =
    let c = command_of (byte_at l 0) command in
    subst₂ (λ (w : ℕ) (o : Opening). Sized w o) (ap width_of (sym c.1)) (sym (opening_whole l (byte_of c.0) c.1 whole)) (opened_sized l c.0)

-- A stretch with the shape of a form lies within the list, and is read as some expression, which is as long.
pub record ReadThere (bs : List ℕ) (at end : ℕ) : Type 0 where
  pub some : at < end
  pub within : end ≤ length bs
  pub expression : Expression
  pub sized : at + size expression ≡ end
  pub reads : ReadsAs (between at end bs) expression

module _ (bs : List ℕ) where
  module _ (at : ℕ) (whole : WholeCommand bs at) where
    abbrev its_bytes : List ℕ
    its_bytes = between at (at + width_of (byte_at bs at)) bs

    its_first : byte_at its_bytes 0 ≡ byte_at bs at
    its_first = let some = wide (byte_at bs at) whole.of_a_form in get_or-between bs at (at + width_of (byte_at bs at)) 0 0 (omega arith) ∙ ap (byte_at bs) (omega arith)

    its_length : length its_bytes ≡ width_of (byte_at bs at)
    its_length = length-between bs at (at + width_of (byte_at bs at)) whole.whole ∙ omega arith

    its_command : Command its_bytes
    its_command = record { some = rw its_length (wide (byte_at bs at) whole.of_a_form); long = its_length ∙ ap width_of (sym its_first) }

    no_command : {A : Type 0} → (byte_at its_bytes 0 ≤ 6 → width_of (byte_at its_bytes 0) ≤ length its_bytes → ⊥) → A
    no_command missing = absurd (missing (rw its_first whole.of_a_form) (rw (its_first, its_length) (omega arith)))

    alone_there : has_parts (byte_at bs at) ≡ false → Begins its_bytes → ReadThere bs at (at + width_of (byte_at bs at))
    alone_there leaf (with_none _ missing) = no_command missing
    alone_there leaf (with_alone e is first all _) =
        let some = wide (byte_at bs at) whole.of_a_form in
        let long = subst (λ (o : Opening). Sized (width_of (byte_at its_bytes 0)) o) is (opening_sized its_bytes first all) in
        record { some = omega arith; within = whole.whole; expression = e; sized = ap (λ n. at + n) (long ∙ ap width_of its_first); reads = alone_reads its_bytes e its_command is }
    alone_there leaf (with_two _ _ _ _ split) = absurd (true≢false (sym split ∙ ap has_parts its_first ∙ leaf))

    two_there : has_parts (byte_at bs at) ≡ true → Begins its_bytes → {middle end : ℕ} → ReadThere bs (at + width_of (byte_at bs at)) middle → ReadThere bs middle end → ReadThere bs at end
    two_there split (with_none _ missing) f g = no_command missing
    two_there split (with_alone _ _ _ _ leaf) f g = absurd (true≢false (sym split ∙ ap has_parts (sym its_first) ∙ leaf))
    two_there split (with_two make is own all _) {middle} {end} f g =
        let long = subst (λ (o : Opening). Sized (width_of (byte_at its_bytes 0)) o) is (opening_sized its_bytes own all) f.expression g.expression in
        let width : width_of (byte_at its_bytes 0) ≡ width_of (byte_at bs at) = ap width_of its_first in
        let left = f.sized in
        let right = g.sized in
        let start = at + width_of (byte_at bs at) in
        let first = f.some in
        let second = g.some in
        let together : between at end bs ≡ its_bytes ++ (between start middle bs ++ between middle end bs)
        = joined_between bs at start end (omega arith) (omega arith) ∙ ap (λ l. its_bytes ++ l) (joined_between bs start middle end (omega arith) (omega arith)) in
        record {
          some = omega arith;
          within = g.within;
          expression = make f.expression g.expression;
          sized = omega arith;
          reads = rw together (two_read its_bytes (between start middle bs) (between middle end bs) make f.expression g.expression its_command is f.reads g.reads);
        }

  pub form_reads : {at end : ℕ} → FormAt bs at end → ReadThere bs at end
  form_reads (without_parts {at} {end} whole leaf is) = subst (ReadThere bs at) (sym is) (alone_there at whole leaf (begins_with (its_bytes at whole)))
  form_reads (with_parts {at} whole split f g) = two_there at whole split (begins_with (its_bytes at whole)) (form_reads f) (form_reads g)

  pub within : (at : ℕ) (o : Option ℕ) → IfSome o (λ end. FormAt bs at end) → IfSome o (λ end. (at < end) × (end ≤ length bs))
  within at None found = tt
  within at (Some end) form = let there = form_reads form in (there.some, there.within)

  -- Where no form stands, nothing is left behind what is read.
  abbrev pub EndsOrNothingLeft : ℕ → ℕ → Type 0
  EndsOrNothingLeft k at = ((end : ℕ) × FormAt bs at end × ((read k (drop at bs)).rest ≡ drop end bs)) ⊎ ((read k (drop at bs)).rest ≡ [])

  module _ (k at : ℕ) where
    abbrev there : List ℕ
    there = drop at bs

    same_first : byte_at there 0 ≡ byte_at bs at
    same_first = get_or-drop at bs 0 0 ∙ ap (byte_at bs) (omega arith)

    whole_there : byte_at there 0 ≤ 6 → width_of (byte_at there 0) ≤ length there → WholeCommand bs at
    whole_there command whole =
        let long = length-drop at bs in
        let some = wide (byte_at there 0) command in
        let here : width_of (byte_at bs at) ≡ width_of (byte_at there 0) = ap width_of (sym same_first) in
        record { of_a_form = omega (arith, same_first); whole = omega arith }

    behind_there : behind there ≡ drop (at + width_of (byte_at bs at)) bs
    behind_there = drop-drop (width_of (byte_at there 0)) at bs ∙ ap (λ b. drop (at + width_of b) bs) same_first

    by_parts : {make : Expression → Expression → Expression} → opening there ≡ of_two make → WholeCommand bs at → has_parts (byte_at bs at) ≡ true
        → EndsOrNothingLeft k (at + width_of (byte_at bs at)) → ((middle : ℕ) → EndsOrNothingLeft k middle) → EndsOrNothingLeft (suc k) at
    by_parts {make} is whole split (inl (middle, f, left)) after = second (after middle)
      where
        from_middle : (read (suc k) there).rest ≡ (read k (drop middle bs)).rest
        from_middle = ap (λ r. r.rest) (step k there is) ∙ ap (λ l. (read k (read k l).rest).rest) behind_there ∙ ap (λ l. (read k l).rest) left

        second : EndsOrNothingLeft k middle → EndsOrNothingLeft (suc k) at
        second (inl (end, g, right)) = inl (end, with_parts whole split f g, from_middle ∙ right)
        second (inr nothing) = inr (from_middle ∙ nothing)
    by_parts is whole split (inr nothing) after =
        inr (ap (λ r. r.rest) (step k there is) ∙ ap (λ l. (read k (read k l).rest).rest) behind_there ∙ ap (λ l. (read k l).rest) nothing ∙ ap (λ r. r.rest) (read_empty k))

    by_begin : Begins there → ((at' : ℕ) → EndsOrNothingLeft k at') → EndsOrNothingLeft (suc k) at
    by_begin (with_none is _) after = inr (ap (λ r. r.rest) (step k there is))
    by_begin (with_alone e is command whole leaf) after =
        inl (at + width_of (byte_at bs at), without_parts (whole_there command whole) (ap has_parts (sym same_first) ∙ leaf) refl, ap (λ r. r.rest) (step k there is) ∙ behind_there)
    by_begin (with_two make is command whole split) after =
        by_parts is (whole_there command whole) (ap has_parts (sym same_first) ∙ split) (after (at + width_of (byte_at bs at))) after

  pub left_over : (k at : ℕ) → EndsOrNothingLeft k at
  unfolding read
  left_over zero at = inr refl
  left_over (suc k) at = by_begin k at (begins_with (drop at bs)) (λ at'. left_over k at')
