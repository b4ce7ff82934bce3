-- A search for a due call, from the second part of a form back to the form. Assumes nothing.
use Rattle.std.proofs.Common.{◌≡◌, ℕ, ◌+◌, ◌-◌, List, length, Some, None, Option, MatchOption, sym, refl, ap, ◌∙◌, arith}
use Rattle.std.proofs.lemmas.Bool.{le-ltb}
use Rattle.orc.specs.Expressions.{size}
use Rattle.orc.specs.Calls.{due_count}
use Rattle.forms.specs.Reading.{expression_of}
use Rattle.places.specs.Places.{due_place, PassesAll}
use Rattle.places.specs.Passing.{rest_of, DueInBoth, LeavesBehind, BeginsThere}
use Rattle.places.specs.declared.due.Passed.{Passed}
use Rattle.places.proofs.Passing.{size_before}

module _ (bs parts : List ℕ) (both : DueInBoth bs parts) (n : ℕ) (first : Passed) (passed : PassesAll parts n first.count) (left : LeavesBehind parts first) where
  abbrev second : List ℕ
  second = first.behind.now

  pub in_second : {call : List ℕ} → BeginsThere second (n - first.count) call → BeginsThere bs n call
  in_second {call} begins =
      let end = begins.there in
      let last = begins.last in
      let there : second ≡ rest_of parts = left.behind in
      let few = left.few in
      let shorter = both.shorter in
      let all = passed.all in
      let too_few = passed.too_few in
      let due : due_count (expression_of second) ≡ due_count (expression_of (rest_of parts)) = ap (λ l. due_count (expression_of l)) there in
      let long : length second ≡ length (rest_of parts) = ap length there in
      let within = end.within in
      let before : size (expression_of parts) + length (rest_of parts) ≡ length parts = size_before parts (omega arith) in
      let place : due_place (n - due_count (expression_of parts)) (expression_of (rest_of parts)) ≡ Some (length second - length call)
      = ap (λ m. due_place (n - m) (expression_of (rest_of parts))) (sym all) ∙ ap (λ l. due_place (n - first.count) (expression_of l)) (sym there) ∙ end.place in
      let offset : length bs - length parts + size (expression_of parts) + (length second - length call) ≡ length bs - length call = omega arith in
      record {
        last = omega arith;
        there = record {
          due = omega (arith, end.due, both.count);
          within = omega arith;
          place = both.place n ∙ (rw (le-ltb n (due_count (expression_of parts)) (omega arith), place) (ap Some offset));
        };
      }

  past_second : PassesAll second (n - first.count) (due_count (expression_of second)) → PassesAll bs n (due_count (expression_of bs))
  past_second pass =
      let there : second ≡ rest_of parts = left.behind in
      let few = left.few in
      let shorter = both.shorter in
      let all = passed.all in
      let too_few = passed.too_few in
      let due : due_count (expression_of second) ≡ due_count (expression_of (rest_of parts)) = ap (λ l. due_count (expression_of l)) there in
      let nowhere : due_place (n - due_count (expression_of parts)) (expression_of (rest_of parts)) ≡ None
      = ap (λ m. due_place (n - m) (expression_of (rest_of parts))) (sym all) ∙ ap (λ l. due_place (n - first.count) (expression_of l)) (sym there) ∙ pass.nowhere in
      record {
        all = refl;
        too_few = omega (arith, both.count, pass.too_few);
        short = omega (arith, both.count, pass.short);
        nowhere = both.place n ∙ (rw (le-ltb n (due_count (expression_of parts)) (omega arith), nowhere));
      }

  -- a search of the second part is the whole one
  pub in_the_last : {A : Type 0} (o : Option A) (bytes : A → List ℕ)
      → MatchOption o (PassesAll second (n - first.count) (due_count (expression_of second))) (λ call. BeginsThere second (n - first.count) (bytes call))
      → MatchOption o (PassesAll bs n (due_count (expression_of bs))) (λ call. BeginsThere bs n (bytes call))
  in_the_last None bytes pass = past_second pass
  in_the_last (Some call) bytes begins = in_second begins
