-- What a type of the numbers of a line owes: it reads words of digits as `number_of` says. Assumes nothing.
use Rattle.std.proofs.Common.{◌≡◌, ℕ, ◌+◌, ◌^◌, ◌<◌, ◌≤◌, true, List, length, Ok, Err, Result, MatchResult, sym, ap, arith, le-leb, ⊎_elim}
use borrow.Author.Tests.{lt-leb}
use Rattle.std.proofs.lemmas.Bool.{cases_lt}
use Rattle.std.proofs.lemmas.Str.Parse.{numerals_by_value, tells_all_ascii_digits, parse_digits}
use Rattle.std.specs.Result.{OkIff}
use Rattle.std.specs.Str.Parse.{digits_value, ParsesUnsigned}
use Rattle.std.specs.Str.{all_ascii_digits}
use Rattle.scripts.specs.declared.fault.LineFault.TheVariants.{TooLarge}
use Rattle.scripts.specs.Operands.{number_of}

-- what a word of digits writes
pub reads : (most : ℕ) (w : List ℕ) (n : ℕ) → all_ascii_digits w ≡ true → digits_value 10 w ≡ n → n ≤ most → number_of most w ≡ Ok n
reads most w n all is small = let fits = le-leb (digits_value 10 w) most (omega (arith, is)) in simp (all, fits) (ap Ok is)

pub too_large : (most : ℕ) (w : List ℕ) → all_ascii_digits w ≡ true → most < digits_value 10 w → number_of most w ≡ Err (TooLarge most)
too_large most w all large = let over = lt-leb (digits_value 10 w) most large in simp (all, over)

-- a type of k bits is read from a word of digits as the number that the word writes
pub parsed : {E : Type 0} (k most : ℕ) (w : List ℕ) (r : Result ℕ E) → 2 ^ k ≡ most + 1 → ParsesUnsigned k 10 w r → all_ascii_digits w ≡ true → 0 < length w
    → MatchResult r (λ n. number_of most w ≡ Ok n) (λ _. number_of most w ≡ Err (TooLarge most))
parsed {E} k most w r is h digits some = by_result r (parse_digits (numerals_by_value _ tells_all_ascii_digits) k w r h digits)
  where
    by_result : (r : Result ℕ E) → OkIff r ((0 < length w) × (digits_value 10 w < 2 ^ k)) (digits_value 10 w) → MatchResult r (λ n. number_of most w ≡ Ok n) (λ _. number_of most w ≡ Err (TooLarge most))
    by_result (Ok n) o = reads most w n digits (sym o.1) (omega (arith, is, o.0.1, o.1))
    by_result (Err e) o = ⊎_elim (λ below. absurd (o (some, below))) (λ past. too_large most w digits (omega (arith, is, past))) (cases_lt (digits_value 10 w) (2 ^ k))
