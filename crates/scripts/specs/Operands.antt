-- The numbers of a line. Assumes nothing.
use Rattle.std.specs.Prelude.{◌≡◌, ℕ, ◌<◌, true, cond, List, [], ◌∷◌, length, Ok, Err, Result, MatchResult, nat_le}
use Rattle.std.specs.Str.Parse.{digits_value}
use Rattle.std.specs.Str.{all_ascii_digits}
use Rattle.scripts.specs.declared.fault.LineFault.{LineFault}
use Rattle.scripts.specs.declared.fault.LineFault.TheVariants.{NumberMissing, NotANumber, TooLarge, WordsLeft}

-- A word writes the number that its digits write in base ten, with any number of zeros in front, if it has digits alone
-- and the number is at most a limit.
abbrev pub number_of : ℕ → List ℕ → Result ℕ LineFault
number_of most w = cond (all_ascii_digits w) (cond (nat_le (digits_value 10 w) most) (Ok (digits_value 10 w)) (Err (TooLarge most))) (Err NotANumber)

-- a type of numbers up to a limit is read from a word of digits as the number that the word writes
abbrev pub Reads : {T E : Type 0} → ℕ → (T → ℕ) → (List ℕ → Result T E → Type 0) → Type 0
Reads {T} {E} most value gives =
    (w : List ℕ) (r : Result T E) → gives w r → all_ascii_digits w ≡ true → 0 < length w → MatchResult r (λ n. number_of most w ≡ Ok (value n)) (λ _. number_of most w ≡ Err (TooLarge most))

-- a number and then more, or what is wrong with them
abbrev pub followed_by : ℕ → Result (List ℕ) LineFault → Result (List ℕ) LineFault
followed_by n (Ok ns) = Ok (n ∷ ns)
followed_by n (Err f) = Err f

abbrev pub first_then : Result ℕ LineFault → Result (List ℕ) LineFault → Result (List ℕ) LineFault
first_then (Ok n) more = followed_by n more
first_then (Err f) more = Err f

-- The numbers that words write, one for each limit and no word left over, or the first fault from the left.
abbrev pub operands : List ℕ → List (List ℕ) → Result (List ℕ) LineFault
operands [] [] = Ok []
operands [] (w ∷ ws) = Err WordsLeft
operands (most ∷ limits) [] = Err NumberMissing
operands (most ∷ limits) (w ∷ ws) = first_then (number_of most w) (operands limits ws)
