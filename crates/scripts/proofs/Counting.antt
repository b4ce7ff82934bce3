-- A word that has digits alone. Assumes nothing.
use Rattle.std.proofs.Common.{◌≡◌, ℕ, ◌&&◌, List, [], ◌∷◌, refl, ap}
use Rattle.std.specs.Char.{is_ascii_digit}
use Rattle.std.specs.List.{list_all}
use Rattle.std.specs.Str.{all_ascii_digits}

-- every byte is a digit
pub digits_by_all : (w : List ℕ) → list_all is_ascii_digit w ≡ all_ascii_digits w
digits_by_all [] = refl
digits_by_all (c ∷ cs) = ap (λ b. is_ascii_digit c && b) (digits_by_all cs)
