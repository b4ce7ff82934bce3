-- Windows asked for by their numbers, one after the other. Assumes nothing.
use Rattle.std.proofs.Common.{◌≡◌, ℕ, zero, suc, ◌+◌, Bool, ◌||◌, List, [], ◌∷◌, length, refl, ap, ◌∙◌, ap₂, add-one}
use Rattle.std.specs.List.{list_any, range_with_len}
use Rattle.orc.specs.Meaning.{Window, some}
use Rattle.walks.specs.Ages.{passes_at}

-- the numbers from the next one on, seen from the rest of the windows
shifted : (f : Window → Bool) (w : Window) (ws : List Window) (i n : ℕ) → list_any (passes_at f (w ∷ ws)) (range_with_len (i + 1) n) ≡ list_any (passes_at f ws) (range_with_len i n)
shifted f w ws i zero = refl
shifted f w ws i (suc n) = ap₂ ◌||◌ (ap (λ k. passes_at f (w ∷ ws) k) (add-one i)) (shifted f w ws (i + 1) n)

-- some number has a window that passes exactly if some window does
pub any_by_number : (f : Window → Bool) (ws : List Window) → list_any (passes_at f ws) (range_with_len 0 (length ws)) ≡ some f ws
any_by_number f [] = refl
any_by_number f (w ∷ ws) = ap (λ b. f w || b) (shifted f w ws 0 (length ws) ∙ any_by_number f ws)
