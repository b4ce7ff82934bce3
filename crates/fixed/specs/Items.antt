-- What a list in fixed memory holds, and what its methods make of it. Assumes nothing.
use Rattle.std.specs.Prelude.{ℕ, List, [], ◌∷◌, ◌++◌, length, take}
use Rattle.fixed.specs.declared.list.FixedList.{FixedList}

abbrev pub items_of : {T : Type 0} {N : ℕ} → FixedList T N → List T
items_of l = take l.len l.slots

-- y in the place of the last item
abbrev pub with_last : {T : Type 0} → T → List T → List T
with_last y [] = []
with_last y (x ∷ xs) = take (length xs) (x ∷ xs) ++ (y ∷ [])
