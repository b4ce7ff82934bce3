-- Rules one by one. Assumes nothing.
use Rattle.std.proofs.Common.{◌≡◌, ℕ, Bool, true, false, cond, List, [], ◌∷◌, Some, None, Option, refl, ap, ◌∙◌, arith}
use Rattle.std.specs.List.{AllByRecursion}
use Rattle.formats.specs.declared.fault.Fault.{Fault}
use Rattle.formats.specs.Operands.{Rule, first_broken}

by_test : (b : Bool) (rest : Option Fault) (f : Fault) → cond b rest (Some f) ≡ None → (b ≡ true) × (rest ≡ None)
by_test true rest f none = (refl, none)
by_test false rest f none = let z : ◌≡◌ {A = ℕ} 0 1 = cc in absurd (omega arith)

-- none is broken exactly if each is kept
abbrev pub AllKept : List Rule → Type 0
AllKept rs = AllByRecursion (λ r. r.kept ≡ true) rs

pub all_kept : (rs : List Rule) → first_broken rs ≡ None → AllKept rs
all_kept [] none = tt
all_kept (r ∷ rs) none = let p = by_test r.kept (first_broken rs) r.fault none in (p.0, all_kept rs p.1)

pub none_broken : (rs : List Rule) → AllKept rs → first_broken rs ≡ None
none_broken [] all = refl
none_broken (r ∷ rs) all = ap (λ b. cond b (first_broken rs) (Some r.fault)) all.0 ∙ none_broken rs all.1
