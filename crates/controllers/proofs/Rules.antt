-- The places of the faults of rules, and the widths of commands. Assumes nothing.
use Rattle.std.proofs.Common.{◌≡◌, ℕ, ◌≤◌, Bool, true, false, cond, eqb, List, [], ◌∷◌, Some, None, Option, IfSome, sym, refl, subst, arith}
use Rattle.std.specs.List.{AllByRecursion}
use Rattle.std.proofs.lemmas.Bool.{cond_both}
use Rattle.std.proofs.lemmas.Option.{none-some}
use Rattle.formats.specs.declared.fault.Fault.{Fault}
use Rattle.formats.specs.Faults.{told}
use Rattle.formats.specs.Operands.{Rule, first_broken}
use Rattle.formats.specs.Widths.{Width, commands, listed, width_of}

-- the first rule that is broken has a place near by, if all have
pub broken_near : (rs : List Rule) (f : Fault) → AllByRecursion (λ r. (told r.fault).place ≤ 5000) rs → first_broken rs ≡ Some f → (told f).place ≤ 5000
broken_near [] f all is = absurd (none-some f is)
broken_near (r ∷ rs) f all is = by_case (λ rest. broken_near rs f all.1 rest) r.kept refl
  where
    by_case : (first_broken rs ≡ Some f → (told f).place ≤ 5000) → (b : Bool) → r.kept ≡ b → (told f).place ≤ 5000
    by_case later true kept = later (subst (λ b. cond b (first_broken rs) (Some r.fault) ≡ Some f) kept is)
    by_case later false kept =
        let first : Some r.fault ≡ Some f = subst (λ b. cond b (first_broken rs) (Some r.fault) ≡ Some f) kept is in
        let P : Option Fault → Type 0 = λ o. IfSome o (λ h. (told h).place ≤ 5000) in
        subst P first all.0

-- all rules are kept, if none is the first that is broken
pub all_kept : (rs : List Rule) → first_broken rs ≡ None → AllByRecursion (λ r. r.kept ≡ true) rs
all_kept [] is = tt
all_kept (r ∷ rs) is = by_case (λ rest. all_kept rs rest) r.kept refl
  where
    by_case : (first_broken rs ≡ None → AllByRecursion (λ r. r.kept ≡ true) rs) → (b : Bool) → r.kept ≡ b → (r.kept ≡ true) × AllByRecursion (λ r. r.kept ≡ true) rs
    by_case later true kept = (kept, later (subst (λ b. cond b (first_broken rs) (Some r.fault) ≡ None) kept is))
    by_case later false kept = absurd (none-some r.fault (sym (subst (λ b. cond b (first_broken rs) (Some r.fault) ≡ None) kept is)))

listed_near : (ws : List Width) (b : ℕ) → AllByRecursion (λ w. w.bytes ≤ 13) ws → listed ws b ≤ 13
listed_near [] b all = omega arith
listed_near (w ∷ ws) b all = cond_both (eqb b w.command) w.bytes (listed ws b) (λ n. n ≤ 13) (λ _. all.0) (λ _. listed_near ws b all.1)

pub width_near : (b : ℕ) → width_of b ≤ 13
width_near b = listed_near commands b (omega arith, (omega arith, (omega arith, (omega arith, (omega arith, (omega arith, (omega arith, (omega arith, (omega arith, tt)))))))))
