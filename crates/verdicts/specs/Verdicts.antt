-- What is told of a refusal. Assumes nothing.
use Rattle.std.specs.Prelude.{ℕ, List, ◌++◌, codes, decimal}
use Rattle.verdicts.specs.declared.reason.Notice.{Notice}

-- the number that mechanics know it by, what it is about, and its name
pub record Told : Type 0 where
  pub number : ℕ
  pub place : ℕ
  pub name : List ℕ

-- what a notice tells
abbrev pub told_by : Notice → Told
told_by n = record { number = n.number; place = n.place; name = n.name.now }

-- the line that is printed: refused NUMBER at PLACE: Name
abbrev pub verdict : Told → List ℕ
verdict t = codes "refused " ++ (decimal t.number ++ (codes " at " ++ (decimal t.place ++ (codes ": " ++ t.name))))
