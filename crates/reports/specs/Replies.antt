-- The first line of a report on what a site can reply to a value. Assumes nothing.
use Rattle.std.specs.Prelude.{ℕ, Bool, cond, List, ◌++◌, length, codes, decimal}
use Rattle.orc.specs.Meaning.{Meaning, handle, is_known}
use Rattle.orc.specs.Local.{local}
use Rattle.sheets.specs.Format.{Outcome}
use Rattle.hosts.specs.Meanings.{outcome_meaning, pair_meaning}

-- a controller has the local sites 0 to 3, and from 4 on those of its sheet
abbrev pub controller : Outcome → Meaning
controller o = pair_meaning local (outcome_meaning o) 4

-- a call, and what is known of it: nothing, or how many windows it has and whether it may stay silent
abbrev pub call_line : ℕ → ℕ → Bool → ℕ → Bool → List ℕ
call_line s v known count silent =
    codes "site " ++ (decimal s ++ (codes " called with " ++ (decimal v ++ cond known (codes ": " ++ (decimal count ++ cond silent (codes " windows, may stay silent\n") (codes " windows, always replies\n"))) (codes ": unknown\n"))))

abbrev pub replies_line : Meaning → ℕ → ℕ → List ℕ
replies_line m s v = call_line s v (is_known (m s)) (length (handle m s v).windows) (handle m s v).silent
