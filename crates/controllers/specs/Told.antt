-- What is told of judgements and responses, in numbers. Assumes nothing.
use Rattle.std.specs.Prelude.{ℕ, min, Ok, Err, Result}
use Rattle.verdicts.specs.Verdicts.{Told}
use Rattle.controllers.specs.declared.verdict.Verdict.{Verdict}

-- the greatest number of 32 bits
abbrev pub greatest : ℕ
greatest = 4294967295

abbrev pub accepted : Verdict
accepted = record { number = 0; place = 0 }

-- that no call was made: a number that no refusal has
abbrev pub no_call : Verdict
no_call = record { number = greatest; place = 0 }

-- a reason for a refusal: its number and its place
abbrev pub refused : Told → Verdict
refused t = record { number = t.number; place = t.place }

-- an acceptance or a refusal, by what is told of its reasons
abbrev pub verdict_on : {X E : Type 0} → (E → Told) → Result X E → Verdict
verdict_on told (Ok x) = accepted
verdict_on told (Err e) = refused (told e)

-- the same with a place of 32 bits: the greatest number of them is told for one that has more
abbrev pub shortened : Verdict → Verdict
shortened v = record { number = v.number; place = min v.place greatest }
