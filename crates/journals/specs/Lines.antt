-- The lines of a journal. Assumes nothing.
use Rattle.std.specs.Prelude.{ℕ, ◌/◌, ◌%◌, false, List, [], ◌∷◌, ◌++◌, Ok, Err, codes, decimal, nat_lt, cond, Option, Some, None, zip}
use Rattle.std.specs.Fmt.{digit_glyph}
use Rattle.std.specs.List.{flat_map, range_with_len}
use Rattle.verdicts.specs.Verdicts.{verdict}
use Rattle.orc.specs.Expressions.{bytes as form_bytes, size}
use Rattle.orc.specs.Calls.{due_count}
use Rattle.orc.specs.Steps.{Act, called, inner, out}
use Rattle.runs.specs.declared.call.Call.{Call}
use Rattle.runs.specs.Calls.{line_of}
use Rattle.runs.specs.Outcomes.{Response}
use Rattle.runs.specs.Refusals.{told}
use Rattle.runs.specs.States.{Entry, State}
use Rattle.runs.specs.Tickets.{standing_at}
use Rattle.scripts.specs.declared.script.BadLine.{BadLine}
use Rattle.scripts.specs.Faults.{message}
use Rattle.engine.specs.declared.shown.SiteTotals.{SiteTotals}

-- a call as it stands in a script, and what it met
abbrev pub response_text : Response → List ℕ
response_text (Ok x) = codes "accepted"
response_text (Err r) = verdict (told r)

abbrev pub call_line : Call → Response → List ℕ
call_line c r = line_of c ++ (codes ": " ++ (response_text r ++ codes "\n"))

-- a recorded event
abbrev pub act_text : Act → List ℕ
act_text (called s v) = codes "call " ++ (decimal s ++ (codes " " ++ decimal v))
act_text inner = codes "inner"
act_text (out v) = codes "out " ++ decimal v

abbrev pub event_line : Entry → List ℕ
event_line e = codes "event " ++ (decimal e.tick ++ (codes " " ++ (act_text e.act ++ codes "\n")))

-- how many tickets of a site were called, answered, withdrawn and lapsed, and how many stand
pub record Counts : Type 0 where
  pub called : ℕ
  pub answered : ℕ
  pub withdrawn : ℕ
  pub lapsed : ℕ
  pub standing : ℕ

abbrev pub counts : SiteTotals → Counts
counts t = record { called = t.called; answered = t.answered; withdrawn = t.withdrawn; lapsed = t.lapsed; standing = t.standing }

abbrev pub site_line : ℕ → Counts → List ℕ
site_line s c = codes "site " ++ (decimal s ++ (codes " called " ++ (decimal c.called ++ (codes " answered " ++ (decimal c.answered ++ (codes " withdrawn " ++ (decimal c.withdrawn ++ (codes " lapsed " ++ (decimal c.lapsed ++ (codes " standing " ++ (decimal c.standing ++ codes "\n")))))))))))

-- bytes in hexadecimal, two digits for each
abbrev pub byte_text : ℕ → List ℕ
byte_text b = digit_glyph false (b / 16) ∷ digit_glyph false (b % 16) ∷ []

abbrev pub hex_text : List ℕ → List ℕ
hex_text bs = flat_map byte_text bs

-- what is said of a site in a state: nothing if it was never called
abbrev pub counted : State → ℕ → Counts
counted s site =
    record {
      called = (s.totals site).called;
      answered = (s.totals site).answered;
      withdrawn = (s.totals site).withdrawn;
      lapsed = (s.totals site).lapsed;
      standing = standing_at site s.expression;
    }

abbrev pub site_text : State → ℕ → List ℕ
site_text s site = cond (nat_lt 0 (s.totals site).called) (site_line site (counted s site)) []

-- the record, and the totals of each site that was called
abbrev pub event_lines : State → List ℕ
event_lines s = flat_map event_line s.events

abbrev pub site_lines : State → List ℕ
site_lines s = flat_map (site_text s) (range_with_len 0 32)

-- the clock, the size of the form, how many calls are due, and the form
abbrev pub now_lines : State → List ℕ
now_lines s = codes "clock " ++ (decimal s.clock ++ (codes "\nsize " ++ (decimal (size s.expression) ++ (codes "\ndue " ++ (decimal (due_count s.expression) ++ (codes "\nform " ++ (hex_text (form_bytes s.expression) ++ codes "\n")))))))

-- what a run holds
abbrev pub state_lines : State → List ℕ
state_lines s = now_lines s ++ (event_lines s ++ site_lines s)

-- a line of a script that is at fault
abbrev pub bad_line : BadLine → List ℕ
bad_line b = codes "line " ++ (decimal b.line ++ (codes ": " ++ (message b.fault ++ codes "; nothing is played from there on\n")))

abbrev pub bad_text : Option BadLine → List ℕ
bad_text None = []
bad_text (Some b) = bad_line b

-- a line for each call and what it met
abbrev pub call_lines : List (Call × Response) → List ℕ
call_lines rs = flat_map (λ x. call_line x.0 x.1) rs

-- the journal of calls, with what each met, up to a line at fault, and of what they left
abbrev pub journal_text : List Call → Option BadLine → List Response → State → List ℕ
journal_text cs bad rs s = call_lines (zip cs rs) ++ (bad_text bad ++ state_lines s)
