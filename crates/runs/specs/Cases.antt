-- Runs worked out by computation. Assumes nothing.
use Rattle.std.specs.Prelude.{◌≡◌, ℕ, zero, suc, List, [], ◌∷◌, ◌++◌, map, replicate, Ok, Err}
use Rattle.orc.specs.Meaning.{Lawful}
use Rattle.orc.specs.Local.{local}
use Rattle.orc.specs.Expressions.{value, variable, Expression, stop, site_call, definition_call, parallel, sequential, pruning, pending, size}
use Rattle.orc.specs.Calls.{due_count}
use Rattle.orc.specs.Files.{File, file_bytes, WellFormed}
use Rattle.runs.specs.declared.call.Call.{Call}
use Rattle.runs.specs.declared.call.Call.TheVariants.{Go, Answer, Wait}
use Rattle.runs.specs.declared.event.Kind.{Kind}
use Rattle.runs.specs.declared.event.Kind.TheVariants.{Called, Inner, Out}
use Rattle.runs.specs.declared.refusal.Refusal.TheVariants.{NoneDue, NotStanding, OutsideEveryWindow, DueFirst, Overdue, ClockEnd, Outgrown, RecordFull}
use Rattle.runs.specs.States.{Seen, shows, Totals, State, begun}
use Rattle.runs.specs.Outcomes.{Response}
use Rattle.runs.specs.Histories.{History}

-- Calls of the local sites: let, if and rtimer.
abbrev pub let_of : ℕ → Expression
let_of v = site_call 0 (value v)

abbrev pub let_variable : ℕ → Expression
let_variable x = site_call 0 (variable x)

abbrev pub if_of : ℕ → Expression
if_of v = site_call 1 (value v)

abbrev pub rtimer_of : ℕ → Expression
rtimer_of v = site_call 3 (value v)

-- a file with no definitions
abbrev pub goal_alone : Expression → File
goal_alone e = record { definitions = []; goal = e }

-- A file with a definition: its value is the parameter of a timer that it starts again whenever it rings.
abbrev pub metronome : File
metronome = record { definitions = record { formal = 0; body = sequential 1 (site_call 3 (variable 0)) (definition_call 0 (variable 0)) } ∷ []; goal = definition_call 0 (value 100) }

-- The theorems on runs speak of something: the local sites keep ranges and laws, and there is a file that is well-formed
-- over them.
pub record HypothesesCanBeMet : Type 0 where
  pub lawful : Lawful local
  pub well_formed : WellFormed local metronome

-- a recorded event as it is read: its clock, kind, number and value
abbrev pub Line : Type 0
Line = ℕ × Seen

abbrev pub reads : ℕ → Kind → ℕ → ℕ → Line
reads t k n v = (t, record { kind = k; number = n; value = v })

-- what a run leaves: its clock, its expression, its record as it is read, and the totals of one site
pub record Left : Type 0 where
  pub clock : ℕ
  pub expression : Expression
  pub lines : List Line
  pub totals : Totals

abbrev pub left_by : State → ℕ → Left
left_by s site = record { clock = s.clock; expression = s.expression; lines = map (λ x. (x.tick, shows x.act)) s.events; totals = s.totals site }

-- The bytes are those of a file that is well-formed over the local sites. From its begin on the calls have one history, with
-- these responses, and this is what it leaves.
pub record ComesTo (bytes : List ℕ) (file : File) (calls : List Call) (responses : List Response) (site : ℕ) (left : Left) : Type 0 where
  pub bytes_of_file : file_bytes file ≡ bytes
  pub well_formed : WellFormed local file
  pub last : State
  pub history : History local (begun file) calls responses last
  pub only : {rs : List Response} {s : State} → History local (begun file) calls rs s → (rs ≡ responses) × (s ≡ last)
  pub leaves : left_by last site ≡ left

abbrev pub accepted : Response
accepted = Ok tt

abbrev pub totals : ℕ → ℕ → ℕ → ℕ → Totals
totals c a w l = record { called = c; answered = a; withdrawn = w; lapsed = l }

-- both 1 and 2, in parallel
abbrev pub one_or_two : Expression
one_or_two = parallel (let_of 1) (let_of 2)

-- what is left of a sequential once its left part has published 1
abbrev pub one_of_two_left : Expression
one_of_two_left = parallel (sequential 7 (pending 2 0 2 0) (let_variable 7)) (let_of 1)

-- a definition that calls itself, and nothing else
abbrev pub itself : File
itself = record { definitions = record { formal = 0; body = definition_call 0 (variable 0) } ∷ []; goal = definition_call 0 (value 0) }

-- n + 1 calls in parallel: 6n + 5 bytes
abbrev pub many : ℕ → Expression
many zero = let_of 0
many (suc n) = parallel (let_of 0) (many n)

-- a goal of 4,055 bytes: a definition call that adds 6 bytes when it is made, beside site calls that add 7 each
abbrev pub growing : File
growing = record { definitions = record { formal = 0; body = parallel (let_variable 0) (let_variable 0) } ∷ []; goal = parallel (definition_call 0 (value 0)) (many 674) }

abbrev pub pending_let : ℕ → Expression
pending_let k = pending k 0 0 0

abbrev pub grown : Expression
grown = parallel (parallel (let_of 0) (let_of 0)) (parallel (pending_let 1) (parallel (pending_let 2) (parallel (pending_let 3) (parallel (pending_let 4) (parallel (pending_let 5) (many 669))))))

pub record WorkedCases : Type 0 where
  -- stop: nothing is due, and time passes
  pub stop_waits : ComesTo (0 ∷ 0 ∷ []) (goal_alone stop)
      (Go 0 ∷ Wait 7 ∷ [])
      (Err (NoneDue 0) ∷ accepted ∷ [])
      0 (record { clock = 7; expression = stop; lines = []; totals = totals 0 0 0 0 })
  -- up to the clock's end
  pub clock_ends : ComesTo (0 ∷ 0 ∷ []) (goal_alone stop)
      (Wait 4294967294 ∷ Wait 0 ∷ Wait 1 ∷ [])
      (accepted ∷ accepted ∷ Err (ClockEnd 4294967294) ∷ [])
      0 (record { clock = 4294967294; expression = stop; lines = []; totals = totals 0 0 0 0 })
  -- let(5): no time passes before the call is made, and only 5 is a reply
  pub let_replies : ComesTo (0 ∷ 1 ∷ 0 ∷ 0 ∷ 0 ∷ 5 ∷ []) (goal_alone (let_of 5))
      (Wait 0 ∷ Wait 2 ∷ Go 0 ∷ Answer 1 6 ∷ Answer 1 5 ∷ [])
      (accepted ∷ Err (DueFirst 1) ∷ accepted ∷ Err (OutsideEveryWindow 1) ∷ accepted ∷ [])
      0 (record { clock = 0; expression = stop; lines = reads 0 Called 0 5 ∷ reads 0 Out 0 5 ∷ []; totals = totals 1 1 0 0 })
  -- if(0): the call is recorded and lapses at once
  pub if_lapses : ComesTo (0 ∷ 1 ∷ 1 ∷ 0 ∷ 0 ∷ 0 ∷ []) (goal_alone (if_of 0))
      (Go 0 ∷ Answer 1 0 ∷ [])
      (accepted ∷ Err (NotStanding 1) ∷ [])
      1 (record { clock = 0; expression = stop; lines = reads 0 Called 1 0 ∷ []; totals = totals 1 0 0 1 })
  -- rtimer(3): it replies at age 3, neither later nor earlier
  pub timer_rings : ComesTo (0 ∷ 1 ∷ 3 ∷ 0 ∷ 0 ∷ 3 ∷ []) (goal_alone (rtimer_of 3))
      (Go 0 ∷ Wait 4 ∷ Wait 4294967295 ∷ Wait 2 ∷ Answer 1 0 ∷ Wait 1 ∷ Answer 1 0 ∷ [])
      (accepted ∷ Err (Overdue 1) ∷ Err (Overdue 1) ∷ accepted ∷ Err (OutsideEveryWindow 1) ∷ accepted ∷ accepted ∷ [])
      3 (record { clock = 3; expression = stop; lines = reads 0 Called 3 3 ∷ reads 3 Out 0 0 ∷ []; totals = totals 1 1 0 0 })
  -- of two timers that would be late, the left one is named, though it was called last
  pub leftmost_is_overdue : ComesTo (0 ∷ 3 ∷ 1 ∷ 3 ∷ 0 ∷ 0 ∷ 3 ∷ 1 ∷ 3 ∷ 0 ∷ 0 ∷ 3 ∷ []) (goal_alone (parallel (rtimer_of 3) (rtimer_of 3)))
      (Go 1 ∷ Go 0 ∷ Wait 4 ∷ [])
      (accepted ∷ accepted ∷ Err (Overdue 2) ∷ [])
      3 (record { clock = 0; expression = parallel (pending 2 3 3 0) (pending 1 3 3 0); lines = reads 0 Called 3 3 ∷ reads 0 Called 3 3 ∷ []; totals = totals 2 0 0 0 })
  -- a sequential goes on with its left part when that has published
  pub sequential_spawns : ComesTo (0 ∷ 4 ∷ 7 ∷ 3 ∷ 1 ∷ 0 ∷ 0 ∷ 0 ∷ 1 ∷ 1 ∷ 0 ∷ 0 ∷ 0 ∷ 2 ∷ 1 ∷ 0 ∷ 1 ∷ 0 ∷ 7 ∷ []) (goal_alone (sequential 7 one_or_two (let_variable 7)))
      (Go 9 ∷ Go 0 ∷ Go 0 ∷ Answer 1 1 ∷ [])
      (Err (NoneDue 2) ∷ accepted ∷ accepted ∷ accepted ∷ [])
      0 (record { clock = 0; expression = one_of_two_left; lines = reads 0 Called 0 1 ∷ reads 0 Called 0 2 ∷ reads 0 Inner 0 0 ∷ []; totals = totals 2 1 0 0 })
  pub sequential_size : size one_of_two_left ≡ 25
  pub sequential_due : due_count one_of_two_left ≡ 1
  -- a pruning withdraws the other call
  pub pruning_withdraws : ComesTo (0 ∷ 5 ∷ 0 ∷ 1 ∷ 0 ∷ 1 ∷ 0 ∷ 0 ∷ 3 ∷ 1 ∷ 0 ∷ 0 ∷ 0 ∷ 1 ∷ 1 ∷ 0 ∷ 0 ∷ 0 ∷ 2 ∷ []) (goal_alone (pruning 0 (let_variable 0) one_or_two))
      (Go 0 ∷ Go 0 ∷ Answer 2 2 ∷ Answer 1 1 ∷ [])
      (accepted ∷ accepted ∷ accepted ∷ Err (NotStanding 1) ∷ [])
      0 (record { clock = 0; expression = let_of 2; lines = reads 0 Called 0 1 ∷ reads 0 Called 0 2 ∷ reads 0 Inner 0 0 ∷ []; totals = totals 2 1 1 0 })
  -- a pruning inside binds the variable again: the outer value does not reach it
  pub inner_pruning_shadows : ComesTo (0 ∷ 5 ∷ 0 ∷ 5 ∷ 0 ∷ 1 ∷ 0 ∷ 1 ∷ 0 ∷ 0 ∷ 1 ∷ 3 ∷ 0 ∷ 0 ∷ 9 ∷ 1 ∷ 0 ∷ 0 ∷ 0 ∷ 4 ∷ []) (goal_alone (pruning 0 (pruning 0 (let_variable 0) (rtimer_of 9)) (let_of 4)))
      (Go 1 ∷ Answer 1 4 ∷ [])
      (accepted ∷ accepted ∷ [])
      0 (record { clock = 0; expression = pruning 0 (let_variable 0) (rtimer_of 9); lines = reads 0 Called 0 4 ∷ reads 0 Inner 0 0 ∷ []; totals = totals 1 1 0 0 })
  -- a definition that calls itself fills the record
  pub record_fills : ComesTo (1 ∷ 0 ∷ 0 ∷ 5 ∷ 2 ∷ 0 ∷ 1 ∷ 0 ∷ 0 ∷ 2 ∷ 0 ∷ 0 ∷ 0 ∷ 0 ∷ []) itself
      (replicate 513 (Go 0))
      (replicate 512 accepted ++ (Err RecordFull ∷ []))
      0 (record { clock = 0; expression = definition_call 0 (value 0); lines = replicate 512 (reads 0 Inner 0 0); totals = totals 0 0 0 0 })
  -- calls fill the form up to its last byte, and no further
  pub form_fills : ComesTo (file_bytes growing) growing
      (replicate 6 (Go 1) ++ (Go 0 ∷ []))
      (replicate 5 accepted ++ (Err (Outgrown 4097) ∷ accepted ∷ []))
      0 (record { clock = 0; expression = grown; lines = replicate 5 (reads 0 Called 0 0) ++ (reads 0 Inner 0 0 ∷ []); totals = totals 5 0 0 0 })
  pub form_filled : size grown ≡ 4096

-- Runs at the edges of a rule.
pub record CasesAtTheEdge : Type 0 where
  -- no time passes before a due call is made, and none is made that is not there
  pub call_comes_first : ComesTo (0 ∷ 1 ∷ 0 ∷ 0 ∷ 0 ∷ 5 ∷ []) (goal_alone (let_of 5))
      (Go 1 ∷ Wait 0 ∷ Wait 2 ∷ [])
      (Err (NoneDue 1) ∷ accepted ∷ Err (DueFirst 1) ∷ [])
      0 (record { clock = 0; expression = let_of 5; lines = []; totals = totals 0 0 0 0 })
  -- of two timers that would be late, the left one is named, though it was called last; a wait may pass the clock's end and be late
  pub leftmost_is_late : ComesTo (0 ∷ 3 ∷ 1 ∷ 3 ∷ 0 ∷ 0 ∷ 3 ∷ 1 ∷ 3 ∷ 0 ∷ 0 ∷ 3 ∷ []) (goal_alone (parallel (rtimer_of 3) (rtimer_of 3)))
      (Go 1 ∷ Go 0 ∷ Wait 4 ∷ Wait 4294967295 ∷ [])
      (accepted ∷ accepted ∷ Err (Overdue 2) ∷ Err (Overdue 2) ∷ [])
      3 (record { clock = 0; expression = parallel (pending 2 3 3 0) (pending 1 3 3 0); lines = reads 0 Called 3 3 ∷ reads 0 Called 3 3 ∷ []; totals = totals 2 0 0 0 })
