-- Calls that are ordered in numbers. Assumes nothing.
use Rattle.std.specs.Prelude.{◌≡◌, ℕ, List, [], ◌∷◌, cond, ◌==◌, nat_le, Some, None, Option, MatchOption}
use Rattle.runs.specs.declared.call.Call.{Call}
use Rattle.runs.specs.declared.call.Call.TheVariants.{Go, Answer, Wait}
use Rattle.runs.specs.Refusals.{told}
use Rattle.orc.specs.Meaning.{Meaning}
use Rattle.runs.specs.States.{State}
use Rattle.runs.specs.Outcomes.{Response, Outcome}
use Rattle.controllers.specs.declared.verdict.Verdict.{Verdict}
use Rattle.controllers.specs.declared.order.Order.{Order}
use Rattle.controllers.specs.Told.{no_call, verdict_on}

-- the call of a kind: 0 is go, 1 is answer, 2 is wait, and there is no other
abbrev pub call_of_kind : ℕ → ℕ → ℕ → Option Call
call_of_kind kind number value =
    cond (kind == 0) (Some (Go number)) (cond (kind == 1) (Some (Answer number value)) (cond (kind == 2) (Some (Wait number)) None))

-- the call that is ordered; with a value of more than 16 bits there is none
abbrev pub call_of : Order → Option Call
call_of o = cond (nat_le o.value 65535) (call_of_kind o.kind o.number o.value) None

-- an order with what it met noted
abbrev pub noted : Order → Verdict → Order
noted o v = record { kind = o.kind; number = o.number; value = o.value; outcome = v }

-- In state s the call of an order is made, and v tells its response; what is no call makes nothing, and v says so.
abbrev pub Makes : Meaning → State → Order → Verdict → State → Type 0
Makes m s o v s' =
    MatchOption (call_of o)
    ((v ≡ no_call) × (s' ≡ s))
    (λ c. (r : Response) × Outcome m s c r s' × (v ≡ verdict_on told r))

-- Met os cs rs os': of the orders os those that are calls are cs, in their order. With the responses rs to these, os' are the orders with
-- what each met noted: the response to its call, or that no call was made.
pub data Met : List Order → List Call → List Response → List Order → Type 0 where
  none_left : Met [] [] [] []
  is_call : {o : Order} {c : Call} {r : Response} {os os' : List Order} {cs : List Call} {rs : List Response}
      → call_of o ≡ Some c → Met os cs rs os' → Met (o ∷ os) (c ∷ cs) (r ∷ rs) (noted o (verdict_on told r) ∷ os')
  is_no_call : {o : Order} {os os' : List Order} {cs : List Call} {rs : List Response}
      → call_of o ≡ None → Met os cs rs os' → Met (o ∷ os) cs rs (noted o no_call ∷ os')
