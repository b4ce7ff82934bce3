-- What a line of a script says. Assumes nothing.
use Rattle.std.specs.Prelude.{◌≡◌, ℕ, List, [], ◌∷◌, Some, None, Ok, Err, codes, Option, Result, ◌≢◌, slice_index}
use Rattle.runs.specs.declared.call.Call.{Call}
use Rattle.runs.specs.declared.call.Call.TheVariants.{Go, Answer, Wait}
use Rattle.scripts.specs.declared.fault.LineFault.{LineFault}
use Rattle.scripts.specs.declared.fault.LineFault.TheVariants.{UnknownWord}
use Rattle.scripts.specs.Operands.{operands}

-- the words that a line with a call begins with, and that of a call
pub data Verb : Type 0 where
  go : Verb
  answer : Verb
  wait : Verb

abbrev pub verb_of : Call → Verb
verb_of (Go n) = go
verb_of (Answer k v) = answer
verb_of (Wait d) = wait

abbrev pub spelling : Verb → List ℕ
spelling go = codes "go"
spelling answer = codes "answer"
spelling wait = codes "wait"

-- the numbers of a call, and the largest that can stand after a word
abbrev pub numbers : Call → List ℕ
numbers (Go n) = n ∷ []
numbers (Answer k v) = k ∷ v ∷ []
numbers (Wait d) = d ∷ []

abbrev pub limits : Verb → List ℕ
limits go = 4294967295 ∷ []
limits answer = 4294967295 ∷ 65535 ∷ []
limits wait = 4294967295 ∷ []

-- a call, nothing, or a fault
abbrev pub Outcome : Type 0
Outcome = Result (Option Call) LineFault

-- What the words of a line say. A line with no word says nothing, and neither does one whose first word begins with #,
-- which is 35. A line says a call if its first word is that of the call and the others write the call's numbers. If they
-- do not, then their fault is the line's. A line that begins with any other word is at fault for that word.
pub data Says (ws : List (List ℕ)) : Outcome → Type 0 where
  is_blank : ws ≡ [] → Says ws (Ok None)
  is_comment : (w : List ℕ) (rest : List (List ℕ)) → ws ≡ w ∷ rest → slice_index w 0 ≡ 35 → Says ws (Ok None)
  is_call : (c : Call) (rest : List (List ℕ)) → ws ≡ spelling (verb_of c) ∷ rest → operands (limits (verb_of c)) rest ≡ Ok (numbers c) → Says ws (Ok (Some c))
  is_faulty : (v : Verb) (rest : List (List ℕ)) (f : LineFault) → ws ≡ spelling v ∷ rest → operands (limits v) rest ≡ Err f → Says ws (Err f)
  is_unknown : (w : List ℕ) (rest : List (List ℕ)) → ws ≡ w ∷ rest → (slice_index w 0 ≢ 35) → ((v : Verb) → w ≢ spelling v) → Says ws (Err UnknownWord)
