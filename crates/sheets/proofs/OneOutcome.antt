-- Every sheet has exactly one outcome: what a sheet comes to is computed, command by command. Assumes nothing.
use Rattle.std.proofs.Common.{◌≡◌, ℕ, zero, suc, ◌+◌, ◌-◌, ◌<◌, ◌≤◌, false, cond, eqb, ltb, List, [], ◌∷◌, reverse, length, Some, None, Ok, Err, Option, sym, refl, inl, inr, arith}
use Rattle.std.proofs.lemmas.Bool.{lt-ltb, le-ltb, ltb-true, ltb-false, eqb-true, eqb-false, ne_eqb, cond_both, cases_lt, true≢false}
use Rattle.formats.specs.declared.fault.Fault.{Fault}
use Rattle.formats.specs.declared.fault.Fault.TheVariants.{UnknownCommand, TooLong, WindowBeforeRow, EmptyRow, TooMany}
use Rattle.formats.specs.Operands.{byte_at, first_broken}
use Rattle.formats.specs.Widths.{width_of}
use Rattle.sheets.specs.Format.{SheetRow, row_at, row_rules, window_at, window_rules, with_window, newest_done, Reads, reads_row, reads_window, Faulty, no_command, after_empty_row, row_65, bad_row, window_first, window_5, bad_window, Outcome, Judged, goes_on, stops, ends, ends_empty, SheetOutcome, too_long, by_bytes}
use Rattle.sheets.specs.Laws.{ExactlyOneOutcome}
use Rattle.sheets.proofs.Commands.{wide}

-- the rows that a command makes, unless a rule is broken
abbrev unless : Option Fault → List SheetRow → Outcome
unless None rs = Ok rs
unless (Some f) rs = Err f

module _ (bs : List ℕ) (at : ℕ) where
  abbrev row_command : List SheetRow → Outcome
  row_command rs = cond (newest_done rs) (cond (ltb (length rs) 64) (unless (first_broken (row_rules bs at)) (row_at bs at ∷ rs)) (Err (TooMany at))) (Err (EmptyRow (at - 7)))

  abbrev window_command : List SheetRow → Outcome
  window_command [] = Err (WindowBeforeRow at)
  window_command (r ∷ rs) = cond (ltb (length r.windows) 4) (unless (first_broken (window_rules bs at)) (with_window r (window_at bs at) ∷ rs)) (Err (TooMany at))

  -- what the command at an offset comes to, after the rows read so far
  abbrev command : List SheetRow → Outcome
  command rs = cond (eqb (byte_at bs at) 16) (row_command rs) (cond (eqb (byte_at bs at) 17) (window_command rs) (Err (UnknownCommand at)))

  read_command : {rs rs' : List SheetRow} → Reads bs at rs rs' → command rs ≡ Ok rs'
  read_command {rs} (reads_row b done few sound made) = let few' = lt-ltb (length rs) 64 few in cc
  read_command (reads_window r rest b is few sound made) = let few' = lt-ltb (length r.windows) 4 few in cc

  faulty_command : {rs : List SheetRow} {f : Fault} → Faulty bs at rs f → command rs ≡ Err f
  faulty_command (no_command x y) = let x' = ne_eqb (byte_at bs at) 16 x in let y' = ne_eqb (byte_at bs at) 17 y in cc
  faulty_command (after_empty_row {p} b open_row back) = let back' : at - 7 ≡ p = omega arith in cc
  faulty_command {rs} (row_65 b done many) = let many' = le-ltb (length rs) 64 many in cc
  faulty_command {rs} (bad_row b done few broken) = let few' = lt-ltb (length rs) 64 few in cc
  faulty_command (window_first b none) = cc
  faulty_command (window_5 r rest b is many) = let many' = le-ltb (length r.windows) 4 many in cc
  faulty_command (bad_window r rest b is few broken) = let few' = lt-ltb (length r.windows) 4 few in cc

  -- the command is read with these rows, or has this fault
  abbrev Answers : List SheetRow → Outcome → Type 0
  Answers rs (Ok rs') = Reads bs at rs rs'
  Answers rs (Err f) = Faulty bs at rs f

  by_rules : {rs rs' : List SheetRow} (broken : Option Fault) → (broken ≡ None → Reads bs at rs rs') → ((f : Fault) → broken ≡ Some f → Faulty bs at rs f) → Answers rs (unless broken rs')
  by_rules None sound faulty = sound refl
  by_rules (Some f) sound faulty = faulty f refl

  row_answer : (rs : List SheetRow) → byte_at bs at ≡ 16 → (newest_done rs ≡ false → 7 ≤ at) → Answers rs (row_command rs)
  row_answer rs b far =
      cond_both (newest_done rs) _ _ (Answers rs)
      (λ done. cond_both (ltb (length rs) 64) _ _ (Answers rs)
      (λ few. let few' = ltb-true (length rs) 64 few in by_rules (first_broken (row_rules bs at)) (λ sound. reads_row b done few' sound refl) (λ f broken. bad_row b done few' broken))
      (λ many. row_65 b done (ltb-false (length rs) 64 many)))
      (λ open_row. let far' = far open_row in after_empty_row b open_row (omega arith))

  window_answer : (rs : List SheetRow) → byte_at bs at ≡ 17 → Answers rs (window_command rs)
  window_answer [] b = window_first b refl
  window_answer (r ∷ rs) b =
      let n = length r.windows in
      cond_both (ltb n 4) _ _ (Answers (r ∷ rs))
      (λ few. let few' = ltb-true n 4 few in by_rules (first_broken (window_rules bs at)) (λ sound. reads_window r rs b refl few' sound refl) (λ f broken. bad_window r rs b refl few' broken))
      (λ many. window_5 r rs b refl (ltb-false n 4 many))

  answer : (rs : List SheetRow) → (newest_done rs ≡ false → 7 ≤ at) → Answers rs (command rs)
  answer rs far =
      let b = byte_at bs at in
      cond_both (eqb b 16) _ _ (Answers rs)
      (λ row. row_answer rs (eqb-true b 16 row) far)
      (λ no_row. cond_both (eqb b 17) _ _ (Answers rs)
      (λ window. window_answer rs (eqb-true b 17 window))
      (λ no_window. no_command (eqb-false b 16 no_row) (eqb-false b 17 no_window)))

-- a fault, or what the rest comes to after these rows
abbrev and_then : Outcome → (List SheetRow → Outcome) → Outcome
and_then (Ok rs) rest = rest rs
and_then (Err f) rest = Err f

-- what a sheet comes to whose bytes end at an offset
abbrev at_end : ℕ → List SheetRow → Outcome
at_end at rs = cond (newest_done rs) (Ok (reverse rs)) (Err (EmptyRow (at - 7)))

module _ (bs : List ℕ) where
  -- what the bytes from an offset on come to; the first number is above the number of bytes that are left
  abbrev outcome : ℕ → ℕ → List SheetRow → Outcome
  outcome zero at rs = Err TooLong
  outcome (suc k) at rs = cond (ltb at (length bs)) (and_then (command bs at rs) (λ rs'. outcome k (at + width_of (byte_at bs at)) rs')) (at_end at rs)

  judged_once : (k : ℕ) {at : ℕ} {rs : List SheetRow} {o : Outcome} → length bs - at < k → Judged bs at rs o → outcome k at rs ≡ o
  judged_once zero enough j = absurd (omega arith)
  judged_once (suc k) enough (goes_on {at} within reads rest) = let w = wide reads in rw (lt-ltb at (length bs) within, read_command bs at reads) (judged_once k (omega arith) rest)
  judged_once (suc k) enough (stops {at} within faulty) = rw (lt-ltb at (length bs) within, faulty_command bs at faulty)
  judged_once (suc k) enough (ends {at} past done) = rw (le-ltb at (length bs) past, done)
  judged_once (suc k) enough (ends_empty {at} {p} past open_row back) = let back' : at - 7 ≡ p = omega arith in rw (le-ltb at (length bs) past, open_row, back')

  judged_end : (at : ℕ) (rs : List SheetRow) → length bs ≤ at → (newest_done rs ≡ false → 7 ≤ at) → Judged bs at rs (at_end at rs)
  judged_end at rs past far = cond_both (newest_done rs) _ _ (Judged bs at rs) (λ done. ends past done) (λ open_row. let far' = far open_row in ends_empty past open_row (omega arith))

  judged : (k at : ℕ) (rs : List SheetRow) → length bs - at < k → (newest_done rs ≡ false → 7 ≤ at) → Judged bs at rs (outcome k at rs)
  judged zero at rs enough far = absurd (omega arith)
  judged (suc k) at rs enough far =
      cond_both (ltb at (length bs)) _ _ (Judged bs at rs)
      (λ t. let within = ltb-true at (length bs) t in next within (command bs at rs) (answer bs at rs far) (λ rs' reads. let w = wide reads in judged k (at + width_of (byte_at bs at)) rs' (omega arith) (λ _. omega arith)))
      (λ past. judged_end at rs (ltb-false at (length bs) past) far)
    where
      next : at < length bs → (o : Outcome) → Answers bs at rs o
          → ((rs' : List SheetRow) → Reads bs at rs rs' → Judged bs (at + width_of (byte_at bs at)) rs' (outcome k (at + width_of (byte_at bs at)) rs'))
          → Judged bs at rs (and_then o (λ rs'. outcome k (at + width_of (byte_at bs at)) rs'))
      next within (Ok rs') reads rest = goes_on within reads (rest rs' reads)
      next within (Err f) faulty rest = stops within faulty

  once_too_long : 4096 < length bs → (o : Outcome) → SheetOutcome bs o → o ≡ Err TooLong
  once_too_long long o (too_long _) = refl
  once_too_long long o (by_bytes short _) = absurd (omega arith)

  once_by_bytes : (k : ℕ) → length bs < k → length bs ≤ 4096 → (o : Outcome) → SheetOutcome bs o → o ≡ outcome k 0 []
  once_by_bytes k enough short o (too_long long) = absurd (omega arith)
  once_by_bytes k enough short o (by_bytes _ j) = sym (judged_once k (omega arith) j)

pub one_outcome : ExactlyOneOutcome
one_outcome bs =
    let k = suc (length bs) in
    elim (cases_lt 4096 (length bs)) [
      | inl long ↦ (Err TooLong, too_long long, once_too_long bs long)
      | inr short ↦ (outcome bs k 0 [], by_bytes short (judged bs k 0 [] (omega arith) (λ t. absurd (true≢false t))), once_by_bytes bs k (omega arith) short)
    ]
