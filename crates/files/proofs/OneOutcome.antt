-- Every file has exactly one outcome over a meaning: what it comes to is computed, command by command. Assumes nothing.
use Rattle.std.proofs.Common.{◌≡◌, ℕ, zero, suc, ◌+◌, ◌-◌, ◌<◌, ◌≤◌, cond, ltb, List, [], length, take, Some, None, Ok, Err, Option, sym, refl, ap, ◌∙◌, inl, inr, arith}
use Rattle.std.proofs.lemmas.Bool.{lt-ltb, le-ltb, ltb-true, ltb-false, cond_both, cases_lt}
use Rattle.orc.specs.Meaning.{Meaning}
use Rattle.orc.specs.Expressions.{Expression, Definition}
use Rattle.orc.specs.Files.{File}
use Rattle.formats.specs.declared.fault.Fault.{Fault}
use Rattle.formats.specs.declared.fault.Fault.TheVariants.{CutShort, UnknownCommand, TooLong, TrailingBytes}
use Rattle.formats.specs.Operands.{byte_at, first_broken}
use Rattle.formats.specs.Widths.{width_of}
use Rattle.forms.proofs.Counting.{wide}
use Rattle.files.specs.Judgement.{Outcome, Scope, nothing_bound, binding, Begun, alone, of_two, Command, command_at, SoundCommand, FaultyCommand, none_there, unknown, broken, FormOutcome, bad_command, reads_alone, bad_left, bad_right, reads_two, WholeOutcome, bad_form, trailing, whole, definition_end, definition_rules, BodyOutcome, DefinitionOutcome, bad_head, bad_body, defines, defined_first, RestOutcome, bad_definition, good_definition, bad_goal, good_goal, count_rules, FileOutcome, too_long, bad_count, by_bytes}
use Rattle.files.specs.Laws.{ExactlyOneOutcome}
use Rattle.files.proofs.Commands.{none_named}

-- what is read, unless a rule is broken
abbrev unless : {X : Type 0} → Option Fault → X → Outcome X
unless None x = Ok x
unless (Some f) x = Err f

-- a fault, or what the rest comes to
abbrev and_then : {X Y : Type 0} → Outcome X → (X → Outcome Y) → Outcome Y
and_then (Ok x) rest = rest x
and_then (Err f) rest = Err f

module _ (m : Meaning) (n : ℕ) (bs : List ℕ) where
  -- the command at an offset
  abbrev judged_command : ℕ → Option Command → Outcome Begun
  judged_command at None = Err (UnknownCommand at)
  judged_command at (Some c) = unless (first_broken c.rules) c.begun

  abbrev command : Scope → ℕ → Outcome Begun
  command scope at = cond (ltb at (length bs)) (judged_command at (command_at m n bs scope at)) (Err (CutShort (length bs)))

  module _ {scope : Scope} {at : ℕ} where
    sound_once : {b : Begun} → SoundCommand m n bs scope at b → command scope at ≡ Ok b
    sound_once {b} c =
        rw (lt-ltb at (length bs) c.within, c.there) (ap (λ broken. unless broken c.command.begun) c.kept ∙ ap Ok c.begins)

    faulty_once : {f : Fault} → FaultyCommand m n bs scope at f → command scope at ≡ Err f
    faulty_once (none_there past) = rw (le-ltb at (length bs) past)
    faulty_once (unknown within none) = rw (lt-ltb at (length bs) within, none)
    faulty_once (broken c within there fault) = rw (lt-ltb at (length bs) within, there, fault)

  abbrev Answers : Scope → ℕ → Outcome Begun → Type 0
  Answers scope at (Ok b) = SoundCommand m n bs scope at b
  Answers scope at (Err f) = FaultyCommand m n bs scope at f

  answer : (scope : Scope) (at : ℕ) → Answers scope at (command scope at)
  answer scope at = cond_both (ltb at (length bs)) _ _ (Answers scope at) (λ t. there (ltb-true at (length bs) t) (command_at m n bs scope at) refl) (λ t. none_there (ltb-false at (length bs) t))
    where
      by_rules : at < length bs → (c : Command) → command_at m n bs scope at ≡ Some c → (r : Option Fault) → first_broken c.rules ≡ r → Answers scope at (unless r c.begun)
      by_rules within c is None kept = record { within = within; command = c; there = is; kept = kept; begins = refl }
      by_rules within c is (Some f) fault = broken c within is fault

      there : at < length bs → (o : Option Command) → command_at m n bs scope at ≡ o → Answers scope at (judged_command at o)
      there within None none = unknown within none
      there within (Some c) is = by_rules within c is (first_broken c.rules) refl

  -- a command has a width
  pub sound_wide : {scope : Scope} {at : ℕ} {b : Begun} → SoundCommand m n bs scope at b → 0 < width_of (byte_at bs at)
  sound_wide {scope} {at} c =
      elim (cases_lt 5 (byte_at bs at)) [
        | inl above ↦ let none = none_named m n bs scope at (byte_at bs at) above in let some = c.there in let z : ◌≡◌ {A = ℕ} 0 1 = cc in absurd (omega arith)
        | inr below ↦ wide (byte_at bs at) (omega arith)
      ]

  -- a form is read forward
  pub forward : {scope : Scope} {at end : ℕ} {e : Expression} → FormOutcome m n bs scope at (Ok (e, end)) → at < end
  forward (reads_alone c) = let w = sound_wide c in omega arith
  forward (reads_two c left right) = let w = sound_wide c in let a = forward left in let b = forward right in omega arith

  -- what a command comes to with its parts, each of which is judged by a function
  abbrev with_parts : (Scope → ℕ → Outcome (Expression × ℕ)) → ℕ → Begun → Outcome (Expression × ℕ)
  with_parts part behind (alone e) = Ok (e, behind)
  with_parts part behind (of_two left right make) = and_then (part left behind) (λ l. and_then (part right l.1) (λ r. Ok (make l.0 r.0, r.1)))

  -- the form at an offset; the first number is above the number of bytes that are left
  abbrev form : ℕ → Scope → ℕ → Outcome (Expression × ℕ)
  form zero scope at = Err TooLong
  form (suc k) scope at = and_then (command scope at) (λ b. with_parts (λ s i. form k s i) (at + width_of (byte_at bs at)) b)

  form_once : (k : ℕ) {scope : Scope} {at : ℕ} {o : Outcome (Expression × ℕ)} → length bs - at < k → FormOutcome m n bs scope at o → form k scope at ≡ o
  form_once zero enough judged = absurd (omega arith)
  form_once (suc k) enough (bad_command faulty) = rw (faulty_once faulty)
  form_once (suc k) enough (reads_alone sound) = rw (sound_once sound)
  form_once (suc k) enough (bad_left sound left) = let w = sound_wide sound in let p = sound.within in rw (sound_once sound, form_once k (omega arith) left)
  form_once (suc k) enough (bad_right sound left right) =
      let w = sound_wide sound in let p = sound.within in let f = forward left in rw (sound_once sound, form_once k (omega arith) left, form_once k (omega arith) right)
  form_once (suc k) enough (reads_two sound left right) =
      let w = sound_wide sound in let p = sound.within in let f = forward left in rw (sound_once sound, form_once k (omega arith) left, form_once k (omega arith) right)

  module _ (k : ℕ) (part-judged : (s : Scope) (i : ℕ) → length bs - i < k → FormOutcome m n bs s i (form k s i)) (scope : Scope) (at : ℕ) (enough : length bs - at < suc k) where
    abbrev behind : ℕ
    behind = at + width_of (byte_at bs at)

    module _ {left right : Scope} {make : Expression → Expression → Expression} (sound : SoundCommand m n bs scope at (of_two left right make)) where
      right_judged : {e : Expression} {middle : ℕ} → FormOutcome m n bs left behind (Ok (e, middle)) → (o : Outcome (Expression × ℕ)) → FormOutcome m n bs right middle o
          → FormOutcome m n bs scope at (and_then o (λ r. Ok (make e r.0, r.1)))
      right_judged first (Ok (e, end)) second = reads_two sound first second
      right_judged first (Err f) second = bad_right sound first second

      left_judged : (o : Outcome (Expression × ℕ)) → FormOutcome m n bs left behind o
          → FormOutcome m n bs scope at (and_then o (λ l. and_then (form k right l.1) (λ r. Ok (make l.0 r.0, r.1))))
      left_judged (Ok (e, middle)) first =
          let w = sound_wide sound in let p = sound.within in let f = forward first in right_judged first (form k right middle) (part-judged right middle (omega arith))
      left_judged (Err f) first = bad_left sound first

    command_judged : (o : Outcome Begun) → Answers scope at o → FormOutcome m n bs scope at (and_then o (λ b. with_parts (λ s i. form k s i) behind b))
    command_judged (Ok (alone e)) sound = reads_alone sound
    command_judged (Ok (of_two left right make)) sound =
        let w = sound_wide sound in let p = sound.within in left_judged sound (form k left behind) (part-judged left behind (omega arith))
    command_judged (Err f) faulty = bad_command faulty

  form_judged : (k : ℕ) (scope : Scope) (at : ℕ) → length bs - at < k → FormOutcome m n bs scope at (form k scope at)
  form_judged zero scope at enough = absurd (omega arith)
  form_judged (suc k) scope at enough = command_judged k (λ s i h. form_judged k s i h) scope at enough (command scope at) (answer scope at)

  -- the form that is to end where the bytes end
  abbrev ended : Outcome (Expression × ℕ) → Outcome Expression
  ended (Ok (e, end)) = cond (ltb end (length bs)) (Err (TrailingBytes end)) (Ok e)
  ended (Err f) = Err f

  abbrev whole_form : Scope → ℕ → Outcome Expression
  whole_form scope at = ended (form (suc (length bs)) scope at)

  whole_once : {scope : Scope} {at : ℕ} {o : Outcome Expression} → WholeOutcome m n bs scope at o → whole_form scope at ≡ o
  whole_once (bad_form judged) = rw (form_once (suc (length bs)) (omega arith) judged)
  whole_once (trailing {end = end} judged more) = rw (form_once (suc (length bs)) (omega arith) judged, lt-ltb end (length bs) more)
  whole_once (whole {end = end} judged all) = rw (form_once (suc (length bs)) (omega arith) judged, le-ltb end (length bs) all)

  ended_judged : (scope : Scope) (at : ℕ) (o : Outcome (Expression × ℕ)) → FormOutcome m n bs scope at o → WholeOutcome m n bs scope at (ended o)
  ended_judged scope at (Ok (e, end)) judged =
      cond_both (ltb end (length bs)) _ _ (WholeOutcome m n bs scope at) (λ t. trailing judged (ltb-true end (length bs) t)) (λ t. whole judged (ltb-false end (length bs) t))
  ended_judged scope at (Err f) judged = bad_form judged

  whole_judged : (scope : Scope) (at : ℕ) → WholeOutcome m n bs scope at (whole_form scope at)
  whole_judged scope at = ended_judged scope at (form (suc (length bs)) scope at) (form_judged (suc (length bs)) scope at (omega arith))

module _ (m : Meaning) (n : ℕ) (bs : List ℕ) where
  -- a definition
  abbrev body : ℕ → Outcome Expression
  body at = whole_form m n (take (definition_end bs at) bs) (binding (byte_at bs at) nothing_bound) (at + 3)

  abbrev defined : ℕ → Expression → Outcome Definition
  defined at e = Ok (record { formal = byte_at bs at; body = e })

  abbrev definition : ℕ → Outcome Definition
  definition at = and_then (unless (first_broken (definition_rules bs at)) at) (λ i. and_then (body at) (defined at))

  definition_once : {at : ℕ} {o : Outcome Definition} → DefinitionOutcome m n bs at o → definition at ≡ o
  definition_once (bad_head fault) = rw fault
  definition_once {at} (bad_body kept judged) = rw (kept, whole_once m n (take (definition_end bs at) bs) judged)
  definition_once {at} (defines kept judged) = rw (kept, whole_once m n (take (definition_end bs at) bs) judged)

  definition_judged : (at : ℕ) → DefinitionOutcome m n bs at (definition at)
  definition_judged at = by_rules (first_broken (definition_rules bs at)) refl
    where
      by_body : first_broken (definition_rules bs at) ≡ None → (o : Outcome Expression) → BodyOutcome m n bs at o → DefinitionOutcome m n bs at (and_then o (defined at))
      by_body kept (Ok e) judged = defines kept judged
      by_body kept (Err f) judged = bad_body kept judged

      by_rules : (r : Option Fault) → first_broken (definition_rules bs at) ≡ r → DefinitionOutcome m n bs at (and_then (unless r at) (λ i. and_then (body at) (defined at)))
      by_rules None kept = by_body kept (body at) (whole_judged m n (take (definition_end bs at) bs) (binding (byte_at bs at) nothing_bound) (at + 3))
      by_rules (Some f) fault = bad_head fault

  -- k definitions and the goal
  abbrev goal_alone : Expression → Outcome File
  goal_alone e = Ok (record { definitions = []; goal = e })

  abbrev rest : ℕ → ℕ → Outcome File
  rest zero at = and_then (whole_form m n bs nothing_bound at) goal_alone
  rest (suc k) at = and_then (definition at) (λ d. defined_first d (rest k (definition_end bs at)))

  rest_once : {k at : ℕ} {o : Outcome File} → RestOutcome m n bs k at o → rest k at ≡ o
  rest_once (bad_definition bad) = rw (definition_once bad)
  rest_once (good_definition good judged is) = rw (definition_once good, rest_once judged) (sym is)
  rest_once (bad_goal judged) = rw (whole_once m n bs judged)
  rest_once (good_goal judged) = rw (whole_once m n bs judged)

  goal_judged : (at : ℕ) (o : Outcome Expression) → WholeOutcome m n bs nothing_bound at o → RestOutcome m n bs 0 at (and_then o goal_alone)
  goal_judged at (Ok e) judged = good_goal judged
  goal_judged at (Err f) judged = bad_goal judged

  more_judged : (k at : ℕ) → RestOutcome m n bs k (definition_end bs at) (rest k (definition_end bs at)) → (o : Outcome Definition) → DefinitionOutcome m n bs at o
      → RestOutcome m n bs (suc k) at (and_then o (λ d. defined_first d (rest k (definition_end bs at))))
  more_judged k at judged (Ok d) good = good_definition good judged refl
  more_judged k at judged (Err f) bad = bad_definition bad

  rest_judged : (k at : ℕ) → RestOutcome m n bs k at (rest k at)
  rest_judged zero at = goal_judged at (whole_form m n bs nothing_bound at) (whole_judged m n bs nothing_bound at)
  rest_judged (suc k) at = more_judged k at (rest_judged k (definition_end bs at)) (definition at) (definition_judged at)

module _ (m : Meaning) (bs : List ℕ) where
  abbrev count : ℕ
  count = byte_at bs 0

  once_too_long : 4096 < length bs → (o : Outcome File) → FileOutcome m bs o → o ≡ Err TooLong
  once_too_long long o (too_long _) = refl
  once_too_long long o (bad_count short _) = absurd (omega arith)
  once_too_long long o (by_bytes short _ _) = absurd (omega arith)

  abbrev counted : Option Fault → Outcome File
  counted r = and_then (unless r count) (λ _. rest m count bs count 1)

  once_by_bytes : length bs ≤ 4096 → (o : Outcome File) → FileOutcome m bs o → o ≡ counted (first_broken (count_rules bs))
  once_by_bytes short o (too_long long) = absurd (omega arith)
  once_by_bytes short o (bad_count _ fault) = rw fault
  once_by_bytes short o (by_bytes _ kept judged) = rw kept (sym (rest_once m count bs judged))

  counted_judged : length bs ≤ 4096 → (r : Option Fault) → first_broken (count_rules bs) ≡ r → FileOutcome m bs (counted r)
  counted_judged short None kept = by_bytes short kept (rest_judged m count bs count 1)
  counted_judged short (Some f) fault = bad_count short fault

pub one_outcome : ExactlyOneOutcome
one_outcome m bs =
    elim (cases_lt 4096 (length bs)) [
      | inl long ↦ (Err TooLong, too_long long, once_too_long m bs long)
      | inr short ↦ (counted m bs (first_broken (count_rules bs)), counted_judged m bs short (first_broken (count_rules bs)) refl, once_by_bytes m bs short)
    ]
