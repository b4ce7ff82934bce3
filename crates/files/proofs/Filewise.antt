-- A file is judged definition by definition, and then its goal. Assumes nothing.
use Rattle.std.proofs.Common.{◌≡◌, ℕ, suc, ◌+◌, ◌-◌, ◌<◌, ◌≤◌, List, ◌∷◌, [], ◌++◌, length, length-append, None, Ok, Err, Result, refl, sym, subst, arith, MatchResult}
use Rattle.orc.specs.Meaning.{Meaning}
use Rattle.orc.specs.Expressions.{Expression, Definition}
use Rattle.orc.specs.Files.{File}
use Rattle.formats.specs.declared.fault.Fault.{Fault}
use Rattle.formats.specs.Operands.{byte_at, first_broken}
use Rattle.files.specs.Judgement.{Outcome, Scope, nothing_bound, WholeOutcome, definition_end, DefinitionOutcome, defined_first, RestOutcome, bad_definition, good_definition, bad_goal, good_goal, count_rules, FileOutcome, by_bytes}
use Rattle.files.specs.Progress.{EndsIn}

module _ (m : Meaning) (n : ℕ) (bs : List ℕ) where
  at_first : (o : Outcome File) → RestOutcome m n bs n 1 o → MatchResult o (λ _. (file : File) × RestOutcome m n bs n 1 (Ok file)) (λ f. RestOutcome m n bs n 1 (Err f))
  at_first (Ok file) rest = (file, rest)
  at_first (Err f) rest = rest

  pub starts : {k : ℕ} → k ≡ n → EndsIn m n bs k 1
  starts all = record { decides = λ o rest. at_first o (subst (λ (k : ℕ). RestOutcome m n bs k 1 o) all rest) }

  -- i definitions have been passed
  module _ (i : ℕ) {at : ℕ} (before : EndsIn m n bs (n - i) at) where
    -- a definition that is good decides nothing
    passed_by : (d : Definition) (o : Outcome File) → RestOutcome m n bs (n - i) at (defined_first d o)
        → MatchResult o (λ _. (file : File) × RestOutcome m n bs n 1 (Ok file)) (λ f. RestOutcome m n bs n 1 (Err f))
    passed_by d (Ok file) rest = before.decides _ rest
    passed_by d (Err f) rest = before.decides _ rest

    one_fewer : i < n → suc (n - (i + 1)) ≡ n - i
    one_fewer more = omega arith

    pub over_definition : i < n → {d : Definition} {next : ℕ} → DefinitionOutcome m n bs at (Ok d) → next ≡ definition_end bs at → EndsIn m n bs (n - (i + 1)) next
    over_definition more {d} good there =
        rw there (record { decides = λ o rest. passed_by d o (subst (λ (k : ℕ). RestOutcome m n bs k at (defined_first d o)) (one_fewer more) (good_definition good rest refl)) })

    pub at_definition : i < n → {f : Fault} → DefinitionOutcome m n bs at (Err f) → RestOutcome m n bs n 1 (Err f)
    at_definition more {f} bad = before.decides (Err f) (subst (λ (k : ℕ). RestOutcome m n bs k at (Err f)) (one_fewer more) (bad_definition bad))

    pub all_passed : n ≤ i → EndsIn m n bs 0 at
    all_passed all = let none : n - i ≡ 0 = omega arith in subst (λ (k : ℕ). EndsIn m n bs k at) none before

  -- as many definitions as a list is long have been passed, and another one is good
  pub passed_one_more : (xs : List ℕ) (x : ℕ) {at next : ℕ} → (length xs ≤ n → EndsIn m n bs (n - length xs) at) → ((d : Definition) × DefinitionOutcome m n bs at (Ok d)) → next ≡ definition_end bs at
      → length (xs ++ (x ∷ [])) ≤ n → EndsIn m n bs (n - length (xs ++ (x ∷ []))) next
  passed_one_more xs x {at} {next} before (d, good) there within =
      let longer = length-append xs (x ∷ []) in
      subst (λ (l : ℕ). EndsIn m n bs (n - l) next) (sym longer) (over_definition (length xs) (before (omega (arith, longer))) (omega (arith, longer)) good there)

  pub at_goal : {at : ℕ} {scope : Scope} → EndsIn m n bs 0 at → scope ≡ nothing_bound → {A : Type 0} (r : Result A Fault)
      → MatchResult r (λ _. (e : Expression) × WholeOutcome m n bs scope at (Ok e)) (λ f. WholeOutcome m n bs scope at (Err f))
      → MatchResult r (λ _. (file : File) × RestOutcome m n bs n 1 (Ok file)) (λ f. RestOutcome m n bs n 1 (Err f))
  at_goal {at} before none (Ok _) (e, form) = before.decides _ (good_goal (subst (λ (s : Scope). WholeOutcome m n bs s at (Ok e)) none form))
  at_goal {at} before none (Err f) bad = before.decides _ (bad_goal (subst (λ (s : Scope). WholeOutcome m n bs s at (Err f)) none bad))

-- the count stands in the file's first byte
module _ (m : Meaning) (bs : List ℕ) {n : ℕ} (is : n ≡ byte_at bs 0) (short : length bs ≤ 4096) (kept : first_broken (count_rules bs) ≡ None) where
  pub of_file : {o : Outcome File} → RestOutcome m n bs n 1 o → FileOutcome m bs o
  of_file {o} rest = by_bytes short kept (subst (λ (n : ℕ). RestOutcome m n bs n 1 o) is rest)

  pub file_judged : {A : Type 0} (r : Result A Fault) → MatchResult r (λ _. (file : File) × RestOutcome m n bs n 1 (Ok file)) (λ f. RestOutcome m n bs n 1 (Err f))
      → MatchResult r (λ _. (file : File) × FileOutcome m bs (Ok file)) (λ f. FileOutcome m bs (Err f))
  file_judged (Ok _) (file, rest) = (file, of_file rest)
  file_judged (Err f) rest = of_file rest
