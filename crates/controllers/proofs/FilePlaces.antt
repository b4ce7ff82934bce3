-- The places of the faults of a file: each has 32 bits. Assumes nothing.
use Rattle.std.proofs.Common.{◌≡◌, ℕ, ◌≤◌, Bool, true, false, cond, eqb, List, [], ◌∷◌, length, Some, Ok, Err, Option, MatchResult, IfErr, IfSome, sym, refl, subst, arith}
use Rattle.std.specs.List.{AllByRecursion}
use Rattle.std.proofs.lemmas.Bool.{leb-true}
use Rattle.std.proofs.lemmas.Option.{none-some}
use Rattle.std.proofs.lemmas.List.{length-take}
use Rattle.std.proofs.Math.Nat.{min-le_right}
use Rattle.orc.specs.Meaning.{Meaning}
use Rattle.orc.specs.Expressions.{Expression, Definition}
use Rattle.orc.specs.Files.{File}
use Rattle.formats.specs.declared.fault.Fault.{Fault}
use Rattle.formats.specs.Faults.{told}
use Rattle.formats.specs.Operands.{byte_at, first_broken}
use Rattle.files.specs.Judgement.{Outcome, Scope, Command, commands, named, FaultyCommand, none_there, unknown, broken, FormOutcome, bad_command, reads_alone, bad_left, bad_right, reads_two, WholeOutcome, bad_form, trailing, whole, definition_end, definition_rules, DefinitionOutcome, bad_head, bad_body, defines, defined_first, RestOutcome, bad_definition, good_definition, bad_goal, good_goal, count_rules, FileOutcome, too_long, bad_count, by_bytes}
use Rattle.controllers.proofs.Rules.{broken_near, all_kept}

-- of the commands of a list
named_near : (b : ℕ) (cs : List Command) (c : Command) (f : Fault) → AllByRecursion (λ d. AllByRecursion (λ r. (told r.fault).place ≤ 5000) d.rules) cs → named b cs ≡ Some c → first_broken c.rules ≡ Some f → (told f).place ≤ 5000
named_near b [] c f all is fault = absurd (none-some c is)
named_near b (d ∷ cs) c f all is fault = by_case (λ rest. named_near b cs c f all.1 rest fault) (eqb b d.byte) refl
  where
    by_case : (named b cs ≡ Some c → (told f).place ≤ 5000) → (x : Bool) → eqb b d.byte ≡ x → (told f).place ≤ 5000
    by_case later true same =
        let first : Some d ≡ Some c = subst (λ x. cond x (Some d) (named b cs) ≡ Some c) same is in
        let P : Option Command → Type 0 = λ o. IfSome o (λ h. AllByRecursion (λ r. (told r.fault).place ≤ 5000) h.rules) in
        let near : AllByRecursion (λ r. (told r.fault).place ≤ 5000) c.rules = subst P first all.0 in
        broken_near c.rules f near fault
    by_case later false other = later (subst (λ x. cond x (Some d) (named b cs) ≡ Some c) other is)

command_near : (m : Meaning) (n : ℕ) (bs : List ℕ) (scope : Scope) (at : ℕ) (f : Fault) → length bs ≤ 4096 → FaultyCommand m n bs scope at f → (told f).place ≤ 5000
command_near m n bs scope at f short (none_there past) = omega arith
command_near m n bs scope at f short (unknown within none) = omega arith
command_near m n bs scope at f short (broken c within there is) =
    named_near (byte_at bs at) (commands m n bs scope at) c f (
      tt,
      (
        (omega arith, (omega arith, (omega arith, (omega arith, (omega arith, (omega arith, (omega arith, (omega arith, tt)))))))),
        (
          (omega arith, (omega arith, (omega arith, (omega arith, (omega arith, (omega arith, (omega arith, tt))))))),
          (
            tt,
            (
              (omega arith, (omega arith, tt)),
              (
                (omega arith, (omega arith, tt)),
                tt,
              ),
            ),
          ),
        ),
      ),
    ) there is

form_near : {m : Meaning} {n : ℕ} {bs : List ℕ} {scope : Scope} {at : ℕ} {o : Outcome (Expression × ℕ)} → length bs ≤ 4096 → FormOutcome m n bs scope at o → IfErr o (λ f. (told f).place ≤ 5000)
form_near {m} {n} {bs} short (bad_command {scope} {at} {f} faulty) = command_near m n bs scope at f short faulty
form_near short (reads_alone sound) = tt
form_near short (bad_left sound left) = form_near short left
form_near short (bad_right sound left right) = form_near short right
form_near short (reads_two sound left right) = tt

whole_near : {m : Meaning} {n : ℕ} {bs : List ℕ} {scope : Scope} {at : ℕ} {o : Outcome Expression} → length bs ≤ 4096 → WholeOutcome m n bs scope at o → IfErr o (λ f. (told f).place ≤ 5000)
whole_near short (bad_form form) = form_near short form
whole_near short (trailing form more) = omega arith
whole_near short (whole form all) = tt

-- a definition that is sound ends where the file goes on
definition_near : {m : Meaning} {n : ℕ} {bs : List ℕ} {at : ℕ} {o : Outcome Definition} → length bs ≤ 4096 → at ≤ 4096 → DefinitionOutcome m n bs at o → MatchResult o (λ _. definition_end bs at ≤ length bs) (λ f. (told f).place ≤ 5000)
definition_near {m} {n} {bs} {at} short near (bad_head {f} is) = broken_near (definition_rules bs at) f (omega arith, (omega arith, (omega arith, (omega arith, tt)))) is
definition_near {m} {n} {bs} {at} short near (bad_body kept body) = whole_near (let l = length-take (definition_end bs at) bs in let k = min-le_right (definition_end bs at) (length bs) in omega arith) body
definition_near {m} {n} {bs} {at} short near (defines kept body) = leb-true (definition_end bs at) (length bs) (all_kept (definition_rules bs at) kept).1.1.1.0

first_near : (d : Definition) (o : Outcome File) → IfErr o (λ f. (told f).place ≤ 5000) → IfErr (defined_first d o) (λ f. (told f).place ≤ 5000)
first_near d (Ok file) near = tt
first_near d (Err f) near = near

rest_near : {m : Meaning} {n : ℕ} {bs : List ℕ} {k at : ℕ} {o : Outcome File} → length bs ≤ 4096 → at ≤ 4096 → RestOutcome m n bs k at o → IfErr o (λ f. (told f).place ≤ 5000)
rest_near short near (bad_definition definition) = definition_near short near definition
rest_near short near (good_definition {k} {at} {d} {o} {o'} definition rest is) =
    let P : Outcome File → Type 0 = λ r. IfErr r (λ f. (told f).place ≤ 5000) in
    let end = definition_near short near definition in
    subst P (sym is) (first_near d o (rest_near short (omega arith) rest))
rest_near short near (bad_goal goal) = whole_near short goal
rest_near short near (good_goal goal) = tt

pub file_near : (m : Meaning) (bs : List ℕ) (o : Outcome File) → FileOutcome m bs o → IfErr o (λ f. (told f).place ≤ 5000)
file_near m bs o (too_long past) = omega arith
file_near m bs o (bad_count {f} short is) = broken_near (count_rules bs) f (omega arith, (omega arith, tt)) is
file_near m bs o (by_bytes short kept rest) = rest_near short (omega arith) rest
