-- The encoding of a well-formed file is accepted, as this file. Assumes nothing.
use Rattle.std.proofs.Common.{◌≡◌, ℕ, ◌+◌, ◌≤◌, true, false, eqb, leb, List, [], ◌∷◌, ◌++◌, length, take, drop, Ok, sym, refl, ap, ◌∙◌, subst, append_assoc, append-nil, arith}
use Rattle.std.specs.List.{AllByRecursion}
use Rattle.std.proofs.lemmas.List.{length-append, drop_at, take_at, drop-take}
use Rattle.std.proofs.lemmas.Bool.{le-leb, eq-eqb, or_left, false≢true}
use Rattle.orc.specs.Meaning.{Meaning}
use Rattle.orc.specs.Expressions.{Expression, Definition, bytes, size}
use Rattle.orc.specs.Sound.{Closed}
use Rattle.orc.specs.Files.{File, definition_bytes, definitions_bytes, file_bytes, proper, WellFormedDefinition, WellFormed}
use Rattle.formats.specs.Operands.{byte_at, two_at}
use Rattle.formats.proofs.Left.{two_left, length_left, drop_left, first_left}
use Rattle.files.specs.Judgement.{Scope, nothing_bound, binding, WholeOutcome, whole, definition_end, definition_rules, DefinitionOutcome, defines, RestOutcome, good_definition, good_goal, count_rules, FileOutcome, by_bytes}
use Rattle.files.proofs.Rules.{AllKept, none_broken}
use Rattle.files.proofs.Decoded.{BoundIn}
use Rattle.files.proofs.Encoded.{form_encoded}

module _ (m : Meaning) (n : ℕ) where
  whole_encoded : (bs : List ℕ) (scope : Scope) (at : ℕ) (e : Expression) → drop at bs ≡ bytes e → proper m n e ≡ true → BoundIn scope e → WholeOutcome m n bs scope at (Ok e)
  whole_encoded bs scope at e there is_proper bound =
      let long = length_left bs at there in
      whole (form_encoded m n bs e scope is_proper bound at [] (there ∙ sym (append-nil (bytes e)))) (omega arith)

  module _ (bs : List ℕ) where
    module _ (at : ℕ) (d : Definition) (rest : List ℕ) (there : drop at bs ≡ definition_bytes d ++ rest) where
      formal_there : byte_at bs at ≡ d.formal
      formal_there = first_left bs at there

      long : two_at bs (at + 1) ≡ size d.body
      long = two_left bs at there 1 ∙ omega arith

      -- behind the formal and the length
      behind : drop (at + 3) bs ≡ bytes d.body ++ rest
      behind = drop_left bs at there 3

      definition_behind : drop (definition_end bs at) bs ≡ rest
      definition_behind = drop_left bs (at + 3) behind (two_at bs (at + 1)) ∙ drop_at (bytes d.body) rest (two_at bs (at + 1)) (sym long)

      body_there : drop (at + 3) (take (definition_end bs at) bs) ≡ bytes d.body
      body_there = drop-take (at + 3) (two_at bs (at + 1)) bs ∙ ap (take (two_at bs (at + 1))) behind ∙ take_at (bytes d.body) rest (two_at bs (at + 1)) (sym long)

      definition_encoded : WellFormedDefinition m n d → DefinitionOutcome m n bs at (Ok d)
      definition_encoded ok =
          let all = length_left bs at there in
          let parts = length-append (bytes d.body) rest in
          let fits : leb (byte_at bs at) 31 ≡ true = le-leb (byte_at bs at) 31 (omega (arith, formal_there, ok.formal_fits)) in
          let kept : AllKept (definition_rules bs at)
          = (le-leb (at + 1) (length bs) (omega arith), (fits, (le-leb (at + 3) (length bs) (omega arith), (le-leb (definition_end bs at) (length bs) (omega (arith, long)), tt)))) in
          let bound : BoundIn (binding (byte_at bs at) nothing_bound) d.body
          = λ x t. or_left (eqb x (byte_at bs at)) false (eq-eqb x (byte_at bs at) (ok.closed_but_formal x t ∙ sym formal_there)) in
          subst (λ (f : ℕ). DefinitionOutcome m n bs at (Ok (record { formal = f; body = d.body }))) formal_there
          (defines (none_broken (definition_rules bs at) kept) (whole_encoded (take (definition_end bs at) bs) (binding (byte_at bs at) nothing_bound) (at + 3) d.body body_there ok.body_proper bound))

    rest_encoded : (ds : List Definition) (goal : Expression) (at : ℕ) → drop at bs ≡ definitions_bytes ds ++ bytes goal → AllByRecursion (WellFormedDefinition m n) ds → proper m n goal ≡ true → Closed goal
        → RestOutcome m n bs (length ds) at (Ok (record { definitions = ds; goal = goal }))
    rest_encoded [] goal at there ok is_proper closed = good_goal (whole_encoded bs nothing_bound at goal there is_proper (λ x t. absurd (false≢true (sym (closed x) ∙ t))))
    rest_encoded (d ∷ ds) goal at there ok is_proper closed =
        let first : drop at bs ≡ definition_bytes d ++ (definitions_bytes ds ++ bytes goal) = there ∙ append_assoc (definition_bytes d) (definitions_bytes ds) (bytes goal) in
        good_definition (definition_encoded at d _ first ok.0) (rest_encoded ds goal (definition_end bs at) (definition_behind at d _ first) ok.1 is_proper closed) refl

pub encoded : (m : Meaning) (bs : List ℕ) (file : File) → WellFormed m file → bs ≡ file_bytes file → FileOutcome m bs (Ok file)
unfolding file_bytes
encoded m bs file ok is =
    let n = length file.definitions in
    let count : byte_at bs 0 ≡ n = ap (λ l. byte_at l 0) is in
    let some = ap length is in
    let kept : AllKept (count_rules bs) = (le-leb 1 (length bs) (omega arith), (le-leb (byte_at bs 0) 16 (omega (arith, ok.few)), tt)) in
    by_bytes (subst (λ (l : List ℕ). length l ≤ 4096) (sym is) ok.short) (none_broken (count_rules bs) kept)
    (subst (λ (n : ℕ). RestOutcome m n bs n 1 (Ok file)) (sym count) (rest_encoded m n bs file.definitions file.goal 1 (ap (drop 1) is) ok.definitions_well_formed ok.goal_proper ok.goal_closed))
