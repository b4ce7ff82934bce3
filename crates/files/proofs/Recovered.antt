-- The bytes of a file are read back as the file. Assumes nothing.
use Rattle.std.proofs.Common.{◌≡◌, ℕ, zero, suc, ◌<◌, List, [], ◌∷◌, ◌++◌, length, drop, sym, refl, ap, ◌∙◌, subst, ap₂, append_assoc, arith}
use Rattle.std.proofs.lemmas.List.{take_at, drop_at}
use Rattle.orc.specs.Expressions.{Expression, Definition, bytes, size}
use Rattle.orc.specs.Files.{File, definition_bytes, definitions_bytes, file_bytes}
use Rattle.formats.specs.Operands.{byte_at, two_at}
use Rattle.forms.specs.Reading.{expression_of}
use Rattle.forms.specs.Heads.{IsForm}
use Rattle.forms.proofs.ReadBack.{read_back}
use Rattle.files.specs.Contents.{body_bytes, first_definition, behind_definition, definitions_of, behind_definitions, goal_bytes, file_of}

module _ (d : Definition) (rest : List ℕ) where
  abbrev in_front : List ℕ
  in_front = definition_bytes d ++ rest

  long : two_at in_front 1 ≡ size d.body
  long = omega arith

  pub body_back : body_bytes in_front ≡ bytes d.body
  body_back = take_at (bytes d.body) rest (two_at in_front 1) (sym long)

  pub behind_back : behind_definition in_front ≡ rest
  behind_back = drop_at (bytes d.body) rest (two_at in_front 1) (sym long)

  first_back : first_definition in_front ≡ d
  first_back = let body : expression_of (body_bytes in_front) ≡ d.body = ap expression_of body_back ∙ read_back d.body in λ i. record { formal = d.formal; body = body i }

definitions_back : (ds : List Definition) (rest : List ℕ) → definitions_of (length ds) (definitions_bytes ds ++ rest) ≡ ds
unfolding definitions_of
definitions_back [] rest = refl
definitions_back (d ∷ ds) rest =
    let behind = definitions_bytes ds ++ rest in
    ap (definitions_of (suc (length ds))) (append_assoc (definition_bytes d) (definitions_bytes ds) rest)
    ∙ ap₂ (λ d ds. d ∷ ds) (first_back d behind) (ap (definitions_of (length ds)) (behind_back d behind) ∙ definitions_back ds rest)

pub behind_all_back : (ds : List Definition) (rest : List ℕ) → behind_definitions (length ds) (definitions_bytes ds ++ rest) ≡ rest
unfolding behind_definitions
behind_all_back [] rest = refl
behind_all_back (d ∷ ds) rest =
    ap (behind_definitions (suc (length ds))) (append_assoc (definition_bytes d) (definitions_bytes ds) rest)
    ∙ ap (behind_definitions (length ds)) (behind_back d (definitions_bytes ds ++ rest)) ∙ behind_all_back ds rest

pub file_back : (file : File) → file_of (file_bytes file) ≡ file
unfolding file_of file_bytes
file_back file =
    let goal : expression_of (goal_bytes (file_bytes file)) ≡ file.goal = ap expression_of (behind_all_back file.definitions (bytes file.goal)) ∙ read_back file.goal in
    let definitions = definitions_back file.definitions (bytes file.goal) in
    λ i. record { definitions = definitions i; goal = goal i }

-- and the forms in them are those of the definitions and the goal
form_there : (l : List ℕ) (e : Expression) → l ≡ bytes e → IsForm l
form_there l e is = ap bytes (ap expression_of is ∙ read_back e) ∙ sym is

nth_body : (ds : List Definition) (rest : List ℕ) (i : ℕ) → i < length ds → IsForm (body_bytes (behind_definitions i (definitions_bytes ds ++ rest)))
unfolding behind_definitions
nth_body [] rest i within = absurd (omega arith)
nth_body (d ∷ ds) rest zero within =
    form_there _ d.body (ap body_bytes (append_assoc (definition_bytes d) (definitions_bytes ds) rest) ∙ body_back d (definitions_bytes ds ++ rest))
nth_body (d ∷ ds) rest (suc i) within =
    let there : behind_definition (definitions_bytes (d ∷ ds) ++ rest) ≡ definitions_bytes ds ++ rest
    = ap behind_definition (append_assoc (definition_bytes d) (definitions_bytes ds) rest) ∙ behind_back d (definitions_bytes ds ++ rest) in
    subst (λ (l : List ℕ). IsForm (body_bytes (behind_definitions i l))) (sym there) (nth_body ds rest i (omega arith))

module _ (bs : List ℕ) (file : File) (is : bs ≡ file_bytes file) where
  pub body_whole : (i : ℕ) → i < byte_at bs 0 → IsForm (body_bytes (behind_definitions i (drop 1 bs)))
  unfolding file_bytes
  body_whole i within =
      let count : byte_at bs 0 ≡ length file.definitions = ap (λ l. byte_at l 0) is in
      subst (λ (l : List ℕ). IsForm (body_bytes (behind_definitions i (drop 1 l)))) (sym is) (nth_body file.definitions (bytes file.goal) i (omega arith))

  pub goal_whole : IsForm (goal_bytes bs)
  unfolding file_bytes
  goal_whole = form_there (goal_bytes bs) file.goal (ap goal_bytes is ∙ behind_all_back file.definitions (bytes file.goal))
