-- A file that is accepted is the encoding of a well-formed file. Assumes nothing.
use Rattle.std.proofs.Common.{◌≡◌, ℕ, suc, ◌+◌, ◌-◌, ◌≤◌, Bool, true, false, eqb, List, [], ◌∷◌, ◌++◌, length, take, drop, Ok, Err, sym, refl, ap, ◌∙◌, subst, inl, inr, append_assoc, append-nil, add-zero, add_assoc, arith}
use Rattle.std.specs.List.{AllByRecursion}
use Rattle.std.proofs.lemmas.List.{length-take-le, length-drop, get_or-take, get_or_past, drop_all, drop-append-le, take-append-drop}
use Rattle.std.proofs.lemmas.Bool.{cases_lt, leb-true, eqb-true, or_cases, false≢true}
use Rattle.orc.specs.Meaning.{Meaning}
use Rattle.orc.specs.Expressions.{Expression, Definition, two_bytes, bytes, size}
use Rattle.orc.specs.Variables.{free}
use Rattle.orc.specs.Sound.{Closed}
use Rattle.orc.specs.Files.{File, definition_bytes, definitions_bytes, file_bytes, proper, WellFormedDefinition, WellFormed}
use Rattle.formats.specs.declared.fault.Fault.{Fault}
use Rattle.formats.specs.Operands.{byte_at, Bytes, two_at}
use Rattle.formats.proofs.Left.{byte_by_byte, two_back}
use Rattle.files.specs.Judgement.{Outcome, Scope, nothing_bound, binding, WholeOutcome, whole, definition_end, definition_rules, DefinitionOutcome, defines, defined_first, RestOutcome, bad_definition, good_definition, bad_goal, good_goal, count_rules, FileOutcome, by_bytes}
use Rattle.files.proofs.Rules.{all_kept}
use Rattle.files.proofs.Decoded.{BoundIn, form_decoded}

-- what is bound where nothing is, and where the formal is
closed : (e : Expression) → BoundIn nothing_bound e → Closed e
closed e bound x = by_test (free x e) refl
  where
    by_test : (b : Bool) → free x e ≡ b → b ≡ false
    by_test true t = absurd (false≢true (bound x t))
    by_test false t = refl

closed_but : (formal : ℕ) (e : Expression) → BoundIn (binding formal nothing_bound) e → (x : ℕ) → free x e ≡ true → x ≡ formal
closed_but formal e bound x t = elim (or_cases (eqb x formal) false (bound x t)) [ inl is ↦ eqb-true x formal is | inr never ↦ absurd (false≢true never) ]

-- the bytes up to an end are bytes
bytes_up_to : (bs : List ℕ) (end : ℕ) → end ≤ length bs → Bytes bs → Bytes (take end bs)
bytes_up_to bs end within fit i =
    elim (cases_lt i end) [
      | inl below ↦ rw (get_or-take end bs i 0 below) (fit i)
      | inr above ↦ rw (get_or_past (take end bs) i 0 (rw (length-take-le end bs within) above)) (omega arith)
    ]

-- and what stands from an offset on is what stands up to the end, and what stands behind it
split_at_end : (bs : List ℕ) (at end : ℕ) → at ≤ end → end ≤ length bs → drop at bs ≡ drop at (take end bs) ++ drop end bs
split_at_end bs at end first last =
    ap (drop at) (sym (take-append-drop end bs)) ∙ drop-append-le at (take end bs) (drop end bs) (rw (length-take-le end bs last) first)

module _ (m : Meaning) (n : ℕ) where
  record WholeDecoded (bs : List ℕ) (scope : Scope) (at : ℕ) (e : Expression) : Type 0 where
    there : drop at bs ≡ bytes e
    is_proper : proper m n e ≡ true
    bound : BoundIn scope e

  whole_decoded : (bs : List ℕ) → Bytes bs → {scope : Scope} {at : ℕ} {e : Expression} → WholeOutcome m n bs scope at (Ok e) → WholeDecoded bs scope at e
  whole_decoded bs fit (whole {e} {end} judged all) =
      let d = form_decoded m n bs fit judged in
      record { there = d.there ∙ ap (λ l. bytes e ++ l) (drop_all end bs all) ∙ append-nil (bytes e); is_proper = d.is_proper; bound = d.bound }

  module _ (bs : List ℕ) (fit : Bytes bs) where
    record Defined (at : ℕ) (d : Definition) : Type 0 where
      there : drop at bs ≡ definition_bytes d ++ drop (definition_end bs at) bs
      well_formed : WellFormedDefinition m n d

    definition_decoded : {at : ℕ} {d : Definition} → DefinitionOutcome m n bs at (Ok d) → Defined at d
    definition_decoded {at} (defines {e} kept judged) =
        let k = all_kept (definition_rules bs at) kept in
        let end = definition_end bs at in
        let last : end ≤ length bs = leb-true end (length bs) k.1.1.1.0 in
        let body = whole_decoded (take end bs) (bytes_up_to bs end last fit) judged in
        let long : size e ≡ two_at bs (at + 1) = sym (ap length body.there) ∙ length-drop (at + 3) (take end bs) ∙ ap (λ l. l - (at + 3)) (length-take-le end bs last) ∙ omega arith in
        let behind : drop (at + 3) bs ≡ bytes e ++ drop end bs = split_at_end bs (at + 3) end (omega arith) last ∙ ap (λ l. l ++ drop end bs) body.there in
        let head : byte_at bs at ∷ byte_at bs (at + 1) ∷ byte_at bs (at + 2) ∷ drop (at + 3) bs ≡ drop at bs = cc (byte_by_byte bs at 3 (omega arith), add-zero at) in
        let written : two_bytes (size e) ≡ byte_at bs (at + 1) ∷ byte_at bs (at + 2) ∷ [] = ap two_bytes long ∙ two_back bs fit (at + 1) ∙ ap (λ i. byte_at bs (at + 1) ∷ byte_at bs i ∷ []) (add_assoc at 1 1) in
        record {
          there = sym head ∙ ap (λ l. byte_at bs at ∷ byte_at bs (at + 1) ∷ byte_at bs (at + 2) ∷ l) behind ∙ ap (λ l. byte_at bs at ∷ (l ++ (bytes e ++ drop end bs))) (sym written);
          well_formed = record { formal_fits = leb-true (byte_at bs at) 31 k.1.0; body_proper = body.is_proper; closed_but_formal = closed_but (byte_at bs at) e body.bound };
        }

    record RestDecoded (k at : ℕ) (file : File) : Type 0 where
      there : drop at bs ≡ definitions_bytes file.definitions ++ bytes file.goal
      count : length file.definitions ≡ k
      definitions_well_formed : AllByRecursion (WellFormedDefinition m n) file.definitions
      goal_proper : proper m n file.goal ≡ true
      goal_closed : Closed file.goal

    one_more : {k at : ℕ} {d : Definition} {file : File} → Defined at d → RestDecoded k (definition_end bs at) file → (file' : File) → ◌≡◌ {A = Outcome File} (Ok file') (defined_first d (Ok file)) → RestDecoded (suc k) at file'
    one_more {k} {at} {d} {file} first rest file' is =
        let made : File = record { definitions = d ∷ file.definitions; goal = file.goal } in
        let same : made ≡ file' = cc in
        subst (RestDecoded (suc k) at) same (record {
          there = first.there ∙ ap (λ l. definition_bytes d ++ l) rest.there ∙ sym (append_assoc (definition_bytes d) (definitions_bytes file.definitions) (bytes file.goal));
          count = ap suc rest.count;
          definitions_well_formed = (first.well_formed, rest.definitions_well_formed);
          goal_proper = rest.goal_proper;
          goal_closed = rest.goal_closed;
        })

    -- what is refused is not accepted
    never : {A : Type 0} (f : Fault) (file : File) → ◌≡◌ {A = Outcome File} (Err f) (Ok file) → A
    never f file is = let z : ◌≡◌ {A = ℕ} 0 1 = cc in absurd (omega arith)

    goal_alone : {at : ℕ} {e : Expression} → WholeDecoded bs nothing_bound at e → (file : File) → ◌≡◌ {A = Outcome File} (Ok (record { definitions = []; goal = e })) (Ok file) → RestDecoded 0 at file
    goal_alone {at} {e} form file is =
        let made : File = record { definitions = []; goal = e } in
        let same : made ≡ file = cc in
        subst (RestDecoded 0 at) same (record { there = form.there; count = refl; definitions_well_formed = tt; goal_proper = form.is_proper; goal_closed = closed e form.bound })

    rest_decoded : {k at : ℕ} {o : Outcome File} → RestOutcome m n bs k at o → (file : File) → o ≡ Ok file → RestDecoded k at file
    rest_decoded (bad_definition {f = f} _) file accepted = never f file accepted
    rest_decoded (good_definition {o = Ok rest} good judged is) file accepted = one_more (definition_decoded good) (rest_decoded judged rest refl) file (sym accepted ∙ is)
    rest_decoded (good_definition {o = Err f} good judged is) file accepted = never f file (sym is ∙ accepted)
    rest_decoded (bad_goal {f = f} _) file accepted = never f file accepted
    rest_decoded (good_goal judged) file accepted = goal_alone (whole_decoded bs fit judged) file accepted

-- a list with a first element
first_of : (bs : List ℕ) → 1 ≤ length bs → bs ≡ byte_at bs 0 ∷ drop 1 bs
first_of [] some = absurd (omega arith)
first_of (b ∷ bs) some = refl

pub decoded : (m : Meaning) (bs : List ℕ) → Bytes bs → (file : File) → FileOutcome m bs (Ok file) → WellFormed m file × (bs ≡ file_bytes file)
unfolding file_bytes
decoded m bs fit file (by_bytes short kept judged) =
    let k = all_kept (count_rules bs) kept in
    let n = byte_at bs 0 in
    let rest = rest_decoded m n bs fit judged file refl in
    let is : bs ≡ file_bytes file = first_of bs (leb-true 1 (length bs) k.0) ∙ ap (λ l. n ∷ l) rest.there ∙ ap (λ c. c ∷ (definitions_bytes file.definitions ++ bytes file.goal)) (sym rest.count) in
    let at_count : (P : ℕ → Type 0) → P n → P (length file.definitions) = λ P p. subst P (sym rest.count) p in (
      record {
        few = at_count (λ c. c ≤ 16) (leb-true n 16 k.1.0);
        definitions_well_formed = at_count (λ c. AllByRecursion (WellFormedDefinition m c) file.definitions) rest.definitions_well_formed;
        goal_proper = at_count (λ c. proper m c file.goal ≡ true) rest.goal_proper;
        goal_closed = rest.goal_closed;
        short = subst (λ (l : List ℕ). length l ≤ 4096) is short;
      },
      is,
    )
