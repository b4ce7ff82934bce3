-- The form of an expression that may stand somewhere is read where it stands, as this expression. Assumes nothing.
use Rattle.std.proofs.Common.{◌≡◌, ℕ, ◌+◌, ◌<◌, true, false, not, ◌&&◌, eqb, ltb, leb, List, ◌∷◌, ◌++◌, length, drop, Some, Ok, refl, ap, ◌∙◌, subst, inl, inr, append_assoc, arith}
use Rattle.std.proofs.lemmas.List.{length-append, drop_at}
use Rattle.std.proofs.lemmas.Bool.{and_parts, and_from, or_left, or_right, eq-eqb, le-leb, ne_eqb, cond-true, cond-false, cases_Bool, false≢true}
use Rattle.orc.specs.Meaning.{Meaning, is_known}
use Rattle.orc.specs.Expressions.{Parameter, value, variable, Expression, stop, site_call, definition_call, parallel, sequential, pruning, pending, parameter_bytes, bytes, size}
use Rattle.orc.specs.Variables.{is_variable, free}
use Rattle.orc.specs.Files.{proper_parameter, proper}
use Rattle.formats.specs.Operands.{byte_at, two_at, first_broken}
use Rattle.formats.specs.Widths.{width_of}
use Rattle.formats.proofs.Left.{byte_left, two_left, length_left, drop_left, first_left}
use Rattle.forms.specs.Reading.{parameter_at}
use Rattle.files.specs.Judgement.{Scope, binding, parameter_rules, site_call_rules, definition_call_rules, binder_rules, alone, of_two, Command, commands, named, SoundCommand, FormOutcome, reads_alone, reads_two}
use Rattle.files.proofs.Commands.{sound_there}
use Rattle.files.proofs.Rules.{AllKept, none_broken}
use Rattle.files.proofs.Decoded.{BoundIn}

module _ (bs : List ℕ) (scope : Scope) where
  -- a parameter that may stand here is read where its bytes stand, and breaks no rule
  record ParameterThere (at : ℕ) (p : Parameter) : Type 0 where
    kept : AllKept (parameter_rules bs scope at)
    is : parameter_at bs at ≡ p

  parameter_there : (at : ℕ) (rest : List ℕ) (p : Parameter) → drop at bs ≡ parameter_bytes p ++ rest → proper_parameter p ≡ true → ((x : ℕ) → is_variable x p ≡ true → scope x ≡ true) → ParameterThere at p
  parameter_there at rest (value v) left is_proper bound =
      let long = length_left bs at left in
      let mark : byte_at bs at ≡ 0 = first_left bs at left in
      let number : two_at bs (at + 1) ≡ v = two_left bs at left 1 ∙ omega arith in
      let is-value : eqb (byte_at bs at) 0 ≡ true = eq-eqb (byte_at bs at) 0 mark in
      record {
        kept = (le-leb (at + 1) (length bs) (omega arith), (le-leb (byte_at bs at) 1 (omega arith), (le-leb (at + 3) (length bs) (omega arith), (or_left _ _ is-value, (or_left _ _ is-value, tt)))));
        is = cond-true (eqb (byte_at bs at) 0) _ _ is-value ∙ ap value number;
      }
  parameter_there at rest (variable x) left is_proper bound =
      let long = length_left bs at left in
      let mark : byte_at bs at ≡ 1 = first_left bs at left in
      let number : two_at bs (at + 1) ≡ x = two_left bs at left 1 ∙ omega arith in
      let is_variable : eqb (byte_at bs at) 0 ≡ false = ne_eqb (byte_at bs at) 0 (λ e. omega arith) in
      record {
        kept = (
          le-leb (at + 1) (length bs) (omega arith),
          (
            le-leb (byte_at bs at) 1 (omega arith),
            (
              le-leb (at + 3) (length bs) (omega arith),
              (or_right _ _ (ap (λ y. leb y 31) number ∙ is_proper), (or_right _ _ (ap scope number ∙ bound x (eq-eqb x x refl)), tt)),
            ),
          ),
        );
        is = cond-false (eqb (byte_at bs at) 0) _ _ is_variable ∙ ap variable number;
      }

module _ (m : Meaning) (n : ℕ) (bs : List ℕ) where
  -- a command without parts, as wide as its bytes
  alone_read : (scope : Scope) (at b : ℕ) (e : Expression) → byte_at bs at ≡ b → width_of b ≡ size e → SoundCommand m n bs scope at (alone e) → FormOutcome m n bs scope at (Ok (e, at + size e))
  alone_read scope at b e is wide sound = let same : width_of (byte_at bs at) ≡ size e = ap width_of is ∙ wide in subst (λ (w : ℕ). FormOutcome m n bs scope at (Ok (e, at + w))) same (reads_alone sound)

  -- e is read wherever its form stands
  abbrev ReadAnywhere : Scope → Expression → Type 0
  ReadAnywhere scope e = (at : ℕ) (rest : List ℕ) → drop at bs ≡ bytes e ++ rest → FormOutcome m n bs scope at (Ok (e, at + size e))

  -- a command with parts, which are read behind it, one behind the other
  two_read : (scope left right : Scope) (at b : ℕ) (make : Expression → Expression → Expression) (f g : Expression) (rest : List ℕ) → byte_at bs at ≡ b
      → size (make f g) ≡ width_of b + length (bytes f ++ bytes g) → drop (at + width_of b) bs ≡ (bytes f ++ bytes g) ++ rest
      → SoundCommand m n bs scope at (of_two left right make) → ReadAnywhere left f → ReadAnywhere right g → FormOutcome m n bs scope at (Ok (make f g, at + size (make f g)))
  two_read scope left right at b make f g rest is wide there sound reads-f reads-g =
      let start = at + width_of b in
      let middle = start + size f in
      let at_f : drop start bs ≡ bytes f ++ (bytes g ++ rest) = there ∙ append_assoc (bytes f) (bytes g) rest in
      let at_g : drop middle bs ≡ bytes g ++ rest = drop_left bs start at_f (size f) ∙ drop_at (bytes f) (bytes g ++ rest) (size f) refl in
      let end : middle + size g ≡ at + size (make f g) = omega (arith, length-append (bytes f) (bytes g)) in
      let behind : FormOutcome m n bs left (at + width_of (byte_at bs at)) (Ok (f, middle)) = rw is (reads-f start (bytes g ++ rest) at_f) in
      subst (λ (i : ℕ). FormOutcome m n bs scope at (Ok (make f g, i))) end (reads_two sound behind (reads-g middle rest at_g))

  module _ (scope : Scope) (at : ℕ) where
    within_list : {b : ℕ} {l : List ℕ} → drop at bs ≡ b ∷ l → at < length bs
    within_list there = let long = length_left bs at there in omega arith

    -- a variable that is free below a binder of x is x, or free outside
    bound_below : (x : ℕ) (e : Expression) → ((y : ℕ) → (not (eqb y x) && free y e) ≡ true → scope y ≡ true) → BoundIn (binding x scope) e
    bound_below x e outside y t =
        elim (cases_Bool (eqb y x)) [
          | inl same ↦ or_left (eqb y x) (scope y) same
          | inr other ↦ or_right (eqb y x) (scope y) (outside y (and_from (not (eqb y x)) (free y e) (ap not other) t))
        ]

    stop_encoded : (rest : List ℕ) → drop at bs ≡ bytes stop ++ rest → FormOutcome m n bs scope at (Ok (stop, at + size stop))
    unfolding bytes
    stop_encoded rest there = let is = first_left bs at there in alone_read scope at 0 stop is refl (sound_there m n bs scope at (within_list there) 0 is _ refl refl refl)

    site_call_encoded : (s : ℕ) (p : Parameter) (rest : List ℕ) → drop at bs ≡ bytes (site_call s p) ++ rest → proper m n (site_call s p) ≡ true → BoundIn scope (site_call s p)
        → FormOutcome m n bs scope at (Ok (site_call s p, at + size (site_call s p)))
    unfolding bytes proper free
    site_call_encoded s p rest there is_proper bound =
        let is = first_left bs at there in
        let long = length_left bs at there in
        let site : byte_at bs (at + 1) ≡ s = byte_left bs at there 1 in
        let a = and_parts (leb s 31) (is_known (m s) && proper_parameter p) is_proper in
        let b = and_parts (is_known (m s)) (proper_parameter p) a.1 in
        let q = parameter_there bs scope (at + 2) rest p (drop_left bs at there 2) b.1 bound in
        let kept : AllKept (site_call_rules m bs scope at)
        = (le-leb (at + 2) (length bs) (omega arith), (ap (λ s. leb s 31) site ∙ a.0, (ap (λ s. is_known (m s)) site ∙ b.0, q.kept))) in
        alone_read scope at 1 (site_call s p) is refl
        (sound_there m n bs scope at (within_list there) 1 is _ refl (none_broken (site_call_rules m bs scope at) kept) (ap (λ s. alone (site_call s (parameter_at bs (at + 2)))) site ∙ ap (λ p. alone (site_call s p)) q.is))

    definition_call_encoded : (i : ℕ) (p : Parameter) (rest : List ℕ) → drop at bs ≡ bytes (definition_call i p) ++ rest → proper m n (definition_call i p) ≡ true → BoundIn scope (definition_call i p)
        → FormOutcome m n bs scope at (Ok (definition_call i p, at + size (definition_call i p)))
    unfolding bytes proper free
    definition_call_encoded i p rest there is_proper bound =
        let is = first_left bs at there in
        let long = length_left bs at there in
        let number : byte_at bs (at + 1) ≡ i = byte_left bs at there 1 in
        let a = and_parts (ltb i n) (proper_parameter p) is_proper in
        let q = parameter_there bs scope (at + 2) rest p (drop_left bs at there 2) a.1 bound in
        let kept : AllKept (definition_call_rules n bs scope at) = (le-leb (at + 2) (length bs) (omega arith), (ap (λ i. ltb i n) number ∙ a.0, q.kept)) in
        alone_read scope at 2 (definition_call i p) is refl
        (sound_there m n bs scope at (within_list there) 2 is _ refl (none_broken (definition_call_rules n bs scope at) kept) (ap (λ i. alone (definition_call i (parameter_at bs (at + 2)))) number ∙ ap (λ p. alone (definition_call i p)) q.is))

    binder_sound : (b x : ℕ) {l : List ℕ} {left right : Scope} {make : Expression → Expression → Expression} (c : ℕ → Command) → drop at bs ≡ b ∷ x ∷ l → leb x 31 ≡ true
        → named b (commands m n bs scope at) ≡ Some (c (byte_at bs (at + 1))) → (c (byte_at bs (at + 1))).rules ≡ binder_rules bs at → (c x).begun ≡ of_two left right make → SoundCommand m n bs scope at (of_two left right make)
    binder_sound b x c there fits found rules begun =
        let is = first_left bs at there in
        let long = length_left bs at there in
        let operand : byte_at bs (at + 1) ≡ x = byte_left bs at there 1 in
        let kept = none_broken (binder_rules bs at) (le-leb (at + 2) (length bs) (omega arith), (ap (λ x. leb x 31) operand ∙ fits, tt)) in
        sound_there m n bs scope at (within_list there) b is (c (byte_at bs (at + 1))) found (ap first_broken rules ∙ kept) (ap (λ x. (c x).begun) operand ∙ begun)

  pub form_encoded : (e : Expression) (scope : Scope) → proper m n e ≡ true → BoundIn scope e → ReadAnywhere scope e
  unfolding bytes proper free
  form_encoded stop scope is_proper bound at rest there = stop_encoded scope at rest there
  form_encoded (site_call s p) scope is_proper bound at rest there = site_call_encoded scope at s p rest there is_proper bound
  form_encoded (definition_call i p) scope is_proper bound at rest there = definition_call_encoded scope at i p rest there is_proper bound
  form_encoded (parallel f g) scope is_proper bound at rest there =
      let is = first_left bs at there in
      let a = and_parts (proper m n f) (proper m n g) is_proper in
      two_read scope scope scope at 3 parallel f g rest is (omega arith) (drop_left bs at there 1) (sound_there m n bs scope at (within_list scope at there) 3 is _ refl refl refl)
      (form_encoded f scope a.0 (λ y t. bound y (or_left (free y f) (free y g) t)))
      (form_encoded g scope a.1 (λ y t. bound y (or_right (free y f) (free y g) t)))
  form_encoded (sequential x f g) scope is_proper bound at rest there =
      let a = and_parts (leb x 31) (proper m n f && proper m n g) is_proper in
      let b = and_parts (proper m n f) (proper m n g) a.1 in
      two_read scope scope (binding x scope) at 4 (sequential x) f g rest (first_left bs at there) (omega arith) (drop_left bs at there 2)
      (binder_sound scope at 4 x (λ x. record { byte = 4; rules = binder_rules bs at; begun = of_two scope (binding x scope) (sequential x) }) there a.0 refl refl refl)
      (form_encoded f scope b.0 (λ y t. bound y (or_left (free y f) (not (eqb y x) && free y g) t)))
      (form_encoded g (binding x scope) b.1 (bound_below scope at x g (λ y t. bound y (or_right (free y f) (not (eqb y x) && free y g) t))))
  form_encoded (pruning x f g) scope is_proper bound at rest there =
      let a = and_parts (leb x 31) (proper m n f && proper m n g) is_proper in
      let b = and_parts (proper m n f) (proper m n g) a.1 in
      two_read scope (binding x scope) scope at 5 (pruning x) f g rest (first_left bs at there) (omega arith) (drop_left bs at there 2)
      (binder_sound scope at 5 x (λ x. record { byte = 5; rules = binder_rules bs at; begun = of_two (binding x scope) scope (pruning x) }) there a.0 refl refl refl)
      (form_encoded f (binding x scope) b.0 (bound_below scope at x f (λ y t. bound y (or_left (not (eqb y x) && free y f) (free y g) t))))
      (form_encoded g scope b.1 (λ y t. bound y (or_right (not (eqb y x) && free y f) (free y g) t)))
  form_encoded (pending k s v c) scope is_proper bound at rest there = absurd (false≢true is_proper)
