-- A form that is read is the encoding of its expression, which is proper and has no free variable but those bound; and so
-- for definitions and files. Assumes nothing.
use Rattle.std.proofs.Common.{◌≡◌, ℕ, zero, suc, ◌+◌, ◌<◌, ◌≤◌, true, false, not, ◌&&◌, ◌||◌, eqb, List, ◌∷◌, ◌++◌, length, drop, Some, None, Ok, Option, sym, refl, ap, ◌∙◌, subst, inl, inr, append_assoc, arith}
use Rattle.std.proofs.lemmas.Bool.{and_parts, and_from, or_cases, leb-true, le-leb, eqb-true, cond_both, not-true, false≢true}
use Rattle.orc.specs.Meaning.{Meaning}
use Rattle.orc.specs.Expressions.{Parameter, value, variable, Expression, stop, site_call, definition_call, parallel, sequential, pruning, bytes}
use Rattle.orc.specs.Variables.{is_variable, free}
use Rattle.orc.specs.Files.{proper_parameter, proper}
use Rattle.formats.specs.Operands.{byte_at, Bytes, two_at, first_broken}
use Rattle.formats.specs.Widths.{width_of}
use Rattle.forms.specs.Reading.{parameter_at}
use Rattle.forms.proofs.Written.{stop_written, site_call_written, definition_call_written, one_written, two_written}
use Rattle.files.specs.Judgement.{Scope, binding, parameter_rules, site_call_rules, definition_call_rules, binder_rules, Begun, alone, of_two, Command, commands, named, SoundCommand, FormOutcome, reads_alone, reads_two}
use Rattle.files.proofs.Commands.{none_named}
use Rattle.files.proofs.Rules.{AllKept, all_kept, none_broken}

-- x is free only if it is bound
abbrev pub BoundIn : Scope → Expression → Type 0
BoundIn scope e = (x : ℕ) → free x e ≡ true → scope x ≡ true

module _ (m : Meaning) (n : ℕ) (bs : List ℕ) (fit : Bytes bs) where
  -- from an offset up to an end stands the form of an expression as it may stand in a file
  pub record Decoded (scope : Scope) (at : ℕ) (e : Expression) (end : ℕ) : Type 0 where
    pub there : drop at bs ≡ bytes e ++ drop end bs
    pub within : end ≤ length bs
    pub is_proper : proper m n e ≡ true
    pub bound : BoundIn scope e

  pub record GoodParameter (scope : Scope) (at : ℕ) : Type 0 where
    pub whole : at + 3 ≤ length bs
    pub marked : byte_at bs at ≤ 1
    pub is_proper : proper_parameter (parameter_at bs at) ≡ true
    pub bound : (x : ℕ) → is_variable x (parameter_at bs at) ≡ true → scope x ≡ true

  good_parameter : (scope : Scope) (at : ℕ) → first_broken (parameter_rules bs scope at) ≡ None → GoodParameter scope at
  good_parameter scope at kept =
      let number = two_at bs (at + 1) in
      let k = all_kept (parameter_rules bs scope at) kept in
      let of-mark : (P : Parameter → Type 0) → (eqb (byte_at bs at) 0 ≡ true → P (value number)) → (eqb (byte_at bs at) 0 ≡ false → P (variable number)) → P (parameter_at bs at)
      = cond_both (eqb (byte_at bs at) 0) (value number) (variable number) in
      record {
        whole = leb-true (at + 3) (length bs) k.1.1.0;
        marked = leb-true (byte_at bs at) 1 k.1.0;
        is_proper = of-mark (λ p. proper_parameter p ≡ true) (λ _. le-leb number 65535 (omega (arith, fit (at + 1), fit (at + 1 + 1)))) (λ v. rw v at k.1.1.1.0);
        bound = λ x. of-mark (λ p. is_variable x p ≡ true → scope x ≡ true) (λ _ t. absurd (false≢true t)) (λ v t. rw (eqb-true x number t) (rw v at k.1.1.1.1.0));
      }

  -- what a command begins is good: an expression without parts is decoded, and one of two parts if they are
  abbrev Good : Scope → ℕ → Begun → Type 0
  Good scope at (alone e) = Decoded scope at e (at + width_of (byte_at bs at))
  Good scope at (of_two left right make) = (e e' : Expression) (middle end : ℕ) → Decoded left (at + width_of (byte_at bs at)) e middle → Decoded right middle e' end → Decoded scope at (make e e') end

  module _ (scope : Scope) (at : ℕ) (within : at < length bs) where
    good_stop : byte_at bs at ≡ 0 → Good scope at (alone stop)
    unfolding proper free
    good_stop is = rw is (record { there = sym (stop_written bs fit at is (omega arith)); within = omega arith; is_proper = refl; bound = λ x t. absurd (false≢true t) })

    good_site_call : byte_at bs at ≡ 1 → first_broken (site_call_rules m bs scope at) ≡ None → Good scope at (alone (site_call (byte_at bs (at + 1)) (parameter_at bs (at + 2))))
    unfolding proper free
    good_site_call is kept =
        let k = all_kept (site_call_rules m bs scope at) kept in
        let p = good_parameter scope (at + 2) (none_broken (parameter_rules bs scope (at + 2)) k.1.1.1) in
        let all : at + 5 ≤ length bs = omega (arith, p.whole) in
        rw is (record { there = sym (site_call_written bs fit at is all p.marked); within = all; is_proper = and_from _ _ k.1.0 (and_from _ _ k.1.1.0 p.is_proper); bound = p.bound })

    good_definition_call : byte_at bs at ≡ 2 → first_broken (definition_call_rules n bs scope at) ≡ None → Good scope at (alone (definition_call (byte_at bs (at + 1)) (parameter_at bs (at + 2))))
    unfolding proper free
    good_definition_call is kept =
        let k = all_kept (definition_call_rules n bs scope at) kept in
        let p = good_parameter scope (at + 2) (none_broken (parameter_rules bs scope (at + 2)) k.1.1) in
        let all : at + 5 ≤ length bs = omega (arith, p.whole) in
        rw is (record { there = sym (definition_call_written bs fit at is all p.marked); within = all; is_proper = and_from _ _ k.1.0 p.is_proper; bound = p.bound })

    parts_there : {left right : Scope} {e e' : Expression} {middle end b : ℕ} → byte_at bs at ≡ b → Decoded left (at + width_of (byte_at bs at)) e middle → Decoded right middle e' end
        → drop (at + width_of b) bs ≡ (bytes e ++ bytes e') ++ drop end bs
    parts_there {e} {e'} {end} is l r =
        ap (λ b. drop (at + width_of b) bs) (sym is) ∙ l.there ∙ ap (λ t. bytes e ++ t) r.there ∙ sym (append_assoc (bytes e) (bytes e') (drop end bs))

    good_parallel : byte_at bs at ≡ 3 → Good scope at (of_two scope scope parallel)
    unfolding bytes proper free
    good_parallel is e e' middle end l r = record {
      there = sym (one_written bs fit at 3 is (omega arith)) ∙ ap (λ t. 3 ∷ t) (parts_there is l r);
      within = r.within;
      is_proper = and_from _ _ l.is_proper r.is_proper;
      bound = λ y t. elim (or_cases (free y e) (free y e') t) [ inl f ↦ l.bound y f | inr g ↦ r.bound y g ];
    }

    -- free in a part in which x is bound, and not x itself
    bound_outside : (x : ℕ) (e : Expression) → BoundIn (binding x scope) e → (y : ℕ) → (not (eqb y x) && free y e) ≡ true → scope y ≡ true
    bound_outside x e bound y t =
        let p = and_parts (not (eqb y x)) (free y e) t in
        let other : eqb y x ≡ false = not-true (eqb y x) p.0 in
        ap (λ b. b || scope y) (sym other) ∙ bound y p.1

    module _ (kept : first_broken (binder_rules bs at) ≡ None) where
      abbrev x : ℕ
      x = byte_at bs (at + 1)

      abbrev facts : AllKept (binder_rules bs at)
      facts = all_kept (binder_rules bs at) kept

      good_sequential : byte_at bs at ≡ 4 → Good scope at (of_two scope (binding x scope) (sequential x))
      unfolding bytes proper free
      good_sequential is e e' middle end l r = record {
        there = sym (two_written bs fit at 4 is (leb-true (at + 2) (length bs) facts.0)) ∙ ap (λ t. 4 ∷ x ∷ t) (parts_there is l r);
        within = r.within;
        is_proper = and_from _ _ facts.1.0 (and_from _ _ l.is_proper r.is_proper);
        bound = λ y t. elim (or_cases (free y e) (not (eqb y x) && free y e') t) [ inl f ↦ l.bound y f | inr g ↦ bound_outside x e' r.bound y g ];
      }

      good_pruning : byte_at bs at ≡ 5 → Good scope at (of_two (binding x scope) scope (pruning x))
      unfolding bytes proper free
      good_pruning is e e' middle end l r = record {
        there = sym (two_written bs fit at 5 is (leb-true (at + 2) (length bs) facts.0)) ∙ ap (λ t. 5 ∷ x ∷ t) (parts_there is l r);
        within = r.within;
        is_proper = and_from _ _ facts.1.0 (and_from _ _ l.is_proper r.is_proper);
        bound = λ y t. elim (or_cases (not (eqb y x) && free y e) (free y e') t) [ inl f ↦ bound_outside x e l.bound y f | inr g ↦ r.bound y g ];
      }

    -- whichever command it is
    same_good : {c c' : Command} → ◌≡◌ {A = Option Command} (Some c') (Some c) → first_broken c.rules ≡ None → (first_broken c'.rules ≡ None → Good scope at c'.begun) → Good scope at c.begun
    same_good {c} {c'} found kept good =
        let same : c' ≡ c = cc in
        subst (λ (c : Command). Good scope at c.begun) same (good (ap (λ c. first_broken c.rules) same ∙ kept))

    named_good : (b : ℕ) → byte_at bs at ≡ b → (c : Command) → named b (commands m n bs scope at) ≡ Some c → first_broken c.rules ≡ None → Good scope at c.begun
    named_good zero is c found kept = same_good found kept (λ _. good_stop is)
    named_good (suc zero) is c found kept = same_good found kept (λ kept. good_site_call is kept)
    named_good (suc (suc zero)) is c found kept = same_good found kept (λ kept. good_definition_call is kept)
    named_good (suc (suc (suc zero))) is c found kept = same_good found kept (λ _. good_parallel is)
    named_good (suc (suc (suc (suc zero)))) is c found kept = same_good found kept (λ kept. good_sequential kept is)
    named_good (suc (suc (suc (suc (suc zero))))) is c found kept = same_good found kept (λ kept. good_pruning kept is)
    named_good (suc (suc (suc (suc (suc (suc b)))))) is c found kept =
        let none = none_named m n bs scope at (suc (suc (suc (suc (suc (suc b)))))) (omega arith) in
        let z : ◌≡◌ {A = ℕ} 0 1 = cc in
        absurd (omega arith)

  sound_good : {scope : Scope} {at : ℕ} {b : Begun} → SoundCommand m n bs scope at b → Good scope at b
  sound_good {scope} {at} s = subst (Good scope at) s.begins (named_good scope at s.within (byte_at bs at) refl s.command s.there s.kept)

  pub form_decoded : {scope : Scope} {at end : ℕ} {e : Expression} → FormOutcome m n bs scope at (Ok (e, end)) → Decoded scope at e end
  form_decoded (reads_alone sound) = sound_good sound
  form_decoded (reads_two sound left right) = sound_good sound _ _ _ _ (form_decoded left) (form_decoded right)
