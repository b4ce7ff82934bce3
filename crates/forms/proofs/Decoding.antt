-- A form whose commands are as an expression has them is written as one. Assumes nothing.
use Rattle.std.proofs.Common.{◌≡◌, ℕ, Bool, ◌+◌, ◌≤◌, true, false, List, [], ◌∷◌, ◌++◌, length, drop, sym, refl, ap, ◌∙◌, subst, append_assoc, append-nil, arith, eqb, ◌≢◌, Option, Some, MatchOption}
use Rattle.std.proofs.lemmas.List.{drop_all}
use Rattle.std.specs.Bool.{then_some}
use Rattle.std.proofs.lemmas.Bool.{true≢false, false≢true, eqb-true, eqb-false}
use Rattle.orc.specs.Expressions.{Expression, stop, parallel, sequential, pruning, bytes}
use Rattle.formats.specs.Operands.{byte_at, Bytes}
use Rattle.formats.specs.Widths.{width_of}
use Rattle.forms.specs.Shapes.{has_parts, has_parameter, FormBy, without_parts, with_parts, ExactCommand}
use Rattle.forms.specs.declared.command.Command.{Command}
use Rattle.forms.specs.declared.command.Command.TheVariants.{Stop, SiteCall, DefinitionCall, Parallel, Sequential, Pruning, Pending}
use Rattle.forms.specs.Commands.{byte_of}
use Rattle.forms.proofs.Naming.{command_of}
use Rattle.forms.specs.Reading.{expression_of}
use Rattle.forms.specs.declared.form.Form.{Form}
use Rattle.forms.specs.Heads.{expression}
use Rattle.forms.proofs.Exactly.{exact_shape}
use Rattle.forms.proofs.ReadBack.{read_back}
use Rattle.forms.proofs.Written.{stop_written, site_call_written, definition_call_written, pending_written, one_written, two_written}

module _ (bs : List ℕ) (fit : Bytes bs) where
  -- from an offset up to another stand the bytes of an expression
  pub record Decoded (at end : ℕ) : Type 0 where
    pub expression : Expression
    pub written : bytes expression ++ drop end bs ≡ drop at bs

  decoded_as : (e : Expression) {at end : ℕ} → bytes e ++ drop end bs ≡ drop at bs → Decoded at end
  decoded_as e written = record { expression = e; written = written }

  leaf : (at : ℕ) (c : Command) → byte_at bs at ≡ byte_of c → at + width_of (byte_of c) ≤ length bs → (has_parameter (byte_of c) ≡ true → byte_at bs (at + 2) ≤ 1) → has_parts (byte_of c) ≡ false → Decoded at (at + width_of (byte_of c))
  leaf at Stop is whole marked none = decoded_as stop (stop_written bs fit at is whole)
  leaf at SiteCall is whole marked none = decoded_as _ (site_call_written bs fit at is whole (marked refl))
  leaf at DefinitionCall is whole marked none = decoded_as _ (definition_call_written bs fit at is whole (marked refl))
  leaf at Parallel is whole marked none = absurd (true≢false none)
  leaf at Sequential is whole marked none = absurd (true≢false none)
  leaf at Pruning is whole marked none = absurd (true≢false none)
  leaf at Pending is whole marked none = decoded_as _ (pending_written bs fit at is whole)

  -- the bytes of two expressions, one behind the other
  row : {at middle end : ℕ} (f : Decoded at middle) (g : Decoded middle end) → (bytes f.expression ++ bytes g.expression) ++ drop end bs ≡ drop at bs
  row {end} f g = append_assoc (bytes f.expression) (bytes g.expression) (drop end bs) ∙ ap (λ l. bytes f.expression ++ l) g.written ∙ f.written

  split : (at : ℕ) (c : Command) → byte_at bs at ≡ byte_of c → at + width_of (byte_of c) ≤ length bs → has_parts (byte_of c) ≡ true → {middle end : ℕ} → Decoded (at + width_of (byte_of c)) middle → Decoded middle end → Decoded at end
  unfolding bytes
  split at Stop is whole both f g = absurd (false≢true both)
  split at SiteCall is whole both f g = absurd (false≢true both)
  split at DefinitionCall is whole both f g = absurd (false≢true both)
  split at Parallel is whole both f g = decoded_as (parallel f.expression g.expression) (ap (λ l. 3 ∷ l) (row f g) ∙ one_written bs fit at 3 is whole)
  split at Sequential is whole both f g = let x = byte_at bs (at + 1) in decoded_as (sequential x f.expression g.expression) (ap (λ l. 4 ∷ x ∷ l) (row f g) ∙ two_written bs fit at 4 is whole)
  split at Pruning is whole both f g = let x = byte_at bs (at + 1) in decoded_as (pruning x f.expression g.expression) (ap (λ l. 5 ∷ x ∷ l) (row f g) ∙ two_written bs fit at 5 is whole)
  split at Pending is whole both f g = absurd (false≢true both)

  pub decoded : {at end : ℕ} → FormBy (ExactCommand bs) bs at end → Decoded at end
  decoded (without_parts {at} exact none is) =
      let c = command_of (byte_at bs at) exact.command.of_a_form in
      let here = c.1 in
      rw (is, here) (leaf at c.0 here (rw here at exact.command.whole) (λ p. exact.marked (rw here p)) (rw here at none))
  decoded (with_parts {at} exact both f g) =
      let c = command_of (byte_at bs at) exact.command.of_a_form in
      let here = c.1 in
      split at c.0 here (rw here at exact.command.whole) (rw here at both) (rw here at (decoded f)) (decoded g)

-- bytes that are those of an expression are its form
pub whole_form : (bs : List ℕ) (e : Expression) → bs ≡ bytes e → FormBy (ExactCommand bs) bs 0 (length bs)
whole_form bs e is =
    let all : 0 + length (bytes e) ≡ length bs = omega (arith, ap length is) in
    subst (λ (n : ℕ). FormBy (ExactCommand bs) bs 0 n) all (exact_shape bs e 0 [] (is ∙ sym (append-nil (bytes e))))

-- and a form that is all the bytes is read as an expression with these bytes
pub read_whole : (bs : List ℕ) → Bytes bs → FormBy (ExactCommand bs) bs 0 (length bs) → bs ≡ bytes (expression_of bs)
read_whole bs fit form =
    let d = decoded bs fit form in
    let same : bs ≡ bytes d.expression
    = sym d.written ∙ ap (λ l. bytes d.expression ++ l) (drop_all (length bs) bs (omega arith)) ∙ append-nil (bytes d.expression) in
    same ∙ ap bytes (sym (ap expression_of same ∙ read_back d.expression))

-- A scan by the commands of expressions has ended: at the end of the bytes, if they are those of an expression.
module _ (bs : List ℕ) (fit : Bytes bs) (end : ℕ) (form : FormBy (ExactCommand bs) bs 0 end) (only : (n : ℕ) → FormBy (ExactCommand bs) bs 0 n → ◌≡◌ {A = Option ℕ} (Some end) (Some n)) (f : Form) (there : f.bytes.now ≡ bs) where
  abbrev Judged : Option Form → Type 0
  Judged o = MatchOption o ((e : Expression) → bs ≢ bytes e) (λ f. (bs ≡ bytes (expression f)) × (f.bytes.now ≡ bs))

  by_test : (b : Bool) → eqb end (length bs) ≡ b → Judged (then_some b f)
  by_test true is =
      let all : end ≡ length bs = eqb-true end (length bs) is in
      let read = read_whole bs fit (subst (λ (n : ℕ). FormBy (ExactCommand bs) bs 0 n) all form) in
      (read ∙ ap bytes (ap expression_of (sym there)), there)
  by_test false is = λ e same. eqb-false end (length bs) is (cc (only _ (whole_form bs e same)))

  pub judged : Judged (then_some (eqb end (length bs)) f)
  judged = by_test (eqb end (length bs)) refl
