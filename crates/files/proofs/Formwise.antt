-- A form is judged command by command: what a command adds to what its parts come to. Assumes nothing.
use Rattle.std.proofs.Common.{◌≡◌, ℕ, ◌+◌, List, take, Ok, Err, Result, sym, ap, ◌∙◌, subst, subst₂}
use Rattle.orc.specs.Meaning.{Meaning}
use Rattle.orc.specs.Expressions.{Expression}
use Rattle.formats.specs.declared.fault.Fault.{Fault}
use Rattle.formats.specs.Operands.{byte_at}
use Rattle.formats.specs.Widths.{width_of}
use Rattle.files.specs.Progress.{FormJudged}
use Rattle.files.specs.Judgement.{Outcome, Scope, alone, of_two, SoundCommand, FormOutcome, reads_alone, bad_left, bad_right, reads_two, nothing_bound, binding, WholeOutcome, definition_end, BodyOutcome}

module _ (m : Meaning) (n : ℕ) (bs : List ℕ) where
  module _ (scope : Scope) (at w : ℕ) (width : w ≡ width_of (byte_at bs at)) where
    pub form_alone : {e : Expression} → SoundCommand m n bs scope at (alone e) → FormOutcome m n bs scope at (Ok (e, at + w))
    form_alone {e} command = subst (λ (w : ℕ). FormOutcome m n bs scope at (Ok (e, at + w))) (sym width) (reads_alone command)

    module _ {left right : Scope} {make : Expression → Expression → Expression} (command : SoundCommand m n bs scope at (of_two left right make)) where
      pub left_fault : {f : Fault} → FormOutcome m n bs left (at + w) (Err f) → FormOutcome m n bs scope at (Err f)
      left_fault {f} judged = bad_left command (subst (λ (w : ℕ). FormOutcome m n bs left (at + w) (Err f)) width judged)

      pub then_right : {e : Expression} {middle : ℕ} → FormOutcome m n bs left (at + w) (Ok (e, middle)) → (r : Result ℕ Fault) → FormJudged m n bs right middle r → FormJudged m n bs scope at r
      then_right {e} {middle} first (Ok end) (e', second) = (make e e', reads_two command (subst (λ (w : ℕ). FormOutcome m n bs left (at + w) (Ok (e, middle))) width first) second)
      then_right {e} {middle} first (Err f) second = bad_right command (subst (λ (w : ℕ). FormOutcome m n bs left (at + w) (Ok (e, middle))) width first) second

-- the body of a definition is judged over the bytes up to the definition's end, with the formal bound
pub body_there : (m : Meaning) (n : ℕ) (bs : List ℕ) (at : ℕ) {scope empty : Scope} {formal end : ℕ} {o : Outcome Expression}
    → WholeOutcome m n (take end bs) scope (at + 3) o → end ≡ definition_end bs at → formal ≡ byte_at bs at → empty ≡ nothing_bound → scope ≡ binding formal empty → BodyOutcome m n bs at o
body_there m n bs at {scope} {empty} {formal} {end} {o} judged there is none with =
    subst₂ (λ (l : List ℕ) (s : Scope). WholeOutcome m n l s (at + 3) o) (ap (λ k. take k bs) there) (with ∙ ap (binding formal) none ∙ ap (λ x. binding x nothing_bound) is) judged
