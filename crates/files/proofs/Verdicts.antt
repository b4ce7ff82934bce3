-- What a verdict on a file says of its bytes. Assumes nothing.
use Rattle.std.proofs.Common.{◌≡◌, ℕ, List, Ok, Err, Result, sym, ap, ◌∙◌, subst, arith, MatchResult}
use Rattle.orc.specs.Meaning.{Meaning}
use Rattle.orc.specs.Files.{File, file_bytes, WellFormed}
use Rattle.formats.specs.declared.fault.Fault.{Fault}
use Rattle.formats.specs.Operands.{Bytes}
use Rattle.files.specs.Judgement.{FileOutcome}
use Rattle.files.specs.Contents.{file_of}
use Rattle.files.proofs.OneOutcome.{one_outcome}
use Rattle.files.proofs.FileDecoded.{decoded}
use Rattle.files.proofs.FileEncoded.{encoded}
use Rattle.files.proofs.Recovered.{file_back}

module _ (m : Meaning) (bs : List ℕ) (fit : Bytes bs) where
  -- a file that is refused is not accepted too
  not_both : (f : Fault) (file : File) → FileOutcome m bs (Err f) → FileOutcome m bs (Ok file) → ⊥
  not_both f file refused accepted =
      let one = one_outcome m bs in
      let a = one.2 (Err f) refused in
      let b = one.2 (Ok file) accepted in
      let z : ◌≡◌ {A = ℕ} 0 1 = cc in
      omega arith

  -- the file that is accepted is the one that the bytes are read as
  its_contents : (file : File) → FileOutcome m bs (Ok file) → file ≡ file_of bs
  its_contents file accepted = sym (ap file_of (decoded m bs fit file accepted).1 ∙ file_back file)

  -- no well-formed file has the bytes of one that is refused
  pub not_encoded : {f : Fault} → FileOutcome m bs (Err f) → (file : File) → WellFormed m file → bs ≡ file_bytes file → ⊥
  not_encoded {f} refused file ok is = not_both f file refused (encoded m bs file ok is)

  module _ {A : Type 0} where
    pub outcome : (r : Result A Fault) → MatchResult r (λ _. (file : File) × FileOutcome m bs (Ok file)) (λ f. FileOutcome m bs (Err f))
        → MatchResult r (λ _. FileOutcome m bs (Ok (file_of bs))) (λ f. FileOutcome m bs (Err f))
    outcome (Ok _) (file, accepted) = subst (λ (x : File). FileOutcome m bs (Ok x)) (its_contents file accepted) accepted
    outcome (Err f) refused = refused

    pub verdict : (r : Result A Fault) → MatchResult r (λ _. FileOutcome m bs (Ok (file_of bs))) (λ f. FileOutcome m bs (Err f))
        → MatchResult r (λ _. WellFormed m (file_of bs) × (bs ≡ file_bytes (file_of bs))) (λ _. (file : File) → WellFormed m file → bs ≡ file_bytes file → ⊥)
    verdict (Ok _) accepted = decoded m bs fit (file_of bs) accepted
    verdict (Err f) refused = not_encoded refused
