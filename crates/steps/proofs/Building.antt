-- Bytes built in a buffer, and lists with a stretch replaced. Assumes nothing.
use Rattle.std.proofs.Common.{◌≡◌, ℕ, ◌+◌, ◌<◌, List, length, Some, None, Ok, Err, Result, ap, ◌∙◌, subst, Bor}
use Rattle.std.specs.Result.{result_ok}
use Rattle.places.specs.Splices.{spliced}
use Rattle.walks.specs.Capacity.{capacity}
use Rattle.walks.specs.Contents.{Buffer, content}
use Rattle.fixed.specs.declared.full.Full.{Full}
use Rattle.steps.specs.Built.{Built}
use Rattle.steps.specs.Sections.{replaced, StandsAt}
use Rattle.steps.specs.declared.section.Section.{Section}

-- from the outcome of a build to what it was, as `ok` tells it
pub built : (r : Result (Bor Buffer) Full) (bs : List ℕ) {b : Bor Buffer} → Some b ≡ result_ok r → Built r bs → content b.now ≡ bs
built (Ok b') bs {b} is done = let same : b ≡ b' = cc in ap (λ b. content b.now) same ∙ done
built (Err e) bs is done = absurd cc

pub unbuilt : (r : Result (Bor Buffer) Full) (bs : List ℕ) → None ≡ result_ok r → Built r bs → capacity < length bs
unbuilt (Ok b) bs is done = absurd cc
unbuilt (Err e) bs is done = done

-- the same, in place of the bytes of a command
module _ {bs : List ℕ} {s : Section} {p n : ℕ} (there : StandsAt bs p n s) (r : Result (Bor Buffer) Full) (new : List ℕ) (done : Built r (replaced s new)) where
  in_place : replaced s new ≡ spliced bs p (p + n) new
  in_place = λ i. spliced (there.form i) (there.at i) (there.end i) new

  pub built_in_place : {b : Bor Buffer} → Some b ≡ result_ok r → content b.now ≡ spliced bs p (p + n) new
  built_in_place is = built r _ is done ∙ in_place

  pub unbuilt_in_place : None ≡ result_ok r → capacity < length (spliced bs p (p + n) new)
  unbuilt_in_place is = subst (λ l. capacity < length l) in_place (unbuilt r _ is done)
