-- What is told, and bounds of what is counted. Assumes nothing.
use Rattle.std.proofs.Common.{◌≡◌, ℕ, ◌≤◌, min, Ok, Err, Result, IfErr, ◌∙◌, ap}
use Rattle.std.proofs.Math.Nat.{min-eq_left}
use Rattle.verdicts.specs.Verdicts.{Told}
use Rattle.controllers.specs.declared.state.State.{State}
use Rattle.controllers.specs.declared.verdict.Verdict.{Verdict}
use Rattle.controllers.specs.Told.{greatest, verdict_on, shortened}

-- a number of 32 bits is told as it is
pub told_whole : (n r : ℕ) → r ≡ min n greatest → n ≤ greatest → r ≡ n
told_whole n r is fits = is ∙ min-eq_left fits

-- and so is a verdict whose place has 32 bits
pub verdict_whole : {X E : Type 0} (told : E → Told) (o : Result X E) (v : Verdict) → v ≡ shortened (verdict_on told o) → IfErr o (λ e. (told e).place ≤ greatest) → v ≡ verdict_on told o
verdict_whole told (Ok x) v is near = is
verdict_whole told (Err e) v is near = is ∙ ap (λ n. record { number = (told e).number; place = n }) (min-eq_left near)

pub same_numbers : {c s d e c' s' d' e' : ℕ} → c ≡ c' → s ≡ s' → d ≡ d' → e ≡ e' → (let z : State = record { clock = c; size = s; due = d; events = e } in z) ≡ record { clock = c'; size = s'; due = d'; events = e' }
same_numbers {c} {s} {d} {e} {c'} {s'} {d'} {e'} p q r t =
    let made : ℕ → ℕ → ℕ → ℕ → State = λ k l m n. record { clock = k; size = l; due = m; events = n } in
    ap (λ x. made x s d e) p ∙ (ap (λ x. made c' x d e) q ∙ (ap (λ x. made c' s' x e) r ∙ ap (λ x. made c' s' d' x) t))
