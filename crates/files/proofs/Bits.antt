-- Bits of a number as a set of variables. Assumes nothing.
use Rattle.std.proofs.Common.{◌≡◌, ℕ, ◌*◌, ◌/◌, ◌%◌, ◌^◌, ◌<◌, Bool, true, false, ◌||◌, eqb, refl, ap, ◌∙◌, w32}
use mathlib.Core.Path.{fun_ext}
use lib.Bits.{bit_and, bit_or}
use Rattle.std.proofs.lemmas.Nat.{and_mask}
use Rattle.std.proofs.lemmas.Nat.Bits.{bit_at_set_same, bit_at_set_other}
use Rattle.std.proofs.lemmas.Bool.{eqb-true, eqb-false}
use Rattle.files.specs.Judgement.{binding}
use Rattle.files.specs.Scopes.{bits}

pub bit_read : (n x : ℕ) → eqb (bit_and (n / 2 ^ x) 1) 1 ≡ bits n x
bit_read n x = ap (λ b. eqb b 1) (and_mask (n / 2 ^ x) 1)

module _ (n x : ℕ) (fits : x < 32) where
  abbrev set : ℕ
  set = bit_or n (1 * 2 ^ x % 4294967296)

  at_bit : (y : ℕ) (same : Bool) → eqb y x ≡ same → bits set y ≡ (same || bits n y)
  at_bit y true is = ap (bits set) (eqb-true y x is) ∙ ap (λ b. eqb b 1) (bit_at_set_same w32 n x fits)
  at_bit y false is = ap (λ b. eqb b 1) (bit_at_set_other w32 n x fits y (eqb-false y x is))

  pub bit_added : bits set ≡ binding x (bits n)
  bit_added = fun_ext (λ y. at_bit y (eqb y x) refl)
