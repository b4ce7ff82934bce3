-- Which variables are free in what is simplified, and their sets as bits. Assumes nothing.
use Rattle.std.proofs.Common.{◌≡◌, ℕ, zero, suc, ◌+◌, ◌*◌, ◌/◌, ◌%◌, ◌^◌, ◌<◌, Bool, true, false, cond, not, ◌&&◌, ◌||◌, eqb, max, sym, refl, ap, ◌∙◌, arith, w32}
use lib.Bits.{bit_and, bit_or}
use Rattle.std.specs.Int.{bit_at, bit_not}
use Rattle.std.specs.Int.Bits.{or_zero_l}
use Rattle.std.proofs.lemmas.Nat.{and_mask}
use Rattle.std.proofs.lemmas.Nat.Bits.{bit_at_or, bit_at-lt, bit_at-zero, bit_at_set_same, bit_at_set_other, bit_at_clear_same, bit_at_clear_other}
use Rattle.std.proofs.lemmas.Bool.{eqb-true, eqb-false}
use Rattle.orc.specs.Expressions.{Expression, stop, site_call, definition_call, parallel, sequential, pruning, pending}
use Rattle.orc.specs.Variables.{free}
use Rattle.orc.specs.Simplified.{is_stop, parallel_of, pruning_of}
use Rattle.walks.specs.Sets.{holds}

stop_is : (e : Expression) → is_stop e ≡ true → (x : ℕ) → free x e ≡ false
unfolding free
stop_is stop is x = refl
stop_is (site_call s p) is x = absurd cc
stop_is (definition_call i p) is x = absurd cc
stop_is (parallel f g) is x = absurd cc
stop_is (sequential y f g) is x = absurd cc
stop_is (pruning y f g) is x = absurd cc
stop_is (pending k s v c) is x = absurd cc

or_nothing : (b : Bool) → b ≡ (b || false)
or_nothing true = refl
or_nothing false = refl

pub free_parallel : (x : ℕ) (f g : Expression) → free x (parallel_of f g) ≡ (free x f || free x g)
unfolding parallel_of free
free_parallel x f g = by_left (is_stop f) refl (is_stop g) refl
  where
    by_left : (a : Bool) → is_stop f ≡ a → (b : Bool) → is_stop g ≡ b → free x (cond a g (cond b f (parallel f g))) ≡ (free x f || free x g)
    by_left true left b right = ap (λ c. c || free x g) (sym (stop_is f left x))
    by_left false left true right = or_nothing (free x f) ∙ ap (λ c. free x f || c) (sym (stop_is g right x))
    by_left false left false right = refl

pub free_pruning : (x y : ℕ) (f g : Expression) → free x (pruning_of y f g) ≡ ((not (eqb x y) && free x f) || free x g)
unfolding pruning_of free
free_pruning x y f g = by_right (is_stop g) refl (free y f) refl
  where
    by_right : (a : Bool) → is_stop g ≡ a → (b : Bool) → free y f ≡ b → free x (cond a (cond b (pruning y f g) f) (pruning y f g)) ≡ ((not (eqb x y) && free x f) || free x g)
    by_right true right true bound = refl
    by_right true right false unbound = unbinds (eqb x y) refl ∙ or_nothing (not (eqb x y) && free x f) ∙ ap (λ c. (not (eqb x y) && free x f) || c) (sym (stop_is g right x))
      where
        unbinds : (s : Bool) → eqb x y ≡ s → free x f ≡ (not s && free x f)
        unbinds true same = ap (λ z. free z f) (eqb-true x y same) ∙ unbound
        unbinds false other = refl
    by_right false right b bound = refl

-- a bit is 0 or 1
or_of_bits : (a b : ℕ) → a < 2 → b < 2 → eqb (max a b) 1 ≡ (eqb a 1 || eqb b 1)
or_of_bits zero zero p q = refl
or_of_bits zero (suc zero) p q = refl
or_of_bits zero (suc (suc b)) p q = absurd (omega arith)
or_of_bits (suc zero) zero p q = refl
or_of_bits (suc zero) (suc zero) p q = refl
or_of_bits (suc zero) (suc (suc b)) p q = absurd (omega arith)
or_of_bits (suc (suc a)) b p q = absurd (omega arith)

pub none_held : (x : ℕ) → holds 0 x ≡ false
none_held x = ap (λ b. eqb b 1) (bit_at-zero x)

pub held_by_either : (a b x : ℕ) → holds (bit_or a b) x ≡ (holds a x || holds b x)
held_by_either a b x = ap (λ b. eqb b 1) (bit_at_or a b x) ∙ or_of_bits (bit_at a x) (bit_at b x) (bit_at-lt a x) (bit_at-lt b x)

pub held_read : (n x : ℕ) → eqb (bit_and (n / 2 ^ x) 1) 1 ≡ holds n x
held_read n x = ap (λ b. eqb b 1) (and_mask (n / 2 ^ x) 1)

module _ (k : ℕ) (fits : k < 32) where
  abbrev one : ℕ
  one = 1 * 2 ^ k % 4294967296

  pub one_held : (x : ℕ) → holds one x ≡ eqb x k
  one_held x = by_place (eqb x k) refl
    where
      by_place : (b : Bool) → eqb x k ≡ b → holds one x ≡ b
      by_place true is =
          ap (λ n. holds n x) (sym (or_zero_l one)) ∙ ap (holds (bit_or 0 one)) (eqb-true x k is) ∙ ap (λ b. eqb b 1) (bit_at_set_same w32 0 k fits)
      by_place false is =
          ap (λ n. holds n x) (sym (or_zero_l one)) ∙ ap (λ b. eqb b 1) (bit_at_set_other w32 0 k fits x (eqb-false x k is) ∙ bit_at-zero x)

  pub held_without : (n x : ℕ) → x < 32 → holds (bit_and n (bit_not w32 one)) x ≡ (not (eqb x k) && holds n x)
  held_without n x small = by_place (eqb x k) refl
    where
      by_place : (b : Bool) → eqb x k ≡ b → holds (bit_and n (bit_not w32 one)) x ≡ (not b && holds n x)
      by_place true is = ap (holds (bit_and n (bit_not w32 one))) (eqb-true x k is) ∙ ap (λ b. eqb b 1) (bit_at_clear_same w32 n k fits)
      by_place false is = ap (λ b. eqb b 1) (bit_at_clear_other w32 n k fits x small (eqb-false x k is))

-- nor is any other variable taken out
pub other_kept : (k x : ℕ) → 32 < k + 1 → x < 32 → (b : Bool) → b ≡ (not (eqb x k) && b)
other_kept k x large small b = by_place (eqb x k) refl
  where
    by_place : (c : Bool) → eqb x k ≡ c → b ≡ (not c && b)
    by_place true is = let same = eqb-true x k is in absurd (omega arith)
    by_place false is = refl
