-- What stands last in a buffer, read and cut down.
use Rattle.std.proofs.Common.{◌≡◌, ℕ, ◌+◌, ◌-◌, Bool, true, false, cond, eqb, List, ◌++◌, length, get_or, take, drop, sym, refl, ap, ◌∙◌, ap₂, append_assoc, arith}
use Rattle.std.specs.List.{between}
use Rattle.std.proofs.lemmas.List.{length-append, take_at, drop_at, get_or-append-add}
use Rattle.orc.specs.Expressions.{Expression, stop, site_call, definition_call, parallel, sequential, pruning, pending, bytes}
use Rattle.orc.specs.Variables.{free}
use Rattle.orc.specs.Simplified.{is_stop, parallel_of, pruning_of}

first_byte : (e : Expression) → eqb (get_or (bytes e) 0 0) 0 ≡ is_stop e
unfolding bytes
first_byte stop = refl
first_byte (site_call s p) = refl
first_byte (definition_call i p) = refl
first_byte (parallel f g) = refl
first_byte (sequential x f g) = refl
first_byte (pruning x f g) = refl
first_byte (pending k s v c) = refl

-- only stop begins with its command
pub stop_there : (l : List ℕ) (at : ℕ) (o : List ℕ) (e : Expression) → length o ≡ at → l ≡ o ++ bytes e → eqb (get_or l at 0) 0 ≡ is_stop e
stop_there l at o e long is =
    let front : at ≡ length o + 0 = omega arith in
    ap (λ b. eqb b 0) (ap (λ l. get_or l at 0) is ∙ ap (λ n. get_or (o ++ bytes e) n 0) front ∙ get_or-append-add o (bytes e) 0 0)
    ∙ first_byte e

-- behind what stood there before stands a header, a left and a right part
module _ (l o h u v : List ℕ) (is : l ≡ o ++ (h ++ (u ++ v))) where
  pub right_last : l ≡ (o ++ (h ++ u)) ++ v
  right_last = is ∙ ap (λ r. o ++ r) (sym (append_assoc h u v)) ∙ sym (append_assoc o (h ++ u) v)

  -- from the header's end up to the right part stands the left part
  module _ (start from end : ℕ) (a : length o ≡ start) (b : start + length h ≡ from) (c : from + length u ≡ end) where
    pub left_there : between from end l ≡ u
    left_there =
        ap (λ l. take (end - from) (drop from l)) (is ∙ sym (append_assoc o h (u ++ v)))
        ∙ ap (take (end - from)) (drop_at (o ++ h) (u ++ v) from (length-append o h ∙ omega arith))
        ∙ take_at u v (end - from) (omega arith)

    -- it alone is kept
    pub left_kept : take start l ++ between from end l ≡ o ++ u
    left_kept = ap₂ ◌++◌ (ap (take start) is ∙ take_at o _ start a) left_there

pub parallel_right_stop : (f g : Expression) → is_stop f ≡ false → true ≡ is_stop g → f ≡ parallel_of f g
unfolding parallel_of
parallel_right_stop f g left right = cc

pub parallel_both : (f g : Expression) → is_stop f ≡ false → false ≡ is_stop g → parallel f g ≡ parallel_of f g
unfolding parallel_of
parallel_both f g left right = cc

pub pruning_right_stop : (x : ℕ) (f g : Expression) → true ≡ is_stop g → false ≡ free x f → f ≡ pruning_of x f g
unfolding pruning_of
pruning_right_stop x f g right unbound = cc

pub pruning_runs : (x : ℕ) (f g : Expression) → false ≡ is_stop g → pruning x f g ≡ pruning_of x f g
unfolding pruning_of
pruning_runs x f g right = cc

pub pruning_bound : (x : ℕ) (f g : Expression) → true ≡ free x f → pruning x f g ≡ pruning_of x f g
unfolding pruning_of
pruning_bound x f g bound = by_cases (is_stop g)
  where
    by_cases : (b : Bool) → pruning x f g ≡ cond b (cond (free x f) (pruning x f g) f) (pruning x f g)
    by_cases true = cc
    by_cases false = refl
