-- Stretches are the same if they begin and end at the same offsets. Assumes nothing.
use Rattle.std.proofs.Common.{◌≡◌, ℕ, ◌≤◌, ap, subst}
use Rattle.std.specs.Coded.{le_prop}
use Rattle.places.specs.declared.stretch.Stretch.{Stretch}

pub same_offsets : (s t : Stretch) → s.at ≡ t.at → s.end ≡ t.end → s ≡ t
same_offsets s t from to = by t.at from t.end to t.in_order
  where
    by : (a : ℕ) → s.at ≡ a → (b : ℕ) → s.end ≡ b → (first : a ≤ b) → ◌≡◌ {A = Stretch} s (record { at = a; end = b; in_order = first })
    by a from b to =
        subst (λ b. (first : a ≤ b) → ◌≡◌ {A = Stretch} s (record { at = a; end = b; in_order = first })) to
        (subst (λ a. (first : a ≤ s.end) → ◌≡◌ {A = Stretch} s (record { at = a; end = s.end; in_order = first })) from
        (λ first. ap (λ (h : s.at ≤ s.end). record { at = s.at; end = s.end; in_order = h }) (le_prop s.in_order first)))
