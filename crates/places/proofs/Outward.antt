-- The nearest frame around a gap, outward from it. Assumes nothing.
use Rattle.std.proofs.Common.{◌≡◌, ℕ, ◌+◌, ◌-◌, ◌<◌, length, Some, None, Option, sym, refl, ap, ◌∙◌, subst, arith}
use Rattle.std.specs.Option.{option_or}
use Rattle.std.proofs.Math.Nat.{le-add_right}
use Rattle.std.proofs.lemmas.List.{length-append}
use Rattle.orc.specs.Expressions.{Expression, sequential, pruning, bytes, size}
use Rattle.places.specs.Frames.{further, moved, first_bytes, by_part, nearest_frame}
use Rattle.places.specs.declared.stretch.Stretch.{Stretch}
use Rattle.places.proofs.Stretches.{same_offsets}
use Rattle.places.proofs.Framing.{in_first, in_second}
use Rattle.places.proofs.Gaps.{Gap, here, in_parallel_left, in_parallel_right, in_sequential_left, in_pruning_left, in_pruning_right, fill, before, after, bytes_filled, Open, Layer, left_of_parallel, right_of_parallel, left_of_sequential, left_of_pruning, right_of_pruning}

-- the stretch of what stands in a gap
abbrev pub stretch_of : Gap → Expression → Stretch
stretch_of C e = record { at = length (before C); end = length (before C) + size e; in_order = le-add_right (length (before C)) (size e) }

-- What the nearest frame is around e in the gap C: none, a sequential or a pruning. The frame stands in a gap D, and between
-- the frame and e there is an open gap E.
pub data Nearest (C : Gap) (e : Expression) : Option Stretch → Type 0 where
  no_frame : Open C → Nearest C e None
  sequential_frame : (D E : Gap) (x : ℕ) (g : Expression) {s : Stretch} → Open E → s ≡ stretch_of D (sequential x (fill E e) g) → ((e' : Expression) → fill C e' ≡ fill D (sequential x (fill E e') g)) → length (before C) ≡ length (before D) + (2 + length (before E)) → Nearest C e (Some s)
  pruning_frame : (D E : Gap) (x : ℕ) (f : Expression) {s : Stretch} → Open E → s ≡ stretch_of D (pruning x f (fill E e)) → ((e' : Expression) → fill C e' ≡ fill D (pruning x f (fill E e'))) → length (before C) ≡ length (before D) + (2 + size f + length (before E)) → Nearest C e (Some s)

-- one operator further out the frame is the same
module _ {make : Expression → Expression} {w m : ℕ} (layer : Layer make w m) where
  same_stretch : (D : Gap) (F : Expression) (s : Stretch) → s ≡ stretch_of D F → further w s ≡ stretch_of (layer.add D) F
  same_stretch D F s is =
      let from : w + s.at ≡ length (before (layer.add D)) = ap (λ s. w + s.at) is ∙ sym (layer.bytes_more D) in
      let to : w + s.end ≡ length (before (layer.add D)) + size F = ap (λ s. w + s.end) is ∙ omega (arith, layer.bytes_more D) in
      same_offsets (further w s) (stretch_of (layer.add D) F) from to

  deeper : {C : Gap} {e : Expression} {s : Stretch} → Nearest C e (Some s) → Nearest (layer.add C) e (moved w (Some s))
  deeper {C} {e} {s} (sequential_frame D E x g free is same long) =
      sequential_frame (layer.add D) E x g free (same_stretch D (sequential x (fill E e) g) s is)
      (λ e'. layer.fills C e' ∙ ap make (same e') ∙ sym (layer.fills D (sequential x (fill E e') g))) (omega (arith, layer.bytes_more C, layer.bytes_more D))
  deeper {C} {e} {s} (pruning_frame D E x f free is same long) =
      pruning_frame (layer.add D) E x f free (same_stretch D (pruning x f (fill E e)) s is)
      (λ e'. layer.fills C e' ∙ ap make (same e') ∙ sym (layer.fills D (pruning x f (fill E e')))) (omega (arith, layer.bytes_more C, layer.bytes_more D))

  through : ((C : Gap) → Open C → Open (layer.add C)) → {C : Gap} {e : Expression} {o : Option Stretch} → Nearest C e o → Nearest (layer.add C) e (moved w o)
  through opens {C} (no_frame free) = no_frame (opens C free)
  through opens (sequential_frame D E x g free is same long) = deeper (sequential_frame D E x g free is same long)
  through opens (pruning_frame D E x f free is same long) = deeper (pruning_frame D E x f free is same long)

-- a frame around a gap is the nearest if there is none in the gap
alone : (F : Expression) → first_bytes (size F) ≡ stretch_of here F
alone F = same_offsets (first_bytes (size F)) (stretch_of here F) refl (omega arith)

or_sequential : (x : ℕ) (g : Expression) {C : Gap} {e : Expression} {o : Option Stretch} → Nearest C e o → Nearest (in_sequential_left x C g) e (option_or (moved 2 o) (Some (first_bytes (size (sequential x (fill C e) g)))))
or_sequential x g {C} {e} (no_frame free) = sequential_frame here C x g free (alone (sequential x (fill C e) g)) (λ e'. refl) (omega arith)
or_sequential x g (sequential_frame D E y h free is same long) = deeper (left_of_sequential x g) (sequential_frame D E y h free is same long)
or_sequential x g (pruning_frame D E y f free is same long) = deeper (left_of_sequential x g) (pruning_frame D E y f free is same long)

or_pruning : (x : ℕ) (f : Expression) {C : Gap} {e : Expression} {o : Option Stretch} → Nearest C e o → Nearest (in_pruning_right x f C) e (option_or (moved (2 + size f) o) (Some (first_bytes (size (pruning x f (fill C e))))))
or_pruning x f {C} {e} (no_frame free) = pruning_frame here C x f free (alone (pruning x f (fill C e))) (λ e'. refl) (omega (arith, length-append (bytes f) (before C)))
or_pruning x f (sequential_frame D E y g free is same long) = deeper (right_of_pruning x f) (sequential_frame D E y g free is same long)
or_pruning x f (pruning_frame D E y h free is same long) = deeper (right_of_pruning x f) (pruning_frame D E y h free is same long)

-- what stands in a gap begins within the whole
begins_within : (C : Gap) (e : Expression) → 0 < size e → length (before C) < size (fill C e)
begins_within C e some =
    let all : size (fill C e) ≡ length (before C) + (size e + length (after C)) = ap length (bytes_filled C e) ∙ simp length-append in
    omega arith

module _ (e : Expression) (some : 0 < size e) (none : nearest_frame 0 e ≡ None) where
  -- by the part in which the gap is
  in_left : (C : Gap) (w p : ℕ) (F : Option Stretch → Option Stretch) (second : Option Stretch) → p ≡ w + length (before C) → by_part p w (size (fill C e)) (F (nearest_frame (p - w) (fill C e))) second ≡ F (nearest_frame (length (before C)) (fill C e))
  in_left C w p F second is =
      let within = begins_within C e some in
      let there : p - w ≡ length (before C) = omega arith in
      in_first p w (size (fill C e)) _ second (omega arith) (omega arith) ∙ ap (λ n. F (nearest_frame n (fill C e))) there

  in_right : (C : Gap) (w n p : ℕ) (F : Option Stretch → Option Stretch) (first : Option Stretch) → p ≡ w + n + length (before C) → by_part p w n first (F (nearest_frame (p - (w + n)) (fill C e))) ≡ F (nearest_frame (length (before C)) (fill C e))
  in_right C w n p F first is =
      let there : p - (w + n) ≡ length (before C) = omega arith in
      in_second p w n first _ (omega arith) ∙ ap (λ n. F (nearest_frame n (fill C e))) there

  pub nearest : (C : Gap) → Nearest C e (nearest_frame (length (before C)) (fill C e))
  unfolding nearest_frame
  nearest here = subst (Nearest here e) (sym none) (no_frame tt)
  nearest (in_parallel_left C g) =
      let layer = left_of_parallel g in
      subst (Nearest (in_parallel_left C g) e) (sym (in_left C 1 _ (moved 1) _ (layer.bytes_more C))) (through layer (λ C free. free) (nearest C))
  nearest (in_parallel_right f C) =
      let layer = right_of_parallel f in
      subst (Nearest (in_parallel_right f C) e) (sym (in_right C 1 (size f) _ (moved (1 + size f)) _ (layer.bytes_more C))) (through layer (λ C free. free) (nearest C))
  nearest (in_sequential_left x C g) =
      let all = Some (first_bytes (size (sequential x (fill C e) g))) in
      subst (Nearest (in_sequential_left x C g) e) (sym (in_left C 2 _ (λ o. option_or (moved 2 o) all) _ ((left_of_sequential x g).bytes_more C))) (or_sequential x g (nearest C))
  nearest (in_pruning_left x C g) =
      let layer = left_of_pruning x g in
      subst (Nearest (in_pruning_left x C g) e) (sym (in_left C 2 _ (moved 2) _ (layer.bytes_more C))) (through layer (λ C free. free) (nearest C))
  nearest (in_pruning_right x f C) =
      let all = Some (first_bytes (size (pruning x f (fill C e)))) in
      subst (Nearest (in_pruning_right x f C) e) (sym (in_right C 2 (size f) _ (λ o. option_or (moved (2 + size f) o) all) _ ((right_of_pruning x f).bytes_more C))) (or_pruning x f (nearest C))
