-- The nearest frame around a place, from a form to its parts and back. Assumes nothing.
use Rattle.std.proofs.Common.{◌≡◌, ℕ, ◌+◌, ◌-◌, ◌<◌, ◌≤◌, List, length, Some, None, Option, sym, refl, ap, ◌∙◌, subst, ap₂, arith, MatchOption, inl, inr}
use Rattle.std.specs.Option.{option_or}
use Rattle.std.proofs.lemmas.Bool.{lt-ltb, le-ltb}
use Rattle.orc.specs.Expressions.{Expression, parallel, sequential, pruning, size}
use Rattle.forms.specs.Reading.{expression_of}
use Rattle.forms.specs.Heads.{expression, IsForm}
use Rattle.forms.specs.declared.form.Form.{Form}
use Rattle.places.specs.Frames.{moved, first_bytes, Within, by_part, nearest_frame}
use Rattle.places.specs.Parts.{LiesIn, HasNearest}
use Rattle.places.specs.declared.frames.Part.{Part}
use Rattle.places.specs.declared.stretch.Stretch.{Stretch}
use Rattle.places.proofs.Stretches.{same_offsets}

-- where a place lies
pub in_front : (p w n : ℕ) (first second : Option Stretch) → p < w → by_part p w n first second ≡ None
in_front p w n first second before = rw (lt-ltb p w before)

pub in_first : (p w n : ℕ) (first second : Option Stretch) → w ≤ p → p < w + n → by_part p w n first second ≡ first
in_first p w n first second behind before = rw (le-ltb p w behind, lt-ltb p (w + n) before)

pub in_second : (p w n : ℕ) (first second : Option Stretch) → w + n ≤ p → by_part p w n first second ≡ second
in_second p w n first second behind = rw (le-ltb p w (omega arith), le-ltb p (w + n) behind)

-- the stretch of a part lies within the whole
within_whole : (w n m : ℕ) → w + n ≤ m → (o : Option Stretch) → Within n o → Within m (moved w o)
within_whole w n m fits None _ = tt
within_whole w n m fits (Some s) (some, within) = (omega arith, omega arith)

-- A form of two parts, the first behind w bytes, each with the frame that is around it: what lies in a part has its nearest
-- frame there, or else that one.
module _ (bs : List ℕ) (p w : ℕ) (f g : Form × Option Stretch) {e : Expression} (is : e ≡ expression_of bs) (long : length bs ≡ length f.0.bytes.now + length g.0.bytes.now + w) (forms : IsForm bs → IsForm f.0.bytes.now × IsForm g.0.bytes.now)
    (some : 0 < w) (around-f : Within (length bs) f.1) (around-g : Within (length bs) g.1)
    (parts : IsForm bs → nearest_frame p e ≡ by_part p w (length f.0.bytes.now) (option_or (moved w (nearest_frame (p - w) (expression_of f.0.bytes.now))) f.1) (option_or (moved (w + length f.0.bytes.now) (nearest_frame (p - (w + length f.0.bytes.now)) (expression_of g.0.bytes.now))) g.1)) where
  pub nearest_in_part : (r : Option Part) → LiesIn p w f g r → MatchOption r (IsForm bs → nearest_frame p (expression_of bs) ≡ None) (HasNearest bs p)
  nearest_in_part None before = λ form. ap (nearest_frame p) (sym is) ∙ parts form ∙ in_front p w _ _ _ before
  nearest_in_part (Some part) (inl (behind, before, there)) =
      record {
        begun = omega (arith, there.place);
        whole = omega (arith, there.place, ap length there.bytes);
        shorter = omega (arith, ap length there.bytes);
        form = λ form. subst IsForm (sym there.bytes) (forms form).0;
        around = subst (Within (length bs)) (sym there.around) around-f;
        nearest = λ form. ap (nearest_frame p) (sym is) ∙ parts form ∙ in_first p w _ _ _ behind before ∙ (rw (there.place, there.bytes, there.around));
      }
  nearest_in_part (Some part) (inr (behind, there)) =
      record {
        begun = omega (arith, there.place);
        whole = omega (arith, there.place, ap length there.bytes);
        shorter = omega (arith, ap length there.bytes);
        form = λ form. subst IsForm (sym there.bytes) (forms form).1;
        around = subst (Within (length bs)) (sym there.around) around-g;
        nearest = λ form. ap (nearest_frame p) (sym is) ∙ parts form ∙ in_second p w _ _ _ behind ∙ (rw (there.place, there.bytes, there.around));
      }

-- the bytes of a form, as the code has them
pub is_first_bytes : (n m : ℕ) (first : 0 ≤ n) → n ≡ m → ◌≡◌ {A = Stretch} (record { at = 0; end = n; in_order = first }) (first_bytes m)
is_first_bytes n m first same = same_offsets (record { at = 0; end = n; in_order = first }) (first_bytes m) refl same

-- a part without a frame around it has what it has by itself
by_itself : (o : Option Stretch) → o ≡ option_or o None
by_itself None = refl
by_itself (Some s) = refl

module _ (bs : List ℕ) (p : ℕ) (f g : Form) (forms : IsForm bs → IsForm f.bytes.now × IsForm g.bytes.now) where
  wide : IsForm bs → size (expression f) ≡ length f.bytes.now
  wide form = ap length (forms form).0

  pub nearest_in_parallel : parallel (expression f) (expression g) ≡ expression_of bs → length bs ≡ length f.bytes.now + length g.bytes.now + 1 → (r : Option Part) → LiesIn p 1 (f, None) (g, None) r → MatchOption r (IsForm bs → nearest_frame p (expression_of bs) ≡ None) (HasNearest bs p)
  unfolding nearest_frame
  nearest_in_parallel is long r lies =
      nearest_in_part bs p 1 (f, None) (g, None) is long forms (omega arith) tt tt
      (λ form. ap (λ n. by_part p 1 n (moved 1 (nearest_frame (p - 1) (expression f))) (moved (1 + n) (nearest_frame (p - (1 + n)) (expression g)))) (wide form) ∙ ap₂ (by_part p 1 (length f.bytes.now)) (by_itself _) (by_itself _))
      r lies

  module _ (whole : Stretch) (is-whole : whole ≡ first_bytes (length bs)) (x : ℕ) (long : length bs ≡ length f.bytes.now + length g.bytes.now + 2) (r : Option Part) where
    within : Within (length bs) (Some whole)
    within = subst (λ s. Within (length bs) (Some s)) (sym is-whole) (omega arith, omega arith)

    -- the bytes of the form itself
    itself : IsForm bs → {e : Expression} → e ≡ expression_of bs → first_bytes (size e) ≡ whole
    itself form is = ap first_bytes (ap size is ∙ ap length form) ∙ sym is-whole

    pub nearest_in_sequential : sequential x (expression f) (expression g) ≡ expression_of bs → LiesIn p 2 (f, Some whole) (g, None) r → MatchOption r (IsForm bs → nearest_frame p (expression_of bs) ≡ None) (HasNearest bs p)
    unfolding nearest_frame
    nearest_in_sequential is lies =
        nearest_in_part bs p 2 (f, Some whole) (g, None) is long forms (omega arith) within tt
        (λ form. ap₂ (λ n s. by_part p 2 n (option_or (moved 2 (nearest_frame (p - 2) (expression f))) (Some s)) (moved (2 + n) (nearest_frame (p - (2 + n)) (expression g)))) (wide form) (itself form is) ∙ ap (by_part p 2 (length f.bytes.now) _) (by_itself _))
        r lies

    pub nearest_in_pruning : pruning x (expression f) (expression g) ≡ expression_of bs → LiesIn p 2 (f, None) (g, Some whole) r → MatchOption r (IsForm bs → nearest_frame p (expression_of bs) ≡ None) (HasNearest bs p)
    unfolding nearest_frame
    nearest_in_pruning is lies =
        nearest_in_part bs p 2 (f, None) (g, Some whole) is long forms (omega arith) tt within
        (λ form. ap₂ (λ n s. by_part p 2 n (moved 2 (nearest_frame (p - 2) (expression f))) (option_or (moved (2 + n) (nearest_frame (p - (2 + n)) (expression g))) (Some s))) (wide form) (itself form is) ∙ ap (λ o. by_part p 2 (length f.bytes.now) o (option_or (moved (2 + length f.bytes.now) (nearest_frame (p - (2 + length f.bytes.now)) (expression g))) (Some whole))) (by_itself _))
        r lies
