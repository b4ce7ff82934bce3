-- The frame nearest to a place is itself a form. Assumes nothing.
use Rattle.std.proofs.Common.{◌≡◌, ℕ, ◌+◌, ◌-◌, ◌≤◌, Bool, true, false, cond, ltb, List, [], ◌∷◌, ◌++◌, length, take, drop, IfSome, Some, None, Option, sym, refl, ap, ◌∙◌, subst, append-nil, arith}
use Rattle.std.specs.List.{between}
use Rattle.std.specs.Option.{option_or}
use Rattle.std.proofs.lemmas.List.{length-append, length-drop, take_all, take-append-le, drop-drop, drop_at, drop-append-le}
use Rattle.orc.specs.Expressions.{Expression, stop, site_call, definition_call, parallel, sequential, pruning, pending, bytes, size}
use Rattle.forms.specs.Reading.{expression_of}
use Rattle.forms.specs.Heads.{IsForm}
use Rattle.forms.proofs.ReadBack.{read_back}
use Rattle.places.specs.Frames.{further, moved, first_bytes, by_part, nearest_frame}
use Rattle.places.specs.declared.stretch.Stretch.{Stretch}

-- a stretch of the bytes that is a form
record FormIn (bs : List ℕ) (s : Stretch) : Type 0 where
  within : s.end ≤ length bs
  form : IsForm (between s.at s.end bs)

abbrev FormIfAny : List ℕ → Option Stretch → Type 0
FormIfAny bs o = IfSome o (FormIn bs)

-- a stretch of a part is one of the whole
moved_between : (front part back : List ℕ) (at end : ℕ) → at ≤ end → end ≤ length part → between (length front + at) (length front + end) (front ++ (part ++ back)) ≡ between at end part
moved_between front part back at end ordered within =
    let wide : (length front + end) - (length front + at) ≡ end - at = omega arith in
    ap (λ n. take n (drop (length front + at) (front ++ (part ++ back)))) wide
    ∙ ap (take (end - at)) (sym (drop-drop at (length front) (front ++ (part ++ back))) ∙ ap (drop at) (drop_at front (part ++ back) (length front) refl) ∙ drop-append-le at part back (omega arith))
    ∙ take-append-le (end - at) (drop at part) back (simp length-drop (omega arith))

moved_form : (front part back : List ℕ) (w : ℕ) → length front ≡ w → (o : Option Stretch) → FormIfAny part o → FormIfAny (front ++ (part ++ back)) (moved w o)
moved_form front part back w long None _ = tt
moved_form front part back w long (Some s) is =
    subst (λ n. FormIn (front ++ (part ++ back)) (further n s)) long
    (record {
      within = simp length-append (omega (arith, is.within));
      form = subst IsForm (sym (moved_between front part back s.at s.end s.in_order is.within)) is.form;
    })

or_whole : (bs : List ℕ) → IsForm bs → (o : Option Stretch) → FormIfAny bs o → FormIfAny bs (option_or o (Some (first_bytes (length bs))))
or_whole bs form None _ = record { within = omega arith; form = subst IsForm (sym (take_all (length bs - 0) bs (omega arith))) form }
or_whole bs form (Some s) is = is

either_part : (b c : Bool) (bs : List ℕ) (first second : Option Stretch) → FormIfAny bs first → FormIfAny bs second → FormIfAny bs (cond b None (cond c first second))
either_part true c bs first second _ _ = tt
either_part false true bs first second is _ = is
either_part false false bs first second _ is = is

in_part : (p w n : ℕ) (bs : List ℕ) (first second : Option Stretch) → FormIfAny bs first → FormIfAny bs second → FormIfAny bs (by_part p w n first second)
in_part p w n = either_part (ltb p w) (ltb p (w + n))

-- the second of two parts, with nothing behind it
moved_last : (front part : List ℕ) (w : ℕ) → length front ≡ w → (o : Option Stretch) → FormIfAny part o → FormIfAny (front ++ part) (moved w o)
moved_last front part w long o is = subst (λ l. FormIfAny (front ++ l) (moved w o)) (append-nil part) (moved_form front part [] w long o is)

nearest_form : (p : ℕ) (e : Expression) → FormIfAny (bytes e) (nearest_frame p e)
unfolding nearest_frame bytes
nearest_form p stop = tt
nearest_form p (site_call s a) = tt
nearest_form p (definition_call i a) = tt
nearest_form p (parallel f g) =
    in_part p 1 (size f) (bytes (parallel f g)) _ _
    (moved_form (3 ∷ []) (bytes f) (bytes g) 1 refl _ (nearest_form (p - 1) f))
    (moved_last (3 ∷ bytes f) (bytes g) (1 + size f) (omega arith) _ (nearest_form (p - (1 + size f)) g))
nearest_form p (sequential x f g) =
    in_part p 2 (size f) (bytes (sequential x f g)) _ _
    (or_whole (bytes (sequential x f g)) (ap bytes (read_back (sequential x f g))) _ (moved_form (4 ∷ x ∷ []) (bytes f) (bytes g) 2 refl _ (nearest_form (p - 2) f)))
    (moved_last (4 ∷ x ∷ bytes f) (bytes g) (2 + size f) (omega arith) _ (nearest_form (p - (2 + size f)) g))
nearest_form p (pruning x f g) =
    in_part p 2 (size f) (bytes (pruning x f g)) _ _
    (moved_form (5 ∷ x ∷ []) (bytes f) (bytes g) 2 refl _ (nearest_form (p - 2) f))
    (or_whole (bytes (pruning x f g)) (ap bytes (read_back (pruning x f g))) _ (moved_last (5 ∷ x ∷ bytes f) (bytes g) (2 + size f) (omega arith) _ (nearest_form (p - (2 + size f)) g)))
nearest_form p (pending k s v c) = tt

-- So the frame that takes a reply is one.
pub frame_is_form : (bs : List ℕ) (p : ℕ) (s : Stretch) → IsForm bs → Some s ≡ nearest_frame p (expression_of bs) → IsForm (between s.at s.end bs)
frame_is_form bs p s form is = subst (λ l. IsForm (between s.at s.end l)) form (subst (FormIfAny (bytes (expression_of bs))) (sym is) (nearest_form p (expression_of bs))).form
