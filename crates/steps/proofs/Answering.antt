-- What a reply makes of a form by the frame that takes it, and that it makes nothing else. Assumes nothing.
use Rattle.std.proofs.Common.{◌≡◌, ℕ, ◌+◌, ◌-◌, ◌<◌, ◌≤◌, List, ◌∷◌, ◌++◌, length, take, drop, Some, Option, sym, refl, ap, ◌∙◌, subst, ap₂, arith}
use Rattle.std.specs.List.{between}
use Rattle.std.proofs.lemmas.List.{length-append, length-take, length-drop, drop-drop, drop-take, drop_at}
use Rattle.orc.specs.Expressions.{Expression, sequential, pruning, bytes}
use Rattle.orc.specs.Variables.{substitute}
use Rattle.orc.specs.Steps.{Act}
use Rattle.forms.specs.Reading.{expression_of}
use Rattle.forms.specs.Heads.{IsForm}
use Rattle.places.specs.Splices.{spliced}
use Rattle.places.specs.declared.stretch.Stretch.{Stretch}
use Rattle.walks.specs.Capacity.{capacity}
use Rattle.steps.specs.declared.framed.Framed.{Framed}
use Rattle.steps.specs.Replied.{read_in, HoldsCall, FormOf, Replied, spawns, binds}

-- whatever the reply could come to has no room
abbrev pub NoRoom : List ℕ → ℕ → ℕ → Option Stretch → Type 0
NoRoom bs p w frame = (a : Act) (q : Option Stretch) (bs' : List ℕ) → Replied bs p w frame a q bs' → capacity < length bs'

abbrev pub spawned : List ℕ → ℕ → ℕ → Stretch → ℕ → Expression → List ℕ
spawned bs p w s x g = spliced bs s.at s.end (3 ∷ (between s.at p bs ++ (0 ∷ (between (p + 12) s.end bs ++ bytes (substitute w x g)))))

-- where the call stands in a sequential or a pruning, and there is no room for what that takes
module _ (bs : List ℕ) (p w : ℕ) (s : Stretch) where
  pub unspawned : {x : ℕ} {f g : Expression} → sequential x f g ≡ read_in bs s → capacity < length (spawned bs p w s x g) → NoRoom bs p w (Some s)
  unspawned {x} {f} {g} there long a q bs' (spawns s {x = y} {f = f'} {g = g'} holds is) =
      let both : sequential x f g ≡ sequential y f' g' = there ∙ is in
      let same : spawned bs p w s x g ≡ spawned bs p w s y g' = cc in
      subst (λ l. capacity < length l) same long
  unspawned {x} {f} {g} there long a q bs' (binds s q' {x = y} {f = f'} {g = g'} holds is last right) =
      let both : sequential x f g ≡ pruning y f' g' = there ∙ is in
      absurd cc

  pub unbound : {x : ℕ} {f g : Expression} → pruning x f g ≡ read_in bs s → capacity < length (spliced bs s.at s.end (bytes (substitute w x f))) → NoRoom bs p w (Some s)
  unbound {x} {f} {g} there long a q bs' (spawns s {x = y} {f = f'} {g = g'} holds is) =
      let both : pruning x f g ≡ sequential y f' g' = there ∙ is in
      absurd cc
  unbound {x} {f} {g} there long a q bs' (binds s q' {x = y} {f = f'} {g = g'} holds is last right) =
      let both : pruning x f g ≡ pruning y f' g' = there ∙ is in
      let same : spliced bs s.at s.end (bytes (substitute w x f)) ≡ spliced bs s.at s.end (bytes (substitute w y f')) = cc in
      subst (λ l. capacity < length l) same long

-- a frame holds the call within it
pub holds : (f : Framed) → HoldsCall f.frame.form.bytes.now f.place f.frame.stretch
holds f = record { before = f.before; behind = f.behind; within = f.frame.within }

-- The last bytes of a stretch are a stretch that ends with it.
module _ (bs front back : List ℕ) (s : Stretch) (within : s.end ≤ length bs) (is : between s.at s.end bs ≡ front ++ back) where
  pub stretch_long : s.end ≡ s.at + (length front + length back)
  stretch_long =
      let long = ap length is ∙ length-append front back in
      omega (arith, s.in_order, length-take (s.end - s.at) (drop s.at bs), length-drop s.at bs)

  pub back_there : (from : ℕ) → from + length back ≡ s.end → between from s.end bs ≡ back
  back_there from ends =
      let starts : from ≡ s.at + length front = omega (arith, stretch_long) in
      let long : s.end - from ≡ length back = omega arith in
      let all : s.end - s.at ≡ length front + length back = omega (arith, stretch_long) in
      ap₂ (λ n m. take n (drop m bs)) long starts
      ∙ ap (take (length back)) (sym (drop-drop (length front) s.at bs))
      ∙ sym (drop-take (length front) (length back) (drop s.at bs))
      ∙ ap (drop (length front)) (ap (λ n. take n (drop s.at bs)) (sym all) ∙ is)
      ∙ drop_at front back (length front) refl

  pub back_form : (q : Stretch) → q.end ≡ s.end → q.at + length back ≡ s.end → IsForm back → {e : Expression} → expression_of back ≡ e → FormOf bs q e
  back_form q last ends form read =
      let there : between q.at q.end bs ≡ back = ap (λ end. between q.at end bs) last ∙ back_there q.at ends in
      record { ordered = q.in_order; within = omega arith; form = subst IsForm (sym there) form; is = ap expression_of there ∙ read }
