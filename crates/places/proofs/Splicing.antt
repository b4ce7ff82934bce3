-- What is replaced in the bytes of a form is a transition. Assumes nothing.
use Rattle.std.proofs.Common.{◌≡◌, ℕ, ◌+◌, ◌-◌, ◌<◌, ◌≤◌, Bool, true, false, cond, not, eqb, List, [], ◌∷◌, ◌++◌, length, take, drop, IfSome, Some, count_by, filter, Option, sym, refl, ap, ◌∙◌, subst, ap₂, subst₂, append_assoc, append-nil, arith}
use Rattle.std.specs.List.{between}
use Rattle.std.proofs.lemmas.List.Elements.{filter-append}
use Rattle.std.proofs.lemmas.List.{length-append, take_at, drop_at, drop-drop}
use Rattle.std.proofs.lemmas.List.Sums.{sum_by-append, sum_by-cons}
use Rattle.std.proofs.lemmas.Bool.{eq-eqb}
use Rattle.orc.specs.Meaning.{handle, can_reply}
use Rattle.orc.specs.Expressions.{Expression, stop, site_call, definition_call, parallel, sequential, pruning, pending, World, bytes, size}
use Rattle.orc.specs.Variables.{substitute}
use Rattle.orc.specs.Calls.{Pending, pending_calls, RightsUnbegun}
use Rattle.orc.specs.Steps.{Act, out, Keeps, keeps_call, keeps_inner, Leaf, due, reply, Step, calls, unfolds, replies, parallel_left, parallel_right, sequential_keeps, sequential_spawns, pruning_left, pruning_keeps, pruning_binds}
use Rattle.orc.specs.Sound.{standing, DistinctTickets}
use Rattle.forms.specs.Reading.{expression_of}
use Rattle.forms.specs.Heads.{IsForm}
use Rattle.forms.proofs.ReadBack.{bytes_read, read_back}
use Rattle.places.specs.Places.{due_place}
use Rattle.places.specs.Scans.{ticket_place}
use Rattle.places.specs.Frames.{nearest_frame}
use Rattle.places.specs.Splices.{spliced, Transition, IsDue, DueThere, Around, Taken, Effect, TakesReplies, PendingThere}
use Rattle.places.specs.declared.stretch.Stretch.{Stretch}
use Rattle.places.proofs.Gaps.{Gap, here, in_pruning_right, fill, before, after, bytes_filled, dues, Open, lets_quiet, lets_all, moves, calls_before, calls_after, calls_filled}
use Rattle.places.proofs.Locating.{due_located, ticket_located}
use Rattle.places.proofs.Outward.{stretch_of, Nearest, no_frame, sequential_frame, pruning_frame, nearest}

-- an expression is read from its bytes, whatever stands behind them
read_there : (e : Expression) (rest : List ℕ) → expression_of (bytes e ++ rest) ≡ e
unfolding expression_of
read_there e rest = ap (λ r. r.expression) (bytes_read e (length (bytes e ++ rest)) rest (omega (arith, length-append (bytes e) rest)))

-- a list of three pieces, of which the second goes from one offset up to another
module _ (bs first second third : List ℕ) (at end : ℕ) (is : bs ≡ first ++ (second ++ third)) (from : length first ≡ at) (to : at + length second ≡ end) where
  first_piece : take at bs ≡ first
  first_piece = ap (take at) is ∙ take_at first (second ++ third) at from

  from_second : drop at bs ≡ second ++ third
  from_second = ap (drop at) is ∙ drop_at first (second ++ third) at from

  third_piece : drop end bs ≡ third
  third_piece = ap (λ n. drop n bs) (sym to) ∙ sym (drop-drop (length second) at bs) ∙ ap (drop (length second)) from_second ∙ drop_at second third (length second) refl

  second_piece : between at end bs ≡ second
  second_piece = ap (take (end - at)) from_second ∙ take_at second third (end - at) (omega arith)

  within_bytes : end ≤ length bs
  within_bytes = omega (arith, ap length is, length-append first (second ++ third), length-append second third)

  replaced : (new : List ℕ) → first ++ (new ++ third) ≡ spliced bs at end new
  replaced new = ap₂ (λ l r. l ++ (new ++ r)) (sym first_piece) (sym third_piece)

-- a step to an expression whose bytes these are
made : {W : World} {t k : ℕ} {e e' : Expression} {l : Leaf} {a : Act} {gone : List Pending} (bs bs' : List ℕ) → e ≡ expression_of bs → bytes e' ≡ bs' → Step W t k e l a gone e' → Transition W t k bs l a gone bs'
made {W} {t} {k} {e} {e'} {l} {a} {gone} bs bs' is written s =
    let read' : e' ≡ expression_of bs' = sym (read_back e') ∙ ap expression_of written in
    record { form = ap bytes (sym read') ∙ written; step = subst₂ (λ e e'. Step W t k e l a gone e') is read' s }

-- a due call publishes nothing
quiet_due : {W : World} {t k : ℕ} {e e' : Expression} {l : Leaf} {a : Act} {gone : List Pending} → IsDue e → Step W t k e l a gone e' → Keeps a
quiet_due is calls = keeps_call
quiet_due is (unfolds d h) = keeps_inner
quiet_due is (replies r) = absurd is
quiet_due is (parallel_left s) = absurd is
quiet_due is (parallel_right b s) = absurd is
quiet_due is (sequential_keeps q s) = absurd is
quiet_due is (sequential_spawns s) = absurd is
quiet_due is (pruning_left s) = absurd is
quiet_due is (pruning_keeps b q s) = absurd is
quiet_due is (pruning_binds b s) = absurd is

-- and has 5 bytes
five_bytes : (e : Expression) → IsDue e → size e ≡ 5
unfolding bytes
five_bytes stop is = absurd is
five_bytes (site_call s p) is = refl
five_bytes (definition_call i p) is = refl
five_bytes (parallel f g) is = absurd is
five_bytes (sequential x f g) is = absurd is
five_bytes (pruning x f g) is = absurd is
five_bytes (pending k s v c) is = absurd is

pub due_calls_move : (bs : List ℕ) (n p : ℕ) → IsForm bs → due_place n (expression_of bs) ≡ Some p → DueThere bs n p
due_calls_move bs n p form at =
    let d = due_located (expression_of bs) n p at in
    let C = d.gap in
    let call = d.call in
    let is : bs ≡ before C ++ (bytes call ++ after C) = sym form ∙ ap bytes d.filled ∙ bytes_filled C call in
    let to : p + size call ≡ p + 5 = ap (λ n. p + n) (five_bytes call d.is_due) in
    let found : expression_of (drop p bs) ≡ call = ap expression_of (from_second bs (before C) (bytes call) (after C) p (p + 5) is d.place to) ∙ read_there call (after C) in
    record {
      whole = within_bytes bs (before C) (bytes call) (after C) p (p + 5) is d.place to;
      is_due = rw found d.is_due;
      moves = λ W t k a e s.
          let alone : Step W t k call (due 0) a [] e = rw found at s in
          let all : Step W t k (fill C call) (due (dues C + 0)) a [] (fill C e) = moves C (lets_quiet (quiet_due d.is_due alone) C) alone in
          let number : dues C + 0 ≡ n = omega (arith, d.number) in
          made bs (spliced bs p (p + 5) (bytes e)) (sym d.filled) (bytes_filled C e ∙ replaced bs (before C) (bytes call) (after C) p (p + 5) is d.place to (bytes e)) (rw number at all);
    }

-- counts of three lists in a row
count_three : {X : Type 0} (f : X → Bool) (xs ys zs : List X) → count_by f (xs ++ (ys ++ zs)) ≡ count_by f xs + (count_by f ys + count_by f zs)
count_three f xs ys zs = sum_by-append (λ x. cond (f x) 1 0) xs (ys ++ zs) ∙ ap (λ n. count_by f xs + n) (sum_by-append (λ x. cond (f x) 1 0) ys zs)

-- a ticket stands in the whole as often as in the gap, or more often
standing_filled : (j : ℕ) (C : Gap) (e : Expression) → standing j e ≤ standing j (fill C e)
standing_filled j C e = omega (arith, ap (count_by (λ p. eqb j p.ticket)) (calls_filled C e), count_three (λ p. eqb j p.ticket) (calls_before C) (pending_calls e) (calls_after C))

-- all are kept where none is counted
all_kept : {X : Type 0} (f : X → Bool) (xs : List X) → count_by f xs ≡ 0 → filter (λ x. not (f x)) xs ≡ xs
all_kept f [] none = refl
all_kept f (x ∷ xs) none = by (f x) (sym (sum_by-cons (λ x. cond (f x) 1 0) x xs) ∙ none) (all_kept f xs)
  where
    by : (b : Bool) → cond b 1 0 + count_by f xs ≡ 0 → (count_by f xs ≡ 0 → filter (λ x. not (f x)) xs ≡ xs) → cond (not b) (x ∷ filter (λ x. not (f x)) xs) (filter (λ x. not (f x)) xs) ≡ x ∷ xs
    by true none' rest = absurd (omega arith)
    by false none' rest = ap (λ xs. x ∷ xs) (rest (omega arith))

-- the pending calls beside the only one with its ticket
beside : (j s v c : ℕ) (E : Gap) → standing j (fill E (pending j s v c)) ≤ 1 → pending_calls (fill E stop) ≡ filter (λ q. not (eqb j q.ticket)) (pending_calls (fill E (pending j s v c)))
unfolding pending_calls
beside j s v c E one =
    let p : Pending = record { ticket = j; site = s; argument = v; since = c } in
    let has : Pending → Bool = λ q. eqb j q.ticket in
    let other : Pending → Bool = λ q. not (eqb j q.ticket) in
    let left = calls_before E in
    let right = calls_after E in
    let its = eq-eqb j j refl in
    let all : standing j (fill E (pending j s v c)) ≡ count_by has left + (count_by has (p ∷ []) + count_by has right) = ap (count_by has) (calls_filled E (pending j s v c)) ∙ count_three has left (p ∷ []) right in
    let itself : count_by has (p ∷ []) ≡ 1 = rw its in
    let kept : filter other (left ++ (p ∷ right)) ≡ left ++ right =
    filter-append other left (p ∷ right) ∙ ap₂ ◌++◌ (all_kept has left (omega arith)) (rw its (all_kept has right (omega arith))) in
    calls_filled E stop ∙ sym (ap (filter other) (calls_filled E (pending j s v c)) ∙ kept)

some_bytes : (j s v c : ℕ) → 0 < size (pending j s v c)
unfolding bytes
some_bytes j s v c = omega arith

-- A form with a pending call at the offset p.
module _ (bs : List ℕ) (form : IsForm bs) (j s v c p : ℕ) (C : Gap) (filled : expression_of bs ≡ fill C (pending j s v c)) (place : length (before C) ≡ p) where
  abbrev call : Expression
  call = pending j s v c

  call_there : bs ≡ before C ++ (bytes call ++ after C)
  call_there = sym form ∙ ap bytes filled ∙ bytes_filled C call

  twelve : p + size call ≡ p + 12
  unfolding bytes
  twelve = refl

  call_read : expression_of (drop p bs) ≡ call
  call_read = ap expression_of (from_second bs (before C) (bytes call) (after C) p (p + 12) call_there place twelve) ∙ read_there call (after C)

  -- A frame around it: in the gap D, and with the gap E for the call, behind the bytes front and before the bytes back.
  module _ (D E : Gap) (frame : Expression → Expression) (front back : List ℕ) (written : (e : Expression) → bytes (frame e) ≡ front ++ (bytes e ++ back))
      (same : (e : Expression) → fill C e ≡ fill D (frame (fill E e))) (long : p ≡ length (before D) + (length front + length (before E))) where
    abbrev whole : Expression
    whole = frame (fill E call)

    abbrev at : ℕ
    at = length (before D)

    abbrev end : ℕ
    end = length (before D) + size whole

    all_of : expression_of bs ≡ fill D whole
    all_of = filled ∙ same call

    frame_there : bs ≡ before D ++ (bytes whole ++ after D)
    frame_there = sym form ∙ ap bytes all_of ∙ bytes_filled D whole

    within_frame : (e : Expression) → bytes (frame (fill E e)) ≡ (front ++ before E) ++ (bytes e ++ (after E ++ back))
    within_frame e = written (fill E e) ∙ ap (λ l. front ++ (l ++ back)) (bytes_filled E e) ∙ (simp append_assoc)

    frame_bytes : between at end bs ≡ bytes whole
    frame_bytes = second_piece bs (before D) (bytes whole) (after D) at end frame_there refl refl

    frame_read : expression_of (between at end bs) ≡ whole
    frame_read = ap expression_of frame_bytes ∙ read_back whole

    call_in_frame : bs ≡ before D ++ ((front ++ before E) ++ (bytes call ++ ((after E ++ back) ++ after D)))
    call_in_frame = frame_there ∙ ap (λ l. before D ++ (l ++ after D)) (within_frame call) ∙ (simp append_assoc)

    start : at + length (front ++ before E) ≡ p
    start = omega (arith, length-append front (before E))

    before_call : between at p bs ≡ front ++ before E
    before_call = second_piece bs (before D) (front ++ before E) (bytes call ++ ((after E ++ back) ++ after D)) at p call_in_frame refl start

    sizes : size whole ≡ length (front ++ before E) + (12 + length (after E ++ back))
    unfolding bytes
    sizes = ap length (within_frame call) ∙ length-append (front ++ before E) (bytes call ++ (after E ++ back)) ∙ omega arith

    behind_call : between (p + 12) end bs ≡ after E ++ back
    unfolding bytes
    behind_call =
        let up_to : List ℕ = before D ++ ((front ++ before E) ++ bytes call) in
        let there : bs ≡ up_to ++ ((after E ++ back) ++ after D) = call_in_frame ∙ (simp append_assoc) in
        let from : length up_to ≡ p + 12 = length-append (before D) ((front ++ before E) ++ bytes call) ∙ omega (arith, length-append (front ++ before E) (bytes call), start) in
        second_piece bs up_to (after E ++ back) (after D) (p + 12) end there from (omega (arith, sizes, start))

    around : Around bs p (stretch_of D whole)
    around =
        record {
          before = omega arith;
          behind = omega (arith, sizes, start);
          within = within_bytes bs (before D) (bytes whole) (after D) at end frame_there refl refl;
          form = ap bytes frame_read ∙ sym frame_bytes;
        }

    frame_replaced : (e : Expression) → bytes (fill D e) ≡ spliced bs at end (bytes e)
    frame_replaced e = bytes_filled D e ∙ replaced bs (before D) (bytes whole) (after D) at end frame_there refl refl (bytes e)

    -- stop in the call's place, and something behind the frame
    with_stop : (rest : List ℕ) → bytes (frame (fill E stop)) ++ rest ≡ between at p bs ++ (0 ∷ (between (p + 12) end bs ++ rest))
    unfolding bytes
    with_stop rest = ap (λ l. l ++ rest) (within_frame stop) ∙ append_assoc (front ++ before E) (0 ∷ (after E ++ back)) rest ∙ ap₂ (λ l r. l ++ (0 ∷ (r ++ rest))) (sym before_call) (sym behind_call)

  sequential_written : (x : ℕ) (g e : Expression) → bytes (sequential x e g) ≡ (4 ∷ x ∷ []) ++ (bytes e ++ bytes g)
  unfolding bytes
  sequential_written x g e = refl

  pruning_written : (x : ℕ) (f e : Expression) → bytes (pruning x f e) ≡ (5 ∷ x ∷ bytes f) ++ (bytes e ++ [])
  unfolding bytes
  pruning_written x f e = ap (λ l. 5 ∷ x ∷ (bytes f ++ l)) (sym (append-nil (bytes e)))

  frames_around : {o : Option Stretch} → Nearest C call o → IfSome o (Around bs p)
  frames_around (no_frame free) = tt
  frames_around (sequential_frame D E x g free is same long) = subst (Around bs p) (sym is) (around D E (λ e. sequential x e g) (4 ∷ x ∷ []) (bytes g) (sequential_written x g) same (sym place ∙ long))
  frames_around (pruning_frame D E x f free is same long) = subst (Around bs p) (sym is) (around D E (pruning x f) (5 ∷ x ∷ bytes f) [] (pruning_written x f) same (omega arith))

  module _ (distinct : DistinctTickets (expression_of bs)) (W : World) (t k w : ℕ) (admitted : can_reply (handle W.meaning s v) c t w ≡ true) where
    published : (E : Gap) → Open E → Step W t k (fill E call) (reply j w) (out w) [] (fill E stop)
    published E free = moves E (lets_all (out w) E free) (replies admitted)

    effect_outside : Open C → Transition W t k bs (reply j w) (out w) [] (spliced bs p (p + 12) (0 ∷ []))
    unfolding bytes
    effect_outside free = made bs _ (sym filled) (bytes_filled C stop ∙ replaced bs (before C) (bytes call) (after C) p (p + 12) call_there place twelve (0 ∷ [])) (published C free)

    module _ (D E : Gap) (x : ℕ) (free : Open E) where
      effect_in_sequential : (g : Expression) → ((e : Expression) → fill C e ≡ fill D (sequential x (fill E e) g)) → p ≡ length (before D) + (2 + length (before E)) → Taken W t k bs j w p (stretch_of D (sequential x (fill E call) g)) (sequential x (fill E call) g)
      unfolding bytes
      effect_in_sequential g same long =
          let frame : Expression → Expression = λ e. sequential x e g in
          let result = parallel (frame (fill E stop)) (substitute w x g) in
          let new = ap (λ l. 3 ∷ l) (with_stop D E frame (4 ∷ x ∷ []) (bytes g) (sequential_written x g) same long (bytes (substitute w x g))) in
          let there = frame_replaced D E frame (4 ∷ x ∷ []) (bytes g) (sequential_written x g) same long result in
          made bs _ (sym (filled ∙ same call)) (there ∙ ap (spliced bs (length (before D)) (length (before D) + size (frame (fill E call)))) new)
          (moves D (lets_quiet keeps_inner D) (sequential_spawns (published E free)))

      effect_in_pruning : (f : Expression) → ((e : Expression) → fill C e ≡ fill D (pruning x f (fill E e))) → p ≡ length (before D) + (2 + size f + length (before E)) → Taken W t k bs j w p (stretch_of D (pruning x f (fill E call))) (pruning x f (fill E call))
      effect_in_pruning f same long =
          let all : standing j (expression_of bs) ≡ standing j (fill D (pruning x f (fill E call))) = ap (standing j) (filled ∙ same call) in
          let one : standing j (fill E call) ≤ 1 = omega (arith, distinct j, standing_filled j D (pruning x f (fill E call)), standing_filled j (in_pruning_right x f here) (fill E call)) in
          let there = frame_replaced D E (pruning x f) (5 ∷ x ∷ bytes f) [] (pruning_written x f) same (omega arith) (substitute w x f) in
          rw (← beside j s v c E one) (made bs _ (sym (filled ∙ same call)) there (moves D (lets_quiet keeps_inner D) (pruning_binds {l = reply j w} refl (published E free))))

    effect : {o : Option Stretch} → Nearest C call o → Effect W t k bs j w p o
    effect (no_frame free) = effect_outside free
    effect (sequential_frame D E x g free is same long) =
        let long' = sym place ∙ long in
        subst (λ s. Effect W t k bs j w p (Some s)) (sym is)
        (subst (Taken W t k bs j w p (stretch_of D (sequential x (fill E call) g))) (sym (frame_read D E (λ e. sequential x e g) (4 ∷ x ∷ []) (bytes g) (sequential_written x g) same long')) (effect_in_sequential D E x free g same long'))
    effect (pruning_frame D E x f free is same long) =
        let long' = sym place ∙ long in
        subst (λ s. Effect W t k bs j w p (Some s)) (sym is)
        (subst (Taken W t k bs j w p (stretch_of D (pruning x f (fill E call)))) (sym (frame_read D E (pruning x f) (5 ∷ x ∷ bytes f) [] (pruning_written x f) same (omega arith))) (effect_in_pruning D E x free f same long'))

pub replies_take_effect : (bs : List ℕ) (j p : ℕ) → IsForm bs → RightsUnbegun (expression_of bs) → DistinctTickets (expression_of bs) → ticket_place j (expression_of bs) ≡ Some p → PendingThere bs j p
unfolding nearest_frame
replies_take_effect bs j p form unbegun distinct found =
    let (q, is, d) = ticket_located j (expression_of bs) 0 p unbegun found in
    let C = d.gap in
    let call = pending j d.site d.argument d.since in
    let place : length (before C) ≡ p = d.place ∙ omega arith in
    let there : nearest_frame (length (before C)) (fill C call) ≡ nearest_frame p (expression_of bs) = ap₂ nearest_frame place (sym d.filled) in
    let near = subst (Nearest C call) there (nearest call (some_bytes j d.site d.argument d.since) refl C) in
    record {
      whole = within_bytes bs (before C) (bytes call) (after C) p (p + 12) (call_there bs form j d.site d.argument d.since p C d.filled place) place (twelve bs form j d.site d.argument d.since p C d.filled place);
      frame = frames_around bs form j d.site d.argument d.since p C d.filled place near;
      replies = subst (TakesReplies bs j p) (sym (call_read bs form j d.site d.argument d.since p C d.filled place)) (refl, λ W t k w admitted. effect bs form j d.site d.argument d.since p C d.filled place distinct W t k w admitted near);
    }
