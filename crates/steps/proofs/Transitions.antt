-- Calls made and replies taken in the bytes of a form are transitions, and there is room for them. Assumes nothing.
use Rattle.std.proofs.Common.{◌≡◌, ℕ, zero, suc, ◌+◌, ◌-◌, ◌<◌, ◌≤◌, true, false, not, eqb, List, [], ◌∷◌, ◌++◌, length, drop, IfSome, Some, None, filter, Option, sym, refl, ap, ◌∙◌, subst, arith}
use Rattle.std.specs.List.{between, AllByRecursion}
use Rattle.std.proofs.lemmas.List.{length-append, length-take, length-drop, drop_at}
use Rattle.std.proofs.lemmas.Bool.{le-leb}
use Rattle.orc.specs.Meaning.{known, no_end, handle, can_reply}
use Rattle.orc.specs.Expressions.{value, variable, Expression, stop, site_call, definition_call, parallel, sequential, pruning, pending, Definition, World, bytes, size, entry}
use Rattle.orc.specs.Variables.{substitute}
use Rattle.orc.specs.Calls.{pending_calls}
use Rattle.orc.specs.Steps.{Act, called, inner, out, due, reply}
use Rattle.orc.specs.Sound.{NumbersWithin}
use Rattle.forms.specs.Reading.{expression_of}
use Rattle.forms.proofs.ReadBack.{bytes_read, read_back}
use Rattle.places.specs.Frames.{nearest_frame}
use Rattle.places.specs.Splices.{spliced, Transition, IsDue, Around, Taken, Effect, TakesReplies}
use Rattle.places.specs.declared.stretch.Stretch.{Stretch}
use Rattle.places.proofs.Gaps.{Gap, here, in_parallel_left, in_parallel_right, in_sequential_left, in_pruning_left, in_pruning_right, fill, before, after, bytes_filled}
use Rattle.places.proofs.Locating.{due_located}
use Rattle.places.proofs.Splicing.{due_calls_move, replies_take_effect}
use Rattle.walks.specs.Capacity.{capacity}
use Rattle.steps.specs.Made.{Made}
use Rattle.steps.specs.Replied.{read_in, HoldsCall, Replied, publishes, spawns, binds}
use Rattle.steps.specs.Laws.{MadeCallsAreTransitions, DueCallsCanBeMade, withdrawn_with, RepliesMove, RepliesAreTransitions, RepliesCanBeMade}
use Rattle.steps.proofs.Sizes.{substituted_size}
use Rattle.steps.proofs.Calling.{five_there, site_made, definition_made}
use Rattle.steps.proofs.Answering.{spawned, back_form}

pub made_calls_are_transitions : MadeCallsAreTransitions
made_calls_are_transitions bs n p form at ds t k a bs' made m =
    subst (Transition (record { meaning = m; definitions = ds }) t k bs (due n) a []) (sym made.replaced) ((due_calls_move bs n p form at).moves (record { meaning = m; definitions = ds }) t k a made.result (made.step m))

-- lengths of stretches, and of a list with one replaced
between_length : (bs : List ℕ) (at end : ℕ) → at ≤ end → end ≤ length bs → length (between at end bs) + at ≡ end
between_length bs at end ordered within = simp (length-take, length-drop) (omega arith)

spliced_length : (bs : List ℕ) (at end : ℕ) (new : List ℕ) → at ≤ end → end ≤ length bs → length (spliced bs at end new) + end ≡ length bs + at + length new
spliced_length bs at end new ordered within = simp (length-append, length-take, length-drop) (omega arith)

-- the definition of a number in the list
entry_there : (P : Definition → Type 0) (ds : List Definition) (i : ℕ) → i < length ds → AllByRecursion P ds → (d : Definition) × (entry ds i ≡ Some d) × P d
entry_there P [] i within all = absurd (omega arith)
entry_there P (d ∷ ds) zero within all = (d, refl, all.0)
entry_there P (d ∷ ds) (suc i) within all = entry_there P ds i (omega arith) all.1

-- the definitions that are called in a gap
numbers_filled : (ds : List Definition) (C : Gap) (e : Expression) → NumbersWithin ds (fill C e) → NumbersWithin ds e
unfolding NumbersWithin
numbers_filled ds here e all = all
numbers_filled ds (in_parallel_left C g) e all = numbers_filled ds C e all.0
numbers_filled ds (in_parallel_right f C) e all = numbers_filled ds C e all.1
numbers_filled ds (in_sequential_left x C g) e all = numbers_filled ds C e all.0
numbers_filled ds (in_pruning_left x C g) e all = numbers_filled ds C e all.0
numbers_filled ds (in_pruning_right x f C) e all = numbers_filled ds C e all.1

-- an expression is read from its bytes, whatever stands behind them
read_there : (e : Expression) (rest : List ℕ) → expression_of (bytes e ++ rest) ≡ e
unfolding expression_of
read_there e rest = ap (λ r. r.expression) (bytes_read e (length (bytes e ++ rest)) rest (omega (arith, length-append (bytes e) rest)))

abbrev CanBeMade : List Definition → ℕ → ℕ → List ℕ → ℕ → Type 0
CanBeMade ds t k bs p = (a : Act) × (bs' : List ℕ) × Made ds t k bs p a bs' × (length bs' ≤ capacity)

module _ (ds : List Definition) (t k : ℕ) (bs : List ℕ) (p : ℕ) (few : length bs ≤ 4096) (small : AllByRecursion (λ d. size d.body ≤ 4096) ds) where
  of_call : (e : Expression) → e ≡ expression_of (drop p bs) → IsDue e → NumbersWithin ds e → CanBeMade ds t k bs p
  unfolding NumbersWithin bytes
  of_call (site_call s (value v)) is now numbers =
      let whole = five_there bs p (subst IsDue is tt) in
      let long = spliced_length bs p (p + 5) (bytes (pending k s v t)) (omega arith) whole in
      (called s v, spliced bs p (p + 5) (bytes (pending k s v t)), site_made ds t k bs p s v is refl, omega arith)
  of_call (definition_call i (value v)) is now numbers =
      let (d, found, fits) = entry_there (λ d. size d.body ≤ 4096) ds i numbers small in
      let body = substitute v d.formal d.body in
      let whole = five_there bs p (subst IsDue is tt) in
      let long = spliced_length bs p (p + 5) (bytes body) (omega arith) whole in
      (inner, spliced bs p (p + 5) (bytes body), definition_made ds t k bs p i v is d found refl, omega (arith, substituted_size v d.formal d.body))
  of_call (site_call s (variable x)) is now numbers = absurd now
  of_call (definition_call i (variable x)) is now numbers = absurd now
  of_call stop is now numbers = absurd now
  of_call (parallel f g) is now numbers = absurd now
  of_call (sequential x f g) is now numbers = absurd now
  of_call (pruning x f g) is now numbers = absurd now
  of_call (pending j s v c) is now numbers = absurd now

pub due_calls_can_be_made : DueCallsCanBeMade
due_calls_can_be_made bs n p ds t k form few at numbers small =
    let d = due_located (expression_of bs) n p at in
    let C = d.gap in
    let is : bs ≡ before C ++ (bytes d.call ++ after C) = sym form ∙ ap bytes d.filled ∙ bytes_filled C d.call in
    let there : expression_of (drop p bs) ≡ d.call = ap expression_of (ap (drop p) is ∙ drop_at (before C) (bytes d.call ++ after C) p d.place) ∙ read_there d.call (after C) in
    of_call ds t k bs p few small d.call (sym there) d.is_due (numbers_filled ds C d.call (subst (NumbersWithin ds) d.filled numbers))

-- What a reply comes to by the frame that takes it is what it makes of the bytes.
module _ (W : World) (t k : ℕ) (bs : List ℕ) (j w p : ℕ) where
  taken : {o : Option Stretch} → Effect W t k bs j w p o → {a : Act} {q : Option Stretch} {bs' : List ℕ} → Replied bs p w o a q bs' → Transition W t k bs (reply j w) a (withdrawn_with j bs q) bs'
  taken effect (publishes whole) = effect
  taken effect (spawns s holds is) = subst (Taken W t k bs j w p s) is effect
  taken effect (binds s q {x = x} {f = f} holds is last right) =
      subst (λ g. Transition W t k bs (reply j w) inner (filter (λ y. not (eqb j y.ticket)) (pending_calls g)) (spliced bs s.at s.end (bytes (substitute w x f)))) (sym right.is) (subst (Taken W t k bs j w p s) is effect)

module _ (bs : List ℕ) (j p : ℕ) where
  of_pending : (e : Expression) → expression_of (drop p bs) ≡ e → TakesReplies bs j p e → RepliesMove bs j p
  of_pending (pending i s v c) is takes =
      record {
        site = s;
        value = v;
        since = c;
        is = is ∙ ap (λ i. pending i s v c) takes.0;
        moves = λ W t k w admitted done. taken W t k bs j w p (takes.1 W t k w admitted) done;
      }
  of_pending stop is takes = absurd takes
  of_pending (site_call s a) is takes = absurd takes
  of_pending (definition_call i a) is takes = absurd takes
  of_pending (parallel f g) is takes = absurd takes
  of_pending (sequential x f g) is takes = absurd takes
  of_pending (pruning x f g) is takes = absurd takes

pub replies_are_transitions : RepliesAreTransitions
replies_are_transitions bs j p form unbegun distinct at = of_pending bs j p (expression_of (drop p bs)) refl (replies_take_effect bs j p form unbegun distinct at).replies

-- A world in which any call may be answered with w, at any age.
abbrev answering : ℕ → World
answering w = record { meaning = λ s. known (λ v. record { windows = record { earliest = 0; latest = no_end; lowest = 0; highest = w } ∷ []; silent = false }); definitions = [] }

answered_at_once : (w s v c : ℕ) → can_reply (handle (answering w).meaning s v) c c w ≡ true
unfolding can_reply
answered_at_once w s v c =
    let first = le-leb (c + 0) c (omega arith) in
    let low = le-leb 0 w (omega arith) in
    let high = le-leb w w (omega arith) in
    rw (first, low, high)

abbrev CanBeAnswered : List ℕ → ℕ → ℕ → Option Stretch → Type 0
CanBeAnswered bs p w o = (a : Act) × (q : Option Stretch) × (bs' : List ℕ) × Replied bs p w o a q bs' × (length bs' ≤ capacity)

module _ (bs : List ℕ) (j p w : ℕ) (few : length bs ≤ 4096) (whole : p + 12 ≤ length bs) (W : World) (t k : ℕ) where
  module _ (s : Stretch) (around : Around bs p s) where
    abbrev holds : HoldsCall bs p s
    holds = record { before = around.before; behind = around.behind; within = around.within }

    by_frame : (e : Expression) → read_in bs s ≡ e → Taken W t k bs j w p s e → CanBeAnswered bs p w (Some s)
    unfolding bytes
    by_frame (sequential x f g) is takes =
        let copy = bytes (substitute w x g) in
        let left = between_length bs s.at p around.before (omega arith) in
        let right = between_length bs (p + 12) s.end around.behind around.within in
        let all = between_length bs s.at s.end s.in_order around.within in
        let long = spliced_length bs s.at s.end (3 ∷ (between s.at p bs ++ (0 ∷ (between (p + 12) s.end bs ++ copy)))) s.in_order around.within in
        let new = length-append (between s.at p bs) (0 ∷ (between (p + 12) s.end bs ++ copy)) in
        let parts = ap length (sym around.form ∙ ap bytes is) in
        (inner, None, spawned bs p w s x g, spawns s holds is, omega (arith, length-append (between (p + 12) s.end bs) copy, length-append (bytes f) (bytes g), substituted_size w x g))
    by_frame (pruning x f g) is takes =
        let there = sym around.form ∙ ap bytes is in
        let all = between_length bs s.at s.end s.in_order around.within in
        let parts = ap length there in
        let long = spliced_length bs s.at s.end (bytes (substitute w x f)) s.in_order around.within in
        let both = length-append (bytes f) (bytes g) in
        let before : s.end - size g ≤ s.end = omega arith in
        let q : Stretch = record { at = s.end - size g; end = s.end; in_order = before } in
        let ends : q.at + size g ≡ s.end = omega arith in
        let right = back_form bs (5 ∷ x ∷ bytes f) (bytes g) s around.within there q refl ends (ap bytes (read_back g)) (read_back g) in
        (inner, Some q, spliced bs s.at s.end (bytes (substitute w x f)), binds s _ holds is refl right, omega (arith, substituted_size w x f))
    by_frame stop is takes = absurd takes
    by_frame (site_call i a) is takes = absurd takes
    by_frame (definition_call i a) is takes = absurd takes
    by_frame (parallel f g) is takes = absurd takes
    by_frame (pending i r v c) is takes = absurd takes

  by_effect : (o : Option Stretch) → IfSome o (Around bs p) → Effect W t k bs j w p o → CanBeAnswered bs p w o
  by_effect None _ effect = let long = spliced_length bs p (p + 12) (0 ∷ []) (omega arith) whole in (out w, None, spliced bs p (p + 12) (0 ∷ []), publishes whole, omega arith)
  by_effect (Some s) around effect = by_frame s around (read_in bs s) refl effect

module _ (bs : List ℕ) (j p w : ℕ) (few : length bs ≤ 4096) (whole : p + 12 ≤ length bs) where
  by_call : (e : Expression) → TakesReplies bs j p e → IfSome (nearest_frame p (expression_of bs)) (Around bs p) → CanBeAnswered bs p w (nearest_frame p (expression_of bs))
  by_call (pending i s v c) takes frame = by_effect bs j p w few whole (answering w) c 0 (nearest_frame p (expression_of bs)) frame (takes.1 (answering w) c 0 w (answered_at_once w s v c))
  by_call stop takes frame = absurd takes
  by_call (site_call s a) takes frame = absurd takes
  by_call (definition_call i a) takes frame = absurd takes
  by_call (parallel f g) takes frame = absurd takes
  by_call (sequential x f g) takes frame = absurd takes
  by_call (pruning x f g) takes frame = absurd takes

pub replies_can_be_made : RepliesCanBeMade
replies_can_be_made bs j p form unbegun distinct at few w =
    let there = replies_take_effect bs j p form unbegun distinct at in
    by_call bs j p w few there.whole (expression_of (drop p bs)) there.replies there.frame
