-- The gaps in which due and pending calls stand. Assumes nothing.
use Rattle.std.proofs.Common.{◌≡◌, ℕ, ◌+◌, ◌-◌, ◌<◌, Bool, true, false, cond, eqb, ltb, ◌⊎◌, List, [], ◌∷◌, ◌++◌, map, length, Some, None, Option, sym, refl, ap, ◌∙◌, inl, inr, append-nil, arith}
use Rattle.std.proofs.lemmas.Bool.{cases_lt, lt-ltb, le-ltb, eqb-true, cases_Bool}
use Rattle.orc.specs.Expressions.{Parameter, value, variable, Expression, stop, site_call, definition_call, parallel, sequential, pruning, pending, size}
use Rattle.orc.specs.Calls.{due_count, RightsUnbegun}
use Rattle.places.specs.Places.{later, due_here, due_place}
use Rattle.places.specs.Scans.{Placed, placed_calls, first_place}
use Rattle.places.specs.Splices.{IsDue}
use Rattle.places.proofs.Placing.{calls_alone}
use Rattle.places.proofs.Gaps.{Gap, here, fill, before, dues, Layer, left_of_parallel, right_of_parallel, left_of_sequential, left_of_pruning, right_of_pruning}

-- what is later at p was at a place before
was_before : (n : ℕ) (o : Option ℕ) (p : ℕ) → later n o ≡ Some p → (q : ℕ) × (o ≡ Some q) × (p ≡ n + q)
was_before n None p is = let z : ◌≡◌ {A = ℕ} 0 1 = cc in absurd (omega arith)
was_before n (Some q) p is = let same : n + q ≡ p = cc in (q, refl, sym same)

-- e has the due call n at the offset p
pub record DueIn (e : Expression) (n p : ℕ) : Type 0 where
  pub gap : Gap
  pub call : Expression
  pub is_due : IsDue call
  pub filled : e ≡ fill gap call
  pub place : length (before gap) ≡ p
  pub number : n ≡ dues gap

-- one operator further out
due_deeper : {make : Expression → Expression} {w m : ℕ} → Layer make w m → {e : Expression} {n p : ℕ} (n' p' : ℕ) → n' ≡ m + n → p' ≡ w + p → DueIn e n p → DueIn (make e) n' p'
due_deeper {make} layer n' p' count place d =
    record {
      gap = layer.add d.gap;
      call = d.call;
      is_due = d.is_due;
      filled = ap make d.filled ∙ sym (layer.fills d.gap d.call);
      place = layer.bytes_more d.gap ∙ omega (arith, d.place);
      number = count ∙ omega (arith, d.number) ∙ sym (layer.dues_more d.gap);
    }

due_itself : (e : Expression) (n p : ℕ) → IsDue e → n < 1 → ◌≡◌ {A = Option ℕ} (Some 0) (Some p) → DueIn e n p
due_itself e n p is low at = let same : 0 ≡ p = cc in record { gap = here; call = e; is_due = is; filled = refl; place = same; number = omega arith }

nowhere : {A : Type 0} {p : ℕ} → ◌≡◌ {A = Option ℕ} None (Some p) → A
nowhere is = let z : ◌≡◌ {A = ℕ} 0 1 = cc in absurd (omega arith)

-- a call whose parameter is a value is due, and is the first
due_call : (make : Parameter → Expression) (a : Parameter) (n p : ℕ) → ((v : ℕ) → IsDue (make (value v))) → due_here n a ≡ Some p → DueIn (make a) n p
due_call make (value v) n p due is = elim (cases_lt n 1) [ inl low ↦ due_itself (make (value v)) n p (due v) low (rw (lt-ltb n 1 low) at is) | inr high ↦ nowhere (rw (le-ltb n 1 high) at is) ]
due_call make (variable x) n p due is = nowhere (rw (le-ltb n 0 (omega arith)) at is)

-- a due call of an expression of two parts, both of which have begun
due_in_parts : (make : Expression → Expression → Expression) (f g : Expression) (n w p : ℕ) → Layer (λ f. make f g) w 0 → Layer (make f) (w + size f) (due_count f)
    → ((q : ℕ) → due_place n f ≡ Some q → DueIn f n q) → ((q : ℕ) → due_place (n - due_count f) g ≡ Some q → DueIn g (n - due_count f) q)
    → cond (ltb n (due_count f)) (later w (due_place n f)) (later (w + size f) (due_place (n - due_count f) g)) ≡ Some p → DueIn (make f g) n p
due_in_parts make f g n w p left right in_f in_g is =
    elim (cases_lt n (due_count f)) [
      | inl low ↦ let (q, there, same) = was_before w (due_place n f) p (rw (lt-ltb n (due_count f) low) at is) in due_deeper left n p (omega arith) same (in_f q there)
      | inr high ↦ let (q, there, same) = was_before (w + size f) (due_place (n - due_count f) g) p (rw (le-ltb n (due_count f) high) at is) in due_deeper right n p (omega arith) same (in_g q there)
    ]

pub due_located : (e : Expression) (n p : ℕ) → due_place n e ≡ Some p → DueIn e n p
unfolding due_place
due_located stop n p is = nowhere is
due_located (site_call s a) n p is = due_call (site_call s) a n p (λ v. tt) is
due_located (definition_call i a) n p is = due_call (definition_call i) a n p (λ v. tt) is
due_located (parallel f g) n p is = due_in_parts parallel f g n 1 p (left_of_parallel g) (right_of_parallel f) (due_located f n) (due_located g (n - due_count f)) is
due_located (sequential x f g) n p is = let (q, there, same) = was_before 2 (due_place n f) p is in due_deeper (left_of_sequential x g) n p (omega arith) same (due_located f n q there)
due_located (pruning x f g) n p is = due_in_parts (pruning x) f g n 2 p (left_of_pruning x g) (right_of_pruning x f) (due_located f n) (due_located g (n - due_count f)) is
due_located (pending k s v c) n p is = nowhere is

-- e has a pending call of ticket j at the offset p
pub record PendingIn (j : ℕ) (e : Expression) (p : ℕ) : Type 0 where
  pub gap : Gap
  pub site : ℕ
  pub argument : ℕ
  pub since : ℕ
  pub filled : e ≡ fill gap (pending j site argument since)
  pub place : length (before gap) ≡ p

-- the same in bytes that begin at an offset
abbrev PendingFrom : ℕ → Expression → ℕ → ℕ → Type 0
PendingFrom j e at p = (q : ℕ) × (p ≡ at + q) × PendingIn j e q

pending_deeper : (j : ℕ) {make : Expression → Expression} {w m : ℕ} → Layer make w m → (e : Expression) (at at' p : ℕ) → at' ≡ at + w → PendingFrom j e at' p → PendingFrom j (make e) at p
pending_deeper j {make} {w} layer e at at' p start (q, is, d) =
    let there : p ≡ at + (w + q) = omega arith in (
      w + q,
      there,
      record {
        gap = layer.add d.gap;
        site = d.site;
        argument = d.argument;
        since = d.since;
        filled = ap make d.filled ∙ sym (layer.fills d.gap (pending j d.site d.argument d.since));
        place = layer.bytes_more d.gap ∙ ap (λ n. w + n) d.place;
      },
    )

-- the first of two lists is in one of them
first_of_two : (j : ℕ) (xs ys : List Placed) (p : ℕ) → first_place j (xs ++ ys) ≡ Some p → (first_place j xs ≡ Some p) ⊎ (first_place j ys ≡ Some p)
first_of_two j [] ys p is = inr is
first_of_two j (x ∷ xs) ys p is = by (eqb j x.call.ticket) is (first_of_two j xs ys p)
  where
    by : (b : Bool) → cond b (Some x.place) (first_place j (xs ++ ys)) ≡ Some p → (first_place j (xs ++ ys) ≡ Some p → (first_place j xs ≡ Some p) ⊎ (first_place j ys ≡ Some p))
        → (cond b (Some x.place) (first_place j xs) ≡ Some p) ⊎ (first_place j ys ≡ Some p)
    by true is' rest = inl is'
    by false is' rest = rest is'

none_placed : (ps : List Placed) → map (λ p. p.call) ps ≡ [] → ps ≡ []
none_placed [] is = refl
none_placed (p ∷ ps) is = cc

pub ticket_located : (j : ℕ) (e : Expression) (at p : ℕ) → RightsUnbegun e → first_place j (placed_calls at e) ≡ Some p → PendingFrom j e at p
unfolding placed_calls RightsUnbegun
ticket_located j stop at p unbegun is = nowhere is
ticket_located j (site_call s a) at p unbegun is = nowhere is
ticket_located j (definition_call i a) at p unbegun is = nowhere is
ticket_located j (parallel f g) at p unbegun is =
    elim (first_of_two j (placed_calls (at + 1) f) (placed_calls (at + 1 + size f) g) p is) [
      | inl first ↦ pending_deeper j (left_of_parallel g) f at (at + 1) p refl (ticket_located j f (at + 1) p unbegun.0 first)
      | inr second ↦ pending_deeper j (right_of_parallel f) g at (at + 1 + size f) p (omega arith) (ticket_located j g (at + 1 + size f) p unbegun.1 second)
    ]
ticket_located j (sequential x f g) at p unbegun is =
    let none = none_placed (placed_calls (at + 2 + size f) g) (calls_alone (at + 2 + size f) g ∙ unbegun.1) in
    pending_deeper j (left_of_sequential x g) f at (at + 2) p refl (ticket_located j f (at + 2) p unbegun.0 (rw (none, append-nil) at is))
ticket_located j (pruning x f g) at p unbegun is =
    elim (first_of_two j (placed_calls (at + 2) f) (placed_calls (at + 2 + size f) g) p is) [
      | inl first ↦ pending_deeper j (left_of_pruning x g) f at (at + 2) p refl (ticket_located j f (at + 2) p unbegun.0 first)
      | inr second ↦ pending_deeper j (right_of_pruning x f) g at (at + 2 + size f) p (omega arith) (ticket_located j g (at + 2 + size f) p unbegun.1 second)
    ]
ticket_located j (pending k s v c) at p unbegun is =
    elim (cases_Bool (eqb j k)) [
      | inl same ↦
          let ticket = eqb-true j k same in
          let there : at ≡ p = cc (rw same at is) in
          (0, omega arith, record { gap = here; site = s; argument = v; since = c; filled = ap (λ k. pending k s v c) (sym ticket); place = refl })
      | inr other ↦ nowhere (rw other at is)
    ]
