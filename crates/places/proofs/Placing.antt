-- A scan of a form's bytes meets the pending calls of the expression, each at its place. Assumes nothing.
use Rattle.std.proofs.Common.{◌≡◌, ℕ, zero, suc, ◌+◌, ◌<◌, ◌≤◌, Bool, true, false, cond, eqb, ltb, List, [], ◌∷◌, ◌++◌, map, length, drop, is_some, Some, None, count_by, Option, sym, refl, ap, ◌∙◌, ap₂, append_assoc, append-nil, arith}
use Rattle.std.proofs.lemmas.List.{length-append, map-append, drop_at}
use Rattle.std.specs.List.{find, All}
use Rattle.std.specs.Option.{option_map}
use Rattle.std.proofs.lemmas.Bool.{eqb-true}
use Rattle.std.proofs.lemmas.Bool.Decides.{nat_tests}
use Rattle.std.proofs.lemmas.List.Elements.{All-nil, All-cons}
use Rattle.std.proofs.lemmas.List.Sums.{sum_by-cons}
use Rattle.orc.specs.Expressions.{Expression, stop, site_call, definition_call, parallel, sequential, pruning, pending, bytes, size}
use Rattle.orc.specs.Calls.{Pending, pending_calls}
use Rattle.orc.specs.Sound.{standing}
use Rattle.formats.specs.Operands.{byte_at, two_at, four_at}
use Rattle.formats.specs.Widths.{width_of}
use Rattle.forms.specs.Reading.{expression_of}
use Rattle.forms.specs.Heads.{IsForm}
use Rattle.formats.proofs.Left.{byte_left, two_left, four_left, length_left, drop_left, first_left}
use Rattle.forms.specs.Pendings.{call_at}
use Rattle.places.specs.Scans.{Placed, behind, met, scanned, placed_calls, placed_from, pendings_from, first_place, ticket_place}
use Rattle.places.proofs.Scanning.{behind_whole, nothing_behind, whole_behind, meets_nothing, meets_other, meets_pending}

module _ (bs : List ℕ) where
  module _ (at : ℕ) {b : ℕ} {l : List ℕ} (left : drop at bs ≡ b ∷ l) where
    passes : (b ≡ 6 → ⊥) → 0 < width_of b → width_of b ≤ suc (length l) → placed_from bs at ≡ placed_from bs (at + width_of b)
    passes other some all =
        let here = first_left bs at left in
        let long = length_left bs at left in
        rw here at (meets_other bs at (at + width_of (byte_at bs at)) (whole_behind bs at (rw here some) (rw here (omega arith))) (λ is. other (sym here ∙ is)))

  -- what stands behind a command of w bytes, and then behind the first of two parts
  module _ (f g : List ℕ) (at w : ℕ) (rest : List ℕ) (behind : drop (at + w) bs ≡ (f ++ g) ++ rest) where
    first_part : drop (at + w) bs ≡ f ++ (g ++ rest)
    first_part = behind ∙ append_assoc f g rest

    second_part : drop (at + w + length f) bs ≡ g ++ rest
    second_part = drop_left bs (at + w) first_part (length f) ∙ drop_at f (g ++ rest) (length f) refl

  abbrev Meets : Expression → Type 0
  Meets e = (at : ℕ) (rest : List ℕ) → drop at bs ≡ bytes e ++ rest → placed_from bs at ≡ placed_calls at e ++ placed_from bs (at + size e)

  meets_parts : (f g : Expression) → Meets f → Meets g → (at w end : ℕ) (rest : List ℕ) → drop (at + w) bs ≡ (bytes f ++ bytes g) ++ rest → end ≡ w + length (bytes f ++ bytes g)
      → placed_from bs (at + w) ≡ (placed_calls (at + w) f ++ placed_calls (at + w + size f) g) ++ placed_from bs (at + end)
  meets_parts f g meets-f meets-g at w end rest behind long =
      let there : at + w + size f + size g ≡ at + end = omega (arith, length-append (bytes f) (bytes g)) in
      meets-f (at + w) (bytes g ++ rest) (first_part (bytes f) (bytes g) at w rest behind)
      ∙ ap (λ ps. placed_calls (at + w) f ++ ps) (meets-g (at + w + size f) rest (second_part (bytes f) (bytes g) at w rest behind) ∙ ap (λ n. placed_calls (at + w + size f) g ++ placed_from bs n) there)
      ∙ sym (append_assoc (placed_calls (at + w) f) (placed_calls (at + w + size f) g) _)

  meets_its_call : (at k s v c : ℕ) (rest : List ℕ) → drop at bs ≡ bytes (pending k s v c) ++ rest → call_at bs at ≡ record { ticket = k; site = s; argument = v; since = c }
  unfolding bytes
  meets_its_call at k s v c rest left =
      let ticket : four_at bs (at + 1) ≡ k = four_left bs at left 1 ∙ omega arith in
      let site : byte_at bs (at + 5) ≡ s = byte_left bs at left 5 in
      let argument : two_at bs (at + 6) ≡ v = two_left bs at left 6 ∙ omega arith in
      let since : four_at bs (at + 8) ≡ c = four_left bs at left 8 ∙ omega arith in
      λ i. record { ticket = ticket i; site = site i; argument = argument i; since = since i }

  meets : (e : Expression) → Meets e
  unfolding bytes placed_calls
  meets stop at rest left = passes at left (λ is. omega arith) (omega arith) (omega arith)
  meets (site_call s p) at rest left = passes at left (λ is. omega arith) (omega arith) (omega arith)
  meets (definition_call i p) at rest left = passes at left (λ is. omega arith) (omega arith) (omega arith)
  meets (parallel f g) at rest left =
      passes at left (λ is. omega arith) (omega arith) (omega arith) ∙ meets_parts f g (λ n r. meets f n r) (λ n r. meets g n r) at 1 _ rest (drop_left bs at left 1) (omega arith)
  meets (sequential x f g) at rest left =
      passes at left (λ is. omega arith) (omega arith) (omega arith) ∙ meets_parts f g (λ n r. meets f n r) (λ n r. meets g n r) at 2 _ rest (drop_left bs at left 2) (omega arith)
  meets (pruning x f g) at rest left =
      passes at left (λ is. omega arith) (omega arith) (omega arith) ∙ meets_parts f g (λ n r. meets f n r) (λ n r. meets g n r) at 2 _ rest (drop_left bs at left 2) (omega arith)
  meets (pending k s v c) at rest left =
      let here = first_left bs at left in
      let long = length_left bs at left in
      let whole = whole_behind bs at (rw here (omega arith)) (rw here (omega arith)) in
      meets_pending bs at (at + width_of (byte_at bs at)) whole here
      ∙ ap₂ (λ p n. record { place = at; call = p } ∷ placed_from bs n) (meets_its_call at k s v c rest left) (ap (λ b. at + width_of b) here)

  -- from the beginning of a form, a scan meets its pending calls and no more
  pub scan_meets_all : IsForm bs → placed_from bs 0 ≡ placed_calls 0 (expression_of bs)
  scan_meets_all form =
      let e = expression_of bs in
      let long = ap length form in
      meets e 0 [] (sym form ∙ sym (append-nil (bytes e))) ∙ ap (λ ps. placed_calls 0 e ++ ps) (meets_nothing bs (0 + size e) (nothing_behind bs (0 + size e) (omega arith))) ∙ append-nil _

-- the calls alone
pub calls_alone : (at : ℕ) (e : Expression) → map (λ p. p.call) (placed_calls at e) ≡ pending_calls e
unfolding placed_calls pending_calls
calls_alone at stop = refl
calls_alone at (site_call s p) = refl
calls_alone at (definition_call i p) = refl
calls_alone at (parallel f g) = map-append (λ p. p.call) (placed_calls (at + 1) f) (placed_calls (at + 1 + size f) g) ∙ ap₂ ◌++◌ (calls_alone (at + 1) f) (calls_alone (at + 1 + size f) g)
calls_alone at (sequential x f g) = map-append (λ p. p.call) (placed_calls (at + 2) f) (placed_calls (at + 2 + size f) g) ∙ ap₂ ◌++◌ (calls_alone (at + 2) f) (calls_alone (at + 2 + size f) g)
calls_alone at (pruning x f g) = map-append (λ p. p.call) (placed_calls (at + 2) f) (placed_calls (at + 2 + size f) g) ∙ ap₂ ◌++◌ (calls_alone (at + 2) f) (calls_alone (at + 2 + size f) g)
calls_alone at (pending k s v c) = refl

pub pendings_are_all : (bs : List ℕ) → IsForm bs → pendings_from bs 0 ≡ pending_calls (expression_of bs)
pendings_are_all bs form = ap (map (λ p. p.call)) (scan_meets_all bs form) ∙ calls_alone 0 (expression_of bs)

-- a ticket has a place exactly if it stands
found_or_not : (j : ℕ) (ps : List Placed) → is_some (first_place j ps) ≡ ltb 0 (count_by (λ p. eqb j p.ticket) (map (λ p. p.call) ps))
found_or_not j [] = refl
found_or_not j (p ∷ ps) = rw (sum_by-cons (λ (p : Pending). cond (eqb j p.ticket) 1 0) p.call (map (λ p. p.call) ps)) (by (eqb j p.call.ticket) _ (found_or_not j ps))
  where
    by : (b : Bool) (n : ℕ) → is_some (first_place j ps) ≡ ltb 0 n → is_some (cond b (Some p.place) (first_place j ps)) ≡ ltb 0 (cond b 1 0 + n)
    by true n h = grind arith
    by false n h = grind arith

pub found_if_standing : (j : ℕ) (e : Expression) → is_some (ticket_place j e) ≡ ltb 0 (standing j e)
found_if_standing j e = found_or_not j (placed_calls 0 e) ∙ ap (λ ps. ltb 0 (count_by (λ p. eqb j p.ticket) ps)) (calls_alone 0 e)

-- what the first place in a scan is
module _ (bs : List ℕ) (j : ℕ) (r : Option ℕ) (first : r ≡ first_place j (placed_from bs 0)) where
  pub place_is : IsForm bs → r ≡ ticket_place j (expression_of bs)
  place_is form = first ∙ ap (first_place j) (scan_meets_all bs form)

  pub found_is : IsForm bs → is_some r ≡ ltb 0 (standing j (expression_of bs))
  found_is form = ap is_some (place_is form) ∙ found_if_standing j (expression_of bs)

-- each call that a scan meets lies within the bytes
module _ (bs : List ℕ) where
  abbrev Within : Placed → Type 0
  Within p = p.place + 12 ≤ length bs

  met_within : (at : ℕ) (rest : ℕ → List Placed) → ((next : ℕ) → All Within (rest next)) → (o : Option ℕ) → behind bs at ≡ o → (is : Bool) → eqb (byte_at bs at) 6 ≡ is → All Within (met o is (record { place = at; call = call_at bs at }) rest)
  met_within at rest others None b is six = All-nil Within
  met_within at rest others (Some next) b true six =
      let whole = behind_whole bs at next b in
      All-cons Within _ _ (omega (arith, whole.within, whole.there, ap width_of (eqb-true (byte_at bs at) 6 six))) (others next)
  met_within at rest others (Some next) b false six = others next

  scanned_within : (k at : ℕ) → All Within (scanned k bs at)
  unfolding scanned
  scanned_within zero at = All-nil Within
  scanned_within (suc k) at = met_within at (λ next. scanned k bs next) (λ next. scanned_within k next) (behind bs at) refl (eqb (byte_at bs at) 6) refl

  pub placed_within : (at : ℕ) → All (λ p. p.place + 12 ≤ length bs) (placed_from bs at)
  placed_within at = scanned_within (length bs) at

either_way : (a b : ℕ) → eqb a b ≡ eqb b a
either_way a b = grind (arith, nat_tests)

-- the place of the first with a ticket, as a search for it finds it
pub first_place_found : (j : ℕ) (ps : List Placed) → option_map (λ p. p.place) (find (λ p. eqb p.call.ticket j) ps) ≡ first_place j ps
first_place_found j [] = refl
first_place_found j (p ∷ ps) = rw (either_way p.call.ticket j) (by (eqb j p.call.ticket) _ _ (first_place_found j ps))
  where
    by : (is : Bool) (o : Option Placed) (r : Option ℕ) → option_map (λ p. p.place) o ≡ r → option_map (λ p. p.place) (cond is (Some p) o) ≡ cond is (Some p.place) r
    by true o r rest = refl
    by false o r rest = rest

-- and that call itself
pub first_call_found : (j : ℕ) (ps : List Placed) → option_map (λ p. p.call) (find (λ p. eqb p.call.ticket j) ps) ≡ find (λ q. eqb j q.ticket) (map (λ p. p.call) ps)
first_call_found j [] = refl
first_call_found j (p ∷ ps) = rw (either_way p.call.ticket j) (by (eqb j p.call.ticket) _ _ (first_call_found j ps))
  where
    by : (is : Bool) (o : Option Placed) (r : Option Pending) → option_map (λ p. p.call) o ≡ r → option_map (λ p. p.call) (cond is (Some p) o) ≡ cond is (Some p.call) r
    by true o r rest = refl
    by false o r rest = rest
