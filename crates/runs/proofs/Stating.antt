-- What a state keeps by itself, as tests and facts of each element. Assumes nothing.
use Rattle.std.proofs.Common.{◌≡◌, eqb, List, [], ◌++◌, length, Decides, refl, ap}
use Rattle.std.specs.List.{ContainsAt as Has, AllByRecursion}
use Rattle.std.proofs.ByRecursion.{All-weaker, all-has, all_has_itself}
use Rattle.std.proofs.lemmas.List.{nil_from_length}
use Rattle.std.proofs.lemmas.Bool.{eqb-true, eq-eqb}
use Rattle.std.proofs.lemmas.Bool.Decides.{Decides-and, Decides-ltb}
use Rattle.orc.specs.Expressions.{Expression, stop, site_call, definition_call, parallel, sequential, pruning, pending, Definition, bytes}
use Rattle.orc.specs.Simplified.{simplified}
use Rattle.orc.specs.Calls.{Pending, pending_calls, RightsUnbegun}
use Rattle.orc.specs.Sound.{NumbersWithin}
use Rattle.orc.proofs.Bytes.{unique_reading}
use Rattle.runs.specs.States.{State}
use Rattle.runs.specs.Bounds.{Keeps}
use Rattle.runs.specs.Facts.{rights_wait, numbers_below, Facts, FactsSayWhatIsKept}

decides_none : (ps : List Pending) → Decides (eqb (length ps) 0) (ps ≡ [])
decides_none ps = (λ h. nil_from_length ps (eqb-true (length ps) 0 h), λ h. eq-eqb (length ps) 0 (ap length h))

decides_rights : (e : Expression) → Decides (rights_wait e) (RightsUnbegun e)
unfolding rights_wait RightsUnbegun
decides_rights stop = (λ h. tt, λ h. refl)
decides_rights (site_call s p) = (λ h. tt, λ h. refl)
decides_rights (definition_call i p) = (λ h. tt, λ h. refl)
decides_rights (parallel f g) = Decides-and _ _ (decides_rights f) (decides_rights g)
decides_rights (sequential x f g) = Decides-and _ _ (decides_rights f) (decides_none (pending_calls g))
decides_rights (pruning x f g) = Decides-and _ _ (decides_rights f) (decides_rights g)
decides_rights (pending k s v c) = (λ h. tt, λ h. refl)

decides_numbers : (ds : List Definition) (e : Expression) → Decides (numbers_below (length ds) e) (NumbersWithin ds e)
unfolding numbers_below NumbersWithin
decides_numbers ds stop = (λ h. tt, λ h. refl)
decides_numbers ds (site_call s p) = (λ h. tt, λ h. refl)
decides_numbers ds (definition_call i p) = Decides-ltb i (length ds)
decides_numbers ds (parallel f g) = Decides-and _ _ (decides_numbers ds f) (decides_numbers ds g)
decides_numbers ds (sequential x f g) = Decides-and _ _ (decides_numbers ds f) (decides_numbers ds g)
decides_numbers ds (pruning x f g) = Decides-and _ _ (decides_numbers ds f) (decides_numbers ds g)
decides_numbers ds (pending k s v c) = (λ h. tt, λ h. refl)

-- what each element has that the list has, all have
all_from_has : {X : Type 0} (P : X → Type 0) (xs : List X) → ((x : X) → Has xs x → P x) → AllByRecursion P xs
all_from_has P xs h = All-weaker (Has xs) P h xs (all_has_itself xs)

pub facts_of : {s : State} → Keeps s → Facts s
facts_of {s} k =
    let ds = s.definitions in
    let e = s.expression in
    let a = k.definitions_kept in
    let b = k.expression_kept in (
      λ d x h. all-has _ ds d a.sound.closed h.0 x h.1,
      λ d h. (ap length (all-has _ ds d a.sound.nothing_pending h), (decides_numbers ds d.body).1 (all-has _ ds d a.sound.numbers h), all-has _ ds d a.ranged h, all-has _ ds d a.fit h),
      (
        (ap bytes k.simple, b.distinct, b.closed, ((decides_rights e).1 b.unbegun, (decides_numbers ds e).1 b.numbers, b.ranged)),
        λ p h. let q = all-has _ (pending_calls e) p b.tickets_issued h in (q.0, q.1, all-has _ (pending_calls e) p b.made_before h),
        λ site. (k.balanced site, k.called_issued site),
        (k.form_fits, k.record_fits, k.clock_fits, k.tickets_recorded),
      ),
    )

pub kept_from : (s : State) → Facts s → Keeps s
kept_from s (formals, bodies, (form, calls, totals, counts)) =
    let ds = s.definitions in
    let e = s.expression in
    record {
      definitions_kept = record {
        sound = record {
          closed = all_from_has _ ds (λ d h x y. formals d x (h, y));
          nothing_pending = all_from_has _ ds (λ d h. nil_from_length (pending_calls d.body) (bodies d h).0);
          numbers = all_from_has _ ds (λ d h. (decides_numbers ds d.body).0 (bodies d h).1);
        };
        ranged = all_from_has _ ds (λ d h. (bodies d h).2);
        fit = all_from_has _ ds (λ d h. (bodies d h).3);
      };
      expression_kept = record {
        distinct = form.1;
        unbegun = (decides_rights e).0 form.3.0;
        numbers = (decides_numbers ds e).0 form.3.1;
        closed = form.2;
        ranged = form.3.2;
        tickets_issued = all_from_has _ (pending_calls e) (λ p h. ((calls p h).0, (calls p h).1));
        made_before = all_from_has _ (pending_calls e) (λ p h. (calls p h).2);
      };
      simple = (unique_reading (simplified e) e [] [] (ap (λ bs. bs ++ []) form.0)).0;
      form_fits = counts.0;
      record_fits = counts.1;
      clock_fits = counts.2;
      tickets_recorded = counts.3;
      balanced = λ site. (totals site).0;
      called_issued = λ site. (totals site).1;
    }

pub facts_say_what_is_kept : FactsSayWhatIsKept
facts_say_what_is_kept s = (facts_of, kept_from s)
