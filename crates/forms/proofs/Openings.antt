-- The command at the front of a list: what it begins, by its byte. Assumes nothing.
use Rattle.std.proofs.Common.{◌≡◌, ℕ, ◌<◌, ◌≤◌, Bool, true, false, cond, eqb, leb, List, ◌++◌, length, drop, sym, refl, ap, ◌∙◌, inl, inr, arith, lit≤}
use Rattle.std.proofs.lemmas.List.{get_or_append_left, length-append, drop_at}
use Rattle.std.proofs.lemmas.Bool.{le-leb, lt-leb, cases_lt, ne_eqb, eqb-true, cond-true, cond-false, cond_both}
use Rattle.orc.specs.Expressions.{Expression, stop, sequential, pruning}
use Rattle.formats.specs.Operands.{byte_at}
use Rattle.formats.specs.Widths.{width_of}
use Rattle.forms.specs.declared.command.Command.{Command}
use Rattle.forms.specs.declared.command.Command.TheVariants.{Stop, SiteCall, DefinitionCall, Parallel, Sequential, Pruning, Pending}
use Rattle.forms.specs.Commands.{byte_of}
use Rattle.forms.proofs.Naming.{command_of}
use Rattle.forms.specs.Reading.{Opening, alone, of_two, no_form, opened, opening}
use Rattle.forms.specs.Shapes.{has_parts}

abbrev first : List ℕ → ℕ
first l = byte_at l 0

-- a list begins with no whole command of a form, with one that has no parts, or with one that has two
pub data Begins (l : List ℕ) : Type 0 where
  with_none : opening l ≡ no_form → (first l ≤ 6 → width_of (first l) ≤ length l → ⊥) → Begins l
  with_alone : (e : Expression) → opening l ≡ alone e → first l ≤ 6 → width_of (first l) ≤ length l → has_parts (first l) ≡ false → Begins l
  with_two : (make : Expression → Expression → Expression) → opening l ≡ of_two make → first l ≤ 6 → width_of (first l) ≤ length l → has_parts (first l) ≡ true → Begins l

module _ (l : List ℕ) (b : ℕ) (is : first l ≡ b) where
  pub opening_whole : width_of (first l) ≤ length l → opening l ≡ opened b l
  opening_whole whole = cond-true (leb (width_of (first l)) (length l)) (opened (first l) l) no_form (le-leb (width_of (first l)) (length l) whole) ∙ ap (λ n. opened n l) is

  opening_cut : length l < width_of (first l) → opening l ≡ no_form
  opening_cut cut = cond-false (leb (width_of (first l)) (length l)) (opened (first l) l) no_form (lt-leb (width_of (first l)) (length l) cut)

  alone_begins : (e : Expression) → opened b l ≡ alone e → b ≤ 6 → has_parts b ≡ false → Begins l
  alone_begins e made command leaf =
      elim (cases_lt (length l) (width_of (first l))) [
        | inl cut ↦ with_none (opening_cut cut) (λ _ whole. omega arith)
        | inr whole ↦ with_alone e (opening_whole whole ∙ made) (omega arith) whole (rw is leaf)
      ]

  two_begins : (make : Expression → Expression → Expression) → opened b l ≡ of_two make → b ≤ 6 → has_parts b ≡ true → Begins l
  two_begins make made command split =
      elim (cases_lt (length l) (width_of (first l))) [
        | inl cut ↦ with_none (opening_cut cut) (λ _ whole. omega arith)
        | inr whole ↦ with_two make (opening_whole whole ∙ made) (omega arith) whole (rw is split)
      ]

-- a byte above 6 is no command of a form
skipped : (b k : ℕ) (x y : Opening) → k < b → y ≡ no_form → cond (eqb b k) x y ≡ no_form
skipped b k x y above rest = cond-false (eqb b k) x y (ne_eqb b k (λ e. omega arith)) ∙ rest

opened_past : (b : ℕ) (l : List ℕ) → 6 < b → opened b l ≡ no_form
opened_past b l past =
    skipped b 0 _ _ (omega arith) (skipped b 1 _ _ (omega arith) (skipped b 2 _ _ (omega arith) (skipped b 3 _ _ (omega arith)
    (skipped b 4 _ _ (omega arith) (skipped b 5 _ _ (omega arith) (skipped b 6 _ _ past refl))))))

by_command : (l : List ℕ) (c : Command) → first l ≡ byte_of c → Begins l
by_command l Stop is = alone_begins l 0 is stop refl (lit≤ tt) refl
by_command l SiteCall is = alone_begins l 1 is _ refl (lit≤ tt) refl
by_command l DefinitionCall is = alone_begins l 2 is _ refl (lit≤ tt) refl
by_command l Parallel is = two_begins l 3 is _ refl (lit≤ tt) refl
by_command l Sequential is = two_begins l 4 is _ refl (lit≤ tt) refl
by_command l Pruning is = two_begins l 5 is _ refl (lit≤ tt) refl
by_command l Pending is = alone_begins l 6 is _ refl (lit≤ tt) refl

pub begins_with : (l : List ℕ) → Begins l
begins_with l =
    elim (cases_lt 6 (first l)) [
      | inl past ↦ with_none (cond_both (leb (width_of (first l)) (length l)) _ _ (λ o. o ≡ no_form) (λ _. opened_past (first l) l past) (λ _. refl)) (λ command _. omega arith)
      | inr known ↦ let c = command_of (first l) known in by_command l c.0 c.1
    ]

-- a whole command begins the same, whatever stands behind it
alike : (b : Bool) (o o' rest rest' : Opening) → (b ≡ true → o ≡ o') → rest ≡ rest' → cond b o rest ≡ cond b o' rest'
alike true o o' rest rest' same others = same refl
alike false o o' rest rest' same others = others

module _ (p x : List ℕ) where
  at_front : (i : ℕ) → i < length p → byte_at (p ++ x) i ≡ byte_at p i
  at_front i within = get_or_append_left p x 0 i within

  opened_front : (b : ℕ) → length p ≡ width_of b → opened b (p ++ x) ≡ opened b p
  opened_front b long =
      alike (eqb b 0) _ _ _ _ (λ _. refl)
      (alike (eqb b 1) _ _ _ _ (λ is. let n = wide 1 is in cc (at_front 1 (omega arith), at_front 2 (omega arith), at_front 3 (omega arith), at_front 4 (omega arith)))
      (alike (eqb b 2) _ _ _ _ (λ is. let n = wide 2 is in cc (at_front 1 (omega arith), at_front 2 (omega arith), at_front 3 (omega arith), at_front 4 (omega arith)))
      (alike (eqb b 3) _ _ _ _ (λ _. refl)
      (alike (eqb b 4) _ _ _ _ (λ is. let n = wide 4 is in ap (λ y. of_two (sequential y)) (at_front 1 (omega arith)))
      (alike (eqb b 5) _ _ _ _ (λ is. let n = wide 5 is in ap (λ y. of_two (pruning y)) (at_front 1 (omega arith)))
      (alike (eqb b 6) _ _ _ _ (λ is. pending_alike (wide 6 is)) refl))))))
    where
      pending_alike : length p ≡ 12 → opened 6 (p ++ x) ≡ opened 6 p
      pending_alike n =
          cc (
            at_front 1 (omega arith),
            at_front 2 (omega arith),
            at_front 3 (omega arith),
            at_front 4 (omega arith),
            at_front 5 (omega arith),
            at_front 6 (omega arith),
            at_front 7 (omega arith),
            at_front 8 (omega arith),
            at_front 9 (omega arith),
            at_front 10 (omega arith),
            at_front 11 (omega arith),
          )

      wide : (k : ℕ) → eqb b k ≡ true → length p ≡ width_of k
      wide k is = long ∙ ap width_of (eqb-true b k is)

  module _ (some : 0 < length p) (long : length p ≡ width_of (first p)) where
    pub opening_front : opening (p ++ x) ≡ opening p
    opening_front =
        let same = at_front 0 some in
        let whole : width_of (first (p ++ x)) ≤ length (p ++ x) = rw same (simp length-append (omega arith)) in
        opening_whole (p ++ x) (first p) same whole ∙ opened_front (first p) long ∙ sym (opening_whole p (first p) refl (omega arith))

    pub behind_front : drop (width_of (first (p ++ x))) (p ++ x) ≡ x
    behind_front = rw (at_front 0 some) (drop_at p x (width_of (first p)) long)
