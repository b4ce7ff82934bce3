-- Due calls made by themselves, and what they become. Assumes nothing.
use Rattle.std.proofs.Common.{◌≡◌, ℕ, zero, suc, ◌+◌, ◌<◌, ◌≤◌, List, [], ◌∷◌, length, drop, Some, None, sym, refl, ap, ◌∙◌, subst, arith}
use Rattle.std.proofs.lemmas.List.{length-drop}
use Rattle.orc.specs.Meaning.{unknown}
use Rattle.orc.specs.Expressions.{value, Expression, site_call, definition_call, pending, Definition, World, bytes, entry}
use Rattle.orc.specs.Variables.{substitute}
use Rattle.orc.specs.Calls.{Pending}
use Rattle.orc.specs.Steps.{Act, called, inner, Leaf, due, Step, calls, unfolds}
use Rattle.formats.specs.Operands.{byte_at}
use Rattle.formats.specs.Widths.{width_of}
use Rattle.forms.specs.Reading.{opened, opening, continued, Read, read, expression_of}
use Rattle.forms.proofs.Openings.{Begins, with_none, with_alone, with_two, begins_with, opening_whole}
use Rattle.places.specs.Splices.{spliced, IsDue}
use Rattle.walks.specs.Capacity.{capacity}
use Rattle.steps.specs.Made.{Made}

-- A command that begins a due call has 5 bytes.
by_byte : (l rest : List ℕ) (part : List ℕ → Read) (b : ℕ) → b ≤ 6 → width_of b ≤ length l → IsDue (continued (opened b l) rest part).expression → 5 ≤ length l
by_byte l rest part zero small whole is = absurd is
by_byte l rest part (suc zero) small whole is = whole
by_byte l rest part (suc (suc zero)) small whole is = whole
by_byte l rest part (suc (suc (suc zero))) small whole is = absurd is
by_byte l rest part (suc (suc (suc (suc zero)))) small whole is = absurd is
by_byte l rest part (suc (suc (suc (suc (suc zero))))) small whole is = absurd is
by_byte l rest part (suc (suc (suc (suc (suc (suc zero)))))) small whole is = absurd is
by_byte l rest part (suc (suc (suc (suc (suc (suc (suc n))))))) small whole is = absurd (omega arith)

begun_whole : (l rest : List ℕ) (part : List ℕ → Read) → Begins l → IsDue (continued (opening l) rest part).expression → 5 ≤ length l
begun_whole l rest part (with_none none _) is = absurd (subst (λ o. IsDue (continued o rest part).expression) none is)
begun_whole l rest part (with_alone e _ small whole _) is = by_byte l rest part (byte_at l 0) small whole (subst (λ o. IsDue (continued o rest part).expression) (opening_whole l (byte_at l 0) refl whole) is)
begun_whole l rest part (with_two make _ small whole _) is = by_byte l rest part (byte_at l 0) small whole (subst (λ o. IsDue (continued o rest part).expression) (opening_whole l (byte_at l 0) refl whole) is)

-- A due call is read from 5 bytes at least.
pub due_whole : (l : List ℕ) → IsDue (expression_of l) → 5 ≤ length l
unfolding expression_of read
due_whole [] is = absurd is
due_whole (b ∷ l) is = begun_whole (b ∷ l) (drop (width_of b) (b ∷ l)) (λ r. read (length l) r) (begins_with (b ∷ l)) is

-- So one that is due at an offset lies within the bytes.
pub five_there : (bs : List ℕ) (p : ℕ) → IsDue (expression_of (drop p bs)) → p + 5 ≤ length bs
five_there bs p is = let five = due_whole (drop p bs) is in omega (arith, length-drop p bs)

-- A call with a value, and what it becomes by itself.
site_step : {W : World} {t k s v : ℕ} {l : Leaf} {a : Act} {gone : List Pending} {e : Expression} → Step W t k (site_call s (value v)) l a gone e → e ≡ pending k s v t
site_step calls = refl

record Unfolded (W : World) (i v : ℕ) (e : Expression) : Type 0 where
  definition : Definition
  found : entry W.definitions i ≡ Some definition
  is : e ≡ substitute v definition.formal definition.body

definition_step : {W : World} {t k i v : ℕ} {l : Leaf} {a : Act} {gone : List Pending} {e : Expression} → Step W t k (definition_call i (value v)) l a gone e → Unfolded W i v e
definition_step (unfolds d found) = record { definition = d; found = found; is = refl }

module _ (ds : List Definition) (t k : ℕ) (bs : List ℕ) (p : ℕ) where
  abbrev there : Expression
  there = expression_of (drop p bs)

  module _ (s v : ℕ) (is : site_call s (value v) ≡ there) where
    pub site_made : {bs' : List ℕ} → bs' ≡ spliced bs p (p + 5) (bytes (pending k s v t)) → Made ds t k bs p (called s v) bs'
    site_made new = record { is_due = subst IsDue is tt; result = pending k s v t; step = λ m. subst (λ e. Step (record { meaning = m; definitions = ds }) t k e (due 0) (called s v) [] (pending k s v t)) is calls; replaced = new }

    pub site_becomes : {a : Act} {bs' : List ℕ} → Made ds t k bs p a bs' → bs' ≡ spliced bs p (p + 5) (bytes (pending k s v t))
    site_becomes {a} m = m.replaced ∙ ap (λ e. spliced bs p (p + 5) (bytes e)) (site_step (subst (λ e. Step (record { meaning = λ _. unknown; definitions = ds }) t k e (due 0) a [] m.result) (sym is) (m.step (λ _. unknown))))

    pub site_unmade : capacity < length (spliced bs p (p + 5) (bytes (pending k s v t))) → (a : Act) (bs' : List ℕ) → Made ds t k bs p a bs' → capacity < length bs'
    site_unmade long a bs' m = subst (λ l. capacity < length l) (sym (site_becomes m)) long

  module _ (i v : ℕ) (is : definition_call i (value v) ≡ there) where
    pub definition_made : (d : Definition) → entry ds i ≡ Some d → {bs' : List ℕ} → bs' ≡ spliced bs p (p + 5) (bytes (substitute v d.formal d.body)) → Made ds t k bs p inner bs'
    definition_made d found new =
        record {
          is_due = subst IsDue is tt;
          result = substitute v d.formal d.body;
          step = λ m. subst (λ e. Step (record { meaning = m; definitions = ds }) t k e (due 0) inner [] (substitute v d.formal d.body)) is (unfolds d found);
          replaced = new;
        }

    definition_unfolded : {a : Act} {bs' : List ℕ} (m : Made ds t k bs p a bs') → Unfolded (record { meaning = λ _. unknown; definitions = ds }) i v m.result
    definition_unfolded {a} m = definition_step (subst (λ e. Step (record { meaning = λ _. unknown; definitions = ds }) t k e (due 0) a [] m.result) (sym is) (m.step (λ _. unknown)))

    pub definition_missing : None ≡ entry ds i → {a : Act} {bs' : List ℕ} → Made ds t k bs p a bs' → ⊥
    definition_missing none m = let u = definition_unfolded m in cc

    pub definition_becomes : (d : Definition) → Some d ≡ entry ds i → {a : Act} {bs' : List ℕ} → Made ds t k bs p a bs' → bs' ≡ spliced bs p (p + 5) (bytes (substitute v d.formal d.body))
    definition_becomes d found m =
        let u = definition_unfolded m in
        let same : u.definition ≡ d = cc in
        m.replaced ∙ ap (λ e. spliced bs p (p + 5) (bytes e)) (u.is ∙ ap (λ d. substitute v d.formal d.body) same)

    pub definition_unmade : (d : Definition) → Some d ≡ entry ds i → capacity < length (spliced bs p (p + 5) (bytes (substitute v d.formal d.body))) → (a : Act) (bs' : List ℕ) → Made ds t k bs p a bs' → capacity < length bs'
    definition_unmade d found long a bs' m = subst (λ l. capacity < length l) (sym (definition_becomes d found m)) long
