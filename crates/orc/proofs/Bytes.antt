-- Bytes are read in one way only: a reader of forms hands on the expression and what stands behind it. Assumes nothing.
use Rattle.std.proofs.Common.{◌≡◌, ℕ, zero, suc, ◌+◌, ◌*◌, ◌/◌, ◌%◌, ◌≤◌, cond, eqb, List, [], ◌∷◌, ◌++◌, get_or, drop, sym, refl, ap, ◌∙◌, append_assoc, arith, length-append}
use Rattle.orc.specs.Expressions.{Parameter, value, variable, Expression, stop, site_call, definition_call, parallel, sequential, pruning, pending, bytes, size}
use Rattle.orc.specs.Reading.{UniqueReading}

-- the byte at a place, 0 past the end, and the numbers of two and of four bytes that begin there
abbrev byte_at : ℕ → List ℕ → ℕ
byte_at i bs = get_or bs i 0

abbrev two_at : ℕ → List ℕ → ℕ
two_at i bs = 256 * byte_at i bs + byte_at (i + 1) bs

abbrev four_at : ℕ → List ℕ → ℕ
four_at i bs = 65536 * two_at i bs + two_at (i + 2) bs

-- the parameter of a call, behind the number of its site or definition
abbrev parameter_in : List ℕ → Parameter
parameter_in bs = cond (eqb (byte_at 1 bs) 0) (value (two_at 2 bs)) (variable (two_at 2 bs))

-- what the first byte of a form and the operands behind it say: an expression with no parts, or how one is made of its two
-- parts, and how many bytes the operands are
data Opening : Type 0 where
  whole : Expression → ℕ → Opening
  parted : (Expression → Expression → Expression) → ℕ → Opening

opening_of : ℕ → List ℕ → Opening
opening_of c bs =
    cond (eqb c 1) (whole (site_call (byte_at 0 bs) (parameter_in bs)) 4) (
    cond (eqb c 2) (whole (definition_call (byte_at 0 bs) (parameter_in bs)) 4) (
    cond (eqb c 3) (parted parallel 0) (
    cond (eqb c 4) (parted (sequential (byte_at 0 bs)) 1) (
    cond (eqb c 5) (parted (pruning (byte_at 0 bs)) 1) (
    cond (eqb c 6) (whole (pending (four_at 0 bs) (byte_at 4 bs) (two_at 5 bs) (four_at 7 bs)) 11) (
    whole stop 0))))))

-- Reads one form, and hands the expression and the bytes behind the form on to `next`. The first number is how deep parts
-- may nest.
read : {X : Type 0} → ℕ → List ℕ → (Expression → List ℕ → X) → X
read zero bs next = next stop bs
read (suc k) [] next = next stop []
read (suc k) (c ∷ bs) next = elim (opening_of c bs) [ whole e n ↦ next e (drop n bs) | parted make n ↦ read k (drop n bs) (λ f r. read k r (λ g. next (make f g))) ]

-- a number is that of its two bytes, and of its four
two : (n : ℕ) → 256 * (n / 256) + n % 256 ≡ n
two n = omega arith

four : (n : ℕ) → 65536 * (256 * (n / 16777216) + (n / 65536) % 256) + (256 * ((n / 256) % 256) + n % 256) ≡ n
four n = omega arith

-- What follows a form that is read is handed on: by induction on the expression. The form is no longer than k.
read_bytes : {X : Type 0} (k : ℕ) (e : Expression) (r : List ℕ) (next : Expression → List ℕ → X) → size e ≤ k → read k (bytes e ++ r) next ≡ next e r
unfolding bytes read opening_of
read_bytes zero stop r next h = absurd (omega arith)
read_bytes (suc k) stop r next h = refl
read_bytes zero (site_call s p) r next h = absurd (omega arith)
read_bytes (suc k) (site_call s (value v)) r next h = ap (λ n. next (site_call s (value n)) r) (two v)
read_bytes (suc k) (site_call s (variable x)) r next h = ap (λ n. next (site_call s (variable n)) r) (two x)
read_bytes zero (definition_call i p) r next h = absurd (omega arith)
read_bytes (suc k) (definition_call i (value v)) r next h = ap (λ n. next (definition_call i (value n)) r) (two v)
read_bytes (suc k) (definition_call i (variable x)) r next h = ap (λ n. next (definition_call i (variable n)) r) (two x)
read_bytes zero (parallel f g) r next h = absurd (omega arith)
read_bytes (suc k) (parallel f g) r next h = rw append_assoc (read_bytes k f (bytes g ++ r) _ (omega (arith, length-append (bytes f) (bytes g))) ∙ read_bytes k g r _ (omega (arith, length-append (bytes f) (bytes g))))
read_bytes zero (sequential x f g) r next h = absurd (omega arith)
read_bytes (suc k) (sequential x f g) r next h = rw append_assoc (read_bytes k f (bytes g ++ r) _ (omega (arith, length-append (bytes f) (bytes g))) ∙ read_bytes k g r _ (omega (arith, length-append (bytes f) (bytes g))))
read_bytes zero (pruning x f g) r next h = absurd (omega arith)
read_bytes (suc k) (pruning x f g) r next h = rw append_assoc (read_bytes k f (bytes g ++ r) _ (omega (arith, length-append (bytes f) (bytes g))) ∙ read_bytes k g r _ (omega (arith, length-append (bytes f) (bytes g))))
read_bytes zero (pending j s v c) r next h = absurd (omega arith)
read_bytes (suc k) (pending j s v c) r next h = cc (two v, four j, four c)

pub unique_reading : UniqueReading
unique_reading e e' r r' q = (same (λ e r. e), same (λ e r. r))
  where
    k : ℕ
    k = size e + size e'

    same : {X : Type 0} (next : Expression → List ℕ → X) → next e r ≡ next e' r'
    same next = sym (read_bytes k e r next (omega arith)) ∙ (ap (λ bs. read k bs next) q ∙ read_bytes k e' r' next (omega arith))
