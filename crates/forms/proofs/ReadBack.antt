-- The bytes of an expression are read back as the expression. Assumes nothing.
use Rattle.std.proofs.Common.{◌≡◌, ℕ, ◌≤◌, List, [], ◌∷◌, length, sym, refl, ap, ◌∙◌, append-nil, arith, lit≤}
use Rattle.orc.specs.Expressions.{Parameter, value, variable, Expression, stop, site_call, definition_call, parallel, sequential, pruning, pending, parameter_bytes, bytes}
use Rattle.formats.specs.Operands.{byte_at, two_at, four_at}
use Rattle.formats.specs.Widths.{width_of}
use Rattle.forms.specs.Reading.{parameter_at, alone, read, expression_of}
use Rattle.forms.proofs.Lenient.{ReadsAs, Command, alone_reads, two_read}

-- a parameter behind two bytes
parameter_back : (a b : ℕ) (p : Parameter) → parameter_at (a ∷ b ∷ parameter_bytes p) 2 ≡ p
parameter_back a b (value v) = ap value (omega arith)
parameter_back a b (variable x) = ap variable (omega arith)

pending_back : (k s v c : ℕ) → pending (four_at (bytes (pending k s v c)) 1) (byte_at (bytes (pending k s v c)) 5) (two_at (bytes (pending k s v c)) 6) (four_at (bytes (pending k s v c)) 8) ≡ pending k s v c
unfolding bytes
pending_back k s v c =
    let ticket : four_at (bytes (pending k s v c)) 1 ≡ k = omega arith in
    let argument : two_at (bytes (pending k s v c)) 6 ≡ v = omega arith in
    let clock : four_at (bytes (pending k s v c)) 8 ≡ c = omega arith in
    λ i. pending (ticket i) s (argument i) (clock i)

whole : (o : List ℕ) → length o ≡ width_of (byte_at o 0) → 1 ≤ length o → Command o
whole o long some = record { some = some; long = long }

pub bytes_read : (e : Expression) → ReadsAs (bytes e) e
unfolding bytes
bytes_read stop = alone_reads (0 ∷ []) stop (whole _ refl (lit≤ tt)) refl
bytes_read (site_call s p) = alone_reads (1 ∷ s ∷ parameter_bytes p) (site_call s p) (whole _ refl (omega arith)) (ap (λ p. alone (site_call s p)) (parameter_back 1 s p))
bytes_read (definition_call i p) = alone_reads (2 ∷ i ∷ parameter_bytes p) (definition_call i p) (whole _ refl (omega arith)) (ap (λ p. alone (definition_call i p)) (parameter_back 2 i p))
bytes_read (parallel f g) = two_read (3 ∷ []) (bytes f) (bytes g) parallel f g (whole _ refl (lit≤ tt)) refl (bytes_read f) (bytes_read g)
bytes_read (sequential x f g) = two_read (4 ∷ x ∷ []) (bytes f) (bytes g) (sequential x) f g (whole _ refl (lit≤ tt)) refl (bytes_read f) (bytes_read g)
bytes_read (pruning x f g) = two_read (5 ∷ x ∷ []) (bytes f) (bytes g) (pruning x) f g (whole _ refl (lit≤ tt)) refl (bytes_read f) (bytes_read g)
bytes_read (pending k s v c) = alone_reads (bytes (pending k s v c)) (pending k s v c) (whole _ refl (omega arith)) (ap alone (pending_back k s v c))

pub read_alone : (l : List ℕ) {e : Expression} → ReadsAs l e → expression_of l ≡ e
unfolding expression_of
read_alone l reads = ap (λ l'. (read (length l) l').expression) (sym (append-nil l)) ∙ ap (λ r. r.expression) (reads (length l) [] (omega arith))

pub read_back : (e : Expression) → expression_of (bytes e) ≡ e
read_back e = read_alone (bytes e) (bytes_read e)
