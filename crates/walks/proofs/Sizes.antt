-- The size of a form, by its head and its parts.
use Rattle.std.proofs.Common.{◌≡◌, ◌+◌, ◌<◌, ◌++◌, length, sym, refl, ap, ◌∙◌, arith, length-append}
use Rattle.orc.specs.Expressions.{Expression, stop, site_call, definition_call, parallel, sequential, pruning, pending, bytes, size}
use Rattle.formats.specs.Widths.{width_of}
use Rattle.forms.specs.Commands.{byte_of}
use Rattle.forms.specs.Heads.{expression, headed, command_of}
use Rattle.forms.specs.declared.form.Head.{Head}
use Rattle.forms.specs.declared.form.Head.TheVariants.{Stop, SiteCall, DefinitionCall, Parallel, Sequential, Pruning, Pending}
use Rattle.walks.specs.Rooms.{own_width, head_size}

-- the width of a head's command, by the table of widths
pub width_by_head : (h : Head) → width_of (byte_of (command_of h)) ≡ own_width h
width_by_head Stop = refl
width_by_head (SiteCall s p) = refl
width_by_head (DefinitionCall i p) = refl
width_by_head (Parallel f g) = refl
width_by_head (Sequential x f g) = refl
width_by_head (Pruning x f g) = refl
width_by_head (Pending p) = refl

size_parts : (f g : Expression) → length (bytes f ++ bytes g) ≡ size f + size g
size_parts f g = length-append (bytes f) (bytes g)

size_headed : (h : Head) → size (headed h) ≡ head_size h
unfolding bytes
size_headed Stop = refl
size_headed (SiteCall s p) = refl
size_headed (DefinitionCall i p) = refl
size_headed (Parallel f g) = omega (arith, size_parts (expression f) (expression g))
size_headed (Sequential x f g) = omega (arith, size_parts (expression f) (expression g))
size_headed (Pruning x f g) = omega (arith, size_parts (expression f) (expression g))
size_headed (Pending p) = refl

pub size_by_head : {e : Expression} (h : Head) → headed h ≡ e → size e ≡ head_size h
size_by_head h is = ap size (sym is) ∙ size_headed h

pub size_positive : (e : Expression) → 0 < size e
unfolding bytes
size_positive stop = omega arith
size_positive (site_call s p) = omega arith
size_positive (definition_call i p) = omega arith
size_positive (parallel f g) = omega arith
size_positive (sequential x f g) = omega arith
size_positive (pruning x f g) = omega arith
size_positive (pending k s v c) = omega arith
