-- The commands of a form by their bytes. Assumes nothing.
use Rattle.std.proofs.Common.{◌≡◌, ℕ, zero, suc, ◌≤◌, refl, arith}
use Rattle.forms.specs.declared.command.Command.{Command}
use Rattle.forms.specs.declared.command.Command.TheVariants.{Stop, SiteCall, DefinitionCall, Parallel, Sequential, Pruning, Pending}
use Rattle.forms.specs.Commands.{byte_of}

pub command_of : (b : ℕ) → b ≤ 6 → (c : Command) × (b ≡ byte_of c)
command_of zero known = (Stop, refl)
command_of (suc zero) known = (SiteCall, refl)
command_of (suc (suc zero)) known = (DefinitionCall, refl)
command_of (suc (suc (suc zero))) known = (Parallel, refl)
command_of (suc (suc (suc (suc zero)))) known = (Sequential, refl)
command_of (suc (suc (suc (suc (suc zero))))) known = (Pruning, refl)
command_of (suc (suc (suc (suc (suc (suc zero)))))) known = (Pending, refl)
command_of (suc (suc (suc (suc (suc (suc (suc b))))))) known = absurd (omega arith)
