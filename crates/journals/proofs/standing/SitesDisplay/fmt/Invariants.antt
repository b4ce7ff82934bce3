use Rattle.std.specs.Fmt.{HasWritten, IsPlainFormatter}
use Rattle.std.specs.List.{flat_map, range_with_len}
use Rattle.engine.specs.Stands.{state_of}
use Rattle.journals.specs.Lines.{site_text}
use Rattle.journals.proofs.standing.SitesDisplay.fmt.Given as goal

-- what is said of the sites so far is written
abbrev pub invariant-loop-site : goal.invariant-loop-site
invariant-loop-site g l = IsPlainFormatter l.initial.f → HasWritten g.W.Write.write_str_gives l.initial.f (flat_map (site_text (state_of l.run.plain)) (range_with_len 0 l.site)) l.f
