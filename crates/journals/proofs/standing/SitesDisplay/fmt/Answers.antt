use Rattle.std.proofs.Common.{rules, ◌≡◌, ◌++◌, ap, sym, subst, ◌∙◌, append-nil, arith}
use Rattle.std.proofs.Output.{has_written_append, has_written_of_eq}
use Rattle.std.proofs.lemmas.Option.{MatchOption-at_some}
use Rattle.std.specs.Fmt.{HasWritten}
use Rattle.std.specs.List.{flat_map, range_with_len}
use Rattle.engine.specs.Stands.{state_of}
use Rattle.engine.specs.Shown.{Shows}
use Rattle.journals.specs.Lines.{site_line, site_text, counts}
use Rattle.journals.proofs.Writing.{number_more}
use Rattle.journals.proofs.Shown.{line_shown, nothing_shown}
use Rattle.journals.proofs.standing.SitesDisplay.fmt.Goals.{then-totals-gt0+in_ok-write, else-totals-gt0}
use Rattle.journals.proofs.standing.SitesDisplay.fmt.Goals as goal

pub loop-site-init : goal.loop-site-init
loop-site-init g c = search rules

pub loop-site-preserved : goal.loop-site-preserved
loop-site-preserved g c = λ plain.
    let s = state_of c.args.self.now.0.now.plain in
    let site = c.loop-site.site in
    let shows : Shows s site c.unwrap-totals.result = (MatchOption-at_some _ _ _ c.unwrap-totals.ensures c.totals.ensures).1 in
    let before = c.loop-site.invariant plain in
    has_written_of_eq _ _ _ _ _ (number_more (site_text s) site)
    (elim c.if-totals-gt0.branch [
      | then-totals-gt0+in_ok-write w ↦
          let line : HasWritten g.W.Write.write_str_gives c.loop-site.f (site_line site (counts c.unwrap-totals.result)) w.write.new.self = search rules in
          subst (HasWritten g.W.Write.write_str_gives c.args.f.now (flat_map (site_text s) (range_with_len 0 site) ++ site_text s site)) (sym w.f-is)
          (has_written_append _ _ _ _ _ _ before (has_written_of_eq _ _ _ _ _ (line_shown s site c.unwrap-totals.result shows w.if-totals-gt0.true) line))
      | else-totals-gt0 w ↦
          subst (HasWritten g.W.Write.write_str_gives c.args.f.now (flat_map (site_text s) (range_with_len 0 site) ++ site_text s site)) (sym w.f-is)
          (has_written_of_eq _ _ _ _ _ (sym (ap (λ l. flat_map (site_text s) (range_with_len 0 site) ++ l) (nothing_shown s site c.unwrap-totals.result shows w.if-totals-gt0.false) ∙ append-nil _)) before)
    ])

pub returns-clause-writes : goal.returns-clause-writes
returns-clause-writes g c = λ plain _.
    let s = state_of c.args.self.now.0.now.plain in
    let all : c.loop-site.site ≡ 32 = omega (arith, c.loop-site-test.false, c.loop-site.auto.site-end) in
    has_written_of_eq _ _ _ _ _ (ap (λ n. flat_map (site_text s) (range_with_len 0 n)) all) (c.loop-site.invariant plain)
