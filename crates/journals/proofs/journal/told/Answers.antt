use Rattle.std.proofs.Common.{rules, ◌≡◌, ◌++◌, codes, map, zip, string_bytes, vec_items, sym, ap, ◌∙◌, append_assoc}
use Rattle.engine.specs.Stands.{state_of}
use Rattle.journals.specs.Lines.{call_lines, bad_text, state_lines}
use Rattle.journals.specs.Journals.{pair_of}
use Rattle.journals.proofs.journal.told.Goals as goal

pub returns : goal.returns
returns g c =
    let script = c.args.script.now in
    let played = c.args.played.now in
    let bad = bad_text script.bad in
    let s = state_lines (state_of played.run.plain) in
    let rest = codes "\n" ++ c.args.picture.now in
    let calls = call_lines (zip script.calls.items played.responses.items) in
    let pairs : map pair_of (vec_items c.in_ok-lines.lines) ≡ zip script.calls.items played.responses.items = search rules in
    let text : string_bytes c.in_ok-format.field-0 ≡ call_lines (map pair_of (vec_items c.in_ok-lines.lines)) ++ (bad ++ (s ++ rest)) = search rules in (
      text ∙ ap (λ l. call_lines l ++ (bad ++ (s ++ rest))) pairs ∙ sym (append_assoc calls (bad ++ s) rest ∙ ap (λ l. calls ++ l) (append_assoc bad s rest)),
      search rules,
    )
