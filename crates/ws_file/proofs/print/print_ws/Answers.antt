use Rattle.std.proofs.Common.{◌≡◌, ◌≤◌, ◌++◌, ◌^◌, List, ℕ, length, map, sym, subst, ◌∙◌, rules}
use Rattle.std.specs.Prelude.{Ok}
use Rattle.std.specs.List.{flat_map}
use Rattle.ws_file.specs.Reading.{workspace_of}
use Rattle.ws_file.specs.Printing.{readonly_line, unit_lines, lines_text}
use Rattle.ws_file.proofs.PrintLemmas.{workspace_text-is}
use Rattle.ws_file.proofs.RoundTrip.{workspace_of-workspace_text}
use Rattle.ws_file.proofs.print.print_ws.Goals as goal

pub returns-clause-answer : goal.returns-clause-answer
returns-clause-answer c =
    let ws = c.args.ws.now in
    let printed : c.add_units.new.text.items ≡ lines_text (map readonly_line ws.readonly) ++ lines_text (flat_map unit_lines ws.units) = search rules in
    printed ∙ sym (workspace_text-is ws)

pub returns-clause-read_back : goal.returns-clause-read_back
returns-clause-read_back c =
    let ws = c.args.ws.now in
    let printed : c.add_units.new.text.items ≡ lines_text (map readonly_line ws.readonly) ++ lines_text (flat_map unit_lines ws.units) = search rules in
    let same = printed ∙ sym (workspace_text-is ws) in
    let Back : List ℕ → Type 0 = λ text. length text ≤ 2 ^ 22 → workspace_of text ≡ Ok ws in
    subst Back (sym same) (workspace_of-workspace_text ws c.units.ensures.sound)
