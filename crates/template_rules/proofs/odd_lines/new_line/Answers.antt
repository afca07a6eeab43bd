use Rattle.std.proofs.Common.{sym}
use Rattle.template_rules.proofs.LineOddsLemmas.{line_new, line_nowhere, line_told}
use Rattle.template_rules.proofs.odd_lines.new_line.Goals as goal

pub returns-then-is_told : goal.returns-then-is_told
returns-then-is_told c odds odd = line_told c.args.a.now.value.table odds c.args.lines.now odd c.args.p (c.is_told.ensures c.if-is_told.true)

pub returns-in-Some : goal.returns-in-Some
returns-in-Some c odds odd =
    line_new c.args.a.now.value.table odds c.args.lines.now odd c.args.p c.in-Some.file.now c.line_in.result (sym c.in-Some.ensures) c.line_in.ensures

pub returns-in-None : goal.returns-in-None
returns-in-None c odds odd = line_nowhere c.args.a.now.value.table odds c.args.lines.now odd c.args.p (sym c.in-None.ensures)
