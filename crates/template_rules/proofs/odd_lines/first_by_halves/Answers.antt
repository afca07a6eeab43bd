use Rattle.std.proofs.Common.{sym, ◌∙◌, arith}
use Rattle.std.proofs.lemmas.Option.{slice_get_within}
use Rattle.template_rules.proofs.LineLemmas.{first_none, first_none-at, first_some-at}
use Rattle.template_rules.proofs.odd_lines.first_by_halves.Goals as goal

pub returns-then-k-lines : goal.returns-then-k-lines
returns-then-k-lines c =
    first_none c.args.lines.now c.requires.placed c.requires.ordered c.args.from c.args.to c.lines_before-k.result c.lines_before-k.ensures
    (λ p at is. let within = slice_get_within c.args.lines.now c.lines_before-k.result p at in absurd (omega (arith, within, c.if-k-lines.true)))

pub returns-then-is_line_among : goal.returns-then-is_line_among
returns-then-is_line_among c =
    first_some-at c.args.lines.now c.requires.placed c.requires.ordered c.args.from c.args.to c.lines_before-k.result c.lines_before-k.ensures _ _
    (omega (arith, c.if-k-lines.false)) (sym c.if-is_line_among.ensures)

pub returns-else-is_line_among : goal.returns-else-is_line_among
returns-else-is_line_among c =
    first_none-at c.args.lines.now c.requires.placed c.requires.ordered c.args.from c.args.to c.lines_before-k.result c.lines_before-k.ensures _
    (omega (arith, c.if-k-lines.false)) (sym c.if-is_line_among.ensures)
