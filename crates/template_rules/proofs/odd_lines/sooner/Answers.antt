use Rattle.std.proofs.Common.{sym, subst}
use Rattle.template_rules.specs.OddLines.{FirstAmong}
use Rattle.template_rules.proofs.FirstLineLemmas.{first_kept, first_new, first_sooner, first_still}
use Rattle.template_rules.proofs.odd_lines.sooner.Goals as goal

pub returns-then-not-is_line_among : goal.returns-then-not-is_line_among
returns-then-not-is_line_among c lines first =
    first_kept lines c.args.from c.args.to c.args.line c.args.best (sym c.if-not-is_line_among.ensures) first

pub returns-then-line-p : goal.returns-then-line-p
returns-then-line-p c lines first =
    first_sooner lines c.args.from c.args.to c.args.line c.in-Some.p (sym c.if-not-is_line_among.ensures) c.if-line-p.true
    (subst (λ b. FirstAmong lines c.args.from c.args.to b) c.in-Some.is first)

pub returns-else-line-p : goal.returns-else-line-p
returns-else-line-p c lines first =
    first_still lines c.args.from c.args.to c.args.line c.in-Some.p c.if-line-p.false
    (subst (λ b. FirstAmong lines c.args.from c.args.to b) c.in-Some.is first)

pub returns-in-None : goal.returns-in-None
returns-in-None c lines first =
    first_new lines c.args.from c.args.to c.args.line (sym c.if-not-is_line_among.ensures)
    (subst (λ b. FirstAmong lines c.args.from c.args.to b) c.in-None.is first)
