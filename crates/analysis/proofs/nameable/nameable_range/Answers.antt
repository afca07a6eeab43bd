use Rattle.std.proofs.Common.{ap, ◌∙◌}
use Rattle.analysis.specs.Naming.{computed_name, nameable_behind}
use Rattle.analysis.proofs.NameableLemmas.{drop_range, named_first}
use Rattle.analysis.proofs.nameable.nameable_range.Goals as goal

pub returns-in-Define-clause-answer : goal.returns-in-Define-clause-answer
returns-in-Define-clause-answer c =
    rw c.in-Define.is (drop_range 2 c.args.toks.now c.args.item.now.from c.args.item.now.to)

pub returns-in-Undef-clause-answer : goal.returns-in-Undef-clause-answer
returns-in-Undef-clause-answer c =
    rw c.in-Undef.is (named_first c.args.toks.now c.args.item.now.from c.args.item.now.to c.first_of.result c.first_of.ensures)

pub returns-in-Ifdef-clause-answer : goal.returns-in-Ifdef-clause-answer
returns-in-Ifdef-clause-answer c =
    rw c.in-Ifdef.is (named_first c.args.toks.now c.args.item.now.from c.args.item.now.to c.first_of-in-Ifdef.result c.first_of-in-Ifdef.ensures)

pub returns-in-Ifndef-clause-answer : goal.returns-in-Ifndef-clause-answer
returns-in-Ifndef-clause-answer c =
    rw c.in-Ifndef.is (named_first c.args.toks.now c.args.item.now.from c.args.item.now.to c.first_of-in-Ifndef.result c.first_of-in-Ifndef.ensures)

pub returns-then-evaluated-clause-answer : goal.returns-then-evaluated-clause-answer
returns-then-evaluated-clause-answer c =
    rw (c.in-If.is, c.if-evaluated.true) (drop_range 2 c.args.toks.now c.args.item.now.from c.args.item.now.to)

pub returns-then-evaluated-2-clause-answer : goal.returns-then-evaluated-2-clause-answer
returns-then-evaluated-2-clause-answer c =
    rw (c.in-Elif.is, c.if-evaluated-2.true) (drop_range 2 c.args.toks.now c.args.item.now.from c.args.item.now.to)

pub returns-in-Include-clause-answer : goal.returns-in-Include-clause-answer
returns-in-Include-clause-answer c =
    rw c.in-Include.is
    (ap computed_name (drop_range 2 c.args.toks.now c.args.item.now.from c.args.item.now.to) ∙ c.computed_end.ensures.answer)

pub returns-in-Gnu-clause-answer : goal.returns-in-Gnu-clause-answer
returns-in-Gnu-clause-answer c =
    rw c.in-Gnu.is
    (ap (nameable_behind c.in-Gnu.line c.args.evaluated) (drop_range 2 c.args.toks.now c.args.item.now.from c.args.item.now.to) ∙ c.gnu_end.ensures.answer)
