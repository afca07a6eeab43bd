use Rattle.std.proofs.Common.{Option, slice_get, ◌-◌}
use Rattle.offences.specs.declared.firsts.Offence.{Offence}
use Rattle.rename_rules.specs.GnuUnits.{AreTold, IsAgainstUnit}
use Rattle.rename_rules.proofs.FailingLemmas.{if_ok}
use Rattle.rename_rules.proofs.GnuLemmas.{told_gnu, unit_against}
use Rattle.rename_rules.proofs.words_and_texts.in_unit.Goals as goal

pub returns : goal.returns
returns c =
    let class = c.args.renaming.now.class in
    let name = c.args.renaming.now.name in
    let a = c.args.a.now.value in
    let olds = c.args.olds.now in
    let u = c.in_ok-one.one in
    let unit = slice_get a.units (c.args.unit - 1) in
    if_ok c.in_read.result (AreTold a class.members name olds.texts.items u c.at_calls-calls.result)
    (IsAgainstUnit a class.members name olds.texts.items olds.names.items c.args.unit c.args.first)
    (λ (now : Option Offence) here.
    unit_against a class.members name c.args.first c.at_calls-calls.result now olds.texts.items olds.names.items c.args.unit u c.in_ok-one.ensures
    (told_gnu unit u c.gnu_begin.result c.in_ok-one.ensures c.gnu_begin.ensures c.if-is_none.ensures) (rw (c.class.ensures, c.deref.ensures.value, c.project_of-project.ensures) at c.at_calls-calls.ensures) here)
    (rw c.deref-2.ensures.value at c.in_read.ensures)
