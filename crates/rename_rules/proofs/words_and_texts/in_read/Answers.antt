use Rattle.std.proofs.Common.{List, Option, ap, ◌∙◌}
use Rattle.cs_base.specs.Token.{Token}
use Rattle.analysis.specs.Below.c99_tree.Tree.{Node}
use Rattle.analysis.specs.Below.scope_bind.Bound.{Bound}
use Rattle.analysis.specs.Below.unit_steps.Texts.{UnitTextValue}
use Rattle.gnu_lists.specs.Lists.{listed_in}
use Rattle.offences.specs.declared.firsts.Offence.{Offence}
use Rattle.offences.specs.First.{FirstThen}
use Rattle.rename_rules.specs.GnuTexts.{told_in}
use Rattle.rename_rules.specs.GnuUnits.{AreTold}
use Rattle.rename_rules.proofs.FailingLemmas.{if_ok}
use Rattle.rename_rules.proofs.GnuLemmas.{unit_quiet, unit_told}
use Rattle.rename_rules.proofs.words_and_texts.in_read.Goals as goal

pub returns-then-quiet : goal.returns-then-quiet
returns-then-quiet c =
    let class = c.args.renaming.now.class in
    unit_quiet c.args.a.now.value class.members c.args.renaming.now.name c.args.first c.args.olds.now c.toks-toks.result.now c.bound-bound.result.now.names c.args.one.now
    (c.toks-toks.ensures ∙ ap (λ (t : UnitTextValue). t.toks) c.text.ensures) (ap (λ (b : Bound). b.names) c.bound-bound.ensures) (c.in_ok-quiet.ensures c.if-quiet.true)

pub returns : goal.returns
returns c =
    let members = c.args.renaming.now.class.members in
    let name = c.args.renaming.now.name in
    let a = c.args.a.now.value in
    let u = c.args.one.now in
    let olds = c.args.olds.now in
    let toks = c.toks-toks.result.now in
    let names = c.bound-bound.result.now.names in
    let listed = c.in_ok-lists.lists in
    let text = c.toks-toks.ensures ∙ ap (λ (t : UnitTextValue). t.toks) c.text.ensures in
    let tree = c.in_ok-tree.ensures in
    if_ok c.in_lists.result (FirstThen a.table (told_in members name olds names toks listed) c.args.first) (AreTold a members name olds u c.args.first)
    (λ (now : Option Offence) here.
    unit_told a members name c.args.first now olds toks names listed u text (ap (λ (b : Bound). b.names) c.bound-bound.ensures)
    (c.in_ok-lists.ensures ∙ (ap (λ (ts : List Token). listed_in ts c.in_ok-tree.tree.under) text ∙ ap (λ (n : Node). listed_in u.text.toks n.under) tree)) here)
    c.in_lists.ensures
