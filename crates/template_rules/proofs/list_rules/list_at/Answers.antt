use Rattle.cs_base.specs.declared.causes.Cause.TheVariants as cause
use Rattle.offences.specs.First.{standing}
use Rattle.offences.proofs.FirstLemmas.{then_both}
use Rattle.template_rules.specs.LineOffences.{odd_places, odd_positions}
use Rattle.template_rules.specs.MacroOffences.{macro_place}
use Rattle.template_rules.proofs.list_rules.list_at.Goals as goal

pub returns : goal.returns
returns c =
    let class = c.args.functions.now in
    let a = class.analysis.value in
    let text = c.args.unit.now.text.now in
    then_both a.table
    (standing cause.InMacro (macro_place class.members a text.toks text.reached c.args.list.now))
    (standing cause.OddToken (odd_places a.table (odd_positions a.table) text c.args.list.now))
    c.args.first c.macro_at-named.result c.odds_at.result (rw (c.toks.ensures, c.args.unit.now.reached) at c.macro_at-named.ensures)
    (rw c.analysis.ensures at c.odds_at.ensures)
