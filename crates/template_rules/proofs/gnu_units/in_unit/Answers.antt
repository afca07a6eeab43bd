use Rattle.std.proofs.Common.{◌≡◌, ◌-◌, List, Option, ap, arith, subst, slice_get, ◌∙◌}
use Rattle.std.specs.Prelude.{map}
use Rattle.cs_base.specs.declared.positions.Part.{Part}
use Rattle.cs_base.specs.Token.{Token}
use Rattle.analysis.specs.Below.c99_tree.Tree.{Node}
use Rattle.analysis.specs.Below.unit_steps.Texts.{UnitTextValue}
use Rattle.gnu_lists.specs.Lists.{listed_in}
use Rattle.analysis.specs.Analysed.{Analysed}
use Rattle.analysis.specs.Analysis.{UnitAnalysis}
use Rattle.analysis.proofs.OneUnitLemmas.{same_unit}
use Rattle.offences.specs.Class.{ClassValue}
use Rattle.offences.specs.declared.firsts.Offence.{Offence}
use Rattle.offences.specs.First.{FirstThen}
use Rattle.template_rules.specs.GnuOffences.{told_offences, IsAgainstUnit}
use Rattle.template_rules.proofs.GnuLemmas.{against, if_ok, not_against, unit_is}
use Rattle.template_rules.proofs.gnu_units.in_unit.Goals as goal

pub returns-then-is_none : goal.returns-then-is_none
returns-then-is_none c =
    not_against c.args.functions.now.analysis.value c.args.functions.now.members (map (λ t. t.now) c.args.words.now) c.args.number c.gnu_begin.result
    (rw c.analysis-a.ensures at c.gnu_begin.ensures) c.args.first c.if-is_none.ensures

pub bounds-units-k : goal.bounds-units-k
bounds-units-k c = omega (arith, c.units-units.ensures.many, c.requires.start, c.requires.end)

pub returns : goal.returns
returns c =
    let class = c.args.functions.now in
    let a = class.analysis.value in
    let words = map (λ t. t.now) c.args.words.now in
    let f = c.index-units-k.result in
    let toks = f.text.now.toks in
    let bound = f.bound.now in
    let listed = c.in_ok-lists.lists in
    let own = unit_is class c.units-units.result.now c.units-units.ensures (c.args.number - 1) f (omega (arith, c.units-units.ensures.many, c.requires.start, c.requires.end))
    c.index-units-k.is in
    if_ok c.in_lists.result (FirstThen a.table (told_offences class.members words toks bound listed) c.args.first) (IsAgainstUnit a class.members words c.args.number c.args.first)
    (λ (now : Option Offence) here.
    against a class.members words c.args.number c.gnu_begin.result (rw c.analysis-a.ensures at c.gnu_begin.ensures) c.args.first now toks bound listed c.if-is_none.ensures
    (λ (u : UnitAnalysis) is.
    let one = own.1 u is in
    let text = ap (λ (t : UnitTextValue). t.toks) one.of_text in
    let read = same_unit (slice_get a.units (c.args.number - 1)) u c.in_ok-read.read is (rw c.analysis-a.ensures at c.in_ok-read.ensures) in
    let tree = c.in_ok-tree.ensures ∙ ap (λ (v : UnitAnalysis). v.tree) read in (
      text,
      one.of_bound,
      rw c.toks.ensures at c.in_ok-lists.ensures ∙ (ap (λ (ts : List Token). listed_in ts c.in_ok-tree.tree.under) text ∙ ap (λ (n : Node). listed_in u.text.toks n.under) tree),
    ))
    here)
    (rw (c.analysis-a.ensures, own.0) at c.in_lists.ensures)
