use Rattle.std.proofs.Common.{List, true, false, subst, sym, ◌∙◌}
use Rattle.cs_base.specs.declared.causes.Cause.TheVariants as cause
use Rattle.cs_base.specs.declared.positions.Pos.{Pos}
use Rattle.offences.specs.First.{standing, FirstThen}
use Rattle.offences.proofs.FirstLemmas.{then_none}
use Rattle.rename_rules.proofs.GnuLemmas.{in_named}
use Rattle.rename_rules.proofs.gnu_texts.in_text.Goals as goal

pub returns-then-has_name : goal.returns-then-has_name
returns-then-has_name c =
    let class = c.args.renaming.now.class in
    subst (λ (ps : List Pos). FirstThen c.args.a.now.value.table (standing cause.AssemblerText ps) c.args.first c.at_token.result)
    (sym (in_named class.members c.args.renaming.now.name c.args.olds.now c.args.toks.now c.args.text c.name.result.now c.deref.result.now c.text_toks.result.now true
    c.name.ensures (c.deref.ensures.value ∙ c.in_ok-given.ensures) c.text_toks.ensures c.if-has_name.ensures))
    c.at_token.ensures

pub returns : goal.returns
returns c =
    let class = c.args.renaming.now.class in
    subst (λ (ps : List Pos). FirstThen c.args.a.now.value.table (standing cause.AssemblerText ps) c.args.first c.args.first)
    (sym (in_named class.members c.args.renaming.now.name c.args.olds.now c.args.toks.now c.args.text c.name.result.now c.deref.result.now c.text_toks.result.now false
    c.name.ensures (c.deref.ensures.value ∙ c.in_ok-given.ensures) c.text_toks.ensures c.if-has_name.ensures))
    (then_none c.args.a.now.value.table c.args.first)
