use Rattle.std.specs.Prelude.{map}
use Rattle.cs_base.specs.declared.causes.Cause.TheVariants as cause
use Rattle.template_rules.specs.GnuOffences.{text_place}
use Rattle.offences.proofs.FirstLemmas.{then_none, then_next_or, then_all}
use Rattle.template_rules.proofs.gnu_texts.in_texts.Goals as goal

pub loop-text-init : goal.loop-text-init
loop-text-init c = then_none c.args.a.now.value.table c.args.first

pub loop-text-preserved : goal.loop-text-preserved
loop-text-preserved c =
    then_next_or c.args.a.now.value.table cause.AssemblerText (text_place (map (λ t. t.now) c.args.words.now) c.args.toks.now) c.args.texts.now
    c.loop-text.text-index _ c.args.first c.loop-text.now _ c.loop-text-test.true c.loop-text.invariant c.in_ok-now.ensures

pub returns : goal.returns
returns c =
    then_all c.args.a.now.value.table cause.AssemblerText (text_place (map (λ t. t.now) c.args.words.now) c.args.toks.now) c.args.texts.now
    c.loop-text.text-index c.args.first c.loop-text.now c.loop-text-test.false c.loop-text.invariant
