use Rattle.std.proofs.Common.{take}
use Rattle.std.specs.Prelude.{map}
use Rattle.std.specs.List.{flat_map}
use Rattle.cs_base.specs.declared.causes.Cause.TheVariants as cause
use Rattle.offences.specs.First.{standing, FirstThen}
use Rattle.template_rules.specs.GnuOffences.{text_place}
use Rattle.template_rules.proofs.gnu_texts.in_texts.Given as goal

abbrev pub invariant-loop-text : goal.invariant-loop-text
invariant-loop-text l =
    FirstThen l.a.value.table (standing cause.AssemblerText (flat_map (text_place (map (λ t. t.now) l.words) l.toks) (take l.text-index l.texts))) l.initial.now l.now
