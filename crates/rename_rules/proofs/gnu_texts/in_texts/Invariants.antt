use Rattle.std.proofs.Common.{take}
use Rattle.std.specs.List.{flat_map}
use Rattle.cs_base.specs.declared.causes.Cause.TheVariants as cause
use Rattle.offences.specs.First.{standing, FirstThen}
use Rattle.rename_rules.specs.GnuTexts.{text_place_in}
use Rattle.rename_rules.proofs.gnu_texts.in_texts.Given as goal

abbrev pub invariant-loop-text : goal.invariant-loop-text
invariant-loop-text l =
    FirstThen l.a.value.table (standing cause.AssemblerText (flat_map (text_place_in l.renaming.class.members l.renaming.name l.olds l.toks) (take l.text-index l.texts))) l.initial.now l.now
