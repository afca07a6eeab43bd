use Rattle.macro_expand.proofs.TracedLemmas.{sound-body}
use Rattle.expansion_rows.proofs.expansion_texts.define_line.Goals as goal

pub define-requires-clause-body : goal.define-requires-clause-body
define-requires-clause-body c =
    sound-body c.are_sound.result c.as_slice.result.now c.in_ok-definition.definition.body c.if-not-are_sound.false c.as_slice.ensures c.are_sound.ensures
