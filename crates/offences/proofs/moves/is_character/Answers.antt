use Rattle.std.proofs.Common.{is_some, ap, ◌∙◌, arith}
use Rattle.part_respell.proofs.WalkLemmas.{small}
use Rattle.offences.proofs.PutPlaceLemmas.{is_there, text_short}
use Rattle.offences.proofs.moves.is_character.Goals as goal

pub returns-clause-answer : goal.returns-clause-answer
returns-clause-answer c =
    let f = c.args.file.now in
    c.is_some.ensures ∙ (ap is_some (c.byte_of.ensures.answer f.number f.bytes c.text.ensures) ∙ is_there f.bytes c.args.at)

pub returns-clause-short : goal.returns-clause-short
returns-clause-short c =
    let f = c.args.file.now in
    let few = small f.number f.bytes c.text.result.now c.text.ensures in
    let less = text_short f.bytes in
    omega (arith, few, less)
