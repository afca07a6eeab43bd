use Rattle.std.proofs.Common.{length, ap, arith}
use Rattle.part_respell.proofs.WalkLemmas.{small}
use Rattle.offences.proofs.PutPlaceLemmas.{text_short}
use Rattle.offences.proofs.moves.most_characters.Goals as goal

pub overflow_cast-result : goal.overflow_cast-result
overflow_cast-result c =
    let f = c.args.file.now in
    let few = small f.number f.bytes c.text-text.result.now c.text-text.ensures in
    let same = ap length c.requires in
    omega (arith, few, same)

pub returns : goal.returns
returns c =
    let less = text_short c.args.file.now.bytes in
    let same = ap length c.requires in
    omega (arith, less, same)
