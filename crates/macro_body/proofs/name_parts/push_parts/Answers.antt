use Rattle.line_shape.specs.MacroLine.{spellings}
use Rattle.macro_body.proofs.NamePartLemmas.{pushed-part}
use Rattle.macro_body.proofs.name_parts.push_parts.Goals as goal

pub loop-part-preserved : goal.loop-part-preserved
loop-part-preserved c =
    pushed-part c.loop-part.all.items c.push_shared.new.all.items c.toks.result.now (spellings c.args.all.now.items) c.args.parts.now c.loop-part.part-index c.part-item.result
    c.loop-part-test.true c.part-item.is c.in_ok-push_shared.ensures c.toks.ensures c.loop-part.invariant
