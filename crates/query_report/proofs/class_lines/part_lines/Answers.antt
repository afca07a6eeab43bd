use Rattle.std.proofs.Common.{arith}
use Rattle.std.proofs.lemmas.Option.{slice_get-get_or}
use Rattle.query_report.proofs.SequenceLemmas.{parts-more, parts-end}
use Rattle.query_report.proofs.class_lines.part_lines.Goals as goal

pub push_part-requires : goal.push_part-requires
push_part-requires c =
    c.requires.parts c.loop-part.part-index _ (slice_get-get_or c.args.parts.now c.loop-part.part-index _ c.loop-part-test.true)

pub loop-part-preserved : goal.loop-part-preserved
loop-part-preserved c =
    parts-more _ _ c.loop-part.part-index _ _ _ _ c.loop-part-test.true c.loop-part.invariant c.in_ok-push_part.ensures

pub returns : goal.returns
returns c =
    parts-end c.args.a.now.value c.args.parts.now c.loop-part.part-index c.loop-part.text.items _ (omega arith) c.loop-part.invariant
