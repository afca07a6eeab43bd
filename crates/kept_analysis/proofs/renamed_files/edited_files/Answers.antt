use Rattle.std.proofs.Common.{arith}
use Rattle.offences.specs.Moves.{editing_by}
use Rattle.kept_analysis.proofs.EditLemmas.{front_none, front_more, front_end}
use Rattle.kept_analysis.proofs.renamed_files.edited_files.Goals as goal

pub loop-number-init : goal.loop-number-init
loop-number-init c = front_none (editing_by c.args.moves.now) c.args.cache.table

pub loop-number-preserved : goal.loop-number-preserved
loop-number-preserved c =
    front_more (editing_by c.args.moves.now) c.loop-number.number c.args.cache.table c.loop-number.files.table c.edit_numbered.new.cache.table c.loop-number.invariant c.in_ok-edit_numbered.ensures

pub returns : goal.returns
returns c =
    front_end (editing_by c.args.moves.now) c.loop-number.number c.args.cache.table c.loop-number.files.table (omega (arith, c.loop-number-test.false, c.numbers-number-end.ensures.answer)) c.loop-number.invariant
