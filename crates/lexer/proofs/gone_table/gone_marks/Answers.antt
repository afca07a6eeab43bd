use Rattle.std.proofs.Common.{rules}
use Rattle.lexer.specs.GoneTable.{marks_of}
use Rattle.lexer.proofs.gone_table.gone_marks.Goals as goal

pub loop-rest-init : goal.loop-rest-init
unfolding marks_of
loop-rest-init c = search rules
