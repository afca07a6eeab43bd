use Rattle.std.proofs.Common.{rules}
use Rattle.lexer.specs.GoneTable.{gone_of}
use Rattle.lexer.proofs.gone_table.gone_offsets.Goals as goal

pub loop-rest-init : goal.loop-rest-init
unfolding gone_of
loop-rest-init c = search rules
