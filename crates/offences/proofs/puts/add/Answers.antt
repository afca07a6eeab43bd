use Rattle.std.proofs.Common.{arith}
use Rattle.offences.proofs.PutLemmas.{adds_by}
use Rattle.offences.proofs.puts.add.Goals as goal

pub returns-then-member-number-clause-added : goal.returns-then-member-number-clause-added
returns-then-member-number-clause-added c =
    adds_by c.args.member c.args.number c.args.puts.now.items c.mark.new.puts.items (omega (arith, c.if-member-number.true)) c.mark.ensures.all c.mark.ensures.marked
