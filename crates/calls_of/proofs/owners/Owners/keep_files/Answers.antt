use Rattle.std.proofs.Common.{arith}
use Rattle.calls_of.specs.Bodies.{owned_from}
use Rattle.calls_of.specs.Owners.{owner_at}
use Rattle.calls_of.proofs.OwnerLemmas.{grows-next, grows-all}
use Rattle.calls_of.proofs.owners.Owners.keep_files.Goals as goal

pub loop-number-preserved : goal.loop-number-preserved
loop-number-preserved c =
    let table = c.args.a.now.value.table in
    grows-next table c.loop-number.number (owned_from 0 table) (owner_at c.args.self.now.names) (owner_at c.loop-number.self.names) (owner_at c.keep_numbered.new.self.names)
    (omega (arith, c.files-number-end.ensures.answer)) c.loop-number.invariant c.in_ok-keep_numbered.ensures

pub returns : goal.returns
returns c =
    let table = c.args.a.now.value.table in
    grows-all table c.loop-number.number (owned_from 0 table) (owner_at c.args.self.now.names) (owner_at c.loop-number.self.names)
    (omega (arith, c.files-number-end.ensures.answer)) c.loop-number.invariant
