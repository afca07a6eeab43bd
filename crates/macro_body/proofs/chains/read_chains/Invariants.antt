use Rattle.std.proofs.Common.{◌≡◌, false, length, drop}
use Rattle.macro_body.specs.Bodies.{parts_from, chains_in}
use Rattle.macro_body.specs.BodyParts.{with_parts}
use Rattle.macro_body.proofs.chains.read_chains.Given as goal

-- what is read and what follows make the chains
abbrev pub invariant-loop-k : goal.invariant-loop-k
invariant-loop-k l = record {
  chains : with_parts l.reading.operand l.reading.chains.items (parts_from l.m l.reading.taken (drop l.k l.m.body)) ≡ chains_in (parts_from l.m false l.m.body);
  end : l.k-end ≡ length l.m.body;
}
