use Rattle.std.proofs.Common.{take}
use Rattle.rename_rules.specs.Respellings.{AreRespellings}
use Rattle.rename_rules.proofs.respelling_table.respellings.Given as goal

abbrev pub invariant-loop-tok : goal.invariant-loop-tok
invariant-loop-tok l =
    AreRespellings l.class.members l.name (take l.tok-index l.toks) l.table.items
