use Rattle.std.proofs.Common.{sym}
use Rattle.analysis.proofs.ClassLemmas.{held_by}
use Rattle.analysis.proofs.analysing.Analysis.part_of.Goals as goal

pub returns : goal.returns
returns c =
    rw (← c.self.view_is)
    (held_by c.self.inside.accepted c.self.inside.classes c.self.invariant.own c.args.pos c.part_at.result (sym c.part_at.ensures.answer))
