use Rattle.analysis.proofs.accepted.Accepted.unit.Goals as goal

pub unit_over-requires : goal.unit_over-requires
unit_over-requires c = record { within = c.requires; shared = c.new-shared.ensures c.args.self.now.table }

pub returns : goal.returns
returns c = c.unit_over.ensures.unit
