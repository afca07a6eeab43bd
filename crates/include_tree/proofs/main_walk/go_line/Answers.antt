use Rattle.unit_steps.specs.Moments.{state_in}
use Rattle.include_tree.proofs.FrontLemmas.{along-push, length-more}
use Rattle.include_tree.proofs.main_walk.go_line.Goals as goal

pub returns-in_ok-push-in-Ok-clause-along : goal.returns-in_ok-push-in-Ok-clause-along
returns-in_ok-push-in-Ok-clause-along g c =
    along-push c.args.unit.now c.args.cache.now.table c.walk_lead.new.cache.table c.args.pseudo c.args.trail.now c.push.new.self (state_in c.args.cache.now.table c.args.p.now)
    (state_in c.walk_lead.new.cache.table c.walk_lead.new.p) c.args.p.now.text c.walk_lead.new.p.text c.in-Ok.piece c.args.lead c.line_of.result c.in-Ok.ensures.reads.grown c.requires.along
    c.in-Ok.ensures.piece c.line_of.ensures.number c.line_of.ensures.behind c.in_ok-push-in-Ok.ensures.0 c.in_ok-push-in-Ok.ensures.1

pub returns-in_ok-push-in-Ok-clause-count : goal.returns-in_ok-push-in-Ok-clause-count
returns-in_ok-push-in-Ok-clause-count g c =
    length-more c.push.new.self.lines.items c.args.trail.now.lines.items c.line_of.result c.in_ok-push-in-Ok.ensures.0
