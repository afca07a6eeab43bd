use Rattle.eclass_map.proofs.class_table.Classes.join.Goals as goal

pub returns-clause-unchanged : goal.returns-clause-unchanged
returns-clause-unchanged g c = c.join_near.ensures.unchanged

pub returns-clause-count : goal.returns-clause-count
returns-clause-count g c = c.join_near.ensures.count

pub returns-clause-same : goal.returns-clause-same
returns-clause-same g c = c.join_near.ensures.same

pub returns-clause-links : goal.returns-clause-links
returns-clause-links g c = c.join_near.ensures.links

pub returns-clause-parts : goal.returns-clause-parts
returns-clause-parts g c = c.join_near.ensures.parts

pub returns-clause-enough : goal.returns-clause-enough
returns-clause-enough g c = c.join_near.ensures.enough

pub returns-clause-bound : goal.returns-clause-bound
returns-clause-bound g c = c.join_near.ensures.bound

pub returns-clause-history : goal.returns-clause-history
returns-clause-history g c = c.join_near.ensures.history

pub returns-clause-most : goal.returns-clause-most
returns-clause-most g c = c.join_near.ensures.most

pub returns-clause-exact : goal.returns-clause-exact
returns-clause-exact g c = c.join_near.ensures.exact

pub returns-clause-ticks : goal.returns-clause-ticks
returns-clause-ticks g c = c.join_near.ensures.ticks
