use Rattle.eclass_map.proofs.class_table.Classes.join_whole.Goals as goal

pub returns-then-not-whole_near-2-clause-whole : goal.returns-then-not-whole_near-2-clause-whole
returns-then-not-whole_near-2-clause-whole g c = λ a b. c.if-not-whole_near-2.ensures b

pub returns-clause-whole : goal.returns-clause-whole
returns-clause-whole g c = (c.if-not-whole_near.ensures, c.if-not-whole_near-2.ensures)
