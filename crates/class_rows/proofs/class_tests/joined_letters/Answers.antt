use Rattle.eclass_map.specs.ClassTable.{part_of_file}
use Rattle.eclass_map.proofs.CallerFacts.{whole_one, near_kept}
use Rattle.class_rows.proofs.class_tests.joined_letters.Goals as goal

pub join-requires-clause-whole_x : goal.join-requires-clause-whole_x
join-requires-clause-whole_x g c = whole_one c.in_ok-classes.classes (part_of_file 1 0 1) c.in_ok-x.x.origins c.in_ok-classes.ensures.added.0 c.in_ok-x.ensures.1

pub join-requires-clause-whole_y : goal.join-requires-clause-whole_y
join-requires-clause-whole_y g c = whole_one c.in_ok-classes.classes (part_of_file 1 2 1) c.in_ok-y.y.origins c.in_ok-classes.ensures.added.1 c.in_ok-y.ensures.1

pub returns-clause-near : goal.returns-clause-near
returns-clause-near g c = near_kept c.in_ok-classes.classes c.join.new.self 7 c.join.ensures.unchanged c.in_ok-classes.ensures.near
