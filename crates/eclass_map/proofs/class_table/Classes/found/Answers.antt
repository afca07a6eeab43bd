use Rattle.std.proofs.Common.{subst}
use Rattle.eclass_map.specs.ClassTable.{Table}
use Rattle.eclass_map.specs.Kept.{IsKept}
use Rattle.eclass_map.proofs.PartLaws.{has_parts}
use Rattle.eclass_map.proofs.class_table.Classes.found.Goals as goal

pub returns-in-Some-clause-parts : goal.returns-in-Some-clause-parts
returns-in-Some-clause-parts c = let P : Table → Type 0 = λ v. IsKept v in has_parts c.args.self.now (subst P c.self.view_is c.self.invariant)

pub returns-in-None-clause-parts : goal.returns-in-None-clause-parts
returns-in-None-clause-parts c = let P : Table → Type 0 = λ v. IsKept v in has_parts c.args.self.now (subst P c.self.view_is c.self.invariant)
