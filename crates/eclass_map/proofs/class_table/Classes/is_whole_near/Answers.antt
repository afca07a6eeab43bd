use Rattle.std.proofs.Common.{refl, subst}
use Rattle.eclass_map.specs.ClassTable.{Table}
use Rattle.eclass_map.specs.Kept.{IsKept}
use Rattle.eclass_map.proofs.LinkLaws.{links_own}
use Rattle.eclass_map.proofs.PartLaws.{has_parts}
use Rattle.eclass_map.proofs.class_table.Classes.is_whole_near.Goals as goal

pub returns-clause-own : goal.returns-clause-own
returns-clause-own c = λ whole links are.
    let P : Table → Type 0 = λ v. IsKept v in
    links_own c.args.self.now c.args.tok.now links (record { kept = subst P c.self.view_is c.self.invariant; whole_x = whole; whole_y = whole; even = refl }) are

pub returns-clause-parts : goal.returns-clause-parts
returns-clause-parts c = let P : Table → Type 0 = λ v. IsKept v in has_parts c.args.self.now (subst P c.self.view_is c.self.invariant)
