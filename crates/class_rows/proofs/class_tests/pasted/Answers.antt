use Rattle.std.proofs.Common.{◌≡◌, [], ◌∷◌, Some, ◌∙◌, ap}
use Rattle.cs_base.specs.declared.positions.Pos.{Pos}
use Rattle.cs_base.specs.Token.{Token}
use Rattle.eclass_map.specs.ClassTable.{part_of_file}
use Rattle.eclass_map.proofs.CallerFacts.{whole_one, whole_two}
use Rattle.class_rows.proofs.class_tests.pasted.Goals as goal

two : (p q r s : Pos) → p ≡ r → q ≡ s → Some p ∷ Some q ∷ [] ≡ Some r ∷ Some s ∷ []
two p q r s e f = ap (λ v. Some v ∷ Some q ∷ []) e ∙ ap (λ v. Some r ∷ Some v ∷ []) f

pub join-requires-clause-whole_x : goal.join-requires-clause-whole_x
join-requires-clause-whole_x g c =
    whole_one c.in_ok-classes.classes (part_of_file 1 0 2) c.in_ok-x.x.origins c.in_ok-classes.ensures.0
    (ap (λ (t : Token). t.origins) c.in_ok-x.ensures.answer ∙ two c.position.result c.position-2.result _ _ c.position.ensures c.position-2.ensures)

pub join-requires-clause-whole_y : goal.join-requires-clause-whole_y
join-requires-clause-whole_y g c =
    whole_two c.in_ok-classes.classes (part_of_file 1 5 1) (part_of_file 1 8 1) c.in_ok-y.y.origins c.in_ok-classes.ensures.1 c.in_ok-classes.ensures.2
    (ap (λ (t : Token). t.origins) c.in_ok-y.ensures.answer ∙ two c.position-3.result c.position-4.result _ _ c.position-3.ensures c.position-4.ensures)
