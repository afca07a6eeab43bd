use Rattle.std.proofs.Common.{◌≡◌, ◌+◌, ℕ, sym, ◌∙◌, ap, subst, Some}
use Rattle.std.specs.Prelude.{slice_get}
use Rattle.class_labels.specs.Labels.{Labels, spot, class_at, length_at, step, step_parts, merged, leveled, moved_parts}
use Rattle.class_labels.specs.Table.{IsTable, AreClasses}
use Rattle.class_labels.proofs.StepFacts.{are_classes, level_classes, level_even}
use Rattle.class_labels.proofs.partition.Partition.step.Goals as goal

classes_as : (c c' d d' : ℕ) (t : Labels) → c' ≡ c → d' ≡ d → AreClasses c d t → AreClasses c' d' t
classes_as c c' d d' t e f h =
    let P : ℕ → Type 0 = λ v. AreClasses v d t in
    let Q : ℕ → Type 0 = λ v. AreClasses c' v t in
    subst Q (sym f) (subst P (sym e) h)

table_as : (c c' d d' : ℕ) (t u w : Labels) → c' ≡ c → d' ≡ d → u ≡ leveled c' d' t → w ≡ merged c' d' u → w ≡ step c d t
unfolding step
table_as c c' d d' t u w e f g h = h ∙ ap (λ v. merged c' d' v) g ∙ ap (λ v. merged v d' (leveled v d' t)) e ∙ ap (λ v. merged c v (leveled c v t)) f

parts_as : (c c' d d' : ℕ) (t u : Labels) → c' ≡ c → d' ≡ d → u ≡ leveled c' d' t → moved_parts c' d' u ≡ step_parts c d t
unfolding step_parts
parts_as c c' d d' t u e f g = ap (λ v. moved_parts c' d' v) g ∙ ap (λ v. moved_parts v d' (leveled v d' t)) e ∙ ap (λ v. moved_parts c v (leveled c v t)) f

asked : (t : Labels) (x y c d : ℕ) → c ≡ class_at t x → d ≡ class_at t y → IsTable t → slice_get t.spots x ≡ Some (spot (class_at t x) 0) → slice_get t.spots y ≡ Some (spot (class_at t y) 0) → AreClasses c d t
asked t x y c d e f table at_x at_y = classes_as (class_at t x) c (class_at t y) d t e f (are_classes (class_at t x) (class_at t y) x y t table at_x at_y)

pub level-requires : goal.level-requires
level-requires g c = asked c.args.self.now c.args.x c.args.y c.class_of-first.result c.class_of-second.result c.class_of-first.ensures.answer c.class_of-second.ensures.answer c.class_of-first.ensures.sound c.requires.first c.requires.second

pub merge-requires-clause-classes : goal.merge-requires-clause-classes
merge-requires-clause-classes g c =
    let P : Labels → Type 0 = λ v. AreClasses c.class_of-first.result c.class_of-second.result v in
    subst P (sym c.level.ensures) (level_classes c.class_of-first.result c.class_of-second.result c.args.self.now (asked c.args.self.now c.args.x c.args.y c.class_of-first.result c.class_of-second.result c.class_of-first.ensures.answer c.class_of-second.ensures.answer c.class_of-first.ensures.sound c.requires.first c.requires.second))

pub merge-requires-clause-level : goal.merge-requires-clause-level
merge-requires-clause-level g c =
    let P : Labels → Type 0 = λ v. length_at v c.class_of-first.result ≡ length_at v c.class_of-second.result in
    subst P (sym c.level.ensures) (level_even c.class_of-first.result c.class_of-second.result c.args.self.now (asked c.args.self.now c.args.x c.args.y c.class_of-first.result c.class_of-second.result c.class_of-first.ensures.answer c.class_of-second.ensures.answer c.class_of-first.ensures.sound c.requires.first c.requires.second))

pub returns-clause-table : goal.returns-clause-table
returns-clause-table g c =
    let t = c.args.self.now in
    table_as (class_at t c.args.x) c.class_of-first.result (class_at t c.args.y) c.class_of-second.result t c.level.new.self c.merge.new.self c.class_of-first.ensures.answer c.class_of-second.ensures.answer c.level.ensures c.merge.ensures.table

pub returns-clause-steps : goal.returns-clause-steps
returns-clause-steps g c =
    let t = c.args.self.now in
    c.merge.ensures.steps ∙ ap (λ v. c.args.steps.now + v) (parts_as (class_at t c.args.x) c.class_of-first.result (class_at t c.args.y) c.class_of-second.result t c.level.new.self c.class_of-first.ensures.answer c.class_of-second.ensures.answer c.level.ensures)
