use Rattle.std.proofs.Common.{Option, sym, ap, ◌∙◌}
use Rattle.cs_base.specs.declared.positions.Pos.{Pos}
use Rattle.class_marks.specs.Marks.{class_at}
use Rattle.class_marks.proofs.MarkLemmas.{found_class, found_parts}
use Rattle.class_marks.proofs.marks.found_at.Goals as goal

pub returns-in-Some-clause-class : goal.returns-in-Some-clause-class
returns-in-Some-clause-class c =
    found_class c.args.classes.now c.in-Some.pos c.found.result c.found.ensures.part c.found.ensures.class
    ∙ ap (λ (o : Option Pos). class_at c.args.classes.now o) (sym c.in-Some.is)

pub returns-in-Some-clause-part : goal.returns-in-Some-clause-part
returns-in-Some-clause-part c = found_parts c.args.classes.now c.found.result c.found.ensures.parts c.found.ensures.class
