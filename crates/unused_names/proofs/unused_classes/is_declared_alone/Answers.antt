use Rattle.class_marks.specs.declared.roles.Role.TheVariants.{Declares, Uses}
use Rattle.class_marks.proofs.AnswerLemmas.{told_not, told_true, told_false}
use Rattle.unused_names.specs.Unused.{IsDeclaredAlone}
use Rattle.unused_names.proofs.unused_classes.is_declared_alone.Goals as goal

pub returns-then-not-is_class_marked : goal.returns-then-not-is_class_marked
returns-then-not-is_class_marked c = λ x. c.if-not-is_class_marked.ensures Declares c.requires.declared x.declared

pub returns : goal.returns
returns c =
    let a = c.args.a.now.value in
    let used = c.is_class_marked-is_used.ensures Uses c.requires.used in
    told_not c.is_class_marked-is_used.result (IsDeclaredAlone a c.args.part)
    (λ yes x. x.unused (told_true c.is_class_marked-is_used.result _ _ yes used))
    (λ not. record {
      declared = c.if-not-is_class_marked.ensures Declares c.requires.declared;
      unused = told_false c.is_class_marked-is_used.result _ _ not used;
    })
