use Rattle.std.proofs.Common.{Bool, List, Option, ℕ, sym, ap, ◌∙◌}
use Rattle.std.specs.Option.{option_map, option_map_or}
use Rattle.class_marks.specs.Marks.{mark_class}
use Rattle.class_marks.proofs.MarkLemmas.{marked_again}
use Rattle.class_marks.proofs.marks.mark_character.Goals as goal

pub returns-in-Some-clause-answer : goal.returns-in-Some-clause-answer
returns-in-Some-clause-answer c =
    let old = c.args.marks.now.items in
    c.mark_class.ensures
    ∙ ap (λ (o : Option ℕ). option_map_or (mark_class old) o old) (sym (ap (option_map (λ f. f.class)) c.in-Some.is) ∙ c.found_at.ensures.class)

pub returns-in-Some-clause-part : goal.returns-in-Some-clause-part
returns-in-Some-clause-part c =
    let class = c.in-Some.found.class in (
      c.in-Some.ensures.part.0,
      class,
      c.in-Some.ensures.part.1,
      ap (λ (ms : List Bool). mark_class ms class) c.mark_class.ensures ∙ marked_again c.args.marks.now.items class ∙ sym c.mark_class.ensures,
    )

pub returns-in-None-clause-answer : goal.returns-in-None-clause-answer
returns-in-None-clause-answer c =
    let old = c.args.marks.now.items in
    ap (λ (o : Option ℕ). option_map_or (mark_class old) o old) (sym (ap (option_map (λ f. f.class)) c.in-None.is) ∙ c.found_at.ensures.class)
