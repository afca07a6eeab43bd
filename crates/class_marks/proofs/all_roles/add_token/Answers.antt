use Rattle.std.proofs.Common.{ap, sym, ◌∙◌}
use Rattle.std.specs.Option.{option_map}
use Rattle.class_marks.specs.Marks.{class_at}
use Rattle.class_marks.proofs.ClassRoleLemmas.{some_character}
use Rattle.class_marks.proofs.all_roles.add_token.Goals as goal

pub add_found-requires : goal.add_found-requires
add_found-requires c = record {
  some = some_character c.args.classes.now c.in-Some.found.class c.args.tok.now
      (sym (ap (option_map (λ f. f.class)) c.in-Some.is) ∙ c.found_at.ensures.class ∙ ap (class_at c.args.classes.now) c.origins.ensures.answer);
  parts = c.in-Some.ensures.part.0;
  class = c.in-Some.ensures.part.1;
}
