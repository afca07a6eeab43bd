use Rattle.std.proofs.Common.{sym, ◌∙◌}
use Rattle.class_marks.proofs.ClassRoleLemmas.{token_added}
use Rattle.class_marks.proofs.all_roles.add_found.Goals as goal

pub returns-then-is_in_part : goal.returns-then-is_in_part
returns-then-is_in_part c =
    token_added c.args.classes.now c.args.found.part c.args.found.class c.requires.parts c.requires.class c.args.roles c.args.all.now.items
    c.add_class.new.all.items c.args.tok.now c.requires.some (c.is_in_part.ensures c.if-is_in_part.true) c.add_class.ensures
