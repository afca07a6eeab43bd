use Rattle.std.proofs.Common.{Some, ap, ◌∙◌, sym}
use Rattle.c99_tree.proofs.TreeLemmas.{part_at-some, part_at-none}
use Rattle.c99_tree.specs.Children.{part_of}
use Rattle.c99_tree.proofs.tree.child_of.Goals as goal

pub returns-in-Some-Token : goal.returns-in-Some-Token
returns-in-Some-Token c =
    let a = c.in-Some-Token.ensures.lookup in
    sym (part_at-some c.args.children.now _ _ a.3.0 a.1 ∙ ap (λ b. Some (part_of b)) c.in-Some-Token.field-0-is)

pub returns-in-Some-Inner : goal.returns-in-Some-Inner
returns-in-Some-Inner c =
    let a = c.in-Some-Inner.ensures.lookup in
    sym (part_at-some c.args.children.now _ _ a.3.0 a.1 ∙ ap (λ b. Some (part_of b)) c.in-Some-Inner.field-0-is)

pub returns-in-None : goal.returns-in-None
returns-in-None c =
    let a = c.in-None.ensures.lookup in
    sym (part_at-none c.args.children.now _ a.3)
