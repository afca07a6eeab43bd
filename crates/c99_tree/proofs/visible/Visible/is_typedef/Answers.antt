use Rattle.std.proofs.Common.{sym, ◌∙◌, reverse}
use Rattle.c99_tree.proofs.NameLemmas.{IsNumberOf-found, nowhere}
use Rattle.c99_tree.proofs.MarkLemmas.{is_typedef-number, is_typedef-nowhere}
use Rattle.c99_tree.proofs.visible.Visible.is_typedef.Goals as goal

pub returns-in-Some : goal.returns-in-Some
returns-in-Some c =
    let found = IsNumberOf-found c.self.inside.names _ c.in-Some.number (sym c.in-Some.ensures.answer) in
    rw (← c.self.view_is)
    (c.is_typedef.ensures ∙ c.self.invariant.marked c.in-Some.number
    ∙ sym (is_typedef-number c.self.inside.names.names (reverse c.self.inside.steps.items) c.args.name.now c.in-Some.number c.self.invariant.undone found.within found.spelled
    (λ j within same. c.in-Some.ensures.sound.once j c.in-Some.number within found.within same)))

pub returns-in-None : goal.returns-in-None
returns-in-None c =
    rw (← c.self.view_is)
    (sym (is_typedef-nowhere c.self.inside.names.names (reverse c.self.inside.steps.items) c.args.name.now c.self.invariant.undone
    (nowhere _ c.args.name.now (sym c.in-None.ensures.answer))))
