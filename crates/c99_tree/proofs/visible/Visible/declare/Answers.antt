use Rattle.std.proofs.Common.{◌≡◌, ◌∷◌, ap, ◌∙◌, false, get_or, reverse, refl, Result, Ok, Err, OnErr}
use Rattle.std.proofs.lemmas.List.{reverse-append}
use Rattle.c99_tree.specs.Marks.{scopes_of}
use Rattle.c99_tree.specs.declared.visible.Step.TheVariants as step
use Rattle.c99_tree.proofs.MarkLemmas.{IsKept-numbered, IsKept-declared, scopes_of-same, scopes_of-declared}
use Rattle.c99_tree.proofs.visible.Visible.declare.Goals as goal

pub invariant_of-self-in_err-push : goal.invariant_of-self-in_err-push
invariant_of-self-in_err-push c =
    rw c.in_err-push.ensures.items (IsKept-numbered _ _ _ _ _ _ c.in_ok-number.ensures.ok c.self.invariant)

OnErr-given : {T E : Type 0} (r : Result T E) (P : Type 0) → P → OnErr r P
OnErr-given (Ok x) P p = tt
OnErr-given (Err e) P p = p

pub returns-in_err-push-clause-unchanged : goal.returns-in_err-push-clause-unchanged
returns-in_err-push-clause-unchanged c =
    rw (← c.self.view_is)
    (OnErr-given c.from_residual-in_err-push.result _
    (ap (λ steps. scopes_of c.numbered.new.self.names (reverse steps)) c.in_err-push.ensures.items
    ∙ scopes_of-same _ _ (reverse c.self.inside.steps.items) c.self.invariant.undone c.in_ok-number.ensures.ok.names_stay))

pushed : (c : goal.After-mark)
    → reverse c.push.new.self.items ≡ step.Declared c.in_ok-number.number (get_or c.numbered.new.self.typedefs c.in_ok-number.number false) c.args.typedef ∷ reverse c.self.inside.steps.items
pushed c = rw c.in_ok-push.ensures.items (rw reverse-append (rw c.is_typedef-before.ensures refl))

pub invariant_of-self-2 : goal.invariant_of-self-2
invariant_of-self-2 c =
    rw (pushed c) (rw c.mark.ensures.answer (IsKept-declared _ _ _ _ _ _ _ c.mark.ensures.each c.in_ok-number.ensures.ok c.self.invariant))

pub returns-clause-ok : goal.returns-clause-ok
returns-clause-ok c =
    rw (← c.self.view_is)
    (scopes_of-declared c.self.inside.names c.numbered.new.self c.mark.new.self (reverse c.self.inside.steps.items) (reverse c.push.new.self.items) c.args.name.now
    c.in_ok-number.number _ c.args.typedef (ap (λ m. m.names) c.mark.ensures.answer) (pushed c) c.in_ok-number.ensures.ok c.self.invariant.undone)
