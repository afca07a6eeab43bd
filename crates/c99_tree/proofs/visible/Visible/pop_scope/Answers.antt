use Rattle.std.proofs.Common.{◌≡◌, ◌+◌, ◌∷◌, sym, ◌∙◌, refl, reverse, arith, rules, [], ◌++◌, length, length-append, ap}
use Rattle.std.proofs.lemmas.List.{reverse-append}
use Rattle.c99_tree.specs.declared.visible.Step.TheVariants as step
use Rattle.c99_tree.proofs.MarkLemmas.{ended-none, outer_of-ended, IsKept-popped, outer_of-popped}
use Rattle.c99_tree.proofs.visible.Visible.pop_scope.Goals as goal

pub returns-then-self-eq0 : goal.returns-then-self-eq0
returns-then-self-eq0 c =
    rw (← c.self.view_is)
    (sym (ended-none c.self.inside.names.names (reverse c.self.inside.steps.items) (c.self.invariant.counted ∙ c.if-self-eq0.true)))

pub steps-init : goal.steps-init
steps-init c =
    let k = c.self.invariant in (
      record { undone = k.undone; marked = k.marked; counted = omega (arith, k.counted, c.if-self-eq0.false) },
      outer_of-ended _ (reverse c.self.inside.steps.items) (omega (arith, k.counted, c.if-self-eq0.false)),
    )

scope_popped : (c : goal.In-Scope) → reverse c.steps.self-inside.steps.items ≡ step.Scope ∷ reverse c.pop.new.self.items
scope_popped c = rw c.in-Some.ensures.items (rw reverse-append (rw c.in-Scope.is refl))

pub invariant_of-self : goal.invariant_of-self
invariant_of-self c =
    let k = rw (scope_popped c) at c.steps.invariant.0 in
    record { undone = k.undone; marked = k.marked; counted = omega (arith, k.counted) }

pub returns-in-Scope : goal.returns-in-Scope
returns-in-Scope c = rw (← c.self.view_is) (rw (scope_popped c) at c.steps.invariant.1)

name_popped : (c : goal.After-mark-arg-1)
    → reverse c.steps.self-inside.steps.items ≡ step.Declared c.in-Declared.number c.in-Declared.before c.in-Declared.field-2 ∷ reverse c.pop.new.self.items
name_popped c = rw c.in-Some.ensures.items (rw reverse-append (rw c.in-Declared.is refl))

pub mark-requires : goal.mark-requires
mark-requires c = let k = rw (name_popped c) at c.steps.invariant.0 in k.undone.0

pub steps-smaller : goal.steps-smaller
steps-smaller c =
    let items : c.steps.self-inside.steps.items ≡ c.pop.new.self.items ++ c.in-Some.step ∷ [] = c.in-Some.ensures.items in
    omega (arith, ap length items, length-append c.pop.new.self.items (c.in-Some.step ∷ []))

pub steps-preserved : goal.steps-preserved
steps-preserved c = (
  IsKept-popped _ _ _ _ _ _ _ _ (name_popped c.before) c.mark.ensures.answer c.mark.ensures.each c.steps.invariant.0,
  outer_of-popped _ _ _ _ _ _ _ (c.steps.self-inside.open_count + 1) (name_popped c.before) c.mark.ensures.answer _ c.steps.invariant.1,
)

none_left : (c : goal.In_default) → reverse c.steps.self-inside.steps.items ≡ []
none_left c = let none : c.steps.self-inside.steps.items ≡ [] = search rules in rw none refl

none_open : (c : goal.In_default) → ⊥
none_open c = let k = rw (none_left c) at c.steps.invariant.0 in absurd (omega (arith, k.counted))

pub invariant_of-self-in_default : goal.invariant_of-self-in_default
invariant_of-self-in_default c = absurd (none_open c)

pub returns : goal.returns
returns c = absurd (none_open c)
