use Rattle.std.proofs.Common.{◌≡◌, ◌∷◌, ◌++◌, [], ap, ◌∙◌, arith, length, length-append}
use Rattle.scope_bind.specs.Known.{known}
use Rattle.scope_bind.proofs.LiftLemmas.{copies_all, copies_step}
use Rattle.scope_bind.proofs.facts.Facts.lift_all.Goals as goal

pub names-init : goal.names-init
names-init c =
    ap (known c.args.self.now.toks) (copies_all c.args.self.now.toks c.args.owner c.in_ok-rest.rest.items c.args.number c.args.self.now.facts c.in_ok-rest.ensures)

pub names-smaller : goal.names-smaller
names-smaller c =
    let items : c.names.rest.items ≡ c.pop.new.self.items ++ c.in-Some.d ∷ [] = c.in-Some.ensures.items in
    omega (arith, ap length items, length-append c.pop.new.self.items (c.in-Some.d ∷ []))

pub names-preserved : goal.names-preserved
names-preserved c =
    copies_step c.args.owner c.names.rest.items c.pop.new.self.items c.in-Some.d c.names.self c.lift.new.self c.in-Some.ensures.items c.in_ok-lift.ensures
    ∙ c.names.invariant
