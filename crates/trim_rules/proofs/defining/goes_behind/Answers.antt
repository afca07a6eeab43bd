use Rattle.std.proofs.Common.{sym, ap, ◌∙◌, ◌+◌, arith, unwrap_or, Option, Bool}
use Rattle.c_types.specs.Children.{from_child}
use Rattle.c_types.proofs.ChildWalks.{from_child-end}
use Rattle.trim_rules.specs.Defining.{goes_behind}
use Rattle.trim_rules.proofs.defining.goes_behind.Goals as goal

pub returns-in-Some : goal.returns-in-Some
returns-in-Some c =
    sym (sym c.children.invariant ∙ c.behind_at.ensures
    ∙ ap (λ (o : Option Bool). unwrap_or o (goes_behind c.args.j (from_child (c.children.n + 1) c.args.tree.now.under))) c.in-Some.is)

pub children-preserved : goal.children-preserved
children-preserved c =
    sym (c.behind_at.ensures
    ∙ ap (λ (o : Option Bool). unwrap_or o (goes_behind c.args.j (from_child (c.children.n + 1) c.args.tree.now.under))) c.in_default.is)
    ∙ c.children.invariant

pub returns : goal.returns
returns c =
    sym (sym c.children.invariant
    ∙ ap (goes_behind c.args.j) (from_child-end c.args.tree.now.under c.children.n (omega (arith, c.children-test.false, c.len-count.ensures))))
