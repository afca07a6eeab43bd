use Rattle.std.proofs.Common.{sym, ap, ◌∙◌, arith}
use Rattle.std.specs.Option.{option_map}
use Rattle.c_types.specs.Shapes.{inner_in}
use Rattle.c_types.proofs.ChildWalks.{from_child-end}
use Rattle.c_types.proofs.FrontLemmas.{inner_in-front, or-yes, or-no}
use Rattle.c_types.proofs.shapes.inner_in.Goals as goal

pub returns-in-Some : goal.returns-in-Some
returns-in-Some c =
    or-yes _ _ _ _ _ c.children.invariant (inner_in-front c.args.tree.now.under c.children.k)
    (sym c.node_at.ensures ∙ ap (option_map (λ t. t.now)) c.in-Some.is)

pub children-preserved : goal.children-preserved
children-preserved c =
    or-no _ _ _ _ c.children.invariant (inner_in-front c.args.tree.now.under c.children.k)
    (sym c.node_at.ensures ∙ ap (option_map (λ t. t.now)) c.in_default.is)

pub returns : goal.returns
returns c =
    sym (sym c.children.invariant
    ∙ ap inner_in (from_child-end c.args.tree.now.under c.children.k (omega (arith, c.children-test.false, c.len-count.ensures))))
