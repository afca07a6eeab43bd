use Rattle.std.proofs.Common.{sym, ap, ◌∙◌, arith}
use Rattle.c_types.specs.Trees.{first_token}
use Rattle.c_types.proofs.ChildWalks.{from_child-end}
use Rattle.c_types.proofs.FrontLemmas.{first_token-front as first-front}
use Rattle.gnu_bind.proofs.TokenLemmas.{found-yes, found-no}
use Rattle.gnu_bind.proofs.leaving.second_token.Goals as goal

pub returns-in-Some : goal.returns-in-Some
returns-in-Some c =
    found-yes _ _ _ _ _ c.children.invariant (first-front 0 c.args.tree.now.under c.children.k) (sym c.token_at.ensures ∙ c.in-Some.is)

pub children-preserved : goal.children-preserved
children-preserved c =
    found-no _ _ _ _ c.children.invariant (first-front 0 c.args.tree.now.under c.children.k) (sym c.token_at.ensures ∙ c.in_default.is)

pub returns : goal.returns
returns c =
    sym (sym c.children.invariant
    ∙ ap (λ f. first_token f 0) (from_child-end c.args.tree.now.under c.children.k (omega (arith, c.children-test.false, c.len-count.ensures))))
