use Rattle.std.proofs.Common.{sym, ap, ◌∙◌, ◌++◌, arith}
use Rattle.std.proofs.lemmas.List.{append-nil}
use Rattle.c_types.proofs.ChildWalks.{from_child-end}
use Rattle.template_rules.specs.ScopeOffences.{body_lists_in}
use Rattle.template_rules.proofs.body_lists.+lists.Goals as goal

pub push_body_lists-returns : goal.push_body_lists-returns
push_body_lists-returns t c =
    sym (append-nil c.children.out.items)
    ∙ (ap (λ f. c.children.out.items ++ body_lists_in f) (sym (from_child-end c.args.tree.now.under c.children.k (omega (arith, c.children-test.false, c.len-count.ensures))))
    ∙ c.children.invariant)
