use Rattle.std.proofs.Common.{◌∙◌, false, List, ℕ, refl, sym, subst}
use Rattle.template_meaning.specs.Matched.{turned, Matches}
use Rattle.template_plan.proofs.trees.turned_tokens.Goals as goal

pub returns : goal.returns
returns c = record {
  label = sym c.label-other.ensures ∙ (c.if-not-is_same_label.ensures refl ∙ c.label-label.ensures);
  first = sym c.first-first.ensures ∙ c.if-first-ne0.false;
  children = subst (λ (ns : List ℕ). Matches (turned c.args.order.now c.args.begins.now false c.args.old.now.under) c.args.new.now.under ns c.is_turned.new.perm.items)
      c.new-perm.ensures.items (c.in_ok-same.ensures c.if-not-same.false);
}
