use Rattle.std.proofs.Common.{◌≡◌, ◌∷◌, ◌∙◌, length, ap, rules, arith}
use Rattle.std.specs.Vec.Iter.{into_iter_items}
use Rattle.macro_body.specs.Substitution.{chain_pasted}
use Rattle.macro_body.specs.Kept.{made_kept}
use Rattle.macro_body.proofs.PastingLemmas.{chain-step}
use Rattle.macro_body.proofs.pasting.chain_pasted.Goals as goal

pub loop-operand-preserved : goal.loop-operand-preserved
loop-operand-preserved c =
    let at = c.loop-operand in
    let x = c.in-Some.operand in
    let steps : into_iter_items at.operand-iterator ≡ x ∷ into_iter_items c.next.new.self = c.in-Some.ensures.steps.0 in
    record {
      pasted = at.invariant.pasted ∙ ap (λ ys. made_kept at.notes (chain_pasted c.args.name.now at.left.items ys)) steps
          ∙ chain-step c.args.name.now at.notes c.two_pasted.new.notes at.left.items x c.in_ok-left.left.items (into_iter_items c.next.new.self) (search rules);
      counted = let was = at.invariant.counted in
          let gone = c.in-Some.ensures.steps.1 in
          let short = ap length steps in
          omega arith;
    }
