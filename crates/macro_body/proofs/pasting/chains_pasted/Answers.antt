use Rattle.std.proofs.Common.{◌≡◌, ◌∷◌, ◌∙◌, length, ap, arith}
use Rattle.std.specs.Vec.Iter.{into_iter_items}
use Rattle.macro_body.specs.Substitution.{chains_pasted}
use Rattle.macro_body.proofs.MakingLemmas.{behind}
use Rattle.macro_body.proofs.PastingLemmas.{chains-pasted}
use Rattle.macro_body.proofs.pasting.chains_pasted.Goals as goal

pub loop-chain-preserved : goal.loop-chain-preserved
loop-chain-preserved c =
    let at = c.loop-chain in
    let x = c.in-Some.chain in
    let steps : into_iter_items at.chain-iterator ≡ x ∷ into_iter_items c.next.new.self = c.in-Some.ensures.steps.0 in
    record {
      pasted = at.invariant.pasted ∙ ap (λ cs. behind at.all.items at.notes (chains_pasted c.args.name.now cs)) steps
          ∙ chains-pasted c.args.name.now at.all.items c.append.new.toks.items at.notes c.chain_pasted.new.notes x (into_iter_items c.next.new.self) c.in_ok-chain_pasted.field-0.items
          c.in_ok-chain_pasted.ensures.answer c.in_ok-append.ensures;
      counted = let was = at.invariant.counted in
          let gone = c.in-Some.ensures.steps.1 in
          let short = ap length steps in
          omega arith;
    }
