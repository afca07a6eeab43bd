use Rattle.std.proofs.lemmas.Result.{err_from_is_err_and}
use Rattle.macro_body.specs.Costs.{arguments}
use Rattle.macro_body.specs.Faults.{fault_of}
use Rattle.macro_body.proofs.MakingLemmas.{chains-step, chains-fault}
use Rattle.macro_body.proofs.operands.chains_made.Goals as goal

pub returns-in_err-operands_made : goal.returns-in_err-operands_made
returns-in_err-operands_made c =
    let args = arguments c.args.raw.now c.args.full.now in
    let p = err_from_is_err_and c.from_residual.result c.from_residual.ensures.1 in
    rw (p.1, p.2)
    (record {
      answer = chains-fault c.args.name.now args c.args.chains.now c.loop-chain.chain-index c.chain-item.result _ c.loop-chain.made.items c.loop-chain.notes
          (fault_of c.in_err-operands_made.field-0.0) c.loop-chain-test.true c.chain-item.is c.loop-chain.invariant c.in_err-operands_made.ensures.answer;
    })

pub loop-chain-preserved : goal.loop-chain-preserved
loop-chain-preserved c =
    let args = arguments c.args.raw.now c.args.full.now in
    chains-step c.args.name.now args c.args.chains.now c.loop-chain.chain-index c.chain-item.result _ c.loop-chain.made.items c.add.new.list.items c.loop-chain.notes c.operands_made.new.notes c.in_ok-operands_made.field-0
    c.loop-chain-test.true c.chain-item.is c.loop-chain.invariant c.in_ok-operands_made.ensures.answer c.in_ok-add.ensures
