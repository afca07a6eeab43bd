use Rattle.std.proofs.Common.{◌≡◌, ◌<◌, ◌∙◌, List, length, get_or, Err, Ok, ap, sym, subst}
use Rattle.std.specs.Prelude.{IfSome}
use Rattle.std.proofs.lemmas.Result.{err_from_is_err_and}
use Rattle.macro_body.specs.Bodies.{Part}
use Rattle.macro_body.specs.Notes.{Fault}
use Rattle.macro_body.specs.Substitution.{is_alone, operand_made}
use Rattle.macro_body.specs.Kept.{made_kept}
use Rattle.macro_body.specs.Costs.{arguments}
use Rattle.macro_body.specs.Faults.{fault_of}
use Rattle.macro_body.proofs.MakingLemmas.{operands-step, operands-fault}
use Rattle.macro_body.proofs.operands.operands_made.Goals as goal

pub returns-in_err-operand_made : goal.returns-in_err-operand_made
returns-in_err-operand_made c =
    let name = c.args.name.now in
    let args = arguments c.args.raw.now c.args.full.now in
    let chain = c.args.chain.now in
    let part = c.part-item.result in
    let k = c.loop-part.part-index in
    let lone : c.is_alone-lone.result ≡ is_alone chain = c.is_alone-lone.ensures in
    let within : k < length chain = subst (λ (ps : List Part). k < length ps) c.parts-part-items.ensures c.loop-part-test.true in
    let is : part ≡ get_or chain k part = c.part-item.is ∙ ap (λ (ps : List Part). get_or ps k part) c.parts-part-items.ensures in
    let step : IfSome (fault_of c.in_err-operand_made.field-0.0) (λ (f : Fault). made_kept c.loop-part.notes (operand_made name args (is_alone chain) part) ≡ Err f) =
    subst (λ b. IfSome (fault_of c.in_err-operand_made.field-0.0) (λ (f : Fault). made_kept c.loop-part.notes (operand_made name args b part) ≡ Err f)) lone c.in_err-operand_made.ensures.answer in
    let p = err_from_is_err_and c.from_residual.result c.from_residual.ensures.1 in
    rw (p.1, p.2)
    (record {
      answer = operands-fault name args (is_alone chain) chain k part _ c.loop-part.operands.items c.loop-part.notes (fault_of c.in_err-operand_made.field-0.0) within is c.loop-part.invariant step;
    })

pub loop-part-preserved : goal.loop-part-preserved
loop-part-preserved c =
    let name = c.args.name.now in
    let args = arguments c.args.raw.now c.args.full.now in
    let chain = c.args.chain.now in
    let part = c.part-item.result in
    let k = c.loop-part.part-index in
    let within : k < length chain = subst (λ (ps : List Part). k < length ps) c.parts-part-items.ensures c.loop-part-test.true in
    let is : part ≡ get_or chain k part = c.part-item.is ∙ ap (λ (ps : List Part). get_or ps k part) c.parts-part-items.ensures in
    let step : made_kept c.loop-part.notes (operand_made name args (is_alone chain) part) ≡ Ok (c.in_ok-operand_made.field-0, c.operand_made.new.notes) =
    ap (λ b. made_kept c.loop-part.notes (operand_made name args b part)) (sym c.is_alone-lone.ensures) ∙ c.in_ok-operand_made.ensures.answer in
    operands-step name args (is_alone chain) chain k part _ c.loop-part.operands.items c.add.new.list.items c.loop-part.notes c.operand_made.new.notes c.in_ok-operand_made.field-0
    within is c.loop-part.invariant step c.in_ok-add.ensures
