use Rattle.std.proofs.Common.{◌∙◌, sym, subst, Err}
use Rattle.c99_read.specs.Answer.{Reads}
use Rattle.c99_read.specs.Fronts.{behind_children}
use Rattle.c99_read.specs.Reading.{Step}
use Rattle.c99_read.proofs.FrontLemmas.{left-behind, left-ends, left-stops, node-falls, node-pushed-behind, node-same}
use Rattle.c99_read.proofs.LedLemmas.{read-passed}
use Rattle.c99_read.proofs.reader.Reader.externals.Goals as goal

pub turns-smaller : goal.turns-smaller
turns-smaller c =
    node-falls c.args.dialect c.turns.self.state c.node.new.self.state c.push.new.self.state c.in_ok-node.node c.in_ok-node.ensures.answer
    (node-pushed-behind c.node.new.self.state c.push.new.self.state c.in_ok-node.node c.in_ok-push.ensures.answer)

pub turns-preserved : goal.turns-preserved
turns-preserved c =
    let pushed = node-pushed-behind c.node.new.self.state c.push.new.self.state c.in_ok-node.node c.in_ok-push.ensures.answer in (
      c.push.ensures.by,
      (λ f.
          left-behind c.args.dialect f c.turns.self.state c.node.new.self.state c.push.new.self.state c.in_ok-node.node (sym c.begins.ensures ∙ c.turns-test.true)
          c.in_ok-node.ensures.answer pushed ∙ c.turns.invariant.1 f),
      node-same _ c.turns.self.state c.node.new.self.state c.push.new.self.state c.in_ok-node.node c.in_ok-node.ensures.answer.0 pushed c.turns.invariant.2,
    )

pub returns-clause-answer : goal.returns-clause-answer
returns-clause-answer c = λ f.
    sym (c.turns.invariant.1 f) ∙ left-ends c.args.dialect f c.turns.self.state (sym c.begins.ensures ∙ c.turns-test.false)

pub returns-in_err-node-clause-answer : goal.returns-in_err-node-clause-answer
returns-in_err-node-clause-answer c = λ f.
    let stops = left-stops c.args.dialect f c.in_err-node.field-0.0 c.turns.self.state c.node.new.self.state (behind_children f c.node.new.self.state)
    (sym c.begins.ensures ∙ c.turns-test.true) c.in_err-node.ensures.answer in
    read-passed c.in_err-node.field-0.0 c.from_residual.result _ _ c.from_residual.ensures.1
    (subst (λ (r : Step). Reads (Err c.in_err-node.field-0.0) (behind_children f c.node.new.self.state) r) (c.turns.invariant.1 f) stops)
