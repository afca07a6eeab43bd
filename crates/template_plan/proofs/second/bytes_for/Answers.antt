use Rattle.std.proofs.Common.{sym, ◌∙◌, arith}
use Rattle.template_meaning.proofs.KeptTables.{bytes_here, bytes_next}
use Rattle.template_plan.proofs.second.bytes_for.Goals as goal

pub returns-then-eq : goal.returns-then-eq
returns-then-eq c =
    sym (bytes_here c.args.path.now c.args.edits.now c.loop-k.k c.path.result.now c.bytes.result.now (omega arith) c.path.ensures.answer c.bytes.ensures
    (sym c.eq.ensures ∙ c.if-eq.true)) ∙ c.loop-k.invariant

pub loop-k-preserved : goal.loop-k-preserved
loop-k-preserved c =
    sym (bytes_next c.args.path.now c.args.edits.now c.loop-k.k c.path.result.now (omega arith) c.path.ensures.answer (sym c.eq.ensures ∙ c.if-eq.false))
    ∙ c.loop-k.invariant
