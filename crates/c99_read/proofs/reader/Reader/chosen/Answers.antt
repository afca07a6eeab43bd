use Rattle.std.proofs.Common.{◌+◌, sym, ap, ◌∙◌, arith}
use Rattle.c99_grammar.specs.Standard.{grammar}
use Rattle.c99_read.specs.Choosing.{chosen}
use Rattle.c99_read.proofs.TurnLemmas.{chosen-here, chosen-behind, chosen-end}
use Rattle.c99_read.proofs.reader.Reader.chosen.Goals as goal

pub returns-then-may : goal.returns-then-may
returns-then-may c =
    sym (chosen-here c.args.dialect c.args.self.now.state (c.turns.k + 1) c.turns.k c.alternatives-rows.result.now _ c.turns-test.true (sym c.may.ensures ∙ c.if-may.true))
    ∙ c.turns.invariant
    ∙ ap (chosen (grammar c.args.dialect) c.args.self.now.state 1) c.alternatives-rows.ensures.rows

pub turns-preserved : goal.turns-preserved
turns-preserved c =
    chosen-behind c.args.dialect c.args.self.now.state (c.turns.k + 1) c.turns.k c.alternatives-rows.result.now _ c.turns-test.true (sym c.may.ensures ∙ c.if-may.false)
    ∙ c.turns.invariant

pub returns : goal.returns
returns c =
    sym (chosen-end c.args.dialect c.args.self.now.state (c.turns.k + 1) c.turns.k c.alternatives-rows.result.now (omega (arith, c.turns-test.false)))
    ∙ c.turns.invariant
    ∙ ap (chosen (grammar c.args.dialect) c.args.self.now.state 1) c.alternatives-rows.ensures.rows
