use Rattle.std.proofs.Common.{sym, ◌∙◌}
use Rattle.query_words.proofs.AtomLemmas.{pattern_compiled}
use Rattle.query_words.proofs.atoms.pattern_read.Goals as goal

pub returns-clause-answer : goal.returns-clause-answer
returns-clause-answer c =
    pattern_compiled c.args.at c.args.pattern.now c.args.steps.now.items _ _ (sym c.is_empty.ensures ∙ c.if-is_empty.false) c.in_ok-spelled.ensures
    c.in_ok-push_step.ensures
