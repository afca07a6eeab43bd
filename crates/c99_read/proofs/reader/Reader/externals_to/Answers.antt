use Rattle.c99_grammar.specs.Standard.{grammar}
use Rattle.c99_read.proofs.FrontLemmas.{external-falls, one_more}
use Rattle.c99_read.proofs.reader.Reader.externals_to.Goals as goal

pub turns-smaller : goal.turns-smaller
turns-smaller c = external-falls c.args.dialect c.turns.self.state c.external.new.self.state c.in_ok-external.ensures.answer

pub turns-preserved : goal.turns-preserved
turns-preserved c = (
  c.external.ensures.by,
  one_more (grammar c.args.dialect) c.turns.count _ _ c.turns.self.state c.external.new.self.state c.turns.invariant.1 c.in_ok-external.ensures.answer c.in_ok-count.ensures,
)
