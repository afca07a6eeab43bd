use Rattle.std.proofs.Common.{subst}
use Rattle.cs_base.specs.Answer.{Gives}
use Rattle.c99_tree.specs.Joined.{followed}
use Rattle.c99_read.specs.Answer.{stop_of}
use Rattle.c99_read.specs.Reading.{read_of}
use Rattle.c99_read.specs.Below.c99_grammar.Standard.{grammar}
use Rattle.analysis.proofs.reading.read_toks_from.Goals as goal

pub returns : goal.returns
returns c =
    subst (λ d. Gives (λ rest. followed c.args.front.now.tree rest) stop_of c.read_from.result (read_of (grammar d) c.args.toks.now)) c.requires.by
    c.read_from.ensures.answer
