use Rattle.std.proofs.Common.{◌+◌, ap, ◌∙◌}
use Rattle.c99_grammar.specs.Standard.{grammar}
use Rattle.c99_read.specs.State.{class_at}
use Rattle.c99_read.proofs.AheadLemmas.{class_at-among}
use Rattle.c99_read.proofs.reader.Reader.class_behind.Goals as goal

pub returns : goal.returns
returns c =
    class_at-among (grammar c.self.inside.dialect) _ c.self.inside.visible (c.self.inside.at + 1) c.self.inside.ahead.behind c.self.invariant.visible_of c.self.invariant.ahead_of.behind
    ∙ ap (λ r. class_at (grammar r.dialect) r.state (r.state.at + 1)) c.self.view_is
    ∙ ap (λ s. class_at (grammar s) c.args.self.now.state (c.args.self.now.state.at + 1)) c.requires.by
