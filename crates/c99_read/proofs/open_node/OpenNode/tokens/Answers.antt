use Rattle.std.proofs.Common.{ap, ◌∙◌}
use Rattle.c99_read.specs.State.{last_identifier}
use Rattle.c99_read.proofs.OpenNodeLemmas.{last_identifier-with}
use Rattle.c99_read.proofs.open_node.OpenNode.tokens.Goals as goal

pub returns : goal.returns
returns c = λ g toks found.
    last_identifier-with g toks c.self.inside.tree c.self.inside.last found
    ∙ ap (λ n. last_identifier g toks n.under found) c.self.view_is
