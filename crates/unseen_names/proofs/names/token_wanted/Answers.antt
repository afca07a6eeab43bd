use Rattle.std.proofs.Common.{sym, ◌∙◌}
use Rattle.unseen_names.proofs.NameLemmas.{wanted_bound, wanted_free}
use Rattle.unseen_names.proofs.names.token_wanted.Goals as goal

pub returns-in-Some : goal.returns-in-Some
returns-in-Some c =
    c.occurrence_wanted.ensures ∙ wanted_bound c.args.group c.args.bound.now.names c.args.k c.in-Some.entity (sym c.in-Some.ensures)

pub returns-in-None : goal.returns-in-None
returns-in-None c = wanted_free c.args.group c.args.bound.now.names c.args.k (sym c.in-None.ensures)
