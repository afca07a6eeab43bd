use Rattle.unseen_names.proofs.NameLemmas.{stated_wanted, wide_wanted}
use Rattle.unseen_names.proofs.names.occurrence_wanted.Goals as goal

pub returns-in-Stated : goal.returns-in-Stated
returns-in-Stated c = stated_wanted c.args.group c.args.bound.now.names c.args.k c.args.entity c.in-Stated.is

pub returns-in-Wide : goal.returns-in-Wide
returns-in-Wide c = wide_wanted c.args.group c.args.bound.now.names c.args.k c.args.entity c.is_wide.result c.in-Wide.is c.is_wide.ensures
