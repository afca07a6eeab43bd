use Rattle.std.proofs.Common.{◌∙◌}
use Rattle.scope_bind.proofs.naming.table_of.Goals as goal

pub returns : goal.returns
returns c = c.in_ok-table.ensures ∙ c.in_ok-names.ensures
