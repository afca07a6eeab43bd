use Rattle.std.proofs.Common.{sym}
use Rattle.include_tree.proofs.leads.known_path.Goals as goal

pub returns-in-Some : goal.returns-in-Some
returns-in-Some c = c.known_number.ensures c.args.path.now (sym c.in-Some.ensures)
