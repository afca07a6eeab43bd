use Rattle.tree_laws.proofs.Stopping.{stops_in_text}
use Rattle.tree_laws.proofs.trees.reading_stops_in_the_text.Goals as goal

pub returns : goal.returns
returns c = stops_in_text
