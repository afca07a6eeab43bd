use Rattle.source_files.proofs.TableLemmas.{earlier_found}
use Rattle.source_files.proofs.AgreeLemmas.{some_source}
use Rattle.include_tree.proofs.laws.tables_only_grow.Goals as goal

pub returns : goal.returns
returns c = record { earlier = earlier_found; some = some_source }
