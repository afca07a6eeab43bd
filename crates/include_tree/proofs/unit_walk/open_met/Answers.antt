use Rattle.std.proofs.Common.{refl}
use Rattle.source_files.proofs.TableLemmas.{widens_refl}
use Rattle.include_tree.proofs.unit_walk.open_met.Goals as goal

pub returns-in-Err-clause-keeps : goal.returns-in-Err-clause-keeps
returns-in-Err-clause-keeps c = record { widens = λ source. widens_refl source c.args.cache.now.table; counted = refl }
