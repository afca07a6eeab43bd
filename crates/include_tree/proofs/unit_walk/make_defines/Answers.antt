use Rattle.std.proofs.Common.{refl}
use Rattle.source_files.proofs.TableLemmas.{widens_refl}
use Rattle.include_tree.proofs.unit_walk.make_defines.Goals as goal

pub returns-in_err-text-clause-keeps : goal.returns-in_err-text-clause-keeps
returns-in_err-text-clause-keeps c = record { widens = λ source. widens_refl source c.args.cache.now.table; counted = refl }

pub returns-in-Some-clause-keeps : goal.returns-in-Some-clause-keeps
returns-in-Some-clause-keeps c = record { widens = λ source. widens_refl source c.args.cache.now.table; counted = refl }
