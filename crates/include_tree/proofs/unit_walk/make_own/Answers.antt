use Rattle.std.proofs.Common.{◌<◌, ◌^◌, ◌∙◌, refl, arith}
use Rattle.source_files.proofs.TableLemmas.{widens_refl}
use Rattle.include_tree.proofs.UnitLemmas.{defines-text}
use Rattle.include_tree.proofs.unit_walk.make_own.Goals as goal

pub returns-in_err-path-clause-keeps : goal.returns-in_err-path-clause-keeps
returns-in_err-path-clause-keeps c = record { widens = λ source. widens_refl source c.args.cache.now.table; counted = refl }

pub make-requires-clause-text : goal.make-requires-clause-text
make-requires-clause-text c =
    let few : c.args.number < 2 ^ 64 = omega arith in
    defines-text c.deref-2.result.now c.args.number (c.deref-2.ensures.value ∙ c.in_ok-path.ensures) few
