use Rattle.rename_meaning.proofs.BoundUnitLemmas.{names_bind_as_before, units_are_renamed_whole, units_bind_as_before}
use Rattle.rename_meaning.proofs.bindings.names_bind_as_before.Goals as goal

pub returns : goal.returns
returns c = record { names = names_bind_as_before; units = units_bind_as_before; whole = units_are_renamed_whole }
