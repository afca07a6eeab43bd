use Rattle.std.proofs.Common.{◌≡◌, ◌∙◌, true, false, sym}
use Rattle.rename_rules.specs.LibraryNames.{is_library_name}
use Rattle.rename_rules.specs.LibraryPlaces.{has_library_name, library_places}
use Rattle.rename_rules.specs.RenamingValue.{held}
use Rattle.rename_rules.specs.Respellings.{RespellingValue}
use Rattle.offences.proofs.FirstLemmas.{then_none}
use Rattle.rename_rules.proofs.library_places.library_names.Goals as goal

pub returns-then-has_library_name : goal.returns-then-has_library_name
unfolding library_places
returns-then-has_library_name c =
    let class = c.args.renaming.now.class in
    let some : has_library_name class.members c.args.renaming.now.name (held class) ≡ true =
    sym (c.table.ensures (λ (r : RespellingValue). is_library_name r.new)) ∙ sym c.if-has_library_name.ensures in
    rw some c.linked_in_units.ensures

pub returns-else-has_library_name : goal.returns-else-has_library_name
unfolding library_places
returns-else-has_library_name c =
    let class = c.args.renaming.now.class in
    let none : has_library_name class.members c.args.renaming.now.name (held class) ≡ false =
    sym (c.table.ensures (λ (r : RespellingValue). is_library_name r.new)) ∙ sym c.if-has_library_name.ensures in
    rw none (then_none class.analysis.value.table c.args.first)
