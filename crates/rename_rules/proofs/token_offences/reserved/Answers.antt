use Rattle.std.proofs.Common.{ℕ, Ok}
use Rattle.std.specs.List.{flat_map}
use Rattle.std.specs.Prelude.{◌++◌}
use Rattle.rename_rules.specs.GnuOffences.{has_gnu}
use Rattle.rename_rules.specs.LibraryPlaces.{library_places}
use Rattle.rename_rules.specs.Offences.{reserved_place, reserved_places}
use Rattle.rename_rules.specs.Prefixes.{prefix_places}
use Rattle.rename_rules.specs.RenamingValue.{held}
use Rattle.rename_rules.proofs.PrefixLemmas.{then_also}
use Rattle.rename_rules.proofs.token_offences.reserved.Goals as goal

pub returns : goal.returns
unfolding reserved_places
returns c =
    let class = c.args.renaming.now.class in
    let a = class.analysis.value in
    let name = c.args.renaming.now.name in
    let words = flat_map (reserved_place (has_gnu a) class.members name) (held class) in
    let joined = prefix_places class.members name 0 a.table in
    let before = rw (c.has_gnu-gnu.ensures, c.toks.ensures, c.name.ensures, c.analysis-a.ensures, c.class-class.ensures) at c.in_ok-words.ensures in
    let here = rw (c.analysis-a.ensures, c.class-class.ensures) at c.in_ok-joined.ensures in
    then_also a.table (words ++ joined) (library_places a class.members name) c.args.first c.in_ok-joined.joined c.library_names.result
    (then_also {E = ℕ} a.table words joined c.args.first _ (Ok c.in_ok-joined.joined) before here) c.library_names.ensures
