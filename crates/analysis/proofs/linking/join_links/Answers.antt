use Rattle.std.proofs.Common.{◌≡◌, List, Ok, ap, ◌∙◌}
use Rattle.linkage_join.specs.Linkage.{UnitValue as ExternalNames, links_of as external_links}
use Rattle.analysis.specs.Links.{names_of_units}
use Rattle.analysis.proofs.JoinLemmas.{all_joined}
use Rattle.analysis.proofs.linking.join_links.Goals as goal

pub returns-clause-links : goal.returns-clause-links
returns-clause-links c =
    let a = c.args.a.now in
    let names : c.deref.result.now ≡ names_of_units a.workspace.units a.units = c.deref.ensures.value ∙ c.in_ok-names.ensures.names in
    let links : c.deref-2.result.now ≡ external_links (names_of_units a.workspace.units a.units) = c.deref-2.ensures.value ∙ c.in_ok-links.ensures.answer ∙ ap external_links names in
    all_joined {X = Unit {0}} {E = Unit {0}} a c.deref-2.result.now c.args.classes.now c.join_units.new.classes c.join_all.new.classes (Ok tt) c.requires.none links c.in_ok-names.ensures.links c.in_ok-join_all.ensures
