use Rattle.std.proofs.Common.{◌≡◌, [], sym, ◌∙◌, ap, subst}
use Rattle.eclass_map.specs.ClassTable.{Table, AreLinks, weight_in}
use Rattle.class_labels.specs.Weight.{weight}
use Rattle.eclass_map.specs.History.History.{made}
use Rattle.class_labels.specs.Labels.{no_labels}
use Rattle.eclass_map.proofs.KeptFacts.{table_of, kept_empty, kept_as}
use Rattle.eclass_map.proofs.LinkLaws.{links_empty}
use Rattle.eclass_map.proofs.PartLaws.{has_parts}
use Rattle.eclass_map.proofs.class_table.Classes.new.Goals as goal

pub invariant_of-result : goal.invariant_of-result
invariant_of-result c = kept_as _ _ _ _ _ _ c.new.ensures.items c.new-2.ensures c.new-3.ensures kept_empty

pub returns-clause-parts : goal.returns-clause-parts
returns-clause-parts c = has_parts _ (kept_as _ _ _ _ _ _ c.new.ensures.items c.new-2.ensures c.new-3.ensures kept_empty)

pub returns-clause-links : goal.returns-clause-links
returns-clause-links c =
    let P : Table → Type 0 = λ v. AreLinks [] v in
    let is : table_of c.new.result.items c.new-2.result.list c.new-3.result ≡ table_of [] [] no_labels =
    ap (λ v. table_of v c.new-2.result.list c.new-3.result) c.new.ensures.items ∙ ap (λ v. table_of [] v c.new-3.result) c.new-2.ensures ∙ ap (λ v. table_of [] [] v) c.new-3.ensures in
    subst P (sym is) links_empty

weight_none : (t : Table) → t ≡ table_of [] [] no_labels → weight_in t ≡ 0
unfolding weight
weight_none t e = ap (λ (u : Table). weight_in u) e

pub returns-clause-history : goal.returns-clause-history
returns-clause-history c =
    let is : table_of c.new.result.items c.new-2.result.list c.new-3.result ≡ table_of [] [] no_labels =
    ap (λ v. table_of v c.new-2.result.list c.new-3.result) c.new.ensures.items ∙ ap (λ v. table_of [] v c.new-3.result) c.new-2.ensures ∙ ap (λ v. table_of [] [] v) c.new-3.ensures in
    made (weight_none _ is)
