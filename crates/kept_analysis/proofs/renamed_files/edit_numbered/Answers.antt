use Rattle.std.proofs.Common.{◌≡◌, Some, subst, ◌∙◌, refl}
use Rattle.std.specs.Option.{option_map}
use Rattle.include_tree.specs.Below.source_files.KeptFiles.{kept_at}
use Rattle.kept_analysis.specs.Edits.{IsNew, edited_one}
use Rattle.offences.specs.Moves.{editing_by}
use Rattle.include_tree.specs.Below.source_files.Edited.{edited}
use Rattle.kept_analysis.proofs.EditLemmas.{on_ok, one_edited, one_stays}
use Rattle.kept_analysis.proofs.renamed_files.edit_numbered.Goals as goal

pub returns-in-Some : goal.returns-in-Some
returns-in-Some c =
    let edit = editing_by c.args.moves.now c.args.number in
    let table = c.args.cache.now.table in
    let is : IsNew edit (kept_at table c.args.number) (Some c.in-Some.bytes.items) = subst (λ o. IsNew edit (kept_at table c.args.number) (option_map (λ v. v.items) o)) c.in-Some.is c.in_ok-bytes.ensures in
    on_ok c.set_bytes.result (c.set_bytes.new.cache.table ≡ edited c.args.number c.in-Some.bytes.items table) (c.set_bytes.new.cache.table ≡ edited_one edit c.args.number table)
    (λ e. e ∙ one_edited edit c.args.number table (kept_at table c.args.number) c.in-Some.bytes.items refl is) c.set_bytes.ensures

pub returns-in-None : goal.returns-in-None
returns-in-None c =
    let edit = editing_by c.args.moves.now c.args.number in
    let table = c.args.cache.now.table in
    one_stays edit c.args.number table (subst (λ o. IsNew edit (kept_at table c.args.number) (option_map (λ v. v.items) o)) c.in-None.is c.in_ok-bytes.ensures)
