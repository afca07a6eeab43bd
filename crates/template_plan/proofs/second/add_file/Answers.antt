use Rattle.std.proofs.Common.{◌≡◌, ◌∙◌, sym, ap, rules}
use Rattle.analysis.specs.Below.include_tree.PseudoFiles.{is_pseudo}
use Rattle.template_meaning.proofs.KeptTables.{file_more}
use Rattle.template_plan.proofs.second.add_file.Goals as goal

pub returns-in_ok-add_new-in-Ok : goal.returns-in_ok-add_new-in-Ok
returns-in_ok-add_new-in-Ok c =
    file_more c.args.a.now.value.table c.args.edits.now c.args.files.now.files c.add_new.new.files.files c.args.number c.in-Some.file.now c.in-Ok.path.now c.edited_bytes.result.now
    (sym c.in-Some.ensures) (ap is_pseudo (sym c.path-own.ensures) ∙ sym c.if-is_pseudo.ensures) (search rules) c.edited_bytes.ensures c.in_ok-add_new-in-Ok.ensures c.requires
