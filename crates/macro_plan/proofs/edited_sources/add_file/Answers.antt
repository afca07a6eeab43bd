use Rattle.std.proofs.Common.{sym, ap, ◌∙◌}
use Rattle.analysis.specs.Below.include_tree.PseudoFiles.{is_pseudo}
use Rattle.macro_plan.proofs.EditedLemmas.{edited_told}
use Rattle.macro_plan.proofs.edited_sources.add_file.Goals as goal

pub returns-else-is_pseudo : goal.returns-else-is_pseudo
returns-else-is_pseudo c =
    edited_told c.args.a.now.value.table c.args.edits.now c.args.files.now.files c.add.new.files.files c.args.number c.args.file.now
    c.path-else-is_pseudo.result.now c.edited_bytes.result.now c.add.result c.requires.kept
    (ap is_pseudo (sym c.path.ensures) ∙ sym c.is_pseudo.ensures ∙ c.if-is_pseudo.false) c.path-else-is_pseudo.ensures c.edited_bytes.ensures
    c.requires.before c.add.ensures
