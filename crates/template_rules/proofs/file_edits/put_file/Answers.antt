use Rattle.std.proofs.Common.{ap, sym, ◌∙◌}
use Rattle.cs_base.proofs.ListLemmas.{nil_from, not_nil}
use Rattle.edited_files.specs.Edited.{with_each}
use Rattle.edited_files.proofs.EditLemmas.{with_each-none}
use Rattle.template_rules.proofs.ListLemmas.{edit_told}
use Rattle.template_rules.proofs.EditLemmas.{edit_for-none}
use Rattle.template_rules.proofs.file_edits.put_file.Goals as goal

pub returns-then-is_empty : goal.returns-then-is_empty
returns-then-is_empty c =
    let none = nil_from c.args.lists.now c.if-is_empty.ensures in
    sym (ap (λ es. with_each es c.args.edits.now) (edit_for-none c.args.order.now c.args.file.now c.args.lists.now none) ∙ with_each-none c.args.edits.now)

pub returns : goal.returns
returns c =
    edit_told c.args.order.now c.args.file.now c.args.lists.now c.args.edits.now c.put.new.self c.put.result (not_nil c.args.lists.now c.if-is_empty.ensures)
    (rw (c.path.ensures, c.deref.ensures.value, c.in_ok-bytes.ensures) at c.put.ensures.ok)
