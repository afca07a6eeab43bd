use Rattle.std.proofs.lemmas.List.Elements.{All-nil}
use Rattle.template_meaning.specs.Compared.{IsEditedFile}
use Rattle.template_plan.proofs.second.files_behind.Goals as goal

pub loop-number-init : goal.loop-number-init
loop-number-init c = rw c.new-files.ensures (All-nil (IsEditedFile c.args.a.now.value.table c.args.edits.now))
