use Rattle.std.specs.Prelude.{All}
use Rattle.template_meaning.specs.Compared.{IsEditedFile}
use Rattle.template_plan.proofs.second.files_behind.Given as goal

abbrev pub invariant-loop-number : goal.invariant-loop-number
invariant-loop-number l = All (IsEditedFile l.a.value.table l.edits) l.files.files
