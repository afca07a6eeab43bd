-- The edits of a plan keep meaning.
use Rattle.std.proofs.Common.{ℕ, Bool, List, Ok, Err, Result}
use Rattle.std.specs.Prelude.{IfOk}
use Rattle.cs_base.specs.Edit.{Edit}
use Rattle.analysis.specs.Analysed.{Analysed}
use Rattle.ws_file.specs.Workspace.{IsWorkspace}
use Rattle.analysis.specs.Classes.{AreItsClasses}
use Rattle.rename_rules.specs.Renaming.{IsRenaming}
use Rattle.offences.specs.declared.refusals.PlanFault.{PlanFault}
use Rattle.offences.specs.Answers.{GivesOne}
use Rattle.offences.specs.Refusals.{refusal_of}
use Rattle.renamed.specs.Rename.{RenamesOver}
use Rattle.rename_meaning.proofs.PlanLemmas.{plans_keep_meaning}

pub plan_meaning : (a : Analysed) (path : List ℕ) (line column : ℕ) (name : List ℕ) (strings : Bool) (r : Result (List Edit) PlanFault) → IsWorkspace a.value.workspace
    → AreItsClasses a.value a.classes → GivesOne (λ edits. edits) refusal_of r (IsRenaming a.value path line column name strings)
    → IfOk r (λ edits. RenamesOver a.value.workspace a.value path line column name strings edits)
plan_meaning a path line column name strings (Ok edits) is own renaming = plans_keep_meaning a.value.workspace a.value a.classes path line column name strings edits is own renaming
plan_meaning a path line column name strings (Err refusal) is own renaming = tt
