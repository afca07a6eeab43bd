use Rattle.edited_unit_laws.proofs.WorkspaceLemmas.{workspace_is_renamed, workspaces_are_renamed}
use Rattle.edited_unit_laws.proofs.workspaces.texts_are_renamed.Goals as goal

pub returns : goal.returns
returns c = record { texts = workspaces_are_renamed; all = workspace_is_renamed }
