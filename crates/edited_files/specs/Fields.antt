-- What contracts see of the fields of `TextEdits`.
use Rattle.std.specs.Prelude.{List, map}
use Rattle.cs_base.specs.Edit.{Edit, edit}
use Rattle.edited_files.specs.declared.text_edits.TextEdit.{TextEdit}

-- one edit for each text that was made
abbrev pub edit_in : TextEdit → Edit
edit_in e = edit e.path e.bytes.items e.count

abbrev pub edits_in : List TextEdit → List Edit
edits_in edits = map edit_in edits
