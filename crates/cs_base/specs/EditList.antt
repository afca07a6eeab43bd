-- What contracts see of the fields of an `Edits`.
use Rattle.std.specs.Prelude.{List, map}
use Rattle.cs_base.specs.declared.edit_list.FileEdit.{FileEdit}
use Rattle.cs_base.specs.Edit.{Edit, edit}

-- one edit for each kept file
abbrev pub edits_in : List FileEdit → List Edit
edits_in files = map (λ f. edit f.path f.bytes.items f.count) files
