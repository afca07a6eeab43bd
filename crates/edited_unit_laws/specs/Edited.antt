-- What is carried from unit to unit behind an edit (this project's).
use Rattle.source_files.specs.Files.{Carried, carried}
use Rattle.analysis.specs.Changed.{Editing, edited_table}

-- what is carried from unit to unit: the tokens are as many
abbrev pub edited_carried : Editing → Carried → Carried
edited_carried edit before = carried (edited_table edit before.table) before.toks
