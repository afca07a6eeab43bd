-- What `--diff` shows: the answer to the words behind it with its edits as diffs, and nothing is put.
use Rattle.std.specs.Prelude.{ℕ, ◌≡◌, List, [], ◌++◌, Option, None, Some}
use Rattle.std.specs.List.{flat_map}
use Rattle.cs_base.specs.Edit.{Edit}
use Rattle.cs_base.specs.Outside.{FileMap, bytes_at}
use Rattle.line_diff.specs.FileText.{file_text}
use Rattle.command_words.specs.Request.{RequestValue}
use Rattle.cscout_run.specs.Answer.{IsAnswer, IsRequestAnswer}
use Rattle.cscout_run.specs.Shapes.{Answer, answer_of}

-- what a path holds; a file that is not there has no byte
abbrev pub held_bytes : Option (List ℕ) → List ℕ
held_bytes None = []
held_bytes (Some bytes) = bytes

-- the diff of an edit: between what its path holds and what it would hold
abbrev pub diff_of : FileMap → Edit → List ℕ
diff_of files e = file_text e.path (held_bytes (bytes_at e.path files)) e.bytes

-- An answer as it is shown: the diffs of its edits stand behind its output, and it puts none.
abbrev pub as_shown : FileMap → Answer → Answer
as_shown files a = answer_of a.status (a.out ++ flat_map (diff_of files) a.edits) a.err []

-- an answer of these, as it is shown
abbrev pub IsShown : FileMap → (Answer → Type 0) → Answer → Type 0
IsShown files IsOne a = (b : Answer) × IsOne b × (as_shown files b ≡ a)

-- The answers to words behind `--diff`.
abbrev pub IsShownAnswer : List (List ℕ) → FileMap → Answer → Type 0
IsShownAnswer words files a = IsShown files (IsAnswer words files) a
