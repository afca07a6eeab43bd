-- What a run does, and the shapes that answers have.
use Rattle.std.specs.Prelude.{ℕ, Bool, true, false, List, [], ◌++◌}
use Rattle.cs_base.specs.Edit.{Edit}
use Rattle.command_words.specs.Message.{edited_lines}
use Rattle.cscout_run.specs.declared.status.Status.{Status}
use Rattle.cscout_run.specs.declared.status.Status.TheVariants.{Done, Refused}

-- What a run does: its status, the text for `out`, the text for `err`, and the edits that it puts.
pub record Answer : Type 0 where
  pub status : Status
  pub out : List ℕ
  pub err : List ℕ
  pub edits : List Edit

-- an answer of these parts
abbrev pub answer_of : Status → List ℕ → List ℕ → List Edit → Answer
answer_of status out err edits = record { status = status; out = out; err = err; edits = edits }

-- a text for `out` alone
abbrev pub shown : List ℕ → Answer
shown text = answer_of Done text [] []

-- a message alone
abbrev pub stopped : Status → List ℕ → Answer
stopped status line = answer_of status [] line []

-- edits, a line for each file of them, and these lines
abbrev pub edited : List Edit → List ℕ → Answer
edited edits lines = answer_of Done (edited_lines edits ++ lines) [] edits

-- the status of a run that stops at nothing: a batch goes on behind a refused line
abbrev pub ready_status : Bool → Status
ready_status false = Done
ready_status true = Refused
