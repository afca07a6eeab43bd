-- The renaming of the class that a place names (this project's): the edits of the files, or why it is refused.
use Rattle.std.specs.Prelude.{ℕ, ◌≡◌, Bool, true, false, Option, Some, None, List, Result, Ok, Err}
use Rattle.cs_base.specs.declared.positions.Part.{Part}
use Rattle.cs_base.specs.Edit.{Edit}
use Rattle.analysis.specs.Below.lexer.Spelling.{is_identifier_text}
use Rattle.analysis.specs.Analysis.{AnalysisValue}
use Rattle.analysis.specs.Naming.{Names}
use Rattle.analysis.specs.Parts.{AreMembers}
use Rattle.offences.specs.declared.firsts.Offence.{Offence}
use Rattle.offences.specs.declared.refusals.Refusal.{Refusal}
use Rattle.offences.specs.declared.refusals.Refusal.TheVariants.{BadName, NoName}
use Rattle.offences.specs.First.{IsFirst}
use Rattle.offences.specs.Refusals.{refused_for}
use Rattle.rename_rules.specs.Offences.{offences_of}
use Rattle.rename_rules.specs.Runs.{edits_of}

-- What is answered for a class: its edits where no offence stands, and else the first offence. `strings` says that strings which
-- `#` makes may follow the renaming.
abbrev pub IsRenamed : AnalysisValue → List Part → List ℕ → Bool → Result (List Edit) Refusal → Type 0
IsRenamed a members name strings (Ok edits) = IsFirst a.table (offences_of a members name strings) None × (edits ≡ edits_of a members name)
IsRenamed a members name strings (Err refusal) =
    (o : Offence) × IsFirst a.table (offences_of a members name strings) (Some o) × (refusal ≡ refused_for a o)

-- the same for the class of a part
pub record IsClassRenamed (a : AnalysisValue) (part : Part) (name : List ℕ) (strings : Bool) (answer : Result (List Edit) Refusal) : Type 0 where
  pub members : List Part
  pub are_members : AreMembers a part members
  pub renamed : IsRenamed a members name strings answer

-- the same for what a place names: a part, or nothing
abbrev pub IsNamedRenamed : AnalysisValue → List ℕ → Bool → Result (List Edit) Refusal → Option Part → Type 0
IsNamedRenamed a name strings answer None = answer ≡ Err NoName
IsNamedRenamed a name strings answer (Some part) = IsClassRenamed a part name strings answer

-- What is answered for a place and a new name, in the order in which it is looked: the name, the place, the offences.
pub record IsRenaming (a : AnalysisValue) (path : List ℕ) (line column : ℕ) (name : List ℕ) (strings : Bool) (answer : Result (List Edit) Refusal) : Type 0 where
  pub bad_name : is_identifier_text name ≡ false → answer ≡ Err BadName
  pub named : is_identifier_text name ≡ true → (named : Option Part) × Names a path line column named × IsNamedRenamed a name strings answer named
