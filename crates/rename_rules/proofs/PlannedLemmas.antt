-- What a plan of a renaming with edits says.
use Rattle.std.proofs.Common.{◌≡◌, ℕ, Bool, true, false, List, [], Option, None, Some, Ok, refl}
use Rattle.cs_base.specs.declared.positions.Part.{Part}
use Rattle.cs_base.specs.Edit.{Edit}
use Rattle.analysis.specs.Below.lexer.Spelling.{is_identifier_text}
use Rattle.rename_rules.specs.Offences.{offences_of}
use Rattle.rename_rules.specs.Renaming.{IsNamedRenamed, IsRenaming}
use Rattle.rename_rules.specs.Runs.{edits_of}
use Rattle.analysis.specs.Analysis.{AnalysisValue}
use Rattle.analysis.specs.Naming.{Names}
use Rattle.analysis.specs.Parts.{AreMembers}

-- What a plan with edits says: the place names a part, nothing stands against renaming its class, and the edits are those of
-- its members.
pub record IsPlan (a : AnalysisValue) (path : List ℕ) (line column : ℕ) (name : List ℕ) (strings : Bool) (edits : List Edit) : Type 0 where
  pub part : Part
  pub named : Names a path line column (Some part)
  pub members : List Part
  pub class : AreMembers a part members
  pub identifier : is_identifier_text name ≡ true
  pub clear : offences_of a members name strings ≡ []
  pub edits_are : edits ≡ edits_of a members name

module _ (a : AnalysisValue) (path : List ℕ) (line column : ℕ) (name : List ℕ) (strings : Bool) (edits : List Edit) where
  planned_class : (part : Option Part) → is_identifier_text name ≡ true → Names a path line column part → IsNamedRenamed a name strings (Ok edits) part
      → IsPlan a path line column name strings edits
  planned_class None good names is = cc
  planned_class (Some part) good names is = record {
    part = part;
    named = names;
    members = is.members;
    class = is.are_members;
    identifier = good;
    clear = is.renamed.0;
    edits_are = is.renamed.1;
  }

  planned_name : (good : Bool) → is_identifier_text name ≡ good → IsRenaming a path line column name strings (Ok edits) → IsPlan a path line column name strings edits
  planned_name false is r = let e = r.bad_name is in cc
  planned_name true is r = let n = r.named is in planned_class n.0 is n.1 n.2

  pub is_plan : IsRenaming a path line column name strings (Ok edits) → IsPlan a path line column name strings edits
  is_plan r = planned_name (is_identifier_text name) refl r
