-- What a plan of a renaming tells of an analysis that is to follow it: for callers of `advance`.
use Rattle.std.proofs.Common.{◌≡◌, ℕ, Bool, true, List, Some, Ok, sym, subst, ◌∙◌}
use Rattle.std.proofs.lemmas.Option.{same_Some}
use Rattle.cs_base.specs.declared.positions.Part.{Part}
use Rattle.cs_base.specs.declared.positions.Pos.{Pos}
use Rattle.cs_base.specs.Edit.{Edit}
use Rattle.eclass_map.specs.Positions.{holds}
use Rattle.include_tree.specs.Below.source_files.Files.{Source}
use Rattle.analysis.specs.Analysis.{AnalysisValue, analysis_of}
use Rattle.analysis.specs.Naming.{Names}
use Rattle.analysis.specs.Parts.{AreMembers}
use Rattle.analysis.proofs.PartLemmas.{part_once}
use Rattle.rename_rules.specs.Renaming.{IsRenaming}
use Rattle.rename_meaning.proofs.NoneLemmas.{cleared}
use Rattle.rename_rules.proofs.PlannedLemmas.{is_plan}
use Rattle.kept_analysis.specs.Following.{IsFollowed}

-- a place names one part
pub named_once : (a : AnalysisValue) (path : List ℕ) (line column : ℕ) (part other : Part) → Names a path line column (Some part)
    → Names a path line column (Some other) → other ≡ part
named_once a path line column part other p q =
    let same : q.0 ≡ p.0 = same_Some q.0 p.0 (sym q.1 ∙ p.1) in
    let held : holds other p.0 ≡ true = subst (λ (x : Pos). holds other x ≡ true) same q.3 in
    part_once a other part p.0 q.2 p.2 held p.3

-- A renaming that is planned over an analysis is one that it can follow, of the part that the place names.
pub planned_is_followed : (source : Source) (a : AnalysisValue) (path : List ℕ) (line column : ℕ) (part : Part) (name : List ℕ) (strings : Bool) (edits : List Edit)
    → analysis_of source a.workspace ≡ Ok a → Names a path line column (Some part) → IsRenaming a path line column name strings (Ok edits) → IsFollowed a part name
planned_is_followed source a path line column part name strings edits accepted named renaming =
    let p = is_plan a path line column name strings edits renaming in
    record {
      source = source;
      accepted = accepted;
      path = path;
      line = line;
      column = column;
      named = named;
      members = p.members;
      class = subst (λ (x : Part). AreMembers a x p.members) (named_once a path line column part p.part named p.named) p.class;
      identifier = p.identifier;
      clear = cleared a p.members name strings p.clear;
    }
