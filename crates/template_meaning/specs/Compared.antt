-- An analysis that is another one in a new order of items, as it is compared with it (this project's, over ISO/IEC 9899:1999, 5.1.1.2
-- phases 4 and 7 and 6.2).
use Rattle.std.specs.Prelude.{ℕ, ◌≡◌, ◌<◌, ◌⊎◌, true, false, if◌then◌else◌, All, Option, Some, None, Ok, List, [], ◌∷◌, length, slice_get}
use Rattle.std.specs.Option.{option_map, unwrap_or}
use Rattle.std.specs.Str.{bytes_eq}
use Rattle.cs_base.specs.declared.positions.Part.{Part}
use Rattle.cs_base.specs.Edit.{Edit}
use Rattle.cs_base.specs.Outside.{FileMap}
use Rattle.scope_bind.specs.declared.bound.Name.{Name}
use Rattle.scope_bind.specs.Names.{entity_at, declares_at, kind_at, linkage_at}
use Rattle.source_files.specs.Files.{Source, source_of, Table, absent_at}
use Rattle.source_files.specs.KeptFiles.{KeptValue, kept_at}
use Rattle.source_files.specs.Tables.{AreFound}
use Rattle.include_tree.specs.PseudoFiles.{is_pseudo}
use Rattle.analysis.specs.Analysis.{UnitAnalysis, AnalysisValue, analysis_of}
use Rattle.edited_files.specs.Edited.{AreMade}
use Rattle.template_rules.specs.FileLists.{edits_of}
use Rattle.reordered.specs.Reorder.{AreReordered}
use Rattle.reordered.specs.Reordered.{begins_list, plain, AnalysisIsReordered}
use Rattle.template_meaning.specs.Matched.{begun, EachHas, IsTurnedTree}

-- ---- a unit

-- the lists of the functions begin with these tokens
abbrev pub AreBegins : List Part → UnitAnalysis → List ℕ → Type 0
AreBegins members u begins = (k : ℕ) → begun begins k ≡ begins_list members u k

-- Each token stands, by its place, where its number does.
abbrev pub ArePlaces : List ℕ → List ℕ → Type 0
ArePlaces perm places = (p k : ℕ) → slice_get perm p ≡ Some k → slice_get places k ≡ Some p

-- the entity is among so many tokens, and this is its place
abbrev pub IsPlaceOf : List ℕ → Option ℕ → Option ℕ → Type 0
IsPlaceOf places (Some e) (Some f) = slice_get places e ≡ Some f
IsPlaceOf places (Some e) _ = ⊥
IsPlaceOf places _ (Some f) = ⊥
IsPlaceOf places _ _ = Unit {0}

-- Token k is the token at this place, and there it denotes what it denoted.
pub record IsAlikeAt (u v : UnitAnalysis) (places : List ℕ) (k at : ℕ) : Type 0 where
  pub tok : option_map plain (slice_get v.text.toks at) ≡ option_map plain (slice_get u.text.toks k)
  pub entity : IsPlaceOf places (entity_at u.bound.names k) (entity_at v.bound.names at)
  pub declares : declares_at v.bound.names at ≡ declares_at u.bound.names k
  pub kind : kind_at v.bound.names at ≡ kind_at u.bound.names k
  pub linkage : linkage_at v.bound.names at ≡ linkage_at u.bound.names k

-- the names stand among so many tokens
abbrev pub AreWithin : ℕ → List Name → Type 0
AreWithin count names = (j : ℕ) (n : Name) → slice_get names j ≡ Some n → (n.index < count) × (n.entity < count)

-- Both units have as many tokens, and their names stand among these.
pub record AreNamed (u v : UnitAnalysis) : Type 0 where
  pub many : length v.text.toks ≡ length u.text.toks
  pub names : AreWithin (length u.text.toks) u.bound.names
  pub others : AreWithin (length v.text.toks) v.bound.names

-- So it is with all tokens of a unit, whose tree is the first in the new order, and whose lists have so many items.
pub record IsComparedUnit (order begins perm places : List ℕ) (u v : UnitAnalysis) : Type 0 where
  pub tree : IsTurnedTree order begins u.tree v.tree perm
  pub items : EachHas (length order) begins u.tree.under
  pub placed : ArePlaces perm places
  pub each : (k at : ℕ) → slice_get places k ≡ Some at → IsAlikeAt u v places k at
  pub named : AreNamed u v

-- .. by some numbers and places
pub record IsCompared (members : List Part) (order : List ℕ) (u v : UnitAnalysis) : Type 0 where
  pub begins : List ℕ
  pub perm : List ℕ
  pub places : List ℕ
  pub lists : AreBegins members u begins
  pub same : IsComparedUnit order begins perm places u v

-- ---- files

-- Two tables have the same path for a number, with a file or without one; a pseudo file has one text.
pub record AreKept (old new : Table) (number : ℕ) : Type 0 where
  pub had : KeptValue
  pub has : KeptValue
  pub kept : kept_at old number ≡ Some had
  pub there : kept_at new number ≡ Some has
  pub path : has.path ≡ had.path
  pub made : is_pseudo had.path ≡ true → has.bytes ≡ had.bytes

abbrev pub AreAbsent : Table → Table → ℕ → Type 0
AreAbsent old new number = (path : List ℕ) × (absent_at old number ≡ Some path) × (absent_at new number ≡ Some path)

abbrev pub AreNumbered : Table → Table → ℕ → Type 0
AreNumbered old new number = (number ≡ 0) ⊎ (AreKept old new number ⊎ AreAbsent old new number)

-- ---- all

-- The units, and the files by their numbers.
pub record AreCompared (members : List Part) (order : List ℕ) (a b : AnalysisValue) : Type 0 where
  pub many : length b.units ≡ length a.units
  pub units : (n : ℕ) (u v : UnitAnalysis) → slice_get a.units n ≡ Some u → slice_get b.units n ≡ Some v → IsCompared members order u v
  pub numbers : length b.table ≡ length a.table
  pub files : (k : ℕ) → k < length a.table → AreNumbered a.table b.table k

-- ---- the files once edits are made

-- the new bytes of a path, if one of the edits has some
abbrev pub bytes_for : List ℕ → List Edit → Option (List ℕ)
bytes_for path [] = None
bytes_for path (e ∷ edits) = if bytes_eq e.path path then Some e.bytes else bytes_for path edits

abbrev pub edited_bytes : List Edit → KeptValue → List ℕ
edited_bytes edits f = unwrap_or (bytes_for f.path edits) f.bytes

-- a file that was read, and is no pseudo file, once the edits are made
pub record IsEditedFile (table : Table) (edits : List Edit) (file : List ℕ × List ℕ) : Type 0 where
  pub had : KeptValue
  pub kept : kept_at table had.number ≡ Some had
  pub real : is_pseudo had.path ≡ false
  pub path : file.0 ≡ had.path
  pub bytes : file.1 ≡ edited_bytes edits had

-- The workspace, analysed over such files, and so over each source that agrees with what was read of them.
pub record IsSecond (edits : List Edit) (a b : AnalysisValue) : Type 0 where
  pub workspace : b.workspace ≡ a.workspace
  pub files : FileMap
  pub each : All (IsEditedFile a.table edits) files
  pub found : AreFound (source_of files) b.table
  pub over : (source : Source) → AreFound source b.table → analysis_of source a.workspace ≡ Ok b

-- What edits of a new order keep over each source that has the analysis.
abbrev pub KeepsOrder : AnalysisValue → List Part → List ℕ → Type 0
KeepsOrder a members order =
    (before now : Source) → analysis_of before a.workspace ≡ Ok a → AreMade (edits_of members a order) before now
    → AreReordered members order a before now × AnalysisIsReordered now a.workspace a members order
