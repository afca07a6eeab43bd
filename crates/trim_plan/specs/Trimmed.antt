-- What a unit and an analysis are once some include lines are null directives (this project's, over ISO/IEC 9899:1999, 5.1.1.2
-- phases 4 and 7, 6.2, 6.10.2 and 6.10.7). Nothing else has to be read to see what "trimmed" means.
use Rattle.std.specs.Prelude.{ℕ, ◌≡◌, ◌<◌, Bool, false, Option, Some, List, length, slice_get}
use Rattle.std.specs.Option.{option_map, option_map_or}
use Rattle.cs_base.specs.declared.positions.Pos.{Pos}
use Rattle.cs_base.specs.declared.tokens.Kind.{Kind}
use Rattle.cs_base.specs.Token.{Token}
use Rattle.analysis.specs.Below.include_tree.PseudoFiles.{is_pseudo}
use Rattle.analysis.specs.Below.scope_bind.declared.bound.Name.{Name}
use Rattle.analysis.specs.Below.scope_bind.Names.{entity_at, declares_at, kind_at, linkage_at}
use Rattle.analysis.specs.Below.source_files.Files.{Found, Lines, Absent, Unopened, Opened, Made, Entry, Table, absent_at}
use Rattle.analysis.specs.Below.source_files.KeptFiles.{KeptValue, kept_at}
use Rattle.analysis.specs.Analysis.{UnitAnalysis, AnalysisValue}
use Rattle.analysis.specs.Changed.{denote_one}
use Rattle.trim_plan.specs.Left.{is_gone, place, pruned}
use Rattle.trim_rules.specs.Trimmed.{trimmed}

-- ---- one unit

-- a token as it is read: its kind and its spelling
abbrev pub plain : Token → Kind × List ℕ
plain t = (t.kind, t.text)

module _ (gone : ℕ → Bool) where
  -- An entity stays: the token that declares it first is left, and it has its kind and its linkage (6.2.2).
  pub record IsLeftEntity (old new : List Name) (e : ℕ) : Type 0 where
    pub left : gone e ≡ false
    pub kind : kind_at new (place gone e) ≡ kind_at old e
    pub linkage : linkage_at new (place gone e) ≡ linkage_at old e

  -- Token k, which is left, denotes what it denoted (6.2.1).
  pub record IsLeftName (old new : List Name) (k : ℕ) : Type 0 where
    pub entity : entity_at new (place gone k) ≡ option_map (place gone) (entity_at old k)
    pub declares : declares_at new (place gone k) ≡ declares_at old k
    pub own : (e : ℕ) → entity_at old k ≡ Some e → IsLeftEntity old new e

  -- The unit without these tokens: the others in order, the tree without the declarations that they were, and each name that
  -- is left.
  pub record IsTrimmedUnit (u v : UnitAnalysis) : Type 0 where
    pub standard : v.standard ≡ u.standard
    pub many : length v.text.toks ≡ place gone (length u.text.toks)
    pub toks : (k : ℕ) → k < length u.text.toks → gone k ≡ false
        → option_map plain (slice_get v.text.toks (place gone k)) ≡ option_map plain (slice_get u.text.toks k)
    pub tree : v.tree ≡ pruned gone u.tree
    pub names : (k : ℕ) → k < length u.text.toks → gone k ≡ false → IsLeftName u.bound.names v.bound.names k

-- ---- an analysis

-- token k of unit n, both counted from 0, is left, and stands at this place
pub record IsLeft (lines : List Pos) (a : AnalysisValue) (n k j : ℕ) : Type 0 where
  pub unit : UnitAnalysis
  pub at : slice_get a.units n ≡ Some unit
  pub within : k < length unit.text.toks
  pub left : is_gone lines unit.text k ≡ false
  pub place : j ≡ place (is_gone lines unit.text) k

-- the file of the path was read, and this is what it holds with the lines as null directives
pub record HoldsTrimmed (lines : List Pos) (table : Table) (path bytes : List ℕ) : Type 0 where
  pub file : KeptValue
  pub kept : kept_at table file.number ≡ Some file
  pub real : is_pseudo file.path ≡ false
  pub own : file.path ≡ path
  pub holds : bytes ≡ trimmed lines file

-- the path was asked for, and not there
abbrev pub WasAbsent : Table → List ℕ → Type 0
WasAbsent table path = (number : ℕ) × (absent_at table number ≡ Some path)

-- what a path stands for was known before: it was not there, or its file is the trimmed one
abbrev pub WasKnown : List Pos → Table → List ℕ → Found → Type 0
WasKnown lines table path Lines = Unit {0}
WasKnown lines table path Absent = WasAbsent table path
WasKnown lines table path (Unopened bytes) = HoldsTrimmed lines table path bytes
WasKnown lines table path (Opened bytes) = HoldsTrimmed lines table path bytes
WasKnown lines table path (Made bytes) = Unit {0}

-- The analysis without what these lines bring: each unit, what names of external linkage denote in the units of one project
-- (6.2.2 paragraph 2), and no other file is asked for.
pub record IsTrimmedAnalysis (lines : List Pos) (a b : AnalysisValue) : Type 0 where
  pub workspace : b.workspace ≡ a.workspace
  pub many : length b.units ≡ length a.units
  pub units : (n : ℕ) (u v : UnitAnalysis) → slice_get a.units n ≡ Some u → slice_get b.units n ≡ Some v → IsTrimmedUnit (is_gone lines u.text) u v
  pub shared : (m j i n k h : ℕ) → IsLeft lines a m j i → IsLeft lines a n k h → denote_one b m i n h ≡ denote_one a m j n k
  pub asked : (k : ℕ) (e : Entry) → slice_get b.table k ≡ Some e → WasKnown lines a.table e.path e.found
