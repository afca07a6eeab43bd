-- What an edit changes of a workspace, whatever it spells otherwise (this project's, over ISO/IEC 9899:1999, 5.1.1.2 phases 1 to 7):
-- tokens, texts of units, the table of files and the analysis; and which names of two units denote one entity (6.2.2).
use Rattle.std.specs.Prelude.{ℕ, suc, Bool, false, ◌&&◌, if◌then◌else◌, Option, Some, None, List, [], ◌∷◌, map, slice_get}
use Rattle.std.specs.Option.{option_map, option_and_then}
use Rattle.std.specs.Str.{bytes_eq}
use Rattle.cs_base.specs.declared.positions.Pos.{Pos}
use Rattle.cs_base.specs.declared.tokens.Link.{Link}
use Rattle.cs_base.specs.Token.{Token, token}
use Rattle.cs_base.specs.Units.{UnitValue}
use Rattle.gnu_bind.specs.Below.c_types.declared.entity.Linkage.TheVariants.{External}
use Rattle.gnu_bind.specs.Below.c_types.Declarations.{is_linkage, spelling_at}
use Rattle.gnu_bind.specs.Below.scope_bind.Names.{entity_at, linkage_at}
use Rattle.include_tree.specs.Below.source_files.Files.{Table, Found, Lines, Absent, Unopened, Opened, Made, entry}
use Rattle.include_tree.specs.Below.unit_steps.Notes.{link}
use Rattle.include_tree.specs.Below.unit_steps.declared.events.Event.{Event}
use Rattle.include_tree.specs.Below.unit_steps.Texts.{UnitTextValue, text_of}
use Rattle.analysis.specs.Analysis.{UnitAnalysis, unit_analysis, AnalysisValue, analysis_and}
use Rattle.analysis.specs.Texts.{TextsValue, texts_and}

-- ---- tokens

-- A renaming: the new spelling and the new origins of a token, by the origins of its characters and its spelling; and where
-- a position moves to.
pub record Renaming : Type 0 where
  pub spell : List (Option Pos) → List ℕ → List ℕ
  pub trace : List (Option Pos) → List ℕ → List (Option Pos)
  pub move : Pos → Pos

-- a token, renamed: its kind, white space, line and directness stay
abbrev pub renamed_token : Renaming → Token → Token
renamed_token r t = token t.kind (r.spell t.origins t.text) (r.trace t.origins t.text) t.gap (r.move t.at) t.line t.direct

-- ---- the text of a unit

-- a link of two tokens, renamed
abbrev pub renamed_link : Renaming → Link → Link
renamed_link r l = link (renamed_token r l.x) (renamed_token r l.y)

-- an event, renamed: its name, and where it stands; what is counted, and the numbers of files, stay
abbrev pub renamed_event : Renaming → Event → Event
renamed_event r e = record {
  kind = e.kind;
  name = option_map (renamed_token r) e.name;
  at = r.move e.at;
  def = option_map r.move e.def;
  file = e.file;
  before = e.before;
}

-- the text of a unit, renamed: each token, link and event; the same items are reached
abbrev pub renamed_text : Renaming → UnitTextValue → UnitTextValue
renamed_text r k =
    text_of (map (renamed_token r) k.toks) (map (renamed_link r) k.links) (map (renamed_token r) k.pasted)
    (map (renamed_token r) k.stringized) (map (renamed_token r) k.header) (map (renamed_token r) k.answers)
    k.reached (map (renamed_event r) k.events)

-- ---- the table of files

-- How files are edited: the new bytes, by the number of a file and its bytes.
abbrev pub Editing : Type 0
Editing = ℕ → List ℕ → List ℕ

-- what a number stands for behind the edit: a pseudo file is not edited
abbrev pub edited_found : (List ℕ → List ℕ) → Found → Found
edited_found edit Lines = Lines
edited_found edit Absent = Absent
edited_found edit (Unopened bytes) = Unopened (edit bytes)
edited_found edit (Opened bytes) = Opened (edit bytes)
edited_found edit (Made bytes) = Made bytes

-- the entries of a table from this number on: paths and numbers stay
abbrev pub edited_from : Editing → ℕ → Table → Table
edited_from edit number [] = []
edited_from edit number (e ∷ table) = entry e.path (edited_found (edit number) e.found) ∷ edited_from edit (suc number) table

abbrev pub edited_table : Editing → Table → Table
edited_table edit table = edited_from edit 0 table

-- ---- all units

-- the texts of all units, renamed, with the edited table
abbrev pub renamed_texts : Renaming → Editing → TextsValue → TextsValue
renamed_texts r edit t = texts_and (map (renamed_text r) t.texts) (edited_table edit t.table)

-- an accepted unit, renamed: its text; its standard, its tree (Annex A), and what its identifiers denote (6.2), are as before
abbrev pub renamed_unit_analysis : Renaming → UnitAnalysis → UnitAnalysis
renamed_unit_analysis r u = unit_analysis u.standard (renamed_text r u.text) u.tree u.bound

-- the analysis of a workspace, renamed: each unit, with the edited table
abbrev pub renamed_analysis : Renaming → Editing → AnalysisValue → AnalysisValue
renamed_analysis r edit a = analysis_and a.workspace (map (renamed_unit_analysis r) a.units) (edited_table edit a.table)

-- the texts of units that are accepted
abbrev pub texts_in : List UnitAnalysis → List UnitTextValue
texts_in us = map (λ u. u.text) us

-- ---- names across units

-- an identifier of external linkage: the project of its unit, and its spelling
pub record ExternalName : Type 0 where
  pub project : List ℕ
  pub text : List ℕ

abbrev pub external_name : List ℕ → List ℕ → ExternalName
external_name project text = record { project = project; text = text }

-- token k of the unit, which is bound to this entity, if that has external linkage
abbrev pub external_if : UnitValue → UnitAnalysis → ℕ → ℕ → Option ExternalName
external_if unit u k entity =
    if is_linkage (linkage_at u.bound.names entity) External then Some (external_name unit.project (spelling_at u.text.toks k)) else None

-- token k of unit n, both counted from 0, if it is an identifier of external linkage
abbrev pub external_at : AnalysisValue → ℕ → ℕ → Option ExternalName
external_at a n k =
    option_and_then (λ unit. option_and_then (λ u. option_and_then (external_if unit u k) (entity_at u.bound.names k)) (slice_get a.units n))
    (slice_get a.workspace.units n)

-- in one program each of one spelling denotes the same entity (6.2.2 paragraph 2)
abbrev pub is_one_entity : Option ExternalName → Option ExternalName → Bool
is_one_entity (Some x) (Some y) = bytes_eq x.project y.project && bytes_eq x.text y.text
is_one_entity _ _ = false

-- Token j of unit m and token k of unit n are identifiers of external linkage that denote one entity.
abbrev pub denote_one : AnalysisValue → ℕ → ℕ → ℕ → ℕ → Bool
denote_one a m j n k = is_one_entity (external_at a m j) (external_at a n k)
