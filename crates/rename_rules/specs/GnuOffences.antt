-- What stands against the renaming of a class in units of GNU C (this project's, over the manual of gcc): names that denote nothing,
-- texts for the assembler, calls of what nothing declares, and units that would be read or bound otherwise.
use Rattle.std.specs.Prelude.{ℕ, ◌-◌, ◌&&◌, ◌||◌, not, if◌then◌else◌, Bool, true, false, is_some, Option, Some, List, [], ◌∷◌, ◌++◌, drop, take, map, slice_get}
use Rattle.std.specs.List.{flat_map, list_all, list_any}
use Rattle.std.specs.Option.{option_map_or}
use Rattle.cs_base.specs.declared.causes.Cause.TheVariants as cause
use Rattle.cs_base.specs.declared.positions.Part.{Part}
use Rattle.cs_base.specs.declared.positions.Pos.{Pos}
use Rattle.cs_base.specs.Token.{Token}
use Rattle.cs_base.specs.Units.{is_gnu}
use Rattle.analysis.specs.Below.line_shape.Signs.{is_name}
use Rattle.analysis.specs.Below.c_types.declared.entity.EntityKind.{EntityKind}
use Rattle.analysis.specs.Below.c_types.declared.entity.EntityKind.TheVariants.{Label}
use Rattle.analysis.specs.Below.c_types.Declarations.{has_linkage}
use Rattle.analysis.specs.Below.scope_bind.declared.bound.Name.{Name}
use Rattle.analysis.specs.Below.scope_bind.Names.{entity_at, kind_at, linkage_at}
use Rattle.gnu_lists.specs.declared.lists.Adjacent.{Adjacent}
use Rattle.gnu_lists.specs.Lists.{Listed, listed_in}
use Rattle.gnu_lists.specs.Strings.{given_by}
use Rattle.gnu_lists.specs.WholeWords.{holds_word}
use Rattle.part_respell.specs.Respelled.{spelled}
use Rattle.same_readings.specs.Whole.{goes_whole}
use Rattle.analysis.specs.Analysis.{UnitAnalysis, AnalysisValue}
use Rattle.analysis.specs.Changed.{Renaming, renamed_token}
use Rattle.analysis.specs.GnuUnits.{begin_of}
use Rattle.same_readings.specs.Readings.{reads_so}
use Rattle.offences.specs.Respelling.{renaming_of}
use Rattle.rename_rules.specs.Tokens.{starts_in}
use Rattle.rename_rules.specs.Undeclared.{ProjectName, ProjectUnit, call_places, declared, project_units}
use Rattle.offences.specs.Tokens.{holds_member}
use Rattle.offences.specs.declared.firsts.Offence.{Offence}
use Rattle.offences.specs.First.{standing}

-- some unit is of GNU C
unfoldable pub has_gnu : AnalysisValue → Bool
has_gnu a = list_any (λ (u : UnitAnalysis). is_gnu u.standard) a.units

-- ---- Reserved: names that denote nothing

-- the members in token k, if that denotes nothing, as the name of an attribute: what one macro brings there may be a name elsewhere
abbrev pub word_place : List Part → UnitAnalysis → ℕ → List Pos
word_place members u k =
    if is_some (entity_at u.bound.names k) then [] else option_map_or (starts_in members) (slice_get u.text.toks k) []

-- ---- AssemblerText

abbrev pub is_label : Option EntityKind → Bool
is_label (Some Label) = true
is_label _ = false

-- the assembler may know the entity by its name: it has linkage (ISO/IEC 9899:1999, 6.2.2), or is a label (6.8.1)
abbrev pub is_symbol : List Name → ℕ → Bool
is_symbol names entity = has_linkage (linkage_at names entity) || is_label (kind_at names entity)

abbrev pub held_text : List Part → Token → List (List ℕ)
held_text members t = if holds_member members t then t.text ∷ [] else []

-- the spelling of a name of such an entity, if it holds a member
abbrev pub symbol_at : List Part → UnitAnalysis → Name → List (List ℕ)
symbol_at members u n =
    if is_symbol u.bound.names n.entity then option_map_or (held_text members) (slice_get u.text.toks n.index) [] else []

abbrev pub symbols_in : List Part → UnitAnalysis → List (List ℕ)
symbols_in members u = flat_map (symbol_at members u) u.bound.names

-- the old spellings of the class by which the assembler may know what it names
unfoldable pub symbols : AnalysisValue → List Part → List (List ℕ)
symbols a members = flat_map (symbols_in members) a.units

-- what strings side by side give to the assembler (6.4.5 paragraph 4), escape sequences being the characters for which they stand, where
-- their members are respelled
abbrev pub joined : List Part → List ℕ → List Token → List ℕ
joined members name toks = flat_map (λ t. given_by (spelled members name t)) toks

abbrev pub text_toks : List Token → Adjacent → List Token
text_toks toks x = take (x.to - x.from) (drop x.from toks)

-- the text has the old name as a word, or the new one
abbrev pub is_named : List ℕ → List ℕ → List ℕ → Bool
is_named name text old = holds_word old text || holds_word name text

-- where such a text begins that has a name of the class
abbrev pub text_place : List Part → List ℕ → List (List ℕ) → UnitAnalysis → Adjacent → List Pos
text_place members name olds u x =
    if list_any (is_named name (joined members name (text_toks u.text.toks x))) olds
    then option_map_or (λ (t : Token). t.at ∷ []) (slice_get u.text.toks x.from) [] else []

-- ---- both

abbrev pub told_offences : List Part → List ℕ → List (List ℕ) → UnitAnalysis → Listed → List Offence
told_offences members name olds u listed =
    standing cause.Reserved (flat_map (word_place members u) listed.places)
    ++ standing cause.AssemblerText (flat_map (text_place members name olds u) listed.texts)

-- ---- all three

abbrev pub unit_offences : List Part → List ℕ → List (List ℕ) → List ProjectName → ProjectUnit → List Offence
unit_offences members name olds names p =
    if is_gnu p.unit.standard
    then standing cause.Undeclared (call_places members names p) ++ told_offences members name olds p.unit (listed_in p.unit.text.toks p.unit.tree.under)
    else []

-- those of each unit of GNU C
unfoldable pub gnu_offences : AnalysisValue → List Part → List ℕ → List Offence
gnu_offences a members name =
    flat_map (unit_offences members name (symbols a members) (declared a members)) (project_units a.workspace.units a.units)

-- ---- Syntax: units that would be read or bound otherwise

-- each token that is bound is an identifier
abbrev pub are_identifiers : List Token → List Name → Bool
are_identifiers toks names = list_all (λ (n : Name). option_map_or is_name (slice_get toks n.index) false) names

-- One spelling becomes another in these tokens wherever it stands, or they are read to its tree and bound as it is, name for
-- name: the one is said first, and is the cheaper one, since then the other holds.
abbrev pub is_read_so : UnitAnalysis → List Token → Bool
is_read_so u toks = goes_whole u.text.toks toks || reads_so toks u.tree u.bound

-- so it is with its own tokens, renamed
abbrev pub is_kept : Renaming → UnitAnalysis → Bool
is_kept r u = are_identifiers u.text.toks u.bound.names && is_read_so u (map (renamed_token r) u.text.toks)

-- where a unit of GNU C begins that is not kept
abbrev pub failing_by : Renaming → UnitAnalysis → List Pos
failing_by r u = if is_gnu u.standard && not (is_kept r u) then begin_of u.text.toks ∷ [] else []

-- .. once the members are spelled so
unfoldable pub failing_places : AnalysisValue → List Part → List ℕ → List Pos
failing_places a members name = flat_map (failing_by (renaming_of a members name)) a.units

-- It is asked where nothing else stands.
abbrev pub with_failing : AnalysisValue → List Part → List ℕ → List Offence → List Offence
with_failing a members name [] = standing cause.Syntax (failing_places a members name)
with_failing a members name (o ∷ others) = o ∷ others
