-- The renaming of tokens, positions and macros that spelling the members of a class otherwise makes (this project's).
use Rattle.std.specs.Prelude.{ℕ, ◌≡◌, true, Option, Some, List, [], ◌∷◌, map, find}
use Rattle.std.specs.List.{flat_map, list_all}
use Rattle.std.specs.Option.{is_none, option_map, option_map_or}
use Rattle.std.specs.Str.{bytes_eq}
use Rattle.cs_base.specs.declared.positions.Part.{Part}
use Rattle.cs_base.specs.declared.positions.Pos.{Pos}
use Rattle.cs_base.specs.Token.{Token}
use Rattle.lexer.specs.Places.{pos}
use Rattle.lexer.specs.Tokens.{tokens_of, firsts_of, open_comment_of}
use Rattle.unit_steps.specs.Below.macro_expand.Renaming.{Renaming, renamed}
use Rattle.macro_body.specs.Substitution.{digit_origins}
use Rattle.unit_steps.specs.declared.events.Event.{Event}
use Rattle.source_files.specs.KeptFiles.{KeptValue, kept_at}
use Rattle.unit_steps.specs.Texts.{UnitTextValue}
use Rattle.part_respell.specs.Respelled.{respelled, spelled, moved_to}
use Rattle.analysis.specs.Analysed.{Analysed}
use Rattle.analysis.specs.Analysis.{AnalysisValue}
use Rattle.rename_meaning.specs.Allowed.{IsAllowed}
use Rattle.rename_meaning.specs.KeptFiles.{WordsAreFree}
use Rattle.rename_meaning.specs.KeptTokens.{Spells}
use Rattle.renamed.specs.Renamed.{spell_from, move_to, trace_from}

-- the names of which the events of a unit tell
abbrev pub name_in : Event → List Token
name_in e = option_map_or (λ t. t ∷ []) e.name []

abbrev pub names_told : UnitTextValue → List Token
names_told text = flat_map name_in text.events

-- the new spelling of a macro's name in a unit: that of the first name that is spelled so there
abbrev pub name_for : List Part → List ℕ → UnitTextValue → List ℕ → List ℕ
name_for members name text word = option_map_or (spelled members name) (find (λ t. bytes_eq t.text word) (names_told text)) word

-- the renaming of a unit
abbrev pub renaming : AnalysisValue → List Part → List ℕ → UnitTextValue → Renaming
renaming a members name text = record {
  spell = spell_from members name;
  trace = trace_from a members name;
  move = move_to a members name;
  macro_name = name_for members name text;
}

-- The law: it spells each token with the name for each member.
abbrev pub RenamingsSpell : Type 0
RenamingsSpell = (a : AnalysisValue) (members : List Part) (name : List ℕ) (text : UnitTextValue) → Spells members name (renaming a members name text)

-- The law: the edited files have the renamed tokens; the same are the first of their lines, and the same comment is open.
abbrev pub EditedFilesAreRenamed : Type 0
EditedFilesAreRenamed = (a : Analysed) (members : List Part) (name : List ℕ) (text : UnitTextValue) → IsAllowed a members name → WordsAreFree a.value members
    → (n : ℕ) (f : KeptValue) → kept_at a.value.table n ≡ Some f
    → (tokens_of f.number (respelled members name f.number f.bytes) ≡ map (renamed (renaming a.value members name text)) (tokens_of f.number f.bytes))
    × (firsts_of (respelled members name f.number f.bytes) ≡ firsts_of f.bytes)
    × (open_comment_of (respelled members name f.number f.bytes) ≡ option_map (moved_to members name f.number f.bytes) (open_comment_of f.bytes))

-- What has no origin stays, and so do numbers of the pseudo file of lines, and where they stand (6.10.8, 6.10.1
-- paragraph 4).
pub record KeepsUnedited (r : Renaming) : Type 0 where
  pub untraced : (origins : List (Option Pos)) (text : List ℕ) → list_all is_none origins ≡ true → (r.spell origins text ≡ text) × (r.trace origins text ≡ origins)
  pub numbers : (n len : ℕ) (text : List ℕ) → (r.spell (digit_origins n len) text ≡ text) × (r.trace (digit_origins n len) text ≡ digit_origins n len)
  pub still : (at : ℕ) → r.move (pos 0 at) ≡ pos 0 at

-- The law: so it is where nothing stands against a renaming.
abbrev pub RenamingsKeepUnedited : Type 0
RenamingsKeepUnedited = (a : Analysed) (members : List Part) (name : List ℕ) (text : UnitTextValue) → IsAllowed a members name
    → KeepsUnedited (renaming a.value members name text)
