-- Strings and pasted tokens of a unit under a renaming against which nothing stands (ISO/IEC 9899:1999, 6.10.3.2,
-- 6.10.3.3).
use Rattle.std.specs.Prelude.{ℕ, ◌≡◌, Bool, List, map, Ok}
use Rattle.cs_base.specs.declared.positions.Part.{Part}
use Rattle.cs_base.specs.Token.{Token}
use Rattle.cs_base.specs.Units.{UnitValue}
use Rattle.lexer.specs.FileText.{file_text}
use Rattle.macro_body.specs.Below.paste_origin.Pasting.{glue_of}
use Rattle.macro_body.specs.Below.paste_origin.Strings.{string_text, stringize_of}
use Rattle.macro_body.specs.Notes as expansion
use Rattle.unit_steps.specs.Below.macro_expand.Renaming.{Renaming, renamed, labelled_as}
use Rattle.source_files.specs.Files.{Source, Carried}
use Rattle.source_files.specs.Tables.{IsGrown}
use Rattle.source_files.specs.Limits.{the_limits}
use Rattle.unit_steps.specs.Notes.{Happened}
use Rattle.unit_steps.specs.State.{Did}
use Rattle.unit_steps.specs.Texts.{unit_text}
use Rattle.include_tree.specs.Unit.{unit_outcome}
use Rattle.part_respell.specs.Respelled.{spelled}
use Rattle.analysis.specs.Analysed.{Analysed}
use Rattle.analysis.specs.Analysis.{UnitAnalysis, AnalysisValue}
use Rattle.rename_meaning.specs.Allowed.{IsAllowed}
use Rattle.rename_meaning.specs.Renamings.{renaming}
use Rattle.unit_laws.specs.UnitLinks.{IsIn}

-- what the preprocessing of a unit of an analysis gave: the table of files only grows behind it
pub record IsOutcome (a : AnalysisValue) (u : UnitAnalysis) (d : Did (List Token)) : Type 0 where
  pub source : Source
  pub number : ℕ
  pub unit : UnitValue
  pub before : Carried
  pub outcome : unit_outcome the_limits file_text source number unit before ≡ Ok d
  pub text : unit_text d.value d.notes ≡ u.text
  pub grown : IsGrown d.state.table a.table

-- a string is the string of the renamed tokens, and a pasted token is what the renamed ones are pasted to
abbrev pub IsMadeAnew : Renaming → expansion.Note → Type 0
IsMadeAnew r (expansion.Stringized toks s) = stringize_of (map (renamed r) toks) ≡ Ok (renamed r s)
IsMadeAnew r (expansion.Pasted x y z) = glue_of (renamed r x) (renamed r y) ≡ Ok (labelled_as (renamed r x) (renamed r z))
IsMadeAnew r _ = Unit {0}

-- The law: so it is with each expansion of each unit.
abbrev pub TokensAreMadeAnew : Type 0
TokensAreMadeAnew = (a : Analysed) (members : List Part) (name : List ℕ) → IsAllowed a members name
    → (u : UnitAnalysis) (d : Did (List Token)) → IsIn a.value.units u → IsOutcome a.value u d
    → (run : Bool) (before : ℕ) (note : expansion.Note) → IsIn d.notes (Happened run before note)
    → IsMadeAnew (renaming a.value members name u.text) note

-- The law: where `#` made a string of tokens, the new spelling of the string is the text that it makes of the renamed tokens (6.10.3.2
-- paragraph 2).
abbrev pub StringsAreOfRenamedTokens : Type 0
StringsAreOfRenamedTokens = (a : Analysed) (members : List Part) (name : List ℕ) → IsAllowed a members name
    → (u : UnitAnalysis) (d : Did (List Token)) → IsIn a.value.units u → IsOutcome a.value u d
    → (run : Bool) (before : ℕ) (toks : List Token) (s : Token) → IsIn d.notes (Happened run before (expansion.Stringized toks s))
    → spelled members name s ≡ string_text (map (renamed (renaming a.value members name u.text)) toks)

-- The law: the tokens of include lines that were expanded stay.
abbrev pub HeadersStay : Type 0
HeadersStay = (a : Analysed) (members : List Part) (name : List ℕ) → IsAllowed a members name
    → (u : UnitAnalysis) → IsIn a.value.units u → (t : Token) → IsIn u.text.header t → spelled members name t ≡ t.text
