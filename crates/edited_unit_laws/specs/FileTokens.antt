-- File tokens of an analysis over edited files (this project's).
use Rattle.std.specs.Prelude.{◌≡◌, ℕ, Some, List, codes, map, slice_get}
use Rattle.std.specs.Str.{bytes_eq}
use Rattle.cs_base.specs.Token.{Token}
use Rattle.macro_expand.specs.Renaming.{Renaming, spelled, renamed}
use Rattle.macro_body.specs.Substitution.{digit_origins}
use Rattle.unit_steps.specs.declared.events.Event.{Event}
use Rattle.source_files.specs.Files.{Entry, entry}
use Rattle.analysis.specs.Analysis.{UnitAnalysis, AnalysisValue}
use Rattle.analysis.specs.FileTokens.{entry_tokens, file_tokens}
use Rattle.edited_unit_laws.specs.Lines.{Each}
use Rattle.edited_unit_laws.specs.Keeping.{Change}
use Rattle.edited_unit_laws.specs.Analyses.{renamed_analysis}
use Rattle.analysis.specs.Changed.{Editing, edited_found}

-- an entry, edited
abbrev pub edited_entry : Editing → ℕ → Entry → Entry
edited_entry edit number e = entry e.path (edited_found (edit number) e.found)

-- the kept tokens of the edited file of an entry with this number are the renamed ones
abbrev pub EntryIsRenamed : Change → ℕ → Entry → Type 0
EntryIsRenamed c number e = entry_tokens number (edited_entry c.editing number e) ≡ map (renamed c.renaming) (entry_tokens number e)

-- the name of an event is `__LINE__` anew exactly where it was (6.10.8)
abbrev pub NamesLineAsBefore : Renaming → Event → Type 0
NamesLineAsBefore r e = (name : Token) → e.name ≡ Some name → bytes_eq (spelled r name) (codes "__LINE__") ≡ bytes_eq name.text (codes "__LINE__")

-- What is kept of the file tokens of an analysis: those of files are renamed; numbers of lines stay, and stand for the
-- names for which they stood.
pub record KeepsFileTokens (c : Change) (a : AnalysisValue) : Type 0 where
  pub files : (number : ℕ) (e : Entry) → slice_get a.table number ≡ Some e → EntryIsRenamed c number e
  pub lines : Each (λ (u : UnitAnalysis). Each (NamesLineAsBefore c.renaming) u.text.events) a.units
  pub numbers : (n len : ℕ) (text : List ℕ)
      → (c.renaming.spell (digit_origins n len) text ≡ text) × (c.renaming.trace (digit_origins n len) text ≡ digit_origins n len)

-- The law: the file tokens of the renamed analysis are the renamed file tokens, in their order.
abbrev pub FileTokensAreRenamed : Type 0
FileTokensAreRenamed = (c : Change) (a : AnalysisValue) → KeepsFileTokens c a
    → file_tokens (renamed_analysis c a) ≡ map (renamed c.renaming) (file_tokens a)
