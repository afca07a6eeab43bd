-- What a rename keeps of a workspace (this project's, over ISO/IEC 9899:1999, 5.1.1.2 phases 1 to 7): how the members of a class
-- are spelled otherwise, and what texts and the analysis are behind it. With `Changed` of `analysis`, where tokens, texts and
-- analyses stand that are spelled otherwise, nothing else has to be read to see what "renamed" means.
use Rattle.std.specs.Prelude.{ℕ, ◌≡◌, List, Ok}
use Rattle.cs_base.specs.declared.positions.Part.{Part}
use Rattle.ws_file.specs.Workspace.{WorkspaceValue}
use Rattle.analysis.specs.Below.source_files.Files.{Source}
use Rattle.part_respell.specs.Respelled.{respelled}
use Rattle.analysis.specs.Analysis.{AnalysisValue, analysis_of}
use Rattle.analysis.specs.Texts.{texts_and, texts_of}
use Rattle.analysis.specs.Changed.{renamed_texts, renamed_analysis, texts_in, denote_one}
-- How members are spelled otherwise: `Respelling` of `offences`.
unfoldable pub use Rattle.offences.specs.Respelling.{spell_from, trace_from}
pub use Rattle.offences.specs.Respelling.{moved_in, move_to, origins_for, renaming_of}

-- ---- what a rename keeps, over the files behind it

-- Each unit has the text that it had, with the members of the class respelled: the same tokens but for these, from the same
-- places, edited; and the files read are the same, with the edited bytes.
abbrev pub TextsAreRenamed : Source → WorkspaceValue → AnalysisValue → List Part → List ℕ → Type 0
TextsAreRenamed now ws a members name =
    texts_of now ws.units ≡ Ok (renamed_texts (renaming_of a members name) (respelled members name) (texts_and (texts_in a.units) a.table))

-- The workspace has the analysis that it had, renamed: each unit is read to the tree that it had, and each name is bound as
-- before.
abbrev pub AnalysisIsRenamed : Source → WorkspaceValue → AnalysisValue → List Part → List ℕ → Type 0
AnalysisIsRenamed now ws a members name =
    analysis_of now ws ≡ Ok (renamed_analysis (renaming_of a members name) (respelled members name) a)

-- Two identifiers of external linkage, of two units of one project or of one unit, denote one entity exactly where they did.
abbrev pub ExternalNamesAreKept : Source → WorkspaceValue → AnalysisValue → Type 0
ExternalNamesAreKept now ws a =
    (b : AnalysisValue) → analysis_of now ws ≡ Ok b → (m j n k : ℕ) → denote_one b m j n k ≡ denote_one a m j n k
