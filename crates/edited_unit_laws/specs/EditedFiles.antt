-- Kept files in which the members of a class are spelled otherwise (ISO/IEC 9899:1999, 5.1.1.2 phases 1 to 3).
use Rattle.std.specs.Prelude.{◌≡◌, ℕ, ◌≤◌, List, Some, None, length, map, slice_get}
use Rattle.std.specs.Option.{option_map}
use Rattle.cs_base.specs.declared.positions.Part.{Part}
use Rattle.cs_base.specs.Token.{Token}
use Rattle.cs_base.specs.Limits.{most_bytes}
use Rattle.lexer.specs.Respelling.{KeepsPieces}
use Rattle.lexer.specs.Tokens.{tokens_of, firsts_of, open_comment_of}
use Rattle.part_respell.specs.Respelled.{put_of, respelled}
use Rattle.line_shape.specs.Items.{lines_of}
use Rattle.macro_expand.specs.Renaming.{renamed}
use Rattle.source_files.specs.Files.{Source, SourceFile, Entry}
use Rattle.source_files.specs.KeptFiles.{kept, kept_at}
use Rattle.source_files.specs.Tables.{AreFound}
use Rattle.source_files.specs.Sources.{source_at}
use Rattle.edited_unit_laws.specs.EditedTokens.{edited_token}
use Rattle.edited_unit_laws.specs.Lines.{Each, KeepsLine}
use Rattle.edited_unit_laws.specs.Keeping.{Change, edited_files, Fits, KeepsFile}

-- What makes a kept file one that is kept over the edit: the edited file has these bytes, which are not too many, the
-- renamed tokens, the same of them the first of their lines, and no comment without end where it had none; each token
-- fits, and its lines keep what they mean.
pub record IsEdited (c : Change) (file : SourceFile) (bytes edited : List ℕ) : Type 0 where
  pub old : kept_at c.files file.number ≡ Some (kept file.number file.path bytes)
  pub new : kept_at (edited_files c) file.number ≡ Some (kept file.number file.path edited)
  pub small : length edited ≤ most_bytes
  pub toks : tokens_of file.number edited ≡ map (renamed c.renaming) (tokens_of file.number bytes)
  pub firsts : firsts_of edited ≡ firsts_of bytes
  pub ends : open_comment_of bytes ≡ None → open_comment_of edited ≡ None
  pub fits : Each (Fits c) file.text.toks
  pub lines : Each (KeepsLine c.renaming) (lines_of file.text.toks file.text.firsts)

-- The law: such a file is kept.
abbrev pub EditedFilesAreKept : Type 0
EditedFilesAreKept = (c : Change) (file : SourceFile) (bytes edited : List ℕ)
    → source_at c.files file.number ≡ Some file → IsEdited c file bytes edited → KeepsFile c file

-- The same where the edited file has its bytes with the members of a class respelled, where
-- identifiers alone change, each into an identifier; it is not too large; each of its tokens is renamed as its origins
-- say, and fits; and its lines keep what they mean.
pub record IsRespelled (c : Change) (members : List Part) (name : List ℕ) (file : SourceFile) (bytes : List ℕ) : Type 0 where
  pub old : kept_at c.files file.number ≡ Some (kept file.number file.path bytes)
  pub new : kept_at (edited_files c) file.number ≡ Some (kept file.number file.path (respelled members name file.number bytes))
  pub pieces : KeepsPieces (put_of members name file.number) bytes
  pub small : length (respelled members name file.number bytes) ≤ most_bytes
  pub renames : Each (λ (t : Token). edited_token members name file.number bytes t ≡ renamed c.renaming t) file.text.toks
  pub fits : Each (Fits c) file.text.toks
  pub lines : Each (KeepsLine c.renaming) (lines_of file.text.toks file.text.firsts)

-- The law: such a file is kept.
abbrev pub RespelledFilesAreKept : Type 0
RespelledFilesAreKept = (c : Change) (members : List Part) (name : List ℕ) (file : SourceFile) (bytes : List ℕ)
    → source_at c.files file.number ≡ Some file → IsRespelled c members name file bytes → KeepsFile c file

-- Each path that has a number holds anew what it held, edited by that number; one that held nothing holds nothing.
abbrev pub HoldsEdited : Change → Source → Source → Type 0
HoldsEdited c old new = (number : ℕ) (e : Entry) → slice_get c.files number ≡ Some e → new e.path ≡ option_map (c.editing number) (old e.path)

-- The law: then it holds what the edited table tells, where the old one held what the table told.
abbrev pub EditedTablesAreFound : Type 0
EditedTablesAreFound = (c : Change) (old new : Source) → AreFound old c.files → HoldsEdited c old new → AreFound new (edited_files c)
