-- Files in which a class is renamed and nothing stands against it (ISO/IEC 9899:1999, 5.1.1.2 phases 1 to 3).
use Rattle.std.specs.Prelude.{ℕ, ◌≡◌, true, false, List, ◌∷◌, Some}
use Rattle.cs_base.specs.declared.positions.Part.{Part}
use Rattle.cs_base.specs.Token.{Token}
use Rattle.lexer.specs.Respelling.{KeepsPieces}
use Rattle.lexer.specs.Tokens.{tokens_of, firsts_of}
use Rattle.line_shape.specs.Items.{lines_of}
use Rattle.line_shape.specs.Signs.{is_hash}
use Rattle.source_files.specs.KeptFiles.{KeptValue, kept_at}
use Rattle.part_respell.specs.Respelled.{put_of}
use Rattle.offences.specs.Tokens.{holds_member}
use Rattle.edited_unit_laws.specs.Lines.{Each, stands_behind}
use Rattle.analysis.specs.Analysed.{Analysed}
use Rattle.analysis.specs.Analysis.{AnalysisValue}
use Rattle.rename_meaning.specs.Allowed.{IsAllowed}

-- the word of a directive line, which stands behind its `#` (6.10 paragraph 1), holds no member, nor does what is read behind
-- it as it stands
abbrev pub WordIsFree : List Part → List Token → Type 0
WordIsFree members (hash ∷ word ∷ operands) =
    is_hash hash ≡ true → (holds_member members word ≡ false) × (stands_behind word operands ≡ true → Each (λ t. holds_member members t ≡ false) operands)
WordIsFree members _ = Unit {0}

-- So it is with each line of each kept file. The rules of links join no such word with anything, and a place names
-- none: so it is of each class that a place names.
abbrev pub WordsAreFree : AnalysisValue → List Part → Type 0
WordsAreFree a members = (n : ℕ) (f : KeptValue) → kept_at a.table n ≡ Some f
    → Each (WordIsFree members) (lines_of (tokens_of f.number f.bytes) (firsts_of f.bytes))

-- The law: where nothing stands against a renaming, each kept file keeps its pieces: only identifiers are spelled
-- otherwise, each as another identifier, and the words of directives stay.
abbrev pub FilesKeepPieces : Type 0
FilesKeepPieces = (a : Analysed) (members : List Part) (name : List ℕ) → IsAllowed a members name → WordsAreFree a.value members
    → (n : ℕ) (f : KeptValue) → kept_at a.value.table n ≡ Some f → KeepsPieces (put_of members name f.number) f.bytes
