-- Tokens of files under a renaming against which nothing stands (ISO/IEC 9899:1999, 6.10.1, 6.10.3).
use Rattle.std.specs.Prelude.{ℕ, ◌≡◌, List, Some, length}
use Rattle.cs_base.specs.declared.positions.Part.{Part}
use Rattle.cs_base.specs.Token.{Token}
use Rattle.lexer.specs.Tokens.{tokens_of}
use Rattle.unit_steps.specs.Below.macro_expand.Renaming as macros
use Rattle.source_files.specs.KeptFiles.{KeptValue, kept_at}
use Rattle.part_respell.specs.Respelled.{spelled}
use Rattle.edited_unit_laws.specs.Lines.{Each, KeepsToken}
use Rattle.analysis.specs.Analysed.{Analysed}
use Rattle.rename_meaning.specs.Allowed.{IsAllowed}
use Rattle.rename_meaning.specs.Spellings.{IsPasted}

-- A renaming spells each token with the name for each member.
abbrev pub Spells : List Part → List ℕ → macros.Renaming → Type 0
Spells members name r = (t : Token) → length t.origins ≡ length t.text → macros.spelled r t ≡ spelled members name t

-- The law: it keeps each token of each kept file: what is neither an identifier nor a string literal stays, and so do
-- `defined` and `__VA_ARGS__`, which no other token becomes.
abbrev pub TokensAreKept : Type 0
TokensAreKept = (a : Analysed) (members : List Part) (name : List ℕ) (r : macros.Renaming) → IsAllowed a members name → Spells members name r
    → (n : ℕ) (f : KeptValue) → kept_at a.value.table n ≡ Some f → Each (KeepsToken r) (tokens_of f.number f.bytes)

-- The law: so it does each pasted token (6.10.3.3).
abbrev pub PastedTokensAreKept : Type 0
PastedTokensAreKept = (a : Analysed) (members : List Part) (name : List ℕ) (r : macros.Renaming) → IsAllowed a members name → Spells members name r
    → (t : Token) → IsPasted a.value t → KeepsToken r t
