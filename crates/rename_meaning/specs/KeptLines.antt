-- Lines of files under a renaming against which nothing stands (ISO/IEC 9899:1999, 6.10, 6.10.3).
use Rattle.std.specs.Prelude.{ℕ, ◌≡◌, true, List, ◌∷◌, Some, drop}
use Rattle.cs_base.specs.declared.positions.Part.{Part}
use Rattle.cs_base.specs.Token.{Token}
use Rattle.lexer.specs.Tokens.{tokens_of, firsts_of}
use Rattle.line_shape.specs.Items.{lines_of}
use Rattle.line_shape.specs.Signs.{is_hash}
use Rattle.unit_steps.specs.Below.macro_expand.Renaming.{Renaming}
use Rattle.source_files.specs.KeptFiles.{KeptValue, kept_at}
use Rattle.part_respell.specs.Respelled.{spelled}
use Rattle.edited_unit_laws.specs.Lines.{Each, KeepsLine, defines, parameters_of}
use Rattle.analysis.specs.Analysed.{Analysed}
use Rattle.analysis.specs.Analysis.{AnalysisValue}
use Rattle.rename_meaning.specs.Allowed.{IsAllowed}
use Rattle.rename_meaning.specs.KeptFiles.{WordsAreFree}
use Rattle.rename_meaning.specs.KeptTokens.{Spells}

-- what is spelled as a parameter of a definition gets the new spelling of the parameter
abbrev pub UsesStayAlike : List Part → List ℕ → List Token → Type 0
UsesStayAlike members name toks = Each (λ p. Each (λ t. t.text ≡ p.text → spelled members name t ≡ spelled members name p) toks) (parameters_of toks)

-- so it is in a line that begins as a definition
abbrev pub LineStaysAlike : List Part → List ℕ → List Token → Type 0
LineStaysAlike members name (hash ∷ word ∷ operands) = is_hash hash ≡ true → defines word ≡ true → UsesStayAlike members name (drop 1 operands)
LineStaysAlike members name _ = Unit {0}

-- and in each line of each kept file. In a definition that some unit processes uses of parameters are linked with
-- these; what no unit processes holds no member of a class that a place names.
abbrev pub LinesStayAlike : AnalysisValue → List Part → List ℕ → Type 0
LinesStayAlike a members name = (n : ℕ) (f : KeptValue) → kept_at a.table n ≡ Some f
    → Each (LineStaysAlike members name) (lines_of (tokens_of f.number f.bytes) (firsts_of f.bytes))

-- The law: where nothing stands against a renaming, each line of each kept file names the directive that it named, and
-- each identifier of a definition names the parameter that it named.
abbrev pub LinesAreKept : Type 0
LinesAreKept = (a : Analysed) (members : List Part) (name : List ℕ) (r : Renaming) → IsAllowed a members name → Spells members name r
    → WordsAreFree a.value members → LinesStayAlike a.value members name
    → (n : ℕ) (f : KeptValue) → kept_at a.value.table n ≡ Some f → Each (KeepsLine r) (lines_of (tokens_of f.number f.bytes) (firsts_of f.bytes))
