-- Which tokens occur in an analysis, and what a renaming against which nothing stands keeps of them (this project's, over
-- ISO/IEC 9899:1999, 6.10.3).
use Rattle.std.specs.Prelude.{ℕ, ◌≡◌, ◌&&◌, ◌||◌, ◌==◌, if◌then◌else◌, Bool, true, false, Option, Some, None, List, [], ◌∷◌, ◌++◌}
use Rattle.std.specs.List.{list_any}
use Rattle.std.specs.Str.{bytes_eq}
use Rattle.cs_base.specs.declared.positions.Part.{Part}
use Rattle.cs_base.specs.declared.positions.Pos.{Pos}
use Rattle.cs_base.specs.declared.tokens.Kind.{Kind}
use Rattle.cs_base.specs.Reserved.{is_reserved_text}
use Rattle.cs_base.specs.Token.{Token}
use Rattle.line_shape.specs.Signs.{is_identifier, is_punctuator, is_name}
use Rattle.unit_steps.specs.Below.macro_expand.Renaming.{Renaming, Occurring, spelled, occurs}
use Rattle.rename_rules.specs.Tokens.{pasted_tokens}
use Rattle.offences.specs.Tokens.{kept_tokens}
use Rattle.analysis.specs.Analysed.{Analysed}
use Rattle.analysis.specs.Analysis.{AnalysisValue}
use Rattle.rename_meaning.specs.Allowed.{IsAllowed}
use Rattle.rename_meaning.specs.KeptTokens.{Spells}
use Rattle.rename_meaning.specs.Spellings.{IsOfFile, IsPasted}

-- the same origin, and the same origins
abbrev pub same_origin : Option Pos → Option Pos → Bool
same_origin None None = true
same_origin (Some p) (Some q) = p.file == q.file && p.at == q.at
same_origin _ _ = false

abbrev pub same_origins : List (Option Pos) → List (Option Pos) → Bool
same_origins [] [] = true
same_origins (o ∷ os) (p ∷ ps) = same_origin o p && same_origins os ps
same_origins _ _ = false

-- a token of this spelling and with these origins, an identifier or a punctuator as this kind is
abbrev pub is_alike : Kind → List (Option Pos) → List ℕ → Token → Bool
is_alike kind origins text t =
    (is_identifier kind && is_name t || is_punctuator kind && is_punctuator t.kind) && (bytes_eq t.text text && same_origins t.origins origins)

-- An identifier or punctuator occurs where it is alike a token of a kept file or a pasted one; all else is said to.
unfoldable pub occurring_in : AnalysisValue → Occurring
occurring_in a kind origins text =
    if is_identifier kind || is_punctuator kind then list_any (is_alike kind origins text) (kept_tokens 0 a.table ++ pasted_tokens a) else true

-- What is kept of tokens that occur: identifiers of different spellings stay different, none becomes a reserved word, and
-- punctuators stay.
pub record KeepsOccurring (o : Occurring) (r : Renaming) : Type 0 where
  pub apart : (t u : Token) → occurs o t ≡ true → occurs o u ≡ true → is_name t ≡ true → is_name u ≡ true → spelled r t ≡ spelled r u → t.text ≡ u.text
  pub alone : (t : Token) (word : List ℕ) → is_reserved_text word ≡ true → occurs o t ≡ true → is_name t ≡ true → spelled r t ≡ word → t.text ≡ word
  pub signs : (t : Token) → occurs o t ≡ true → is_punctuator t.kind ≡ true → spelled r t ≡ t.text
  pub others : (kind : Kind) (origins : List (Option Pos)) (text : List ℕ) → is_identifier kind ≡ false → is_punctuator kind ≡ false → o kind origins text ≡ true

-- The law: so it is where nothing stands against the renaming; and tokens of kept files and pasted ones occur.
abbrev pub OccurringAreKept : Type 0
OccurringAreKept = (a : Analysed) (members : List Part) (name : List ℕ) (r : Renaming) → IsAllowed a members name → Spells members name r
    → KeepsOccurring (occurring_in a.value) r

abbrev pub FileTokensOccur : Type 0
FileTokensOccur = (a : AnalysisValue) (t : Token) → IsOfFile a t → occurs (occurring_in a) t ≡ true

abbrev pub PastedTokensOccur : Type 0
PastedTokensOccur = (a : AnalysisValue) (t : Token) → IsPasted a t → occurs (occurring_in a) t ≡ true
