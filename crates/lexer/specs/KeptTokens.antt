-- Edits by what they change of each token of a file.
use Rattle.std.specs.Prelude.{◌≡◌, ℕ, ◌+◌, nat_le, nat_lt, Bool, true, false, ◌&&◌, if◌then◌else◌, List, [], ◌∷◌, drop, get_or, length}
use Rattle.std.specs.List.{list_any}
use Rattle.cs_base.specs.declared.tokens.Kind.{Kind}
use Rattle.cs_base.specs.declared.tokens.Kind.TheVariants.{Ident}
use Rattle.cs_base.specs.Token.{Token}
use Rattle.lexer.specs.declared.pieces.LineFront.{LineFront}
use Rattle.lexer.specs.declared.pieces.LineFront.TheVariants.{Nothing}
use Rattle.lexer.specs.Tokens.{with_token, tokens_of, firsts_of}
use Rattle.lexer.specs.Respelling.{Put, stays, keeps_word, KeepsPieces}

-- an identifier is kept as one, and every other token stays
abbrev pub keeps_spelled : Put → LineFront → Kind → ℕ → List ℕ → Bool
keeps_spelled put front Ident at text = keeps_word put front at text
keeps_spelled put front _ at text = stays put at text

-- what stands on the line before a token, which is the first of its line or not
abbrev pub front_before : Bool → LineFront → LineFront
front_before first front = if first then Nothing else front

-- So it is with each token; for each it is given whether it is the first of its line, and `front` stands on the
-- line of the token before.
abbrev pub keeps_tokens : Put → LineFront → List Token → List Bool → Bool
keeps_tokens put front [] firsts = true
keeps_tokens put front (t ∷ toks) firsts =
    keeps_spelled put (front_before (get_or firsts 0 false) front) t.kind t.at.at t.text
    && keeps_tokens put (with_token t.text (front_before (get_or firsts 0 false) front)) toks (drop 1 firsts)

-- character `at` is one of these tokens' characters
abbrev pub lies_in : List Token → ℕ → Bool
lies_in toks at = list_any (λ t. nat_le t.at.at at && nat_lt at (t.at.at + length t.text)) toks

-- a character that is in no token of the file stays
abbrev pub ChangesTokens : Put → List Token → Type 0
ChangesTokens put toks = (at c : ℕ) → lies_in toks at ≡ false → put at c ≡ c ∷ []

-- Where each token is kept and all else stays, each piece of the text is kept.
abbrev pub KeptTokensKeepPieces : Type 0
KeptTokensKeepPieces = (file : ℕ) (bytes : List ℕ) (put : Put) → keeps_tokens put Nothing (tokens_of file bytes) (firsts_of bytes) ≡ true
    → ChangesTokens put (tokens_of file bytes) → KeepsPieces put bytes
