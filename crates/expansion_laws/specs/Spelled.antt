-- Tokens that are spelled as their kind says (ISO/IEC 9899:1999, 6.4), also those that are pasted: the
-- standard asks that these are tokens (6.10.3.3 paragraph 3), and white space or a comment in what two
-- tokens make together is found to be none.
use Rattle.std.specs.Prelude.{◌≡◌, ◌^◌, ℕ, nat_lt, ◌&&◌, ◌||◌, ◌==◌, Bool, true, false, not, is_some, List, [], ◌∷◌, Ok, Some}
use Rattle.std.specs.List.{list_all}
use Rattle.cs_base.specs.declared.tokens.Kind.{Kind}
use Rattle.cs_base.specs.declared.tokens.Kind.TheVariants.{Ident, Number, Char, Str, Punct, Header, Other}
use Rattle.cs_base.specs.Token.{Token, has_origins}
use Rattle.lexer.specs.Characters.{less_than, double_quote, capital_l, is_quote, is_white, is_word, begins}
use Rattle.lexer.specs.Spelling.{is_identifier_text, is_number_text, is_punctuator_text, kind_of}
use Rattle.macro_body.specs.declared.notes.Work.{Work}
use Rattle.macro_body.specs.declared.definitions.Definition.{Definition}
use Rattle.macro_body.specs.Macro.{Table}
use Rattle.macro_body.specs.Notes.{Expanded}
use Rattle.macro_expand.specs.Expansion.{links_name, expansion}
use Rattle.expansion_laws.specs.Passing.{ExpansionPasses}

-- the first character is a quote
abbrev pub quote_first : List ℕ → Bool
quote_first [] = false
quote_first (c ∷ cs) = is_quote c

-- a quote stands first, or an `L` and a quote (6.4.4.4, 6.4.5)
abbrev pub begins_quoted : List ℕ → Bool
begins_quoted [] = false
begins_quoted (c ∷ cs) = is_quote c || (c == capital_l && quote_first cs)

-- one character that is no white space, and no token of another kind
abbrev pub is_lone : List ℕ → Bool
is_lone (c ∷ []) = not (is_white c) && not (is_some (kind_of (c ∷ [])))
is_lone _ = false

-- a text is spelled as this kind says. Of character constants, strings and header names it is the
-- beginning alone; and what begins as a header name may be a `<` with a comment behind it.
abbrev pub fits : Kind → List ℕ → Bool
fits Ident text = is_identifier_text text
fits Number text = is_number_text text
fits Char text = begins_quoted text
fits Str text = begins_quoted text
fits Punct text = is_punctuator_text text || begins less_than text
fits Header text = begins less_than text || begins double_quote text
fits Other text = is_lone text

-- a token is spelled so, and stands on a line that has a number
abbrev pub is_spelled : Token → Bool
is_spelled t = fits t.kind t.text && nat_lt t.line (2 ^ 64)

-- What is spelled with letters, digits and `_` alone is an identifier or a pp-number; and so is each
-- identifier spelled.
pub record WordsAreNames : Type 0 where
  pub names : (kind : Kind) (text : List ℕ) → fits kind text ≡ true → list_all is_word text ≡ true → has_origins kind ≡ true
  pub words : (text : List ℕ) → fits Ident text ≡ true → list_all is_word text ≡ true

-- so are the tokens of macros: those of replacement lists, and names that are linked
pub record MacrosAreSpelled (table : Table) : Type 0 where
  pub bodies : (name : List ℕ) (m : Definition) → table name ≡ Some m → list_all is_spelled m.body ≡ true
  pub names : (name : List ℕ) (m : Definition) → table name ≡ Some m → links_name m.form ≡ true → is_spelled m.name ≡ true

-- The law: where the tokens of the run and of macros are spelled as their kinds say, so are those of the
-- expansion: in particular, each identifier among them is spelled as an identifier.
abbrev pub TokensAreSpelled : Type 0
TokensAreSpelled = (table : Table) (path : List ℕ) (run : List Token) (work : Work) (e : Expanded)
    → expansion table path run work ≡ Ok e → MacrosAreSpelled table → list_all is_spelled run ≡ true → ExpansionPasses is_spelled e
