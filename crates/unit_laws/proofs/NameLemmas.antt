-- Identifiers of a unit are made of identifiers and pp-numbers of kept files.
use Rattle.std.proofs.Common.{◌≡◌, ℕ, zero, suc, ◌^◌, ◌&&◌, Bool, true, false, nat_lt, List, [], ◌∷◌, Some, refl, sym, subst}
use Rattle.std.specs.Prelude.{slice_get}
use Rattle.std.specs.List.{list_all}
use Rattle.std.proofs.lemmas.List.{append-nil}
use Rattle.std.proofs.lemmas.Option.{none-some, same_Some}
use Rattle.std.proofs.lemmas.Bool.{and_parts}
use Rattle.cs_base.specs.declared.tokens.Kind.{Kind}
use Rattle.cs_base.specs.declared.tokens.Kind.TheVariants.{Ident, Number, Char, Str, Punct, Header, Other}
use Rattle.cs_base.specs.Token.{Token}
use Rattle.lexer.specs.Characters.{is_word}
use Rattle.line_shape.specs.Signs.{is_identifier, is_name}
use Rattle.source_files.specs.Files.{Table}
use Rattle.unit_steps.specs.Texts.{UnitTextValue}
use Rattle.expansion_laws.specs.Pieces.{IsOneOf, IsMadeOf, IsWhole, AreWhole}
use Rattle.expansion_laws.specs.Spelled.{fits, is_spelled}
use Rattle.expansion_laws.proofs.ListLemmas.{toks_at, toks_pass}
use Rattle.expansion_laws.proofs.ShapeLemmas.{words_are_names, names_are_words}
use Rattle.unit_laws.specs.UnitTokens.{FilesAreWhole, NumbersAreWhole}
use Rattle.unit_laws.specs.UnitNames.{HasNames, NamesAreMade, UnitNamesAreMade}
use Rattle.unit_laws.proofs.TokenLemmas.{unit_links_are_alike, unit_tokens_are_whole}
use Rattle.unit_laws.proofs.SpellingLemmas.{files_are_spelled, unit_tokens_are_spelled}

spelled_fits : (t : Token) → is_spelled t ≡ true → fits t.kind t.text ≡ true
spelled_fits t h = (and_parts (fits t.kind t.text) (nat_lt t.line (2 ^ 64)) h).0

-- ---- a token of the list

pub only_one : (t piece : Token) (k : ℕ) → slice_get (t ∷ []) k ≡ Some piece → t ≡ piece
only_one t piece zero e = same_Some t piece e
only_one t piece (suc k) e = absurd (none-some piece e)

one_made : (files : List Token) (t : Token) → IsOneOf files t → IsMadeOf files t
one_made files t at = record {
  pieces = t ∷ [];
  each = λ piece there. subst (IsOneOf files) (only_one t piece there.0 there.1) at;
  text = sym (append-nil t.text);
  origins = sym (append-nil t.origins);
}

-- ---- what the list has

files_whole : (files : List Token) (table : Table) (text : UnitTextValue) → HasNames files table text → FilesAreWhole is_word files table
files_whole files table text has = λ number file is t at words.
    let spelled : is_spelled t ≡ true =
    toks_at (λ u. is_spelled u ≡ true) file.text.toks (toks_pass is_spelled file.text.toks (files_are_spelled table number file is)) t at.0 at.1 in
    one_made files t (has.kept number file t is at (words_are_names t.kind t.text (spelled_fits t spelled) words))

numbers_whole : (files : List Token) (table : Table) (text : UnitTextValue) → HasNames files table text → NumbersAreWhole is_word files text
numbers_whole files table text has = record {
  lines = λ e name at brings words. one_made files _ (has.lines e name at brings);
  answers = λ t at words. one_made files t (has.answers t at);
}

-- ---- identifiers

pub kind_words : (k : Kind) (text : List ℕ) → is_identifier k ≡ true → fits k text ≡ true → list_all is_word text ≡ true
kind_words Ident text h fit = names_are_words text fit
kind_words Number text h fit = absurd (cc)
kind_words Char text h fit = absurd (cc)
kind_words Str text h fit = absurd (cc)
kind_words Punct text h fit = absurd (cc)
kind_words Header text h fit = absurd (cc)
kind_words Other text h fit = absurd (cc)

name_made : (files : List Token) (t : Token) → is_spelled t ≡ true → IsWhole is_word files t → is_name t ≡ true → IsMadeOf files t
name_made files t spelled whole name = whole (kind_words t.kind t.text name (spelled_fits t spelled))

names_made : (files toks : List Token) → list_all is_spelled toks ≡ true → AreWhole is_word files toks → NamesAreMade files toks
names_made files toks spelled whole = λ t at name.
    name_made files t (toks_at (λ u. is_spelled u ≡ true) toks (toks_pass is_spelled toks spelled) t at.0 at.1) (whole t at) name

pub unit_names_are_made : UnitNamesAreMade
unit_names_are_made = λ files source number unit before p is has.
    let whole = unit_tokens_are_whole is_word files source number unit before p refl is (files_whole files p.after.table p.text has) (numbers_whole files p.after.table p.text has) in
    let spelled = unit_tokens_are_spelled source number unit before p is in
    record {
      toks = names_made files p.text.toks spelled.toks whole.toks;
      links = λ l at.
          let alike = unit_links_are_alike source number unit before p is l at in
          let both = spelled.links l at in
          let parts = whole.links l at in
          record { first = name_made files l.x both.0 parts.0 alike.first; second = name_made files l.y both.1 parts.1 alike.second };
      pasted = names_made files p.text.pasted spelled.pasted whole.pasted;
      stringized = names_made files p.text.stringized spelled.stringized whole.stringized;
      header = names_made files p.text.header spelled.header whole.header;
      names = λ e name at named is_one. name_made files name (spelled.names e name at named) (whole.names e name at named) is_one;
    }
