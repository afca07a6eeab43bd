-- What stands for the characters of a token where members of a class are spelled otherwise.
use Rattle.std.proofs.Common.{◌≡◌, ℕ, suc, ◌+◌, ◌<◌, ◌==◌, ◌||◌, Bool, true, false, List, [], ◌∷◌, length, Option, None, Some, refl, sym, ap, subst, ◌∙◌, arith}
use Rattle.std.specs.Prelude.{if◌then◌else◌}
use Rattle.std.specs.List.{list_all}
use Rattle.std.specs.Option.{option_map_or}
use Rattle.std.specs.Str.{bytes_eq}
use Rattle.std.proofs.lemmas.Bool.{and_parts, and_from, or_left, or_right, eq-eqb}
use Rattle.cs_base.proofs.FileMapLemmas.{bytes_eq-same}
use Rattle.cs_base.specs.declared.positions.Part.{Part}
use Rattle.cs_base.specs.declared.positions.Pos.{Pos}
use Rattle.lexer.specs.Characters.{is_nondigit, is_word}
use Rattle.lexer.specs.Spelling.{is_identifier_text}
use Rattle.lexer.specs.Places.{pos}
use Rattle.lexer.specs.Respelling.{Put, stays, words_stand, names_stand}
use Rattle.part_respell.specs.Respelled.{member_over, put_in, put_at, put_of}
use Rattle.lexer.proofs.FitLemmas.{identifier-words}

-- ---- characters

-- a character that no member holds stays
pub put-stays : (members : List Part) (name : List ℕ) (p : Pos) (c : ℕ) → member_over members p ≡ None → put_at members name p c ≡ c ∷ []
put-stays members name p c none = ap (λ (o : Option Part). option_map_or (put_in name p) o (c ∷ [])) none

word_in : (name : List ℕ) (b : Bool) → list_all is_word name ≡ true → list_all is_word (if b then name else []) ≡ true
word_in name true words = words
word_in name false words = refl

pub put_words : (name : List ℕ) (p : Pos) (c : ℕ) (o : Option Part) → list_all is_word name ≡ true → is_word c ≡ true
    → list_all is_word (option_map_or (put_in name p) o (c ∷ [])) ≡ true
put_words name p c None words word = and_from (is_word c) true word refl
put_words name p c (Some m) words word = word_in name (m.start.at == p.at) words

-- what holds the character begins there
abbrev pub BeginsAt : List Part → Pos → Type 0
BeginsAt members p = (m : Part) → member_over members p ≡ Some m → m.start.at ≡ p.at

put_name : (name : List ℕ) (p : Pos) (c : ℕ) (o : Option Part) → is_identifier_text name ≡ true → ((m : Part) → o ≡ Some m → m.start.at ≡ p.at)
    → (bytes_eq (option_map_or (put_in name p) o (c ∷ [])) (c ∷ []) || is_identifier_text (option_map_or (put_in name p) o (c ∷ []))) ≡ true
put_name name p c None is begins =
    or_left (bytes_eq (c ∷ []) (c ∷ [])) (is_identifier_text (c ∷ [])) (bytes_eq-same (c ∷ []))
put_name name p c (Some m) is begins =
    let here : (m.start.at == p.at) ≡ true = eq-eqb m.start.at p.at (begins m refl) in
    rw here (or_right (bytes_eq name (c ∷ [])) (is_identifier_text name) is)

module _ (members : List Part) (name : List ℕ) (file : ℕ) where
  abbrev put : Put
  put = put_of members name file

  -- no member holds a character of this text
  abbrev pub HoldsNone : ℕ → List ℕ → Type 0
  HoldsNone at text = (k : ℕ) → k < length text → member_over members (pos file (at + k)) ≡ None

  none_behind : (at c : ℕ) (cs : List ℕ) → HoldsNone at (c ∷ cs) → HoldsNone (at + 1) cs
  none_behind at c cs none = λ k less.
      let same : at + 1 + k ≡ at + suc k = omega arith in
      subst (λ (n : ℕ). member_over members (pos file n) ≡ None) (sym same) (none (suc k) (omega arith))

  pub none-stays : (at : ℕ) (text : List ℕ) → HoldsNone at text → stays put at text ≡ true
  none-stays at [] none = refl
  none-stays at (c ∷ cs) none =
      let same : at + 0 ≡ at = omega arith in
      let here : member_over members (pos file at) ≡ None = subst (λ (n : ℕ). member_over members (pos file n) ≡ None) same (none 0 (omega arith)) in
      let one : put at c ≡ c ∷ [] = put-stays members name (pos file at) c here in
      and_from (bytes_eq (put at c) (c ∷ [])) (stays put (at + 1) cs)
      (ap (λ (w : List ℕ). bytes_eq w (c ∷ [])) one ∙ bytes_eq-same (c ∷ []))
      (none-stays (at + 1) cs (none_behind at c cs none))

  pub words-stand : (at : ℕ) (text : List ℕ) → list_all is_word name ≡ true → list_all is_word text ≡ true → words_stand put at text ≡ true
  words-stand at [] words all = refl
  words-stand at (c ∷ cs) words all =
      let both = and_parts (is_word c) (list_all is_word cs) all in
      and_from (list_all is_word (put at c)) (words_stand put (at + 1) cs)
      (put_words name (pos file at) c (member_over members (pos file at)) words both.0) (words-stand (at + 1) cs words both.1)

  -- an identifier, whose first character no member holds that begins before it
  pub names-stand : (at : ℕ) (text : List ℕ) → is_identifier_text name ≡ true → is_identifier_text text ≡ true → BeginsAt members (pos file at)
      → names_stand put at text ≡ true
  names-stand at [] is identifier begins = refl
  names-stand at (c ∷ cs) is identifier begins =
      let both = and_parts (is_nondigit c) (list_all is_word cs) identifier in
      and_from (bytes_eq (put at c) (c ∷ []) || is_identifier_text (put at c)) (words_stand put (at + 1) cs)
      (put_name name (pos file at) c (member_over members (pos file at)) is begins)
      (words-stand (at + 1) cs (identifier-words name is) both.1)
