-- Each kept file keeps its pieces.
use Rattle.std.proofs.Common.{◌≡◌, ℕ, ◌+◌, ◌<◌, ◌&&◌, ◌||◌, not, nat_le, nat_lt, true, false, codes, List, [], ◌∷◌, length, Option, None, Some, inl, inr, refl, sym, ap, subst, ◌∙◌, arith}
use Rattle.std.specs.Prelude.{slice_get}
use Rattle.std.specs.List.{list_any}
use Rattle.std.specs.Str.{bytes_eq}
use Rattle.std.proofs.lemmas.Bool.{cases_Bool, both_ways, and_from, le-leb, lt-ltb, or_left, or_right}
use Rattle.std.proofs.lemmas.Option.{same_Some}
use Rattle.cs_base.proofs.FileMapLemmas.{bytes_eq-equal}
use Rattle.cs_base.proofs.ListLemmas.{any_at}
use Rattle.cs_base.specs.declared.positions.Part.{Part}
use Rattle.cs_base.specs.declared.positions.Pos.{Pos}
use Rattle.cs_base.specs.Reserved.{is_reserved_text}
use Rattle.cs_base.specs.Token.{Token, has_origins}
use Rattle.lexer.specs.Places.{pos}
use Rattle.lexer.specs.Respelling.{Put, respell, stays}
use Rattle.lexer.specs.KeptTokens.{lies_in, ChangesTokens}
use Rattle.lexer.specs.Tokens.{tokens_of, firsts_of}
use Rattle.lexer.proofs.KeptTokensLaw.{kept_tokens_keep_pieces}
use Rattle.line_shape.specs.Items.{lines_of}
use Rattle.line_shape.specs.Signs.{is_name}
use Rattle.line_shape.proofs.SignLemmas.{name_kept as named_parted}
use Rattle.analysis.specs.Below.eclass_map.Positions.{holds}
use Rattle.analysis.specs.Below.eclass_map.ClassTable.{part_of_file}
use Rattle.analysis.proofs.Below.eclass_map.TokenFacts.{holding, holds_along}
use Rattle.source_files.specs.KeptFiles.{KeptValue, kept_at}
use Rattle.part_respell.specs.Respelled.{member_over, put_of, spelled, spelled_from}
use Rattle.analysis.specs.Analysed.{Analysed}
use Rattle.analysis.specs.FileTokens.{file_tokens, span_of}
use Rattle.analysis.specs.TokenSearch.{AreInLine}
use Rattle.analysis.proofs.NamingLemmas.{in_left}
use Rattle.analysis.proofs.PlaceNameLemmas.{kept_number}
use Rattle.analysis.proofs.TokenPlaceLemmas.{token_placed, tokens_in_line}
use Rattle.analysis.proofs.TokenSearchLemmas.{over_once}
use Rattle.rename_rules.specs.Tokens.{holders, pasted_tokens}
use Rattle.offences.specs.Tokens.{holds_member}
use Rattle.edited_unit_laws.specs.Lines.{Each}
use Rattle.edited_unit_laws.proofs.EditedTokenLemmas.{respell-spelled}
use Rattle.rename_meaning.specs.Allowed.{IsAllowed}
use Rattle.rename_meaning.specs.KeptFiles.{WordIsFree, FilesKeepPieces}
use Rattle.edited_unit_laws.proofs.ListLemmas.{In, AllOf, all_of}
use Rattle.edited_unit_laws.proofs.FileLemmas.{token_stands, name_spelled, hash_spelled}
use Rattle.rename_meaning.proofs.PutLemmas.{BeginsAt, HoldsNone, put-stays, none-stays, names-stand}
use Rattle.rename_meaning.proofs.SpellLemmas.{is_from, none_from, from_member}
use Rattle.rename_meaning.proofs.WordLemmas.{WordIs, StaysIn, KeptIn, lines_all, tokens-kept}
use Rattle.rename_meaning.proofs.NoneLemmas.{NoneStand, none_stand, no_line, holder, holder_name, holder_free}
use Rattle.rename_meaning.proofs.MemberLemmas.{over_in, over_character, over_begins}
use Rattle.edited_unit_laws.proofs.TableTokenLemmas.{file_token, span_is}
use Rattle.rename_meaning.proofs.CharacterLemmas.{character_file}

-- `L` is reserved
l_reserved : is_reserved_text (codes "L") ≡ true
unfolding is_reserved_text
l_reserved = refl

not_l : (text : List ℕ) → is_reserved_text text ≡ false → not (bytes_eq text (codes "L")) ≡ true
not_l text free = elim (cases_Bool (bytes_eq text (codes "L"))) [
  | inl is ↦ absurd (both_ways (is_reserved_text text) free (ap is_reserved_text (bytes_eq-equal text (codes "L") is) ∙ l_reserved))
  | inr is_not ↦ rw is_not refl
]

pub nothing : (o : Option Part) → ((m : Part) → o ≡ Some m → ⊥) → o ≡ None
nothing None h = refl
nothing (Some m) h = absurd (h m refl)

-- What is known of a kept file.
module _ (a : Analysed) (members : List Part) (name : List ℕ) (h : IsAllowed a members name) (n : ℕ) (f : KeptValue) (is : kept_at a.value.table n ≡ Some f) where
  abbrev put : Put
  put = put_of members name f.number

  pub none : NoneStand a.value members name
  none = none_stand a.value members name h.first

  number_is : f.number ≡ n
  number_is = kept_number a.value.table n f is

  -- what a member holds of this file lies in an identifier or pp-number of it
  pub over_token : (at : ℕ) (m : Part) → member_over members (pos f.number at) ≡ Some m
      → (t : Token) × In t (tokens_of f.number f.bytes) × (has_origins t.kind ≡ true) × (holds (span_of t) (pos f.number at) ≡ true)
  over_token at m over =
      let p : Pos = pos f.number at in
      let part = h.class.part in
      let listed = h.class.listed in
      let i = over_in a.value members part listed p m over in
      let same : m.start.file ≡ f.number = (holding m p i.1).file in
      let no : f.number ≡ 0 → ⊥ = λ zero_file. no_line a.value members name none m i.0 (same ∙ zero_file) in
      let r = character_file a.value h.source h.workspace h.accepted p (over_character a.value members part listed p m over) no in
      let k : kept_at a.value.table f.number ≡ Some f = subst (λ (j : ℕ). kept_at a.value.table j ≡ Some f) (sym number_is) is in
      let file : r.1.file ≡ f = same_Some r.1.file f (sym r.1.is_kept ∙ k) in
      (r.0, subst (λ (g : KeptValue). In r.0 (tokens_of g.number g.bytes)) file r.1.there, r.1.parted, r.1.held)

  pub token_held : (t : Token) (k : ℕ) → In t (tokens_of f.number f.bytes) → k < length t.text → holds (span_of t) (pos f.number (t.at.at + k)) ≡ true
  token_held t k i less =
      let span = (token_placed f.number f.bytes i.0 t i.1).span in
      let there = holds_along (part_of_file f.number t.at.at (length t.text)) k less in
      subst (λ (q : Part). holds q (pos f.number (t.at.at + k)) ≡ true) (sym span) there

  pub once : (t u : Token) (p : Pos) → In t (tokens_of f.number f.bytes) → In u (tokens_of f.number f.bytes) → p.file ≡ f.number
      → holds (span_of t) p ≡ true → holds (span_of u) p ≡ true → t ≡ u
  once t u p i j there held also =
      let line : AreInLine p.file (tokens_of f.number f.bytes) = subst (λ (k : ℕ). AreInLine k (tokens_of f.number f.bytes)) (sym there) (tokens_in_line f.number f.bytes) in
      let e = over_once (tokens_of f.number f.bytes) p i.0 j.0 t u line i.1 j.1 held also in
      same_Some t u (sym i.1 ∙ subst (λ (k : ℕ). slice_get (tokens_of f.number f.bytes) k ≡ Some u) (sym e) j.1)

  -- a token that a member holds a character of
  pub touched : (t : Token) (k : ℕ) (m : Part) → In t (tokens_of f.number f.bytes) → k < length t.text → member_over members (pos f.number (t.at.at + k)) ≡ Some m
      → (has_origins t.kind ≡ true) × (holds_member members t ≡ true)
  touched t k m i less over =
      let p : Pos = pos f.number (t.at.at + k) in
      let r = over_token (t.at.at + k) m over in
      let same : r.0 ≡ t = once r.0 t p r.1 i refl r.3 (token_held t k i less) in
      let stands = token_stands f.number f.bytes t i in (
        subst (λ (u : Token). has_origins u.kind ≡ true) same r.2,
        ap (λ (os : List (Option Pos)). list_any (is_from members) os) stands.origins
            ∙ from_member members f.number t.at.at (length t.text) k m less over,
      )

  -- a token that holds a member is among those that do
  pub holder_in : (t : Token) → In t (tokens_of f.number f.bytes) → has_origins t.kind ≡ true → holds_member members t ≡ true → In t (holders a.value members)
  holder_in t i parted held =
      holder a.value members name none t
      (in_left t (file_tokens a.value) (pasted_tokens a.value) (file_token a.value n f t is i parted)) held

  -- a token without a member
  pub free_none : (t : Token) → In t (tokens_of f.number f.bytes) → holds_member members t ≡ false → HoldsNone members name f.number t.at.at t.text
  free_none t i free =
      let stands = token_stands f.number f.bytes t i in
      none_from members f.number t.at.at (length t.text)
      (ap (λ (os : List (Option Pos)). list_any (is_from members) os) (sym stands.origins) ∙ free)

  pub free_stays : (t : Token) → In t (tokens_of f.number f.bytes) → holds_member members t ≡ false → StaysIn put t
  free_stays t i free = none-stays members name f.number t.at.at t.text (free_none t i free)

  -- what is no identifier holds none
  pub other_free : (t : Token) → In t (tokens_of f.number f.bytes) → is_name t ≡ false → HoldsNone members name f.number t.at.at t.text
  other_free t i other = λ k less.
      nothing (member_over members (pos f.number (t.at.at + k))) (λ m over.
      let r = touched t k m i less over in
      let named = holder_name a.value members name none t (holder_in t i r.0 r.1) r.1 in
      both_ways (is_name t) other named)

  new_text : (t : Token) → In t (tokens_of f.number f.bytes) → respell put t.at.at t.text ≡ spelled members name t
  new_text t i =
      let stands = token_stands f.number f.bytes t i in
      respell-spelled members name f.number t.at.at t.text
      ∙ ap (λ (os : List (Option Pos)). spelled_from members name os t.text) (sym stands.origins)

  name_new : (t : Token) → In t (tokens_of f.number f.bytes) → is_name t ≡ true
      → (stays put t.at.at t.text || not (bytes_eq (respell put t.at.at t.text) (codes "L"))) ≡ true
  name_new t i named = elim (cases_Bool (holds_member members t)) [
    | inl held ↦
        let free = holder_free a.value members name none t (holder_in t i (named_parted t.kind named) held) held in
        or_right (stays put t.at.at t.text) (not (bytes_eq (respell put t.at.at t.text) (codes "L")))
        (ap (λ (w : List ℕ). not (bytes_eq w (codes "L"))) (new_text t i) ∙ not_l (spelled members name t) free.1)
    | inr free ↦ or_left (stays put t.at.at t.text) (not (bytes_eq (respell put t.at.at t.text) (codes "L"))) (free_stays t i free)
  ]

  begins : (t : Token) → In t (tokens_of f.number f.bytes) → is_name t ≡ true → BeginsAt members (pos f.number t.at.at)
  begins t i named = λ m over.
      let span = (token_placed f.number f.bytes i.0 t i.1).span in
      let token = span_is a.value t (file_token a.value n f t is i (named_parted t.kind named)) in
      let start : (span_of t).start ≡ pos f.number t.at.at = ap (λ (q : Part). q.start) span in
      let there : member_over members (span_of t).start ≡ Some m = ap (member_over members) start ∙ over in
      over_begins a.value members h.class.part h.class.listed (span_of t) m token there ∙ ap (λ (q : Pos). q.at) start

  token_kept : (t : Token) → In t (tokens_of f.number f.bytes) → KeptIn put t
  token_kept t i =
      let stands = token_stands f.number f.bytes t i in
      record {
        other = λ other. none-stays members name f.number t.at.at t.text (other_free t i other);
        stands = λ named. names-stand members name f.number t.at.at t.text h.identifier (name_spelled f.number t stands named) (begins t i named);
        new = λ named. name_new t i named;
        hash = λ hash. hash_spelled f.number t stands hash;
      }

  -- ---- all else stays

  lies : (at : ℕ) (t : Token) → In t (tokens_of f.number f.bytes) → holds (span_of t) (pos f.number at) ≡ true → lies_in (tokens_of f.number f.bytes) at ≡ true
  lies at t i held =
      let span = (token_placed f.number f.bytes i.0 t i.1).span in
      let q = holding (part_of_file f.number t.at.at (length t.text)) (pos f.number at) (subst (λ (s : Part). holds s (pos f.number at) ≡ true) span held) in
      let from = q.from in
      let less = q.less in
      any_at (λ (u : Token). nat_le u.at.at at && nat_lt at (u.at.at + length u.text)) (tokens_of f.number f.bytes) i.0 t i.1
      (and_from (nat_le t.at.at at) (nat_lt at (t.at.at + length t.text)) (le-leb t.at.at at from) (lt-ltb at (t.at.at + length t.text) (omega arith)))

  changes : ChangesTokens put (tokens_of f.number f.bytes)
  changes at c outside =
      put-stays members name (pos f.number at) c
      (nothing (member_over members (pos f.number at)) (λ m over.
      let r = over_token at m over in
      both_ways (lies_in (tokens_of f.number f.bytes) at) outside (lies at r.0 r.1 r.3)))

-- ---- words

module _ (members : List Part) (put : Put) where
  -- what holds no member stays
  abbrev pub StaysIfFree : Token → Type 0
  StaysIfFree t = holds_member members t ≡ false → StaysIn put t

  words_stay : (lines : List (List Token)) → AllOf (AllOf StaysIfFree) lines → Each (WordIsFree members) lines → AllOf (WordIs (StaysIn put)) lines
  words_stay [] stay free = tt
  words_stay ([] ∷ lines) stay free = (tt, words_stay lines stay.1 free.1)
  words_stay ((hash ∷ []) ∷ lines) stay free = (tt, words_stay lines stay.1 free.1)
  words_stay ((hash ∷ word ∷ operands) ∷ lines) stay free = (λ is. (let s = stay.0.1.0 in s) (free.0 is).0, words_stay lines stay.1 free.1)

pub files_keep_pieces : FilesKeepPieces
files_keep_pieces = λ a members name h words n f is.
    let put : Put = put_of members name f.number in
    let toks = tokens_of f.number f.bytes in
    let stay : AllOf (StaysIfFree members put) toks = all_of (StaysIfFree members put) toks (λ t i. free_stays a members name h n f is t i) in
    let lines = lines_all (StaysIfFree members put) toks (firsts_of f.bytes) stay in
    kept_tokens_keep_pieces f.number f.bytes put
    (tokens-kept put toks (firsts_of f.bytes) _ refl (all_of (KeptIn put) toks (λ t i. token_kept a members name h n f is t i))
    (words_stay members put (lines_of toks (firsts_of f.bytes)) lines (words n f is)))
    (changes a members name h n f is)
