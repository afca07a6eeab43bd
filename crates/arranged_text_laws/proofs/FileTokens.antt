-- The tokens of a file, by their numbers: where each begins and ends among the characters, and what stands on its line.
use Rattle.std.proofs.Common.{◌≡◌, ℕ, zero, suc, ◌+◌, Bool, true, false, ◌&&◌, ◌||◌, List, [], ◌∷◌, length, take, Option, Some, None, codes, inl, inr, refl, sym, ap, subst, ◌∙◌, arith}
use Rattle.std.specs.Prelude.{slice_get}
use Rattle.std.specs.List.{list_all}
use Rattle.std.specs.Option.{option_map}
use Rattle.std.specs.Str.{bytes_eq}
use Rattle.std.proofs.lemmas.Bool.{or_cases}
use Rattle.std.proofs.lemmas.Slice.Eq.{bytes_eq-Decides}
use Rattle.std.proofs.lemmas.List.{length-take-le}
use Rattle.std.proofs.lemmas.Option.{slice_get-map, same_Some as some_same}
use Rattle.cs_base.specs.declared.tokens.Kind.{Kind}
use Rattle.cs_base.specs.declared.tokens.Kind.TheVariants.{Punct}
use Rattle.cs_base.specs.Token.{Token}
use Rattle.lexer.specs.Places.{origins_from}
use Rattle.lexer.specs.Front.{front_of}
use Rattle.lexer.specs.Tokens.{Found, FoundToken, FoundOpen, is_hash_text, is_line_start, expects_header, kind_or_other, found_of, tokens_in, tokens_of, firsts_in, firsts_of, open_comment_of}
use Rattle.lexer.proofs.KindLemmas.{front_of-front}
use Rattle.lexer.proofs.ScanLemmas.{firsts_of-file as firsts_of_file}
use Rattle.lexer.specs.Spelling.{kind_in, kind_of, is_punctuator_text}
use Rattle.line_shape.specs.Signs.{is_punctuator, is_hash}
use Rattle.arranged_text_laws.specs.Marks.{line_start}
use Rattle.arranged_text_laws.specs.Calm.{is_shut}
use Rattle.arranged_text_laws.specs.Weighed.{together}
use Rattle.arranged_text_laws.specs.Runs.{Placed}
use Rattle.arranged_text_laws.specs.FileItems.{placed}
use Rattle.arranged_text_laws.proofs.LeadLemmas.{start_known}
use Rattle.arranged_text_laws.proofs.TokenLaw.{shut_file}
use Rattle.arranged_text_laws.proofs.Walk.{bare, Spot, spot}
use Rattle.arranged_text_laws.proofs.FileWalk.{own_at, chars_of, entries_of, entries_shut, bare_all, found_own_all}

-- ---- what is found, and tokens

shut_token : (fs : List Found) (k : ℕ) (t : Token) → list_all is_shut fs ≡ true → slice_get (tokens_in fs) k ≡ Some t
    → (first : Bool) × (slice_get fs k ≡ Some (FoundToken t first))
shut_token [] k t shut there = absurd cc
shut_token (FoundToken u first ∷ fs) zero t shut there =
    (first, ap (λ (o : Option Token). option_map (λ (v : Token). FoundToken v first) o) there)
shut_token (FoundToken u first ∷ fs) (suc k) t shut there = shut_token fs k t shut there
shut_token (FoundOpen at ∷ fs) k t shut there = absurd cc

shut_placed : (fs : List Found) (k : ℕ) (t : Token) (first : Bool) → list_all is_shut fs ≡ true → slice_get fs k ≡ Some (FoundToken t first)
    → slice_get (placed (tokens_in fs) (firsts_in fs)) k ≡ Some (record { tok = t; first = first })
shut_placed [] k t first shut there = absurd cc
shut_placed (FoundToken u b ∷ fs) zero t first shut there = ap (option_map placed_of) there
  where
    placed_of : Found → Placed
    placed_of (FoundToken v c) = record { tok = v; first = c }
    placed_of (FoundOpen at) = record { tok = u; first = b }
shut_placed (FoundToken u b ∷ fs) (suc k) t first shut there = shut_placed fs k t first shut there
shut_placed (FoundOpen at ∷ fs) k t first shut there = absurd cc

-- ---- `#`

-- a token is `#` by its kind and its spelling, where it is by its spelling
abbrev pub SignAgrees : Token → Type 0
SignAgrees t = is_hash t ≡ is_hash_text t.text

hash_kind : (header : Bool) (text : List ℕ) → is_hash_text text ≡ true → kind_or_other header text ≡ Punct
unfolding kind_in kind_of is_punctuator_text
hash_kind header text h = elim (or_cases (bytes_eq text (codes "#")) (bytes_eq text (codes "%:")) h) [
  | inl one ↦ ap (kind_or_other header) ((bytes_eq-Decides text (codes "#")).0 one) ∙ sign header
  | inr two ↦ ap (kind_or_other header) ((bytes_eq-Decides text (codes "%:")).0 two) ∙ digraph header
]
  where
    sign : (header : Bool) → kind_or_other header (codes "#") ≡ Punct
    sign true = refl
    sign false = refl

    digraph : (header : Bool) → kind_or_other header (codes "%:") ≡ Punct
    digraph true = refl
    digraph false = refl

hash_agrees : (t : Token) → (is_hash_text t.text ≡ true → t.kind ≡ Punct) → SignAgrees t
unfolding is_hash
hash_agrees t h = both (is_punctuator t.kind) (bytes_eq t.text (codes "#")) (bytes_eq t.text (codes "%:")) (λ e. ap is_punctuator (h e))
  where
    both : (p x y : Bool) → ((x || y) ≡ true → p ≡ true) → ((p && x) || (p && y)) ≡ (x || y)
    both true x y h = refl
    both false true y h = h refl
    both false false true h = h refl
    both false false false h = refl

-- ---- a token of a file

-- Token k: where it is found.
pub record TokenAt (file : ℕ) (bytes : List ℕ) (k : ℕ) (t : Token) : Type 0 where
  pub first : Bool
  pub found : slice_get (found_of file bytes) k ≡ Some (FoundToken t first)
  pub in_placed : slice_get (placed (tokens_of file bytes) (firsts_of bytes)) k ≡ Some (record { tok = t; first = first })
  pub entry : Found
  pub in_entries : slice_get (together (entries_of bytes)) k ≡ Some entry
  pub spot_of : Spot 0 true line_start 0 true (chars_of bytes) k entry
  pub place : t.at.at ≡ spot_of.place
  pub kind : t.kind ≡ (front_of (expects_header spot_of.now) spot_of.c spot_of.rest).0
  pub text : t.text ≡ take (suc (front_of (expects_header spot_of.now) spot_of.c spot_of.rest).1) (spot_of.c ∷ spot_of.rest)
  pub first_is : first ≡ is_line_start spot_of.now
  pub ends : t.at.at + length t.text ≡ spot_of.end
  pub own : t.origins ≡ origins_from file t.at.at (length t.text)
  pub sign : SignAgrees t

abbrev kind_in_found : Kind → Found → Kind
kind_in_found d (FoundToken t first) = t.kind
kind_in_found d (FoundOpen at) = d

abbrev text_in_found : Found → List ℕ
text_in_found (FoundToken t first) = t.text
text_in_found (FoundOpen at) = []

abbrev place_in_found : Found → ℕ
place_in_found (FoundToken t first) = t.at.at
place_in_found (FoundOpen at) = at

abbrev first_in_found : Found → Bool
first_in_found (FoundToken t first) = first
first_in_found (FoundOpen at) = false

some_found : (o : Option Found) (f : Found) → option_map bare o ≡ Some f → (g : Found) × (o ≡ Some g) × (bare g ≡ f)
some_found None f e = absurd cc
some_found (Some g) f e = (g, refl, some_same (bare g) f e)

module _ (file : ℕ) (bytes : List ℕ) (none : open_comment_of bytes ≡ None) where
  pub token_at : (k : ℕ) (t : Token) → slice_get (tokens_of file bytes) k ≡ Some t → TokenAt file bytes k t
  unfolding tokens_of
  token_at k t there =
      let fs = found_of file bytes in
      let shut = shut_file file bytes none in
      let f = shut_token fs k t shut there in
      let F = FoundToken t f.0 in
      let same : option_map bare (slice_get (together (entries_of bytes)) k) ≡ Some (bare F) =
      sym (slice_get-map bare (together (entries_of bytes)) k) ∙ ap (λ (l : List Found). slice_get l k) (sym (bare_all file bytes none))
      ∙ slice_get-map bare fs k ∙ ap (option_map bare) f.1 in
      let g = some_found (slice_get (together (entries_of bytes)) k) (bare F) same in
      let s = spot (chars_of bytes) 0 true line_start 0 true k g.0 start_known (λ h. inl refl) (entries_shut file bytes none) g.1 in
      let is = sym g.2 ∙ s.is in
      let header = expects_header s.now in
      let front = front_of header s.c s.rest in
      let within = (front_of-front header s.c s.rest).within in
      let spelled = (front_of-front header s.c s.rest).spelled in
      let zero : 0 + s.place ≡ s.place = omega arith in
      let kind : t.kind ≡ front.0 = ap (kind_in_found t.kind) is in
      let text : t.text ≡ take (suc front.1) (s.c ∷ s.rest) = ap text_in_found is in
      let place : t.at.at ≡ s.place = ap place_in_found is ∙ zero in
      let size : length t.text ≡ suc front.1 = ap length text ∙ length-take-le (suc front.1) (s.c ∷ s.rest) (omega (arith, within)) in
      record {
        first = f.0;
        found = f.1;
        in_placed = subst (λ (l : List Bool). slice_get (placed (tokens_in fs) l) k ≡ Some (record { tok = t; first = f.0 })) (firsts_of_file file bytes) (shut_placed fs k t f.0 shut f.1);
        entry = g.0;
        in_entries = g.1;
        spot_of = s;
        place = place;
        kind = kind;
        text = text;
        first_is = ap first_in_found is;
        ends = let e = s.end_is in omega (arith, place, size, e);
        own = own_at file fs k F (found_own_all file bytes none) f.1;
        sign = hash_agrees t (λ h. kind ∙ sym spelled ∙ ap (kind_or_other header) (sym text) ∙ hash_kind header t.text h);
      }
