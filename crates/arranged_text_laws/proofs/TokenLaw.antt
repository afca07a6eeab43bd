-- The tokens of a file whose items are in a new order, without what is found beside them.
use Rattle.std.proofs.Common.{◌≡◌, ℕ, zero, suc, ◌+◌, ◌-◌, Bool, true, false, ◌&&◌, List, [], ◌∷◌, ◌++◌, length, take, drop, map, Option, Some, None, refl, sym, ap, subst, ◌∙◌}
use Rattle.std.specs.List.{list_all, list_any}
use Rattle.std.proofs.lemmas.List.{take-map, drop-map, map-append, length-map}
use Rattle.cs_base.specs.declared.tokens.Kind.TheVariants.{Other}
use Rattle.cs_base.specs.Token.{Token, token}
use Rattle.cs_base.proofs.ListLemmas.{map-map, map-same}
use Rattle.lexer.specs.Logical.{Character, logical_of}
use Rattle.lexer.specs.Places.{pos}
use Rattle.lexer.specs.Tokens.{Found, FoundToken, FoundOpen, piece_of, piece_length, leaves_gap, line_front_after, expects_header, found_in, found_of, tokens_in, firsts_in, open_in, tokens_of, firsts_of, open_comment_of}
use Rattle.lexer.proofs.ScanLemmas.{firsts_of-file as firsts_of_file}
use Rattle.list_cuts.specs.Cuts.{Cut, done, keep, list, Items, ended, item, span_of, IsOrder, arranged, AreOf}
use Rattle.list_cuts.proofs.CutLemmas.{arranged-map, length-arranged, any-arranged}
use Rattle.arranged_text_laws.specs.Labels.{head_with, masked, masked_items}
use Rattle.arranged_text_laws.specs.Settling.{Front}
use Rattle.arranged_text_laws.specs.Marks.{Mark, text, line_start, marks_of, brought, with_labels}
use Rattle.arranged_text_laws.specs.Weighed.{together}
use Rattle.arranged_text_laws.specs.Outside.{SameOutside}
use Rattle.arranged_text_laws.specs.Calm.{is_shut}
use Rattle.arranged_text_laws.specs.Arranging.{character_cut, moved_found, place_in, line_in, FileArranged}
use Rattle.arranged_text_laws.specs.Tokens.{cut_in, moved_token, token_there, without_gap, not_first, TokensOfFilesAreArranged}
use Rattle.arranged_text_laws.proofs.ViewLemmas.{feeds, whites, lines, blocks, opens, spells, view}
use Rattle.arranged_text_laws.proofs.SeamLemmas.{masked_same}
use Rattle.arranged_text_laws.proofs.FileLemmas.{file_found, of_weighed, texts_arranged, text_marks, files_are_arranged}

-- ---- what is found, all of it tokens

abbrev pub no_token : Token
no_token = token Other [] [] false (pos 0 0) 0 false

abbrev pub token_in : Found → Token
token_in (FoundToken t first) = t
token_in (FoundOpen at) = no_token

abbrev pub first_in : Found → Bool
first_in (FoundToken t first) = first
first_in (FoundOpen at) = false

pub tokens_all : (fs : List Found) → list_all is_shut fs ≡ true → tokens_in fs ≡ map token_in fs
tokens_all [] h = refl
tokens_all (FoundToken t first ∷ fs) h = ap (λ (l : List Token). t ∷ l) (tokens_all fs h)
tokens_all (FoundOpen at ∷ fs) h = absurd cc

pub firsts_all : (fs : List Found) → list_all is_shut fs ≡ true → firsts_in fs ≡ map first_in fs
firsts_all [] h = refl
firsts_all (FoundToken t first ∷ fs) h = ap (λ (l : List Bool). first ∷ l) (firsts_all fs h)
firsts_all (FoundOpen at ∷ fs) h = absurd cc

open_none : (fs : List Found) → open_in fs ≡ None → list_all is_shut fs ≡ true
open_none [] h = refl
open_none (FoundToken t first ∷ fs) h = open_none fs h
open_none (FoundOpen at ∷ fs) h = absurd cc

none_open : (fs : List Found) → list_all is_shut fs ≡ true → open_in fs ≡ None
none_open [] h = refl
none_open (FoundToken t first ∷ fs) h = none_open fs h
none_open (FoundOpen at ∷ fs) h = absurd cc

-- ---- maps

head-image : {X Y : Type 0} (h : X → X) (k : Y → Y) (g : X → Y) → ((x : X) → k (g x) ≡ g (h x)) → (xs : List X) → head_with k (map g xs) ≡ map g (head_with h xs)
head-image h k g same [] = refl
head-image h k g same (x ∷ xs) = ap (λ y. y ∷ map g xs) (same x)

mutual
  unfolding masked masked_items span_of

  pub masked-image : {X Y : Type 0} (h : X → X) (k : Y → Y) (g : X → Y) → ((x : X) → k (g x) ≡ g (h x)) → (c : Cut) (xs : List X) → masked k c (map g xs) ≡ map g (masked h c xs)
  masked-image h k g same done xs = refl
  masked-image h k g same (keep n c) xs =
      rw (take-map g n xs, drop-map g n xs, masked-image h k g same c (drop n xs)) (sym (map-append g (take n xs) (masked h c (drop n xs))))
  masked-image h k g same (list is c) xs =
      rw (masked_items-image h k g same is xs, drop-map g (span_of is) xs, masked-image h k g same c (drop (span_of is) xs))
      (sym (map-append g (masked_items h is xs) (masked h c (drop (span_of is) xs))))

  pub masked_items-image : {X Y : Type 0} (h : X → X) (k : Y → Y) (g : X → Y) → ((x : X) → k (g x) ≡ g (h x)) → (is : Items) (xs : List X)
      → masked_items k is (map g xs) ≡ map g (masked_items h is xs)
  masked_items-image h k g same ended xs = refl
  masked_items-image h k g same (item n c gap more) xs =
      rw (take-map g n xs, drop-map g n xs, take-map g gap (drop n xs), drop-map g (n + gap) xs, masked-image h k g same c (take n xs), masked_items-image h k g same more (drop (n + gap) xs), head-image h k g same (masked h c (take n xs)))
      (sym (map-append g (head_with h (masked h c (take n xs))) (take gap (drop n xs) ++ masked_items h more (drop (n + gap) xs))
      ∙ ap (λ (l : List _). map g (head_with h (masked h c (take n xs))) ++ l) (map-append g (take gap (drop n xs)) (masked_items h more (drop (n + gap) xs)))))

outside-image : {X Y : Type 0} (g : X → Y) (c : Cut) (xs ys : List X) → SameOutside c xs ys → SameOutside c (map g xs) (map g ys)
outside-image g done xs ys h = ap (map g) h
outside-image g (keep n c) xs ys h =
    (take-map g n xs ∙ ap (map g) h.0 ∙ sym (take-map g n ys), rw (drop-map g n xs, drop-map g n ys) (outside-image g c (drop n xs) (drop n ys) h.1))
outside-image g (list is c) xs ys h = rw (drop-map g (span_of is) xs, drop-map g (span_of is) ys) (outside-image g c (drop (span_of is) xs) (drop (span_of is) ys) h)

-- ---- no comment is opened

-- whether a comment is open does not change with labels and places
shut_labels : (gap first : Bool) (f : Found) → is_shut (with_labels gap first f) ≡ is_shut f
shut_labels gap first (FoundToken t was) = refl
shut_labels gap first (FoundOpen at) = refl

shut_moved : (place line : ℕ → ℕ) (f : Found) → is_shut (moved_found place line f) ≡ is_shut f
shut_moved place line (FoundToken t was) = refl
shut_moved place line (FoundOpen at) = refl

abbrev is_open : Found → Bool
is_open (FoundToken t first) = false
is_open (FoundOpen at) = true

map_shut : (fs : List Found) → list_all is_shut fs ≡ list_all (λ b. b) (map is_shut fs)
map_shut [] = refl
map_shut (f ∷ fs) = ap (λ b. is_shut f && b) (map_shut fs)

masked_shut : (c : Cut) (fs : List Found) → map is_shut (masked (with_labels false false) c fs) ≡ map is_shut fs
masked_shut c fs = sym (masked-image (with_labels false false) (λ b. b) is_shut (λ f. sym (shut_labels false false f)) c fs) ∙ masked_same c (map is_shut fs)

shut_any : (fs : List Found) → list_all is_shut fs ≡ true → list_any is_open fs ≡ false
shut_any [] h = refl
shut_any (FoundToken t first ∷ fs) h = shut_any fs h
shut_any (FoundOpen at ∷ fs) h = absurd cc

any_shut : (fs : List Found) → list_any is_open fs ≡ false → list_all is_shut fs ≡ true
any_shut [] h = refl
any_shut (FoundToken t first ∷ fs) h = any_shut fs h
any_shut (FoundOpen at ∷ fs) h = absurd cc

shut_arranged : (n : ℕ) (order : List ℕ) (c : Cut) (fs : List Found) → IsOrder n order → AreOf n c → list_all is_shut fs ≡ true → list_all is_shut (arranged order c fs) ≡ true
shut_arranged n order c fs is all h = any_shut (arranged order c fs) (any-arranged is_open n order c fs is all ∙ shut_any fs h)

-- ---- the number of the file says nothing of these

abbrev sort_of : Found → Option Bool
sort_of (FoundToken t first) = Some first
sort_of (FoundOpen at) = None

one_sort : (file line : ℕ) (gap : Bool) (front : Front) (at : ℕ) (chars : List ℕ) (header : Bool) (c : ℕ) (R : List ℕ)
    → map sort_of (found_in file line gap front at chars (piece_of header c R)) ≡ map sort_of (found_in 0 line gap front at chars (piece_of header c R))
one_sort file line gap front at chars header c R =
    elim (view header c R) [
      | feeds f ↦ ap (map sort_of) (f.found file line gap front at chars ∙ sym (f.found 0 line gap front at chars))
      | whites w ↦ ap (map sort_of) (w.found file line gap front at chars ∙ sym (w.found 0 line gap front at chars))
      | lines l ↦ ap (map sort_of) (l.found file line gap front at chars ∙ sym (l.found 0 line gap front at chars))
      | blocks b ↦ ap (map sort_of) (b.found file line gap front at chars ∙ sym (b.found 0 line gap front at chars))
      | opens o ↦ ap (map sort_of) (o.found file line gap front at chars ∙ sym (o.found 0 line gap front at chars))
      | spells s ↦ ap (map sort_of) (s.found file line gap front at chars) ∙ sym (ap (map sort_of) (s.found 0 line gap front at chars))
    ]

sorts : (file skip : ℕ) (gap : Bool) (front : Front) (ms : List Mark)
    → map sort_of (together (brought file skip gap front ms)) ≡ map sort_of (together (brought 0 skip gap front ms))
unfolding brought
sorts file skip gap front [] = refl
sorts file (suc skip) gap front (m ∷ ms) = sorts file skip gap front ms
sorts file zero gap front (m ∷ ms) =
    let P = piece_of (expects_header front) m.byte (text ms) in
    let chars = m.byte ∷ text ms in
    let size = piece_length (suc (length ms)) P - 1 in
    let later = line_front_after chars front P in
    let mine = found_in file m.line gap front m.at chars P in
    let zeros = found_in 0 m.line gap front m.at chars P in
    map-append sort_of mine (together (brought file size (leaves_gap P) later ms))
    ∙ ap (λ (l : List (Option Bool)). l ++ map sort_of (together (brought file size (leaves_gap P) later ms))) (one_sort file m.line gap front m.at chars (expects_header front) m.byte (text ms))
    ∙ ap (λ (l : List (Option Bool)). map sort_of zeros ++ l) (sorts file size (leaves_gap P) later ms)
    ∙ sym (map-append sort_of zeros (together (brought 0 size (leaves_gap P) later ms)))

file_sorts : (file : ℕ) (bytes : List ℕ) → map sort_of (found_of file bytes) ≡ map sort_of (found_of 0 bytes)
file_sorts file bytes =
    ap (map sort_of) (sym (file_found file bytes)) ∙ sorts file 0 true line_start (marks_of bytes) ∙ ap (map sort_of) (file_found 0 bytes)

abbrev shut_sort : Option Bool → Bool
shut_sort None = false
shut_sort (Some first) = true

sort_shut : (f : Found) → shut_sort (sort_of f) ≡ is_shut f
sort_shut (FoundToken t first) = refl
sort_shut (FoundOpen at) = refl

firsts_sorts : (fs gs : List Found) → map sort_of fs ≡ map sort_of gs → firsts_in fs ≡ firsts_in gs
firsts_sorts fs gs h = firsts_from fs ∙ ap given_firsts h ∙ sym (firsts_from gs)
  where
    given_firsts : List (Option Bool) → List Bool
    given_firsts [] = []
    given_firsts (None ∷ ss) = given_firsts ss
    given_firsts (Some b ∷ ss) = b ∷ given_firsts ss

    firsts_from : (fs : List Found) → firsts_in fs ≡ given_firsts (map sort_of fs)
    firsts_from [] = refl
    firsts_from (FoundToken t first ∷ fs) = ap (λ (l : List Bool). first ∷ l) (firsts_from fs)
    firsts_from (FoundOpen at ∷ fs) = firsts_from fs

shut_same : (fs gs : List Found) → map sort_of fs ≡ map sort_of gs → list_all is_shut gs ≡ true → list_all is_shut fs ≡ true
shut_same fs gs h all =
    map_shut fs ∙ ap (list_all (λ b. b)) (shuts fs ∙ ap (map shut_sort) h ∙ sym (shuts gs)) ∙ sym (map_shut gs) ∙ all
  where
    shuts : (fs : List Found) → map is_shut fs ≡ map shut_sort (map sort_of fs)
    shuts fs = map-same is_shut (λ f. shut_sort (sort_of f)) fs (λ f. sym (sort_shut f)) ∙ sym (map-map shut_sort sort_of fs)

pub shut_file : (file : ℕ) (bytes : List ℕ) → open_comment_of bytes ≡ None → list_all is_shut (found_of file bytes) ≡ true
unfolding open_comment_of
shut_file file bytes h = shut_same (found_of file bytes) (found_of 0 bytes) (file_sorts file bytes) (open_none (found_of 0 bytes) h)

-- ---- the law

moved_tokens : (place line : ℕ → ℕ) (fs : List Found) → list_all is_shut fs ≡ true → map token_in (map (moved_found place line) fs) ≡ map (moved_token place line) (map token_in fs)
moved_tokens place line [] h = refl
moved_tokens place line (FoundToken t first ∷ fs) h = ap (λ (l : List Token). moved_token place line t ∷ l) (moved_tokens place line fs h)
moved_tokens place line (FoundOpen at ∷ fs) h = absurd cc

firsts_moved : (place line : ℕ → ℕ) (f : Found) → first_in (moved_found place line f) ≡ first_in f
firsts_moved place line (FoundToken t first) = refl
firsts_moved place line (FoundOpen at) = refl

token_labels : (f : Found) → without_gap (token_in f) ≡ token_in (with_labels false false f)
token_labels (FoundToken t first) = refl
token_labels (FoundOpen at) = refl

first_labels : (f : Found) → not_first (first_in f) ≡ first_in (with_labels false false f)
first_labels (FoundToken t first) = refl
first_labels (FoundOpen at) = refl

-- what is found in the new order is all tokens
new_shut : (n : ℕ) (order : List ℕ) (c : Cut) (file : ℕ) (bytes : List ℕ) → IsOrder n order → AreOf n (cut_in file c bytes) → open_comment_of bytes ≡ None
    → (F : FileArranged order c file bytes) → (list_all is_shut F.new ≡ true) × (list_all is_shut (found_of file (arranged order c bytes)) ≡ true)
new_shut n order c file bytes is all none F =
    let g = moved_found (place_in order c bytes) (line_in order c bytes) in
    let tc = cut_in file c bytes in
    let T = found_of file bytes in
    let same : map is_shut F.new ≡ map is_shut T =
    sym (masked_shut tc F.new) ∙ ap (map is_shut) F.alike ∙ masked_shut tc (map g T) ∙ map-map is_shut g T
    ∙ map-same (λ f. is_shut (g f)) is_shut T (shut_moved (place_in order c bytes) (line_in order c bytes)) in
    let shut : list_all is_shut F.new ≡ true = map_shut F.new ∙ ap (list_all (λ b. b)) same ∙ sym (map_shut T) ∙ shut_file file bytes none in
    (shut, ap (list_all is_shut) F.found ∙ shut_arranged n order tc F.new is all shut)

pub length-text : (bytes : List ℕ) → length (text (marks_of bytes)) ≡ length (logical_of bytes)
length-text bytes = ap length (text_marks bytes 0 (logical_of bytes)) ∙ length-map (logical_of bytes) (λ (c : Character). c.byte)

pub tokens_of_files_are_arranged : TokensOfFilesAreArranged
unfolding tokens_of open_comment_of
tokens_of_files_are_arranged = λ n order c file bytes is all may none.
    let F = files_are_arranged n order c file bytes is all may in
    let Z = files_are_arranged n order c 0 bytes is all may in
    let cc = character_cut c bytes in
    let tc = cut_in file c bytes in
    let allc : AreOf n cc = of_weighed n c _ all in
    let allt : AreOf n tc = of_weighed n cc _ allc in
    let allz : AreOf n (cut_in 0 c bytes) = of_weighed n cc _ allc in
    let S = new_shut n order c file bytes is allt none F in
    let SZ = new_shut n order c 0 bytes is allz none Z in
    let T = found_of file bytes in
    let news = found_of file (arranged order c bytes) in
    let place = place_in order c bytes in
    let line = line_in order c bytes in
    let g = moved_found place line in
    let old_shut = shut_file file bytes none in
    let old_tokens : map token_in T ≡ tokens_in T = sym (tokens_all T old_shut) in
    let moved : map token_in (map g T) ≡ map (token_there order c bytes) (tokens_in T) = moved_tokens place line T old_shut ∙ ap (map (moved_token place line)) old_tokens in
    let old_firsts : map first_in (map g T) ≡ firsts_of bytes =
    map-map first_in g T ∙ map-same (λ f. first_in (g f)) first_in T (firsts_moved place line) ∙ sym (firsts_all T old_shut) ∙ firsts_of_file file bytes in
    let texts = texts_arranged n order c bytes is all may in
    record {
      toks = map token_in F.new;
      firsts = map first_in F.new;
      tokens = tokens_all news S.1 ∙ ap (map token_in) F.found ∙ sym (arranged-map token_in order tc F.new);
      first = sym (firsts_of_file file (arranged order c bytes)) ∙ firsts_all news S.1 ∙ ap (map first_in) F.found ∙ sym (arranged-map first_in order tc F.new);
      shut = none_open (found_of 0 (arranged order c bytes)) SZ.1;
      size = length-arranged n order c bytes is all;
      characters =
          sym (length-text (arranged order c bytes)) ∙ ap length texts ∙ length-arranged n order cc (text (marks_of bytes)) is allc ∙ length-text bytes;
      alike =
          masked-image (with_labels false false) without_gap token_in token_labels tc F.new ∙ ap (map token_in) F.alike
          ∙ sym (masked-image (with_labels false false) without_gap token_in token_labels tc (map g T)) ∙ ap (masked without_gap tc) moved;
      firsts_alike =
          masked-image (with_labels false false) not_first first_in first_labels tc F.new ∙ ap (map first_in) F.alike
          ∙ sym (masked-image (with_labels false false) not_first first_in first_labels tc (map g T)) ∙ ap (masked not_first tc) old_firsts;
      outside =
          subst (λ (l : List Token). SameOutside tc l (tokens_in T)) moved
          (subst (λ (l : List Token). SameOutside tc (map token_in (map g T)) l) old_tokens (outside-image token_in tc (map g T) T F.outside));
    }
