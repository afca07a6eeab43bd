-- It does not matter which number a file has: its tokens have the same kinds, spellings and places.
use Rattle.std.proofs.Common.{◌≡◌, ℕ, ◌-◌, Bool, true, false, not, cond, ◌&&◌, ◌||◌, List, [], ◌∷◌, take, drop, map, Option, Some, None, refl, sym, ap, ◌∙◌}
use Rattle.std.specs.Prelude.{slice_get, unwrap_or}
use Rattle.std.specs.List.{list_any}
use Rattle.std.specs.Option.{option_map, option_map_or}
use Rattle.std.proofs.lemmas.List.{take-map, drop-map}
use Rattle.std.proofs.lemmas.Option.{slice_get-map}
use Rattle.cs_base.specs.Token.{Token}
use Rattle.lexer.specs.Tokens.{Found, FoundToken, FoundOpen, file_token, found_of, tokens_in, tokens_of, firsts_of, open_comment_of}
use Rattle.line_shape.specs.Signs.{is_hash, is_open, is_comma, is_close}
use Rattle.list_cuts.specs.declared.spans.Span.{Span}
use Rattle.arranged_text_laws.specs.Calm.{is_odd}
use Rattle.arranged_text_laws.specs.Runs.{Placed, begins_directive, in_text, text_behind}
use Rattle.arranged_text_laws.specs.FileItems.{placed}
use Rattle.arranged_text_laws.specs.Lists.{is_line_among, passes, place_of, may_begin, may_end, IsItem, AreItems, begin_of, close_of, ListMoves, EachMoves}
use Rattle.arranged_text_laws.specs.Moving.{NumbersDoNotMatter}
use Rattle.arranged_text_laws.proofs.Walk.{bare}
use Rattle.arranged_text_laws.proofs.FileWalk.{bare_all}

-- a token without its file
abbrev blank : Token → Token
blank t = file_token 0 0 false t.at.at t.kind t.text

tokens_bare : (fs : List Found) → tokens_in (map bare fs) ≡ map blank (tokens_in fs)
tokens_bare [] = refl
tokens_bare (FoundToken t first ∷ fs) = ap (λ (l : List Token). blank t ∷ l) (tokens_bare fs)
tokens_bare (FoundOpen at ∷ fs) = tokens_bare fs

pub blank_same : (file other : ℕ) (bytes : List ℕ) → open_comment_of bytes ≡ None → map blank (tokens_of file bytes) ≡ map blank (tokens_of other bytes)
unfolding tokens_of
blank_same file other bytes none =
    sym (tokens_bare (found_of file bytes)) ∙ ap tokens_in (bare_all file bytes none ∙ sym (bare_all other bytes none)) ∙ tokens_bare (found_of other bytes)

-- ---- what is asked of tokens

passes_blank : (test : Token → Bool) → ((t : Token) → test (blank t) ≡ test t) → (toks : List Token) (k : ℕ) → passes test (map blank toks) k ≡ passes test toks k
passes_blank test blind toks k = ap (λ (o : Option Token). option_map_or test o false) (slice_get-map blank toks k) ∙ of_option (slice_get toks k)
  where
    of_option : (o : Option Token) → option_map_or test (option_map blank o) false ≡ option_map_or test o false
    of_option None = refl
    of_option (Some t) = blind t

place_blank : (toks : List Token) (k : ℕ) → place_of (map blank toks) k ≡ place_of toks k
place_blank toks k = ap (λ (o : Option Token). option_map_or (λ (t : Token). t.at.at) o 0) (slice_get-map blank toks k) ∙ of_option (slice_get toks k)
  where
    of_option : (o : Option Token) → option_map_or (λ (t : Token). t.at.at) (option_map blank o) 0 ≡ option_map_or (λ (t : Token). t.at.at) o 0
    of_option None = refl
    of_option (Some t) = refl

hash_blank : (t : Token) → is_hash (blank t) ≡ is_hash t
unfolding is_hash
hash_blank t = refl

open_blank : (t : Token) → is_open (blank t) ≡ is_open t
unfolding is_open
open_blank t = refl

comma_blank : (t : Token) → is_comma (blank t) ≡ is_comma t
unfolding is_comma
comma_blank t = refl

close_blank : (t : Token) → is_close (blank t) ≡ is_close t
unfolding is_close
close_blank t = refl

begin_blank : (t : Token) → may_begin (blank t) ≡ may_begin t
unfolding is_hash
begin_blank t = refl

end_blank : (t : Token) → may_end (blank t) ≡ may_end t
unfolding is_open
end_blank t = refl

abbrev blank_placed : Placed → Placed
blank_placed p = record { tok = blank p.tok; first = p.first }

placed_blank : (toks : List Token) (firsts : List Bool) → placed (map blank toks) firsts ≡ map blank_placed (placed toks firsts)
placed_blank [] firsts = refl
placed_blank (t ∷ toks) [] = refl
placed_blank (t ∷ toks) (first ∷ firsts) = ap (λ (l : List Placed). record { tok = blank t; first = first } ∷ l) (placed_blank toks firsts)

text_blank : (ps : List Placed) (b : Bool) → text_behind b (map blank_placed ps) ≡ text_behind b ps
text_blank [] b = refl
text_blank (p ∷ ps) b = ap (λ (h : Bool). text_behind (cond p.first (not h) b) (map blank_placed ps)) (hash_blank p.tok) ∙ text_blank ps (in_text b p)

any_blank : (ps : List Placed) → list_any begins_directive (map blank_placed ps) ≡ list_any begins_directive ps
any_blank [] = refl
any_blank (p ∷ ps) = ap (λ (h : Bool). (p.first && h) || list_any begins_directive (map blank_placed ps)) (hash_blank p.tok) ∙ ap (λ (b : Bool). begins_directive p || b) (any_blank ps)

module _ (ts us : List Token) (same : map blank ts ≡ map blank us) where
  passes_same : (test : Token → Bool) → ((t : Token) → test (blank t) ≡ test t) → (k : ℕ) → passes test ts k ≡ true → passes test us k ≡ true
  passes_same test blind k h = sym (passes_blank test blind us k) ∙ ap (λ (l : List Token). passes test l k) (sym same) ∙ passes_blank test blind ts k ∙ h

  place_same : (k : ℕ) → place_of us k ≡ place_of ts k
  place_same k = sym (place_blank us k) ∙ ap (λ (l : List Token). place_of l k) (sym same) ∙ place_blank ts k

  item_same : (s : Span) → IsItem ts s → IsItem us s
  item_same s h = record { some = h.some; first = passes_same may_begin begin_blank s.begin h.first; last = passes_same may_end end_blank (s.end - 1) h.last }

  items_same : (l : List Span) → AreItems ts l → AreItems us l
  items_same [] h = h
  items_same (s ∷ []) h = (item_same s h.0, passes_same is_close close_blank s.end h.1)
  items_same (s ∷ t ∷ more) h = (item_same s h.0, passes_same is_comma comma_blank s.end h.1, h.2, items_same (t ∷ more) h.3)

  placed_same : (firsts : List Bool) → map blank_placed (placed us firsts) ≡ map blank_placed (placed ts firsts)
  placed_same firsts = sym (placed_blank us firsts) ∙ ap (λ (l : List Token). placed l firsts) (sym same) ∙ placed_blank ts firsts

  text_same : (firsts : List Bool) (n : ℕ) (b : Bool) → text_behind b (take n (placed us firsts)) ≡ text_behind b (take n (placed ts firsts))
  text_same firsts n b =
      sym (text_blank (take n (placed us firsts)) b) ∙ ap (text_behind b) (sym (take-map blank_placed n (placed us firsts)))
      ∙ ap (λ (l : List Placed). text_behind b (take n l)) (placed_same firsts) ∙ ap (text_behind b) (take-map blank_placed n (placed ts firsts)) ∙ text_blank (take n (placed ts firsts)) b

  any_same : (firsts : List Bool) (i n : ℕ) → list_any begins_directive (take n (drop i (placed us firsts))) ≡ list_any begins_directive (take n (drop i (placed ts firsts)))
  any_same firsts i n =
      sym (any_blank (take n (drop i (placed us firsts)))) ∙ ap (list_any begins_directive) (sym (parts (placed us firsts)))
      ∙ ap (λ (l : List Placed). list_any begins_directive (take n (drop i l))) (placed_same firsts) ∙ ap (list_any begins_directive) (parts (placed ts firsts))
      ∙ any_blank (take n (drop i (placed ts firsts)))
    where
      parts : (xs : List Placed) → take n (drop i (map blank_placed xs)) ≡ map blank_placed (take n (drop i xs))
      parts xs = ap (take n) (drop-map blank_placed i xs) ∙ take-map blank_placed n (drop i xs)

  get_same : (k : ℕ) (u : Token) → slice_get us k ≡ Some u → (t : Token) × (slice_get ts k ≡ Some t) × (blank t ≡ blank u)
  get_same k u there =
      of_option (slice_get ts k) refl
      (sym (slice_get-map blank ts k) ∙ ap (λ (l : List Token). slice_get l k) same ∙ slice_get-map blank us k ∙ ap (option_map blank) there)
    where
      of_option : (o : Option Token) → slice_get ts k ≡ o → option_map blank o ≡ Some (blank u) → (t : Token) × (slice_get ts k ≡ Some t) × (blank t ≡ blank u)
      of_option None e h = absurd cc
      of_option (Some t) e h = (t, e, ap (λ (o : Option Token). unwrap_or o (blank t)) h)

-- ---- the law

module _ (file other : ℕ) (bytes : List ℕ) (none : open_comment_of bytes ≡ None) where
  list_same : (l : List Span) → ListMoves file bytes l → ListMoves other bytes l
  list_same l m =
      let ts = tokens_of file bytes in
      let us = tokens_of other bytes in
      let same = blank_same file other bytes none in
      let F = firsts_of bytes in
      record {
        behind = m.behind;
        opens = passes_same ts us same is_open open_blank (begin_of l - 1) m.opens;
        items = items_same ts us same l m.items;
        text = text_same ts us same F (begin_of l) true ∙ m.text;
        plain = any_same ts us same F (begin_of l) (close_of l - begin_of l) ∙ m.plain;
        even = λ k u there odd.
            let t = get_same ts us same k u there in
            let is_one : is_odd t.0.kind ≡ true = ap (λ (x : Token). is_odd x.kind) t.2 ∙ odd in
            let at : u.at.at ≡ t.0.at.at = ap (λ (x : Token). x.at.at) (sym t.2) in
            ap (λ (p : ℕ). is_line_among bytes p (place_of us (begin_of l - 1)) (place_of us (close_of l))) at
            ∙ ap (λ (p : ℕ). is_line_among bytes t.0.at.at p (place_of us (close_of l))) (place_same ts us same (begin_of l - 1))
            ∙ ap (is_line_among bytes t.0.at.at (place_of ts (begin_of l - 1))) (place_same ts us same (close_of l))
            ∙ m.even k t.0 t.1 is_one;
      }

  each_same : (lists : List (List Span)) → EachMoves file bytes lists → EachMoves other bytes lists
  each_same [] e = tt
  each_same (l ∷ lists) e = (list_same l e.0, each_same lists e.1)

pub numbers_do_not_matter : NumbersDoNotMatter
numbers_do_not_matter = λ file other bytes lists h. record {
  small = h.small;
  shut = h.shut;
  some = h.some;
  each = each_same file other bytes h.shut lists h.each;
  rise = h.rise;
  nested = h.nested;
}
