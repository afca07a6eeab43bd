-- The items from a place on: the first, and those behind.
use Rattle.std.proofs.Common.{◌≡◌, ℕ, zero, suc, ◌+◌, ◌-◌, ◌<◌, ◌≤◌, Bool, List, [], ◌∷◌, ◌++◌, length, get_or, take, drop, false, refl, ap, sym, ◌∙◌, arith}
use Rattle.std.specs.Prelude.{slice_get}
use Rattle.std.proofs.lemmas.List.{get_or-drop, length-drop, length-take-le, drop-drop, drop_all}
use Rattle.cs_base.specs.Token.{Token}
use Rattle.line_shape.specs.declared.items.Item.{Item}
use Rattle.line_shape.specs.declared.items.ItemKind.{ItemKind}
use Rattle.line_shape.specs.Signs.{is_hash}
use Rattle.line_shape.specs.Items.{lines_of, line_kind, Piece, pieces_of, last_of, item_of, items_from, items_of}
use Rattle.line_shape.specs.Walk.{is_hash_at, is_end, IsItemEnd, rest_items}
use Rattle.line_shape.proofs.LineLemmas.{is_hash_at-first, EndsBehind, lines_of-nil}
use Rattle.line_shape.proofs.PieceLemmas.{pieces_of-nil, pieces_of-item}

items_from-cons : (from : ℕ) (p : Piece) (pieces : List Piece)
    → items_from from (p ∷ pieces) ≡ item_of p.kind from p.toks ++ items_from (from + length p.toks) pieces
unfolding items_from
items_from-cons from p pieces = refl

slice_get-drop : {X : Type 0} (xs : List X) (from k j : ℕ) → from + k ≡ j → slice_get (drop from xs) k ≡ slice_get xs j
slice_get-drop [] zero k j h = refl
slice_get-drop [] (suc from) k j h = refl
slice_get-drop (x ∷ xs) zero k j h = let e : k ≡ j = omega arith in rw e refl
slice_get-drop (x ∷ xs) (suc from) k zero h = absurd (omega arith)
slice_get-drop (x ∷ xs) (suc from) k (suc j) h = slice_get-drop xs from k j (omega arith)

is_hash_at-drop : (toks : List Token) (from k j : ℕ) → from + k ≡ j → is_hash_at (drop from toks) k ≡ is_hash_at toks j
unfolding is_hash_at
is_hash_at-drop toks from k j h = rw (slice_get-drop toks from k j h) refl

is_end-drop : (directive : Bool) (toks : List Token) (firsts : List Bool) (from k j : ℕ) → from + k ≡ j
    → is_end directive (drop from toks) (drop from firsts) k ≡ is_end directive toks firsts j
is_end-drop directive toks firsts from k j h =
    rw (get_or-drop from firsts k false, is_hash_at-drop toks from k j h, h) refl

EndsBehind-drop : (directive : Bool) (t : Token) (toks more : List Token) (firsts : List Bool) (from to n : ℕ) → drop from toks ≡ t ∷ more
    → from + suc n ≡ to → IsItemEnd directive toks firsts from to → EndsBehind directive t more (drop from firsts) n
EndsBehind-drop directive t toks more firsts from to n whole end e =
    let len : suc (length more) ≡ length toks - from = sym (ap length whole) ∙ length-drop from toks in
    record {
      within = let w = e.within in omega arith;
      none = λ k below.
          ap (λ (xs : List Token). is_end directive xs (drop from firsts) (suc k)) (sym whole)
          ∙ is_end-drop directive toks firsts from (suc k) (from + suc k) refl ∙ e.none (from + suc k) (omega arith) (omega arith);
      end = λ below.
          ap (λ (xs : List Token). is_end directive xs (drop from firsts) (suc n)) (sym whole)
          ∙ is_end-drop directive toks firsts from (suc n) to end ∙ e.end (omega arith);
    }

-- the tokens from number `from` to before number `to`
abbrev pub cut : List Token → ℕ → ℕ → List Token
cut toks from to = take (to - from) (drop from toks)

-- the item that begins here
item_from : (toks : List Token) (firsts : List Bool) (from to : ℕ) (t : Token) (more : List Token) → drop from toks ≡ t ∷ more
    → IsItemEnd (is_hash_at toks from) toks firsts from to
    → items_from from (pieces_of (lines_of (drop from toks) (drop from firsts)))
    ≡ item_of (line_kind (cut toks from to)) from (cut toks from to) ++ items_from to (pieces_of (lines_of (drop to toks) (drop to firsts)))
item_from toks firsts from to t more whole e =
    let after = e.after in
    let n = to - from - 1 in
    let end : from + suc n ≡ to = omega arith in
    let len : to - from ≡ suc n = omega arith in
    let first : is_hash_at toks from ≡ is_hash t =
    sym (is_hash_at-drop toks from 0 from (omega arith)) ∙ ap (λ (xs : List Token). is_hash_at xs 0) whole ∙ is_hash_at-first t more in
    let ends = EndsBehind-drop (is_hash t) t toks more firsts from to n whole end (rw first at e) in
    let cut_is : cut toks from to ≡ t ∷ take n more =
    ap (λ (k : ℕ). take k (drop from toks)) len ∙ ap (λ (xs : List Token). take (suc n) xs) whole in
    let toks_behind : drop n more ≡ drop to toks =
    ap (λ (xs : List Token). drop (suc n) xs) (sym whole) ∙ drop-drop (suc n) from toks ∙ ap (λ (k : ℕ). drop k toks) end in
    let firsts_behind : drop (suc n) (drop from firsts) ≡ drop to firsts = drop-drop (suc n) from firsts ∙ ap (λ (k : ℕ). drop k firsts) end in
    let within = ends.within in
    let place : from + suc (length (take n more)) ≡ to = omega (arith, length-take-le n more within, end) in
    ap (λ (xs : List Token). items_from from (pieces_of (lines_of xs (drop from firsts)))) whole
    ∙ ap (items_from from) (pieces_of-item t more (drop from firsts) n ends)
    ∙ items_from-cons from _ _
    ∙ rw (cut_is, place, toks_behind, firsts_behind) refl

-- by what the place has
item_at : (toks : List Token) (firsts : List Bool) (from to : ℕ) (xs : List Token) → drop from toks ≡ xs → from < length toks
    → IsItemEnd (is_hash_at toks from) toks firsts from to
    → items_from from (pieces_of (lines_of (drop from toks) (drop from firsts)))
    ≡ item_of (line_kind (cut toks from to)) from (cut toks from to) ++ items_from to (pieces_of (lines_of (drop to toks) (drop to firsts)))
item_at toks firsts from to [] whole inside e = absurd (omega (arith, ap length whole, length-drop from toks))
item_at toks firsts from to (t ∷ more) whole inside e = item_from toks firsts from to t more whole e

-- the first item of the rest, and those behind
pub rest_items-step : (toks : List Token) (firsts : List Bool) (from to : ℕ) → from < length toks
    → IsItemEnd (is_hash_at toks from) toks firsts from to
    → rest_items toks firsts from ≡ item_of (line_kind (cut toks from to)) from (cut toks from to) ++ rest_items toks firsts to
unfolding rest_items
rest_items-step toks firsts from to inside e = item_at toks firsts from to (drop from toks) refl inside e

pub rest_items-first : (toks : List Token) (firsts : List Bool) → rest_items toks firsts 0 ≡ items_of toks firsts
unfolding rest_items items_of
rest_items-first toks firsts = refl

pub rest_items-end : (toks : List Token) (firsts : List Bool) (from : ℕ) → length toks ≤ from → rest_items toks firsts from ≡ []
unfolding rest_items items_from
rest_items-end toks firsts from h = rw (drop_all from toks h, lines_of-nil, pieces_of-nil) refl

-- ---- the tokens of an item

last_of-get_or : (t : Token) (toks : List Token) (k : ℕ) (d : Token) → k ≡ length toks → last_of t toks ≡ get_or (t ∷ toks) k d
last_of-get_or t [] zero d h = refl
last_of-get_or t [] (suc k) d h = absurd (omega arith)
last_of-get_or t (u ∷ toks) zero d h = absurd (omega arith)
last_of-get_or t (u ∷ toks) (suc k) d h = last_of-get_or u toks k d (omega arith)

-- the item of a kind with this first and this last token
abbrev pub item_between : ItemKind → ℕ → ℕ → Token → Token → Item
item_between kind from to first last = record {
  kind = kind;
  at = first.at;
  first_line = first.line;
  last_line = last.line;
  from = from;
  to = to;
}

pub item_of-between : (kind : ItemKind) (from : ℕ) (toks : List Token) (k : ℕ) (first last : Token) → k + 1 ≡ length toks
    → first ≡ get_or toks 0 first → last ≡ get_or toks k last
    → item_of kind from toks ≡ item_between kind from (from + length toks) first last ∷ []
item_of-between kind from [] k first last end first_is last_is = absurd (omega arith)
item_of-between kind from (t ∷ toks) k first last end first_is last_is =
    let is_last : last_of t toks ≡ last = last_of-get_or t toks k last (omega arith) ∙ sym last_is in
    rw (is_last, ← first_is) refl
