-- Texts whose parts may stand elsewhere (this project's, over ISO/IEC 9899:1999, 6.4 paragraph 4): each part that a cut
-- leaves whole settles, and an item begins and ends with a token.
use Rattle.std.specs.Prelude.{◌≡◌, ℕ, ◌+◌, ◌<◌, ◌≤◌, ◌||◌, Bool, true, false, List, [], ◌∷◌, ◌++◌, take, drop}
use Rattle.lexer.specs.Tokens.{piece_of, leaves_gap, line_front_after}
use Rattle.list_cuts.specs.Cuts.{Cut, done, keep, list, Items, ended, item, count_of, span_of, extent_of}
use Rattle.arranged_text_laws.specs.Labels.{IsListed, IsLed}
use Rattle.arranged_text_laws.specs.Settling.{begins_stop, settles, gap_behind, front_behind}
use Rattle.arranged_text_laws.specs.Marks.{line_start, some_tokens, Before, front_at, behind_token, Mark, text}

abbrev pub is_none : List Mark → Bool
is_none [] = true
is_none (m ∷ ms) = false

-- from one state these characters, with `ys` behind them, leave another one
abbrev pub Leaves : Before → List Mark → List ℕ → Before → Type 0
Leaves st ms ys end =
    (gap_behind 0 st.gap (front_at st) (text ms) ys ≡ end.gap) × (front_behind 0 (front_at st) (text ms) ys ≡ front_at end)

-- A token stands first, and it begins no directive, also where it is the first of its line.
abbrev pub BeginsToken : List Mark → List ℕ → Type 0
BeginsToken [] ys = ⊥
BeginsToken (m ∷ ms) ys =
    (leaves_gap (piece_of false m.byte (text ms ++ ys)) ≡ false)
    × (line_front_after (m.byte ∷ (text ms ++ ys)) line_start (piece_of false m.byte (text ms ++ ys)) ≡ some_tokens)
    × (line_front_after (m.byte ∷ (text ms ++ ys)) some_tokens (piece_of false m.byte (text ms ++ ys)) ≡ some_tokens)

-- what stands behind a list begins with a stop, if something does
abbrev pub HasStop : Cut → List Mark → Type 0
HasStop done ms = (is_none ms || begins_stop (text ms)) ≡ true
HasStop (keep n c) ms = begins_stop (text (take n ms)) ≡ true
HasStop (list is c) ms = ⊥

-- What stands behind an item up to the next one begins with a stop, and it settles whatever follows; nothing stands behind
-- the last item.
abbrev pub GapSettles : ℕ → Items → List Mark → List ℕ → Type 0
GapSettles gap ended ms ys = gap ≡ 0
GapSettles gap (item n c further more) ms ys =
    (begins_stop (text (take gap ms)) ≡ true)
    × (settles false 0 some_tokens (text (take gap ms)) (text (drop gap ms) ++ ys) ≡ true)
    × ((mid : Before) × Leaves behind_token (take gap ms) (text (drop gap ms) ++ ys) mid)

abbrev mutual
  -- So it is along a cut, from a state to another, with `ys` behind the text.
  pub SettlesAlong : Before → Cut → List Mark → List ℕ → Before → Type 0
  SettlesAlong st done ms ys end =
      (settles true 0 (front_at st) (text ms) ys ≡ true) × ((is_none ms || begins_stop ys) ≡ true) × Leaves st ms ys end
  SettlesAlong st (keep n c) ms ys end =
      IsListed c × (settles false 0 (front_at st) (text (take n ms)) (text (drop n ms) ++ ys) ≡ true)
      × ((mid : Before) × Leaves st (take n ms) (text (drop n ms) ++ ys) mid × SettlesAlong mid c (drop n ms) ys end)
  SettlesAlong st (list is c) ms ys end =
      (0 < count_of is) × ItemsSettle is ms ys × HasStop c (drop (span_of is) ms)
      × SettlesAlong behind_token c (drop (span_of is) ms) ys end

  -- and along the items of a list
  pub ItemsSettle : Items → List Mark → List ℕ → Type 0
  ItemsSettle ended ms ys = Unit {0}
  ItemsSettle (item n c gap more) ms ys =
      IsLed c × BeginsToken (take n ms) (text (drop n ms) ++ ys) × (extent_of c ≤ n)
      × SettlesAlong behind_token c (take n ms) (text (drop n ms) ++ ys) behind_token
      × GapSettles gap more (drop n ms) ys × ItemsSettle more (drop (n + gap) ms) ys
