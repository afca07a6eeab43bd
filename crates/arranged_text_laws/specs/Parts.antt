-- Texts whose parts may stand elsewhere, by what is found in each part (this project's, over ISO/IEC 9899:1999, 6.4
-- paragraphs 3 and 4).
use Rattle.std.specs.Prelude.{◌≡◌, ℕ, ◌+◌, ◌<◌, ◌≤◌, true, false, List, [], ◌∷◌, ◌++◌, take, drop}
use Rattle.std.specs.List.{list_all}
use Rattle.list_cuts.specs.Cuts.{Cut, done, keep, list, Items, ended, item, count_of, span_of, extent_of}
use Rattle.arranged_text_laws.specs.Labels.{IsListed, IsLed}
use Rattle.arranged_text_laws.specs.Settling.{begins_stop, gap_behind}
use Rattle.arranged_text_laws.specs.Places.{found_plain}
use Rattle.arranged_text_laws.specs.Marks.{Before, front_at, behind_token, Mark, text}
use Rattle.arranged_text_laws.specs.Along.{Leaves, BeginsToken, HasStop, SettlesAlong}
use Rattle.arranged_text_laws.specs.Calm.{is_calm, is_shut, is_quiet, is_plain_at_end, ends_in_sign, begins_on_line, ends_slash, skip_behind}

-- The last part of an item: all that is found in it is calm, it ends with a token, which does not end in a `/`, and a stop stands
-- behind it.
pub record IsEnd (st : Before) (xs ys : List ℕ) : Type 0 where
  pub calm : list_all is_calm (found_plain 0 st.gap (front_at st) 0 xs ys) ≡ true
  pub whole : skip_behind 0 (front_at st) xs ys ≡ 0
  pub token : gap_behind 0 st.gap (front_at st) xs ys ≡ false
  pub no_slash : ends_slash xs ≡ false
  pub stop : begins_stop ys ≡ true

-- A part before an item: its last token is a parenthesis or a comma, on a line of no directive, a line feed stands behind each
-- odd token in it, and a token stands behind it.
pub record IsLead (st : Before) (xs ys : List ℕ) : Type 0 where
  pub shut : list_all is_shut (found_plain 0 st.gap (front_at st) 0 xs ys) ≡ true
  pub quiet : is_quiet 0 st.gap (front_at st) xs ys ≡ true
  pub plain : is_plain_at_end true (found_plain 0 st.gap (front_at st) 0 xs ys) ≡ true
  pub sign : ends_in_sign (found_plain 0 st.gap (front_at st) 0 xs ys) ≡ true
  pub whole : skip_behind 0 (front_at st) xs ys ≡ 0
  pub on_line : begins_on_line ys ≡ true

abbrev pub EndsItem : Before → List Mark → List ℕ → Type 0
EndsItem st [] ys = Unit {0}
EndsItem st (m ∷ ms) ys = IsEnd st (text (m ∷ ms)) ys

abbrev pub IsGap : ℕ → Items → List Mark → List ℕ → Type 0
IsGap gap ended ms ys = gap ≡ 0
IsGap gap (item n c further more) ms ys =
    (begins_stop (text (take gap ms)) ≡ true) × IsLead behind_token (text (take gap ms)) (text (drop gap ms) ++ ys)
    × ((mid : Before) × Leaves behind_token (take gap ms) (text (drop gap ms) ++ ys) mid)

abbrev mutual
  -- So it is with each part along a cut, from a state to another, with `ys` behind the text.
  pub PartsAlong : Before → Cut → List Mark → List ℕ → Before → Type 0
  PartsAlong st done ms ys end = EndsItem st ms ys × Leaves st ms ys end
  PartsAlong st (keep n c) ms ys end =
      IsListed c × IsLead st (text (take n ms)) (text (drop n ms) ++ ys)
      × ((mid : Before) × Leaves st (take n ms) (text (drop n ms) ++ ys) mid × PartsAlong mid c (drop n ms) ys end)
  PartsAlong st (list is c) ms ys end =
      (0 < count_of is) × ItemsParts is ms ys × HasStop c (drop (span_of is) ms) × PartsAlong behind_token c (drop (span_of is) ms) ys end

  pub ItemsParts : Items → List Mark → List ℕ → Type 0
  ItemsParts ended ms ys = Unit {0}
  ItemsParts (item n c gap more) ms ys =
      IsLed c × BeginsToken (take n ms) (text (drop n ms) ++ ys) × (extent_of c ≤ n)
      × PartsAlong behind_token c (take n ms) (text (drop n ms) ++ ys) behind_token
      × IsGap gap more (drop n ms) ys × ItemsParts more (drop (n + gap) ms) ys

-- The law: such a text may have its parts elsewhere.
abbrev pub PartsSettle : Type 0
PartsSettle = (st : Before) (c : Cut) (ms : List Mark) (ys : List ℕ) (end : Before) → PartsAlong st c ms ys end → SettlesAlong st c ms ys end
