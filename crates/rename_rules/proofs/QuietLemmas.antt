-- No text that some tokens make has a word that stands nowhere in what they all give, put end to end.
use Rattle.std.proofs.Common.{ℕ, ◌≡◌, ◌+◌, ◌-◌, ◌<◌, ◌≤◌, ◌==◌, ◌&&◌, ◌||◌, not, Bool, true, false, Option, List, [], ◌∷◌, ◌++◌, length, take, drop, inl, inr, refl, sym, ap, ◌∙◌, arith}
use Rattle.std.specs.Prelude.{eqb, is_none, nat_lt}
use Rattle.std.specs.List.{flat_map, list_any, starts_with}
use Rattle.std.specs.Option.{option_map_or}
use Rattle.std.proofs.lemmas.Bool.{cases_Bool, false≢true, and_parts, ltb-true, ltb-false}
use Rattle.std.proofs.lemmas.Grind.{flat_map-append}
use Rattle.std.proofs.lemmas.List.{take-append-drop}
use Rattle.std.proofs.lemmas.Option.{slice_get_past}
use Rattle.cs_base.specs.declared.positions.Part.{Part}
use Rattle.cs_base.specs.Token.{Token}
use Rattle.cs_base.proofs.BoolLemmas.{both_true, or_left, or_right_none}
use Rattle.analysis.specs.Below.scope_bind.declared.bound.Name.{Name}
use Rattle.analysis.specs.Below.scope_bind.Names.{entity_at}
use Rattle.gnu_lists.specs.declared.lists.Adjacent.{Adjacent}
use Rattle.gnu_lists.specs.Strings.{given_by}
use Rattle.gnu_lists.specs.WholeWords.{holds_from, holds_word, is_word_byte, stands_first}
use Rattle.part_respell.specs.Respelled.{spelled}
use Rattle.rename_rules.specs.GnuOffences.{is_named, joined, text_toks}
use Rattle.offences.specs.Tokens.{holds_member}
use Rattle.rename_rules.specs.GnuTexts.{is_free, may_be_named, may_name, may_stand, stands_in, NoneIsFree}

-- ---- either of two

or_then : (a b p q : Bool) → (a ≡ true → p ≡ true) → (b ≡ true → q ≡ true) → (a || b) ≡ true → (p || q) ≡ true
or_then true b p q f g e = ap (λ (x : Bool). x || q) (f refl)
or_then false true true q f g e = refl
or_then false true false q f g e = g refl
or_then false false p q f g e = absurd (false≢true e)

or_second : (p q : Bool) → q ≡ true → (p || q) ≡ true
or_second true q e = refl
or_second false q e = e

neither : (x y : Bool) → x ≡ false → y ≡ false → (x || y) ≡ false
neither x y e f = ap (λ (c : Bool). c || y) e ∙ f

not_so : (b c : Bool) → (b ≡ true → c ≡ true) → c ≡ false → b ≡ false
not_so true c f none = absurd (false≢true (sym none ∙ f refl))
not_so false c f none = refl

pub any_less : {X : Type 0} (f g : X → Bool) (xs : List X) → ((x : X) → f x ≡ false → g x ≡ false) → list_any f xs ≡ false → list_any g xs ≡ false
any_less f g [] each none = refl
any_less f g (x ∷ xs) each none =
    neither (g x) (list_any g xs) (each x (or_left (f x) (list_any f xs) none)) (any_less f g xs each (or_right_none (f x) (list_any f xs) none))

-- ---- words in a text

first_begins : (w t : List ℕ) → stands_first w t ≡ true → starts_with eqb t w ≡ true
first_begins [] t e = refl
first_begins (c ∷ w) [] e = absurd (false≢true e)
first_begins (c ∷ w) (x ∷ t) e =
    let both = and_parts (c == x) (stands_first w t) e in
    both_true (eqb c x) (starts_with eqb t w) both.0 (first_begins w t both.1)

begins_longer : (w t more : List ℕ) → starts_with eqb t w ≡ true → starts_with eqb (t ++ more) w ≡ true
begins_longer [] t more e = refl
begins_longer (c ∷ w) [] more e = absurd (false≢true e)
begins_longer (c ∷ w) (x ∷ t) more e =
    let both = and_parts (eqb c x) (starts_with eqb t w) e in
    both_true (eqb c x) (starts_with eqb (t ++ more) w) both.0 (begins_longer w t more both.1)

holds_stands : (inside : Bool) (w t : List ℕ) → holds_from inside w t ≡ true → stands_in w t ≡ true
holds_stands inside w [] e = e
holds_stands inside w (c ∷ t) e =
    or_then (not inside && stands_first w (c ∷ t)) (holds_from (is_word_byte c) w t) (starts_with eqb (c ∷ t) w) (stands_in w t)
    (λ here. first_begins w (c ∷ t) (and_parts (not inside) (stands_first w (c ∷ t)) here).1) (holds_stands (is_word_byte c) w t) e

stands_longer : (w t more : List ℕ) → stands_in w t ≡ true → stands_in w (t ++ more) ≡ true
stands_longer w [] more e = absurd (false≢true e)
stands_longer w (c ∷ t) more e =
    or_then (starts_with eqb (c ∷ t) w) (stands_in w t) (starts_with eqb (c ∷ t ++ more) w) (stands_in w (t ++ more))
    (begins_longer w (c ∷ t) more) (stands_longer w t more) e

stands_behind : (w before t : List ℕ) → stands_in w t ≡ true → stands_in w (before ++ t) ≡ true
stands_behind w [] t e = e
stands_behind w (c ∷ before) t e = or_second (starts_with eqb (c ∷ before ++ t) w) (stands_in w (before ++ t)) (stands_behind w before t e)

-- a word that may not stand in a text is none of a part of it
word_less : (w before part behind text : List ℕ) → text ≡ before ++ (part ++ behind) → may_stand w text ≡ false → holds_word w part ≡ false
word_less w before part behind text cut none =
    not_so (holds_word w part) (stands_in w text)
    (λ here. ap (stands_in w) cut ∙ stands_behind w before (part ++ behind) (stands_longer w part behind (holds_stands false w part here)))
    (or_right_none (nat_lt 63 (length w)) (stands_in w text) none)

-- ---- texts of tokens

module _ (members : List Part) (name : List ℕ) (toks : List Token) where
  text_cut : (x : Adjacent) → joined members name toks
      ≡ joined members name (take x.from toks) ++ (joined members name (text_toks toks x) ++ joined members name (drop (x.to - x.from) (drop x.from toks)))
  text_cut x =
      let rest = drop x.from toks in
      let count = x.to - x.from in
      ap (joined members name) (sym (take-append-drop x.from toks))
      ∙ (flat_map-append (λ (t : Token). given_by (spelled members name t)) (take x.from toks) rest
      ∙ ap (λ (w : List ℕ). joined members name (take x.from toks) ++ w)
      (ap (joined members name) (sym (take-append-drop count rest)) ∙ flat_map-append (λ (t : Token). given_by (spelled members name t)) (take count rest) (drop count rest)))

  named_less : (x : Adjacent) (old : List ℕ) → may_name name (joined members name toks) old ≡ false → is_named name (joined members name (text_toks toks x)) old ≡ false
  named_less x old none =
      let all = joined members name toks in
      let before = joined members name (take x.from toks) in
      let part = joined members name (text_toks toks x) in
      let behind = joined members name (drop (x.to - x.from) (drop x.from toks)) in
      neither (holds_word old part) (holds_word name part)
      (word_less old before part behind all (text_cut x) (or_left (may_stand old all) (may_stand name all) none))
      (word_less name before part behind all (text_cut x) (or_right_none (may_stand old all) (may_stand name all) none))

  -- no text of these tokens has a name of the class
  pub none_named : (olds : List Token) → may_be_named members name olds toks ≡ false → (x : Adjacent)
      → list_any (λ (t : Token). is_named name (joined members name (text_toks toks x)) t.text) olds ≡ false
  none_named olds none x =
      any_less (λ (t : Token). may_name name (joined members name toks) t.text) (λ (t : Token). is_named name (joined members name (text_toks toks x)) t.text) olds
      (λ t here. named_less x t.text here) none

-- ---- tokens, one after another

pub free_next : (free : ℕ → Bool) (k : ℕ) → ((j : ℕ) → j < k → free j ≡ false) → free k ≡ false → (j : ℕ) → j < k + 1 → free j ≡ false
free_next free k before here j less = elim (cases_Bool (nat_lt j k)) [
  | inl under ↦ before j (ltb-true j k under)
  | inr past ↦ ap free (omega (arith, less, ltb-false j k past)) ∙ here
]

-- behind the last token none is
pub free_all : (members : List Part) (names : List Name) (toks : List Token) (k : ℕ) → length toks ≤ k
    → ((j : ℕ) → j < k → is_free members names toks j ≡ false) → NoneIsFree members names toks
free_all members names toks k past before j = elim (cases_Bool (nat_lt j k)) [
  | inl under ↦ before j (ltb-true j k under)
  | inr more ↦
      ap (λ (o : Option Token). option_map_or (λ (t : Token). is_none (entity_at names j) && holds_member members t) o false)
      (slice_get_past toks j (omega (arith, past, ltb-false j k more)))
]
