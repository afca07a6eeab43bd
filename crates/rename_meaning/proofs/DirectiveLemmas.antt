-- What a unit may take from the items of a file is never the word of a directive.
use Rattle.std.proofs.Common.{◌≡◌, ℕ, zero, suc, ◌+◌, ◌-◌, ◌<◌, ◌≤◌, ◌&&◌, ◌||◌, Bool, true, false, cond, List, [], ◌∷◌, ◌++◌, length, take, drop, map, get_or, Option, Some, None, inl, inr, refl, sym, ap, subst, ◌∙◌, arith, append_assoc, append-nil}
use Rattle.std.specs.Prelude.{◌⊎◌, slice_get, slice_range}
use Rattle.std.specs.List.{flat_map}
use Rattle.std.specs.Option.{option_map_or}
use Rattle.std.proofs.Math.Seq.{take-append_seam, drop-append_seam}
use Rattle.std.proofs.lemmas.Bool.{cases_Bool, both_ways, false≢true}
use Rattle.std.proofs.lemmas.Option.{same_Some}
use Rattle.cs_base.specs.declared.causes.Cause.{Cause}
use Rattle.cs_base.specs.declared.positions.Pos.{Pos}
use Rattle.cs_base.specs.Token.{Token}
use Rattle.lexer.specs.Logical.{logical_of}
use Rattle.lexer.specs.Order.{InOrder}
use Rattle.lexer.specs.Tokens.{tokens_of, firsts_of}
use Rattle.lexer.proofs.OrderLemmas.{tokens_of-in_order}
use Rattle.line_shape.specs.declared.items.Item.{Item}
use Rattle.line_shape.specs.declared.items.ItemKind.{ItemKind}
use Rattle.line_shape.specs.declared.items.ItemKind.TheVariants as kind
use Rattle.line_shape.specs.declared.items.GnuLine.TheVariants as gnu
use Rattle.line_shape.specs.Directives.{directive_named, is_run}
use Rattle.line_shape.specs.Items.{onto_lines, lines_of, kind_unless, named_kind, directive_kind, line_kind, Piece, piece, onto_pieces, pieces_of, item_of, items_from, items_of}
use Rattle.line_shape.specs.BadLines.{cause_on}
use Rattle.line_shape.specs.Signs.{is_hash}
use Rattle.line_shape.proofs.KindLemmas.{is_run-directive_kind as directive_runs, is_run-named_kind as kind_runs, is_run_in-directive_named as named_runs}
use Rattle.source_files.specs.HeaderNames.{is_header, begins_header}
use Rattle.include_tree.specs.Walk.{ItemText, item_text, item_texts}
use Rattle.unit_laws.specs.UnitItems.{expanded_name, taken}
use Rattle.edited_unit_laws.specs.Lines.{is_pragma, is_next, stands_behind}
use Rattle.edited_unit_laws.proofs.ListLemmas.{In, AllOf}

-- ---- lists

pub in_more : {X : Type 0} (x y : X) (xs : List X) → In x xs → In x (y ∷ xs)
in_more x y xs i = (suc i.0, i.1)

pub either : {X : Type 0} (x : X) (xs ys : List X) (k : ℕ) → slice_get (xs ++ ys) k ≡ Some x → In x xs ⊎ In x ys
either x [] ys k e = inr (k, e)
either x (y ∷ xs) ys zero e = inl (0, e)
either x (y ∷ xs) ys (suc k) e = elim (either x xs ys k e) [ inl i ↦ inl (in_more x y xs i) | inr i ↦ inr i ]

pub first_or : {X : Type 0} (x y : X) (xs : List X) → In x (y ∷ xs) → (y ≡ x) ⊎ In x xs
first_or x y xs i = by i.0 i.1
  where
    by : (k : ℕ) → slice_get (y ∷ xs) k ≡ Some x → (y ≡ x) ⊎ In x xs
    by zero e = inl (same_Some y x e)
    by (suc k) e = inr (k, e)

pub none_in : {X : Type 0} (x : X) → In x [] → ⊥
none_in x i = let e = i.1 in cc

pub in_drop : {X : Type 0} (x : X) (n : ℕ) (xs : List X) → In x (drop n xs) → In x xs
in_drop x zero xs i = i
in_drop x (suc n) [] i = i
in_drop x (suc n) (y ∷ xs) i = in_more x y xs (in_drop x n xs i)

pub in_take : {X : Type 0} (x : X) (n : ℕ) (xs : List X) (k : ℕ) → slice_get (take n xs) k ≡ Some x → In x xs
in_take x zero xs k e = absurd (cc)
in_take x (suc n) [] k e = absurd (cc)
in_take x (suc n) (y ∷ xs) zero e = (0, e)
in_take x (suc n) (y ∷ xs) (suc k) e = in_more x y xs (in_take x n xs k e)

-- ---- lines

-- the tokens of lines, one behind the other
abbrev pub together : List (List Token) → List Token
together lines = flat_map (λ (line : List Token). line) lines

onto-together : (t : Token) (b : Bool) (lines : List (List Token)) → together (onto_lines t b lines) ≡ t ∷ together lines
onto-together t true lines = refl
onto-together t false [] = refl
onto-together t false (l ∷ lines) = refl

pub lines-together : (toks : List Token) (firsts : List Bool) → together (lines_of toks firsts) ≡ toks
unfolding lines_of
lines-together [] firsts = refl
lines-together (t ∷ toks) firsts =
    onto-together t (get_or firsts 1 false) (lines_of toks (drop 1 firsts)) ∙ ap (λ (ts : List Token). t ∷ ts) (lines-together toks (drop 1 firsts))

-- the word of a line with what is read behind it as it stands, and what a unit may take of the line
abbrev pub word_of : List Token → List Token
word_of (hash ∷ word ∷ operands) = cond (is_hash hash) (word ∷ cond (stands_behind word operands) operands []) []
word_of _ = []

abbrev pub open_behind : List Token → List Token
open_behind [] = []
open_behind (word ∷ operands) = cond (stands_behind word operands) [] operands

abbrev pub open_part : List Token → List Token
open_part [] = []
open_part (t ∷ toks) = cond (is_hash t) (open_behind toks) (t ∷ toks)

-- ---- order

-- tokens stand between two characters
abbrev pub Between : ℕ → ℕ → List Token → Type 0
Between from to toks = (t : Token) → In t toks → (from ≤ t.at.at) × (t.at.at < to)

pub order_between : (from to : ℕ) (toks : List Token) → InOrder from to toks → Between from to toks
order_between from to [] order t i = absurd (none_in t i)
order_between from to (x ∷ toks) order t i = elim (first_or t x toks i) [
  | inl same ↦
      let a = order.0 in let b = order.1 in let c = order.2 in
      let here : (from ≤ x.at.at) × (x.at.at < to) = (a, omega arith) in
      subst (λ (u : Token). (from ≤ u.at.at) × (u.at.at < to)) same here
  | inr later ↦
      let a = order.0 in
      let k = order_between (x.at.at + length x.text) to toks order.3 t later in
      let b = k.0 in
      (omega arith, k.1)
]

-- where the front of a list ends
pub split_order : (from to : ℕ) (xs ys : List Token) → InOrder from to (xs ++ ys) → (mid : ℕ) × InOrder from mid xs × InOrder mid to ys × (from ≤ mid)
split_order from to [] ys order = (from, tt, order, omega arith)
split_order from to (x ∷ xs) ys order =
    let r = split_order (x.at.at + length x.text) to xs ys order.3 in
    let a = order.0 in
    let b = r.3 in
    (r.0, (a, order.1, b, r.1), r.2, omega arith)

-- what is taken of a line, by whether it is one of a directive, and whether what stands behind its word is read as it stands
word_alone : (hash word : Bool) (first w : Token) (toks : List Token) → hash ≡ true → word ≡ false → In w (cond hash (first ∷ cond word toks []) [])
    → In w (first ∷ [])
word_alone true false first w toks is open_ i = i
word_alone true true first w toks is open_ i = absurd (false≢true (sym open_))
word_alone false word first w toks is open_ i = absurd (false≢true is)

behind_open : (hash word : Bool) (t : Token) (toks all : List Token) → hash ≡ true → word ≡ false → In t (cond hash (cond word [] toks) all) → In t toks
behind_open true false t toks all is open_ i = i
behind_open true true t toks all is open_ i = absurd (false≢true (sym open_))
behind_open false word t toks all is open_ i = absurd (false≢true is)

behind_none : (hash word : Bool) (t : Token) (toks all : List Token) → hash ≡ true → word ≡ true → In t (cond hash (cond word [] toks) all) → ⊥
behind_none true true t toks all is stands i = none_in t i
behind_none true false t toks all is stands i = absurd (false≢true stands)
behind_none false word t toks all is stands i = absurd (false≢true is)

behind_word : (hash word : Bool) (first t : Token) (toks : List Token) → hash ≡ true → word ≡ true → In t toks → In t (cond hash (first ∷ cond word toks []) [])
behind_word true true first t toks is stands i = in_more t first toks i
behind_word true false first t toks is stands i = absurd (false≢true stands)
behind_word false word first t toks is stands i = absurd (false≢true is)

-- a word stands before what stands behind it
word_apart : (from to : ℕ) (line : List Token) (w t : Token) → InOrder from to line → In w (word_of line) → In t (open_part line) → w.at.at ≡ t.at.at → ⊥
word_apart from to [] w t order i j same = none_in w i
word_apart from to (hash ∷ []) w t order i j same = none_in w i
word_apart from to (hash ∷ word ∷ operands) w t order i j same = elim (cases_Bool (is_hash hash)) [
  | inl is ↦ elim (cases_Bool (stands_behind word operands)) [
    | inl stands ↦ behind_none (is_hash hash) (stands_behind word operands) t operands (hash ∷ word ∷ operands) is stands j
    | inr open_ ↦
        let here = word_alone (is_hash hash) (stands_behind word operands) word w operands is open_ i in
        let there = behind_open (is_hash hash) (stands_behind word operands) t operands (hash ∷ word ∷ operands) is open_ j in
        elim (first_or w word [] here) [
          | inl e ↦
              let at : word.at.at ≡ w.at.at = ap (λ (u : Token). u.at.at) e in
              let k = order_between (word.at.at + length word.text) to operands order.3.3 t there in
              let far = k.0 in
              let some = order.3.1 in
              omega arith
          | inr none ↦ none_in w none
        ]
  ]
  | inr is_not ↦ let here : In w [] = rw is_not at i in none_in w here
]

in_cond : (w : Token) (b : Bool) (toks : List Token) → In w (cond b toks []) → In w toks
in_cond w true toks i = i
in_cond w false toks i = absurd (none_in w i)

in_other : (w : Token) (b : Bool) (toks : List Token) → In w (cond b [] toks) → In w toks
in_other w true toks i = absurd (none_in w i)
in_other w false toks i = i

in_behind : (t : Token) (toks : List Token) → In t (open_behind toks) → In t toks
in_behind t [] i = i
in_behind t (word ∷ operands) i = in_more t word operands (in_other t (stands_behind word operands) operands i)

in_word : (line : List Token) (w : Token) → In w (word_of line) → In w line
in_word [] w i = i
in_word (hash ∷ []) w i = absurd (none_in w i)
in_word (hash ∷ word ∷ operands) w i = elim (cases_Bool (is_hash hash)) [
  | inl is ↦
      let here : In w (word ∷ cond (stands_behind word operands) operands []) = rw is at i in
      elim (first_or w word (cond (stands_behind word operands) operands []) here) [
        | inl e ↦ (1, ap (λ (u : Token). Some u) e)
        | inr later ↦ in_more w hash (word ∷ operands) (in_more w word operands (in_cond w (stands_behind word operands) operands later))
      ]
  | inr is_not ↦ let here : In w [] = rw is_not at i in absurd (none_in w here)
]

pub in_open : (line : List Token) (t : Token) → In t (open_part line) → In t line
in_open [] t i = i
in_open (x ∷ toks) t i = elim (cases_Bool (is_hash x)) [
  | inl is ↦ let here : In t (open_behind toks) = rw is at i in in_more t x toks (in_behind t toks here)
  | inr is_not ↦ rw is_not at i
]

pub in_together : (lines : List (List Token)) (line : List Token) (t : Token) → In line lines → In t line → In t (together lines)
in_together [] line t i j = absurd (none_in line i)
in_together (l ∷ lines) line t i j = elim (first_or line l lines i) [
  | inl same ↦ let here : In t l = subst (λ (x : List Token). In t x) (sym same) j in left t l (together lines) here.0 here.1
  | inr later ↦ right t l (together lines) (in_together lines line t later j)
]
  where
    left : (x : Token) (xs ys : List Token) (k : ℕ) → slice_get xs k ≡ Some x → In x (xs ++ ys)
    left x [] ys k e = absurd (cc)
    left x (y ∷ xs) ys zero e = (0, e)
    left x (y ∷ xs) ys (suc k) e = in_more x y (xs ++ ys) (left x xs ys k e)

    right : (x : Token) (xs ys : List Token) → In x ys → In x (xs ++ ys)
    right x [] ys k = k
    right x (y ∷ xs) ys k = in_more x y (xs ++ ys) (right x xs ys k)

-- the word of one line stands nowhere where something is taken from another, or from it
words_apart : (from to : ℕ) (lines : List (List Token)) (first second : List Token) (w t : Token) → InOrder from to (together lines) → In first lines → In second lines
    → In w (word_of first) → In t (open_part second) → w.at.at ≡ t.at.at → ⊥
words_apart from to [] first second w t order i j u v same = none_in first i
words_apart from to (l ∷ lines) first second w t order i j u v same =
    let r = split_order from to l (together lines) order in
    let front : Between from r.0 l = order_between from r.0 l r.1 in
    let back : Between r.0 to (together lines) = order_between r.0 to (together lines) r.2 in
    elim (first_or first l lines i) [
      | inl one ↦
          let here : In w (word_of l) = subst (λ (x : List Token). In w (word_of x)) (sym one) u in
          elim (first_or second l lines j) [
            | inl two ↦ word_apart from r.0 l w t r.1 here (subst (λ (x : List Token). In t (open_part x)) (sym two) v) same
            | inr later ↦
                let a = (front w (in_word l w here)).1 in
                let b = (back t (in_together lines second t later (in_open second t v))).0 in
                omega arith
          ]
      | inr after ↦ elim (first_or second l lines j) [
        | inl two ↦
            let here : In t (open_part l) = subst (λ (x : List Token). In t (open_part x)) (sym two) v in
            let a = (front t (in_open l t here)).1 in
            let b = (back w (in_together lines first w after (in_word first w u))).0 in
            omega arith
        | inr later ↦ words_apart r.0 to lines first second w t r.2 after later u v same
      ]
    ]

-- ---- pieces

-- no directive is a run
abbrev RunIn : Option ItemKind → Bool
RunIn None = false
RunIn (Some k) = is_run k

abbrev has_run : List (List ℕ × ItemKind) → Bool
has_run [] = false
has_run (row ∷ rows) = is_run row.1 || has_run rows

-- a line that is a run does not begin with `#`
pub run_open : (line : List Token) → is_run (line_kind line) ≡ true → open_part line ≡ line
run_open [] h = refl
run_open (t ∷ toks) h = elim (cases_Bool (is_hash t)) [
  | inl is ↦
      let yes' : is_run (directive_kind t.at toks) ≡ true = rw is at h in
      absurd (both_ways (is_run (directive_kind t.at toks)) (directive_runs t.at toks) yes')
  | inr is_not ↦ rw is_not refl
]

-- ---- what is taken

in_expanded : (t : Token) (toks : List Token) → In t (expanded_name toks) → In t toks
in_expanded t [] i = i
in_expanded t (x ∷ toks) i = by (is_header x.kind) i
  where
    by : (b : Bool) → In t (cond b [] (x ∷ toks)) → In t (x ∷ toks)
    by true j = absurd (none_in t j)
    by false j = j

-- all of a run, and of a directive what stands behind its word
pub taken_from : (k : ItemKind) (evaluated : Bool) (toks : List Token) (t : Token) → In t (taken k evaluated toks)
    → ((is_run k ≡ true) × In t toks) ⊎ ((is_run k ≡ false) × In t (drop 2 toks))
taken_from kind.Run evaluated toks t i = inl (refl, i)
taken_from kind.Define evaluated toks t i = inr (refl, i)
taken_from kind.Undef evaluated toks t i = inr (refl, in_take t 1 (drop 2 toks) i.0 i.1)
taken_from kind.Ifdef evaluated toks t i = inr (refl, in_take t 1 (drop 2 toks) i.0 i.1)
taken_from kind.Ifndef evaluated toks t i = inr (refl, in_take t 1 (drop 2 toks) i.0 i.1)
taken_from kind.If true toks t i = inr (refl, i)
taken_from kind.If false toks t i = absurd (none_in t i)
taken_from kind.Elif true toks t i = inr (refl, i)
taken_from kind.Elif false toks t i = absurd (none_in t i)
taken_from kind.Include evaluated toks t i = inr (refl, in_expanded t (drop 2 toks) i)
taken_from kind.Else evaluated toks t i = absurd (none_in t i)
taken_from kind.Endif evaluated toks t i = absurd (none_in t i)
taken_from kind.Line evaluated toks t i = absurd (none_in t i)
taken_from kind.Error evaluated toks t i = absurd (none_in t i)
taken_from kind.Pragma evaluated toks t i = absurd (none_in t i)
taken_from kind.Empty evaluated toks t i = absurd (none_in t i)
taken_from (kind.Bad cause at nests) evaluated toks t i = absurd (none_in t i)
taken_from (kind.Gnu gnu.IncludeNext) evaluated toks t i = inr (refl, in_other t (begins_header (drop 2 toks)) (drop 2 toks) i)
taken_from (kind.Gnu gnu.Message) evaluated toks t i = absurd (none_in t i)
taken_from (kind.Gnu gnu.Elifdef) true toks t i = inr (refl, in_take t 1 (drop 2 toks) i.0 i.1)
taken_from (kind.Gnu gnu.Elifdef) false toks t i = absurd (none_in t i)
taken_from (kind.Gnu gnu.Elifndef) true toks t i = inr (refl, in_take t 1 (drop 2 toks) i.0 i.1)
taken_from (kind.Gnu gnu.Elifndef) false toks t i = absurd (none_in t i)

-- what is read as it stands is not taken
taken_stands : (k : ItemKind) (evaluated : Bool) (hash word : Token) (operands : List Token) (t : Token)
    → (is_pragma k || (is_next k && begins_header operands)) ≡ true → In t (taken k evaluated (hash ∷ word ∷ operands)) → ⊥
taken_stands kind.Pragma evaluated hash word operands t h i = none_in t i
taken_stands (kind.Gnu gnu.IncludeNext) evaluated hash word operands t h i = let none : In t [] = rw h at i in none_in t none
taken_stands (kind.Gnu gnu.Message) evaluated hash word operands t h i = none_in t i
taken_stands (kind.Gnu gnu.Elifdef) evaluated hash word operands t h i = let wrong : false ≡ true = h in absurd (cc)
taken_stands (kind.Gnu gnu.Elifndef) evaluated hash word operands t h i = let wrong : false ≡ true = h in absurd (cc)
taken_stands kind.Run evaluated hash word operands t h i = let wrong : false ≡ true = h in absurd (cc)
taken_stands kind.Define evaluated hash word operands t h i = let wrong : false ≡ true = h in absurd (cc)
taken_stands kind.Undef evaluated hash word operands t h i = let wrong : false ≡ true = h in absurd (cc)
taken_stands kind.If evaluated hash word operands t h i = let wrong : false ≡ true = h in absurd (cc)
taken_stands kind.Ifdef evaluated hash word operands t h i = let wrong : false ≡ true = h in absurd (cc)
taken_stands kind.Ifndef evaluated hash word operands t h i = let wrong : false ≡ true = h in absurd (cc)
taken_stands kind.Elif evaluated hash word operands t h i = let wrong : false ≡ true = h in absurd (cc)
taken_stands kind.Include evaluated hash word operands t h i = let wrong : false ≡ true = h in absurd (cc)
taken_stands kind.Else evaluated hash word operands t h i = none_in t i
taken_stands kind.Endif evaluated hash word operands t h i = none_in t i
taken_stands kind.Line evaluated hash word operands t h i = none_in t i
taken_stands kind.Error evaluated hash word operands t h i = none_in t i
taken_stands kind.Empty evaluated hash word operands t h i = none_in t i
taken_stands (kind.Bad cause at nests) evaluated hash word operands t h i = none_in t i

unless_stands : (c : Option Cause) (k : ItemKind) (at : Pos) (evaluated : Bool) (hash word : Token) (operands : List Token) (t : Token)
    → (is_pragma k || (is_next k && begins_header operands)) ≡ true → In t (taken (kind_unless c at k) evaluated (hash ∷ word ∷ operands)) → ⊥
unless_stands None k at evaluated hash word operands t h i = taken_stands k evaluated hash word operands t h i
unless_stands (Some cause) k at evaluated hash word operands t h i = none_in t i

named_stands : (o : Option ItemKind) (at : Pos) (evaluated : Bool) (hash word : Token) (operands : List Token) (t : Token)
    → (option_map_or is_pragma o false || (option_map_or is_next o false && begins_header operands)) ≡ true
    → In t (taken (named_kind o at operands) evaluated (hash ∷ word ∷ operands)) → ⊥
named_stands None at evaluated hash word operands t h i = none_in t i
named_stands (Some k) at evaluated hash word operands t h i = unless_stands (cause_on k operands) k at evaluated hash word operands t h i

-- what is taken from a line that is none stands where something may be taken
behind_taken : (hash : Token) (ts : List Token) (evaluated : Bool) (t : Token) → In t (taken (directive_kind hash.at ts) evaluated (hash ∷ ts)) → In t (open_behind ts)
unfolding directive_kind
behind_taken hash [] evaluated t i = absurd (none_in t i)
behind_taken hash (word ∷ operands) evaluated t i = elim (cases_Bool (stands_behind word operands)) [
  | inl stands ↦ absurd (named_stands (directive_named word) hash.at evaluated hash word operands t stands i)
  | inr open_ ↦
      let from : In t operands = elim (taken_from (named_kind (directive_named word) hash.at operands) evaluated (hash ∷ word ∷ operands) t i) [
        | inl run ↦ absurd (both_ways (is_run (named_kind (directive_named word) hash.at operands)) (kind_runs (directive_named word) hash.at operands (named_runs word)) run.0)
        | inr directive ↦ directive.1
      ] in
      rw open_ from
]

open_taken : (line : List Token) (evaluated : Bool) (t : Token) → is_run (line_kind line) ≡ false → In t (taken (line_kind line) evaluated line) → In t (open_part line)
open_taken [] evaluated t h i = absurd (none_in t i)
open_taken (hash ∷ toks) evaluated t h i = elim (cases_Bool (is_hash hash)) [
  | inl is ↦ rw is (behind_taken hash toks evaluated t (rw is at i))
  | inr is_not ↦ let run : true ≡ false = rw is_not at h in absurd (cc)
]

-- the token stands where something may be taken from a line of these
abbrev OpenIn : List (List Token) → Token → Type 0
OpenIn lines t = (line : List Token) × In line lines × In t (open_part line)

open_later : (l : List Token) (lines : List (List Token)) (t : Token) → OpenIn lines t → OpenIn (l ∷ lines) t
open_later l lines t h = (h.0, in_more h.0 l lines h.1, h.2)

-- What is known of a piece: a run is of text lines, and anything else is one directive line.
pub record FromLines (lines : List (List Token)) (p : Piece) : Type 0 where
  pub run : is_run p.kind ≡ true → (t : Token) → In t p.toks → OpenIn lines t
  pub line : is_run p.kind ≡ false → (evaluated : Bool) (t : Token) → In t (taken p.kind evaluated p.toks) → OpenIn lines t

from_later : (l : List Token) (lines : List (List Token)) (p : Piece) → FromLines lines p → FromLines (l ∷ lines) p
from_later l lines p h = record {
  run = λ run t i. open_later l lines t (h.run run t i);
  line = λ other evaluated t i. open_later l lines t (h.line other evaluated t i);
}

all_later : (l : List Token) (lines : List (List Token)) (ps : List Piece) → AllOf (FromLines lines) ps → AllOf (FromLines (l ∷ lines)) ps
all_later l lines [] h = tt
all_later l lines (p ∷ ps) h = (from_later l lines p h.0, all_later l lines ps h.1)

from_first : (l : List Token) (lines : List (List Token)) → FromLines (l ∷ lines) (piece (line_kind l) l)
from_first l lines = record {
  run = λ run t i. (l, (0, refl), subst (λ (ts : List Token). In t ts) (sym (run_open l run)) i);
  line = λ other evaluated t i. (l, (0, refl), open_taken l evaluated t other i);
}

from_onto : (l : List Token) (lines : List (List Token)) (ps : List Piece) → AllOf (FromLines lines) ps
    → AllOf (FromLines (l ∷ lines)) (onto_pieces (piece (line_kind l) l) ps)
from_onto l lines [] h = (from_first l lines, tt)
from_onto l lines (next ∷ ps) h = elim (cases_Bool (is_run (line_kind l))) [
  | inl run ↦ elim (cases_Bool (is_run next.kind)) [
    | inl also ↦
        let joined : FromLines (l ∷ lines) (piece kind.Run (l ++ next.toks)) = record {
          run = λ is t i. elim (either t l next.toks i.0 i.1) [
            | inl front ↦ (from_first l lines).run run t front
            | inr back ↦ (from_later l lines next h.0).run also t back
          ];
          line = λ other evaluated t i. absurd (let no : true ≡ false = other in cc);
        } in
        rw (run, also) (joined, all_later l lines ps h.1)
    | inr other ↦ rw (run, other) (from_first l lines, (from_later l lines next h.0, all_later l lines ps h.1))
  ]
  | inr directive ↦ rw directive (from_first l lines, (from_later l lines next h.0, all_later l lines ps h.1))
]

pieces_from : (lines : List (List Token)) → AllOf (FromLines lines) (pieces_of lines)
unfolding pieces_of
pieces_from [] = tt
pieces_from (l ∷ lines) = from_onto l lines (pieces_of lines) (pieces_from lines)

abbrev pub all_toks : List Piece → List Token
all_toks ps = flat_map (λ (p : Piece). p.toks) ps

onto-toks : (l : List Token) (ps : List Piece) → all_toks (onto_pieces (piece (line_kind l) l) ps) ≡ l ++ all_toks ps
onto-toks l [] = refl
onto-toks l (next ∷ ps) = elim (cases_Bool (is_run (line_kind l) && is_run next.kind)) [
  | inl joins ↦ rw joins (append_assoc l next.toks (all_toks ps))
  | inr apart ↦ rw apart refl
]

pub pieces-toks : (lines : List (List Token)) → all_toks (pieces_of lines) ≡ together lines
unfolding pieces_of
pieces-toks [] = refl
pieces-toks (l ∷ lines) = onto-toks l (pieces_of lines) ∙ ap (λ (ts : List Token). l ++ ts) (pieces-toks lines)

-- ---- items

-- the item has the kind and the tokens of a piece
pub record IsPiece (ps : List Piece) (i : ItemText) : Type 0 where
  pub own : Piece
  pub among : In own ps
  pub kind : i.kind ≡ own.kind
  pub toks : i.toks ≡ own.toks

piece_later : (p : Piece) (ps : List Piece) (i : ItemText) → IsPiece ps i → IsPiece (p ∷ ps) i
piece_later p ps i h = record { own = h.own; among = in_more h.own p ps h.among; kind = h.kind; toks = h.toks }

drop_all_of : (n : ℕ) → ◌≡◌ {A = List Token} (drop n []) []
drop_all_of zero = refl
drop_all_of (suc n) = refl

drop_drop : (n m : ℕ) (ts : List Token) → drop m (drop n ts) ≡ drop (n + m) ts
drop_drop zero m ts = let same : 0 + m ≡ m = omega arith in ap (λ (k : ℕ). drop k ts) (sym same)
drop_drop (suc n) m [] = drop_all_of m ∙ sym (drop_all_of (suc n + m))
drop_drop (suc n) m (t ∷ ts) = let same : suc n + m ≡ suc (n + m) = omega arith in drop_drop n m ts ∙ ap (λ (k : ℕ). drop k (t ∷ ts)) (sym same)

-- one piece, and those behind it
text_by : (toks : List Token) (from : ℕ) (p : Piece) (ps : List Piece) (rest : List Token) (i : ItemText) → drop from toks ≡ p.toks ++ (all_toks ps ++ rest)
    → (drop (from + length p.toks) toks ≡ all_toks ps ++ rest → In i (map (item_text toks) (items_from (from + length p.toks) ps)) → IsPiece ps i)
    → (ts : List Token) → ts ≡ p.toks → In i (map (item_text toks) (item_of p.kind from p.toks ++ items_from (from + length p.toks) ps)) → IsPiece (p ∷ ps) i
text_by toks from p ps rest i split later [] same there =
    let next : drop (from + length p.toks) toks ≡ all_toks ps ++ rest =
    sym (drop_drop from (length p.toks) toks) ∙ ap (drop (length p.toks)) split ∙ drop-append_seam p.toks (all_toks ps ++ rest) in
    let one : item_of p.kind from p.toks ≡ [] = ap (item_of p.kind from) (sym same) in
    let behind : In i (map (item_text toks) (items_from (from + length p.toks) ps)) =
    subst (λ (is : List Item). In i (map (item_text toks) (is ++ items_from (from + length p.toks) ps))) one there in
    piece_later p ps i (later next behind)
text_by toks from p ps rest i split later (t ∷ ts) same there =
    let next : drop (from + length p.toks) toks ≡ all_toks ps ++ rest =
    sym (drop_drop from (length p.toks) toks) ∙ ap (drop (length p.toks)) split ∙ drop-append_seam p.toks (all_toks ps ++ rest) in
    let size : from + length (t ∷ ts) - from ≡ length p.toks = (let l = ap length same in omega (arith, l)) in
    let here : slice_range toks from (from + length (t ∷ ts)) ≡ p.toks =
    ap (λ (n : ℕ). take n (drop from toks)) size ∙ ap (take (length p.toks)) split ∙ take-append_seam p.toks (all_toks ps ++ rest) in
    let spread : In i (map (item_text toks) (item_of p.kind from (t ∷ ts) ++ items_from (from + length p.toks) ps)) =
    subst (λ (us : List Token). In i (map (item_text toks) (item_of p.kind from us ++ items_from (from + length p.toks) ps))) (sym same) there in
    elim (first_or i _ (map (item_text toks) (items_from (from + length p.toks) ps)) spread) [
      | inl is ↦ record {
        own = p;
        among = (0, refl);
        kind = ap (λ (x : ItemText). x.kind) (sym is);
        toks = ap (λ (x : ItemText). x.toks) (sym is) ∙ here;
      }
      | inr behind ↦ piece_later p ps i (later next behind)
    ]

pub texts_from : (toks : List Token) (from : ℕ) (ps : List Piece) (rest : List Token) → drop from toks ≡ all_toks ps ++ rest
    → (i : ItemText) → In i (map (item_text toks) (items_from from ps)) → IsPiece ps i
unfolding items_from
texts_from toks from [] rest e i there = absurd (none_in i there)
texts_from toks from (p ∷ ps) rest e i there =
    text_by toks from p ps rest i (e ∙ append_assoc p.toks (all_toks ps) rest)
    (λ next behind. texts_from toks (from + length p.toks) ps rest next i behind) p.toks refl there

run_taken : (k : ItemKind) (evaluated : Bool) (toks : List Token) (t : Token) → is_run k ≡ true → In t (taken k evaluated toks) → In t toks
run_taken k evaluated toks t run i = elim (taken_from k evaluated toks t i) [
  | inl is ↦ is.1
  | inr directive ↦ absurd (both_ways (is_run k) directive.0 run)
]

piece_at : (lines : List (List Token)) (ps : List Piece) → AllOf (FromLines lines) ps → (p : Piece) → In p ps → FromLines lines p
piece_at lines [] h p i = absurd (none_in p i)
piece_at lines (q ∷ ps) h p i = elim (first_or p q ps i) [
  | inl same ↦ subst (FromLines lines) same h.0
  | inr later ↦ piece_at lines ps h.1 p later
]

-- what is taken from an item of a file stands where something may be taken from a line of it
pub taken_open : (toks : List Token) (firsts : List Bool) (i : ItemText) (evaluated : Bool) (t : Token) → In i (item_texts toks firsts)
    → In t (taken i.kind evaluated i.toks) → OpenIn (lines_of toks firsts) t
unfolding items_of
taken_open toks firsts i evaluated t there taken_t =
    let lines = lines_of toks firsts in
    let ps = pieces_of lines in
    let whole : drop 0 toks ≡ all_toks ps ++ [] = sym (lines-together toks firsts) ∙ sym (pieces-toks lines) ∙ sym (append-nil (all_toks ps)) in
    let is = texts_from toks 0 ps [] whole i there in
    let from = piece_at lines ps (pieces_from lines) is.own is.among in
    let P : ItemKind → List Token → Type 0 = λ k ts. In t (taken k evaluated ts) in
    let own : P is.own.kind is.own.toks = subst (λ (ts : List Token). P is.own.kind ts) is.toks (subst (λ (k : ItemKind). P k i.toks) is.kind taken_t) in
    elim (cases_Bool (is_run is.own.kind)) [
      | inl run ↦ from.run run t (run_taken is.own.kind evaluated is.own.toks t run own)
      | inr directive ↦ from.line directive evaluated t own
    ]

-- The word of a directive line stands nowhere where a unit takes something from an item of the file.
pub word_not_taken : (file : ℕ) (bytes : List ℕ) (line : List Token) (w t : Token) (i : ItemText) (evaluated : Bool)
    → In line (lines_of (tokens_of file bytes) (firsts_of bytes)) → In w (word_of line) → In i (item_texts (tokens_of file bytes) (firsts_of bytes))
    → In t (taken i.kind evaluated i.toks) → w.at.at ≡ t.at.at → ⊥
word_not_taken file bytes line w t i evaluated in_lines is_word there taken_t same =
    let toks = tokens_of file bytes in
    let lines = lines_of toks (firsts_of bytes) in
    let open_ = taken_open toks (firsts_of bytes) i evaluated t there taken_t in
    let order : InOrder 0 (length (logical_of bytes)) (together lines) =
    subst (λ (ts : List Token). InOrder 0 (length (logical_of bytes)) ts) (sym (lines-together toks (firsts_of bytes))) (tokens_of-in_order file bytes) in
    words_apart 0 (length (logical_of bytes)) lines line open_.0 w t order in_lines open_.1 is_word open_.2 same

-- what is taken from an item of a file is a token of the file
pub taken_listed : (toks : List Token) (firsts : List Bool) (i : ItemText) (evaluated : Bool) (t : Token) → In i (item_texts toks firsts)
    → In t (taken i.kind evaluated i.toks) → In t toks
taken_listed toks firsts i evaluated t there taken_t =
    let open_ = taken_open toks firsts i evaluated t there taken_t in
    let among : In t (together (lines_of toks firsts)) = in_together (lines_of toks firsts) open_.0 t open_.1 (in_open open_.0 t open_.2) in
    subst (λ (ts : List Token). In t ts) (lines-together toks firsts) among

-- so is the word of a line
pub word_listed : (toks : List Token) (firsts : List Bool) (line : List Token) (w : Token) → In line (lines_of toks firsts) → In w (word_of line) → In w toks
word_listed toks firsts line w i j =
    subst (λ (ts : List Token). In w ts) (lines-together toks firsts) (in_together (lines_of toks firsts) line w i (in_word line w j))

pub word_first : (hash word : Token) (operands : List Token) → is_hash hash ≡ true → In word (word_of (hash ∷ word ∷ operands))
word_first hash word operands is = rw is (0, refl)

pub word_later : (hash word : Token) (operands : List Token) (t : Token) → is_hash hash ≡ true → stands_behind word operands ≡ true → In t operands
    → In t (word_of (hash ∷ word ∷ operands))
word_later hash word operands t is stands i = behind_word (is_hash hash) (stands_behind word operands) word t operands is stands i
