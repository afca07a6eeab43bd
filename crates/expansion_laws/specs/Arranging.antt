-- Runs in which lists of items stand (this project's), as those of arguments and parameters: where the marks of the lists,
-- their parentheses and commas, stand in a run and in what it is expanded to alike, the items may change places (ISO/IEC
-- 9899:1999, 6.10.3).
use Rattle.std.specs.Prelude.{◌≡◌, ◌<◌, ℕ, suc, ◌+◌, nat_le, ◌&&◌, ◌||◌, Bool, true, false, List, [], ◌∷◌, map, take, drop, Some, Ok, slice_get}
use Rattle.cs_base.specs.Token.{Token}
use Rattle.line_shape.specs.Signs.{is_open, is_close, is_comma}
use Rattle.macro_body.specs.declared.notes.Work.{Work}
use Rattle.macro_body.specs.Hides.{toks_of}
use Rattle.macro_body.specs.Macro.{Table}
use Rattle.macro_body.specs.Notes.{Note, Replaced, Expanded}
use Rattle.macro_expand.specs.Expansion.{expansion}
use Rattle.expansion_laws.specs.Telling.{IsAmong}
use Rattle.list_cuts.specs.Cuts.{Cut, done, keep, list, Items, ended, item, count_of, span_of, IsOrder, arranged, AreOf}
use Rattle.expansion_laws.specs.Alike.{unlined, label, names_line}

-- ---- marks

-- The same sign stands at place k of a run and at place m of what it is expanded to, and no macro put it in.
pub record IsMark (sign : Token → Bool) (run out : List Token) (k m : ℕ) : Type 0 where
  pub mark : Token
  pub run_has : slice_get run k ≡ Some mark
  pub out_has : slice_get out m ≡ Some mark
  pub direct : mark.direct ≡ true
  pub is_sign : sign mark ≡ true

-- what stands behind an item: the `,` before the next one, or the `)` behind the list
abbrev pub EndsItem : Items → Items → ℕ → ℕ → List Token → List Token → ℕ → ℕ → Type 0
EndsItem ended ended gap gap2 run out k m = (gap ≡ 0) × (gap2 ≡ 0) × IsMark is_close run out k m
EndsItem (item n c between more) (item n2 c2 between2 more2) gap gap2 run out k m = (gap ≡ 1) × (gap2 ≡ 1) × IsMark is_comma run out k m
EndsItem _ _ _ _ _ _ _ _ = ⊥

abbrev mutual
  -- A cut of a run and one of what it is expanded to have the same lists: `(`, items with `,` between them, and `)`; and
  -- so it is with the lists inside items.
  pub MarksStand : Cut → Cut → List Token → List Token → Type 0
  MarksStand done done run out = Unit {0}
  MarksStand (keep (suc k) (list is c)) (keep (suc m) (list js d)) run out =
      IsMark is_open run out k m × (0 < count_of js) × ItemsStand is js (drop (suc k) run) (drop (suc m) out)
      × MarksStand c d (drop (span_of is) (drop (suc k) run)) (drop (span_of js) (drop (suc m) out))
  MarksStand _ _ run out = ⊥

  -- the same of the items of a list, from the first token of the first one on
  pub ItemsStand : Items → Items → List Token → List Token → Type 0
  ItemsStand ended ended run out = Unit {0}
  ItemsStand (item n c gap more) (item m d gap2 more2) run out =
      MarksStand c d (take n run) (take m out) × EndsItem more more2 gap gap2 run out n m
      × ItemsStand more more2 (drop (n + gap) run) (drop (m + gap2) out)
  ItemsStand _ _ run out = ⊥

-- no token stands among these twice, as each of a file has a place of its own
abbrev pub AreDistinct : List Token → Type 0
AreDistinct run = (i j : ℕ) (t : Token) → slice_get run i ≡ Some t → slice_get run j ≡ Some t → i ≡ j

-- ---- numbers of lines

-- a list stands where so many tokens were put out before, or ends there; the cut begins behind `from` of them
unfoldable pub in_lists : ℕ → Cut → ℕ → Bool
in_lists from done before = false
in_lists from (keep n c) before = in_lists (from + n) c before
in_lists from (list is c) before = (nat_le from before && nat_le before (from + span_of is)) || in_lists (from + span_of is) c before

-- in a list no name is replaced by the number of its line (6.10.8)
abbrev pub LinesStay : Table → ℕ → Cut → List Note → Type 0
LinesStay table from c notes = (name m : Token) (before : ℕ) → IsAmong notes (Replaced name m before)
    → in_lists from c before ≡ true → names_line (table name.text) ≡ false

-- ---- labels of tokens that change places

-- tokens without their lines and places; white space before the first of them may differ, or not
abbrev pub labels : Bool → List Token → List Token
labels loose [] = []
labels loose (t ∷ ts) = label true loose t ∷ map (unlined true) ts

-- a token without its line and its places, and without white space before it
abbrev pub bare : Token → Token
bare t = label true true t

abbrev mutual
  -- Tokens that are to change places are like those for which they stand: lines and places may differ, and white space
  -- before the first of each item.
  pub IsLike : Bool → Cut → List Token → List Token → Type 0
  IsLike loose done new run = labels loose new ≡ labels loose run
  IsLike loose (keep n c) new run = (labels loose (take n new) ≡ labels loose (take n run)) × IsLike false c (drop n new) (drop n run)
  IsLike loose (list is c) new run = AreLike is new run × IsLike false c (drop (span_of is) new) (drop (span_of is) run)

  -- so are the items of a list, and the signs between them
  pub AreLike : Items → List Token → List Token → Type 0
  AreLike ended new run = Unit {0}
  AreLike (item n c gap more) new run =
      IsLike true c (take n new) (take n run) × (labels false (take gap (drop n new)) ≡ labels false (take gap (drop n run)))
      × AreLike more (drop (n + gap) new) (drop (n + gap) run)

-- Outside lists they are the same.
abbrev pub StandFor : Cut → List Token → List Token → Type 0
StandFor done new run = new ≡ run
StandFor (keep n c) new run = (take n new ≡ take n run) × StandFor c (drop n new) (drop n run)
StandFor (list is c) new run = AreLike is new run × StandFor c (drop (span_of is) new) (drop (span_of is) run)

-- ---- the law

-- The tokens of an expansion in the new order, but for lines, places and white space, for as much work.
pub record IsArranged (order : List ℕ) (c : Cut) (e e2 : Expanded) : Type 0 where
  pub toks : map bare (toks_of e2.toks) ≡ arranged order c (map bare (toks_of e.toks))
  pub left : e2.left ≡ e.left

-- The law: a run in the new order is expanded to the tokens in the new order.
abbrev pub RunsAreArranged : Type 0
RunsAreArranged = (table : Table) (path : List ℕ) (n : ℕ) (order : List ℕ) (c d : Cut) (run new : List Token) (work : Work) (e : Expanded)
    → IsOrder n order → AreOf n d → expansion table path run work ≡ Ok e → AreDistinct run → MarksStand c d run (toks_of e.toks)
    → LinesStay table 0 d e.notes → StandFor c new run
    → (e2 : Expanded) × (expansion table path (arranged order c new) work ≡ Ok e2) × IsArranged order d e e2

-- ---- the cut of a run, by that of what it is expanded to

-- A sign stands at place m of an expansion, and no macro put it in.
pub record IsSign (sign : Token → Bool) (out : List Token) (m : ℕ) : Type 0 where
  pub mark : Token
  pub has : slice_get out m ≡ Some mark
  pub direct : mark.direct ≡ true
  pub is_sign : sign mark ≡ true

-- what stands behind an item of an expansion
abbrev pub IsSigned : Items → ℕ → List Token → ℕ → Type 0
IsSigned ended gap out m = (gap ≡ 0) × IsSign is_close out m
IsSigned (item n c between more) gap out m = (gap ≡ 1) × IsSign is_comma out m

abbrev mutual
  -- the lists of a cut of an expansion have their marks
  pub SignsStand : Cut → List Token → Type 0
  SignsStand done out = Unit {0}
  SignsStand (keep (suc m) (list js d)) out =
      IsSign is_open out m × (0 < count_of js) × ItemsSigned js (drop (suc m) out) × SignsStand d (drop (span_of js) (drop (suc m) out))
  SignsStand _ out = ⊥

  pub ItemsSigned : Items → List Token → Type 0
  ItemsSigned ended out = Unit {0}
  ItemsSigned (item m d gap more) out = SignsStand d (take m out) × IsSigned more gap out m × ItemsSigned more (drop (m + gap) out)

-- The law: then the run has the same lists.
abbrev pub RunsHaveCuts : Type 0
RunsHaveCuts = (table : Table) (path : List ℕ) (d : Cut) (run : List Token) (work : Work) (e : Expanded) → expansion table path run work ≡ Ok e → SignsStand d (toks_of e.toks)
    → (c : Cut) × MarksStand c d run (toks_of e.toks) × ((n : ℕ) → AreOf n d → AreOf n c)

-- The law: they are in one cut alone, where no token stands in the run twice.
abbrev pub CutsAreOne : Type 0
CutsAreOne = (c c2 d : Cut) (run out : List Token) → AreDistinct run → MarksStand c d run out → MarksStand c2 d run out → c ≡ c2
