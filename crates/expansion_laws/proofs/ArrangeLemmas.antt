-- A run in the new order is expanded to the tokens in the new order.
use Rattle.std.proofs.Common.{◌≡◌, ℕ, suc, ◌+◌, ◌-◌, ◌<◌, ◌≤◌, ◌&&◌, Bool, true, false, List, [], ◌∷◌, ◌++◌, length, take, drop, map, Some, Ok, refl, ap, sym, subst, ◌∙◌, inl, inr, arith, length-append, length-drop, append_assoc}
use Rattle.std.specs.Prelude.{slice_get, nat_le}
use Rattle.std.specs.List.{list_all}
use Rattle.std.proofs.lemmas.Bool.{and_parts, le-leb}
use Rattle.std.proofs.lemmas.List.{length-map, map-append, take-map, drop-map, drop-drop}
use Rattle.std.proofs.lemmas.List.Folds.{list_all-append}
use Rattle.cs_base.specs.Token.{Token}
use Rattle.cs_base.proofs.BoolLemmas.{not_true, or_last as or_right}
use Rattle.cs_base.proofs.ListLemmas.{drop_at}
use Rattle.line_shape.specs.Signs.{is_name, is_open, is_close, is_comma}
use Rattle.line_shape.proofs.SignLemmas.{close-no_name, comma-no_name}
use Rattle.macro_body.specs.declared.notes.Work.{Work}
use Rattle.macro_body.specs.Hides.{Hidden, hidden, toks_of, unhidden}
use Rattle.macro_body.specs.Macro.{Table}
use Rattle.macro_body.specs.Notes.{Note, Replaced, Linked, Stringized, Pasted, Counted, Expanded, expanded, put_out}
use Rattle.macro_expand.specs.Expansion.{Setting, whole, expansion}
use Rattle.macro_expand.specs.Laws.{begins_open, ExpandsInParts}
use Rattle.macro_expand.proofs.WholeLemmas.{whole_falls}
use Rattle.macro_expand.proofs.PutOutLemmas.{no_macro as no_macro_of}
use Rattle.expansion_laws.proofs.ListLemmas.{AllNotes, notes_split, each_note}
use Rattle.list_cuts.specs.Cuts.{Cut, done, keep, list, Items, ended, item, count_of, span_of, IsOrder, picked, woven, gaps_of, arranged, items_of, AreOf, AreItemsOf}
use Rattle.list_cuts.proofs.CutLemmas.{length-order, length-arranged}
use Rattle.expansion_laws.specs.Alike.{unlined, label, names_line, brings_no_line}
use Rattle.expansion_laws.specs.Arranging.{IsMark, MarksStand, ItemsStand, AreDistinct, in_lists, LinesStay, labels, bare, IsLike, AreLike, StandFor, RunsAreArranged}
use Rattle.expansion_laws.proofs.AlikeLemmas.{expands_alike}
use Rattle.expansion_laws.proofs.BeforeLemmas.{Between, wider, told_between}
use Rattle.expansion_laws.proofs.MarkLemmas.{distinct_take, distinct_drop, open-no_name, close-no_open, comma-no_open, ends_sign, split_at}
use Rattle.expansion_laws.proofs.GoingLemmas.{open_labels, open_unlined, name_unlined, one_like, Goes, goes_as, goes_sign, ends_apart, goes_both, goes_alike, Part, AllGo, IsBetween, AreGaps, runs_of, outs_of, costs, costs-cons, woven_goes, chosen, picked_chosen, chosen_go, chosen_cost, length-chosen}

-- What stays the same: how expansions go part by part, the macros and the path, and the order.
record World : Type 0 where
  in_parts : ExpandsInParts
  set : Setting
  n : ℕ
  order : List ℕ
  is_order : IsOrder n order

-- ---- no number of a line is brought

-- nor behind so many tokens, and up to so many
abbrev QuietNote : Table → ℕ → ℕ → Note → Type 0
QuietNote table low high (Replaced name m before) = low ≤ before → before ≤ high → names_line (table name.text) ≡ false
QuietNote table low high _ = Unit {0}

quiet_all : (table : Table) (low high : ℕ) (notes : List Note) → AllNotes (QuietNote table low high) notes → AllNotes (Between low high) notes
    → list_all (brings_no_line table) notes ≡ true
quiet_all table low high [] q b = refl
quiet_all table low high (Replaced name m before ∷ notes) q b =
    let here : names_line (table name.text) ≡ false = q.0 b.0.0 b.0.1 in
    let rest = quiet_all table low high notes q.1 b.1 in
    rw (here, rest) refl
quiet_all table low high (Linked x y ∷ notes) q b = quiet_all table low high notes q.1 b.1
quiet_all table low high (Stringized toks s ∷ notes) q b = quiet_all table low high notes q.1 b.1
quiet_all table low high (Pasted x y z ∷ notes) q b = quiet_all table low high notes q.1 b.1
quiet_all table low high (Counted z ∷ notes) q b = quiet_all table low high notes q.1 b.1

quiet_note : (table : Table) (low high : ℕ) (note : Note) → brings_no_line table note ≡ true → QuietNote table low high note
quiet_note table low high (Replaced name m before) h = λ one two. not_true (names_line (table name.text)) h
quiet_note table low high (Linked x y) h = tt
quiet_note table low high (Stringized toks s) h = tt
quiet_note table low high (Pasted x y z) h = tt
quiet_note table low high (Counted z) h = tt

quiet_from : (table : Table) (low high : ℕ) (notes : List Note) → list_all (brings_no_line table) notes ≡ true → AllNotes (QuietNote table low high) notes
quiet_from table low high [] h = tt
quiet_from table low high (note ∷ notes) h =
    let both = and_parts (brings_no_line table note) (list_all (brings_no_line table) notes) h in
    (quiet_note table low high note both.0, quiet_from table low high notes both.1)

quiet_parts : (table : Table) (all xs ys : List Note) → all ≡ xs ++ ys → list_all (brings_no_line table) all ≡ true
    → (list_all (brings_no_line table) xs ≡ true) × (list_all (brings_no_line table) ys ≡ true)
quiet_parts table all xs ys e h =
    and_parts (list_all (brings_no_line table) xs) (list_all (brings_no_line table) ys)
    (sym (list_all-append (brings_no_line table) xs ys) ∙ ap (list_all (brings_no_line table)) (sym e) ∙ h)

notes_parts : (N : Note → Type 0) (all xs ys : List Note) → all ≡ xs ++ ys → AllNotes N all → AllNotes N xs × AllNotes N ys
notes_parts N all xs ys e h = notes_split N xs ys (subst (AllNotes N) e h)

-- ---- the work that is left

-- where no number is brought, the next number of the unit stays
counter_stays : (set : Setting) (before : ℕ) (ts : List Hidden) (work : Work) (e : Expanded) → whole set 0 before ts work ≡ Ok e
    → list_all (brings_no_line set.table) e.notes ≡ true → e.left.counter ≡ work.counter
counter_stays set before ts work e is quiet = (expands_alike false false set 0 before before ts ts work work e is refl (omega arith) quiet).2.counters.0

same_work : (v w : Work) → v.left ≡ w.left → v.counter ≡ w.counter → v ≡ w
same_work v w left counter = λ i. record { left = left i; counter = counter i }

-- ---- tokens without labels

abbrev bares : List Hidden → List Token
bares hs = map bare (toks_of hs)

bares_take : (k : ℕ) (hs : List Hidden) → bares (take k hs) ≡ take k (bares hs)
bares_take k hs = ap (map bare) (sym (take-map (λ (h : Hidden). h.tok) k hs)) ∙ sym (take-map bare k (toks_of hs))

bares_drop : (k : ℕ) (hs : List Hidden) → bares (drop k hs) ≡ drop k (bares hs)
bares_drop k hs = ap (map bare) (sym (drop-map (λ (h : Hidden). h.tok) k hs)) ∙ sym (drop-map bare k (toks_of hs))

bares_append : (xs ys : List Hidden) → bares (xs ++ ys) ≡ bares xs ++ bares ys
bares_append xs ys = ap (map bare) (map-append (λ (h : Hidden). h.tok) xs ys) ∙ map-append bare (toks_of xs) (toks_of ys)

toks_take : (k : ℕ) (hs xs : List Hidden) → xs ≡ take k hs → take k (toks_of hs) ≡ toks_of xs
toks_take k hs xs e = take-map (λ (h : Hidden). h.tok) k hs ∙ ap toks_of (sym e)

toks_drop : (k : ℕ) (hs xs : List Hidden) → xs ≡ drop k hs → drop k (toks_of hs) ≡ toks_of xs
toks_drop k hs xs e = drop-map (λ (h : Hidden). h.tok) k hs ∙ ap toks_of (sym e)

-- ---- the items of a list

-- Each goes so anywhere, arranged by its own cut; between them stand signs; and what stands behind the list is expanded to
-- what is left.
record Walked (w : World) (is js : Items) (us run : List Token) (before : ℕ) (work : Work) (e : Expanded) : Type 0 where
  items : List Part
  gaps : List Part
  items_run : runs_of items ≡ items_of w.order is us
  items_out : outs_of items ≡ items_of w.order js (bares e.toks)
  gaps_run : runs_of gaps ≡ gaps_of is us
  gaps_out : outs_of gaps ≡ gaps_of js (bares e.toks)
  many : length items ≡ count_of js
  many_gaps : length gaps ≡ count_of js
  all : AllGo w.set items
  between : AreGaps w.set gaps
  before2 : ℕ
  work2 : Work
  e2 : Expanded
  rest : whole w.set 0 before2 (unhidden (drop (span_of is) run)) work2 ≡ Ok e2
  toks : e2.toks ≡ drop (span_of js) e.toks
  some : 0 < length e2.toks
  cost : costs items + work2.left ≡ work.left
  counter : work2.counter ≡ work.counter
  left : e2.left ≡ e.left
  placed : before2 + length e2.toks ≡ before + length e.toks
  here : List Note
  notes : e.notes ≡ here ++ e2.notes
  close : Token
  behind : List Token
  closes : drop (span_of is) run ≡ close ∷ behind
  no_open : is_open close ≡ false

-- the list in the new order goes so anywhere
list_goes : (w : World) (is js : Items) (us run : List Token) (before : ℕ) (work : Work) (e : Expanded) (k : Walked w is js us run before work e) → count_of js ≡ w.n
    → Goes w.set (woven (picked w.order (items_of w.order is us)) (gaps_of is us)) (woven (picked w.order (items_of w.order js (bares e.toks))) (gaps_of js (bares e.toks))) (costs k.items) false
list_goes w is js us run before work e k count =
    let many : length k.items ≡ w.n = k.many ∙ count in
    let ordered : IsOrder (length k.items) w.order = rw many w.is_order in
    let alike : length (chosen w.order k.items) ≡ length k.gaps = length-chosen w.order k.items ∙ length-order w.n w.order w.is_order ∙ sym count ∙ sym k.many_gaps in
    let run_is : runs_of (chosen w.order k.items) ≡ picked w.order (items_of w.order is us) =
    sym (picked_chosen (λ (p : Part). p.run) refl w.order k.items) ∙ ap (λ (l : List (List Token)). picked w.order l) k.items_run in
    let out_is : outs_of (chosen w.order k.items) ≡ picked w.order (items_of w.order js (bares e.toks)) =
    sym (picked_chosen (λ (p : Part). p.outs) refl w.order k.items) ∙ ap (λ (l : List (List Token)). picked w.order l) k.items_out in
    goes_as w.set (woven (runs_of (chosen w.order k.items)) (runs_of k.gaps)) (woven (picked w.order (items_of w.order is us)) (gaps_of is us))
    (woven (outs_of (chosen w.order k.items)) (outs_of k.gaps)) (woven (picked w.order (items_of w.order js (bares e.toks))) (gaps_of js (bares e.toks)))
    (costs (chosen w.order k.items)) (costs k.items) false
    (ap (λ (l : List (List Token)). woven l (runs_of k.gaps)) run_is ∙ ap (λ (l : List (List Token)). woven (picked w.order (items_of w.order is us)) l) k.gaps_run)
    (ap (λ (l : List (List Token)). woven l (outs_of k.gaps)) out_is ∙ ap (λ (l : List (List Token)). woven (picked w.order (items_of w.order js (bares e.toks))) l) k.gaps_out)
    (chosen_cost w.order k.items ordered)
    (woven_goes w.in_parts w.set (chosen w.order k.items) k.gaps (chosen_go w.set w.order k.items k.all) k.between alike)

first_token : (x y : Token) (xs ys : List Token) → x ∷ xs ≡ y ∷ ys → x ≡ y
first_token x y xs ys e = cc

-- what begins with no `(` begins so in the new order
begins_like : (order : List ℕ) (c d : Cut) (us ts out : List Token) (t : Token) → is_open t ≡ false → MarksStand c d (t ∷ ts) out → IsLike false c us (t ∷ ts)
    → begins_open (unhidden (arranged order c us)) ≡ false
unfolding arranged
begins_like order done done us ts out t lacks stand like = open_labels false us (t ∷ ts) like ∙ lacks
begins_like order (keep (suc k) (list is c)) (keep (suc m) (list js d)) [] ts out t lacks stand like = absurd (none like.0)
  where
    none : [] ≡ label true false t ∷ map (unlined true) (take k ts) → ⊥
    none e = cc
begins_like order (keep (suc k) (list is c)) (keep (suc m) (list js d)) (u ∷ us) ts out t lacks stand like =
    open_unlined u t (first_token (label true false u) (label true false t) (map (unlined true) (take k us)) (map (unlined true) (take k ts)) like.0) ∙ lacks
begins_like order c d us ts out t lacks stand like = absurd stand

begins_same : (order : List ℕ) (c d : Cut) (us ts out : List Token) (t : Token) → is_open t ≡ false → MarksStand c d (t ∷ ts) out → StandFor c us (t ∷ ts)
    → begins_open (unhidden (arranged order c us)) ≡ false
unfolding arranged
begins_same order done done us ts out t lacks stand same = ap (λ (l : List Token). begins_open (unhidden l)) same ∙ lacks
begins_same order (keep (suc k) (list is c)) (keep (suc m) (list js d)) [] ts out t lacks stand same = absurd (none same.0)
  where
    none : [] ≡ t ∷ take k ts → ⊥
    none e = cc
begins_same order (keep (suc k) (list is c)) (keep (suc m) (list js d)) (u ∷ us) ts out t lacks stand same =
    ap is_open (first_token u t (take k us) (take k ts) same.0) ∙ lacks
begins_same order c d us ts out t lacks stand same = absurd stand

-- a comma between two items
comma_between : (set : Setting) (us run : List Token) (n gap gap2 m : ℕ) (e : Expanded) (mk : IsMark is_comma run (toks_of e.toks) n m) → gap ≡ 1 → gap2 ≡ 1
    → labels false (take gap (drop n us)) ≡ labels false (take gap (drop n run)) → (t : Hidden) (zs : List Hidden) → t ∷ zs ≡ drop m e.toks → t.tok ≡ mk.mark
    → IsBetween set (record { run = take gap (drop n us); outs = take gap2 (drop m (bares e.toks)); cost = 0 })
comma_between set us run n gap gap2 m e mk one two like t zs from t_is =
    let run_is : take gap (drop n run) ≡ mk.mark ∷ [] =
    ap (λ (g : ℕ). take g (drop n run)) one ∙ ap (λ (l : List Token). take 1 l) (drop_at run n mk.mark mk.run_has) in
    let k = one_like (take gap (drop n us)) mk.mark (like ∙ ap (labels false) run_is) in
    let lacks : is_name k.0 ≡ false = name_unlined k.0 mk.mark k.2 ∙ comma-no_name mk.mark mk.is_sign in
    let shut : is_open k.0 ≡ false = open_unlined k.0 mk.mark k.2 ∙ comma-no_open mk.mark mk.is_sign in
    let outs_is : take gap2 (drop m (bares e.toks)) ≡ bare mk.mark ∷ [] =
    ap (λ (g : ℕ). take g (drop m (bares e.toks))) two ∙ ap (λ (l : List Token). take 1 l) (sym (bares_drop m e.toks) ∙ ap bares (sym from))
    ∙ ap (λ (v : Token). bare v ∷ []) t_is in
    record {
      goes =
          goes_as set (k.0 ∷ []) (take gap (drop n us)) (bare mk.mark ∷ []) (take gap2 (drop m (bares e.toks))) 0 0 true (sym k.1) (sym outs_is) refl
          (goes_sign set k.0 mk.mark k.2 lacks);
      begins = λ behind. ap (λ (l : List Token). begins_open (unhidden (l ++ behind))) k.1 ∙ shut;
    }

-- a sign in front of what stands between other items
gaps_more : (set : Setting) (g : Part) (gs : List Part) → IsBetween set g → AreGaps set gs → 0 < length gs → AreGaps set (g ∷ gs)
gaps_more set g [] one more some = absurd (omega (arith, some))
gaps_more set g (h ∷ gs) one more some = (one, more)

mutual
  unfolding arranged items_of gaps_of span_of count_of

  -- tokens that go so somewhere go so anywhere in the new order
  item_goes : (w : World) (c d : Cut) (loose : Bool) (us run : List Token) (before : ℕ) (work : Work) (e : Expanded) → whole w.set 0 before (unhidden run) work ≡ Ok e
      → AreDistinct run → MarksStand c d run (toks_of e.toks) → list_all (brings_no_line w.set.table) e.notes ≡ true → IsLike loose c us run → AreOf w.n d
      → Goes w.set (arranged w.order c us) (arranged w.order d (bares e.toks)) (work.left - e.left.left) false
  item_goes w done done loose us run before work e is dis stand quiet like of =
      goes_alike w.set loose before run us work e false is quiet like (λ h. absurd (lacks h))
    where
      lacks : false ≡ true → ⊥
      lacks h = cc
  item_goes w (keep (suc k) (list is c)) (keep (suc m) (list js d)) loose us run before work e e_is dis stand quiet like of =
      let s = split_at w.set before run work e k m is_open stand.0 open-no_name dis e_is in
      let q = quiet_parts w.set.table e.notes s.x.notes s.z.notes s.notes quiet in
      let x_fell = whole_falls w.set 0 before (unhidden (take k run)) work s.x s.first in
      let us2 : List Token = drop (suc k) us in
      let run2 : List Token = drop (suc k) run in
      let z_is : drop (suc m) (toks_of e.toks) ≡ toks_of s.z.toks = toks_drop (suc m) e.toks s.z.toks s.z_toks in
      let k2 = items_go w is js us2 run2 (before + suc m) s.x.left s.z (before + suc m) (before + suc m + span_of js) s.behind (distinct_drop (suc k) run dis) stand.1
      (subst (λ (l : List Token). ItemsStand is js run2 l) z_is stand.2)
      (quiet_from w.set.table (before + suc m) (before + suc m + span_of js) s.z.notes q.1) (omega arith) (omega arith) like.1.0 of.1 in
      let e2_is : drop (span_of js) (drop (suc m) (toks_of e.toks)) ≡ toks_of k2.e2.toks =
      ap (λ (l : List Token). drop (span_of js) l) z_is ∙ toks_drop (span_of js) s.z.toks k2.e2.toks k2.toks in
      let q2 = quiet_parts w.set.table s.z.notes k2.here k2.e2.notes k2.notes q.1 in
      let stand2 : MarksStand c d (drop (span_of is) run2) (toks_of k2.e2.toks) = subst (λ (l : List Token). MarksStand c d (drop (span_of is) run2) l) e2_is stand.3 in
      let us3 : List Token = drop (span_of is) us2 in
      let rest = item_goes w c d false us3 (drop (span_of is) run2) k2.before2 k2.work2 k2.e2 k2.rest
      (distinct_drop (span_of is) run2 (distinct_drop (suc k) run dis)) stand2 q2.1 like.1.1 of.2 in
      let e2_fell = whole_falls w.set 0 k2.before2 (unhidden (drop (span_of is) run2)) k2.work2 k2.e2 k2.rest in
      let shut : begins_open (unhidden (arranged w.order c us3)) ≡ false =
      begins_like w.order c d us3 k2.behind (toks_of k2.e2.toks) k2.close k2.no_open
      (subst (λ (l : List Token). MarksStand c d l (toks_of k2.e2.toks)) k2.closes stand2) (subst (λ (l : List Token). IsLike false c us3 l) k2.closes like.1.1) in
      let x2 : Expanded = expanded (s.x.toks ++ s.sign ∷ []) s.x.notes s.x.left in
      let first = goes_alike w.set loose before (take (suc k) run) (take (suc k) us) work x2 true s.signed q.0 like.0
      (λ h. ends_sign w.set.table s.x.toks s.sign (no_macro_of w.set.table s.sign s.no_name)) in
      let middle = list_goes w is js us2 run2 (before + suc m) s.x.left s.z k2 of.0 in
      let woven_run : List Token = woven (picked w.order (items_of w.order is us2)) (gaps_of is us2) in
      let woven_of : List Token → List Token = λ l. woven (picked w.order (items_of w.order js l)) (gaps_of js l) in
      let last_run : List Token = arranged w.order c us3 in
      let last_out : List Token = arranged w.order d (bares k2.e2.toks) in
      let behind = goes_both w.in_parts w.set woven_run last_run (woven_of (bares s.z.toks)) last_out (costs k2.items) (k2.work2.left - k2.e2.left.left) false false middle rest (inr shut) in
      let all = goes_both w.in_parts w.set (take (suc k) us) (woven_run ++ last_run) (bares x2.toks) (woven_of (bares s.z.toks) ++ last_out) (work.left - s.x.left.left) (costs k2.items + (k2.work2.left - k2.e2.left.left)) true false
      first behind (inl refl) in
      let os : List Token = bares e.toks in
      let a : bares x2.toks ≡ take (suc m) os = ap bares s.upto ∙ bares_take (suc m) e.toks in
      let b : bares s.z.toks ≡ drop (suc m) os = ap bares s.z_toks ∙ bares_drop (suc m) e.toks in
      let b2 : bares k2.e2.toks ≡ drop (span_of js) (drop (suc m) os) = ap bares k2.toks ∙ bares_drop (span_of js) s.z.toks ∙ ap (λ (l : List Token). drop (span_of js) l) b in
      let outs : bares x2.toks ++ (woven_of (bares s.z.toks) ++ last_out) ≡ arranged w.order (keep (suc m) (list js d)) os =
      ap (λ (l : List Token). l ++ (woven_of (bares s.z.toks) ++ last_out)) a
      ∙ ap (λ (l : List Token). take (suc m) os ++ (woven_of l ++ last_out)) b
      ∙ ap (λ (l : List Token). take (suc m) os ++ (woven_of (drop (suc m) os) ++ arranged w.order d l)) b2 in
      let cost = k2.cost in
      let left = ap (λ (v : Work). v.left) k2.left in
      let left2 = ap (λ (v : Work). v.left) s.left in
      goes_as w.set (take (suc k) us ++ (woven_run ++ last_run)) (arranged w.order (keep (suc k) (list is c)) us) (bares x2.toks ++ (woven_of (bares s.z.toks) ++ last_out))
      (arranged w.order (keep (suc m) (list js d)) os) ((work.left - s.x.left.left) + (costs k2.items + (k2.work2.left - k2.e2.left.left))) (work.left - e.left.left) false
      refl outs (omega (arith, cost, left, left2, x_fell, e2_fell)) all
  item_goes w c d loose us run before work e is dis stand quiet like of = absurd stand

  -- the items of a list, and what stands between and behind them
  items_go : (w : World) (is js : Items) (us run : List Token) (before : ℕ) (work : Work) (e : Expanded) (low high : ℕ) → whole w.set 0 before (unhidden run) work ≡ Ok e
      → AreDistinct run → 0 < count_of js → ItemsStand is js run (toks_of e.toks) → AllNotes (QuietNote w.set.table low high) e.notes
      → low ≤ before → before + span_of js ≤ high → AreLike is us run → AreItemsOf w.n js → Walked w is js us run before work e
  items_go w ended ended us run before work e low high e_is dis some stand quiet from to like of = absurd (omega (arith, some))
  items_go w (item n c gap ended) (item m d gap2 ended) us run before work e low high e_is dis some stand quiet from to like of =
      let zero1 : gap ≡ 0 = stand.1.0 in
      let zero2 : gap2 ≡ 0 = stand.1.1 in
      let mk = stand.1.2 in
      let s = split_at w.set before run work e n m is_close mk close-no_name dis e_is in
      let x_fell = whole_falls w.set 0 before (unhidden (take n run)) work s.x s.first in
      let q = notes_parts (QuietNote w.set.table low high) e.notes s.x.notes s.z.notes s.notes quiet in
      let told = told_between w.set before (unhidden (take n run)) work s.x s.first in
      let long = s.x_length in
      let x_quiet = quiet_all w.set.table low high s.x.notes q.0
      (wider before (before + length s.x.toks) low high s.x.notes from (omega (arith, long, to)) told) in
      let x_stand : MarksStand c d (take n run) (toks_of s.x.toks) = subst (λ (l : List Token). MarksStand c d (take n run) l) (toks_take m e.toks s.x.toks s.x_toks) stand.0 in
      let p : Part = record { run = arranged w.order c (take n us); outs = arranged w.order d (bares s.x.toks); cost = work.left - s.x.left.left } in
      let goes = item_goes w c d true (take n us) (take n run) before work s.x s.first (distinct_take n run dis) x_stand x_quiet like.0 of.0 in
      let g : Part = record { run = []; outs = []; cost = 0 } in
      let outs_is : arranged w.order d (bares s.x.toks) ≡ arranged w.order d (take m (bares e.toks)) = ap (λ (l : List Token). arranged w.order d l) (ap bares s.x_toks ∙ bares_take m e.toks) in
      let span1 : n ≡ n + (gap + 0) = omega (arith, zero1) in
      let span2 : m ≡ m + (gap2 + 0) = omega (arith, zero2) in
      let cost = costs-cons p [] in
      let count = ap length s.toks ∙ length-append s.x.toks (s.sign ∷ s.z.toks) in
      record {
        items = p ∷ [];
        gaps = g ∷ [];
        items_run = refl;
        items_out = ap (λ (l : List Token). l ∷ []) outs_is;
        gaps_run = ap (λ (i : ℕ). take i (drop n us) ∷ []) (sym zero1);
        gaps_out = ap (λ (i : ℕ). take i (drop m (bares e.toks)) ∷ []) (sym zero2);
        many = omega arith;
        many_gaps = omega arith;
        all = (goes, tt);
        between = (refl, refl);
        before2 = before + m;
        work2 = s.x.left;
        e2 = put_out s.sign s.z;
        rest = ap (λ (i : ℕ). whole w.set 0 (before + m) (unhidden (drop i run)) s.x.left) (sym span1) ∙ s.stays;
        toks = s.from ∙ ap (λ (i : ℕ). drop i e.toks) span2;
        some = omega arith;
        cost = omega (arith, cost, x_fell);
        counter = counter_stays w.set before (unhidden (take n run)) work s.x s.first x_quiet;
        left = sym s.left;
        placed = omega (arith, count, long);
        here = s.x.notes;
        notes = s.notes;
        close = mk.mark;
        behind = drop (suc n) run;
        closes = ap (λ (i : ℕ). drop i run) (sym span1) ∙ drop_at run n mk.mark mk.run_has;
        no_open = close-no_open mk.mark mk.is_sign;
      }
  items_go w (item n c gap (item n2 c2 gap3 more)) (item m d gap2 (item m2 d2 gap4 more2)) us run before work e low high e_is dis some stand quiet from to like of =
      let is : Items = item n2 c2 gap3 more in
      let js : Items = item m2 d2 gap4 more2 in
      let one1 : gap ≡ 1 = stand.1.0 in
      let one2 : gap2 ≡ 1 = stand.1.1 in
      let mk = stand.1.2 in
      let s = split_at w.set before run work e n m is_comma mk comma-no_name dis e_is in
      let x_fell = whole_falls w.set 0 before (unhidden (take n run)) work s.x s.first in
      let q = notes_parts (QuietNote w.set.table low high) e.notes s.x.notes s.z.notes s.notes quiet in
      let told = told_between w.set before (unhidden (take n run)) work s.x s.first in
      let long = s.x_length in
      let x_quiet = quiet_all w.set.table low high s.x.notes q.0
      (wider before (before + length s.x.toks) low high s.x.notes from (omega (arith, long, to)) told) in
      let x_stand : MarksStand c d (take n run) (toks_of s.x.toks) = subst (λ (l : List Token). MarksStand c d (take n run) l) (toks_take m e.toks s.x.toks s.x_toks) stand.0 in
      let p : Part = record { run = arranged w.order c (take n us); outs = arranged w.order d (bares s.x.toks); cost = work.left - s.x.left.left } in
      let goes = item_goes w c d true (take n us) (take n run) before work s.x s.first (distinct_take n run dis) x_stand x_quiet like.0 of.0 in
      let outs_is : arranged w.order d (bares s.x.toks) ≡ arranged w.order d (take m (bares e.toks)) = ap (λ (l : List Token). arranged w.order d l) (ap bares s.x_toks ∙ bares_take m e.toks) in
      let g : Part = record { run = take gap (drop n us); outs = take gap2 (drop m (bares e.toks)); cost = 0 } in
      let step1 : suc n ≡ n + gap = omega (arith, one1) in
      let step2 : suc m ≡ m + gap2 = omega (arith, one2) in
      let z_is : whole w.set 0 (before + suc m) (unhidden (drop (n + gap) run)) s.x.left ≡ Ok s.z =
      ap (λ (i : ℕ). whole w.set 0 (before + suc m) (unhidden (drop i run)) s.x.left) (sym step1) ∙ s.behind in
      let z_toks : s.z.toks ≡ drop (m + gap2) e.toks = s.z_toks ∙ ap (λ (i : ℕ). drop i e.toks) step2 in
      let z_stand : ItemsStand is js (drop (n + gap) run) (toks_of s.z.toks) =
      subst (λ (l : List Token). ItemsStand is js (drop (n + gap) run) l) (toks_drop (m + gap2) e.toks s.z.toks z_toks) stand.2 in
      let k = items_go w (item n2 c2 gap3 more) (item m2 d2 gap4 more2) (drop (n + gap) us) (drop (n + gap) run) (before + suc m) s.x.left s.z low high z_is (distinct_drop (n + gap) run dis) (omega arith) z_stand q.1
      (omega (arith, from)) (omega (arith, to, one2)) like.2 of.1 in
      let z_bare : bares s.z.toks ≡ drop (m + gap2) (bares e.toks) = ap bares z_toks ∙ bares_drop (m + gap2) e.toks in
      let span1 : (n + gap) + span_of is ≡ n + (gap + span_of is) = omega arith in
      let span2 : (m + gap2) + span_of js ≡ m + (gap2 + span_of js) = omega arith in
      let run_is : drop (span_of is) (drop (n + gap) run) ≡ drop (n + (gap + span_of is)) run = drop-drop (span_of is) (n + gap) run ∙ ap (λ (i : ℕ). drop i run) span1 in
      let toks_are : drop (span_of js) (drop (m + gap2) e.toks) ≡ drop (m + (gap2 + span_of js)) e.toks = drop-drop (span_of js) (m + gap2) e.toks ∙ ap (λ (i : ℕ). drop i e.toks) span2 in
      let cost = costs-cons p k.items in
      let cost2 = k.cost in
      let count = ap length s.toks ∙ length-append s.x.toks (s.sign ∷ s.z.toks) in
      let placed = k.placed in
      let many = k.many in
      let many2 = k.many_gaps in
      let comma = comma_between w.set us run n gap gap2 m e mk one1 one2 like.1 s.sign s.z.toks s.from s.same in
      record {
        items = p ∷ k.items;
        gaps = g ∷ k.gaps;
        items_run = ap (λ (l : List (List Token)). p.run ∷ l) k.items_run;
        items_out = ap (λ (l : List Token). l ∷ outs_of k.items) outs_is
            ∙ ap (λ (ls : List (List Token)). arranged w.order d (take m (bares e.toks)) ∷ ls) (k.items_out ∙ ap (λ (l : List Token). items_of w.order js l) z_bare);
        gaps_run = ap (λ (ls : List (List Token)). g.run ∷ ls) k.gaps_run;
        gaps_out = ap (λ (ls : List (List Token)). g.outs ∷ ls) (k.gaps_out ∙ ap (λ (l : List Token). gaps_of js l) z_bare);
        many = omega (arith, many);
        many_gaps = omega (arith, many2);
        all = (goes, k.all);
        between = gaps_more w.set g k.gaps comma k.between (omega (arith, many2));
        before2 = k.before2;
        work2 = k.work2;
        e2 = k.e2;
        rest = ap (λ (l : List Token). whole w.set 0 k.before2 (unhidden l) k.work2) (sym run_is) ∙ k.rest;
        toks = k.toks ∙ ap (λ (l : List Hidden). drop (span_of js) l) z_toks ∙ toks_are;
        some = k.some;
        cost = omega (arith, cost, cost2, x_fell);
        counter = k.counter ∙ counter_stays w.set before (unhidden (take n run)) work s.x s.first x_quiet;
        left = k.left ∙ sym s.left;
        placed = omega (arith, count, long, placed);
        here = s.x.notes ++ k.here;
        notes = s.notes ∙ ap (λ (l : List Note). s.x.notes ++ l) k.notes ∙ sym (append_assoc s.x.notes k.here k.e2.notes);
        close = k.close;
        behind = k.behind;
        closes = sym run_is ∙ k.closes;
        no_open = k.no_open;
      }
  items_go w (item n c gap ended) (item m d gap2 (item m2 d2 gap4 more2)) us run before work e low high e_is dis some stand quiet from to like of = absurd (stand.1)
  items_go w (item n c gap (item n2 c2 gap3 more)) (item m d gap2 ended) us run before work e low high e_is dis some stand quiet from to like of = absurd (stand.1)
  items_go w is js us run before work e low high e_is dis some stand quiet from to like of = absurd stand

-- ---- a run

-- in a list no name is replaced by the number of its line
abbrev LineNote : Table → ℕ → Cut → Note → Type 0
LineNote table from c (Replaced name m before) = in_lists from c before ≡ true → names_line (table name.text) ≡ false
LineNote table from c _ = Unit {0}

line_notes : (table : Table) (from : ℕ) (c : Cut) (notes : List Note) → LinesStay table from c notes → AllNotes (LineNote table from c) notes
line_notes table from c notes h = each_note (LineNote table from c) notes each
  where
    each : (note : Note) (k : ℕ) → slice_get notes k ≡ Some note → LineNote table from c note
    each (Replaced name m before) k is = h name m before (k, is)
    each (Linked x y) k is = tt
    each (Stringized toks s) k is = tt
    each (Pasted x y z) k is = tt
    each (Counted z) k is = tt

-- what is so of numbers in a list is so of others
lines_more : (table : Table) (from from2 : ℕ) (c c2 : Cut) (notes : List Note) → ((before : ℕ) → in_lists from2 c2 before ≡ true → in_lists from c before ≡ true)
    → AllNotes (LineNote table from c) notes → AllNotes (LineNote table from2 c2) notes
lines_more table from from2 c c2 [] more all = tt
lines_more table from from2 c c2 (Replaced name m before ∷ notes) more all = (λ h. all.0 (more before h), lines_more table from from2 c c2 notes more all.1)
lines_more table from from2 c c2 (Linked x y ∷ notes) more all = (tt, lines_more table from from2 c c2 notes more all.1)
lines_more table from from2 c c2 (Stringized toks s ∷ notes) more all = (tt, lines_more table from from2 c c2 notes more all.1)
lines_more table from from2 c c2 (Pasted x y z ∷ notes) more all = (tt, lines_more table from from2 c c2 notes more all.1)
lines_more table from from2 c c2 (Counted z ∷ notes) more all = (tt, lines_more table from from2 c c2 notes more all.1)

lines_quiet : (table : Table) (from low high : ℕ) (c : Cut) (notes : List Note) → ((before : ℕ) → low ≤ before → before ≤ high → in_lists from c before ≡ true)
    → AllNotes (LineNote table from c) notes → AllNotes (QuietNote table low high) notes
lines_quiet table from low high c [] more all = tt
lines_quiet table from low high c (Replaced name m before ∷ notes) more all = (λ l h. all.0 (more before l h), lines_quiet table from low high c notes more all.1)
lines_quiet table from low high c (Linked x y ∷ notes) more all = (tt, lines_quiet table from low high c notes more all.1)
lines_quiet table from low high c (Stringized toks s ∷ notes) more all = (tt, lines_quiet table from low high c notes more all.1)
lines_quiet table from low high c (Pasted x y z ∷ notes) more all = (tt, lines_quiet table from low high c notes more all.1)
lines_quiet table from low high c (Counted z ∷ notes) more all = (tt, lines_quiet table from low high c notes more all.1)

in_this : (from m : ℕ) (js : Items) (d : Cut) (before : ℕ) → from + m ≤ before → before ≤ from + m + span_of js → in_lists from (keep m (list js d)) before ≡ true
unfolding in_lists
in_this from m js d before low high = rw (le-leb (from + m) before low, le-leb before (from + m + span_of js) high) refl

in_later : (from m from2 : ℕ) (js : Items) (d : Cut) (before : ℕ) → from2 ≡ from + m + span_of js → in_lists from2 d before ≡ true → in_lists from (keep m (list js d)) before ≡ true
unfolding in_lists
in_later from m from2 js d before is h =
    or_right (nat_le (from + m) before && nat_le before (from + m + span_of js)) (in_lists (from + m + span_of js) d before)
    (ap (λ (i : ℕ). in_lists i d before) (sym is) ∙ h)

-- It is expanded to these tokens, with as much work left.
record Ended (w : World) (before : ℕ) (new : List Token) (work : Work) (outs : List Token) (left : Work) : Type 0 where
  e : Expanded
  is : whole w.set 0 before (unhidden new) work ≡ Ok e
  toks : bares e.toks ≡ outs
  same : e.left ≡ left

-- the list in the new order is as long
woven_length : (w : World) (js : Items) (os : List Token) (k : ℕ) → count_of js ≡ w.n → AreItemsOf w.n js → length (drop (span_of js) os) ≡ k
    → length (woven (picked w.order (items_of w.order js os)) (gaps_of js os)) + k ≡ length os
unfolding arranged
woven_length w js os k count of is =
    let all : length (woven (picked w.order (items_of w.order js os)) (gaps_of js os) ++ drop (span_of js) os) ≡ length os =
    length-arranged w.n w.order (list js done) os w.is_order (count, of, tt) in
    let parts = length-append (woven (picked w.order (items_of w.order js os)) (gaps_of js os)) (drop (span_of js) os) in
    omega (arith, all, parts, is)

run_goes : (w : World) (c d : Cut) (new run : List Token) (before : ℕ) (work : Work) (e : Expanded) → whole w.set 0 before (unhidden run) work ≡ Ok e
    → AreDistinct run → MarksStand c d run (toks_of e.toks) → AllNotes (LineNote w.set.table before d) e.notes → StandFor c new run → AreOf w.n d
    → Ended w before (arranged w.order c new) work (arranged w.order d (bares e.toks)) e.left
unfolding arranged
run_goes w done done new run before work e e_is dis stand lines same of =
    record { e = e; is = ap (λ (l : List Token). whole w.set 0 before (unhidden l) work) same ∙ e_is; toks = refl; same = refl }
run_goes w (keep (suc k) (list is c)) (keep (suc m) (list js d)) new run before work e e_is dis stand lines same of =
    let s = split_at w.set before run work e k m is_open stand.0 open-no_name dis e_is in
    let q = notes_parts (LineNote w.set.table before (keep (suc m) (list js d))) e.notes s.x.notes s.z.notes s.notes lines in
    let us2 : List Token = drop (suc k) new in
    let run2 : List Token = drop (suc k) run in
    let z_is : drop (suc m) (toks_of e.toks) ≡ toks_of s.z.toks = toks_drop (suc m) e.toks s.z.toks s.z_toks in
    let low : ℕ = before + suc m in
    let high : ℕ = before + suc m + span_of js in
    let k2 = items_go w is js us2 run2 low s.x.left s.z low high s.behind (distinct_drop (suc k) run dis) stand.1
    (subst (λ (l : List Token). ItemsStand is js run2 l) z_is stand.2)
    (lines_quiet w.set.table before low high (keep (suc m) (list js d)) s.z.notes (in_this before (suc m) js d) q.1) (omega arith) (omega arith) same.1.0 of.1 in
    let e2_is : drop (span_of js) (drop (suc m) (toks_of e.toks)) ≡ toks_of k2.e2.toks =
    ap (λ (l : List Token). drop (span_of js) l) z_is ∙ toks_drop (span_of js) s.z.toks k2.e2.toks k2.toks in
    let q2 = notes_parts (LineNote w.set.table before (keep (suc m) (list js d))) s.z.notes k2.here k2.e2.notes k2.notes q.1 in
    let us3 : List Token = drop (span_of is) us2 in
    let run3 : List Token = drop (span_of is) run2 in
    let stand2 : MarksStand c d run3 (toks_of k2.e2.toks) = subst (λ (l : List Token). MarksStand c d run3 l) e2_is stand.3 in
    let some = k2.some in
    let placed = k2.placed in
    let shorter : length k2.e2.toks ≡ length s.z.toks - span_of js = ap length k2.toks ∙ length-drop (span_of js) s.z.toks in
    let later : k2.before2 ≡ before + suc m + span_of js = omega (arith, some, placed, shorter) in
    let rest = run_goes w c d us3 run3 k2.before2 k2.work2 k2.e2 k2.rest (distinct_drop (span_of is) run2 (distinct_drop (suc k) run dis)) stand2
    (lines_more w.set.table before k2.before2 (keep (suc m) (list js d)) d k2.e2.notes (λ b. in_later before (suc m) k2.before2 js d b later) q2.1) same.1.1 of.2 in
    let cost = k2.cost in
    let middle = list_goes w is js us2 run2 low s.x.left s.z k2 of.0 low s.x.left (omega (arith, cost)) in
    let middle_left = middle.left in
    let work_left : middle.e.left.left ≡ k2.work2.left = omega (arith, cost, middle_left) in
    let work_is : middle.e.left ≡ k2.work2 = same_work middle.e.left k2.work2 work_left (middle.counter ∙ sym k2.counter) in
    let woven_of : List Token → List Token = λ l. woven (picked w.order (items_of w.order js l)) (gaps_of js l) in
    let dropped : length (drop (span_of js) (bares s.z.toks)) ≡ length k2.e2.toks =
    ap length (sym (bares_drop (span_of js) s.z.toks) ∙ ap bares (sym k2.toks)) ∙ length-map (toks_of k2.e2.toks) bare ∙ length-map k2.e2.toks (λ (h : Hidden). h.tok) in
    let long = woven_length w js (bares s.z.toks) (length k2.e2.toks) of.0 of.1 dropped in
    let long2 : length (bares s.z.toks) ≡ length s.z.toks = length-map (toks_of s.z.toks) bare ∙ length-map s.z.toks (λ (h : Hidden). h.tok) in
    let long3 : length middle.e.toks ≡ length (woven_of (bares s.z.toks)) =
    sym (length-map (toks_of middle.e.toks) bare ∙ length-map middle.e.toks (λ (h : Hidden). h.tok)) ∙ ap length middle.toks in
    let place : low + length middle.e.toks ≡ k2.before2 = omega (arith, placed, long, long2, long3) in
    let shut : begins_open (unhidden (arranged w.order c us3)) ≡ false =
    begins_same w.order c d us3 k2.behind (toks_of k2.e2.toks) k2.close k2.no_open
    (subst (λ (l : List Token). MarksStand c d l (toks_of k2.e2.toks)) k2.closes stand2) (subst (λ (l : List Token). StandFor c us3 l) k2.closes same.1.1) in
    let woven_run : List Token = woven (picked w.order (items_of w.order is us2)) (gaps_of is us2) in
    let last_run : List Token = arranged w.order c us3 in
    let rest_is : whole w.set 0 (low + length middle.e.toks) (unhidden last_run) middle.e.left ≡ Ok rest.e =
    ap (λ (b : ℕ). whole w.set 0 b (unhidden last_run) middle.e.left) place ∙ ap (λ (l : Work). whole w.set 0 k2.before2 (unhidden last_run) l) work_is ∙ rest.is in
    let inner : Expanded = expanded (middle.e.toks ++ rest.e.toks) (middle.e.notes ++ rest.e.notes) rest.e.left in
    let inner_is : whole w.set 0 low (unhidden (woven_run ++ last_run)) s.x.left ≡ Ok inner =
    ap (λ (hs : List Hidden). whole w.set 0 low hs s.x.left) (map-append (λ (t : Token). hidden t []) woven_run last_run)
    ∙ w.in_parts w.set 0 low (unhidden woven_run) (unhidden last_run) s.x.left middle.e rest.e middle.is
    (ends_apart w.set middle.e.toks false last_run middle.ends (inr shut)) rest_is in
    let x2 : Expanded = expanded (s.x.toks ++ s.sign ∷ []) s.x.notes s.x.left in
    let x2_long : before + length x2.toks ≡ low = omega (arith, length-append s.x.toks (s.sign ∷ []), s.x_length) in
    let first_is : whole w.set 0 before (unhidden (take (suc k) new)) work ≡ Ok x2 =
    ap (λ (l : List Token). whole w.set 0 before (unhidden l) work) same.0 ∙ s.signed in
    let all : Expanded = expanded (x2.toks ++ inner.toks) (x2.notes ++ inner.notes) inner.left in
    let all_is : whole w.set 0 before (unhidden (take (suc k) new ++ (woven_run ++ last_run))) work ≡ Ok all =
    ap (λ (hs : List Hidden). whole w.set 0 before hs work) (map-append (λ (t : Token). hidden t []) (take (suc k) new) (woven_run ++ last_run))
    ∙ w.in_parts w.set 0 before (unhidden (take (suc k) new)) (unhidden (woven_run ++ last_run)) work x2 inner first_is
    (ends_apart w.set x2.toks true (woven_run ++ last_run) (λ h. ends_sign w.set.table s.x.toks s.sign (no_macro_of w.set.table s.sign s.no_name)) (inl refl))
    (ap (λ (b : ℕ). whole w.set 0 b (unhidden (woven_run ++ last_run)) s.x.left) x2_long ∙ inner_is) in
    let os : List Token = bares e.toks in
    let a : bares x2.toks ≡ take (suc m) os = ap bares s.upto ∙ bares_take (suc m) e.toks in
    let b : bares s.z.toks ≡ drop (suc m) os = ap bares s.z_toks ∙ bares_drop (suc m) e.toks in
    let b2 : bares k2.e2.toks ≡ drop (span_of js) (drop (suc m) os) = ap bares k2.toks ∙ bares_drop (span_of js) s.z.toks ∙ ap (λ (l : List Token). drop (span_of js) l) b in
    let inner_toks : bares inner.toks ≡ woven_of (drop (suc m) os) ++ arranged w.order d (drop (span_of js) (drop (suc m) os)) =
    bares_append middle.e.toks rest.e.toks
    ∙ ap (λ (l : List Token). l ++ bares rest.e.toks) (middle.toks ∙ ap woven_of b)
    ∙ ap (λ (l : List Token). woven_of (drop (suc m) os) ++ l) (rest.toks ∙ ap (λ (l : List Token). arranged w.order d l) b2) in
    record {
      e = all;
      is = all_is;
      toks =
          bares_append x2.toks inner.toks ∙ ap (λ (l : List Token). l ++ bares inner.toks) a
          ∙ ap (λ (l : List Token). take (suc m) os ++ l) inner_toks;
      same = rest.same ∙ k2.left ∙ sym s.left;
    }
run_goes w c d new run before work e e_is dis stand lines same of = absurd stand

pub runs_are_arranged : ExpandsInParts → RunsAreArranged
unfolding expansion
runs_are_arranged in_parts = λ table path n order c d run new work e is_order of is dis stand lines same.
    let w : World = record { in_parts = in_parts; set = record { table = table; path = path }; n = n; order = order; is_order = is_order } in
    let r = run_goes w c d new run 0 work e is dis stand (line_notes table 0 d e.notes lines) same of in
    (r.e, r.is, record { toks = r.toks; left = r.same })
