-- The cut of a run, by that of what it is expanded to.
use Rattle.std.proofs.Common.{◌≡◌, ℕ, suc, ◌+◌, ◌<◌, Bool, List, ◌∷◌, ◌++◌, length, take, drop, Some, Ok, refl, ap, sym, subst, ◌∙◌, arith}
use Rattle.std.specs.Prelude.{slice_get}
use Rattle.std.proofs.lemmas.List.{length-map, map-append, take-map, drop-map, drop-drop}
use Rattle.cs_base.specs.Token.{Token}
use Rattle.cs_base.proofs.ListLemmas.{drop_at}
use Rattle.line_shape.specs.Signs.{is_open, is_close, is_comma}
use Rattle.macro_body.specs.declared.notes.Work.{Work}
use Rattle.macro_body.specs.Hides.{Hidden, toks_of, unhidden}
use Rattle.macro_body.specs.Notes.{Expanded, put_out}
use Rattle.macro_expand.specs.Expansion.{Setting, whole, expansion}
use Rattle.list_cuts.specs.Cuts.{Cut, done, keep, list, Items, ended, item, count_of, span_of, AreOf, AreItemsOf}
use Rattle.expansion_laws.specs.Arranging.{IsSign, SignsStand, ItemsSigned, IsMark, MarksStand, ItemsStand, RunsHaveCuts}
use Rattle.expansion_laws.proofs.MarkLemmas.{parts_at, toks_unhidden, hidden_at, at_seam, take_seam, drop_seam, drop_past}
use Rattle.expansion_laws.proofs.SplitLemmas.{expansion_splits}

-- A run falls at a sign of what it is expanded to.
record PartedAt (set : Setting) (run : List Hidden) (e : Expanded) (sign : Token → Bool) (m : ℕ) : Type 0 where
  xs : List Hidden
  ys : List Hidden
  t : Hidden
  x : Expanded
  z : Expanded
  mark : IsMark sign (toks_of run) (toks_of e.toks) (length xs) m
  before : ℕ
  work : Work
  before2 : ℕ
  before3 : ℕ
  first : whole set 0 before xs work ≡ Ok x
  stays : whole set 0 before2 (t ∷ ys) x.left ≡ Ok (put_out t z)
  behind : whole set 0 before3 ys x.left ≡ Ok z
  front : take (length xs) (toks_of run) ≡ toks_of xs
  back : drop (length xs) (toks_of run) ≡ toks_of (t ∷ ys)
  back2 : drop (suc (length xs)) (toks_of run) ≡ toks_of ys
  x_toks : take m (toks_of e.toks) ≡ toks_of x.toks
  z_toks : drop (suc m) (toks_of e.toks) ≡ toks_of z.toks
  t_toks : drop m (toks_of e.toks) ≡ toks_of (t ∷ z.toks)

parted_at : (set : Setting) (before : ℕ) (run : List Hidden) (work : Work) (e : Expanded) (sign : Token → Bool) (m : ℕ) → IsSign sign (toks_of e.toks) m
    → whole set 0 before run work ≡ Ok e → PartedAt set run e sign m
parted_at set before run work e sign m mk is =
    let at = hidden_at e.toks m mk.mark mk.has in
    let t : Hidden = at.0 in
    let t_is : t.tok ≡ mk.mark = at.2 in
    let parts : e.toks ≡ take m e.toks ++ t ∷ drop (suc m) e.toks = parts_at e.toks m t at.1 in
    let s = expansion_splits set 0 before run work e (take m e.toks) t (drop (suc m) e.toks) is parts (ap (λ (v : Token). v.direct) t_is ∙ mk.direct) in
    let tok : Hidden → Token = λ h. h.tok in
    let all : toks_of run ≡ toks_of s.xs ++ t.tok ∷ toks_of s.ys = ap toks_of s.run ∙ map-append tok s.xs (t ∷ s.ys) in
    let long : length (toks_of s.xs) ≡ length s.xs = length-map s.xs tok in
    let has : slice_get (toks_of run) (length s.xs) ≡ Some mk.mark =
    ap (λ (l : List Token). slice_get l (length s.xs)) all ∙ ap (slice_get (toks_of s.xs ++ t.tok ∷ toks_of s.ys)) (sym long)
    ∙ at_seam (toks_of s.xs) (toks_of s.ys) t.tok ∙ ap (λ (v : Token). Some v) t_is in
    record {
      xs = s.xs;
      ys = s.ys;
      t = t;
      x = s.x;
      z = s.z;
      mark = record { mark = mk.mark; run_has = has; out_has = mk.has; direct = mk.direct; is_sign = mk.is_sign };
      before = before;
      work = work;
      before2 = before + length s.x.toks;
      before3 = before + suc (length s.x.toks);
      first = s.first;
      stays = s.stays;
      behind = s.behind;
      front = ap (take (length s.xs)) all ∙ ap (λ (n : ℕ). take n (toks_of s.xs ++ t.tok ∷ toks_of s.ys)) (sym long) ∙ take_seam (toks_of s.xs) (t.tok ∷ toks_of s.ys);
      back = ap (drop (length s.xs)) all ∙ ap (λ (n : ℕ). drop n (toks_of s.xs ++ t.tok ∷ toks_of s.ys)) (sym long) ∙ drop_seam (toks_of s.xs) (t.tok ∷ toks_of s.ys);
      back2 = ap (drop (suc (length s.xs))) all ∙ ap (λ (n : ℕ). drop (suc n) (toks_of s.xs ++ t.tok ∷ toks_of s.ys)) (sym long) ∙ drop_past (toks_of s.xs) (toks_of s.ys) t.tok;
      x_toks = take-map tok m e.toks ∙ ap toks_of (sym s.toks);
      z_toks = drop-map tok (suc m) e.toks ∙ ap toks_of (sym s.more);
      t_toks = drop-map tok m e.toks ∙ ap toks_of (drop_at e.toks m t at.1 ∙ ap (λ (l : List Hidden). t ∷ l) (sym s.more));
    }

-- the cut of a run
record HasCut (d : Cut) (run : List Hidden) (e : Expanded) : Type 0 where
  c : Cut
  stand : MarksStand c d (toks_of run) (toks_of e.toks)
  of : (n : ℕ) → AreOf n d → AreOf n c

-- the items of a list in a run, and what stands behind them
record HasItems (set : Setting) (js : Items) (run : List Hidden) (e : Expanded) : Type 0 where
  is : Items
  stand : ItemsStand is js (toks_of run) (toks_of e.toks)
  count : count_of is ≡ count_of js
  of : (n : ℕ) → AreItemsOf n js → AreItemsOf n is
  before2 : ℕ
  work2 : Work
  ts2 : List Hidden
  e2 : Expanded
  rest : whole set 0 before2 ts2 work2 ≡ Ok e2
  run_is : drop (span_of is) (toks_of run) ≡ toks_of ts2
  out_is : drop (span_of js) (toks_of e.toks) ≡ toks_of e2.toks

-- an item in front of others
has_more : (set : Setting) (m : ℕ) (d : Cut) (gap m2 : ℕ) (d2 : Cut) (gap2 : ℕ) (more : Items) (run : List Hidden) (e : Expanded) (n : ℕ) (c : Cut)
    → MarksStand c d (take n (toks_of run)) (take m (toks_of e.toks)) → gap ≡ 1 → IsMark is_comma (toks_of run) (toks_of e.toks) n m → ((k : ℕ) → AreOf k d → AreOf k c)
    → (ys : List Hidden) (z : Expanded) → drop (n + 1) (toks_of run) ≡ toks_of ys → drop (m + gap) (toks_of e.toks) ≡ toks_of z.toks
    → HasItems set (item m2 d2 gap2 more) ys z → HasItems set (item m d gap (item m2 d2 gap2 more)) run e
unfolding span_of count_of
has_more set m d gap m2 d2 gap2 more run e n c stand one mark of ys z run2 out2 its = by its.is its.stand its.count its.of its.run_is
  where
    js : Items
    js = item m2 d2 gap2 more

    by : (is : Items) → ItemsStand is js (toks_of ys) (toks_of z.toks) → count_of is ≡ count_of js → ((k : ℕ) → AreItemsOf k js → AreItemsOf k is) → drop (span_of is) (toks_of ys) ≡ toks_of its.ts2
        → HasItems set (item m d gap js) run e
    by ended there count of2 run_is = absurd there
    by (item n2 c2 gap3 rest) there count of2 run_is =
        let is : Items = item n2 c2 gap3 rest in
        let there1 : ItemsStand is js (drop (n + 1) (toks_of run)) (toks_of z.toks) = subst (λ (l : List Token). ItemsStand is js l (toks_of z.toks)) (sym run2) there in
        let span1 : n + (1 + span_of is) ≡ (n + 1) + span_of is = omega arith in
        let span2 : m + (gap + span_of js) ≡ (m + gap) + span_of js = omega arith in
        record {
          is = item n c 1 is;
          stand = (stand, (refl, one, mark), subst (λ (l : List Token). ItemsStand is js (drop (n + 1) (toks_of run)) l) (sym out2) there1);
          count = ap (λ (k : ℕ). k + 1) count;
          of = λ k h. (of k h.0, of2 k h.1);
          before2 = its.before2;
          work2 = its.work2;
          ts2 = its.ts2;
          e2 = its.e2;
          rest = its.rest;
          run_is = ap (λ (i : ℕ). drop i (toks_of run)) span1 ∙ sym (drop-drop (span_of is) (n + 1) (toks_of run)) ∙ ap (drop (span_of is)) run2 ∙ run_is;
          out_is = ap (λ (i : ℕ). drop i (toks_of e.toks)) span2 ∙ sym (drop-drop (span_of js) (m + gap) (toks_of e.toks)) ∙ ap (drop (span_of js)) out2 ∙ its.out_is;
        }

mutual
  unfolding span_of count_of

  has_cut : (set : Setting) (d : Cut) (before : ℕ) (run : List Hidden) (work : Work) (e : Expanded) → whole set 0 before run work ≡ Ok e → SignsStand d (toks_of e.toks) → HasCut d run e
  has_cut set done before run work e is signs = record { c = done; stand = tt; of = λ n h. tt }
  has_cut set (keep (suc m) (list js d)) before run work e is signs =
      let s = parted_at set before run work e is_open m signs.0 is in
      let its = has_items set js s.before3 s.ys s.x.left s.z s.behind signs.1 (subst (λ (l : List Token). ItemsSigned js l) s.z_toks signs.2) in
      let out2 : drop (span_of js) (drop (suc m) (toks_of e.toks)) ≡ toks_of its.e2.toks = ap (drop (span_of js)) s.z_toks ∙ its.out_is in
      let run2 : drop (span_of its.is) (drop (suc (length s.xs)) (toks_of run)) ≡ toks_of its.ts2 = ap (drop (span_of its.is)) s.back2 ∙ its.run_is in
      let rest = has_cut set d its.before2 its.ts2 its.work2 its.e2 its.rest (subst (λ (l : List Token). SignsStand d l) out2 signs.3) in
      let items1 : ItemsStand its.is js (drop (suc (length s.xs)) (toks_of run)) (toks_of s.z.toks) = subst (λ (l : List Token). ItemsStand its.is js l (toks_of s.z.toks)) (sym s.back2) its.stand in
      let rest1 : MarksStand rest.c d (drop (span_of its.is) (drop (suc (length s.xs)) (toks_of run))) (toks_of its.e2.toks) = subst (λ (l : List Token). MarksStand rest.c d l (toks_of its.e2.toks)) (sym run2) rest.stand in
      record {
        c = keep (suc (length s.xs)) (list its.is rest.c);
        stand = (
          s.mark,
          signs.1,
          subst (λ (l : List Token). ItemsStand its.is js (drop (suc (length s.xs)) (toks_of run)) l) (sym s.z_toks) items1,
          subst (λ (l : List Token). MarksStand rest.c d (drop (span_of its.is) (drop (suc (length s.xs)) (toks_of run))) l) (sym out2) rest1,
        );
        of = λ n h. (its.count ∙ h.0, its.of n h.1, rest.of n h.2);
      }
  has_cut set d before run work e is signs = absurd signs

  has_items : (set : Setting) (js : Items) (before : ℕ) (run : List Hidden) (work : Work) (e : Expanded) → whole set 0 before run work ≡ Ok e → 0 < count_of js → ItemsSigned js (toks_of e.toks)
      → HasItems set js run e
  has_items set ended before run work e is some signs = absurd (omega (arith, some))
  has_items set (item m d gap ended) before run work e is some signs =
      let zero_th : gap ≡ 0 = signs.1.0 in
      let s = parted_at set before run work e is_close m signs.1.1 is in
      let one = has_cut set d s.before s.xs s.work s.x s.first (subst (λ (l : List Token). SignsStand d l) s.x_toks signs.0) in
      let stand1 : MarksStand one.c d (take (length s.xs) (toks_of run)) (toks_of s.x.toks) = subst (λ (l : List Token). MarksStand one.c d l (toks_of s.x.toks)) (sym s.front) one.stand in
      let span1 : length s.xs + (0 + 0) ≡ length s.xs = omega arith in
      let span2 : m + (gap + 0) ≡ m = omega (arith, zero_th) in
      record {
        is = item (length s.xs) one.c 0 ended;
        stand = (subst (λ (l : List Token). MarksStand one.c d (take (length s.xs) (toks_of run)) l) (sym s.x_toks) stand1, (refl, zero_th, s.mark), tt);
        count = refl;
        of = λ n h. (one.of n h.0, tt);
        before2 = s.before2;
        work2 = s.x.left;
        ts2 = s.t ∷ s.ys;
        e2 = put_out s.t s.z;
        rest = s.stays;
        run_is = ap (λ (i : ℕ). drop i (toks_of run)) span1 ∙ s.back;
        out_is = ap (λ (i : ℕ). drop i (toks_of e.toks)) span2 ∙ s.t_toks;
      }
  has_items set (item m d gap (item m2 d2 gap2 more)) before run work e is some signs =
      let one_th : gap ≡ 1 = signs.1.0 in
      let s = parted_at set before run work e is_comma m signs.1.1 is in
      let one = has_cut set d s.before s.xs s.work s.x s.first (subst (λ (l : List Token). SignsStand d l) s.x_toks signs.0) in
      let stand1 : MarksStand one.c d (take (length s.xs) (toks_of run)) (toks_of s.x.toks) = subst (λ (l : List Token). MarksStand one.c d l (toks_of s.x.toks)) (sym s.front) one.stand in
      let step1 : suc (length s.xs) ≡ length s.xs + 1 = omega arith in
      let step2 : suc m ≡ m + gap = omega (arith, one_th) in
      let out2 : drop (m + gap) (toks_of e.toks) ≡ toks_of s.z.toks = ap (λ (i : ℕ). drop i (toks_of e.toks)) (sym step2) ∙ s.z_toks in
      let run2 : drop (length s.xs + 1) (toks_of run) ≡ toks_of s.ys = ap (λ (i : ℕ). drop i (toks_of run)) (sym step1) ∙ s.back2 in
      let its = has_items set (item m2 d2 gap2 more) s.before3 s.ys s.x.left s.z s.behind (omega arith) (subst (λ (l : List Token). ItemsSigned (item m2 d2 gap2 more) l) out2 signs.2) in
      has_more set m d gap m2 d2 gap2 more run e (length s.xs) one.c
      (subst (λ (l : List Token). MarksStand one.c d (take (length s.xs) (toks_of run)) l) (sym s.x_toks) stand1) one_th s.mark one.of s.ys s.z run2 out2 its

pub runs_have_cuts : RunsHaveCuts
unfolding expansion
runs_have_cuts = λ table path d run work e is signs.
    let k = has_cut (record { table = table; path = path }) d 0 (unhidden run) work e is signs in
    (k.c, subst (λ (l : List Token). MarksStand k.c d l (toks_of e.toks)) (toks_unhidden run) k.stand, k.of)
