-- Tokens that are expanded alike wherever they stand, one behind the other and in a new order.
use Rattle.std.proofs.Common.{◌≡◌, ℕ, zero, suc, ◌+◌, ◌-◌, ◌≤◌, ◌&&◌, Bool, true, false, List, [], ◌∷◌, ◌++◌, length, map, Ok, refl, ap, sym, ◌∙◌, ◌⊎◌, inl, inr, arith}
use Rattle.std.specs.Prelude.{sum_by, slice_index_or}
use Rattle.std.specs.List.{list_all}
use Rattle.std.proofs.lemmas.List.{length-map, map-append}
use Rattle.std.proofs.lemmas.List.Sums.{sum_by-cons}
use Rattle.std.proofs.lemmas.List.Sorted.{sum_by-IsPermutation}
use Rattle.std.proofs.Math.ListN as listn
use Rattle.cs_base.specs.Token.{Token}
use Rattle.cs_base.proofs.BoolLemmas.{and_false}
use Rattle.line_shape.specs.Signs.{is_name, is_open}
use Rattle.macro_body.specs.declared.notes.Work.{Work}
use Rattle.macro_body.specs.Hides.{Hidden, hidden, toks_of, unhidden}
use Rattle.macro_body.specs.Notes.{Expanded, expanded}
use Rattle.macro_expand.specs.Expansion.{Setting, whole}
use Rattle.macro_expand.specs.Laws.{begins_open, is_callable, ends_callable, ExpandsInParts}
use Rattle.macro_expand.proofs.WholeLemmas.{whole_is_step, whole_falls}
use Rattle.macro_expand.proofs.PutOutLemmas.{no_macro as no_macro_of}
use Rattle.list_cuts.specs.Cuts.{IsOrder, picked, woven}
use Rattle.list_cuts.proofs.OrderLemmas.{picked_permutes}
use Rattle.expansion_laws.specs.Alike.{unlined, label, unlined_hidden, canon, brings_no_line}
use Rattle.expansion_laws.specs.Arranging.{labels, bare}
use Rattle.expansion_laws.proofs.AlikeLemmas.{expands_alike}
use Rattle.expansion_laws.proofs.PortionLemmas.{ends_alike}
use Rattle.expansion_laws.proofs.SectionLemmas.{sign_alone}

-- ---- labels

unhidden_unlined : (ts : List Token) → map (unlined_hidden true) (unhidden ts) ≡ unhidden (map (unlined true) ts)
unhidden_unlined [] = refl
unhidden_unlined (t ∷ ts) = ap (λ (l : List Hidden). hidden (unlined true t) [] ∷ l) (unhidden_unlined ts)

canon_labels : (loose : Bool) (ts : List Token) → canon true loose (unhidden ts) ≡ unhidden (labels loose ts)
canon_labels loose [] = refl
canon_labels loose (t ∷ ts) = ap (λ (l : List Hidden). hidden (label true loose t) [] ∷ l) (unhidden_unlined ts)

pub canon_same : (loose : Bool) (us ts : List Token) → labels loose us ≡ labels loose ts → canon true loose (unhidden us) ≡ canon true loose (unhidden ts)
canon_same loose us ts e = canon_labels loose us ∙ ap unhidden e ∙ sym (canon_labels loose ts)

bare_unlined : (hs : List Hidden) → map bare (toks_of (map (unlined_hidden true) hs)) ≡ map bare (toks_of hs)
bare_unlined [] = refl
bare_unlined (h ∷ hs) = ap (λ (l : List Token). bare h.tok ∷ l) (bare_unlined hs)

bare_label : (loose : Bool) (t : Token) → bare (label true loose t) ≡ bare t
bare_label true t = refl
bare_label false t = refl

bare_canon : (loose : Bool) (hs : List Hidden) → map bare (toks_of (canon true loose hs)) ≡ map bare (toks_of hs)
bare_canon loose [] = refl
bare_canon loose (h ∷ hs) = ap (λ (v : Token). v ∷ map bare (toks_of (map (unlined_hidden true) hs))) (bare_label loose h.tok) ∙ ap (λ (l : List Token). bare h.tok ∷ l) (bare_unlined hs)

pub same_bare : (loose : Bool) (xs ys : List Hidden) → canon true loose xs ≡ canon true loose ys → map bare (toks_of xs) ≡ map bare (toks_of ys)
same_bare loose xs ys e = sym (bare_canon loose xs) ∙ ap (λ (l : List Hidden). map bare (toks_of l)) e ∙ bare_canon loose ys

pub bare_of_unlined : (u t : Token) → unlined true u ≡ unlined true t → bare u ≡ bare t
bare_of_unlined u t e = ap bare e

pub open_unlined : (u t : Token) → unlined true u ≡ unlined true t → is_open u ≡ is_open t
unfolding is_open
open_unlined u t e = ap (λ (v : Token). is_open v) e

pub name_unlined : (u t : Token) → unlined true u ≡ unlined true t → is_name u ≡ is_name t
name_unlined u t e = ap (λ (v : Token). is_name v) e

pub open_labels : (loose : Bool) (us ts : List Token) → labels loose us ≡ labels loose ts → begins_open (unhidden us) ≡ begins_open (unhidden ts)
unfolding is_open
open_labels loose [] [] e = refl
open_labels loose [] (t ∷ ts) e = absurd cc
open_labels loose (u ∷ us) [] e = absurd cc
open_labels loose (u ∷ us) (t ∷ ts) e =
    let here : label true loose u ≡ label true loose t = first_label (label true loose u) (label true loose t) (map (unlined true) us) (map (unlined true) ts) e in
    ap (λ (v : Token). is_open v) here
  where
    first_label : (x y : Token) (xs ys : List Token) → x ∷ xs ≡ y ∷ ys → x ≡ y
    first_label x y xs ys same = cc

-- one token that stands for one
pub one_like : (us : List Token) (t : Token) → labels false us ≡ labels false (t ∷ []) → (u : Token) × (us ≡ u ∷ []) × (unlined true u ≡ unlined true t)
one_like [] t e = absurd cc
one_like (u ∷ []) t e = (u, refl, first (label true false u) (label true false t) e)
  where
    first : (x y : Token) → ◌≡◌ {A = List Token} (x ∷ []) (y ∷ []) → x ≡ y
    first x y same = cc
one_like (u ∷ v ∷ us) t e = absurd cc

-- ---- tokens that go so anywhere

-- They are expanded to these tokens, but for lines and white space, for so much work; and where `shut`, no call begins at
-- their last token.
pub record Went (set : Setting) (before : ℕ) (run : List Token) (work : Work) (outs : List Token) (cost : ℕ) (shut : Bool) : Type 0 where
  pub e : Expanded
  pub is : whole set 0 before (unhidden run) work ≡ Ok e
  pub toks : map bare (toks_of e.toks) ≡ outs
  pub left : e.left.left + cost ≡ work.left
  pub counter : e.left.counter ≡ work.counter
  pub ends : shut ≡ true → ends_callable set.table e.toks ≡ false

abbrev pub Goes : Setting → List Token → List Token → ℕ → Bool → Type 0
Goes set run outs cost shut = (before : ℕ) (work : Work) → cost ≤ work.left → Went set before run work outs cost shut

pub goes_as : (set : Setting) (run run2 outs outs2 : List Token) (cost cost2 : ℕ) (shut : Bool) → run ≡ run2 → outs ≡ outs2 → cost ≡ cost2 → Goes set run outs cost shut → Goes set run2 outs2 cost2 shut
goes_as set run run2 outs outs2 cost cost2 shut r o c go = λ before work room.
    let w = go before work (omega (arith, c, room)) in
    let l = w.left in
    record {
      e = w.e;
      is = ap (λ (us : List Token). whole set 0 before (unhidden us) work) (sym r) ∙ w.is;
      toks = w.toks ∙ o;
      left = omega (arith, l, c);
      counter = w.counter;
      ends = w.ends;
    }

pub goes_none : (set : Setting) (shut : Bool) → Goes set [] [] 0 shut
goes_none set shut = λ before work room. record {
  e = expanded [] [] work;
  is = whole_is_step set 0 before [] work;
  toks = refl;
  left = omega arith;
  counter = refl;
  ends = λ h. refl;
}

pub goes_sign : (set : Setting) (u t : Token) → unlined true u ≡ unlined true t → is_name u ≡ false → Goes set (u ∷ []) (bare t ∷ []) 0 true
goes_sign set u t like lacks = λ before work room. record {
  e = expanded (hidden u [] ∷ []) [] work;
  is = sign_alone set 0 before (hidden u []) work (no_macro_of set.table (hidden u []) lacks);
  toks = ap (λ (v : Token). v ∷ []) (bare_of_unlined u t like);
  left = omega arith;
  counter = refl;
  ends = λ h. ap is_callable (no_macro_of set.table (hidden u []) lacks);
}

-- no call reaches from these tokens to those behind them
abbrev pub StandsApart : Bool → List Token → Type 0
StandsApart shut behind = (shut ≡ true) ⊎ (begins_open (unhidden behind) ≡ false)

pub ends_apart : (set : Setting) (hs : List Hidden) (shut : Bool) (behind : List Token) → (shut ≡ true → ends_callable set.table hs ≡ false) → StandsApart shut behind
    → (ends_callable set.table hs && begins_open (unhidden behind)) ≡ false
ends_apart set hs shut behind ends (inl is) = ap (λ (b : Bool). b && begins_open (unhidden behind)) (ends is)
ends_apart set hs shut behind ends (inr lacks) = ap (λ (b : Bool). ends_callable set.table hs && b) lacks ∙ and_false (ends_callable set.table hs)

pub goes_both : ExpandsInParts → (set : Setting) (xs ys outs more : List Token) (cost cost2 : ℕ) (shut shut2 : Bool) → Goes set xs outs cost shut → Goes set ys more cost2 shut2
    → StandsApart shut ys → Goes set (xs ++ ys) (outs ++ more) (cost + cost2) false
goes_both in_parts set xs ys outs more cost cost2 shut shut2 one two apart = λ before work room.
    let w = one before work (omega (arith, room)) in
    let l = w.left in
    let w2 = two (before + length w.e.toks) w.e.left (omega (arith, room, l)) in
    let l2 = w2.left in
    record {
      e = expanded (w.e.toks ++ w2.e.toks) (w.e.notes ++ w2.e.notes) w2.e.left;
      is =
          ap (λ (hs : List Hidden). whole set 0 before hs work) (map-append (λ (t : Token). hidden t []) xs ys)
          ∙ in_parts set 0 before (unhidden xs) (unhidden ys) work w.e w2.e w.is (ends_apart set w.e.toks shut ys w.ends apart) w2.is;
      toks =
          ap (map bare) (map-append (λ (h : Hidden). h.tok) w.e.toks w2.e.toks) ∙ map-append bare (toks_of w.e.toks) (toks_of w2.e.toks)
          ∙ ap (λ (l : List Token). l ++ map bare (toks_of w2.e.toks)) w.toks ∙ ap (λ (l : List Token). outs ++ l) w2.toks;
      left = omega (arith, l, l2);
      counter = w2.counter ∙ w.counter;
      ends = λ h. absurd (lacks h);
    }
  where
    lacks : false ≡ true → ⊥
    lacks h = cc

-- what is alike goes so
pub goes_alike : (set : Setting) (loose : Bool) (before : ℕ) (run new : List Token) (work : Work) (e : Expanded) (shut : Bool) → whole set 0 before (unhidden run) work ≡ Ok e
    → list_all (brings_no_line set.table) e.notes ≡ true → labels loose new ≡ labels loose run → (shut ≡ true → ends_callable set.table e.toks ≡ false)
    → Goes set new (map bare (toks_of e.toks)) (work.left - e.left.left) shut
goes_alike set loose before run new work e shut is quiet like ends = λ before2 work2 room.
    let fell = whole_falls set 0 before (unhidden run) work e is in
    let k = expands_alike true loose set 0 before before2 (unhidden run) (unhidden new) work work2 e is (canon_same loose new run like) (omega (arith, fell, room)) quiet in
    let c = k.2.cost in
    record {
      e = k.0;
      is = k.1;
      toks = same_bare loose k.0.toks e.toks k.2.toks;
      left = omega (arith, c, fell, room);
      counter = k.2.counters.1;
      ends = λ h. ends_alike true loose set.table k.0.toks e.toks k.2.toks ∙ ends h;
    }

-- ---- parts

-- Some tokens, those to which they are expanded, and the work for it.
pub record Part : Type 0 where
  pub run : List Token
  pub outs : List Token
  pub cost : ℕ

abbrev pub no_part : Part
no_part = record { run = []; outs = []; cost = 0 }

abbrev pub PartGoes : Setting → Bool → Part → Type 0
PartGoes set shut p = Goes set p.run p.outs p.cost shut

abbrev pub AllGo : Setting → List Part → Type 0
AllGo set [] = Unit {0}
AllGo set (p ∷ ps) = PartGoes set false p × AllGo set ps

-- what stands between items: signs that begin no call and end in none, and nothing behind the last item
pub record IsBetween (set : Setting) (g : Part) : Type 0 where
  pub goes : Goes set g.run g.outs 0 true
  pub begins : (behind : List Token) → begins_open (unhidden (g.run ++ behind)) ≡ false

abbrev pub AreGaps : Setting → List Part → Type 0
AreGaps set [] = Unit {0}
AreGaps set (g ∷ []) = (g.run ≡ []) × (g.outs ≡ [])
AreGaps set (g ∷ h ∷ gs) = IsBetween set g × AreGaps set (h ∷ gs)

abbrev pub runs_of : List Part → List (List Token)
runs_of ps = map (λ (p : Part). p.run) ps

abbrev pub outs_of : List Part → List (List Token)
outs_of ps = map (λ (p : Part). p.outs) ps

abbrev pub costs : List Part → ℕ
costs ps = sum_by (λ (p : Part). p.cost) ps

pub costs-cons : (p : Part) (ps : List Part) → costs (p ∷ ps) ≡ p.cost + costs ps
costs-cons p ps = sum_by-cons (λ (q : Part). q.cost) p ps

-- items and what stands between them go so
pub woven_goes : ExpandsInParts → (set : Setting) (items gaps : List Part) → AllGo set items → AreGaps set gaps → length items ≡ length gaps
    → Goes set (woven (runs_of items) (runs_of gaps)) (woven (outs_of items) (outs_of gaps)) (costs items) false
unfolding woven
woven_goes in_parts set [] [] all between many = goes_none set false
woven_goes in_parts set [] (g ∷ gs) all between many = absurd (omega (arith, many))
woven_goes in_parts set (p ∷ ps) [] all between many = absurd (omega (arith, many))
woven_goes in_parts set (p ∷ q ∷ ps) (g ∷ []) all between many = absurd (omega (arith, many))
woven_goes in_parts set (p ∷ []) (g ∷ []) all between many =
    let none : [] ≡ g.run ++ [] = ap (λ (l : List Token). l ++ []) (sym between.0) in
    let none2 : [] ≡ g.outs ++ [] = ap (λ (l : List Token). l ++ []) (sym between.1) in
    let cost : p.cost + 0 ≡ costs (p ∷ []) = sym (costs-cons p []) in
    goes_as set (p.run ++ []) (p.run ++ (g.run ++ [])) (p.outs ++ []) (p.outs ++ (g.outs ++ [])) (p.cost + 0) (costs (p ∷ [])) false
    (ap (λ (l : List Token). p.run ++ l) none) (ap (λ (l : List Token). p.outs ++ l) none2) cost
    (goes_both in_parts set p.run [] p.outs [] p.cost 0 false true all.0 (goes_none set true) (inr refl))
woven_goes in_parts set (p ∷ ps) (g ∷ h ∷ gs) all between many =
    let rest = woven_goes in_parts set ps (h ∷ gs) all.1 between.1 (omega (arith, many)) in
    let run = woven (runs_of ps) (runs_of (h ∷ gs)) in
    let outs = woven (outs_of ps) (outs_of (h ∷ gs)) in
    let behind = goes_both in_parts set g.run run g.outs outs 0 (costs ps) true false between.0.goes rest (inl refl) in
    let cost : p.cost + (0 + costs ps) ≡ costs (p ∷ ps) = omega (arith, costs-cons p ps) in
    goes_as set (p.run ++ (g.run ++ run)) (p.run ++ (g.run ++ run)) (p.outs ++ (g.outs ++ outs)) (p.outs ++ (g.outs ++ outs)) (p.cost + (0 + costs ps)) (costs (p ∷ ps)) false
    refl refl cost
    (goes_both in_parts set p.run (g.run ++ run) p.outs (g.outs ++ outs) p.cost (0 + costs ps) false false all.0 behind (inr (between.0.begins run)))

-- ---- items in a new order

-- item `order[k]` at place k
abbrev pub chosen : List ℕ → List Part → List Part
chosen order ps = map (λ k. slice_index_or ps (k - 1) no_part) order

pub picked_chosen : (f : Part → List Token) → f no_part ≡ [] → (order : List ℕ) (ps : List Part) → picked order (map f ps) ≡ map f (chosen order ps)
picked_chosen f none [] ps = refl
picked_chosen f none (k ∷ order) ps =
    let here : slice_index_or (map f ps) (k - 1) [] ≡ f (slice_index_or ps (k - 1) no_part) =
    ap (λ (d : List Token). slice_index_or (map f ps) (k - 1) d) (sym none) ∙ listn.get_or-map f ps (k - 1) no_part in
    ap (λ (l : List Token). l ∷ picked order (map f ps)) here ∙ ap (λ (ls : List (List Token)). f (slice_index_or ps (k - 1) no_part) ∷ ls) (picked_chosen f none order ps)

goes_at : (set : Setting) (ps : List Part) → AllGo set ps → (j : ℕ) → PartGoes set false (slice_index_or ps j no_part)
goes_at set [] all j = goes_none set false
goes_at set (p ∷ ps) all zero = all.0
goes_at set (p ∷ ps) all (suc j) = goes_at set ps all.1 j

pub chosen_go : (set : Setting) (order : List ℕ) (ps : List Part) → AllGo set ps → AllGo set (chosen order ps)
chosen_go set [] ps all = tt
chosen_go set (k ∷ order) ps all = (goes_at set ps all (k - 1), chosen_go set order ps all)

-- the same parts ask for as much work

cost_single : (p : Part) → costs (p ∷ []) ≡ p.cost
cost_single p = costs-cons p [] ∙ omega arith

single_at : (ps : List Part) (j : ℕ) → costs (slice_index_or (map (λ (p : Part). p ∷ []) ps) j []) ≡ (slice_index_or ps j no_part).cost
single_at [] j = refl
single_at (p ∷ ps) zero = cost_single p
single_at (p ∷ ps) (suc j) = single_at ps j

cost_singles : (ps : List Part) → sum_by costs (map (λ (p : Part). p ∷ []) ps) ≡ costs ps
cost_singles [] = refl
cost_singles (p ∷ ps) =
    sum_by-cons costs (p ∷ []) (map (λ (q : Part). q ∷ []) ps) ∙ omega (arith, cost_single p, cost_singles ps, costs-cons p ps)

cost_picked : (order : List ℕ) (ps : List Part) → sum_by costs (picked order (map (λ (p : Part). p ∷ []) ps)) ≡ costs (chosen order ps)
cost_picked [] ps = refl
cost_picked (k ∷ order) ps =
    let here = slice_index_or (map (λ (p : Part). p ∷ []) ps) (k - 1) [] in
    sum_by-cons costs here (picked order (map (λ (p : Part). p ∷ []) ps))
    ∙ omega (arith, single_at ps (k - 1), cost_picked order ps, costs-cons (slice_index_or ps (k - 1) no_part) (chosen order ps))

pub chosen_cost : (order : List ℕ) (ps : List Part) → IsOrder (length ps) order → costs (chosen order ps) ≡ costs ps
chosen_cost order ps is =
    let many : length (map (λ (p : Part). p ∷ []) ps) ≡ length ps = length-map ps (λ (p : Part). p ∷ []) in
    let moved = picked_permutes order (map (λ (p : Part). p ∷ []) ps) (rw many is) in
    sym (cost_picked order ps) ∙ sum_by-IsPermutation costs (map (λ (p : Part). p ∷ []) ps) (picked order (map (λ (p : Part). p ∷ []) ps)) moved ∙ cost_singles ps

pub length-chosen : (order : List ℕ) (ps : List Part) → length (chosen order ps) ≡ length order
length-chosen order ps = length-map order (λ k. slice_index_or ps (k - 1) no_part)
