-- Portions of a run, one behind the other.
use Rattle.std.proofs.Common.{◌≡◌, ◌≤◌, ℕ, ◌+◌, ◌&&◌, Bool, false, List, [], ◌∷◌, ◌++◌, length, map, refl, ap, sym, ◌∙◌, arith}
use Rattle.std.specs.List.{flat_map}
use Rattle.std.specs.Prelude.{sum_by}
use Rattle.std.proofs.lemmas.List.Sums.{sum_by-cons}
use Rattle.std.proofs.lemmas.List.{map-append}
use Rattle.line_shape.specs.Signs.{is_open}
use Rattle.macro_body.specs.declared.notes.Work.{Work}
use Rattle.macro_body.specs.Hides.{Hidden}
use Rattle.macro_body.specs.Macro.{Table}
use Rattle.macro_body.specs.Notes.{Note, expanded}
use Rattle.macro_expand.specs.Expansion.{Setting, macro_of}
use Rattle.macro_expand.specs.Laws.{put_out_after, begins_open, is_callable, ends_callable, ExpandsInParts}
use Rattle.macro_expand.proofs.WholeLemmas.{whole_is_step, whole_falls}
use Rattle.list_cuts.specs.Cuts.{arranged}
use Rattle.list_cuts.proofs.CutLemmas.{sum-arranged}
use Rattle.expansion_laws.specs.Alike.{unlined_hidden, label_hidden, canon, plain_note}
use Rattle.expansion_laws.specs.Portions.{Portion, cost_of, costs_of, ArePortions, Composes, PortionsCompose, PortionsMove}
use Rattle.expansion_laws.proofs.SplitLemmas.{first_same, rest_same}
use Rattle.expansion_laws.proofs.AlikeLemmas.{canon_strict, expands_alike}

-- the last token is the name of a macro alike
pub ends_alike : (far loose : Bool) (table : Table) (xs ys : List Hidden) → canon far loose xs ≡ canon far loose ys → ends_callable table xs ≡ ends_callable table ys
ends_alike far loose table [] [] h = refl
ends_alike far loose table [] (y ∷ ys) h = absurd cc
ends_alike far loose table (x ∷ xs) [] h = absurd cc
ends_alike far loose table (x ∷ []) (y ∷ y2 ∷ ys) h = absurd cc
ends_alike far loose table (x ∷ x2 ∷ xs) (y ∷ []) h = absurd cc
ends_alike far loose table (x ∷ []) (y ∷ []) h =
    ap (λ (v : Hidden). is_callable (macro_of table v)) (first_same (label_hidden far loose x) (label_hidden far loose y) [] [] h)
ends_alike far loose table (x ∷ x2 ∷ xs) (y ∷ y2 ∷ ys) h =
    let behind : map (unlined_hidden far) (x2 ∷ xs) ≡ map (unlined_hidden far) (y2 ∷ ys) =
    rest_same (label_hidden far loose x) (label_hidden far loose y) (map (unlined_hidden far) (x2 ∷ xs)) (map (unlined_hidden far) (y2 ∷ ys)) h in
    ends_alike far false table (x2 ∷ xs) (y2 ∷ ys) (canon_strict far (x2 ∷ xs) ∙ behind ∙ sym (canon_strict far (y2 ∷ ys)))

open_label : (far loose : Bool) (p p2 : Hidden) → label_hidden far loose p2 ≡ label_hidden far loose p → is_open p2.tok ≡ is_open p.tok
unfolding is_open
open_label far loose p p2 same = ap (λ (v : Hidden). is_open v.tok) same

open_behind : (far loose : Bool) (xs ys us vs : List Hidden) → canon far loose xs ≡ canon far loose ys → begins_open us ≡ begins_open vs → begins_open (xs ++ us) ≡ begins_open (ys ++ vs)
open_behind far loose [] [] us vs h k = k
open_behind far loose [] (y ∷ ys) us vs h k = absurd cc
open_behind far loose (x ∷ xs) [] us vs h k = absurd cc
open_behind far loose (x ∷ xs) (y ∷ ys) us vs h k =
    open_label far loose y x (first_same (label_hidden far loose x) (label_hidden far loose y) (map (unlined_hidden far) xs) (map (unlined_hidden far) ys) h)

open_again : (set : Setting) (depth : ℕ) (ps : List Portion) → ArePortions set depth ps
    → begins_open (flat_map (λ (p : Portion). p.again) ps) ≡ begins_open (flat_map (λ (p : Portion). p.toks) ps)
open_again set depth [] all = refl
open_again set depth (p ∷ ps) all =
    open_behind false p.loose p.again p.toks (flat_map (λ (q : Portion). q.again) ps) (flat_map (λ (q : Portion). q.toks) ps) all.0.alike (open_again set depth ps all.2)

compose : ExpandsInParts → (set : Setting) (depth before : ℕ) (work : Work) (ps : List Portion) → ArePortions set depth ps → costs_of ps ≤ work.left → Composes set depth before work ps
unfolding costs_of
compose in_parts set depth before work [] all room = record {
  parts = [];
  out = expanded [] [] work;
  expands = whole_is_step set depth before [] work;
  theirs = tt;
  toks = refl;
  notes = refl;
  cost = omega arith;
  counter = refl;
}
compose in_parts set depth before work (p ∷ ps) all room =
    let is = all.0 in
    let fell = whole_falls set depth p.before p.toks p.work p.out is.expands in
    let k = expands_alike false p.loose set depth p.before before p.toks p.again p.work work p.out is.expands is.alike (omega arith) is.lines in
    let cost1 = k.2.cost in
    let c = compose in_parts set depth (put_out_after depth before (length k.0.toks)) k.0.left ps all.2 (omega arith) in
    let cost2 = c.cost in
    let ends : ends_callable set.table k.0.toks ≡ ends_callable set.table p.out.toks = ends_alike false p.loose set.table k.0.toks p.out.toks k.2.toks in
    let apart : (ends_callable set.table k.0.toks && begins_open (flat_map (λ (q : Portion). q.again) ps)) ≡ false =
    ap (λ (b : Bool). b && begins_open (flat_map (λ (q : Portion). q.again) ps)) ends
    ∙ ap (λ (b : Bool). ends_callable set.table p.out.toks && b) (open_again set depth ps all.2) ∙ all.1 in
    record {
      parts = k.0 ∷ c.parts;
      out = expanded (k.0.toks ++ c.out.toks) (k.0.notes ++ c.out.notes) c.out.left;
      expands = in_parts set depth before p.again (flat_map (λ (q : Portion). q.again) ps) work k.0 c.out k.1 apart c.expands;
      theirs = (k.2.toks, c.theirs);
      toks = ap (λ (l : List Hidden). k.0.toks ++ l) c.toks;
      notes =
          map-append (plain_note false) k.0.notes c.out.notes ∙ ap (λ (l : List Note). l ++ map (plain_note false) c.out.notes) k.2.notes
          ∙ ap (λ (l : List Note). map (plain_note false) p.out.notes ++ l) c.notes;
      cost = omega arith;
      counter = c.counter ∙ k.2.counters.1;
    }

pub portions_compose : ExpandsInParts → PortionsCompose
portions_compose in_parts = compose in_parts

-- ---- in a new order

costs-sum : (ps : List Portion) → costs_of ps ≡ sum_by cost_of ps
unfolding costs_of
costs-sum [] = refl
costs-sum (p ∷ ps) = ap (λ (n : ℕ). cost_of p + n) (costs-sum ps) ∙ sym (sum_by-cons cost_of p ps)

pub portions_move : ExpandsInParts → PortionsMove
portions_move in_parts = λ set depth before work n order c ps is all these room.
    let same : costs_of (arranged order c ps) ≡ costs_of ps = costs-sum (arranged order c ps) ∙ sum-arranged cost_of n order c ps is all ∙ sym (costs-sum ps) in
    (compose in_parts set depth before work (arranged order c ps) these (omega (arith, same)), same)
