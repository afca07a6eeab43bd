-- Where lists stand in runs of text lines, no list goes on from one item of a file to another, and none stands in a directive line.
use Rattle.std.proofs.Common.{◌≡◌, ◌≤◌, ◌⊎◌, ℕ, zero, suc, ◌+◌, ◌-◌, Bool, true, false, not, ◌&&◌, ◌||◌, List, [], ◌∷◌, ◌++◌, length, take, drop, refl, ap, sym, subst, ◌∙◌, arith, inl, inr}
use Rattle.std.specs.Prelude.{nat_le}
use Rattle.std.specs.List.{list_any}
use Rattle.std.proofs.lemmas.Bool.{cases_Bool, le-leb, leb-true, leb-false}
use Rattle.std.proofs.Math.Seq.{take-add}
use Rattle.std.proofs.lemmas.List.{drop-drop}
use Rattle.cs_base.specs.Token.{Token}
use Rattle.line_shape.specs.declared.items.Item.{Item}
use Rattle.line_shape.specs.declared.items.ItemKind.{ItemKind}
use Rattle.line_shape.specs.declared.items.ItemKind.TheVariants.{Run}
use Rattle.line_shape.specs.Directives.{is_run}
use Rattle.line_shape.specs.Items.{lines_of, line_kind, pieces_of, last_of, item_of, items_from}
use Rattle.line_shape.specs.Signs.{is_hash}
use Rattle.arranged_text_laws.specs.FileItems.{FileRuns}
use Rattle.arranged_text_laws.specs.Runs.{Placed, begins_directive, in_text, goes_on, text_behind, ListsInRuns}
use Rattle.arranged_text_laws.proofs.RunLemmas.{line_from, later_lines, run_in, behind_run, all_pieces, start_run, start_directive, kind_of_line, later_start, later_on, line_on, line_start_at, run_start, run_on, behind_start, behind_on, goes_text, same_text, same_line, begins_first, head_line, or_parts_false}
use Rattle.list_cuts.specs.Cuts.{Cut, done, keep, list, span_of}
use Rattle.list_cuts.specs.CutOf.{back, is_between, is_free}
use Rattle.expansion_laws.specs.Arranging.{in_lists}
use Rattle.unit_laws.proofs.ReorderedPartLemmas.{not_in_back}

-- ---- places in runs

-- the token before a place stands in a text line, and that behind it begins no directive line
pub record IsInside (text : Bool) (ps : List Placed) (x : ℕ) : Type 0 where
  pub text_is : text_behind text (take x ps) ≡ true
  pub on : goes_on (drop x ps) ≡ true

pub text_both : (text : Bool) (xs ys : List Placed) → text_behind text (xs ++ ys) ≡ text_behind (text_behind text xs) ys
text_both text [] ys = refl
text_both text (x ∷ xs) ys = text_both (in_text text x) xs ys

inside_more : (text : Bool) (ps : List Placed) (n y : ℕ) → IsInside (text_behind text (take n ps)) (drop n ps) y → IsInside text ps (n + y)
inside_more text ps n y h = record {
  text_is = ap (text_behind text) (take-add n y ps) ∙ text_both text (take n ps) (take y (drop n ps)) ∙ h.text_is;
  on = ap goes_on (sym (drop-drop y n ps)) ∙ h.on;
}

-- in a list, and behind its last token
pub inside_list : (n x : ℕ) (ps : List Placed) → x ≤ n → list_any begins_directive (take n ps) ≡ false → goes_on (drop n ps) ≡ true → IsInside true ps x
inside_list zero zero ps le none on = record { text_is = refl; on = on }
inside_list zero (suc x) ps le none on = absurd (omega (arith, le))
inside_list (suc n) x [] le none on = absurd cc
inside_list (suc n) zero (p ∷ ps) le none on =
    record { text_is = refl; on = ap not (or_parts_false (begins_directive p) (list_any begins_directive (take n ps)) none).0 }
inside_list (suc n) (suc x) (p ∷ ps) le none on =
    let parts = or_parts_false (begins_directive p) (list_any begins_directive (take n ps)) none in
    let rest = inside_list n x ps (omega (arith, le)) parts.1 on in
    let same : in_text true p ≡ true = goes_text true p refl parts.0 in
    record { text_is = ap (λ (b : Bool). text_behind b (take x ps)) same ∙ rest.text_is; on = rest.on }

or_either : {P : Type 0} (b c : Bool) → (b || c) ≡ true → (b ≡ true → P) → (c ≡ true → P) → P
or_either true c h f g = f refl
or_either false c h f g = g h

and_either : (b c : Bool) → (b && c) ≡ true → (b ≡ true) × (c ≡ true)
and_either true c h = (refl, h)
and_either false c h = absurd cc

-- what is in a list is behind the begin of the cut
lists_from : (from : ℕ) (c : Cut) (at : ℕ) → in_lists from c at ≡ true → from ≤ at
unfolding in_lists
lists_from from done at h = absurd cc
lists_from from (keep n c) at h = let k = lists_from (from + n) c at h in omega (arith, k)
lists_from from (list is c) at h =
    or_either (nat_le from at && nat_le at (from + span_of is)) (in_lists (from + span_of is) c at) h
    (λ here. leb-true from at (and_either (nat_le from at) (nat_le at (from + span_of is)) here).0)
    (λ later. let k = lists_from (from + span_of is) c at later in omega (arith, k))

in_runs : (from : ℕ) (text : Bool) (c : Cut) (ps vs : List Placed) (x : ℕ) → ListsInRuns text c ps vs → in_lists from c (from + x) ≡ true → IsInside text ps x
unfolding in_lists
in_runs from text done ps vs x runs h = absurd cc
in_runs from text (keep n c) ps vs x runs h =
    let le = lists_from (from + n) c (from + x) h in
    let same : from + x ≡ from + n + (x - n) = omega (arith, le) in
    let count : n + (x - n) ≡ x = omega (arith, le) in
    subst (λ (k : ℕ). IsInside text ps k) count
    (inside_more text ps n (x - n) (in_runs (from + n) (text_behind text (take n ps)) c (drop n ps) (drop n vs) (x - n) runs (ap (λ (k : ℕ). in_lists (from + n) c k) (sym same) ∙ h)))
in_runs from text (list is c) ps vs x runs h =
    let n = span_of is in
    subst (λ (b : Bool). IsInside b ps x) (sym runs.0)
    (or_either (nat_le from (from + x) && nat_le (from + x) (from + n)) (in_lists (from + n) c (from + x)) h
    (λ here.
    let le = leb-true (from + x) (from + n) (and_either (nat_le from (from + x)) (nat_le (from + x) (from + n)) here).1 in
    inside_list n x ps (omega (arith, le)) runs.1 runs.3)
    (λ later.
    let le = lists_from (from + n) c (from + x) later in
    let same : from + x ≡ from + n + (x - n) = omega (arith, le) in
    let count : n + (x - n) ≡ x = omega (arith, le) in
    let whole : IsInside true ps n = inside_list n n ps (omega arith) runs.1 runs.3 in
    let rest = in_runs (from + n) true c (drop n ps) (drop n vs) (x - n) runs.4 (ap (λ (k : ℕ). in_lists (from + n) c k) (sym same) ∙ later) in
    subst (λ (k : ℕ). IsInside true ps k) count (inside_more true ps n (x - n) (subst (λ (b : Bool). IsInside b (drop n ps) (x - n)) (sym whole.text_is) rest))))

-- ---- places of items

-- a place that is not inside a run, the tokens being from a place on
abbrev IsOut : Bool → ℕ → List Placed → ℕ → Type 0
IsOut text base ps e = (y : ℕ) × (e ≡ base + y) × (IsInside text ps y → ⊥)

-- the same, where another token stands before them
abbrev IsOutAt : Placed → List Placed → ℕ → ℕ → Type 0
IsOutAt p ps from e = (e ≡ from) ⊎ IsOut (not (is_hash p.tok)) (from + 1) ps e

-- items begin and end at such places, and those that are no runs have no others
record IsFine (Out : ℕ → Type 0) (it : Item) : Type 0 where
  begins : Out it.from
  ends : Out it.to
  others : is_run it.kind ≡ false → (e : ℕ) → it.from ≤ e → e ≤ it.to → Out e

abbrev AreFine : (ℕ → Type 0) → List Item → Type 0
AreFine Out [] = Unit {0}
AreFine Out (it ∷ items) = IsFine Out it × AreFine Out items

fine_more : (Out Out2 : ℕ → Type 0) (items : List Item) → ((e : ℕ) → Out e → Out2 e) → AreFine Out items → AreFine Out2 items
fine_more Out Out2 [] more h = tt
fine_more Out Out2 (it ∷ items) more h = (
  record { begins = more it.from h.0.begins; ends = more it.to h.0.ends; others = λ other e le le2. more e (h.0.others other e le le2) },
  fine_more Out Out2 items more h.1,
)

-- What is so behind a token of a run, and behind one of a directive line.
record Walks (ps : List Placed) : Type 0 where
  run_ends : (base : ℕ) → IsOut true base ps (base + length (run_in ps))
  run_more : (base : ℕ) → AreFine (IsOut true base ps) (items_from (base + length (run_in ps)) (all_pieces (behind_run ps)))
  count : ℕ
  line : (t : Token) → length (line_from t ps) ≡ suc count
  line_out : (y : ℕ) → y ≤ count → IsInside false ps y → ⊥
  line_more : (base : ℕ) → AreFine (IsOut false base ps) (items_from (base + count) (pieces_of (later_lines ps)))

-- the item of a piece
abbrev line_item : ItemKind → ℕ → Token → List Token → Item
line_item k from t toks = record { kind = k; at = t.at; first_line = t.line; last_line = (last_of t toks).line; from = from; to = from + suc (length toks) }

-- the places of a directive line
line_place : (from e n : ℕ) (Out : ℕ → Type 0) → Out from → ((y : ℕ) → y ≤ n → Out (from + 1 + y)) → from ≤ e → e ≤ from + suc n → Out e
line_place from e n Out first more le le2 = by (e - from) refl
  where
    by : (d : ℕ) → e - from ≡ d → Out e
    by zero is = let same : from ≡ e = omega (arith, is, le) in subst Out same first
    by (suc y) is = let same : from + 1 + y ≡ e = omega (arith, is, le) in subst Out same (more y (omega (arith, is, le, le2)))

-- items from a token on with which a line begins
start : (p : Placed) (ps : List Placed) (from : ℕ) → Walks ps → AreFine (IsOutAt p ps from) (items_from from (all_pieces (p ∷ ps)))
unfolding items_from
start p ps from w = elim (cases_Bool (is_hash p.tok)) [
  | inl hash ↦
      let k : ItemKind = line_kind (line_from p.tok ps) in
      let no_text : not (is_hash p.tok) ≡ false = ap not hash in
      let other : is_run k ≡ false = kind_of_line p.tok ps ∙ no_text in
      let h = head_line p.tok ps in
      let long : suc (length h.0) ≡ suc w.count = ap length (sym h.1) ∙ w.line p.tok in
      let out : (y : ℕ) → y ≤ w.count → IsOutAt p ps from (from + 1 + y) = λ y le.
      inr (y, refl, subst (λ (b : Bool). IsInside b ps y → ⊥) (sym no_text) (w.line_out y le)) in
      let place : (e : ℕ) → from ≤ e → e ≤ from + suc (length h.0) → IsOutAt p ps from e = λ e le le2.
      line_place from e (length h.0) (IsOutAt p ps from) (inl refl) (λ y small. out y (omega (arith, small, long))) le le2 in
      let whole : from + suc (length h.0) ≤ from + suc (length h.0) = omega arith in
      let before : from ≤ from + suc (length h.0) = omega arith in
      let first : IsFine (IsOutAt p ps from) (line_item k from p.tok h.0) = record {
        begins = inl refl;
        ends = place (from + suc (length h.0)) before whole;
        others = λ none e le le2. place e le le2;
      } in
      let more : AreFine (IsOutAt p ps from) (items_from (from + 1 + w.count) (pieces_of (later_lines ps))) =
      fine_more (IsOut false (from + 1) ps) (IsOutAt p ps from) (items_from (from + 1 + w.count) (pieces_of (later_lines ps)))
      (λ e o. inr (subst (λ (b : Bool). IsOut b (from + 1) ps e) (sym no_text) o)) (w.line_more (from + 1)) in
      let behind : from + suc (length h.0) ≡ from + 1 + w.count = omega (arith, long) in
      subst (λ (l : _). AreFine (IsOutAt p ps from) (items_from from l)) (sym (start_directive p ps hash))
      (subst (λ (l : List Token). AreFine (IsOutAt p ps from) (item_of k from l ++ items_from (from + length l) (pieces_of (later_lines ps)))) (sym h.1)
      (first, subst (λ (n : ℕ). AreFine (IsOutAt p ps from) (items_from n (pieces_of (later_lines ps)))) (sym behind) more))
  | inr text ↦
      let is_text : not (is_hash p.tok) ≡ true = ap not text in
      let n : ℕ = length (run_in ps) in
      let back_to : from + suc n ≡ from + 1 + n = omega arith in
      let last : IsOutAt p ps from (from + suc n) =
      inr (subst (λ (b : Bool). IsOut b (from + 1) ps (from + suc n)) (sym is_text) (subst (IsOut true (from + 1) ps) (sym back_to) (w.run_ends (from + 1)))) in
      let first : IsFine (IsOutAt p ps from) (line_item Run from p.tok (run_in ps)) = record {
        begins = inl refl;
        ends = last;
        others = λ none e le le2. absurd cc;
      } in
      let more : AreFine (IsOutAt p ps from) (items_from (from + 1 + n) (all_pieces (behind_run ps))) =
      fine_more (IsOut true (from + 1) ps) (IsOutAt p ps from) (items_from (from + 1 + n) (all_pieces (behind_run ps)))
      (λ e o. inr (subst (λ (b : Bool). IsOut b (from + 1) ps e) (sym is_text) o)) (w.run_more (from + 1)) in
      subst (λ (l : _). AreFine (IsOutAt p ps from) (items_from from l)) (sym (start_run p ps text))
      (first, subst (λ (m : ℕ). AreFine (IsOutAt p ps from) (items_from m (all_pieces (behind_run ps)))) (sym back_to) more)
]

-- a place from one token further on
out_later : (text : Bool) (q : Placed) (qs : List Placed) (base e : ℕ) → IsOut (in_text text q) (base + 1) qs e → IsOut text base (q ∷ qs) e
out_later text q qs base e o =
    let is = o.1 in
    (suc o.0, omega (arith, is), λ h. o.2 (record { text_is = h.text_is; on = h.on }))

-- where a line begins
out_line : (text : Bool) (q : Placed) (qs : List Placed) (base e : ℕ) → q.first ≡ true → (IsInside text (q ∷ qs) 0 → ⊥) → IsOutAt q qs base e → IsOut text base (q ∷ qs) e
out_line text q qs base e first none (inl same) = (0, omega (arith, same), none)
out_line text q qs base e first none (inr o) = out_later text q qs base e (subst (λ (b : Bool). IsOut b (base + 1) qs e) (sym (same_text text q first)) o)

-- a directive line that goes on, and one that ends
abbrev LineOut : List Placed → ℕ → Type 0
LineOut ps count = (y : ℕ) → y ≤ count → IsInside false ps y → ⊥

abbrev LineMore : List Placed → ℕ → Type 0
LineMore ps count = (base : ℕ) → AreFine (IsOut false base ps) (items_from (base + count) (pieces_of (later_lines ps)))

no_text : (ps : List Placed) → IsInside false ps 0 → ⊥
no_text [] h = let e = h.text_is in absurd cc
no_text (p ∷ ps) h = let e = h.text_is in absurd cc

line_far : (q : Placed) (qs : List Placed) (w : Walks qs) → q.first ≡ false → LineOut (q ∷ qs) (suc w.count)
line_far q qs w on zero le h = no_text (q ∷ qs) h
line_far q qs w on (suc y) le h =
    w.line_out y (omega (arith, le)) (record { text_is = ap (λ (b : Bool). text_behind b (take y qs)) (sym (same_line false q on)) ∙ h.text_is; on = h.on })

line_later : (q : Placed) (qs : List Placed) (w : Walks qs) → q.first ≡ false → LineMore (q ∷ qs) (suc w.count)
line_later q qs w on = λ base.
    let same : base + 1 + w.count ≡ base + suc w.count = omega arith in
    subst (λ (l : List (List Token)). AreFine (IsOut false base (q ∷ qs)) (items_from (base + suc w.count) (pieces_of l))) (sym (later_on q qs on))
    (subst (λ (n : ℕ). AreFine (IsOut false base (q ∷ qs)) (items_from n (pieces_of (later_lines qs)))) same
    (fine_more (IsOut false (base + 1) qs) (IsOut false base (q ∷ qs)) (items_from (base + 1 + w.count) (pieces_of (later_lines qs)))
    (λ e o. out_later false q qs base e (subst (λ (b : Bool). IsOut b (base + 1) qs e) (sym (same_line false q on)) o)) (w.line_more (base + 1))))

line_none : (q : Placed) (qs : List Placed) → LineOut (q ∷ qs) 0
line_none q qs zero le h = no_text (q ∷ qs) h
line_none q qs (suc y) le h = absurd (omega (arith, le))

line_starts : (q : Placed) (qs : List Placed) (w : Walks qs) → q.first ≡ true → LineMore (q ∷ qs) 0
line_starts q qs w first = λ base.
    let same : base ≡ base + 0 = omega arith in
    subst (λ (l : List (List Token)). AreFine (IsOut false base (q ∷ qs)) (items_from (base + 0) (pieces_of l))) (sym (later_start q qs first))
    (subst (λ (n : ℕ). AreFine (IsOut false base (q ∷ qs)) (items_from n (all_pieces (q ∷ qs)))) same
    (fine_more (IsOutAt q qs base) (IsOut false base (q ∷ qs)) (items_from base (all_pieces (q ∷ qs))) (λ e o. out_line false q qs base e first (no_text (q ∷ qs)) o) (start q qs base w)))

-- a run that goes on, and one that ends
no_goes : (q : Placed) (qs : List Placed) → begins_directive q ≡ true → IsInside true (q ∷ qs) 0 → ⊥
no_goes q qs starts h = let e : not true ≡ true = ap not (sym starts) ∙ h.on in absurd cc

walks_with : (q : Placed) (qs : List Placed) → Walks qs → (b : Bool) → begins_directive q ≡ b → (count : ℕ) → ((t : Token) → length (line_from t (q ∷ qs)) ≡ suc count)
    → LineOut (q ∷ qs) count → LineMore (q ∷ qs) count → Walks (q ∷ qs)
walks_with q qs w false none count line out more =
    let on : in_text true q ≡ true = goes_text true q refl none in
    let here : (base e : ℕ) → IsOut true (base + 1) qs e → IsOut true base (q ∷ qs) e = λ base e o.
    out_later true q qs base e (subst (λ (b : Bool). IsOut b (base + 1) qs e) (sym on) o) in
    record {
      run_ends = λ base.
          let same : base + 1 + length (run_in qs) ≡ base + suc (length (run_in qs)) = omega arith in
          subst (λ (l : List Token). IsOut true base (q ∷ qs) (base + length l)) (sym (run_on q qs none))
          (subst (IsOut true base (q ∷ qs)) same (here base (base + 1 + length (run_in qs)) (w.run_ends (base + 1))));
      run_more = λ base.
          let same : base + 1 + length (run_in qs) ≡ base + suc (length (run_in qs)) = omega arith in
          subst (λ (l : List Token). AreFine (IsOut true base (q ∷ qs)) (items_from (base + length l) (all_pieces (behind_run (q ∷ qs))))) (sym (run_on q qs none))
          (subst (λ (l : List Placed). AreFine (IsOut true base (q ∷ qs)) (items_from (base + suc (length (run_in qs))) (all_pieces l))) (sym (behind_on q qs none))
          (subst (λ (n : ℕ). AreFine (IsOut true base (q ∷ qs)) (items_from n (all_pieces (behind_run qs)))) same
          (fine_more (IsOut true (base + 1) qs) (IsOut true base (q ∷ qs)) (items_from (base + 1 + length (run_in qs)) (all_pieces (behind_run qs))) (here base) (w.run_more (base + 1)))));
      count = count;
      line = line;
      line_out = out;
      line_more = more;
    }
walks_with q qs w true starts count line out more =
    let first : q.first ≡ true = begins_first q starts in
    record {
      run_ends = λ base.
          subst (λ (l : List Token). IsOut true base (q ∷ qs) (base + length l)) (sym (run_start q qs starts)) (0, refl, no_goes q qs starts);
      run_more = λ base.
          let same : base ≡ base + 0 = omega arith in
          subst (λ (l : List Token). AreFine (IsOut true base (q ∷ qs)) (items_from (base + length l) (all_pieces (behind_run (q ∷ qs))))) (sym (run_start q qs starts))
          (subst (λ (l : List Placed). AreFine (IsOut true base (q ∷ qs)) (items_from (base + 0) (all_pieces l))) (sym (behind_start q qs starts))
          (subst (λ (n : ℕ). AreFine (IsOut true base (q ∷ qs)) (items_from n (all_pieces (q ∷ qs)))) same
          (fine_more (IsOutAt q qs base) (IsOut true base (q ∷ qs)) (items_from base (all_pieces (q ∷ qs))) (λ e o. out_line true q qs base e first (no_goes q qs starts) o) (start q qs base w))));
      count = count;
      line = line;
      line_out = out;
      line_more = more;
    }

none_inside : (y : ℕ) → IsInside true [] y → ⊥
none_inside zero h = let e = h.on in absurd cc
none_inside (suc y) h = let e = h.on in absurd cc

none_text : (y : ℕ) → IsInside false [] y → ⊥
none_text zero h = let e = h.text_is in absurd cc
none_text (suc y) h = let e = h.text_is in absurd cc

walks : (ps : List Placed) → Walks ps
unfolding items_from pieces_of lines_of
walks [] = record {
  run_ends = λ base. (0, refl, none_inside 0);
  run_more = λ base. tt;
  count = 0;
  line = λ t. refl;
  line_out = λ y le h. none_text y h;
  line_more = λ base. tt;
}
walks (q ∷ qs) =
    let w = walks qs in
    elim (cases_Bool q.first) [
      | inr on ↦ walks_with q qs w (begins_directive q) refl (suc w.count) (λ t. ap length (line_on t q qs on) ∙ ap suc (w.line q.tok)) (line_far q qs w on) (line_later q qs w on)
      | inl first ↦ walks_with q qs w (begins_directive q) refl 0 (λ t. ap length (line_start_at t q qs first)) (line_none q qs) (line_starts q qs w first)
    ]

-- ---- the items of a file

-- a place that is out is in no list
out_of_lists : (p : Placed) (ps vs : List Placed) (n : ℕ) (c : Cut) (e : ℕ) → ListsInRuns (not (is_hash p.tok)) (keep n c) ps vs → IsOutAt p ps 0 e → in_lists 0 (keep (suc n) c) e ≡ false
unfolding in_lists
out_of_lists p ps vs n c e runs out = by (in_lists (0 + suc n) c e) refl out
  where
    by : (b : Bool) → in_lists (0 + suc n) c e ≡ b → IsOutAt p ps 0 e → b ≡ false
    by false is o = refl
    by true is (inl none) = let le = lists_from (0 + suc n) c e is in absurd (omega (arith, le, none))
    by true is (inr o) =
        let e_is = o.1 in
        let base : 0 + suc n ≡ 1 + n = omega arith in
        let place : e ≡ 1 + o.0 = omega (arith, e_is) in
        absurd (o.2 (in_runs 1 (not (is_hash p.tok)) (keep n c) ps vs o.0 runs (ap (λ (k : ℕ). in_lists (1 + n) c k) (sym place) ∙ ap (λ (k : ℕ). in_lists k c e) (sym base) ∙ is)))

-- What is so of an item of a file.
pub record ItemApart (c : Cut) (it : Item) : Type 0 where
  pub begins : in_lists 0 c it.from ≡ false
  pub ends : in_lists 0 c it.to ≡ false
  pub others : is_run it.kind ≡ false → (e : ℕ) → it.from ≤ e → e ≤ it.to → in_lists 0 c e ≡ false

abbrev pub AreApart : Cut → List Item → Type 0
AreApart c [] = Unit {0}
AreApart c (it ∷ items) = ItemApart c it × AreApart c items

apart_of : (Out : ℕ → Type 0) (c : Cut) (items : List Item) → ((e : ℕ) → Out e → in_lists 0 c e ≡ false) → AreFine Out items → AreApart c items
apart_of Out c [] more h = tt
apart_of Out c (it ∷ items) more h = (
  record { begins = more it.from h.0.begins; ends = more it.to h.0.ends; others = λ other e le le2. more e (h.0.others other e le le2) },
  apart_of Out c items more h.1,
)

pub items_apart : (c : Cut) (ps vs : List Placed) → FileRuns c ps vs → AreApart c (items_from 0 (all_pieces ps))
items_apart done ps vs runs = absurd runs
items_apart (list is c) ps vs runs = absurd runs
items_apart (keep zero c) ps vs runs = absurd runs
items_apart (keep (suc n) c) [] vs runs = absurd runs
items_apart (keep (suc n) c) (p ∷ ps) [] runs = absurd runs
items_apart (keep (suc n) c) (p ∷ ps) (v ∷ vs) runs =
    apart_of (IsOutAt p ps 0) (keep (suc n) c) (items_from 0 (all_pieces (p ∷ ps))) (λ e o. out_of_lists p ps vs n c e runs o) (start p ps 0 (walks ps))

-- ---- parts without lists

free_from : (b n : ℕ) (c : Cut) → ((e : ℕ) → b ≤ e → e ≤ b + n → in_lists b c e ≡ false) → is_free n c ≡ true
unfolding in_lists is_free
free_from b n done h = refl
free_from b n (keep k c) h = by (nat_le n k) refl (λ le. free_from (b + k) (n - k) c (λ e small big. h e (omega (arith, small)) (omega (arith, big, le))))
  where
    by : (x : Bool) → nat_le n k ≡ x → (k ≤ n → is_free (n - k) c ≡ true) → (x || is_free (n - k) c) ≡ true
    by true is later = refl
    by false is later = let lt = leb-false n k is in later (omega (arith, lt))
free_from b n (list is c) h =
    let here : ((nat_le b b && nat_le b (b + span_of is)) || in_lists (b + span_of is) c b) ≡ false = h b (omega arith) (omega arith) in
    let one : nat_le b b ≡ true = le-leb b b (omega arith) in
    let two : nat_le b (b + span_of is) ≡ true = le-leb b (b + span_of is) (omega arith) in
    let wrong : true ≡ false = sym (ap (λ (x : Bool). (x && nat_le b (b + span_of is)) || in_lists (b + span_of is) c b) one ∙ ap (λ (x : Bool). x || in_lists (b + span_of is) c b) two) ∙ here in
    absurd cc

pub free_part : (b n : ℕ) (c : Cut) → is_between b c ≡ true → ((e : ℕ) → b ≤ e → e ≤ b + n → in_lists 0 c e ≡ false) → is_free n (back b c) ≡ true
free_part b n c between h = free_from b n (back b c) (λ e small big. not_in_back b c e between (h e small big))
