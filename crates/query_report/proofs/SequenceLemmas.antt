-- Sequences of items, and the lines that are written of them item by item.
use Rattle.std.proofs.Common.{◌≡◌, ℕ, ◌+◌, ◌<◌, ◌≤◌, Bool, List, [], ◌∷◌, ◌++◌, length, drop, get_or, refl, sym, ap, ◌∙◌, append_assoc, arith}
use Rattle.std.specs.Prelude.{Option, None, Some, Result, Ok, Err, OnOk}
use Rattle.std.specs.List.{flat_map}
use Rattle.std.specs.Option.{option_map_or, option_to_list}
use Rattle.std.proofs.lemmas.Grind.{flat_map-append}
use Rattle.std.proofs.lemmas.List.{at_drop_more, at_drop_all, append-nil}
use Rattle.cs_base.specs.declared.positions.Part.{Part}
use Rattle.line_shape.specs.declared.items.Item.{Item}
use Rattle.query_report.specs.declared.spans.Span.{Span}
use Rattle.analysis.specs.Below.source_files.KeptFiles.{KeptValue, kept_at}
use Rattle.analysis.specs.Analysis.{AnalysisValue}
use Rattle.analysis.specs.ClassReport.{part_line, part_lines}
use Rattle.analysis.specs.Texts.{TextsValue}
use Rattle.query_report.specs.Skipped.{ended, going_on, sequences, span_line, file_lines, is_reached, items_in, lines_in, lines_at}
use Rattle.query_report.specs.Marks.{count_at, is_marked, AreMarked}

-- items that are reached alike have the same sequences
sequences-same : (p q : ℕ → Bool) (k : ℕ) (before : Option Span) (items : List Item)
    → ((j : ℕ) → k ≤ j → j < k + length items → p j ≡ q j) → sequences p k before items ≡ sequences q k before items
unfolding sequences
sequences-same p q k before [] same = refl
sequences-same p q k before (i ∷ items) same =
    let here : p k ≡ q k = same k (omega arith) (omega arith) in
    let rest : sequences p (k + 1) (going_on (q k) before i) items ≡ sequences q (k + 1) (going_on (q k) before i) items =
    sequences-same p q (k + 1) (going_on (q k) before i) items (λ j low high. same j (omega arith) (omega arith)) in
    ap (λ (b : Bool). ended b before ++ sequences p (k + 1) (going_on b before i) items) here
    ∙ ap (λ (s : List Span). ended (q k) before ++ s) rest

pub file_lines-same : (path : List ℕ) (p q : ℕ → Bool) (items : List Item) → ((j : ℕ) → j < length items → p j ≡ q j)
    → file_lines path p items ≡ file_lines path q items
file_lines-same path p q items same =
    ap (flat_map (span_line path)) (sequences-same p q 0 None items (λ j low high. same j (omega arith)))

-- one item more
sequences-more : (p : ℕ → Bool) (k : ℕ) (before : Option Span) (items : List Item) (d : Item) → k < length items
    → sequences p k before (drop k items) ≡ ended (p k) before ++ sequences p (k + 1) (going_on (p k) before (get_or items k d)) (drop (k + 1) items)
unfolding sequences
sequences-more p k before items d within = at_drop_more (sequences p k before) items k d within

sequences-end : (p : ℕ → Bool) (k : ℕ) (before : Option Span) (items : List Item) → length items ≤ k
    → sequences p k before (drop k items) ≡ option_to_list before
unfolding sequences
sequences-end p k before items past = at_drop_all (sequences p k before) items k past

-- The text so far and what is still to come: the line of a sequence that ends is added.
pub lines-more : (path : List ℕ) (p : ℕ → Bool) (items : List Item) (k : ℕ) (before after : Option Span) (d : Item) (text text' whole : List ℕ)
    → k < length items → text ++ flat_map (span_line path) (sequences p k before (drop k items)) ≡ whole
    → text' ≡ text ++ flat_map (span_line path) (ended (p k) before) → after ≡ going_on (p k) before (get_or items k d)
    → text' ++ flat_map (span_line path) (sequences p (k + 1) after (drop (k + 1) items)) ≡ whole
lines-more path p items k before after d text text' whole within so_far added goes_on =
    let line : Span → List ℕ = span_line path in
    let rest : List Span = sequences p (k + 1) after (drop (k + 1) items) in
    let more : sequences p k before (drop k items) ≡ ended (p k) before ++ rest = rw goes_on (sequences-more p k before items d within) in
    ap (λ (t : List ℕ). t ++ flat_map line rest) added
    ∙ append_assoc text (flat_map line (ended (p k) before)) (flat_map line rest)
    ∙ ap (λ (t : List ℕ). text ++ t) (sym (flat_map-append line (ended (p k) before) rest))
    ∙ ap (λ (s : List Span). text ++ flat_map line s) (sym more)
    ∙ so_far

-- behind the last item
pub lines-end : (path : List ℕ) (p : ℕ → Bool) (items : List Item) (k : ℕ) (before : Option Span) (text text' whole : List ℕ)
    → length items ≤ k → text ++ flat_map (span_line path) (sequences p k before (drop k items)) ≡ whole
    → text' ≡ text ++ flat_map (span_line path) (option_to_list before) → text' ≡ whole
lines-end path p items k before text text' whole past so_far added =
    added ∙ ap (λ (s : List Span). text ++ flat_map (span_line path) s) (sym (sequences-end p k before items past)) ∙ so_far

-- The lines of parts so far and those that are still to come: the line of a part is added.
pub parts-more : (a : AnalysisValue) (parts : List Part) (k : ℕ) (d : Part) (text text' whole : List ℕ)
    → k < length parts → text ++ part_lines a (drop k parts) ≡ whole → text' ≡ text ++ part_line a (get_or parts k d)
    → text' ++ part_lines a (drop (k + 1) parts) ≡ whole
unfolding part_lines
parts-more a parts k d text text' whole within so_far added =
    ap (λ (t : List ℕ). t ++ part_lines a (drop (k + 1) parts)) added
    ∙ append_assoc text (part_line a (get_or parts k d)) (part_lines a (drop (k + 1) parts))
    ∙ ap (λ (t : List ℕ). text ++ t) (sym (at_drop_more (part_lines a) parts k d within))
    ∙ so_far

-- behind the last part
pub parts-end : (a : AnalysisValue) (parts : List Part) (k : ℕ) (text whole : List ℕ)
    → length parts ≤ k → text ++ part_lines a (drop k parts) ≡ whole → text ≡ whole
unfolding part_lines
parts-end a parts k text whole past so_far =
    sym (append-nil text) ∙ ap (λ (t : List ℕ). text ++ t) (sym (at_drop_all (part_lines a) parts k past)) ∙ so_far

-- what is added where a call succeeds
pub on_ok-then : {X E : Type 0} (r : Result X E) (P Q : Type 0) → OnOk r P → (P → Q) → OnOk r Q
on_ok-then (Ok x) P Q p follows = follows p
on_ok-then (Err e) P Q p follows = tt

-- the lines of a kept file whose items are marked where they are reached
pub lines-told : (t : TextsValue) (rows : List (List Bool)) (number : ℕ) (f : KeptValue) → AreMarked t rows → kept_at t.table number ≡ Some f
    → file_lines f.path (is_marked rows number) (items_in f) ≡ lines_at t number
lines-told t rows number f told there =
    let count : count_at t.table number ≡ length (items_in f) =
    ap (λ (o : Option KeptValue). option_map_or (λ (g : KeptValue). length (items_in g)) o 0) there in
    file_lines-same f.path (is_marked rows number) (is_reached t.texts number) (items_in f) (λ j within. told number j (rw count within))
    ∙ sym (ap (λ (o : Option KeptValue). option_map_or (lines_in t.texts number) o []) there)
