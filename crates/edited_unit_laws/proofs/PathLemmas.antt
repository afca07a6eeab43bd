-- A file whose lists may move has a text in the new order, whatever its number.
use Rattle.std.proofs.Common.{◌≡◌, ◌≤◌, ℕ, zero, suc, ◌-◌, Bool, true, false, not, List, [], ◌∷◌, length, drop, Option, Some, refl, ap, sym, subst, ◌∙◌, arith}
use Rattle.std.specs.Prelude.{slice_get, ◌&&◌}
use Rattle.std.specs.Option.{option_map_or}
use Rattle.std.proofs.lemmas.Option.{none-some, same_Some}
use Rattle.cs_base.specs.Token.{Token}
use Rattle.cs_base.proofs.BoolLemmas.{not_true}
use Rattle.line_shape.specs.Signs.{is_hash, is_close}
use Rattle.line_shape.proofs.SignLemmas.{close_no_hash}
use Rattle.lexer.specs.FileText.{TextValue, text_value, file_text}
use Rattle.lexer.specs.Tokens.{tokens_of, firsts_of}
use Rattle.lexer.proofs.ScanLemmas.{firsts_of-each as file_firsts}
use Rattle.arranged_text_laws.specs.Lists.{passes, may_begin, IsItem, AreItems, ListMoves, EachMoves}
use Rattle.arranged_text_laws.specs.Moving.{byte_lists, AreLong, FilesAreArranged, NumbersDoNotMatter}
use Rattle.arranged_text_laws.specs.FileItems.{placed}
use Rattle.arranged_text_laws.specs.Runs.{Placed, goes_on}
use Rattle.list_cuts.specs.Cuts.{Cut, count_of, arranged, AreOf, AreItemsOf}
use Rattle.list_cuts.specs.CutOf.{back, cut_items, rest_of, cut_of}
use Rattle.list_cuts.specs.Spans.{end_of, all_rearranged}
use Rattle.list_cuts.specs.declared.spans.Span.{Span}
use Rattle.unit_laws.specs.Files.{TextStands, TextsStay}
use Rattle.unit_laws.proofs.ReorderedPartLemmas.{of_front}
use Rattle.unit_laws.proofs.ReorderedUnitLemmas.{of_back}
use Rattle.edited_unit_laws.specs.Paths.{ListsMovePaths, PathsStay}
use Rattle.edited_unit_laws.specs.Texts.{AreSpans, AreHeads, StandsInRun, EachInRun, TextsStand, ListsStandInRuns}
use Rattle.edited_unit_laws.proofs.NumberLemmas.{spans_numbered}

-- ---- lists of so many items

items_count : (l : List Span) (c : Cut) → count_of (cut_items c l) ≡ length l
unfolding cut_items count_of
items_count [] c = refl
items_count (s ∷ []) c = refl
items_count (s ∷ t ∷ more) c = let k = items_count (t ∷ more) (back (t.begin - s.end) (back (s.end - s.begin) c)) in omega (arith, k)

items_all : (n : ℕ) (l : List Span) (c : Cut) → AreOf n c → AreItemsOf n (cut_items c l)
unfolding cut_items
items_all n [] c of = tt
items_all n (s ∷ []) c of = (of_front n (s.end - s.begin) c of, tt)
items_all n (s ∷ t ∷ more) c of =
    (of_front n (s.end - s.begin) c of, items_all n (t ∷ more) (back (t.begin - s.end) (back (s.end - s.begin) c)) (of_back n (t.begin - s.end) (back (s.end - s.begin) c) (of_back n (s.end - s.begin) c of)))

rest_all : (n : ℕ) (l : List Span) (c : Cut) → AreOf n c → AreOf n (rest_of c l)
unfolding rest_of
rest_all n [] c of = of
rest_all n (s ∷ []) c of = of_back n (s.end - s.begin) c of
rest_all n (s ∷ t ∷ more) c of =
    rest_all n (t ∷ more) (back (t.begin - s.end) (back (s.end - s.begin) c)) (of_back n (t.begin - s.end) (back (s.end - s.begin) c) (of_back n (s.end - s.begin) c of))

lists_all : (n : ℕ) (ls : List (List Span)) → AreLong n ls → AreOf n (cut_of ls)
unfolding cut_of
lists_all n [] long = tt
lists_all n ([] ∷ ls) long = lists_all n ls long.1
lists_all n ((s ∷ more) ∷ ls) long =
    let c : Cut = back s.begin (cut_of ls) in
    let of : AreOf n c = of_back n s.begin (cut_of ls) (lists_all n ls long.1) in
    (items_count (s ∷ more) c ∙ long.0, items_all n (s ∷ more) c of, rest_all n (s ∷ more) c of)

-- ---- lists in runs

passes_at : (test : Token → Bool) (ts : List Token) (k : ℕ) (t : Token) → passes test ts k ≡ true → slice_get ts k ≡ Some t → test t ≡ true
passes_at test ts k t h is = sym (ap (λ (o : Option Token). option_map_or test o false) is) ∙ h

placed_at : (ts : List Token) (fs : List Bool) (k : ℕ) (p : Placed) → slice_get (placed ts fs) k ≡ Some p → slice_get ts k ≡ Some p.tok
placed_at [] fs k p is = absurd (none-some p is)
placed_at (t ∷ ts) [] k p is = absurd (none-some p is)
placed_at (t ∷ ts) (f ∷ fs) zero p is = ap (λ (q : Placed). Some q.tok) (same_Some (record { tok = t; first = f }) p is)
placed_at (t ∷ ts) (f ∷ fs) (suc k) p is = placed_at ts fs k p is

head_of : (ts : List Token) (fs : List Bool) (s : Span) → IsItem ts s → (p : Placed) → slice_get (placed ts fs) s.begin ≡ Some p → is_hash p.tok ≡ false
head_of ts fs s it p is = not_true (is_hash p.tok) (passes_at may_begin ts s.begin p.tok it.first (placed_at ts fs s.begin p is))

spans_of : (ts : List Token) (l : List Span) → AreItems ts l → AreSpans l
spans_of ts [] h = h
spans_of ts (s ∷ []) h = let lt = h.0.some in omega (arith, lt)
spans_of ts (s ∷ t ∷ more) h =
    let lt = h.0.some in
    let next = h.2 in
    (let le : s.begin ≤ s.end = omega (arith, lt) in le, let le2 : s.end ≤ t.begin = omega (arith, next) in le2, spans_of ts (t ∷ more) h.3)

heads_of : (ts : List Token) (fs : List Bool) (l : List Span) → AreItems ts l → AreHeads (placed ts fs) l
heads_of ts fs [] h = absurd h
heads_of ts fs (s ∷ []) h = (head_of ts fs s h.0, tt)
heads_of ts fs (s ∷ t ∷ more) h = (head_of ts fs s h.0, heads_of ts fs (t ∷ more) h.3)

close_of_items : (ts : List Token) (s : Span) (more : List Span) → AreItems ts (s ∷ more) → passes is_close ts (end_of s more) ≡ true
unfolding end_of
close_of_items ts s [] h = h.1
close_of_items ts s (t ∷ more) h = close_of_items ts t more h.3

goes_at : (ts : List Token) (fs : List Bool) (k : ℕ) → length fs ≡ length ts → passes is_close ts k ≡ true → goes_on (drop k (placed ts fs)) ≡ true
goes_at [] fs k even h = absurd cc
goes_at (t ∷ ts) [] k even h = absurd (omega (arith, even))
goes_at (t ∷ ts) (f ∷ fs) zero even h = ap (λ (b : Bool). not (f && b)) (close_no_hash t h) ∙ none f
  where
    none : (b : Bool) → not (b && false) ≡ true
    none true = refl
    none false = refl
goes_at (t ∷ ts) (f ∷ fs) (suc k) even h = goes_at ts fs k (omega (arith, even)) h

in_run : (file : ℕ) (bytes : List ℕ) (l : List Span) → ListMoves file bytes l → StandsInRun (placed (tokens_of file bytes) (firsts_of bytes)) l
in_run file bytes [] m = absurd m.items
in_run file bytes (s ∷ more) m = record {
  behind = m.behind;
  spans = spans_of (tokens_of file bytes) (s ∷ more) m.items;
  heads = heads_of (tokens_of file bytes) (firsts_of bytes) (s ∷ more) m.items;
  text = m.text;
  plain = m.plain;
  on = goes_at (tokens_of file bytes) (firsts_of bytes) (end_of s more) (file_firsts file bytes) (close_of_items (tokens_of file bytes) s more m.items);
}

each_in_run : (file : ℕ) (bytes : List ℕ) (ls : List (List Span)) → EachMoves file bytes ls → EachInRun (placed (tokens_of file bytes) (firsts_of bytes)) ls
each_in_run file bytes [] m = tt
each_in_run file bytes (l ∷ ls) m = (in_run file bytes l m.0, each_in_run file bytes ls m.1)

-- ---- paths

pub lists_move_paths : FilesAreArranged → NumbersDoNotMatter → TextsStand → ListsStandInRuns → ListsMovePaths
lists_move_paths files numbers texts runs = λ edit order paths file path bytes ls is long moves edited cut.
    let n : ℕ = length order in
    let of : AreOf n (cut_of ls) = lists_all n ls long in
    let bytes_at : (number : ℕ) → edit path bytes ≡ arranged order (cut_of (byte_lists number bytes ls)) bytes = λ number.
    edited ∙ ap (λ (l : List (List Span)). all_rearranged order l bytes) (spans_numbered number file bytes ls)
    ∙ (files order number bytes ls is long (numbers file number bytes ls moves)).bytes_arranged in
    record {
      size = ap length (bytes_at file) ∙ (files order file bytes ls is long moves).new.size;
      of = subst (AreOf n) (sym cut) of;
      stands = λ number text read.
          let m = numbers file number bytes ls moves in
          let f = files order number bytes ls is long m in
          let c : Cut = cut_of (byte_lists number bytes ls) in
          let text2 : TextValue = text_value number (arranged order c bytes) in
          let r = runs order c number bytes ls f.new f.cut m.some (each_in_run number bytes ls m.each) m.nested in
          let t = texts n order c number bytes text text2 is (subst (AreOf n) (sym f.cut) of) r.0 f.new r.1 read f.read in (
            text2,
            ap (file_text number) (bytes_at number) ∙ f.read,
            subst (λ (x : Cut). TextStands order x text text2) (f.cut ∙ sym cut) t,
          );
    }

pub paths_stay : TextsStay → PathsStay
paths_stay stay = λ edit n order paths path bytes same none. record {
  size = ap length same;
  of = subst (AreOf n) (sym none) tt;
  stands = λ number text read.
      (text, ap (file_text number) same ∙ read, subst (λ (x : Cut). TextStands order x text text) (sym none) (stay order text));
}
