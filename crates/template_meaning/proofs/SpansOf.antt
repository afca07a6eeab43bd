-- The lists of a file may move: what their marks give of this.
use Rattle.std.proofs.Common.{◌≡◌, ℕ, zero, suc, ◌+◌, ◌-◌, ◌<◌, ◌≤◌, inl, inr, Bool, true, false, cond, List, [], ◌∷◌, length, drop, map, Option, None, Some, Result, Ok, Err, refl, sym, ap, subst, ◌∙◌, arith}
use Rattle.std.specs.Prelude.{slice_get, nat_lt, nat_le}
use Rattle.std.specs.Option.{option_map_or, option_and_then}
use Rattle.std.proofs.lemmas.Bool.{lt-leb, le-leb, ltb-true, ltb-false}
use Rattle.std.proofs.lemmas.List.{length-map}
use Rattle.std.proofs.lemmas.Option.{same_Some, slice_get_within}
use Rattle.cs_base.specs.declared.positions.Part.{Part}
use Rattle.cs_base.specs.Token.{Token}
use Rattle.cs_base.specs.Limits.{most_bytes}
use Rattle.cs_base.proofs.ListLemmas.{get_dropped, get_taken}
use Rattle.line_shape.specs.Signs.{is_open, is_close, is_comma}
use Rattle.macro_body.specs.Hides.{toks_of}
use Rattle.lexer.specs.FileText.{TextValue, LexFault, FileTooLarge, text_value, text_or_open, file_text}
use Rattle.lexer.specs.Logical.{logical_of}
use Rattle.lexer.specs.Order.{InOrder}
use Rattle.lexer.specs.Tokens.{tokens_of, firsts_of, open_comment_of}
use Rattle.source_files.specs.Files.{SourceFile, source_file, Table}
use Rattle.source_files.specs.KeptFiles.{KeptValue, kept_at}
use Rattle.source_files.specs.Sources.{source_at, source_kept, read_as}
use Rattle.unit_laws.specs.UnitLinks.{IsIn}
use Rattle.analysis.specs.Analysis.{UnitAnalysis, AnalysisValue}
use Rattle.lexer.proofs.OrderLemmas.{tokens_of-in_order, before_of as order_of}
use Rattle.lexer.proofs.TextLemmas.{file_text-toks as text_toks}
use Rattle.arranged_text_laws.specs.Lists.{passes, IsItem, AreItems, begin_of, close_of, ListMoves, EachMoves, Rise, ListsMayMove, place_of, is_line_among}
use Rattle.arranged_text_laws.specs.Moving.{item_bytes, byte_lists, AreLong}
use Rattle.arranged_text_laws.specs.RunTokens.{IsTextList}
use Rattle.expansion_laws.specs.Arranging.{IsSign}
use Rattle.arranged_text_laws.specs.Calm.{is_odd}
use Rattle.arranged_text_laws.specs.FileItems.{placed}
use Rattle.list_cuts.specs.Cuts.{Cut, done, keep, list, Items, ended, item, count_of, span_of, AreOf, AreItemsOf}
use Rattle.list_cuts.specs.declared.spans.Span.{Span}
use Rattle.reordered_text_laws.specs.MarkedCuts.{HasCut}
use Rattle.reordered_text_laws.specs.Marks.{ends_of, marks_of, marks_in, first_of, last_of, Each, AreOfList, AreNested, spans_by}
use Rattle.reordered_text_laws.proofs.EachLemmas.{each_join}
use Rattle.reordered_text_laws.proofs.MarkLemmas.{cut_lists, cut_nested}
use Rattle.reordered_text_laws.specs.Runs.{Closes, AreSigned}
use Rattle.reordered_text_laws.specs.Trees.{IsAmong}
use Rattle.reordered_text_laws.proofs.PartMarks.{later_by, Rises, rises_of, each_among}
use Rattle.template_rules.specs.FileLists.{begun_by, begun_before, first_byte, end_byte, item_between, items_of, all_found, lists_in}
use Rattle.template_rules.specs.Lists.{separators}
use Rattle.template_meaning.specs.Spans.{SpansMove}
use Rattle.template_meaning.specs.Files.{file_marks}
use Rattle.template_meaning.specs.Places.{ListInFile}
use Rattle.template_meaning.specs.Units.{own_lists, own_marks, run_cut, UnitHasLists}
use Rattle.template_meaning.proofs.Counts.{counted_at, begun_in}
use Rattle.template_meaning.proofs.RunsOf.{some_at, each_mark, within_limit, map_among}
use Rattle.template_meaning.proofs.Walks.{each_at}

-- ---- the text of a kept file

pub record IsTextOf (number : ℕ) (bytes : List ℕ) (text : TextValue) : Type 0 where
  pub small : nat_lt most_bytes (length bytes) ≡ false
  pub shut : open_comment_of bytes ≡ None
  pub is : text ≡ text_value number bytes

pub text_of : (number : ℕ) (bytes : List ℕ) (text : TextValue) → file_text number bytes ≡ Ok text → IsTextOf number bytes text
unfolding file_text
text_of number bytes text is = by (nat_lt most_bytes (length bytes)) refl (open_comment_of bytes) refl is
  where
    by : (b : Bool) → nat_lt most_bytes (length bytes) ≡ b → (o : Option ℕ) → open_comment_of bytes ≡ o → cond b (Err FileTooLarge) (text_or_open number bytes o) ≡ Ok text → IsTextOf number bytes text
    by true small o shut e = absurd (cc)
    by false small None shut e = record { small = small; shut = shut; is = (let same : text_value number bytes ≡ text = cc in sym same) }
    by false small (Some at) shut e = absurd (cc)

-- the text of a file that is kept
pub kept_text : (files : Table) (f : KeptValue) (file : SourceFile) → kept_at files f.number ≡ Some f → source_at files f.number ≡ Some file → (file_text f.number f.bytes ≡ Ok file.text) × (file.number ≡ f.number)
kept_text files f file kept is = by (file_text f.number f.bytes) refl (sym (ap (option_and_then source_kept) kept) ∙ is)
  where
    by : (r : Result TextValue LexFault) → file_text f.number f.bytes ≡ r → read_as f.number f.path r ≡ Some file → (file_text f.number f.bytes ≡ Ok file.text) × (file.number ≡ f.number)
    by (Ok text) e same =
        let one = same_Some (source_file f.number f.path text) file same in
        (e ∙ ap (λ (x : SourceFile). Ok x.text) one, sym (ap (λ (x : SourceFile). x.number) one))
    by (Err fault) e same = absurd (cc)

-- ---- signs

-- the same tokens elsewhere
closes_to : (run out all : List Token) (from : ℕ) (t d : List ℕ) → ((m : ℕ) (x : Token) → slice_get run m ≡ Some x → slice_get all (from + m) ≡ Some x) → map (slice_get run) t ≡ map (slice_get out) d → Closes out d → Closes all (later_by from t)
closes_to run out all from [] [] stand e h = h
closes_to run out all from [] (k ∷ d) stand e h = absurd (cc)
closes_to run out all from (m ∷ t) [] stand e h = absurd (cc)
closes_to run out all from (m ∷ []) (k ∷ []) stand e h =
    let same : slice_get run m ≡ slice_get out k = cc in
    record { mark = h.mark; has = stand m h.mark (same ∙ h.has); direct = h.direct; is_sign = h.is_sign }
closes_to run out all from (m ∷ []) (k ∷ j ∷ d) stand e h = absurd (cc)
closes_to run out all from (m ∷ n ∷ t) (k ∷ []) stand e h = absurd (cc)
closes_to run out all from (m ∷ n ∷ t) (k ∷ j ∷ d) stand e h =
    let same : slice_get run m ≡ slice_get out k = cc in
    let rest : map (slice_get run) (n ∷ t) ≡ map (slice_get out) (j ∷ d) = cc in
    let s = h.0 in
    (record { mark = s.mark; has = stand m s.mark (same ∙ s.has); direct = s.direct; is_sign = s.is_sign }, closes_to run out all from (n ∷ t) (j ∷ d) stand rest h.1)

signed_to : (run out all : List Token) (from : ℕ) (t d : List ℕ) → ((m : ℕ) (x : Token) → slice_get run m ≡ Some x → slice_get all (from + m) ≡ Some x) → map (slice_get run) t ≡ map (slice_get out) d → AreSigned out d → AreSigned all (later_by from t)
signed_to run out all from [] [] stand e h = h
signed_to run out all from [] (k ∷ d) stand e h = absurd (cc)
signed_to run out all from (m ∷ t) [] stand e h = absurd (cc)
signed_to run out all from (m ∷ t) (k ∷ d) stand e h =
    let same : slice_get run m ≡ slice_get out k = cc in
    let rest : map (slice_get run) t ≡ map (slice_get out) d = cc in
    let s = h.0 in
    (record { mark = s.mark; has = stand m s.mark (same ∙ s.has); direct = s.direct; is_sign = s.is_sign }, closes_to run out all from t d stand rest h.1)

sign_passes : (test : Token → Bool) (toks : List Token) (k : ℕ) → IsSign test toks k → passes test toks k ≡ true
sign_passes test toks k s = ap (λ (o : Option Token). option_map_or test o false) s.has ∙ s.is_sign

items_close : (toks : List Token) (m k : ℕ) (ms : List ℕ) → Closes toks (k ∷ ms) → Each (IsItem toks) (spans_by (m ∷ k ∷ ms)) → AreItems toks (spans_by (m ∷ k ∷ ms))
items_close toks m k [] h each = (each.0, sign_passes is_close toks k h)
items_close toks m k (j ∷ ms) h each = (each.0, sign_passes is_comma toks k h.0, refl, items_close toks k j ms h.1 each.1)

-- ---- a list

module _ (a : AnalysisValue) (members : List Part) (file : SourceFile) (t : List ℕ) (x : ListInFile a members file t) where
  abbrev toks : List Token
  toks = file.text.toks

  abbrev T : List ℕ
  T = map (begun_before toks) t

  in_file : (m : ℕ) (y : Token) → slice_get x.run m ≡ Some y → slice_get toks (x.it.from + m) ≡ Some y
  in_file m y e = get_dropped x.it.from toks m y (get_taken (x.it.to - x.it.from) (drop x.it.from toks) m y (ap (λ (ts : List Token). slice_get ts m) (sym x.run_is) ∙ e))

  signed : AreSigned toks T
  signed = subst (AreSigned toks) (sym x.file_marks) (signed_to x.run (toks_of x.e.toks) toks x.it.from x.in_run x.in_out in_file x.same x.signed)

  many : 1 < length T
  many =
      let size = ap length x.file_marks ∙ length-map x.in_run (λ m. x.it.from + m) in
      let two_ = some_marks (length x.run) x.in_run x.run_marks in
      omega (arith, size, two_)
    where
      some_marks : (limit : ℕ) (ms : List ℕ) → AreOfList limit ms → 1 < length ms
      some_marks limit [] w = absurd w
      some_marks limit (m ∷ []) w = absurd w
      some_marks limit (m ∷ k ∷ ms) w = omega arith

  -- it may move, where its items may, and its lines
  pub list_moves : (number : ℕ) (bytes : List ℕ) → toks ≡ tokens_of number bytes → Each (IsItem toks) (spans_by T) → IsTextList (placed (tokens_of number bytes) (firsts_of bytes)) (spans_by T)
      → ((k : ℕ) (y : Token) → slice_get toks k ≡ Some y → is_odd y.kind ≡ true → is_line_among bytes y.at.at (place_of toks (begin_of (spans_by T) - 1)) (place_of toks (close_of (spans_by T))) ≡ false)
      → ListMoves number bytes (spans_by T)
  list_moves number bytes same items text even = by T signed many items text even
    where
      by : (ms : List ℕ) → AreSigned toks ms → 1 < length ms → Each (IsItem toks) (spans_by ms) → IsTextList (placed (tokens_of number bytes) (firsts_of bytes)) (spans_by ms)
          → ((k : ℕ) (y : Token) → slice_get toks k ≡ Some y → is_odd y.kind ≡ true → is_line_among bytes y.at.at (place_of toks (begin_of (spans_by ms) - 1)) (place_of toks (close_of (spans_by ms))) ≡ false) → ListMoves number bytes (spans_by ms)
      by [] s lt i l e = absurd s
      by (m ∷ []) s lt i l e = absurd (omega (arith, lt))
      by (m ∷ k ∷ ms) s lt i l e =
          let less : m + 1 - 1 ≡ m = omega arith in
          record {
            behind = omega arith;
            opens = subst (λ (ts : List Token). passes is_open ts (m + 1 - 1) ≡ true) same (ap (passes is_open toks) less ∙ sign_passes is_open toks m s.0);
            items = subst (λ (ts : List Token). AreItems ts (spans_by (m ∷ k ∷ ms))) same (items_close toks m k ms s.1 i);
            text = l.text;
            plain = l.plain;
            even = subst (λ (ts : List Token). (j : ℕ) (y : Token) → slice_get ts j ≡ Some y → is_odd y.kind ≡ true → is_line_among bytes y.at.at (place_of ts (begin_of (spans_by (m ∷ k ∷ ms)) - 1)) (place_of ts (close_of (spans_by (m ∷ k ∷ ms)))) ≡ false) same e;
          }

-- ---- the bytes of items

-- one token begins where a token begins
begun_one : (number : ℕ) (bytes : List ℕ) (i : ℕ) (t : Token) → slice_get (tokens_of number bytes) i ≡ Some t → begun_by (tokens_of number bytes) t.at.at ≡ i + 1
begun_one number bytes i t e =
    let order = tokens_of-in_order number bytes in
    counted_at (λ (x : Token). nat_le x.at.at t.at.at) (tokens_of number bytes) i (slice_get_within (tokens_of number bytes) i t e)
    (λ j u le g. early order j u (nat_lt j i) refl le g)
    (λ j u lt g. let far = order_of 0 (length (logical_of bytes)) (tokens_of number bytes) order i j t u lt e g in lt-leb u.at.at t.at.at far)
  where
    early : InOrder 0 (length (logical_of bytes)) (tokens_of number bytes) → (j : ℕ) (u : Token) (b : Bool) → nat_lt j i ≡ b → j ≤ i → slice_get (tokens_of number bytes) j ≡ Some u → nat_le u.at.at t.at.at ≡ true
    early order j u true f le g =
        let far = order_of 0 (length (logical_of bytes)) (tokens_of number bytes) order j i u t (ltb-true j i f) g e in
        le-leb u.at.at t.at.at (omega (arith, far))
    early order j u false f le g =
        let ge = ltb-false j i f in
        let same : j ≡ i = omega (arith, ge, le) in
        let one = ap (λ (x : Token). x.at.at) (same_Some u t (sym g ∙ ap (slice_get (tokens_of number bytes)) same ∙ e)) in
        le-leb u.at.at t.at.at (omega (arith, one))

item_same : (number : ℕ) (bytes : List ℕ) (after before : ℕ) → begun_before (tokens_of number bytes) after + 1 ≡ begun_by (tokens_of number bytes) after
    → item_between bytes (tokens_of number bytes) after before
    ≡ item_bytes bytes (tokens_of number bytes) (record { begin = begun_before (tokens_of number bytes) after + 1; end = begun_before (tokens_of number bytes) before })
item_same number bytes after before e =
    ap (λ (k : ℕ). record {
      begin = option_map_or (first_byte bytes) (slice_get (tokens_of number bytes) k) 0;
      end = option_map_or (end_byte bytes) (slice_get (tokens_of number bytes) (begun_before (tokens_of number bytes) before - 1)) 0;
    }) (sym e)

items_same : (number : ℕ) (bytes : List ℕ) (t : List ℕ) → Each (λ x. begun_before (tokens_of number bytes) x + 1 ≡ begun_by (tokens_of number bytes) x) t
    → items_of bytes (tokens_of number bytes) t ≡ map (item_bytes bytes (tokens_of number bytes)) (spans_by (map (begun_before (tokens_of number bytes)) t))
items_same number bytes [] h = refl
items_same number bytes (x ∷ []) h = refl
items_same number bytes (x ∷ y ∷ t) h =
    ap (λ (s : Span). s ∷ items_of bytes (tokens_of number bytes) (y ∷ t)) (item_same number bytes x y h.0)
    ∙ ap (λ (ss : List Span). item_bytes bytes (tokens_of number bytes) (record { begin = begun_before (tokens_of number bytes) x + 1; end = begun_before (tokens_of number bytes) y }) ∷ ss) (items_same number bytes (y ∷ t) h.1)

-- ---- how many items

mutual
  unfolding marks_of marks_in ends_of count_of

  marks_many : (n at : ℕ) (c : Cut) → AreOf n c → Each (λ l. length l ≡ n + 1) (marks_of at c)
  marks_many n at done h = tt
  marks_many n at (keep k c) h = marks_many n (at + k) c h
  marks_many n at (list is c) h =
      let size = ends_many at is in
      let own = h.0 in
      (omega (arith, size, own), each_join (λ l. length l ≡ n + 1) (marks_in at is) (marks_of (at + span_of is) c) (items_many n at is h.1) (marks_many n (at + span_of is) c h.2))

  items_many : (n at : ℕ) (is : Items) → AreItemsOf n is → Each (λ l. length l ≡ n + 1) (marks_in at is)
  items_many n at ended h = tt
  items_many n at (item m c gap more) h =
      each_join (λ l. length l ≡ n + 1) (marks_of at c) (marks_in (at + (m + gap)) more) (marks_many n at c h.0) (items_many n (at + (m + gap)) more h.1)

  ends_many : (at : ℕ) (is : Items) → length (ends_of at is) ≡ count_of is
  ends_many at ended = refl
  ends_many at (item m c gap more) = let rest = ends_many (at + (m + gap)) more in omega (arith, rest)

spans_many : (n : ℕ) (ms : List ℕ) → length ms ≡ n + 1 → length (spans_by ms) ≡ n
spans_many n [] e = absurd (omega (arith, e))
spans_many n (m ∷ []) e = omega (arith, e)
spans_many zero (m ∷ k ∷ ms) e = absurd (omega (arith, e))
spans_many (suc n) (m ∷ k ∷ ms) e = let rest = spans_many n (k ∷ ms) (omega (arith, e)) in omega (arith, rest)

-- ---- a file

begin_spans : (limit : ℕ) (ms : List ℕ) → AreOfList limit ms → begin_of (spans_by ms) ≡ first_of ms + 1
begin_spans limit [] w = absurd w
begin_spans limit (m ∷ []) w = absurd w
begin_spans limit (m ∷ k ∷ ms) w = refl

rise_of : (limit : ℕ) (M : List (List ℕ)) → Each (AreOfList limit) M → Rises M → Rise (map spans_by M)
rise_of limit [] w r = tt
rise_of limit (l ∷ []) w r = tt
rise_of limit (l ∷ m ∷ M) w r =
    let one = begin_spans limit l w.0 in
    let two_ = begin_spans limit m w.1.0 in
    let lt = r.0.0 in
    (omega (arith, one, two_, lt), rise_of limit (m ∷ M) w.1 r.1)

module _ (a : AnalysisValue) (members : List Part) (order : List ℕ) (f : KeptValue) (file : SourceFile) (read : file_text f.number f.bytes ≡ Ok file.text) (number : file.number ≡ f.number)
    (hc : HasCut (length file.text.toks) (file_marks members a file.number file.text.toks)) (held : lists_in (all_found members a) f.number ≡ [] → ⊥)
    (stand : (t : List ℕ) → IsAmong (lists_in (all_found members a) f.number) t → ListInFile a members file t)
    (units : (u : UnitAnalysis) → IsIn a.units u → UnitHasLists members order u) (some : 0 < length order)
    (moves : (t : List ℕ) → IsAmong (lists_in (all_found members a) f.number) t → ListMoves f.number f.bytes (spans_by (map (begun_before file.text.toks) t))) where
  abbrev L : List (List ℕ)
  L = lists_in (all_found members a) f.number

  toks_is : file.text.toks ≡ tokens_of f.number f.bytes
  toks_is = text_toks f.number f.bytes file.text read

  abbrev M : List (List ℕ)
  M = file_marks members a f.number (tokens_of f.number f.bytes)

  marks_same : file_marks members a file.number file.text.toks ≡ M
  marks_same = ap (λ (n : ℕ). file_marks members a n file.text.toks) number ∙ ap (file_marks members a f.number) toks_is

  cut_here : HasCut (length file.text.toks) M
  cut_here = subst (HasCut (length file.text.toks)) marks_same hc

  listed : Each (AreOfList (length file.text.toks)) M
  listed = let c = cut_here in subst (Each (AreOfList (length file.text.toks))) c.marks (cut_lists 0 0 (length file.text.toks) _ c.marked)

  rising : Rises M
  rising = let c = cut_here in rises_of (length file.text.toks) M listed (subst AreNested c.marks (cut_nested 0 0 (length file.text.toks) _ c.marked))

  each_moves : (ts : List (List ℕ)) → ((t : List ℕ) → IsAmong ts t → IsAmong L t) → EachMoves f.number f.bytes (map spans_by (map (map (begun_before (tokens_of f.number f.bytes))) ts))
  each_moves [] into = tt
  each_moves (t ∷ ts) into =
      (subst (λ (x : List Token). ListMoves f.number f.bytes (spans_by (map (begun_before x) t))) toks_is (moves t (into t (inl refl))), each_moves ts (λ u i. into u (inr i)))

  some_lists : (ts : List (List ℕ)) → (ts ≡ [] → ⊥) → 0 < length (map spans_by (map (map (begun_before (tokens_of f.number f.bytes))) ts))
  some_lists [] h = absurd (h refl)
  some_lists (t ∷ ts) h = omega arith

  may_move : ListsMayMove f.number f.bytes (map spans_by M)
  may_move =
      let t = text_of f.number f.bytes file.text read in
      let c = cut_here in
      record {
        small = t.small;
        shut = t.shut;
        some = some_lists L held;
        each = each_moves L (λ t i. i);
        rise = rise_of (length file.text.toks) M listed rising;
        nested = c.nested;
      }

  -- the characters at which a list has its marks are those of tokens
  placed_at : (t : List ℕ) → IsAmong L t → Each (λ x. begun_before (tokens_of f.number f.bytes) x + 1 ≡ begun_by (tokens_of f.number f.bytes) x) t
  placed_at t i =
      let x = stand t i in
      subst (Each (λ y. begun_before (tokens_of f.number f.bytes) y + 1 ≡ begun_by (tokens_of f.number f.bytes) y)) (sym x.chars) (by x x.in_run (bound x))
    where
      bound : (x : ListInFile a members file t) → Each (λ m. m < length x.run) x.in_run
      bound x = lower x.in_run (each_mark (length x.run) x.in_run x.run_marks)
        where
          lower : (ks : List ℕ) → Each (λ k. (first_of x.in_run ≤ k) × (k ≤ last_of x.in_run)) ks → Each (λ m. m < length x.run) ks
          lower [] h = tt
          lower (k ∷ ks) h = let le = h.0.1 in let far = within_limit (length x.run) x.in_run x.run_marks in (omega (arith, le, far), lower ks h.1)

      by : (x : ListInFile a members file t) (ms : List ℕ) → Each (λ m. m < length x.run) ms
          → Each (λ y. begun_before (tokens_of f.number f.bytes) y + 1 ≡ begun_by (tokens_of f.number f.bytes) y) (map (λ (o : Option Token). option_map_or (λ (y : Token). y.at.at) o 0) (map (slice_get x.run) ms))
      by x [] h = tt
      by x (m ∷ ms) h =
          let y = some_at x.run m h.0 in
          let there : slice_get (tokens_of f.number f.bytes) (x.it.from + m) ≡ Some y.0 = ap (λ (ts : List Token). slice_get ts (x.it.from + m)) (sym toks_is) ∙ in_file a members file t x m y.0 y.1 in
          let one = begun_one f.number f.bytes (x.it.from + m) y.0 there in
          let two_ = begun_in 0 (length (logical_of f.bytes)) (tokens_of f.number f.bytes) (tokens_of-in_order f.number f.bytes) (x.it.from + m) y.0 there in (
            subst (λ (o : Option Token). begun_before (tokens_of f.number f.bytes) (option_map_or (λ (z : Token). z.at.at) o 0) + 1 ≡ begun_by (tokens_of f.number f.bytes) (option_map_or (λ (z : Token). z.at.at) o 0)) (sym y.1)
                (omega (arith, one, two_)),
            by x ms h.1,
          )

  bytes_same : (ts : List (List ℕ)) → ((t : List ℕ) → IsAmong ts t → IsAmong L t)
      → map (items_of f.bytes (tokens_of f.number f.bytes)) ts ≡ byte_lists f.number f.bytes (map spans_by (map (map (begun_before (tokens_of f.number f.bytes))) ts))
  bytes_same [] into = refl
  bytes_same (t ∷ ts) into =
      ap (λ (s : List Span). s ∷ map (items_of f.bytes (tokens_of f.number f.bytes)) ts) (items_same f.number f.bytes t (placed_at t (into t (inl refl))))
      ∙ ap (λ (ss : List (List Span)). map (item_bytes f.bytes (tokens_of f.number f.bytes)) (spans_by (map (begun_before (tokens_of f.number f.bytes)) t)) ∷ ss) (bytes_same ts (λ u i. into u (inr i)))

  long_one : (t : List ℕ) → IsAmong L t → length (spans_by (map (begun_before (tokens_of f.number f.bytes)) t)) ≡ length order
  long_one t i =
      let x = stand t i in
      let u = units x.unit x.there in
      let among = each_at (IsAmong (marks_of 0 (run_cut members x.unit))) (own_marks members x.unit) (separators x.list) (u.all some) (map_among separators (own_lists members x.unit) x.list x.own) in
      let many_ = each_among (λ l. length l ≡ length order + 1) (marks_of 0 (run_cut members x.unit)) (separators x.list) (marks_many (length order) 0 (run_cut members x.unit) u.each) among in
      let one = ap length x.unit_marks ∙ length-map x.in_out (λ m. x.before + m) in
      let two_ = ap length x.same in
      let three = length-map x.in_run (slice_get x.run) in
      let four = length-map x.in_out (slice_get (toks_of x.e.toks)) in
      let five = ap length x.file_marks ∙ length-map x.in_run (λ m. x.it.from + m) in
      let six = ap (λ (ts : List Token). length (map (begun_before ts) t)) toks_is in
      spans_many (length order) (map (begun_before (tokens_of f.number f.bytes)) t) (omega (arith, many_, one, two_, three, four, five, six))

  long_all : (ts : List (List ℕ)) → ((t : List ℕ) → IsAmong ts t → IsAmong L t) → AreLong (length order) (map spans_by (map (map (begun_before (tokens_of f.number f.bytes))) ts))
  long_all [] into = tt
  long_all (t ∷ ts) into = (long_one t (into t (inl refl)), long_all ts (λ u i. into u (inr i)))

  pub spans_move : SpansMove members order a f (map spans_by M)
  spans_move = record { moves = may_move; bytes = bytes_same L (λ t i. i); long = long_all L (λ t i. i) }
