-- A file whose lists may move: its bytes may, and the cut of its tokens is that of its lists.
use Rattle.std.proofs.Common.{◌≡◌, ℕ, zero, suc, ◌+◌, ◌-◌, ◌<◌, ◌≤◌, true, List, [], ◌∷◌, length, take, drop, None, refl, sym, ap, subst, ◌∙◌, arith, length-drop}
use Rattle.std.proofs.lemmas.List.{length-map}
use Rattle.std.proofs.lemmas.Option.{slice_get_within}
use Rattle.cs_base.specs.Token.{Token}
use Rattle.lexer.specs.Logical.{Character, logical_of}
use Rattle.lexer.specs.Tokens.{tokens_of, open_comment_of}
use Rattle.list_cuts.specs.declared.spans.Span.{Span}
use Rattle.list_cuts.specs.Cuts.{Cut, extent_of}
use Rattle.list_cuts.specs.Spans.{end_of}
use Rattle.list_cuts.specs.CutOf.{cut_of}
use Rattle.arranged_text_laws.specs.Labels.{starts, IsLed}
use Rattle.arranged_text_laws.specs.Settling.{begins_stop, gap_behind, front_behind}
use Rattle.arranged_text_laws.specs.Seams.{is_some_byte, SeamsAlong}
use Rattle.arranged_text_laws.specs.Weighed.{weighed}
use Rattle.arranged_text_laws.specs.Marks.{before, behind_token, text, marks_of}
use Rattle.arranged_text_laws.specs.Calm.{skip_behind}
use Rattle.arranged_text_laws.specs.Parts.{PartsAlong}
use Rattle.arranged_text_laws.specs.Arranging.{character_cut, token_cut, MayMove}
use Rattle.arranged_text_laws.specs.Tokens.{cut_in}
use Rattle.arranged_text_laws.proofs.FileLemmas.{length-marks}
use Rattle.arranged_text_laws.proofs.PartLemmas.{parts_settle}
use Rattle.arranged_text_laws.specs.Lists.{place_of, begin_of, close_of, AreItems, ListMoves, EachMoves, Rise, ListsMayMove}
use Rattle.arranged_text_laws.specs.Moving.{byte_lists, FileMoves, FilesMayMove}
use Rattle.arranged_text_laws.proofs.Formed.{Formed, Chain, AllSo, IsBehind, CutFormed, cut_formed}
use Rattle.arranged_text_laws.proofs.Widened.{widened, at_start, cut_widens}
use Rattle.arranged_text_laws.proofs.WeighedCut.{cut_weighed}
use Rattle.arranged_text_laws.proofs.FileWalk.{chars_of, weights_file}
use Rattle.arranged_text_laws.proofs.Bounds.{end_place, chars_widen, chars_weighed}
use Rattle.arranged_text_laws.proofs.GoodTokens.{passed, list_closed}
use Rattle.arranged_text_laws.proofs.Tree.{Tree, tree_of, some_extent, LastEnds, last_of_cut}
use Rattle.arranged_text_laws.proofs.PartFound.{StateAt}
use Rattle.arranged_text_laws.proofs.FromThere.{from_state}
use Rattle.arranged_text_laws.proofs.CharsAlong.{Entry, parts_of, text_drop, stop_behind, state_behind, extent_is}
use Rattle.arranged_text_laws.proofs.ByteWalk.{whole_start, first_of, end_of as end_byte_of, firsts_weigh, byte_ends_weigh, token_bytes, bytes_widen, kept_weights}
use Rattle.arranged_text_laws.proofs.BytesAlong.{Start, seams_of}

-- ---- lists

chain_of : (toks : List Token) (l : List Span) → AreItems toks l → Chain l
chain_of toks [] h = absurd h
chain_of toks (s ∷ []) h = h.0.some
chain_of toks (s ∷ t ∷ more) h = (h.0.some, (let next = h.2 in omega (arith, next)), chain_of toks (t ∷ more) h.3)

close_within : (file : ℕ) (bytes : List ℕ) (l : List Span) → ListMoves file bytes l → close_of l < length (tokens_of file bytes)
close_within file bytes [] m = absurd m.items
close_within file bytes (s ∷ more) m =
    let p = passed _ (tokens_of file bytes) (end_of s more) (list_closed (tokens_of file bytes) more s m.items) in
    slice_get_within (tokens_of file bytes) (end_of s more) p.0 p.1

pub all_so : (file : ℕ) (bytes : List ℕ) (lists : List (List Span)) → EachMoves file bytes lists → Rise lists → AllSo (ListMoves file bytes) (length (tokens_of file bytes)) lists
all_so file bytes [] each rise = tt
all_so file bytes ([] ∷ lists) each rise = absurd each.0.items
all_so file bytes ((s ∷ more) ∷ []) each rise =
    (each.0, chain_of (tokens_of file bytes) (s ∷ more) each.0.items, (let w = close_within file bytes (s ∷ more) each.0 in omega (arith, w)), tt, tt)
all_so file bytes ((s ∷ more) ∷ m ∷ lists) each rise =
    (each.0, chain_of (tokens_of file bytes) (s ∷ more) each.0.items, (let w = close_within file bytes (s ∷ more) each.0 in omega (arith, w)), behind_is m rise.0, all_so file bytes (m ∷ lists) each.1 rise.1)
  where
    behind_is : (m : List Span) → s.begin < begin_of m → IsBehind (s ∷ more) (m ∷ lists)
    behind_is [] h = h
    behind_is (t ∷ rest) h = h

first_led : (file : ℕ) (bytes : List ℕ) (lists : List (List Span)) → EachMoves file bytes lists → 0 < length lists → Formed (cut_of lists)
    → IsLed (cut_of lists) × (0 < extent_of (cut_of lists))
unfolding cut_of
first_led file bytes [] each some f = absurd (omega (arith, some))
first_led file bytes ([] ∷ lists) each some f = absurd each.0.items
first_led file bytes ((s ∷ more) ∷ lists) each some f = (each.0.behind, some_extent s.begin _ f)

-- each item ends in the file
pub bytes_within_all : (file : ℕ) (bytes : List ℕ) → open_comment_of bytes ≡ None → (k : ℕ) → 0 < k → k ≤ length (tokens_of file bytes) → end_byte_of bytes (tokens_of file bytes) k ≤ length bytes
bytes_within_all file bytes none zero some le = absurd (omega (arith, some))
bytes_within_all file bytes none (suc k) some le =
    let t = token_bytes file bytes none k (omega (arith, le)) in
    let d = length-drop t.last.c.offset bytes in
    let l = ap length t.last.here in
    let is = t.end_is in
    omega (arith, is, d, l)

-- ---- the law

module _ (file : ℕ) (bytes : List ℕ) (lists : List (List Span)) (h : ListsMayMove file bytes lists) where
  abbrev pub toks : List Token
  toks = tokens_of file bytes

  abbrev pub size : ℕ
  size = length toks

  abbrev pub b : ℕ → ℕ
  b k = place_of toks k

  abbrev pub e : ℕ → ℕ
  e k = end_place toks k

  abbrev pub B : ℕ → ℕ
  B k = first_of bytes toks k

  abbrev pub E : ℕ → ℕ
  E k = end_byte_of bytes toks k

  pub so : AllSo (ListMoves file bytes) size lists
  so = all_so file bytes lists h.each h.rise

  pub formed_cut : CutFormed (ListMoves file bytes) size lists
  formed_cut = cut_formed (ListMoves file bytes) size lists so h.nested

  abbrev pub c : Cut
  c = cut_of lists

  abbrev pub j : ℕ
  j = extent_of (cut_of lists)

  pub led : IsLed c × (0 < j)
  led = first_led file bytes lists h.each h.some formed_cut.formed

  last : LastEnds file bytes j
  last =
      let same : 0 + j ≡ j = omega arith in
      subst (LastEnds file bytes) same (last_of_cut file bytes h.shut 0 c formed_cut.formed formed_cut.kept formed_cut.each led.1)

  pub close_short : j < size
  close_short = let p = passed _ toks j last.ends.1 in slice_get_within toks j p.0 p.1

  pub tree : Tree file bytes 0 c j
  tree = tree_of file bytes h.shut 0 j c formed_cut.formed formed_cut.kept formed_cut.each (omega arith) (λ k low high. absurd (omega (arith, low, high))) last.ends

  -- the three cuts
  pub bytes_cut : cut_of (byte_lists file bytes lists) ≡ widened B E 0 0 c
  bytes_cut = (cut_widens B E size (bytes_widen file bytes h.shut) (ListMoves file bytes) lists so h.nested).is

  pub chars_cut : character_cut (widened B E 0 0 c) bytes ≡ widened b e 0 0 c
  chars_cut =
      cut_weighed B E b e size (bytes_widen file bytes h.shut) (kept_weights bytes) (firsts_weigh file bytes h.shut) (byte_ends_weigh file bytes h.shut) c formed_cut.formed formed_cut.kept formed_cut.small

  pub tokens_cut : token_cut file (widened b e 0 0 c) bytes ≡ c
  tokens_cut =
      ap (weighed (widened b e 0 0 c)) (weights_file file bytes h.shut) ∙ chars_weighed file bytes h.shut c formed_cut.formed formed_cut.kept formed_cut.small

  bytes_extent : extent_of (widened B E 0 0 c) ≡ E j
  bytes_extent =
      let w = bytes_widen file bytes h.shut in
      let small = formed_cut.small in
      let is = extent_is B E size w 0 0 c formed_cut.formed formed_cut.kept led.1 (omega (arith, small)) (at_start B E size w) in
      let same : 0 + j ≡ j = omega arith in
      let ends = ap E same in
      omega (arith, is, ends)

  chars_extent : extent_of (widened b e 0 0 c) ≡ e j
  chars_extent =
      let w = chars_widen file bytes h.shut in
      let small = formed_cut.small in
      let is = extent_is b e size w 0 0 c formed_cut.formed formed_cut.kept led.1 (omega (arith, small)) (at_start b e size w) in
      let same : 0 + j ≡ j = omega arith in
      let ends = ap e same in
      omega (arith, is, ends)

  state_last : StateAt bytes (e j) behind_token
  state_last = state_behind file bytes h.shut (j - 1) j (let some = led.1 in omega (arith, some)) last.last

  bytes_within : E j < length bytes
  bytes_within =
      let t = token_bytes file bytes h.shut j close_short in
      let some = led.1 in
      let apart = (bytes_widen file bytes h.shut).apart j j some (omega arith) close_short in
      let is = t.first_is in
      let d = length-drop t.first.c.offset bytes in
      let l = ap length t.first.here in
      omega (arith, apart, is, d, l)

  start_state : StateAt bytes 0 (before true true)
  unfolding skip_behind gap_behind front_behind
  start_state = record { within = omega arith; whole = refl; gap = refl; front = refl }

  along : PartsAlong (before true true) (widened b e 0 0 c) (take (e j) (marks_of bytes)) (text (drop (e j) (marks_of bytes))) behind_token
  along =
      let w = chars_widen file bytes h.shut in
      let some = led.1 in
      let zero : e j - 0 ≡ e j = omega arith in
      let en : Entry file bytes h.shut 0 0 j (before true true) = record {
        from = from_state bytes 0 0 (before true true) start_state refl;
        index = refl;
        point = at_start b e size w;
        over = λ same. absurd (omega (arith, same, some));
      } in
      subst (λ (n : ℕ). PartsAlong (before true true) (widened b e 0 0 c) (take n (marks_of bytes)) (text (drop (e j) (marks_of bytes))) behind_token) zero
      (parts_of file bytes h.shut 0 0 j c (before true true) formed_cut.formed led.0 (omega arith) (omega (arith, close_short)) some en tree)

  seams : SeamsAlong (widened B E 0 0 c) (take (E j) bytes)
  seams =
      let w = bytes_widen file bytes h.shut in
      let some = led.1 in
      let zero : E j - 0 ≡ E j = omega arith in
      let s : Start file bytes h.shut 0 0 = record { whole = whole_start bytes; point = at_start B E size w } in
      subst (λ (n : ℕ). SeamsAlong (widened B E 0 0 c) (take n bytes)) zero
      (seams_of file bytes h.shut 0 0 j c formed_cut.formed led.0 (omega arith) (omega (arith, close_short)) some (omega (arith, bytes_within)) s (λ same. absurd (omega (arith, same, some))) tree)

  chars_long : length (marks_of bytes) ≡ length (chars_of bytes)
  chars_long = length-marks bytes 0 (logical_of bytes) ∙ sym (length-map (logical_of bytes) (λ (d : Character). d.byte))

  stop_last : begins_stop (text (drop (e j) (marks_of bytes))) ≡ true
  stop_last =
      ap begins_stop (text_drop file bytes h.shut (e j)) ∙ stop_behind file bytes h.shut j state_last led.1 (omega (arith, close_short)) last.ends.1

  may : MayMove (widened B E 0 0 c) bytes
  may = record {
    within = rw bytes_extent (omega (arith, bytes_within));
    seams = rw bytes_extent seams;
    more = rw bytes_extent (some_left (E j) bytes bytes_within);
    inside = rw (chars_cut, chars_extent, chars_long) state_last.within;
    end = behind_token;
    settles = rw (chars_cut, chars_extent) (parts_settle (before true true) (widened b e 0 0 c) (take (e j) (marks_of bytes)) (text (drop (e j) (marks_of bytes))) behind_token along);
    stop = rw (chars_cut, chars_extent) stop_last;
  }
    where
      some_left : (n : ℕ) (xs : List ℕ) → n < length xs → starts is_some_byte (drop n xs) ≡ true
      some_left n [] lt = absurd (omega (arith, lt))
      some_left zero (x ∷ xs) lt = refl
      some_left (suc n) (x ∷ xs) lt = some_left n xs (omega (arith, lt))

  pub file_moves : FileMoves file bytes lists
  file_moves = record {
    moves = subst (λ (d : Cut). MayMove d bytes) (sym bytes_cut) may;
    cut = ap (λ (d : Cut). cut_in file d bytes) bytes_cut ∙ ap (λ (d : Cut). token_cut file d bytes) chars_cut ∙ tokens_cut;
    nested = (cut_widens B E size (bytes_widen file bytes h.shut) (ListMoves file bytes) lists so h.nested).nested;
  }

pub files_may_move : FilesMayMove
files_may_move = file_moves
