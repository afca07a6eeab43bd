-- A list of a file holds no token of none of the other kinds in its lines, from that of its `(` to that of its `)`, where nothing
-- stands against a new order.
use Rattle.std.proofs.Common.{◌≡◌, ℕ, ◌+◌, ◌-◌, ◌<◌, true, false, List, [], ◌∷◌, ◌++◌, length, drop, map, Option, Some, Result, Ok, Err, inl, inr, refl, sym, ap, subst, ◌∙◌, arith}
use Rattle.std.specs.Prelude.{slice_get, slice_range}
use Rattle.std.specs.Option.{option_map_or, option_and_then}
use Rattle.std.proofs.lemmas.Option.{same_Some}
use Rattle.cs_base.specs.declared.positions.Part.{Part}
use Rattle.cs_base.specs.declared.positions.Pos.{Pos}
use Rattle.cs_base.specs.Token.{Token, origin_at}
use Rattle.cs_base.proofs.ListLemmas.{get_dropped, get_taken}
use Rattle.c_types.specs.declared.lists.List.{List as NameList}
use Rattle.macro_body.specs.Hides.{toks_of}
use Rattle.lexer.specs.FileText.{TextValue, LexFault, file_text}
use Rattle.lexer.specs.Places.{pos}
use Rattle.lexer.specs.Tokens.{tokens_of}
use Rattle.lexer.proofs.TextLemmas.{file_text-toks as text_toks}
use Rattle.source_files.specs.Files.{SourceFile, source_file, Source, Table}
use Rattle.source_files.specs.KeptFiles.{KeptValue, kept_at}
use Rattle.source_files.specs.Sources.{source_at, source_kept, read_as}
use Rattle.unit_laws.specs.UnitLinks.{IsIn}
use Rattle.ws_file.specs.Workspace.{WorkspaceValue}
use Rattle.analysis.specs.Analysis.{UnitAnalysis, AnalysisValue}
use Rattle.list_cuts.specs.declared.spans.Span.{Span}
use Rattle.list_cuts.specs.Spans.{end_of}
use Rattle.arranged_text_laws.specs.Lists.{is_line_among, place_of, begin_of, close_of}
use Rattle.arranged_text_laws.specs.Calm.{is_odd}
use Rattle.reordered_text_laws.specs.Marks.{first_of, last_after, last_of, spans_by, Each, AreOfList}
use Rattle.reordered_text_laws.specs.Trees.{IsAmong}
use Rattle.reordered_text_laws.proofs.Across.{last_is}
use Rattle.template_rules.specs.FileLists.{begun_before, all_found, lists_in}
use Rattle.template_rules.specs.Functions.{origin_of, names_function}
use Rattle.template_meaning.specs.Accepted.{IsAccepted}
use Rattle.template_meaning.specs.Clear.{ListIsClear}
use Rattle.template_meaning.proofs.Clear.{units_are_clear}
use Rattle.template_meaning.proofs.Parens.{in_split}
use Rattle.template_meaning.proofs.UnitLists.{index_of, in_filtered}
use Rattle.template_meaning.specs.Even.{IsEven, ListsAreEven}
use Rattle.template_meaning.specs.Places.{ListInFile, ListsHaveRuns}
use Rattle.template_meaning.specs.Units.{own_lists}
use Rattle.template_meaning.proofs.Counts.{kept_tokens_have}
use Rattle.template_meaning.proofs.FileMarks.{first_shift, last_shift, list_shift}
use Rattle.template_meaning.proofs.OddLines.{odd_apart}
use Rattle.template_meaning.proofs.RunsOf.{some_at, each_mark, within_limit}
use Rattle.template_meaning.proofs.Walks.{among_in}

-- ---- marks

-- the `(` stands in front of the first item, and the `)` behind the last
begin_spans : (limit : ℕ) (ms : List ℕ) → AreOfList limit ms → begin_of (spans_by ms) - 1 ≡ first_of ms
begin_spans limit [] w = absurd w
begin_spans limit (m ∷ []) w = absurd w
begin_spans limit (m ∷ k ∷ ms) w = omega arith

ends_so : (s : Span) (ms : List ℕ) → end_of s (spans_by (s.end ∷ ms)) ≡ last_after s.end ms
unfolding end_of
ends_so s [] = refl
ends_so s (k ∷ ms) = ends_so (record { begin = s.end + 1; end = k }) ms

close_spans : (limit : ℕ) (ms : List ℕ) → AreOfList limit ms → close_of (spans_by ms) ≡ last_of ms
close_spans limit [] w = absurd w
close_spans limit (m ∷ []) w = absurd w
close_spans limit (m ∷ k ∷ ms) w = ends_so (record { begin = m + 1; end = k }) ms

-- marks that hold the same tokens: the first and the last do
first_same : {X : Type 0} (f g : ℕ → X) (limit limit2 : ℕ) (s t : List ℕ) → AreOfList limit s → AreOfList limit2 t → map f s ≡ map g t → f (first_of s) ≡ g (first_of t)
first_same f g limit limit2 [] t w v e = absurd w
first_same f g limit limit2 (m ∷ s) [] w v e = absurd v
first_same f g limit limit2 (m ∷ s) (k ∷ t) w v e = cc

last_after_same : {X : Type 0} (f g : ℕ → X) (m k : ℕ) (s t : List ℕ) → f m ≡ g k → map f s ≡ map g t → f (last_after m s) ≡ g (last_after k t)
last_after_same f g m k [] [] e h = e
last_after_same f g m k [] (j ∷ t) e h = absurd (cc)
last_after_same f g m k (i ∷ s) [] e h = absurd (cc)
last_after_same f g m k (i ∷ s) (j ∷ t) e h =
    let here : f i ≡ g j = cc in
    let rest : map f s ≡ map g t = cc in
    last_after_same f g i j s t here rest

last_same : {X : Type 0} (f g : ℕ → X) (limit limit2 : ℕ) (s t : List ℕ) → AreOfList limit s → AreOfList limit2 t → map f s ≡ map g t → f (last_of s) ≡ g (last_of t)
last_same f g limit limit2 [] t w v e = absurd w
last_same f g limit limit2 (m ∷ s) [] w v e = absurd v
last_same f g limit limit2 (m ∷ s) (k ∷ t) w v e =
    let here : f m ≡ g k = cc in
    let rest : map f s ≡ map g t = cc in
    last_after_same f g m k s t here rest

-- the first stands before the limit
first_within : (limit : ℕ) (ms : List ℕ) → AreOfList limit ms → first_of ms < limit
first_within limit [] w = absurd w
first_within limit (m ∷ []) w = absurd w
first_within limit (m ∷ k ∷ ms) w =
    let le = (each_mark limit (m ∷ k ∷ ms) w).0.1 in
    let far = within_limit limit (m ∷ k ∷ ms) w in
    omega (arith, le, far)

-- ---- files

-- the tokens of a kept file
record IsFileOf (f : KeptValue) (file : SourceFile) : Type 0 where
  number : file.number ≡ f.number
  toks : file.text.toks ≡ tokens_of f.number f.bytes

file_of : (files : Table) (f : KeptValue) (file : SourceFile) → kept_at files f.number ≡ Some f → source_at files f.number ≡ Some file → IsFileOf f file
file_of files f file kept is = by (file_text f.number f.bytes) refl (ap (option_and_then source_kept) (sym kept) ∙ is)
  where
    by : (r : Result TextValue LexFault) → file_text f.number f.bytes ≡ r → read_as f.number f.path r ≡ Some file → IsFileOf f file
    by (Ok text) at e =
        let same : source_file f.number f.path text ≡ file = same_Some (source_file f.number f.path text) file e in
        record { number = ap (λ (x : SourceFile). x.number) (sym same); toks = ap (λ (x : SourceFile). x.text.toks) (sym same) ∙ text_toks f.number f.bytes text at }
    by (Err x) at e = absurd (cc)

-- a token of a run, in its file
in_file : (from to : ℕ) (xs run : List Token) (m : ℕ) (t : Token) → run ≡ slice_range xs from to → slice_get run m ≡ Some t → slice_get xs (from + m) ≡ Some t
in_file from to xs run m t is e = get_dropped from xs m t (get_taken (to - from) (drop from xs) m t (ap (λ (ts : List Token). slice_get ts m) (sym is) ∙ e))

-- ---- a list of a file

-- A mark of a list is a token of the file, and one of the unit, which comes from there.
record IsPlaced (file unit : List Token) (number m k : ℕ) : Type 0 where
  at : Pos
  place : place_of file m ≡ at.at
  origin : origin_of unit k ≡ Some at
  there : at.file ≡ number

module _ (a : AnalysisValue) (members : List Part) (file : SourceFile) (kept : source_at a.table file.number ≡ Some file) (t : List ℕ) (x : ListInFile a members file t) where
  mark_placed : (r o : ℕ) → r < length x.run → slice_get x.run r ≡ slice_get (toks_of x.e.toks) o → IsPlaced file.text.toks x.unit.text.toks file.number (x.it.from + r) (x.before + o)
  mark_placed r o lt same =
      let y = some_at x.run r lt in
      let there = in_file x.it.from x.it.to file.text.toks x.run r y.0 x.run_is y.1 in
      let has = kept_tokens_have a.table file.number file kept in
      record {
        at = pos file.number y.0.at.at;
        place = ap (λ (z : Option Token). option_map_or (λ (u : Token). u.at.at) z 0) there;
        origin = ap (option_and_then (λ (u : Token). origin_at u 0)) (x.toks o y.0 (sym same ∙ y.1)) ∙ has.origin (x.it.from + r) y.0 there;
        there = refl;
      }

  abbrev marks : List ℕ
  marks = map (begun_before file.text.toks) t

  begin_placed : IsPlaced file.text.toks x.unit.text.toks file.number (first_of marks) x.list.begin
  begin_placed =
      let out = toks_of x.e.toks in
      let same = first_same (slice_get x.run) (slice_get out) (length x.run) (length out) x.in_run x.in_out x.run_marks x.out_marks x.same in
      let one : x.it.from + first_of x.in_run ≡ first_of marks = sym (ap first_of x.file_marks ∙ first_shift (length x.run) x.it.from x.in_run x.run_marks) in
      let two_ : x.before + first_of x.in_out ≡ x.list.begin = sym (ap first_of x.unit_marks ∙ first_shift (length out) x.before x.in_out x.out_marks) in
      let p = mark_placed (first_of x.in_run) (first_of x.in_out) (first_within (length x.run) x.in_run x.run_marks) same in
      subst (λ (m : ℕ). IsPlaced file.text.toks x.unit.text.toks file.number m x.list.begin) one (subst (IsPlaced file.text.toks x.unit.text.toks file.number (x.it.from + first_of x.in_run)) two_ p)

  close_placed : IsPlaced file.text.toks x.unit.text.toks file.number (last_of marks) x.list.close
  close_placed =
      let out = toks_of x.e.toks in
      let same = last_same (slice_get x.run) (slice_get out) (length x.run) (length out) x.in_run x.in_out x.run_marks x.out_marks x.same in
      let one : x.it.from + last_of x.in_run ≡ last_of marks = sym (ap last_of x.file_marks ∙ last_shift (length x.run) x.it.from x.in_run x.run_marks) in
      let two_ : x.before + last_of x.in_out ≡ x.list.close =
      sym (ap last_of x.unit_marks ∙ last_shift (length out) x.before x.in_out x.out_marks) ∙ last_is x.list.begin x.list.commas x.list.close in
      let p = mark_placed (last_of x.in_run) (last_of x.in_out) (within_limit (length x.run) x.in_run x.run_marks) same in
      subst (λ (m : ℕ). IsPlaced file.text.toks x.unit.text.toks file.number m x.list.close) one (subst (IsPlaced file.text.toks x.unit.text.toks file.number (x.it.from + last_of x.in_run)) two_ p)

  marks_listed : AreOfList (x.it.from + length x.run) marks
  marks_listed = subst (AreOfList (x.it.from + length x.run)) (sym x.file_marks) (list_shift (length x.run) x.it.from (x.it.from + length x.run) x.in_run (omega arith) x.run_marks)

-- a list of the functions is clear
list_clear : (source : Source) (ws : WorkspaceValue) (a : AnalysisValue) (members : List Part) (order : List ℕ) → IsAccepted source ws a members order → (u : UnitAnalysis) → IsIn a.units u → (l : NameList)
    → IsAmong (own_lists members u) l → (n : ℕ) × ListIsClear a members u n l
list_clear source ws a members order h u i l own =
    let c = units_are_clear source ws a members order h u i in
    let parts = in_filtered (λ (m : NameList). names_function members u.text.toks u.bound.names m.name) l (u.bound.declarators ++ u.bound.calls) (among_in (own_lists members u) l own) in
    elim (in_split l u.bound.declarators u.bound.calls parts.0) [
      | inl d ↦ let k = c.declarators l (index_of l u.bound.declarators d) parts.1 in (_, k.list)
      | inr d ↦ let k = c.calls l (index_of l u.bound.calls d) parts.1 in (_, k.list)
    ]

-- the same of tokens that are given
abbrev pub IsEvenIn : List Token → List ℕ → List Span → Type 0
IsEvenIn toks bytes l = (k : ℕ) (u : Token) → slice_get toks k ≡ Some u → is_odd u.kind ≡ true
    → is_line_among bytes u.at.at (place_of toks (begin_of l - 1)) (place_of toks (close_of l)) ≡ false

-- No token that is of no other kind stands in the lines of a list of a kept file.
pub list_even : (source : Source) (ws : WorkspaceValue) (a : AnalysisValue) (members : List Part) (order : List ℕ) → IsAccepted source ws a members order
    → (f : KeptValue) (file : SourceFile) → kept_at a.table f.number ≡ Some f → source_at a.table file.number ≡ Some file → file.number ≡ f.number
    → (t : List ℕ) → ListInFile a members file t → IsEven f.number f.bytes (spans_by (map (begun_before (tokens_of f.number f.bytes)) t))
list_even source ws a members order h f file kept is number t x =
    let o = file_of a.table f file kept (ap (source_at a.table) (sym number) ∙ is) in
    let b = begin_placed a members file is t x in
    let e = close_placed a members file is t x in
    let c = list_clear source ws a members order h x.unit x.there x.list x.own in
    let clear = c.1 in
    let w = marks_listed a members file is t x in
    let apart = odd_apart a.table x.unit.text x.list f b.at e.at clear.odd clear.direct clear.one_run kept b.origin e.origin (b.there ∙ number) in
    subst (λ (toks : List Token). IsEvenIn toks f.bytes (spans_by (map (begun_before toks) t))) o.toks
    (λ k u at odd. ap (λ (m : ℕ). is_line_among f.bytes u.at.at m (place_of file.text.toks (close_of (spans_by (marks a members file is t x))))) (ap (place_of file.text.toks) (begin_spans (x.it.from + length x.run) (marks a members file is t x) w) ∙ b.place)
    ∙ ap (is_line_among f.bytes u.at.at b.at.at) (ap (place_of file.text.toks) (close_spans (x.it.from + length x.run) (marks a members file is t x) w) ∙ e.place)
    ∙ apart k u (ap (λ (toks : List Token). slice_get toks k) (sym o.toks) ∙ at) odd)

-- ---- all lists of a file

pub lists_are_even : ListsHaveRuns → ListsAreEven
lists_are_even runs source ws a members order h some typed f kept file is = each (lists_in (all_found members a) f.number) (λ t i. i)
  where
    o : IsFileOf f file
    o = file_of a.table f file kept is

    is_there : source_at a.table file.number ≡ Some file
    is_there = let same = o in ap (source_at a.table) same.number ∙ is

    each : (ts : List (List ℕ)) → ((t : List ℕ) → IsAmong ts t → IsAmong (lists_in (all_found members a) f.number) t)
        → Each (IsEven f.number f.bytes) (map spans_by (map (map (begun_before (tokens_of f.number f.bytes))) ts))
    each [] into = tt
    each (t ∷ ts) into =
        let same = o in
        let there : IsAmong (lists_in (all_found members a) file.number) t = subst (λ (n : ℕ). IsAmong (lists_in (all_found members a) n) t) (sym same.number) (into t (inl refl)) in
        let one = runs source ws a members order h some typed file is_there t there in
        (list_even source ws a members order h f file kept is_there same.number t one, each ts (λ u i. into u (inr i)))
