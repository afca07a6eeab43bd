-- The lists of a file have a cut, and in each run that a unit reached stand those that this cut has there.
use Rattle.std.proofs.Common.{◌≡◌, ℕ, zero, suc, ◌+◌, ◌-◌, ◌<◌, ◌≤◌, inl, inr, Bool, true, false, cond, List, [], ◌∷◌, ◌++◌, length, drop, map, Option, Some, refl, sym, ap, subst, ◌∙◌, arith, length-take, length-drop}
use Rattle.std.specs.Prelude.{slice_get, nat_lt, nat_eq, min, count_by}
use Rattle.std.specs.List.{flat_map}
use Rattle.std.proofs.lemmas.Bool.{false≢true, ltb-true, ltb-false, lt-ltb, eqb-true, eq-eqb}
use Rattle.std.proofs.lemmas.List.{length-map}
use Rattle.std.proofs.lemmas.List.Sums.{sum_by-cons}
use Rattle.std.proofs.lemmas.Option.{same_Some}
use Rattle.cs_base.specs.declared.positions.Part.{Part}
use Rattle.cs_base.specs.declared.positions.Pos.{Pos}
use Rattle.cs_base.specs.Token.{Token}
use Rattle.c_types.specs.declared.lists.List.{List as NameList}
use Rattle.tree_laws.proofs.Lookups.{In}
use Rattle.line_shape.specs.declared.items.Item.{Item}
use Rattle.macro_body.specs.Hides.{toks_of}
use Rattle.macro_body.specs.Notes as expansion
use Rattle.source_files.specs.Files.{SourceFile, Source}
use Rattle.source_files.specs.Sources.{source_at}
use Rattle.unit_laws.specs.UnitLinks.{IsIn as IsInList}
use Rattle.unit_steps.specs.State.{State}
use Rattle.ws_file.specs.Workspace.{WorkspaceValue}
use Rattle.analysis.specs.Analysis.{UnitAnalysis, AnalysisValue}
use Rattle.list_cuts.specs.Cuts.{Cut}
use Rattle.expansion_laws.specs.Arranging.{MarksStand, RunsHaveCuts}
use Rattle.reordered_text_laws.specs.MarkedCuts.{HasCut, IsBeside}
use Rattle.reordered_text_laws.specs.Marks.{marks_of, first_of, last_of, Each, AreOfList, StandBy, AreNested}
use Rattle.reordered_text_laws.proofs.MarkLemmas.{cut_lists, cut_nested, behind_last}
use Rattle.reordered_text_laws.proofs.OfLemmas.{nested_marks_have_cuts}
use Rattle.reordered_text_laws.proofs.TellLemmas.{marks_tell_cuts}
use Rattle.reordered_text_laws.specs.Runs.{AreSigned}
use Rattle.reordered_text_laws.specs.Trees.{IsAmong}
use Rattle.reordered_text_laws.proofs.PartMarks.{later_by, HasPart, part_marks, each_among, Rises, rises_of, same_lists, one_first}
use Rattle.unit_laws.specs.Files.{FileCuts, item_cut, items_at, IsRunIn, RunsMark}
use Rattle.unit_laws.specs.Reordered.{part_of}
use Rattle.unit_laws.specs.TokenRuns.{TokenRun}
use Rattle.line_shape.proofs.CoverLemmas.{Follow-items_of}
use Rattle.edited_unit_laws.specs.TokenRuns.{WorkspaceTokensAreOfRuns}
use Rattle.template_rules.specs.declared.file_lists.FoundList.{FoundList}
use Rattle.template_rules.specs.FileLists.{begun_before, characters_of, found_list, all_found, lists_in}
use Rattle.template_rules.specs.Lists.{separators}
use Rattle.template_meaning.specs.Accepted.{IsAccepted}
use Rattle.template_meaning.specs.Again.{ListsStandInEach}
use Rattle.template_meaning.proofs.UnitLists.{index_of}
use Rattle.template_meaning.specs.Files.{file_marks, file_cut, AreCutsOf, ListsAreInFiles, FilesHaveLists}
use Rattle.template_meaning.specs.Places.{ListInFile, ListsHaveRuns}
use Rattle.template_meaning.specs.Units.{own_lists, own_marks, run_cut, HavePrototypes, UnitHasLists, UnitsHaveLists}
use Rattle.template_meaning.proofs.Across.{run_of_token, across, signed_from}
use Rattle.template_meaning.proofs.FileMarks.{ends_from, one_behind, one_item, apart_items, first_shift, last_shift, list_shift, by_shift, stand_of, all_one, rises_shift}
use Rattle.template_meaning.proofs.FoundLists.{lists_are_in, found_of, is_found}
use Rattle.template_meaning.proofs.RunsOf.{char_of, RunAt, IsIn, InRun, in_order, whole_in, in_run, of_run, have, run_bound, out_bound, in_file, some_at, each_mark, within_limit, among_map, map_among, among_join, among_later, among_first}
use Rattle.template_meaning.proofs.Walks.{in_among, among_in, each_at, each_in}

-- ---- lists

rising_of : (limit : ℕ) (ms : List ℕ) → AreOfList limit ms → first_of ms < last_of ms
rising_of limit [] w = absurd w
rising_of limit (m ∷ []) w = absurd w
rising_of limit (m ∷ k ∷ ms) w =
    let both = each_mark limit (m ∷ k ∷ ms) w in
    let next = w.0.1.0 in
    let top = both.1.0.1 in
    omega (arith, next, top)

-- the first of marks that come of others
first_map : (g : ℕ → ℕ) (ms : List ℕ) (limit p : ℕ) (t : List ℕ) → AreOfList limit t → map g ms ≡ later_by p t → first_of (map g ms) ≡ g (first_of ms)
first_map g [] limit p [] w e = absurd w
first_map g [] limit p (m ∷ t) w e = absurd (cc)
first_map g (k ∷ ms) limit p t w e = refl

-- the same of marks that come of tokens
first_char : (g : Option Token → ℕ) (f : ℕ → Option Token) (limit : ℕ) (t : List ℕ) → AreOfList limit t → first_of (map g (map f t)) ≡ g (f (first_of t))
first_char g f limit [] w = absurd w
first_char g f limit (m ∷ t) w = refl

counted_less : {X : Type 0} (p q : X → Bool) (xs : List X) → ((x : X) → p x ≡ true → q x ≡ true) → count_by p xs ≤ count_by q xs
counted_less p q [] f = omega arith
counted_less {X = X} p q (x ∷ xs) f =
    let rest = counted_less p q xs f in
    let one = sum_by-cons (λ (y : X). cond (p y) 1 0) x xs in
    let two_ = sum_by-cons (λ (y : X). cond (q y) 1 0) x xs in
    let here = by (p x) (q x) (f x) in
    omega (arith, rest, one, two_, here)
  where
    by : (a b : Bool) → (a ≡ true → b ≡ true) → cond a 1 0 ≤ cond b 1 0
    by true true g = omega arith
    by true false g = absurd (false≢true (g refl))
    by false true g = omega arith
    by false false g = omega arith

begun_less : (toks : List Token) (x y : ℕ) → x ≤ y → begun_before toks x ≤ begun_before toks y
begun_less toks x y le = counted_less (λ (t : Token). nat_lt t.at.at x) (λ (t : Token). nat_lt t.at.at y) toks (λ t e. let lt = ltb-true t.at.at x e in lt-ltb t.at.at y (omega (arith, lt, le)))

module _ (cuts_law : RunsHaveCuts) (again : ListsStandInEach) (source : Source) (ws : WorkspaceValue) (a : AnalysisValue) (members : List Part) (order : List ℕ) (h : IsAccepted source ws a members order) (some : 0 < length order)
    (lists : (u : UnitAnalysis) → IsInList a.units u → UnitHasLists members order u) (tokens : (u : UnitAnalysis) → IsInList a.units u → (b : ℕ) → b < length u.text.toks → TokenRun a.table u.text b) where
  -- A list that is found stands in a run, with these marks there.
  record Standing (f : FoundList) : Type 0 where
    unit : UnitAnalysis
    there : IsInList a.units unit
    list : NameList
    own : IsAmong (own_lists members unit) list
    run : RunAt a.table members unit
    here : IsIn a.table members unit run list
    marks : List ℕ
    in_it : InRun a.table members unit run list marks
    file_is : run.file.number ≡ f.file
    chars : f.marks ≡ flat_map (characters_of run.file.number unit.text.toks) (separators list)

  standing : (f : FoundList) → IsAmong (all_found members a) f → Standing f
  standing f i =
      let x = found_of members a f i in
      let u = x.unit in
      let there = index_of u a.units (among_in a.units u x.there) in
      let l = x.list in
      let o = in_order a.table members order some u (lists u there) l x.own in
      let name = o.name in
      let close = o.close in
      let far = o.within in
      let r = run_of_token cuts_law again source ws a members order h some lists tokens u there l.begin (omega (arith, close, far)) in
      let here = whole_in a.table members order some u (lists u there) r.run l x.own l.begin (omega (arith, name)) (omega (arith, close)) r.low r.high in
      let t = in_run a.table members order some u (lists u there) r.run l x.own here in
      let k = t.1 in
      let at = k.origin in
      let same : x.at ≡ at.0 = same_Some x.at at.0 (sym x.origin ∙ at.1) in
      let file : x.at.file ≡ r.run.file.number = ap (λ (p : Pos). p.file) same ∙ at.2 in
      record {
        unit = u;
        there = there;
        list = l;
        own = x.own;
        run = r.run;
        here = here;
        marks = t.0;
        in_it = k;
        file_is = sym file ∙ sym x.file_is;
        chars = x.marks_are ∙ ap (λ (n : ℕ). flat_map (characters_of n u.text.toks) (separators l)) file;
      }

  -- its marks by the numbers of tokens
  module _ (f : FoundList) (S : Standing f) where
    abbrev R : RunAt a.table members S.unit
    R = S.run

    listed : AreOfList (length S.run.run) S.marks
    listed =
        let k = S.in_it in
        let m = have a.table members order some S.unit (lists S.unit S.there) S.run in
        each_among (AreOfList (length S.run.run)) (marks_of 0 S.run.cut) S.marks (cut_lists 0 0 (length S.run.run) S.run.cut m.run_marked) k.among

    toks_so : map (begun_before S.run.file.text.toks) f.marks ≡ later_by S.run.it.from S.marks
    toks_so = let k = S.in_it in ap (map (begun_before S.run.file.text.toks)) S.chars ∙ k.tokens

    long : length S.run.run ≡ min (S.run.it.to - S.run.it.from) (length S.run.file.text.toks - S.run.it.from)
    long =
        ap length S.run.run_is ∙ length-take (S.run.it.to - S.run.it.from) (drop S.run.it.from S.run.file.text.toks)
        ∙ ap (min (S.run.it.to - S.run.it.from)) (length-drop S.run.it.from S.run.file.text.toks)

    record Bounds : Type 0 where
      low : S.run.it.from ≤ first_of (map (begun_before S.run.file.text.toks) f.marks)
      rises : first_of (map (begun_before S.run.file.text.toks) f.marks) < last_of (map (begun_before S.run.file.text.toks) f.marks)
      high : last_of (map (begun_before S.run.file.text.toks) f.marks) < S.run.it.to
      of_list : AreOfList (length S.run.file.text.toks) (map (begun_before S.run.file.text.toks) f.marks)

    bounds : Bounds
    bounds =
        let one = ap first_of toks_so ∙ first_shift (length S.run.run) S.run.it.from S.marks listed in
        let two_ = ap last_of toks_so ∙ last_shift (length S.run.run) S.run.it.from S.marks listed in
        let rise = rising_of (length S.run.run) S.marks listed in
        let far = within_limit (length S.run.run) S.marks listed in
        let size = long in
        record {
          low = omega (arith, one);
          rises = omega (arith, one, two_, rise);
          high = omega (arith, two_, far, size);
          of_list = subst (AreOfList (length S.run.file.text.toks)) (sym toks_so) (list_shift (length S.run.run) S.run.it.from (length S.run.file.text.toks) S.marks (omega (arith, far, size)) listed);
        }

    first_is : first_of (map (begun_before S.run.file.text.toks) f.marks) ≡ begun_before S.run.file.text.toks (first_of f.marks)
    first_is = first_map (begun_before S.run.file.text.toks) f.marks (length S.run.run) S.run.it.from S.marks listed toks_so

    -- the character at which the list begins is that of its token
    first_at : (t : Token) × (slice_get S.run.file.text.toks (first_of (map (begun_before S.run.file.text.toks) f.marks)) ≡ Some t) × (first_of f.marks ≡ t.at.at)
    first_at =
        let k = S.in_it in
        let bound = run_bound a.table members order some S.unit (lists S.unit S.there) S.run S.marks k.among in
        let x = some_at S.run.run (first_of S.marks) (head S.marks listed bound) in
        let there = in_file a.table members order some S.unit (lists S.unit S.there) S.run (first_of S.marks) x.0 x.1 in
        let place = ap first_of toks_so ∙ first_shift (length S.run.run) S.run.it.from S.marks listed in (
          x.0,
          ap (slice_get S.run.file.text.toks) place ∙ there,
          ap first_of (S.chars ∙ k.chars) ∙ first_char char_of (slice_get S.run.run) (length S.run.run) S.marks listed ∙ ap char_of x.1,
        )
      where
        head : (t : List ℕ) → AreOfList (length S.run.run) t → Each (λ m. m < length S.run.run) t → first_of t < length S.run.run
        head [] w b = absurd w
        head (m ∷ t) w b = b.0

  same_file : (f g : SourceFile) → source_at a.table f.number ≡ Some f → source_at a.table g.number ≡ Some g → f.number ≡ g.number → f ≡ g
  same_file f g e k n = same_Some f g (sym e ∙ ap (source_at a.table) n ∙ k)

  -- ---- a list in the run of another one

  -- the list of f in the run R, which is that of the same item
  record There (f : FoundList) (v : UnitAnalysis) (R : RunAt a.table members v) : Type 0 where
    marks : List ℕ
    among : IsAmong (marks_of 0 R.cut) marks
    toks : map (begun_before R.file.text.toks) f.marks ≡ later_by R.it.from marks
    chars : f.marks ≡ map char_of (map (slice_get R.run) marks)

  there_too : (f : FoundList) (S : Standing f) (v : UnitAnalysis) (j : IsInList a.units v) (R : RunAt a.table members v) → R.file.number ≡ S.run.file.number → R.k ≡ S.run.k → There f v R
  there_too f S v j R n k =
      let A = across cuts_law again source ws a members order h some lists tokens S.unit S.there S.list S.own S.run S.here S.marks S.in_it v j R n k in
      let i = A.in_it in
      let all : f.marks ≡ flat_map (characters_of R.file.number v.text.toks) (separators A.list) =
      S.chars ∙ ap (λ (m : ℕ). flat_map (characters_of m S.unit.text.toks) (separators S.list)) (sym n) ∙ A.chars R.file.number in
      record { marks = A.marks; among = i.among; toks = ap (map (begun_before R.file.text.toks)) all ∙ i.tokens; chars = all ∙ i.chars }

  cut_rises : (v : UnitAnalysis) (j : IsInList a.units v) (R : RunAt a.table members v) → Rises (marks_of 0 R.cut)
  cut_rises v j R =
      let m = have a.table members order some v (lists v j) R in
      rises_of (length R.run) (marks_of 0 R.cut) (cut_lists 0 0 (length R.run) R.cut m.run_marked) (cut_nested 0 0 (length R.run) R.cut m.run_marked)

  run_listed : (v : UnitAnalysis) (j : IsInList a.units v) (R : RunAt a.table members v) (t : List ℕ) → IsAmong (marks_of 0 R.cut) t → AreOfList (length R.run) t
  run_listed v j R t i = let m = have a.table members order some v (lists v j) R in each_among (AreOfList (length R.run)) (marks_of 0 R.cut) t (cut_lists 0 0 (length R.run) R.cut m.run_marked) i

  -- two lists that begin at one character are one
  one_found : (f g : FoundList) (S : Standing f) (Q : Standing g) → S.run.file.number ≡ Q.run.file.number → first_of f.marks ≡ first_of g.marks → f.marks ≡ g.marks
  one_found f g S Q n e =
      let file = same_file S.run.file Q.run.file S.run.kept Q.run.kept n in
      let b = bounds f S in
      let c = bounds g Q in
      let index : first_of (map (begun_before S.run.file.text.toks) f.marks) ≡ first_of (map (begun_before Q.run.file.text.toks) g.marks) =
      first_is f S ∙ ap (begun_before S.run.file.text.toks) e ∙ ap (λ (x : SourceFile). begun_before x.text.toks (first_of g.marks)) file ∙ sym (first_is g Q) in
      let bl = b.low in
      let br = b.rises in
      let bh = b.high in
      let cl = c.low in
      let cr = c.rises in
      let ch = c.high in
      let k : S.run.k ≡ Q.run.k = one_item S.run.file S.run.k Q.run.k S.run.it Q.run.it (first_of (map (begun_before S.run.file.text.toks) f.marks)) S.run.item
      (ap (λ (x : SourceFile). slice_get (items_at x.text) Q.run.k) file ∙ Q.run.item) bl (omega (arith, br, bh)) (omega (arith, index, cl)) (omega (arith, index, cr, ch)) in
      let t = there_too f S Q.unit Q.there Q.run (sym n) (sym k) in
      let q = Q.in_it in
      let w = run_listed Q.unit Q.there Q.run t.marks t.among in
      let one = ap first_of t.toks ∙ first_shift (length Q.run.run) Q.run.it.from t.marks w in
      let two_ = ap first_of (toks_so g Q) ∙ first_shift (length Q.run.run) Q.run.it.from Q.marks (listed g Q) in
      let index2 : first_of (map (begun_before Q.run.file.text.toks) f.marks) ≡ first_of (map (begun_before Q.run.file.text.toks) g.marks) = ap (λ (x : SourceFile). first_of (map (begun_before x.text.toks) f.marks)) (sym file) ∙ index in
      let same = one_first (marks_of 0 Q.run.cut) (cut_rises Q.unit Q.there Q.run) t.marks Q.marks t.among q.among (omega (arith, one, two_, index2)) in
      t.chars ∙ ap (λ (m : List ℕ). map char_of (map (slice_get Q.run.run) m)) same ∙ sym (Q.chars ∙ q.chars)

  -- ---- the lists of a file

  -- what is found in the file is among its lists
  found_among : (number : ℕ) (f : FoundList) → IsAmong (all_found members a) f → f.file ≡ number → IsAmong (lists_in (all_found members a) number) f.marks
  found_among number f i e =
      let L = lists_are_in (all_found members a) number in
      let t = L.begins f i e in
      let g = L.found_so t.0 t.1 in
      let S = standing f i in
      let Q = standing g.0 g.1 in
      let n : S.run.file.number ≡ Q.run.file.number = S.file_is ∙ e ∙ sym g.2 ∙ sym Q.file_is in
      let first : first_of f.marks ≡ first_of g.0.marks = sym t.2 ∙ ap first_of (sym g.3) in
      let same = one_found f g.0 S Q n first in
      subst (IsAmong (lists_in (all_found members a) number)) (sym g.3 ∙ sym same) t.1

  module _ (file : SourceFile) (kept : source_at a.table file.number ≡ Some file) where
    abbrev L : List (List ℕ)
    L = lists_in (all_found members a) file.number

    abbrev T : List ℕ → List ℕ
    T t = map (begun_before file.text.toks) t

    -- a list of the file
    record OfFile (t : List ℕ) : Type 0 where
      found : FoundList
      marks_are : found.marks ≡ t
      stands : Standing found
      file_is : stands.run.file ≡ file

    of_file : (t : List ℕ) → IsAmong L t → OfFile t
    of_file t i =
        let l = lists_are_in (all_found members a) file.number in
        let g = l.found_so t i in
        let S = standing g.0 g.1 in
        record { found = g.0; marks_are = g.3; stands = S; file_is = same_file S.run.file file S.run.kept kept (S.file_is ∙ g.2) }

    record Placed (t : List ℕ) (o : OfFile t) : Type 0 where
      item : slice_get (items_at file.text) o.stands.run.k ≡ Some o.stands.run.it
      low : o.stands.run.it.from ≤ first_of (T t)
      rises : first_of (T t) < last_of (T t)
      high : last_of (T t) < o.stands.run.it.to
      of_list : AreOfList (length file.text.toks) (T t)
      begins : first_of (T t) ≡ begun_before file.text.toks (first_of t)
      at : (x : Token) × (slice_get file.text.toks (first_of (T t)) ≡ Some x) × (first_of t ≡ x.at.at)

    placed : (t : List ℕ) (o : OfFile t) → Placed t o
    placed t o =
        let f = o.found in
        let S = o.stands in
        let b = bounds f S in
        let same : map (begun_before S.run.file.text.toks) f.marks ≡ T t = ap (λ (x : SourceFile). map (begun_before x.text.toks) f.marks) o.file_is ∙ ap T o.marks_are in
        let begin_ = first_is f S in
        let at_ = first_at f S in
        let bl = b.low in
        let br = b.rises in
        let bh = b.high in
        record {
          item = ap (λ (x : SourceFile). slice_get (items_at x.text) S.run.k) (sym o.file_is) ∙ S.run.item;
          low = subst (λ (l : List ℕ). S.run.it.from ≤ first_of l) same bl;
          rises = subst (λ (l : List ℕ). first_of l < last_of l) same br;
          high = subst (λ (l : List ℕ). last_of l < S.run.it.to) same bh;
          of_list = subst (λ (x : SourceFile). AreOfList (length x.text.toks) (T t)) o.file_is (subst (AreOfList (length S.run.file.text.toks)) same b.of_list);
          begins = ap first_of (sym same) ∙ begin_ ∙ ap (λ (x : SourceFile). begun_before x.text.toks (first_of f.marks)) o.file_is ∙ ap (λ (l : List ℕ). begun_before file.text.toks (first_of l)) o.marks_are;
          at = (at_.0, ap (λ (x : SourceFile). slice_get x.text.toks (first_of (T t))) (sym o.file_is) ∙ ap (λ (l : List ℕ). slice_get S.run.file.text.toks (first_of l)) (sym same) ∙ at_.1, ap first_of (sym o.marks_are) ∙ at_.2);
        }

    -- it stands in any run of its item
    in_this : (t : List ℕ) (o : OfFile t) (v : UnitAnalysis) (j : IsInList a.units v) (R : RunAt a.table members v) → R.file ≡ file → R.k ≡ o.stands.run.k
        → (d : List ℕ) × IsAmong (marks_of 0 R.cut) d × (T t ≡ later_by R.it.from d)
    in_this t o v j R e k =
        let n : R.file.number ≡ o.stands.run.file.number = ap (λ (x : SourceFile). x.number) (e ∙ sym o.file_is) in
        let x = there_too o.found o.stands v j R n k in
        (x.marks, x.among, ap T (sym o.marks_are) ∙ ap (λ (y : SourceFile). map (begun_before y.text.toks) o.found.marks) (sym e) ∙ x.toks)

    -- a list in front of another one, or around it
    stands_by : (s t : List ℕ) → IsAmong L s → IsAmong L t → first_of s < first_of t → StandBy (T s) (T t)
    stands_by s t i j lt =
        let o = of_file s i in
        let q = of_file t j in
        let p = placed s o in
        let r = placed t q in
        let pb = p.begins in
        let rb = r.begins in
        let less = begun_less file.text.toks (first_of s) (first_of t) (omega (arith, lt)) in
        let before_ : first_of (T s) < first_of (T t) = differs (first_of (T s)) (first_of (T t)) (omega (arith, pb, rb, less)) (other p r) in
        by o q p r before_ (nat_eq o.stands.run.k q.stands.run.k) refl
      where
        differs : (m n : ℕ) → m ≤ n → (m ≡ n → ⊥) → m < n
        differs m n le apart = split (nat_lt m n) refl
          where
            split : (b : Bool) → nat_lt m n ≡ b → m < n
            split true e = ltb-true m n e
            split false e = let ge = ltb-false m n e in absurd (apart (omega (arith, ge, le)))

        other : {o : OfFile s} {q : OfFile t} → Placed s o → Placed t q → first_of (T s) ≡ first_of (T t) → ⊥
        other p r e =
            let x = p.at in
            let y = r.at in
            let same : x.0 ≡ y.0 = same_Some x.0 y.0 (sym x.1 ∙ ap (slice_get file.text.toks) e ∙ y.1) in
            let place : first_of s ≡ first_of t = x.2 ∙ ap (λ (z : Token). z.at.at) same ∙ sym y.2 in
            omega (arith, place, lt)

        by : (o : OfFile s) (q : OfFile t) → Placed s o → Placed t q → first_of (T s) < first_of (T t) → (b : Bool) → nat_eq o.stands.run.k q.stands.run.k ≡ b → StandBy (T s) (T t)
        by o q p r before_ true e =
            let k : o.stands.run.k ≡ q.stands.run.k = eqb-true o.stands.run.k q.stands.run.k e in
            let R = q.stands.run in
            let d = in_this s o q.stands.unit q.stands.there R q.file_is (sym k) in
            let c = in_this t q q.stands.unit q.stands.there R q.file_is refl in
            let wd = run_listed q.stands.unit q.stands.there R d.0 d.1 in
            let wc = run_listed q.stands.unit q.stands.there R c.0 c.1 in
            let one = ap first_of d.2 ∙ first_shift (length R.run) R.it.from d.0 wd in
            let two_ = ap first_of c.2 ∙ first_shift (length R.run) R.it.from c.0 wc in
            let m = have a.table members order some q.stands.unit (lists q.stands.unit q.stands.there) R in
            let stand_ = stand_of (marks_of 0 R.cut) (cut_nested 0 0 (length R.run) R.cut m.run_marked) (cut_rises q.stands.unit q.stands.there R) d.0 c.0 d.1 c.1 (omega (arith, one, two_, before_)) in
            subst (λ (l : List ℕ). StandBy l (T t)) (sym d.2) (subst (StandBy (later_by R.it.from d.0)) (sym c.2) (by_shift R.it.from d.0 c.0 (length R.run) wc stand_))
        by o q p r before_ false e =
            let pl = p.low in
            let pr = p.rises in
            let ph = p.high in
            let rl = r.low in
            let rr = r.rises in
            let rh = r.high in
            let le = apart_items file o.stands.run.k q.stands.run.k o.stands.run.it q.stands.run.it (first_of (T s)) (first_of (T t)) p.item r.item (λ k. false≢true (sym e ∙ eq-eqb o.stands.run.k q.stands.run.k k)) pl (omega (arith, pr, ph)) rl (omega (arith, rr, rh)) before_ in
            behind_last (T s) (T t) pr (omega (arith, ph, le, rl))

    nested_some : (ls : List (List ℕ)) → ((t : List ℕ) → IsAmong ls t → IsAmong L t) → Rises ls → AreNested (map T ls)
    nested_some [] into r = tt
    nested_some (s ∷ ls) into r = (each ls (λ t i. into t (inr i)) r.0, nested_some ls (λ t i. into t (inr i)) r.1)
      where
        each : (ts : List (List ℕ)) → ((t : List ℕ) → IsAmong ts t → IsAmong L t) → Each (λ m. first_of s < first_of m) ts → Each (StandBy (T s)) (map T ts)
        each [] f x = tt
        each (t ∷ ts) f x = (stands_by s t (into s (inl refl)) (f t (inl refl)) x.0, each ts (λ u i. f u (inr i)) x.1)

    listed_all : (ls : List (List ℕ)) → ((t : List ℕ) → IsAmong ls t → IsAmong L t) → Each (AreOfList (length file.text.toks)) (map T ls)
    listed_all [] into = tt
    listed_all (t ∷ ls) into = (let o = of_file t (into t (inl refl)) in let p = placed t o in p.of_list, listed_all ls (λ u i. into u (inr i)))

    has_cut : HasCut (length file.text.toks) (file_marks members a file.number file.text.toks)
    has_cut =
        let l = lists_are_in (all_found members a) file.number in
        nested_marks_have_cuts (length file.text.toks) (map T L) (listed_all L (λ t i. i)) (nested_some L (λ t i. i) l.rises)

  -- ---- where a list stands

  in_file_so : (f : FoundList) (S : Standing f) → ListInFile a members S.run.file f.marks
  in_file_so f S =
      let R = S.run in
      let k = S.in_it in
      let m = have a.table members order some S.unit (lists S.unit S.there) R in
      let has_ = lists S.unit S.there in
      let bound = out_bound a.table members order some S.unit (lists S.unit S.there) R k.put_out k.put_among in
      let own_signed : AreSigned S.unit.text.toks (separators S.list) = each_at (AreSigned S.unit.text.toks) (own_marks members S.unit) (separators S.list) has_.signed (map_among separators (own_lists members S.unit) S.list S.own) in
      let signed_ : AreSigned R.out k.put_out = signed_from R.out S.unit.text.toks R.before k.put_out R.toks bound (subst (AreSigned S.unit.text.toks) k.unit_marks own_signed) in
      let out_list : AreOfList (length R.out) k.put_out = each_among (AreOfList (length R.out)) (marks_of 0 (part_of (run_cut members S.unit) R.before R.count)) k.put_out
      (cut_lists 0 0 (length R.out) (part_of (run_cut members S.unit) R.before R.count) m.out_marked) k.put_among in
      record {
        unit = S.unit;
        there = S.there;
        list = S.list;
        own = S.own;
        k = R.k;
        it = R.it;
        run = R.run;
        s = R.s;
        e = R.e;
        before = R.before;
        item = R.item;
        is_run = R.is_run;
        run_is = R.run_is;
        expands = R.expands;
        toks = λ n x e. R.toks n x (ap (λ (ts : List Token). slice_get ts n) R.out_is ∙ e);
        in_run = S.marks;
        in_out = k.put_out;
        run_marks = listed f S;
        out_marks = subst (λ (ts : List Token). AreOfList (length ts) k.put_out) R.out_is out_list;
        same = k.same ∙ ap (λ (ts : List Token). map (slice_get ts) k.put_out) R.out_is;
        signed = subst (λ (ts : List Token). AreSigned ts k.put_out) R.out_is signed_;
        chars = S.chars ∙ k.chars;
        file_marks = toks_so f S;
        unit_marks = k.unit_marks;
      }

  list_in_file : (file : SourceFile) → source_at a.table file.number ≡ Some file → (t : List ℕ) → IsAmong (lists_in (all_found members a) file.number) t → ListInFile a members file t
  list_in_file file kept t i =
      let o = of_file file kept t i in
      subst (λ (f : SourceFile). ListInFile a members f t) o.file_is (subst (ListInFile a members o.stands.run.file) o.marks_are (in_file_so o.found o.stands))

  -- a list of a file stands in one that is kept
  file_of_list : (number : ℕ) (t : List ℕ) → IsAmong (lists_in (all_found members a) number) t → (file : SourceFile) × (source_at a.table number ≡ Some file) × (file.number ≡ number)
  file_of_list number t i =
      let l = lists_are_in (all_found members a) number in
      let g = l.found_so t i in
      let S = standing g.0 g.1 in
      let same : S.run.file.number ≡ number = S.file_is ∙ g.2 in
      (S.run.file, ap (source_at a.table) (sym same) ∙ S.run.kept, same)

  -- ---- runs

  run_in : (v : UnitAnalysis) → IsInList a.units v → (file : SourceFile) (k : ℕ) (it : Item) (run : List Token) (s : State) (e : expansion.Expanded) (cut : Cut) → IsRunIn a.table (run_cut members v) v.text file k it run s e cut → RunAt a.table members v
  run_in v j file k it run s e cut r = record {
    file = file;
    k = k;
    it = it;
    run = run;
    out = toks_of e.toks;
    before = s.before;
    count = length e.toks;
    cut = cut;
    s = s;
    e = e;
    kept = r.kept;
    item = r.item;
    is_run = r.is_run;
    expands = r.expands;
    out_is = refl;
    run_is = r.run_is;
    reached = r.reached;
    long = length-map e.toks (λ x. x.tok);
    toks = r.toks;
    begins = r.begins;
    ends = r.ends;
    marks = r.marks;
  }

  module _ (v : UnitAnalysis) (j : IsInList a.units v) (R : RunAt a.table members v) where
    abbrev F : SourceFile
    F = R.file

    abbrev M : List (List ℕ)
    M = file_marks members a F.number F.text.toks

    abbrev C : Cut
    C = file_cut members a F.number F.text.toks

    cut_of_file : HasCut (length F.text.toks) M
    cut_of_file = has_cut F R.kept

    -- a list of the file stands in the item, or beside it
    record Side (t : List ℕ) : Type 0 where
      from : IsBeside R.it.from t
      to : IsBeside (R.it.from + (R.it.to - R.it.from)) t

    side : (t : List ℕ) → IsAmong M t → Side t
    side t i =
        let m = among_map (λ (l : List ℕ). map (begun_before F.text.toks) l) (lists_in (all_found members a) F.number) t i in
        let o = of_file F R.kept m.0 m.1 in
        let p = placed F R.kept m.0 o in
        let pl = p.low in
        let pr = p.rises in
        let ph = p.high in
        let w = ends_from 0 (length F.text.toks) (items_at F.text) (Follow-items_of F.text.toks F.text.firsts) R.k R.it R.item in
        let whole = w.1 in
        subst Side m.2 (by m.0 o p (nat_lt o.stands.run.k R.k) refl (nat_lt R.k o.stands.run.k) refl pl pr ph whole)
      where
        by : (s : List ℕ) (o : OfFile F R.kept s) → Placed F R.kept s o → (b : Bool) → nat_lt o.stands.run.k R.k ≡ b → (d : Bool) → nat_lt R.k o.stands.run.k ≡ d → o.stands.run.it.from ≤ first_of (map (begun_before F.text.toks) s)
            → first_of (map (begun_before F.text.toks) s) < last_of (map (begun_before F.text.toks) s) → last_of (map (begun_before F.text.toks) s) < o.stands.run.it.to → R.it.from ≤ R.it.to → Side (map (begun_before F.text.toks) s)
        by s o p true e d f pl pr ph whole =
            let le = one_behind 0 (length F.text.toks) (items_at F.text) (Follow-items_of F.text.toks F.text.firsts) o.stands.run.k R.k o.stands.run.it R.it (ltb-true o.stands.run.k R.k e) p.item R.item in
            record { from = inl (omega (arith, ph, le)); to = inl (omega (arith, ph, le, whole)) }
        by s o p false e true f pl pr ph whole =
            let le = one_behind 0 (length F.text.toks) (items_at F.text) (Follow-items_of F.text.toks F.text.firsts) R.k o.stands.run.k R.it o.stands.run.it (ltb-true R.k o.stands.run.k f) R.item p.item in
            record { from = inr (omega (arith, pl, le, whole)); to = inr (omega (arith, pl, le, whole)) }
        by s o p false e false f pl pr ph whole =
            let ge = ltb-false o.stands.run.k R.k e in
            let ge2 = ltb-false R.k o.stands.run.k f in
            let k : o.stands.run.k ≡ R.k = omega (arith, ge, ge2) in
            let it : o.stands.run.it ≡ R.it = same_Some o.stands.run.it R.it (sym p.item ∙ ap (slice_get (items_at F.text)) k ∙ R.item) in
            let a_ = ap (λ (x : Item). x.from) it in
            let b_ = ap (λ (x : Item). x.to) it in
            record { from = inr (omega (arith, pl, a_)); to = inl (omega (arith, ph, b_, whole)) }

    part_of_file : HasPart (length F.text.toks) R.it.from (R.it.to - R.it.from) C
    part_of_file =
        let k = cut_of_file in
        part_marks (length F.text.toks) R.it.from (R.it.to - R.it.from) C k.marked
        (subst (λ (ls : List (List ℕ)). Each (IsBeside R.it.from) ls) (sym k.marks) (each_in (IsBeside R.it.from) M (λ t w. let x = side t (in_among M t w) in x.from)))
        (subst (λ (ls : List (List ℕ)). Each (IsBeside (R.it.from + (R.it.to - R.it.from))) ls) (sym k.marks) (each_in (IsBeside (R.it.from + (R.it.to - R.it.from))) M (λ t w. let x = side t (in_among M t w) in x.to)))

    abbrev P : Cut
    P = part_of C R.it.from (R.it.to - R.it.from)

    part_listed : (d : List ℕ) → IsAmong (marks_of 0 P) d → AreOfList (R.it.to - R.it.from) d
    part_listed d i = let q = part_of_file in each_among (AreOfList (R.it.to - R.it.from)) (marks_of 0 P) d (cut_lists 0 0 (R.it.to - R.it.from) P q.marked) i

    -- what the file has in the run, the unit has
    to_run : (t : List ℕ) → IsAmong (map (later_by R.it.from) (marks_of 0 P)) t → IsAmong (map (later_by R.it.from) (marks_of 0 R.cut)) t
    to_run t i =
        let q = part_of_file in
        let k = cut_of_file in
        let d = among_map (later_by R.it.from) (marks_of 0 P) t i in
        let w = part_listed d.0 d.1 in
        let there : IsAmong M t = subst (λ (ls : List (List ℕ)). IsAmong ls t) (sym q.marks ∙ k.marks)
        (among_later q.first (map (later_by R.it.from) (marks_of 0 P) ++ q.last) t (among_first (map (later_by R.it.from) (marks_of 0 P)) q.last t i)) in
        let m = among_map (λ (l : List ℕ). map (begun_before F.text.toks) l) (lists_in (all_found members a) F.number) t there in
        let o = of_file F R.kept m.0 m.1 in
        let p = placed F R.kept m.0 o in
        let pl = p.low in
        let pr = p.rises in
        let ph = p.high in
        let one : first_of (map (begun_before F.text.toks) m.0) ≡ R.it.from + first_of d.0 = ap first_of (m.2 ∙ sym d.2) ∙ first_shift (R.it.to - R.it.from) R.it.from d.0 w in
        let rise = rising_of (R.it.to - R.it.from) d.0 w in
        let far = within_limit (R.it.to - R.it.from) d.0 w in
        let same : o.stands.run.k ≡ R.k = one_item F o.stands.run.k R.k o.stands.run.it R.it (first_of (map (begun_before F.text.toks) m.0)) p.item R.item pl (omega (arith, pr, ph)) (omega (arith, one)) (omega (arith, one, rise, far)) in
        let x = in_this F R.kept m.0 o v j R refl (sym same) in
        subst (IsAmong (map (later_by R.it.from) (marks_of 0 R.cut))) (sym x.2 ∙ m.2) (map_among (later_by R.it.from) (marks_of 0 R.cut) x.0 x.1)

    -- and what the unit has there, the file has
    from_run : (t : List ℕ) → IsAmong (map (later_by R.it.from) (marks_of 0 R.cut)) t → IsAmong (map (later_by R.it.from) (marks_of 0 P)) t
    from_run t i =
        let q = part_of_file in
        let k = cut_of_file in
        let d = among_map (later_by R.it.from) (marks_of 0 R.cut) t i in
        let w = run_listed v j R d.0 d.1 in
        let l = of_run a.table members order some v (lists v j) R d.0 d.1 in
        let in_it = l.2 in
        let at = in_it.origin in
        let f : FoundList = found_list at.0.file (flat_map (characters_of at.0.file v.text.toks) (separators l.0)) in
        let found = is_found members a v l.0 at.0 (in_among a.units v (in_units a.units j.0 v j.1)) l.1 at.1 in
        let among = found_among F.number f found at.2 in
        let chars : flat_map (characters_of at.0.file v.text.toks) (separators l.0) ≡ flat_map (characters_of F.number v.text.toks) (separators l.0) = ap (λ (n : ℕ). flat_map (characters_of n v.text.toks) (separators l.0)) at.2 in
        let toks : map (begun_before F.text.toks) f.marks ≡ t = ap (map (begun_before F.text.toks)) chars ∙ in_it.tokens ∙ d.2 in
        let there : IsAmong M t = subst (IsAmong M) toks (map_among (λ (m : List ℕ). map (begun_before F.text.toks) m) (lists_in (all_found members a) F.number) f.marks among) in
        let all : IsAmong (q.first ++ (map (later_by R.it.from) (marks_of 0 P) ++ q.last)) t = subst (λ (ls : List (List ℕ)). IsAmong ls t) (sym k.marks ∙ q.marks) there in
        let one : first_of t ≡ R.it.from + first_of d.0 = ap first_of (sym d.2) ∙ first_shift (length R.run) R.it.from d.0 w in
        let two_ : last_of t ≡ R.it.from + last_of d.0 = ap last_of (sym d.2) ∙ last_shift (length R.run) R.it.from d.0 w in
        let rise = rising_of (length R.run) d.0 w in
        let far = within_limit (length R.run) d.0 w in
        let size = long_run in
        elim (among_join q.first (map (later_by R.it.from) (marks_of 0 P) ++ q.last) t all) [
          | inl x ↦ let before_ = each_among (λ m. last_of m < R.it.from) q.first t q.before x in absurd (omega (arith, before_, two_))
          | inr y ↦ elim (among_join (map (later_by R.it.from) (marks_of 0 P)) q.last t y) [
            | inl z ↦ z
            | inr z ↦ let behind = each_among (λ m. R.it.from + (R.it.to - R.it.from) ≤ first_of m) q.last t q.behind z in absurd (omega (arith, behind, one, rise, far, size))
          ]
        ]
      where
        in_units : {X : Type 0} (xs : List X) (n : ℕ) (x : X) → slice_get xs n ≡ Some x → In x xs
        in_units [] n x e = absurd (cc)
        in_units (y ∷ xs) zero x e = inl (same_Some y x e)
        in_units (y ∷ xs) (suc n) x e = inr (in_units xs n x e)

        long_run : length R.run ≡ min (R.it.to - R.it.from) (length F.text.toks - R.it.from)
        long_run =
            ap length R.run_is ∙ length-take (R.it.to - R.it.from) (drop R.it.from F.text.toks) ∙ ap (min (R.it.to - R.it.from)) (length-drop R.it.from F.text.toks)

    one_cut : R.cut ≡ P
    one_cut =
        let q = part_of_file in
        let m = have a.table members order some v (lists v j) R in
        let n : ℕ = R.it.to - R.it.from in
        let lists_r = cut_lists 0 0 (length R.run) R.cut m.run_marked in
        let lists_p = cut_lists 0 0 n P q.marked in
        let same = same_lists (map (later_by R.it.from) (marks_of 0 R.cut)) (map (later_by R.it.from) (marks_of 0 P))
        (rises_shift R.it.from (length R.run) (marks_of 0 R.cut) lists_r (cut_rises v j R))
        (rises_shift R.it.from n (marks_of 0 P) lists_p (rises_of n (marks_of 0 P) lists_p (cut_nested 0 0 n P q.marked))) from_run to_run in
        marks_tell_cuts 0 0 0 (length R.run) n R.cut P m.run_marked q.marked (all_one R.it.from (marks_of 0 R.cut) (marks_of 0 P) same)

  runs_mark : (cuts : FileCuts) → AreCutsOf members a cuts → (v : UnitAnalysis) → IsInList a.units v → RunsMark cuts a.table (run_cut members v) v.text
  unfolding run_in
  runs_mark cuts are v j = λ file k it run s e cut r.
      let R = run_in v j file k it run s e cut r in
      let same : cut ≡ item_cut (cuts file.number) it = one_cut v j R ∙ ap (λ (c : Cut). item_cut c it) (sym (are file r.kept)) in
      subst (λ (x : Cut). MarksStand x (part_of (run_cut members v) s.before (length e.toks)) run (toks_of e.toks)) same r.marks

  lists_in_files : ListsAreInFiles members a
  lists_in_files = record { nested = has_cut; runs = runs_mark }

pub files_have_lists : RunsHaveCuts → ListsStandInEach → UnitsHaveLists → WorkspaceTokensAreOfRuns → FilesHaveLists
files_have_lists cuts_law again units runs source ws a members order h some typed =
    let t = runs source ws a h.analysed in
    lists_in_files cuts_law again source ws a members order h some (λ u i. units source ws a members order h u i (typed u i)) t.tokens

pub lists_have_runs : RunsHaveCuts → ListsStandInEach → UnitsHaveLists → WorkspaceTokensAreOfRuns → ListsHaveRuns
lists_have_runs cuts_law again units runs source ws a members order h some typed =
    let t = runs source ws a h.analysed in
    list_in_file cuts_law again source ws a members order h some (λ u i. units source ws a members order h u i (typed u i)) t.tokens

pub list_files : RunsHaveCuts → ListsStandInEach → UnitsHaveLists → WorkspaceTokensAreOfRuns → (source : Source) (ws : WorkspaceValue) (a : AnalysisValue) (members : List Part) (order : List ℕ) → IsAccepted source ws a members order
    → 0 < length order → ((u : UnitAnalysis) → IsInList a.units u → HavePrototypes members u) → (number : ℕ) (t : List ℕ) → IsAmong (lists_in (all_found members a) number) t
    → (file : SourceFile) × (source_at a.table number ≡ Some file) × (file.number ≡ number)
list_files cuts_law again units runs source ws a members order h some typed =
    let t = runs source ws a h.analysed in
    file_of_list cuts_law again source ws a members order h some (λ u i. units source ws a members order h u i (typed u i)) t.tokens
