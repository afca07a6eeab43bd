-- A list of a unit stands in each processing of its run, in whatever unit, with the same marks in the file.
use Rattle.std.proofs.Common.{◌≡◌, ℕ, zero, suc, ◌+◌, ◌<◌, ◌≤◌, ◌⊎◌, inl, inr, Bool, true, false, ◌&&◌, ◌||◌, List, [], ◌∷◌, ◌++◌, length, map, Option, None, Some, refl, sym, ap, subst, ◌∙◌, arith, append_assoc}
use Rattle.std.specs.Prelude.{◌==◌, slice_get, nat_le, nat_lt}
use Rattle.std.specs.List.{flat_map, list_any}
use Rattle.std.specs.Option.{option_map_or}
use Rattle.std.proofs.lemmas.Bool.{false≢true, and_parts, and_from, or_cases, eqb-true, eq-eqb, ltb-true, ltb-false, leb-true}
use Rattle.std.proofs.lemmas.List.{length-map}
use Rattle.std.proofs.lemmas.Option.{same_Some}
use Rattle.cs_base.specs.declared.positions.Part.{Part}
use Rattle.cs_base.specs.declared.positions.Pos.{Pos}
use Rattle.cs_base.specs.Token.{Token}
use Rattle.c_types.specs.declared.lists.List.{List as NameList}
use Rattle.macro_body.specs.Hides.{toks_of}
use Rattle.source_files.specs.Files.{SourceFile, Source}
use Rattle.unit_steps.specs.declared.events.Reached.{Reached}
use Rattle.unit_laws.specs.UnitLinks.{IsIn as IsInList}
use Rattle.ws_file.specs.Workspace.{WorkspaceValue}
use Rattle.analysis.specs.Analysis.{UnitAnalysis, AnalysisValue}
use Rattle.list_cuts.specs.Cuts.{Cut, done, keep, list, span_of}
use Rattle.expansion_laws.specs.Arranging.{in_lists, IsSign, RunsHaveCuts}
use Rattle.reordered_text_laws.specs.Marks.{marks_of, first_of, last_of, IsMarked, Each, AreOfList}
use Rattle.reordered_text_laws.proofs.MarkLemmas.{cut_lists}
use Rattle.tree_laws.proofs.Lookups.{In}
use Rattle.reordered_text_laws.specs.Runs.{Closes, AreSigned}
use Rattle.reordered_text_laws.specs.Trees.{IsAmong}
use Rattle.reordered_text_laws.proofs.PartMarks.{later_by, HasPart, part_marks, beside_of, each_among}
use Rattle.reordered_text_laws.proofs.SignLemmas.{signed_marks_stand}
use Rattle.reordered_text_laws.proofs.Across.{last_is as last_so}
use Rattle.unit_laws.specs.Reordered.{part_of, IsProcessed}
use Rattle.unit_laws.specs.TokenRuns.{TokenRun}
use Rattle.template_rules.specs.FileLists.{character_in, characters_of}
use Rattle.template_rules.specs.Functions.{origin_of, names_function}
use Rattle.template_rules.specs.Lists.{separators, some_mark}
use Rattle.template_rules.specs.MacroOffences.{is_same, are_same, is_same_list, run_of, is_mark_in}
use Rattle.template_meaning.specs.Accepted.{IsAccepted}
use Rattle.template_meaning.specs.Again.{ListsStandInEach}
use Rattle.template_meaning.specs.Clear.{IsOwn}
use Rattle.template_meaning.proofs.Parens.{in_first, in_last, in_split}
use Rattle.template_meaning.proofs.UnitLists.{index_of, in_filtered, filtered_in}
use Rattle.template_meaning.specs.Units.{own_lists, own_marks, run_cut, UnitHasLists}
use Rattle.template_meaning.proofs.RunsOf.{RunAt, IsIn, InRun, InOrder, in_order, whole_in, in_run, run_is, of_number, among_later, among_first, map_among, some_at, each_mark, within_limit, own_list_of}
use Rattle.template_meaning.proofs.Walks.{in_among, among_in, each_at, each_in}

-- ---- the run of a token

past_all : (from at limit p : ℕ) (c : Cut) → IsMarked from at limit c → limit ≤ p → in_lists at c p ≡ false
unfolding in_lists
past_all from at limit p done w le = refl
past_all from at limit p (keep (suc k) (list is c)) w le =
    let far = w.3 in
    let rest = past_all (at + suc k + span_of is + 1) (at + suc k + span_of is) limit p c w.4 le in
    let out : nat_le p (at + suc k + span_of is) ≡ false = lt_leb p (at + suc k + span_of is) (omega (arith, far, le)) in
    rw (out, rest) (both (nat_le (at + suc k) p))
  where
    lt_leb : (m n : ℕ) → n < m → nat_le m n ≡ false
    lt_leb m n lt = by (nat_le m n) refl
      where
        by : (b : Bool) → nat_le m n ≡ b → b ≡ false
        by false e = refl
        by true e = let le2 = leb-true m n e in absurd (omega (arith, le2, lt))

    both : (b : Bool) → ((b && false) || false) ≡ false
    both true = refl
    both false = refl
past_all from at limit p c w le = absurd w

sign_from : (test : Token → Bool) (out all : List Token) (b m : ℕ) → ((k : ℕ) (t : Token) → slice_get out k ≡ Some t → slice_get all (b + k) ≡ Some t) → m < length out → IsSign test all (b + m) → IsSign test out m
sign_from test out all b m stand lt s =
    let t = some_at out m lt in
    let same : t.0 ≡ s.mark = same_Some t.0 s.mark (sym (stand m t.0 t.1) ∙ s.has) in
    record { mark = s.mark; has = t.1 ∙ ap (λ (x : Token). Some x) same; direct = s.direct; is_sign = s.is_sign }

closes_from : (out all : List Token) (b : ℕ) (ms : List ℕ) → ((k : ℕ) (t : Token) → slice_get out k ≡ Some t → slice_get all (b + k) ≡ Some t) → Each (λ m. m < length out) ms → Closes all (later_by b ms) → Closes out ms
closes_from out all b [] stand lt h = h
closes_from out all b (m ∷ []) stand lt h = sign_from _ out all b m stand lt.0 h
closes_from out all b (m ∷ k ∷ ms) stand lt h = (sign_from _ out all b m stand lt.0 h.0, closes_from out all b (k ∷ ms) stand lt.1 h.1)

pub signed_from : (out all : List Token) (b : ℕ) (ms : List ℕ) → ((k : ℕ) (t : Token) → slice_get out k ≡ Some t → slice_get all (b + k) ≡ Some t) → Each (λ m. m < length out) ms → AreSigned all (later_by b ms) → AreSigned out ms
signed_from out all b [] stand lt h = h
signed_from out all b (m ∷ ms) stand lt h = (sign_from _ out all b m stand lt.0 h.0, closes_from out all b ms stand lt.1 h.1)

-- ---- positions

same_place : (p q : Option Pos) → is_same p q ≡ true → (x : Pos) × (p ≡ Some x) × (q ≡ Some x)
same_place None q h = absurd (false≢true h)
same_place (Some p) None h = absurd (false≢true h)
same_place (Some p) (Some q) h =
    let both = and_parts (p.file == q.file) (p.at == q.at) h in
    let file_is = eqb-true p.file q.file both.0 in
    let at_is = eqb-true p.at q.at both.1 in
    let same : q ≡ p = ap (λ (f : ℕ). record { file = f; at = q.at }) (sym file_is) ∙ ap (λ (n : ℕ). record { file = p.file; at = n }) (sym at_is) in
    (p, refl, ap (λ (x : Pos). Some x) same)

chars_place : (file : ℕ) (toks others : List Token) (j k : ℕ) → is_same (origin_of toks j) (origin_of others k) ≡ true → characters_of file toks j ≡ characters_of file others k
chars_place file toks others j k h =
    let x = same_place (origin_of toks j) (origin_of others k) h in
    ap (λ (o : Option Pos). flat_map (character_in file) (option_map_or (λ p. p ∷ []) o [])) (x.1 ∙ sym x.2)

chars_places : (file : ℕ) (toks others : List Token) (js ks : List ℕ) → are_same toks others js ks ≡ true → flat_map (characters_of file toks) js ≡ flat_map (characters_of file others) ks
chars_places file toks others [] [] h = refl
chars_places file toks others [] (k ∷ ks) h = absurd (false≢true h)
chars_places file toks others (j ∷ js) [] h = absurd (false≢true h)
chars_places file toks others (j ∷ js) (k ∷ ks) h =
    let both = and_parts (is_same (origin_of toks j) (origin_of others k)) (are_same toks others js ks) h in
    ap (λ (l : List ℕ). l ++ flat_map (characters_of file toks) js) (chars_place file toks others j k both.0)
    ∙ ap (λ (l : List ℕ). characters_of file others k ++ l) (chars_places file toks others js ks both.1)

flat_join : {X Y : Type 0} (f : X → List Y) (xs : List X) (x : X) → flat_map f (xs ++ x ∷ []) ≡ flat_map f xs ++ (f x ++ [])
flat_join f [] x = refl
flat_join f (y ∷ xs) x = ap (λ (l : List _). f y ++ l) (flat_join f xs x) ∙ sym (append_assoc (f y) (flat_map f xs) (f x ++ []))

-- lists at the same positions have the same characters
same_chars : (file : ℕ) (toks others : List Token) (l m : NameList) → is_same_list toks others l m ≡ true → flat_map (characters_of file toks) (separators l) ≡ flat_map (characters_of file others) (separators m)
same_chars file toks others l m h =
    let one = and_parts (is_same (origin_of toks l.name) (origin_of others m.name)) _ h in
    let two_ = and_parts (is_same (origin_of toks l.begin) (origin_of others m.begin)) _ one.1 in
    let three = and_parts (is_same (origin_of toks l.close) (origin_of others m.close)) _ two_.1 in
    ap (λ (ms : List ℕ). ms ++ flat_map (characters_of file toks) (l.commas ++ l.close ∷ [])) (chars_place file toks others l.begin m.begin two_.0)
    ∙ ap (λ (ms : List ℕ). characters_of file others m.begin ++ ms)
    (flat_join (characters_of file toks) l.commas l.close ∙ ap (λ (ms : List ℕ). ms ++ (characters_of file toks l.close ++ [])) (chars_places file toks others l.commas m.commas three.1)
    ∙ ap (λ (ms : List ℕ). flat_map (characters_of file others) m.commas ++ (ms ++ [])) (chars_place file toks others l.close m.close three.0) ∙ sym (flat_join (characters_of file others) m.commas m.close))

-- ---- a workspace

module _ (cuts_law : RunsHaveCuts) (again : ListsStandInEach) (source : Source) (ws : WorkspaceValue) (a : AnalysisValue) (members : List Part) (order : List ℕ) (h : IsAccepted source ws a members order) (some : 0 < length order)
    (lists : (u : UnitAnalysis) → IsInList a.units u → UnitHasLists members order u) (tokens : (u : UnitAnalysis) → IsInList a.units u → (b : ℕ) → b < length u.text.toks → TokenRun a.table u.text b) where
  -- a token of a unit is one of a run
  pub record OfRun (u : UnitAnalysis) (b : ℕ) : Type 0 where
    pub run : RunAt a.table members u
    pub low : run.before ≤ b
    pub high : b < run.before + run.count

  pub run_of_token : (u : UnitAnalysis) → IsInList a.units u → (b : ℕ) → b < length u.text.toks → OfRun u b
  run_of_token u i b lt =
      let t = tokens u i b lt in
      let has = lists u i in
      let stand_ = has.stand in
      let p = t.reached in
      let c = run_cut members u in
      let count : ℕ = length t.e.toks in
      let begins_ : in_lists 0 c t.s.before ≡ false = ap (in_lists 0 c) (sym p.before_is) ∙ stand_.reached p.item (p.number, p.is) in
      let ends_ : in_lists 0 c (t.s.before + count) ≡ false = ends u i t.s.before count p in
      let q = part_marks (length u.text.toks) t.s.before count c has.marked (beside_of 0 0 (length u.text.toks) t.s.before c has.marked begins_) (beside_of 0 0 (length u.text.toks) (t.s.before + count) c has.marked ends_) in
      let long : length (toks_of t.e.toks) ≡ count = length-map t.e.toks (λ x. x.tok) in
      let signs = signed_marks_stand count (part_of c t.s.before count) (toks_of t.e.toks) q.marked (signed u i t.s.before count (toks_of t.e.toks) long t.toks q) in
      let cut = cuts_law t.s.macros t.file.path (part_of c t.s.before count) t.run t.s.work t.e t.expands signs in
      record {
        run = record {
          file = t.file;
          k = t.k;
          it = t.it;
          run = t.run;
          out = toks_of t.e.toks;
          before = t.s.before;
          count = count;
          cut = cut.0;
          s = t.s;
          e = t.e;
          kept = t.kept;
          item = t.item;
          is_run = t.is_run;
          expands = t.expands;
          out_is = refl;
          run_is = t.run_is;
          reached = p;
          long = long;
          toks = t.toks;
          begins = begins_;
          ends = ends_;
          marks = cut.1;
        };
        low = t.low;
        high = t.high;
      }
    where
      ends : (u : UnitAnalysis) → IsInList a.units u → {file : SourceFile} {k : ℕ} (before count : ℕ) → IsProcessed u.text file k before count → in_lists 0 (run_cut members u) (before + count) ≡ false
      ends u i before count p = by (nat_lt (before + count) (length u.text.toks)) refl
        where
          by : (b : Bool) → nat_lt (before + count) (length u.text.toks) ≡ b → in_lists 0 (run_cut members u) (before + count) ≡ false
          by true e =
              let has = lists u i in
              let stand_ = has.stand in
              let n = p.next (ltb-true (before + count) (length u.text.toks) e) in
              ap (in_lists 0 (run_cut members u)) (sym n.4) ∙ stand_.reached n.1 (n.0, n.3)
          by false e = let has = lists u i in past_all 0 0 (length u.text.toks) (before + count) (run_cut members u) has.marked (ltb-false (before + count) (length u.text.toks) e)

      signed : (u : UnitAnalysis) → IsInList a.units u → (before count : ℕ) (out : List Token) → length out ≡ count → ((m : ℕ) (t : Token) → slice_get out m ≡ Some t → slice_get u.text.toks (before + m) ≡ Some t)
          → HasPart (length u.text.toks) before count (run_cut members u) → Each (AreSigned out) (marks_of 0 (part_of (run_cut members u) before count))
      signed u i before count out long stand q = each_in (AreSigned out) (marks_of 0 (part_of (run_cut members u) before count)) one
        where
          bound : (d : List ℕ) → IsAmong (marks_of 0 (part_of (run_cut members u) before count)) d → Each (λ m. m < length out) d
          bound d j = lower d (each_mark count d w) (within_limit count d w)
            where
              w : AreOfList count d
              w = each_among (AreOfList count) (marks_of 0 (part_of (run_cut members u) before count)) d (cut_lists 0 0 count (part_of (run_cut members u) before count) q.marked) j

              lower : (ks : List ℕ) → Each (λ k. (first_of d ≤ k) × (k ≤ last_of d)) ks → last_of d < count → Each (λ m. m < length out) ks
              lower [] x far = tt
              lower (k ∷ ks) x far = let le = x.0.1 in (omega (arith, le, far, long), lower ks x.1 far)

          one : (d : List ℕ) → In d (marks_of 0 (part_of (run_cut members u) before count)) → AreSigned out d
          one d w =
              let has = lists u i in
              let j = in_among (marks_of 0 (part_of (run_cut members u) before count)) d w in
              let there : IsAmong (marks_of 0 (run_cut members u)) (later_by before d) = subst (λ (ls : List (List ℕ)). IsAmong ls (later_by before d)) (sym q.marks)
              (among_later q.first (map (later_by before) (marks_of 0 (part_of (run_cut members u) before count)) ++ q.last) (later_by before d)
              (among_first (map (later_by before) (marks_of 0 (part_of (run_cut members u) before count))) q.last (later_by before d) (map_among (later_by before) (marks_of 0 (part_of (run_cut members u) before count)) d j))) in
              let own = each_at (IsAmong (own_marks members u)) (marks_of 0 (run_cut members u)) (later_by before d) has.marks there in
              signed_from out u.text.toks before d stand (bound d j) (each_at (AreSigned u.text.toks) (own_marks members u) (later_by before d) has.signed own)

  -- ---- a list in another processing

  -- A list of v that has the marks of one of u in the file.
  pub record Again (u : UnitAnalysis) (l : NameList) (R : RunAt a.table members u) (t : List ℕ) (v : UnitAnalysis) (S : RunAt a.table members v) : Type 0 where
    pub list : NameList
    pub own : IsAmong (own_lists members v) list
    pub marks : List ℕ
    pub in_it : InRun a.table members v S list marks
    pub chars : (file : ℕ) → flat_map (characters_of file u.text.toks) (separators l) ≡ flat_map (characters_of file v.text.toks) (separators list)

  own_parts : (u : UnitAnalysis) (l : NameList) → IsAmong (own_lists members u) l → (IsInList u.bound.declarators l ⊎ IsInList u.bound.calls l) × IsOwn members u l
  own_parts u l i =
      let parts = in_filtered (λ (m : NameList). names_function members u.text.toks u.bound.names m.name) l (u.bound.declarators ++ u.bound.calls) (among_in (own_lists members u) l i) in
      (elim (in_split l u.bound.declarators u.bound.calls parts.0) [ inl d ↦ inl (index_of l u.bound.declarators d) | inr c ↦ inr (index_of l u.bound.calls c) ], parts.1)

  in_of : {X : Type 0} (xs : List X) (k : ℕ) (x : X) → slice_get xs k ≡ Some x → In x xs
  in_of [] k x e = absurd (cc)
  in_of (y ∷ xs) zero x e = inl (same_Some y x e)
  in_of (y ∷ xs) (suc k) x e = inr (in_of xs k x e)

  own_from : (u : UnitAnalysis) (l : NameList) → IsInList u.bound.declarators l ⊎ IsInList u.bound.calls l → IsOwn members u l → IsAmong (own_lists members u) l
  own_from u l (inl d) own =
      in_among (own_lists members u) l (filtered_in (λ (m : NameList). names_function members u.text.toks u.bound.names m.name) l (u.bound.declarators ++ u.bound.calls)
      (in_first l u.bound.declarators u.bound.calls (in_of u.bound.declarators d.0 l d.1)) own)
  own_from u l (inr d) own =
      in_among (own_lists members u) l (filtered_in (λ (m : NameList). names_function members u.text.toks u.bound.names m.name) l (u.bound.declarators ++ u.bound.calls)
      (in_last l u.bound.declarators u.bound.calls (in_of u.bound.calls d.0 l d.1)) own)

  -- a mark of a list that passes a test stands between its name and its `)`
  pub record AMark (u : UnitAnalysis) (l : NameList) (test : ℕ → Bool) : Type 0 where
    pub at : ℕ
    pub low : l.name ≤ at
    pub high : at ≤ l.close
    pub passes : test at ≡ true

  a_mark : (u : UnitAnalysis) (i : IsInList a.units u) (l : NameList) (own : IsAmong (own_lists members u) l) (test : ℕ → Bool) → some_mark test l ≡ true → AMark u l test
  a_mark u i l own test e =
      elim (or_cases (test l.name) _ e) [
        | inl n ↦ record { at = l.name; low = omega arith; high = omega (arith, name, close); passes = n }
        | inr f ↦ elim (or_cases (test l.begin) _ f) [
          | inl b ↦ record { at = l.begin; low = omega (arith, name); high = omega (arith, close); passes = b }
          | inr g ↦ elim (or_cases (list_any test l.commas) (test l.close) g) [
            | inl c ↦ commas l.commas (λ k j. inner k j) c
            | inr d ↦ record { at = l.close; low = omega (arith, name, close); high = omega arith; passes = d }
          ]
        ]
      ]
    where
      o : InOrder a.table members order some u (lists u i) l
      o = in_order a.table members order some u (lists u i) l own

      name : l.name < l.begin
      name = o.name

      close : l.begin < l.close
      close = o.close

      inner : (k : ℕ) → In k l.commas → (l.begin ≤ k) × (k ≤ l.close)
      inner k j =
          let w = own_list_of a.table members order some u (lists u i) l own in
          let both = each_mark (length u.text.toks) (separators l) w in
          let last = last_so l.begin l.commas l.close in
          let x = each_at (λ m. (l.begin ≤ m) × (m ≤ last_of (separators l))) (separators l) k both (inr (among_first l.commas (l.close ∷ []) k (in_among l.commas k j))) in
          let high = x.1 in
          (x.0, omega (arith, high, last))

      commas : (ks : List ℕ) → ((k : ℕ) → In k ks → (l.begin ≤ k) × (k ≤ l.close)) → list_any test ks ≡ true → AMark u l test
      commas [] f c = absurd (false≢true c)
      commas (k ∷ ks) f c = elim (or_cases (test k) (list_any test ks) c) [
        | inl here ↦ let b = f k (inl refl) in let low = b.0 in record { at = k; low = omega (arith, low, name); high = b.1; passes = here }
        | inr later ↦ commas ks (λ m j. f m (inr j)) later
      ]

  pub across : (u : UnitAnalysis) (i : IsInList a.units u) (l : NameList) (own : IsAmong (own_lists members u) l) (R : RunAt a.table members u) → IsIn a.table members u R l → (t : List ℕ) → InRun a.table members u R l t
      → (v : UnitAnalysis) (j : IsInList a.units v) (S : RunAt a.table members v) → S.file.number ≡ R.file.number → S.k ≡ R.k → Again u l R t v S
  across u i l own R here t in_it v j S file_is k_is =
      let parts = own_parts u l own in
      let e = again source ws a members order h u i l parts.0 parts.1 l.begin (inr (inl refl)) in
      let o = in_order a.table members order some u (lists u i) l own in
      let name = o.name in
      let close = o.close in
      let low = here.0 in
      let high = here.1 in
      let p = R.reached in
      let q = S.reached in
      let is_ = run_is a.table members order some u (lists u i) R l.begin (omega (arith, low, name)) (omega (arith, high, close)) p in
      let same : e.item ≡ p.item = same_Some e.item p.item (sym e.is ∙ is_) in
      let files : e.item.file ≡ q.item.file = ap (λ (r : Reached). r.file) same ∙ p.file_is ∙ sym file_is ∙ sym q.file_is in
      let items : e.item.item ≡ q.item.item = ap (λ (r : Reached). r.item) same ∙ p.item_is ∙ sym k_is ∙ sym q.item_is in
      let there = e.again v q.number q.item j q.is (and_from (e.item.file == q.item.file) (e.item.item == q.item.item) (eq-eqb e.item.file q.item.file files) (eq-eqb e.item.item q.item.item items)) in
      let m = there.list in
      let own2 = own_from v m there.there there.own in
      let mark = a_mark v j m own2 (is_mark_in v.text.toks v.text.reached (origin_of u.text.toks l.begin) (q.number + 1)) there.mark in
      let number = and_parts (is_same (origin_of v.text.toks mark.at) (origin_of u.text.toks l.begin)) (run_of v.text.reached mark.at == q.number + 1) mark.passes in
      let o2 = in_order a.table members order some v (lists v j) m own2 in
      let far = o2.within in
      let top = mark.high in
      let range = of_number a.table members order some v (lists v j) S mark.at (omega (arith, far, top)) q (eqb-true (run_of v.text.reached mark.at) (q.number + 1) number.1) in
      let whole = whole_in a.table members order some v (lists v j) S m own2 mark.at mark.low mark.high range.0 range.1 in
      let r = in_run a.table members order some v (lists v j) S m own2 whole in
      record { list = m; own = own2; marks = r.0; in_it = r.1; chars = λ file. same_chars file u.text.toks v.text.toks l m there.same }
