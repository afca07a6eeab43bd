-- Units over the edited files.
use Rattle.std.proofs.Common.{◌≡◌, ℕ, ◌+◌, ◌-◌, Bool, true, false, cond, List, [], ◌∷◌, ◌++◌, length, take, drop, codes, Option, Some, None, Ok, Err, refl, ap, sym, subst, ◌∙◌, arith, length-append, append_assoc, append-nil}
use Rattle.std.specs.Prelude.{nat_le}
use Rattle.std.specs.Str.{bytes_eq}
use Rattle.std.proofs.lemmas.Bool.{leb-true, le-leb, or_left, or_right}
use Rattle.std.proofs.lemmas.Option.{none-some, same_Some}
use Rattle.std.proofs.lemmas.Slice.Eq.{bytes_eq-Decides}
use Rattle.std.proofs.lemmas.List.{map-append, nil_from_length, length-map}
use Rattle.cs_base.specs.Token.{Token, origin_at}
use Rattle.cs_base.specs.Units.{UnitValue, is_gnu, defines_of}
use Rattle.cs_base.proofs.ListLemmas.{front_none}
use Rattle.macro_body.specs.declared.definitions.Definition.{Definition}
use Rattle.macro_body.specs.Defining.{line_macro, file_macro, counter_macro, standard_macros, first_macros}
use Rattle.lexer.specs.FileText.{file_text}
use Rattle.source_files.specs.Faults.{first_place}
use Rattle.source_files.specs.Files.{Made, entry, SourceFile, Table, Carried, defines_path, made_path, asked}
use Rattle.source_files.specs.Limits.{the_limits}
use Rattle.source_files.specs.Tables.{IsGrown, AreFound, Widens}
use Rattle.source_files.proofs.TableLemmas.{grown_refl, grown_trans, widens_asked}
use Rattle.include_tree.specs.OpeningStep.{open_file}
use Rattle.unit_steps.specs.Notes.{Note}
use Rattle.unit_steps.specs.State.{State, Did, did, Outcome}
use Rattle.include_tree.specs.Unit.{path_or_own, pseudo_path, table_or_more, with_defines, first_state, outer_file, main_file, both_files, unit_outcome}
use Rattle.include_tree.specs.Walk.{file_items}
use Rattle.include_tree.proofs.DefinesLemmas.{with_defines_has}
use Rattle.list_cuts.specs.Cuts.{Cut, done, keep, list, span_of, IsOrder, picked, woven, gaps_of, arranged, items_of, AreOf}
use Rattle.list_cuts.specs.CutOf.{back}
use Rattle.list_cuts.proofs.CutLemmas.{length-arranged, gaps_of-append, items_of-append}
use Rattle.unit_laws.specs.Edited.{Edit, edited_files, edited_carried, edited_state}
use Rattle.expansion_laws.specs.Alike.{stands_for_line}
use Rattle.unit_laws.specs.Walking.{is_line_word, KeepsTexts, plain, plains, GoAlong, UnitsGoAlike}
use Rattle.unit_laws.proofs.EditedLemmas.{numbered_edited, asked_edited, made_edited, found_more, grown_more}
use Rattle.unit_laws.proofs.ReorderedStepLemmas.{World, LineMacros, PutsToo, Goes, itself, StandAt, still_then}
use Rattle.unit_laws.proofs.OpenLemmas.{FileGoes, ctx, ctx2, open_goes}
use Rattle.unit_laws.proofs.RunLemmas.{RunsToo}
use Rattle.unit_laws.proofs.ReorderedWalkLemmas.{goes_more, goes_map, files_go}

-- ---- the files of a unit

-- the files that may be open inside the first
abbrev room : ℕ
room = the_limits.open_files - 1

module _ (w : World) (runs : RunsToo w) (keeps : KeepsTexts w.edit w.old) (unit : UnitValue) (earlier : ℕ) where
  outer_goes : (path : List ℕ) (s : State) → Goes w itself w.V s (outer_file (ctx w keeps unit earlier) path s) (outer_file (ctx2 w keeps unit earlier) path (edited_state w.edit s))
  outer_goes path s =
      still_then w (FileGoes w) itself w.V s (open_file (ctx w keeps unit earlier) (first_place path) path s) (open_file (ctx2 w keeps unit earlier) (first_place path) path (edited_state w.edit s))
      (file_items (ctx w keeps unit earlier) room) (file_items (ctx2 w keeps unit earlier) room) (open_goes w keeps unit earlier (first_place path) (first_place path) path s)
      (λ f f2 t r.
      subst (λ (g : SourceFile). Goes w itself w.V t (file_items (ctx w keeps unit earlier) room f t) (file_items (ctx2 w keeps unit earlier) room g (edited_state w.edit t))) (sym r.1)
      (files_go w runs keeps unit earlier room f r.0 r.2 t r.3))

  -- a step from another table
  table_goes : (s : State) (t : Table) (m new : Outcome (List Token)) → Widens w.old s.table t → Goes w itself w.V (record s { table = t }) m new → Goes w itself w.V s m new
  table_goes s t (Err fault) new more h = tt
  table_goes s t (Ok d) new more h = λ fits.
      let k = h (more.found fits.0, fits.1) in
      record {
        fits = k.fits;
        counted = k.counted;
        grown = grown_trans s.table t d.state.table more.grown k.grown;
        up = k.up;
        down = k.down;
        begins = k.begins;
        too = λ within. let x = k.too within in record { value = x.value; notes = x.notes; is = x.is; goes = x.goes };
      }

  main_goes : (path : List ℕ) (s : State) → Goes w itself w.V s (main_file (ctx w keeps unit earlier) path s) (main_file (ctx2 w keeps unit earlier) path (edited_state w.edit s))
  main_goes path s =
      subst (λ (t : Table). Goes w itself w.V s (main_file (ctx w keeps unit earlier) path s) (outer_file (ctx2 w keeps unit earlier) path (record (edited_state w.edit s) { table = t })))
      (sym (asked_edited w.edit w.old w.new w.news path s.table))
      (table_goes s (asked w.old path s.table) (main_file (ctx w keeps unit earlier) path s) (outer_file (ctx2 w keeps unit earlier) path (edited_state w.edit (record s { table = asked w.old path s.table })))
      (widens_asked w.old path s.table) (outer_goes path (record s { table = asked w.old path s.table })))

  files_of_goes : (defines path : List ℕ) (s : State) → Goes w itself w.V s (both_files (ctx w keeps unit earlier) defines path s) (both_files (ctx2 w keeps unit earlier) defines path (edited_state w.edit s))
  files_of_goes defines path s =
      goes_more w itself (λ x y. Unit {0}) (λ x. tt) s (outer_file (ctx w keeps unit earlier) defines s) (outer_file (ctx2 w keeps unit earlier) defines (edited_state w.edit s))
      (λ toks t. main_file (ctx w keeps unit earlier) path t) (λ toks t. main_file (ctx2 w keeps unit earlier) path t)
      (goes_map w itself w.V (λ b x y. Unit {0} × w.V b x y) s (outer_file (ctx w keeps unit earlier) defines s) (outer_file (ctx2 w keeps unit earlier) defines (edited_state w.edit s))
      (λ b x y v. (tt, v)) (outer_goes defines s))
      (λ x y t r grown. main_goes path t)

-- ---- the first state

more_edited : (edit : Edit) (number : ℕ) (unit : UnitValue) (t : Table) (found : Option (List ℕ)) → table_or_more found number unit (edited_files edit t) ≡ edited_files edit (table_or_more found number unit t)
more_edited edit number unit t None = sym (numbered_edited edit (defines_path number) (Made (defines_of unit)) t)
more_edited edit number unit t (Some path) = refl

defines_edited : (edit : Edit) (number : ℕ) (unit : UnitValue) (t : Table) → with_defines number unit (edited_files edit t) ≡ edited_files edit (with_defines number unit t)
defines_edited edit number unit t =
    ap (λ (found : Option (List ℕ)). table_or_more found number unit (edited_files edit t)) (made_edited edit (defines_of unit) t)
    ∙ more_edited edit number unit t (made_path (defines_of unit) t)

first_edited : (edit : Edit) (number : ℕ) (unit : UnitValue) (t : Table) → first_state the_limits number unit (edited_files edit t) ≡ edited_state edit (first_state the_limits number unit t)
first_edited edit number unit t =
    ap (λ (u : Table). record (first_state the_limits number unit t) { table = u }) (defines_edited edit number unit t)

pseudo_edited : (edit : Edit) (number : ℕ) (unit : UnitValue) (t : Table) → pseudo_path number unit (edited_files edit t) ≡ pseudo_path number unit t
pseudo_edited edit number unit t = ap (λ (found : Option (List ℕ)). path_or_own found number) (made_edited edit (defines_of unit) t)

-- `__LINE__` and `__COUNTER__` alone stand for such numbers at first
first_by : (name : List ℕ) (m : Definition) (a b : Bool) → bytes_eq name (codes "__LINE__") ≡ b → cond a (Some file_macro) (cond b (Some line_macro) None) ≡ Some m → stands_for_line m.form ≡ true
    → (origin_at m.name 0 ≡ None) × (is_line_word name ≡ true)
first_by name m true b is e h =
    let other : false ≡ true = ap (λ (d : Definition). stands_for_line d.form) (same_Some file_macro m e) ∙ h in
    absurd cc
first_by name m false true is e h =
    (ap (λ (d : Definition). origin_at d.name 0) (sym (same_Some line_macro m e)), or_left (bytes_eq name (codes "__LINE__")) (bytes_eq name (codes "__COUNTER__")) is)
first_by name m false false is e h = absurd (none-some m e)

counter_by : (name : List ℕ) (m : Definition) (b : Bool) → bytes_eq name (codes "__COUNTER__") ≡ b → cond b (Some counter_macro) (standard_macros name) ≡ Some m → stands_for_line m.form ≡ true
    → (origin_at m.name 0 ≡ None) × (is_line_word name ≡ true)
counter_by name m true is e h =
    (ap (λ (d : Definition). origin_at d.name 0) (sym (same_Some counter_macro m e)), or_right (bytes_eq name (codes "__LINE__")) (bytes_eq name (codes "__COUNTER__")) is)
counter_by name m false is e h = first_by name m (bytes_eq name (codes "__FILE__")) (bytes_eq name (codes "__LINE__")) refl e h

first_lines : (gnu : Bool) → LineMacros (first_macros gnu)
first_lines false = λ name m e h. first_by name m (bytes_eq name (codes "__FILE__")) (bytes_eq name (codes "__LINE__")) refl e h
first_lines true = λ name m e h. counter_by name m (bytes_eq name (codes "__COUNTER__")) refl e h

pub record UnitToo (w : World) (number : ℕ) (unit : UnitValue) (before : Carried) (d : Did (List Token)) : Type 0 where
  pub toks : List Token
  pub notes : List Note
  pub is : unit_outcome the_limits file_text w.new number unit (edited_carried w.edit before) ≡ Ok (did toks notes (edited_state w.edit d.state))
  pub goes : w.V 0 d.value toks
  pub found : AreFound w.old d.state.table
  pub grown : IsGrown before.table d.state.table

pub unit_goes : (w : World) → RunsToo w → KeepsTexts w.edit w.old → (number : ℕ) (unit : UnitValue) (before : Carried) (d : Did (List Token))
    → unit_outcome the_limits file_text w.old number unit before ≡ Ok d → AreFound w.old before.table → d.notes ≡ w.told → d.value ≡ w.all → d.state.table ≡ w.files → UnitToo w number unit before d
unit_goes w runs keeps number unit before d is found told all files =
    let s : State = first_state the_limits number unit before.table in
    let path : List ℕ = pseudo_path number unit before.table in
    let goes = files_of_goes w runs keeps unit before.toks path unit.path s in
    let new : Outcome (List Token) = both_files (ctx2 w keeps unit before.toks) path unit.path (edited_state w.edit s) in
    let done : Goes w itself w.V s (Ok d) new = subst (λ (m : Outcome (List Token)). Goes w itself w.V s m new) is goes in
    let k : PutsToo w itself w.V s d new =
    done (with_defines_has (AreFound w.old) number unit before.table found (found_more w.old (defines_path number) (defines_of unit) before.table found), first_lines (is_gnu unit.standard)) in
    let count = k.counted in
    let last : d.state.before ≡ length w.all = (let same : d.state.before ≡ length d.value = omega (arith, count) in same) ∙ ap length all in
    let x = k.too (record {
      earlier = [];
      later = [];
      among = sym told ∙ sym (append-nil d.notes);
      up = tt;
      down = tt;
      next = λ some. absurd (omega (arith, last, some));
      room = omega (arith, last);
      stand = subst (λ (l : List Token). StandAt l 0 d.value) all (λ m t at. let same : 0 + m ≡ m = omega arith in rw same at);
      grown = subst (IsGrown d.state.table) files (grown_refl d.state.table);
    }) in
    record {
      toks = x.value;
      notes = x.notes;
      is = ap (λ (p : List ℕ). both_files (ctx2 w keeps unit before.toks) p unit.path (first_state the_limits number unit (edited_files w.edit before.table))) (pseudo_edited w.edit number unit before.table)
          ∙ ap (both_files (ctx2 w keeps unit before.toks) path unit.path) (first_edited w.edit number unit before.table) ∙ x.is;
      goes = x.goes;
      found = k.fits.0;
      grown = grown_trans before.table s.table d.state.table
          (with_defines_has (IsGrown before.table) number unit before.table (grown_refl before.table) (grown_more before.table (entry (defines_path number) (Made (defines_of unit)) ∷ []))) k.grown;
    }

-- ---- along the cut

pub along_none : (order : List ℕ) (c : Cut) (before : ℕ) → GoAlong order c before [] []
along_none order c before = λ rest.
    let same : before ≡ before + 0 = omega arith in
    ap (λ (b : ℕ). arranged order (back b c) rest) same

pub along_both : (order : List ℕ) (c : Cut) (before : ℕ) (xs xs2 ys ys2 : List Token) → GoAlong order c before xs xs2 → GoAlong order c (before + length xs) ys ys2
    → GoAlong order c before (xs ++ ys) (xs2 ++ ys2)
along_both order c before xs xs2 ys ys2 h k = λ rest.
    let far : before + length xs + length ys ≡ before + length (xs ++ ys) = omega (arith, length-append xs ys) in
    ap (λ (l : List _). arranged order (back before c) (l ++ rest)) (map-append plain xs ys)
    ∙ ap (arranged order (back before c)) (append_assoc (plains xs) (plains ys) rest)
    ∙ h (plains ys ++ rest)
    ∙ ap (λ (l : List _). plains xs2 ++ l) (k rest)
    ∙ ap (λ (b : ℕ). plains xs2 ++ (plains ys2 ++ arranged order (back b c) rest)) far
    ∙ sym (ap (λ (l : List _). l ++ arranged order (back (before + length (xs ++ ys)) c) rest) (map-append plain xs2 ys2)
    ∙ append_assoc (plains xs2) (plains ys2) (arranged order (back (before + length (xs ++ ys)) c) rest))

pub of_back : (n m : ℕ) (c : Cut) → AreOf n c → AreOf n (back m c)
unfolding back
of_back n m done of = tt
of_back n m (keep k c) of = by (nat_le m k) (of_back n (m - k) c of)
  where
    by : (b : Bool) → AreOf n (back (m - k) c) → AreOf n (cond b (keep (k - m) c) (back (m - k) c))
    by true h = of
    by false h = h
of_back n m (list is c) of = by (nat_le (span_of is) m) (of_back n (m - span_of is) c of.2)
  where
    by : (b : Bool) → AreOf n (back (m - span_of is) c) → AreOf n (cond b (back (m - span_of is) c) (list is c))
    by true h = h
    by false h = of

-- nothing comes to nothing
pub arranged_none : {X : Type 0} (n : ℕ) (order : List ℕ) (c : Cut) → IsOrder n order → AreOf n c → arranged {X = X} order c [] ≡ []
arranged_none n order c is of = nil_from_length (arranged order c []) (length-arranged n order c [] is of)

-- a cut from its first element on
pub back_none : {X : Type 0} (n : ℕ) (order : List ℕ) (c : Cut) (xs : List X) → IsOrder n order → AreOf n c → arranged order (back 0 c) xs ≡ arranged order c xs
unfolding back arranged
back_none n order done xs is of = refl
back_none n order (keep k c) xs is of =
    let same : k - 0 ≡ k = omega arith in
    ap (λ (b : Bool). arranged order (cond b (keep (k - 0) c) (back (0 - k) c)) xs) (le-leb 0 k (omega arith))
    ∙ ap (λ (j : ℕ). take j xs ++ arranged order c (drop j xs)) same
back_none n order (list js c) xs is of = empty (nat_le (span_of js) 0) refl (back_none n order c xs is of.2)
  where
    empty : (b : Bool) → nat_le (span_of js) 0 ≡ b → arranged order (back 0 c) xs ≡ arranged order c xs
        → arranged order (cond b (back (0 - span_of js) c) (list js c)) xs ≡ woven (picked order (items_of order js xs)) (gaps_of js xs) ++ arranged order c (drop (span_of js) xs)
    empty false e h = refl
    empty true e h =
        let none : span_of js ≡ 0 = omega (arith, leb-true (span_of js) 0 e) in
        let less : 0 - span_of js ≡ 0 = omega (arith, none) in
        let items : items_of order js xs ≡ items_of order js [] = items_of-append order js [] xs (omega (arith, none)) in
        let gaps : gaps_of js xs ≡ gaps_of js [] = gaps_of-append js [] xs (omega (arith, none)) in
        let whole : woven (picked order (items_of order js [])) (gaps_of js []) ++ drop (span_of js) [] ≡ [] = arranged_none n order (list js done) is (of.0, of.1, tt) in
        let first : woven (picked order (items_of order js [])) (gaps_of js []) ≡ [] = front_none (woven (picked order (items_of order js [])) (gaps_of js [])) (drop (span_of js) []) whole in
        ap (λ (m : ℕ). arranged order (back m c) xs) less ∙ h
        ∙ sym (ap (λ (l : List _). woven (picked order l) (gaps_of js xs) ++ arranged order c (drop (span_of js) xs)) items
        ∙ ap (λ (l : List _). woven (picked order (items_of order js [])) l ++ arranged order c (drop (span_of js) xs)) gaps
        ∙ ap (λ (l : List _). l ++ arranged order c (drop (span_of js) xs)) first
        ∙ ap (λ (m : ℕ). arranged order c (drop m xs)) none)

-- the whole of the tokens
pub along_all : (n : ℕ) (order : List ℕ) (c : Cut) → IsOrder n order → AreOf n c → (xs ys : List Token) → GoAlong order c 0 xs ys → plains ys ≡ arranged order c (plains xs)
along_all n order c is_order of xs ys goes =
    let all : arranged order (back 0 c) (plains xs ++ []) ≡ plains ys ++ arranged order (back (0 + length xs) c) [] = goes [] in
    let ends : arranged order (back (0 + length xs) c) [] ≡ [] = arranged_none n order (back (0 + length xs) c) is_order (of_back n (0 + length xs) c of) in
    sym (append-nil (plains ys)) ∙ sym (ap (λ (l : List _). plains ys ++ l) ends) ∙ sym all
    ∙ ap (arranged order (back 0 c)) (append-nil (plains xs)) ∙ back_none n order c (plains xs) is_order of

pub units_go_alike : UnitsGoAlike
units_go_alike = λ edit n order c old new number unit before d is_order of is found news keeps runs.
    let w : World = record {
      edit = edit;
      old = old;
      new = new;
      news = news;
      told = d.notes;
      all = d.value;
      files = d.state.table;
      V = GoAlong order c;
      v_none = along_none order c;
      v_both = along_both order c;
    } in
    let too : RunsToo w = λ file text k i j s e at.
    let g = runs file text k i j s e at in
    record { e2 = g.e2; expands = g.expands; left = g.left; many = g.many; goes = g.goes } in
    let k = unit_goes w too keeps number unit before d is found refl refl refl in
    let goes : plains k.toks ≡ arranged order c (plains d.value) = along_all n order c is_order of d.value k.toks k.goes in
    let long = ap length goes ∙ length-arranged n order c (plains d.value) is_order of in
    record {
      toks = k.toks;
      notes = k.notes;
      is = k.is;
      goes = goes;
      many = sym (length-map k.toks plain) ∙ long ∙ length-map d.value plain;
    }
