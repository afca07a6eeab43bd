-- Each reached run goes so; so the unit brings its tokens in the new order.
use Rattle.std.proofs.Common.{◌≡◌, ◌≤◌, ◌<◌, ℕ, zero, suc, ◌+◌, nat_lt, Bool, true, false, List, [], ◌∷◌, ◌++◌, length, take, drop, map, Option, Some, None, Result, Ok, Err, refl, ap, sym, subst, ◌∙◌, arith, append_assoc}
use Rattle.std.specs.Prelude.{slice_get}
use Rattle.std.specs.List.{flat_map}
use Rattle.std.specs.Option.{option_map}
use Rattle.std.proofs.lemmas.Bool.{ltb-true, ltb-false}
use Rattle.std.proofs.lemmas.List.{length-map}
use Rattle.std.proofs.lemmas.Option.{none-some, same_Some, slice_get-map}
use Rattle.cs_base.specs.declared.tokens.Kind.{Kind}
use Rattle.cs_base.specs.Token.{Token, origin_at}
use Rattle.macro_body.specs.declared.definitions.Definition.{Definition}
use Rattle.macro_body.specs.Hides.{toks_of}
use Rattle.macro_body.specs.Notes as expansion
use Rattle.macro_expand.specs.Expansion as expanding
use Rattle.lexer.specs.FileText.{TextValue, file_text}
use Rattle.source_files.specs.Faults.{Fault}
use Rattle.source_files.specs.Files.{Source, SourceFile, Table, Carried, carried}
use Rattle.source_files.specs.Tables.{IsGrown, AreFound}
use Rattle.source_files.specs.Limits.{the_limits}
use Rattle.unit_steps.specs.declared.events.Event.{Event}
use Rattle.unit_steps.specs.declared.events.EventKind.TheVariants as kind
use Rattle.unit_steps.specs.declared.events.Reached.{Reached}
use Rattle.unit_steps.specs.Notes.{Note, Reaches, Happened, Defined, Undefined, Tested, Left, Linked, Answered, Named, Entered, Exited, ReadOnce, named_event, events_of, reached, reached_of}
use Rattle.unit_steps.specs.State.{State, Did, Outcome}
use Rattle.unit_steps.specs.Texts.{UnitTextValue, reached_in, unit_text}
use Rattle.include_tree.specs.Preprocessed.{Preprocessed, preprocessed_by, preprocessed}
use Rattle.include_tree.specs.Unit.{unit_outcome}
use Rattle.include_tree.specs.Walk.{ItemText}
use Rattle.expansion_laws.specs.Telling.{NotesAreTrue}
use Rattle.list_cuts.specs.Cuts.{Cut, IsOrder, arranged, AreOf}
use Rattle.list_cuts.specs.CutOf.{back, is_between}
use Rattle.list_cuts.proofs.CutLemmas.{length-arranged, arranged-map}
use Rattle.expansion_laws.specs.Alike.{stands_for_line, names_line}
use Rattle.expansion_laws.specs.Arranging.{SignsStand, in_lists, LinesStay, bare, RunsAreArranged, RunsHaveCuts}
use Rattle.unit_laws.specs.Edited.{Edit, edited_carried}
use Rattle.unit_laws.specs.Reordered.{ListsStand, part_of, IsProcessed, RunsStand, UnitsAreReordered}
use Rattle.unit_laws.specs.Walking.{IsOf, IsUpTo, AreUpTo, IsFrom, AreFrom, Stands, IsReachedRun, plain, plains, GoAlong}
use Rattle.unit_laws.proofs.LineLemmas.{happened_quiet}
use Rattle.unit_laws.proofs.ReorderedPartLemmas.{of_front, behind, falls, no_list_between, in_part, not_in_back}
use Rattle.unit_laws.proofs.RunLemmas.{RunsToo}
use Rattle.unit_laws.proofs.SignLemmas.{signs_back, signs_front, signs_end}
use Rattle.unit_laws.proofs.ReorderedStepLemmas.{World, down_both, behind_at, of_first, of_later, StandAt}
use Rattle.unit_laws.proofs.ReorderedUnitLemmas.{of_back, along_none, along_both, along_all, UnitToo, unit_goes}

-- ---- what a unit tells

of_flat : {X Y : Type 0} (f : X → List Y) (xs : List X) (x : X) (y : Y) → IsOf xs x → IsOf (f x) y → IsOf (flat_map f xs) y
of_flat f [] x y at here = absurd (none-some x at.1)
of_flat f (z ∷ xs) x y (zero, is) here = of_first (f z) (flat_map f xs) y (subst (λ (u : _). IsOf (f u) y) (sym (same_Some z x is)) here)
of_flat f (z ∷ xs) x y (suc k, is) here = of_later (f z) (flat_map f xs) y (of_flat f xs x y (k, is) here)

-- ---- items that are reached

-- what is so of an item that a note reaches is so of each that it does
of_note : (P : Reached → Type 0) (events : ℕ) (note : Note) → ((f k : ℕ) (ev : Bool) (b : ℕ) → note ≡ Reaches f k ev b → P (reached f k ev events b)) → (q : Reached) → IsOf (reached_of events note) q → P q
of_note P events (Reaches f k ev b) h q (zero, is) = subst P (same_Some (reached f k ev events b) q is) (h f k ev b refl)
of_note P events (Reaches f k ev b) h q (suc m, is) = absurd (none-some q is)
of_note P events (Happened run before note) h q at = absurd (none-some q at.1)
of_note P events (Defined m before) h q at = absurd (none-some q at.1)
of_note P events (Undefined name before) h q at = absurd (none-some q at.1)
of_note P events (Tested name before) h q at = absurd (none-some q at.1)
of_note P events (Left name before) h q at = absurd (none-some q at.1)
of_note P events (Linked x y) h q at = absurd (none-some q at.1)
of_note P events (Answered t) h q at = absurd (none-some q at.1)
of_note P events (Named toks) h q at = absurd (none-some q at.1)
of_note P events (Entered pos file before) h q at = absurd (none-some q at.1)
of_note P events (Exited pos file before) h q at = absurd (none-some q at.1)
of_note P events (ReadOnce true pos file before) h q at = absurd (none-some q at.1)
of_note P events (ReadOnce false pos file before) h q at = absurd (none-some q at.1)

-- it stands in the first or in the last of them
of_either : {X : Type 0} (P : Type 0) (xs ys : List X) (x : X) → (IsOf xs x → P) → (IsOf ys x → P) → IsOf (xs ++ ys) x → P
of_either P [] ys x h k at = k at
of_either P (y ∷ xs) ys x h k (zero, is) = h (0, is)
of_either P (y ∷ xs) ys x h k (suc m, is) = of_either P xs ys x (λ at. h (suc at.0, at.1)) k (m, is)

up_reached : (most events : ℕ) (notes : List Note) → AreUpTo most notes → (q : Reached) → IsOf (reached_in events notes) q → q.before ≤ most
unfolding reached_in
up_reached most events [] up q at = absurd (none-some q at.1)
up_reached most events (note ∷ notes) up q at =
    of_either (q.before ≤ most) (reached_of events note) (reached_in (events + length (events_of note)) notes) q
    (of_note (λ r. r.before ≤ most) events note (λ f k ev b is. subst (IsUpTo most) is up.0) q) (up_reached most (events + length (events_of note)) notes up.1 q) at

down_reached : (least events : ℕ) (notes : List Note) → AreFrom least notes → (q : Reached) → IsOf (reached_in events notes) q → least ≤ q.before
unfolding reached_in
down_reached least events [] down q at = absurd (none-some q at.1)
down_reached least events (note ∷ notes) down q at =
    of_either (least ≤ q.before) (reached_of events note) (reached_in (events + length (events_of note)) notes) q
    (of_note (λ r. least ≤ r.before) events note (λ f k ev b is. subst (IsFrom least) is down.0) q) (down_reached least (events + length (events_of note)) notes down.1 q) at

-- how many events there are behind notes
events_behind : ℕ → List Note → ℕ
events_behind events [] = events
events_behind events (note ∷ notes) = events_behind (events + length (events_of note)) notes

reached_both : (events : ℕ) (ns ms : List Note) → reached_in events (ns ++ ms) ≡ reached_in events ns ++ reached_in (events_behind events ns) ms
unfolding reached_in events_behind
reached_both events [] ms = refl
reached_both events (n ∷ ns) ms =
    ap (λ (l : List Reached). reached_of events n ++ l) (reached_both (events + length (events_of n)) ns ms)
    ∙ sym (append_assoc (reached_of events n) (reached_in (events + length (events_of n)) ns) (reached_in (events_behind (events + length (events_of n)) ns) ms))

-- a note that reaches an item
record IsTold (rs : List Reached) (before : ℕ) : Type 0 where
  r : Reached
  of : IsOf rs r
  before_is : r.before ≡ before

reached_at : (notes : List Note) (events number k : ℕ) (evaluated : Bool) (before m : ℕ) → slice_get notes m ≡ Some (Reaches number k evaluated before) → IsTold (reached_in events notes) before
unfolding reached_in
reached_at [] events number k evaluated before m is = absurd (none-some (Reaches number k evaluated before) is)
reached_at (note ∷ notes) events number k evaluated before zero is =
    subst (λ (n : Note). IsTold (reached_of events n ++ reached_in (events + length (events_of n)) notes) before) (sym (same_Some note (Reaches number k evaluated before) is))
    (record { r = reached number k evaluated events before; of = (0, refl); before_is = refl })
reached_at (note ∷ notes) events number k evaluated before (suc m) is =
    let later = reached_at notes (events + length (events_of note)) number k evaluated before m is in
    record { r = later.r; of = of_later (reached_of events note) (reached_in (events + length (events_of note)) notes) later.r later.of; before_is = later.before_is }

-- what stands before a place
before_place : {X : Type 0} (xs ys : List X) (m : ℕ) (x : X) → m < length xs → slice_get (xs ++ ys) m ≡ Some x → IsOf xs x
before_place [] ys m x lt is = absurd (omega (arith, lt))
before_place (y ∷ xs) ys zero x lt is = (0, is)
before_place (y ∷ xs) ys (suc m) x lt is = let h = before_place xs ys m x (omega (arith, lt)) is in (suc h.0, h.1)

-- what stands behind it
behind_place : {X : Type 0} (xs ys : List X) (y : X) (m : ℕ) (x : X) → length xs < m → slice_get (xs ++ y ∷ ys) m ≡ Some x → IsOf ys x
behind_place [] ys y zero x lt is = absurd (omega (arith, lt))
behind_place [] ys y (suc m) x lt is = (m, is)
behind_place (z ∷ xs) ys y zero x lt is = absurd (omega (arith, lt))
behind_place (z ∷ xs) ys y (suc m) x lt is = behind_place xs ys y m x (omega (arith, lt)) is

-- a run among the items that a unit reached
pub processed_of : (told : List Note) (all : List Token) (files : Table) (file : SourceFile) (k from count : ℕ) (happened : List expansion.Note) (toks : List Token) (table : Table)
    → Stands told all files from (from + count) (Reaches file.number k false from ∷ map (Happened true from) happened) toks table → IsProcessed (unit_text all told) file k from count
unfolding reached_in
processed_of told all files file k from count happened toks table s =
    let notes : List Note = map (Happened true from) happened in
    let events : ℕ = events_behind 0 s.earlier in
    let first : List Reached = reached_in 0 s.earlier in
    let r : Reached = reached file.number k false events from in
    let later : ℕ = events + length (events_of (Reaches file.number k false from)) in
    let last : List Reached = reached_in later (notes ++ s.later) in
    let whole : reached_in 0 told ≡ first ++ r ∷ last = ap (reached_in 0) s.among ∙ reached_both 0 s.earlier (Reaches file.number k false from ∷ (notes ++ s.later)) in
    let quiet = happened_quiet true from happened in
    let place : length first + 0 ≡ length first = omega arith in
    record {
      number = length first;
      item = r;
      is = ap (λ (l : List Reached). slice_get l (length first)) whole ∙ ap (λ (n : ℕ). slice_get (first ++ r ∷ last) n) (sym place) ∙ behind_at first (r ∷ last) 0;
      file_is = refl;
      item_is = refl;
      before_is = refl;
      earlier = λ i q lt is.
          up_reached from 0 s.earlier s.up q (before_place first (r ∷ last) i q lt (subst (λ (l : List Reached). slice_get l i ≡ Some q) whole is));
      later = λ i q lt is.
          down_reached (from + count) later (notes ++ s.later) (down_both (from + count) notes s.later (quiet (from + count)).1 s.down) q
          (behind_place first last r i q lt (subst (λ (l : List Reached). slice_get l i ≡ Some q) whole is));
      next = λ some.
          let n = s.next some in
          let there = of_later notes s.later (Reaches n.0 n.1 n.2 (from + count)) n.3 in
          let q = reached_at (notes ++ s.later) later n.0 n.1 n.2 (from + count) there.0 there.1 in
          let lt : length first < length first + suc q.of.0 = omega arith in
          (length first + suc q.of.0, q.r, lt, ap (λ (l : List Reached). slice_get l (length first + suc q.of.0)) whole ∙ behind_at first (r ∷ last) (suc q.of.0) ∙ q.of.1, q.before_is);
    }

-- ---- numbers of lines

-- in no list a name is replaced by the number of its line or of the unit
lines_stay : NotesAreTrue → (edit : Edit) (old : Source) (told : List Note) (all : List Token) (files : Table) (c : Cut) → ListsStand c (unit_text all told) → (file : SourceFile) (text : TextValue) (k : ℕ) (i j : ItemText) (s : State) (e : expansion.Expanded)
    → IsReachedRun edit old told all files file text k i j s e → is_between s.before c ≡ true → (count : ℕ) → LinesStay s.macros 0 (part_of c s.before count) e.notes
lines_stay true_notes edit old told all files c lists file text k i j s e at between count = λ name m before noted here. by name m before noted here (s.macros name.text) refl
  where
    -- what happens in the expansion stands among the notes of the unit
    happens : (note : expansion.Note) → IsOf e.notes note → IsOf told (Happened true s.before note)
    happens note here =
        let notes : List Note = map (Happened true s.before) e.notes in
        let st = at.stands in
        let own : IsOf (Reaches file.number k false s.before ∷ notes) (Happened true s.before note) =
        (suc here.0, slice_get-map (Happened true s.before) e.notes here.0 ∙ ap (option_map (Happened true s.before)) here.1) in
        subst (λ (l : List Note). IsOf l (Happened true s.before note)) (sym st.among)
        (of_later st.earlier (Reaches file.number k false s.before ∷ notes ++ st.later) (Happened true s.before note)
        (of_first (Reaches file.number k false s.before ∷ notes) st.later (Happened true s.before note) own))

    by : (name m : Token) (before : ℕ) → IsOf e.notes (expansion.Replaced name m before) → in_lists 0 (part_of c s.before count) before ≡ true → (o : Option Definition) → s.macros name.text ≡ o → names_line o ≡ false
    by name m before noted here None is = refl
    by name m before noted here (Some d) is = go (stands_for_line d.form) refl
      where
        go : (x : Bool) → stands_for_line d.form ≡ x → x ≡ false
        go false f = refl
        go true f =
            let line = at.lines name.text d is f in
            let told_is = true_notes s.macros file.path i.toks s.work e at.expands (expansion.Replaced name m before) noted in
            let same : told_is.definition ≡ d = same_Some told_is.definition d (sym told_is.defined ∙ is) in
            let m_is : m ≡ d.name = sym told_is.same ∙ ap (λ (x : Definition). x.name) same in
            let first : origin_at m 0 ≡ None = ap (λ (t : Token). origin_at t 0) m_is ∙ line.0 in
            let event : Event = named_event kind.Replaced name (origin_at m 0) (s.before + before) in
            let stands : IsOf (unit_text all told).events event =
            of_flat events_of told (Happened true s.before (expansion.Replaced name m before)) event (happens (expansion.Replaced name m before) noted) (0, refl) in
            let outside : in_lists 0 c (s.before + before) ≡ false = lists.lines event name stands refl refl first line.1 in
            let inside : in_lists 0 c (s.before + before) ≡ true = in_part s.before count c before between here in
            sym inside ∙ outside

-- ---- runs

plain_bare : (ts : List Token) → map plain (map bare ts) ≡ plains ts
plain_bare [] = refl
plain_bare (t ∷ ts) = ap (λ (l : List (Kind × List ℕ)). plain t ∷ l) (plain_bare ts)

-- tokens that stand among all are a part of these
part_at : (all xs : List Token) (b : ℕ) → StandAt all b xs → take (length xs) (drop b all) ≡ xs
part_at all [] b h = refl
part_at all (x ∷ xs) b h =
    let zero_th : b + 0 ≡ b = omega arith in
    let first : slice_get all b ≡ Some x = ap (λ (n : ℕ). slice_get all n) (sym zero_th) ∙ h 0 x refl in
    let rest : take (length xs) (drop (b + 1) all) ≡ xs = part_at all xs (b + 1) (λ m t is. let on : b + 1 + m ≡ b + suc m = omega arith in ap (λ (n : ℕ). slice_get all n) on ∙ h (suc m) t is) in
    let next : suc b ≡ b + 1 = omega arith in
    ap (λ (l : List Token). take (suc (length xs)) l) (dropped all b x first) ∙ ap (λ (l : List Token). x ∷ l) (ap (λ (n : ℕ). take (length xs) (drop n all)) next ∙ rest)
  where
    dropped : (ys : List Token) (n : ℕ) (y : Token) → slice_get ys n ≡ Some y → drop n ys ≡ y ∷ drop (suc n) ys
    dropped [] n y is = absurd (none-some y is)
    dropped (z ∷ ys) zero y is = ap (λ (v : Token). v ∷ ys) (same_Some z y is)
    dropped (z ∷ ys) (suc n) y is = dropped ys n y is

-- no list goes on from a run to what is behind it
run_ends : (c : Cut) (told : List Note) (all : List Token) (files : Table) (file : SourceFile) (k from count : ℕ) → ListsStand c (unit_text all told) → from + count ≤ length all
    → IsProcessed (unit_text all told) file k from count → in_lists 0 c (from + count) ≡ false
run_ends c told all files file k from count lists room r = by (nat_lt (from + count) (length all)) refl
  where
    by : (b : Bool) → nat_lt (from + count) (length all) ≡ b → in_lists 0 c (from + count) ≡ false
    by true is = let n = r.next (ltb-true (from + count) (length all) is) in ap (λ (b : ℕ). in_lists 0 c b) (sym n.4) ∙ lists.reached n.1 (n.0, n.3)
    by false is =
        let far = ltb-false (from + count) (length all) is in
        let same : from + count ≡ 0 + length all = omega (arith, room, far) in
        ap (λ (b : ℕ). in_lists 0 c b) same ∙ signs_end 0 c all lists.marks

run_too : RunsAreArranged → RunsHaveCuts → NotesAreTrue → (edit : Edit) (n : ℕ) (order : List ℕ) (c : Cut) (old : Source) (told : List Note) (all : List Token) (files : Table) → IsOrder n order → AreOf n c
    → ListsStand c (unit_text all told) → RunsStand edit old order files c (unit_text all told) → (file : SourceFile) (text : TextValue) (k : ℕ) (i j : ItemText) (s : State) (e : expansion.Expanded)
    → IsReachedRun edit old told all files file text k i j s e
    → (e2 : expansion.Expanded) × (expanding.expansion s.macros file.path j.toks s.work ≡ Ok e2) × (e2.left ≡ e.left) × (length e2.toks ≡ length e.toks) × GoAlong order c s.before (toks_of e.toks) (toks_of e2.toks)
run_too law cuts true_notes edit n order c old told all files is_order of lists stand file text k i j s e at =
    let count : ℕ = length e.toks in
    let r = processed_of told all files file k s.before count e.notes (toks_of e.toks) s.table at.stands in
    let begins : in_lists 0 c s.before ≡ false = ap (λ (b : ℕ). in_lists 0 c b) (sym r.before_is) ∙ lists.reached r.item (r.number, r.is) in
    let ends : in_lists 0 c (s.before + count) ≡ false = run_ends c told all files file k s.before count lists at.stands.room r in
    let plus : 0 + s.before ≡ s.before = omega arith in
    let plus2 : 0 + (s.before + count) ≡ s.before + count = omega arith in
    let between : is_between s.before c ≡ true = no_list_between 0 s.before c (ap (λ (b : ℕ). in_lists 0 c b) plus ∙ begins) in
    let between2 : is_between (s.before + count) c ≡ true = no_list_between 0 (s.before + count) c (ap (λ (b : ℕ). in_lists 0 c b) plus2 ∙ ends) in
    let d : Cut = part_of c s.before count in
    let of_d : AreOf n d = of_front n count (back s.before c) (of_back n s.before c of) in
    let long : length (toks_of e.toks) ≡ count = length-map e.toks (λ h. h.tok) in
    let part : take count (drop s.before all) ≡ toks_of e.toks = ap (λ (m : ℕ). take m (drop s.before all)) (sym long) ∙ part_at all (toks_of e.toks) s.before at.stands.stand in
    let back_ends : in_lists s.before (back s.before c) (s.before + count) ≡ false = not_in_back s.before c (s.before + count) between ends in
    let signs : SignsStand d (toks_of e.toks) =
    subst (λ (l : List Token). SignsStand d l) part
    (signs_front s.before count (back s.before c) (drop s.before all) back_ends (signs_back 0 s.before c all (ap (λ (b : ℕ). in_lists 0 c b) plus ∙ begins) lists.marks)) in
    let cut = cuts s.macros file.path d i.toks s.work e at.expands signs in
    let st = stand file text k i j s e cut.0 (record {
      edited = at.edited;
      item = at.item;
      item2 = at.item2;
      run = at.run;
      reached = r;
      expands = at.expands;
      toks = at.stands.stand;
      begins = begins;
      ends = ends;
      marks = cut.1;
    }) in
    let a = law s.macros file.path n order cut.0 d i.toks st.new s.work e is_order of_d at.expands st.distinct cut.1
    (lines_stay true_notes edit old told all files c lists file text k i j s e at between count) st.stands in
    let toks : plains (toks_of a.0.toks) ≡ arranged order d (plains (toks_of e.toks)) =
    sym (plain_bare (toks_of a.0.toks)) ∙ ap (map plain) a.2.toks ∙ sym (arranged-map plain order d (map bare (toks_of e.toks))) ∙ ap (arranged order d) (plain_bare (toks_of e.toks)) in
    let many : length a.0.toks ≡ count =
    sym (length-map a.0.toks (λ h. h.tok)) ∙ sym (length-map (toks_of a.0.toks) plain) ∙ ap length toks ∙ length-arranged n order d (plains (toks_of e.toks)) is_order of_d
    ∙ length-map (toks_of e.toks) plain ∙ long in
    let b = behind s.before count c between in (
      a.0,
      ap (λ (l : List Token). expanding.expansion s.macros file.path l s.work) st.run ∙ a.1,
      a.2.left,
      many,
      λ rest.
          falls order count (back s.before c) (plains (toks_of e.toks)) rest (length-map (toks_of e.toks) plain ∙ long) (b.1 between2)
          ∙ ap (λ (l : List (Kind × List ℕ)). l ++ arranged order (back count (back s.before c)) rest) (sym toks)
          ∙ ap (λ (x : Cut). plains (toks_of a.0.toks) ++ arranged order x rest) (sym b.0)
          ∙ ap (λ (m : ℕ). plains (toks_of a.0.toks) ++ arranged order (back (s.before + m) c) rest) (sym long),
    )

-- ---- units

pub outcome_of : (earlier : ℕ) (o : Outcome (List Token)) (p : Preprocessed) → preprocessed_by earlier o ≡ Ok p
    → (d : Did (List Token)) × (o ≡ Ok d) × (p.text ≡ unit_text d.value d.notes) × (p.after ≡ carried d.state.table (earlier + length d.value))
outcome_of earlier (Ok d) p is =
    let same = same_ok (record { text = unit_text d.value d.notes; after = carried d.state.table (earlier + length d.value) }) p is in
    (d, refl, ap (λ (x : Preprocessed). x.text) (sym same), ap (λ (x : Preprocessed). x.after) (sym same))
  where
    same_ok : (x y : Preprocessed) → ◌≡◌ {A = Result Preprocessed Fault} (Ok x) (Ok y) → x ≡ y
    same_ok x y e = cc
outcome_of earlier (Err fault) p is = absurd cc

pub units_are_reordered : RunsAreArranged → RunsHaveCuts → NotesAreTrue → UnitsAreReordered
unfolding preprocessed
units_are_reordered law cuts true_notes = λ edit n order c old new number unit before p is_order of is found news keeps lists stand.
    let o = outcome_of before.toks (unit_outcome the_limits file_text old number unit before) p is in
    let d : Did (List Token) = o.0 in
    let lists2 : ListsStand c (unit_text d.value d.notes) = subst (λ (t : UnitTextValue). ListsStand c t) o.2 lists in
    let files : p.after.table ≡ d.state.table = ap (λ (a : Carried). a.table) o.3 in
    let stand2 : RunsStand edit old order d.state.table c (unit_text d.value d.notes) =
    subst (λ (t : UnitTextValue). RunsStand edit old order d.state.table c t) o.2 (subst (λ (t : Table). RunsStand edit old order t c p.text) files stand) in
    let w : World = record {
      edit = edit;
      old = old;
      new = new;
      news = news;
      told = d.notes;
      all = d.value;
      files = d.state.table;
      V = GoAlong order c;
      v_none = along_none order c;
      v_both = along_both order c;
    } in
    let runs : RunsToo w = λ file text k i j s e at.
    let g = run_too law cuts true_notes edit n order c old d.notes d.value d.state.table is_order of lists2 stand2 file text k i j s e at in
    record { e2 = g.0; expands = g.1; left = g.2; many = g.3; goes = g.4 } in
    let k : UnitToo w number unit before d = unit_goes w runs keeps number unit before d o.1 found refl refl refl in
    let toks : plains k.toks ≡ arranged order c (plains d.value) = along_all n order c is_order of d.value k.toks k.goes in
    let many : length k.toks ≡ length d.value = sym (length-map k.toks plain) ∙ ap length toks ∙ length-arranged n order c (plains d.value) is_order of ∙ length-map d.value plain in
    let after2 : Carried = carried (edited_carried edit (carried d.state.table 0)).table (before.toks + length k.toks) in
    record {
      new = record { text = unit_text k.toks k.notes; after = after2 };
      is = ap (preprocessed_by before.toks) k.is;
      toks = toks ∙ ap (λ (t : UnitTextValue). arranged order c (plains t.toks)) (sym o.2);
      after = ap (λ (m : ℕ). carried after2.table (before.toks + m)) many ∙ ap (edited_carried edit) (sym o.3);
      found = subst (λ (a : Carried). AreFound old a.table) (sym o.3) k.found;
      grown = subst (λ (a : Carried). IsGrown before.table a.table) (sym o.3) k.grown;
    }
