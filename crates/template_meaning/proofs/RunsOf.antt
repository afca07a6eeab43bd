-- The lists of the functions in a run that a unit reached, and those of the run itself: the same marks.
use Rattle.std.proofs.Common.{◌≡◌, ℕ, zero, suc, ◌+◌, ◌-◌, ◌<◌, ◌≤◌, ◌⊎◌, inl, inr, Bool, true, false, List, [], ◌∷◌, ◌++◌, length, drop, map, Option, None, Some, Ok, refl, sym, ap, subst, ◌∙◌, arith}
use Rattle.std.specs.Prelude.{◌==◌, slice_get, slice_range, nat_le, nat_lt}
use Rattle.std.specs.List.{flat_map, list_any}
use Rattle.std.specs.Option.{option_map_or, option_and_then}
use Rattle.std.proofs.lemmas.Bool.{false≢true, and_from, or_left, or_right, eq-eqb, lt-ltb, le-leb, ltb-true, ltb-false, leb-true, leb-false, lt-leb}
use Rattle.std.proofs.lemmas.Option.{same_Some, slice_get_within}
use Rattle.cs_base.specs.declared.positions.Part.{Part}
use Rattle.cs_base.specs.declared.positions.Pos.{Pos}
use Rattle.cs_base.specs.Token.{Token, origin_at}
use Rattle.cs_base.proofs.ListLemmas.{get_dropped, get_taken}
use Rattle.c_types.specs.declared.lists.List.{List as NameList}
use Rattle.line_shape.specs.declared.items.Item.{Item}
use Rattle.line_shape.specs.declared.items.ItemKind.TheVariants.{Run}
use Rattle.macro_body.specs.Hides.{toks_of}
use Rattle.macro_body.specs.Notes.{Expanded}
use Rattle.unit_steps.specs.Below.macro_expand.Expansion.{expansion}
use Rattle.lexer.specs.Places.{pos}
use Rattle.source_files.specs.Files.{SourceFile, Table}
use Rattle.source_files.specs.Sources.{source_at}
use Rattle.unit_steps.specs.declared.events.Reached.{Reached}
use Rattle.unit_steps.specs.State.{State}
use Rattle.analysis.specs.Analysis.{UnitAnalysis}
use Rattle.list_cuts.specs.Cuts.{Cut}
use Rattle.expansion_laws.specs.Arranging.{MarksStand, in_lists}
use Rattle.reordered_text_laws.specs.Marks.{marks_of, first_of, last_after, last_of, Each, StandFrom, AreOfList}
use Rattle.reordered_text_laws.proofs.MarkLemmas.{cut_lists}
use Rattle.reordered_text_laws.specs.Runs.{HaveMarks}
use Rattle.reordered_text_laws.specs.Trees.{IsAmong}
use Rattle.reordered_text_laws.proofs.PartMarks.{later_by, HasPart, part_marks, beside_of, each_among}
use Rattle.reordered_text_laws.proofs.RunMarkLemmas.{runs_have_marks}
use Rattle.unit_laws.specs.Files.{items_at}
use Rattle.unit_laws.specs.Reordered.{part_of, IsProcessed}
use Rattle.template_rules.specs.FileLists.{begun_before, character_in, characters_of}
use Rattle.template_rules.specs.Functions.{origin_of}
use Rattle.template_rules.specs.Lists.{separators}
use Rattle.template_rules.specs.MacroOffences.{run_of, item_of}
use Rattle.template_rules.specs.Marks.{is_between}
use Rattle.template_meaning.specs.Units.{own_lists, own_marks, run_cut, UnitHasLists}
use Rattle.template_meaning.proofs.Counts.{counted_at, counted_few, counted_more, HasTokens, kept_tokens_have}
use Rattle.template_meaning.proofs.Walks.{each_at}

-- ---- lists

-- what is found by two maps alike
pub same_at : {X Y Z : Type 0} (f : X → Z) (g : Y → Z) (xs : List X) (ys : List Y) → map f xs ≡ map g ys → (x : X) → IsAmong xs x → (y : Y) × IsAmong ys y × (f x ≡ g y)
same_at f g [] ys e x i = absurd i
same_at f g (z ∷ xs) [] e x i = absurd (cc)
same_at f g (z ∷ xs) (y ∷ ys) e x (inl s) = let here : f z ≡ g y = cc in (y, inl refl, ap f (sym s) ∙ here)
same_at f g (z ∷ xs) (y ∷ ys) e x (inr i) =
    let rest : map f xs ≡ map g ys = cc in
    let r = same_at f g xs ys rest x i in
    (r.0, inr r.1, r.2)

pub map_among : {X Y : Type 0} (f : X → Y) (xs : List X) (x : X) → IsAmong xs x → IsAmong (map f xs) (f x)
map_among f [] x i = absurd i
map_among f (y ∷ xs) x (inl e) = inl (ap f e)
map_among f (y ∷ xs) x (inr i) = inr (map_among f xs x i)

pub among_map : {X Y : Type 0} (f : X → Y) (xs : List X) (y : Y) → IsAmong (map f xs) y → (x : X) × IsAmong xs x × (f x ≡ y)
among_map f [] y i = absurd i
among_map f (x ∷ xs) y (inl e) = (x, inl refl, e)
among_map f (x ∷ xs) y (inr i) = let r = among_map f xs y i in (r.0, inr r.1, r.2)

pub among_join : {X : Type 0} (xs ys : List X) (x : X) → IsAmong (xs ++ ys) x → IsAmong xs x ⊎ IsAmong ys x
among_join [] ys x i = inr i
among_join (z ∷ xs) ys x (inl e) = inl (inl e)
among_join (z ∷ xs) ys x (inr i) = elim (among_join xs ys x i) [ inl a ↦ inl (inr a) | inr b ↦ inr b ]

pub among_first : {X : Type 0} (xs ys : List X) (x : X) → IsAmong xs x → IsAmong (xs ++ ys) x
among_first [] ys x h = absurd h
among_first (z ∷ xs) ys x (inl e) = inl e
among_first (z ∷ xs) ys x (inr h) = inr (among_first xs ys x h)

pub among_later : {X : Type 0} (xs ys : List X) (x : X) → IsAmong ys x → IsAmong (xs ++ ys) x
among_later [] ys x h = h
among_later (z ∷ xs) ys x h = inr (among_later xs ys x h)

-- marks stand between the first and the last
between : (from limit m : ℕ) (ms : List ℕ) → StandFrom from (m ∷ ms) → last_after m ms < limit → Each (λ k. (from ≤ k) × (k < limit)) (m ∷ ms)
between from limit m [] stand lt = ((stand.0, lt), tt)
between from limit m (k ∷ ms) stand lt =
    let rest = between (m + 1) limit k ms stand.1 lt in
    let low = stand.0 in
    let next = rest.0.0 in
    let high = rest.0.1 in
    ((low, omega (arith, next, high)), lower (k ∷ ms) rest)
  where
    lower : (ks : List ℕ) → Each (λ j. (m + 1 ≤ j) × (j < limit)) ks → Each (λ j. (from ≤ j) × (j < limit)) ks
    lower [] h = tt
    lower (j ∷ ks) h = let a = h.0.0 in let low = stand.0 in ((omega (arith, a, low), h.0.1), lower ks h.1)

pub each_mark : (limit : ℕ) (l : List ℕ) → AreOfList limit l → Each (λ k. (first_of l ≤ k) × (k ≤ last_of l)) l
each_mark limit [] w = absurd w
each_mark limit (m ∷ []) w = absurd w
each_mark limit (m ∷ k ∷ ms) w =
    let b = between m (last_after k ms + 1) m (k ∷ ms) (omega arith, w.0.1) (omega arith) in
    same (m ∷ k ∷ ms) b
  where
    same : (ks : List ℕ) → Each (λ j. (m ≤ j) × (j < last_after k ms + 1)) ks → Each (λ j. (m ≤ j) × (j ≤ last_after k ms)) ks
    same [] h = tt
    same (j ∷ ks) h = let a = h.0.1 in ((h.0.0, omega (arith, a)), same ks h.1)

pub within_limit : (limit : ℕ) (l : List ℕ) → AreOfList limit l → last_of l < limit
within_limit limit [] w = absurd w
within_limit limit (m ∷ []) w = absurd w
within_limit limit (m ∷ k ∷ ms) w = w.1

-- ---- characters

-- the number of the character at which a token begins
abbrev pub char_of : Option Token → ℕ
char_of o = option_map_or (λ (t : Token). t.at.at) o 0

-- a token stands in the file where its first character comes from
abbrev pub IsPlain : ℕ → Option Token → Type 0
IsPlain file None = ⊥
IsPlain file (Some t) = origin_at t 0 ≡ Some (pos file t.at.at)

character_here : (file at : ℕ) → character_in file (pos file at) ≡ at ∷ []
character_here file at = let here : (file == file) ≡ true = eq-eqb file file refl in rw here refl

chars_one : (file : ℕ) (toks : List Token) (k : ℕ) → IsPlain file (slice_get toks k) → characters_of file toks k ≡ char_of (slice_get toks k) ∷ []
chars_one file toks k h = by (slice_get toks k) refl h
  where
    by : (o : Option Token) → slice_get toks k ≡ o → IsPlain file o → characters_of file toks k ≡ char_of o ∷ []
    by None e p = absurd p
    by (Some t) e p =
        let at : origin_of toks k ≡ Some (pos file t.at.at) = ap (option_and_then (λ (u : Token). origin_at u 0)) e ∙ p in
        ap (λ (o : Option Pos). flat_map (character_in file) (option_map_or (λ q. q ∷ []) o [])) at ∙ ap (λ (l : List ℕ). l ++ []) (character_here file t.at.at)

pub chars_are : (file : ℕ) (toks : List Token) (ms : List ℕ) → Each (λ k. IsPlain file (slice_get toks k)) ms → flat_map (characters_of file toks) ms ≡ map char_of (map (slice_get toks) ms)
chars_are file toks [] h = refl
chars_are file toks (m ∷ ms) h =
    ap (λ (l : List ℕ). l ++ flat_map (characters_of file toks) ms) (chars_one file toks m h.0) ∙ ap (λ (l : List ℕ). char_of (slice_get toks m) ∷ l) (chars_are file toks ms h.1)

pub some_at : {X : Type 0} (xs : List X) (k : ℕ) → k < length xs → (x : X) × (slice_get xs k ≡ Some x)
some_at [] k lt = absurd (omega (arith, lt))
some_at (x ∷ xs) zero lt = (x, refl)
some_at (x ∷ xs) (suc k) lt = some_at xs k (omega (arith, lt))

-- ---- runs

-- A run that a unit reached: the item of its file, its tokens and those that it put out, and where these stand in the unit.
pub record RunAt (files : Table) (members : List Part) (u : UnitAnalysis) : Type 0 where
  pub file : SourceFile
  pub k : ℕ
  pub it : Item
  pub run : List Token
  pub out : List Token
  pub before : ℕ
  pub count : ℕ
  pub cut : Cut
  pub s : State
  pub e : Expanded
  pub kept : source_at files file.number ≡ Some file
  pub item : slice_get (items_at file.text) k ≡ Some it
  pub is_run : it.kind ≡ Run
  pub expands : expansion s.macros file.path run s.work ≡ Ok e
  pub out_is : out ≡ toks_of e.toks
  pub run_is : run ≡ slice_range file.text.toks it.from it.to
  pub reached : IsProcessed u.text file k before count
  pub long : length out ≡ count
  pub toks : (m : ℕ) (t : Token) → slice_get out m ≡ Some t → slice_get u.text.toks (before + m) ≡ Some t
  pub begins : in_lists 0 (run_cut members u) before ≡ false
  pub ends : in_lists 0 (run_cut members u) (before + count) ≡ false
  pub marks : MarksStand cut (part_of (run_cut members u) before count) run out

-- a list of the functions stands among what was put out
abbrev pub IsIn : (files : Table) (members : List Part) (u : UnitAnalysis) → RunAt files members u → NameList → Type 0
IsIn files members u R l = (R.before ≤ l.name) × (l.close < R.before + R.count)

-- It has these marks in the run, and begins at this place.
pub record InRun (files : Table) (members : List Part) (u : UnitAnalysis) (R : RunAt files members u) (l : NameList) (t : List ℕ) : Type 0 where
  pub among : IsAmong (marks_of 0 R.cut) t
  pub put_out : List ℕ
  pub put_among : IsAmong (marks_of 0 (part_of (run_cut members u) R.before R.count)) put_out
  pub unit_marks : separators l ≡ later_by R.before put_out
  pub same : map (slice_get R.run) t ≡ map (slice_get R.out) put_out
  pub origin : (p : Pos) × (origin_of u.text.toks l.begin ≡ Some p) × (p.file ≡ R.file.number)
  pub chars : flat_map (characters_of R.file.number u.text.toks) (separators l) ≡ map char_of (map (slice_get R.run) t)
  pub tokens : map (begun_before R.file.text.toks) (flat_map (characters_of R.file.number u.text.toks) (separators l)) ≡ later_by R.it.from t

module _ (files : Table) (members : List Part) (order : List ℕ) (some : 0 < length order) (u : UnitAnalysis) (has : UnitHasLists members order u) where
  abbrev toks : List Token
  toks = u.text.toks

  abbrev c : Cut
  c = run_cut members u

  abbrev ARun : Type 0
  ARun = RunAt files members u

  own_marks_in : (l : NameList) → IsAmong (own_lists members u) l → IsAmong (own_marks members u) (separators l)
  own_marks_in l i = map_among separators (own_lists members u) l i

  own_among : (l : NameList) → IsAmong (own_lists members u) l → IsAmong (marks_of 0 c) (separators l)
  own_among l i = each_at (IsAmong (marks_of 0 c)) (own_marks members u) (separators l) (has.all some) (own_marks_in l i)

  pub own_list_of : (l : NameList) → IsAmong (own_lists members u) l → AreOfList (length toks) (separators l)
  own_list_of l i = each_among (AreOfList (length toks)) (marks_of 0 c) (separators l) (cut_lists 0 0 (length toks) c has.marked) (own_among l i)

  pub last_so : (m : ℕ) (ms : List ℕ) (k : ℕ) → last_after m (ms ++ k ∷ []) ≡ k
  last_so m [] k = refl
  last_so m (x ∷ ms) k = last_so x ms k

  -- its marks are in order
  pub record InOrder (l : NameList) : Type 0 where
    pub name : l.name < l.begin
    pub close : l.begin < l.close
    pub within : l.close < length toks

  pub in_order : (l : NameList) → IsAmong (own_lists members u) l → InOrder l
  in_order l i =
      let w = own_list_of l i in
      let last = last_so l.begin l.commas l.close in
      let far = within_limit (length toks) (separators l) w in
      let order_ = rising (length toks) (separators l) w in
      record { name = has.named l i; close = omega (arith, order_, last); within = omega (arith, far, last) }
    where
      after : (m k : ℕ) (ms : List ℕ) → StandFrom (m + 1) (k ∷ ms) → m < last_after k ms
      after m k [] s = let low = s.0 in omega (arith, low)
      after m k (j ∷ ms) s = let low = s.0 in let far = after k j ms s.1 in omega (arith, low, far)

      rising : (limit : ℕ) (ms : List ℕ) → AreOfList limit ms → first_of ms < last_of ms
      rising limit [] w = absurd w
      rising limit (m ∷ []) w = absurd w
      rising limit (m ∷ k ∷ ms) w = after m k ms w.0.1

  not_across : (l : NameList) → IsAmong (own_lists members u) l → (j : ℕ) (q : Reached) → slice_get u.text.reached j ≡ Some q → l.name < q.before → q.before ≤ l.close → ⊥
  not_across l i j q at low high =
      let here = and_from (nat_lt l.name q.before) (nat_le q.before l.close) (lt-ltb l.name q.before low) (le-leb q.before l.close high) in
      false≢true (sym (has.one_run l i) ∙ any_at u.text.reached j at here)
    where
      any_at : (rs : List Reached) (j : ℕ) → slice_get rs j ≡ Some q → is_between l.name l.close q.before ≡ true → list_any (λ (r : Reached). is_between l.name l.close r.before) rs ≡ true
      any_at [] j e h = absurd (cc)
      any_at (r ∷ rs) zero e h = or_left (is_between l.name l.close r.before) _ (ap (λ (x : Reached). is_between l.name l.close x.before) (same_Some r q e) ∙ h)
      any_at (r ∷ rs) (suc j) e h = or_right (is_between l.name l.close r.before) _ (any_at rs j e h)

  -- a list with a token of the run is in it
  pub whole_in : (R : ARun) (l : NameList) → IsAmong (own_lists members u) l → (k : ℕ) → l.name ≤ k → k ≤ l.close → R.before ≤ k → k < R.before + R.count → IsIn files members u R l
  whole_in R l i k low high first last =
      let p = R.reached in
      let o = in_order l i in
      let far = o.within in
      (from (nat_lt l.name R.before) refl, until (nat_le (R.before + R.count) l.close) refl)
    where
      from : (b : Bool) → nat_lt l.name R.before ≡ b → R.before ≤ l.name
      from false e = ltb-false l.name R.before e
      from true e =
          let p = R.reached in
          let at = p.before_is in
          let lt = ltb-true l.name R.before e in
          absurd (not_across l i p.number p.item p.is (omega (arith, at, lt)) (omega (arith, at, first, high)))

      until : (b : Bool) → nat_le (R.before + R.count) l.close ≡ b → l.close < R.before + R.count
      until false e = leb-false (R.before + R.count) l.close e
      until true e =
          let p = R.reached in
          let le = leb-true (R.before + R.count) l.close e in
          let o = in_order l i in
          let far = o.within in
          let n = p.next (omega (arith, le, far)) in
          let at = n.4 in
          absurd (not_across l i n.0 n.1 n.3 (omega (arith, at, low, last)) (omega (arith, at, le)))

  part : (R : ARun) → HasPart (length toks) R.before R.count c
  part R = part_marks (length toks) R.before R.count c has.marked (beside_of 0 0 (length toks) R.before c has.marked R.begins) (beside_of 0 0 (length toks) (R.before + R.count) c has.marked R.ends)

  pub have : (R : ARun) → HaveMarks R.cut (part_of c R.before R.count) R.run R.out
  have R = runs_have_marks R.cut (part_of c R.before R.count) R.run R.out R.marks

  -- what stands at marks of the part stands in the unit
  shifted : (R : ARun) (ms : List ℕ) → Each (λ m. m < length R.out) ms → map (slice_get R.out) ms ≡ map (slice_get toks) (later_by R.before ms)
  shifted R [] h = refl
  shifted R (m ∷ ms) h =
      let t = some_at R.out m h.0 in
      ap (λ (o : Option Token). o ∷ map (slice_get R.out) ms) (t.1 ∙ sym (R.toks m t.0 t.1)) ∙ ap (λ (l : List (Option Token)). slice_get toks (R.before + m) ∷ l) (shifted R ms h.1)

  pub out_bound : (R : ARun) (d : List ℕ) → IsAmong (marks_of 0 (part_of c R.before R.count)) d → Each (λ m. m < length R.out) d
  out_bound R d i =
      let h = have R in
      let w = each_among (AreOfList (length R.out)) (marks_of 0 (part_of c R.before R.count)) d (cut_lists 0 0 (length R.out) (part_of c R.before R.count) h.out_marked) i in
      let far = within_limit (length R.out) d w in
      lower d (each_mark (length R.out) d w) far
    where
      lower : (ks : List ℕ) → Each (λ k. (first_of d ≤ k) × (k ≤ last_of d)) ks → last_of d < length R.out → Each (λ m. m < length R.out) ks
      lower [] h far = tt
      lower (k ∷ ks) h far = let le = h.0.1 in (omega (arith, le, far), lower ks h.1 far)

  pub run_bound : (R : ARun) (t : List ℕ) → IsAmong (marks_of 0 R.cut) t → Each (λ m. m < length R.run) t
  run_bound R t i =
      let h = have R in
      let w = each_among (AreOfList (length R.run)) (marks_of 0 R.cut) t (cut_lists 0 0 (length R.run) R.cut h.run_marked) i in
      let far = within_limit (length R.run) t w in
      lower t (each_mark (length R.run) t w) far
    where
      lower : (ks : List ℕ) → Each (λ k. (first_of t ≤ k) × (k ≤ last_of t)) ks → last_of t < length R.run → Each (λ m. m < length R.run) ks
      lower [] h far = tt
      lower (k ∷ ks) h far = let le = h.0.1 in (omega (arith, le, far), lower ks h.1 far)

  file_has : (R : ARun) → HasTokens R.file
  file_has R = kept_tokens_have files R.file.number R.file R.kept

  -- a token of the run, in its file
  pub in_file : (R : ARun) (m : ℕ) (t : Token) → slice_get R.run m ≡ Some t → slice_get R.file.text.toks (R.it.from + m) ≡ Some t
  in_file R m t e =
      get_dropped R.it.from R.file.text.toks m t (get_taken (R.it.to - R.it.from) (drop R.it.from R.file.text.toks) m t (ap (λ (ts : List Token). slice_get ts m) (sym R.run_is) ∙ e))

  -- marks of the run and of the unit that hold the same tokens
  tokens_so : (R : ARun) (t σ : List ℕ) → Each (λ m. m < length R.run) t → map (slice_get R.run) t ≡ map (slice_get toks) σ
      → Each (λ k. IsPlain R.file.number (slice_get toks k)) σ × (map (begun_before R.file.text.toks) (map char_of (map (slice_get R.run) t)) ≡ later_by R.it.from t)
  tokens_so R [] [] h e = (tt, refl)
  tokens_so R [] (k ∷ σ) h e = absurd (cc)
  tokens_so R (m ∷ t) [] h e = absurd (cc)
  tokens_so R (m ∷ t) (k ∷ σ) h e =
      let here : slice_get R.run m ≡ slice_get toks k = cc in
      let rest : map (slice_get R.run) t ≡ map (slice_get toks) σ = cc in
      let x = some_at R.run m h.0 in
      let f = file_has R in
      let at = in_file R m x.0 x.1 in
      let r = tokens_so R t σ h.1 rest in (
        (subst (IsPlain R.file.number) (sym x.1 ∙ here) (f.origin (R.it.from + m) x.0 at), r.0),
        ap (λ (o : Option Token). begun_before R.file.text.toks (char_of o) ∷ map (begun_before R.file.text.toks) (map char_of (map (slice_get R.run) t))) x.1
            ∙ ap (λ (n : ℕ). n ∷ map (begun_before R.file.text.toks) (map char_of (map (slice_get R.run) t))) (f.begun (R.it.from + m) x.0 at)
            ∙ ap (λ (ns : List ℕ). (R.it.from + m) ∷ ns) r.1,
      )

  origin_so : (file : ℕ) (l : NameList) → Each (λ k. IsPlain file (slice_get toks k)) (separators l) → (p : Pos) × (origin_of toks l.begin ≡ Some p) × (p.file ≡ file)
  origin_so file l h = by (slice_get toks l.begin) refl h.0
    where
      by : (o : Option Token) → slice_get toks l.begin ≡ o → IsPlain file o → (p : Pos) × (origin_of toks l.begin ≡ Some p) × (p.file ≡ file)
      by None e x = absurd x
      by (Some t) e x = (pos file t.at.at, ap (option_and_then (λ (v : Token). origin_at v 0)) e ∙ x, refl)

  made : (R : ARun) (l : NameList) (t d : List ℕ) → IsAmong (marks_of 0 R.cut) t → IsAmong (marks_of 0 (part_of c R.before R.count)) d → separators l ≡ later_by R.before d
      → map (slice_get R.run) t ≡ map (slice_get R.out) d → map (slice_get R.run) t ≡ map (slice_get toks) (separators l) → InRun files members u R l t
  made R l t d i j put alike same =
      let r = tokens_so R t (separators l) (run_bound R t i) same in
      record {
        among = i;
        put_out = d;
        put_among = j;
        unit_marks = put;
        same = alike;
        origin = origin_so R.file.number l r.0;
        chars = chars_are R.file.number toks (separators l) r.0 ∙ ap (map char_of) (sym same);
        tokens = ap (map (begun_before R.file.text.toks)) (chars_are R.file.number toks (separators l) r.0 ∙ ap (map char_of) (sym same)) ∙ r.1;
      }

  -- each list in the run has its marks there
  pub in_run : (R : ARun) (l : NameList) → IsAmong (own_lists members u) l → IsIn files members u R l → (t : List ℕ) × InRun files members u R l t
  in_run R l i here =
      let p = part R in
      let o = in_order l i in
      let name = o.name in
      let last = last_so l.begin l.commas l.close in
      let low = here.0 in
      let high = here.1 in
      let all = subst (λ (ls : List (List ℕ)). IsAmong ls (separators l)) p.marks (own_among l i) in
      let middle : IsAmong (map (later_by R.before) (marks_of 0 (part_of c R.before R.count))) (separators l) = elim (among_join p.first (map (later_by R.before) (marks_of 0 (part_of c R.before R.count)) ++ p.last) (separators l) all) [
        | inl a ↦ let before_ = each_among (λ m. last_of m < R.before) p.first (separators l) p.before a in let close = o.close in absurd (omega (arith, before_, last, low, name, close))
        | inr b ↦ elim (among_join (map (later_by R.before) (marks_of 0 (part_of c R.before R.count))) p.last (separators l) b) [
          | inl m ↦ m
          | inr z ↦ let behind = each_among (λ m. R.before + R.count ≤ first_of m) p.last (separators l) p.behind z in let close = o.close in absurd (omega (arith, behind, high, close))
        ]
      ] in
      let d = among_map (later_by R.before) (marks_of 0 (part_of c R.before R.count)) (separators l) middle in
      let h = have R in
      let t = same_at (map (slice_get R.out)) (map (slice_get R.run)) (marks_of 0 (part_of c R.before R.count)) (marks_of 0 R.cut) (sym h.same) d.0 d.1 in
      let same : map (slice_get R.run) t.0 ≡ map (slice_get toks) (separators l) = sym t.2 ∙ shifted R d.0 (out_bound R d.0 d.1) ∙ ap (map (slice_get toks)) d.2 in
      (t.0, made R l t.0 d.0 t.1 d.1 (sym d.2) (sym t.2) same)

  -- and no others stand there
  pub of_run : (R : ARun) (t : List ℕ) → IsAmong (marks_of 0 R.cut) t → (l : NameList) × IsAmong (own_lists members u) l × InRun files members u R l t
  of_run R t i =
      let h = have R in
      let d = same_at (map (slice_get R.run)) (map (slice_get R.out)) (marks_of 0 R.cut) (marks_of 0 (part_of c R.before R.count)) h.same t i in
      let p = part R in
      let there : IsAmong (marks_of 0 c) (later_by R.before d.0) = subst (λ (ls : List (List ℕ)). IsAmong ls (later_by R.before d.0)) (sym p.marks)
      (among_later p.first (map (later_by R.before) (marks_of 0 (part_of c R.before R.count)) ++ p.last) (later_by R.before d.0)
      (among_first (map (later_by R.before) (marks_of 0 (part_of c R.before R.count))) p.last (later_by R.before d.0) (map_among (later_by R.before) (marks_of 0 (part_of c R.before R.count)) d.0 d.1))) in
      let own = each_at (IsAmong (own_marks members u)) (marks_of 0 c) (later_by R.before d.0) has.marks there in
      let l = among_map separators (own_lists members u) (later_by R.before d.0) own in
      let same : map (slice_get R.run) t ≡ map (slice_get toks) (separators l.0) = d.2 ∙ shifted R d.0 (out_bound R d.0 d.1) ∙ ap (map (slice_get toks)) (sym l.2) in
      (l.0, l.1, made R l.0 t d.0 i d.1 l.2 d.2 same)

  -- ---- which run a token is of

  -- a token of the run was put out for it
  pub run_is : (R : ARun) (b : ℕ) → R.before ≤ b → b < R.before + R.count → (p : IsProcessed u.text R.file R.k R.before R.count) → item_of u.text.reached b ≡ Some p.item
  run_is R b low high p =
      let at = p.before_is in
      let count = counted_at (λ (r : Reached). nat_le r.before b) u.text.reached p.number (slice_get_within u.text.reached p.number p.item p.is) (early p) (late p) in
      let less : run_of u.text.reached b - 1 ≡ p.number = omega (arith, count) in
      ap (λ (n : ℕ). slice_get u.text.reached n) less ∙ p.is
    where
      early : (p : IsProcessed u.text R.file R.k R.before R.count) → (i : ℕ) (q : Reached) → i ≤ p.number → slice_get u.text.reached i ≡ Some q → nat_le q.before b ≡ true
      early p i q le e = by (nat_lt i p.number) refl
        where
          by : (x : Bool) → nat_lt i p.number ≡ x → nat_le q.before b ≡ true
          by true f = let far = p.earlier i q (ltb-true i p.number f) e in le-leb q.before b (omega (arith, far, low))
          by false f =
              let ge = ltb-false i p.number f in
              let same : i ≡ p.number = omega (arith, ge, le) in
              let one : q ≡ p.item = same_Some q p.item (sym e ∙ ap (λ (n : ℕ). slice_get u.text.reached n) same ∙ p.is) in
              let place = ap (λ (r : Reached). r.before) one in
              let at = p.before_is in
              le-leb q.before b (omega (arith, place, at, low))

      late : (p : IsProcessed u.text R.file R.k R.before R.count) → (i : ℕ) (q : Reached) → p.number < i → slice_get u.text.reached i ≡ Some q → nat_le q.before b ≡ false
      late p i q lt e = let far = p.later i q lt e in lt-leb q.before b (omega (arith, far, high))

  -- a token that was put out for it is one of the run
  pub of_number : (R : ARun) (b : ℕ) → b < length toks → (p : IsProcessed u.text R.file R.k R.before R.count) → run_of u.text.reached b ≡ p.number + 1 → (R.before ≤ b) × (b < R.before + R.count)
  of_number R b lt p e = (from (nat_lt b R.before) refl, until (nat_le (R.before + R.count) b) refl)
    where
      from : (x : Bool) → nat_lt b R.before ≡ x → R.before ≤ b
      from false f = ltb-false b R.before f
      from true f =
          let less = ltb-true b R.before f in
          let few = counted_few (λ (r : Reached). nat_le r.before b) u.text.reached p.number (late less) in
          absurd (omega (arith, few, e))
        where
          late : b < R.before → (i : ℕ) (q : Reached) → p.number ≤ i → slice_get u.text.reached i ≡ Some q → nat_le q.before b ≡ false
          late less i q le g = by (nat_lt p.number i) refl
            where
              by : (x : Bool) → nat_lt p.number i ≡ x → nat_le q.before b ≡ false
              by true f = let far = p.later i q (ltb-true p.number i f) g in lt-leb q.before b (omega (arith, far, less))
              by false f =
                  let ge = ltb-false p.number i f in
                  let same : i ≡ p.number = omega (arith, ge, le) in
                  let one : q ≡ p.item = same_Some q p.item (sym g ∙ ap (λ (n : ℕ). slice_get u.text.reached n) same ∙ p.is) in
                  let place = ap (λ (r : Reached). r.before) one in
                  let at = p.before_is in
                  lt-leb q.before b (omega (arith, place, at, less))

      until : (x : Bool) → nat_le (R.before + R.count) b ≡ x → b < R.before + R.count
      until false f = leb-false (R.before + R.count) b f
      until true f =
          let le = leb-true (R.before + R.count) b f in
          let n = p.next (omega (arith, le, lt)) in
          let place = n.4 in
          let more = counted_more (λ (r : Reached). nat_le r.before b) u.text.reached p.number (slice_get_within u.text.reached p.number p.item p.is) (early le) n.0 n.1 n.2 n.3 (le-leb n.1.before b (omega (arith, place, le))) in
          absurd (omega (arith, more, e))
        where
          early : R.before + R.count ≤ b → (i : ℕ) (q : Reached) → i ≤ p.number → slice_get u.text.reached i ≡ Some q → nat_le q.before b ≡ true
          early le i q few g = by (nat_lt i p.number) refl
            where
              by : (x : Bool) → nat_lt i p.number ≡ x → nat_le q.before b ≡ true
              by true h = let far = p.earlier i q (ltb-true i p.number h) g in le-leb q.before b (omega (arith, far, le))
              by false h =
                  let ge = ltb-false i p.number h in
                  let same : i ≡ p.number = omega (arith, ge, few) in
                  let one : q ≡ p.item = same_Some q p.item (sym g ∙ ap (λ (n : ℕ). slice_get u.text.reached n) same ∙ p.is) in
                  let place = ap (λ (r : Reached). r.before) one in
                  let at = p.before_is in
                  le-leb q.before b (omega (arith, place, at, le))
