-- Files whose lists stand in runs: their items stay, and each run is the old one in the new order.
use Rattle.std.proofs.Common.{◌≡◌, ◌≤◌, ℕ, zero, suc, ◌+◌, ◌-◌, nat_lt, Bool, true, false, List, [], ◌∷◌, length, drop, map, Option, Some, Ok, refl, ap, sym, subst, ◌∙◌, arith, inl, inr}
use Rattle.std.specs.Prelude.{slice_get, slice_range}
use Rattle.std.specs.Option.{option_and_then}
use Rattle.std.proofs.lemmas.Bool.{ltb-true, ltb-false}
use Rattle.std.proofs.lemmas.Option.{none-some, same_Some}
use Rattle.cs_base.specs.Token.{Token}
use Rattle.cs_base.proofs.ListLemmas.{get_dropped, get_taken}
use Rattle.line_shape.specs.Items.{Follow}
use Rattle.line_shape.specs.declared.items.Item.{Item}
use Rattle.macro_body.specs.Hides.{toks_of}
use Rattle.macro_body.specs.Notes as expansion
use Rattle.lexer.specs.FileText.{TextValue, file_text}
use Rattle.lexer.specs.Order.{InOrder}
use Rattle.lexer.specs.Tokens.{tokens_of}
use Rattle.source_files.specs.Files.{Source, SourceFile, Opened, Made, Entry, entry, Table}
use Rattle.source_files.specs.KeptFiles.{kept_in}
use Rattle.source_files.specs.Sources.{read_as, source_at, source_kept}
use Rattle.unit_steps.specs.State.{State}
use Rattle.unit_steps.specs.Texts.{UnitTextValue}
use Rattle.include_tree.specs.Walk.{ItemText, item_text}
use Rattle.lexer.proofs.OrderLemmas.{tokens_of-in_order, before_of}
use Rattle.lexer.proofs.TextLemmas.{file_text-toks as text_toks}
use Rattle.line_shape.proofs.CoverLemmas.{Follow-items_of, Follow-ends as follow_ends}
use Rattle.list_cuts.specs.Cuts.{Cut, done, IsOrder, arranged, AreOf}
use Rattle.list_cuts.specs.CutOf.{front, back, is_between, is_free}
use Rattle.expansion_laws.specs.Arranging.{AreDistinct, in_lists, StandFor, CutsAreOne}
use Rattle.unit_laws.specs.Edited.{Edit}
use Rattle.unit_laws.specs.Files.{FileCuts, StandsFor, item_cut, items_at, TextStands, ItemsAreAlike, TextsStay, FilesStand, RunsMark, RunsStandInFiles}
use Rattle.unit_laws.specs.Reordered.{part_of, RunStands, IsRunOf}
use Rattle.unit_laws.specs.Walking.{AreItemsAlike, IsEdited, IsOf, text_items}
use Rattle.unit_laws.proofs.ReorderedPartLemmas.{no_list_between}
use Rattle.unit_laws.proofs.SliceLemmas.{PartStands, part_stands, stand_for}

-- ---- items

follow_within : (from to : ℕ) (items : List Item) → Follow from to items → (it : Item) → IsOf items it → (it.from ≤ it.to) × (it.to ≤ to)
follow_within from to [] f it at = absurd (none-some it at.1)
follow_within from to (i ∷ items) f it (zero, is) =
    let first = f.1 in
    let begins = f.0 in
    let rest = follow_ends i.to to items f.2 in
    let ok : i.from ≤ i.to = omega (arith, first, begins) in
    subst (λ (x : Item). (x.from ≤ x.to) × (x.to ≤ to)) (same_Some i it is) (ok, rest)
follow_within from to (i ∷ items) f it (suc k, is) = follow_within i.to to items f.2 it (k, is)

pub items_follow : (text : TextValue) (it : Item) → IsOf (items_at text) it → (it.from ≤ it.to) × (it.to ≤ length text.toks)
items_follow text it at = follow_within 0 (length text.toks) (items_at text) (Follow-items_of text.toks text.firsts) it at

-- an item of a text, in the old file and in the edited one
item_stands : (n : ℕ) (order : List ℕ) (c : Cut) (text text2 : TextValue) → IsOrder n order → AreOf n c → (t : TextStands order c text text2) → (it : Item) → IsOf (items_at text) it
    → PartStands order it.from (it.to - it.from) c t.new text.toks
item_stands n order c text text2 is of t it at =
    let w = items_follow text it at in
    let begins = w.0 in
    let ends = w.1 in
    let same : it.from + (it.to - it.from) ≡ 0 + it.to = omega (arith, begins) in
    let zero_from : 0 + it.from ≡ it.from = omega arith in
    let first : is_between it.from c ≡ true = no_list_between 0 it.from c (ap (λ (b : ℕ). in_lists 0 c b) zero_from ∙ t.begins it at) in
    let zero_to : 0 + (it.from + (it.to - it.from)) ≡ it.to = omega (arith, begins) in
    let last : is_between (it.from + (it.to - it.from)) c ≡ true = no_list_between 0 (it.from + (it.to - it.from)) c (ap (λ (b : ℕ). in_lists 0 c b) zero_to ∙ t.ends it at) in
    part_stands n order it.from (it.to - it.from) c t.new text.toks is of t.many (omega (arith, begins, ends)) first last t.stands

alike_from : (n : ℕ) (order : List ℕ) (c : Cut) (text text2 : TextValue) → IsOrder n order → AreOf n c → TextStands order c text text2 → (items : List Item)
    → ((it : Item) → IsOf items it → IsOf (items_at text) it) → AreItemsAlike (map (item_text text.toks) items) (map (item_text text2.toks) items)
alike_from n order c text text2 is of t [] all = tt
alike_from n order c text text2 is of t (i ∷ items) all =
    let here : IsOf (items_at text) i = all i (0, refl) in (
      (
        refl,
        λ other.
            let p = item_stands n order c text text2 is of t i here in
            let toks : slice_range text2.toks i.from i.to ≡ slice_range text.toks i.from i.to =
            ap (λ (l : List Token). slice_range l i.from i.to) t.toks ∙ p.free (t.others i here other) in
            ap (λ (l : List Token). record { kind = i.kind; at = i.at; toks = l }) toks,
      ),
      alike_from n order c text text2 is of t items (λ it at. all it (suc at.0, at.1)),
    )

pub items_are_alike : ItemsAreAlike
items_are_alike = λ n order c text text2 is of t.
    subst (λ (l : List Item). AreItemsAlike (text_items text) (map (item_text text2.toks) l)) (sym t.items) (alike_from n order c text text2 is of t (items_at text) (λ it at. at))

pub texts_stay : TextsStay
unfolding in_lists back is_free arranged
texts_stay = λ order text. record {
  new = text.toks;
  many = refl;
  stands = refl;
  toks = refl;
  items = refl;
  begins = λ it at. refl;
  ends = λ it at. refl;
  others = λ it at other. refl;
}

-- ---- tokens of a file

distinct_of : (from to : ℕ) (ts : List Token) → InOrder from to ts → AreDistinct ts
distinct_of from to ts h = λ i j t is is2. by i j t is is2 (nat_lt i j) refl (nat_lt j i) refl
  where
    by : (i j : ℕ) (t : Token) → slice_get ts i ≡ Some t → slice_get ts j ≡ Some t → (b : Bool) → nat_lt i j ≡ b → (d : Bool) → nat_lt j i ≡ d → i ≡ j
    by i j t is is2 true e d f = absurd (let lt = before_of from to ts h i j t t (ltb-true i j e) is is2 in omega (arith, lt))
    by i j t is is2 false e true f = absurd (let lt = before_of from to ts h j i t t (ltb-true j i f) is2 is in omega (arith, lt))
    by i j t is is2 false e false f =
        let le = ltb-false i j e in
        let le2 = ltb-false j i f in
        omega (arith, le, le2)

pub distinct_range : (ts : List Token) (from to : ℕ) → AreDistinct ts → AreDistinct (slice_range ts from to)
distinct_range ts from to h = λ i j t is is2.
    let one = get_dropped from ts i t (get_taken (to - from) (drop from ts) i t is) in
    let two = get_dropped from ts j t (get_taken (to - from) (drop from ts) j t is2) in
    let same = h (from + i) (from + j) t one two in
    omega (arith, same)

pub distinct_text : (number : ℕ) (bytes : List ℕ) (text : TextValue) → file_text number bytes ≡ Ok text → AreDistinct text.toks
distinct_text number bytes text is =
    subst AreDistinct (sym (text_toks number bytes text is)) (distinct_of 0 _ (tokens_of number bytes) (tokens_of-in_order number bytes))

-- ---- runs

-- the item with a number, and its tokens
pub item_at : (toks : List Token) (items : List Item) (k : ℕ) (i : ItemText) → slice_get (map (item_text toks) items) k ≡ Some i → (it : Item) × (slice_get items k ≡ Some it) × (i ≡ item_text toks it)
item_at toks [] k i is = absurd (none-some i is)
item_at toks (it ∷ items) zero i is = (it, refl, sym (same_Some (item_text toks it) i is))
item_at toks (it ∷ items) (suc k) i is = item_at toks items k i is

arranged_done : {X : Type 0} (order : List ℕ) (xs : List X) → arranged order done xs ≡ xs
unfolding arranged
arranged_done order xs = refl

-- the file is kept
pub kept_opened : (files : Table) (file : SourceFile) (bytes : List ℕ) → slice_get files file.number ≡ Some (entry file.path (Opened bytes)) → file_text file.number bytes ≡ Ok file.text
    → source_at files file.number ≡ Some file
kept_opened files file bytes at read =
    ap (λ (o : Option Entry). option_and_then source_kept (option_and_then (kept_in file.number) o)) at ∙ ap (read_as file.number file.path) read

pub kept_made : (files : Table) (file : SourceFile) (bytes : List ℕ) → slice_get files file.number ≡ Some (entry file.path (Made bytes)) → file_text file.number bytes ≡ Ok file.text
    → source_at files file.number ≡ Some file
kept_made files file bytes at read =
    ap (λ (o : Option Entry). option_and_then source_kept (option_and_then (kept_in file.number) o)) at ∙ ap (read_as file.number file.path) read

module _ (one : CutsAreOne) (edit : Edit) (n : ℕ) (order : List ℕ) (cuts : FileCuts) (old : Source) (files : Table) (c : Cut) (text : UnitTextValue) where
  -- the run's own cut is that of its file there
  same_cut : RunsMark cuts files c text → (file : SourceFile) (text2 : TextValue) (k : ℕ) (i j : ItemText) (s : State) (e : expansion.Expanded) (cut : Cut) → IsRunOf edit old files c text file text2 k i j s e cut
      → (it : Item) → slice_get (items_at file.text) k ≡ Some it → i ≡ item_text file.text.toks it → source_at files file.number ≡ Some file → AreDistinct file.text.toks
      → AreDistinct i.toks × (cut ≡ item_cut (cuts file.number) it)
  same_cut marks file text2 k i j s e cut at it item_is i_is kept distinct =
      let toks : i.toks ≡ slice_range file.text.toks it.from it.to = ap (λ (x : ItemText). x.toks) i_is in
      let d : AreDistinct i.toks = subst AreDistinct (sym toks) (distinct_range file.text.toks it.from it.to distinct) in
      let m = marks file k it i.toks s e cut (record {
        kept = kept;
        item = item_is;
        is_run = ap (λ (x : ItemText). x.kind) (sym i_is) ∙ at.run;
        run_is = toks;
        reached = at.reached;
        expands = at.expands;
        toks = at.toks;
        begins = at.begins;
        ends = at.ends;
        distinct = d;
        marks = at.marks;
      }) in
      (d, one cut (item_cut (cuts file.number) it) (part_of c s.before (length e.toks)) i.toks (toks_of e.toks) d at.marks m)

  run_by : IsOrder n order → FilesStand edit old n order cuts files → RunsMark cuts files c text
      → (file : SourceFile) (text2 : TextValue) (k : ℕ) (i j : ItemText) (s : State) (e : expansion.Expanded) (cut : Cut) → IsRunOf edit old files c text file text2 k i j s e cut
      → (it : Item) → slice_get (items_at file.text) k ≡ Some it → i ≡ item_text file.text.toks it → IsEdited edit old files file text2 → RunStands order i j cut
  unfolding front back
  run_by is stand marks file text2 k i j s e cut at it item_is i_is (inl (bytes, entry_is, held, read, read2)) =
      let number : ℕ = file.number in
      let toks : i.toks ≡ slice_range file.text.toks it.from it.to = ap (λ (x : ItemText). x.toks) i_is in
      let t = stand.opened number file.path bytes file.text text2 entry_is held read read2 in
      let kept : source_at files number ≡ Some file = kept_opened files file bytes entry_is read in
      let r = same_cut marks file text2 k i j s e cut at it item_is i_is kept (distinct_text number bytes file.text read) in
      let p = item_stands n order (cuts number) file.text text2 is (stand.of number file.path bytes entry_is held) t it (k, item_is) in
      let there = item_at text2.toks (items_at text2) k j at.item2 in
      let same : there.0 ≡ it = same_Some there.0 it (sym there.1 ∙ ap (λ (l : List Item). slice_get l k) t.items ∙ item_is) in
      let j_toks : j.toks ≡ slice_range text2.toks it.from it.to = ap (λ (x : ItemText). x.toks) there.2 ∙ ap (λ (x : Item). slice_range text2.toks x.from x.to) same in
      record {
        new = slice_range t.new it.from it.to;
        distinct = r.0;
        stands = stand_for cut (part_of c s.before (length e.toks)) i.toks (toks_of e.toks) (slice_range t.new it.from it.to) i.toks at.marks
            (subst (λ (x : Cut). StandsFor x (slice_range t.new it.from it.to) i.toks) (sym r.1)
            (subst (λ (l : List Token). StandsFor (item_cut (cuts number) it) (slice_range t.new it.from it.to) l) (sym toks) p.stands));
        run = j_toks ∙ ap (λ (l : List Token). slice_range l it.from it.to) t.toks ∙ p.falls ∙ ap (λ (x : Cut). arranged order x (slice_range t.new it.from it.to)) (sym r.1);
      }
  run_by is stand marks file text2 k i j s e cut at it item_is i_is (inr (bytes, entry_is, read, same)) =
      let number : ℕ = file.number in
      let kept : source_at files number ≡ Some file = kept_made files file bytes entry_is read in
      let r = same_cut marks file text2 k i j s e cut at it item_is i_is kept (distinct_text number bytes file.text read) in
      let none : cut ≡ done = r.1 ∙ ap (λ (x : Cut). item_cut x it) (stand.made number file.path bytes entry_is) in
      let j_is : j ≡ i = same_Some j i (sym at.item2 ∙ ap (λ (t : TextValue). slice_get (text_items t) k) same ∙ at.item) in
      record {
        new = i.toks;
        distinct = r.0;
        stands = subst (λ (x : Cut). StandFor x i.toks i.toks) (sym none) refl;
        run = ap (λ (x : ItemText). x.toks) j_is ∙ arranged_none_of cut i.toks none;
      }
    where
      arranged_none_of : (x : Cut) (ts : List Token) → x ≡ done → ts ≡ arranged order x ts
      arranged_none_of x ts e = sym (ap (λ (y : Cut). arranged order y ts) e ∙ arranged_done order ts)

pub runs_stand_in_files : CutsAreOne → RunsStandInFiles
runs_stand_in_files one = λ edit n order cuts old files c text is stand marks. λ file text2 k i j s e cut at.
    let own = item_at file.text.toks (items_at file.text) k i at.item in
    run_by one edit n order cuts old files c text is stand marks file text2 k i j s e cut at own.0 own.1 own.2 at.edited
