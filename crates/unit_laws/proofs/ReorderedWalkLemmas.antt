-- The items of files over the edited files.
use Rattle.std.proofs.Common.{◌≡◌, ℕ, zero, suc, ◌+◌, ◌<◌, ◌≤◌, Bool, true, false, not, cond, List, [], ◌∷◌, ◌++◌, length, drop, Some, None, Ok, Err, refl, ap, sym, subst, ◌∙◌, inl, inr, arith, length-append, append-nil}
use Rattle.std.specs.Prelude.{slice_get}
use Rattle.std.proofs.lemmas.Bool.{cases_Bool}
use Rattle.cs_base.specs.declared.causes.Cause.TheVariants as cause
use Rattle.cs_base.specs.declared.positions.Pos.{Pos}
use Rattle.cs_base.specs.Token.{Token}
use Rattle.cs_base.specs.Units.{UnitValue, is_gnu}
use Rattle.line_shape.specs.Directives.{is_run}
use Rattle.line_shape.specs.declared.items.ItemKind.{ItemKind}
use Rattle.line_shape.specs.declared.items.ItemKind.TheVariants as kind
use Rattle.line_shape.specs.declared.items.GnuLine.TheVariants as gnu
use Rattle.lexer.specs.FileText.{TextValue}
use Rattle.source_files.specs.Faults.{fault_at}
use Rattle.source_files.specs.Files.{SourceFile}
use Rattle.unit_steps.specs.Conditions.{holds}
use Rattle.unit_steps.specs.Directives.{operand_in, opens_with, is_if, goes_with}
use Rattle.unit_steps.specs.Notes.{Note, Reaches}
use Rattle.unit_steps.specs.State.{State, Did, Outcome, only, noted, onward}
use Rattle.include_tree.specs.Including.{Inner}
use Rattle.include_tree.specs.Sections.{Group, Processed, Awaited, Over, Skipped, Section, section, are_processed, group_if, group_after, group_of_else, Turn, Opens, GoesOn, GoesLast, Ends, Stays, turn_of}
use Rattle.include_tree.specs.Asking.{gnu_holds, asks_files, opens_in, goes_in}
use Rattle.include_tree.specs.Walk.{ItemText, items_in, processed, Stepped, stepped, reaching, reaching_alive, go_on, opens, goes_on, in_section, turned, is_foreign, foreign_line, item_step, file_end, walk, file_items}
use Rattle.unit_laws.specs.Edited.{edited_state}
use Rattle.unit_laws.specs.Walking.{IsItemAlike, AreItemsAlike, text_items, KeepsTexts, with_text, IsEdited, IsReachedAt}
use Rattle.unit_laws.proofs.ReorderedStepLemmas.{World, Still, Goes, Same, Within, itself, up_both, up_more, down_both, down_less, reached_first, reached_later, within_first, within_later, StandAt, stand_front, stand_behind, goes_only, goes_noted, still_then, still_cond, goes_then, goes_cond, goes_test}
use Rattle.unit_laws.proofs.OpenLemmas.{ctx, ctx2}
use Rattle.unit_laws.proofs.ReorderedAskingLemmas.{gnu_goes}
use Rattle.unit_laws.proofs.LineLemmas.{holds_goes, asks_goes, define_goes, undef_goes, ProcessGoes, InnerGoes, pragma_goes, include_goes, include_next_goes}
use Rattle.source_files.specs.Tables.{IsGrown}
use Rattle.source_files.proofs.TableLemmas.{grown_trans}
use Rattle.unit_laws.proofs.EditedLemmas.{edited_grown}
use Rattle.unit_laws.proofs.RunLemmas.{RunsToo, StepGoes, step_toks, run_goes}

-- ---- a step that puts tokens out, and what follows it

-- tokens behind others
behind_more : {A : Type 0} (w : World) (out : A → List Token) (R : A → A → Type 0) → ((a : A) → R a a) → (s : State) (d : Did A) (m : Outcome (List Token)) (new : Outcome A) (rest2 : A → State → Outcome (List Token))
    → Goes w out (λ b x y. R x y × w.V b (out x) (out y)) s (Ok d) new
    → ((b : A) → R d.value b → IsGrown s.table d.state.table → Goes w itself w.V d.state m (rest2 b (edited_state w.edit d.state)))
    → Goes w itself w.V s (noted d.notes (onward m (λ toks u. only (out d.value ++ toks) u))) (onward new (λ a t. onward (rest2 a t) (λ toks u. only (out a ++ toks) u)))
behind_more w out R itself_is s d (Err found) new rest2 h k = tt
behind_more w out R itself_is s d (Ok e) new rest2 h k = λ fits.
    let f = h fits in
    let g0 = k d.value (itself_is d.value) f.grown f.fits in
    let here = f.counted in
    let there = g0.counted in
    let many = length-append (out d.value) e.value in
    let le : s.before ≤ d.state.before = omega (arith, here) in
    let le2 : d.state.before ≤ e.state.before = omega (arith, there) in
    record {
      fits = g0.fits;
      counted = omega (arith, here, there, many);
      grown = grown_trans s.table d.state.table e.state.table f.grown g0.grown;
      up = up_both e.state.before d.notes (e.notes ++ []) (up_more d.state.before e.state.before d.notes le2 f.up) (up_both e.state.before e.notes [] g0.up tt);
      down = down_both s.before d.notes (e.notes ++ []) f.down (down_less s.before d.state.before (e.notes ++ []) le (down_both d.state.before e.notes [] g0.down tt));
      begins = λ some. begins_by (out d.value) e.value f.begins (λ none. g0.begins) here some;
      too = λ within.
          let stand2 = subst (λ (b : ℕ). StandAt w.all b e.value) (sym here) (stand_behind w.all s.before (out d.value) e.value within.stand) in
          let a = f.too (within_first w s d.state e.state d.notes (e.notes ++ []) (out d.value ++ e.value) (out d.value) (length e.value) within
          (stand_front w.all s.before (out d.value) e.value within.stand) there (down_both d.state.before e.notes [] g0.down tt)
          (λ some. reached_first d.state.before e.notes [] (g0.begins some)) g0.grown) in
          let g = k a.value a.goes.0 f.grown f.fits in
          let b = g.too (subst (λ (l : List Note). Within w d.state e.state l e.value) (append-nil e.notes)
          (within_later w s d.state e.state d.notes (e.notes ++ []) (out d.value ++ e.value) e.value within stand2 le f.up)) in
          record {
            value = out a.value ++ b.value;
            notes = a.notes ++ (b.notes ++ []);
            is =
                ap (λ o. onward o (λ a t. onward (rest2 a t) (λ toks u. only (out a ++ toks) u))) a.is
                ∙ ap (λ o. noted a.notes (onward o (λ toks u. only (out a.value ++ toks) u))) b.is;
            goes = w.v_both s.before (out d.value) (out a.value) e.value b.value a.goes.1 (subst (λ (n : ℕ). w.V n e.value b.value) here b.goes);
          };
    }
  where
    begins_by : (xs ys : List Token) → (0 < length xs → IsReachedAt s.before d.notes) → (length xs ≡ 0 → 0 < length ys → IsReachedAt d.state.before e.notes) → d.state.before ≡ s.before + length xs
        → 0 < length (xs ++ ys) → IsReachedAt s.before (d.notes ++ (e.notes ++ []))
    begins_by [] ys one two is some =
        let same : d.state.before ≡ s.before = omega (arith, is) in
        reached_later s.before d.notes (e.notes ++ []) (reached_first s.before e.notes [] (subst (λ (b : ℕ). IsReachedAt b e.notes) same (two refl some)))
    begins_by (x ∷ xs) ys one two is some = reached_first s.before d.notes (e.notes ++ []) (one (omega arith))

pub goes_more : {A : Type 0} (w : World) (out : A → List Token) (R : A → A → Type 0) → ((a : A) → R a a) → (s : State) (m new : Outcome A) (rest rest2 : A → State → Outcome (List Token))
    → Goes w out (λ b x y. R x y × w.V b (out x) (out y)) s m new
    → ((a b : A) (t : State) → R a b → IsGrown s.table t.table → Goes w itself w.V t (rest a t) (rest2 b (edited_state w.edit t)))
    → Goes w itself w.V s (onward m (λ a t. onward (rest a t) (λ toks u. only (out a ++ toks) u))) (onward new (λ a t. onward (rest2 a t) (λ toks u. only (out a ++ toks) u)))
goes_more w out R itself_is s (Err found) new rest rest2 h k = tt
goes_more w out R itself_is s (Ok d) new rest rest2 h k = behind_more w out R itself_is s d (rest d.value d.state) new rest2 h (λ b r grown. k d.value b d.state r grown)

pub goes_map : {A : Type 0} (w : World) (out : A → List Token) (W W2 : ℕ → A → A → Type 0) (s : State) (m new : Outcome A) → ((b : ℕ) (x y : A) → W b x y → W2 b x y)
    → Goes w out W s m new → Goes w out W2 s m new
goes_map w out W W2 s (Err found) new more h = tt
goes_map w out W W2 s (Ok d) new more h = λ fits.
    let k = h fits in
    record {
      fits = k.fits;
      counted = k.counted;
      grown = k.grown;
      up = k.up;
      down = k.down;
      begins = k.begins;
      too = λ within. let t = k.too within in record { value = t.value; notes = t.notes; is = t.is; goes = more s.before d.value t.value t.goes };
    }

run_is : (k : ItemKind) → is_run k ≡ true → k ≡ kind.Run
run_is kind.Run h = refl
run_is kind.Define h = absurd cc
run_is kind.Undef h = absurd cc
run_is kind.If h = absurd cc
run_is kind.Ifdef h = absurd cc
run_is kind.Ifndef h = absurd cc
run_is kind.Elif h = absurd cc
run_is kind.Else h = absurd cc
run_is kind.Endif h = absurd cc
run_is kind.Include h = absurd cc
run_is kind.Line h = absurd cc
run_is kind.Error h = absurd cc
run_is kind.Pragma h = absurd cc
run_is kind.Empty h = absurd cc
run_is (kind.Bad c place nests) h = absurd cc
run_is (kind.Gnu line) h = absurd cc

-- these items stand among all of a file from one on
abbrev ItemsAt : List ItemText → ℕ → List ItemText → Type 0
ItemsAt all from is = (m : ℕ) (i : ItemText) → slice_get is m ≡ Some i → slice_get all (from + m) ≡ Some i

items_more : (all : List ItemText) (from : ℕ) (i : ItemText) (is : List ItemText) → ItemsAt all from (i ∷ is) → ItemsAt all (from + 1) is
items_more all from i is h = λ m j at. let on : from + 1 + m ≡ from + suc m = omega arith in rw on (h (suc m) j at)

items_here : (all : List ItemText) (from : ℕ) (i : ItemText) (is : List ItemText) → ItemsAt all from (i ∷ is) → slice_get all from ≡ Some i
items_here all from i is h = let same : from + 0 ≡ from = omega arith in subst (λ (n : ℕ). slice_get all n ≡ Some i) same (h 0 i refl)

items_all : (all : List ItemText) → ItemsAt all 0 all
items_all all = λ m i at. let same : 0 + m ≡ m = omega arith in rw same at

module _ (w : World) (runs : RunsToo w) (keeps : KeepsTexts w.edit w.old) (unit : UnitValue) (earlier : ℕ) where
  nothing_goes : (s : State) → Goes w itself w.V s (only [] s) (only [] (edited_state w.edit s))
  nothing_goes s = goes_only w itself w.V s [] [] (w.v_none s.before) refl

  processed_same : (inner inner2 : Inner) → InnerGoes w inner inner2 → (file : SourceFile) (text : TextValue) (k : ItemKind) (at : Pos) (toks : List Token) (s : State) → is_run k ≡ false
      → Goes w itself w.V s (processed (ctx w keeps unit earlier) inner file k at toks s) (processed (ctx2 w keeps unit earlier) inner2 (with_text file text) k at toks (edited_state w.edit s))
  processed_same inner inner2 goes file text kind.Run at toks s other = absurd cc
  processed_same inner inner2 goes file text kind.Define at toks s other = define_goes w (is_gnu unit.standard) file (with_text file text) at toks s
  processed_same inner inner2 goes file text kind.Undef at toks s other = undef_goes w file (with_text file text) at toks s
  processed_same inner inner2 goes file text kind.Include at toks s other = include_goes w keeps unit earlier inner inner2 goes file text at toks s
  processed_same inner inner2 goes file text kind.Error at toks s other = tt
  processed_same inner inner2 goes file text (kind.Bad c place nests) at toks s other = tt
  processed_same inner inner2 goes file text (kind.Gnu gnu.IncludeNext) at toks s other = include_next_goes w keeps unit earlier inner inner2 goes file text at toks s
  processed_same inner inner2 goes file text (kind.Gnu gnu.Message) at toks s other = nothing_goes s
  processed_same inner inner2 goes file text (kind.Gnu gnu.Elifdef) at toks s other = nothing_goes s
  processed_same inner inner2 goes file text (kind.Gnu gnu.Elifndef) at toks s other = nothing_goes s
  processed_same inner inner2 goes file text kind.If at toks s other = nothing_goes s
  processed_same inner inner2 goes file text kind.Ifdef at toks s other = nothing_goes s
  processed_same inner inner2 goes file text kind.Ifndef at toks s other = nothing_goes s
  processed_same inner inner2 goes file text kind.Elif at toks s other = nothing_goes s
  processed_same inner inner2 goes file text kind.Else at toks s other = nothing_goes s
  processed_same inner inner2 goes file text kind.Endif at toks s other = nothing_goes s
  processed_same inner inner2 goes file text kind.Line at toks s other = nothing_goes s
  processed_same inner inner2 goes file text kind.Pragma at toks s other = pragma_goes w (is_gnu unit.standard) file text at toks s
  processed_same inner inner2 goes file text kind.Empty at toks s other = nothing_goes s

  opens_with_goes : (file : SourceFile) (text : TextValue) (k : ItemKind) (at : Pos) (toks : List Token) (s : State)
      → Still w Same s (opens_with k file at toks s) (opens_with k (with_text file text) at toks (edited_state w.edit s))
  opens_with_goes file text kind.If at toks s = holds_goes w file text at (drop 2 toks) s
  opens_with_goes file text kind.Ifdef at toks s = asks_goes w file (with_text file text) at (λ b. b) s (operand_in toks)
  opens_with_goes file text kind.Ifndef at toks s = asks_goes w file (with_text file text) at not s (operand_in toks)
  opens_with_goes file text (kind.Bad c place nests) at toks s = tt
  opens_with_goes file text (kind.Gnu line) at toks s = tt
  opens_with_goes file text kind.Run at toks s = tt
  opens_with_goes file text kind.Define at toks s = tt
  opens_with_goes file text kind.Undef at toks s = tt
  opens_with_goes file text kind.Elif at toks s = tt
  opens_with_goes file text kind.Else at toks s = tt
  opens_with_goes file text kind.Endif at toks s = tt
  opens_with_goes file text kind.Include at toks s = tt
  opens_with_goes file text kind.Line at toks s = tt
  opens_with_goes file text kind.Error at toks s = tt
  opens_with_goes file text kind.Pragma at toks s = tt
  opens_with_goes file text kind.Empty at toks s = tt

  goes_with_goes : (file : SourceFile) (text : TextValue) (k : ItemKind) (at : Pos) (toks : List Token) (s : State)
      → Still w Same s (goes_with k file at toks s) (goes_with k (with_text file text) at toks (edited_state w.edit s))
  goes_with_goes file text (kind.Gnu gnu.Elifdef) at toks s = asks_goes w file (with_text file text) at (λ b. b) s (operand_in toks)
  goes_with_goes file text (kind.Gnu gnu.Elifndef) at toks s = asks_goes w file (with_text file text) at not s (operand_in toks)
  goes_with_goes file text (kind.Gnu gnu.IncludeNext) at toks s = tt
  goes_with_goes file text (kind.Gnu gnu.Message) at toks s = tt
  goes_with_goes file text (kind.Bad c place nests) at toks s = holds_goes w file text at (drop 2 toks) s
  goes_with_goes file text kind.Run at toks s = holds_goes w file text at (drop 2 toks) s
  goes_with_goes file text kind.Define at toks s = holds_goes w file text at (drop 2 toks) s
  goes_with_goes file text kind.Undef at toks s = holds_goes w file text at (drop 2 toks) s
  goes_with_goes file text kind.If at toks s = holds_goes w file text at (drop 2 toks) s
  goes_with_goes file text kind.Ifdef at toks s = holds_goes w file text at (drop 2 toks) s
  goes_with_goes file text kind.Ifndef at toks s = holds_goes w file text at (drop 2 toks) s
  goes_with_goes file text kind.Elif at toks s = holds_goes w file text at (drop 2 toks) s
  goes_with_goes file text kind.Else at toks s = holds_goes w file text at (drop 2 toks) s
  goes_with_goes file text kind.Endif at toks s = holds_goes w file text at (drop 2 toks) s
  goes_with_goes file text kind.Include at toks s = holds_goes w file text at (drop 2 toks) s
  goes_with_goes file text kind.Line at toks s = holds_goes w file text at (drop 2 toks) s
  goes_with_goes file text kind.Error at toks s = holds_goes w file text at (drop 2 toks) s
  goes_with_goes file text kind.Pragma at toks s = holds_goes w file text at (drop 2 toks) s
  goes_with_goes file text kind.Empty at toks s = holds_goes w file text at (drop 2 toks) s

  opens_in_goes : (file : SourceFile) (text : TextValue) (k : ItemKind) (at : Pos) (toks : List Token) (s : State)
      → Still w Same s (opens_in (ctx w keeps unit earlier) k file at toks s) (opens_in (ctx2 w keeps unit earlier) k (with_text file text) at toks (edited_state w.edit s))
  opens_in_goes file text k at toks s =
      still_cond w Same s (asks_files unit.standard k) (gnu_holds (ctx w keeps unit earlier) file at (drop 2 toks) s) (opens_with k file at toks s)
      (gnu_holds (ctx2 w keeps unit earlier) (with_text file text) at (drop 2 toks) (edited_state w.edit s)) (opens_with k (with_text file text) at toks (edited_state w.edit s))
      (gnu_goes w keeps unit earlier file text at (drop 2 toks) s) (opens_with_goes file text k at toks s)

  goes_in_goes : (file : SourceFile) (text : TextValue) (k : ItemKind) (at : Pos) (toks : List Token) (s : State)
      → Still w Same s (goes_in (ctx w keeps unit earlier) k file at toks s) (goes_in (ctx2 w keeps unit earlier) k (with_text file text) at toks (edited_state w.edit s))
  goes_in_goes file text k at toks s =
      still_cond w Same s (asks_files unit.standard k) (gnu_holds (ctx w keeps unit earlier) file at (drop 2 toks) s) (goes_with k file at toks s)
      (gnu_holds (ctx2 w keeps unit earlier) (with_text file text) at (drop 2 toks) (edited_state w.edit s)) (goes_with k (with_text file text) at toks (edited_state w.edit s))
      (gnu_goes w keeps unit earlier file text at (drop 2 toks) s) (goes_with_goes file text k at toks s)

  -- ---- sections

  only_goes : (s : State) (sections : List Section) → Goes w step_toks (StepGoes w) s (only (stepped [] sections) s) (only (stepped [] sections) (edited_state w.edit s))
  only_goes s sections = goes_only w step_toks (StepGoes w) s (stepped [] sections) (stepped [] sections) (refl, w.v_none s.before) refl

  reaching_goes : (file : SourceFile) (text : TextValue) (k : ℕ) (evaluated : Bool) (s : State) (m new : Outcome Stepped) → Goes w step_toks (StepGoes w) s m new
      → Goes w step_toks (StepGoes w) s (reaching file k evaluated s m) (reaching (with_text file text) k evaluated (edited_state w.edit s) new)
  reaching_goes file text k evaluated s m new h =
      let le : s.before ≤ s.before = omega arith in
      goes_noted w step_toks (StepGoes w) s (Reaches file.number k evaluated s.before ∷ []) m new (le, tt) (le, tt) h

  -- what follows a truth value
  value_then : (s : State) (m new : Outcome Bool) (next : Bool → List Section) → Still w Same s m new
      → Goes w step_toks (StepGoes w) s (onward m (λ b t. only (stepped [] (next b)) t)) (onward new (λ b t. only (stepped [] (next b)) t))
  value_then s m new next h =
      still_then w Same step_toks (StepGoes w) s m new (λ b t. only (stepped [] (next b)) t) (λ b t. only (stepped [] (next b)) t) h
      (λ a b t r. goes_only w step_toks (StepGoes w) t (stepped [] (next a)) (stepped [] (next b)) (ap next r, w.v_none t.before) refl)

  opens_goes : (file : SourceFile) (text : TextValue) (k : ℕ) (i : ItemText) (sections : List Section) (s : State)
      → Goes w step_toks (StepGoes w) s (opens (ctx w keeps unit earlier) file k i sections s) (opens (ctx2 w keeps unit earlier) (with_text file text) k i sections (edited_state w.edit s))
  opens_goes file text k i sections s =
      let next : Bool → List Section = λ b. section i.at (group_if b) false ∷ sections in
      goes_cond w step_toks (StepGoes w) s (are_processed sections)
      (reaching file k (is_if i.kind) s (onward (opens_in (ctx w keeps unit earlier) i.kind file i.at i.toks s) (λ b t. only (stepped [] (next b)) t)))
      (only (stepped [] (section i.at Skipped false ∷ sections)) s)
      (reaching (with_text file text) k (is_if i.kind) (edited_state w.edit s) (onward (opens_in (ctx2 w keeps unit earlier) i.kind (with_text file text) i.at i.toks (edited_state w.edit s)) (λ b t. only (stepped [] (next b)) t)))
      (only (stepped [] (section i.at Skipped false ∷ sections)) (edited_state w.edit s))
      (reaching_goes file text k (is_if i.kind) s (onward (opens_in (ctx w keeps unit earlier) i.kind file i.at i.toks s) (λ b t. only (stepped [] (next b)) t))
      (onward (opens_in (ctx2 w keeps unit earlier) i.kind (with_text file text) i.at i.toks (edited_state w.edit s)) (λ b t. only (stepped [] (next b)) t))
      (value_then s (opens_in (ctx w keeps unit earlier) i.kind file i.at i.toks s) (opens_in (ctx2 w keeps unit earlier) i.kind (with_text file text) i.at i.toks (edited_state w.edit s)) next (opens_in_goes file text i.kind i.at i.toks s)))
      (only_goes s (section i.at Skipped false ∷ sections))

  goes_on_goes : (file : SourceFile) (text : TextValue) (k : ℕ) (i : ItemText) (open_ : Section) (sections : List Section) (s : State) (g : Group)
      → Goes w step_toks (StepGoes w) s (goes_on (ctx w keeps unit earlier) file k i open_ sections s g) (goes_on (ctx2 w keeps unit earlier) (with_text file text) k i open_ sections (edited_state w.edit s) g)
  goes_on_goes file text k i open_ sections s Awaited =
      let next : Bool → List Section = λ b. section open_.opening (group_if b) false ∷ sections in
      reaching_goes file text k true s (onward (goes_in (ctx w keeps unit earlier) i.kind file i.at i.toks s) (λ b t. only (stepped [] (next b)) t))
      (onward (goes_in (ctx2 w keeps unit earlier) i.kind (with_text file text) i.at i.toks (edited_state w.edit s)) (λ b t. only (stepped [] (next b)) t))
      (value_then s (goes_in (ctx w keeps unit earlier) i.kind file i.at i.toks s) (goes_in (ctx2 w keeps unit earlier) i.kind (with_text file text) i.at i.toks (edited_state w.edit s)) next (goes_in_goes file text i.kind i.at i.toks s))
  goes_on_goes file text k i open_ sections s Skipped = only_goes s (section open_.opening Skipped false ∷ sections)
  goes_on_goes file text k i open_ sections s Processed =
      let next : List Section = section open_.opening (group_after Processed) false ∷ sections in
      reaching_goes file text k false s (only (stepped [] next) s) (only (stepped [] next) (edited_state w.edit s)) (only_goes s next)
  goes_on_goes file text k i open_ sections s Over =
      let next : List Section = section open_.opening (group_after Over) false ∷ sections in
      reaching_goes file text k false s (only (stepped [] next) s) (only (stepped [] next) (edited_state w.edit s)) (only_goes s next)

  alive_goes : (file : SourceFile) (text : TextValue) (k : ℕ) (g : Group) (s : State) (next : List Section)
      → Goes w step_toks (StepGoes w) s (reaching_alive file k g s (only (stepped [] next) s)) (reaching_alive (with_text file text) k g (edited_state w.edit s) (only (stepped [] next) (edited_state w.edit s)))
  alive_goes file text k Processed s next = reaching_goes file text k false s (only (stepped [] next) s) (only (stepped [] next) (edited_state w.edit s)) (only_goes s next)
  alive_goes file text k Awaited s next = reaching_goes file text k false s (only (stepped [] next) s) (only (stepped [] next) (edited_state w.edit s)) (only_goes s next)
  alive_goes file text k Over s next = reaching_goes file text k false s (only (stepped [] next) s) (only (stepped [] next) (edited_state w.edit s)) (only_goes s next)
  alive_goes file text k Skipped s next = only_goes s next

  in_section_goes : (file : SourceFile) (text : TextValue) (i : ItemText) (turn : Turn) (sections : List Section) (s : State) (next next2 : Section → List Section → Outcome Stepped)
      → ((o : Section) (around : List Section) → Goes w step_toks (StepGoes w) s (next o around) (next2 o around))
      → Goes w step_toks (StepGoes w) s (in_section file i turn sections next) (in_section (with_text file text) i turn sections next2)
  in_section_goes file text i turn [] s next next2 h = tt
  in_section_goes file text i Ends (o ∷ around) s next next2 h = h o around
  in_section_goes file text i Opens (o ∷ around) s next next2 h =
      goes_test w step_toks (StepGoes w) s o.after_else (fault_at file i.at cause.UnbalancedIf) (fault_at (with_text file text) i.at cause.UnbalancedIf) (next o around) (next2 o around) (h o around)
  in_section_goes file text i GoesOn (o ∷ around) s next next2 h =
      goes_test w step_toks (StepGoes w) s o.after_else (fault_at file i.at cause.UnbalancedIf) (fault_at (with_text file text) i.at cause.UnbalancedIf) (next o around) (next2 o around) (h o around)
  in_section_goes file text i GoesLast (o ∷ around) s next next2 h =
      goes_test w step_toks (StepGoes w) s o.after_else (fault_at file i.at cause.UnbalancedIf) (fault_at (with_text file text) i.at cause.UnbalancedIf) (next o around) (next2 o around) (h o around)
  in_section_goes file text i Stays (o ∷ around) s next next2 h =
      goes_test w step_toks (StepGoes w) s o.after_else (fault_at file i.at cause.UnbalancedIf) (fault_at (with_text file text) i.at cause.UnbalancedIf) (next o around) (next2 o around) (h o around)

  -- an item that opens no section and ends none
  stays_goes : (file : SourceFile) (text : TextValue) (k : ℕ) (sections : List Section) (s : State) (m new : Outcome (List Token))
      → Goes w itself w.V s m new
      → Goes w step_toks (StepGoes w) s
      (cond (are_processed sections) (reaching file k false s (onward m (λ toks t. only (stepped toks sections) t))) (only (stepped [] sections) s))
      (cond (are_processed sections) (reaching (with_text file text) k false (edited_state w.edit s) (onward new (λ toks t. only (stepped toks sections) t))) (only (stepped [] sections) (edited_state w.edit s)))
  stays_goes file text k sections s m new h =
      goes_cond w step_toks (StepGoes w) s (are_processed sections) (reaching file k false s (onward m (λ toks t. only (stepped toks sections) t))) (only (stepped [] sections) s)
      (reaching (with_text file text) k false (edited_state w.edit s) (onward new (λ toks t. only (stepped toks sections) t))) (only (stepped [] sections) (edited_state w.edit s))
      (reaching_goes file text k false s (onward m (λ toks t. only (stepped toks sections) t)) (onward new (λ toks t. only (stepped toks sections) t))
      (goes_then w itself w.V step_toks (StepGoes w) s m new (λ toks. stepped toks sections) (λ t. []) (λ a. refl) (λ b x y v. (refl, v)) (λ t. refl) (λ t b. (tt, tt)) h))
      (only_goes s sections)

  -- an item that is no run
  turned_same : (inner inner2 : Inner) → InnerGoes w inner inner2 → (file : SourceFile) (text : TextValue) (k : ℕ) (i : ItemText) (sections : List Section) (s : State) → is_run i.kind ≡ false → (turn : Turn)
      → Goes w step_toks (StepGoes w) s (turned (ctx w keeps unit earlier) inner file k i sections s turn) (turned (ctx2 w keeps unit earlier) inner2 (with_text file text) k i sections (edited_state w.edit s) turn)
  turned_same inner inner2 goes file text k i sections s other Opens = opens_goes file text k i sections s
  turned_same inner inner2 goes file text k i sections s other GoesOn =
      in_section_goes file text i GoesOn sections s (λ open_ around. goes_on (ctx w keeps unit earlier) file k i open_ around s open_.group)
      (λ open_ around. goes_on (ctx2 w keeps unit earlier) (with_text file text) k i open_ around (edited_state w.edit s) open_.group) (λ o around. goes_on_goes file text k i o around s o.group)
  turned_same inner inner2 goes file text k i sections s other GoesLast =
      in_section_goes file text i GoesLast sections s (λ open_ around. reaching_alive file k open_.group s (only (go_on open_ (group_of_else open_.group) true around) s))
      (λ open_ around. reaching_alive (with_text file text) k open_.group (edited_state w.edit s) (only (go_on open_ (group_of_else open_.group) true around) (edited_state w.edit s)))
      (λ o around. alive_goes file text k o.group s (section o.opening (group_of_else o.group) true ∷ around))
  turned_same inner inner2 goes file text k i sections s other Ends =
      in_section_goes file text i Ends sections s (λ open_ around. reaching_alive file k open_.group s (only (stepped [] around) s))
      (λ open_ around. reaching_alive (with_text file text) k open_.group (edited_state w.edit s) (only (stepped [] around) (edited_state w.edit s)))
      (λ o around. alive_goes file text k o.group s around)
  turned_same inner inner2 goes file text k i sections s other Stays =
      stays_goes file text k sections s (processed (ctx w keeps unit earlier) inner file i.kind i.at i.toks s) (processed (ctx2 w keeps unit earlier) inner2 (with_text file text) i.kind i.at i.toks (edited_state w.edit s))
      (processed_same inner inner2 goes file text i.kind i.at i.toks s other)

  -- a line that GNU C alone has, in a unit of another standard
  foreign_goes : (file : SourceFile) (text : TextValue) (i : ItemText) (sections : List Section) (s : State)
      → Goes w step_toks (StepGoes w) s (foreign_line file i sections s) (foreign_line (with_text file text) i sections (edited_state w.edit s))
  foreign_goes file text i sections s =
      goes_cond w step_toks (StepGoes w) s (are_processed sections) (Err (fault_at file i.at cause.BadDirective)) (only (stepped [] sections) s)
      (Err (fault_at (with_text file text) i.at cause.BadDirective)) (only (stepped [] sections) (edited_state w.edit s)) tt (only_goes s sections)

  -- an item that is no run
  step_same : (inner inner2 : Inner) → InnerGoes w inner inner2 → (file : SourceFile) (text : TextValue) (k : ℕ) (i : ItemText) (sections : List Section) (s : State) → is_run i.kind ≡ false
      → Goes w step_toks (StepGoes w) s (item_step (ctx w keeps unit earlier) inner file k i sections s) (item_step (ctx2 w keeps unit earlier) inner2 (with_text file text) k i sections (edited_state w.edit s))
  step_same inner inner2 goes file text k i sections s other =
      goes_cond w step_toks (StepGoes w) s (is_foreign unit.standard i.kind) (foreign_line file i sections s)
      (turned (ctx w keeps unit earlier) inner file k i sections s (turn_of i.kind)) (foreign_line (with_text file text) i sections (edited_state w.edit s))
      (turned (ctx2 w keeps unit earlier) inner2 (with_text file text) k i sections (edited_state w.edit s) (turn_of i.kind)) (foreign_goes file text i sections s)
      (turned_same inner inner2 goes file text k i sections s other (turn_of i.kind))

  item_goes : (inner inner2 : Inner) → InnerGoes w inner inner2 → (file : SourceFile) (text : TextValue) (k : ℕ) (i j : ItemText) → IsItemAlike i j
      → slice_get (items_in file) k ≡ Some i → slice_get (text_items text) k ≡ Some j → (sections : List Section) (s : State) → IsEdited w.edit w.old s.table file text
      → Goes w step_toks (StepGoes w) s (item_step (ctx w keeps unit earlier) inner file k i sections s) (item_step (ctx2 w keeps unit earlier) inner2 (with_text file text) k j sections (edited_state w.edit s))
  item_goes inner inner2 goes file text k i j alike at at2 sections s edited = elim (cases_Bool (is_run i.kind)) [
    | inl is ↦
        let k1 : i.kind ≡ kind.Run = run_is i.kind is in
        let k2 : j.kind ≡ kind.Run = alike.0 ∙ k1 in
        subst (λ (x : ItemKind). Goes w step_toks (StepGoes w) s (step_of x) (item_step (ctx2 w keeps unit earlier) inner2 (with_text file text) k j sections (edited_state w.edit s))) (sym k1)
        (subst (λ (y : ItemKind). Goes w step_toks (StepGoes w) s (step_of kind.Run) (step2_of y)) (sym k2)
        (goes_cond w step_toks (StepGoes w) s (are_processed sections)
        (reaching file k false s (onward (processed (ctx w keeps unit earlier) inner file kind.Run i.at i.toks s) (λ toks t. only (stepped toks sections) t))) (only (stepped [] sections) s)
        (reaching (with_text file text) k false (edited_state w.edit s)
        (onward (processed (ctx2 w keeps unit earlier) inner2 (with_text file text) kind.Run j.at j.toks (edited_state w.edit s)) (λ toks t. only (stepped toks sections) t)))
        (only (stepped [] sections) (edited_state w.edit s))
        (run_goes w runs unit earlier file text k i j at at2 k1 sections s edited) (only_goes s sections)))
    | inr other ↦
        subst (λ (x : ItemText). Goes w step_toks (StepGoes w) s (item_step (ctx w keeps unit earlier) inner file k i sections s) (item_step (ctx2 w keeps unit earlier) inner2 (with_text file text) k x sections (edited_state w.edit s)))
        (sym (alike.1 other)) (step_same inner inner2 goes file text k i sections s other)
  ]
    where
      step_of : ItemKind → Outcome Stepped
      step_of x = item_step (ctx w keeps unit earlier) inner file k (record { kind = x; at = i.at; toks = i.toks }) sections s

      step2_of : ItemKind → Outcome Stepped
      step2_of y = item_step (ctx2 w keeps unit earlier) inner2 (with_text file text) k (record { kind = y; at = j.at; toks = j.toks }) sections (edited_state w.edit s)

  -- ---- all items

  end_goes : (file : SourceFile) (text : TextValue) (sections : List Section) (s : State) → Goes w itself w.V s (file_end file sections s) (file_end (with_text file text) sections (edited_state w.edit s))
  end_goes file text [] s = nothing_goes s
  end_goes file text (o ∷ sections) s = tt

  walk_goes : (inner inner2 : Inner) → InnerGoes w inner inner2 → (file : SourceFile) (text : TextValue) (k : ℕ) (is js : List ItemText) → AreItemsAlike is js
      → ItemsAt (items_in file) k is → ItemsAt (text_items text) k js → (sections : List Section) (s : State) → IsEdited w.edit w.old s.table file text
      → Goes w itself w.V s (walk (ctx w keeps unit earlier) inner file k is sections s) (walk (ctx2 w keeps unit earlier) inner2 (with_text file text) k js sections (edited_state w.edit s))
  unfolding walk
  walk_goes inner inner2 goes file text k [] [] alike at at2 sections s edited = end_goes file text sections s
  walk_goes inner inner2 goes file text k [] (j ∷ js) alike at at2 sections s edited = absurd alike
  walk_goes inner inner2 goes file text k (i ∷ is) [] alike at at2 sections s edited = absurd alike
  walk_goes inner inner2 goes file text k (i ∷ is) (j ∷ js) alike at at2 sections s edited =
      goes_more w step_toks (λ d e. e.sections ≡ d.sections) (λ d. refl) s (item_step (ctx w keeps unit earlier) inner file k i sections s)
      (item_step (ctx2 w keeps unit earlier) inner2 (with_text file text) k j sections (edited_state w.edit s))
      (λ d t. walk (ctx w keeps unit earlier) inner file (k + 1) is d.sections t) (λ d t. walk (ctx2 w keeps unit earlier) inner2 (with_text file text) (k + 1) js d.sections t)
      (item_goes inner inner2 goes file text k i j alike.0 (items_here (items_in file) k i is at) (items_here (text_items text) k j js at2) sections s edited)
      (λ d e t same grown.
      subst (λ (x : List Section). Goes w itself w.V t (walk (ctx w keeps unit earlier) inner file (k + 1) is d.sections t) (walk (ctx2 w keeps unit earlier) inner2 (with_text file text) (k + 1) js x (edited_state w.edit t))) (sym same)
      (walk_goes inner inner2 goes file text (k + 1) is js alike.1 (items_more (items_in file) k i is at) (items_more (text_items text) k j js at2) d.sections t
      (edited_grown w.edit w.old s.table t.table file text grown edited)))

  pub files_go : (room : ℕ) → ProcessGoes w (file_items (ctx w keeps unit earlier) room) (file_items (ctx2 w keeps unit earlier) room)
  unfolding file_items
  files_go zero file text items s edited =
      walk_goes None None tt file text 0 (items_in file) (text_items text) items (items_all (items_in file)) (items_all (text_items text)) [] s edited
  files_go (suc room) file text items s edited =
      walk_goes (Some (file_items (ctx w keeps unit earlier) room)) (Some (file_items (ctx2 w keeps unit earlier) room)) (files_go room) file text 0 (items_in file) (text_items text) items
      (items_all (items_in file)) (items_all (text_items text)) [] s edited
