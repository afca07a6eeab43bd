-- Runs of text lines over the edited files.
use Rattle.std.proofs.Common.{◌≡◌, ◌≤◌, ℕ, ◌+◌, ◌-◌, Bool, true, false, cond, List, [], ◌∷◌, ◌++◌, length, map, drop, Some, Result, Ok, Err, refl, ap, sym, subst, ◌∙◌, nat_lt, arith, append-nil}
use Rattle.std.specs.Prelude.{slice_get}
use Rattle.std.proofs.lemmas.List.{length-map}
use Rattle.cs_base.specs.Token.{Token}
use Rattle.cs_base.specs.Units.{UnitValue}
use Rattle.line_shape.specs.declared.items.ItemKind.TheVariants.{Run}
use Rattle.macro_body.specs.declared.notes.Work.{Work}
use Rattle.macro_body.specs.Hides.{toks_of}
use Rattle.macro_body.specs.Notes as expansion
use Rattle.macro_expand.specs.Expansion as expanding
use Rattle.lexer.specs.FileText.{TextValue}
use Rattle.source_files.specs.Files.{SourceFile}
use Rattle.unit_steps.specs.Expanding.{expanded_as, most_toks, past_limit, put_out, run_of}
use Rattle.unit_steps.specs.Notes.{Note, Reaches, Happened}
use Rattle.unit_steps.specs.State.{Context, State, did, Outcome, only, noted, onward}
use Rattle.include_tree.specs.GivenFiles.{unit_context}
use Rattle.include_tree.specs.Sections.{Section}
use Rattle.include_tree.specs.Walk.{ItemText, items_in, Stepped, stepped, reaching}
use Rattle.unit_laws.specs.Edited.{edited_state}
use Rattle.unit_laws.specs.Walking.{text_items, with_text, IsEdited, IsReachedRun, Stands}
use Rattle.source_files.proofs.TableLemmas.{grown_refl}
use Rattle.unit_laws.proofs.EditedLemmas.{edited_grown}
use Rattle.unit_laws.proofs.LineLemmas.{happened_quiet}
use Rattle.unit_laws.proofs.ReorderedStepLemmas.{World, Goes, AreQuiet, quiet_both}

-- what is wanted of each run that is reached
pub record RunToo (w : World) (file : SourceFile) (j : ItemText) (s : State) (e : expansion.Expanded) : Type 0 where
  pub e2 : expansion.Expanded
  pub expands : expanding.expansion s.macros file.path j.toks s.work ≡ Ok e2
  pub left : e2.left ≡ e.left
  pub many : length e2.toks ≡ length e.toks
  pub goes : w.V s.before (toks_of e.toks) (toks_of e2.toks)

abbrev pub RunsToo : World → Type 0
RunsToo w = (file : SourceFile) (text : TextValue) (k : ℕ) (i j : ItemText) (s : State) (e : expansion.Expanded)
    → IsReachedRun w.edit w.old w.told w.all w.files file text k i j s e → RunToo w file j s e

-- an item's tokens go with others, in the same sections
abbrev pub StepGoes : World → ℕ → Stepped → Stepped → Type 0
StepGoes w b d e = (e.sections ≡ d.sections) × w.V b d.toks e.toks

abbrev pub step_toks : Stepped → List Token
step_toks d = d.toks

module _ (w : World) (runs : RunsToo w) (unit : UnitValue) (earlier : ℕ) where
  abbrev one : Context
  one = unit_context w.old unit earlier

  abbrev two : Context
  two = unit_context w.new unit earlier

  -- the item is reached, and its tokens are put out
  pub run_goes : (file : SourceFile) (text : TextValue) (k : ℕ) (i j : ItemText) → slice_get (items_in file) k ≡ Some i → slice_get (text_items text) k ≡ Some j
      → i.kind ≡ Run → (sections : List Section) (s : State) → IsEdited w.edit w.old s.table file text
      → Goes w step_toks (StepGoes w) s (reaching file k false s (onward (run_of one file i.toks s) (λ toks t. only (stepped toks sections) t)))
      (reaching (with_text file text) k false (edited_state w.edit s) (onward (run_of two (with_text file text) j.toks (edited_state w.edit s)) (λ toks t. only (stepped toks sections) t)))
  run_goes file text k i j at at2 is_run sections s edited = by (expanding.expansion s.macros file.path i.toks s.work) refl
    where
      -- what follows the tokens
      ends : List Token → State → Outcome Stepped
      ends toks t = only (stepped toks sections) t

      new : Outcome Stepped
      new = reaching (with_text file text) k false (edited_state w.edit s) (onward (run_of two (with_text file text) j.toks (edited_state w.edit s)) ends)

      -- what is put out, unless it is too much
      put : (e : expansion.Expanded) → expanding.expansion s.macros file.path i.toks s.work ≡ Ok e → (b : Bool) → nat_lt (most_toks one) (s.before + length (toks_of e.toks)) ≡ b
          → Goes w step_toks (StepGoes w) s
          (reaching file k false s (onward (noted (map (Happened true s.before) e.notes)
          (cond b (Err (past_limit file (drop (most_toks one - s.before) (toks_of e.toks)))) (only (toks_of e.toks) (record s { work = e.left; before = s.before + length (toks_of e.toks) })))) ends))
          new
      put e e_is true few = tt
      put e e_is false few = λ fits.
          let note : Note = Reaches file.number k false s.before in
          let happened : List Note = map (Happened true s.before) e.notes in
          let calm : AreQuiet ((happened ++ []) ++ []) =
          quiet_both (happened ++ []) [] (quiet_both happened [] (happened_quiet true s.before e.notes) (λ b. (tt, tt))) (λ b. (tt, tt)) in
          let long : length (toks_of e.toks) ≡ length e.toks = length-map e.toks (λ h. h.tok) in
          record {
            fits = fits;
            counted = refl;
            grown = grown_refl s.table;
            up = (let le : s.before ≤ s.before + length (toks_of e.toks) = omega arith in le, (calm (s.before + length (toks_of e.toks))).0);
            down = (let le : s.before ≤ s.before = omega arith in le, (calm s.before).1);
            begins = λ some. (file.number, k, false, (0, refl));
            too = λ within.
                let same : (happened ++ []) ++ [] ≡ happened = append-nil (happened ++ []) ∙ append-nil happened in
                let stands : Stands w.told w.all w.files s.before (s.before + length e.toks) (note ∷ happened) (toks_of e.toks) s.table =
                subst (λ (n : ℕ). Stands w.told w.all w.files s.before (s.before + n) (note ∷ happened) (toks_of e.toks) s.table) long
                (subst (λ (l : List Note). Stands w.told w.all w.files s.before (s.before + length (toks_of e.toks)) (note ∷ l) (toks_of e.toks) s.table) same within) in
                let g = runs file text k i j s e (record {
                  edited = edited_grown w.edit w.old s.table w.files file text within.grown edited;
                  item = at;
                  item2 = at2;
                  run = is_run;
                  expands = e_is;
                  lines = fits.1;
                  stands = stands;
                }) in
                let many : length (toks_of g.e2.toks) ≡ length (toks_of e.toks) = length-map g.e2.toks (λ h. h.tok) ∙ g.many ∙ sym long in
                let notes2 : List Note = map (Happened true s.before) g.e2.notes in
                record {
                  value = stepped (toks_of g.e2.toks) sections;
                  notes = note ∷ ((notes2 ++ []) ++ []);
                  is =
                      ap (λ r. reaching (with_text file text) k false (edited_state w.edit s) (onward (onward (expanded_as true (with_text file text) (edited_state w.edit s) r) (put_out two (with_text file text))) ends)) g.expands
                      ∙ ap (λ (b : Bool). reaching (with_text file text) k false (edited_state w.edit s)
                      (onward (noted notes2 (cond b (Err (past_limit (with_text file text) (drop (most_toks two - s.before) (toks_of g.e2.toks))))
                      (only (toks_of g.e2.toks) (record (edited_state w.edit s) { work = g.e2.left; before = s.before + length (toks_of g.e2.toks) })))) ends))
                      (ap (λ (n : ℕ). nat_lt (most_toks one) (s.before + n)) many ∙ few)
                      ∙ ap (λ (n : ℕ). done g.e2 (record (edited_state w.edit s) { work = g.e2.left; before = s.before + n })) many
                      ∙ ap (λ (n : Work). done g.e2 (record (edited_state w.edit s) { work = n; before = s.before + length (toks_of e.toks) })) g.left;
                  goes = (refl, g.goes);
                };
          }
        where
          done : expansion.Expanded → State → Outcome Stepped
          done e2 t = Ok (did (stepped (toks_of e2.toks) sections) (Reaches file.number k false s.before ∷ ((map (Happened true s.before) e2.notes ++ []) ++ [])) t)

      by : (r : Result expansion.Expanded expansion.Fault) → expanding.expansion s.macros file.path i.toks s.work ≡ r
          → Goes w step_toks (StepGoes w) s (reaching file k false s (onward (onward (expanded_as true file s r) (put_out one file)) ends)) new
      by (Err found) is = tt
      by (Ok e) is = put e is (nat_lt (most_toks one) (s.before + length (toks_of e.toks))) refl
