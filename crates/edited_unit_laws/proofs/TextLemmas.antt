-- Runs of text lines over the edited files.
use Rattle.std.proofs.Common.{◌≡◌, ℕ, ◌+◌, ◌-◌, nat_lt, Bool, true, false, cond, List, [], ◌∷◌, length, map, drop, Result, Ok, Err, refl, ap, sym, subst, ◌∙◌}
use Rattle.std.proofs.lemmas.List.{length-map}
use Rattle.cs_base.specs.Token.{Token}
use Rattle.lexer.specs.FileText.{TextValue}
use Rattle.macro_body.specs.declared.notes.Work.{Work}
use Rattle.macro_body.specs.Hides.{toks_of}
use Rattle.macro_body.specs.Macro.{Table as Macros}
use Rattle.macro_body.specs.Notes as expansion
use Rattle.macro_expand.specs.Expansion.{expansion}
use Rattle.macro_expand.specs.Renaming.{Renaming, renamed, renamed_note, renamed_expansion, AllOccur, AllRespected}
use Rattle.expansion_laws.proofs.FollowsLemmas.{expansion_is_renamed}
use Rattle.expansion_laws.proofs.RenamedLemmas.{toks_of-renamed}
use Rattle.unit_steps.specs.Expanding.{expanded_as, expanded_in, most_toks, past_limit, put_out, run_of}
use Rattle.source_files.specs.Files.{SourceFile}
use Rattle.unit_steps.specs.Notes.{Note, Happened}
use Rattle.include_tree.specs.GivenFiles.{unit_context}
use Rattle.unit_steps.specs.State.{Context, State, did, only}
use Rattle.source_files.proofs.TableLemmas.{grown_refl}
use Rattle.edited_unit_laws.specs.Lines.{Each}
use Rattle.edited_unit_laws.specs.Keeping.{Change, KeepsNames, Fits, KeepsNote, GoesWell}
use Rattle.edited_unit_laws.specs.Renamed.{renamed_happening}
use Rattle.edited_unit_laws.specs.Steps.{KeepsState, moved, GoesAlike, AreRenamed, IsPutOutRenamed, with_text, Grows}
use Rattle.edited_unit_laws.specs.StepLaws.{RunsGoAlike}
use Rattle.edited_unit_laws.proofs.FitLemmas.{expanded-fits}
use Rattle.edited_unit_laws.proofs.FollowLemmas.{alike-onward, alike-test, alike-did}

-- ---- notes of an expansion

notes-known : (c : Change) (run : Bool) (before : ℕ) (notes : List expansion.Note) → Each (KeepsNote c) (map (Happened run before) notes) → Each (GoesWell c) notes
notes-known c run before [] h = tt
notes-known c run before (n ∷ ns) h = (h.0, notes-known c run before ns h.1)

notes-respected : (c : Change) (notes : List expansion.Note) → Each (GoesWell c) notes → AllRespected c.occurring c.renaming notes
notes-respected c [] h = tt
notes-respected c (n ∷ ns) h = (h.0.0, notes-respected c ns h.1)

notes-moved : (r : Renaming) (run : Bool) (before : ℕ) (notes : List expansion.Note)
    → map (Happened run before) (map (renamed_note r) notes) ≡ map (renamed_happening r) (map (Happened run before) notes)
notes-moved r run before [] = refl
notes-moved r run before (n ∷ ns) = ap (λ (l : List Note). Happened run before (renamed_note r n) ∷ l) (notes-moved r run before ns)

pub fitting-occur : (c : Change) (toks : List Token) → Each (Fits c) toks → AllOccur c.occurring toks
fitting-occur c [] h = tt
fitting-occur c (t ∷ ts) h = (h.0.0, fitting-occur c ts h.1)

pub expanded-grows : (run : Bool) (file : SourceFile) (toks : List Token) (s : State) → Grows s (expanded_in run file toks s)
expanded-grows run file toks s = by (expansion s.macros file.path toks s.work)
  where
    by : (r : Result expansion.Expanded expansion.Fault) → Grows s (expanded_as run file s r)
    by (Ok e) = grown_refl s.table
    by (Err found) = tt

module _ (c : Change) (names : KeepsNames c) where
  -- ---- expansions

  with_work : (macros : Macros) (s : State) (work : Work) → KeepsState c macros s → KeepsState c macros (record s { work = work })
  with_work macros s work kept = record { macros = kept.macros; bodies = kept.bodies; names = kept.names }

  expanded-by : (run : Bool) (file : SourceFile) (text : TextValue) (toks : List Token) (macros : Macros) (s : State) (r : Result expansion.Expanded expansion.Fault)
      → expansion s.macros file.path toks s.work ≡ r → Each (Fits c) toks
      → GoesAlike c (AreRenamed c) macros s (expanded_as run file s r) (expanded_in run (with_text file text) (map (renamed c.renaming) toks) (moved c macros s))
  expanded-by run file text toks macros s (Err found) is h = tt
  expanded-by run file text toks macros s (Ok e) is h = λ reach kept told.
      let known = notes-known c run s.before e.notes told in
      let new : expansion macros file.path (map (renamed c.renaming) toks) s.work ≡ Ok (renamed_expansion c.renaming e) =
      expansion_is_renamed c.occurring c.renaming s.macros macros file.path toks s.work e kept.macros (fitting-occur c toks h) is (notes-respected c e.notes known) in
      record {
        value = map (renamed c.renaming) (toks_of e.toks);
        macros = macros;
        is = ap (expanded_as run (with_text file text) (moved c macros s)) new
            ∙ ap (λ (ts : List Token). Ok (did ts (map (Happened run s.before) (map (renamed_note c.renaming) e.notes)) (moved c macros (record s { work = e.left })))) (toks_of-renamed c.renaming e.toks)
            ∙ ap (λ (ns : List Note). Ok (did (map (renamed c.renaming) (toks_of e.toks)) ns (moved c macros (record s { work = e.left })))) (notes-moved c.renaming run s.before e.notes);
        goes_with = (refl, expanded-fits c names macros s file.path toks s.work e kept h is known);
        kept = with_work macros s e.left kept;
      }

  pub expanded-alike : (run : Bool) (file : SourceFile) (text : TextValue) (toks : List Token) (macros : Macros) (s : State) → Each (Fits c) toks
      → GoesAlike c (AreRenamed c) macros s (expanded_in run file toks s) (expanded_in run (with_text file text) (map (renamed c.renaming) toks) (moved c macros s))
  expanded-alike run file text toks macros s h = expanded-by run file text toks macros s (expansion s.macros file.path toks s.work) refl h

  -- ---- tokens that are put out

  put-grows : (ctx : Context) (file : SourceFile) (toks : List Token) (s : State) → Grows s (put_out ctx file toks s)
  put-grows ctx file toks s = by (nat_lt (most_toks ctx) (s.before + length toks))
    where
      by : (b : Bool) → Grows s (cond b (Err (past_limit file (drop (most_toks ctx - s.before) toks))) (only toks (record s { before = s.before + length toks })))
      by true = tt
      by false = grown_refl s.table

  put-alike : (ctx ctx2 : Context) (file : SourceFile) (text : TextValue) (toks new : List Token) (macros : Macros) (s : State) → most_toks ctx2 ≡ most_toks ctx → new ≡ map (renamed c.renaming) toks
      → GoesAlike c (IsPutOutRenamed c) macros s (put_out ctx file toks s) (put_out ctx2 (with_text file text) new (moved c macros s))
  put-alike ctx ctx2 file text toks new macros s most is =
      let len : length new ≡ length toks = ap length is ∙ length-map toks (renamed c.renaming) in
      let file2 : SourceFile = with_text file text in
      let test : nat_lt (most_toks ctx2) (s.before + length new) ≡ nat_lt (most_toks ctx) (s.before + length toks) =
      ap (λ (m : ℕ). nat_lt m (s.before + length new)) most ∙ ap (λ (n : ℕ). nat_lt (most_toks ctx) (s.before + n)) len in
      subst
      (λ (b : Bool). GoesAlike c (IsPutOutRenamed c) macros s (put_out ctx file toks s) (cond b (Err (past_limit file2 (drop (most_toks ctx2 - s.before) new))) (only new (record (moved c macros s) { before = s.before + length new }))))
      (sym test)
      (subst
      (λ (n : ℕ). GoesAlike c (IsPutOutRenamed c) macros s (put_out ctx file toks s)
      (cond (nat_lt (most_toks ctx) (s.before + length toks)) (Err (past_limit file2 (drop (most_toks ctx2 - s.before) new))) (only new (record (moved c macros s) { before = s.before + n }))))
      (sym len)
      (alike-test c (IsPutOutRenamed c) macros s (nat_lt (most_toks ctx) (s.before + length toks)) (past_limit file (drop (most_toks ctx - s.before) toks))
      (past_limit file2 (drop (most_toks ctx2 - s.before) new)) (only toks (record s { before = s.before + length toks }))
      (only new (record (moved c macros s) { before = s.before + length toks }))
      (alike-did c (IsPutOutRenamed c) macros macros s (record s { before = s.before + length toks }) toks new [] is
      (λ kept told. record { macros = kept.macros; bodies = kept.bodies; names = kept.names }))))

  pub run-alike : (ctx ctx2 : Context) (file : SourceFile) (text : TextValue) (toks : List Token) (macros : Macros) (s : State) → most_toks ctx2 ≡ most_toks ctx → Each (Fits c) toks
      → GoesAlike c (IsPutOutRenamed c) macros s (run_of ctx file toks s) (run_of ctx2 (with_text file text) (map (renamed c.renaming) toks) (moved c macros s))
  run-alike ctx ctx2 file text toks macros s most h =
      alike-onward c (AreRenamed c) (IsPutOutRenamed c) macros s (expanded_in true file toks s) (expanded_in true (with_text file text) (map (renamed c.renaming) toks) (moved c macros s))
      (put_out ctx file) (put_out ctx2 (with_text file text)) (put-grows ctx file) (expanded-alike true file text toks macros s h)
      (λ out new t macros2 v. put-alike ctx ctx2 file text out new macros2 t most v.0)

pub texts_are_renamed : RunsGoAlike
texts_are_renamed = λ c names old new unit earlier file text toks macros s h. run-alike c names (unit_context old unit earlier) (unit_context new unit earlier) file text toks macros s refl h
