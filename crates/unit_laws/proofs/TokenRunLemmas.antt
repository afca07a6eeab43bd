-- Each token of a unit is of a run: so the walk says over files that stay as they are.
use Rattle.std.proofs.Common.{◌≡◌, ◌<◌, ℕ, ◌+◌, ◌-◌, Bool, true, false, List, ◌++◌, length, Option, Some, None, Result, Ok, refl, ap, sym, subst, ◌∙◌, arith, inl, inr, length-append}
use Rattle.std.specs.Prelude.{nat_le, slice_get, slice_range}
use Rattle.std.specs.Option.{option_map}
use Rattle.std.proofs.lemmas.Bool.{leb-true, leb-false}
use Rattle.std.proofs.lemmas.List.{length-map}
use Rattle.std.proofs.lemmas.Option.{same_Some}
use Rattle.cs_base.specs.Token.{Token}
use Rattle.macro_body.specs.Hides.{toks_of}
use Rattle.macro_body.specs.Notes as expansion
use Rattle.macro_expand.specs.Expansion as expanding
use Rattle.lexer.specs.FileText.{TextValue, LexFault, file_text}
use Rattle.source_files.specs.Files.{Source, SourceFile, Table, Carried}
use Rattle.source_files.specs.Limits.{the_limits}
use Rattle.source_files.specs.Sources.{source_at}
use Rattle.source_files.specs.Tables.{IsGrown, AreFound}
use Rattle.unit_steps.specs.Notes.{Note}
use Rattle.unit_steps.specs.State.{State, Did}
use Rattle.unit_steps.specs.Texts.{UnitTextValue, unit_text}
use Rattle.include_tree.specs.Preprocessed.{preprocessed}
use Rattle.include_tree.specs.Unit.{unit_outcome}
use Rattle.include_tree.specs.Walk.{ItemText}
use Rattle.include_tree.proofs.StayingLemmas.{source-grown}
use Rattle.expansion_laws.specs.Arranging.{AreDistinct}
use Rattle.unit_laws.specs.Edited.{Edit, IsEditedSource}
use Rattle.unit_laws.specs.Files.{items_at}
use Rattle.unit_laws.specs.TokenRuns.{TokenRun, UnitTokensAreOfRuns}
use Rattle.unit_laws.specs.Walking.{IsEdited, IsReachedRun, KeepsTexts, text_items}
use Rattle.unit_laws.proofs.ReorderedFileLemmas.{item_at, kept_opened, kept_made, distinct_text, distinct_range}
use Rattle.unit_laws.proofs.OpenLemmas.{alike_itself}
use Rattle.unit_laws.proofs.ReorderedLemmas.{outcome_of, processed_of}
use Rattle.unit_laws.proofs.RunLemmas.{RunsToo}
use Rattle.unit_laws.proofs.ReorderedStepLemmas.{World}
use Rattle.unit_laws.proofs.ReorderedUnitLemmas.{UnitToo, unit_goes}

-- ---- files that stay

stays : Edit
stays path bytes = bytes

stays_source : (old : Source) → IsEditedSource stays old old
unfolding stays
stays_source old path = by (old path)
  where
    by : (o : Option (List ℕ)) → o ≡ option_map (λ bytes. bytes) o
    by None = refl
    by (Some bytes) = refl

stays_texts : (old : Source) → KeepsTexts stays old
unfolding stays
stays_texts old = record { sizes = λ path bytes held. refl; items = λ number path bytes text held read. (text, read, alike_itself (text_items text)) }

-- the text is that of the file, which is kept
stays_text : (old : Source) (files : Table) (file : SourceFile) (text : TextValue) → IsEdited stays old files file text
    → (text ≡ file.text) × (source_at files file.number ≡ Some file) × AreDistinct file.text.toks
unfolding stays
stays_text old files file text (inl (bytes, at, held, read, read2)) =
    (same text file.text (sym read2 ∙ read), kept_opened files file bytes at read, distinct_text file.number bytes file.text read)
  where
    same : (x y : TextValue) → ◌≡◌ {A = Result TextValue LexFault} (Ok x) (Ok y) → x ≡ y
    same x y e = cc
stays_text old files file text (inr (bytes, at, read, same)) = (same, kept_made files file bytes at read, distinct_text file.number bytes file.text read)

-- ---- tokens

-- each of these tokens, behind so many, is of a run
AreOfRuns : Table → UnitTextValue → ℕ → List Token → Type 0
AreOfRuns files text before xs = (m : ℕ) → m < length xs → TokenRun files text (before + m)

runs_both : (files : Table) (text : UnitTextValue) (before : ℕ) (xs ys : List Token) → AreOfRuns files text before xs → AreOfRuns files text (before + length xs) ys → AreOfRuns files text before (xs ++ ys)
unfolding AreOfRuns
runs_both files text before xs ys h k m lt = by (nat_le (length xs) m) refl
  where
    by : (b : Bool) → nat_le (length xs) m ≡ b → TokenRun files text (before + m)
    by false e = h m (leb-false (length xs) m e)
    by true e =
        let le = leb-true (length xs) m e in
        let long = length-append xs ys in
        let same : before + length xs + (m - length xs) ≡ before + m = omega (arith, le) in
        subst (TokenRun files text) same (k (m - length xs) (omega (arith, le, lt, long)))

run_of_tokens : (old : Source) (told : List Note) (all : List Token) (files : Table) (file : SourceFile) (text : TextValue) (k : ℕ) (i j : ItemText) (s : State) (e : expansion.Expanded)
    → IsReachedRun stays old told all files file text k i j s e → AreOfRuns files (unit_text all told) s.before (toks_of e.toks)
unfolding AreOfRuns
run_of_tokens old told all files file text k i j s e at m lt =
    let t = stays_text old files file text at.edited in
    let own = item_at file.text.toks (items_at file.text) k i at.item in
    let long : length (toks_of e.toks) ≡ length e.toks = length-map e.toks (λ h. h.tok) in
    let toks : i.toks ≡ slice_range file.text.toks own.0.from own.0.to = ap (λ (x : ItemText). x.toks) own.2 in
    record {
      file = file;
      k = k;
      it = own.0;
      run = i.toks;
      s = s;
      e = e;
      kept = t.1;
      item = own.1;
      is_run = ap (λ (x : ItemText). x.kind) (sym own.2) ∙ at.run;
      run_is = toks;
      reached = processed_of told all files file k s.before (length e.toks) e.notes (toks_of e.toks) s.table at.stands;
      expands = at.expands;
      toks = at.stands.stand;
      low = omega arith;
      high = omega (arith, lt, long);
      distinct = subst AreDistinct (sym toks) (distinct_range file.text.toks own.0.from own.0.to t.2);
    }

pub unit_tokens_are_of_runs : UnitTokensAreOfRuns
unfolding preprocessed AreOfRuns
unit_tokens_are_of_runs = λ old number unit before p is found.
    let o = outcome_of before.toks (unit_outcome the_limits file_text old number unit before) p is in
    let d : Did (List Token) = o.0 in
    let text : UnitTextValue = unit_text d.value d.notes in
    let w : World = record {
      edit = stays;
      old = old;
      new = old;
      news = stays_source old;
      told = d.notes;
      all = d.value;
      files = d.state.table;
      V = λ from xs ys. AreOfRuns d.state.table text from xs;
      v_none = λ from m none. absurd (omega (arith, none));
      v_both = λ from xs xs2 ys ys2 h k. runs_both d.state.table text from xs ys h k;
    } in
    let runs : RunsToo w = λ file text2 k i j s e at.
    let t = stays_text old d.state.table file text2 at.edited in
    let same : j ≡ i = same_Some j i (sym at.item2 ∙ ap (λ (x : TextValue). slice_get (text_items x) k) t.0 ∙ at.item) in
    record {
      e2 = e;
      expands = ap (λ (x : ItemText). expanding.expansion s.macros file.path x.toks s.work) same ∙ at.expands;
      left = refl;
      many = refl;
      goes = run_of_tokens old d.notes d.value d.state.table file text2 k i j s e at;
    } in
    let k : UnitToo w number unit before d = unit_goes w runs (stays_texts old) number unit before d o.1 found refl refl refl in
    record {
      tokens = λ b lt.
          let count : 0 + b ≡ b = omega arith in
          let here : TokenRun d.state.table text b = subst (TokenRun d.state.table text) count (k.goes b (subst (λ (x : UnitTextValue). b < length x.toks) o.2 lt)) in
          subst (λ (x : Carried). TokenRun x.table p.text b) (sym o.3) (subst (λ (x : UnitTextValue). TokenRun d.state.table x b) (sym o.2) here);
      found = subst (λ (x : Carried). AreFound old x.table) (sym o.3) k.found;
      grown = subst (λ (x : Carried). IsGrown before.table x.table) (sym o.3) k.grown;
    }

-- it is a run in a table that has grown
pub token_run_grown : (t u : Table) (text : UnitTextValue) (b : ℕ) → IsGrown t u → TokenRun t text b → TokenRun u text b
token_run_grown t u text b grown r = record {
  file = r.file;
  k = r.k;
  it = r.it;
  run = r.run;
  s = r.s;
  e = r.e;
  kept = source-grown t u r.file.number r.file grown r.kept;
  item = r.item;
  is_run = r.is_run;
  run_is = r.run_is;
  reached = r.reached;
  expands = r.expands;
  toks = r.toks;
  low = r.low;
  high = r.high;
  distinct = r.distinct;
}
