-- The texts of all units over the edited files are those in the new order.
use Rattle.std.proofs.Common.{◌≡◌, ℕ, suc, ◌+◌, List, [], ◌∷◌, length, Result, Ok, Err, refl, ap, sym, subst, ◌∙◌}
use Rattle.cs_base.specs.Answer.{result_then, result_map_err}
use Rattle.cs_base.specs.Token.{Token}
use Rattle.cs_base.specs.Units.{UnitValue}
use Rattle.cs_base.proofs.AnswerLemmas.{unmapped}
use Rattle.lexer.specs.FileText.{file_text}
use Rattle.source_files.specs.Faults.{Fault}
use Rattle.source_files.specs.Files.{Source, Table, Carried, carried}
use Rattle.source_files.specs.Limits.{the_limits}
use Rattle.source_files.specs.Tables.{IsGrown, AreFound}
use Rattle.unit_steps.specs.State.{Outcome}
use Rattle.unit_steps.specs.Texts.{UnitTextValue, unit_text}
use Rattle.include_tree.specs.Preprocessed.{Preprocessed, preprocessed_by, preprocessed}
use Rattle.include_tree.specs.Unit.{unit_outcome}
use Rattle.analysis.specs.Analysis.{UnitAnalysis}
use Rattle.analysis.specs.Texts.{TextsValue, texts_and, UnitFault, unit_fault, with_front, unit_with, texts_from}
use Rattle.analysis.specs.Changed.{texts_in}
use Rattle.edited_unit_laws.proofs.AloneLemmas.{ok-same}
use Rattle.edited_unit_laws.proofs.UnitLemmas.{unit-grows}
use Rattle.edited_unit_laws.proofs.WorkspaceLemmas.{then-ok}
use Rattle.list_cuts.specs.Cuts.{Cut, IsOrder, arranged}
use Rattle.unit_laws.specs.Edited.{Edit, edited_files, edited_carried, IsEditedSource}
use Rattle.unit_laws.specs.Reordered.{ListsStand, RunsStand, UnitsAreReordered}
use Rattle.unit_laws.specs.Walking.{KeepsTexts, IsOf, plains}
use Rattle.source_files.proofs.TableLemmas.{grown_refl, grown_trans}
use Rattle.unit_laws.proofs.EditedLemmas.{edited_grown}
use Rattle.edited_unit_laws.specs.ReorderedAnalyses.{UnitCuts, UnitStands}

-- ---- one unit

mapped : {X E F : Type 0} (change : E → F) (r : Result X E) (x : X) → r ≡ Ok x → result_map_err change r ≡ Ok x
mapped change r x e = ap (result_map_err change) e

-- the table of a unit only grows
unit_grown : (old : Source) (number : ℕ) (unit : UnitValue) (before : Carried) (p : Preprocessed) → preprocessed old number unit before ≡ Ok p → IsGrown before.table p.after.table
unfolding preprocessed
unit_grown old number unit before p is = by (unit_outcome the_limits file_text old number unit before) refl is
  where
    by : (o : Outcome (List Token)) → unit_outcome the_limits file_text old number unit before ≡ o → preprocessed_by before.toks o ≡ Ok p → IsGrown before.table p.after.table
    by (Ok d) o_is e =
        let same = ok-same {E = Fault} (record { text = unit_text d.value d.notes; after = carried d.state.table (before.toks + length d.value) }) p e in
        subst (λ (x : Preprocessed). IsGrown before.table x.after.table) same (unit-grows old number unit before d o_is)
    by (Err fault) o_is e = absurd cc

-- so does that of all units
pub texts_grown : (old : Source) (number : ℕ) (units : List UnitValue) (before : Carried) (t : TextsValue) → texts_from old number units before ≡ Ok t → IsGrown before.table t.table
unfolding texts_from
texts_grown old number [] before t h =
    subst (λ (x : TextsValue). IsGrown before.table x.table) (ok-same {E = UnitFault} (texts_and [] before.table) t h) (grown_refl before.table)
texts_grown old number (unit ∷ units) before t h =
    let first = then-ok (λ p. result_then (λ later. Ok (with_front p.text later)) (texts_from old (number + 1) units p.after)) (unit_with old number unit before) t h in
    let p : Preprocessed = first.0 in
    let rest = then-ok (λ later. Ok (with_front p.text later)) (texts_from old (number + 1) units p.after) t first.2 in
    let here = unit_grown old number unit before p (unmapped (unit_fault number) (preprocessed old number unit before) p first.1) in
    subst (λ (x : TextsValue). IsGrown before.table x.table) (ok-same {E = UnitFault} (with_front p.text rest.0) t rest.2)
    (grown_trans before.table p.after.table rest.0.table here (texts_grown old (number + 1) units p.after rest.0 rest.1))

-- runs that stand with the files of the end stand with those of before
runs_earlier : (edit : Edit) (old : Source) (order : List ℕ) (t u : Table) (c : Cut) (text : UnitTextValue) → IsGrown t u → RunsStand edit old order u c text → RunsStand edit old order t c text
runs_earlier edit old order t u c text grown stand = λ file text2 k i j s e cut at.
    stand file text2 k i j s e cut (record {
      edited = edited_grown edit old t u file text2 grown at.edited;
      item = at.item;
      item2 = at.item2;
      run = at.run;
      reached = at.reached;
      expands = at.expands;
      toks = at.toks;
      begins = at.begins;
      ends = at.ends;
      marks = at.marks;
    })

-- ---- all units

-- texts with the tokens of units in the new order, one by one
abbrev pub AreArranged : List ℕ → UnitCuts → List UnitAnalysis → List UnitTextValue → Type 0
AreArranged order cuts [] [] = Unit {0}
AreArranged order cuts (u ∷ us) (t ∷ ts) = (plains t.toks ≡ arranged order (cuts u) (plains u.text.toks)) × AreArranged order cuts us ts
AreArranged order cuts _ _ = ⊥

-- the texts of units over the edited files
pub record TextsToo (edit : Edit) (order : List ℕ) (cuts : UnitCuts) (new : Source) (number : ℕ) (units : List UnitValue) (before : Carried) (us : List UnitAnalysis) (table : Table) : Type 0 where
  pub texts : List UnitTextValue
  pub is : texts_from new number units (edited_carried edit before) ≡ Ok (texts_and texts (edited_files edit table))
  pub arranged : AreArranged order cuts us texts

module _ (law : UnitsAreReordered) (edit : Edit) (n : ℕ) (order : List ℕ) (cuts : UnitCuts) (old new : Source) (is : IsOrder n order) (news : IsEditedSource edit old new) (keeps : KeepsTexts edit old) where
  pub texts_too : (number : ℕ) (units : List UnitValue) (before : Carried) (us : List UnitAnalysis) (table files : Table) → texts_from old number units before ≡ Ok (texts_and (texts_in us) table)
      → AreFound old before.table → IsGrown table files → ((u : UnitAnalysis) → IsOf us u → UnitStands edit old n order files (cuts u) u) → TextsToo edit order cuts new number units before us table
  unfolding texts_from
  texts_too number [] before [] table files h found reach all =
      let same : before.table ≡ table = ap (λ (x : TextsValue). x.table) (ok-same {E = UnitFault} (texts_and [] before.table) (texts_and [] table) h) in
      record { texts = []; is = ap (λ (x : Table). Ok (texts_and [] (edited_files edit x))) same; arranged = tt }
  texts_too number [] before (u ∷ us) table files h found reach all =
      let same = ap (λ (x : TextsValue). x.texts) (ok-same {E = UnitFault} (texts_and [] before.table) (texts_and (texts_in (u ∷ us)) table) h) in
      absurd cc
  texts_too number (unit ∷ units) before [] table files h found reach all =
      let first = then-ok (λ p. result_then (λ later. Ok (with_front p.text later)) (texts_from old (number + 1) units p.after)) (unit_with old number unit before) (texts_and [] table) h in
      let rest = then-ok (λ later. Ok (with_front first.0.text later)) (texts_from old (number + 1) units first.0.after) (texts_and [] table) first.2 in
      let same = ap (λ (x : TextsValue). x.texts) (ok-same {E = UnitFault} (with_front first.0.text rest.0) (texts_and [] table) rest.2) in
      absurd cc
  texts_too number (unit ∷ units) before (u ∷ us) table files h found reach all =
      let whole : TextsValue = texts_and (texts_in (u ∷ us)) table in
      let first = then-ok (λ p. result_then (λ later. Ok (with_front p.text later)) (texts_from old (number + 1) units p.after)) (unit_with old number unit before) whole h in
      let p : Preprocessed = first.0 in
      let p_is : preprocessed old number unit before ≡ Ok p = unmapped (unit_fault number) (preprocessed old number unit before) p first.1 in
      let rest = then-ok (λ later. Ok (with_front p.text later)) (texts_from old (number + 1) units p.after) whole first.2 in
      let t : TextsValue = rest.0 in
      let same : with_front p.text t ≡ whole = ok-same {E = UnitFault} (with_front p.text t) whole rest.2 in
      let texts : p.text ∷ t.texts ≡ u.text ∷ texts_in us = ap (λ (x : TextsValue). x.texts) same in
      let one : u.text ≡ p.text = cc in
      let others : t.texts ≡ texts_in us = cc in
      let table_is : t.table ≡ table = ap (λ (x : TextsValue). x.table) same in
      let later : texts_from old (number + 1) units p.after ≡ Ok (texts_and (texts_in us) table) =
      rest.1 ∙ ap (λ (x : List UnitTextValue). Ok (texts_and x t.table)) others ∙ ap (λ (x : Table). Ok (texts_and (texts_in us) x)) table_is in
      let grown : IsGrown p.after.table files = grown_trans p.after.table table files (texts_grown old (number + 1) units p.after (texts_and (texts_in us) table) later) reach in
      let s = all u (0, refl) in
      let c : Cut = cuts u in
      let r = law edit n order c old new number unit before p is s.of p_is found news keeps (subst (λ (x : UnitTextValue). ListsStand c x) one s.lists)
      (subst (λ (x : UnitTextValue). RunsStand edit old order p.after.table c x) one (runs_earlier edit old order p.after.table files c u.text grown s.runs)) in
      let k = texts_too (number + 1) units p.after us table files later r.found reach (λ v at. all v (suc at.0, at.1)) in
      let here : unit_with new number unit (edited_carried edit before) ≡ Ok r.new = mapped (unit_fault number) (preprocessed new number unit (edited_carried edit before)) r.new r.is in
      record {
        texts = r.new.text ∷ k.texts;
        is =
            ap (λ (x : Result Preprocessed UnitFault). result_then (λ q. result_then (λ l. Ok (with_front q.text l)) (texts_from new (number + 1) units q.after)) x) here
            ∙ ap (λ (a : Carried). result_then (λ l. Ok (with_front r.new.text l)) (texts_from new (number + 1) units a)) r.after
            ∙ ap (λ (x : Result TextsValue UnitFault). result_then (λ l. Ok (with_front r.new.text l)) x) k.is;
        arranged = (r.toks ∙ ap (λ (x : UnitTextValue). arranged order c (plains x.toks)) (sym one), k.arranged);
      }
