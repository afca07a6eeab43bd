-- The units of a workspace over edited files, one behind the other.
use Rattle.std.proofs.Common.{◌≡◌, ℕ, ◌+◌, List, [], ◌∷◌, length, Result, Ok, Err, refl, ap, sym, subst, ◌∙◌}
use Rattle.cs_base.specs.Answer.{result_then, result_map_err}
use Rattle.cs_base.specs.Token.{Token}
use Rattle.cs_base.specs.Units.{UnitValue}
use Rattle.lexer.specs.FileText.{file_text}
use Rattle.source_files.specs.Faults.{Fault}
use Rattle.source_files.specs.Files.{Source, Carried, carried, nothing_carried}
use Rattle.source_files.specs.Tables.{IsGrown}
use Rattle.source_files.specs.Limits.{the_limits}
use Rattle.unit_steps.specs.State.{Did, Outcome}
use Rattle.unit_steps.specs.Texts.{unit_text}
use Rattle.include_tree.specs.Preprocessed.{Preprocessed, preprocessed_by, preprocessed}
use Rattle.include_tree.specs.Unit.{unit_outcome}
use Rattle.source_files.proofs.TableLemmas.{grown_refl, grown_trans}
use Rattle.analysis.specs.Texts.{TextsValue, texts_and, UnitFault, unit_fault, with_front, unit_with, texts_from}
use Rattle.edited_unit_laws.specs.UnitTexts.{renamed_text}
use Rattle.edited_unit_laws.proofs.UnitLemmas.{unit-grows}
use Rattle.edited_unit_laws.proofs.SeenLemmas.{unit_texts_are_renamed}
use Rattle.edited_unit_laws.specs.WorkspaceTexts.{change_in, KeepsUnits, renamed_texts, WorkspacesAreRenamed, WorkspaceIsRenamed}
use Rattle.edited_unit_laws.proofs.AloneLemmas.{ok-same}

pub then-ok : {A B E : Type 0} (k : A → Result B E) (m : Result A E) (b : B) → result_then k m ≡ Ok b → (a : A) × (m ≡ Ok a) × (k a ≡ Ok b)
then-ok k (Ok a) b h = (a, refl, h)
then-ok k (Err e) b h = absurd (cc)

-- the unit that is given
record UnitIs (old : Source) (number : ℕ) (unit : UnitValue) (before : Carried) (p : Preprocessed) : Type 0 where
  did : Did (List Token)
  is : unit_outcome the_limits file_text old number unit before ≡ Ok did
  seen : preprocessed old number unit before ≡ Ok p
  after : p.after ≡ carried did.state.table (before.toks + length did.value)

outcome-is : (old : Source) (number : ℕ) (unit : UnitValue) (before : Carried) (p : Preprocessed) (m : Outcome (List Token)) → unit_outcome the_limits file_text old number unit before ≡ m
    → preprocessed old number unit before ≡ Ok p → preprocessed_by before.toks m ≡ Ok p → UnitIs old number unit before p
outcome-is old number unit before p (Err found) is seen h = absurd (cc)
outcome-is old number unit before p (Ok d) is seen h =
    let q : Preprocessed = record { text = unit_text d.value d.notes; after = carried d.state.table (before.toks + length d.value) } in
    record { did = d; is = is; seen = seen; after = sym (ap (λ (x : Preprocessed). x.after) (ok-same q p h)) }

given : (old : Source) (number : ℕ) (unit : UnitValue) (before : Carried) (p : Preprocessed) (r : Result Preprocessed Fault) → preprocessed old number unit before ≡ r
    → result_map_err (unit_fault number) r ≡ Ok p → preprocessed old number unit before ≡ Ok p
given old number unit before p (Ok q) is h = is ∙ ap (λ (x : Preprocessed). Ok x) (ok-same {E = UnitFault} q p h)
given old number unit before p (Err found) is h = absurd (cc)

unit-is : (old : Source) (number : ℕ) (unit : UnitValue) (before : Carried) (p : Preprocessed) → unit_with old number unit before ≡ Ok p → UnitIs old number unit before p
unfolding preprocessed
unit-is old number unit before p h =
    let seen = given old number unit before p (preprocessed old number unit before) refl h in
    outcome-is old number unit before p (unit_outcome the_limits file_text old number unit before) refl seen seen

-- the table of the units only grows
texts-grow : (old : Source) (number : ℕ) (units : List UnitValue) (before : Carried) (t : TextsValue) → texts_from old number units before ≡ Ok t → IsGrown before.table t.table
unfolding texts_from
texts-grow old number [] before t h =
    subst (λ (x : TextsValue). IsGrown before.table x.table) (ok-same {E = UnitFault} (texts_and [] before.table) t h) (grown_refl before.table)
texts-grow old number (unit ∷ units) before t h =
    let first = then-ok (λ p. result_then (λ later. Ok (with_front p.text later)) (texts_from old (number + 1) units p.after)) (unit_with old number unit before) t h in
    let p : Preprocessed = first.0 in
    let u = unit-is old number unit before p first.1 in
    let rest = then-ok (λ later. Ok (with_front p.text later)) (texts_from old (number + 1) units p.after) t first.2 in
    let later : IsGrown p.after.table rest.0.table = texts-grow old (number + 1) units p.after rest.0 rest.1 in
    let here : IsGrown before.table p.after.table = subst (λ (x : Carried). IsGrown before.table x.table) (sym u.after) (unit-grows old number unit before u.did u.is) in
    subst (λ (x : TextsValue). IsGrown before.table x.table) (ok-same {E = UnitFault} (with_front p.text rest.0) t rest.2)
    (grown_trans before.table p.after.table rest.0.table here later)

pub workspaces_are_renamed : WorkspacesAreRenamed
unfolding texts_from
workspaces_are_renamed c names old new number [] before t h reach keeps =
    ap (λ (x : TextsValue). Ok (renamed_texts c x)) (ok-same {E = UnitFault} (texts_and [] before.table) t h)
workspaces_are_renamed c names old new number (unit ∷ units) before t h reach keeps =
    let first = then-ok (λ p. result_then (λ later. Ok (with_front p.text later)) (texts_from old (number + 1) units p.after)) (unit_with old number unit before) t h in
    let p : Preprocessed = first.0 in
    let u = unit-is old number unit before p first.1 in
    let rest = then-ok (λ later. Ok (with_front p.text later)) (texts_from old (number + 1) units p.after) t first.2 in
    let whole : with_front p.text rest.0 ≡ t = ok-same {E = UnitFault} (with_front p.text rest.0) t rest.2 in
    let all : IsGrown rest.0.table c.files = subst (λ (x : TextsValue). IsGrown x.table c.files) (sym whole) reach in
    let behind : IsGrown p.after.table c.files = grown_trans p.after.table rest.0.table c.files (texts-grow old (number + 1) units p.after rest.0 rest.1) all in
    let here : IsGrown u.did.state.table c.files = subst (λ (x : Carried). IsGrown x.table c.files) u.after behind in
    let kept = keeps u.did u.is in
    let anew = unit_texts_are_renamed (change_in c names number) old new number unit before u.did p u.is u.seen here kept.0 kept.1 in
    let later = workspaces_are_renamed c names old new (number + 1) units p.after rest.0 rest.1 all
    (subst (λ (x : Carried). KeepsUnits c names old new (number + 1) units x) (sym u.after) kept.2) in
    ap (λ (r : Result Preprocessed Fault). result_then (λ q. result_then (λ l. Ok (with_front q.text l)) (texts_from new (number + 1) units q.after)) (result_map_err (unit_fault number) r)) anew
    ∙ ap (λ (r : Result TextsValue UnitFault). result_then (λ l. Ok (with_front (renamed_text c.renaming p.text) l)) r) later
    ∙ ap (λ (x : TextsValue). Ok (renamed_texts c x)) whole

pub workspace_is_renamed : WorkspaceIsRenamed
workspace_is_renamed = λ c names old new units t h same keeps.
    workspaces_are_renamed c names old new 1 units nothing_carried t h (subst (IsGrown t.table) same (grown_refl t.table)) keeps
