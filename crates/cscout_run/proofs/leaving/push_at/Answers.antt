use Rattle.std.proofs.Common.{◌≡◌, ◌∙◌, ℕ, List, [], None, Some, Result, Ok, Err, ap, refl, subst, sym}
use Rattle.std.specs.Prelude.{IsUtf8, OnOk}
use Rattle.std.proofs.lemmas.List.{append-nil}
use Rattle.cs_base.specs.Paths.{normal_path_of}
use Rattle.analysis.specs.Naming.{Names}
use Rattle.batch_run.proofs.WordLemmas.{IsUtf8-normal_path_of}
use Rattle.cscout_run.proofs.leaving.push_at.Goals as goal

on_ok : {X E : Type 0} (result : Result X E) (P Q : Type 0) → (P → Q) → OnOk result P → OnOk result Q
on_ok (Ok x) P Q follows p = follows p
on_ok (Err e) P Q follows p = tt

pub path_text-requires : goal.path_text-requires
path_text-requires c =
    let P : List ℕ → Type 0 = λ path. IsUtf8 path in
    subst P (sym c.in_ok-path.ensures) (IsUtf8-normal_path_of c.as_bytes.result.now c.as_bytes.ensures.utf8)

pub push_unseen-requires : goal.push_unseen-requires
push_unseen-requires c = c.in-Some.ensures.2

pub returns-in-Some : goal.returns-in-Some
returns-in-Some c =
    let path : c.path_text.result.now ≡ normal_path_of c.args.path.now =
    c.path_text.ensures ∙ (c.in_ok-path.ensures ∙ ap normal_path_of c.as_bytes.ensures.value) in
    let named = subst (λ (p : List ℕ). Names c.args.a.now.value p c.args.line c.args.column (Some c.in-Some.part)) path c.in-Some.ensures in
    on_ok c.push_unseen.result _ _ (λ h. (h.0, record { part = Some c.in-Some.part; named = named; told = h.1 }, h.2)) c.push_unseen.ensures

pub returns : goal.returns
returns c =
    let path : c.path_text.result.now ≡ normal_path_of c.args.path.now =
    c.path_text.ensures ∙ (c.in_ok-path.ensures ∙ ap normal_path_of c.as_bytes.ensures.value) in
    let named = subst (λ (p : List ℕ). Names c.args.a.now.value p c.args.line c.args.column None) path c.in-None.ensures in
    ([], record { part = None; named = named; told = refl }, sym (append-nil c.args.text.now.items))
