use Rattle.std.proofs.Common.{◌≡◌, ◌++◌, ◌∷◌, [], List, ℕ, IsTrue, take, get_or, sym, ap, subst, ◌∙◌}
use Rattle.std.specs.Prelude.{IsUtf8}
use Rattle.cs_base.specs.Edit.{Edit, edit, comes_last}
use Rattle.edited_files.specs.declared.text_edits.TextEdit.{TextEdit}
use Rattle.edited_files.specs.Fields.{edit_in, edits_in}
use Rattle.edited_files.proofs.CopyLemmas.{copied_text, copied_last, copied_more}
use Rattle.edited_files.proofs.text_edits.copied_edits.Goals as goal

pub push-requires-clause-utf8 : goal.push-requires-clause-utf8
push-requires-clause-utf8 c =
    let is : (get_or c.args.edits.now c.loop-e.e-index c.e-item.result).path ≡ c.in_ok-path.path =
    sym (c.in_ok-path.ensures ∙ c.bytes.ensures ∙ ap (λ (e : TextEdit). e.path) c.e-item.is) in
    subst (λ (p : List ℕ). IsUtf8 p) is (copied_text c.args.edits.now c.loop-e.e-index c.e-item.result c.loop-e-test.true c.requires.texts)

pub push-requires-clause-after : goal.push-requires-clause-after
push-requires-clause-after c =
    let is : (get_or c.args.edits.now c.loop-e.e-index c.e-item.result).path ≡ c.in_ok-path.path =
    sym (c.in_ok-path.ensures ∙ c.bytes.ensures ∙ ap (λ (e : TextEdit). e.path) c.e-item.is) in
    let last = copied_last c.args.edits.now c.loop-e.e-index c.e-item.result c.loop-e-test.true c.requires.sorted in
    subst (λ (m : List Edit). IsTrue (comes_last c.in_ok-path.path m)) (sym c.loop-e.invariant)
    (subst (λ (p : List ℕ). IsTrue (comes_last p (take c.loop-e.e-index (edits_in c.args.edits.now)))) is last)

pub loop-e-preserved : goal.loop-e-preserved
loop-e-preserved c =
    let edits = c.args.edits.now in
    let i = c.loop-e.e-index in
    let path_is = c.in_ok-path.ensures ∙ c.bytes.ensures in
    let bytes_is = c.in_ok-bytes.ensures.items ∙ c.as_slice.ensures.value in
    let item : edit c.in_ok-path.path c.in_ok-bytes.bytes.items c.e-item.result.count ≡ edit_in (get_or edits i c.e-item.result) =
    ap (λ (p : List ℕ). edit p c.in_ok-bytes.bytes.items c.e-item.result.count) path_is
    ∙ ap (λ (b : List ℕ). edit c.e-item.result.path b c.e-item.result.count) bytes_is ∙ ap edit_in c.e-item.is in
    c.in_ok-push.ensures.ok ∙ ap (λ (m : List Edit). m ++ edit c.in_ok-path.path c.in_ok-bytes.bytes.items c.e-item.result.count ∷ []) c.loop-e.invariant
    ∙ ap (λ (x : Edit). take i (edits_in edits) ++ x ∷ []) item ∙ sym (copied_more edits i c.e-item.result c.loop-e-test.true)
