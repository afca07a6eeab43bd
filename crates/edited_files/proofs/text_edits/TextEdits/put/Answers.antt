use Rattle.std.proofs.Common.{◌≡◌, ◌+◌, ◌<◌, ◌^◌, true, false, List, length, sym, ap, subst, ◌∙◌, arith}
use Rattle.cs_base.specs.Edit.{Edit, edit, IsKept}
use Rattle.cs_base.proofs.ListLemmas.{prefix_len_le}
use Rattle.edited_files.specs.declared.text_edits.TextEdit.{TextEdit}
use Rattle.edited_files.specs.Edited.{with_edit}
use Rattle.edited_files.specs.Fields.{edits_in}
use Rattle.edited_files.proofs.PlaceLemmas.{is_before, has_path_at, set_at, kept_set, insert_at, kept_insert}
use Rattle.edited_files.proofs.text_edits.TextEdits.put.Goals as goal

pub invariant_of-self : goal.invariant_of-self
invariant_of-self c =
    let x : TextEdit = record { path = c.in_ok-new.field-0; bytes = c.in_ok-from_slice.field-0; count = c.args.count } in
    let there : has_path_at c.as_slice.result.now c.place_for-k.result c.args.path.now ≡ true =
    ap (λ (es : List TextEdit). has_path_at es c.place_for-k.result c.args.path.now) (c.as_slice.ensures.value ∙ sym c.as_slice-2.ensures.value)
    ∙ sym c.has_path.ensures ∙ c.if-has_path.true in
    kept_set c.self.inside.edits.items c.as_slice.result.now x c.place_for-k.result c.args.path.now c.args.bytes.now c.as_slice.ensures.value c.in_ok-new.ensures
    c.in_ok-from_slice.ensures.items c.place_for-k.ensures there c.self.invariant c.requires

pub returns-then-has_path-clause-ok : goal.returns-then-has_path-clause-ok
returns-then-has_path-clause-ok c =
    let x : TextEdit = record { path = c.in_ok-new.field-0; bytes = c.in_ok-from_slice.field-0; count = c.args.count } in
    let there : has_path_at c.as_slice.result.now c.place_for-k.result c.args.path.now ≡ true =
    ap (λ (es : List TextEdit). has_path_at es c.place_for-k.result c.args.path.now) (c.as_slice.ensures.value ∙ sym c.as_slice-2.ensures.value)
    ∙ sym c.has_path.ensures ∙ c.if-has_path.true in
    set_at c.self.inside.edits.items c.as_slice.result.now x c.place_for-k.result c.args.path.now c.args.bytes.now c.as_slice.ensures.value c.in_ok-new.ensures
    c.in_ok-from_slice.ensures.items c.place_for-k.ensures there
    ∙ ap (λ (es : List Edit). with_edit (edit c.args.path.now c.args.bytes.now c.args.count) es) c.self.view_is

pub insert-requires : goal.insert-requires
insert-requires c = omega (arith, c.place_for-k.ensures, prefix_len_le (is_before c.args.path.now) c.as_slice.result.now, c.as_slice.ensures.len)

pub invariant_of-self-2 : goal.invariant_of-self-2
invariant_of-self-2 c =
    let x : TextEdit = record { path = c.in_ok-new.field-0; bytes = c.in_ok-from_slice.field-0; count = c.args.count } in
    let there : has_path_at c.as_slice.result.now c.place_for-k.result c.args.path.now ≡ false =
    ap (λ (es : List TextEdit). has_path_at es c.place_for-k.result c.args.path.now) (c.as_slice.ensures.value ∙ sym c.as_slice-2.ensures.value)
    ∙ sym c.has_path.ensures ∙ c.if-has_path.false in
    let few : length c.self.inside.edits.items + 1 < 2 ^ 32 =
    omega (arith, c.if-len.false, c.len.ensures, c.as_slice.ensures.len, ap (λ (es : List TextEdit). length es) c.as_slice.ensures.value) in
    subst (λ (es : List TextEdit). IsKept (edits_in es)) (sym c.in_ok-insert.ensures.items)
    (kept_insert c.self.inside.edits.items c.as_slice.result.now x c.place_for-k.result c.args.path.now c.args.bytes.now c.as_slice.ensures.value c.in_ok-new.ensures
    c.in_ok-from_slice.ensures.items c.place_for-k.ensures there c.self.invariant c.requires few)

pub returns-clause-ok : goal.returns-clause-ok
returns-clause-ok c =
    let x : TextEdit = record { path = c.in_ok-new.field-0; bytes = c.in_ok-from_slice.field-0; count = c.args.count } in
    let there : has_path_at c.as_slice.result.now c.place_for-k.result c.args.path.now ≡ false =
    ap (λ (es : List TextEdit). has_path_at es c.place_for-k.result c.args.path.now) (c.as_slice.ensures.value ∙ sym c.as_slice-2.ensures.value)
    ∙ sym c.has_path.ensures ∙ c.if-has_path.false in
    ap edits_in c.in_ok-insert.ensures.items
    ∙ insert_at c.self.inside.edits.items c.as_slice.result.now x c.place_for-k.result c.args.path.now c.args.bytes.now c.as_slice.ensures.value c.in_ok-new.ensures
    c.in_ok-from_slice.ensures.items c.place_for-k.ensures there
    ∙ ap (λ (es : List Edit). with_edit (edit c.args.path.now c.args.bytes.now c.args.count) es) c.self.view_is
