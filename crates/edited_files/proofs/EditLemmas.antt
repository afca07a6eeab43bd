-- Lemmas that several crates cite.
use Rattle.std.proofs.Common.{List, [], refl, ◌++◌, ◌∷◌, ◌≡◌}
use Rattle.edited_files.specs.Edited.{with_each, with_edit}
use Rattle.cs_base.specs.Edit.{Edit}

pub with_each-append : (xs ys edits : List Edit) → with_each (xs ++ ys) edits ≡ with_each ys (with_each xs edits)
unfolding with_each
with_each-append [] ys edits = refl
with_each-append (e ∷ xs) ys edits = with_each-append xs ys (with_edit e edits)

pub with_each-one : (e : Edit) (edits : List Edit) → with_each (e ∷ []) edits ≡ with_edit e edits
unfolding with_each
with_each-one e edits = refl

pub with_each-none : (edits : List Edit) → with_each [] edits ≡ edits
unfolding with_each
with_each-none edits = refl
