-- Edits that are copied, one after another.
use Rattle.std.proofs.Common.{◌≡◌, ◌<◌, ◌+◌, ℕ, zero, suc, List, [], ◌∷◌, ◌++◌, IsTrue, length, take, get_or, refl, ap, subst, add-one, arith}
use Rattle.std.specs.Prelude.{IsUtf8}
use Rattle.std.proofs.lemmas.List.{length-map}
use Rattle.std.proofs.Math.ListN.{get_or-map}
use Rattle.cs_base.specs.Edit.{Edit, comes_last, are_in_order, HaveTextPaths}
use Rattle.edited_files.specs.declared.text_edits.TextEdit.{TextEdit}
use Rattle.edited_files.specs.Fields.{edit_in, edits_in}
use Rattle.edited_files.proofs.OrderLemmas.{last_behind}

within_in : (es : List TextEdit) (i : ℕ) → i < length es → i < length (edits_in es)
within_in es i within = omega (arith, length-map es edit_in, within)

-- the path of each is text
pub copied_text : (es : List TextEdit) (i : ℕ) (d : TextEdit) → i < length es → HaveTextPaths (edits_in es) → IsUtf8 (get_or es i d).path
copied_text es i d within texts =
    subst (λ (e : Edit). IsUtf8 e.path) (get_or-map edit_in es i d) (texts i (edit_in d) (within_in es i within))

-- and comes behind those before
pub copied_last : (es : List TextEdit) (i : ℕ) (d : TextEdit) → i < length es → IsTrue (are_in_order (edits_in es))
    → IsTrue (comes_last (get_or es i d).path (take i (edits_in es)))
copied_last es i d within sorted =
    subst (λ (e : Edit). IsTrue (comes_last e.path (take i (edits_in es)))) (get_or-map edit_in es i d)
    (last_behind (edits_in es) i (edit_in d) sorted (within_in es i within))

more : (es : List TextEdit) (i : ℕ) (d : TextEdit) → i < length es → take (suc i) (edits_in es) ≡ take i (edits_in es) ++ edit_in (get_or es i d) ∷ []
more [] i d within = absurd (omega arith)
more (e ∷ es) zero d within = refl
more (e ∷ es) (suc i) d within =
    let within' : i < length es = omega arith in
    ap (λ (rest : List Edit). edit_in e ∷ rest) (more es i d within')

pub copied_more : (es : List TextEdit) (i : ℕ) (d : TextEdit) → i < length es → take (i + 1) (edits_in es) ≡ take i (edits_in es) ++ edit_in (get_or es i d) ∷ []
copied_more es i d within = rw add-one (more es i d within)
