-- Edits that are put, by what stands at each path.
use Rattle.std.proofs.Common.{◌≡◌, ◌<◌, ℕ, zero, suc, List, [], ◌∷◌, Some, length, get_or, subst, arith}
use Rattle.std.specs.Prelude.{slice_get}
use Rattle.std.proofs.lemmas.Option.{none-some, same_Some, slice_get-get_or}
use Rattle.cs_base.specs.Edit.{Edit, IsKept, with_edits}
use Rattle.cs_base.specs.Outside.{FileMap, bytes_at}
use Rattle.cs_base.proofs.FileMapLemmas.{bytes_at-with_edits, bytes_at-with_edits_other}
use Rattle.edited_files.specs.Edited.{ArePut, AreMade}

pub put_is_made : (edits : List Edit) (before now : FileMap) → ArePut edits before now → AreMade edits (λ path. bytes_at path before) (λ path. bytes_at path now)
put_is_made edits before now put = record {
  each = put.each;
  others = λ path apart. put.others path (λ k d below. apart k (get_or edits k d) (slice_get-get_or edits k d below));
}

at_is : {X : Type 0} (xs : List X) (k : ℕ) (x : X) → slice_get xs k ≡ Some x → (k < length xs) × (get_or xs k x ≡ x)
at_is [] k x at = absurd (none-some x at)
at_is (y ∷ ys) zero x at = (omega arith, same_Some y x at)
at_is (y ∷ ys) (suc k) x at = let later = at_is ys k x at in (omega (arith, later.0), later.1)

-- edits are put where each is: its path holds its bytes
edits_are_put : (edits : List Edit) (before : FileMap) → IsKept edits → ArePut edits before (with_edits edits before)
edits_are_put edits before sound = record {
  each = λ k e at.
      let is = at_is edits k e at in
      subst (λ (d : Edit). bytes_at d.path (with_edits edits before) ≡ Some d.bytes) is.1 (bytes_at-with_edits edits before k e sound.sorted is.0);
  others = λ path apart. bytes_at-with_edits_other edits path before apart;
}

pub edits_are_made : (edits : List Edit) (before : FileMap) → IsKept edits
    → AreMade edits (λ path. bytes_at path before) (λ path. bytes_at path (with_edits edits before))
edits_are_made edits before sound = put_is_made edits before (with_edits edits before) (edits_are_put edits before sound)
