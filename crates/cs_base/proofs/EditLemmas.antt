-- A list of edits keeps its order and its paths' text at a push.
use Rattle.std.proofs.Common.{◌≡◌, true, List, [], ◌∷◌, ◌++◌, IsTrue, refl, arith, length, length-append, ◌+◌, ◌^◌, ◌<◌}
use Rattle.std.proofs.lemmas.List.Elements.{All-append}
use Rattle.std.specs.Prelude.{IsUtf8}
use Rattle.std.proofs.lemmas.Bool.{and_from, and_parts}
use Rattle.cs_base.specs.Edit.{Edit, comes_last, are_in_order, HaveTextPaths, IsKept}

pub are_in_order-push : (es : List Edit) (x : Edit) → IsTrue (are_in_order es) → IsTrue (comes_last x.path es)
    → IsTrue (are_in_order (es ++ x ∷ []))
are_in_order-push [] x sorted last = refl
are_in_order-push (e ∷ []) x sorted last = and_from _ true last refl
are_in_order-push (e ∷ f ∷ es) x sorted last =
    and_from _ _ ((and_parts _ _ sorted).0) (are_in_order-push (f ∷ es) x ((and_parts _ _ sorted).1) last)

pub HaveTextPaths-push : (es : List Edit) (x : Edit) → HaveTextPaths es → IsUtf8 x.path → HaveTextPaths (es ++ x ∷ [])
HaveTextPaths-push es x texts text =
    All-append (λ (e : Edit). IsUtf8 e.path) es (x ∷ []) texts (λ k d h. let first : k ≡ 0 = omega arith in rw first text)

pub IsKept-push : (es : List Edit) (x : Edit) → IsKept es → IsTrue (comes_last x.path es) → IsUtf8 x.path
    → length es + 1 < 2 ^ 32 → IsKept (es ++ x ∷ [])
IsKept-push es x kept last text few = record {
  sorted = are_in_order-push es x kept.sorted last;
  texts = HaveTextPaths-push es x kept.texts text;
  few = omega (arith, length-append es (x ∷ []));
}
