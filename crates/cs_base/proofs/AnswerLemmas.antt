-- Facts on answers and their faults.
use Rattle.std.proofs.Common.{Err, Ok, Result, refl, ◌≡◌}
use Rattle.cs_base.specs.Answer.{result_map_err}

pub map_err_ok : {X E F : Type 0} (r : Result X E) (f : E → F) (x : X) → result_map_err f r ≡ Ok x → r ≡ Ok x
map_err_ok (Ok y) f x e = cc
map_err_ok (Err e') f x e = absurd (cc)

pub unmapped : {X E F : Type 0} (change : E → F) (r : Result X E) (x : X) → result_map_err change r ≡ Ok x → r ≡ Ok x
unmapped change (Ok y) x e = let same : y ≡ x = cc in rw same refl
unmapped change (Err fault) x e = absurd cc
