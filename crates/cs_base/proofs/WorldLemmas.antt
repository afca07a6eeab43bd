-- When the calls of files and of a sink in memory fail, and when none does.
use Rattle.std.proofs.Common.{◌≡◌, ◌≤◌, ℕ, Bool, true, false, ◌||◌, List, length, ltb, refl, arith}
use Rattle.std.specs.Prelude.{None, Some, is_none}
use Rattle.std.proofs.lemmas.Bool.{le-ltb}
use Rattle.cs_base.specs.Outside.{bytes_at}
use Rattle.cs_base.specs.Calls.{is_listed}
use Rattle.cs_base.specs.World.{World, put_fails}

or-true : (a b : Bool) → true ≡ (a || b || true)
or-true a b = grind arith

or-false : (a b c : Bool) → a ≡ false → b ≡ false → c ≡ false → false ≡ (a || b || c)
or-false a b c p q r = grind (arith, p, q, r)

-- a put of a path that is not held fails
pub put_fails-None : (path bytes : List ℕ) (w : World) → bytes_at path w.files ≡ None → true ≡ put_fails path bytes w
put_fails-None path bytes w none = rw none (or-true (is_listed w.fails w.calls) (ltb w.room (length bytes)))

-- a put of a path that is held, not on the list and no longer than the room is done
pub put_fails-Some : (path bytes old : List ℕ) (w : World) → bytes_at path w.files ≡ Some old
    → is_listed w.fails w.calls ≡ false → length bytes ≤ w.room → false ≡ put_fails path bytes w
put_fails-Some path bytes old w held unlisted fits =
    or-false (is_listed w.fails w.calls) (ltb w.room (length bytes)) (is_none (bytes_at path w.files)) unlisted
    (le-ltb w.room (length bytes) fits) (rw held refl)
