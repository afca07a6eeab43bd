-- Places of anonymous members, which have no name.
use Rattle.std.proofs.Common.{ℕ, ◌≡◌, Bool, true, false, refl}
use Rattle.c_types.specs.declared.declarations.Space.{Space}
use Rattle.c_types.specs.declared.declarations.Space.TheVariants.{Ordinary, Tags, Members, Inner, Unnamed, Labels}
use Rattle.c_types.specs.Declarations.{is_space}

abbrev pub is_unnamed : Space → Bool
is_unnamed (Unnamed n) = true
is_unnamed _ = false

-- what is found where a name space is asked for has a name
pub found_named : (s t : Space) → is_space s t ≡ true → is_unnamed s ≡ false
found_named Ordinary t e = refl
found_named Tags t e = refl
found_named (Members n) t e = refl
found_named (Inner n) t e = refl
found_named (Unnamed n) t e = cc
found_named (Labels n) t e = refl

-- .. and where members are asked for, it is no ordinary identifier
pub member_apart : (s : Space) (number : ℕ) → is_space s (Members number) ≡ true → is_space s Ordinary ≡ false
member_apart Ordinary number e = cc
member_apart Tags number e = refl
member_apart (Members n) number e = refl
member_apart (Inner n) number e = refl
member_apart (Unnamed n) number e = refl
member_apart (Labels n) number e = refl
