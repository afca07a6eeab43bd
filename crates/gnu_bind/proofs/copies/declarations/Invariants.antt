use Rattle.std.proofs.Common.{◌≡◌, take}
use Rattle.gnu_bind.proofs.copies.declarations.Given as goal

-- the first k are copied
abbrev pub invariant-declarations : goal.invariant-declarations
invariant-declarations l = l.copied.items ≡ take l.k l.declared
