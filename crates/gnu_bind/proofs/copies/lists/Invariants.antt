use Rattle.std.proofs.Common.{◌≡◌, take}
use Rattle.gnu_bind.proofs.copies.lists.Given as goal

-- the first k are copied
abbrev pub invariant-lists : goal.invariant-lists
invariant-lists l = l.copied.items ≡ take l.k l.told
