use Rattle.std.proofs.Common.{◌≡◌, ◌≤◌, ℕ, false, length, get_or}
use Rattle.scope_bind.proofs.marks.grow.Given as goal

abbrev pub invariant-room : goal.invariant-room
invariant-room l = record {
  same : (k : ℕ) → get_or l.marks.items k false ≡ get_or l.initial.marks.items k false;
  room : l.k ≤ length l.marks.items;
}
