use Rattle.std.proofs.Common.{◌≡◌, ℕ, ◌≤◌, ◌||◌, ◌&&◌, false, length, get_or}
use Rattle.std.specs.Prelude.{nat_le, nat_lt}
use Rattle.unseen_names.proofs.characters.set_row.Given as goal

abbrev pub invariant-loop-k : goal.invariant-loop-k
invariant-loop-k l = record {
  behind : l.from ≤ l.k;
  within : l.k ≤ l.end;
  room : length l.chars ≡ length l.initial.chars;
  each : (j : ℕ) → get_or l.chars j false ≡ (get_or l.initial.chars j false || (nat_le l.from j && nat_lt j l.k));
}
