use Rattle.std.proofs.Common.{◌≡◌, ℕ, ◌-◌, false, length, get_or}
use Rattle.unseen_names.proofs.characters.reach_row.Given as goal

abbrev pub invariant-room : goal.invariant-room
invariant-room l = (k : ℕ) → get_or l.chars.items k false ≡ get_or l.initial.chars.items k false

abbrev pub decreases-room : goal.decreases-room
decreases-room l = l.end - length l.chars.items
