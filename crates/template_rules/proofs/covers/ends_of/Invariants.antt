use Rattle.std.proofs.Common.{◌≡◌, ◌+◌, ◌<◌, ℕ, length, take}
use Rattle.std.specs.Prelude.{slice_index_or}
use Rattle.template_rules.specs.Covers.{last_of}
use Rattle.template_rules.proofs.covers.ends_of.Given as goal

abbrev pub invariant-loop-list : goal.invariant-loop-list
invariant-loop-list l =
    (l.last ≡ last_of (take l.list-index l.lists)) × (length l.ends.items ≡ l.list-index)
    × ((i : ℕ) → i < length l.ends.items → slice_index_or l.ends.items i 0 ≡ last_of (take (i + 1) l.lists))
