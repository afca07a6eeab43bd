use Rattle.std.proofs.Common.{◌≡◌, ◌++◌, Some, drop}
use Rattle.gnu_lists.specs.Counted.{counted_by}
use Rattle.gnu_lists.proofs.counted.push_each.Given as goal

abbrev pub invariant-tokens : goal.invariant-tokens
invariant-tokens l =
    l.out.items ++ counted_by (Some l.name) (drop l.k-index l.ks) ≡ l.initial.out.items ++ counted_by (Some l.name) l.ks
