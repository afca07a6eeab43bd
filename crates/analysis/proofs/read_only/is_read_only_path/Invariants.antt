use Rattle.std.proofs.Common.{◌≡◌, drop, eqb}
use Rattle.std.specs.List.{list_any, starts_with}
use Rattle.analysis.proofs.read_only.is_read_only_path.Given as goal

abbrev pub invariant-loop-prefix : goal.invariant-loop-prefix
invariant-loop-prefix l = list_any (starts_with eqb l.path) (drop l.prefix-index l.prefixes) ≡ list_any (starts_with eqb l.path) l.prefixes
