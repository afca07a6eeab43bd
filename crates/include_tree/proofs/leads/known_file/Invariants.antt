use Rattle.std.proofs.Common.{ℕ, drop}
use Rattle.include_tree.specs.Leads.{IsKnownFile}
use Rattle.include_tree.proofs.leads.known_file.Given as goal

-- A file that is found behind the paths so far is found.
abbrev pub invariant-loop-k : goal.invariant-loop-k
invariant-loop-k l = (n : ℕ) → IsKnownFile l.cache.table (drop l.k l.paths) n → IsKnownFile l.cache.table l.paths n
