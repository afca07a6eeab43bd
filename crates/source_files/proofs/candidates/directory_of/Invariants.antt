use Rattle.std.proofs.Common.{◌≡◌, ℕ, ◌≤◌, ◌<◌, false, length, get_or}
use Rattle.source_files.specs.Search.{is_slash}
use Rattle.source_files.proofs.candidates.directory_of.Given as goal

-- no `/` stands from here on
abbrev pub invariant-bytes : goal.invariant-bytes
invariant-bytes l = record {
  within : l.end ≤ length l.path;
  behind : (k : ℕ) → l.end ≤ k → k < length l.path → is_slash (get_or l.path k 0) ≡ false;
}

abbrev pub decreases-bytes : goal.decreases-bytes
decreases-bytes l = l.end
