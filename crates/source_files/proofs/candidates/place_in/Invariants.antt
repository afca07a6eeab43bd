use Rattle.std.proofs.Common.{◌≡◌, drop}
use Rattle.source_files.specs.Search.{places_from, behind_in}
use Rattle.source_files.proofs.candidates.place_in.Given as goal

-- the directories that are left decide
abbrev pub invariant-loop-directory : goal.invariant-loop-directory
invariant-loop-directory l =
    behind_in l.name l.path (places_from l.at (drop l.directory-index l.directories)) ≡ behind_in l.name l.path (places_from l.before l.directories)
