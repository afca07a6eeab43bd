use Rattle.std.proofs.Common.{◌≡◌, ◌++◌, take, map, filter}
use Rattle.cs_base.specs.Paths.{joined_path_of}
use Rattle.source_files.specs.Search.{can_be_asked}
use Rattle.source_files.proofs.candidates.add_candidates.Given as goal

abbrev pub invariant-loop-directory : goal.invariant-loop-directory
invariant-loop-directory l =
    l.all.items ≡ l.initial.all.items ++ filter can_be_asked (map (λ d. joined_path_of d l.name) (take l.directory-index l.directories))
