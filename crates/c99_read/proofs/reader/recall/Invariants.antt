use Rattle.std.proofs.Common.{◌≡◌, [], take, reverse}
use Rattle.c99_read.specs.FileScope.{file_names, innermost}
use Rattle.c99_read.specs.State.{spelled_scopes}
use Rattle.c99_read.proofs.reader.recall.Given as goal

-- the first k names are declared
abbrev pub invariant-names : goal.invariant-names
invariant-names l =
    (l.names ≡ file_names (reverse (take l.k (reverse (innermost l.kept)))) [] [])
    × (l.visible ≡ spelled_scopes l.toks l.names.scopes)
