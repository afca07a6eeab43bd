-- The names of file scope, where no other scope is open and no declarator (ISO/IEC 9899:1999, 6.2.1).
use Rattle.std.specs.Prelude.{List, [], ◌∷◌}
use Rattle.c99_read.specs.declared.names.Declaration.{Declaration}
use Rattle.c99_read.specs.State.{Names}

-- those of the one open scope, of the scope that ended last, and of the declarator read last
abbrev pub file_names : List Declaration → List Declaration → List Declaration → Names
file_names open_names ended kept = record { scopes = open_names ∷ []; ended = ended; heads = []; kept = kept }

-- the names of the innermost of some scopes
abbrev pub first_scope : List (List Declaration) → List Declaration
first_scope [] = []
first_scope (s ∷ outer) = s

abbrev pub innermost : Names → List Declaration
innermost n = first_scope n.scopes
