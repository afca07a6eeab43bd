-- Classes of tokens (ISO/IEC 9899:1999, 6.4.1, 6.4.4 and 6.4.6).
use Rattle.std.specs.Prelude.{Bool, List}
use Rattle.std.specs.List.{list_any}
use Rattle.c99_grammar.specs.declared.classes.Class.{Class}
use Rattle.c99_grammar.specs.contracts.classes.ClassPartialEq.TheImpl.{ghosts}

-- the two are one class
abbrev pub is_same : Class → Class → Bool
is_same c d = ghosts.eq c d

-- the class is one of these
abbrev pub among : List Class → Class → Bool
among classes c = list_any (λ d. is_same d c) classes
