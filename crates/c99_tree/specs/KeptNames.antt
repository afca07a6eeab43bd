-- The private fields of the table of numbered names as plain values.
use Rattle.std.specs.Prelude.{map}
use Rattle.c99_tree.specs.NumberedNames.{Marks, marks_of}
use Rattle.c99_tree.specs.declared.numbered_names.NumberedNames.TheInside.{Inside}

-- the spellings of the keys in order
abbrev pub marks_in : Inside → Marks
marks_in a = marks_of (map (λ k. k.items) a.names.keys) a.typedefs.items
