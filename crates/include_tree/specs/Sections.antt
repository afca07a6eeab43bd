-- If-sections (ISO/IEC 9899:1999, 6.10.1 paragraph 6): which groups are processed.
use Rattle.std.specs.Prelude.{Bool, true, false, if◌then◌else◌, List, [], ◌∷◌}
use Rattle.cs_base.specs.declared.positions.Pos.{Pos}
use Rattle.source_files.specs.Below.line_shape.declared.items.ItemKind.{ItemKind}
use Rattle.source_files.specs.Below.line_shape.declared.items.ItemKind.TheVariants.{If, Ifdef, Ifndef, Elif, Else, Endif, Bad, Gnu}
use Rattle.source_files.specs.Below.line_shape.Directives.{is_elif}

-- How it stands with the groups of a section: the present one is processed; none was yet; one was, and
-- the rest are skipped; or the section itself is skipped.
pub data Group : Type 0 where
  Processed : Group
  Awaited : Group
  Over : Group
  Skipped : Group

-- A section whose `endif` is still to come: where its `#` stands, its group, and whether its `else` came.
pub record Section : Type 0 where
  pub opening : Pos
  pub group : Group
  pub after_else : Bool

abbrev pub section : Pos → Group → Bool → Section
section opening group after_else = record { opening = opening; group = group; after_else = after_else }

-- the group is processed
abbrev pub is_processed : Group → Bool
is_processed Processed = true
is_processed _ = false

-- the section is not skipped
abbrev pub is_alive : Group → Bool
is_alive Skipped = false
is_alive _ = true

-- none of its groups was processed yet
abbrev pub is_awaited : Group → Bool
is_awaited Awaited = true
is_awaited _ = false

-- what stands inside these sections, the innermost first, is processed
abbrev pub are_processed : List Section → Bool
are_processed [] = true
are_processed (s ∷ sections) = is_processed s.group

-- the first group behind a condition that holds or not, and a later one where none was processed yet
abbrev pub group_if : Bool → Group
group_if true = Processed
group_if false = Awaited

-- the group behind a directive that ends this one, where its own condition is not asked
abbrev pub group_after : Group → Group
group_after Processed = Over
group_after Awaited = Awaited
group_after Over = Over
group_after Skipped = Skipped

-- the group behind `else`
abbrev pub group_of_else : Group → Group
group_of_else Processed = Over
group_of_else Awaited = Processed
group_of_else Over = Over
group_of_else Skipped = Skipped

-- What an item does to the sections: it opens one, goes on to the next group, to the last one, or ends it;
-- any other item leaves them.
pub data Turn : Type 0 where
  Opens : Turn
  GoesOn : Turn
  GoesLast : Turn
  Ends : Turn
  Stays : Turn

-- a bad line opens one or stays
abbrev pub turn_of_bad : Bool → Turn
turn_of_bad nests = if nests then Opens else Stays

-- a line that GNU C alone has goes on or stays
abbrev pub turn_of_line : Bool → Turn
turn_of_line elif = if elif then GoesOn else Stays

abbrev pub turn_of : ItemKind → Turn
turn_of If = Opens
turn_of Ifdef = Opens
turn_of Ifndef = Opens
turn_of (Bad cause at nests) = turn_of_bad nests
turn_of Elif = GoesOn
turn_of (Gnu line) = turn_of_line (is_elif line)
turn_of Else = GoesLast
turn_of Endif = Ends
turn_of _ = Stays
