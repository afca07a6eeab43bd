-- The if-sections that are open (ISO/IEC 9899:1999, 6.10.1), as contracts see them.
use Rattle.std.specs.Prelude.{◌≡◌, List, [], ◌∷◌, Option, Some, None}
use Rattle.include_tree.specs.declared.sections.Group.{Group as KeptGroup}
use Rattle.include_tree.specs.declared.sections.Group.TheVariants as kept
use Rattle.include_tree.specs.declared.section_lines.SectionLine.{SectionLine}
use Rattle.include_tree.specs.declared.section_lines.SectionLine.TheVariants as line
use Rattle.include_tree.specs.Sections.{Group, Processed, Awaited, Over, Skipped, Section, Turn, Opens, GoesOn, GoesLast, Ends, Stays}

-- how it stands with the groups of a section
abbrev pub group_of : KeptGroup → Group
group_of kept.Processed = Processed
group_of kept.Awaited = Awaited
group_of kept.Over = Over
group_of kept.Skipped = Skipped

-- what a line does to the sections
abbrev pub turn_in : SectionLine → Turn
turn_in line.Opening = Opens
turn_in line.Next = GoesOn
turn_in line.Last = GoesLast
turn_in line.Ending = Ends
turn_in line.Other = Stays

-- the innermost of the sections that are open
abbrev pub innermost_of : List Section → Option Section
innermost_of [] = None
innermost_of (s ∷ sections) = Some s

-- the innermost section was taken away, or none was open
abbrev pub IsTaken : Option Section → List Section → List Section → Type 0
IsTaken None before after = (before ≡ []) × (after ≡ [])
IsTaken (Some s) before after = before ≡ s ∷ after
