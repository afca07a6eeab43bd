-- The walk over the items of files (ISO/IEC 9899:1999, 6.10), as the program takes it.
use Rattle.std.specs.Prelude.{◌≡◌, ℕ, zero, suc, Bool, true, false, List, [], ◌∷◌, map, Option, Some, None, Result, Ok, Err, IfSome, IsTrue}
use Rattle.std.specs.List.{list_all}
use Rattle.source_files.specs.declared.pre_fault.PreFault.{PreFault}
use Rattle.include_tree.specs.declared.asking.ConditionLine.{ConditionLine}
use Rattle.include_tree.specs.declared.item_steps.FileLine.{FileLine}
use Rattle.include_tree.specs.declared.item_steps.FileLine.TheVariants as line
use Rattle.source_files.specs.Files.{SourceFile}
use Rattle.source_files.specs.Faults.{Fault}
use Rattle.unit_steps.specs.State.{Context, State, Outcome, only, onward}
use Rattle.unit_steps.specs.Questions.{is_sound, question_of}
use Rattle.include_tree.specs.Sections.{Section, section, group_if, GoesOn, GoesLast, Ends, group_of_else}
use Rattle.include_tree.specs.Including.{Inner, included}
use Rattle.include_tree.specs.Asking.{gnu_answered}
use Rattle.include_tree.specs.Walk.{ItemText, Stepped, stepped, go_on, goes_on, reaching_alive, in_section, file_items}
use Rattle.unit_steps.specs.Texts.{UnitTextValue}
use Rattle.source_files.specs.Answers.{fault_of}
use Rattle.unit_steps.specs.Keeping.{noted_in, put_in, put_after}

-- What a step gives that may open or end sections: the sections, the state behind it, and the text with what
-- happened and with its tokens; or the first fault.
abbrev pub stepped_after : UnitTextValue → Outcome Stepped → Result (List Section × State × UnitTextValue) Fault
stepped_after k (Ok d) = Ok (d.value.sections, d.state, put_in (noted_in k d.notes) d.value.toks)
stepped_after k (Err fault) = Err fault

-- an `elif`, an `else` and an `endif` line
abbrev pub elif_of : Context → SourceFile → ℕ → ItemText → List Section → State → Outcome Stepped
elif_of ctx file k i sections s =
    in_section file i GoesOn sections (λ open_ around. goes_on ctx file k i open_ around s open_.group)

abbrev pub else_of : SourceFile → ℕ → ItemText → List Section → State → Outcome Stepped
else_of file k i sections s =
    in_section file i GoesLast sections (λ open_ around.
    reaching_alive file k open_.group s (only (go_on open_ (group_of_else open_.group) true around) s))

abbrev pub endif_of : SourceFile → ℕ → ItemText → List Section → State → Outcome Stepped
endif_of file k i sections s =
    in_section file i Ends sections (λ open_ around. reaching_alive file k open_.group s (only (stepped [] around) s))

-- what a step gives that leaves these sections
abbrev pub with_sections : List Section → Result (State × UnitTextValue) Fault → Result (List Section × State × UnitTextValue) Fault
with_sections sections (Ok r) = Ok (sections, r.0, r.1)
with_sections sections (Err fault) = Err fault

-- what the items of an included file give, where so many more files may be open
abbrev pub inner_in : Context → ℕ → Inner
inner_in ctx zero = None
inner_in ctx (suc room) = Some (file_items ctx room)

-- An item was processed, or is an include line whose file is still to take its place; or the fault of the item,
-- which yields to want of memory.
abbrev pub GivesLine : Context → Inner → SourceFile → Result (Option FileLine) PreFault → State → UnitTextValue → Result (State × UnitTextValue) Fault → Type 0
GivesLine ctx inner file (Ok None) s k expected = expected ≡ Ok (s, k)
GivesLine ctx inner file (Ok (Some (line.Include l))) s k expected = expected ≡ put_after k (included ctx inner file l.at l.next l.header s)
GivesLine ctx inner file (Ok (Some (line.Condition l))) s k expected = ⊥
GivesLine ctx inner file (Err e) s k expected = IfSome (fault_of e) (λ f. expected ≡ Err f)

-- the section that a condition opens or goes on with, in front of others
abbrev pub section_if : ConditionLine → List Section → Bool → State → Outcome Stepped
section_if l sections b t = only (stepped [] (section l.opening (group_if b) false ∷ sections)) t

-- the value of a condition is still to be found, and the section to be opened
abbrev pub asked_line : Context → SourceFile → ConditionLine → List Section → State → Outcome Stepped
asked_line ctx file l sections s = onward (gnu_answered ctx file l.at (map question_of l.questions.items) s) (section_if l sections)

-- what a line gives that was left to the caller, behind which these sections are open but for its own
abbrev pub given_line : Context → Inner → SourceFile → FileLine → List Section → State → UnitTextValue → Result (List Section × State × UnitTextValue) Fault
given_line ctx inner file (line.Include l) sections s k = with_sections sections (put_after k (included ctx inner file l.at l.next l.header s))
given_line ctx inner file (line.Condition l) sections s k = stepped_after k (asked_line ctx file l sections s)

-- an item, as it was processed or left
abbrev pub GivesItem : Context → Inner → SourceFile → Result (Option FileLine) PreFault → List Section → State → UnitTextValue → Result (List Section × State × UnitTextValue) Fault → Type 0
GivesItem ctx inner file (Ok None) sections s k expected = expected ≡ Ok (sections, s, k)
GivesItem ctx inner file (Ok (Some l)) sections s k expected = expected ≡ given_line ctx inner file l sections s k
GivesItem ctx inner file (Err e) sections s k expected = IfSome (fault_of e) (λ f. expected ≡ Err f)

-- the pieces of a condition are tokens from which an expansion may begin
abbrev pub IsSoundLine : FileLine → Type 0
IsSoundLine (line.Include l) = Unit {0}
IsSoundLine (line.Condition l) = IsTrue (list_all is_sound (map question_of l.questions.items))
