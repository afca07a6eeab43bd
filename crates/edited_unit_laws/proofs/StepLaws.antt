-- The steps of a unit, kind by kind, as laws.
use Rattle.edited_unit_laws.specs.StepLaws.{DefinitionsGoAlike, UndefinitionsGoAlike, NamesAreAskedAlike, ConditionsGoAlike, InclusionsGoAlike, FilesGoAlike}
use Rattle.edited_unit_laws.proofs.ConditionLemmas.{holds-alike}
use Rattle.edited_unit_laws.proofs.DirectiveLemmas.{define-alike, undef-alike, asks-alike}
use Rattle.edited_unit_laws.proofs.IncludeLemmas.{include-alike}
use Rattle.edited_unit_laws.proofs.WalkLemmas.{files-alike}

pub definitions_go_alike : DefinitionsGoAlike
definitions_go_alike = λ c names gnu file new at at2 toks macros s h is keeps. define-alike c names gnu file new at at2 toks macros s h is keeps

pub undefinitions_go_alike : UndefinitionsGoAlike
undefinitions_go_alike = λ c names file new at at2 toks macros s h is. undef-alike c names file new at at2 toks macros s h is

pub names_are_asked_alike : NamesAreAskedAlike
names_are_asked_alike = λ c names kind file new at at2 answer toks macros s takes h is. asks-alike c names kind file new at at2 answer toks macros s takes h is

pub conditions_go_alike : ConditionsGoAlike
conditions_go_alike = λ c names file text at at2 toks macros s h. holds-alike c names file text at at2 toks macros s h

pub inclusions_go_alike : InclusionsGoAlike
inclusions_go_alike = λ c names old new files unit earlier inner inner2 grows alike file text at toks macros s h.
    include-alike c names new files old unit earlier inner inner2 grows alike file text at toks macros s h

pub files_go_alike : FilesGoAlike
files_go_alike = λ c names old new files unit earlier room. files-alike c names new files old unit earlier room
