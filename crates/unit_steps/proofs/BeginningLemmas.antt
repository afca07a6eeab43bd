-- What is known at the beginning of a unit.
use Rattle.std.proofs.Common.{◌≡◌, Bool, true, false, refl}
use Rattle.macro_expand.specs.Below.macro_body.Macro.{Table}
use Rattle.macro_expand.specs.Below.macro_body.Live.{no_macro, with_macro}
use Rattle.macro_expand.specs.Below.macro_body.Defining.{line_macro, file_macro, counter_macro, standard_macros, first_macros}
use Rattle.macro_expand.specs.Below.macro_body.Sound.{AllTraced}
use Rattle.macro_expand.proofs.TracedLemmas.{traced-no_macro, traced-with_macro}

-- the first macros have no replacement list
traced-standard : (table : Table) → table ≡ standard_macros → AllTraced table
traced-standard table is =
    traced-with_macro file_macro (with_macro line_macro no_macro) table is refl
    (traced-with_macro line_macro no_macro (with_macro line_macro no_macro) refl refl traced-no_macro)

pub traced-first : (gnu : Bool) (table : Table) → table ≡ first_macros gnu → AllTraced table
traced-first false table is = traced-standard table is
traced-first true table is = traced-with_macro counter_macro standard_macros table is refl (traced-standard standard_macros refl)
