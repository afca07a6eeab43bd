-- The macros of a class and the names that they replace, as inner functions know them.
use Rattle.std.specs.Prelude.{◌≡◌, List}
use Rattle.cs_base.specs.declared.positions.Pos.{Pos}
use Rattle.offences.specs.Class.{ClassValue}
use Rattle.macro_rules.specs.Macros.{macro_places, called_places, torn_places, number_places}

-- These are the macros of the class, where they are called, where a replacement could tear a list, and where a line's number is put in.
pub record AreMacros (class : ClassValue) (macros calls torn lines : List Pos) : Type 0 where
  pub macros_are : macros ≡ macro_places class.members class.analysis.value
  pub calls_are : calls ≡ called_places class.members class.analysis.value
  pub torn_are : torn ≡ torn_places class.analysis.value
  pub lines_are : lines ≡ number_places class.analysis.value
