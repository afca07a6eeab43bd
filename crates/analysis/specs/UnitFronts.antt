-- What is kept of the beginning of a unit, from which units that begin so go on (ISO/IEC 9899:1999, 5.1.1.2 phase 7).
use Rattle.std.specs.Prelude.{◌≡◌}
use Rattle.cs_base.specs.declared.ws_units.Standard.{Standard}
use Rattle.c99_read.specs.Fronts.{FrontValue}
use Rattle.c99_read.specs.Below.c99_grammar.Dialects.{dialect}
use Rattle.gnu_bind.specs.Fronts.{BoundFrontValue, IsKnownBehind}

-- the standard of the units that begin so, and what has been read
pub record UnitFrontValue : Type 0 where
  pub standard : Standard
  pub reading : FrontValue

abbrev pub unit_front : Standard → FrontValue → UnitFrontValue
unit_front standard reading = record { standard = standard; reading = reading }

-- it is read by its standard, and this is known behind its tree, by the same standard
pub record IsUnitFront (reading : FrontValue) (bound : BoundFrontValue) : Type 0 where
  pub by : reading.dialect ≡ dialect bound.standard
  pub known : IsKnownBehind bound reading.toks reading.tree.under
