-- What is known once a part of a unit is read, beside the tokens of the unit.
use Rattle.std.specs.Prelude.{List}
use Rattle.cs_base.specs.Token.{Token}
use Rattle.c_types.specs.Declarations.{Facts}

pub record Known : Type 0 where
  pub toks : List Token
  pub facts : Facts

abbrev pub known : List Token → Facts → Known
known toks facts = record { toks = toks; facts = facts }
