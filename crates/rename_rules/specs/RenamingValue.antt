-- A new name for a class over an analysis, as contracts see it.
use Rattle.std.specs.Prelude.{ℕ, ◌≡◌, List}
use Rattle.cs_base.specs.Token.{Token}
use Rattle.offences.specs.Class.{ClassValue}
use Rattle.rename_rules.specs.Respellings.{RespellingValue, AreRespellings}
use Rattle.rename_rules.specs.Tokens.{holders}

-- The class, and the name.
pub record RenamingValue : Type 0 where
  pub class : ClassValue
  pub name : List ℕ

abbrev pub renaming : ClassValue → List ℕ → RenamingValue
renaming class name = record { class = class; name = name }

-- the tokens that hold members of the class
abbrev pub held : ClassValue → List Token
held class = holders class.analysis.value class.members

-- These are the tokens that hold members of the class, and their spellings.
pub record AreHeld (class : ClassValue) (name : List ℕ) (toks : List Token) (table : List RespellingValue) : Type 0 where
  pub are : toks ≡ held class
  pub told : AreRespellings class.members name (held class) table
