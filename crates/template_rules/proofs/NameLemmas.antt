-- What stands at a name, by what the name is.
use Rattle.std.proofs.Common.{◌≡◌, Bool, true, false, not, List, Option, refl}
use Rattle.std.specs.Prelude.{◌&&◌, ◌||◌}
use Rattle.cs_base.specs.declared.causes.Cause.TheVariants as cause
use Rattle.cs_base.specs.declared.positions.Part.{Part}
use Rattle.cs_base.specs.Token.{Token}
use Rattle.c_types.specs.declared.lists.List.{List as NameList}
use Rattle.c_types.specs.declared.parameters.ParameterList.{ParameterList}
use Rattle.analysis.specs.Below.source_files.Files.{Table}
use Rattle.analysis.specs.Below.scope_bind.declared.bound.Name.{Name}
use Rattle.offences.specs.declared.firsts.Offence.{Offence}
use Rattle.offences.specs.First.{standing, FirstThen}
use Rattle.offences.proofs.FirstLemmas.{then_none}
use Rattle.template_rules.specs.Functions.{declares_function, holds_at, place_of}
use Rattle.template_rules.specs.NameOffences.{has_prototype, is_callee, no_prototype_place, value_place}

module _ (table : Table) (members : List Part) (toks : List Token) (names : List Name) (n : Name) (a : Option Offence) where
  pub none_lacking : (lists : List ParameterList) → (declares_function members toks names n && not (has_prototype lists n.index)) ≡ false
      → FirstThen table (standing cause.NoPrototype (no_prototype_place members toks names lists n)) a a
  none_lacking lists none = rw none (then_none table a)

  module _ (calls : List NameList) where
    abbrev is_value : Bool
    is_value = holds_at members toks n.index && not (declares_function members toks names n || is_callee calls n.index)

    no_value : is_value ≡ false → FirstThen table (standing cause.FunctionAsValue (value_place members toks names calls n)) a a
    no_value none = rw none (then_none table a)

    pub not_held : holds_at members toks n.index ≡ false → FirstThen table (standing cause.FunctionAsValue (value_place members toks names calls n)) a a
    not_held none = no_value (rw none refl)

    pub declaring : holds_at members toks n.index ≡ true → declares_function members toks names n ≡ true
        → FirstThen table (standing cause.FunctionAsValue (value_place members toks names calls n)) a a
    declaring held is = no_value (rw (held, is) refl)

    pub calling : holds_at members toks n.index ≡ true → declares_function members toks names n ≡ false → is_callee calls n.index ≡ true
        → FirstThen table (standing cause.FunctionAsValue (value_place members toks names calls n)) a a
    calling held other is = no_value (rw (held, other, is) refl)

    pub as_value : (b : Option Offence) → holds_at members toks n.index ≡ true → declares_function members toks names n ≡ false
        → is_callee calls n.index ≡ false → FirstThen table (standing cause.FunctionAsValue (place_of toks n.index)) a b
        → FirstThen table (standing cause.FunctionAsValue (value_place members toks names calls n)) a b
    as_value b held other none then_ =
        let is : is_value ≡ true = rw (held, other, none) refl in
        rw is then_
