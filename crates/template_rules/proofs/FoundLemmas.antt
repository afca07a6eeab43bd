-- The lists that belong to names of functions.
use Rattle.std.proofs.Common.{◌≡◌, ℕ, Bool, true, false, List, [], ◌∷◌, ◌++◌, Option, Some, None, refl, ap, ◌∙◌}
use Rattle.std.specs.Prelude.{◌==◌, ◌&&◌, map}
use Rattle.std.specs.List.{list_any}
use Rattle.std.specs.Option.{option_map_or}
use Rattle.std.proofs.lemmas.Bool.{and_parts}
use Rattle.std.proofs.lemmas.List.Folds.{list_any-append}
use Rattle.std.proofs.lemmas.Map.Views.{any-filter_same}
use Rattle.cs_base.specs.declared.positions.Part.{Part}
use Rattle.cs_base.specs.Token.{Token}
use Rattle.c_types.specs.declared.lists.List.{List as NameList}
use Rattle.analysis.specs.Below.scope_bind.declared.bound.Name.{Name}
use Rattle.analysis.specs.Below.scope_bind.Names.{entity_at}
use Rattle.template_rules.specs.declared.unit_functions.UnitFunctions.{UnitFunctions}
use Rattle.template_rules.specs.Functions.{origin_of, is_function, is_list_of, names_function, AreFunctionsOf}
use Rattle.template_rules.specs.Lists.{some_mark}
use Rattle.template_rules.specs.MacroOffences.{is_list_at, is_list_in, is_mark_in, is_same_list}

-- ---- names

-- a token names one of the entities
pub named_at : (members : List Part) (toks : List Token) (names : List Name) (entities : List ℕ) → AreFunctionsOf members toks names entities
    → (o : Option ℕ) → option_map_or (λ e. list_any (λ f. f == e) entities) o false ≡ option_map_or (is_function members toks names) o false
named_at members toks names entities are None = refl
named_at members toks names entities are (Some e) = are e

any_map : {X Y : Type 0} (f : X → Y) (p : Y → Bool) (xs : List X) → list_any (λ x. p (f x)) xs ≡ list_any p (map f xs)
any_map f p [] = refl
any_map f p (x ∷ xs) = rw (any_map f p xs) refl

-- ---- lists of functions

module _ (f : UnitFunctions) (toks : List Token) (l : NameList) (k number : ℕ) where
  abbrev test : NameList → Bool
  test m = is_list_at f.class.members toks l k f.text.now f.bound.now.names number m

  named : (m : NameList) → test m ≡ true → is_list_of f.bound.now.names f.entities m ≡ true
  named m is =
      let p = and_parts (is_same_list toks f.text.now.toks l m)
      (names_function f.class.members f.text.now.toks f.bound.now.names m.name
      && some_mark (is_mark_in f.text.now.toks f.text.now.reached (origin_of toks k) number) m) is in
      let q = and_parts (names_function f.class.members f.text.now.toks f.bound.now.names m.name)
      (some_mark (is_mark_in f.text.now.toks f.text.now.reached (origin_of toks k) number) m) p.1 in
      named_at f.class.members f.text.now.toks f.bound.now.names f.entities f.named (entity_at f.bound.now.names m.name) ∙ q.0

  -- among the lists of the unit those of the functions are asked
  pub found_any : list_any (λ m. test m.now) f.found.items ≡ is_list_in f.class.members toks l k f.text.now f.bound.now number
  found_any =
      any_map (λ m. m.now) test f.found.items ∙ ap (λ (ms : List NameList). list_any test ms) f.gathered
      ∙ any-filter_same test (is_list_of f.bound.now.names f.entities) true named (f.bound.now.declarators ++ f.bound.now.calls)
      ∙ list_any-append test f.bound.now.declarators f.bound.now.calls
