-- What inner functions promise each other of the marks of a list that are asked for at once, and of the units that
-- reached an item.
use Rattle.std.specs.Prelude.{ℕ, ◌≡◌, ◌==◌, ◌≤◌, ◌<◌, Bool, true, Some, List, slice_get, IfSome}
use Rattle.std.specs.List.{list_any}
use Rattle.cs_base.specs.Token.{Token}
use Rattle.analysis.specs.Below.unit_steps.declared.events.Reached.{Reached}
use Rattle.c_types.specs.declared.lists.List.{List as NameList}
use Rattle.analysis.specs.Analysis.{UnitAnalysis}
use Rattle.offences.specs.Class.{ClassValue}
use Rattle.template_rules.specs.declared.item_units.ItemUnits.{ItemUnits}
use Rattle.template_rules.specs.declared.known_lists.Known.{Known}
use Rattle.template_rules.specs.declared.list_macros.Asked.{Asked}
use Rattle.template_rules.specs.declared.list_macros.Asked.TheVariants as asked
use Rattle.template_rules.specs.declared.unit_functions.UnitFunctions.{UnitFunctions}
use Rattle.template_rules.specs.Lists.{each_mark}
use Rattle.template_rules.specs.MacroOffences.{run_of, is_item, is_list_for}

-- the marks that are asked for pass a test
abbrev pub asks : Asked → (ℕ → Bool) → NameList → Bool
asks (asked.Mark k) test l = test k
asks asked.All test l = each_mark test l

-- token k was put out for this run
abbrev pub is_of_run : List Reached → ℕ → ℕ → Bool
is_of_run reached number k = run_of reached k == number

-- the number, from 0, of each of these units that reached the item is such a one
abbrev pub Reaching : List UnitFunctions → Reached → (ℕ → Type 0) → Type 0
Reaching fs r is = (k : ℕ) (f : UnitFunctions) → slice_get fs k ≡ Some f → list_any (is_item r) f.text.now.reached ≡ true → is k

-- none before this one did
abbrev pub NoneBefore : List UnitFunctions → Reached → ℕ → Type 0
NoneBefore fs r from = Reaching fs r (λ k. from ≤ k)

-- neither this one nor one behind it did
abbrev pub NoneFrom : List UnitFunctions → Reached → ℕ → Type 0
NoneFrom fs r to = Reaching fs r (λ k. k < to)

-- each of these units that reached the item stands between these numbers
abbrev pub AreWithin : List UnitAnalysis → ItemUnits → Type 0
AreWithin us w =
    (k : ℕ) (u : UnitAnalysis) → slice_get us k ≡ Some u → list_any (is_item w.item) u.text.reached ≡ true → (w.from ≤ k) × (k < w.to)

-- wherever the item is processed, each mark of the list has a list of the functions at its positions
abbrev pub IsServed : ClassValue → List Token → NameList → Reached → Type 0
IsServed class toks l r = each_mark (λ k. is_list_for class.members class.analysis.value toks l k r) l ≡ true

-- what is known of a list of a unit, if anything is
abbrev pub IsKnown : ClassValue → List Token → Known → Type 0
IsKnown class toks known = IfSome known.list (λ m. IsServed class toks m.now known.item)
