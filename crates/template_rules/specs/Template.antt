-- The new order of the parameters of the functions that a place names (this project's): the edits of the files, or why it
-- is refused.
use Rattle.std.specs.Prelude.{ℕ, ◌≡◌, ◌==◌, if◌then◌else◌, true, false, Option, Some, None, List, Result, Ok, Err}
use Rattle.std.specs.Option.{option_map_or}
use Rattle.cs_base.specs.declared.causes.Cause.TheVariants as cause
use Rattle.cs_base.specs.declared.positions.Part.{Part}
use Rattle.cs_base.specs.Edit.{Edit}
use Rattle.list_cuts.specs.Orders.{is_order}
use Rattle.analysis.specs.Analysis.{AnalysisValue}
use Rattle.analysis.specs.Naming.{Names}
use Rattle.analysis.specs.Parts.{AreMembers}
use Rattle.offences.specs.declared.firsts.Offence.{Offence}
use Rattle.offences.specs.declared.refusals.Refusal.{Refusal}
use Rattle.offences.specs.declared.refusals.Refusal.TheVariants.{NoName, NotAFunction, BadOrder}
use Rattle.offences.specs.First.{IsFirst, offence}
use Rattle.offences.specs.Refusals.{refused_for}
use Rattle.template_rules.specs.declared.counting.Declarator.{Declarator}
use Rattle.template_rules.specs.FileLists.{edits_of}
use Rattle.template_rules.specs.Functions.{has_function}
use Rattle.template_rules.specs.Lists.{count_of, first_declarator}
use Rattle.template_rules.specs.Offences.{offences_of}

-- The refusal of numbers that are no order of the parameters of the first declarator. One that declares none (6.7.5.3
-- paragraph 14), as that of an old-style definition, has no order at all: it is named.
abbrev pub refusal_at : AnalysisValue → Declarator → Refusal
refusal_at a d = if d.count == 0 then refused_for a (offence cause.NoPrototype d.at) else BadOrder

abbrev pub order_refusal : AnalysisValue → List Part → Refusal
order_refusal a members = option_map_or (refusal_at a) (first_declarator a members) BadOrder

-- What is answered for a class and an order of so many parameters: its edits where no offence stands, and else the first.
abbrev pub IsReordered : AnalysisValue → List Part → List ℕ → Result (List Edit) Refusal → Type 0
IsReordered a members order (Ok edits) = IsFirst a.table (offences_of a members (count_of a members)) None × (edits ≡ edits_of members a order)
IsReordered a members order (Err refusal) =
    (o : Offence) × IsFirst a.table (offences_of a members (count_of a members)) (Some o) × (refusal ≡ refused_for a o)

-- What is answered for a class, in the order in which it is looked: its functions, the order, the offences.
pub record IsOrdered (a : AnalysisValue) (members : List Part) (order : List ℕ) (answer : Result (List Edit) Refusal) : Type 0 where
  pub no_function : has_function members a ≡ false → answer ≡ Err NotAFunction
  pub no_order : has_function members a ≡ true → is_order (count_of a members) order ≡ false → answer ≡ Err (order_refusal a members)
  pub ordered : has_function members a ≡ true → is_order (count_of a members) order ≡ true → IsReordered a members order answer

-- the same for the class of a part
pub record IsClassOrdered (a : AnalysisValue) (part : Part) (order : List ℕ) (answer : Result (List Edit) Refusal) : Type 0 where
  pub members : List Part
  pub are_members : AreMembers a part members
  pub ordered : IsOrdered a members order answer

-- the same for what a place names: a part, or nothing
abbrev pub IsNamedOrdered : AnalysisValue → List ℕ → Result (List Edit) Refusal → Option Part → Type 0
IsNamedOrdered a order answer None = answer ≡ Err NoName
IsNamedOrdered a order answer (Some part) = IsClassOrdered a part order answer

-- What is answered for a place and an order.
abbrev pub IsTemplate : AnalysisValue → List ℕ → ℕ → ℕ → List ℕ → Result (List Edit) Refusal → Type 0
IsTemplate a path line column order answer =
    (named : Option Part) × Names a path line column named × IsNamedOrdered a order answer named
