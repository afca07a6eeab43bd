-- The new order of the parameters of the macros that a place names (this project's): the edits of the files, or why it is refused.
use Rattle.std.specs.Prelude.{ℕ, ◌≡◌, true, false, Option, Some, None, List, [], Result, Ok, Err}
use Rattle.cs_base.specs.declared.positions.Part.{Part}
use Rattle.cs_base.specs.Edit.{Edit}
use Rattle.list_cuts.specs.Orders.{is_order}
use Rattle.analysis.specs.Analysis.{AnalysisValue}
use Rattle.analysis.specs.Naming.{Names}
use Rattle.analysis.specs.Parts.{AreMembers}
use Rattle.offences.specs.declared.firsts.Offence.{Offence}
use Rattle.offences.specs.declared.refusals.Refusal.{Refusal}
use Rattle.offences.specs.declared.refusals.Refusal.TheVariants.{NoName, NotAMacro, BadOrder}
use Rattle.offences.specs.First.{IsFirst}
use Rattle.offences.specs.Refusals.{refused_for}
use Rattle.macro_rules.specs.Counting.{class_heads, count_of}
use Rattle.macro_rules.specs.Edits.{edits_of}
use Rattle.macro_rules.specs.Offences.{offences_of}

-- What is answered for a class and an order of so many parameters: its edits where no offence stands, and else the first.
abbrev pub IsTurned : AnalysisValue → List Part → List ℕ → Result (List Edit) Refusal → Type 0
IsTurned a members order (Ok edits) = IsFirst a.table (offences_of a members (count_of a members)) None × (edits ≡ edits_of members a order)
IsTurned a members order (Err refusal) =
    (o : Offence) × IsFirst a.table (offences_of a members (count_of a members)) (Some o) × (refusal ≡ refused_for a o)

-- What is answered for a class, in the order in which it is looked: its macros, the order, the offences.
pub record IsOrdered (a : AnalysisValue) (members : List Part) (order : List ℕ) (answer : Result (List Edit) Refusal) : Type 0 where
  pub no_macro : class_heads members a ≡ [] → answer ≡ Err NotAMacro
  pub no_order : (class_heads members a ≡ [] → ⊥) → is_order (count_of a members) order ≡ false → answer ≡ Err BadOrder
  pub ordered : (class_heads members a ≡ [] → ⊥) → is_order (count_of a members) order ≡ true → IsTurned a members order answer

-- the same for the class of a part
pub record IsClassOrdered (a : AnalysisValue) (part : Part) (order : List ℕ) (answer : Result (List Edit) Refusal) : Type 0 where
  pub members : List Part
  pub are_members : AreMembers a part members
  pub ordered : IsOrdered a members order answer

-- the same for what a place names: a part, or nothing
abbrev pub IsNamedOrdered : AnalysisValue → List ℕ → Result (List Edit) Refusal → Option Part → Type 0
IsNamedOrdered a order answer None = answer ≡ Err NoName
IsNamedOrdered a order answer (Some part) = IsClassOrdered a part order answer

-- What is answered for a place and an order.
abbrev pub IsMacro : AnalysisValue → List ℕ → ℕ → ℕ → List ℕ → Result (List Edit) Refusal → Type 0
IsMacro a path line column order answer =
    (named : Option Part) × Names a path line column named × IsNamedOrdered a order answer named
