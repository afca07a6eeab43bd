-- One unit by itself: from what was read for it to what stands against it.
use Rattle.std.proofs.Common.{◌≡◌, ℕ, ◌<◌, ◌^◌, Option, Some, None, Ok, Err, sym, ap, subst, ◌∙◌, arith}
use Rattle.std.specs.Prelude.{IfOk, IfSome}
use Rattle.std.specs.Option.{option_map}
use Rattle.cs_base.specs.declared.positions.Place.{Place}
use Rattle.cs_base.specs.declared.causes.Cause.{Cause}
use Rattle.cs_base.specs.Outside.{FileMap}
use Rattle.cs_base.specs.Units.{UnitValue}
use Rattle.include_tree.specs.Below.source_files.Answers as pre
use Rattle.include_tree.specs.Below.source_files.Faults.{fault}
use Rattle.include_tree.specs.Below.source_files.Files.{Source, source_of, Table, Carried, nothing_carried, found_at, defines_path}
use Rattle.include_tree.specs.Below.source_files.Tables.{AreFound, StaysHeld}
use Rattle.include_tree.specs.Below.source_files.declared.pre_fault.PreFault.{PreFault}
use Rattle.include_tree.specs.Below.source_files.declared.pre_fault.PreFault.TheVariants as before
use Rattle.include_tree.specs.Below.unit_steps.Texts.{UnitTextValue}
use Rattle.include_tree.specs.Preprocessed.{one_unit, preprocessed, with_text}
use Rattle.analysis.proofs.CarryLemmas.{fresh_first, found_more, none_found}
use Rattle.unit_checks.specs.declared.findings.Finding.{Finding}
use Rattle.unit_checks.specs.Answers.{OverHeld}
use Rattle.unit_checks.specs.Findings.{fault_finding, finding, finding_at, finding_of, reading_stop, unit_finding}

-- the pseudo file of a unit is not met before the first one
first-met : (number : ℕ) → number < 2 ^ 32 → found_at (defines_path number) nothing_carried.table ≡ None
first-met number few = fresh_first number number (omega arith) few

held-then : (o : Option FileMap) (P Q : FileMap → Type 0) → IfSome o P → ((held : FileMap) → P held → Q held) → IfSome o Q
held-then None P Q p next = tt
held-then (Some held) P Q p next = next held p

-- what is so over each source with what was read, is so over what the files hold
over-read : (told : Option FileMap) (after : Table) (Holds : Source → Type 0) → StaysHeld told nothing_carried.table after
    → ((source : Source) → AreFound source after → Holds source) → OverHeld told Holds
over-read told after Holds stays all =
    held-then told (λ held. AreFound (source_of held) after) (λ held. Holds (source_of held))
    (found_more told nothing_carried.table after (none_found told) stays) (λ held found. all (source_of held) found)

-- a unit that is preprocessed, and one that has a fault before
text-told : (source : Source) (number : ℕ) (unit : UnitValue) (after : Carried) (text : UnitTextValue) (f : Option Finding)
    → one_unit source number unit ≡ Ok (with_text after text)
    → f ≡ option_map (finding_at after.table unit.path text.toks) (reading_stop unit.standard text.toks) → f ≡ unit_finding source number unit
unfolding unit_finding
text-told source number unit after text f is told = told ∙ sym (ap (finding_of unit) is)

place-told : (source : Source) (number : ℕ) (unit : UnitValue) (place : Place) (cause : Cause) → one_unit source number unit ≡ Err (fault place cause)
    → Some (finding place cause None None) ≡ unit_finding source number unit
unfolding unit_finding
place-told source number unit place cause is = sym (ap (finding_of unit) is)

fault-told : (source : Source) (number : ℕ) (unit : UnitValue) (why : PreFault) → IfSome (pre.fault_of why) (λ f. one_unit source number unit ≡ Err f)
    → IfOk (fault_finding why) (λ f. f ≡ unit_finding source number unit)
fault-told source number unit (before.Fault place cause) is = place-told source number unit place cause is
fault-told source number unit (before.ReadFault path) is = tt
fault-told source number unit before.Memory is = tt

-- over what the files hold: `first` is the cache before the unit, `after` that behind it
module _ (told : Option FileMap) (number : ℕ) (unit : UnitValue) (first after : Carried) (new : first ≡ nothing_carried) (few : number < 2 ^ 32)
    (stays : StaysHeld told first.table after.table) where
  stays-new : StaysHeld told nothing_carried.table after.table
  stays-new = subst (λ (k : Carried). StaysHeld told k.table after.table) new stays

  none-met : found_at (defines_path number) first.table ≡ None
  none-met = subst (λ (k : Carried). found_at (defines_path number) k.table ≡ None) (sym new) (first-met number few)

  pub text_over : (text : UnitTextValue) (f : Option Finding)
      → (found_at (defines_path number) first.table ≡ None → (source : Source) → AreFound source after.table
      → preprocessed source number unit first ≡ Ok (with_text after text))
      → f ≡ option_map (finding_at after.table unit.path text.toks) (reading_stop unit.standard text.toks)
      → OverHeld told (λ source. f ≡ unit_finding source number unit)
  text_over text f answer is =
      over-read told after.table (λ source. f ≡ unit_finding source number unit) stays-new
      (λ source found.
      text-told source number unit after text f
      (subst (λ (k : Carried). preprocessed source number unit k ≡ Ok (with_text after text)) new (answer none-met source found)) is)

  pub fault_over : (why : PreFault)
      → (found_at (defines_path number) first.table ≡ None → (source : Source) → AreFound source after.table
      → IfSome (pre.fault_of why) (λ f. preprocessed source number unit first ≡ Err f))
      → OverHeld told (λ source. IfOk (fault_finding why) (λ f. f ≡ unit_finding source number unit))
  fault_over why answer =
      over-read told after.table (λ source. IfOk (fault_finding why) (λ f. f ≡ unit_finding source number unit)) stays-new
      (λ source found.
      fault-told source number unit why
      (subst (λ (k : Carried). IfSome (pre.fault_of why) (λ f. preprocessed source number unit k ≡ Err f)) new (answer none-met source found)))
