-- What can be wrong with the names of a translation unit.
use Rattle.std.specs.Prelude.{ℕ, Bool, ◌&&◌, ◌||◌, Option, None, Some, nat_lt, ◌==◌, if◌then◌else◌}
use Rattle.c_types.specs.declared.declarations.Cause.{Cause}
use Rattle.c_types.specs.declared.declarations.Cause.TheVariants.{Undeclared as undeclared, NoMember as no_member, NoLabel as no_label, Redeclared as redeclared, TagRedefined as tag_redefined, MixedLinkage as mixed_linkage, DesignatorAfterElision as designator_after_elision}
use Rattle.c_types.specs.declared.declarations.Fault.{Fault}
use Rattle.c_types.specs.declared.faults.BindRefusal.{BindRefusal}
use Rattle.c_types.specs.declared.faults.BindRefusal.TheVariants as refusal

-- which of two at one token is named
abbrev pub number_of : Cause → ℕ
number_of undeclared = 1
number_of no_member = 2
number_of no_label = 3
number_of redeclared = 4
number_of tag_redefined = 5
number_of mixed_linkage = 6
number_of designator_after_elision = 7

-- the first is at an earlier token, or at the same one with a lower number
abbrev pub comes_first : Fault → Fault → Bool
comes_first f g = nat_lt f.index g.index || (f.index == g.index && nat_lt (number_of f.cause) (number_of g.cause))

-- the first of the faults so far and one more
abbrev pub first_fault : Option Fault → Fault → Option Fault
first_fault None f = Some f
first_fault (Some g) f = if comes_first f g then Some f else Some g

abbrev pub fault_at : Cause → ℕ → Fault
fault_at cause index = record { cause = cause; index = index }

-- what is refused: a fault, or none for want of memory
abbrev pub fault_of : BindRefusal → Option Fault
fault_of (refusal.Undeclared index) = Some (fault_at undeclared index)
fault_of (refusal.NoMember index) = Some (fault_at no_member index)
fault_of (refusal.NoLabel index) = Some (fault_at no_label index)
fault_of (refusal.Redeclared index) = Some (fault_at redeclared index)
fault_of (refusal.TagRedefined index) = Some (fault_at tag_redefined index)
fault_of (refusal.MixedLinkage index) = Some (fault_at mixed_linkage index)
fault_of (refusal.DesignatorAfterElision index) = Some (fault_at designator_after_elision index)
fault_of refusal.Memory = None
