-- Names by which laws of other crates speak of what is private to this one: its types, its causes and name spaces, and
-- the cases of a role.
use Rattle.std.specs.Prelude.{ℕ, Bool, true, false}
use Rattle.c_types.specs.declared.declarations.Cause.{Cause as ACause}
use Rattle.c_types.specs.declared.declarations.Cause.TheVariants.{Undeclared, NoMember, NoLabel, Redeclared, TagRedefined, MixedLinkage, DesignatorAfterElision}
use Rattle.c_types.specs.declared.declarations.Fault.{Fault as AFault}
use Rattle.c_types.specs.declared.declarations.Space.{Space as ASpace}
use Rattle.c_types.specs.declared.declarations.Space.TheVariants.{Ordinary as AnOrdinary, Tags as ATags, Members as AMembers, Labels as ALabels}
use Rattle.c_types.specs.declared.declarations.Declaration.{Declaration as ADeclaration}
use Rattle.c_types.specs.declared.declarations.Occurrence.{Occurrence as AnOccurrence}
use Rattle.scope_bind.specs.declared.ordinary.Declared.{Declared as ADeclared}
use Rattle.c_types.specs.declared.frames.Body.{Body as ABody}
use Rattle.c_types.specs.declared.frames.Frame.{Frame as AFrame}
use Rattle.c_types.specs.declared.frames.Scope.{Scope as AScope}
use Rattle.scope_bind.specs.declared.roles.Role.{Role as ARole}
use Rattle.scope_bind.specs.declared.roles.Role.TheVariants.{Plain, Primary, TypeName, Tag, EnumerationTag, Listed, Member, PointedMember, Designated, Label, Jump}

abbrev pub Cause : Type 0
Cause = ACause

abbrev pub Fault : Type 0
Fault = AFault

abbrev pub Space : Type 0
Space = ASpace

abbrev pub Declaration : Type 0
Declaration = ADeclaration

abbrev pub Occurrence : Type 0
Occurrence = AnOccurrence

abbrev pub Declared : Type 0
Declared = ADeclared

abbrev pub Body : Type 0
Body = ABody

abbrev pub Frame : Type 0
Frame = AFrame

abbrev pub Scope : Type 0
Scope = AScope

abbrev pub Role : Type 0
Role = ARole

-- ---- Causes and name spaces

abbrev pub undeclared : Cause
undeclared = Undeclared

abbrev pub no_member : Cause
no_member = NoMember

abbrev pub no_label : Cause
no_label = NoLabel

abbrev pub redeclared : Cause
redeclared = Redeclared

abbrev pub tag_redefined : Cause
tag_redefined = TagRedefined

abbrev pub mixed_linkage : Cause
mixed_linkage = MixedLinkage

abbrev pub designator_after_elision : Cause
designator_after_elision = DesignatorAfterElision

abbrev pub ordinary : Space
ordinary = AnOrdinary

abbrev pub tags : Space
tags = ATags

abbrev pub members : ℕ → Space
members n = AMembers n

abbrev pub labels : ℕ → Space
labels n = ALabels n

-- ---- Roles

-- the token means nothing by itself
abbrev pub is_plain_role : Role → Bool
is_plain_role Plain = true
is_plain_role _ = false

-- what holds of each role holds of all
pub by_role : (P : Role → Type 0) → P Plain → P Primary → P TypeName → P Tag → P EnumerationTag → P Listed → P Member → P PointedMember → P Designated → P Label
    → P Jump → (r : Role) → P r
by_role P plain primary type_name tag enumeration_tag listed member pointed_member designated label jump Plain = plain
by_role P plain primary type_name tag enumeration_tag listed member pointed_member designated label jump Primary = primary
by_role P plain primary type_name tag enumeration_tag listed member pointed_member designated label jump TypeName = type_name
by_role P plain primary type_name tag enumeration_tag listed member pointed_member designated label jump Tag = tag
by_role P plain primary type_name tag enumeration_tag listed member pointed_member designated label jump EnumerationTag = enumeration_tag
by_role P plain primary type_name tag enumeration_tag listed member pointed_member designated label jump Listed = listed
by_role P plain primary type_name tag enumeration_tag listed member pointed_member designated label jump Member = member
by_role P plain primary type_name tag enumeration_tag listed member pointed_member designated label jump PointedMember = pointed_member
by_role P plain primary type_name tag enumeration_tag listed member pointed_member designated label jump Designated = designated
by_role P plain primary type_name tag enumeration_tag listed member pointed_member designated label jump Label = label
by_role P plain primary type_name tag enumeration_tag listed member pointed_member designated label jump Jump = jump
