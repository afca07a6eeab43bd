-- A fault of names in the words that messages share.
use Rattle.std.specs.Prelude.{ℕ}
use Rattle.cs_base.specs.declared.causes.Cause.{Cause}
use Rattle.cs_base.specs.declared.causes.Cause.TheVariants as told
use Rattle.c_types.specs.declared.declarations.Cause.{Cause as NameCause}
use Rattle.c_types.specs.declared.declarations.Cause.TheVariants.{Undeclared as undeclared, NoMember as no_member, NoLabel as no_label, Redeclared as redeclared, TagRedefined as tag_redefined, MixedLinkage as mixed_linkage, DesignatorAfterElision as designator_after_elision}
use Rattle.c_types.specs.declared.declarations.Fault.{Fault}

abbrev pub told_as : NameCause → Cause
told_as undeclared = told.Undeclared
told_as no_member = told.NoMember
told_as no_label = told.NoLabel
told_as redeclared = told.Redeclared
told_as tag_redefined = told.TagRedefined
told_as mixed_linkage = told.MixedLinkage
told_as designator_after_elision = told.DesignatorAfterElision

-- its cause, and the token that it stands at
abbrev pub cause_of : Fault → Cause
cause_of f = told_as f.cause

abbrev pub index_of : Fault → ℕ
index_of f = f.index
