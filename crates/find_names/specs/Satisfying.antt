-- What attributes say of a class, and which classes satisfy a query (this project's, over ISO/IEC 9899:1999, 6.2.1 to
-- 6.2.3 and 6.10.3).
use Rattle.cs_base.specs.declared.positions.Part.{Part}
use Rattle.analysis.specs.Below.c_types.declared.entity.EntityKind.TheVariants as entity
use Rattle.analysis.specs.Analysis.{AnalysisValue}
use Rattle.analysis.specs.FileTokens.{IsFileToken}
use Rattle.analysis.specs.Parts.{IsMember}
use Rattle.analysis.specs.Spellings.{spelling_of}
use Rattle.query_words.specs.declared.attributes.Attribute.{Attribute}
use Rattle.query_words.specs.declared.attributes.Attribute.TheVariants.{Macro, Function, Object, Typedef, Parameter, Enumerator, Tag, Member, Label, External, ReadOnly, Unused, Cut}
use Rattle.query_words.specs.Queries.{Query}
use Rattle.query_words.specs.Satisfying.{Satisfies}
use Rattle.class_marks.specs.declared.roles.Role.TheVariants as role
use Rattle.class_marks.specs.Touching.{HasRole, IsReadOnlyClass}
use Rattle.unused_names.specs.Unused.{IsUnused}

-- some member of the class is no whole token: the token has other parts too
pub record IsCutClass (a : AnalysisValue) (part : Part) : Type 0 where
  pub member : Part
  pub is_member : IsMember a part member
  pub cut : IsFileToken a member → ⊥

-- The class of a first member has the attribute.
abbrev pub HasAttribute : AnalysisValue → Part → Attribute → Type 0
HasAttribute a part Macro = HasRole a role.Defines part
HasAttribute a part Function = HasRole a (role.OfKind entity.Function) part
HasAttribute a part Object = HasRole a (role.OfKind entity.Object) part
HasAttribute a part Typedef = HasRole a (role.OfKind entity.Typedef) part
HasAttribute a part Parameter = HasRole a (role.OfKind entity.Parameter) part
HasAttribute a part Enumerator = HasRole a (role.OfKind entity.Enumerator) part
HasAttribute a part Tag = HasRole a (role.OfKind entity.Tag) part
HasAttribute a part Member = HasRole a (role.OfKind entity.Member) part
HasAttribute a part Label = HasRole a (role.OfKind entity.Label) part
HasAttribute a part External = HasRole a role.External part
HasAttribute a part ReadOnly = IsReadOnlyClass a part
HasAttribute a part Unused = IsUnused a part
HasAttribute a part Cut = IsCutClass a part

-- The class of a first member satisfies the query.
abbrev pub SatisfiesQuery : AnalysisValue → Part → Query → Type 0
SatisfiesQuery a part q = Satisfies (HasAttribute a part) (spelling_of a part) q
