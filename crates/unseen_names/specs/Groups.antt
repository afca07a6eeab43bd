-- Groups of names, by what they do or are names of, and the positions that such names have a character from.
use Rattle.std.specs.Prelude.{ℕ, ◌+◌, ◌≡◌, ◌||◌, if◌then◌else◌, Bool, false, Option, Some, None, List, [], ◌∷◌, slice_get}
use Rattle.std.specs.List.{list_any}
use Rattle.std.specs.Option.{option_map_or}
use Rattle.cs_base.specs.declared.positions.Part.{Part}
use Rattle.cs_base.specs.declared.positions.Pos.{Pos}
use Rattle.cs_base.specs.Token.{Token}
use Rattle.analysis.specs.Below.unit_steps.declared.events.Event.{Event}
use Rattle.analysis.specs.Below.unit_steps.declared.events.EventKind.{EventKind}
use Rattle.analysis.specs.Below.unit_steps.Texts.{UnitTextValue}
use Rattle.analysis.specs.Below.scope_bind.declared.bound.Name.{Name}
use Rattle.analysis.specs.Below.c_types.declared.entity.EntityKind.{EntityKind}
use Rattle.analysis.specs.Below.c_types.declared.entity.EntityKind.TheVariants.{Typedef, Function, Enumerator, Tag, Member}
use Rattle.analysis.specs.Analysis.{UnitAnalysis, AnalysisValue}
use Rattle.class_marks.specs.declared.roles.Role.{Role}
use Rattle.class_marks.specs.declared.roles.Role.TheVariants.{Declares, Uses, Defines, OfKind, External}
use Rattle.class_marks.specs.Roles.{event_has, occurrence_has, token_has}
use Rattle.class_marks.specs.Touching.{HasRole}
use Rattle.unseen_names.specs.declared.names.Group.{Group}
use Rattle.unseen_names.specs.declared.names.Group.TheVariants.{Stated, Wide}
use Rattle.unseen_names.specs.Reach.{is_wide_kind}
use Rattle.unseen_names.specs.Unseen.{comes_from}

-- ---- roles

-- what the names of a group do, or are names of
abbrev pub roles_of : Group → List Role
roles_of Stated = Declares ∷ Uses ∷ []
roles_of Wide = External ∷ Defines ∷ OfKind Member ∷ OfKind Function ∷ OfKind Typedef ∷ OfKind Enumerator ∷ OfKind Tag ∷ []

-- the class of the part has some role of the group
pub record HasGroup (g : Group) (a : AnalysisValue) (part : Part) : Type 0 where
  pub number : ℕ
  pub role : Role
  pub among : slice_get (roles_of g) number ≡ Some role
  pub has : HasRole a role part

-- ---- names

abbrev pub event_wanted : Group → EventKind → Bool
event_wanted g kind = list_any (λ r. event_has r kind) (roles_of g)

abbrev pub occurrence_wanted : Group → List Name → ℕ → ℕ → Bool
occurrence_wanted g names k entity = list_any (λ r. occurrence_has r names k entity) (roles_of g)

abbrev pub token_wanted : Group → List Name → ℕ → Bool
token_wanted g names k = list_any (λ r. token_has r names k) (roles_of g)

-- the kind that was found reaches past a function
abbrev pub is_wide_found : Option EntityKind → Bool
is_wide_found (Some kind) = is_wide_kind kind
is_wide_found None = false

-- the name of an event of the group
abbrev pub event_names : Group → Event → List Token
event_names g e = if event_wanted g e.kind then option_map_or (λ t. t ∷ []) e.name [] else []

-- the token, where it is wanted
abbrev pub wanted_token : Bool → Token → List Token
wanted_token wanted t = if wanted then t ∷ [] else []

-- ---- positions

abbrev pub in_event : Group → Pos → Event → Bool
in_event g p e = list_any (comes_from p) (event_names g e)

-- in some token of the group, from number k on
unfoldable pub in_tokens : Group → Pos → List Name → ℕ → List Token → Bool
in_tokens g p names k [] = false
in_tokens g p names k (t ∷ toks) = list_any (comes_from p) (wanted_token (token_wanted g names k) t) || in_tokens g p names (k + 1) toks

abbrev pub in_names : Group → Pos → UnitTextValue → List Name → Bool
in_names g p text names = list_any (in_event g p) text.events || in_tokens g p names 0 text.toks

abbrev pub in_unit : Group → Pos → UnitAnalysis → Bool
in_unit g p u = in_names g p u.text u.bound.names

-- Some name of the group, in some unit, has a character from the position.
abbrev pub is_in_group : Group → AnalysisValue → Pos → Bool
is_in_group g a p = list_any (in_unit g p) a.units
