-- What a name does where it stands, and what it is a name of (this project's, over ISO/IEC 9899:1999, 6.2.1 to 6.2.3
-- and 6.10.3).
use Rattle.std.specs.Prelude.{ℕ, ◌+◌, ◌&&◌, Bool, true, false, not, if◌then◌else◌, Option, Some, None, List, [], ◌∷◌, ◌++◌}
use Rattle.std.specs.List.{flat_map}
use Rattle.std.specs.Option.{option_map_or}
use Rattle.cs_base.specs.Token.{Token}
use Rattle.analysis.specs.Below.unit_steps.declared.events.Event.{Event}
use Rattle.analysis.specs.Below.unit_steps.declared.events.EventKind.{EventKind}
use Rattle.analysis.specs.Below.unit_steps.declared.events.EventKind.TheVariants as event
use Rattle.analysis.specs.Below.unit_steps.Texts.{UnitTextValue}
use Rattle.analysis.specs.Below.scope_bind.declared.bound.Name.{Name}
use Rattle.analysis.specs.Below.c_types.declared.entity.EntityKind.{EntityKind}
use Rattle.analysis.specs.Below.c_types.declared.entity.EntityKind.TheVariants as entity
use Rattle.analysis.specs.Below.c_types.declared.entity.Linkage.{Linkage}
use Rattle.analysis.specs.Below.c_types.declared.entity.Linkage.TheVariants as linkage
use Rattle.analysis.specs.Below.scope_bind.Names.{entity_at, declares_at, kind_at, linkage_at}
use Rattle.analysis.specs.Analysis.{UnitAnalysis, AnalysisValue}
use Rattle.class_marks.specs.declared.roles.Role.{Role}
use Rattle.class_marks.specs.declared.roles.Role.TheVariants.{Declares, Uses, Defines, OfKind, External}

-- ---- names of macros

-- the name of a definition declares; a name that is replaced, tested or left over uses (6.10.1, 6.10.3)
abbrev pub event_has : Role → EventKind → Bool
event_has Declares event.Defined = true
event_has Defines event.Defined = true
event_has Uses event.Replaced = true
event_has Uses event.Tested = true
event_has Uses event.Left = true
event_has _ _ = false

-- ---- identifiers of C

abbrev pub is_parameter : Option EntityKind → Bool
is_parameter (Some entity.Parameter) = true
is_parameter _ = false

-- the occurrence declares its entity, and that is no parameter
abbrev pub does_declare : List Name → ℕ → ℕ → Bool
does_declare names k entity = declares_at names k && not (is_parameter (kind_at names entity))

abbrev pub is_kind : EntityKind → Option EntityKind → Bool
is_kind entity.Object (Some entity.Object) = true
is_kind entity.Function (Some entity.Function) = true
is_kind entity.Typedef (Some entity.Typedef) = true
is_kind entity.Parameter (Some entity.Parameter) = true
is_kind entity.Enumerator (Some entity.Enumerator) = true
is_kind entity.Tag (Some entity.Tag) = true
is_kind entity.Member (Some entity.Member) = true
is_kind entity.Label (Some entity.Label) = true
is_kind _ _ = false

-- external linkage (6.2.2)
abbrev pub is_external : Linkage → Bool
is_external linkage.External = true
is_external _ = false

-- A declaring occurrence declares, unless the entity is a parameter; every other occurrence uses. Of both kinds are
-- the occurrences of an entity of a kind (6.2.1, 6.2.3), and of one with external linkage.
abbrev pub occurrence_has : Role → List Name → ℕ → ℕ → Bool
occurrence_has Declares names k entity = does_declare names k entity
occurrence_has Uses names k entity = not (does_declare names k entity)
occurrence_has Defines names k entity = false
occurrence_has (OfKind kind) names k entity = is_kind kind (kind_at names entity)
occurrence_has External names k entity = is_external (linkage_at names entity)

-- token k is bound to an entity, and has the role
abbrev pub token_has : Role → List Name → ℕ → Bool
token_has role names k = option_map_or (occurrence_has role names k) (entity_at names k) false

-- ---- lists

-- the name of an event, where it has the role
abbrev pub event_name : Role → Event → List Token
event_name role e = if event_has role e.kind then option_map_or (λ t. t ∷ []) e.name [] else []

-- the tokens with the role, from number k on
unfoldable pub tokens_with : Role → List Name → ℕ → List Token → List Token
tokens_with role names k [] = []
tokens_with role names k (t ∷ toks) =
    (if token_has role names k then t ∷ [] else []) ++ tokens_with role names (k + 1) toks

-- the names of a unit with the role
abbrev pub names_in : Role → UnitTextValue → List Name → List Token
names_in role text names = flat_map (event_name role) text.events ++ tokens_with role names 0 text.toks

-- All names of a workspace with the role: in its units, in order.
unfoldable pub names_with : Role → AnalysisValue → List Token
names_with role a = flat_map (λ (u : UnitAnalysis). names_in role u.text u.bound.names) a.units
