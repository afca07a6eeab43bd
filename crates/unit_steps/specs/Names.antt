-- The names that directives take, and those of conditions: which of them are linked. A name that is
-- processed is linked with the first one of its spelling in the unit.
use Rattle.std.specs.Prelude.{ℕ, is_some, if◌then◌else◌, Option, Some, None, List, [], ◌∷◌, ◌++◌, find}
use Rattle.std.specs.List.{flat_map}
use Rattle.std.specs.Str.{bytes_eq}
use Rattle.cs_base.specs.Token.{Token}
use Rattle.source_files.specs.Below.line_shape.Signs.{is_name}
use Rattle.macro_expand.specs.Below.macro_body.declared.definitions.Definition.{Definition}
use Rattle.unit_steps.specs.Notes.{Note, Linked}
use Rattle.unit_steps.specs.State.{State}

-- the token of this spelling among tokens
abbrev pub spelled_in : List Token → List ℕ → Option Token
spelled_in toks text = find (λ t. bytes_eq text t.text) toks

-- the link of a name with an earlier one, if there is one
abbrev pub linked_with : Token → Option Token → List Note
linked_with name None = []
linked_with name (Some first) = Linked name first ∷ []

-- the link of a name that is processed
abbrev pub name_links : Token → State → List Note
name_links name s = linked_with name (spelled_in s.names name.text)

-- the state behind a name that is processed
abbrev pub with_name : Token → State → State
with_name name s =
    if is_some (spelled_in s.names name.text) then s else record s { names = s.names ++ name ∷ [] }

-- the parameter that a token of a replacement list names: the variable arguments have no name
abbrev pub parameter_named : List Token → Token → Option Token
parameter_named params t = if is_name t then spelled_in params t.text else None

-- the links of a macro's definition: each use of a parameter in its replacement list with the parameter
abbrev pub definition_links : Definition → List Note
definition_links m = flat_map (λ t. linked_with t (parameter_named m.params t)) m.body
