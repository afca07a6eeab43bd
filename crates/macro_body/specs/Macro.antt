-- Macros: what a name stands for (ISO/IEC 9899:1999, 6.10.3).
use Rattle.std.specs.Prelude.{ℕ, ◌+◌, ◌-◌, Bool, true, false, ◌&&◌, if◌then◌else◌, List, length, Option, Some, None, codes}
use Rattle.std.specs.List.{position}
use Rattle.std.specs.Str.{bytes_eq}
use Rattle.cs_base.specs.Token.{Token}
use Rattle.macro_body.specs.declared.definitions.Form.{Form}
use Rattle.macro_body.specs.declared.definitions.Form.TheVariants as form
use Rattle.macro_body.specs.declared.definitions.Definition.{Definition}
use Rattle.line_shape.specs.Signs.{is_name}

-- what each spelling stands for, if a macro of that name is defined
abbrev pub Table : Type 0
Table = List ℕ → Option Definition

-- a macro is function-like (6.10.3 paragraph 10)
abbrev pub is_function : Form → Bool
is_function form.Function = true
is_function _ = false

-- the identifier that stands for the variable arguments (6.10.3 paragraph 5)
abbrev pub rest_name : List ℕ
rest_name = codes "__VA_ARGS__"

-- the number of the parameters, one for the variable arguments among them
abbrev pub arity : Definition → ℕ
arity m = length m.params + (if m.variadic then 1 else 0)

-- how many parameters stand before the variable arguments, if it has these: they are one more, or the last one
abbrev pub rest_number : Definition → Option ℕ
rest_number m = if m.variadic then Some (length m.params) else if m.named then Some (length m.params - 1) else None

-- which parameter has this spelling, from 0, if one has: the variable arguments come last
abbrev pub named_or_rest : Definition → List ℕ → Option ℕ → Option ℕ
named_or_rest m text (Some i) = Some i
named_or_rest m text None = if m.variadic && bytes_eq text rest_name then Some (length m.params) else None

abbrev pub parameter_of : Definition → List ℕ → Option ℕ
parameter_of m text = named_or_rest m text (position (λ p. bytes_eq p.text text) m.params)

-- which parameter a token of the replacement list names
abbrev pub parameter_at : Definition → Token → Option ℕ
parameter_at m t = if is_name t then parameter_of m t.text else None
