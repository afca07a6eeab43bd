-- What follows in an expansion, token by token.
use Rattle.std.specs.Prelude.{◌≡◌, ℕ, ◌&&◌, Bool, false, List, [], ◌∷◌, ◌++◌, Option, Some, None, is_some}
use Rattle.macro_expand.specs.declared.calls.CallToks.{CallToks}
use Rattle.cs_base.specs.Token.{Token}
use Rattle.macro_body.specs.Below.line_shape.Signs.{is_name}
use Rattle.macro_body.specs.Hides.{Hidden, hidden}
use Rattle.macro_body.specs.Macro.{Table}
use Rattle.macro_expand.specs.Expansion.{macro_of}
use Rattle.macro_expand.specs.declared.calls.CallRole.{CallRole}
use Rattle.macro_expand.specs.declared.calls.CallRole.TheVariants as role
use Rattle.macro_expand.specs.Calls.{Call, Role, Closes, Separates, Belongs}

-- the first token, if there is one
abbrev pub first_of : List Hidden → Option Hidden
first_of [] = None
first_of (t ∷ ts) = Some t

-- a token was taken from the front, or there was none
abbrev pub IsTaken : Option Hidden → List Hidden → List Hidden → Type 0
IsTaken None before after = (before ≡ []) × (after ≡ [])
IsTaken (Some t) before after = before ≡ t ∷ after

-- a token is the name of a macro
abbrev pub is_macro_name : Table → Token → Bool
is_macro_name table t = is_name t && is_some (table t.text)

-- a token that no macro replaces was taken from the front, or nothing changed
abbrev pub IsPlain : Table → Option Token → List Hidden → List Hidden → Type 0
IsPlain table None before after = before ≡ after
IsPlain table (Some t) before after = (hides : List (List ℕ)) × (before ≡ hidden t hides ∷ after) × (macro_of table (hidden t hides) ≡ None)

-- the same of a list whose next token is kept at the end
abbrev pub IsPopped : Table → Option Token → List Hidden → List Hidden → Type 0
IsPopped table None before after = before ≡ after
IsPopped table (Some t) before after = (hides : List (List ℕ)) × (before ≡ after ++ hidden t hides ∷ []) × (is_macro_name table t ≡ false)

-- a call that was taken, and what follows it
abbrev pub call_before : Option CallToks → List Hidden → Option Call
call_before None rest = None
call_before (Some call) rest = Some (record { arguments = call.arguments.items; close = call.close; rest = rest })

-- what a token behind the `(` of a call is, as the program has it
abbrev pub role_as : CallRole → Role
role_as role.Closes = Closes
role_as role.Separates = Separates
role_as role.Belongs = Belongs
