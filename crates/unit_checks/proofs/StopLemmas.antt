-- Why a text is not read or bound, from what the reader and the binder answer.
use Rattle.std.proofs.Common.{◌≡◌, ℕ, List, Option, Some, None, Result, Ok, Err, is_some, true≢false, ap, sym, ◌∙◌}
use Rattle.std.specs.Prelude.{IfOk, IfSome, IsSome}
use Rattle.std.specs.Option.{option_map}
use Rattle.cs_base.specs.declared.causes.Cause.{Cause}
use Rattle.cs_base.specs.declared.ws_units.Standard.{Standard}
use Rattle.cs_base.specs.Token.{Token}
use Rattle.c99_tree.specs.Tree.{Node}
use Rattle.c99_read.specs.Reading.{Stop}
use Rattle.gnu_bind.specs.Below.scope_bind.Bound.{Bound}
use Rattle.gnu_bind.specs.Below.scope_bind.Causes.{cause_of, index_of}
use Rattle.gnu_bind.specs.Below.c_types.declared.declarations.Fault.{Fault}
use Rattle.analysis.specs.Accepting.{told_of_stop}
use Rattle.unit_checks.specs.Findings.{name_stop, tree_stop}

none-told : (told : Option (ℕ × Cause)) → told ≡ None → IsSome told → ⊥
none-told told is some = true≢false (sym some ∙ ap is_some is)

pub name_told : (o : Option Fault) (told : Option (ℕ × Cause)) (bound : Result Bound Fault) → told ≡ option_map (λ (f : Fault). (index_of f, cause_of f)) o
    → IsSome told → IfSome o (λ fault. bound ≡ Err fault) → told ≡ name_stop bound
name_told None told bound is some fault = absurd (none-told told is some)
name_told (Some f) told bound is some fault = is ∙ sym (ap name_stop fault)

pub stop_told : (standard : Standard) (toks : List Token) (o : Option Stop) (told : Option (ℕ × Cause)) (read : Result Node Stop)
    → told ≡ option_map told_of_stop o → IsSome told → IfSome o (λ stop. read ≡ Err stop) → told ≡ tree_stop standard toks read
stop_told standard toks None told read is some stop = absurd (none-told told is some)
stop_told standard toks (Some s) told read is some stop = is ∙ sym (ap (tree_stop standard toks) stop)

-- both clauses of a call, and what follows from them
pub both_ok : {X E : Type 0} (r : Result X E) (P Q R : X → Type 0) → IfOk r P → IfOk r Q → ((x : X) → P x → Q x → R x) → IfOk r R
both_ok (Ok x) P Q R p q next = next x p q
both_ok (Err e) P Q R p q next = tt

pub if_then : {X E : Type 0} (r : Result X E) (P Q : X → Type 0) → IfOk r P → ((x : X) → P x → Q x) → IfOk r Q
if_then (Ok x) P Q h next = next x h
if_then (Err e) P Q h next = tt
