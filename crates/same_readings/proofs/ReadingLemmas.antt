-- Tokens that are read and bound so.
use Rattle.std.proofs.Common.{◌≡◌, ◌&&◌, Bool, true, false, List, Option, None, Some, Result, Ok, Err, refl, sym, ap, subst, ◌∙◌}
use Rattle.std.specs.Prelude.{IfOk, IfSome}
use Rattle.std.proofs.lemmas.Bool.{false≢true, and_parts}
use Rattle.cs_base.specs.Token.{Token}
use Rattle.c99_tree.specs.Tree.{Node}
use Rattle.c99_read.specs.Below.c99_grammar.declared.dialects.Dialect.TheVariants.{Gnu}
use Rattle.c99_read.specs.Below.c99_grammar.Standard.{grammar}
use Rattle.c99_read.specs.Reading.{Stop, read_of}
use Rattle.c_types.specs.declared.declarations.Fault.{Fault}
use Rattle.gnu_bind.specs.Bound.{gnu_binding_of}
use Rattle.gnu_bind.specs.Below.scope_bind.Bound.{Bound}
use Rattle.same_readings.specs.SameTrees.{same_tree}
use Rattle.same_readings.specs.SameNames.{same_bound}
use Rattle.same_readings.specs.Readings.{is_bound_so, is_read_so, reads_so, ReadingsFoundAreSo, IsRefused}
use Rattle.same_readings.proofs.TreeLemmas.{trees_are_one}
use Rattle.same_readings.proofs.NameLemmas.{bindings_are_one}

-- what holds of a value that a call gave
pub if_ok : {X E : Type 0} (r : Result X E) (P Q : X → Type 0) → ((x : X) → P x → Q x) → IfOk r P → IfOk r Q
if_ok (Ok x) P Q f h = f x h
if_ok (Err e) P Q f h = tt

module _ (toks : List Token) (tree : Node) (bound : Bound) where
  bound_found : (r : Result Bound Fault) → is_bound_so bound r ≡ true → r ≡ Ok bound
  bound_found (Ok b) h = ap (λ (x : Bound). Ok x) ((bindings_are_one b bound).0 h)
  bound_found (Err f) h = absurd (false≢true h)

  found : (r : Result Node Stop) → read_of (grammar Gnu) toks ≡ r → is_read_so toks tree bound r ≡ true
      → (read_of (grammar Gnu) toks ≡ Ok tree) × (gnu_binding_of toks tree ≡ Ok bound)
  found (Err stop) is h = absurd (false≢true h)
  found (Ok t) is h =
      let both = and_parts (same_tree t tree) (is_bound_so bound (gnu_binding_of toks t)) h in
      let same : t ≡ tree = (trees_are_one t tree).0 both.0 in
      (is ∙ ap (λ (x : Node). Ok x) same, ap (gnu_binding_of toks) (sym same) ∙ bound_found (gnu_binding_of toks t) both.1)

  -- ---- answers

  -- what was refused is not so
  pub unread : (o : Option Stop) (answer : Bool) → IsRefused o answer → IfSome o (λ stop. read_of (grammar Gnu) toks ≡ Err stop) → answer ≡ reads_so toks tree bound
  unfolding reads_so
  unread None answer refused is = absurd (refused.1 refl)
  unread (Some stop) answer refused is = refused.0 ∙ sym (ap (is_read_so toks tree bound) is)

  pub unbound : (o : Option Fault) (answer : Bool) (t : Node) → same_tree t tree ≡ true → IsRefused o answer → IfSome o (λ fault. gnu_binding_of toks t ≡ Err fault)
      → answer ≡ is_read_so toks tree bound (Ok t)
  unbound None answer t same refused is = absurd (refused.1 refl)
  unbound (Some fault) answer t same refused is = refused.0 ∙ (sym (ap (is_bound_so bound) is) ∙ sym (ap (λ (b : Bool). b && is_bound_so bound (gnu_binding_of toks t)) same))

  pub read_again : (answer : Bool) (t : Node) → read_of (grammar Gnu) toks ≡ Ok t → answer ≡ is_read_so toks tree bound (Ok t) → answer ≡ reads_so toks tree bound
  unfolding reads_so
  read_again answer t is found = found ∙ sym (ap (is_read_so toks tree bound) is)

pub readings_found_are_so : ReadingsFoundAreSo
unfolding reads_so
readings_found_are_so = λ toks tree bound h. found toks tree bound (read_of (grammar Gnu) toks) refl h
