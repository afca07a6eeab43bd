-- What is told of a unit, from the lists of what is known of it.
use Rattle.std.proofs.Common.{◌≡◌, List, Option, Some, map, reverse, sym, ap, ◌∙◌}
use Rattle.std.specs.Prelude.{filter, Err, IfSome}
use Rattle.cs_base.specs.Token.{Token}
use Rattle.c99_tree.specs.Tree.{Forest, Node}
use Rattle.c_types.specs.declared.declarations.Fault.{Fault}
use Rattle.c_types.specs.declared.declarations.Declaration.{Declaration}
use Rattle.c_types.specs.Declarations.{Facts, is_typedef_name}
use Rattle.scope_bind.specs.Bound.{range_of, typedefs_of, bound_unless, bound_after, facts_of, binding_of}
use Rattle.name_chains.proofs.Reversed.{filter_reversed, map_twice}

pub typedefs-in : (f : Facts) (ds : List Declaration) → reverse ds ≡ f.declared
    → map range_of (filter (λ d. is_typedef_name d.kind) ds) ≡ typedefs_of f
typedefs-in f ds d =
    sym (map_twice range_of (filter (λ e. is_typedef_name e.kind) ds))
    ∙ (ap (λ xs. reverse (map range_of xs)) (sym (filter_reversed (λ e. is_typedef_name e.kind) ds))
    ∙ ap (λ xs. reverse (map range_of (filter (λ e. is_typedef_name e.kind) xs))) d)

-- ---- The answer

pub answer-fault : (t : Forest) (f : Facts) (r : Option Fault) (fault : Fault) → r ≡ Some fault → f.fault ≡ Some fault
    → IfSome r (λ g. bound_after t f ≡ Err g)
answer-fault t f r fault e g = rw e (ap (bound_unless t f) g)

pub binding-after : (toks : List Token) (tree : Node) (f : Facts) → f ≡ facts_of toks tree.under → bound_after tree.under f ≡ binding_of toks tree
unfolding binding_of
binding-after toks tree f e = ap (bound_after tree.under) e
