use Rattle.std.proofs.Common.{◌≡◌, ◌+◌, Bool, true, false, ◌||◌, refl, sym, ap, ◌∙◌}
use Rattle.c99_tree.specs.declared.production.Production.TheVariants.{Members, Enumerators}
use Rattle.c_types.specs.Children.{from_child}
use Rattle.c_types.specs.Trees.{has_node, is_node}
use Rattle.scope_bind.specs.Braced.{has_list}
use Rattle.scope_bind.proofs.entering.is_braced_at.Goals as goal

either-first : (a b c d : Bool) → ((a || b) || (c || d)) ≡ ((a || c) || (b || d))
either-first true b c d = refl
either-first false true true d = refl
either-first false true false d = refl
either-first false false c d = refl

pub returns-in-Node : goal.returns-in-Node
returns-in-Node c =
    let rest = from_child (c.args.k + 1) c.args.tree.now.under in
    let l = c.in-Node.inner.now.label in
    ap has_list c.in-Node.ensures.here
    ∙ either-first (is_node l Members) (has_node Members rest) (is_node l Enumerators) (has_node Enumerators rest)
    ∙ ap (λ b. b || has_list rest) (sym (c.is_braced.ensures ∙ ap (λ k. is_node k Members || is_node k Enumerators) c.label.ensures))
