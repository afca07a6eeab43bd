-- What a tree tells whose children are told in two parts: what the first part does, and then what the second does.
use Rattle.std.proofs.Common.{◌≡◌, [], ◌++◌, List, if◌then◌else◌, append_assoc, refl, sym, ap, ◌∙◌}
use Rattle.c99_tree.specs.Tree.{Forest, none, token, node}
use Rattle.c99_tree.specs.Joined.{joined}
use Rattle.c99_tree.specs.declared.production.Production.TheVariants.{ExtRest, Unary}
use Rattle.c_types.specs.declared.lists.List.{List as NameList}
use Rattle.c_types.specs.declared.lists.Range.{Range}
use Rattle.c_types.specs.Lists.{call_in, calls_in, definition_in, bodies_in, declarator_in, is_declaring, lists_in, bare_at, bare_in}
use Rattle.c_types.specs.Trees.{is_node}

pub lists_joined : (f h : Forest) → lists_in (joined f h) ≡ lists_in f ++ lists_in h
lists_joined none h = refl
lists_joined (token i rest) h = lists_joined rest h
lists_joined (node l first under rest) h =
    let own : List NameList = (if is_declaring l then declarator_in under else []) ++ lists_in under in
    ap (λ x. own ++ x) (lists_joined rest h) ∙ sym (append_assoc own (lists_in rest) (lists_in h))

pub calls_joined : (f h : Forest) → calls_in (joined f h) ≡ calls_in f ++ calls_in h
calls_joined none h = refl
calls_joined (token i rest) h = calls_joined rest h
calls_joined (node l first under rest) h =
    let own : List NameList = (if is_node l Unary then call_in under else []) ++ calls_in under in
    ap (λ x. own ++ x) (calls_joined rest h) ∙ sym (append_assoc own (calls_in rest) (calls_in h))

pub bodies_joined : (f h : Forest) → bodies_in (joined f h) ≡ bodies_in f ++ bodies_in h
bodies_joined none h = refl
bodies_joined (token i rest) h = bodies_joined rest h
bodies_joined (node l first under rest) h =
    let own : List Range = if is_node l ExtRest then definition_in under else bodies_in under in
    ap (λ x. own ++ x) (bodies_joined rest h) ∙ sym (append_assoc own (bodies_in rest) (bodies_in h))

pub bare_joined : (f h : Forest) → bare_in (joined f h) ≡ bare_in f ++ bare_in h
bare_joined none h = refl
bare_joined (token i rest) h = bare_joined rest h
bare_joined (node l first under rest) h =
    ap (λ x. (bare_at l under ++ bare_in under) ++ x) (bare_joined rest h) ∙ sym (append_assoc (bare_at l under ++ bare_in under) (bare_in rest) (bare_in h))
