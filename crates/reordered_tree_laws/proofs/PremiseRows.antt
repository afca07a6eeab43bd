-- Worked rows of what must be true for a new order: it is so of the texts whose names bind as before (`proofs/Rows.antt`), and
-- of none of the others.
use Rattle.std.proofs.Common.{ℕ, ◌≡◌, Bool, true, false, ◌&&◌, ◌||◌, not, ◌==◌, List, length, Ok, Err, refl}
use Rattle.std.specs.Prelude.{Result}
use Rattle.std.specs.List.{list_all}
use Rattle.cs_base.specs.Token.{Token}
use Rattle.c99_tree.specs.Tree.{Node}
use Rattle.c_types.specs.declared.declarations.Fault.{Fault}
use Rattle.c_types.specs.Declarations.{is_in}
use Rattle.name_chains.specs.Frames.{outermost}
use Rattle.scope_bind.specs.declared.bound.Name.{Name}
use Rattle.scope_bind.specs.Bound.{Bound, binding_of}
use Rattle.scope_bind.specs.Walk.{walked}
use Rattle.reordered_tree_laws.specs.Premises.{is_fit, lists_pass, is_item, are_apart, tags_in}
use Rattle.reordered_tree_laws.proofs.Rows.{kept-text, kept-tree, nested-text, nested-tree, prototypes-text, prototypes-tree, body-text, body-tree, tag-text, tag-tree, typedefs-text, typedefs-tree}

-- no tag or enumerator in an item is declared there
abbrev is_fresh : (ℕ → Bool) → Node → Result Bound Fault → Bool
is_fresh lists tree (Ok b) =
    list_all (λ (n : Name). not (n.declares && is_in (tags_in lists false false (outermost 0).label 0 tree.under) n.index)) b.names
is_fresh lists tree (Err f) = false

-- the premises of a new order that a text and its tree show
abbrev can_reorder : (ℕ → Bool) → List Token → Node → Bool
can_reorder lists toks tree =
    is_fit lists (outermost (length toks)).label true 0 (outermost (length toks)).scope true tree.under
    && (lists_pass lists (list_all is_item) false tree.under
    && (lists_pass lists (are_apart toks) false tree.under && is_fresh lists tree (binding_of toks tree)))

kept : can_reorder (λ k. k == 2) kept-text kept-tree ≡ true
unfolding binding_of walked
kept = refl

nested : can_reorder (λ k. (k == 2) || ((k == 19) || (k == 26))) nested-text nested-tree ≡ true
unfolding binding_of walked
nested = refl

prototypes : can_reorder (λ k. k == 2) prototypes-text prototypes-tree ≡ true
unfolding binding_of walked
prototypes = refl

body : can_reorder (λ k. k == 4) body-text body-tree ≡ false
unfolding binding_of walked
body = refl

tag : can_reorder (λ k. (k == 2) || (k == 14)) tag-text tag-tree ≡ false
unfolding binding_of walked
tag = refl

typedefs : can_reorder (λ k. k == 6) typedefs-text typedefs-tree ≡ false
unfolding binding_of walked
typedefs = refl

-- Which premise fails: the form of the declarator whose list a body begins with, a tag with a list in braces in an item, and a
-- used name that another item declares.
body-form : is_fit (λ k. k == 4) (outermost (length body-text)).label true 0 (outermost (length body-text)).scope true body-tree.under ≡ false
body-form = refl

tag-item : lists_pass (λ k. (k == 2) || (k == 14)) (list_all is_item) false tag-tree.under ≡ false
tag-item = refl

pub typedefs-names : lists_pass (λ k. k == 6) (are_apart typedefs-text) false typedefs-tree.under ≡ false
typedefs-names = refl
