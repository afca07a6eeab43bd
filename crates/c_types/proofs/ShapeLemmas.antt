-- Shapes of forests tell what the definitions over them say.
use Rattle.std.proofs.Common.{ℕ, ◌≡◌, ◌&&◌, [], Option, None, Some, refl}
use Rattle.c99_tree.specs.Tree.{Forest, none, token, node}
use Rattle.c99_tree.specs.declared.production.Label.{Label}
use Rattle.c_types.specs.Trees.{is_bare, name_below}
use Rattle.c_types.specs.Lists.{commas_in, call_in, definition_in, tail_of, declarator_in, name_in}
use Rattle.c_types.specs.Shapes.{first_node, inner_in, commas_of, second_node, behind_token, are_two, is_bare_of, call_of, definition_of, definition_by, declarator_of, name_of_inner}

pub bare_shape : (f : Forest) → is_bare f ≡ (are_two f && is_bare_of (first_node f) (second_node f))
bare_shape none = refl
bare_shape (token i rest) = refl
bare_shape (node l first under none) = refl
bare_shape (node l first under (token i rest)) = refl
bare_shape (node l first under (node m second below none)) = refl
bare_shape (node l first under (node m second below (token i rest))) = refl
bare_shape (node l first under (node m second below (node o third under' rest))) = refl

pub commas_shape : (f : Forest) → commas_in f ≡ commas_of (inner_in f)
commas_shape none = refl
commas_shape (token i rest) = commas_shape rest
commas_shape (node l first under rest) = refl

pub call_shape : (f : Forest) → call_in f ≡ call_of (first_node f) (second_node f)
call_shape none = refl
call_shape (token i rest) = refl
call_shape (node l first none none) = refl
call_shape (node l first none (token j rest)) = refl
call_shape (node l first none (node m second below rest)) = refl
call_shape (node l first (token i none) none) = refl
call_shape (node l first (token i none) (token j rest)) = refl
call_shape (node l first (token i none) (node m second below rest)) = refl
call_shape (node l first (token i (token j more)) none) = refl
call_shape (node l first (token i (token j more)) (token k rest)) = refl
call_shape (node l first (token i (token j more)) (node m second below rest)) = refl
call_shape (node l first (token i (node o third u more)) none) = refl
call_shape (node l first (token i (node o third u more)) (token k rest)) = refl
call_shape (node l first (token i (node o third u more)) (node m second below rest)) = refl
call_shape (node l first (node o third u more) none) = refl
call_shape (node l first (node o third u more) (token k rest)) = refl
call_shape (node l first (node o third u more) (node m second below rest)) = refl

tail-by : (name : Option ℕ) (l : Label) (first : ℕ) (under rest : Forest) → tail_of name (node l first under rest) ≡ definition_by name (first_node under)
tail-by None l first under rest = refl
tail-by (Some name) l first none rest = refl
tail-by (Some name) l first (token i more) rest = refl
tail-by (Some name) l first (node m second below more) rest = refl

tail-none : (name : Option ℕ) → tail_of name none ≡ []
tail-none None = refl
tail-none (Some n) = refl

tail-token : (name : Option ℕ) (i : ℕ) (rest : Forest) → tail_of name (token i rest) ≡ []
tail-token None i rest = refl
tail-token (Some n) i rest = refl

pub definition_shape : (f : Forest) → definition_in f ≡ definition_of (first_node f) (second_node f)
definition_shape none = refl
definition_shape (token i rest) = refl
definition_shape (node l first under none) = tail-none (name_below l under)
definition_shape (node l first under (token i rest)) = tail-token (name_below l under) i rest
definition_shape (node l first under (node m second below rest)) = tail-by (name_below l under) m second below rest

pub declarator_shape : (f : Forest) → declarator_in f ≡ declarator_of (first_node f)
declarator_shape none = refl
declarator_shape (token i rest) = refl
declarator_shape (node l first under rest) = refl

inner-of : (i : ℕ) (l : Label) (first : ℕ) (under more : Forest)
    → name_in (token i (node l first under more)) ≡ name_of_inner (behind_token (token i (node l first under more)))
inner-of p l first none more = refl
inner-of p l first (token i rest) more = refl
inner-of p l first (node m begin none rest) more = refl
inner-of p l first (node m begin (token i list) rest) more = refl
inner-of p l first (node m begin (node o third u list) rest) more = refl

pub name_shape : (f : Forest) → name_in f ≡ name_of_inner (behind_token f)
name_shape none = refl
name_shape (node l first under rest) = refl
name_shape (token i none) = refl
name_shape (token i (token j rest)) = refl
name_shape (token i (node l first under more)) = inner-of i l first under more
