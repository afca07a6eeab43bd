-- The parameters of names, by the nodes that stand first; and they stand where the lists of the names do.
use Rattle.std.proofs.Common.{ℕ, ◌≡◌, Bool, true, false, if◌then◌else◌, List, [], ◌∷◌, ◌++◌, map, Option, None, Some, refl, sym, ap, ◌∙◌}
use Rattle.std.proofs.lemmas.List.{map-append}
use Rattle.c99_tree.specs.Tree.{Forest, none, token, node}
use Rattle.c99_tree.specs.declared.production.Production.TheVariants.{Declarator, Params}
use Rattle.c_types.specs.declared.lists.List.{List as NameList}
use Rattle.c_types.specs.declared.parameters.ParameterList.{ParameterList}
use Rattle.c_types.specs.Trees.{name_below, is_node, is_at}
use Rattle.c_types.specs.Lists.{nearest_of, own_list, declarator_in, is_declaring, lists_in}
use Rattle.c_types.specs.Shapes.{first_node, inner_in}
use Rattle.c_types.specs.ParameterShapes.{parameters_by, parameters_at}
use Rattle.c_types.specs.Parameters.{typed, untyped, parameters_of, own_parameters, declarator_parameters, parameters_in}

pub parameters_shape : (name : ℕ) (f : Forest) → parameters_of name f ≡ parameters_by name (inner_in f)
parameters_shape name none = refl
parameters_shape name (token i rest) = parameters_shape name rest
parameters_shape name (node l first under rest) = refl

pub declarator_parameters_shape : (f : Forest) → declarator_parameters f ≡ parameters_at (first_node f)
declarator_parameters_shape none = refl
declarator_parameters_shape (token i rest) = refl
declarator_parameters_shape (node l first under rest) = refl

-- ---- The names

abbrev names : List ParameterList → List ℕ
names = map (λ p. p.name)

abbrev list_names : List NameList → List ℕ
list_names = map (λ l. l.name)

either : (name : ℕ) (b : Bool) (u v : ParameterList) → u.name ≡ name → v.name ≡ name → (if b then u else v).name ≡ name
either name true u v p q = p
either name false u v p q = q

pub of-name : (name : ℕ) (f : Forest) → (parameters_of name f).name ≡ name
of-name name none = refl
of-name name (token i rest) = of-name name rest
of-name name (node l first under rest) = either name (is_at l Params 1) (untyped name under) (typed name under) refl refl

own-names : (name : Option ℕ) (near : Option (Option Forest)) → names (own_parameters name near) ≡ list_names (own_list name near)
own-names None near = refl
own-names (Some name) None = refl
own-names (Some name) (Some None) = refl
own-names (Some name) (Some (Some list)) = ap (λ n. n ∷ []) (of-name name list)

chosen : (b : Bool) (ps : List ParameterList) (ls : List NameList) → names ps ≡ list_names ls
    → names (if b then ps else []) ≡ list_names (if b then ls else [])
chosen true ps ls e = e
chosen false ps ls e = refl

declarator-names : (f : Forest) → names (declarator_parameters f) ≡ list_names (declarator_in f)
declarator-names none = refl
declarator-names (token i rest) = refl
declarator-names (node l first under rest) =
    chosen (is_node l Declarator) (own_parameters (name_below l under) (nearest_of under)) (own_list (name_below l under) (nearest_of under))
    (own-names (name_below l under) (nearest_of under))

joined : (p p' : List ParameterList) (l l' : List NameList) → names p ≡ list_names l → names p' ≡ list_names l'
    → names (p ++ p') ≡ list_names (l ++ l')
joined p p' l l' e e' = map-append (λ (x : ParameterList). x.name) p p' ∙ (ap (λ x. x ++ names p') e ∙ ap (λ x. list_names l ++ x) e')
    ∙ sym (map-append (λ (x : NameList). x.name) l l')

pub parameters-names : (f : Forest) → names (parameters_in f) ≡ list_names (lists_in f)
parameters-names none = refl
parameters-names (token i rest) = parameters-names rest
parameters-names (node l first under rest) =
    let here : List ParameterList = if is_declaring l then declarator_parameters under else [] in
    let lists : List NameList = if is_declaring l then declarator_in under else [] in
    joined (here ++ parameters_in under) (parameters_in rest) (lists ++ lists_in under) (lists_in rest)
    (joined here (parameters_in under) lists (lists_in under)
    (chosen (is_declaring l) (declarator_parameters under) (declarator_in under) (declarator-names under)) (parameters-names under))
    (parameters-names rest)
