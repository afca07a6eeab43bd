-- How the logic tells one tree from another: by its signs in prefix order.
use Rattle.std.specs.Prelude.{ℕ, ◌≡◌, Option, None, Some, List, [], ◌∷◌, refl}
use Rattle.std.proofs.Common.{ap, ◌∙◌}
use Rattle.std.specs.Coded.{Coded, code_by, coded_ℕ, coded×, coded_list, coded_option}
use Rattle.c99_tree.specs.declared.production.Label.{Label}
use Rattle.c99_tree.specs.contracts.production.Label.{the_row}
use Rattle.c99_tree.specs.Tree.{Forest, none, token, node, Node, node_of}

-- the end of some children, a token, or a node whose children follow
abbrev pub Sign : Type 0
Sign = Option (Option (Label × ℕ) × ℕ)

abbrev pub signs : Forest → List Sign → List Sign
signs none more = None ∷ more
signs (token i rest) more = Some (None, i) ∷ signs rest more
signs (node label first under rest) more = Some (Some (label, first), 0) ∷ signs under (signs rest more)

-- the forests that are read from the right, once this sign is read too
abbrev pub sign_read : Sign → List Forest → List Forest
sign_read None read = none ∷ read
sign_read (Some (None, i)) (rest ∷ read) = token i rest ∷ read
sign_read (Some (Some (label, first), _)) (under ∷ (rest ∷ read)) = node label first under rest ∷ read
sign_read _ read = read

abbrev pub signs_read : List Sign → List Forest
signs_read [] = []
signs_read (sign ∷ more) = sign_read sign (signs_read more)

pub signs_read-signs : (f : Forest) (more : List Sign) → signs_read (signs f more) ≡ f ∷ signs_read more
signs_read-signs none more = refl
signs_read-signs (token i rest) more = ap (sign_read (Some (None, i))) (signs_read-signs rest more)
signs_read-signs (node label first under rest) more =
    ap (sign_read (Some (Some (label, first), 0)))
    (signs_read-signs under (signs rest more) ∙ ap (λ read. under ∷ read) (signs_read-signs rest more))

abbrev pub first_forest : List Forest → Forest
first_forest [] = none
first_forest (f ∷ read) = f

abbrev pub forest_code : Coded Forest
forest_code =
    code_by (List Sign) (coded_list (coded_option (coded× (coded_option (coded× the_row.coded coded_ℕ)) coded_ℕ)))
    (λ f. signs f []) (λ s. first_forest (signs_read s)) (λ f. ap first_forest (signs_read-signs f []))

abbrev pub node_code : Coded Node
node_code =
    code_by (Label × (ℕ × Forest)) (coded× the_row.coded (coded× coded_ℕ forest_code))
    (λ n. (n.label, (n.first, n.under))) (λ p. node_of p.0 p.1.0 p.1.1) (λ _. refl)
