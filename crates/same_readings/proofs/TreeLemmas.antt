-- Trees that are the same are one.
use Rattle.std.proofs.Common.{ℕ, ◌≡◌, Bool, true, false, ◌&&◌, ◌==◌, List, Option, Some, refl, sym, ap, ◌∙◌}
use Rattle.std.specs.Prelude.{slice_get}
use Rattle.std.proofs.lemmas.Bool.{false≢true, and_parts, and_from, eq-eqb, eqb-true}
use Rattle.std.proofs.lemmas.Option.{same_Some}
use Rattle.c99_tree.specs.Tree.{Forest, none, token, node, Node, node_of}
use Rattle.c99_tree.specs.declared.production.Label.{Label}
use Rattle.c99_tree.specs.declared.production.Production.{Production}
use Rattle.c99_tree.specs.declared.production.Production.TheVariants.{TranslationUnit}
use Rattle.c_types.specs.Shapes.{is_end}
use Rattle.same_readings.specs.Numbers.{number_of, productions}
use Rattle.same_readings.specs.SameTrees.{same_label, same_forest, same_tree}
use Rattle.same_readings.specs.Laws.{SameTreesAreOne}

-- a number tells its production
numbered : (p : Production) → slice_get productions (number_of p) ≡ Some p
numbered TranslationUnit = refl
numbered _ = refl

one_production : (p q : Production) → (number_of p == number_of q) ≡ true → p ≡ q
one_production p q e =
    same_Some p q (sym (numbered p) ∙ (ap (slice_get productions) (eqb-true (number_of p) (number_of q) e) ∙ numbered q))

one_label : (l m : Label) → same_label l m ≡ true → l ≡ m
one_label l m e =
    let parts = and_parts (number_of l.production == number_of m.production) (l.alternative == m.alternative) e in
    ap (λ (p : Production). record { production = p; alternative = l.alternative }) (one_production l.production m.production parts.0)
    ∙ ap (λ (n : ℕ). record { production = m.production; alternative = n }) (eqb-true l.alternative m.alternative parts.1)

label_itself : (l : Label) → same_label l l ≡ true
label_itself l =
    and_from (number_of l.production == number_of l.production) (l.alternative == l.alternative)
    (eq-eqb (number_of l.production) (number_of l.production) refl) (eq-eqb l.alternative l.alternative refl)

one_forest : (f g : Forest) → same_forest f g ≡ true → f ≡ g
one_forest none none e = refl
one_forest none (token j rest') e = absurd (false≢true e)
one_forest none (node m second below rest') e = absurd (false≢true e)
one_forest (token i rest) none e = absurd (false≢true e)
one_forest (token i rest) (token j rest') e =
    let parts = and_parts (i == j) (same_forest rest rest') e in
    ap (λ (n : ℕ). token n rest) (eqb-true i j parts.0) ∙ ap (token j) (one_forest rest rest' parts.1)
one_forest (token i rest) (node m second below rest') e = absurd (false≢true e)
one_forest (node l first under rest) none e = absurd (false≢true e)
one_forest (node l first under rest) (token j rest') e = absurd (false≢true e)
one_forest (node l first under rest) (node m second below rest') e =
    let parts = and_parts (same_label l m && ((first == second) && same_forest under below)) (same_forest rest rest') e in
    let here = and_parts (same_label l m) ((first == second) && same_forest under below) parts.0 in
    let inner = and_parts (first == second) (same_forest under below) here.1 in
    ap (λ (x : Label). node x first under rest) (one_label l m here.0)
    ∙ (ap (λ (n : ℕ). node m n under rest) (eqb-true first second inner.0)
    ∙ (ap (λ (f : Forest). node m second f rest) (one_forest under below inner.1) ∙ ap (λ (f : Forest). node m second below f) (one_forest rest rest' parts.1)))

forest_itself : (f : Forest) → same_forest f f ≡ true
forest_itself none = refl
forest_itself (token i rest) = and_from (i == i) (same_forest rest rest) (eq-eqb i i refl) (forest_itself rest)
forest_itself (node l first under rest) =
    and_from (same_label l l && ((first == first) && same_forest under under)) (same_forest rest rest)
    (and_from (same_label l l) ((first == first) && same_forest under under) (label_itself l)
    (and_from (first == first) (same_forest under under) (eq-eqb first first refl) (forest_itself under)))
    (forest_itself rest)

one_tree : (t u : Node) → same_tree t u ≡ true → t ≡ u
one_tree t u e =
    let parts = and_parts (same_label t.label u.label) ((t.first == u.first) && same_forest t.under u.under) e in
    let inner = and_parts (t.first == u.first) (same_forest t.under u.under) parts.1 in
    ap (λ (l : Label). node_of l t.first t.under) (one_label t.label u.label parts.0)
    ∙ (ap (λ (n : ℕ). node_of u.label n t.under) (eqb-true t.first u.first inner.0) ∙ ap (node_of u.label u.first) (one_forest t.under u.under inner.1))

tree_itself : (t : Node) → same_tree t t ≡ true
tree_itself t =
    and_from (same_label t.label t.label) ((t.first == t.first) && same_forest t.under t.under) (label_itself t.label)
    (and_from (t.first == t.first) (same_forest t.under t.under) (eq-eqb t.first t.first refl) (forest_itself t.under))

pub trees_are_one : SameTreesAreOne
trees_are_one t u = (one_tree t u, tree_itself t)

-- ---- One child after another

pub ended : (f : Forest) → same_forest none f ≡ is_end f
ended none = refl
ended (token i rest) = refl
ended (node l first under rest) = refl

pub passed-yes : (here whole found rest : Bool) → here ≡ whole → here ≡ (found && rest) → found ≡ false → false ≡ whole
passed-yes here whole found rest kept step is = sym (sym kept ∙ (step ∙ ap (λ b. b && rest) is))

pub passed-no : (here whole found rest : Bool) → here ≡ whole → here ≡ (found && rest) → found ≡ true → rest ≡ whole
passed-no here whole found rest kept step is = sym (step ∙ ap (λ b. b && rest) is) ∙ kept
