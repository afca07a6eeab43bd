-- Whether two trees are one.
use Rattle.std.specs.Prelude.{Bool, true, false, ◌&&◌, ◌==◌}
use Rattle.c99_tree.specs.Tree.{Forest, none, token, node, Node}
use Rattle.c99_tree.specs.declared.production.Label.{Label}
use Rattle.same_readings.specs.Numbers.{number_of}

abbrev pub same_label : Label → Label → Bool
same_label l m = (number_of l.production == number_of m.production) && (l.alternative == m.alternative)

-- the children, with their first tokens and all that stands below
abbrev pub same_forest : Forest → Forest → Bool
same_forest none none = true
same_forest none (token j rest') = false
same_forest none (node m second below rest') = false
same_forest (token i rest) none = false
same_forest (token i rest) (token j rest') = (i == j) && same_forest rest rest'
same_forest (token i rest) (node m second below rest') = false
same_forest (node l first under rest) none = false
same_forest (node l first under rest) (token j rest') = false
same_forest (node l first under rest) (node m second below rest') =
    (same_label l m && ((first == second) && same_forest under below)) && same_forest rest rest'

abbrev pub same_tree : Node → Node → Bool
same_tree t u = same_label t.label u.label && ((t.first == u.first) && same_forest t.under u.under)
