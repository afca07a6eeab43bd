-- The classes of the next two tokens.
use Rattle.std.proofs.Common.{ℕ, ◌≡◌, List, ap, ◌∙◌}
use Rattle.c99_tree.specs.Names.{Declared}
use Rattle.c99_grammar.specs.declared.classes.Class.{Class}
use Rattle.c99_read.specs.Kept.{class_among}
use Rattle.c99_grammar.specs.Standard.{Grammar}
use Rattle.c99_read.specs.State.{State, class_at, spelled_scopes}

-- the class of a token, from the names that are visible
pub class_at-among : (g : Grammar) (s : State) (visible : List (List Declared)) (k : ℕ) (c : Class) → visible ≡ spelled_scopes s.toks s.names.scopes
    → c ≡ class_among g s.toks visible k → c ≡ class_at g s k
unfolding class_at class_among
class_at-among g s visible k c at_visible at_class = at_class ∙ ap (λ v. class_among g s.toks v k) at_visible
