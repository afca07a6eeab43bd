-- States that reading steps through.
use Rattle.std.proofs.Common.{ℕ, ◌≡◌, refl}
use Rattle.c99_tree.specs.Tree.{Node, node_of, none}
use Rattle.c99_tree.specs.declared.production.Production.{Production}
use Rattle.c99_read.specs.State.{State, Names, opened, names_opened}

-- the parts of a state with a node opened
pub opened-parts : (p : Production) (n : ℕ) (s : State) (names : Names) (built : Node) → names ≡ names_opened p s.names
    → built ≡ node_of (record { production = p; alternative = n }) s.at none → record s { names = names; built = built } ≡ opened p n s
unfolding opened
opened-parts p n s names built at_names at_built = rw (at_names, at_built) refl
