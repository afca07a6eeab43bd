-- In one unit of GNU C an identifier that has linkage denotes one entity.
use Rattle.std.proofs.Common.{ℕ, ◌≡◌, true, List, length, None, sym, subst}
use Rattle.cs_base.specs.Token.{Token}
use Rattle.c99_tree.specs.Tree.{Node}
use Rattle.gnu_bind.specs.Below.c_types.Declarations.{Facts, has_linkage, alike}
use Rattle.gnu_bind.specs.Below.scope_bind.Below.name_chains.Frames.{at_first}
use Rattle.gnu_bind.specs.Below.scope_bind.Bound.{Bound}
use Rattle.gnu_bind.specs.Below.scope_bind.Names.{linkage_at}
use Rattle.gnu_bind.specs.Bound.{facts_of, gnu_binding_of}
use Rattle.gnu_bind.specs.Senses.{usual_sense}
use Rattle.tree_laws.proofs.InLists.{In as Among}
use Rattle.tree_laws.proofs.Lookups.{In}
use Rattle.tree_laws.proofs.Renaming.{Good, Kept}
use Rattle.tree_laws.proofs.RenamedWalk.{no_fault}
use Rattle.tree_laws.proofs.LinkedNames.{among_in, one_token}
use Rattle.gnu_tree_laws.specs.GnuNames.{GnuBinds, OneLinkedGnuName}
use Rattle.gnu_tree_laws.proofs.GnuKept.{walked_kept}
use Rattle.gnu_tree_laws.proofs.GnuSpelled.{binding_is, occurrences_alike}
use Rattle.gnu_tree_laws.proofs.GnuOnce.{facts_once}

all_kept : (toks : List Token) (tree : Node) (b : Bound) → GnuBinds toks tree b → Kept toks (facts_of toks tree.under)
unfolding gnu_binding_of
all_kept toks tree b e =
    let facts : Facts = facts_of toks tree.under in
    let clean : facts.fault ≡ None = no_fault tree.under facts facts.fault b e in
    let good : Good toks toks facts = record {
      clean = clean;
      good = λ o w. occurrences_alike toks tree o (among_in o facts.occurrences w);
      apart = λ o w i same. same;
    } in
    let start : Kept toks (at_first (length toks)).facts = record { covered = λ d w u. absurd w; linked = λ d w. absurd w; one = λ i d x v w l m. absurd v } in
    walked_kept toks tree.under usual_sense (at_first (length toks)) start good

pub linked_once : OneLinkedGnuName
linked_once toks tree b t e =
    subst (λ (x : Bound). (j k : ℕ) → has_linkage (linkage_at x.names j) ≡ true → has_linkage (linkage_at x.names k) ≡ true → alike toks j k ≡ true → j ≡ k)
    (sym (binding_is toks tree b e)) (one_token toks (facts_of toks tree.under) (facts_once toks tree t) (all_kept toks tree b e))
