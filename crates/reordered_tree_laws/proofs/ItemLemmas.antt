-- Items of a list bind alike without those before them.
use Rattle.std.proofs.Common.{false, refl, sym, subst}
use Rattle.c_types.specs.Declarations.{Facts}
use Rattle.name_chains.specs.Frames.{state}
use Rattle.reordered_tree_laws.specs.Beside.{beside_of, AreBeside}
use Rattle.reordered_tree_laws.specs.Adding.{ItemsBindAlike}
use Rattle.reordered_tree_laws.proofs.Adding.{parts_add_beside}
use Rattle.reordered_tree_laws.proofs.BesideWalk.{walk_beside}

pub items_bind_alike : ItemsBindAlike
items_bind_alike toks foreign front item s t zero_own h e owned clean same frame d d' =
    let first = beside_of foreign s.facts.declared in
    let second = beside_of foreign t.facts.declared in
    let facts : AreBeside foreign first second s.facts.occurrences t.facts.occurrences s.facts t.facts =
    subst (λ (x : Facts). AreBeside foreign first (beside_of foreign x.declared) s.facts.occurrences x.occurrences s.facts x) (sym same)
    (parts_add_beside toks foreign false front s h e owned clean) in
    walk_beside toks foreign zero_own first second s.facts.occurrences t.facts.occurrences item (state s.facts t.frame) t
    (record { facts = facts; frame = refl; owned = frame }) d d'
