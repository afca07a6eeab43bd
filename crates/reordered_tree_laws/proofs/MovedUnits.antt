-- A text whose lists are in a new order binds alike, where each list does.
use Rattle.std.proofs.Common.{ℕ, ◌≡◌, true, List, Option, None, Some, Ok, refl, sym, ap, arith}
use Rattle.std.specs.Prelude.{nat_lt, is_some}
use Rattle.std.proofs.lemmas.Bool.{ltb-true, lt-ltb}
use Rattle.cs_base.specs.Token.{Token}
use Rattle.c99_tree.specs.Tree.{Node}
use Rattle.c_types.specs.Declarations.{Facts}
use Rattle.name_chains.specs.Frames.{outermost, at_first}
use Rattle.scope_bind.specs.Named.{Fault}
use Rattle.scope_bind.specs.Bound.{Bound, bound_of, bound_unless, facts_of, binding_of}
use Rattle.tree_laws.proofs.HeldNames.{bound_is}
use Rattle.tree_laws.proofs.RenamedWalk.{no_fault}
use Rattle.scope_bind.specs.Moved.{AreMovedTexts}
use Rattle.reordered_tree_laws.specs.Moving.{StatesGo}
use Rattle.reordered_tree_laws.proofs.MovedTrees.{AreSpans}
use Rattle.reordered_tree_laws.proofs.MovedEntering.{both_ways}

-- the text binds without a fault
module _ (toks : List Token) (tree : Node) (b : Bound) (e : binding_of toks tree ≡ Ok b) where
  abbrev facts : Facts
  facts = facts_of toks tree.under

  unless_ok : bound_unless tree.under facts facts.fault ≡ Ok b
  unfolding binding_of
  unless_ok = e

  pub clean_facts : facts.fault ≡ None
  clean_facts = no_fault tree.under facts facts.fault b unless_ok

  pub bound_facts : b ≡ bound_of tree.under facts
  bound_facts = bound_is tree.under facts facts.fault b unless_ok

pub no_some : (o p : Option Fault) → is_some p ≡ is_some o → o ≡ None → p ≡ None
no_some None None e h = refl
no_some None (Some x) e h = absurd cc
no_some (Some x) p e h = absurd cc

module _ (m : ℕ → ℕ) (old new : List Token) (law : AreMovedTexts m old new) (count : ℕ) (spans : AreSpans m 0 0 count) where
  pub starts_go : StatesGo m old new true true 0 0 (at_first count) (at_first count)
  starts_go = record {
    facts = record { asked = λ q w. tt; told = λ i. tt; begun = λ n. refl; complete = λ n. refl; jumps = refl; fault = refl; noted = λ i. refl };
    frame = record {
      same = ap (λ (x : ℕ). record (outermost count) { owner = x }) (sym law.first);
      token = λ e. sym law.first;
      kept = λ e. refl;
      ends = λ k a. both_ways (nat_lt (m k) count) (nat_lt k count)
          (λ e. lt-ltb k count (omega (arith, (spans.back k (omega arith) (omega (arith, ltb-true (m k) count e))).1)))
          (λ e. lt-ltb (m k) count (omega (arith, (spans.over k (omega arith) (omega (arith, ltb-true k count e))).1)));
      outer = λ e. absurd (omega (arith, e));
    };
  }

pub told_of : (toks : List Token) (tree : Node) → (facts_of toks tree.under).fault ≡ None → binding_of toks tree ≡ Ok (bound_of tree.under (facts_of toks tree.under))
unfolding binding_of
told_of toks tree e = ap (λ (o : Option Fault). bound_unless tree.under (facts_of toks tree.under) o) e
