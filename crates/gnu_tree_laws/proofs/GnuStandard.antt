-- A text that the standards bind, and that uses nothing of GNU C, binds so by GNU C.
use Rattle.std.proofs.Common.{ℕ, ◌+◌, ◌≡◌, Bool, true, false, ◌&&◌, not, if◌then◌else◌, List, length, Option, None, Some, Ok, refl, sym, ap, ◌∙◌}
use Rattle.std.specs.Prelude.{is_some}
use Rattle.std.specs.Str.{bytes_eq}
use Rattle.std.proofs.lemmas.Bool.{false≢true}
use Rattle.cs_base.specs.Token.{Token}
use Rattle.cs_base.proofs.BoolLemmas.{and_false}
use Rattle.c99_tree.specs.Tree.{Node}
use Rattle.gnu_bind.specs.Below.c_types.Declarations.{Facts, spelling_at, visible}
use Rattle.gnu_bind.specs.Below.scope_bind.Below.name_chains.Frames.{State, at_first}
use Rattle.gnu_bind.specs.Below.scope_bind.Named.{Declaration, Frame, ordinary, undeclared}
use Rattle.gnu_bind.specs.Below.scope_bind.Ordinary.{is_func, named_facts, used_as}
use Rattle.gnu_bind.specs.Below.scope_bind.Bound.{Bound, bound_after, facts_of, binding_of}
use Rattle.gnu_bind.specs.Bound.{gnu_binding_of}
use Rattle.gnu_bind.specs.Names.{is_implied}
use Rattle.gnu_bind.specs.Words.{begins_call}
use Rattle.gnu_bind.specs.Standards.{StandardTextsBindAlike}
use Rattle.gnu_bind.proofs.StandardLemmas.{GoesBack, walked_same}
use Rattle.tree_laws.specs.RenamedNames.{is_own_word}
use Rattle.tree_laws.proofs.LinkedNames.{among_in}
use Rattle.tree_laws.proofs.HeldNames.{occurrences_alike}
use Rattle.tree_laws.proofs.Renaming.{Good, fault_back}
use Rattle.tree_laws.proofs.RenamedSteps.{entered_back, passed_back, left_back}
use Rattle.tree_laws.proofs.RenamedWalk.{no_fault}

module _ (toks : List Token) where
  abbrev Clean : Facts → Type 0
  Clean facts = Good toks toks facts

  same_words : (word : List ℕ) (k : ℕ) → is_own_word word ≡ true → bytes_eq (spelling_at toks k) word ≡ bytes_eq (spelling_at toks k) word
  same_words word k h = refl

  -- where nothing is wrong a name that denotes something is visible
  seen : (f : Frame) (i : ℕ) (facts : Facts) → Clean (named_facts toks f i facts) → is_implied toks f i facts ≡ false
  seen f i facts = by (begins_call (spelling_at toks (i + 1))) (is_func toks f i) (visible toks ordinary i i facts)
    where
      by : (c d : Bool) (r : Option Declaration) → Clean (if d then facts else used_as toks i r facts) → (c && (not (is_some r) && not d)) ≡ false
      by c true r so = ap (λ (x : Bool). c && x) (and_false (not (is_some r))) ∙ and_false c
      by c false None so = absurd (false≢true (sym (fault_back toks toks true undeclared i facts so)))
      by c false (Some d) so = and_false c

  goes_back : GoesBack toks Clean
  goes_back = record {
    seen = seen;
    passed = λ r i t so. passed_back toks toks same_words r i t so;
    entered = λ l first under t so. entered_back toks toks same_words l first under t so;
    left = λ l first under t t' so. left_back toks toks same_words l first under t t' so;
  }

pub standard_texts : StandardTextsBindAlike
unfolding gnu_binding_of binding_of
standard_texts toks tree b h e bound =
    let facts : Facts = facts_of toks tree.under in
    let clean : Good toks toks facts = record {
      clean = no_fault tree.under facts facts.fault b bound;
      good = λ o w. occurrences_alike toks tree o (among_in o facts.occurrences w);
      apart = λ o w i same. same;
    } in
    ap (λ (s : State). bound_after tree.under s.facts) (walked_same toks h (λ x. Good toks toks x) (goes_back toks) tree.under (at_first (length toks)) e clean) ∙ bound
