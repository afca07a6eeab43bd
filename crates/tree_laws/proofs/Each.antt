-- What is true of each node that reading makes is true of each node below the open one.
use Rattle.std.proofs.Common.{ℕ, ◌≡◌, Bool, true, false, ◌&&◌, if◌then◌else◌, Ok, refl, ap, ◌∙◌}
use Rattle.std.specs.List.{list_all}
use Rattle.std.proofs.lemmas.Bool.{false≢true, and_parts, and_from}
use Rattle.c99_tree.specs.Tree.{Forest, none, token, node, Node, leaf, inner, put, lone, collapsed}
use Rattle.c99_tree.specs.declared.production.Production.{Production}
use Rattle.c99_grammar.specs.Items.{Item, Action, Alternative}
use Rattle.c99_read.specs.State.{State, collapses, finished, acted, opened, closed}
use Rattle.c99_grammar.specs.Standard.{Grammar}
use Rattle.c99_read.specs.Reading.{Goal, step, read_within}
use Rattle.tree_laws.specs.Shapes.{goal_all, parts_all}
use Rattle.tree_laws.proofs.Walked.{After, IsKept, fit_each, kept_step, kept_within}

module _ (good : Production → Forest → Bool) where
  -- each node below is good
  abbrev pub each : Forest → Bool
  each none = true
  each (token i rest) = each rest
  each (node l first under rest) = good l.production under && (each under && each rest)

  -- the node is good, and each below it
  abbrev IsGood : Node → Type 0
  IsGood n = (good n.label.production n.under ≡ true) × (each n.under ≡ true)

  each_leaf : (f : Forest) (i : ℕ) → each f ≡ true → each (put f (leaf i)) ≡ true
  each_leaf none i w = refl
  each_leaf (token j rest) i w = each_leaf rest i w
  each_leaf (node l first under rest) i w =
      let here = and_parts (good l.production under) (each under && each rest) w in
      let below = and_parts (each under) (each rest) here.1 in
      and_from _ _ here.0 (and_from _ _ below.0 (each_leaf rest i below.1))

  each_inner : (f : Forest) (n : Node) → each f ≡ true → IsGood n → each (put f (inner n)) ≡ true
  each_inner none n w is_good = and_from _ _ is_good.0 (and_from _ _ is_good.1 refl)
  each_inner (token j rest) n w is_good = each_inner rest n w is_good
  each_inner (node l first under rest) n w is_good =
      let here = and_parts (good l.production under) (each under && each rest) w in
      let below = and_parts (each under) (each rest) here.1 in
      and_from _ _ here.0 (and_from _ _ below.0 (each_inner rest n below.1 is_good))

  good_lone : (f : Forest) (n : Node) → each f ≡ true → IsGood n → IsGood (lone f n)
  good_lone none n w is_good = is_good
  good_lone (token i rest) n w is_good = is_good
  good_lone (node l first under none) n w is_good =
      let here = and_parts (good l.production under) (each under && true) w in
      (here.0, (and_parts (each under) true here.1).0)
  good_lone (node l first under (token i rest)) n w is_good = is_good
  good_lone (node l first under (node m second below rest)) n w is_good = is_good

  -- .. also where the node itself is not known to be good
  pub each_lone : (f : Forest) (n : Node) → each f ≡ true → n.under ≡ f → each (lone f n).under ≡ true
  each_lone none n w e = ap each e ∙ w
  each_lone (token i rest) n w e = ap each e ∙ w
  each_lone (node l first under none) n w e =
      (and_parts (each under) true (and_parts (good l.production under) (each under && true) w).1).0
  each_lone (node l first under (token i rest)) n w e = ap each e ∙ w
  each_lone (node l first under (node m second below rest)) n w e = ap each e ∙ w

  good_finished : (p : Production) (n : Node) → IsGood n → IsGood (finished p n)
  good_finished p n is_good = by (collapses p)
    where
      by : (c : Bool) → IsGood (if c then collapsed n else n)
      by true = good_lone n.under n is_good.1 is_good
      by false = is_good

  -- a later state, in the same open node
  pub record Keeps (s s' : State) : Type 0 where
    pub production : s'.built.label.production ≡ s.built.label.production
    pub goes_on : each s.built.under ≡ true → each s'.built.under ≡ true

  acted_keeps : (g : Grammar) (a : Action) (s : State) → Keeps s (acted g a s)
  unfolding acted
  acted_keeps g a s = record { production = refl; goes_on = λ w. w }

  keeps_kept : (g : Grammar) → IsKept g Keeps
  keeps_kept g = record {
    still = λ s. record { production = refl; goes_on = λ w. w };
    further = λ s s' s'' k k'. record { production = k'.production ∙ k.production; goes_on = λ w. k'.goes_on (k.goes_on w) };
    taken = λ s. record { production = refl; goes_on = λ w. each_leaf s.built.under s.at w };
    done = acted_keeps g;
  }

  node_keeps : (p : Production) (n : ℕ) (s s' : State) → good p s'.built.under ≡ true → Keeps (opened p n s) s' → Keeps s (closed p s s')
  unfolding opened closed
  node_keeps p n s s' is_good keeps =
      let here : good s'.built.label.production s'.built.under ≡ true = ap (λ q. good q s'.built.under) keeps.production ∙ is_good in
      record {
        production = refl;
        goes_on = λ w. each_inner s.built.under (finished p s'.built) w (good_finished p s'.built (here, keeps.goes_on refl));
      }

  -- nodes that are read where these productions are allowed are good
  module _ (g : Grammar) (ok : Production → Bool) (fits : Production → Alternative → Bool) where
    -- an alternative that fits makes a good node
    abbrev pub MakesGood : Type 0
    MakesGood =
        (fuel depth : ℕ) (p : Production) (n : ℕ) (a : Alternative) (s s' : State) → ok p ≡ true → fits p a ≡ true
        → step g (read_within g fuel) depth a.body (opened p n s) ≡ Ok s' → good p s'.built.under ≡ true

    pub record AreGood : Type 0 where
      pub fit : (p : Production) → list_all (fits p) (g.table p) ≡ true
      pub inside : (p : Production) (a : Alternative) → fits p a ≡ true → ok p ≡ true → parts_all ok a.body ≡ true
      pub made : MakesGood

    pub keeps_within : AreGood → (fuel depth : ℕ) (goal : Goal) (s : State) → goal_all ok goal ≡ true
        → After (Keeps s) (read_within g fuel depth goal s)
    keeps_within are_good =
        kept_within g Keeps (keeps_kept g) ok (λ p n. fits p)
        (record {
          fit = λ p. fit_each (fits p) 1 (g.table p) (are_good.fit p);
          inside = λ p n a. are_good.inside p a;
          node = λ fuel depth p n a s s' of_ok fit is_read keeps. node_keeps p n s s' (are_good.made fuel depth p n a s s' of_ok fit is_read) keeps;
        })

    -- .. also below the open node, while the items of an alternative are read
    pub keeps_step : AreGood → (fuel : ℕ) (item : Item) (depth : ℕ) (s : State) → parts_all ok item ≡ true
        → After (Keeps s) (step g (read_within g fuel) depth item s)
    keeps_step are_good fuel = kept_step g Keeps (keeps_kept g) ok (read_within g fuel) (keeps_within are_good fuel)
