-- Reading puts the tokens into trees one after another.
use Rattle.std.proofs.Common.{ℕ, zero, suc, ◌+◌, ◌≡◌, Bool, true, false, if◌then◌else◌, List, [], ◌∷◌, length, Ok, Err, ◌==◌, refl, sym, ap, subst, ◌∙◌, arith}
use Rattle.std.specs.List.{list_all}
use Rattle.std.proofs.lemmas.Bool.{false≢true, and_parts, eqb-true}
use Rattle.cs_base.specs.Token.{Token}
use Rattle.c99_tree.specs.Tree.{Forest, none, token, node, Node, leaf, inner, put, lone, collapsed}
use Rattle.c99_tree.specs.declared.production.Production.{Production}
use Rattle.c99_tree.specs.declared.production.Production.TheVariants.{TranslationUnit}
use Rattle.c99_grammar.specs.Items.{Item, end_of_text, ◌·◌, Action, Alternative}
use Rattle.c99_read.specs.State.{State, collapses, finished, acted, opened, closed}
use Rattle.c99_grammar.specs.Standard.{Grammar}
use Rattle.c99_read.specs.Reading.{Goal, produce, Step, syntax, at_end, and_then, may, step, alternative, pick, read_within, steps_for, whole, at_first, tree_of, read_of}
use Rattle.tree_laws.specs.TreesOfTexts.{token_count, AreFrom}
use Rattle.tree_laws.specs.Shapes.{ends, reads_all}
use Rattle.tree_laws.specs.ReadTexts.{TokensStandInOrder, AllTokensStandInTrees}
use Rattle.tree_laws.proofs.Walked.{After, with_token, after_if, after_next, IsKept, kept_anywhere}

-- ---- One child more

from_leaf : (f : Forest) (k i : ℕ) → AreFrom k f → k + token_count f ≡ i → AreFrom k (put f (leaf i))
from_leaf none k i w e = (omega (arith, e), tt)
from_leaf (token j rest) k i w e = (w.0, from_leaf rest (k + 1) i w.1 (omega (arith, e)))
from_leaf (node l first under rest) k i w e = (w.0, w.1, from_leaf rest (k + token_count under) i w.2 (omega (arith, e)))

from_inner : (f : Forest) (k : ℕ) (n : Node) → AreFrom k f → k + token_count f ≡ n.first → AreFrom n.first n.under → AreFrom k (put f (inner n))
from_inner none k n w e under =
    let first : n.first ≡ k = omega (arith, e) in
    (first, subst (λ j. AreFrom j n.under) first under, tt)
from_inner (token j rest) k n w e under = (w.0, from_inner rest (k + 1) n w.1 (omega (arith, e)) under)
from_inner (node l first below rest) k n w e under =
    (w.0, w.1, from_inner rest (k + token_count below) n w.2 (omega (arith, e)) under)

count_leaf : (f : Forest) (i : ℕ) → token_count (put f (leaf i)) ≡ token_count f + 1
count_leaf none i = refl
count_leaf (token j rest) i = omega (arith, count_leaf rest i)
count_leaf (node l first under rest) i = omega (arith, count_leaf rest i)

count_inner : (f : Forest) (n : Node) → token_count (put f (inner n)) ≡ token_count f + token_count n.under
count_inner none n = omega arith
count_inner (token j rest) n = omega (arith, count_inner rest n)
count_inner (node l first under rest) n = omega (arith, count_inner rest n)

-- ---- A node in place of its only child's parent

-- a node with so many tokens, from number k on
record Stands (k count : ℕ) (n : Node) : Type 0 where
  first : n.first ≡ k
  tokens : AreFrom k n.under
  all : token_count n.under ≡ count

stands_lone : (k : ℕ) (f : Forest) (n : Node) → AreFrom k f → n.first ≡ k → n.under ≡ f → Stands k (token_count f) (lone f n)
stands_lone k none n w first e = record { first = first; tokens = subst (AreFrom k) (sym e) w; all = ap token_count e }
stands_lone k (token i rest) n w first e = record { first = first; tokens = subst (AreFrom k) (sym e) w; all = ap token_count e }
stands_lone k (node l begin under none) n w first e = record { first = w.0; tokens = w.1; all = omega arith }
stands_lone k (node l begin under (token i rest)) n w first e =
    record { first = first; tokens = subst (AreFrom k) (sym e) w; all = ap token_count e }
stands_lone k (node l begin under (node m second below rest)) n w first e =
    record { first = first; tokens = subst (AreFrom k) (sym e) w; all = ap token_count e }

stands_finished : (p : Production) (n : Node) → AreFrom n.first n.under → Stands n.first (token_count n.under) (finished p n)
stands_finished p n w = by (collapses p)
  where
    by : (c : Bool) → Stands n.first (token_count n.under) (if c then collapsed n else n)
    by true = stands_lone n.first n.under n w refl refl
    by false = record { first = refl; tokens = w; all = refl }

-- ---- States

-- the tokens of the open node end before the next one
abbrev IsInOrder : State → Type 0
IsInOrder s = AreFrom s.built.first s.built.under × (s.built.first + token_count s.built.under ≡ s.at)

-- a later state, in the same open node of the same text
record Follows (s s' : State) : Type 0 where
  toks : s'.toks ≡ s.toks
  first : s'.built.first ≡ s.built.first
  order : IsInOrder s → IsInOrder s'

token_follows : (s : State) → Follows s (with_token s)
token_follows s = record {
  toks = refl;
  first = refl;
  order = λ w. (from_leaf s.built.under s.built.first s.at w.0 w.1, omega (arith, w.1, count_leaf s.built.under s.at));
}

acted_follows : (g : Grammar) (a : Action) (s : State) → Follows s (acted g a s)
unfolding acted
acted_follows g a s = record { toks = refl; first = refl; order = λ w. w }

node_follows : (p : Production) (n : ℕ) (s s' : State) → Follows (opened p n s) s' → Follows s (closed p s s')
unfolding opened closed
node_follows p n s s' follows =
    let inside = follows.order (tt, omega arith) in
    let first : s'.built.first ≡ s.at = follows.first in
    let stands = stands_finished p s'.built inside.0 in
    record {
      toks = follows.toks;
      first = refl;
      order = λ w. (
        from_inner s.built.under s.built.first (finished p s'.built) w.0 (omega (arith, w.1, stands.first, first))
            (subst (λ j. AreFrom j (finished p s'.built).under) (sym stands.first) stands.tokens),
        omega (arith, w.1, count_inner s.built.under (finished p s'.built), stands.all, inside.1, first),
      );
    }

follows_kept : (g : Grammar) → IsKept g Follows
follows_kept g = record {
  still = λ s. record { toks = refl; first = refl; order = λ w. w };
  further = λ s s' s'' f f'. record { toks = f'.toks ∙ f.toks; first = f'.first ∙ f.first; order = λ w. f'.order (f.order w) };
  taken = token_follows;
  done = acted_follows g;
}

follows_within : (g : Grammar) (fuel depth : ℕ) (p : Production) (s : State) → After (Follows s) (read_within g fuel depth (produce p) s)
follows_within g fuel depth p s = kept_anywhere g Follows (follows_kept g) node_follows fuel depth (produce p) s

-- ---- The end of the text

-- all tokens are read
abbrev IsAtEnd : State → Type 0
IsAtEnd s = s.at ≡ length s.toks

closed_at_end : (p : Production) (outer s : State) → IsAtEnd s → IsAtEnd (closed p outer s)
unfolding closed
closed_at_end p outer s h = h

module _ (g : Grammar) (below : ℕ → Goal → State → Step) where
  ends_step : (item : Item) (depth : ℕ) (s : State) → ends item ≡ true → After IsAtEnd (step g below depth item s)
  unfolding at_end
  ends_step end_of_text depth s last = by (s.at == length s.toks) refl
    where
      by : (c : Bool) → (s.at == length s.toks) ≡ c → After IsAtEnd (if c then Ok s else Err (syntax s.at))
      by true e = eqb-true s.at (length s.toks) e
      by false e = tt
  ends_step (a · b) depth s last = after_next IsAtEnd (step g below depth a s) (step g below depth b) (λ s'. ends_step b depth s' last)
  ends_step _ depth s last = absurd (false≢true last)

  ends_alternative : (depth : ℕ) (p : Production) (n : ℕ) (body : Item) (s : State) → ends body ≡ true
      → After IsAtEnd (alternative g below depth p n body s)
  ends_alternative depth p n body s last =
      by (step g below depth body (opened p n s)) (ends_step body depth (opened p n s) last)
    where
      by : (r : Step) → After IsAtEnd r → After IsAtEnd (and_then r (λ s'. Ok (closed p s s')))
      by (Ok s') m = closed_at_end p s s' m
      by (Err stop) m = tt

  ends_pick : (depth : ℕ) (p : Production) (n : ℕ) (alternatives : List Alternative) (s : State)
      → list_all (λ a. ends a.body) alternatives ≡ true → After IsAtEnd (pick g below depth p n alternatives s)
  ends_pick depth p n [] s last = tt
  ends_pick depth p n (a ∷ more) s last =
      let both = and_parts (ends a.body) (list_all (λ b. ends b.body) more) last in
      after_if IsAtEnd (may g a.test a.body s) _ _ (ends_alternative depth p n a.body s both.0) (ends_pick depth p (n + 1) more s both.1)

ends_within : (g : Grammar) (fuel depth : ℕ) (s : State) → reads_all g ≡ true → After IsAtEnd (read_within g fuel depth (produce TranslationUnit) s)
unfolding read_within
ends_within g zero depth s last = tt
ends_within g (suc fuel) depth s last = ends_pick g (read_within g fuel) depth TranslationUnit 1 (g.table TranslationUnit) s last

-- ---- The tree

-- the tokens of a tree that is read, and how many there are
tree_stands : (toks : List Token) (last : Type 0) (r : Step) (tree : Node) → After (Follows (at_first toks)) r → (last → After IsAtEnd r)
    → tree_of r ≡ Ok tree → AreFrom 0 tree.under × (last → token_count tree.under ≡ length toks)
tree_stands toks last (Ok s) tree follows at_end e =
    let order = follows.order (tt, refl) in
    let same : lone s.built.under s.built ≡ tree = cc in
    let from : AreFrom 0 s.built.under = subst (λ k. AreFrom k s.built.under) follows.first order.0 in
    let stands = subst (Stands 0 (token_count s.built.under)) same (stands_lone 0 s.built.under s.built from follows.first refl) in
    (stands.tokens, λ h. (let reached = at_end h in omega (arith, stands.all, order.1, follows.first, reached, ap length follows.toks)))
tree_stands toks last (Err stop) tree follows at_end e = absurd (cc)

unit_follows : (g : Grammar) (toks : List Token) → After (Follows (at_first toks)) (whole g 0 (produce TranslationUnit) (at_first toks))
unfolding whole
unit_follows g toks = follows_within g (steps_for (produce TranslationUnit) (at_first toks)) 0 TranslationUnit (at_first toks)

unit_ends : (g : Grammar) (toks : List Token) → reads_all g ≡ true → After IsAtEnd (whole g 0 (produce TranslationUnit) (at_first toks))
unfolding whole
unit_ends g toks = ends_within g (steps_for (produce TranslationUnit) (at_first toks)) 0 (at_first toks)

read_stands : (g : Grammar) (toks : List Token) (tree : Node) → read_of g toks ≡ Ok tree
    → AreFrom 0 tree.under × (reads_all g ≡ true → token_count tree.under ≡ length toks)
read_stands g toks tree e =
    tree_stands toks (reads_all g ≡ true) (whole g 0 (produce TranslationUnit) (at_first toks)) tree (unit_follows g toks) (unit_ends g toks) e

pub in_order : TokensStandInOrder
in_order g toks tree e = (read_stands g toks tree e).0

pub all_tokens : AllTokensStandInTrees
all_tokens g toks tree last e = (read_stands g toks tree e).1 last
