-- Walks over the children of a node.
use Rattle.std.proofs.Common.{ℕ, zero, suc, ◌+◌, ◌<◌, ◌≤◌, ◌≡◌, Bool, true, false, ◌||◌, Option, None, Some, refl, sym, ap, subst, ◌∙◌, add-one, arith, unwrap_or}
use Rattle.c99_tree.specs.Tree.{Forest, none, token, node, Node, node_of, Part, leaf, inner, count_of, part_at, size_of}
use Rattle.c_types.specs.Children.{from_child}
use Rattle.c_types.specs.Trees.{last_token}

-- a child, in front of others
abbrev pub in_front : Option Part → Forest → Forest
in_front None rest = rest
in_front (Some (leaf i)) rest = token i rest
in_front (Some (inner n)) rest = node n.label n.first n.under rest

part-step : (f : Forest) (k : ℕ) → from_child k f ≡ in_front (part_at f k) (from_child (suc k) f)
part-step none zero = refl
part-step none (suc k) = refl
part-step (token i rest) zero = refl
part-step (node l first under rest) zero = refl
part-step (token i rest) (suc k) = part-step rest k
part-step (node l first under rest) (suc k) = part-step rest k

pub part-here : (f : Forest) (k : ℕ) (p : Option Part) → part_at f k ≡ p → from_child k f ≡ in_front p (from_child (k + 1) f)
part-here f k p e = rw (add-one k) (part-step f k ∙ ap (λ q. in_front q (from_child (suc k) f)) e)

pub from_child-end : (f : Forest) (k : ℕ) → count_of f ≤ k → from_child k f ≡ none
from_child-end none zero past = refl
from_child-end none (suc k) past = refl
from_child-end (token i rest) zero past = absurd (omega arith)
from_child-end (node l first under rest) zero past = absurd (omega arith)
from_child-end (token i rest) (suc k) past = from_child-end rest k (omega arith)
from_child-end (node l first under rest) (suc k) past = from_child-end rest k (omega arith)

pub end-step : (f : Forest) (k : ℕ) → count_of f ≤ k → from_child k f ≡ from_child (k + 1) f
end-step f k past = from_child-end f k past ∙ sym (from_child-end f (k + 1) (omega arith))

pub part_at-none : (f : Forest) (k : ℕ) → part_at f k ≡ None → from_child k f ≡ none
part_at-none none zero e = refl
part_at-none none (suc k) e = refl
part_at-none (token i rest) zero e = absurd (cc)
part_at-none (node l first under rest) zero e = absurd (cc)
part_at-none (token i rest) (suc k) e = part_at-none rest k e
part_at-none (node l first under rest) (suc k) e = part_at-none rest k e

node_in : Node → Option Part → Node
node_in d (Some (inner n)) = n
node_in d _ = d

-- a node below has fewer tokens and nodes below it
pub part_at-falls : (f : Forest) (k : ℕ) (n : Node) → part_at f k ≡ Some (inner n) → size_of n.under < size_of f
unfolding node_in
part_at-falls none k n at = absurd (cc)
part_at-falls (token j rest) zero n at = absurd (cc)
part_at-falls (node l first under rest) zero n at =
    let P : Node → Type 0 = λ m. size_of m.under < size_of under + size_of rest + 1 in
    subst P (ap (node_in (node_of l first under)) at) (omega arith)
part_at-falls (token j rest) (suc k) n at = let h = part_at-falls rest k n at in omega (arith, h)
part_at-falls (node l first under rest) (suc k) n at = let h = part_at-falls rest k n at in omega (arith, h)

-- ---- What children say

-- the last token is that of the children from one on, where these have one
pub last_of_rest : (f : Forest) (k i : ℕ) → ((x : ℕ) → last_token (from_child k f) x ≡ i) → (before : ℕ) → last_token f before ≡ i
last_of_rest f zero i e before = e before
last_of_rest none (suc k) i e before = e before
last_of_rest (token j rest) (suc k) i e before = last_of_rest rest k i e j
last_of_rest (node l first under rest) (suc k) i e before = last_of_rest rest k i e (last_token under before)

module _ (f : Forest) (j k : ℕ) (r : Option ℕ) (later : k ≡ j + 1) (step : (x : ℕ) → last_token (from_child j f) x ≡ last_token (from_child (j + 1) f) (unwrap_or r x))
    (empty : (x : ℕ) → last_token (from_child k f) x ≡ x) where
  last_step : (x : ℕ) → last_token (from_child j f) x ≡ unwrap_or r x
  last_step x = step x ∙ (ap (λ n. last_token (from_child n f) (unwrap_or r x)) (sym later) ∙ empty (unwrap_or r x))

  -- a child has the last one
  pub last_found : (i : ℕ) → r ≡ Some i → (before : ℕ) → last_token f before ≡ i
  last_found i e = last_of_rest f j i (λ x. last_step x ∙ ap (λ o. unwrap_or o x) e)

  -- or no token
  pub last_passed : r ≡ None → (before : ℕ) → last_token (from_child j f) before ≡ before
  last_passed e before = last_step before ∙ ap (λ o. unwrap_or o before) e

-- one child after another is asked
pub asked-yes : (here whole found rest : Bool) → here ≡ whole → here ≡ (found || rest) → found ≡ true → true ≡ whole
asked-yes here whole found rest kept step is_yes = sym (sym kept ∙ step ∙ ap (λ b. b || rest) is_yes)

pub asked-no : (here whole found rest : Bool) → here ≡ whole → here ≡ (found || rest) → found ≡ false → rest ≡ whole
asked-no here whole found rest kept step is_no = sym (step ∙ ap (λ b. b || rest) is_no) ∙ kept
