-- Walks over the children of a node.
use Rattle.std.proofs.Common.{ℕ, zero, suc, ◌+◌, ◌<◌, ◌≤◌, ◌≡◌, Bool, true, false, ◌||◌, if◌then◌else◌, List, Option, None, Some, unwrap_or, refl, sym, ap, subst, ◌∙◌, add-one, arith}
use Rattle.cs_base.specs.Token.{Token}
use Rattle.c99_tree.specs.Tree.{Forest, none, token, node, Node, node_of, Part, inner, count_of, part_at, size_of}
use Rattle.c99_tree.specs.declared.production.Label.{Label}
use Rattle.c99_read.specs.State.{has_name, is_declaring, name_below, typedef_word_in, has_typedef, last_declared, is_identifier, base_at, last_identifier}
use Rattle.c99_grammar.specs.Standard.{Grammar}
use Rattle.c99_read.specs.Children.{from_child, identifier_found, declared_by, name_found, is_word_found, is_part_found}

pub from_child-end : (f : Forest) (k : ℕ) → count_of f ≤ k → from_child k f ≡ none
from_child-end none zero past = refl
from_child-end none (suc k) past = refl
from_child-end (token i rest) zero past = absurd (omega arith)
from_child-end (node l first under rest) zero past = absurd (omega arith)
from_child-end (token i rest) (suc k) past = from_child-end rest k (omega arith)
from_child-end (node l first under rest) (suc k) past = from_child-end rest k (omega arith)

node_in : Node → Option Part → Node
node_in d (Some (inner n)) = n
node_in d _ = d

-- a node below has fewer tokens and nodes below it
pub part_at-falls : (f : Forest) (k : ℕ) (n : Node) → part_at f k ≡ Some (inner n) → size_of n.under < size_of f
unfolding node_in
part_at-falls none k n at = absurd (cc)
part_at-falls (token j rest) zero n at = absurd (cc)
part_at-falls (node l first under rest) zero n at =
    let P : Node → Type 0 = λ m. size_of m.under < size_of under + size_of rest + 1 in
    subst P (ap (node_in (node_of l first under)) at) (omega arith)
part_at-falls (token j rest) (suc k) n at = let h = part_at-falls rest k n at in omega (arith, h)
part_at-falls (node l first under rest) (suc k) n at = let h = part_at-falls rest k n at in omega (arith, h)

name-step : (l : Label) (f : Forest) (k : ℕ)
    → name_below l (from_child k f) ≡ unwrap_or (name_found l (part_at f k)) (name_below l (from_child (suc k) f))
name-step l none zero = refl
name-step l none (suc k) = refl
name-step l (token i rest) zero = by (has_name l)
  where
    by : (b : Bool) → (if b then Some i else name_below l rest) ≡ unwrap_or (if b then Some (Some i) else None) (name_below l rest)
    by true = refl
    by false = refl
name-step l (node m first under rest) zero = by (is_declaring m.production)
  where
    by : (b : Bool) → (if b then name_below m under else name_below l rest) ≡ unwrap_or (if b then Some (name_below m under) else None) (name_below l rest)
    by true = refl
    by false = refl
name-step l (token i rest) (suc k) = name-step l rest k
name-step l (node m first under rest) (suc k) = name-step l rest k

-- the child at hand says what the name is, or those behind it do
pub name_below-from : (l : Label) (f : Forest) (k : ℕ)
    → name_below l (from_child k f) ≡ unwrap_or (name_found l (part_at f k)) (name_below l (from_child (k + 1) f))
name_below-from l f k = rw (add-one k) (name-step l f k)

word-step : (f : Forest) (k : ℕ) → typedef_word_in (from_child k f) ≡ (is_word_found (part_at f k) || typedef_word_in (from_child (suc k) f))
word-step none zero = refl
word-step none (suc k) = refl
word-step (token i rest) zero = refl
word-step (node l first under rest) zero = refl
word-step (token i rest) (suc k) = word-step rest k
word-step (node l first under rest) (suc k) = word-step rest k

pub typedef_word_in-from : (f : Forest) (k : ℕ)
    → typedef_word_in (from_child k f) ≡ (is_word_found (part_at f k) || typedef_word_in (from_child (k + 1) f))
typedef_word_in-from f k = rw (add-one k) (word-step f k)

part-step : (f : Forest) (k : ℕ) → has_typedef (from_child k f) ≡ (is_part_found (part_at f k) || has_typedef (from_child (suc k) f))
part-step none zero = refl
part-step none (suc k) = refl
part-step (token i rest) zero = refl
part-step (node l first under rest) zero = refl
part-step (token i rest) (suc k) = part-step rest k
part-step (node l first under rest) (suc k) = part-step rest k

pub has_typedef-from : (f : Forest) (k : ℕ)
    → has_typedef (from_child k f) ≡ (is_part_found (part_at f k) || has_typedef (from_child (k + 1) f))
has_typedef-from f k = rw (add-one k) (part-step f k)

pub last_declared-none : (f : Forest) → count_of f ≡ 0 → last_declared f ≡ None
last_declared-none none e = refl
last_declared-none (token i rest) e = absurd (omega arith)
last_declared-none (node l first under rest) e = absurd (omega arith)

pub last_declared-last : (f : Forest) (k : ℕ) → count_of f ≡ suc k → last_declared f ≡ declared_by (part_at f k)
last_declared-last none k e = absurd (omega arith)
last_declared-last (token i rest) zero e = last_declared-none rest (omega arith)
last_declared-last (token i rest) (suc k) e = last_declared-last rest k (omega arith)
last_declared-last (node l first under none) zero e = refl
last_declared-last (node l first under (token i rest)) zero e = absurd (omega arith)
last_declared-last (node l first under (node m more below rest)) zero e = absurd (omega arith)
last_declared-last (node l first under none) (suc k) e = absurd (omega arith)
last_declared-last (node l first under (token i rest)) (suc k) e = last_declared-last (token i rest) k (omega arith)
last_declared-last (node l first under (node m more below rest)) (suc k) e =
    last_declared-last (node m more below rest) k (omega arith)

-- ---- a walk that asks one child after another

pub asked-yes : (here whole found rest answer : Bool) → here ≡ whole → here ≡ (found || rest) → answer ≡ found → answer ≡ true → true ≡ whole
asked-yes here whole found rest answer kept step asked is_yes = sym (sym kept ∙ step ∙ ap (λ b. b || rest) (sym asked ∙ is_yes))

pub asked-no : (here whole found rest answer : Bool) → here ≡ whole → here ≡ (found || rest) → answer ≡ found → answer ≡ false → rest ≡ whole
asked-no here whole found rest answer kept step asked is_no = sym (step ∙ ap (λ b. b || rest) (sym asked ∙ is_no)) ∙ kept

pub named-yes : (here whole rest name : Option ℕ) (found answer : Option (Option ℕ)) → here ≡ whole → here ≡ unwrap_or found rest → answer ≡ found
    → answer ≡ Some name → name ≡ whole
named-yes here whole rest name found answer kept step asked is_yes =
    sym (sym kept ∙ step ∙ ap (λ o. unwrap_or o rest) (sym asked ∙ is_yes))

pub named-no : (here whole rest : Option ℕ) (found answer : Option (Option ℕ)) → here ≡ whole → here ≡ unwrap_or found rest → answer ≡ found
    → answer ≡ None → rest ≡ whole
named-no here whole rest found answer kept step asked is_no = sym (step ∙ ap (λ o. unwrap_or o rest) (sym asked ∙ is_no)) ∙ kept

-- ---- a walk that begins at the last child

module _ (g : Grammar) (toks : List Token) where
  identifier-in : (i j : ℕ) (b : Bool) → (if b then Some i else None) ≡ Some j → (b ≡ true) × (i ≡ j)
  identifier-in i j true e = (refl, ap (λ o. unwrap_or o 0) e)
  identifier-in i j false e = absurd (cc)

  identifier-out : (i : ℕ) (b : Bool) → (if b then Some i else None) ≡ None → b ≡ false
  identifier-out i true e = absurd (cc)
  identifier-out i false e = refl

  -- the last identifier is child k, where none stands behind it
  pub last_identifier-at : (f : Forest) (k i : ℕ) (found : Option ℕ) → identifier_found g toks (part_at f k) ≡ Some i
      → ((x : Option ℕ) → last_identifier g toks (from_child (suc k) f) x ≡ x) → last_identifier g toks f found ≡ Some i
  last_identifier-at none k i found at behind = absurd (cc)
  last_identifier-at (token j rest) zero i found at behind =
      let h = identifier-in j i (is_identifier (base_at g toks j)) at in
      rw h.0 (behind (Some j) ∙ ap (λ n. Some n) h.1)
  last_identifier-at (node l first under rest) zero i found at behind = absurd (cc)
  last_identifier-at (token j rest) (suc k) i found at behind = last_identifier-at rest k i _ at behind
  last_identifier-at (node l first under rest) (suc k) i found at behind = last_identifier-at rest k i found at behind

  -- none stands from child k on, where it is none and none stands behind it
  pub last_identifier-before : (f : Forest) (k : ℕ) → identifier_found g toks (part_at f k) ≡ None
      → ((x : Option ℕ) → last_identifier g toks (from_child (suc k) f) x ≡ x)
      → (x : Option ℕ) → last_identifier g toks (from_child k f) x ≡ x
  last_identifier-before none zero at behind x = refl
  last_identifier-before none (suc k) at behind x = refl
  last_identifier-before (token j rest) zero at behind x =
      ap (λ b. last_identifier g toks rest (if b then Some j else x)) (identifier-out j (is_identifier (base_at g toks j)) at) ∙ behind x
  last_identifier-before (node l first under rest) zero at behind x = behind x
  last_identifier-before (token j rest) (suc k) at behind x = last_identifier-before rest k at behind x
  last_identifier-before (node l first under rest) (suc k) at behind x = last_identifier-before rest k at behind x
