-- The children of a node that are nodes, one after another, and what is found of two trees.
use Rattle.std.proofs.Common.{◌≡◌, ℕ, zero, suc, ◌+◌, ◌-◌, ◌<◌, ◌≤◌, Bool, true, false, List, [], ◌∷◌, length, Option, Some, Result, Ok, Err, slice_get, refl, sym, ap, subst, ◌∙◌, arith}
use Rattle.std.specs.Prelude.{IfOk, IfSome, IsTrue}
use Rattle.std.proofs.lemmas.Option.{get_or_from_slice_get}
use Rattle.c99_tree.specs.Tree.{Forest, none, token, node, Node, node_of, count_of}
use Rattle.c99_tree.specs.declared.production.Label.{Label}
use Rattle.c_types.specs.Children.{from_child}
use Rattle.c_types.specs.Parameters.{ends_in_token}
use Rattle.c_types.proofs.ChildWalks.{from_child-end}
use Rattle.template_meaning.specs.Matched.{inside, is_listed, items_on, node_count, turned, EachHas, HaveItems, IsChildPut, IsItemPut, IsNodeNumber, IsNodePut, ItemsAre, Matches}
use Rattle.template_meaning.proofs.TurnedTrees.{ends_by}

-- ---- answers

pub if_so : {E : Type 0} (r : Result Bool E) (P Q : Type 0) → (P → Q) → IfOk r (λ same. IsTrue same → P) → IfOk r (λ same. IsTrue same → Q)
if_so (Ok b) P Q f h = λ passed. f (h passed)
if_so (Err e) P Q f h = tt

-- ---- the last child

empty : (f : Forest) → count_of f ≡ 0 → f ≡ none
empty f is = from_child-end f 0 (omega (arith, is))

pub ends_not : (f : Forest) → count_of f ≡ 0 → false ≡ ends_in_token false f
ends_not f is = sym (ap (ends_in_token false) (empty f is))

module _ (f : Forest) (count : ℕ) (many : count ≡ count_of f) (some : 1 ≤ count) where
  last : ends_in_token false f ≡ ends_in_token false (from_child (count - 1) f)
  last = ends_by f false (count - 1) (omega (arith, many, some))

  behind : from_child (count - 1 + 1) f ≡ none
  behind = from_child-end f (count - 1 + 1) (omega (arith, many, some))

  pub ends_token : (i : ℕ) → from_child (count - 1) f ≡ token i (from_child (count - 1 + 1) f) → true ≡ ends_in_token false f
  ends_token i here = sym (last ∙ (ap (ends_in_token false) here ∙ ap (ends_in_token true) behind))

  pub ends_node : (l : Label) (first : ℕ) (under : Forest) → from_child (count - 1) f ≡ node l first under (from_child (count - 1 + 1) f) → false ≡ ends_in_token false f
  ends_node l first under here = sym (last ∙ (ap (ends_in_token false) here ∙ ap (ends_in_token false) behind))

  pub ends_none : from_child (count - 1) f ≡ from_child (count - 1 + 1) f → false ≡ ends_in_token false f
  ends_none here = sym (last ∙ (ap (ends_in_token false) here ∙ ap (ends_in_token false) behind))

-- ---- nodes by their numbers

behind_one : {X : Type 0} (x : X) (xs : List X) (i j : ℕ) (n : X) → i ≡ suc j → slice_get xs j ≡ Some n → slice_get (x ∷ xs) i ≡ Some n
behind_one x xs i j n is at = ap (slice_get (x ∷ xs)) is ∙ at

pub first_one : (rest : Forest) (l : Label) (first : ℕ) (under : Forest) (left : ℕ) → left ≤ 1 → IsNodeNumber (node l first under rest) left (node_of l first under)
first_one rest l first under zero least = refl
first_one rest l first under (suc zero) least = refl
first_one rest l first under (suc (suc m)) least = absurd (omega (arith, least))

pub behind_node : (f rest : Forest) (l : Label) (first : ℕ) (under : Forest) (left : ℕ) (n : Node) → f ≡ node l first under rest → 1 < left
    → IsNodeNumber rest (left - 1) n → IsNodeNumber f left n
behind_node f rest l first under left n here more at =
    let some_left : left - 1 ≡ suc (left - 1 - 1) = omega (arith, more) in
    subst (λ (g : Forest). IsNodeNumber g left n) (sym here) (behind_one (node_of l first under) _ (left - 1) (left - 1 - 1) n some_left at)

pub behind_token : (f rest : Forest) (i : ℕ) (left : ℕ) (n : Node) → f ≡ token i rest → IsNodeNumber rest left n → IsNodeNumber f left n
behind_token f rest i left n here at = subst (λ (g : Forest). IsNodeNumber g left n) (sym here) at

pub count_node : (f rest : Forest) (l : Label) (first : ℕ) (under : Forest) → f ≡ node l first under rest → node_count f ≡ 1 + node_count rest
count_node f rest l first under here =
    let e : node_count f ≡ suc (node_count rest) = ap node_count here in
    omega (arith, e)

pub count_token : (f rest : Forest) (i : ℕ) → f ≡ token i rest → node_count f ≡ 0 + node_count rest
count_token f rest i here =
    let e : node_count f ≡ node_count rest = ap node_count here in
    omega (arith, e)

pub count_end : (f rest : Forest) → f ≡ rest → node_count f ≡ 0 + node_count rest
count_end f rest here =
    let e : node_count f ≡ node_count rest = ap node_count here in
    omega (arith, e)

-- ---- items

pub node_items : (n : ℕ) (f rest : Forest) (l : Label) (first : ℕ) (under : Forest) → f ≡ node l first under rest → node_count under ≡ n → ItemsAre n rest → ItemsAre n f
node_items n f rest l first under here is behind = subst (ItemsAre n) (sym here) (is, behind)

pub token_items : (n : ℕ) (f rest : Forest) (i : ℕ) → f ≡ token i rest → ItemsAre n rest → ItemsAre n f
token_items n f rest i here behind = subst (ItemsAre n) (sym here) behind

pub node_has : (n : ℕ) (begins : List ℕ) (f rest : Forest) (l : Label) (first : ℕ) (under : Forest) → f ≡ node l first under rest → HaveItems n begins l under
    → EachHas n begins under → EachHas n begins rest → EachHas n begins f
node_has n begins f rest l first under here own below behind = subst (EachHas n begins) (sym here) (own, below, behind)

pub token_has : (n : ℕ) (begins : List ℕ) (f rest : Forest) (i : ℕ) → f ≡ token i rest → EachHas n begins rest → EachHas n begins f
token_has n begins f rest i here behind = subst (EachHas n begins) (sym here) behind

-- ---- a node with its children in the new order

module _ (order begins : List ℕ) (old new : Node) (before after : List ℕ) (label : new.label ≡ old.label) (first : new.first ≡ length before) where
  pub put_listed : (listed : Bool) → listed ≡ true → Matches (items_on order begins old.under 0 0) new.under before after
      → IsNodePut new old.label (inside order begins listed old.label old.under) before after
  put_listed listed is h =
      (label, (first, subst (λ (b : Bool). Matches (inside order begins b old.label old.under) new.under before after) (sym is) h))

  pub put_turned : (listed among : Bool) → listed ≡ false → among ≡ is_listed begins old.label old.under → Matches (turned order begins among old.under) new.under before after
      → IsNodePut new old.label (inside order begins listed old.label old.under) before after
  put_turned listed among is same h =
      let put = subst (λ (b : Bool). Matches (turned order begins b old.under) new.under before after) same h in
      (label, (first, subst (λ (b : Bool). Matches (inside order begins b old.label old.under) new.under before after) (sym is) put))

-- the item that the order names for a place
pub item_put : (order begins : List ℕ) (old new : Forest) (k j number : ℕ) (before after : List ℕ) → slice_get order j ≡ Some number
    → (n : Node) × IsNodeNumber old number n × IsChildPut new k n.label (inside order begins false n.label n.under) before after → IsItemPut order begins old new k j before after
item_put order begins old new k j number before after at put =
    (put.0, subst (λ (m : ℕ). IsNodeNumber old m put.0) (sym (get_or_from_slice_get order j number 0 at)) put.1, put.2)

-- what is said of a value that is there
pub of_some : {X : Type 0} (o : Option X) (P : X → Type 0) (x : X) → o ≡ Some x → IfSome o P → P x
of_some {X = X} o P x is h = subst (λ (m : Option X). IfSome m P) is h
