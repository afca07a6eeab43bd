-- Children of trees whose tokens are at their places.
use Rattle.std.proofs.Common.{◌≡◌, ℕ, zero, suc, ◌+◌, Bool, true, false, cond, Option, Some, None, slice_get, refl, sym, ap, subst, ◌∙◌, add-one}
use Rattle.std.specs.Borrow.{Bor}
use Rattle.analysis.specs.Below.c99_tree.declared.production.Label.{Label}
use Rattle.analysis.specs.Below.c99_tree.declared.production.Production.{Production}
use Rattle.analysis.specs.Below.c99_tree.Tree.{Forest, none, token, node, Node, node_of}
use Rattle.c_types.specs.Children.{from_child, with_part}
use Rattle.c_types.specs.declared.trees.Part.{Part}
use Rattle.c_types.specs.declared.trees.Part.TheVariants as part
use Rattle.trim_plan.specs.declared.left.Left as declared
use Rattle.trim_plan.specs.Children.{moved_node, IsMovedPart, IsChild, AreMovedAt, front_marked, ArePruned, IsNodeBy, IsTokenBy}
use Rattle.trim_plan.specs.Left.{place, moved, left, pruned}
use Rattle.trim_plan.specs.Places.{mark_at, IsLeftOf}
use Rattle.trim_plan.proofs.PlaceLemmas.{place-at}

-- ---- one child

-- in front of children at their places
moved-front : (gone : ℕ → Bool) (p q : Part) (rest more : Forest) → IsMovedPart gone p q → more ≡ moved gone rest → with_part q more ≡ moved gone (with_part p rest)
moved-front gone (part.Token i) (part.Token j) rest more is same = ap (λ (n : ℕ). token n more) is ∙ ap (token (place gone i)) same
moved-front gone (part.Node n) (part.Node m) rest more is same =
    ap (λ (x : Node). node x.label x.first x.under more) is ∙ ap (node n.now.label (place gone n.now.first) (moved gone n.now.under)) same
moved-front gone (part.Token i) (part.Node m) rest more is same = absurd is
moved-front gone (part.Token i) part.End rest more is same = absurd is
moved-front gone (part.Node n) (part.Token j) rest more is same = absurd is
moved-front gone (part.Node n) part.End rest more is same = absurd is
moved-front gone part.End (part.Token j) rest more is same = absurd is
moved-front gone part.End (part.Node m) rest more is same = absurd is
moved-front gone part.End part.End rest more is same = absurd is

-- children behind a child were at their places, and so are these
pub moved-step : (gone : ℕ → Bool) (old new : Forest) (k j : ℕ) → AreMovedAt gone old new k j
    → from_child (j + 1) new ≡ moved gone (from_child (k + 1) old) → from_child j new ≡ moved gone (from_child k old)
moved-step gone old new k j at behind =
    at.has ∙ moved-front gone at.before at.now (from_child (k + 1) old) (from_child (j + 1) new) at.moved behind ∙ sym (ap (moved gone) at.had)

pub token-moved : (gone : ℕ → Bool) (count : ℕ) (l : declared.Left) (old new : Forest) (k j i : ℕ) → IsLeftOf gone count l → IsChild old k (part.Token i)
    → IsTokenBy l new i j → AreMovedAt gone old new k j
token-moved gone count l old new k j i is had t = record {
  before = part.Token i;
  had = had;
  now = part.Token t.at;
  has = t.has;
  moved = place-at gone count l i t.at is t.there;
}

pub node-moved : (gone : ℕ → Bool) (count : ℕ) (l : declared.Left) (old new : Forest) (k j : ℕ) (n : Bor Node) → IsLeftOf gone count l → IsChild old k (part.Node n)
    → IsNodeBy l n.now new j → AreMovedAt gone old new k j
node-moved gone count l old new k j n is had t = record {
  before = part.Node n;
  had = had;
  now = part.Node t.node;
  has = t.has;
  moved = t.moved gone count is;
}

-- ---- whole nodes

pub same-label : (x y : Label) → x.production ≡ y.production → x.alternative ≡ y.alternative → x ≡ y
same-label x y production alternative =
    ap (λ (p : Production). label_of p x.alternative) production ∙ ap (λ (n : ℕ). label_of y.production n) alternative
  where
    label_of : Production → ℕ → Label
    label_of p n = record { production = p; alternative = n }

pub moved-all : (gone : ℕ → Bool) (count : ℕ) (l : declared.Left) (old new : Node) → IsLeftOf gone count l → new.label ≡ old.label
    → slice_get l.places.items old.first ≡ Some new.first → new.under ≡ moved gone old.under → new ≡ moved_node gone old
moved-all gone count l old new is label first under =
    let at : new.first ≡ place gone old.first = place-at gone count l old.first new.first is first in
    ap (λ (x : Label). node_of x new.first new.under) label
    ∙ ap (λ (n : ℕ). node_of old.label n new.under) at
    ∙ ap (node_of old.label (place gone old.first)) under

pub pruned-all : (gone : ℕ → Bool) (count : ℕ) (l : declared.Left) (old new : Node) → IsLeftOf gone count l → new.label ≡ old.label
    → slice_get l.places.items old.first ≡ Some new.first → new.under ≡ moved gone (left gone old.under) → new ≡ pruned gone old
pruned-all gone count l old new is label first under =
    let at : new.first ≡ place gone old.first = place-at gone count l old.first new.first is first in
    ap (λ (x : Label). node_of x new.first new.under) label
    ∙ ap (λ (n : ℕ). node_of old.label n new.under) at
    ∙ ap (node_of old.label (place gone old.first)) under

-- ---- children that are left

behind-one : (f : Forest) (k : ℕ) → from_child 1 (from_child k f) ≡ from_child (suc k) f
behind-one f zero = refl
behind-one none (suc k) = refl
behind-one (token i rest) (suc k) = behind-one rest k
behind-one (node l first under rest) (suc k) = behind-one rest k

module _ (gone : ℕ → Bool) (count : ℕ) (l : declared.Left) (is : IsLeftOf gone count l) where
  front-gone : (f : Forest) → front_marked l f ≡ true → left gone f ≡ left gone (from_child 1 f)
  front-gone none marked = absurd (cc)
  front-gone (token i rest) marked = ap (λ (b : Bool). cond b (left gone rest) (token i (left gone rest))) (sym (is.marks.each i) ∙ marked)
  front-gone (node label first under rest) marked =
      ap (λ (b : Bool). cond b (left gone rest) (node label first under (left gone rest))) (sym (is.marks.each first) ∙ marked)

  front-left : (p q : Part) (rest : Forest) → IsMovedPart gone p q → front_marked l (with_part p rest) ≡ false → left gone (with_part p rest) ≡ with_part p (left gone rest)
  front-left (part.Token i) q rest moved marked = ap (λ (b : Bool). cond b (left gone rest) (token i (left gone rest))) (sym (is.marks.each i) ∙ marked)
  front-left (part.Node n) q rest moved marked =
      ap (λ (b : Bool). cond b (left gone rest) (node n.now.label n.now.first n.now.under (left gone rest))) (sym (is.marks.each n.now.first) ∙ marked)
  front-left part.End (part.Token j) rest moved marked = absurd moved
  front-left part.End (part.Node m) rest moved marked = absurd moved
  front-left part.End part.End rest moved marked = absurd moved

  -- a child that is gone
  pub pruned-gone : (old new : Forest) (k j : ℕ) → front_marked l (from_child k old) ≡ true → ArePruned gone old new (k + 1) j → ArePruned gone old new k j
  pruned-gone old new k j marked behind =
      let same : left gone (from_child k old) ≡ left gone (from_child (k + 1) old) =
      front-gone (from_child k old) marked ∙ ap (left gone) (behind-one old k ∙ ap (λ (n : ℕ). from_child n old) (sym (add-one k))) in
      behind ∙ sym (ap (moved gone) same)

  -- a child that is left
  pub pruned-left : (old new : Forest) (k j : ℕ) → front_marked l (from_child k old) ≡ false → AreMovedAt gone old new k j → ArePruned gone old new (k + 1) (j + 1)
      → ArePruned gone old new k j
  pruned-left old new k j marked at behind =
      let here : front_marked l (with_part at.before (from_child (k + 1) old)) ≡ false = subst (λ (f : Forest). front_marked l f ≡ false) at.had marked in
      at.has
      ∙ moved-front gone at.before at.now (left gone (from_child (k + 1) old)) (from_child (j + 1) new) at.moved behind
      ∙ sym (ap (λ (f : Forest). moved gone (left gone f)) at.had
      ∙ ap (moved gone) (front-left at.before at.now (from_child (k + 1) old) at.moved here))
