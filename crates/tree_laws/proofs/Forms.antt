-- Each node of a tree that is read has its form.
use Rattle.std.proofs.Common.{ℕ, zero, suc, ◌+◌, ◌≡◌, ◌⊎◌, inl, inr, Bool, true, false, ◌&&◌, ◌||◌, not, if◌then◌else◌, List, [], ◌∷◌, Ok, Err, refl, sym, ap, subst, ◌∙◌}
use Rattle.std.proofs.lemmas.Bool.{false≢true, and_parts, or_parts, or_from, and_from}
use Rattle.std.specs.List.{list_all}
use Rattle.cs_base.proofs.BoolLemmas.{and_none, or_met as implied}
use Rattle.c99_tree.specs.Tree.{Forest, none, token, node, Node, node_of, leaf, inner, put, lone, collapsed}
use Rattle.c99_tree.specs.declared.production.Label.{Label}
use Rattle.c99_tree.specs.declared.production.Production.{Production}
use Rattle.c99_tree.specs.declared.production.Production.TheVariants.{ExtRest, InitDecl, FunBody, Enumerator, Declarator, Block, AutoDecl}
use Rattle.c99_tree.specs.contracts.production.ProductionPartialEq.TheImpl.{ghosts}
use Rattle.c99_grammar.specs.Items.{Item, many, Action, Alternative}
use Rattle.c99_read.specs.State.{State, acted, opened, closed, collapses, finished}
use Rattle.c99_grammar.specs.Standard.{Grammar}
use Rattle.c99_read.specs.Reading.{Goal, produce, repeat, Step, and_then, may, step, alternative, pick, run, read_within}
use Rattle.c_types.specs.Lists.{is_declaring}
use Rattle.c_types.specs.Trees.{is_node}
use Rattle.tree_laws.specs.TreesOfTexts.{begins_with_token, has_token, has_two_tokens, has_body, has_declaring, has_open_declaring, has_form, have_forms, have_plain_declarators}
use Rattle.tree_laws.specs.Shapes.{parts_all, goal_all, begins, takes, takes_two, has_no_body, has_no_declaring, has_no_open_declaring, passes_on, passes_outside, is_shaped, is_formed, IsFormed, is_plain, IsPlain}
use Rattle.tree_laws.proofs.Walked.{After, after_if, IsKept, kept_step, kept_by_item, each_part}
use Rattle.tree_laws.proofs.Growing.{begins_step, takes_step, two_step}
use Rattle.tree_laws.proofs.Each.{each, AreGood, Keeps, keeps_within, keeps_step}

-- ---- What the parts of a rule say

-- the three parts of the rule
body_part : (p : Production) (a : Alternative) → is_formed p a ≡ true → passes_on has_no_body p a.body ≡ true
body_part p a fit = (and_parts (passes_on has_no_body p a.body) _ fit).0

open_part : (p : Production) (a : Alternative) → is_formed p a ≡ true → passes_outside p a.body ≡ true
open_part p a fit = (and_parts (passes_outside p a.body) _ (and_parts (passes_on has_no_body p a.body) _ fit).1).0

shape_part : (p : Production) (a : Alternative) → is_formed p a ≡ true → is_shaped p a.body ≡ true
shape_part p a fit =
    (and_parts (passes_outside p a.body) (is_shaped p a.body) (and_parts (passes_on has_no_body p a.body) _ fit).1).1

-- ---- Trees without a body, and without a declaration

no_body_here : (p : Production) → has_no_body p ≡ true → ghosts.eq p FunBody ≡ false
no_body_here FunBody h = absurd (false≢true h)
no_body_here _ h = refl

no_body : (f : Forest) → each (λ p under. has_no_body p) f ≡ true → has_body f ≡ false
no_body none w = refl
no_body (token i rest) w = no_body rest w
no_body (node l first under rest) w =
    let here = and_parts (has_no_body l.production) _ w in
    let below = and_parts (each (λ p under. has_no_body p) under) _ here.1 in
    or_from _ _ (no_body_here l.production here.0) (or_from _ _ (no_body under below.0) (no_body rest below.1))

no_declaring_here : (l : Label) (p : Production) → l.production ≡ p → has_no_open_declaring p ≡ true → is_declaring l ≡ false
no_declaring_here l ExtRest e h = absurd (false≢true h)
no_declaring_here l InitDecl e h = absurd (false≢true h)
no_declaring_here l _ e h = ap (λ q. ghosts.eq q ExtRest || ghosts.eq q InitDecl) e

-- ---- Trees without a declaration outside blocks

-- the node is no declaration, and holds one in blocks at most
abbrev is_open_node : Node → Bool
is_open_node n = is_declaring n.label || (not (is_node n.label Block) && has_open_declaring n.under)

open_leaf : (f : Forest) (i : ℕ) → has_open_declaring f ≡ false → has_open_declaring (put f (leaf i)) ≡ false
open_leaf none i w = refl
open_leaf (token j rest) i w = open_leaf rest i w
open_leaf (node l first under rest) i w =
    let here = or_parts (is_declaring l) _ w in
    let more = or_parts (not (is_node l Block) && has_open_declaring under) (has_open_declaring rest) here.1 in
    or_from _ _ here.0 (or_from _ _ more.0 (open_leaf rest i more.1))

open_inner : (f : Forest) (n : Node) → has_open_declaring f ≡ false → is_open_node n ≡ false → has_open_declaring (put f (inner n)) ≡ false
open_inner none n w is_open =
    let here = or_parts (is_declaring n.label) (not (is_node n.label Block) && has_open_declaring n.under) is_open in
    or_from _ _ here.0 (or_from _ _ here.1 refl)
open_inner (token j rest) n w is_open = open_inner rest n w is_open
open_inner (node l first under rest) n w is_open =
    let here = or_parts (is_declaring l) _ w in
    let more = or_parts (not (is_node l Block) && has_open_declaring under) (has_open_declaring rest) here.1 in
    or_from _ _ here.0 (or_from _ _ more.0 (open_inner rest n more.1 is_open))

open_lone : (f : Forest) (n : Node) → has_open_declaring f ≡ false → is_open_node n ≡ false → is_open_node (lone f n) ≡ false
open_lone none n w is_open = is_open
open_lone (token i rest) n w is_open = is_open
open_lone (node l first under none) n w is_open =
    let here = or_parts (is_declaring l) _ w in
    or_from _ _ here.0 (or_parts (not (is_node l Block) && has_open_declaring under) false here.1).0
open_lone (node l first under (token i rest)) n w is_open = is_open
open_lone (node l first under (node m second below rest)) n w is_open = is_open

open_finished : (p : Production) (n : Node) → has_open_declaring n.under ≡ false → is_open_node n ≡ false → is_open_node (finished p n) ≡ false
open_finished p n w is_open = by (collapses p)
  where
    by : (c : Bool) → is_open_node (if c then collapsed n else n) ≡ false
    by true = open_lone n.under n w is_open
    by false = is_open

block_open : (l : Label) (under : Forest) → l.production ≡ Block → is_open_node (node_of l 0 under) ≡ false
block_open l under e =
    ap (λ q. (ghosts.eq q ExtRest || ghosts.eq q InitDecl) || (not (ghosts.eq q Block) && has_open_declaring under)) e

-- a block, or a production all of whose parts are so
open_inside : (p : Production) (body : Item) → passes_outside p body ≡ true → has_no_open_declaring p ≡ true
    → (p ≡ Block) ⊎ (parts_all has_no_open_declaring body ≡ true)
open_inside Block body h k = inl refl
open_inside p body h k = inr (implied (has_no_open_declaring p) _ h k)

-- a later state, in the same open node
record Quiet (s s' : State) : Type 0 where
  production : s'.built.label.production ≡ s.built.label.production
  goes_on : has_open_declaring s.built.under ≡ false → has_open_declaring s'.built.under ≡ false

-- .. of the same production
abbrev SameNode : State → State → Type 0
SameNode s s' = s'.built.label.production ≡ s.built.label.production

acted_node : (g : Grammar) (a : Action) (s : State) → SameNode s (acted g a s)
unfolding acted
acted_node g a s = refl

acted_quiet : (g : Grammar) (a : Action) (s : State) → Quiet s (acted g a s)
unfolding acted
acted_quiet g a s = record { production = refl; goes_on = λ w. w }

quiet_kept : (g : Grammar) → IsKept g Quiet
quiet_kept g = record {
  still = λ s. record { production = refl; goes_on = λ w. w };
  further = λ s s' s'' k k'. record { production = k'.production ∙ k.production; goes_on = λ w. k'.goes_on (k.goes_on w) };
  taken = λ s. record { production = refl; goes_on = λ w. open_leaf s.built.under s.at w };
  done = acted_quiet g;
}

node_kept : (g : Grammar) → IsKept g SameNode
node_kept g = record { still = λ s. refl; further = λ s s' s'' k k'. k' ∙ k; taken = λ s. refl; done = acted_node g }

closed_node : (p : Production) (n : ℕ) (s s' : State) → SameNode (opened p n s) s' → SameNode s (closed p s s')
unfolding opened closed
closed_node p n s s' k = refl

quiet_block : (n : ℕ) (s s' : State) → SameNode (opened Block n s) s' → Quiet s (closed Block s s')
unfolding opened closed
quiet_block n s s' k = record {
  production = refl;
  goes_on = λ w. open_inner s.built.under s'.built w (block_open s'.built.label s'.built.under k);
}

quiet_node : (p : Production) (n : ℕ) (s s' : State) → has_no_open_declaring p ≡ true → Quiet (opened p n s) s' → Quiet s (closed p s s')
unfolding opened closed
quiet_node p n s s' h k =
    let below : has_open_declaring s'.built.under ≡ false = k.goes_on refl in
    let here : is_open_node s'.built ≡ false =
    or_from _ _ (no_declaring_here s'.built.label p k.production h) (and_none (not (is_node s'.built.label Block)) _ below) in
    record { production = refl; goes_on = λ w. open_inner s.built.under (finished p s'.built) w (open_finished p s'.built below here) }

module _ (g : Grammar) (formed : IsFormed g) where
  module _ (fuel : ℕ)
      (reads : (depth : ℕ) (goal : Goal) (s : State) → goal_all has_no_open_declaring goal ≡ true → After (Quiet s) (read_within g fuel depth goal s)) where
    quiet_alternative : (depth : ℕ) (p : Production) (n : ℕ) (a : Alternative) (s : State) → has_no_open_declaring p ≡ true → is_formed p a ≡ true
        → After (Quiet s) (alternative g (read_within g fuel) depth p n a.body s)
    quiet_alternative depth p n a s h fit = elim (open_inside p a.body (open_part p a fit) h) [
      | inl same ↦
          subst (λ q. After (Quiet s) (alternative g (read_within g fuel) depth q n a.body s)) (sym same)
          (in_block (step g (read_within g fuel) depth a.body (opened Block n s))
          (kept_by_item g SameNode (node_kept g) closed_node fuel a.body depth (opened Block n s)))
      | inr all ↦
          in_node (step g (read_within g fuel) depth a.body (opened p n s))
          (kept_step g Quiet (quiet_kept g) has_no_open_declaring (read_within g fuel) reads a.body depth (opened p n s) all)
    ]
      where
        in_block : (r : Step) → After (SameNode (opened Block n s)) r → After (Quiet s) (and_then r (λ s'. Ok (closed Block s s')))
        in_block (Err stop) m = tt
        in_block (Ok s') m = quiet_block n s s' m

        in_node : (r : Step) → After (Quiet (opened p n s)) r → After (Quiet s) (and_then r (λ s'. Ok (closed p s s')))
        in_node (Err stop) m = tt
        in_node (Ok s') m = quiet_node p n s s' h m

    quiet_pick : (depth : ℕ) (p : Production) (n : ℕ) (alternatives : List Alternative) (s : State) → has_no_open_declaring p ≡ true
        → list_all (is_formed p) alternatives ≡ true → After (Quiet s) (pick g (read_within g fuel) depth p n alternatives s)
    quiet_pick depth p n [] s h fit = tt
    quiet_pick depth p n (a ∷ more) s h fit =
        let both = and_parts (is_formed p a) (list_all (is_formed p) more) fit in
        after_if (Quiet s) (may g a.test a.body s) _ _ (quiet_alternative depth p n a s h both.0) (quiet_pick depth p (n + 1) more s h both.1)

    quiet_run : (depth : ℕ) (goal : Goal) (s : State) → goal_all has_no_open_declaring goal ≡ true → After (Quiet s) (run g (read_within g fuel) depth goal s)
    quiet_run depth (produce p) s all = quiet_pick depth p 1 (g.table p) s all (formed.formed p)
    quiet_run depth (repeat t a) s all =
        kept_step g Quiet (quiet_kept g) has_no_open_declaring (read_within g fuel) reads (many t a) depth s all

  quiet_within : (fuel depth : ℕ) (goal : Goal) (s : State) → goal_all has_no_open_declaring goal ≡ true → After (Quiet s) (read_within g fuel depth goal s)
  unfolding read_within
  quiet_within zero depth goal s all = tt
  quiet_within (suc fuel) depth goal s all = quiet_run fuel (quiet_within fuel) depth goal s all

-- ---- Each production

pub after_is : (P : State → Type 0) (r : Step) (s : State) → r ≡ Ok s → After P r → P s
after_is P r s e m = subst (After P) e m

module _ (g : Grammar) (formed : IsFormed g) where
  bodiless : AreGood (λ p under. has_no_body p) g has_no_body is_formed
  bodiless = record {
    fit = formed.formed;
    inside = λ p a fit of_ok. implied (has_no_body p) _ (body_part p a fit) of_ok;
    made = λ fuel depth p n a s s' of_ok fit is_read. of_ok;
  }

  module _ (fuel depth : ℕ) (body : Item) (s s' : State) (is_read : step g (read_within g fuel) depth body s ≡ Ok s')
      (empty : s.built.under ≡ none) where
    each_empty : (good : Production → Forest → Bool) → each good s.built.under ≡ true
    each_empty good = ap (each good) empty

    enumerator_form : begins body ≡ true → begins_with_token s'.built.under ≡ true
    enumerator_form first = after_is (λ r. begins_with_token r.built.under ≡ true) _ s' is_read (begins_step g fuel body depth s first empty)

    auto_form : takes_two body ≡ true → has_two_tokens s'.built.under ≡ true
    auto_form two = after_is (λ r. has_two_tokens r.built.under ≡ true) _ s' is_read (two_step g fuel body depth s two empty)

    body_form : (takes body && parts_all has_no_body body) ≡ true → (has_token s'.built.under && not (has_body s'.built.under)) ≡ true
    body_form shaped =
        let both = and_parts (takes body) (parts_all has_no_body body) shaped in
        let keeps = after_is (Keeps (λ p under. has_no_body p) s) _ s' is_read
        (keeps_step (λ p under. has_no_body p) g has_no_body is_formed bodiless fuel body depth s both.1) in
        let none_below = no_body s'.built.under (keeps.goes_on (each_empty (λ p under. has_no_body p))) in
        and_from _ _ (after_is (λ r. has_token r.built.under ≡ true) _ s' is_read (takes_step g fuel body depth s both.0))
        (ap not none_below)

    declarator_form : parts_all has_no_open_declaring body ≡ true → not (has_open_declaring s'.built.under) ≡ true
    declarator_form all =
        let quiet = after_is (Quiet s) _ s' is_read
        (kept_step g Quiet (quiet_kept g) has_no_open_declaring (read_within g fuel) (quiet_within g formed fuel) body depth s all) in
        ap not (quiet.goes_on (ap has_open_declaring empty))

  opened_empty : (p : Production) (n : ℕ) (s : State) → (opened p n s).built.under ≡ none
  unfolding opened
  opened_empty p n s = refl

  form_made : (fuel depth : ℕ) (p : Production) (n : ℕ) (a : Alternative) (s s' : State) → is_formed p a ≡ true
      → step g (read_within g fuel) depth a.body (opened p n s) ≡ Ok s' → has_form p s'.built.under ≡ true
  form_made fuel depth Enumerator n a s s' fit is_read =
      enumerator_form fuel depth a.body (opened Enumerator n s) s' is_read (opened_empty Enumerator n s) (shape_part Enumerator a fit)
  form_made fuel depth FunBody n a s s' fit is_read =
      body_form fuel depth a.body (opened FunBody n s) s' is_read (opened_empty FunBody n s) (shape_part FunBody a fit)
  form_made fuel depth AutoDecl n a s s' fit is_read =
      auto_form fuel depth a.body (opened AutoDecl n s) s' is_read (opened_empty AutoDecl n s) (shape_part AutoDecl a fit)
  form_made fuel depth Declarator n a s s' fit is_read =
      declarator_form fuel depth a.body (opened Declarator n s) s' is_read (opened_empty Declarator n s) (open_part Declarator a fit)
  form_made fuel depth _ n a s s' fit is_read = refl

  all_formed : AreGood has_form g (λ p. true) is_formed
  all_formed = record {
    fit = formed.formed;
    inside = λ p a fit of_ok. each_part a.body;
    made = λ fuel depth p n a s s' of_ok fit is_read. form_made fuel depth p n a s s' fit is_read;
  }

  pub forms_within : (fuel depth : ℕ) (p : Production) (s : State) → After (Keeps has_form s) (read_within g fuel depth (produce p) s)
  forms_within fuel depth p s = keeps_within has_form g (λ p. true) is_formed all_formed fuel depth (produce p) s refl

pub each_form : (f : Forest) → each has_form f ≡ have_forms f
each_form none = refl
each_form (token i rest) = each_form rest
each_form (node l first under rest) = rw (each_form under, each_form rest) refl

-- ---- Declarators of C99 and C11

plain_here : (l : Label) (p : Production) → l.production ≡ p → has_no_declaring p ≡ true → is_declaring l ≡ false
plain_here l ExtRest e h = absurd (false≢true h)
plain_here l InitDecl e h = absurd (false≢true h)
plain_here l _ e h = ap (λ q. ghosts.eq q ExtRest || ghosts.eq q InitDecl) e

no_declaring : (f : Forest) → each (λ p under. has_no_declaring p) f ≡ true → has_declaring f ≡ false
no_declaring none w = refl
no_declaring (token i rest) w = no_declaring rest w
no_declaring (node l first under rest) w =
    let here = and_parts (has_no_declaring l.production) _ w in
    let below = and_parts (each (λ p under. has_no_declaring p) under) _ here.1 in
    or_from _ _ (plain_here l l.production refl here.0) (or_from _ _ (no_declaring under below.0) (no_declaring rest below.1))

-- a declarator declares nothing but parameters and members
abbrev pub has_plain_form : Production → Forest → Bool
has_plain_form p under = not (ghosts.eq p Declarator) || not (has_declaring under)

pub each_plain : (f : Forest) → each has_plain_form f ≡ have_plain_declarators f
each_plain none = refl
each_plain (token i rest) = each_plain rest
each_plain (node l first under rest) = rw (each_plain under, each_plain rest) refl

module _ (g : Grammar) (formed : IsPlain g) where
  undeclaring : AreGood (λ p under. has_no_declaring p) g has_no_declaring is_plain
  undeclaring = record {
    fit = formed.plain;
    inside = λ p a fit of_ok. implied (has_no_declaring p) _ fit of_ok;
    made = λ fuel depth p n a s s' of_ok fit is_read. of_ok;
  }

  plain_declarator : (fuel depth : ℕ) (body : Item) (n : ℕ) (s s' : State) → parts_all has_no_declaring body ≡ true
      → step g (read_within g fuel) depth body (opened Declarator n s) ≡ Ok s' → not (has_declaring s'.built.under) ≡ true
  unfolding opened
  plain_declarator fuel depth body n s s' all is_read =
      let keeps = after_is (Keeps (λ p under. has_no_declaring p) (opened Declarator n s)) _ s' is_read
      (keeps_step (λ p under. has_no_declaring p) g has_no_declaring is_plain undeclaring fuel body depth (opened Declarator n s) all) in
      ap not (no_declaring s'.built.under (keeps.goes_on refl))

  plain_made : (fuel depth : ℕ) (p : Production) (n : ℕ) (a : Alternative) (s s' : State) → is_plain p a ≡ true
      → step g (read_within g fuel) depth a.body (opened p n s) ≡ Ok s' → has_plain_form p s'.built.under ≡ true
  plain_made fuel depth Declarator n a s s' fit is_read = plain_declarator fuel depth a.body n s s' fit is_read
  plain_made fuel depth _ n a s s' fit is_read = refl

  all_plain : AreGood has_plain_form g (λ p. true) is_plain
  all_plain = record {
    fit = formed.plain;
    inside = λ p a fit of_ok. each_part a.body;
    made = λ fuel depth p n a s s' of_ok fit is_read. plain_made fuel depth p n a s s' fit is_read;
  }

  pub plain_within : (fuel depth : ℕ) (p : Production) (s : State) → After (Keeps has_plain_form s) (read_within g fuel depth (produce p) s)
  plain_within fuel depth p s = keeps_within has_plain_form g (λ p. true) is_plain all_plain fuel depth (produce p) s refl
