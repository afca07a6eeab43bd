-- A parameter's declarator in parentheses whose first token is an identifier begins with this name.
use Rattle.std.proofs.Common.{ℕ, zero, suc, ◌+◌, ◌≡◌, Bool, true, false, ◌&&◌, not, if◌then◌else◌, List, [], ◌∷◌, length, Ok, Err, nat_lt, refl, sym, ap, ◌∙◌}
use Rattle.std.proofs.lemmas.Bool.{not-true, false≢true}
use Rattle.c99_grammar.specs.declared.dialects.Dialect.TheVariants.{Iso}
use Rattle.c99_grammar.specs.declared.dialects.Edition.{Edition}
use Rattle.c99_tree.specs.Tree.{Forest, none, token, node, Node, Part, leaf, inner, put, lone}
use Rattle.c99_tree.specs.declared.production.Label.{Label}
use Rattle.c99_tree.specs.declared.production.Production.{Production}
use Rattle.c99_tree.specs.declared.production.Production.TheVariants.{Pdecl, Pdirect}
use Rattle.c99_tree.specs.contracts.production.ProductionPartialEq.TheImpl.{ghosts}
use Rattle.c99_grammar.specs.Classes.{among}
use Rattle.c99_grammar.specs.Items.{Item, one, part, ◌·◌, deep, own, names, Action}
use Rattle.c99_grammar.specs.Standard.{c99, iso}
use Rattle.c99_read.specs.State.{State, base_at, is_identifier, is_typedef_at, class_at, collapses, finished, acted, opened, closed}
use Rattle.c99_read.specs.Reading.{Goal, produce, Step, syntax, too_deep, and_then, deepest, take_one, enter, may, step, alternative, read_within}
use Rattle.c99_grammar.specs.Starting.{starts}
use Rattle.c_types.specs.Trees.{is_at}
use Rattle.c_types.specs.Lists.{name_in}
use Rattle.tree_laws.proofs.Walked.{After, with_token, after_if, kept_by_item}
use Rattle.tree_laws.proofs.Parts.{first_body, rest_of}
use Rattle.renamed_tree_laws.proofs.Private.{Class, identifier, typedef_name}
use Rattle.renamed_tree_laws.proofs.Bases.{base_is}

after_true : (P : State → Type 0) (c : Bool) (r r' : Step) → c ≡ true → After P r → After P (if c then r else r')
after_true P true r r' e m = m
after_true P false r r' e m = absurd (false≢true e)

after_false : (P : State → Type 0) (c : Bool) (r r' : Step) → c ≡ false → After P r' → After P (if c then r else r')
after_false P true r r' e m = absurd (false≢true (sym e))
after_false P false r r' e m = m

-- ---- A node that is read

-- one child more, a node that is so
record Adds (Good : Node → Type 0) (s s' : State) : Type 0 where
  child : Node
  under : s'.built.under ≡ put s.built.under (inner child)
  good : Good child

closed_adds : (Good : Node → Type 0) (p : Production) (s s' : State) → collapses p ≡ false → Good s'.built → Adds Good s (closed p s s')
unfolding closed
closed_adds Good p s s' plain h = record { child = s'.built; under = ap (λ n. put s.built.under (inner n)) (by (collapses p) plain); good = h }
  where
    by : (c : Bool) → c ≡ false → (if c then lone s'.built.under s'.built else s'.built) ≡ s'.built
    by true e = absurd (false≢true (sym e))
    by false e = refl

-- ---- The name first

abbrev head_in : Forest → List ℕ
head_in (token i rest) = i ∷ []
head_in _ = []

-- a direct declarator that is this name, with what follows it
abbrev IsNamed : ℕ → Node → Type 0
IsNamed k n = (is_at n.label Pdirect 1 ≡ true) × (head_in n.under ≡ k ∷ [])

head_more : (f : Forest) (x : Part) (k : ℕ) → head_in f ≡ k ∷ [] → head_in (put f x) ≡ k ∷ []
head_more none x k h = absurd (cc)
head_more (token i rest) x k h = h
head_more (node l first under rest) x k h = absurd (cc)

named_more : (k : ℕ) (n : Node) (x : Part) → IsNamed k n → IsNamed k (record n { under = put n.under x })
named_more k n x h = (h.0, head_more n.under x k h.1)

-- ---- A declarator that begins with a name

abbrev named_in : Forest → List ℕ
named_in (node m begin (token i list) rest) = if is_at m Pdirect 1 then i ∷ [] else []
named_in _ = []

abbrev Begins : ℕ → Node → Type 0
Begins k n = named_in n.under ≡ k ∷ []

begins_by : (l : Label) (b : ℕ) (f : Forest) (k : ℕ) → is_at l Pdirect 1 ≡ true → head_in f ≡ k ∷ [] → named_in (node l b f none) ≡ k ∷ []
begins_by l b none k e h = absurd (cc)
begins_by l b (token i rest) k e h = ap (λ c. if c then i ∷ [] else []) e ∙ h
begins_by l b (node m first under rest) k e h = absurd (cc)

begins_so : (k : ℕ) (s s' : State) → s.built.under ≡ none → Adds (IsNamed k) s s' → Begins k s'.built
begins_so k s s' empty a =
    ap named_in (a.under ∙ ap (λ f. put f (inner a.child)) empty) ∙ begins_by a.child.label a.child.first a.child.under k a.good.0 a.good.1

-- ---- A declarator in parentheses

-- a token, a parameter's declarator, and more
abbrev pub is_parenthesized : Item → Bool
is_parenthesized (one classes · (deep (part p) · rest)) = ghosts.eq p Pdecl
is_parenthesized _ = false

abbrev Holds : ℕ → Node → Type 0
Holds k n = name_in n.under ≡ k ∷ []

holds_more : (k : ℕ) (n : Node) (x : Part) → Holds k n → Holds k (record n { under = put n.under x })
holds_more k n x h = by n.under h
  where
    by : (f : Forest) → name_in f ≡ k ∷ [] → name_in (put f x) ≡ k ∷ []
    by none e = absurd (cc)
    by (node l first under rest) e = absurd (cc)
    by (token p none) e = absurd (cc)
    by (token p (token i rest)) e = absurd (cc)
    by (token p (node l first none more)) e = absurd (cc)
    by (token p (node l first (node m begin none rest) more)) e = absurd (cc)
    by (token p (node l first (node m begin (token i list) rest) more)) e = e
    by (token p (node l first (node m begin (node o start under list) rest) more)) e = absurd (cc)
    by (token p (node l first (token i rest) more)) e = absurd (cc)

name_so : (p : ℕ) (l : Label) (first : ℕ) (f : Forest) → name_in (token p (node l first f none)) ≡ named_in f
name_so p l first none = refl
name_so p l first (token i rest) = refl
name_so p l first (node m begin none rest) = refl
name_so p l first (node m begin (token i list) rest) = refl
name_so p l first (node m begin (node o start under list) rest) = refl

holds_so : (p k : ℕ) (s s' : State) → s.built.under ≡ token p none → Adds (Begins k) s s' → Holds k s'.built
holds_so p k s s' alone a =
    ap name_in (a.under ∙ ap (λ f. put f (inner a.child)) alone) ∙ (name_so p a.child.label a.child.first a.child.under ∙ a.good)

module _ (std : Edition) where
  -- ---- The class of an identifier

  -- what is so of the two classes that an identifier may have is so of its class
  either_class : (Q : Class → Bool) → Q identifier ≡ true → Q typedef_name ≡ true → (s : State) (k : ℕ) → is_identifier (base_at (iso std) s.toks k) ≡ true
      → Q (class_at (iso std) s k) ≡ true
  unfolding class_at
  either_class Q i t s k h =
      by (base_at (iso std) s.toks k) (is_identifier (base_at (iso std) s.toks k) && is_typedef_at s.toks s.names.scopes k) (base_is (Iso std) s.toks k h)
    where
      by : (b : Class) (c : Bool) → b ≡ identifier → Q (if c then typedef_name else b) ≡ true
      by b true e = t
      by b false e = ap Q e ∙ i

  -- ---- What stays so with more children

  module _ (so : Node → Type 0) (more : (n : Node) (x : Part) → so n → so (record n { under = put n.under x })) (fuel : ℕ) where
    abbrev Grows : State → State → Type 0
    Grows s s' = so s.built → so s'.built

    acted_grows : (a : Action) (s : State) → Grows s (acted (iso std) a s)
    unfolding acted
    acted_grows a s = λ w. w

    node_grows : (p : Production) (s s' : State) → Grows s (closed p s s')
    unfolding closed
    node_grows p s s' = λ w. more s.built (inner (finished p s'.built)) w

    grows_step : (item : Item) (depth : ℕ) (s : State) → After (Grows s) (step (iso std) (read_within (iso std) fuel) depth item s)
    grows_step =
        kept_by_item (iso std) Grows
        (record { still = λ s w. w; further = λ s s' s'' k k' w. k' (k w); taken = λ s w. more s.built (leaf s.at) w; done = acted_grows })
        (λ p n s s' grows. node_grows p s s') fuel

    -- it is so behind one step, and so behind the items that follow
    so_further : (r : Step) (depth : ℕ) (item : Item) → After (λ s. so s.built) r
        → After (λ s. so s.built) (and_then r (step (iso std) (read_within (iso std) fuel) depth item))
    so_further (Err stop) depth item m = tt
    so_further (Ok s) depth item m = by (step (iso std) (read_within (iso std) fuel) depth item s) (grows_step item depth s)
      where
        by : (r : Step) → After (Grows s) r → After (λ s'. so s'.built) r
        by (Err stop) k = tt
        by (Ok s') k = k m

  module _ (Good : Node → Type 0) (below : ℕ → Goal → State → Step) where
    alternative_adds : (depth : ℕ) (p : Production) (n : ℕ) (body : Item) (s : State) → collapses p ≡ false
        → After (λ s'. Good s'.built) (step (iso std) below depth body (opened p n s)) → After (Adds Good s) (alternative (iso std) below depth p n body s)
    alternative_adds depth p n body s plain m = by (step (iso std) below depth body (opened p n s)) m
      where
        by : (r : Step) → After (λ s'. Good s'.built) r → After (Adds Good s) (and_then r (λ s'. Ok (closed p s s')))
        by (Err stop) m = tt
        by (Ok s') m = closed_adds Good p s s' plain m

  module _ (fuel : ℕ) where
    name_first : (depth : ℕ) (classes : List Class) (rest : Item) (s : State)
        → After (λ s'. IsNamed s.at s'.built) (step (iso std) (read_within (iso std) fuel) depth (one classes · rest) (opened Pdirect 1 s))
    unfolding take_one opened
    name_first depth classes rest s =
        so_further (IsNamed s.at) (named_more s.at) fuel (take_one (iso std) classes (opened Pdirect 1 s)) depth rest
        (after_if (λ s'. IsNamed s.at s'.built) (nat_lt s.at (length s.toks) && among classes (class_at (iso std) (opened Pdirect 1 s) s.at)) _ _ (refl, refl) tt)

  direct_adds : (fuel depth : ℕ) (s : State) → is_identifier (base_at (iso std) s.toks s.at) ≡ true
      → After (Adds (IsNamed s.at) s) (read_within (iso std) fuel depth (produce Pdirect) s)
  unfolding read_within
  direct_adds zero depth s h = tt
  direct_adds (suc fuel) depth s h =
      after_true (Adds (IsNamed s.at) s) (among names (class_at (iso std) s s.at)) _ _ (either_class (among names) refl refl s s.at h)
      (alternative_adds (IsNamed s.at) (read_within (iso std) fuel) depth Pdirect 1 (first_body (c99.table Pdirect)) s refl (name_first fuel depth names (rest_of (first_body (c99.table Pdirect))) s))

  direct_begins : (fuel depth : ℕ) (s : State) → is_identifier (base_at (iso std) s.toks s.at) ≡ true
      → After (λ s'. Begins s.at s'.built) (read_within (iso std) fuel depth (produce Pdirect) (opened Pdecl 2 s))
  unfolding opened
  direct_begins fuel depth s h =
      by (read_within (iso std) fuel depth (produce Pdirect) (opened Pdecl 2 s)) (direct_adds fuel depth (opened Pdecl 2 s) h)
    where
      by : (r : Step) → After (Adds (IsNamed s.at) (opened Pdecl 2 s)) r → After (λ s'. Begins s.at s'.built) r
      by (Err stop) m = tt
      by (Ok s') m = begins_so s.at (opened Pdecl 2 s) s' refl m

  -- it has no pointer in front
  declarator_adds : (fuel depth : ℕ) (s : State) → is_identifier (base_at (iso std) s.toks s.at) ≡ true
      → After (Adds (Begins s.at) s) (read_within (iso std) fuel depth (produce Pdecl) s)
  unfolding read_within
  declarator_adds zero depth s h = tt
  declarator_adds (suc fuel) depth s h =
      after_false (Adds (Begins s.at) s) (starts (iso std) (first_body (c99.table Pdecl)) (class_at (iso std) s s.at) (class_at (iso std) s (s.at + 1))) _ _
      (not-true _ (either_class (λ c. not (starts (iso std) (first_body (c99.table Pdecl)) c (class_at (iso std) s (s.at + 1)))) refl refl s s.at h))
      (after_if (Adds (Begins s.at) s) (may (iso std) own (part Pdirect) s) _ _
      (alternative_adds (Begins s.at) (read_within (iso std) fuel) depth Pdecl 2 (part Pdirect) s refl (direct_begins fuel depth s h)) tt)

  module _ (fuel : ℕ) where
    deep_holds : (depth p : ℕ) (s : State) → s.built.under ≡ token p none → is_identifier (base_at (iso std) s.toks s.at) ≡ true
        → After (λ s'. Holds s.at s'.built) (step (iso std) (read_within (iso std) fuel) depth (deep (part Pdecl)) s)
    unfolding enter
    deep_holds depth p s alone h = by_start (may (iso std) own (part Pdecl) s)
      where
        within : (r : Step) → After (Adds (Begins s.at) s) r → After (λ s'. Holds s.at s'.built) r
        within (Err stop) m = tt
        within (Ok s') m = holds_so p s.at s s' alone m

        by_depth : (c : Bool) → After (λ s'. Holds s.at s'.built) (and_then (if c then Ok s else Err (too_deep s.at)) (step (iso std) (read_within (iso std) fuel) (depth + 1) (part Pdecl)))
        by_depth true = within (read_within (iso std) fuel (depth + 1) (produce Pdecl) s) (declarator_adds fuel (depth + 1) s h)
        by_depth false = tt

        by_start : (c : Bool) → After (λ s'. Holds s.at s'.built) (and_then (enter depth c s) (step (iso std) (read_within (iso std) fuel) (depth + 1) (part Pdecl)))
        by_start true = by_depth (nat_lt depth deepest)
        by_start false = tt

    parenthesized_holds : (depth : ℕ) (classes : List Class) (rest : Item) (s : State) → is_identifier (base_at (iso std) s.toks (s.at + 1)) ≡ true
        → After (λ s'. Holds (s.at + 1) s'.built) (step (iso std) (read_within (iso std) fuel) depth (one classes · (deep (part Pdecl) · rest)) (opened Pdirect 2 s))
    unfolding take_one opened
    parenthesized_holds depth classes rest s h = by (nat_lt s.at (length s.toks) && among classes (class_at (iso std) (opened Pdirect 2 s) s.at))
      where
        by : (c : Bool) → After (λ s'. Holds (s.at + 1) s'.built)
            (and_then (if c then Ok (with_token (opened Pdirect 2 s)) else Err (syntax s.at)) (step (iso std) (read_within (iso std) fuel) depth (deep (part Pdecl) · rest)))
        by true =
            so_further (Holds (s.at + 1)) (holds_more (s.at + 1)) fuel (step (iso std) (read_within (iso std) fuel) depth (deep (part Pdecl)) (with_token (opened Pdirect 2 s)))
            depth rest (deep_holds depth s.at (with_token (opened Pdirect 2 s)) refl h)
        by false = tt

    -- where an identifier follows the parenthesis, it is the name
    pub enclosed_step : (depth : ℕ) (body : Item) (s : State) → is_parenthesized body ≡ true → is_identifier (base_at (iso std) s.toks (s.at + 1)) ≡ true
        → After (λ s'. Holds (s.at + 1) s'.built) (step (iso std) (read_within (iso std) fuel) depth body (opened Pdirect 2 s))
    enclosed_step depth (one classes · (deep (part Pdecl) · rest)) s e h = parenthesized_holds depth classes rest s h
    enclosed_step depth _ s e h = absurd (false≢true e)
