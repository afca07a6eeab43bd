-- An item is one where lists in it are in a new order, and where its tokens have other numbers; and what it asks for goes along.
use Rattle.std.proofs.Common.{ℕ, ◌+◌, ◌≡◌, Bool, true, false, ◌&&◌, ◌||◌, not, if◌then◌else◌, ◌==◌, List, [], ◌∷◌, ◌++◌, length, Option, None, Some, refl, sym, ap, ◌∙◌}
use Rattle.std.specs.Prelude.{◌%◌}
use Rattle.std.specs.List.{list_any}
use Rattle.std.specs.Option.{option_map_or}
use Rattle.std.proofs.lemmas.Bool.{false≢true, and_parts}
use Rattle.std.proofs.lemmas.List.Folds.{list_any-append}
use Rattle.cs_base.proofs.BoolLemmas.{and_none as and_false, not_true as not_one}
use Rattle.c99_tree.specs.Tree.{Forest, none, token, node, Node, node_of}
use Rattle.c99_tree.specs.declared.production.Label.{Label}
use Rattle.c99_tree.specs.declared.production.Production.{Production}
use Rattle.c99_tree.specs.declared.production.Production.TheVariants.{ExtRest, InitDecl, FunBody, Main, Specs, SuRest, EnRest, Members, MemRest, Mdecl, Enumerators, Enumerator, Declarator, Params, Param, Pdecl, Pdirect, Primary, Args}
use Rattle.c_types.specs.Trees.{is_node, is_at, is_list, has_node, has_mod, name_below}
use Rattle.c_types.specs.Lists.{odd_tokens, even_tokens, name_in, bare_at, bare_in}
use Rattle.list_cuts.specs.Cuts.{Cut, IsOrder, AreOf}
use Rattle.reordered_tree_laws.specs.Adding.{is_tagged, has_no_list, within_of, is_adding_token, is_adding_declarator, is_adding_parameter, is_adding_node, is_adding}
use Rattle.reordered_tree_laws.specs.Premises.{is_items, parameter_name, is_scope, is_quiet_child, is_quiet, has_typedef_word, used_in}
use Rattle.reordered_tree_laws.specs.Reordered.{nodes_in, refilled, picked_nodes, shuffled, is_parenthesised, is_among, permuted}
use Rattle.reordered_tree_laws.specs.Cuts.{cut_then}
use Rattle.reordered_tree_laws.proofs.Seen.{stays, nodes_same, orders_not_seen}
use Rattle.reordered_tree_laws.specs.Lasting.{tags_pass}
use Rattle.reordered_tree_laws.proofs.Checks.{are_listed, checked, checked_permuted}

-- ---- Productions

-- arguments and parameters are no structure with a tag, no parameter's declarator, no bare name
pub items_untagged : (l : Label) → is_items l ≡ true → is_tagged l ≡ false
items_untagged l e = by l.production l.alternative e
  where
    by : (p : Production) (n : ℕ) → is_items (record { production = p; alternative = n }) ≡ true → is_tagged (record { production = p; alternative = n }) ≡ false
    by Args n e = refl
    by Params n e = refl
    by _ n e = absurd (false≢true e)

pub items_apart : (l : Label) → is_items l ≡ true → is_node l Pdecl ≡ false
items_apart l e = by l.production l.alternative e
  where
    by : (p : Production) (n : ℕ) → is_items (record { production = p; alternative = n }) ≡ true → is_node (record { production = p; alternative = n }) Pdecl ≡ false
    by Args n e = refl
    by Params n e = refl
    by _ n e = absurd (false≢true e)

pub items_bare : (l : Label) (u : Forest) → is_items l ≡ true → bare_at l u ≡ []
items_bare l u e = by l.production l.alternative e
  where
    by : (p : Production) (n : ℕ) → is_items (record { production = p; alternative = n }) ≡ true → bare_at (record { production = p; alternative = n }) u ≡ []
    by Args n e = refl
    by Params n e = ap (λ b. if b then even_tokens u else []) (not_one (n == 1) e)
    by _ n e = absurd (false≢true e)

pub pdecl_apart : (l : Label) → is_node l Pdecl ≡ true → is_parenthesised l ≡ false
pdecl_apart l e = by l.production l.alternative e
  where
    by : (p : Production) (n : ℕ) → is_node (record { production = p; alternative = n }) Pdecl ≡ true → is_parenthesised (record { production = p; alternative = n }) ≡ false
    by Pdecl n e = refl
    by _ n e = absurd (false≢true e)

pub specs_apart : (l : Label) → is_node l Specs ≡ true → is_parenthesised l ≡ false
specs_apart l e = by l.production l.alternative e
  where
    by : (p : Production) (n : ℕ) → is_node (record { production = p; alternative = n }) Specs ≡ true → is_parenthesised (record { production = p; alternative = n }) ≡ false
    by Specs n e = refl
    by _ n e = absurd (false≢true e)

-- ---- Tests of the parts of an item

pub and_four : (a b c d : Bool) → (a && (b && (c && d))) ≡ ((a && b) && (c && d))
and_four true b c d = refl
and_four false b c d = refl

pub any_name : (r : Option ℕ) → option_map_or (λ i. true) r true ≡ true
any_name None = refl
any_name (Some i) = refl

-- what is added is not seen by the tokens of names
pub node_adds : (p : Production) (l : Label) (w : Bool) (m : Label) (u v : Forest) → is_adding_node (λ i. true) p l w m u ≡ is_adding_node (λ i. true) p l w m v
node_adds Declarator l w m u v = by l.production
  where
    by : (q : Production) → is_adding_declarator (λ i. true) q w m u ≡ is_adding_declarator (λ i. true) q w m v
    by Mdecl = ap (λ b. w && b) (any_name (name_below m u) ∙ sym (any_name (name_below m v)))
    by ExtRest = refl
    by InitDecl = refl
    by _ = refl
node_adds Pdecl l w m u v = by l.production
  where
    by : (q : Production) → is_adding_parameter (λ i. true) q m u ≡ is_adding_parameter (λ i. true) q m v
    by Param = any_name (name_below m u) ∙ sym (any_name (name_below m v))
    by _ = refl
node_adds MemRest l w m u v = refl
node_adds Members l w m u v = refl
node_adds Enumerators l w m u v = refl
node_adds FunBody l w m u v = refl
node_adds _ l w m u v = refl

abbrev pub AddTok : Bool × Label → ℕ → ℕ → Bool
AddTok c k i = is_adding_token (λ j. true) c.1.production

abbrev pub AddChild : Bool × Label → Label → Forest → Bool
AddChild c m u = is_adding_node (λ i. true) m.production c.1 c.0 m u && has_no_list m u

abbrev pub AddInner : Bool × Label → Label → Bool × Label
AddInner c m = (within_of m.production c.0, m)

abbrev pub never : Label → Bool
never l = false

pub adding_checked : (w : Bool) (l : Label) (k : ℕ) (f : Forest) → is_adding (λ i. true) w l f ≡ checked AddTok AddChild never AddInner (w, l) k f
adding_checked w l k none = refl
adding_checked w l k (token i rest) = ap (λ b. is_adding_token (λ j. true) l.production && b) (adding_checked w l (k + 1) rest)
adding_checked w l k (node m first under rest) =
    and_four (is_adding_node (λ i. true) m.production l w m under) (has_no_list m under) (is_adding (λ i. true) (within_of m.production w) m under) (is_adding (λ i. true) w l rest)
    ∙ (ap (λ b. AddChild (w, l) m under && (b && is_adding (λ i. true) w l rest)) (adding_checked (within_of m.production w) m 0 under)
    ∙ ap (λ b. AddChild (w, l) m under && (checked AddTok AddChild never AddInner (within_of m.production w, m) 0 under && b)) (adding_checked w l (k + 1) rest))

abbrev pub QuietTok : Label → ℕ → ℕ → Bool
QuietTok l k i = not (is_node l Params)

abbrev pub same_label : Label → Label → Label
same_label l m = m

pub quiet_checked : (lasting : ℕ → Bool) (l : Label) (k : ℕ) (f : Forest) → is_quiet lasting l f ≡ checked QuietTok (is_quiet_child lasting) is_list same_label l k f
quiet_checked lasting l k none = refl
quiet_checked lasting l k (token i rest) = ap (λ b. not (is_node l Params) && b) (quiet_checked lasting l (k + 1) rest)
quiet_checked lasting l k (node m first under rest) =
    ap (λ b. is_quiet_child lasting l m under && ((is_list m || b) && is_quiet lasting l rest)) (quiet_checked lasting m 0 under)
    ∙ ap (λ b. is_quiet_child lasting l m under && ((is_list m || checked QuietTok (is_quiet_child lasting) is_list same_label m 0 under) && b)) (quiet_checked lasting l (k + 1) rest)

-- the identifiers that are used pass no test
abbrev pub UseTok : (ℕ → Bool) → Label → ℕ → ℕ → Bool
UseTok p l k i = not ((is_at l Primary 1 || (is_at l Main 4 && (k == 0))) && p i)

abbrev pub any_child : {C : Type 0} → C → Label → Forest → Bool
any_child c m u = true

pub not_or : (a b : Bool) → not (a || b) ≡ (not a && not b)
not_or true b = refl
not_or false b = refl

pub use_if : (c : Bool) (p : ℕ → Bool) (i : ℕ) (xs : List ℕ) → not (list_any p (if c then i ∷ xs else xs)) ≡ (not (c && p i) && not (list_any p xs))
use_if true p i xs = not_or (p i) (list_any p xs)
use_if false p i xs = refl

pub uses_checked : (p : ℕ → Bool) (l : Label) (k : ℕ) (f : Forest) → not (list_any p (used_in l k f)) ≡ checked (UseTok p) any_child never same_label l k f
uses_checked p l k none = refl
uses_checked p l k (token i rest) =
    use_if (is_at l Primary 1 || (is_at l Main 4 && (k == 0))) p i (used_in l (k + 1) rest) ∙ ap (λ b. UseTok p l k i && b) (uses_checked p l (k + 1) rest)
uses_checked p l k (node m first under rest) =
    ap not (list_any-append p (used_in m 0 under) (used_in l (k + 1) rest))
    ∙ (not_or (list_any p (used_in m 0 under)) (list_any p (used_in l (k + 1) rest))
    ∙ (ap (λ b. b && not (list_any p (used_in l (k + 1) rest))) (uses_checked p m 0 under)
    ∙ ap (λ b. checked (UseTok p) any_child never same_label m 0 under && b) (uses_checked p l (k + 1) rest)))

-- so do bare names
abbrev pub BareTok : Unit {0} → ℕ → ℕ → Bool
BareTok c k i = true

abbrev pub BareChild : (ℕ → Bool) → Unit {0} → Label → Forest → Bool
BareChild p c m u = not (list_any p (bare_at m u))

abbrev pub same_unit : Unit {0} → Label → Unit {0}
same_unit c m = c

pub bares_checked : (p : ℕ → Bool) (k : ℕ) (f : Forest) → not (list_any p (bare_in f)) ≡ checked BareTok (BareChild p) never same_unit tt k f
bares_checked p k none = refl
bares_checked p k (token i rest) = bares_checked p (k + 1) rest
bares_checked p k (node l first under rest) =
    ap not (list_any-append p (bare_at l under ++ bare_in under) (bare_in rest) ∙ ap (λ b. b || list_any p (bare_in rest)) (list_any-append p (bare_at l under) (bare_in under)))
    ∙ (three_not (list_any p (bare_at l under)) (list_any p (bare_in under)) (list_any p (bare_in rest))
    ∙ (ap (λ b. BareChild p tt l under && (b && not (list_any p (bare_in rest)))) (bares_checked p 0 under)
    ∙ ap (λ b. BareChild p tt l under && (checked BareTok (BareChild p) never same_unit tt 0 under && b)) (bares_checked p (k + 1) rest)))
  where
    three_not : (a b c : Bool) → not ((a || b) || c) ≡ (not a && (not b && not c))
    three_not true b c = refl
    three_not false b c = not_or b c

-- tags pass one
abbrev pub TagTok : (ℕ → Bool) → Label → ℕ → ℕ → Bool
TagTok test l k i = not ((is_at l SuRest 1 || is_at l EnRest 1) && (k == 0)) || test i

pub tags_checked : (test : ℕ → Bool) (l : Label) (k : ℕ) (f : Forest) → tags_pass test l k f ≡ checked (TagTok test) any_child never same_label l k f
tags_checked test l k none = refl
tags_checked test l k (token i rest) = ap (λ b. TagTok test l k i && b) (tags_checked test l (k + 1) rest)
tags_checked test l k (node m first under rest) =
    ap (λ b. b && tags_pass test l (k + 1) rest) (tags_checked test m 0 under)
    ∙ ap (λ b. checked (TagTok test) any_child never same_label m 0 under && b) (tags_checked test l (k + 1) rest)

pub or_when : (c x y : Bool) → (c ≡ true → x ≡ y) → (not c || x) ≡ (not c || y)
or_when true x y f = f refl
or_when false x y f = refl

-- ---- Lists in a new order

module _ (order : List ℕ) (is : IsOrder (length order) order) (lists : ℕ → Bool) where
  -- a node, and the children that it has in the new order
  abbrev pub reordered_item : Label → ℕ → Forest → Node
  reordered_item l first under = node_of l first (permuted order lists (is_among lists l under) under)

  pub lists_same : (m : Label) (u v : Forest) → ((p : Production) → has_node p v ≡ has_node p u) → has_no_list m v ≡ has_no_list m u
  lists_same m u v nodes =
      ap (λ b. not (is_tagged m && (b || has_node Enumerators v))) (nodes Members) ∙ ap (λ b. not (is_tagged m && (has_node Members u || b))) (nodes Enumerators)

  pub add_below : (c : Bool × Label) (m : Label) (u : Forest) → AddChild c m (permuted order lists (is_among lists m u) u) ≡ AddChild c m u
  add_below c m u =
      let v : Forest = permuted order lists (is_among lists m u) u in
      ap (λ b. b && has_no_list m v) (node_adds m.production c.1 c.0 m v u)
      ∙ ap (λ b. is_adding_node (λ i. true) m.production c.1 c.0 m u && b) (lists_same m u v (λ p. nodes_same order lists p (is_among lists m u) u))

  pub add_listed : (c : Bool × Label) (m : Label) (u : Forest) → is_items m ≡ true → AddChild c m (shuffled order (permuted order lists false u)) ≡ AddChild c m u
  add_listed c m u e =
      let v : Forest = shuffled order (permuted order lists false u) in
      ap (λ b. b && has_no_list m v) (node_adds m.production c.1 c.0 m v u)
      ∙ ap (λ b. is_adding_node (λ i. true) m.production c.1 c.0 m u && b)
      (ap (λ b. not (b && (has_node Members v || has_node Enumerators v))) (items_untagged m e) ∙ sym (ap (λ b. not (b && (has_node Members u || has_node Enumerators u))) (items_untagged m e)))

  pub name_stays : (m : Label) (u : Forest) → is_parenthesised m ≡ false → name_below m (permuted order lists (is_among lists m u) u) ≡ name_below m u
  name_stays m u e = ap (name_below m) (stays order lists m u e) ∙ (let seen = orders_not_seen order lists u in seen.named m)

  pub quiet_below : (lasting : ℕ → Bool) (l m : Label) (u : Forest) → is_quiet_child lasting l m (permuted order lists (is_among lists m u) u) ≡ is_quiet_child lasting l m u
  quiet_below lasting l m u =
      ap (λ b. not (is_node m Enumerator) && (not (is_scope m.production) && b))
      (or_when (is_node l Param && is_node m Pdecl) (option_map_or lasting (name_below m (permuted order lists (is_among lists m u) u)) true) (option_map_or lasting (name_below m u) true)
      (λ e. ap (λ r. option_map_or lasting r true) (name_stays m u (pdecl_apart m ((and_parts (is_node l Param) (is_node m Pdecl) e).1)))))

  pub quiet_listed : (lasting : ℕ → Bool) (l m : Label) (u : Forest) → is_items m ≡ true
      → is_quiet_child lasting l m (shuffled order (permuted order lists false u)) ≡ is_quiet_child lasting l m u
  quiet_listed lasting l m u e =
      ap (λ b. not (is_node m Enumerator) && (not (is_scope m.production) && b))
      (or_when (is_node l Param && is_node m Pdecl) (option_map_or lasting (name_below m (shuffled order (permuted order lists false u))) true) (option_map_or lasting (name_below m u) true)
      (λ h. absurd (false≢true (sym (and_false (is_node l Param) (is_node m Pdecl) (items_apart m e)) ∙ h))))

  pub odd_permuted : (b : Bool) (k : ℕ) (f : Forest) → odd_tokens k (permuted order lists b f) ≡ odd_tokens k f
  odd_permuted b k none = refl
  odd_permuted b k (token i rest) = ap (λ xs. if k % 2 == 1 then i ∷ xs else xs) (odd_permuted b (k + 1) rest)
  odd_permuted b k (node l first under rest) = odd_permuted b (k + 1) rest

  -- the first child of a node is a token where it was one, and the same
  pub name_shuffled : (p : ℕ) (l m : Label) (first begin : ℕ) (u rest rest' more more' : Forest) (ns : List Node)
      → name_in (token p (node l first (node m begin (refilled ns u) rest') more')) ≡ name_in (token p (node l first (node m begin u rest) more))
  name_shuffled p l m first begin none rest rest' more more' ns = refl
  name_shuffled p l m first begin (token i u) rest rest' more more' ns = refl
  name_shuffled p l m first begin (node n next below u) rest rest' more more' [] = refl
  name_shuffled p l m first begin (node n next below u) rest rest' more more' (x ∷ ns) = refl

  pub name_within : (b : Bool) (p : ℕ) (l m : Label) (first begin : ℕ) (u rest rest' more more' : Forest)
      → name_in (token p (node l first (node m begin (permuted order lists b u) rest') more')) ≡ name_in (token p (node l first (node m begin u rest) more))
  name_within b p l m first begin none rest rest' more more' = refl
  name_within b p l m first begin (token i u) rest rest' more more' = refl
  name_within b p l m first begin (node n next below u) rest rest' more more' = refl

  pub name_inside : (c : Bool) (p : ℕ) (l : Label) (first : ℕ) (u more more' : Forest)
      → name_in (token p (node l first (permuted order lists c u) more')) ≡ name_in (token p (node l first u more))
  name_inside c p l first none more more' = refl
  name_inside c p l first (token i rest) more more' = refl
  name_inside true p l first (node m begin u rest) more more' =
      name_shuffled p l m first begin (permuted order lists false u) rest (permuted order lists true rest) more more' (picked_nodes order (nodes_in (permuted order lists false u)))
      ∙ name_within false p l m first begin u rest rest more more
  name_inside false p l first (node m begin u rest) more more' = name_within (is_among lists m u) p l m first begin u rest (permuted order lists false rest) more more'

  pub name_permuted : (f : Forest) → name_in (permuted order lists false f) ≡ name_in f
  name_permuted none = refl
  name_permuted (node l first under rest) = refl
  name_permuted (token p none) = refl
  name_permuted (token p (token i rest)) = refl
  name_permuted (token p (node l first under more)) = name_inside (is_among lists l under) p l first under more (permuted order lists false more)

  -- a list of bare names, and what begins with a parenthesis, is no list that gets the new order
  pub bare_stays : (m : Label) (u : Forest) → bare_at m (permuted order lists (is_among lists m u) u) ≡ bare_at m u
  bare_stays m u = by m.production m.alternative
    where
      one : (b : Bool) → (if b then even_tokens (permuted order lists false u) else []) ≡ (if b then even_tokens u else [])
      one true = odd_permuted false 1 u
      one false = refl

      two : (b : Bool) → (if b then name_in (permuted order lists false u) else []) ≡ (if b then name_in u else [])
      two true = name_permuted u
      two false = refl

      by : (p : Production) (n : ℕ) → bare_at (record { production = p; alternative = n }) (permuted order lists (is_among lists (record { production = p; alternative = n }) u) u)
          ≡ bare_at (record { production = p; alternative = n }) u
      by Params n = one (n == 1)
      by Pdirect n = two (n == 2)
      by _ n = refl

  pub bare_listed : (p : ℕ → Bool) (c : Unit {0}) (m : Label) (u : Forest) → is_items m ≡ true → BareChild p c m (shuffled order (permuted order lists false u)) ≡ BareChild p c m u
  bare_listed p c m u e = ap (λ xs. not (list_any p xs)) (items_bare m (shuffled order (permuted order lists false u)) e ∙ sym (items_bare m u e))

  -- ---- The parts of an item

  module _ (l : Label) (under : Forest) (after : Cut) (b : Bool) (among : b ≡ is_among lists l under) (all : AreOf (length order) (cut_then lists b under after))
      (fine : are_listed lists b under ≡ true) where
    abbrev new : Forest
    new = permuted order lists b under

    pub adding_permuted : (w : Bool) → is_adding (λ i. true) w l new ≡ is_adding (λ i. true) w l under
    adding_permuted w =
        adding_checked w l 0 new
        ∙ (checked_permuted AddTok AddChild never AddInner order is lists add_below add_listed b (w, l) 0 under after all fine ∙ sym (adding_checked w l 0 under))

    pub quiet_permuted : (lasting : ℕ → Bool) → is_quiet lasting l new ≡ is_quiet lasting l under
    quiet_permuted lasting =
        quiet_checked lasting l 0 new
        ∙ (checked_permuted QuietTok (is_quiet_child lasting) is_list same_label order is lists (quiet_below lasting) (quiet_listed lasting) b l 0 under after all fine
        ∙ sym (quiet_checked lasting l 0 under))

    pub uses_permuted : (p : ℕ → Bool) → not (list_any p (used_in l 0 new)) ≡ not (list_any p (used_in l 0 under))
    uses_permuted p =
        uses_checked p l 0 new
        ∙ (checked_permuted (UseTok p) any_child never same_label order is lists (λ c m u. refl) (λ c m u e. refl) b l 0 under after all fine ∙ sym (uses_checked p l 0 under))

    pub tags_permuted : (test : ℕ → Bool) (k : ℕ) → tags_pass test l k new ≡ tags_pass test l k under
    tags_permuted test k =
        tags_checked test l k new
        ∙ (checked_permuted (TagTok test) any_child never same_label order is lists (λ c m u. refl) (λ c m u e. refl) b l k under after all fine ∙ sym (tags_checked test l k under))

    pub bares_permuted : (p : ℕ → Bool) → not (list_any p (bare_in new)) ≡ not (list_any p (bare_in under))
    bares_permuted p =
        bares_checked p 0 new
        ∙ (checked_permuted BareTok (BareChild p) never same_unit order is lists (λ c m u. ap (λ xs. not (list_any p xs)) (bare_stays m u)) (bare_listed p) b tt 0 under after all fine
        ∙ sym (bares_checked p 0 under))

  -- ---- An item

  pub named_permuted : (f : Forest) → parameter_name (permuted order lists false f) ≡ parameter_name f
  named_permuted none = refl
  named_permuted (token i rest) = named_permuted rest
  named_permuted (node l first under rest) = by (is_node l Pdecl) refl (named_permuted rest)
    where
      by : (c : Bool) → is_node l Pdecl ≡ c → parameter_name (permuted order lists false rest) ≡ parameter_name rest
          → (if c then name_below l (permuted order lists (is_among lists l under) under) else parameter_name (permuted order lists false rest)) ≡ (if c then name_below l under else parameter_name rest)
      by true e later = name_stays l under (pdecl_apart l e)
      by false e later = later

  pub mods_permuted : (f : Forest) → has_mod 1 (permuted order lists false f) ≡ has_mod 1 f
  mods_permuted f = let seen = orders_not_seen order lists f in ap (λ w. w.has_typedef) seen.words

  pub typedef_permuted : (f : Forest) → has_typedef_word (permuted order lists false f) ≡ has_typedef_word f
  typedef_permuted none = refl
  typedef_permuted (token i rest) = typedef_permuted rest
  typedef_permuted (node l first under rest) = two_or (is_node l Specs) refl (typedef_permuted rest)
    where
      two_or : (c : Bool) → is_node l Specs ≡ c → has_typedef_word (permuted order lists false rest) ≡ has_typedef_word rest
          → ((c && has_mod 1 (permuted order lists (is_among lists l under) under)) || has_typedef_word (permuted order lists false rest)) ≡ ((c && has_mod 1 under) || has_typedef_word rest)
      two_or true e later =
          ap (λ b. b || has_typedef_word (permuted order lists false rest)) (ap (has_mod 1) (stays order lists l under (specs_apart l e)) ∙ mods_permuted under)
          ∙ ap (λ b. has_mod 1 under || b) later
      two_or false e later = later
