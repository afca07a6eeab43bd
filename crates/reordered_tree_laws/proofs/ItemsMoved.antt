-- An item that is moved, with lists in it in a new order, is one at its new place, and asks there for what it asked for.
use Rattle.std.proofs.Common.{ℕ, ◌+◌, ◌≡◌, Bool, true, false, ◌&&◌, ◌||◌, not, if◌then◌else◌, ◌==◌, List, [], ◌∷◌, ◌++◌, length, Option, None, Some, refl, sym, ap, ◌∙◌, inl, inr}
use Rattle.std.specs.Prelude.{◌%◌}
use Rattle.std.specs.List.{list_any}
use Rattle.std.specs.Option.{option_map, option_map_or}
use Rattle.std.specs.Str.{bytes_eq}
use Rattle.std.proofs.lemmas.Bool.{cases_Bool, false≢true, eqb-true, eqb-false, eq-eqb}
use Rattle.std.proofs.lemmas.List.Folds.{list_any-append}
use Rattle.cs_base.specs.Token.{Token}
use Rattle.cs_base.proofs.BoolLemmas.{chosen as if_when}
use Rattle.c99_tree.specs.Tree.{Forest, none, token, node, node_of}
use Rattle.c99_tree.specs.declared.production.Label.{Label}
use Rattle.c99_tree.specs.declared.production.Production.{Production}
use Rattle.c99_tree.specs.declared.production.Production.TheVariants.{Specs, Main, Primary, SuRest, EnRest, Members, Enumerators, Enumerator, Params, Param, Pdecl, Pdirect}
use Rattle.c_types.specs.Trees.{is_node, is_at, is_list, has_node, has_mod, name_below}
use Rattle.c_types.specs.Lists.{odd_tokens, even_tokens, name_in, bare_at, bare_in}
use Rattle.c_types.specs.Declarations.{alike, spelling_at}
use Rattle.tree_laws.specs.TreesOfTexts.{token_count}
use Rattle.list_cuts.specs.Cuts.{Cut, IsOrder, AreOf}
use Rattle.reordered_tree_laws.specs.Adding.{is_tagged, has_no_list, is_adding_node, is_adding}
use Rattle.scope_bind.specs.Moved.{AreMovedTexts}
use Rattle.reordered_tree_laws.specs.Moving.{AreMovedTo}
use Rattle.reordered_tree_laws.specs.Premises.{parameter_name, declared_name, is_item_production, is_scope, is_quiet_child, is_quiet, has_typedef_word, is_item, used_in, asked_in, is_unasked_in}
use Rattle.reordered_tree_laws.specs.Reordered.{is_parenthesised, is_among, permuted, numbered}
use Rattle.reordered_tree_laws.specs.Cuts.{cut_then}
use Rattle.reordered_tree_laws.proofs.MovedTrees.{seen_numbered}
use Rattle.reordered_tree_laws.proofs.Seen.{stays}
use Rattle.reordered_tree_laws.specs.Lasting.{tags_pass}
use Rattle.reordered_tree_laws.proofs.Checks.{are_listed, checked_numbered}
use Rattle.reordered_tree_laws.proofs.ItemsStay.{node_adds, AddTok, AddChild, never, AddInner, adding_checked, QuietTok, same_label, quiet_checked, UseTok, any_child, not_or, uses_checked, BareTok, BareChild, same_unit, bares_checked, TagTok, tags_checked, adding_permuted, quiet_permuted, uses_permuted, bares_permuted, bare_stays, named_permuted, typedef_permuted}

-- a parameter declaration is no list
param_apart : (l : Label) → is_node l Param ≡ true → is_parenthesised l ≡ false
param_apart l e = by l.production l.alternative e
  where
    by : (p : Production) (n : ℕ) → is_node (record { production = p; alternative = n }) Param ≡ true → is_parenthesised (record { production = p; alternative = n }) ≡ false
    by Param n e = refl
    by _ n e = absurd (false≢true e)

-- the three kinds of identifiers that are asked for
asked_parts : (p : ℕ → Bool) (l : Label) (first : ℕ) (u : Forest)
    → not (list_any p (asked_in (node_of l first u))) ≡ (not (list_any p (used_in l 0 u)) && (not (list_any p (bare_at l u)) && not (list_any p (bare_in u))))
asked_parts p l first u =
    ap not (list_any-append p (used_in l 0 u) (bare_at l u ++ bare_in u))
    ∙ (not_or (list_any p (used_in l 0 u)) (list_any p (bare_at l u ++ bare_in u))
    ∙ ap (λ b. not (list_any p (used_in l 0 u)) && b) (ap not (list_any-append p (bare_at l u) (bare_in u)) ∙ not_or (list_any p (bare_at l u)) (list_any p (bare_in u))))

-- ---- Lists in a new order

module _ (order : List ℕ) (is : IsOrder (length order) order) (lists : ℕ → Bool) (l : Label) (first : ℕ) (under : Forest) (after : Cut)
    (all : AreOf (length order) (cut_then lists (is_among lists l under) under after)) (fine : are_listed lists (is_among lists l under) under ≡ true) where
  abbrev b : Bool
  b = is_among lists l under

  abbrev new : Forest
  new = permuted order lists b under

  pub declared_permuted : declared_name (node_of l first new) ≡ declared_name (node_of l first under)
  declared_permuted =
      if_when (is_node l Param) (parameter_name new) (parameter_name under) None
      (λ e. ap parameter_name (stays order lists l under (param_apart l e)) ∙ named_permuted order is lists under)

  typedef_stays : option_map_or (λ i. not (has_typedef_word new)) (declared_name (node_of l first new)) true
      ≡ option_map_or (λ i. not (has_typedef_word under)) (declared_name (node_of l first under)) true
  typedef_stays = ap (λ (r : Option ℕ). option_map_or (λ i. not (has_typedef_word new)) r true) declared_permuted ∙ by (is_node l Param) refl
    where
      by : (c : Bool) → is_node l Param ≡ c → option_map_or (λ i. not (has_typedef_word new)) (if c then parameter_name under else None) true
          ≡ option_map_or (λ i. not (has_typedef_word under)) (if c then parameter_name under else None) true
      by true e =
          ap (λ (x : Bool). option_map_or (λ i. not x) (parameter_name under) true)
          (ap has_typedef_word (stays order lists l under (param_apart l e)) ∙ typedef_permuted order is lists under)
      by false e = refl

  pub item_permuted : is_item (node_of l first new) ≡ is_item (node_of l first under)
  item_permuted =
      ap (λ (x : Bool). (is_item_production l.production && x)
      && (is_adding (λ i. true) false l new && is_quiet (λ i. option_map_or (λ j. j == i) (declared_name (node_of l first new)) false) l new)) typedef_stays
      ∙ (ap (λ (x : Bool). (is_item_production l.production && option_map_or (λ i. not (has_typedef_word under)) (declared_name (node_of l first under)) true)
      && (x && is_quiet (λ i. option_map_or (λ j. j == i) (declared_name (node_of l first new)) false) l new)) (adding_permuted order is lists l under after b refl all fine false)
      ∙ (ap (λ (r : Option ℕ). (is_item_production l.production && option_map_or (λ i. not (has_typedef_word under)) (declared_name (node_of l first under)) true)
      && (is_adding (λ i. true) false l under && is_quiet (λ i. option_map_or (λ j. j == i) r false) l new)) declared_permuted
      ∙ ap (λ (x : Bool). (is_item_production l.production && option_map_or (λ i. not (has_typedef_word under)) (declared_name (node_of l first under)) true)
      && (is_adding (λ i. true) false l under && x))
      (quiet_permuted order is lists l under after b refl all fine (λ i. option_map_or (λ j. j == i) (declared_name (node_of l first under)) false))))

  pub asked_permuted : (p : ℕ → Bool) → not (list_any p (asked_in (node_of l first new))) ≡ not (list_any p (asked_in (node_of l first under)))
  asked_permuted p =
      asked_parts p l first new
      ∙ (ap (λ (x : Bool). x && (not (list_any p (bare_at l new)) && not (list_any p (bare_in new)))) (uses_permuted order is lists l under after b refl all fine p)
      ∙ (ap (λ (xs : List ℕ). not (list_any p (used_in l 0 under)) && (not (list_any p xs) && not (list_any p (bare_in new)))) (bare_stays order is lists l under)
      ∙ (ap (λ (x : Bool). not (list_any p (used_in l 0 under)) && (not (list_any p (bare_at l under)) && x)) (bares_permuted order is lists l under after b refl all fine p)
      ∙ sym (asked_parts p l first under))))

-- ---- Other numbers

module _ (m : ℕ → ℕ) (old new : List Token) (law : AreMovedTexts m old new) where
  lists_numbered : (c : Bool × Label) (l : Label) (n : ℕ) (u : Forest) → AreMovedTo m n u → AddChild c l (numbered n u) ≡ AddChild c l u
  lists_numbered c l n u moved =
      let seen = seen_numbered m law.first u n moved in
      ap (λ (x : Bool). x && has_no_list l (numbered n u)) (node_adds l.production c.1 c.0 l (numbered n u) u)
      ∙ (ap (λ (x : Bool). is_adding_node (λ i. true) l.production c.1 c.0 l u && not (is_tagged l && (x || has_node Enumerators (numbered n u)))) (seen.nodes Members)
      ∙ ap (λ (x : Bool). is_adding_node (λ i. true) l.production c.1 c.0 l u && not (is_tagged l && (has_node Members u || x))) (seen.nodes Enumerators))

  adding_numbered : (w : Bool) (l : Label) (n : ℕ) (f : Forest) → AreMovedTo m n f → is_adding (λ i. true) w l (numbered n f) ≡ is_adding (λ i. true) w l f
  adding_numbered w l n f moved =
      adding_checked w l 0 (numbered n f)
      ∙ (checked_numbered AddTok AddTok AddChild AddChild never AddInner m (λ c k i. refl) lists_numbered (w, l) 0 n f moved ∙ sym (adding_checked w l 0 f))

  image_passes : (lasting lasting' : ℕ → Bool) → ((i : ℕ) → lasting' (m i) ≡ lasting i) → (r : Option ℕ)
      → option_map_or lasting' (option_map m r) true ≡ option_map_or lasting r true
  image_passes lasting lasting' same None = refl
  image_passes lasting lasting' same (Some i) = same i

  quiet_below : (lasting lasting' : ℕ → Bool) → ((i : ℕ) → lasting' (m i) ≡ lasting i) → (c l : Label) (n : ℕ) (u : Forest) → AreMovedTo m n u
      → is_quiet_child lasting' c l (numbered n u) ≡ is_quiet_child lasting c l u
  quiet_below lasting lasting' same c l n u moved =
      let seen = seen_numbered m law.first u n moved in
      ap (λ (x : Bool). not (is_node l Enumerator) && (not (is_scope l.production) && (not (is_node c Param && is_node l Pdecl) || x)))
      (ap (λ (r : Option ℕ). option_map_or lasting' r true) (seen.named l) ∙ image_passes lasting lasting' same (name_below l u))

  quiet_numbered : (lasting lasting' : ℕ → Bool) → ((i : ℕ) → lasting' (m i) ≡ lasting i) → (l : Label) (n : ℕ) (f : Forest) → AreMovedTo m n f
      → is_quiet lasting' l (numbered n f) ≡ is_quiet lasting l f
  quiet_numbered lasting lasting' same l n f moved =
      quiet_checked lasting' l 0 (numbered n f)
      ∙ (checked_numbered QuietTok QuietTok (is_quiet_child lasting') (is_quiet_child lasting) is_list same_label m (λ c k i. refl) (quiet_below lasting lasting' same) l 0 n f moved
      ∙ sym (quiet_checked lasting l 0 f))

  pub tags_numbered : (test test' : ℕ → Bool) → ((i : ℕ) → test' (m i) ≡ test i) → (l : Label) (k n : ℕ) (f : Forest) → AreMovedTo m n f
      → tags_pass test' l k (numbered n f) ≡ tags_pass test l k f
  tags_numbered test test' same l k n f moved =
      tags_checked test' l k (numbered n f)
      ∙ (checked_numbered (TagTok test') (TagTok test) any_child any_child never same_label m
      (λ c j i. ap (λ (x : Bool). not ((is_at c SuRest 1 || is_at c EnRest 1) && (j == 0)) || x) (same i)) (λ c l n u w. refl) l k n f moved
      ∙ sym (tags_checked test l k f))

  -- ---- What is asked for

  module _ (p p' : ℕ → Bool) (same : (i : ℕ) → p' (m i) ≡ p i) where
    uses_numbered : (l : Label) (n : ℕ) (f : Forest) → AreMovedTo m n f → not (list_any p' (used_in l 0 (numbered n f))) ≡ not (list_any p (used_in l 0 f))
    uses_numbered l n f moved =
        uses_checked p' l 0 (numbered n f)
        ∙ (checked_numbered (UseTok p') (UseTok p) any_child any_child never same_label m
        (λ c k i. ap (λ (x : Bool). not ((is_at c Primary 1 || (is_at c Main 4 && (k == 0))) && x)) (same i)) (λ c l n u w. refl) l 0 n f moved
        ∙ sym (uses_checked p l 0 f))

    odd_numbered : (k n : ℕ) (f : Forest) → AreMovedTo m n f → list_any p' (odd_tokens k (numbered n f)) ≡ list_any p (odd_tokens k f)
    odd_numbered k n none moved = refl
    odd_numbered k n (token i rest) moved = by (k % 2 == 1) (odd_numbered (k + 1) (n + 1) rest moved.1)
      where
        by : (c : Bool) → list_any p' (odd_tokens (k + 1) (numbered (n + 1) rest)) ≡ list_any p (odd_tokens (k + 1) rest)
            → list_any p' (if c then n ∷ odd_tokens (k + 1) (numbered (n + 1) rest) else odd_tokens (k + 1) (numbered (n + 1) rest)) ≡ list_any p (if c then i ∷ odd_tokens (k + 1) rest else odd_tokens (k + 1) rest)
        by true later =
            ap (λ (x : Bool). x || list_any p' (odd_tokens (k + 1) (numbered (n + 1) rest))) (ap p' (sym moved.0) ∙ same i) ∙ ap (λ (x : Bool). p i || x) later
        by false later = later
    odd_numbered k n (node l first under rest) moved = odd_numbered (k + 1) (n + token_count under) rest moved.1

    name_numbered : (n : ℕ) (f : Forest) → AreMovedTo m n f → list_any p' (name_in (numbered n f)) ≡ list_any p (name_in f)
    name_numbered n none moved = refl
    name_numbered n (node l first under rest) moved = refl
    name_numbered n (token q none) moved = refl
    name_numbered n (token q (token i rest)) moved = refl
    name_numbered n (token q (node l first none more)) moved = refl
    name_numbered n (token q (node l first (token i rest) more)) moved = refl
    name_numbered n (token q (node l first (node k begin none rest) more)) moved = refl
    name_numbered n (token q (node l first (node k begin (node x next below u) rest) more)) moved = refl
    name_numbered n (token q (node l first (node k begin (token i u) rest) more)) moved = by (is_at k Pdirect 1)
      where
        by : (c : Bool) → list_any p' (if c then (n + 1) ∷ [] else []) ≡ list_any p (if c then i ∷ [] else [])
        by true = ap (λ (x : Bool). x || false) (ap p' (sym moved.1.0.0.0) ∙ same i)
        by false = refl

    bare_numbered : (l : Label) (n : ℕ) (u : Forest) → AreMovedTo m n u → not (list_any p' (bare_at l (numbered n u))) ≡ not (list_any p (bare_at l u))
    bare_numbered l n u moved = ap not (by l.production l.alternative)
      where
        one : (c : Bool) → list_any p' (if c then even_tokens (numbered n u) else []) ≡ list_any p (if c then even_tokens u else [])
        one true = odd_numbered 1 n u moved
        one false = refl

        two : (c : Bool) → list_any p' (if c then name_in (numbered n u) else []) ≡ list_any p (if c then name_in u else [])
        two true = name_numbered n u moved
        two false = refl

        by : (q : Production) (a : ℕ) → list_any p' (bare_at (record { production = q; alternative = a }) (numbered n u)) ≡ list_any p (bare_at (record { production = q; alternative = a }) u)
        by Params a = one (a == 1)
        by Pdirect a = two (a == 2)
        by _ a = refl

    bares_numbered : (n : ℕ) (f : Forest) → AreMovedTo m n f → not (list_any p' (bare_in (numbered n f))) ≡ not (list_any p (bare_in f))
    bares_numbered n f moved =
        bares_checked p' 0 (numbered n f)
        ∙ (checked_numbered BareTok BareTok (BareChild p') (BareChild p) never same_unit m (λ c k i. refl) (λ c l n u w. bare_numbered l n u w) tt 0 n f moved
        ∙ sym (bares_checked p 0 f))

    pub asked_numbered : (l : Label) (first n : ℕ) (u : Forest) → AreMovedTo m n u
        → not (list_any p' (asked_in (node_of l n (numbered n u)))) ≡ not (list_any p (asked_in (node_of l first u)))
    asked_numbered l first n u moved =
        asked_parts p' l n (numbered n u)
        ∙ (ap (λ (x : Bool). x && (not (list_any p' (bare_at l (numbered n u))) && not (list_any p' (bare_in (numbered n u))))) (uses_numbered l n u moved)
        ∙ (ap (λ (x : Bool). not (list_any p (used_in l 0 u)) && (x && not (list_any p' (bare_in (numbered n u))))) (bare_numbered l n u moved)
        ∙ (ap (λ (x : Bool). not (list_any p (used_in l 0 u)) && (not (list_any p (bare_at l u)) && x)) (bares_numbered n u moved) ∙ sym (asked_parts p l first u))))

  -- ---- An item

  named_numbered : (n : ℕ) (f : Forest) → AreMovedTo m n f → parameter_name (numbered n f) ≡ option_map m (parameter_name f)
  named_numbered n none moved = refl
  named_numbered n (token i rest) moved = named_numbered (n + 1) rest moved.1
  named_numbered n (node l first under rest) moved = by (is_node l Pdecl) (named_numbered (n + token_count under) rest moved.1)
    where
      by : (c : Bool) → parameter_name (numbered (n + token_count under) rest) ≡ option_map m (parameter_name rest)
          → (if c then name_below l (numbered n under) else parameter_name (numbered (n + token_count under) rest)) ≡ option_map m (if c then name_below l under else parameter_name rest)
      by true later = let seen = seen_numbered m law.first under n moved.0 in seen.named l
      by false later = later

  pub declared_numbered : (l : Label) (first n : ℕ) (u : Forest) → AreMovedTo m n u
      → declared_name (node_of l n (numbered n u)) ≡ option_map m (declared_name (node_of l first u))
  declared_numbered l first n u moved = by (is_node l Param)
    where
      by : (c : Bool) → (if c then parameter_name (numbered n u) else None) ≡ option_map m (if c then parameter_name u else None)
      by true = named_numbered n u moved
      by false = refl

  typedef_numbered : (n : ℕ) (f : Forest) → AreMovedTo m n f → has_typedef_word (numbered n f) ≡ has_typedef_word f
  typedef_numbered n none moved = refl
  typedef_numbered n (token i rest) moved = typedef_numbered (n + 1) rest moved.1
  typedef_numbered n (node l first under rest) moved =
      let seen = seen_numbered m law.first under n moved.0 in
      ap (λ (x : Bool). (is_node l Specs && x) || has_typedef_word (numbered (n + token_count under) rest)) (ap (λ w. w.has_typedef) seen.words)
      ∙ ap (λ (x : Bool). (is_node l Specs && has_mod 1 under) || x) (typedef_numbered (n + token_count under) rest moved.1)

  same_number : (x i : ℕ) → (m x == m i) ≡ (x == i)
  same_number x i = elim (cases_Bool (x == i)) [
    | inl e ↦ eq-eqb (m x) (m i) (ap m (eqb-true x i e)) ∙ sym e
    | inr e ↦ elim (cases_Bool (m x == m i)) [
      | inl f ↦ absurd (eqb-false x i e (law.apart x i (eqb-true (m x) (m i) f)))
      | inr f ↦ f ∙ sym e
    ]
  ]

  lasts_same : (r : Option ℕ) (i : ℕ) → option_map_or (λ j. j == m i) (option_map m r) false ≡ option_map_or (λ j. j == i) r false
  lasts_same None i = refl
  lasts_same (Some x) i = same_number x i

  typedef_same : (x : Bool) (r : Option ℕ) → option_map_or (λ i. not x) (option_map m r) true ≡ option_map_or (λ i. not x) r true
  typedef_same x None = refl
  typedef_same x (Some i) = refl

  pub item_numbered : (l : Label) (first n : ℕ) (u : Forest) → AreMovedTo m n u → is_item (node_of l n (numbered n u)) ≡ is_item (node_of l first u)
  item_numbered l first n u moved =
      let d : Option ℕ = declared_name (node_of l first u) in
      let f : Forest = numbered n u in
      ap (λ (r : Option ℕ). (is_item_production l.production && option_map_or (λ i. not (has_typedef_word f)) r true)
      && (is_adding (λ i. true) false l f && is_quiet (λ i. option_map_or (λ j. j == i) r false) l f)) (declared_numbered l first n u moved)
      ∙ (ap (λ (x : Bool). (is_item_production l.production && x)
      && (is_adding (λ i. true) false l f && is_quiet (λ i. option_map_or (λ j. j == i) (option_map m d) false) l f))
      (typedef_same (has_typedef_word f) d ∙ ap (λ (x : Bool). option_map_or (λ i. not x) d true) (typedef_numbered n u moved))
      ∙ (ap (λ (x : Bool). (is_item_production l.production && option_map_or (λ i. not (has_typedef_word u)) d true)
      && (x && is_quiet (λ i. option_map_or (λ j. j == i) (option_map m d) false) l f)) (adding_numbered false l n u moved)
      ∙ ap (λ (x : Bool). (is_item_production l.production && option_map_or (λ i. not (has_typedef_word u)) d true) && (is_adding (λ i. true) false l u && x))
      (quiet_numbered (λ i. option_map_or (λ j. j == i) d false) (λ i. option_map_or (λ j. j == i) (option_map m d) false) (lasts_same d) l n u moved)))

  alike_moved : (j i : ℕ) → alike new (m j) (m i) ≡ alike old j i
  alike_moved j i =
      ap (λ (w : List ℕ). bytes_eq w (spelling_at new (m i))) (law.spelled j) ∙ ap (λ (w : List ℕ). bytes_eq (spelling_at old j) w) (law.spelled i)

  image_named : (j : ℕ) (r : Option ℕ) → option_map_or (alike new (m j)) (option_map m r) false ≡ option_map_or (alike old j) r false
  image_named j None = refl
  image_named j (Some i) = alike_moved j i

  pub unasked_numbered : (l : Label) (first n : ℕ) (u : Forest) (j : ℕ) → AreMovedTo m n u
      → is_unasked_in new (node_of l n (numbered n u)) (m j) ≡ is_unasked_in old (node_of l first u) j
  unasked_numbered l first n u j moved =
      ap (λ (x : Bool). x && not (option_map_or (alike new (m j)) (declared_name (node_of l n (numbered n u))) false))
      (asked_numbered (alike old j) (alike new (m j)) (alike_moved j) l first n u moved)
      ∙ ap (λ (x : Bool). not (list_any (alike old j) (asked_in (node_of l first u))) && not x)
      (ap (λ (r : Option ℕ). option_map_or (alike new (m j)) r false) (declared_numbered l first n u moved) ∙ image_named j (declared_name (node_of l first u)))
