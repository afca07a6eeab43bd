-- Declarations do not see the order of the items of lists.
use Rattle.std.proofs.Common.{ℕ, ◌≡◌, Bool, true, false, ◌&&◌, ◌||◌, if◌then◌else◌, ◌==◌, List, [], ◌∷◌, Some, refl, sym, ap, ◌∙◌}
use Rattle.std.proofs.lemmas.Bool.{false≢true, and_parts}
use Rattle.c99_tree.specs.Tree.{Forest, none, token, node, Node}
use Rattle.c99_tree.specs.declared.production.Label.{Label}
use Rattle.c99_tree.specs.declared.production.Production.{Production}
use Rattle.c99_tree.specs.declared.production.Production.TheVariants.{Declarator, Direct, Pdecl, Pdirect, Adecl, Adirect, Pointer, Suffix, Main, StructSpec, SuRest, Mod}
use Rattle.c_types.specs.declared.frames.Words.{Words}
use Rattle.c_types.specs.Types.{CType, pointer, array, function}
use Rattle.c_types.specs.Trees.{is_node, is_at, last_token, first_token, has_node, has_mod, has_at, has_untagged, is_anonymous, words_of, is_one, is_lone_main, is_bare, holds_name, has_name, name_below, suffixed, is_aside, declarator_type, is_text}
use Rattle.c_types.specs.Parameters.{ends_in_token}
use Rattle.reordered_tree_laws.specs.Reordered.{nodes_in, refilled, picked_nodes, shuffled, is_parenthesised, is_among, permuted}
use Rattle.reordered_tree_laws.specs.Seen.{is_part, are_parts, NewOrdersAreNotSeen}

-- a part of a declarator that holds a name is no list
holder_apart : (p : Production) (n : ℕ) → holds_name p ≡ true → is_parenthesised (record { production = p; alternative = n }) ≡ false
holder_apart Declarator n e = refl
holder_apart Direct n e = refl
holder_apart Pdecl n e = refl
holder_apart Pdirect n e = refl
holder_apart _ n e = absurd (false≢true e)

part_apart : (p : Production) (n : ℕ) → is_part p ≡ true → is_parenthesised (record { production = p; alternative = n }) ≡ false
part_apart Declarator n e = refl
part_apart Direct n e = refl
part_apart Pdecl n e = refl
part_apart Pdirect n e = refl
part_apart Adecl n e = refl
part_apart Adirect n e = refl
part_apart _ n e = absurd (false≢true e)

if_both : {A : Type 0} (c : Bool) (x x' y y' : A) → (c ≡ true → x ≡ x') → (c ≡ false → y ≡ y') → (if c then x else y) ≡ (if c then x' else y')
if_both true x x' y y' f g = f refl
if_both false x x' y y' f g = g refl

module _ (order : List ℕ) (lists : ℕ → Bool) where
  not_among : (l : Label) (under : Forest) → is_parenthesised l ≡ false → is_among lists l under ≡ false
  not_among l under e = ap (λ b. b && (lists (first_token under 0) && ends_in_token false under)) e

  -- what stands in no list stands as it stood
  pub stays : (l : Label) (under : Forest) → is_parenthesised l ≡ false → permuted order lists (is_among lists l under) under ≡ permuted order lists false under
  stays l under e = ap (λ b. permuted order lists b under) (not_among l under e)

  -- ---- Tokens

  last_listed : (f : Forest) (e : Bool) (j k : ℕ) → ends_in_token e f ≡ true → (e ≡ true → j ≡ k) → last_token (permuted order lists true f) j ≡ last_token f k
  last_listed none e j k ends same = same ends
  last_listed (token i rest) e j k ends same = last_listed rest true i i ends (λ x. refl)
  last_listed (node l first under rest) e j k ends same =
      last_listed rest false (last_token (shuffled order (permuted order lists false under)) j) (last_token under k) ends (λ x. absurd (false≢true x))

  last_either : (b : Bool) (l : Label) (f : Forest) (k : ℕ) → b ≡ is_among lists l f
      → last_token (permuted order lists false f) k ≡ last_token f k → last_token (permuted order lists b f) k ≡ last_token f k
  last_either false l f k e same = same
  last_either true l f k e same =
      let among : (lists (first_token f 0) && ends_in_token false f) ≡ true = (and_parts (is_parenthesised l) (lists (first_token f 0) && ends_in_token false f) (sym e)).1 in
      last_listed f false k k ((and_parts (lists (first_token f 0)) (ends_in_token false f) among).1) (λ x. refl)

  last_same : (f : Forest) (k : ℕ) → last_token (permuted order lists false f) k ≡ last_token f k
  last_same none k = refl
  last_same (token i rest) k = last_same rest i
  last_same (node l first under rest) k =
      last_same rest (last_token (permuted order lists (is_among lists l under) under) k)
      ∙ ap (last_token rest) (last_either (is_among lists l under) l under k refl (last_same under k))

  first_same : (f : Forest) (k : ℕ) → first_token (permuted order lists false f) k ≡ first_token f k
  first_same none k = refl
  first_same (token i rest) k = refl
  first_same (node l first under rest) k = first_same rest k

  -- ---- Names

  named_same : (l : Label) (f : Forest) → name_below l (permuted order lists false f) ≡ name_below l f
  named_same l none = refl
  named_same l (token i rest) = ap (λ r. if has_name l then Some i else r) (named_same l rest)
  named_same l (node m first under rest) =
      if_both (holds_name m.production) (name_below m (permuted order lists (is_among lists m under) under)) (name_below m under)
      (name_below l (permuted order lists false rest)) (name_below l rest)
      (λ holds. ap (name_below m) (stays m under (holder_apart m.production m.alternative holds)) ∙ named_same m under)
      (λ other. named_same l rest)

  -- ---- Nodes

  pub nodes_same : (p : Production) (b : Bool) (f : Forest) → has_node p (permuted order lists b f) ≡ has_node p f
  nodes_same p b none = refl
  nodes_same p b (token i rest) = nodes_same p b rest
  nodes_same p b (node l first under rest) = ap (λ c. is_node l p || c) (nodes_same p b rest)

  at_same : (p : Production) (n : ℕ) (f : Forest) → has_at p n (permuted order lists false f) ≡ has_at p n f
  at_same p n none = refl
  at_same p n (token i rest) = at_same p n rest
  at_same p n (node l first under rest) = ap (λ c. is_at l p n || c) (at_same p n rest)

  and_when : (c x y : Bool) → (c ≡ true → x ≡ y) → (c && x) ≡ (c && y)
  and_when true x y f = f refl
  and_when false x y f = refl

  -- a node of main specifiers, and one of a structure, is no list
  main_apart : (l : Label) → is_node l Main ≡ true → is_parenthesised l ≡ false
  main_apart l e = by l.production l.alternative e
    where
      by : (p : Production) (n : ℕ) → is_node (record { production = p; alternative = n }) Main ≡ true → is_parenthesised (record { production = p; alternative = n }) ≡ false
      by Main n e = refl
      by _ n e = absurd (false≢true e)

  struct_apart : (l : Label) → is_node l StructSpec ≡ true → is_parenthesised l ≡ false
  struct_apart l e = by l.production l.alternative e
    where
      by : (p : Production) (n : ℕ) → is_node (record { production = p; alternative = n }) StructSpec ≡ true → is_parenthesised (record { production = p; alternative = n }) ≡ false
      by StructSpec n e = refl
      by _ n e = absurd (false≢true e)

  mod_same : (n : ℕ) (f : Forest) → has_mod n (permuted order lists false f) ≡ has_mod n f
  mod_same n none = refl
  mod_same n (token i rest) = mod_same n rest
  mod_same n (node l first under rest) =
      ap (λ c. is_at l Mod n || ((is_node l Main && has_mod n (permuted order lists (is_among lists l under) under)) || c)) (mod_same n rest)
      ∙ ap (λ c. is_at l Mod n || (c || has_mod n rest))
      (and_when (is_node l Main) (has_mod n (permuted order lists (is_among lists l under) under)) (has_mod n under)
      (λ main. ap (has_mod n) (stays l under (main_apart l main)) ∙ mod_same n under))

  untagged_same : (f : Forest) → has_untagged (permuted order lists false f) ≡ has_untagged f
  untagged_same none = refl
  untagged_same (token i rest) = untagged_same rest
  untagged_same (node l first under rest) =
      ap (λ c. (is_node l StructSpec && has_at SuRest 2 (permuted order lists (is_among lists l under) under)) || c) (untagged_same rest)
      ∙ ap (λ c. c || has_untagged rest)
      (and_when (is_node l StructSpec) (has_at SuRest 2 (permuted order lists (is_among lists l under) under)) (has_at SuRest 2 under)
      (λ struct. ap (has_at SuRest 2) (stays l under (struct_apart l struct)) ∙ at_same SuRest 2 under))

  anonymous_same : (f : Forest) → is_anonymous (permuted order lists false f) ≡ is_anonymous f
  anonymous_same none = refl
  anonymous_same (token i rest) = anonymous_same rest
  anonymous_same (node l first under rest) =
      ap (λ c. (is_node l Main && has_untagged (permuted order lists (is_among lists l under) under)) || c) (anonymous_same rest)
      ∙ ap (λ c. c || is_anonymous rest)
      (and_when (is_node l Main) (has_untagged (permuted order lists (is_among lists l under) under)) (has_untagged under)
      (λ main. ap has_untagged (stays l under (main_apart l main)) ∙ untagged_same under))

  abbrev words_by : Bool → Bool → Bool → Bool → Bool → Bool → Words
  words_by a b c d e anonymous =
      record { has_typedef = a; has_extern = b; has_static = c; has_any = a || (b || (c || (d || e))); anonymous = anonymous }

  words_same : (f : Forest) → words_of (permuted order lists false f) ≡ words_of f
  words_same f =
      let g : Forest = permuted order lists false f in
      ap (λ x. words_by x (has_mod 2 g) (has_mod 3 g) (has_mod 4 g) (has_mod 5 g) (is_anonymous g)) (mod_same 1 f)
      ∙ (ap (λ x. words_by (has_mod 1 f) x (has_mod 3 g) (has_mod 4 g) (has_mod 5 g) (is_anonymous g)) (mod_same 2 f)
      ∙ (ap (λ x. words_by (has_mod 1 f) (has_mod 2 f) x (has_mod 4 g) (has_mod 5 g) (is_anonymous g)) (mod_same 3 f)
      ∙ (ap (λ x. words_by (has_mod 1 f) (has_mod 2 f) (has_mod 3 f) x (has_mod 5 g) (is_anonymous g)) (mod_same 4 f)
      ∙ (ap (λ x. words_by (has_mod 1 f) (has_mod 2 f) (has_mod 3 f) (has_mod 4 f) x (is_anonymous g)) (mod_same 5 f)
      ∙ ap (λ x. words_by (has_mod 1 f) (has_mod 2 f) (has_mod 3 f) (has_mod 4 f) (has_mod 5 f) x) (anonymous_same f)))))

  -- ---- Shapes

  one_permuted : (b : Bool) (f : Forest) → is_one (permuted order lists b f) ≡ is_one f
  one_permuted b none = refl
  one_permuted b (token i rest) = refl
  one_permuted b (node l first under none) = refl
  one_permuted b (node l first under (token i rest)) = refl
  one_permuted b (node l first under (node m second below rest)) = refl

  one_refilled : (ns : List Node) (f : Forest) → is_one (refilled ns f) ≡ is_one f
  one_refilled ns none = refl
  one_refilled ns (token i rest) = refl
  one_refilled [] (node l first under rest) = refl
  one_refilled (n ∷ ns) (node l first under none) = refl
  one_refilled (n ∷ ns) (node l first under (token i rest)) = refl
  one_refilled (n ∷ []) (node l first under (node m second below rest)) = refl
  one_refilled (n ∷ (n' ∷ ns)) (node l first under (node m second below rest)) = refl

  one_below : (b : Bool) (l : Label) (under : Forest)
      → is_one (if b then shuffled order (permuted order lists false under) else permuted order lists (is_among lists l under) under) ≡ is_one under
  one_below true l under = one_refilled (picked_nodes order (nodes_in (permuted order lists false under))) (permuted order lists false under) ∙ one_permuted false under
  one_below false l under = one_permuted (is_among lists l under) under

  lone_permuted : (b : Bool) (f : Forest) → is_lone_main (permuted order lists b f) ≡ is_lone_main f
  lone_permuted b none = refl
  lone_permuted b (token i rest) = refl
  lone_permuted b (node l first under none) = one_below b l under
  lone_permuted b (node l first under (token i rest)) = refl
  lone_permuted b (node l first under (node m second below rest)) = refl

  bare_same : (f : Forest) → is_bare (permuted order lists false f) ≡ is_bare f
  bare_same none = refl
  bare_same (token i rest) = refl
  bare_same (node l first specs none) = refl
  bare_same (node l first specs (token i rest)) = refl
  bare_same (node l first specs (node m second rest none)) = ap (λ b. (m.alternative == 1) && b) (lone_permuted (is_among lists l specs) specs)
  bare_same (node l first specs (node m second rest (token i more))) = refl
  bare_same (node l first specs (node m second rest (node n third below more))) = refl

  text_same : (f : Forest) → is_text (permuted order lists false f) ≡ is_text f
  text_same none = refl
  text_same (token i rest) = refl
  text_same (node l first under none) = refl
  text_same (node l first under (token i rest)) = refl
  text_same (node l first under (node m second below rest)) = refl

  -- ---- Types

  suffixed_same : (t : CType) (f : Forest) → suffixed t (permuted order lists false f) ≡ suffixed t f
  suffixed_same t none = refl
  suffixed_same t (token i rest) = suffixed_same t rest
  suffixed_same t (node l first under rest) =
      ap (λ x. if is_node l Suffix then (if l.alternative == 1 then array x else function x) else x) (suffixed_same t rest)

  or3_last : (p q r : Bool) → (p || (q || r)) ≡ true → p ≡ false → q ≡ false → r ≡ true
  or3_last true q r e f g = absurd (false≢true (sym f))
  or3_last false true r e f g = absurd (false≢true (sym g))
  or3_last false false r e f g = e

  typed_same : (t : CType) (f : Forest) → are_parts f ≡ true → declarator_type t (permuted order lists false f) ≡ declarator_type t f
  typed_same t none e = refl
  typed_same t (token i rest) e = typed_same t rest e
  typed_same t (node l first under rest) e =
      let p = and_parts (is_node l Pointer || (is_node l Suffix || (is_part l.production && are_parts under))) (are_parts rest) e in
      let rest' : Forest = permuted order lists false rest in
      let under' : Forest = permuted order lists (is_among lists l under) under in
      if_both (is_node l Pointer) (declarator_type (pointer t) rest') (declarator_type (pointer t) rest)
      (if is_node l Suffix then suffixed t (node l first under' rest') else (if is_aside l then declarator_type t rest' else declarator_type (suffixed t rest') under'))
      (if is_node l Suffix then suffixed t (node l first under rest) else (if is_aside l then declarator_type t rest else declarator_type (suffixed t rest) under))
      (λ pointing. typed_same (pointer t) rest p.1)
      (λ no_pointer. if_both (is_node l Suffix) (suffixed t (node l first under' rest')) (suffixed t (node l first under rest))
      (if is_aside l then declarator_type t rest' else declarator_type (suffixed t rest') under')
      (if is_aside l then declarator_type t rest else declarator_type (suffixed t rest) under)
      (λ is. suffixed_same t (node l first under rest))
      (λ no_suffix.
      if_both (is_aside l) (declarator_type t rest') (declarator_type t rest) (declarator_type (suffixed t rest') under') (declarator_type (suffixed t rest) under)
      (λ aside. typed_same t rest p.1)
      (λ here.
      let q = and_parts (is_part l.production) (are_parts under)
      (or3_last (is_node l Pointer) (is_node l Suffix) (is_part l.production && are_parts under) p.0 no_pointer no_suffix) in
      ap (declarator_type (suffixed t rest')) (stays l under (part_apart l.production l.alternative q.0))
      ∙ (typed_same (suffixed t rest') under q.1 ∙ ap (λ s. declarator_type s under) (suffixed_same t rest)))))

pub orders_not_seen : NewOrdersAreNotSeen
orders_not_seen order lists f = record {
  last = last_same order lists f;
  first = first_same order lists f;
  named = λ l. named_same order lists l f;
  words = words_same order lists f;
  bare = bare_same order lists f;
  nodes = λ p. nodes_same order lists p false f;
  text = text_same order lists f;
  typed = λ t. typed_same order lists t f;
}
