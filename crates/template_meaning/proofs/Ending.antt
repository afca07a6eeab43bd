-- No token of a text that is read is `#`, and no item of a list ends in `/` or `(`.
use Rattle.std.proofs.Common.{◌≡◌, ℕ, zero, suc, ◌+◌, ◌<◌, ◌≤◌, ◌⊎◌, inl, inr, Bool, true, false, ◌&&◌, ◌||◌, not, List, [], ◌∷◌, ◌++◌, length, Some, refl, sym, ap, subst, ◌∙◌, arith}
use Rattle.std.specs.Prelude.{slice_get, nat_lt}
use Rattle.std.specs.List.{list_all}
use Rattle.std.proofs.lemmas.Bool.{false≢true, cases_Bool, and_parts, and_from, or_left, or_right, ltb-true, ltb-false}
use Rattle.std.proofs.lemmas.Option.{same_Some}
use Rattle.c99_grammar.specs.declared.dialects.Edition.{Edition}
use Rattle.cs_base.specs.Token.{Token}
use Rattle.cs_base.proofs.BoolLemmas.{or_met as implied, no_case as not_so}
use Rattle.c99_tree.specs.Tree.{Forest, none, token, node}
use Rattle.c99_tree.specs.declared.production.Label.{Label}
use Rattle.c99_tree.specs.declared.production.Production.{Production}
use Rattle.c99_tree.specs.declared.production.Production.TheVariants.{TranslationUnit, External, ExtRest, ExtTail, FunBody, Declaration, DeclRest, InitDecl, Sassert, Specs, Main, Mod, Qual, Word, StructSpec, SuRest, Members, Member, MemRest, Mdecl, EnumSpec, EnRest, Enumerators, Enumerator, Declarator, Pointer, Direct, Suffix, Bound, Params, Param, Pdecl, Pdirect, TypeName, Adecl, Adirect, Init, InitList, InitItem, Designator, Expr, Assign, Asgop, Cond, Lor, Land, Bor, Bxor, Band, Equal, Relate, Shift, Add, Mul, Cast, CastRest, Unary, SizeRest, SizeLit, Primary, Post, Args, Block, BlockItem, Statement, Sub, ForInit, AutoDecl, Attr, AttrItem, AttrWord, AsmName, Operand, Association, MemberPath, AsmPart, AsmOperand}
use Rattle.c99_tree.specs.contracts.production.ProductionPartialEq.TheImpl.{ghosts}
use Rattle.c99_grammar.specs.declared.classes.Class.{Class}
use Rattle.c99_grammar.specs.declared.classes.Class.TheVariants.{LeftParen, Slash, Hash}
use Rattle.c99_grammar.specs.Classes.{is_same, among}
use Rattle.c99_grammar.specs.Items.{Item, one, part, end_of_text, act, ◌·◌, choice, maybe, many, deep, own, Alternative, plain}
use Rattle.c99_grammar.specs.Standard.{Grammar, iso}
use Rattle.c99_read.specs.State.{base_at, is_identifier}
use Rattle.c99_grammar.proofs.StandardLemmas.{by_edition}
use Rattle.c_types.specs.Trees.{last_token}
use Rattle.tree_laws.specs.Shapes.{has_no_declaring}
use Rattle.tree_laws.specs.TreesOfTexts.{token_count, AreFrom, IsTreeOf}
use Rattle.tree_laws.proofs.OfTexts.{trees_of_texts}
use Rattle.template_meaning.specs.Children.{Child, children, EachNode, IsInner, IsOfAlternative}
use Rattle.template_meaning.specs.Children as plainly
use Rattle.template_meaning.specs.Ends.{Sign, a_token, a_node, signs, AreTimes, HasClass, AreOfClasses, IsOfClasses, IsNot, MayEnd, EndWell, ItemsEndWell, TokensMayStand}
use Rattle.template_meaning.proofs.Children.{children_of_alternatives}
use Rattle.template_meaning.proofs.Counted.{node_some, some_tokens}
use Rattle.template_meaning.proofs.FitTable.{table_row}
use Rattle.template_meaning.proofs.InnerTable.{can_none}
use Rattle.template_meaning.proofs.Signs.{tokens_of_classes}

-- ---- The table

-- the item does not end in `/` or `(`
abbrev ends_ok : Item → Bool
ends_ok (one classes) = not (among classes Slash) && not (among classes LeftParen)
ends_ok (part p) = true
ends_ok end_of_text = true
ends_ok (act a) = true
ends_ok (a · b) = ends_ok b && (not (can_none b) || ends_ok a)
ends_ok (choice a b) = ends_ok a && ends_ok b
ends_ok (maybe a) = ends_ok a
ends_ok (many t a) = ends_ok a
ends_ok (deep a) = ends_ok a

-- `#` is no token of it
abbrev no_hash : Item → Bool
no_hash (one classes) = not (among classes Hash)
no_hash (part p) = true
no_hash end_of_text = true
no_hash (act a) = true
no_hash (a · b) = no_hash a && no_hash b
no_hash (choice a b) = no_hash a && no_hash b
no_hash (maybe a) = no_hash a
no_hash (many t a) = no_hash a
no_hash (deep a) = no_hash a

abbrev row_ends : Production → Alternative → Bool
row_ends p a = ends_ok a.body && no_hash a.body

module _ (std : Edition) where
  ends_at : (p : Production) → list_all (row_ends p) ((iso std).table p) ≡ true
  ends_at TranslationUnit = refl
  ends_at External = by_edition (λ s. list_all (row_ends External) ((iso s).table External) ≡ true) refl refl std
  ends_at ExtRest = refl
  ends_at ExtTail = refl
  ends_at FunBody = refl
  ends_at Declaration = by_edition (λ s. list_all (row_ends Declaration) ((iso s).table Declaration) ≡ true) refl refl std
  ends_at DeclRest = refl
  ends_at InitDecl = refl
  ends_at Sassert = by_edition (λ s. list_all (row_ends Sassert) ((iso s).table Sassert) ≡ true) refl refl std
  ends_at Specs = refl
  ends_at Main = refl
  ends_at Mod = by_edition (λ s. list_all (row_ends Mod) ((iso s).table Mod) ≡ true) refl refl std
  ends_at Qual = refl
  ends_at Word = refl
  ends_at StructSpec = refl
  ends_at SuRest = refl
  ends_at Members = refl
  ends_at Member = by_edition (λ s. list_all (row_ends Member) ((iso s).table Member) ≡ true) refl refl std
  ends_at MemRest = by_edition (λ s. list_all (row_ends MemRest) ((iso s).table MemRest) ≡ true) refl refl std
  ends_at Mdecl = refl
  ends_at EnumSpec = refl
  ends_at EnRest = refl
  ends_at Enumerators = refl
  ends_at Enumerator = refl
  ends_at Declarator = refl
  ends_at Pointer = refl
  ends_at Direct = refl
  ends_at Suffix = refl
  ends_at Bound = refl
  ends_at Params = refl
  ends_at Param = refl
  ends_at Pdecl = refl
  ends_at Pdirect = refl
  ends_at TypeName = refl
  ends_at Adecl = refl
  ends_at Adirect = refl
  ends_at Init = refl
  ends_at InitList = refl
  ends_at InitItem = refl
  ends_at Designator = refl
  ends_at Expr = refl
  ends_at Assign = refl
  ends_at Asgop = refl
  ends_at Cond = refl
  ends_at Lor = refl
  ends_at Land = refl
  ends_at Bor = refl
  ends_at Bxor = refl
  ends_at Band = refl
  ends_at Equal = refl
  ends_at Relate = refl
  ends_at Shift = refl
  ends_at Add = refl
  ends_at Mul = refl
  ends_at Cast = refl
  ends_at CastRest = refl
  ends_at Unary = refl
  ends_at SizeRest = refl
  ends_at SizeLit = refl
  ends_at Primary = refl
  ends_at Post = refl
  ends_at Args = refl
  ends_at Block = refl
  ends_at BlockItem = refl
  ends_at Statement = refl
  ends_at Sub = refl
  ends_at ForInit = refl
  ends_at AutoDecl = refl
  ends_at Attr = refl
  ends_at AttrItem = refl
  ends_at AttrWord = refl
  ends_at AsmName = refl
  ends_at Operand = refl
  ends_at Association = refl
  ends_at MemberPath = refl
  ends_at AsmPart = refl
  ends_at AsmOperand = refl

-- ---- Classes

same_slash : (d : Class) → is_same d Slash ≡ true → d ≡ Slash
same_slash Slash e = refl
same_slash _ e = absurd (false≢true e)

same_paren : (d : Class) → is_same d LeftParen ≡ true → d ≡ LeftParen
same_paren LeftParen e = refl
same_paren _ e = absurd (false≢true e)

same_hash : (d : Class) → is_same d Hash ≡ true → d ≡ Hash
same_hash Hash e = refl
same_hash _ e = absurd (false≢true e)

not_both : (b : Bool) → not b ≡ true → b ≡ true → ⊥
not_both true e h = false≢true e
not_both false e h = false≢true h

module _ (g : Grammar) (toks : List Token) where
  not_in : (c : Class) → is_identifier c ≡ false → ((d : Class) → is_same d c ≡ true → d ≡ c) → (classes : List Class) (i : ℕ) → not (among classes c) ≡ true → HasClass g toks classes i → IsNot g toks c i
  not_in c no_name same classes i free has = not_so (is_same (base_at g toks i) c) (λ h. not_both (among classes c) free (has c no_name (same (base_at g toks i) h)))

  -- ---- The last of some children

  abbrev SignOk : Sign → Type 0
  SignOk (a_token i) = MayEnd g toks i
  SignOk a_node = Unit {0}

  abbrev LastOk : List Sign → Type 0
  LastOk [] = Unit {0}
  LastOk (c ∷ []) = SignOk c
  LastOk (c ∷ (d ∷ w)) = LastOk (d ∷ w)

  last_behind : (c : Sign) (w : List Sign) → LastOk w → (w ≡ [] → SignOk c) → LastOk (c ∷ w)
  last_behind c [] h k = k refl
  last_behind c (d ∷ w) h k = h

  end_nil : (w : List Sign) → w ++ [] ≡ w
  end_nil [] = refl
  end_nil (c ∷ w) = ap (λ (v : List Sign). c ∷ v) (end_nil w)

  behind_some : (xs : List Sign) (d : Sign) (ys : List Sign) → LastOk (d ∷ ys) → LastOk (xs ++ d ∷ ys)
  behind_some [] d ys h = h
  behind_some (c ∷ []) d ys h = h
  behind_some (c ∷ (e ∷ xs)) d ys h = behind_some (e ∷ xs) d ys h

  last_append : (xs ys : List Sign) → LastOk ys → (ys ≡ [] → LastOk xs) → LastOk (xs ++ ys)
  last_append xs [] h k = subst LastOk (sym (end_nil xs)) (k refl)
  last_append xs (d ∷ ys) h k = behind_some xs d ys h

  both_none : (xs ys : List Sign) → xs ++ ys ≡ [] → (xs ≡ []) × (ys ≡ [])
  both_none [] ys e = (refl, e)
  both_none (x ∷ xs) ys e = absurd (cc)

  none_can : (a : Item) (w : List Sign) → AreOfClasses g toks a w → w ≡ [] → can_none a ≡ true
  none_can (one classes) w (i, h, has) e = let no_ : a_token i ∷ [] ≡ [] = sym h ∙ e in absurd (cc)
  none_can (part p) w h e = let no_ : a_node ∷ [] ≡ [] = sym h ∙ e in absurd (cc)
  none_can end_of_text w h e = refl
  none_can (act a) w h e = refl
  none_can (a · b) w (xs, ys, all, x, y) e = let two = both_none xs ys (sym all ∙ e) in and_from (can_none a) (can_none b) (none_can a xs x two.0) (none_can b ys y two.1)
  none_can (choice a b) w (inl h) e = or_left (can_none a) (can_none b) (none_can a w h e)
  none_can (choice a b) w (inr h) e = or_right (can_none a) (can_none b) (none_can b w h e)
  none_can (maybe a) w h e = refl
  none_can (many t a) w h e = refl
  none_can (deep a) w h e = none_can a w h e

  times_last : (P : List Sign → Type 0) → ((w : List Sign) → P w → LastOk w) → (n : ℕ) (w : List Sign) → AreTimes P n w → LastOk w
  times_last P each zero w e = subst LastOk (sym e) tt
  times_last P each (suc n) w (xs, ys, all, x, more) = subst LastOk (sym all) (last_append xs ys (times_last P each n ys more) (λ e. each xs x))

  item_last : (a : Item) → ends_ok a ≡ true → (w : List Sign) → AreOfClasses g toks a w → LastOk w
  item_last (one classes) ok w (i, e, has) =
      let two = and_parts (not (among classes Slash)) (not (among classes LeftParen)) ok in
      subst LastOk (sym e) (not_in Slash refl same_slash classes i two.0 has, not_in LeftParen refl same_paren classes i two.1 has)
  item_last (part p) ok w e = subst LastOk (sym e) tt
  item_last end_of_text ok w e = subst LastOk (sym e) tt
  item_last (act a) ok w e = subst LastOk (sym e) tt
  item_last (a · b) ok w (xs, ys, all, x, y) =
      let two = and_parts (ends_ok b) (not (can_none b) || ends_ok a) ok in
      subst LastOk (sym all) (last_append xs ys (item_last b two.0 ys y) (λ e. item_last a (implied (can_none b) (ends_ok a) two.1 (none_can b ys y e)) xs x))
  item_last (choice a b) ok w (inl x) = item_last a (and_parts (ends_ok a) (ends_ok b) ok).0 w x
  item_last (choice a b) ok w (inr x) = item_last b (and_parts (ends_ok a) (ends_ok b) ok).1 w x
  item_last (maybe a) ok w (inl x) = item_last a ok w x
  item_last (maybe a) ok w (inr e) = subst LastOk (sym e) tt
  item_last (many t a) ok w (n, x) = times_last (AreOfClasses g toks a) (λ v y. item_last a ok v y) n w x
  item_last (deep a) ok w x = item_last a ok w x

  -- ---- No `#`

  abbrev NoHash : List Sign → Type 0
  NoHash [] = Unit {0}
  NoHash (a_token i ∷ w) = IsNot g toks Hash i × NoHash w
  NoHash (a_node ∷ w) = NoHash w

  hash_append : (xs ys : List Sign) → NoHash xs → NoHash ys → NoHash (xs ++ ys)
  hash_append [] ys h k = k
  hash_append (a_token i ∷ xs) ys h k = (h.0, hash_append xs ys h.1 k)
  hash_append (a_node ∷ xs) ys h k = hash_append xs ys h k

  times_hash : (P : List Sign → Type 0) → ((w : List Sign) → P w → NoHash w) → (n : ℕ) (w : List Sign) → AreTimes P n w → NoHash w
  times_hash P each zero w e = subst NoHash (sym e) tt
  times_hash P each (suc n) w (xs, ys, all, x, more) = subst NoHash (sym all) (hash_append xs ys (each xs x) (times_hash P each n ys more))

  item_hash : (a : Item) → no_hash a ≡ true → (w : List Sign) → AreOfClasses g toks a w → NoHash w
  item_hash (one classes) ok w (i, e, has) = subst NoHash (sym e) (not_in Hash refl same_hash classes i ok has, tt)
  item_hash (part p) ok w e = subst NoHash (sym e) tt
  item_hash end_of_text ok w e = subst NoHash (sym e) tt
  item_hash (act a) ok w e = subst NoHash (sym e) tt
  item_hash (a · b) ok w (xs, ys, all, x, y) =
      let two = and_parts (no_hash a) (no_hash b) ok in subst NoHash (sym all) (hash_append xs ys (item_hash a two.0 xs x) (item_hash b two.1 ys y))
  item_hash (choice a b) ok w (inl x) = item_hash a (and_parts (no_hash a) (no_hash b) ok).0 w x
  item_hash (choice a b) ok w (inr x) = item_hash b (and_parts (no_hash a) (no_hash b) ok).1 w x
  item_hash (maybe a) ok w (inl x) = item_hash a ok w x
  item_hash (maybe a) ok w (inr e) = subst NoHash (sym e) tt
  item_hash (many t a) ok w (n, x) = times_hash (AreOfClasses g toks a) (λ v y. item_hash a ok v y) n w x
  item_hash (deep a) ok w x = item_hash a ok w x

-- ---- Nodes

module _ (s : Edition) (toks : List Token) where
  abbrev g : Grammar
  g = iso s

  node_row : (l : Label) (under : Forest) (x : IsOfClasses g toks l under) → row_ends l.production x.alternative ≡ true
  node_row l under x = table_row row_ends l.production (g.table l.production) x.number x.alternative (ends_at s l.production) x.is_one

  node_last : (l : Label) (under : Forest) → IsOfClasses g toks l under → LastOk g toks (signs under)
  node_last l under x = item_last g toks x.alternative.body (and_parts (ends_ok x.alternative.body) (no_hash x.alternative.body) (node_row l under x)).0 (signs under) x.own

  node_hash : (l : Label) (under : Forest) → IsOfClasses g toks l under → NoHash g toks (signs under)
  node_hash l under x = item_hash g toks x.alternative.body (and_parts (ends_ok x.alternative.body) (no_hash x.alternative.body) (node_row l under x)).1 (signs under) x.own

  -- the last token of some children
  last_deep : (f : Forest) (k : ℕ) → EachNode (IsOfClasses g toks) f → EachNode (IsOfAlternative g) f → EachNode IsInner f → LastOk g toks (signs f) → (f ≡ none → ⊥) → MayEnd g toks (last_token f k)
  last_deep none k each of inner last some = absurd (some refl)
  last_deep (token i none) k each of inner last some = last
  last_deep (token i (token j rest)) k each of inner last some = last_deep (token j rest) i each of inner last (λ e. absurd (cc))
  last_deep (token i (node m first under rest)) k each of inner last some = last_deep (node m first under rest) i each of inner last (λ e. absurd (cc))
  last_deep (node l second below none) k each of inner last some =
      last_deep below k each.1 of.1 inner.1 (node_last l below each.0) (node_some s l below of.0 inner.0)
  last_deep (node l second below (token j rest)) k each of inner last some = last_deep (token j rest) (last_token below k) each.2 of.2 inner.2 last (λ e. absurd (cc))
  last_deep (node l second below (node m first under rest)) k each of inner last some =
      last_deep (node m first under rest) (last_token below k) each.2 of.2 inner.2 last (λ e. absurd (cc))

  end_well : (f : Forest) → EachNode (IsOfClasses g toks) f → EachNode (IsOfAlternative g) f → EachNode IsInner f → EndWell g toks f
  end_well none each of inner = tt
  end_well (token i rest) each of inner = end_well rest each of inner
  end_well (node m first under rest) each of inner =
      let some = node_some s m under of.0 inner.0 in
      ((some_tokens s under of.1 inner.1 some, last_deep under 0 each.1 of.1 inner.1 (node_last m under each.0) some), end_well rest each.2 of.2 inner.2)

  items_inner : (q : Production) → (ghosts.eq q Args || ghosts.eq q Params) ≡ true → has_no_declaring q ≡ true
  items_inner Args e = refl
  items_inner Params e = refl
  items_inner _ e = absurd (false≢true e)

  each_ends : (f : Forest) → EachNode (IsOfClasses g toks) f → EachNode (IsOfAlternative g) f → EachNode (ItemsEndWell g toks) f
  each_ends none each of = tt
  each_ends (token i rest) each of = each_ends rest each of
  each_ends (node m first under rest) each of = (
    λ items. let x = of.0 in end_well under each.1 of.1 (x.inner (items_inner m.production items)),
    each_ends under each.1 of.1,
    each_ends rest each.2 of.2,
  )

  -- ---- All tokens

  abbrev OwnFree : Forest → Type 0
  OwnFree none = Unit {0}
  OwnFree (token i rest) = IsNot g toks Hash i × OwnFree rest
  OwnFree (node m first under rest) = OwnFree rest

  own_free : (f : Forest) → NoHash g toks (signs f) → OwnFree f
  own_free none h = tt
  own_free (token i rest) h = (h.0, own_free rest h.1)
  own_free (node m first under rest) h = own_free rest h

  before_or_behind : (t n : ℕ) → (t < n) ⊎ (n ≤ t)
  before_or_behind t n = elim (cases_Bool (nat_lt t n)) [ inl yes_ ↦ inl (ltb-true t n yes_) | inr no_ ↦ inr (ltb-false t n no_) ]

  all_free : (f : Forest) (a k : ℕ) → AreFrom a f → EachNode (IsOfClasses g toks) f → OwnFree f → a ≤ k → k < a + token_count f → IsNot g toks Hash k
  all_free none a k w each own_ low high = absurd (omega (arith, low, high))
  all_free (token i rest) a k w each own_ low high = elim (before_or_behind a k) [
    | inl behind ↦ all_free rest (a + 1) k w.1 each own_.1 (omega (arith, behind)) (omega (arith, high))
    | inr here ↦ let same : i ≡ k = omega (arith, w.0, low, here) in subst (IsNot g toks Hash) same own_.0
  ]
  all_free (node m first under rest) a k w each own_ low high = elim (before_or_behind k (a + token_count under)) [
    | inl below ↦ all_free under a k w.1 each.1 (own_free under (node_hash m under each.0)) low below
    | inr behind ↦ all_free rest (a + token_count under) k w.2 each.2 own_ behind (omega (arith, high))
  ]

  -- a unit has no token of its own
  abbrev no_tokens : List Child → Bool
  no_tokens [] = true
  no_tokens (plainly.a_token ∷ w) = false
  no_tokens (plainly.a_node q ∷ w) = no_tokens w

  times_free : (n : ℕ) (w : List Child) → plainly.AreTimes (plainly.AreOfItem (part External)) n w → no_tokens w ≡ true
  times_free zero w e = subst (λ (v : List Child). no_tokens v ≡ true) (sym e) refl
  times_free (suc n) w (xs, ys, all, (q, one_, stands), more) =
      subst (λ (v : List Child). no_tokens v ≡ true) (sym (all ∙ ap (λ (v : List Child). v ++ ys) one_)) (times_free n ys more)

  unit_row : (n : ℕ) (a : Alternative) → slice_get (g.table TranslationUnit) n ≡ Some a → a ≡ plain (many own (part External) · end_of_text)
  unit_row zero a e = sym (same_Some (plain (many own (part External) · end_of_text)) a e)
  unit_row (suc n) a e = absurd (cc)

  nil_end : (w : List Child) → w ++ [] ≡ w
  nil_end [] = refl
  nil_end (c ∷ w) = ap (λ (v : List Child). c ∷ v) (nil_end w)

  unit_free : (l : Label) (under : Forest) → IsOfAlternative g l under → l.production ≡ TranslationUnit → no_tokens (children under) ≡ true
  unit_free l under x named =
      by (subst (λ (b : Alternative). plainly.AreOfItem b.body (children under))
      (unit_row x.number x.alternative (ap (λ (q : Production). slice_get (g.table q) x.number) (sym named) ∙ x.is_one)) x.own)
    where
      by : plainly.AreOfItem (many own (part External) · end_of_text) (children under) → no_tokens (children under) ≡ true
      by (xs, ys, all, (n, times), ends) =
          subst (λ (v : List Child). no_tokens v ≡ true) (sym (all ∙ (ap (λ (v : List Child). xs ++ v) ends ∙ nil_end xs))) (times_free n xs times)

  none_own : (f : Forest) → no_tokens (children f) ≡ true → OwnFree f
  none_own none h = tt
  none_own (token i rest) h = absurd (false≢true h)
  none_own (node m first under rest) h = none_own rest h

pub tokens_may_stand : TokensMayStand
tokens_may_stand s toks tree reads =
    let text : IsTreeOf (length toks) tree = trees_of_texts s toks tree reads in
    let classes = tokens_of_classes s toks tree reads in
    let unit = children_of_alternatives s toks tree reads in
    let of = unit.1 in (
      λ k low. all_free s toks tree.under 0 k text.tokens classes (none_own s toks tree.under (unit_free s toks tree.label tree.under of.0 unit.0)) (omega arith) (omega (arith, low, text.all)),
      each_ends s toks tree.under classes of.1,
    )
