-- The steps of the tests over two texts whose lists are in two orders.
use Rattle.std.proofs.Common.{ℕ, ◌+◌, ◌≡◌, Bool, true, false, ◌&&◌, ◌||◌, not, if◌then◌else◌, ◌==◌, List, [], ◌++◌, length, ◌⊎◌, inl, inr, refl, sym, ap, subst, ◌∙◌, arith}
use Rattle.std.specs.List.{All, list_all}
use Rattle.std.proofs.lemmas.Bool.{false≢true, and_parts, ltb-true}
use Rattle.std.proofs.lemmas.List.Elements.{All-nil, All-cons}
use Rattle.c99_grammar.specs.declared.dialects.Edition.{Edition}
use Rattle.cs_base.specs.Token.{Token}
use Rattle.c99_tree.specs.Tree.{Forest, none, token, node, Node, node_of}
use Rattle.c99_tree.specs.declared.production.Label.{Label}
use Rattle.c99_tree.specs.declared.production.Production.{Production}
use Rattle.c99_tree.specs.declared.production.Production.TheVariants.{FunBody, Pdirect, Args, Params, Post, Suffix}
use Rattle.c99_tree.specs.contracts.production.ProductionPartialEq.TheImpl.{ghosts}
use Rattle.c99_grammar.specs.Standard.{iso}
use Rattle.c99_read.specs.State.{base_at, is_identifier}
use Rattle.c_types.specs.Trees.{is_at, first_token}
use Rattle.c_types.specs.Parameters.{ends_in_token}
use Rattle.name_chains.specs.Entering.{scope_in}
use Rattle.scope_bind.specs.Named.{Scope}
use Rattle.tree_laws.specs.TreesOfTexts.{token_count, AreFrom, has_body, has_form, have_forms}
use Rattle.list_cuts.specs.Cuts.{done, IsOrder, AreOf, AreItemsOf}
use Rattle.tree_laws.proofs.Outline.{Entry, Outline, added, is_listing, stepped, begun, token_agrees, node_agrees}
use Rattle.reordered_tree_laws.specs.Reordered.{nodes_in, is_parenthesised, is_among, permuted, numbered}
use Rattle.reordered_tree_laws.specs.Cuts.{cut_then, items_in}
use Rattle.reordered_tree_laws.specs.Premises.{is_items, is_item_production, is_item}
use Rattle.scope_bind.specs.Moved.{AreMovedTexts}
use Rattle.reordered_tree_laws.proofs.SameForms.{same-cut, same-numbered}
use Rattle.reordered_tree_laws.proofs.MovedHeads.{lowest_stays}
use Rattle.reordered_tree_laws.proofs.MovedWalk.{from_numbered}
use Rattle.reordered_tree_laws.specs.BareNames.{is_opened, HasBareName, HaveBareNames}
use Rattle.reordered_tree_laws.proofs.Answered.{open_at}
use Rattle.reordered_tree_laws.proofs.OutlineSteps.{OutlinesGo}
use Rattle.reordered_tree_laws.proofs.Longer.{lengthened, IsPlain}
use Rattle.reordered_tree_laws.proofs.Within.{IsBodiless, same_in}
use Rattle.reordered_tree_laws.proofs.Placing.{under_of}
use Rattle.reordered_tree_laws.proofs.Ready.{IsReady, IsReadyNode, IsAnItem, an_item, item_bodiless, ready_token}
use Rattle.reordered_tree_laws.proofs.NamesGo.{items_scope, listed_in}
use Rattle.reordered_tree_laws.proofs.Tested.{is_tested, Tested, TestedNode, opened_count, tested_within}
use Rattle.reordered_tree_laws.proofs.AgreeingLemmas.{SeenAlike, seen_more, token_same, node_same, HasOwnTests}

-- a list's items in the outline of its node
pub list_begun : (i first : ℕ) (q : Label) (u : Forest) (o : Outline) → (ghosts.eq q.production Args || (ghosts.eq q.production Params && not (q.alternative == 1))) ≡ true
    → is_listing o.label.production o.label.alternative o.nth ≡ false → ghosts.eq q.production FunBody ≡ false
    → begun q first u (stepped i o) ≡ lengthened o.entries (listed_in q o)
list_begun i first q u o items unlisted body =
    let o1 : Outline = stepped i o in
    ap (λ (es : List Entry). record (begun q first u o1) { entries = es })
    (same_in q.production first u o1.kept o1.scope.depth o1.entries body ∙ ap (λ c. if c then added o i false i o.entries else o.entries) unlisted)
    ∙ ap (λ (x : Scope). record (listed_in q o) { entries = o.entries; scope = x }) (items_scope q.production q.alternative q u o.scope items)

-- ---- Tested tokens of nodes

module _ (s : Edition) (toks : List Token) where
  pub tested_nodes : (P : ℕ → Type 0) (u : Forest) (l : Label) (k : ℕ) → Tested s toks P l k u → All (TestedNode s toks P) (nodes_in u)
  tested_nodes P none l k t = All-nil (TestedNode s toks P)
  tested_nodes P (token i rest) l k t = tested_nodes P rest l (k + 1) t.1
  tested_nodes P (node x first under rest) l k t =
      All-cons (TestedNode s toks P) (node_of x first under) (nodes_in rest) (t.0, t.1) (tested_nodes P rest l (k + 1) t.2)

module _ (m : ℕ → ℕ) (old new : List Token) (law : AreMovedTexts m old new) (order : List ℕ) (lists : ℕ → Bool) (is : IsOrder (length order) order) (s : Edition) where
  pub own_items : (u : Forest) (lo : ℕ) → AreFrom lo u → HaveBareNames s old u → All (HasOwnTests m old new law order lists is s) (nodes_in u)
  own_items none lo a h = All-nil (HasOwnTests m old new law order lists is s)
  own_items (token i rest) lo a h = own_items rest (lo + 1) a.1 h
  own_items (node x first under rest) lo a h =
      let from : AreFrom first under = subst (λ (n : ℕ). AreFrom n under) (sym a.0) a.1 in
      All-cons (HasOwnTests m old new law order lists is s) (node_of x first under) (nodes_in rest) (
        λ e w. (let two = opened_count s old under (h.0 e).opened in (omega arith, omega (arith, two))),
        tested_within s old under first x 0 from h.1,
      ) (own_items rest (lo + token_count under) a.2 h.2)

  -- what an item is by itself
  pub record IsStaticItem (n : Node) : Type 0 where
    pub production : is_item_production n.label.production ≡ true
    pub start : AreFrom n.first n.under
    pub cut : AreOf (length order) (cut_then lists (is_among lists n.label n.under) n.under done)
    pub bodiless : (k : ℕ) → IsBodiless k (numbered k (under_of m old new law order lists n))

  pub static_items : (u : Forest) (lo : ℕ) → AreFrom lo u → have_forms u ≡ true → AreItemsOf (length order) (items_in lists u) → list_all is_item (nodes_in u) ≡ true
      → All IsStaticItem (nodes_in u)
  static_items none lo a forms cut e = All-nil IsStaticItem
  static_items (token i rest) lo a forms cut e = static_items rest (lo + 1) a.1 forms cut e
  static_items (node x first under rest) lo a forms cut e =
      let n : Node = node_of x first under in
      let p = and_parts (is_item n) (list_all is_item (nodes_in rest)) e in
      let item : IsAnItem n = an_item n p.0 in
      let f = and_parts (have_forms under) (have_forms rest) ((and_parts (has_form x.production under) (have_forms under && have_forms rest) forms).1) in
      let from : AreFrom first under = subst (λ (k : ℕ). AreFrom k under) (sym a.0) a.1 in
      let sub : IsBodiless first under = item_bodiless n first item from f.0 in
      let b : Bool = is_among lists x under in
      let same = same-cut order lists is b under done cut.0 in
      All-cons IsStaticItem n (nodes_in rest)
      (record {
        production = item.production;
        start = from;
        cut = cut.0;
        bodiless = λ k. record {
          from = from_numbered (permuted order lists b under) k;
          forms = (same-numbered k (permuted order lists b under)).forms ∙ (same.forms ∙ sub.forms);
          plain = (same-numbered k (permuted order lists b under)).bodies ∙ (same.bodies ∙ sub.plain);
        };
      })
      (static_items rest (lo + token_count under) a.2 f.1 cut.1 p.1)

  -- ---- Nothing behind, or no body

  abbrev pub IsPlainBoth : Forest → List Entry → List Entry → Type 0
  IsPlainBoth f xs ys = (has_body f ≡ false) ⊎ ((xs ≡ []) × (ys ≡ []))

  pub plain_old : (f : Forest) (xs ys : List Entry) → IsPlainBoth f xs ys → IsPlain f xs
  plain_old f xs ys (inl e) = inl e
  plain_old f xs ys (inr e) = inr e.0

  pub plain_new : (f : Forest) (there : ℕ) (xs ys : List Entry) → AreOf (length order) (cut_then lists false f done) → IsPlainBoth f xs ys
      → IsPlain (numbered there (permuted order lists false f)) ys
  plain_new f there xs ys cut (inl e) = inl ((same-numbered there (permuted order lists false f)).bodies ∙ ((same-cut order lists is false f done cut).bodies ∙ e))
  plain_new f there xs ys cut (inr e) = inr e.1

  -- ---- The second token

  no_list : (p : Production) (a : ℕ) → (ghosts.eq p Pdirect && (a == 2)) ≡ true → ((ghosts.eq p Post && (a == 2)) || (ghosts.eq p Suffix && (a == 2))) ≡ false
  no_list Pdirect a e = refl
  no_list _ a e = absurd (false≢true e)

  no_more : (x y : Bool) → x ≡ false → (x && y) ≡ false
  no_more false y e = refl
  no_more true y e = absurd (false≢true (sym e))

  second_by : (under : Forest) (l : Label) (scope : Scope) (keeps : Bool) (lo there : ℕ) → IsReady m old new law order lists false l false 0 scope keeps lo there under
      → is_opened under ≡ true → m (lo + 1) ≡ there + 1
  second_by none l scope keeps lo there r e = absurd (false≢true e)
  second_by (node x first under rest) l scope keeps lo there r e = absurd (false≢true e)
  second_by (token i rest) l scope keeps lo there r e =
      let t = ready_token m old new law order lists l false 0 scope keeps lo there i rest r in
      lowest_stays order lists is m rest (lo + 1) (there + 1) l (not (is_items l)) (0 + 1) scope keeps t.from t.to t.fit t.cut (ltb-true 0 (token_count rest) e)

  pub second_moved : (l0 : Label) (own : Bool) (k : ℕ) (scope : Scope) (keeps : Bool) (lo there : ℕ) (l : Label) (under : Forest)
      → IsReadyNode m old new law order lists l0 own k scope keeps lo there l under → is_at l Pdirect 2 ≡ true → is_opened under ≡ true → m (lo + 1) ≡ there + 1
  second_moved l0 own k scope keeps lo there l under r e opened =
      let none : is_among lists l under ≡ false =
      no_more (is_parenthesised l) (lists (first_token under 0) && ends_in_token false under) (no_list l.production l.alternative e) in
      second_by under l (scope_in l.production l under scope) keeps lo there
      (subst (λ (b : Bool). IsReady m old new law order lists b l false 0 (scope_in l.production l under scope) keeps lo there under) none r.below) opened

  -- ---- Tests

  module _ (base : (k : ℕ) → base_at (iso s) new (m k) ≡ base_at (iso s) old k) where
    abbrev Seen : List Entry → List Entry → ℕ → Type 0
    Seen es fs i = SeenAlike m old new law order lists is s es fs i

    -- a token is tested alike
    pub token_tests : (level : ℕ) (keeps : Bool) (lo there i : ℕ) (o p : Outline) (xs ys : List Entry) → i ≡ lo → m i ≡ there
        → OutlinesGo m old new law level keeps lo there o p → (is_tested o.label.production o.label.alternative o.nth ≡ true → Seen xs ys i)
        → token_agrees s new p.label.production p.label.alternative p.nth there (p.entries ++ ys)
        ≡ token_agrees s old o.label.production o.label.alternative o.nth i (o.entries ++ xs)
    token_tests level keeps lo there i o p xs ys here over k f =
        ap (λ (l : Label). token_agrees s new l.production l.alternative p.nth there (p.entries ++ ys)) k.label
        ∙ (ap (λ (n : ℕ). token_agrees s new o.label.production o.label.alternative n there (p.entries ++ ys)) k.nth
        ∙ token_same m old new law order lists is s o.label.production o.label.alternative o.nth i there (o.entries ++ xs) (p.entries ++ ys) over
        (λ e. seen_more m old new law order lists is s o.entries p.entries xs ys i (k.entries i (open_at i) (inl (omega (arith, here), omega (arith, over)))) (f e)))

    -- so is a node
    pub node_tests : (level : ℕ) (keeps own : Bool) (n lo there : ℕ) (l : Label) (under : Forest) (o p : Outline) (xs ys : List Entry)
        → OutlinesGo m old new law level keeps lo there o p → IsReadyNode m old new law order lists o.label own n o.scope keeps lo there l under
        → (is_at l Pdirect 2 ≡ true → HasBareName s old lo under)
        → (is_at l Pdirect 2 ≡ true → is_identifier (base_at (iso s) old (lo + 1)) ≡ true → Seen xs ys (lo + 1))
        → node_agrees s new l there (p.entries ++ ys) ≡ node_agrees s old l lo (o.entries ++ xs)
    node_tests level keeps own n lo there l under o p xs ys k r has f =
        node_same m old new law order lists is s base l lo there (o.entries ++ xs) (p.entries ++ ys)
        (λ e. second_moved o.label own n o.scope keeps lo there l under r e (has e).opened)
        (λ e w.
        let at : m (lo + 1) ≡ there + 1 = second_moved o.label own n o.scope keeps lo there l under r e (has e).opened in
        seen_more m old new law order lists is s o.entries p.entries xs ys (lo + 1) (k.entries (lo + 1) (open_at (lo + 1)) (inl (omega arith, omega (arith, at)))) (f e w))
