-- Names that agree with a tree agree with it in a new order of its lists.
use Rattle.std.proofs.Common.{ℕ, ◌+◌, ◌≡◌, Bool, true, false, ◌&&◌, ◌||◌, not, if◌then◌else◌, ◌==◌, List, [], ◌∷◌, ◌++◌, length, None, inl, refl, sym, ap, subst, ◌∙◌, arith}
use Rattle.std.specs.List.{All}
use Rattle.std.proofs.lemmas.Bool.{false≢true, and_parts, and_from}
use Rattle.std.proofs.lemmas.List.Elements.{All-nil, All-cons}
use Rattle.std.proofs.lemmas.List.Sorted.{All-permutation}
use Rattle.c99_grammar.specs.declared.dialects.Edition.{Edition}
use Rattle.cs_base.specs.Token.{Token}
use Rattle.c99_tree.specs.Tree.{Forest, none, token, node, Node}
use Rattle.c99_tree.specs.declared.production.Label.{Label}
use Rattle.c99_tree.specs.declared.production.Production.{Production}
use Rattle.c99_tree.specs.declared.production.Production.TheVariants.{FunBody, Pdirect, Args, Params}
use Rattle.c99_tree.specs.contracts.production.ProductionPartialEq.TheImpl.{ghosts}
use Rattle.c99_grammar.specs.Standard.{iso}
use Rattle.c99_read.specs.State.{base_at, is_identifier}
use Rattle.scope_bind.specs.Named.{Scope}
use Rattle.tree_laws.specs.TreesOfTexts.{token_count}
use Rattle.list_cuts.specs.Cuts.{done, IsOrder}
use Rattle.tree_laws.proofs.Outline.{Entry, Outline, stepped, begun, ended, outlined, typedef_among, token_agrees, node_agrees, all_agree}
use Rattle.reordered_tree_laws.specs.Reordered.{nodes_in, shuffled, is_parenthesised, permuted, numbered}
use Rattle.reordered_tree_laws.specs.Cuts.{cut_then}
use Rattle.reordered_tree_laws.specs.Premises.{is_items}
use Rattle.scope_bind.specs.Moved.{AreMovedTexts}
use Rattle.reordered_tree_laws.specs.Moving.{AreMovedTo}
use Rattle.reordered_tree_laws.proofs.MovedTrees.{AreSpans}
use Rattle.reordered_tree_laws.proofs.MovedOrders.{spans_permuted}
use Rattle.reordered_tree_laws.specs.BareNames.{HaveBareNames}
use Rattle.reordered_tree_laws.proofs.Answered.{open_at, kind_among, none_go}
use Rattle.reordered_tree_laws.proofs.OutlineSteps.{OutlinesGo}
use Rattle.reordered_tree_laws.proofs.Longer.{lengthened}
use Rattle.reordered_tree_laws.proofs.Answering.{IsOldItem}
use Rattle.reordered_tree_laws.proofs.Placing.{IsCounted, IsShuffled, list_shuffled, ItemGoes}
use Rattle.reordered_tree_laws.proofs.Ready.{IsReady, IsReadyNode, IsReadyList, are_items, items_plain, old_items, are_pairs, counted_items}
use Rattle.reordered_tree_laws.proofs.NamesGo.{unlisted, items_body, listed_in}
use Rattle.reordered_tree_laws.proofs.Tested.{Tested, TestedNode, tested_both, tested_within, IsIn}
use Rattle.reordered_tree_laws.proofs.Unseen.{all_imp, all_both, tested_all, bare_nodes, pairs_clear, each_clear, IsSameOrClear}
use Rattle.reordered_tree_laws.proofs.AgreeingLemmas.{list_test, SeenAlike, seen_more, IsUnseenOld, HasOwnTests, AgreesOld, old_pass}
use Rattle.reordered_tree_laws.proofs.AgreeingNew.{ItemAgrees, IsFine, IsUnseenNew, new_pass}
use Rattle.reordered_tree_laws.proofs.AgreeSteps.{list_begun, tested_nodes, own_items, IsStaticItem, static_items, IsPlainBoth}

-- the node in the parentheses of a list is not tested
no_direct : (p : Production) (a : ℕ) → (ghosts.eq p Args || (ghosts.eq p Params && not (a == 1))) ≡ true → (ghosts.eq p Pdirect && (a == 2)) ≡ false
no_direct Args a e = refl
no_direct Params a e = refl
no_direct _ a e = absurd (false≢true e)

items_node : (s : Edition) (toks : List Token) (q : Label) (first : ℕ) (es : List Entry) → is_items q ≡ true → node_agrees s toks q first es ≡ true
items_node s toks q first es e =
    ap (λ c. if c then not (is_identifier (base_at (iso s) toks (first + 1))) || not (typedef_among s toks (first + 1) es) else true) (no_direct q.production q.alternative e)

module _ (m : ℕ → ℕ) (old new : List Token) (law : AreMovedTexts m old new) (order : List ℕ) (lists : ℕ → Bool) (is : IsOrder (length order) order) (s : Edition)
    (base : (k : ℕ) → base_at (iso s) new (m k) ≡ base_at (iso s) old k) where
  abbrev Along : ℕ → Bool → ℕ → ℕ → Outline → Outline → Type 0
  Along level keeps lo there o p = OutlinesGo m old new law level keeps lo there o p

  abbrev Ready : Bool → Label → Bool → ℕ → Scope → Bool → ℕ → ℕ → Forest → Type 0
  Ready b l own k scope keeps lo there f = IsReady m old new law order lists b l own k scope keeps lo there f

  abbrev ReadyNode : Label → Bool → ℕ → Scope → Bool → ℕ → ℕ → Label → Forest → Type 0
  ReadyNode l own k scope keeps lo there x under = IsReadyNode m old new law order lists l own k scope keeps lo there x under

  abbrev Seen : List Entry → List Entry → ℕ → Type 0
  Seen xs ys i = SeenAlike m old new law order lists is s xs ys i

  abbrev Plain : Forest → List Entry → List Entry → Type 0
  Plain f xs ys = IsPlainBoth m old new law order lists is s f xs ys

  -- with nothing known, asked at another depth
  pub emptied : (level other : ℕ) (keeps : Bool) (lo there : ℕ) (o p : Outline) → Along level keeps lo there o p
      → Along other keeps lo there (record o { entries = [] }) (record p { entries = [] })
  emptied level other keeps lo there o p k = record {
    label = k.label;
    nth = k.nth;
    scope = record { depth = k.scope.depth; ends = k.scope.ends; outer = k.scope.outer };
    typedef = k.typedef;
    kept = k.kept;
    entries = none_go m old new law other lo there;
  }

  -- ---- A list, where its items agree by themselves

  module _ (level : ℕ) (keeps : Bool) (lo there i : ℕ) (q : Label) (first : ℕ) (u : Forest) (j : ℕ) (o p : Outline) (along : Along level keeps lo there o p)
      (r : Ready true o.label false 0 o.scope keeps lo there (token i (node q first u (token j none)))) (paren : is_parenthesised o.label ≡ true)
      (w : IsReadyList m old new law order lists q o.scope keeps (lo + 1) u) (xs ys : List Entry) (have : HaveBareNames s old u) where
    abbrev b : Outline
    b = listed_in q o

    abbrev c : Outline
    c = listed_in q p

    abbrev zs : List Entry
    zs = o.entries ++ xs

    abbrev ws : List Entry
    ws = p.entries ++ ys

    abbrev end : ℕ
    end = lo + 1 + token_count u

    abbrev ns : List Node
    ns = nodes_in u

    abbrev shuf : Forest
    shuf = shuffled order (permuted order lists false u)

    spans : AreSpans m lo there (token_count u + (0 + 1) + 1)
    spans = spans_permuted m old new law order lists is true (token i (node q first u (token j none))) lo there r.cut r.from r.to

    own_all : All (HasOwnTests m old new law order lists is s) ns
    own_all = own_items m old new law order lists is s u (lo + 1) w.inside.from have

    -- what is known in front of the list is seen alike in it
    seen_all : Tested s old (Seen xs ys) q 0 u → All (TestedNode s old (Seen zs ws)) ns
    seen_all t =
        tested_nodes s old (Seen zs ws) u q 0
        (tested_both s old (Seen xs ys) (IsIn s old (lo + 1) (lo + 1 + token_count u)) (Seen zs ws)
        (λ i v z.
        let at = spans.over i (omega (arith, z.0)) (omega (arith, z.1)) in
        seen_more m old new law order lists is s o.entries p.entries xs ys i (along.entries i (open_at i) (inl (omega (arith, z.0), at.0))) v) q 0 u t
        (tested_within s old u (lo + 1) q 0 w.inside.from have))

    nothing_known : (n : Node) → IsUnseenOld m old new law order lists is s [] n
    nothing_known n = (λ e h. refl, tested_all s old (λ i. kind_among old i (open_at i) [] ≡ None) (λ i. refl) n.label 0 n.under)

    nothing_new : (n : Node) → IsUnseenNew m old new law order lists is s b c zs ws end (there + 1) refl along.scope.depth [] n
    nothing_new n = (λ e h. refl, tested_all s old (λ i. kind_among new (m i) (open_at (m i)) [] ≡ None) (λ i. refl) n.label 0 n.under)

    all_of : (P : Node → Type 0) → ((n : Node) → P n) → (ns : List Node) → All P ns
    all_of P f [] = All-nil P
    all_of P f (n ∷ ns) = All-cons P n ns (f n) (all_of P f ns)

    abbrev Fine : Node → Type 0
    Fine n = IsFine m old new law order lists is s b c zs ws end (there + 1) refl along.scope.depth n

    olds : All (IsOldItem b end) ns
    olds = old_items b end u (lo + 1) refl w.inside.from w.inside.forms w.each (omega arith)

    before_all : all_agree s old u (lengthened zs b) ≡ true → All (AgreesOld m old new law order lists is s b zs) ns
    before_all agree =
        old_pass m old new law order lists is s b zs end u (lengthened zs b) [] refl w.among refl (items_plain u w.each) (are_items ns w.each) olds
        (are_pairs old false u (lo + 1) w.spaced w.inside.from w.apart) (pairs_clear s old ns (bare_nodes s old u have) w.apart) own_all
        (all_of (IsUnseenOld m old new law order lists is s []) nothing_known ns) agree

    abbrev Agrees : Node → Type 0
    Agrees n = ItemAgrees m old new law order lists is s b c zs ws end (there + 1) refl along.scope.depth n

    abbrev GoesAlong : Node → Type 0
    GoesAlong n = ItemGoes m old new law order lists b.scope.depth b c (there + 1) n

    abbrev Old : Node → Type 0
    Old n = AgreesOld m old new law order lists is s b zs n

    abbrev Static : Node → Type 0
    Static n = IsStaticItem m old new law order lists is s n

    abbrev Own : Node → Type 0
    Own n = HasOwnTests m old new law order lists is s n

    abbrev Counted : Node → Type 0
    Counted n = IsCounted m old new law order lists n

    abbrev Like : Node → Type 0
    Like n = TestedNode s old (Seen zs ws) n

    fine_all : All Agrees ns → All GoesAlong ns → All Old ns → All Like ns → All Fine ns
    fine_all agrees goes before seen =
        let statics : All Static ns = static_items m old new law order lists is s u (lo + 1) w.inside.from w.inside.forms w.inside.cut w.each in
        let P1 : Node → Type 0 = λ n. Static n × IsOldItem b end n in
        let P2 : Node → Type 0 = λ n. P1 n × Counted n in
        let P3 : Node → Type 0 = λ n. P2 n × Own n in
        let P4 : Node → Type 0 = λ n. P3 n × Old n in
        let P5 : Node → Type 0 = λ n. P4 n × GoesAlong n in
        let P6 : Node → Type 0 = λ n. P5 n × Like n in
        let a1 : All P1 ns = all_both Static (IsOldItem b end) P1 (λ n x y. (x, y)) ns statics olds in
        let a2 : All P2 ns = all_both P1 Counted P2 (λ n x y. (x, y)) ns a1 (counted_items m old new law order lists is u w.inside.cut) in
        let a3 : All P3 ns = all_both P2 Own P3 (λ n x y. (x, y)) ns a2 own_all in
        let a4 : All P4 ns = all_both P3 Old P4 (λ n x y. (x, y)) ns a3 before in
        let a5 : All P5 ns = all_both P4 GoesAlong P5 (λ n x y. (x, y)) ns a4 goes in
        let a6 : All P6 ns = all_both P5 Like P6 (λ n x y. (x, y)) ns a5 seen in
        all_both P6 Agrees Fine
        (λ n x y. record {
          production = x.0.0.0.0.0.0.production;
          item = x.0.0.0.0.0.1;
          before = x.0.0.1;
          agrees = y;
          goes = x.0.1;
          own = x.0.0.0.1;
          start = x.0.0.0.0.0.0.start;
          cut = x.0.0.0.0.0.0.cut;
          counted = x.0.0.0.0.1;
          bodiless = x.0.0.0.0.0.0.bodiless;
          seen = x.1;
        }) ns a6 agrees

    new_all : All Fine ns → all_agree s new (numbered (there + 1) shuf) (lengthened ws c) ≡ true
    new_all fine =
        let sh : IsShuffled m old new law order lists u = list_shuffled m old new law order lists is u (cut_then lists true (token j none) done) r.cut in
        let ps : List Node = sh.picked in
        let g : Forest = permuted order lists false u in
        let each : All (λ n. All (IsSameOrClear s old n) ns) ns = each_clear s old ns (pairs_clear s old ns (bare_nodes s old u have) w.apart) in
        let clear : All (λ n. All (IsSameOrClear s old n) ps) ps =
        all_imp (λ n. All (IsSameOrClear s old n) ns) (λ n. All (IsSameOrClear s old n) ps) (λ n x. All-permutation (IsSameOrClear s old n) ns ps sh.permutes x) ps
        (All-permutation (λ n. All (IsSameOrClear s old n) ns) ns ps sh.permutes each) in
        subst (λ (f : Forest). all_agree s new (numbered (there + 1) f) (lengthened ws c) ≡ true) (sym sh.same)
        (new_pass m old new law order lists is s b c zs ws end (there + 1) refl along.scope.depth g ps (there + 1) (lengthened ws c) [] sh.long (omega arith) refl w.among refl
        (All-permutation Fine ns ps sh.permutes fine) clear
        (all_of (IsUnseenNew m old new law order lists is s b c zs ws end (there + 1) refl along.scope.depth []) nothing_new ps)
        (subst (λ (f : Forest). AreMovedTo m (there + 1) f) sh.same r.to.1.0))

    pub list_agrees : All Agrees ns → All GoesAlong ns → Tested s old (Seen xs ys) q 0 u
        → all_agree s old (token i (node q first u (token j none))) (lengthened xs o) ≡ true
        → all_agree s new (token there (node q (there + 1) (numbered (there + 1) shuf) (token (there + 1 + token_count shuf) none))) (lengthened ys p) ≡ true
    list_agrees agrees goes tested agree =
        let ox : Outline = lengthened xs o in
        let py : Outline = lengthened ys p in
        let body : ghosts.eq q.production FunBody ≡ false = items_body q.production q.alternative w.among in
        let paren' : is_parenthesised p.label ≡ true = ap is_parenthesised along.label ∙ paren in
        let o1 : Outline = stepped i ox in
        let o2 : Outline = begun q first u o1 in
        let o3 : Outline = ended q first u o1 (outlined u o2) in
        let t = and_parts (token_agrees s old o.label.production o.label.alternative o.nth i zs)
        (node_agrees s old q first o1.entries && (all_agree s old u o2 && all_agree s old (token j none) o3)) agree in
        let v = and_parts (node_agrees s old q first o1.entries) (all_agree s old u o2 && all_agree s old (token j none) o3) t.1 in
        let x = and_parts (all_agree s old u o2) (all_agree s old (token j none) o3) v.1 in
        let here : all_agree s old u (lengthened zs b) ≡ true =
        subst (λ (y : Outline). all_agree s old u y ≡ true)
        (list_begun i first q u ox w.among (unlisted o.label.production o.label.alternative o.nth paren) body) x.0 in
        let fine : All Fine ns = fine_all agrees goes (before_all here) (seen_all tested) in
        let below : Forest = numbered (there + 1) shuf in
        let p1 : Outline = stepped there py in
        let p2 : Outline = begun q (there + 1) below p1 in
        let p3 : Outline = ended q (there + 1) below p1 (outlined below p2) in
        let last : ℕ = there + 1 + token_count shuf in
        let over : all_agree s new below p2 ≡ true =
        subst (λ (y : Outline). all_agree s new below y ≡ true)
        (sym (list_begun there (there + 1) q below py w.among (unlisted p.label.production p.label.alternative p.nth paren') body)) (new_all fine) in
        and_from (token_agrees s new p.label.production p.label.alternative p.nth there ws)
        (node_agrees s new q (there + 1) p1.entries && (all_agree s new below p2 && all_agree s new (token last none) p3))
        (list_test s new p.label.production p.label.alternative p.nth there ws paren')
        (and_from (node_agrees s new q (there + 1) p1.entries) (all_agree s new below p2 && all_agree s new (token last none) p3)
        (items_node s new q (there + 1) p1.entries w.among)
        (and_from (all_agree s new below p2) (all_agree s new (token last none) p3) over
        (and_from (token_agrees s new p.label.production p.label.alternative (p.nth + 1 + 1) last p3.entries) true
        (list_test s new p.label.production p.label.alternative (p.nth + 1 + 1) last p3.entries paren') refl)))
