-- The names of a whole text agree with its tree in a new order of lists.
use Rattle.std.proofs.Common.{ℕ, ◌+◌, ◌≤◌, ◌≡◌, Bool, true, false, ◌&&◌, ◌||◌, not, if◌then◌else◌, List, [], ◌++◌, length, inl, inr, refl, sym, ap, subst, ◌∙◌, arith}
use Rattle.std.specs.List.{All}
use Rattle.std.proofs.lemmas.Bool.{false≢true, and_parts, and_from, or_parts}
use Rattle.std.proofs.lemmas.List.Elements.{All-nil, All-cons, All-head, All-tail}
use Rattle.c99_grammar.specs.declared.dialects.Edition.{Edition}
use Rattle.cs_base.specs.Token.{Token}
use Rattle.cs_base.proofs.BoolLemmas.{or_met as or_not}
use Rattle.c99_tree.specs.Tree.{Forest, none, token, node, Node, node_of}
use Rattle.c99_tree.specs.declared.production.Label.{Label}
use Rattle.c99_tree.specs.declared.production.Production.TheVariants.{FunBody, Declarator, Pdirect}
use Rattle.c99_grammar.specs.Standard.{iso}
use Rattle.c99_read.specs.State.{base_at, is_identifier}
use Rattle.c_types.specs.Trees.{is_node, is_at}
use Rattle.scope_bind.specs.Named.{Scope}
use Rattle.tree_laws.specs.TreesOfTexts.{token_count, has_body}
use Rattle.list_cuts.specs.Cuts.{IsOrder}
use Rattle.tree_laws.proofs.Outline.{Entry, Outline, stepped, begun, ended, outlined, token_agrees, node_agrees, all_agree}
use Rattle.reordered_tree_laws.specs.Reordered.{nodes_in, is_parenthesised, is_among, permuted, numbered}
use Rattle.reordered_tree_laws.specs.Premises.{is_items, is_bracketed, has_outer_list, is_item_production}
use Rattle.scope_bind.specs.Moved.{AreMovedTexts}
use Rattle.reordered_tree_laws.proofs.MovedHeads.{count_permuted}
use Rattle.reordered_tree_laws.specs.BareNames.{HasBareName, HaveBareNames}
use Rattle.reordered_tree_laws.proofs.OutlineSteps.{OutlinesGo, token_steps}
use Rattle.reordered_tree_laws.proofs.Longer.{lengthened, stepped_longer, begun_longer, entered_longer, through_node}
use Rattle.reordered_tree_laws.proofs.Bags.{AreItems, item_declarator, item_body}
use Rattle.reordered_tree_laws.proofs.Placing.{ItemGoes}
use Rattle.reordered_tree_laws.proofs.Ready.{IsReady, IsReadyNode, IsReadyItems, IsReadyList, are_items, items_plain, ready_token, ready_node, ready_rest, item_node, items_token, items_rest}
use Rattle.reordered_tree_laws.proofs.NamesGo.{deeper, listed_in, node_begins, node_ends, in_parentheses, listed_along}
use Rattle.reordered_tree_laws.proofs.NamesWalk.{list_ready, item_names, node_inside}
use Rattle.reordered_tree_laws.proofs.Tested.{Tested}
use Rattle.reordered_tree_laws.proofs.AgreeingLemmas.{list_test, SeenAlike}
use Rattle.reordered_tree_laws.proofs.AgreeingNew.{ItemAgrees}
use Rattle.reordered_tree_laws.proofs.AgreeSteps.{IsPlainBoth, plain_old, plain_new, token_tests, node_tests}
use Rattle.reordered_tree_laws.proofs.AgreeWalk.{emptied, list_agrees}

module _ (m : ℕ → ℕ) (old new : List Token) (law : AreMovedTexts m old new) (order : List ℕ) (lists : ℕ → Bool) (is : IsOrder (length order) order) (s : Edition)
    (base : (k : ℕ) → base_at (iso s) new (m k) ≡ base_at (iso s) old k) where
  abbrev Along : ℕ → Bool → ℕ → ℕ → Outline → Outline → Type 0
  Along level keeps lo there o p = OutlinesGo m old new law level keeps lo there o p

  abbrev Ready : Bool → Label → Bool → ℕ → Scope → Bool → ℕ → ℕ → Forest → Type 0
  Ready b l own k scope keeps lo there f = IsReady m old new law order lists b l own k scope keeps lo there f

  abbrev ReadyNode : Label → Bool → ℕ → Scope → Bool → ℕ → ℕ → Label → Forest → Type 0
  ReadyNode l own k scope keeps lo there x under = IsReadyNode m old new law order lists l own k scope keeps lo there x under

  abbrev Seen : List Entry → List Entry → ℕ → Type 0
  Seen xs ys i = SeenAlike m old new law order lists is s xs ys i

  abbrev Plain : Forest → List Entry → List Entry → Type 0
  Plain f xs ys = IsPlainBoth m old new law order lists is s f xs ys

  -- the children of a node, in parentheses or not
  agree_by : (c : Bool) (lo there : ℕ) (l : Label) (own : Bool) (k : ℕ) (scope : Scope) (keeps : Bool) (under : Forest) (p : Outline)
      → Ready c l own k scope keeps lo there under
      → (c ≡ true → Ready true l own k scope keeps lo there under → all_agree s new (numbered there (permuted order lists true under)) p ≡ true)
      → (c ≡ false → Ready false l own k scope keeps lo there under → all_agree s new (numbered there (permuted order lists false under)) p ≡ true)
      → all_agree s new (numbered there (permuted order lists c under)) p ≡ true
  agree_by true lo there l own k scope keeps under p r f g = f refl r
  agree_by false lo there l own k scope keeps under p r f g = g refl r

  plain_under : (l : Label) (first : ℕ) (under rest : Forest) (xs ys : List Entry) → Plain (node l first under rest) xs ys → Plain under xs ys
  plain_under l first under rest xs ys (inl e) = inl ((or_parts (has_body under) (has_body rest) ((or_parts (is_node l FunBody) (has_body under || has_body rest) e).1)).0)
  plain_under l first under rest xs ys (inr e) = inr e

  plain_rest : (l : Label) (first : ℕ) (under rest : Forest) (xs ys : List Entry) → Plain (node l first under rest) xs ys → Plain rest xs ys
  plain_rest l first under rest xs ys (inl e) = inl ((or_parts (has_body under) (has_body rest) ((or_parts (is_node l FunBody) (has_body under || has_body rest) e).1)).1)
  plain_rest l first under rest xs ys (inr e) = inr e

  mutual
    pub agree_names : (f : Forest) (level : ℕ) (own keeps : Bool) (lo there : ℕ) (o p : Outline) (xs ys : List Entry) → Ready false o.label own o.nth o.scope keeps lo there f
        → HaveBareNames s old f → level ≤ o.scope.depth → Along level keeps lo there o p → Plain f xs ys → Tested s old (Seen xs ys) o.label o.nth f
        → all_agree s old f (lengthened xs o) ≡ true → all_agree s new (numbered there (permuted order lists false f)) (lengthened ys p) ≡ true
    agree_names none level own keeps lo there o p xs ys r have deep k plain tested agree = refl
    agree_names (token i rest) level own keeps lo there o p xs ys r have deep k plain tested agree =
        let later : Forest = numbered (there + 1) (permuted order lists false rest) in
        let t = and_parts (token_agrees s old o.label.production o.label.alternative o.nth i (o.entries ++ xs)) (all_agree s old rest (stepped i (lengthened xs o))) agree in
        let more : all_agree s new later (lengthened ys (stepped there p)) ≡ true =
        agree_names rest level (not (is_items o.label)) keeps (lo + 1) (there + 1) (stepped i o) (stepped there p) xs ys
        (ready_token m old new law order lists o.label own o.nth o.scope keeps lo there i rest r) have deep (token_steps m old new law level keeps lo there i o p r.from.0 r.to.0 k) plain
        tested.1 (ap (all_agree s old rest) (sym (stepped_longer i o xs)) ∙ t.1) in
        and_from (token_agrees s new p.label.production p.label.alternative p.nth there (p.entries ++ ys)) (all_agree s new later (stepped there (lengthened ys p)))
        (token_tests m old new law order lists is s base level keeps lo there i o p xs ys r.from.0 r.to.0 k tested.0 ∙ t.0)
        (ap (all_agree s new later) (stepped_longer there p ys) ∙ more)
    agree_names (node l first under rest) level own keeps lo there o p xs ys r have deep k plain tested agree =
        let n : ℕ = token_count under in
        let b : Bool = is_among lists l under in
        let g : Forest = permuted order lists b under in
        let over : Forest = numbered there g in
        let any : Bool = if is_node l Declarator then has_outer_list lists false under else keeps in
        let rn : ReadyNode o.label own o.nth o.scope keeps lo there l under = ready_node m old new law order lists o.label own o.nth o.scope keeps lo l first under rest there r in
        let ox : Outline = lengthened xs o in
        let py : Outline = lengthened ys p in
        let o1 : Outline = begun l lo under o in
        let p1 : Outline = begun l there over p in
        let o2 : Outline = ended l lo under o (outlined under o1) in
        let p2 : Outline = ended l there over p (outlined over p1) in
        let later : Forest = numbered (there + token_count g) (permuted order lists false rest) in
        let k1 : Along level keeps lo there o1 p1 = node_begins m old new law order lists is level own keeps o.nth lo there l under o p k rn in
        let k2 : Along level any (lo + n) (there + n) o2 p2 =
        node_ends m old new law order lists is level own keeps o.nth lo there l under o p k rn (outlined under o1) (outlined over p1)
        (node_inside m old new law order lists is level l under own keeps o.nth lo there o p rn deep k) in
        let po = plain_old m old new law order lists is s (node l lo under rest) xs ys plain in
        let pn = plain_new m old new law order lists is s (node l first under rest) there xs ys r.cut plain in
        let same : (node_agrees s old l lo (o.entries ++ xs) && (all_agree s old under (begun l lo under ox) && all_agree s old rest (ended l lo under ox (outlined under (begun l lo under ox))))) ≡ true =
        subst (λ (x : ℕ). (node_agrees s old l x (o.entries ++ xs) && (all_agree s old under (begun l x under ox) && all_agree s old rest (ended l x under ox (outlined under (begun l x under ox))))) ≡ true)
        r.from.0 agree in
        let t = and_parts (node_agrees s old l lo (o.entries ++ xs)) (all_agree s old under (begun l lo under ox) && all_agree s old rest (ended l lo under ox (outlined under (begun l lo under ox)))) same in
        let v = and_parts (all_agree s old under (begun l lo under ox)) (all_agree s old rest (ended l lo under ox (outlined under (begun l lo under ox)))) t.1 in
        let has : is_at l Pdirect 2 ≡ true → HasBareName s old lo under = λ e. subst (λ (x : ℕ). HasBareName s old x under) r.from.0 (have.0 e) in
        let seen : is_at l Pdirect 2 ≡ true → is_identifier (base_at (iso s) old (lo + 1)) ≡ true → Seen xs ys (lo + 1) =
        subst (λ (x : ℕ). is_at l Pdirect 2 ≡ true → is_identifier (base_at (iso s) old (x + 1)) ≡ true → Seen xs ys (x + 1)) r.from.0 tested.0 in
        let inside : all_agree s new over (lengthened ys p1) ≡ true =
        agree_by b lo there l false 0 o1.scope keeps under (lengthened ys p1) rn.below
        (λ e x. agree_list under level keeps lo there o1 p1 xs ys x have.1 (in_parentheses m old new law order lists is level l under e) (or_not b (is_bracketed under) rn.shape e)
        (deeper l.production l under o.scope level deep) k1 tested.1 (ap (all_agree s old under) (sym (entered_longer l lo under rest o xs po)) ∙ v.0))
        (λ e x. agree_names under level false keeps lo there o1 p1 xs ys x have.1 (deeper l.production l under o.scope level deep) k1
        (plain_under l first under rest xs ys plain) tested.1 (ap (all_agree s old under) (sym (entered_longer l lo under rest o xs po)) ∙ v.0)) in
        let count : token_count g ≡ n = count_permuted order lists is b under rn.below.cut in
        let last : all_agree s new (numbered (there + n) (permuted order lists false rest)) (lengthened ys p2) ≡ true =
        agree_names rest level own any (lo + n) (there + n) o2 p2 xs ys (ready_rest m old new law order lists o.label own o.nth o.scope keeps lo l first under rest is there r) have.2 deep k2
        (plain_rest l first under rest xs ys plain) tested.2 (ap (all_agree s old rest) (sym (through_node l lo under rest o xs po)) ∙ v.1) in
        let placed : all_agree s new later (lengthened ys p2) ≡ true =
        subst (λ (x : ℕ). all_agree s new (numbered (there + x) (permuted order lists false rest)) (lengthened ys p2) ≡ true) (sym count) last in
        and_from (node_agrees s new l there (p.entries ++ ys)) (all_agree s new over (begun l there over py) && all_agree s new later (ended l there over py (outlined over (begun l there over py))))
        (node_tests m old new law order lists is s base level keeps own o.nth lo there l under o p xs ys k rn has seen ∙ t.0)
        (and_from (all_agree s new over (begun l there over py)) (all_agree s new later (ended l there over py (outlined over (begun l there over py))))
        (ap (all_agree s new over) (entered_longer l there over later p ys pn) ∙ inside) (ap (all_agree s new later) (through_node l there over later p ys pn) ∙ placed))

    -- a list in its parentheses
    pub agree_list : (under : Forest) (level : ℕ) (keeps : Bool) (lo there : ℕ) (o p : Outline) (xs ys : List Entry) → Ready true o.label false 0 o.scope keeps lo there under
        → HaveBareNames s old under → is_parenthesised o.label ≡ true → is_bracketed under ≡ true → level ≤ o.scope.depth → Along level keeps lo there o p
        → Tested s old (Seen xs ys) o.label o.nth under → all_agree s old under (lengthened xs o) ≡ true
        → all_agree s new (numbered there (permuted order lists true under)) (lengthened ys p) ≡ true
    agree_list none level keeps lo there o p xs ys r have paren shape deep k tested agree = absurd (false≢true shape)
    agree_list (node l first under rest) level keeps lo there o p xs ys r have paren shape deep k tested agree = absurd (false≢true shape)
    agree_list (token i none) level keeps lo there o p xs ys r have paren shape deep k tested agree = absurd (false≢true shape)
    agree_list (token i (token j none)) level keeps lo there o p xs ys r have paren shape deep k tested agree =
        let over : is_parenthesised p.label ≡ true = ap is_parenthesised k.label ∙ paren in
        and_from (token_agrees s new p.label.production p.label.alternative p.nth there (p.entries ++ ys))
        (token_agrees s new p.label.production p.label.alternative (p.nth + 1) (there + 1) (stepped there (lengthened ys p)).entries && true)
        (list_test s new p.label.production p.label.alternative p.nth there (p.entries ++ ys) over)
        (and_from (token_agrees s new p.label.production p.label.alternative (p.nth + 1) (there + 1) (stepped there (lengthened ys p)).entries) true
        (list_test s new p.label.production p.label.alternative (p.nth + 1) (there + 1) (stepped there (lengthened ys p)).entries over) refl)
    agree_list (token i (token j (token n rest))) level keeps lo there o p xs ys r have paren shape deep k tested agree = absurd (false≢true shape)
    agree_list (token i (token j (node l first under rest))) level keeps lo there o p xs ys r have paren shape deep k tested agree = absurd (false≢true shape)
    agree_list (token i (node q first u none)) level keeps lo there o p xs ys r have paren shape deep k tested agree = absurd (false≢true shape)
    agree_list (token i (node q first u (node l second under rest))) level keeps lo there o p xs ys r have paren shape deep k tested agree = absurd (false≢true shape)
    agree_list (token i (node q first u (token j (token n rest)))) level keeps lo there o p xs ys r have paren shape deep k tested agree = absurd (false≢true shape)
    agree_list (token i (node q first u (token j (node l second under rest)))) level keeps lo there o p xs ys r have paren shape deep k tested agree = absurd (false≢true shape)
    agree_list (token i (node q first u (token j none))) level keeps lo there o p xs ys r have paren shape deep k tested agree =
        let w : IsReadyList m old new law order lists q o.scope keeps (lo + 1) u = list_ready m old new law order lists is level keeps lo there i q first u j o r shape in
        let d : ℕ = o.scope.depth in
        let items : AreItems (nodes_in u) = are_items (nodes_in u) w.each in
        let goes : All (ItemGoes m old new law order lists d (listed_in q o) (listed_in q p) (there + 1)) (nodes_in u) =
        item_names m old new law order lists is d u false 0 keeps (lo + 1) lo there (omega arith) q (record o { entries = [] }) (record p { entries = [] }) w.inside items (omega arith)
        (emptied m old new law order lists is s base level d keeps lo there o p k) in
        list_agrees m old new law order lists is s base level keeps lo there i q first u j o p k r paren w xs ys have.1
        (agree_items u level false 0 keeps (lo + 1) lo there (omega arith) q o p k (o.entries ++ xs) (p.entries ++ ys) (lo + 1 + token_count u) w.inside items (items_plain u w.each) have.1 deep)
        goes tested.1.1 agree

    -- each item of a list by itself
    pub agree_items : (u : Forest) (level : ℕ) (own : Bool) (nth : ℕ) (keeps : Bool) (at lo there : ℕ) → lo + 1 ≤ at → (q : Label) (o p : Outline) (k : Along level keeps lo there o p)
        (zs ws : List Entry) (end : ℕ) → IsReadyItems m old new law order lists q own nth o.scope keeps at u → AreItems (nodes_in u) → has_body u ≡ false → HaveBareNames s old u → level ≤ o.scope.depth
        → All (ItemAgrees m old new law order lists is s (listed_in q o) (listed_in q p) zs ws end (there + 1) refl k.scope.depth) (nodes_in u)
    agree_items none level own nth keeps at lo there low q o p k zs ws end r all free have deep =
        All-nil (ItemAgrees m old new law order lists is s (listed_in q o) (listed_in q p) zs ws end (there + 1) refl k.scope.depth)
    agree_items (token i rest) level own nth keeps at lo there low q o p k zs ws end r all free have deep =
        agree_items rest level (not (is_items q)) (nth + 1) keeps (at + 1) lo there (omega (arith, low)) q o p k zs ws end
        (items_token m old new law order lists q own nth o.scope keeps at i rest r) all free have deep
    agree_items (node l first under rest) level own nth keeps at lo there low q o p k zs ws end r all free have deep =
        let n : ℕ = token_count under in
        let b : Bool = is_among lists l under in
        let c : Outline = listed_in q o in
        let d : Outline = listed_in q p in
        let P : Node → Type 0 = λ x. is_item_production x.label.production ≡ true in
        let production : is_item_production l.production ≡ true = All-head P (node_of l first under) (nodes_in rest) all in
        let none : is_node l Declarator ≡ false = item_declarator l.production production in
        let body : is_node l FunBody ≡ false = item_body l.production production in
        let alone = or_parts (has_body under) (has_body rest) ((or_parts (is_node l FunBody) (has_body under || has_body rest) free).1) in
        let later : IsReadyItems m old new law order lists q own (nth + 1) o.scope keeps (at + n) rest =
        subst (λ (x : Bool). IsReadyItems m old new law order lists q own (nth + 1) o.scope (if x then has_outer_list lists false under else keeps) (at + n) rest) none
        (items_rest m old new law order lists q own nth o.scope keeps at l first under rest r) in
        let one : ItemAgrees m old new law order lists is s c d zs ws end (there + 1) refl k.scope.depth (node_of l first under) = λ y behind w es fs tested agree.
        let over : Forest = numbered y (permuted order lists b under) in
        let rn : ReadyNode q own nth o.scope keeps at y l under = item_node m old new law order lists q own nth o.scope keeps at l first under rest y r w in
        let kn : Along level keeps at y c d = listed_along m old new law order lists is level keeps lo there at y q o p low behind k in
        let c1 : Outline = begun l at under c in
        let d1 : Outline = begun l y over d in
        let k1 : Along level keeps at y c1 d1 = node_begins m old new law order lists is level own keeps nth at y l under c d kn rn in
        let has : is_at l Pdirect 2 ≡ true → HasBareName s old at under = λ e. subst (λ (x : ℕ). HasBareName s old x under) r.from.0 (have.0 e) in
        let seen : is_at l Pdirect 2 ≡ true → is_identifier (base_at (iso s) old (at + 1)) ≡ true → Seen es fs (at + 1) =
        subst (λ (x : ℕ). is_at l Pdirect 2 ≡ true → is_identifier (base_at (iso s) old (x + 1)) ≡ true → Seen es fs (x + 1)) r.from.0 tested.0 in
        let same : (node_agrees s old l at es && all_agree s old under (begun l at under (lengthened es c))) ≡ true =
        subst (λ (x : ℕ). (node_agrees s old l x es && all_agree s old under (begun l x under (lengthened es c))) ≡ true) r.from.0 agree in
        let t = and_parts (node_agrees s old l at es) (all_agree s old under (begun l at under (lengthened es c))) same in
        let start : all_agree s old under (lengthened es c1) ≡ true = ap (all_agree s old under) (sym (begun_longer l at under c es body)) ∙ t.1 in
        let inside : all_agree s new over (lengthened fs d1) ≡ true =
        agree_by b at y l false 0 c1.scope keeps under (lengthened fs d1) rn.below
        (λ e x. agree_list under level keeps at y c1 d1 es fs x have.1 (in_parentheses m old new law order lists is level l under e) (or_not b (is_bracketed under) rn.shape e)
        (deeper l.production l under o.scope level deep) k1 tested.1 start)
        (λ e x. agree_names under level false keeps at y c1 d1 es fs x have.1 (deeper l.production l under o.scope level deep) k1 (inl alone.0) tested.1 start) in
        and_from (node_agrees s new l y fs) (all_agree s new over (begun l y over (lengthened fs d)))
        (node_tests m old new law order lists is s base level keeps own nth at y l under c d es fs kn rn has seen ∙ t.0)
        (ap (all_agree s new over) (begun_longer l y over d fs body) ∙ inside) in
        All-cons (ItemAgrees m old new law order lists is s c d zs ws end (there + 1) refl k.scope.depth) (node_of l first under) (nodes_in rest) one
        (agree_items rest level own (nth + 1) keeps (at + n) lo there (omega (arith, low)) q o p k zs ws end later (All-tail P (node_of l first under) (nodes_in rest) all) alone.1 have.2 deep)
