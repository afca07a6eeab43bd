-- Calls and lists of parameters, with their items in the new order.
use Rattle.std.proofs.Common.{ℕ, ◌+◌, ◌≡◌, Bool, true, false, ◌&&◌, List, [], ◌∷◌, ◌++◌, length, Option, None, Some, nat_lt, refl, sym, ap, subst, ◌∙◌, inl, inr}
use Rattle.std.proofs.lemmas.Bool.{false≢true, and_parts}
use Rattle.std.proofs.lemmas.List.{append_assoc, append-nil}
use Rattle.c99_grammar.specs.declared.dialects.Dialect.TheVariants.{Iso}
use Rattle.c99_grammar.specs.declared.dialects.Edition.{Edition}
use Rattle.c99_tree.specs.Tree.{Forest, none, node}
use Rattle.c99_tree.specs.declared.production.Production.{Production}
use Rattle.c99_tree.specs.declared.production.Production.TheVariants.{Post, Suffix, Args, Params}
use Rattle.c99_grammar.specs.declared.classes.Class.{Class}
use Rattle.c99_grammar.specs.declared.classes.Class.TheVariants.{LeftParen, RightParen}
use Rattle.c99_grammar.specs.Items.{Item, part, act, ◌·◌, maybe, deep, own, tok, scope, end, keep}
use Rattle.c99_grammar.specs.Standard.{Grammar, iso}
use Rattle.c99_read.specs.Reading.{Goal, produce, deepest}
use Rattle.list_cuts.specs.Cuts.{IsOrder}
use Rattle.reordered_tree_laws.specs.Reordered.{nodes_in, shuffled, is_parenthesised, is_among, permuted}
use Rattle.reordered_text_laws.specs.ByClasses.{tokens_of, Taken, taken, behind_children, then_read, child_of, as_child, here, may_read, read_one, read_item, read_by_classes}
use Rattle.reordered_text_laws.specs.ReorderedTexts.{enclosed}
use Rattle.reordered_text_laws.proofs.Found.{stopped, found_is, branch}
use Rattle.reordered_text_laws.proofs.Whole.{tokens_of-child}
use Rattle.reordered_text_laws.proofs.Stops.{closes}
use Rattle.reordered_text_laws.proofs.Local.{goal_text}
use Rattle.reordered_text_laws.proofs.Tables.{ending, tells}
use Rattle.reordered_text_laws.proofs.Enclosed.{inside, enclosing, enclosed_read, Enclosed, enclosed_so}
use Rattle.reordered_text_laws.proofs.Permuted.{labelled, not_among, permuted-flat, AreFull, IsFull, full-child, full-flat, full-permuted}
use Rattle.reordered_text_laws.proofs.Near.{Front, shut, listed, called, Plain, Near, Beside, beside_front}
use Rattle.reordered_text_laws.proofs.Anew.{Sometime, new, Anew, Goods, Child_so, child_itself}
use Rattle.reordered_text_laws.proofs.Shuffled.{unshuffled}
use Rattle.reordered_text_laws.proofs.ParameterLists.{a_list, Made, names, types, params_made, types_so, Ordered, args_ordered, types_ordered, args_made}

module _ (class_of : ℕ → Class) where
  -- a list in its parentheses, and the same with other items
  near_called : (o c : ℕ) (xs ys : List ℕ) → class_of o ≡ LeftParen → Near class_of called (o ∷ (xs ++ (c ∷ []))) (o ∷ (ys ++ (c ∷ [])))
  near_called o c [] [] e = (refl, inr e)
  near_called o c [] (y ∷ ys) e = (refl, inr e)
  near_called o c (x ∷ xs) [] e = (refl, inr e)
  near_called o c (x ∷ xs) (y ∷ ys) e = (refl, inr e)

  module _ (g : Grammar) where
    near_listed : (o c : ℕ) (xs ys : List ℕ) → class_of o ≡ LeftParen → Plain (here g class_of (xs ++ (c ∷ []))) → Plain (here g class_of (ys ++ (c ∷ [])))
        → Near class_of listed (o ∷ (xs ++ (c ∷ []))) (o ∷ (ys ++ (c ∷ [])))
    near_listed o c [] [] e p q = (refl, inr (e, (p, q)))
    near_listed o c [] (y ∷ ys) e p q = (refl, inr (e, (p, q)))
    near_listed o c (x ∷ xs) [] e p q = (refl, inr (e, (p, q)))
    near_listed o c (x ∷ xs) (y ∷ ys) e p q = (refl, inr (e, (p, q)))

    here_front : (ts : List ℕ) (c : ℕ) (xs ys : List ℕ) → here g class_of (ts ++ (c ∷ xs)) ≡ here g class_of (ts ++ (c ∷ ys))
    here_front [] c xs ys = refl
    here_front (t ∷ ts) c xs ys = refl

-- ---- Actions take no token

act_skips : (r : Option Taken) → behind_children none r ≡ r
act_skips None = refl
act_skips (Some t) = refl

then_same : (r : Option Taken) (f h : List ℕ → Option Taken) → ((ys : List ℕ) → f ys ≡ h ys) → then_read r f ≡ then_read r h
then_same None f h e = refl
then_same (Some t) f h e = ap (behind_children t.read) (e t.left)

abbrev pub parameter_list : Item
parameter_list = tok LeftParen · act scope · maybe (deep (part Params)) · act end · act keep · tok RightParen

module _ (s : Edition) (class_of : ℕ → Class) (order : List ℕ) (lists : ℕ → Bool) (is_order : IsOrder (length order) order) where
  abbrev g : Grammar
  g = iso s

  abbrev reads : ℕ → ℕ → Goal → List ℕ → Option Taken
  reads = read_by_classes g class_of

  abbrev item_read : ℕ → ℕ → Item → List ℕ → Option Taken
  item_read fuel = read_item g class_of (reads fuel)

  abbrev renew : Forest → Forest
  renew f = new s class_of order lists f

  abbrev anew_so : Front → Type 0 → (ℕ → List ℕ → Option Taken) → Taken → Type 0
  anew_so f e again t = Anew s class_of order lists f e again t

  list_same : (fuel depth : ℕ) (xs : List ℕ) → item_read fuel depth parameter_list xs ≡ item_read fuel depth (enclosing (Iso s) class_of Params) xs
  list_same fuel depth xs =
      then_same (read_one g class_of (LeftParen ∷ []) xs) (item_read fuel depth (act scope · maybe (deep (part Params)) · act end · act keep · tok RightParen))
      (item_read fuel depth (maybe (deep (part Params)) · tok RightParen))
      (λ ys. act_skips (item_read fuel depth (maybe (deep (part Params)) · act end · act keep · tok RightParen) ys)
      ∙ then_same (item_read fuel depth (maybe (deep (part Params))) ys) (item_read fuel depth (act end · act keep · tok RightParen)) (item_read fuel depth (tok RightParen))
      (λ zs. act_skips (item_read fuel depth (act keep · tok RightParen) zs) ∙ act_skips (item_read fuel depth (tok RightParen) zs)))

  -- ---- A list of arguments or parameters

  module _ (q : Production) (k : ℕ) (plain : is_parenthesised (labelled q k) ≡ false) (ordered : Ordered s class_of order is_order q k) where
    module _ (fuel depth : ℕ) (u : Taken) (c : Enclosed (Iso s) class_of q fuel depth u) (f : Forest) (is : c.list.read ≡ a_list q k f) (full : IsFull order lists f)
        (inner : anew_so shut (ending q ≡ true) (λ m ys. reads m (depth + 1) (produce q) ys) c.list) where
      abbrev inside_it : Forest
      inside_it = shuffled order (renew f)

      tree : renew c.list.read ≡ a_list q k (renew f)
      tree = ap renew is ∙ ap (λ b. a_list q k (permuted order lists b f)) (not_among order lists (labelled q k) f plain)

      -- the list by itself, in the new order
      list_read : (e : Type 0) (zs : List ℕ) → Beside g class_of e u.left zs
          → Sometime (λ m. reads m (depth + 1) (produce q) (tokens_of inside_it ++ (c.closing ∷ zs))) (taken (a_list q k inside_it) (c.closing ∷ zs))
      list_read e zs b =
          let r = inner.goes (c.closing ∷ zs) (subst (λ ys. Beside g class_of (ending q ≡ true) ys (c.closing ∷ zs)) (sym c.behind_list)
          (beside_front g class_of e (ending q ≡ true) shut (c.closing ∷ []) (c.closing ∷ []) u.left zs (λ x. absurd (false≢true (sym x))) refl b)) in
          ordered r.0 (depth + 1) (tokens_of (renew c.list.read) ++ (c.closing ∷ zs)) (taken (renew c.list.read) (c.closing ∷ zs)) (renew f) r.1 c.is_close tree
          (full-permuted order lists false f full)

      -- .. in its parentheses
      enclosed_goes : nat_lt depth deepest ≡ true → (e : Type 0) (zs : List ℕ) → Beside g class_of e u.left zs
          → Sometime (λ m. item_read m depth (enclosing (Iso s) class_of q) (c.opening ∷ (tokens_of inside_it ++ (c.closing ∷ zs)))) (taken (enclosed c.opening (a_list q k inside_it) c.closing) zs)
      enclosed_goes less e zs b =
          let o = list_read e zs b in
          (o.0, enclosed_read (Iso s) class_of q o.0 depth c.opening c.closing (a_list q k inside_it) (tokens_of inside_it) zs c.is_open c.is_close less o.1)

  -- the children of a list that becomes a new one
  module _ (o c : ℕ) (q : Production) (k : ℕ) (f h : Forest) where
    abbrev old_list : Forest
    old_list = enclosed o (a_list q k f) c

    abbrev new_list : Forest
    new_list = enclosed o (a_list q k h) c

    -- the tokens of the node, before others
    tokens_before : (p : Production) (zs : List ℕ) → tokens_of (child_of p 2 new_list) ++ zs ≡ o ∷ (tokens_of h ++ (c ∷ zs))
    tokens_before p zs =
        ap (λ xs. xs ++ zs) (tokens_of-child p 2 new_list) ∙ ap (λ xs. o ∷ xs) (append_assoc (tokens_of h) (c ∷ []) zs)

  -- ---- Calls

  abbrev call : Item
  call = enclosing (Iso s) class_of Args

  module _ (fuel : ℕ) (goods : Goods s class_of order lists fuel) (depth : ℕ) (xs : List ℕ) (u : Taken) where
    abbrev Call_so : Type 0
    Call_so = anew_so called (closes g ending call ≡ true) (λ m ys. as_child Post 2 (item_read m depth call ys)) (taken (child_of Post 2 u.read) u.left)

    -- nothing changes places
    call_still : permuted order lists (is_among lists (labelled Post 2) u.read) u.read ≡ renew u.read → AreFull order lists false u.read → item_read fuel depth call xs ≡ Some u → Call_so
    call_still same full e = child_itself s class_of order lists fuel goods Post 2 call depth xs u refl refl refl full same e

    -- the arguments change places
    call_anew : is_among lists (labelled Post 2) u.read ≡ true → (c : Enclosed (Iso s) class_of Args fuel depth u) (f : Forest) → c.list.read ≡ a_list Args 1 f → IsFull order lists f
        → anew_so shut (ending Args ≡ true) (λ m ys. reads m (depth + 1) (produce Args) ys) c.list → nat_lt depth deepest ≡ true → Call_so
    call_anew so c f is full inner less = record {
      near = subst (λ ts. Near class_of called ts (tokens_of (renew (child_of Post 2 u.read)))) (sym old)
          (subst (λ ts. Near class_of called (c.opening ∷ (tokens_of f ++ (c.closing ∷ []))) ts) (sym anew)
          (near_called class_of c.opening c.closing (tokens_of f) (tokens_of h) c.is_open));
      goes = λ zs b. (
          let r = enclosed_goes Args 1 refl (args_ordered s class_of order is_order) fuel depth u c f is full inner less (closes g ending call ≡ true) zs b in (
            r.0,
            ap (λ ys. as_child Post 2 (item_read r.0 depth call ys)) (ap (λ k. tokens_of k ++ zs) tree ∙ tokens_before c.opening c.closing Args 1 f h Post zs)
                ∙ (ap (as_child Post 2) r.1 ∙ ap (λ k. Some (taken k zs)) (sym tree)),
          ));
    }
      where
        h : Forest
        h = shuffled order (renew f)

        whole : u.read ≡ enclosed c.opening (a_list Args 1 f) c.closing
        whole = c.is ∙ ap (λ l. enclosed c.opening l c.closing) is

        tree : renew (child_of Post 2 u.read) ≡ child_of Post 2 (enclosed c.opening (a_list Args 1 h) c.closing)
        tree = ap (λ b. node (labelled Post 2) 0 (permuted order lists b u.read) none) so ∙ ap (λ k. node (labelled Post 2) 0 (permuted order lists true k) none) whole

        old : tokens_of (child_of Post 2 u.read) ≡ c.opening ∷ (tokens_of f ++ (c.closing ∷ []))
        old = ap (λ k. tokens_of (child_of Post 2 k)) whole ∙ tokens_of-child Post 2 (enclosed c.opening (a_list Args 1 f) c.closing)

        anew : tokens_of (renew (child_of Post 2 u.read)) ≡ c.opening ∷ (tokens_of h ++ (c.closing ∷ []))
        anew = ap tokens_of tree ∙ tokens_of-child Post 2 (enclosed c.opening (a_list Args 1 h) c.closing)

    -- what the node says of its list
    call_full : is_among lists (labelled Post 2) u.read ≡ true → AreFull order lists false (child_of Post 2 u.read) → (o c : ℕ) (f : Forest) → u.read ≡ enclosed o (a_list Args 1 f) c
        → IsFull order lists f × AreFull order lists false f
    call_full so full o c f whole =
        (subst (λ k. AreFull order lists true k) whole (subst (λ b. AreFull order lists b u.read) so full.0)).0

    with_list : is_among lists (labelled Post 2) u.read ≡ true → AreFull order lists false (child_of Post 2 u.read) → item_read fuel depth call xs ≡ Some u
        → Enclosed (Iso s) class_of Args fuel depth u → Call_so
    with_list so full e c =
        branch {P = Call_so} (may_read g class_of own (inside (Iso s) class_of Args) c.from) (item_read fuel depth (inside (Iso s) class_of Args) c.from) (Some (taken none c.from)) c.list
        (λ x e'.
        branch {P = Call_so} (may_read g class_of own (part Args) c.from && nat_lt depth deepest) (reads fuel (depth + 1) (produce Args) c.from) None c.list
        (λ y e''.
        let less = (and_parts (may_read g class_of own (part Args) c.from) (nat_lt depth deepest) y).1 in
        let made = args_made s class_of order is_order fuel (depth + 1) c.from c.list (ap (here g class_of) c.behind_list ∙ c.is_close) e'' in
        let fulls = call_full so full c.opening c.closing made.0 (c.is ∙ ap (λ l. enclosed c.opening l c.closing) made.1) in
        call_anew so c made.0 made.1 fulls.0
        (goods (depth + 1) (produce Args) c.from c.list refl (subst (λ k. AreFull order lists false k) (sym made.1) (fulls.1, tt)) e'') less)
        (λ y e''. absurd (stopped c.list e'')) e')
        (λ x e'.
        let flat : nodes_in u.read ≡ [] = ap nodes_in (c.is ∙ ap (λ l. enclosed c.opening l c.closing) (ap (λ (w : Taken). w.read) (sym (found_is (taken none c.from) c.list e')))) in
        call_still (permuted-flat order lists (is_among lists (labelled Post 2) u.read) u.read flat ∙ sym (permuted-flat order lists false u.read flat)) (full-flat order lists false u.read flat) e)
        c.reads_list

    call_by : (b : Bool) → is_among lists (labelled Post 2) u.read ≡ b → AreFull order lists false (child_of Post 2 u.read) → item_read fuel depth call xs ≡ Some u → Call_so
    call_by false apart full e = call_still (ap (λ b. permuted order lists b u.read) apart) (full-child order lists Post 2 u.read apart full) e
    call_by true so full e = with_list so full e (enclosed_so (Iso s) class_of Args fuel depth xs u e)

  pub call_child : (fuel : ℕ) → Goods s class_of order lists fuel → Child_so s class_of order lists fuel Post 2 call
  call_child fuel goods depth xs u h k le full e = call_by fuel goods depth xs u (is_among lists (labelled Post 2) u.read) refl full e

  -- ---- Lists of parameters

  module _ (fuel : ℕ) (goods : Goods s class_of order lists fuel) (depth : ℕ) (xs : List ℕ) (u : Taken) where
    abbrev List_so : Type 0
    List_so = anew_so listed (closes g ending parameter_list ≡ true) (λ m ys. as_child Suffix 2 (item_read m depth parameter_list ys)) (taken (child_of Suffix 2 u.read) u.left)

    list_still : permuted order lists (is_among lists (labelled Suffix 2) u.read) u.read ≡ renew u.read → AreFull order lists false u.read → item_read fuel depth parameter_list xs ≡ Some u
        → List_so
    list_still same full e = child_itself s class_of order lists fuel goods Suffix 2 parameter_list depth xs u refl refl refl full same e

    -- the parameters change places
    list_anew : is_among lists (labelled Suffix 2) u.read ≡ true → (c : Enclosed (Iso s) class_of Params fuel depth u) (f : Forest) → c.list.read ≡ a_list Params 2 f → IsFull order lists f
        → anew_so shut (ending Params ≡ true) (λ m ys. reads m (depth + 1) (produce Params) ys) c.list → nat_lt depth deepest ≡ true
        → Plain (here g class_of (tokens_of f ++ (c.closing ∷ []))) → List_so
    list_anew so c f is full inner less plain = record {
      near = subst (λ ts. Near class_of listed ts (tokens_of (renew (child_of Suffix 2 u.read)))) (sym old)
          (subst (λ ts. Near class_of listed (c.opening ∷ (tokens_of f ++ (c.closing ∷ []))) ts) (sym anew)
          (near_listed class_of g c.opening c.closing (tokens_of f) (tokens_of h) c.is_open plain plain'));
      goes = λ zs b. (
          let r = enclosed_goes Params 2 refl (types_ordered s class_of order is_order) fuel depth u c f is full inner less (closes g ending parameter_list ≡ true) zs b in (
            r.0,
            ap (λ ys. as_child Suffix 2 (item_read r.0 depth parameter_list ys)) (ap (λ k. tokens_of k ++ zs) tree ∙ tokens_before c.opening c.closing Params 2 f h Suffix zs)
                ∙ (ap (as_child Suffix 2) (list_same r.0 depth (c.opening ∷ (tokens_of h ++ (c.closing ∷ zs))) ∙ r.1) ∙ ap (λ k. Some (taken k zs)) (sym tree)),
          ));
    }
      where
        h : Forest
        h = shuffled order (renew f)

        whole : u.read ≡ enclosed c.opening (a_list Params 2 f) c.closing
        whole = c.is ∙ ap (λ l. enclosed c.opening l c.closing) is

        tree : renew (child_of Suffix 2 u.read) ≡ child_of Suffix 2 (enclosed c.opening (a_list Params 2 h) c.closing)
        tree = ap (λ b. node (labelled Suffix 2) 0 (permuted order lists b u.read) none) so ∙ ap (λ k. node (labelled Suffix 2) 0 (permuted order lists true k) none) whole

        old : tokens_of (child_of Suffix 2 u.read) ≡ c.opening ∷ (tokens_of f ++ (c.closing ∷ []))
        old = ap (λ k. tokens_of (child_of Suffix 2 k)) whole ∙ tokens_of-child Suffix 2 (enclosed c.opening (a_list Params 2 f) c.closing)

        anew : tokens_of (renew (child_of Suffix 2 u.read)) ≡ c.opening ∷ (tokens_of h ++ (c.closing ∷ []))
        anew = ap tokens_of tree ∙ tokens_of-child Suffix 2 (enclosed c.opening (a_list Params 2 h) c.closing)

        plain' : Plain (here g class_of (tokens_of h ++ (c.closing ∷ [])))
        plain' =
            let o = list_read Params 2 refl (types_ordered s class_of order is_order) fuel depth u c f is full inner ⊥ u.left (inl (inl (refl, inl refl))) in
            let text : List ℕ = tokens_of h ++ (c.closing ∷ u.left) in
            subst Plain (here_front class_of g (tokens_of h) c.closing u.left [])
            (types_so s class_of text (taken (a_list Params 2 h) (c.closing ∷ u.left)) h
            (params_made s class_of o.0 (depth + 1) text (taken (a_list Params 2 h) (c.closing ∷ u.left)) o.1) refl)

    list_full : is_among lists (labelled Suffix 2) u.read ≡ true → AreFull order lists false (child_of Suffix 2 u.read) → (o c j : ℕ) (f : Forest) → u.read ≡ enclosed o (a_list Params j f) c
        → IsFull order lists f × AreFull order lists false f
    list_full so full o c j f whole =
        (subst (λ k. AreFull order lists true k) whole (subst (λ b. AreFull order lists b u.read) so full.0)).0

    -- a list of names alone stays
    names_stay : (o c : ℕ) (f : Forest) (b : Bool) → nodes_in f ≡ [] → permuted order lists b (enclosed o (a_list Params 1 f) c) ≡ enclosed o (a_list Params 1 f) c
    names_stay o c f true flat =
        ap (λ k. enclosed o (a_list Params 1 k) c) (ap (shuffled order) (permuted-flat order lists false f flat) ∙ unshuffled order f flat)
    names_stay o c f false flat =
        ap (λ k. enclosed o (a_list Params 1 k) c) (permuted-flat order lists (is_among lists (labelled Params 1) f) f flat)

    with_made : is_among lists (labelled Suffix 2) u.read ≡ true → AreFull order lists false (child_of Suffix 2 u.read) → item_read fuel depth parameter_list xs ≡ Some u
        → (c : Enclosed (Iso s) class_of Params fuel depth u) → reads fuel (depth + 1) (produce Params) c.from ≡ Some c.list → nat_lt depth deepest ≡ true → Made s class_of c.from c.list → List_so
    with_made so full e c e' less (names f is flat) =
        let whole : u.read ≡ enclosed c.opening (a_list Params 1 f) c.closing = c.is ∙ ap (λ l. enclosed c.opening l c.closing) is in
        let stays : (b : Bool) → permuted order lists b u.read ≡ u.read = λ b. ap (permuted order lists b) whole ∙ (names_stay c.opening c.closing f b flat ∙ sym whole) in
        list_still (stays (is_among lists (labelled Suffix 2) u.read) ∙ sym (stays false))
        (subst (λ k. AreFull order lists false k) (sym whole) (full-flat order lists (is_among lists (labelled Params 1) f) f flat, tt)) e
    with_made so full e c e' less (types f is plain) =
        let fulls = list_full so full c.opening c.closing 2 f (c.is ∙ ap (λ l. enclosed c.opening l c.closing) is) in
        let text : c.from ≡ tokens_of f ++ (c.closing ∷ u.left) =
        (goal_text g ending (tells (Iso s)) class_of fuel (depth + 1) (produce Params) c.from c.list e').0
        ∙ (ap (λ k. tokens_of k ++ c.list.left) is ∙ (ap (λ ts. ts ++ c.list.left) (append-nil (tokens_of f)) ∙ ap (λ ys. tokens_of f ++ ys) c.behind_list)) in
        list_anew so c f is fulls.0 (goods (depth + 1) (produce Params) c.from c.list refl (subst (λ k. AreFull order lists false k) (sym is) (fulls.1, tt)) e') less
        (subst Plain (ap (here g class_of) text ∙ here_front class_of g (tokens_of f) c.closing u.left []) plain)

    with_params : is_among lists (labelled Suffix 2) u.read ≡ true → AreFull order lists false (child_of Suffix 2 u.read) → item_read fuel depth parameter_list xs ≡ Some u
        → Enclosed (Iso s) class_of Params fuel depth u → List_so
    with_params so full e c =
        branch {P = List_so} (may_read g class_of own (inside (Iso s) class_of Params) c.from) (item_read fuel depth (inside (Iso s) class_of Params) c.from) (Some (taken none c.from)) c.list
        (λ x e'.
        branch {P = List_so} (may_read g class_of own (part Params) c.from && nat_lt depth deepest) (reads fuel (depth + 1) (produce Params) c.from) None c.list
        (λ y e''.
        with_made so full e c e'' (and_parts (may_read g class_of own (part Params) c.from) (nat_lt depth deepest) y).1 (params_made s class_of fuel (depth + 1) c.from c.list e''))
        (λ y e''. absurd (stopped c.list e'')) e')
        (λ x e'.
        let flat : nodes_in u.read ≡ [] = ap nodes_in (c.is ∙ ap (λ l. enclosed c.opening l c.closing) (ap (λ (w : Taken). w.read) (sym (found_is (taken none c.from) c.list e')))) in
        list_still (permuted-flat order lists (is_among lists (labelled Suffix 2) u.read) u.read flat ∙ sym (permuted-flat order lists false u.read flat)) (full-flat order lists false u.read flat) e)
        c.reads_list

    list_by : (b : Bool) → is_among lists (labelled Suffix 2) u.read ≡ b → AreFull order lists false (child_of Suffix 2 u.read) → item_read fuel depth parameter_list xs ≡ Some u → List_so
    list_by false apart full e = list_still (ap (λ b. permuted order lists b u.read) apart) (full-child order lists Suffix 2 u.read apart full) e
    list_by true so full e = with_params so full e (enclosed_so (Iso s) class_of Params fuel depth xs u (sym (list_same fuel depth xs) ∙ e))

  pub list_child : (fuel : ℕ) → Goods s class_of order lists fuel → Child_so s class_of order lists fuel Suffix 2 parameter_list
  list_child fuel goods depth xs u h k le full e = list_by fuel goods depth xs u (is_among lists (labelled Suffix 2) u.read) refl full e
