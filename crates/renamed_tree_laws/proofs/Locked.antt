-- Both lists are read in step.
use Rattle.std.proofs.Common.{ℕ, zero, suc, ◌+◌, ◌≡◌, Bool, true, false, ◌&&◌, ◌||◌, not, if◌then◌else◌, List, [], ◌∷◌, length, Option, None, Some, Ok, Err, nat_lt, ◌==◌, eq-eqb, refl, sym, ap, ap₂, subst, ◌∙◌, inl, inr}
use Rattle.std.proofs.lemmas.Bool.{false≢true, and_parts, and_from, or_cases}
use Rattle.c99_grammar.specs.declared.dialects.Dialect.{Dialect}
use Rattle.cs_base.specs.Token.{Token}
use Rattle.cs_base.proofs.BoolLemmas.{or_met as implied}
use Rattle.c99_tree.specs.Tree.{Forest, none, token, node}
use Rattle.c99_tree.specs.declared.production.Label.{Label}
use Rattle.c99_tree.specs.declared.production.Production.{Production}
use Rattle.c99_grammar.specs.Classes.{among}
use Rattle.c99_grammar.specs.Items.{Item, one, part, end_of_text, act, ◌·◌, choice, maybe, many, deep, own, otherwise, next, next_two, Test, Ask, is, Action, scope, end, declare, name, keep, again, Alternative}
use Rattle.c99_grammar.specs.Standard.{grammar}
use Rattle.c99_read.specs.State.{State, base_at, is_identifier, class_at, last_identifier, with_declared, acted, opened, closed}
use Rattle.c99_read.specs.Reading.{Goal, produce, repeat, Step, and_then, syntax, too_deep, take_one, at_end, enter, may, step, pick, read_within}
use Rattle.c99_grammar.specs.Starting.{asks}
use Rattle.c99_read.proofs.Alike.{swapped}
use Rattle.renamed_tree_laws.specs.Along.{along_rest, along_item, along_first, along_within}
use Rattle.renamed_tree_laws.proofs.Private.{Class, identifier, typedef_name, colons, fronts, covers}
use Rattle.renamed_tree_laws.proofs.Bases.{base_so}
use Rattle.renamed_tree_laws.proofs.Twins.{agree, blind, class_so, among_names, plain_class, same_class, Same}
use Rattle.renamed_tree_laws.proofs.Moods.{Mood, any, label, calm, solid, taken, start_mood, end_mood, is_second, mood, asks_same, decides, fits, placed, is_paren, decides_second, raised, decided, are_known, is_known, is_production_known}
use Rattle.renamed_tree_laws.proofs.Knowing.{Known, no_name, known_less, colon_is}
use Rattle.renamed_tree_laws.proofs.Deciding.{asks_are, decided_same, blind_first}
use Rattle.renamed_tree_laws.proofs.Steps.{stopped, going, ok_is, between, then_is, branches, if_yes, with_token, takes, ends, enters, closed_scopes, closed_at}
use Rattle.renamed_tree_laws.proofs.Keeping.{labelled, fit, placed_goal, Kept, Fine, fine_opened, step_keeps, within_keeps}
use Rattle.renamed_tree_laws.proofs.Starting.{rest_so, Asked, Begins, step_knows, within_begins, within_repeats}

opened_swapped : (b : List Token) (p : Production) (n : ℕ) (s : State) → opened p n (swapped b s) ≡ swapped b (opened p n s)
unfolding opened
opened_swapped b p n s = refl

closed_swapped : (b : List Token) (p : Production) (outer s : State) → closed p (swapped b outer) (swapped b s) ≡ swapped b (closed p outer s)
unfolding closed
closed_swapped b p outer s = refl

enter_swapped : (b : List Token) (depth : ℕ) (s : State) (c : Bool) → c ≡ true → nat_lt depth 256 ≡ true → enter depth c (swapped b s) ≡ Ok (swapped b s)
unfolding enter
enter_swapped b depth s c h k =
    ap (λ x. if x then (if nat_lt depth 256 then Ok (swapped b s) else Err (too_deep s.at)) else Err (syntax s.at)) h
    ∙ ap (λ x. if x then Ok (swapped b s) else Err (too_deep s.at)) k

module _ (std : Dialect) where
  module _ (a b : List Token) (as_long : length a ≡ length b) (classes : (k : ℕ) → base_at (grammar std) a k ≡ base_at (grammar std) b k) where
    ends_swapped : (s : State) → s.toks ≡ a → s.at ≡ length s.toks → at_end (swapped b s) ≡ Ok (swapped b s)
    unfolding at_end
    ends_swapped s of_a e =
        if_yes (s.at == length b) (Ok (swapped b s)) (Err (syntax s.at)) (eq-eqb _ _ (e ∙ (ap length of_a ∙ as_long)))

    takes_swapped : (L : List Class) (s : State) → s.toks ≡ a → nat_lt s.at (length s.toks) ≡ true → among L (class_at (grammar std) (swapped b s) s.at) ≡ true
        → take_one (grammar std) L (swapped b s) ≡ Ok (swapped b (with_token s))
    unfolding take_one
    takes_swapped L s of_a h k =
        if_yes (nat_lt s.at (length b) && among L (class_at (grammar std) (swapped b s) s.at)) (Ok (swapped b (with_token s))) (Err (syntax s.at))
        (and_from _ _ (ap (nat_lt s.at) (sym (ap length of_a ∙ as_long)) ∙ h) k)

    identifier_swapped : (f : Forest) (found : Option ℕ) → last_identifier (grammar std) b f found ≡ last_identifier (grammar std) a f found
    identifier_swapped none found = refl
    identifier_swapped (token i rest) found =
        ap (λ x. last_identifier (grammar std) b rest (if is_identifier x then Some i else found)) (sym (classes i)) ∙ identifier_swapped rest _
    identifier_swapped (node l first under rest) found = identifier_swapped rest found

    acted_swapped : (action : Action) (s : State) → s.toks ≡ a → acted (grammar std) action (swapped b s) ≡ swapped b (acted (grammar std) action s)
    unfolding acted
    acted_swapped scope s of_a = refl
    acted_swapped end s of_a = refl
    acted_swapped declare s of_a = refl
    acted_swapped name s of_a =
        ap (λ i. record (swapped b s) { names = with_declared s.names i false })
        (identifier_swapped s.built.under None ∙ ap (λ t. last_identifier (grammar std) t s.built.under None) (sym of_a))
    acted_swapped keep s of_a = refl
    acted_swapped again s of_a = refl

    -- ---- Tests of alternatives

    two_same : (x y x' y' : Bool) → x' ≡ x → (x ≡ true → y' ≡ y) → (x' && y') ≡ (x && y)
    two_same true y x' y' e f = ap (λ z. z && y') e ∙ f refl
    two_same false y x' y' e f = ap (λ z. z && y') e

    is_paren_so : (x : Ask) (s : State) → is_paren x ≡ true → asks (grammar std) x (class_at (grammar std) s s.at) ≡ true → among fronts (class_at (grammar std) s s.at) ≡ true
    is_paren_so (is L) s h e =
        let both = and_parts (covers (λ c. not (among L c) || among fronts c)) (not (among L typedef_name) || among fronts typedef_name) h in
        implied _ _ (class_so std s s.at (λ c. not (among L c) || among fronts c) both.0 both.1) e
    is_paren_so _ s h e = absurd (false≢true h)

    second_same : (second : Bool) (m : Mood) (t : Test) (item : Item) (s : State) → s.toks ≡ a → decides_second std second m t item ≡ true
        → Known std a b s.names.scopes s.at m → (second ≡ true → among fronts (class_at (grammar std) s s.at) ≡ true → Same std a b s.names.scopes (s.at + 1))
        → may (grammar std) t item (swapped b s) ≡ may (grammar std) t item s
    second_same second m (next_two x y) item s of_a h k f =
        elim (or_cases (decides std m (next_two x y) item) (second && (is_paren x && asks_same std blind x)) h) [
          | inl plain ↦ (decided_same std) a b classes s of_a m k (next_two x y) item plain
          | inr paren ↦
              (let h1 = and_parts second (is_paren x && asks_same std blind x) paren in
              let h2 = and_parts (is_paren x) (asks_same std blind x) h1.1 in
              two_same (asks (grammar std) x (class_at (grammar std) s s.at)) (asks (grammar std) y (class_at (grammar std) s (s.at + 1))) _ _
              (asks_are std blind _ _ (blind_first std a b classes s of_a) x h2.1)
              (λ e. ap (asks (grammar std) y) (same_class std a b classes s (s.at + 1) of_a (f h1.0 (is_paren_so x s h2.0 e)))))
        ]
    second_same second m own item s of_a h k f = decided_same std a b classes s of_a m k own item h
    second_same second m otherwise item s of_a h k f = decided_same std a b classes s of_a m k otherwise item h
    second_same second m (next x) item s of_a h k f = decided_same std a b classes s of_a m k (next x) item h

    -- a colon that is next but one, and no name before it
    raised_colon : (L M : List Class) (s : State) → s.toks ≡ a → ((among L identifier && among L typedef_name) ≡ true)
        → covers (λ c. not (among colons c) || among M c) ≡ true
        → (among L (class_at (grammar std) s s.at) && among M (class_at (grammar std) s (s.at + 1))) ≡ false
        → among colons (base_at (grammar std) a (s.at + 1)) ≡ true → Same std a b s.names.scopes s.at
    raised_colon L M s of_a n h e colon =
        let at_s : among colons (base_at (grammar std) s.toks (s.at + 1)) ≡ true = ap (λ x. among colons (base_at (grammar std) x (s.at + 1))) of_a ∙ colon in
        let m : among M (base_at (grammar std) s.toks (s.at + 1)) ≡ true = implied _ _ (base_so std (λ c. not (among colons c) || among M c) h s.toks (s.at + 1)) at_s in
        let d : among M (class_at (grammar std) s (s.at + 1)) ≡ true = ap (among M) (plain_class std s (s.at + 1) (colon_is std s.toks (s.at + 1) at_s)) ∙ m in
        let both = and_parts (among L identifier) (among L typedef_name) n in
        λ i.
        let c : among L (class_at (grammar std) s s.at) ≡ true = among_names std s s.at L (ap (λ x. is_identifier (base_at (grammar std) x s.at)) of_a ∙ i) both.0 both.1 in
        absurd (false≢true (sym e ∙ and_from _ _ c d))

    raised_by : (L M : List Class) (item : Item) (s : State) → s.toks ≡ a
        → (among L (class_at (grammar std) s s.at) && among M (class_at (grammar std) s (s.at + 1))) ≡ false
        → (c : Bool) → ((among L identifier && among L typedef_name) && covers (λ c. not (among colons c) || among M c)) ≡ c
        → Known std a b s.names.scopes s.at label → Known std a b s.names.scopes s.at (if c then calm else label)
    raised_by L M item s of_a e true h (inl same) = same
    raised_by L M item s of_a e true h (inr colon) =
        let parts = and_parts (among L identifier && among L typedef_name) (covers (λ c. not (among colons c) || among M c)) h in
        raised_colon L M s of_a parts.0 parts.1 e colon
    raised_by L M item s of_a e false h k = k

    raised_knows : (m : Mood) (t : Test) (item : Item) (s : State) → s.toks ≡ a → may (grammar std) t item s ≡ false → Known std a b s.names.scopes s.at m
        → Known std a b s.names.scopes s.at (raised m t)
    raised_knows label (next_two (is L) (is M)) item s of_a e k =
        raised_by L M item s of_a e ((among L identifier && among L typedef_name) && covers (λ c. not (among colons c) || among M c)) refl k
    raised_knows m t item s of_a e k = k

    -- ---- Tokens

    taken_same : (L : List Class) (s : State) → s.toks ≡ a → Known std a b s.names.scopes s.at (taken L) → among L (class_at (grammar std) s s.at) ≡ true
        → among L (class_at (grammar std) (swapped b s) s.at) ≡ true
    taken_same L s of_a k e = by (among L identifier) (among L typedef_name) refl refl k
      where
        equal : Same std a b s.names.scopes s.at → among L (class_at (grammar std) (swapped b s) s.at) ≡ true
        equal same = ap (among L) (same_class std a b classes s s.at of_a same) ∙ e

        by : (i t : Bool) → among L identifier ≡ i → among L typedef_name ≡ t
            → Known std a b s.names.scopes s.at (if i then (if t then any else calm) else (if t then calm else solid))
            → among L (class_at (grammar std) (swapped b s) s.at) ≡ true
        by true true n m k = blind_first std a b classes s of_a L (ap₂ agree n m) ∙ e
        by true false n m k = equal k
        by false true n m k = equal k
        by false false n m k = equal (no_name std a b s.names.scopes s.at k)

    module _ (Good : State → Type 0) (kept : Kept std a Good) (of_token : State → Bool) (of_node : Production → ℕ → State → Bool)
        (asked : Asked std a b Good of_token of_node) where
      abbrev Going : Label → State → Type 0
      Going l s = Fine std a Good kept l s

      module _ (below : ℕ → Goal → State → Step) (along_below : ℕ → Goal → State → Bool)
          (keeps : (depth : ℕ) (goal : Goal) (l : Label) (s s' : State) → placed_goal l goal ≡ true → Going l s → below depth goal s ≡ Ok s' → Going l s')
          (begins : (depth : ℕ) (p : Production) (l : Label) (s s' : State) → Going l s → below depth (produce p) s ≡ Ok s'
          → along_below depth (produce p) s ≡ true → Begins std a b Good kept of_token of_node asked p s)
          (repeats : (depth : ℕ) (t : Test) (x : Item) (l : Label) (m : Mood) (s s' : State) → placed l x ≡ true → Going l s
          → below depth (repeat t x) s ≡ Ok s' → along_below depth (repeat t x) s ≡ true
          → Known std a b s'.names.scopes s'.at m → Known std a b s.names.scopes s.at (mood std (many t x) m))
          (parts : (depth : ℕ) (p : Production) (l : Label) (s s' : State) → Going l s → below depth (produce p) s ≡ Ok s'
          → along_below depth (produce p) s ≡ true → Known std a b s'.names.scopes s'.at (end_mood p) → below depth (produce p) (swapped b s) ≡ Ok (swapped b s'))
          (turns : (depth : ℕ) (t : Test) (x : Item) (l : Label) (m : Mood) (s s' : State) → placed l x ≡ true → fits std m (many t x) ≡ true → Going l s
          → below depth (repeat t x) s ≡ Ok s' → along_below depth (repeat t x) s ≡ true
          → Known std a b s'.names.scopes s'.at m → below depth (repeat t x) (swapped b s) ≡ Ok (swapped b s')) where
        abbrev along : ℕ → Item → State → Bool
        along = along_item (grammar std) of_token of_node below along_below

        abbrev knows : (item : Item) (depth : ℕ) (l : Label) (m : Mood) (s s' : State) → placed l item ≡ true → Going l s
            → step (grammar std) below depth item s ≡ Ok s' → along depth item s ≡ true → Known std a b s'.names.scopes s'.at m → Known std a b s.names.scopes s.at (mood std item m)
        knows = step_knows std a b Good kept of_token of_node asked below along_below keeps begins

        as_it_is : (c x : Bool) → x ≡ true → (if c then x else x) ≡ true
        as_it_is true x g = g
        as_it_is false x g = g

        still : (s s' : State) → going s ≡ going s' → going (swapped b s) ≡ going (swapped b s')
        still s s' e = ap (λ z. going (swapped b z)) (ok_is s s' e)

        pub step_locked : (item : Item) (depth : ℕ) (l : Label) (m : Mood) (s s' : State) → placed l item ≡ true → fits std m item ≡ true → Going l s
            → step (grammar std) below depth item s ≡ Ok s' → along depth item s ≡ true → Known std a b s'.names.scopes s'.at m
            → step (grammar std) below depth item (swapped b s) ≡ Ok (swapped b s')
        step_locked (one L) depth l m s s' h g f e q k =
            let t = takes std L s s' e in
            takes_swapped L s f.text t.within (taken_same L s f.text (knows (one L) depth l m s s' h f e q k) t.here)
            ∙ ap (λ z. going (swapped b z)) t.new
        step_locked (part p) depth l m s s' h g f e q k =
            parts depth p l s s' f e q (known_less std a b s'.names.scopes s'.at m (end_mood p) g k)
        step_locked end_of_text depth l m s s' h g f e q k =
            let t = ends s s' e in
            ends_swapped s f.text t.last ∙ ap (λ z. going (swapped b z)) t.new
        step_locked (act action) depth l m s s' h g f e q k =
            ap going (acted_swapped action s f.text) ∙ ap (λ z. going (swapped b z)) (ok_is _ _ e)
        step_locked (x · y) depth l m s s' h g f e q k =
            let hs = and_parts (placed l x) (placed l y) h in
            let gs = and_parts (fits std (mood std y m) x) (fits std m y) g in
            let t = between (step (grammar std) below depth x s) (step (grammar std) below depth y) s' e in
            let qs = and_parts (along depth x s) _ q in
            let fine = step_keeps std a Good kept below keeps x depth l s t.state hs.0 f t.first in
            let q' = rest_so (step (grammar std) below depth x s) (along depth y) t.state t.first qs.1 in
            then_is (step (grammar std) below depth x (swapped b s)) (step (grammar std) below depth y) (swapped b t.state) (Ok (swapped b s'))
            (step_locked x depth l (mood std y m) s t.state hs.0 gs.0 f t.first qs.0 (knows y depth l m t.state s' hs.1 fine t.second q' k))
            (step_locked y depth l m t.state s' hs.1 gs.1 fine t.second q' k)
        step_locked (choice x y) depth l m s s' h g f e q k =
            let hs = and_parts (placed l x) (placed l y) h in
            let gs = and_parts (decides std (mood std (choice x y) m) own x && decides std (mood std (choice x y) m) own y) (fits std m x && fits std m y) g in
            let k' = knows (choice x y) depth l m s s' h f e q k in
            let ds = and_parts (decides std (mood std (choice x y) m) own x) (decides std (mood std (choice x y) m) own y) gs.0 in
            let fs = and_parts (fits std m x) (fits std m y) gs.1 in
            branches (may (grammar std) own x s) (may (grammar std) own x (swapped b s))
            (step (grammar std) below depth x s) (if may (grammar std) own y s then step (grammar std) below depth y s else Err (syntax s.at))
            (step (grammar std) below depth x (swapped b s)) (if may (grammar std) own y (swapped b s) then step (grammar std) below depth y (swapped b s) else Err (syntax s.at))
            (along depth x s) (along depth y s) s' (Ok (swapped b s'))
            (decided_same std a b classes s f.text (mood std (choice x y) m) k' own x ds.0)
            (λ e' q'. step_locked x depth l m s s' hs.0 fs.0 f e' q' k)
            (λ c e' q'.
            branches (may (grammar std) own y s) (may (grammar std) own y (swapped b s)) (step (grammar std) below depth y s) (Err (syntax s.at))
            (step (grammar std) below depth y (swapped b s)) (Err (syntax s.at)) (along depth y s) (along depth y s) s' (Ok (swapped b s'))
            (decided_same std a b classes s f.text (mood std (choice x y) m) k' own y ds.1)
            (λ e'' q''. step_locked y depth l m s s' hs.1 fs.1 f e'' q'' k)
            (λ d e'' q''. absurd (stopped (syntax s.at) s' e''))
            e' (as_it_is (may (grammar std) own y s) (along depth y s) q'))
            e q
        step_locked (maybe x) depth l m s s' h g f e q k =
            let gs = and_parts (decides std (mood std (maybe x) m) own x) (fits std m x) g in
            branches (may (grammar std) own x s) (may (grammar std) own x (swapped b s)) (step (grammar std) below depth x s) (Ok s)
            (step (grammar std) below depth x (swapped b s)) (Ok (swapped b s)) (along depth x s) true s' (Ok (swapped b s'))
            (decided_same std a b classes s f.text (mood std (maybe x) m) (knows (maybe x) depth l m s s' h f e q k) own x gs.0)
            (λ e' q'. step_locked x depth l m s s' h gs.1 f e' q' k)
            (λ c e' q'. still s s' e')
            e q
        step_locked (many t x) depth l m s s' h g f e q k =
            let gs = and_parts (decides std (mood std (many t x) m) t x) (fits std (mood std (many t x) m) x) g in
            branches (may (grammar std) t x s) (may (grammar std) t x (swapped b s))
            (and_then (step (grammar std) below depth x s) (below depth (repeat t x))) (Ok s)
            (and_then (step (grammar std) below depth x (swapped b s)) (below depth (repeat t x))) (Ok (swapped b s))
            (along depth x s && along_rest (step (grammar std) below depth x s) (along_below depth (repeat t x))) true s' (Ok (swapped b s'))
            (decided_same std a b classes s f.text (mood std (many t x) m) (knows (many t x) depth l m s s' h f e q k) t x gs.0)
            (λ e' q'.
            let u = between (step (grammar std) below depth x s) (below depth (repeat t x)) s' e' in
            let qs = and_parts (along depth x s) (along_rest (step (grammar std) below depth x s) (along_below depth (repeat t x))) q' in
            let fine = step_keeps std a Good kept below keeps x depth l s u.state h f u.first in
            let q'' = rest_so (step (grammar std) below depth x s) (along_below depth (repeat t x)) u.state u.first qs.1 in
            then_is (step (grammar std) below depth x (swapped b s)) (below depth (repeat t x)) (swapped b u.state) (Ok (swapped b s'))
            (step_locked x depth l (mood std (many t x) m) s u.state h gs.1 f u.first qs.0 (repeats depth t x l m u.state s' h fine u.second q'' k))
            (turns depth t x l m u.state s' h g fine u.second q'' k))
            (λ c e' q'. still s s' e')
            e q
        step_locked (deep x) depth l m s s' h g f e q k =
            let gs = and_parts (decides std (mood std x m) own x) (fits std m x) g in
            let t = between (enter depth (may (grammar std) own x s) s) (step (grammar std) below (depth + 1) x) s' e in
            let n = enters depth (may (grammar std) own x s) s t.state t.first in
            let e' : step (grammar std) below (depth + 1) x s ≡ Ok s' = ap (step (grammar std) below (depth + 1) x) n.new ∙ t.second in
            let here = knows x (depth + 1) l m s s' h f e' q k in
            let same = decided_same std a b classes s f.text (mood std x m) here own x gs.0 in
            then_is (enter depth (may (grammar std) own x (swapped b s)) (swapped b s)) (step (grammar std) below (depth + 1) x) (swapped b s) (Ok (swapped b s'))
            (enter_swapped b depth s (may (grammar std) own x (swapped b s)) (same ∙ n.starts) n.within)
            (step_locked x (depth + 1) l m s s' h gs.1 f e' q k)

        pick_locked : (p : Production) (alternatives : List Alternative) (depth n : ℕ) (l : Label) (m : Mood) (s s' : State) → are_known std p n alternatives ≡ true
            → decided std (is_second p) m alternatives ≡ true → Known std a b s.names.scopes s.at m
            → (is_second p ≡ true → among fronts (class_at (grammar std) s s.at) ≡ true → Same std a b s.names.scopes (s.at + 1))
            → Going l s → pick (grammar std) below depth p n alternatives s ≡ Ok s'
            → along_first (grammar std) of_token of_node below along_below depth p n alternatives s ≡ true → Known std a b s'.names.scopes s'.at (end_mood p)
            → pick (grammar std) below depth p n alternatives (swapped b s) ≡ Ok (swapped b s')
        pick_locked p [] depth n l m s s' h d here second f e q k = absurd (stopped _ _ e)
        pick_locked p (x ∷ more) depth n l m s s' h d here second f e q k =
            let hs = and_parts (is_known std p n x) (are_known std p (n + 1) more) h in
            let ds = and_parts (decides_second std (is_second p) m x.test x.body) (decided std (is_second p) (raised m x.test) more) d in
            let ft = fit std p n x hs.0 in
            branches (may (grammar std) x.test x.body s) (may (grammar std) x.test x.body (swapped b s))
            (and_then (step (grammar std) below depth x.body (opened p n s)) (λ z. Ok (closed p s z))) (pick (grammar std) below depth p (n + 1) more s)
            (and_then (step (grammar std) below depth x.body (opened p n (swapped b s))) (λ z. Ok (closed p (swapped b s) z))) (pick (grammar std) below depth p (n + 1) more (swapped b s))
            (of_node p n s && along depth x.body (opened p n s)) (along_first (grammar std) of_token of_node below along_below depth p (n + 1) more s) s' (Ok (swapped b s'))
            (second_same (is_second p) m x.test x.body s f.text ds.0 here second)
            (λ e' q'.
            let t = between (step (grammar std) below depth x.body (opened p n s)) (λ z. Ok (closed p s z)) s' e' in
            let qs = and_parts (of_node p n s) (along depth x.body (opened p n s)) q' in
            let new : closed p s t.state ≡ s' = ok_is (closed p s t.state) s' t.second in
            let behind : Known std a b (closed p s t.state).names.scopes (closed p s t.state).at (end_mood p)
            = subst (λ (z : State). Known std a b z.names.scopes z.at (end_mood p)) (sym new) k in
            let inside : Known std a b t.state.names.scopes t.state.at (end_mood p)
            = subst (λ sc. Known std a b sc t.state.at (end_mood p)) (closed_scopes p s t.state)
            (subst (λ j. Known std a b (closed p s t.state).names.scopes j (end_mood p)) (closed_at p s t.state) behind) in
            then_is (step (grammar std) below depth x.body (opened p n (swapped b s))) (λ z. Ok (closed p (swapped b s) z)) (swapped b t.state) (Ok (swapped b s'))
            (ap (step (grammar std) below depth x.body) (opened_swapped b p n s)
            ∙ step_locked x.body depth (labelled p n) (end_mood p) (opened p n s) t.state ft.placed ft.ends (fine_opened std a Good kept l p n s f) t.first qs.1 inside)
            (ap going (closed_swapped b p s t.state) ∙ ap (λ z. going (swapped b z)) new))
            (λ c e' q'. pick_locked p more depth (n + 1) l (raised m x.test) s s' hs.1 ds.1 (raised_knows m x.test x.body s f.text c here) second f e' q' k)
            e q

      module _ (known : (p : Production) → is_production_known std p ≡ true) where
        abbrev reads : ℕ → ℕ → Goal → State → Step
        reads = read_within (grammar std)

        abbrev along_reads : ℕ → ℕ → Goal → State → Bool
        along_reads = along_within (grammar std) of_token of_node

        -- a goal that is read without a fault is read to the same state
        pub record Locked (fuel : ℕ) : Type 0 where
          pub parts : (depth : ℕ) (p : Production) (l : Label) (s s' : State) → Going l s → reads fuel depth (produce p) s ≡ Ok s'
              → along_reads fuel depth (produce p) s ≡ true → Known std a b s'.names.scopes s'.at (end_mood p)
              → reads fuel depth (produce p) (swapped b s) ≡ Ok (swapped b s')
          pub turns : (depth : ℕ) (t : Test) (x : Item) (l : Label) (m : Mood) (s s' : State) → placed l x ≡ true → fits std m (many t x) ≡ true → Going l s
              → reads fuel depth (repeat t x) s ≡ Ok s' → along_reads fuel depth (repeat t x) s ≡ true
              → Known std a b s'.names.scopes s'.at m → reads fuel depth (repeat t x) (swapped b s) ≡ Ok (swapped b s')

        parts_at : (fuel : ℕ) → Locked fuel → (depth : ℕ) (p : Production) (l : Label) (s s' : State) → Going l s → reads (suc fuel) depth (produce p) s ≡ Ok s'
            → along_reads (suc fuel) depth (produce p) s ≡ true → Known std a b s'.names.scopes s'.at (end_mood p)
            → reads (suc fuel) depth (produce p) (swapped b s) ≡ Ok (swapped b s')
        unfolding read_within along_within
        parts_at fuel locked depth p l s s' f e q k =
            let both = and_parts (are_known std p 1 ((grammar std).table p)) (decided std (is_second p) (start_mood std p) ((grammar std).table p)) (known p) in
            let begun = within_begins std a b Good kept of_token of_node asked known (suc fuel) depth p l s s' f e q in
            pick_locked (reads fuel) (along_reads fuel) (within_keeps std a Good kept known fuel) (within_begins std a b Good kept of_token of_node asked known fuel)
            (within_repeats std a b Good kept of_token of_node asked known fuel) locked.parts locked.turns
            p ((grammar std).table p) depth 1 l (start_mood std p) s s' both.0 both.1 begun.first begun.second f e q k

        turns_at : (fuel : ℕ) → Locked fuel → (depth : ℕ) (t : Test) (x : Item) (l : Label) (m : Mood) (s s' : State) → placed l x ≡ true → fits std m (many t x) ≡ true
            → Going l s → reads (suc fuel) depth (repeat t x) s ≡ Ok s' → along_reads (suc fuel) depth (repeat t x) s ≡ true
            → Known std a b s'.names.scopes s'.at m → reads (suc fuel) depth (repeat t x) (swapped b s) ≡ Ok (swapped b s')
        unfolding read_within along_within
        turns_at fuel locked depth t x l m s s' h g f e q k =
            step_locked (reads fuel) (along_reads fuel) (within_keeps std a Good kept known fuel) (within_begins std a b Good kept of_token of_node asked known fuel)
            (within_repeats std a b Good kept of_token of_node asked known fuel) locked.parts locked.turns
            (many t x) depth l m s s' h g f e q k

        none_parts : (depth : ℕ) (p : Production) (l : Label) (s s' : State) → Going l s → reads 0 depth (produce p) s ≡ Ok s'
            → along_reads 0 depth (produce p) s ≡ true → Known std a b s'.names.scopes s'.at (end_mood p)
            → reads 0 depth (produce p) (swapped b s) ≡ Ok (swapped b s')
        unfolding read_within
        none_parts depth p l s s' f e q k = absurd (stopped _ _ e)

        none_turns : (depth : ℕ) (t : Test) (x : Item) (l : Label) (m : Mood) (s s' : State) → placed l x ≡ true → fits std m (many t x) ≡ true → Going l s
            → reads 0 depth (repeat t x) s ≡ Ok s' → along_reads 0 depth (repeat t x) s ≡ true
            → Known std a b s'.names.scopes s'.at m → reads 0 depth (repeat t x) (swapped b s) ≡ Ok (swapped b s')
        unfolding read_within
        none_turns depth t x l m s s' h g f e q k = absurd (stopped _ _ e)

        pub locked : (fuel : ℕ) → Locked fuel
        locked zero = record { parts = none_parts; turns = none_turns }
        locked (suc fuel) = record { parts = parts_at fuel (locked fuel); turns = turns_at fuel (locked fuel) }
