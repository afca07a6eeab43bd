-- Calls, bodies, parameter lists and bare names are the same of narrowed trees.
use Rattle.std.proofs.Common.{ℕ, ◌+◌, ◌≡◌, Bool, true, false, ◌&&◌, ◌||◌, not, if◌then◌else◌, ◌==◌, List, [], ◌∷◌, ◌++◌, ◌%◌, Option, None, Some, refl, sym, ap, ◌∙◌}
use Rattle.std.specs.Option.{option_or}
use Rattle.std.proofs.lemmas.Bool.{and_parts, not-true, false≢true}
use Rattle.std.proofs.lemmas.List.{append-nil}
use Rattle.cs_base.proofs.OptionLemmas.{option_or-None as or_none}
use Rattle.cs_base.proofs.BoolLemmas.{chosen}
use Rattle.c99_tree.specs.Tree.{Forest, none, token, node}
use Rattle.c99_tree.specs.declared.production.Label.{Label}
use Rattle.c99_tree.specs.declared.production.Production.{Production}
use Rattle.c99_tree.specs.declared.production.Production.TheVariants.{ExtRest, Declarator, FunBody, Unary, Primary, Post, Params, Suffix, Pointer, Pdirect}
use Rattle.c_types.specs.declared.lists.List.{List as NameList}
use Rattle.c_types.specs.Trees.{name_below, is_node, is_at, is_list, first_token, last_token, is_aside}
use Rattle.c_types.specs.Lists.{odd_tokens, commas_in, list_of, call_in, calls_in, body_of, tail_of, definition_in, bodies_in, nearest_of, own_list, declarator_in, is_declaring, lists_in, even_tokens, name_in, bare_at, bare_in}
use Rattle.tree_laws.specs.Narrowed.{renumbered, is_member, is_line, spread_if, narrowed}
use Rattle.tree_laws.proofs.Standing.{within, kids, is_good, is_line_body, formed}
use Rattle.tree_laws.proofs.StandardSteps.{labelled}
use Rattle.tree_laws.proofs.Narrowing.{IsNode, narrows}
use Rattle.tree_laws.proofs.Asked.{at-same, first_token-same, last_token-same, name_below-same, below_node, node_no_line}

-- no line of members stands among the children
abbrev pub apart : Forest → Bool
apart f = kids (λ q. not (is_member q)) f

no_line : (l : Label) → not (is_member l.production) ≡ true → is_line l ≡ false
no_line l e = rw (not-true (is_member l.production) e) refl

first_apart : (l : Label) (rest : Forest) → (not (is_member l.production) && apart rest) ≡ true → is_line l ≡ false
first_apart l rest e = no_line l ((and_parts (not (is_member l.production)) (apart rest) e).0)

-- ---- Lists

pub odd_tokens-same : (k : ℕ) (f : Forest) → odd_tokens k (narrowed f) ≡ odd_tokens k f
odd_tokens-same k none = refl
odd_tokens-same k (token i rest) = ap (λ x. if k % 2 == 1 then i ∷ x else x) (odd_tokens-same (k + 1) rest)
odd_tokens-same k (node l first under rest) = odd_tokens-same (k + 1) rest

commas-same : (f : Forest) → apart f ≡ true → commas_in (narrowed f) ≡ commas_in f
commas-same none e = refl
commas-same (token i rest) e = commas-same rest e
commas-same (node l first under rest) e = rw (first_apart l rest e) (odd_tokens-same 0 under)

pub list_of-same : (name : ℕ) (f : Forest) → apart f ≡ true → formed true f ≡ true → list_of name (narrowed f) ≡ list_of name f
list_of-same name f e h = rw (first_token-same f 0, last_token-same f h 0, commas-same f e) refl

-- what stands below the nodes among some children
below_first : (l : Label) (first : ℕ) (under rest : Forest) → formed true (node l first under rest) ≡ true → (kids (within l.production) under ≡ true) × ((formed true under ≡ true) × (formed true rest ≡ true))
below_first l first under rest h =
    let a = and_parts (is_good true l under) (formed true under && formed true rest) h in
    let b = and_parts (formed true under) (formed true rest) a.1 in
    let c = and_parts (not (is_line l) || is_line_body under) _ a.0 in
    ((and_parts (kids (within l.production) under) _ c.1).0, b)

-- ---- Calls

post_within : (p q : Production) → is_node (labelled p 0) Post ≡ true → within p q ≡ true → not (is_member q) ≡ true
post_within Post q e h = h
post_within _ q e h = absurd (false≢true e)

post_apart : (p : Production) (f : Forest) → is_node (labelled p 0) Post ≡ true → kids (within p) f ≡ true → apart f ≡ true
post_apart p none e h = refl
post_apart p (token i rest) e h = post_apart p rest e h
post_apart p (node l first under rest) e h =
    let parts = and_parts (within p l.production) (kids (within p) rest) h in
    rw (post_within p l.production e parts.0, post_apart p rest e parts.1) refl

call_at : (l m : Label) (i begin : ℕ) (list rest : Forest) → formed true (node m begin list rest) ≡ true
    → (if is_at l Primary 1 && is_at m Post 2 then list_of i (narrowed list) ∷ [] else []) ≡ (if is_at l Primary 1 && is_at m Post 2 then list_of i list ∷ [] else [])
call_at l m i begin list rest h =
    let parts = below_first m begin list rest h in
    by (is_at l Primary 1) (is_node m Post) refl (λ e. list_of-same i list (post_apart m.production list e parts.0) parts.1.0)
  where
    by : (b c : Bool) → is_node m Post ≡ c → (c ≡ true → list_of i (narrowed list) ≡ list_of i list)
        → (if b && (c && (m.alternative == 2)) then list_of i (narrowed list) ∷ [] else []) ≡ (if b && (c && (m.alternative == 2)) then list_of i list ∷ [] else [])
    by b true e h = ap (λ x. if b && (true && (m.alternative == 2)) then x ∷ [] else []) (h refl)
    by true false e h = refl
    by false false e h = refl

call-same : (f : Forest) → apart f ≡ true → formed true f ≡ true → call_in (narrowed f) ≡ call_in f
call-same none e h = refl
call-same (token i rest) e h = refl
call-same (node l first (token i none) none) e h = rw (first_apart l none e) refl
call-same (node l first (token i none) (token k rest)) e h = rw (first_apart l (token k rest) e) refl
call-same (node l first (token i none) (node m begin list rest)) e h =
    let parts = and_parts (not (is_member l.production)) (apart (node m begin list rest)) e in
    let below = below_first l first (token i none) (node m begin list rest) h in
    rw (first_apart l (node m begin list rest) e, first_apart m rest parts.1, at-same l Primary 1 refl, at-same m Post 2 refl) (call_at l m i begin list rest below.1.1)
call-same (node l first none rest) e h = rw (first_apart l rest e) refl
call-same (node l first (node x second below more) rest) e h = rw (first_apart l rest e) refl
call-same (node l first (token i (token k more)) rest) e h = rw (first_apart l rest e) refl
call-same (node l first (token i (node x second below more)) rest) e h = rw (first_apart l rest e) refl

unary_within : (p q : Production) → is_node (labelled p 0) Unary ≡ true → within p q ≡ true → not (is_member q) ≡ true
unary_within Unary q e h = h
unary_within _ q e h = absurd (false≢true e)

-- a production in which no line of members stands
kids_apart : (p : Production) (f : Forest) → ((q : Production) → within p q ≡ true → not (is_member q) ≡ true) → kids (within p) f ≡ true → apart f ≡ true
kids_apart p none k h = refl
kids_apart p (token i rest) k h = kids_apart p rest k h
kids_apart p (node l first under rest) k h =
    let parts = and_parts (within p l.production) (kids (within p) rest) h in
    rw (k l.production parts.0, kids_apart p rest k parts.1) refl

abbrev CallsSame : Forest → Forest → Type 0
CallsSame g f = calls_in g ≡ calls_in f

pub calls-same : (f : Forest) → formed true f ≡ true → calls_in (narrowed f) ≡ calls_in f
calls-same =
    narrows CallsSame refl (λ i rest e. e)
    (λ l first under rest known e r.
    ap (λ x. (x ++ calls_in (narrowed under)) ++ calls_in (narrowed rest))
    (chosen (is_node l Unary) (call_in (narrowed under)) (call_in under) []
    (λ u. call-same under (kids_apart l.production under (λ q. unary_within l.production q u) known.kids_are) known.sound))
    ∙ (ap (λ x. ((if is_node l Unary then call_in under else []) ++ x) ++ calls_in (narrowed rest)) e
    ∙ ap (λ x. ((if is_node l Unary then call_in under else []) ++ calls_in under) ++ x) r))
    (λ first start second n j specs below rest known e b r.
    ap (λ x. (x ++ calls_in (narrowed below)) ++ calls_in (narrowed rest)) e
    ∙ (ap (λ x. (calls_in specs ++ x) ++ calls_in (narrowed rest)) (b ∙ sym (append-nil (calls_in below)))
    ∙ ap (λ x. (calls_in specs ++ (calls_in below ++ [])) ++ x) r))

-- ---- Bodies

body-same : (name : ℕ) (f : Forest) → formed true f ≡ true → body_of name (narrowed f) ≡ body_of name f
body-same name none h = refl
body-same name (token i rest) h = refl
body-same name (node l first under rest) h =
    let below = below_first l first under rest h in
    below_node l FunBody (λ u. record { name = name; from = first_token u 0; to = last_token u 0 } ∷ []) under [] refl
    (rw (first_token-same under 0, last_token-same under below.1.0 0) refl)

tail-same : (o : Option ℕ) (f : Forest) → apart f ≡ true → formed true f ≡ true → tail_of o (narrowed f) ≡ tail_of o f
tail-same None none e h = refl
tail-same None (token i rest) e h = refl
tail-same None (node l first under rest) e h = refl
tail-same (Some name) none e h = refl
tail-same (Some name) (token i rest) e h = refl
tail-same (Some name) (node l first under rest) e h =
    rw (first_apart l rest e) (body-same name under ((below_first l first under rest h).1.0))

definition-same : (f : Forest) → apart f ≡ true → formed true f ≡ true → definition_in (narrowed f) ≡ definition_in f
definition-same none e h = refl
definition-same (token i rest) e h = refl
definition-same (node l first under rest) e h =
    let parts = and_parts (not (is_member l.production)) (apart rest) e in
    rw (first_apart l rest e, name_below-same l under) (tail-same (name_below l under) rest parts.1 ((below_first l first under rest h).1.1))

rest_within : (p q : Production) → is_node (labelled p 0) ExtRest ≡ true → within p q ≡ true → not (is_member q) ≡ true
rest_within ExtRest q e h = h
rest_within _ q e h = absurd (false≢true e)

abbrev BodiesSame : Forest → Forest → Type 0
BodiesSame g f = bodies_in g ≡ bodies_in f

pub bodies-same : (f : Forest) → formed true f ≡ true → bodies_in (narrowed f) ≡ bodies_in f
bodies-same =
    narrows BodiesSame refl (λ i rest e. e)
    (λ l first under rest known e r.
    ap (λ x. (if is_node l ExtRest then definition_in (narrowed under) else x) ++ bodies_in (narrowed rest)) e
    ∙ (ap (λ x. x ++ bodies_in (narrowed rest))
    (chosen (is_node l ExtRest) (definition_in (narrowed under)) (definition_in under) (bodies_in under)
    (λ u. definition-same under (kids_apart l.production under (λ q. rest_within l.production q u) known.kids_are) known.sound))
    ∙ ap (λ x. (if is_node l ExtRest then definition_in under else bodies_in under) ++ x) r))
    (λ first start second n j specs below rest known e b r.
    ap (λ x. (x ++ bodies_in (narrowed below)) ++ bodies_in (narrowed rest)) e
    ∙ (ap (λ x. (bodies_in specs ++ x) ++ bodies_in (narrowed rest)) (b ∙ sym (append-nil (bodies_in below)))
    ∙ ap (λ x. (bodies_in specs ++ (bodies_in below ++ [])) ++ x) r))

-- ---- Parameter lists

-- the list that stands nearest, as one of the name
abbrev listed : ℕ → Option (Option Forest) → Option (Option NameList)
listed name None = None
listed name (Some None) = Some None
listed name (Some (Some f)) = Some (Some (list_of name f))

listed-or : (name : ℕ) (a b : Option (Option Forest)) → listed name (option_or a b) ≡ option_or (listed name a) (listed name b)
listed-or name None b = refl
listed-or name (Some None) b = refl
listed-or name (Some (Some f)) b = refl

abbrev NearSame : Forest → Forest → Type 0
NearSame g f = (name : ℕ) → listed name (nearest_of g) ≡ listed name (nearest_of f)

suffix_within : (p q : Production) → is_node (labelled p 0) Suffix ≡ true → within p q ≡ true → not (is_member q) ≡ true
suffix_within Suffix q e h = h
suffix_within _ q e h = absurd (false≢true e)

or_same : (name : ℕ) (a a' b b' : Option (Option Forest)) → listed name a ≡ listed name a' → listed name b ≡ listed name b' → listed name (option_or a b) ≡ listed name (option_or a' b')
or_same name a a' b b' e h =
    listed-or name a b ∙ (ap (λ x. option_or x (listed name b)) e ∙ (ap (λ x. option_or (listed name a') x) h ∙ sym (listed-or name a' b')))

near_suffix : (l : Label) (under : Forest) → IsNode l under → is_node l Suffix ≡ true → (name : ℕ)
    → listed name (Some (if is_list (renumbered l) then Some (narrowed under) else None)) ≡ listed name (Some (if is_list l then Some under else None))
near_suffix l under known u name =
    ap (λ b. listed name (Some (if b then Some (narrowed under) else None))) (at-same l Suffix 2 refl)
    ∙ by (is_list l) (list_of-same name under (kids_apart l.production under (λ q. suffix_within l.production q u) known.kids_are) known.sound)
  where
    by : (b : Bool) → list_of name (narrowed under) ≡ list_of name under
        → listed name (Some (if b then Some (narrowed under) else None)) ≡ listed name (Some (if b then Some under else None))
    by true e = ap (λ x. Some (Some x)) e
    by false e = refl

near_node : (l : Label) (under rest : Forest) → IsNode l under → NearSame (narrowed under) under → NearSame (narrowed rest) rest → (b c : Bool) → is_node l Suffix ≡ b → (name : ℕ)
    → listed name (if b then Some (if is_list (renumbered l) then Some (narrowed under) else None)
    else (if c then option_or (nearest_of (narrowed rest)) (Some None) else option_or (if is_aside l then None else nearest_of (narrowed under)) (nearest_of (narrowed rest))))
    ≡ listed name (if b then Some (if is_list l then Some under else None)
    else (if c then option_or (nearest_of rest) (Some None) else option_or (if is_aside l then None else nearest_of under) (nearest_of rest)))
near_node l under rest known e r true c u name = near_suffix l under known u name
near_node l under rest known e r false true u name = or_same name (nearest_of (narrowed rest)) (nearest_of rest) (Some None) (Some None) (r name) refl
near_node l under rest known e r false false u name =
    or_same name (if is_aside l then None else nearest_of (narrowed under)) (if is_aside l then None else nearest_of under) (nearest_of (narrowed rest)) (nearest_of rest)
    (by (is_aside l)) (r name)
  where
    by : (a : Bool) → listed name (if a then None else nearest_of (narrowed under)) ≡ listed name (if a then None else nearest_of under)
    by true = refl
    by false = e name

nearest-same : (f : Forest) → formed true f ≡ true → NearSame (narrowed f) f
nearest-same =
    narrows NearSame (λ name. refl) (λ i rest e name. e name)
    (λ l first under rest known e r name. near_node l under rest known e r (is_node l Suffix) (is_node l Pointer) refl name)
    (λ first start second n j specs below rest known e b r name.
    or_same name (option_or (nearest_of (narrowed specs)) (nearest_of (narrowed below))) (option_or (nearest_of specs) (option_or (nearest_of below) None))
    (nearest_of (narrowed rest)) (nearest_of rest)
    (or_same name (nearest_of (narrowed specs)) (nearest_of specs) (nearest_of (narrowed below)) (option_or (nearest_of below) None) (e name)
    (b name ∙ sym (ap (listed name) (or_none (nearest_of below)))))
    (r name))

-- the list alone counts
own_as : Option (Option NameList) → List NameList
own_as (Some (Some list)) = list ∷ []
own_as _ = []

own_is : (name : ℕ) (o : Option (Option Forest)) → own_list (Some name) o ≡ own_as (listed name o)
unfolding own_as
own_is name None = refl
own_is name (Some None) = refl
own_is name (Some (Some f)) = refl

own_none : (o : Option (Option Forest)) → own_list None o ≡ []
own_none None = refl
own_none (Some None) = refl
own_none (Some (Some f)) = refl

own-same : (name : Option ℕ) (a b : Option (Option Forest)) → ((k : ℕ) → listed k a ≡ listed k b) → own_list name a ≡ own_list name b
own-same None a b e = own_none a ∙ sym (own_none b)
own-same (Some name) a b e = own_is name a ∙ (ap own_as (e name) ∙ sym (own_is name b))

declarator-same : (f : Forest) → formed true f ≡ true → declarator_in (narrowed f) ≡ declarator_in f
declarator-same none h = refl
declarator-same (token i rest) h = refl
declarator-same (node l first under rest) h =
    chosen (is_node l Declarator) (own_list (name_below (renumbered l) (spread_if (is_line l) (narrowed under))) (nearest_of (spread_if (is_line l) (narrowed under))))
    (own_list (name_below l under) (nearest_of under)) []
    (λ u. rw (node_no_line l Declarator refl u)
    (ap (λ x. own_list x (nearest_of (narrowed under))) (name_below-same l under)
    ∙ own-same (name_below l under) (nearest_of (narrowed under)) (nearest_of under) (nearest-same under ((below_first l first under rest h).1.0))))

abbrev ListsSame : Forest → Forest → Type 0
ListsSame g f = lists_in g ≡ lists_in f

pub lists-same : (f : Forest) → formed true f ≡ true → lists_in (narrowed f) ≡ lists_in f
lists-same =
    narrows ListsSame refl (λ i rest e. e)
    (λ l first under rest known e r.
    ap (λ x. ((if is_declaring l then x else []) ++ lists_in (narrowed under)) ++ lists_in (narrowed rest)) (declarator-same under known.sound)
    ∙ (ap (λ x. ((if is_declaring l then declarator_in under else []) ++ x) ++ lists_in (narrowed rest)) e
    ∙ ap (λ x. ((if is_declaring l then declarator_in under else []) ++ lists_in under) ++ x) r))
    (λ first start second n j specs below rest known e b r.
    ap (λ x. (x ++ lists_in (narrowed below)) ++ lists_in (narrowed rest)) e
    ∙ (ap (λ x. (lists_in specs ++ x) ++ lists_in (narrowed rest)) (b ∙ sym (append-nil (lists_in below)))
    ∙ ap (λ x. (lists_in specs ++ (lists_in below ++ [])) ++ x) r))

-- ---- Bare names

name_in_node : (m : Label) (b : Bool) (l : Label) (p first begin : ℕ) (list rest more : Forest)
    → name_in (token p (node (renumbered l) first (node (renumbered m) begin (spread_if b (narrowed list)) (narrowed rest)) (narrowed more)))
    ≡ name_in (token p (node l first (node m begin list rest) more))
name_in_node m true l p first begin none rest more = refl
name_in_node m false l p first begin none rest more = refl
name_in_node m true l p first begin (token i list) rest more = ap (λ b. if b then i ∷ [] else []) (at-same m Pdirect 1 refl)
name_in_node m false l p first begin (token i list) rest more = ap (λ b. if b then i ∷ [] else []) (at-same m Pdirect 1 refl)
name_in_node m false l p first begin (node x second below list) rest more = refl
name_in_node m true l p first begin (node x second below none) rest more = refl
name_in_node m true l p first begin (node x second below (token i list)) rest more = refl
name_in_node m true l p first begin (node x second below (node y third last none)) rest more = refl
name_in_node m true l p first begin (node x second below (node y third last (token i list))) rest more = refl
name_in_node m true l p first begin (node x second below (node y third last (node z fourth deep list))) rest more = refl

name-same : (f : Forest) → apart f ≡ true → name_in (narrowed f) ≡ name_in f
name-same none e = refl
name-same (node l first under rest) e = refl
name-same (token p none) e = refl
name-same (token p (token i rest)) e = refl
name-same (token p (node l first none more)) e = rw (first_apart l more e) refl
name-same (token p (node l first (token i rest) more)) e = rw (first_apart l more e) refl
name-same (token p (node l first (node m begin list rest) more)) e =
    rw (first_apart l more e) (name_in_node m (is_line m) l p first begin list rest more)

direct_within : (p q : Production) → is_node (labelled p 0) Pdirect ≡ true → within p q ≡ true → not (is_member q) ≡ true
direct_within Pdirect q e h = h
direct_within _ q e h = absurd (false≢true e)

bare_name : (l : Label) (under : Forest) → IsNode l under → (if is_at l Pdirect 2 then name_in (narrowed under) else []) ≡ (if is_at l Pdirect 2 then name_in under else [])
bare_name l under known =
    chosen (is_at l Pdirect 2) (name_in (narrowed under)) (name_in under) []
    (λ u. name-same under (kids_apart l.production under (λ q. direct_within l.production q ((and_parts (is_node l Pdirect) (l.alternative == 2) u).0)) known.kids_are))

bare_node : (l : Label) (under : Forest) → IsNode l under → bare_at (renumbered l) (narrowed under) ≡ bare_at l under
bare_node l under known =
    ap (λ b. if b then even_tokens (narrowed under) else (if is_at (renumbered l) Pdirect 2 then name_in (narrowed under) else [])) (at-same l Params 1 refl)
    ∙ (ap (λ b. if is_at l Params 1 then even_tokens (narrowed under) else (if b then name_in (narrowed under) else [])) (at-same l Pdirect 2 refl)
    ∙ (ap (λ x. if is_at l Params 1 then x else (if is_at l Pdirect 2 then name_in (narrowed under) else [])) (odd_tokens-same 1 under)
    ∙ ap (λ x. if is_at l Params 1 then even_tokens under else x) (bare_name l under known)))

abbrev BareSame : Forest → Forest → Type 0
BareSame g f = bare_in g ≡ bare_in f

pub bare-same : (f : Forest) → formed true f ≡ true → bare_in (narrowed f) ≡ bare_in f
bare-same =
    narrows BareSame refl (λ i rest e. e)
    (λ l first under rest known e r.
    ap (λ x. (x ++ bare_in (narrowed under)) ++ bare_in (narrowed rest)) (bare_node l under known)
    ∙ (ap (λ x. (bare_at l under ++ x) ++ bare_in (narrowed rest)) e ∙ ap (λ x. (bare_at l under ++ bare_in under) ++ x) r))
    (λ first start second n j specs below rest known e b r.
    ap (λ x. (x ++ bare_in (narrowed below)) ++ bare_in (narrowed rest)) e
    ∙ (ap (λ x. (bare_in specs ++ x) ++ bare_in (narrowed rest)) (b ∙ sym (append-nil (bare_in below)))
    ∙ ap (λ x. (bare_in specs ++ (bare_in below ++ [])) ++ x) r))
