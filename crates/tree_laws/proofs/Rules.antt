-- Which productions declare and which begin scopes, and what may stand in them.
use Rattle.std.proofs.Common.{ℕ, ◌+◌, ◌%◌, ◌≡◌, Bool, true, false, ◌&&◌, ◌||◌, not, if◌then◌else◌, ◌==◌, List, Option, refl, sym, ap, ◌∙◌}
use Rattle.std.proofs.lemmas.Bool.{false≢true, and_parts, not-true}
use Rattle.c99_grammar.specs.declared.dialects.Edition.{Edition}
use Rattle.cs_base.specs.Token.{Token}
use Rattle.c99_tree.specs.Tree.{Forest, none, token, node, leaf, inner, Node, put}
use Rattle.c99_tree.specs.declared.production.Label.{Label}
use Rattle.c99_tree.specs.declared.production.Production.{Production}
use Rattle.c99_tree.specs.declared.production.Production.TheVariants.{ExtRest, FunBody, InitDecl, Specs, Main, Mod, Enumerator, Declarator, Direct, Suffix, Params, Param, Pdecl, Pdirect, Primary, Block, Statement, Sub, Expr, Assign, Cond, Lor, Land, Bor, Bxor, Band, Equal, Relate, Shift, Add, Mul, Cast, Unary}
use Rattle.c99_grammar.specs.Items.{Item, one, part, end_of_text, act, ◌·◌, choice, maybe, many, deep}
use Rattle.c99_tree.specs.contracts.production.ProductionPartialEq.TheImpl.{ghosts}
use Rattle.c99_grammar.specs.Standard.{iso}
use Rattle.c99_read.specs.State.{base_at, is_identifier, collapses, nearest, is_mod, is_main, is_typedef_part, typedef_word_in, has_typedef}
use Rattle.scope_bind.specs.Named.{Scope}
use Rattle.c_types.specs.Trees.{is_at, is_node, has_node, has_mod, last_token}
use Rattle.name_chains.specs.Entering.{inner as inner_scope, is_scoped, scope_in}
use Rattle.tree_laws.specs.TypedefNames.{is_bodiless}
use Rattle.tree_laws.proofs.Outline.{Entry, Outline, added, is_listing, entries_in, in_declaration, in_parameter, entries_after, typedef_among, token_agrees, node_agrees}

abbrev pub labelled : Production → ℕ → Label
labelled p n = record { production = p; alternative = n }

-- nodes of the production say nothing to the node around them
abbrev pub is_tame : Production → Bool
is_tame Specs = false
is_tame Main = false
is_tame Mod = false
is_tame Enumerator = false
is_tame Declarator = false
is_tame Direct = false
is_tame Pdecl = false
is_tame Pdirect = false
is_tame p = is_bodiless p

abbrev pub is_specifier : Production → Bool
is_specifier Main = true
is_specifier Mod = true
is_specifier _ = false

abbrev pub in_main : Production → Bool
in_main Mod = true
in_main q = is_tame q

abbrev pub in_param : Production → Bool
in_param Specs = true
in_param q = is_tame q

abbrev pub held : Production → Production → Bool
held Specs q = is_specifier q
held Main q = in_main q
held Param q = in_param q
held InitDecl q = is_tame q
held ExtRest q = is_tame q
held p q = if collapses p then is_tame q else is_bodiless q

-- a node of the second production may stand in one of the first, where nothing is declared by that
abbrev pub may_hold : Production → Production → Bool
may_hold p q = held p q

-- no `main` stands directly in another one
abbrev pub is_main_apart : Label → Forest → Bool
is_main_apart l under = if is_node l Main then not (has_node Main under) else true

-- a node of the second production stands in one of the first at most so
abbrev pub stands : Production → Production → Bool
stands Specs q = is_specifier q
stands Main q = in_main q
stands p q = if collapses p then is_tame q else true

either_stands : (c x y : Bool) → (if c then x else y) ≡ true → (if c then x else true) ≡ true
either_stands true x y h = h
either_stands false x y h = refl

pub may_stand : (p q : Production) → may_hold p q ≡ true → stands p q ≡ true
may_stand Specs q h = h
may_stand Main q h = h
may_stand Param q h = refl
may_stand InitDecl q h = refl
may_stand ExtRest q h = refl
may_stand p q h = either_stands (collapses p) (is_tame q) (is_bodiless q) h

abbrev pub all_hold : Production → Forest → Bool
all_hold p none = true
all_hold p (token i rest) = all_hold p rest
all_hold p (node l first under rest) = stands p l.production && (is_main_apart l under && all_hold p rest)

pub all_three : (a b c : Bool) → a ≡ true → b ≡ true → c ≡ true → (a && (b && c)) ≡ true
all_three true true c h k m = m
all_three true false c h k m = k
all_three false b c h k m = h

pub hold_leaf : (p : Production) (f : Forest) (i : ℕ) → all_hold p f ≡ true → all_hold p (put f (leaf i)) ≡ true
hold_leaf p none i h = refl
hold_leaf p (token j rest) i h = hold_leaf p rest i h
hold_leaf p (node l first under rest) i h =
    let both = and_parts (stands p l.production) (is_main_apart l under && all_hold p rest) h in
    let more = and_parts (is_main_apart l under) (all_hold p rest) both.1 in
    all_three _ _ _ both.0 more.0 (hold_leaf p rest i more.1)

pub hold_inner : (p : Production) (f : Forest) (n : Node) → all_hold p f ≡ true → stands p n.label.production ≡ true
    → is_main_apart n.label n.under ≡ true → all_hold p (put f (inner n)) ≡ true
hold_inner p none n h k m = all_three _ _ true k m refl
hold_inner p (token j rest) n h k m = hold_inner p rest n h k m
hold_inner p (node l first under rest) n h k m =
    let both = and_parts (stands p l.production) (is_main_apart l under && all_hold p rest) h in
    let more = and_parts (is_main_apart l under) (all_hold p rest) both.1 in
    all_three _ _ _ both.0 more.0 (hold_inner p rest n more.1 k m)

no_main_in : (q : Production) → in_main q ≡ true → ghosts.eq q Main ≡ false
no_main_in Main h = absurd (false≢true h)
no_main_in _ h = refl

no_main : (f : Forest) → all_hold Main f ≡ true → has_node Main f ≡ false
no_main none h = refl
no_main (token i rest) h = no_main rest h
no_main (node l first under rest) h =
    let both = and_parts (in_main l.production) (is_main_apart l under && all_hold Main rest) h in
    let more = and_parts (is_main_apart l under) (all_hold Main rest) both.1 in
    ap (λ c. c || has_node Main rest) (no_main_in l.production both.0) ∙ no_main rest more.1

pub main_apart : (p : Production) (n : ℕ) (under : Forest) → all_hold p under ≡ true → is_main_apart (labelled p n) under ≡ true
main_apart Main n under h = ap not (no_main under h)
main_apart _ n under h = refl

-- ---- The word `typedef`

is_mod_same : (p : Production) → is_mod p ≡ ghosts.eq p Mod
is_mod_same Mod = refl
is_mod_same _ = refl

is_main_same : (p : Production) → is_main p ≡ ghosts.eq p Main
is_main_same Main = refl
is_main_same _ = refl

words_below : (f : Forest) → has_node Main f ≡ false → typedef_word_in f ≡ has_mod 1 f
words_below none h = refl
words_below (token i rest) h = words_below rest h
words_below (node l first under rest) h = by (ghosts.eq l.production Main) refl h (λ k. words_below rest k)
  where
    by : (c : Bool) → ghosts.eq l.production Main ≡ c → (c || has_node Main rest) ≡ false
        → (has_node Main rest ≡ false → typedef_word_in rest ≡ has_mod 1 rest) → ((is_mod l.production && (l.alternative == 1)) || typedef_word_in rest)
        ≡ ((ghosts.eq l.production Mod && (l.alternative == 1)) || ((ghosts.eq l.production Main && has_mod 1 under) || has_mod 1 rest))
    by true e k r = absurd (false≢true (sym k))
    by false e k r =
        ap (λ x. (x && (l.alternative == 1)) || typedef_word_in rest) (is_mod_same l.production)
        ∙ (ap (λ r. (ghosts.eq l.production Mod && (l.alternative == 1)) || r) (r k)
        ∙ sym (ap (λ c. (ghosts.eq l.production Mod && (l.alternative == 1)) || ((c && has_mod 1 under) || has_mod 1 rest)) e))

or_four : (a b c d : Bool) → b ≡ c → ((a || b) || d) ≡ (a || (c || d))
or_four true b c d e = refl
or_four false b c d e = ap (λ x. x || d) e

pub same_word : (f : Forest) → all_hold Specs f ≡ true → has_typedef f ≡ has_mod 1 f
same_word none h = refl
same_word (token i rest) h = same_word rest h
same_word (node l first under rest) h =
    let both = and_parts (is_specifier l.production) (is_main_apart l under && all_hold Specs rest) h in
    let more = and_parts (is_main_apart l under) (all_hold Specs rest) both.1 in
    ap (λ r. is_typedef_part l under || r) (same_word rest more.1)
    ∙ (ap (λ x. ((x && (l.alternative == 1)) || (is_main l.production && typedef_word_in under)) || has_mod 1 rest) (is_mod_same l.production)
    ∙ or_four (ghosts.eq l.production Mod && (l.alternative == 1)) _ _ (has_mod 1 rest)
    (ap (λ x. x && typedef_word_in under) (is_main_same l.production) ∙ main_case (ghosts.eq l.production Main) more.0))
  where
    main_case : (c : Bool) → (if c then not (has_node Main under) else true) ≡ true → (c && typedef_word_in under) ≡ (c && has_mod 1 under)
    main_case true k = words_below under (not-true (has_node Main under) k)
    main_case false k = refl

-- the nearest specifiers, once a node of the production is closed
pub nearest_same : (p : Production) (n : ℕ) (built : Node) (under : Forest) (near : Bool) → built.under ≡ under → all_hold p under ≡ true
    → nearest p built near ≡ (if is_node (labelled p n) Specs then has_mod 1 under else near)
nearest_same Specs n built under near e h = ap has_typedef e ∙ same_word under h
nearest_same _ n built under near e h = refl

pub tame_specs : (p : Production) → is_tame p ≡ true → ghosts.eq p Specs ≡ false
tame_specs Specs h = absurd (false≢true h)
tame_specs _ h = refl

pub tame_apart : (l : Label) (p : Production) (under : Forest) → l.production ≡ p → is_tame p ≡ true → is_main_apart l under ≡ true
tame_apart l Main under e h = absurd (false≢true h)
tame_apart l _ under e h = ap (λ q. if ghosts.eq q Main then not (has_node Main under) else true) e

pub collapsed_nearest : (p : Production) (built : Node) (near : Bool) → collapses p ≡ true → nearest p built near ≡ near
collapsed_nearest Specs built near h = absurd (false≢true h)
collapsed_nearest _ built near h = refl

-- tokens of the node mean nothing to ordinary names
abbrev pub is_quiet : Production → ℕ → Bool
is_quiet Primary n = not (n == 1)
is_quiet Main n = not (n == 4)
is_quiet Params n = not (n == 1)
is_quiet _ n = true

-- nothing in the item begins or ends a scope or declares, and nothing else than may stand in the node
abbrev pub fine : Label → Item → Bool
fine l (one classes) = is_quiet l.production l.alternative
fine l (part q) = may_hold l.production q
fine l end_of_text = true
fine l (act a) = false
fine l (a · b) = fine l a && fine l b
fine l (choice a b) = fine l a && fine l b
fine l (maybe a) = fine l a
fine l (many t a) = fine l a
fine l (deep a) = fine l a

-- a node has the scope around it
abbrev pub is_simple : Production → ℕ → Bool
is_simple Block n = false
is_simple FunBody n = false
is_simple Sub n = false
is_simple Enumerator n = false
is_simple Suffix n = not (n == 2)
is_simple Statement n = not (is_scoped n)
is_simple _ n = true

pub simple_scope : (p : Production) (n : ℕ) (under : Forest) (around : Scope) → is_simple p n ≡ true → scope_in p (labelled p n) under around ≡ around
simple_scope Block n under around h = absurd (false≢true h)
simple_scope FunBody n under around h = absurd (false≢true h)
simple_scope Sub n under around h = absurd (false≢true h)
simple_scope Suffix n under around h = ap (λ c. if c then inner_scope around (last_token under 0) else around) (not-true (n == 2) h)
simple_scope Statement n under around h = ap (λ c. if c then inner_scope around (last_token under 0 + 1) else around) (not-true (is_scoped n) h)
simple_scope _ n under around h = refl

pub simple_entries : (p : Production) (n first : ℕ) (under : Forest) (kept : Option ℕ) (depth : ℕ) (es : List Entry) → is_simple p n ≡ true
    → entries_in p first under kept depth es ≡ es
simple_entries FunBody n first under kept depth es h = absurd (false≢true h)
simple_entries _ n first under kept depth es h = refl

-- the declarations behind a node, where the node around it adds none
abbrev pub entries_alone : Production → ℕ → Outline → Forest → List Entry → List Entry
entries_alone Enumerator first o under es = added o first false (last_token under first) es
entries_alone _ first o under es = es

pub simple_alone : (p : Production) (n first : ℕ) (o : Outline) (under : Forest) (es : List Entry) → is_simple p n ≡ true → entries_alone p first o under es ≡ es
simple_alone Enumerator n first o under es h = absurd (false≢true h)
simple_alone _ n first o under es h = refl

declaration_alone : (q : Production) (o : Outline) (l : Label) (under : Forest) (es : List Entry) → held q Declarator ≡ true → in_declaration q o l under es ≡ es
declaration_alone ExtRest o l under es h = absurd (false≢true h)
declaration_alone InitDecl o l under es h = absurd (false≢true h)
declaration_alone _ o l under es h = refl

parameter_alone : (q : Production) (o : Outline) (l : Label) (under : Forest) (es : List Entry) → held q Pdecl ≡ true → in_parameter q o l under es ≡ es
parameter_alone Param o l under es h = absurd (false≢true h)
parameter_alone _ o l under es h = refl

pub after_alone : (q p : Production) (first : ℕ) (o : Outline) (l : Label) (under : Forest) (es : List Entry) → o.label.production ≡ q → may_hold q p ≡ true
    → entries_after p first o l under es ≡ entries_alone p first o under es
after_alone q Declarator first o l under es e h = ap (λ x. in_declaration x o l under es) e ∙ declaration_alone q o l under es h
after_alone q Pdecl first o l under es e h = ap (λ x. in_parameter x o l under es) e ∙ parameter_alone q o l under es h
after_alone q Enumerator first o l under es e h = refl
after_alone q _ first o l under es e h = refl

-- ---- Nodes that are replaced by their only child

pub collapsed_scope : (p : Production) (l : Label) (under : Forest) (around : Scope) → collapses p ≡ true → scope_in p l under around ≡ around
collapsed_scope Expr l under around h = refl
collapsed_scope Assign l under around h = refl
collapsed_scope Cond l under around h = refl
collapsed_scope Lor l under around h = refl
collapsed_scope Land l under around h = refl
collapsed_scope Bor l under around h = refl
collapsed_scope Bxor l under around h = refl
collapsed_scope Band l under around h = refl
collapsed_scope Equal l under around h = refl
collapsed_scope Relate l under around h = refl
collapsed_scope Shift l under around h = refl
collapsed_scope Add l under around h = refl
collapsed_scope Mul l under around h = refl
collapsed_scope Cast l under around h = refl
collapsed_scope Unary l under around h = refl
collapsed_scope _ l under around h = absurd (false≢true h)

pub collapsed_entries : (p : Production) (first : ℕ) (under : Forest) (kept : Option ℕ) (depth : ℕ) (es : List Entry) → collapses p ≡ true
    → entries_in p first under kept depth es ≡ es
collapsed_entries FunBody first under kept depth es h = absurd (false≢true h)
collapsed_entries _ first under kept depth es h = refl

-- what stands in one that is replaced is tame
pub collapsed_tame : (p q : Production) → collapses p ≡ true → stands p q ≡ true → is_tame q ≡ true
collapsed_tame Specs q h k = absurd (false≢true h)
collapsed_tame Main q h k = absurd (false≢true h)
collapsed_tame p q h k = collapsed_case (collapses p) h k
  where
    collapsed_case : (c : Bool) → c ≡ true → (if c then is_tame q else true) ≡ true → is_tame q ≡ true
    collapsed_case true e t = t
    collapsed_case false e t = absurd (false≢true e)

tame_told : (c : Production) → is_tame c ≡ true → is_bodiless c ≡ true
tame_told Specs h = refl
tame_told Main h = refl
tame_told Mod h = refl
tame_told Enumerator h = refl
tame_told Declarator h = refl
tame_told Direct h = refl
tame_told Pdecl h = refl
tame_told Pdirect h = refl
tame_told _ h = h

tame_in_main : (c : Production) → is_tame c ≡ true → in_main c ≡ true
tame_in_main Mod h = absurd (false≢true h)
tame_in_main _ h = h

tame_in_param : (c : Production) → is_tame c ≡ true → in_param c ≡ true
tame_in_param Specs h = absurd (false≢true h)
tame_in_param _ h = h

no_specifier : (p : Production) → collapses p ≡ true → is_specifier p ≡ true → ⊥
no_specifier Main h k = false≢true h
no_specifier Mod h k = false≢true h
no_specifier _ h k = false≢true k

either_held : (c x y : Bool) → x ≡ true → y ≡ true → (if c then x else y) ≡ true
either_held true x y h k = h
either_held false x y h k = k

-- .. and its child may stand where it may
pub collapsed_held : (q p c : Production) → collapses p ≡ true → is_tame c ≡ true → may_hold q p ≡ true → may_hold q c ≡ true
collapsed_held Specs p c h t k = absurd (no_specifier p h k)
collapsed_held Main p c h t k = tame_in_main c t
collapsed_held Param p c h t k = tame_in_param c t
collapsed_held InitDecl p c h t k = t
collapsed_held ExtRest p c h t k = t
collapsed_held q p c h t k = either_held (collapses q) (is_tame c) (is_bodiless c) t (tame_told c t)

-- a tame node declares nothing, and is no specifiers
pub tame_alone : (p : Production) (first : ℕ) (o : Outline) (under : Forest) (es : List Entry) → is_tame p ≡ true → entries_alone p first o under es ≡ es
tame_alone Enumerator first o under es h = absurd (false≢true h)
tame_alone _ first o under es h = refl

pub quiet_listing : (p : Production) (a k : ℕ) → is_quiet p a ≡ true → is_listing p a k ≡ false
quiet_listing Params a k h = ap (λ c. c && (k % 2 == 0)) (not-true (a == 1) h)
quiet_listing _ a k h = refl

pub collapsed_alone : (p : Production) (first : ℕ) (o : Outline) (under : Forest) (es : List Entry) → collapses p ≡ true → entries_alone p first o under es ≡ es
collapsed_alone Enumerator first o under es h = absurd (false≢true h)
collapsed_alone _ first o under es h = refl

pub after_tame : (p : Production) (first : ℕ) (o : Outline) (l : Label) (under : Forest) (es : List Entry) → is_tame p ≡ true
    → entries_after p first o l under es ≡ es
after_tame Declarator first o l under es h = absurd (false≢true h)
after_tame Pdecl first o l under es h = absurd (false≢true h)
after_tame Enumerator first o l under es h = absurd (false≢true h)
after_tame _ first o l under es h = refl

in_main_told : (q : Production) → in_main q ≡ true → is_bodiless q ≡ true
in_main_told Mod h = refl
in_main_told q h = tame_told q h

in_param_told : (q : Production) → in_param q ≡ true → is_bodiless q ≡ true
in_param_told Specs h = refl
in_param_told q h = tame_told q h

specifier_told : (q : Production) → is_specifier q ≡ true → is_bodiless q ≡ true
specifier_told Main h = refl
specifier_told Mod h = refl
specifier_told _ h = absurd (false≢true h)

either_told : (c x y : Bool) → (x ≡ true → y ≡ true) → (if c then x else y) ≡ true → y ≡ true
either_told true x y f h = f h
either_told false x y f h = h

pub held_told : (p q : Production) → may_hold p q ≡ true → is_bodiless q ≡ true
held_told Specs q h = specifier_told q h
held_told Main q h = in_main_told q h
held_told Param q h = in_param_told q h
held_told InitDecl q h = tame_told q h
held_told ExtRest q h = tame_told q h
held_told p q h = either_told (collapses p) (is_tame q) (is_bodiless q) (tame_told q) h

module _ (std : Edition) where
  -- ---- Tokens

  pub quiet_token : (toks : List Token) (p : Production) (a k i : ℕ) (es : List Entry) → is_quiet p a ≡ true → token_agrees std toks p a k i es ≡ true
  quiet_token toks Primary a k i es h = ap (λ c. if c then not (typedef_among std toks i es) else true) (not-true (a == 1) h)
  quiet_token toks Main a k i es h = ap (λ c. if c && (k == 0) then typedef_among std toks i es else true) (not-true (a == 4) h)
  quiet_token toks Params a k i es h = ap (λ c. if c && (k % 2 == 0) then not (typedef_among std toks i es) else true) (not-true (a == 1) h)
  quiet_token toks _ a k i es h = refl

  pub plain_named : (toks : List Token) (p : Production) (n first : ℕ) (es : List Entry) → (is_at (labelled p n) Pdirect 2) ≡ false
      → node_agrees std toks (labelled p n) first es ≡ true
  plain_named toks p n first es h =
      ap (λ c. if c then not (is_identifier (base_at (iso std) toks (first + 1))) || not (typedef_among std toks (first + 1) es) else true) h
