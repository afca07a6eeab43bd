-- Lists and bodies stand in the order of the tokens that they are called by.
use Rattle.std.proofs.Common.{ℕ, ◌+◌, ◌<◌, ◌≤◌, ◌≡◌, Bool, true, false, ◌&&◌, ◌||◌, not, if◌then◌else◌, List, [], ◌∷◌, ◌++◌, Option, None, Some, ◌⊎◌, inl, inr, refl, sym, ap, subst, ◌∙◌, arith}
use Rattle.std.specs.Prelude.{IfSome}
use Rattle.std.proofs.lemmas.Bool.{and_parts, or_parts, false≢true}
use Rattle.cs_base.proofs.BoolLemmas.{declarator_form}
use Rattle.c99_tree.specs.Tree.{Forest, none, token, node}
use Rattle.c99_tree.specs.declared.production.Label.{Label}
use Rattle.c99_tree.specs.declared.production.Production.{Production}
use Rattle.c99_tree.specs.declared.production.Production.TheVariants.{ExtRest, InitDecl, Declarator, FunBody, Unary, Primary, Post}
use Rattle.c99_tree.specs.contracts.production.ProductionPartialEq.TheImpl.{ghosts}
use Rattle.c_types.specs.declared.lists.List.{List as NameList}
use Rattle.c_types.specs.declared.lists.Range.{Range}
use Rattle.c_types.specs.Trees.{is_node, is_at, name_below, first_token, last_token}
use Rattle.c_types.specs.Lists.{list_of, call_in, calls_in, body_of, tail_of, definition_in, bodies_in, nearest_of, own_list, declarator_in, is_declaring, lists_in}
use Rattle.tree_laws.specs.TreesOfTexts.{token_count, AreFrom, has_token, has_body, has_declaring, has_form, have_forms, have_plain_declarators}
use Rattle.tree_laws.proofs.Noted.{Within, name_within, form_here, forms_under, forms_behind}
use Rattle.tree_laws.proofs.Climbing.{Climbs, climbs_lower, climbs_append, Laid, laid_append}

abbrev pub name_of_list : NameList → ℕ
name_of_list l = l.name

higher : (k n : ℕ) (ls : List NameList) → Climbs name_of_list (k + 1) (k + 1 + n) ls → Climbs name_of_list (k + 1) (k + (n + 1)) ls
higher k n ls h =
    let e : k + 1 + n ≡ k + (n + 1) = omega arith in subst (λ m. Climbs name_of_list (k + 1) m ls) e h

moved : (k n m : ℕ) (ls : List NameList) → Climbs name_of_list (k + n) (k + n + m) ls → Climbs name_of_list (k + n) (k + (n + m)) ls
moved k n m ls h =
    let e : k + n + m ≡ k + (n + m) = omega arith in subst (λ i. Climbs name_of_list (k + n) i ls) e h

-- ---- Calls

-- the calls behind the first child
abbrev CallsBehind : ℕ → Forest → Type 0
CallsBehind k (node l first under rest) = Climbs name_of_list (k + token_count under) (k + (token_count under + token_count rest)) (calls_in rest)
CallsBehind k _ = Unit {0}

empty_if : (c : Bool) (ls : List NameList) → ((if c then [] else []) ++ []) ++ ls ≡ ls
empty_if true ls = refl
empty_if false ls = refl

call_case : (c d : Bool) (k high i : ℕ) (l : NameList) (calls : List NameList) → l.name ≡ i → i ≡ k → Climbs name_of_list (k + 1) high calls
    → Climbs name_of_list k high ((if c then l ∷ [] else []) ++ (((if d then [] else []) ++ []) ++ calls))
call_case true d k high i l calls e at h = (
  omega (arith, e, at),
  climbs_lower name_of_list (l.name + 1) (k + 1) high (((if d then [] else []) ++ []) ++ calls) (omega (arith, e, at))
      (subst (λ (x : List NameList). Climbs name_of_list (k + 1) high x) (sym (empty_if d calls)) h),
)
call_case false d k high i l calls e at h =
    subst (λ (x : List NameList). Climbs name_of_list k high x) (sym (empty_if d calls)) (climbs_lower name_of_list k (k + 1) high calls (omega arith) h)

call_climbs : (under : Forest) (k : ℕ) → AreFrom k under → Climbs name_of_list k (k + token_count under) (calls_in under) → CallsBehind k under
    → Climbs name_of_list k (k + token_count under) (call_in under ++ calls_in under)
call_climbs (node l first (token i none) (node m begin list rest)) k w whole behind =
    call_case (is_at l Primary 1 && is_at m Post 2) (is_node l Unary) k (k + (1 + (token_count list + token_count rest))) i (list_of i list)
    (calls_in (node m begin list rest)) refl w.1.0 behind
call_climbs _ k w whole behind = whole

if_calls : (c : Bool) (k high : ℕ) (here below : List NameList) → Climbs name_of_list k high (here ++ below) → Climbs name_of_list k high below
    → Climbs name_of_list k high ((if c then here else []) ++ below)
if_calls true k high here below h b = h
if_calls false k high here below h b = b

-- the calls of some children climb, and so do those behind the first child
calls_both : (f : Forest) (k : ℕ) → AreFrom k f → (Climbs name_of_list k (k + token_count f) (calls_in f)) × CallsBehind k f
calls_both none k w = (omega arith, tt)
calls_both (token i rest) k w =
    let behind = calls_both rest (k + 1) w.1 in
    (climbs_lower name_of_list k (k + 1) (k + (token_count rest + 1)) (calls_in rest) (omega arith) (higher k (token_count rest) (calls_in rest) behind.0), tt)
calls_both (node l first under rest) k w =
    let below = calls_both under k w.1 in
    let behind = calls_both rest (k + token_count under) w.2 in
    let later : Climbs name_of_list (k + token_count under) (k + (token_count under + token_count rest)) (calls_in rest) = moved k (token_count under) (token_count rest) (calls_in rest) behind.0 in (
      climbs_append name_of_list k (k + token_count under) (k + (token_count under + token_count rest)) ((if is_node l Unary then call_in under else []) ++ calls_in under) (calls_in rest)
          (if_calls (is_node l Unary) k (k + token_count under) (call_in under) (calls_in under) (call_climbs under k w.1 below.0 below.1) below.0) later,
      later,
    )

pub calls_climb : (f : Forest) (k : ℕ) → AreFrom k f → Climbs name_of_list k (k + token_count f) (calls_in f)
calls_climb f k w = (calls_both f k w).0

-- ---- Parameter lists

-- those behind the first child
abbrev ListsBehind : ℕ → Forest → Type 0
ListsBehind k (node l first under rest) = Climbs name_of_list (k + token_count under) (k + (token_count under + token_count rest)) (lists_in rest)
ListsBehind k _ = Unit {0}

if_none : {X : Type 0} (c : Bool) (xs : List X) → c ≡ false → (if c then xs else []) ≡ []
if_none true xs e = absurd (false≢true (sym e))
if_none false xs e = refl

-- where nothing is declared there is no list
lists_none : (f : Forest) → has_declaring f ≡ false → lists_in f ≡ []
lists_none none h = refl
lists_none (token i rest) h = lists_none rest h
lists_none (node l first under rest) h =
    let more : (has_declaring under || has_declaring rest) ≡ false = (or_parts (is_declaring l) (has_declaring under || has_declaring rest) h).1 in
    ap (λ x. (x ++ lists_in under) ++ lists_in rest) (if_none (is_declaring l) (declarator_in under) ((or_parts (is_declaring l) (has_declaring under || has_declaring rest) h).0))
    ∙ (ap (λ x. x ++ lists_in rest) (lists_none under ((or_parts (has_declaring under) (has_declaring rest) more).0))
    ∙ lists_none rest ((or_parts (has_declaring under) (has_declaring rest) more).1))

-- what is so of the first child, below it and behind it
plain_parts : (l : Label) (first : ℕ) (under rest : Forest) → have_plain_declarators (node l first under rest) ≡ true
    → ((not (is_node l Declarator) || not (has_declaring under)) ≡ true) × ((have_plain_declarators under ≡ true) × (have_plain_declarators rest ≡ true))
plain_parts l first under rest h =
    let here = and_parts (not (is_node l Declarator) || not (has_declaring under)) (have_plain_declarators under && have_plain_declarators rest) h in
    (here.0, and_parts (have_plain_declarators under) (have_plain_declarators rest) here.1)

declarator_declares : (l : Label) (p : Production) → l.production ≡ p → ghosts.eq p Declarator ≡ true → is_declaring l ≡ false
declarator_declares l Declarator e same = ap (λ q. ghosts.eq q ExtRest || ghosts.eq q InitDecl) e
declarator_declares l _ e same = absurd (false≢true same)

own_climbs : (o : Option ℕ) (n : Option (Option Forest)) (k j high : ℕ) (behind : List NameList) → IfSome o (λ i. (k ≤ i) × (i < j)) → k ≤ j
    → Climbs name_of_list j high behind → Climbs name_of_list k high (own_list o n ++ behind)
own_climbs None n k j high behind w less h = climbs_lower name_of_list k j high behind less h
own_climbs (Some i) None k j high behind w less h = climbs_lower name_of_list k j high behind less h
own_climbs (Some i) (Some None) k j high behind w less h = climbs_lower name_of_list k j high behind less h
own_climbs (Some i) (Some (Some list)) k j high behind w less h = (w.0, climbs_lower name_of_list (i + 1) j high behind (omega (arith, w.1)) h)

declarator_case : (c : Bool) (k j high : ℕ) (o : Option ℕ) (n : Option (Option Forest)) (all behind : List NameList) → (c ≡ true → all ≡ behind)
    → IfSome o (λ i. (k ≤ i) × (i < j)) → k ≤ j → Climbs name_of_list k high all → Climbs name_of_list j high behind
    → Climbs name_of_list k high ((if c then own_list o n else []) ++ all)
declarator_case true k j high o n all behind same w less h b =
    subst (λ (x : List NameList). Climbs name_of_list k high (own_list o n ++ x)) (sym (same refl)) (own_climbs o n k j high behind w less b)
declarator_case false k j high o n all behind same w less h b = h

-- in front of a declarator's own list nothing is declared
declarator_alone : (l : Label) (under rest : Forest) → (not (is_node l Declarator) || not (has_declaring under)) ≡ true → is_node l Declarator ≡ true
    → ((if is_declaring l then declarator_in under else []) ++ lists_in under) ++ lists_in rest ≡ lists_in rest
declarator_alone l under rest form same =
    ap (λ x. (x ++ lists_in under) ++ lists_in rest) (if_none (is_declaring l) (declarator_in under) (declarator_declares l l.production refl same))
    ∙ ap (λ x. x ++ lists_in rest) (lists_none under (declarator_form (is_node l Declarator) (has_declaring under) form same))

declarator_climbs : (under : Forest) (k : ℕ) → AreFrom k under → have_plain_declarators under ≡ true → Climbs name_of_list k (k + token_count under) (lists_in under)
    → ListsBehind k under → Climbs name_of_list k (k + token_count under) (declarator_in under ++ lists_in under)
declarator_climbs none k w forms whole behind = whole
declarator_climbs (token i rest) k w forms whole behind = whole
declarator_climbs (node l first under rest) k w forms whole behind =
    declarator_case (is_node l Declarator) k (k + token_count under) (k + (token_count under + token_count rest)) (name_below l under) (nearest_of under)
    (lists_in (node l first under rest)) (lists_in rest) (declarator_alone l under rest (plain_parts l first under rest forms).0)
    (name_within l under k w.1) (omega arith) whole behind

lists_both : (f : Forest) (k : ℕ) → AreFrom k f → have_plain_declarators f ≡ true → (Climbs name_of_list k (k + token_count f) (lists_in f)) × ListsBehind k f
lists_both none k w forms = (omega arith, tt)
lists_both (token i rest) k w forms =
    let behind = lists_both rest (k + 1) w.1 forms in
    (climbs_lower name_of_list k (k + 1) (k + (token_count rest + 1)) (lists_in rest) (omega arith) (higher k (token_count rest) (lists_in rest) behind.0), tt)
lists_both (node l first under rest) k w forms =
    let parts = plain_parts l first under rest forms in
    let below = lists_both under k w.1 parts.1.0 in
    let behind = lists_both rest (k + token_count under) w.2 parts.1.1 in
    let later : Climbs name_of_list (k + token_count under) (k + (token_count under + token_count rest)) (lists_in rest) = moved k (token_count under) (token_count rest) (lists_in rest) behind.0 in (
      climbs_append name_of_list k (k + token_count under) (k + (token_count under + token_count rest)) ((if is_declaring l then declarator_in under else []) ++ lists_in under) (lists_in rest)
          (if_calls (is_declaring l) k (k + token_count under) (declarator_in under) (lists_in under)
          (declarator_climbs under k w.1 parts.1.0 below.0 below.1) below.0) later,
      later,
    )

pub lists_climb : (f : Forest) (k : ℕ) → AreFrom k f → have_plain_declarators f ≡ true → Climbs name_of_list k (k + token_count f) (lists_in f)
lists_climb f k w forms = (lists_both f k w forms).0

-- ---- Bodies

first_within : (f : Forest) (j d : ℕ) → AreFrom j f → has_token f ≡ true → Within j (token_count f) (first_token f d)
first_within none j d w h = absurd (false≢true h)
first_within (token i rest) j d w h = (omega (arith, w.0), omega (arith, w.0))
first_within (node l first under rest) j d w h =
    let more = first_within rest (j + token_count under) d w.2 h in (omega (arith, more.0), omega (arith, more.1))

-- the last token stands at the end, or there is none
last_at_end : (f : Forest) (j d : ℕ) → AreFrom j f → (last_token f d + 1 ≡ j + token_count f) ⊎ ((token_count f ≡ 0) × (last_token f d ≡ d))
last_at_end none j d w = inr (refl, refl)
last_at_end (token i rest) j d w = elim (last_at_end rest (j + 1) i w.1) [
  | inl end ↦ inl (omega (arith, end))
  | inr no' ↦ inl (omega (arith, no'.0, no'.1, w.0))
]
last_at_end (node l first under rest) j d w = elim (last_at_end rest (j + token_count under) (last_token under d) w.2) [
  | inl end ↦ inl (omega (arith, end))
  | inr no' ↦ elim (last_at_end under j d w.1) [
    | inl end ↦ inl (omega (arith, no'.0, no'.1, end))
    | inr none' ↦ inr (omega (arith, no'.0, none'.0), no'.1 ∙ none'.1)
  ]
]

body_form : (p : Production) (under : Forest) → ghosts.eq p FunBody ≡ true → has_form p under ≡ true → has_token under ≡ true
body_form FunBody under same form = (and_parts (has_token under) (not (has_body under)) form).0
body_form _ under same form = absurd (false≢true same)

ends_laid : (under : Forest) (name k j high : ℕ) → k ≤ name → name < j → AreFrom j under → has_token under ≡ true → j + token_count under ≤ high
    → Laid k high (record { name = name; from = first_token under 0; to = last_token under 0 } ∷ [])
ends_laid under name k j high from behind w has within =
    let first : Within j (token_count under) (first_token under 0) = first_within under j 0 w has in
    elim (last_at_end under j 0 w) [
      | inl end ↦ (from, omega (arith, first.0, behind), omega (arith, first.1, end), omega (arith, end, within))
      | inr no' ↦ absurd (omega (arith, no'.0, first.0, first.1))
    ]

body_case : (l : Label) (under : Forest) (c : Bool) (name k j high : ℕ) → is_node l FunBody ≡ c → has_form l.production under ≡ true → k ≤ name → name < j → AreFrom j under
    → j + token_count under ≤ high → Laid k high (if c then record { name = name; from = first_token under 0; to = last_token under 0 } ∷ [] else [])
body_case l under true name k j high e form from behind w within = ends_laid under name k j high from behind w (body_form l.production under e form) within
body_case l under false name k j high e form from behind w within = omega arith

body_laid : (under : Forest) (name k j high : ℕ) → k ≤ name → name < j → AreFrom j under → have_forms under ≡ true → j + token_count under ≤ high
    → Laid k high (body_of name under)
body_laid none name k j high from behind w forms within = omega arith
body_laid (token i rest) name k j high from behind w forms within = omega arith
body_laid (node l first under rest) name k j high from behind w forms within =
    body_case l under (is_node l FunBody) name k j high refl (form_here l.production under rest forms) from behind w.1 (omega arith)

tail_laid : (o : Option ℕ) (rest : Forest) (k j high : ℕ) → IfSome o (λ i. (k ≤ i) × (i < j)) → k ≤ j → AreFrom j rest → have_forms rest ≡ true → j + token_count rest ≤ high
    → Laid k high (tail_of o rest)
tail_laid None rest k j high w less a forms within = omega arith
tail_laid (Some i) none k j high w less a forms within = omega arith
tail_laid (Some i) (token t rest) k j high w less a forms within = omega arith
tail_laid (Some i) (node l first under rest) k j high w less a forms within =
    body_laid under i k j high w.0 w.1 a.1 (forms_under l.production under rest forms) (omega arith)

definition_laid : (under : Forest) (k : ℕ) → AreFrom k under → have_forms under ≡ true → Laid k (k + token_count under) (definition_in under)
definition_laid none k w forms = omega arith
definition_laid (token i rest) k w forms = omega arith
definition_laid (node l first under rest) k w forms =
    tail_laid (name_below l under) rest k (k + token_count under) (k + (token_count under + token_count rest)) (name_within l under k w.1) (omega arith) w.2
    (forms_behind l.production under rest forms) (omega arith)

if_laid : (c : Bool) (k high : ℕ) (rs ss : List Range) → Laid k high rs → Laid k high ss → Laid k high (if c then rs else ss)
if_laid true k high rs ss h g = h
if_laid false k high rs ss h g = g

pub bodies_laid : (f : Forest) (k : ℕ) → AreFrom k f → have_forms f ≡ true → Laid k (k + token_count f) (bodies_in f)
bodies_laid none k w forms = omega arith
bodies_laid (token i rest) k w forms =
    let e : k + 1 + token_count rest ≡ k + (token_count rest + 1) = omega arith in
    laid_append k (k + 1) (k + (token_count rest + 1)) [] (bodies_in rest) (omega arith)
    (subst (λ n. Laid (k + 1) n (bodies_in rest)) e (bodies_laid rest (k + 1) w.1 forms))
bodies_laid (node l first under rest) k w forms =
    let e : k + token_count under + token_count rest ≡ k + (token_count under + token_count rest) = omega arith in
    laid_append k (k + token_count under) (k + (token_count under + token_count rest)) (if is_node l ExtRest then definition_in under else bodies_in under) (bodies_in rest)
    (if_laid (is_node l ExtRest) k (k + token_count under) (definition_in under) (bodies_in under)
    (definition_laid under k w.1 (forms_under l.production under rest forms)) (bodies_laid under k w.1 (forms_under l.production under rest forms)))
    (subst (λ n. Laid (k + token_count under) n (bodies_in rest)) e (bodies_laid rest (k + token_count under) w.2 (forms_behind l.production under rest forms)))
