-- Names that agree with a tree agree with it behind a typedef of the empty word.
use Rattle.std.proofs.Common.{ℕ, ◌+◌, ◌≡◌, Bool, true, false, ◌&&◌, ◌||◌, not, if◌then◌else◌, ◌==◌, ◌%◌, List, [], ◌∷◌, ◌++◌, Option, None, Some, nat_lt, refl, sym, ap, ◌∙◌, arith, eqb-true}
use Rattle.std.specs.Prelude.{find}
use Rattle.std.specs.Option.{option_map_or, option_or}
use Rattle.std.proofs.lemmas.Bool.{false≢true, and_parts, or_parts}
use Rattle.c99_grammar.specs.declared.dialects.Edition.{Edition}
use Rattle.cs_base.specs.Token.{Token}
use Rattle.cs_base.proofs.BoolLemmas.{no_case}
use Rattle.c99_tree.specs.Tree.{Forest, none, token, node}
use Rattle.c99_tree.specs.declared.production.Label.{Label}
use Rattle.c99_tree.specs.declared.production.Production.{Production}
use Rattle.c99_tree.specs.declared.production.Production.TheVariants.{ExtRest, FunBody, InitDecl, Main, Params, Primary, Pdirect, Specs, Enumerator, Declarator, Param, Pdecl, Block, Suffix, Sub, Statement, Mod}
use Rattle.c99_grammar.specs.Standard.{iso}
use Rattle.c99_read.specs.State.{base_at, spelling_at, is_identifier}
use Rattle.scope_bind.specs.Named.{Scope}
use Rattle.c_types.specs.Trees.{is_node, is_at, last_token, name_below, has_mod, first_list, has_name, holds_name, is_list}
use Rattle.c_types.specs.Declarations.{alike}
use Rattle.name_chains.specs.Entering.{inner, is_scoped, scope_in}
use Rattle.tree_laws.proofs.Outline.{Entry, entry, Outline, added, is_listing, stepped, copies, kept_entries, entries_in, begun, named_entries, in_declaration, in_parameter, entries_after, ended, outlined, is_open, typedef_among, token_agrees, node_agrees, all_agree}
use Rattle.reordered_text_laws.specs.Fronted.{fronted, used, up, raised, has_leaf, is_filled, has_some}
use Rattle.reordered_text_laws.proofs.FrontNames.{up_option}
use Rattle.reordered_text_laws.proofs.FrontClasses.{eq_up, base_up, other_way}
use Rattle.reordered_text_laws.proofs.FrontSteps.{lt_up}

-- ---- Trees

last_up : (f : Forest) (k : ℕ) → last_token (raised f) (up k) ≡ up (last_token f k)
last_up none k = refl
last_up (token i rest) k = last_up rest i
last_up (node l first under rest) k = ap (last_token (raised rest)) (last_up under k) ∙ last_up rest (last_token under k)

last_any : (f : Forest) (j k : ℕ) → has_leaf f ≡ true → last_token f j ≡ last_token f k
last_any none j k h = absurd (false≢true h)
last_any (token i rest) j k h = refl
last_any (node l first under rest) j k h = by (has_leaf under) refl (λ e. last_any under j k e) (λ e. last_any rest (last_token under j) (last_token under k) e)
  where
    by : (c : Bool) → has_leaf under ≡ c → (has_leaf under ≡ true → last_token under j ≡ last_token under k)
        → (has_leaf rest ≡ true → last_token rest (last_token under j) ≡ last_token rest (last_token under k)) → last_token rest (last_token under j) ≡ last_token rest (last_token under k)
    by true e f g = ap (last_token rest) (f e)
    by false e f g = g (ap (λ b. b || has_leaf rest) (sym e) ∙ h)

leaf_up : (f : Forest) → has_leaf (raised f) ≡ has_leaf f
leaf_up none = refl
leaf_up (token i rest) = refl
leaf_up (node l first under rest) = ap (λ b. b || has_leaf (raised rest)) (leaf_up under) ∙ ap (λ b. has_leaf under || b) (leaf_up rest)

last_zero : (f : Forest) → has_leaf f ≡ true → last_token (raised f) 0 ≡ up (last_token f 0)
last_zero f h = last_any (raised f) 0 (up 0) (leaf_up f ∙ h) ∙ last_up f 0

below_up : (l : Label) (f : Forest) → name_below l (raised f) ≡ up_option (name_below l f)
below_up l none = refl
below_up l (token i rest) = by (has_name l) (below_up l rest)
  where
    by : (c : Bool) → name_below l (raised rest) ≡ up_option (name_below l rest)
        → (if c then Some (up i) else name_below l (raised rest)) ≡ up_option (if c then Some i else name_below l rest)
    by true e = refl
    by false e = e
below_up l (node m first under rest) = by (holds_name m.production) (below_up m under) (below_up l rest)
  where
    by : (c : Bool) → name_below m (raised under) ≡ up_option (name_below m under) → name_below l (raised rest) ≡ up_option (name_below l rest)
        → (if c then name_below m (raised under) else name_below l (raised rest)) ≡ up_option (if c then name_below m under else name_below l rest)
    by true e k = e
    by false e k = k

mod_up : (n : ℕ) (f : Forest) → has_mod n (raised f) ≡ has_mod n f
mod_up n none = refl
mod_up n (token i rest) = mod_up n rest
mod_up n (node l first under rest) =
    ap (λ b. is_at l Mod n || ((is_node l Main && b) || has_mod n (raised rest))) (mod_up n under) ∙ ap (λ b. is_at l Mod n || ((is_node l Main && has_mod n under) || b)) (mod_up n rest)

or_up : (a b : Option ℕ) → option_or (up_option a) (up_option b) ≡ up_option (option_or a b)
or_up None b = refl
or_up (Some i) b = refl

list_up : (f : Forest) → is_filled f ≡ true → first_list (raised f) ≡ up_option (first_list f)
list_up none h = refl
list_up (token i rest) h = list_up rest h
list_up (node l first under rest) h =
    let a = and_parts (has_leaf under) (is_filled under && is_filled rest) h in
    let b = and_parts (is_filled under) (is_filled rest) a.1 in
    by (is_list l) (last_zero under a.0) (list_up under b.0) (list_up rest b.1)
  where
    by : (c : Bool) → last_token (raised under) 0 ≡ up (last_token under 0) → first_list (raised under) ≡ up_option (first_list under) → first_list (raised rest) ≡ up_option (first_list rest)
        → (if c then Some (last_token (raised under) 0) else option_or (first_list (raised under)) (first_list (raised rest)))
        ≡ up_option (if c then Some (last_token under 0) else option_or (first_list under) (first_list rest))
    by true e k m = ap (λ j. Some j) e
    by false e k m = ap (λ x. option_or x (first_list (raised rest))) k ∙ (ap (option_or (up_option (first_list under))) m ∙ or_up (first_list under) (first_list rest))

-- ---- Scopes

abbrev up_scope : Scope → Scope
up_scope s = record { depth = s.depth; to = up s.to }

one_up : (n : ℕ) → up n + 1 ≡ up (n + 1)
one_up n = omega arith

inner_up : (s : Scope) (to to' : ℕ) → to' ≡ up to → inner (up_scope s) to' ≡ up_scope (inner s to)
inner_up s to to' e = ap (inner (up_scope s)) e

inner_more : (s : Scope) (to to' : ℕ) → to' ≡ up to → inner (up_scope s) (to' + 1) ≡ up_scope (inner s (to + 1))
inner_more s to to' e = ap (λ k. inner (up_scope s) (k + 1)) e ∙ ap (inner (up_scope s)) (one_up to)

if_up : (c : Bool) (a b : Scope) (a' b' : Scope) → a' ≡ up_scope a → b' ≡ up_scope b → (if c then a' else b') ≡ up_scope (if c then a else b)
if_up true a b a' b' e k = e
if_up false a b a' b' e k = k

scope_up : (p : Production) (l : Label) (f : Forest) (s : Scope) → last_token (raised f) 0 ≡ up (last_token f 0) → scope_in p l (raised f) (up_scope s) ≡ up_scope (scope_in p l f s)
scope_up Block l f s e = inner_up s (last_token f 0) (last_token (raised f) 0) e
scope_up FunBody l f s e = inner_up s (last_token f 0) (last_token (raised f) 0) e
scope_up Suffix l f s e = if_up (is_list l) (inner s (last_token f 0)) s (inner (up_scope s) (last_token (raised f) 0)) (up_scope s) (inner_up s (last_token f 0) (last_token (raised f) 0) e) refl
scope_up Sub l f s e = inner_more s (last_token f 0) (last_token (raised f) 0) e
scope_up Statement l f s e =
    if_up (is_scoped l.alternative) (inner s (last_token f 0 + 1)) s (inner (up_scope s) (last_token (raised f) 0 + 1)) (up_scope s) (inner_more s (last_token f 0) (last_token (raised f) 0) e) refl
scope_up _ l f s e = refl

-- ---- Declarations

abbrev up_entry : Entry → Entry
up_entry e = record { name_at = up e.name_at; typedef = e.typedef; depth = e.depth; from = up e.from; to = up e.to; member = e.member }

abbrev up_all : List Entry → List Entry
up_all [] = []
up_all (e ∷ es) = up_entry e ∷ up_all es

module _ (end : ℕ) where
  -- that of the typedef, whose range ends with the text
  abbrev front_entry : Entry
  front_entry = entry 2 true 0 3 (up end)

  abbrev pub up_entries : List Entry → List Entry
  up_entries es = up_all es ++ (front_entry ∷ [])

  abbrev pub up_outline : Outline → Outline
  up_outline o = record {
    entries = up_entries o.entries;
    label = o.label;
    nth = o.nth;
    scope = up_scope o.scope;
    typedef = o.typedef;
    kept = up_option o.kept;
  }

  added_up : (o : Outline) (i : ℕ) (t : Bool) (last last' : ℕ) (es : List Entry) → last' ≡ up last → added (up_outline o) (up i) t last' (up_entries es) ≡ up_entries (added o i t last es)
  added_up o i t last last' es e =
      ap (λ k. entry (up i) t o.scope.depth (k + 1) (up o.scope.to) ∷ up_entries es) e ∙ ap (λ k. entry (up i) t o.scope.depth k (up o.scope.to) ∷ up_entries es) (one_up last)

  token_up : (i : ℕ) (o : Outline) → stepped (up i) (up_outline o) ≡ up_outline (stepped i o)
  token_up i o = by (is_listing o.label.production o.label.alternative o.nth)
    where
      by : (c : Bool) → record (up_outline o) { entries = if c then added (up_outline o) (up i) false (up i) (up_entries o.entries) else up_entries o.entries; nth = o.nth + 1 }
          ≡ up_outline (record o { entries = if c then added o i false i o.entries else o.entries; nth = o.nth + 1 })
      by true = ap (λ es. record (up_outline o) { entries = es; nth = o.nth + 1 }) (added_up o i false i (up i) o.entries refl)
      by false = refl

  and_false : (a b : Bool) → (a && (false && b)) ≡ false
  and_false true b = refl
  and_false false b = refl

  no_front : (depth : ℕ) → (0 == depth + 1) ≡ false
  no_front depth = no_case (0 == depth + 1) (λ e. (let same : 0 ≡ depth + 1 = eqb-true 0 (depth + 1) e in omega (arith, same)))

  copies_up : (list depth from to : ℕ) (es : List Entry) → copies (up list) (depth + 1) (up from) (up to) (up_entries es) ≡ up_all (copies list (depth + 1) from to es)
  copies_up list depth from to [] =
      ap (λ c. if c then (record front_entry { from = up from; to = up to } ∷ []) else [])
      (ap (λ b. (up end == up list) && (b && true)) (no_front depth) ∙ and_false (up end == up list) true)
  copies_up list depth from to (e ∷ es) =
      ap (λ c. if c && ((e.depth == depth + 1) && not e.member) then (record (up_entry e) { from = up from; to = up to } ∷ copies (up list) (depth + 1) (up from) (up to) (up_entries es))
      else copies (up list) (depth + 1) (up from) (up to) (up_entries es)) (eq_up e.to list)
      ∙ (ap (λ xs. if (e.to == list) && ((e.depth == depth + 1) && not e.member) then (record (up_entry e) { from = up from; to = up to } ∷ xs) else xs) (copies_up list depth from to es)
      ∙ by ((e.to == list) && ((e.depth == depth + 1) && not e.member)))
    where
      by : (c : Bool) → (if c then (record (up_entry e) { from = up from; to = up to } ∷ up_all (copies list (depth + 1) from to es)) else up_all (copies list (depth + 1) from to es))
          ≡ up_all (if c then (record e { from = from; to = to } ∷ copies list (depth + 1) from to es) else copies list (depth + 1) from to es)
      by true = refl
      by false = refl

  up_more : (xs es : List Entry) → up_all xs ++ up_entries es ≡ up_entries (xs ++ es)
  up_more [] es = refl
  up_more (x ∷ xs) es = ap (λ (ys : List Entry). up_entry x ∷ ys) (up_more xs es)

  kept_up : (kept : Option ℕ) (depth from to : ℕ) (es : List Entry) → kept_entries (up_option kept) (depth + 1) (up from) (up to) (up_entries es) ≡ up_entries (kept_entries kept (depth + 1) from to es)
  kept_up None depth from to es = refl
  kept_up (Some list) depth from to es = ap (λ xs. xs ++ up_entries es) (copies_up list depth from to es) ∙ up_more (copies list (depth + 1) from to es) es

  in_up : (p : Production) (first : ℕ) (f : Forest) (kept : Option ℕ) (depth : ℕ) (es : List Entry) → last_token (raised f) 0 ≡ up (last_token f 0)
      → entries_in p (up first) (raised f) (up_option kept) depth (up_entries es) ≡ up_entries (entries_in p first f kept depth es)
  in_up FunBody first f kept depth es e =
      ap (λ k. kept_entries (up_option kept) (depth + 1) (up first) k (up_entries es)) e ∙ kept_up kept depth first (last_token f 0) es
  in_up _ first f kept depth es e = refl

  begun_up : (l : Label) (first : ℕ) (f : Forest) (o : Outline) → has_leaf f ≡ true → begun l (up first) (raised f) (up_outline o) ≡ up_outline (begun l first f o)
  begun_up l first f o h =
      ap (λ es. record { entries = es; label = l; nth = 0; scope = scope_in l.production l (raised f) (up_scope o.scope); typedef = o.typedef; kept = up_option o.kept })
      (in_up l.production first f o.kept o.scope.depth o.entries (last_zero f h))
      ∙ ap (λ s. record { entries = up_entries (entries_in l.production first f o.kept o.scope.depth o.entries); label = l; nth = 0; scope = s; typedef = o.typedef; kept = up_option o.kept })
      (scope_up l.production l f o.scope (last_zero f h))

  named_up : (o : Outline) (i : Option ℕ) (f : Forest) (es : List Entry) → named_entries (up_outline o) (up_option i) (raised f) (up_entries es) ≡ up_entries (named_entries o i f es)
  named_up o None f es = refl
  named_up o (Some i) f es = added_up o i o.typedef (last_token f i) (last_token (raised f) (up i)) es (last_up f i)

  below_named : (o : Outline) (l : Label) (f : Forest) (es : List Entry)
      → named_entries (up_outline o) (name_below l (raised f)) (raised f) (up_entries es) ≡ up_entries (named_entries o (name_below l f) f es)
  below_named o l f es = ap (λ i. named_entries (up_outline o) i (raised f) (up_entries es)) (below_up l f) ∙ named_up o (name_below l f) f es

  declaration_up : (p : Production) (o : Outline) (l : Label) (f : Forest) (es : List Entry) → in_declaration p (up_outline o) l (raised f) (up_entries es) ≡ up_entries (in_declaration p o l f es)
  declaration_up ExtRest o l f es = below_named o l f es
  declaration_up InitDecl o l f es = below_named o l f es
  declaration_up _ o l f es = refl

  parameter_up : (p : Production) (o : Outline) (l : Label) (f : Forest) (es : List Entry) → in_parameter p (up_outline o) l (raised f) (up_entries es) ≡ up_entries (in_parameter p o l f es)
  parameter_up Param o l f es = below_named o l f es
  parameter_up _ o l f es = refl

  after_up : (p : Production) (first : ℕ) (o : Outline) (l : Label) (f : Forest) (es : List Entry)
      → entries_after p (up first) (up_outline o) l (raised f) (up_entries es) ≡ up_entries (entries_after p first o l f es)
  after_up Declarator first o l f es = declaration_up o.label.production o l f es
  after_up Pdecl first o l f es = parameter_up o.label.production o l f es
  after_up Enumerator first o l f es = added_up o first false (last_token f first) (last_token (raised f) (up first)) es (last_up f first)
  after_up _ first o l f es = refl

  ended_up : (l : Label) (first : ℕ) (f : Forest) (o o' : Outline) → is_filled f ≡ true → ended l (up first) (raised f) (up_outline o) (up_outline o') ≡ up_outline (ended l first f o o')
  ended_up l first f o o' h =
      ap (λ es. record (up_outline o) {
        entries = es;
        nth = o.nth + 1;
        typedef = if is_node l Specs then has_mod 1 (raised f) else o.typedef;
        kept = if is_node l Declarator then first_list (raised f) else up_option o.kept;
      }) (after_up l.production first o l f o'.entries)
      ∙ (ap (λ t. record (up_outline o) {
        entries = up_entries (entries_after l.production first o l f o'.entries);
        nth = o.nth + 1;
        typedef = if is_node l Specs then t else o.typedef;
        kept = if is_node l Declarator then first_list (raised f) else up_option o.kept;
      }) (mod_up 1 f)
      ∙ ap (λ k. record (up_outline o) {
        entries = up_entries (entries_after l.production first o l f o'.entries);
        nth = o.nth + 1;
        typedef = if is_node l Specs then has_mod 1 f else o.typedef;
        kept = k;
      }) (kept_by (is_node l Declarator)))
    where
      kept_by : (c : Bool) → (if c then first_list (raised f) else up_option o.kept) ≡ up_option (if c then first_list f else o.kept)
      kept_by true = list_up f h
      kept_by false = refl

  outlined_up : (f : Forest) (o : Outline) → is_filled f ≡ true → outlined (raised f) (up_outline o) ≡ up_outline (outlined f o)
  outlined_up none o h = refl
  outlined_up (token i rest) o h = ap (outlined (raised rest)) (token_up i o) ∙ outlined_up rest (stepped i o) h
  outlined_up (node l first under rest) o h =
      let a = and_parts (has_leaf under) (is_filled under && is_filled rest) h in
      let b = and_parts (is_filled under) (is_filled rest) a.1 in
      ap (λ x. outlined (raised rest) (ended l (up first) (raised under) (up_outline o) (outlined (raised under) x))) (begun_up l first under o a.0)
      ∙ (ap (λ x. outlined (raised rest) (ended l (up first) (raised under) (up_outline o) x)) (outlined_up under (begun l first under o) b.0)
      ∙ (ap (outlined (raised rest)) (ended_up l first under o (outlined under (begun l first under o)) b.0)
      ∙ outlined_up rest (ended l first under o (outlined under (begun l first under o))) b.1))

  -- ---- What is asked

  module _ (z : List Token) where
    open_up : (i : ℕ) (e : Entry) → is_open (up i) (up_entry e) ≡ is_open i e
    open_up i e = ap (λ b. not b && nat_lt (up i) (up e.to)) (lt_up i e.from) ∙ ap (λ b. not (nat_lt i e.from) && b) (lt_up i e.to)

    abbrev meets : List Token → ℕ → Entry → Bool
    meets toks i e = alike toks i e.name_at && is_open i e

    typedef_up : (std : Edition) (i : ℕ) (es : List Entry) → used z i ≡ false → typedef_among std (fronted z) (up i) (up_entries es) ≡ typedef_among std z i es
    typedef_up std i [] plain =
        ap (λ b. option_map_or (λ (e : Entry). e.typedef) (if b && is_open (up i) front_entry then Some front_entry else None) false) (other_way (spelling_at z i) plain)
    typedef_up std i (e ∷ es) plain =
        ap (λ b. option_map_or (λ (x : Entry). x.typedef) (if alike z i e.name_at && b then Some (up_entry e) else find (meets (fronted z) (up i)) (up_entries es)) false) (open_up i e)
        ∙ by (meets z i e) (typedef_up std i es plain)
      where
        by : (c : Bool) → option_map_or (λ (x : Entry). x.typedef) (find (meets (fronted z) (up i)) (up_entries es)) false ≡ option_map_or (λ (x : Entry). x.typedef) (find (meets z i) es) false
            → option_map_or (λ (x : Entry). x.typedef) (if c then Some (up_entry e) else find (meets (fronted z) (up i)) (up_entries es)) false
            ≡ option_map_or (λ (x : Entry). x.typedef) (if c then Some e else find (meets z i) es) false
        by true k = refl
        by false k = k

    if_same : (c x y : Bool) → x ≡ y → (if c then x else true) ≡ (if c then y else true)
    if_same c x y e = ap (λ v. if c then v else true) e

    token_same : (std : Edition) (p : Production) (a k i : ℕ) (es : List Entry) → used z i ≡ false
        → token_agrees std (fronted z) p a k (up i) (up_entries es) ≡ token_agrees std z p a k i es
    token_same std Main a k i es h = if_same ((a == 4) && (k == 0)) _ _ (typedef_up std i es h)
    token_same std Primary a k i es h = if_same (a == 1) _ _ (ap not (typedef_up std i es h))
    token_same std Params a k i es h = if_same ((a == 1) && (k % 2 == 0)) _ _ (ap not (typedef_up std i es h))
    token_same std _ a k i es h = refl

    module _ (std : Edition) (named : (k : ℕ) → is_identifier (base_at (iso std) z k) ≡ true → used z k ≡ false) where
      node_same : (l : Label) (first : ℕ) (es : List Entry) → node_agrees std (fronted z) l (up first) (up_entries es) ≡ node_agrees std z l first es
      node_same l first es =
          ap (λ k. if is_at l Pdirect 2 then not (is_identifier (base_at (iso std) (fronted z) k)) || not (typedef_among std (fronted z) k (up_entries es)) else true) (one_up first)
          ∙ (ap (λ c. if is_at l Pdirect 2 then not (is_identifier c) || not (typedef_among std (fronted z) (up (first + 1)) (up_entries es)) else true) (base_up z (iso std) (first + 1))
          ∙ if_same (is_at l Pdirect 2) _ _ (by (is_identifier (base_at (iso std) z (first + 1))) refl))
        where
          by : (c : Bool) → is_identifier (base_at (iso std) z (first + 1)) ≡ c
              → (not (is_identifier (base_at (iso std) z (first + 1))) || not (typedef_among std (fronted z) (up (first + 1)) (up_entries es)))
              ≡ (not (is_identifier (base_at (iso std) z (first + 1))) || not (typedef_among std z (first + 1) es))
          by true e = ap (λ b. not (is_identifier (base_at (iso std) z (first + 1))) || not b) (typedef_up std (first + 1) es (named (first + 1) e))
          by false e =
              ap (λ c. not c || not (typedef_among std (fronted z) (up (first + 1)) (up_entries es))) e
              ∙ sym (ap (λ c. not c || not (typedef_among std z (first + 1) es)) e)

      pub all_same : (f : Forest) (o : Outline) → is_filled f ≡ true → has_some (used z) f ≡ false → all_agree std (fronted z) (raised f) (up_outline o) ≡ all_agree std z f o
      all_same none o h k = refl
      all_same (token i rest) o h k =
          let plain = or_parts (used z i) (has_some (used z) rest) k in
          ap (λ b. b && all_agree std (fronted z) (raised rest) (stepped (up i) (up_outline o))) (token_same std o.label.production o.label.alternative o.nth i o.entries plain.0)
          ∙ ap (λ b. token_agrees std z o.label.production o.label.alternative o.nth i o.entries && b)
          (ap (all_agree std (fronted z) (raised rest)) (token_up i o) ∙ all_same rest (stepped i o) h plain.1)
      all_same (node l first under rest) o h k =
          let a = and_parts (has_leaf under) (is_filled under && is_filled rest) h in
          let b = and_parts (is_filled under) (is_filled rest) a.1 in
          let plain = or_parts (has_some (used z) under) (has_some (used z) rest) k in
          let inside : begun l (up first) (raised under) (up_outline o) ≡ up_outline (begun l first under o) = begun_up l first under o a.0 in
          let after : ended l (up first) (raised under) (up_outline o) (outlined (raised under) (begun l (up first) (raised under) (up_outline o))) ≡ up_outline (ended l first under o (outlined under (begun l first under o))) =
          ap (λ x. ended l (up first) (raised under) (up_outline o) (outlined (raised under) x)) inside
          ∙ (ap (ended l (up first) (raised under) (up_outline o)) (outlined_up under (begun l first under o) b.0) ∙ ended_up l first under o (outlined under (begun l first under o)) b.0) in
          ap (λ c. c && (all_agree std (fronted z) (raised under) (begun l (up first) (raised under) (up_outline o))
          && all_agree std (fronted z) (raised rest) (ended l (up first) (raised under) (up_outline o) (outlined (raised under) (begun l (up first) (raised under) (up_outline o)))))) (node_same l first o.entries)
          ∙ (ap (λ c. node_agrees std z l first o.entries && (c
          && all_agree std (fronted z) (raised rest) (ended l (up first) (raised under) (up_outline o) (outlined (raised under) (begun l (up first) (raised under) (up_outline o))))))
          (ap (all_agree std (fronted z) (raised under)) inside ∙ all_same under (begun l first under o) b.0 plain.0)
          ∙ ap (λ c. node_agrees std z l first o.entries && (all_agree std z under (begun l first under o) && c))
          (ap (all_agree std (fronted z) (raised rest)) after ∙ all_same rest (ended l first under o (outlined under (begun l first under o))) b.1 plain.1))
