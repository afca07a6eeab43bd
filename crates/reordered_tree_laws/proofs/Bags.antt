-- The ordinary names that each item of a list adds by itself.
use Rattle.std.proofs.Common.{ℕ, ◌+◌, ◌≡◌, Bool, true, false, ◌&&◌, ◌||◌, not, if◌then◌else◌, ◌==◌, ◌%◌, List, [], ◌++◌, map, inl, refl, sym, ap, subst, ◌∙◌}
use Rattle.std.specs.List.{All}
use Rattle.std.specs.Option.{option_map_or}
use Rattle.std.proofs.lemmas.Bool.{false≢true, or_parts}
use Rattle.std.proofs.lemmas.List.{append_assoc}
use Rattle.std.proofs.lemmas.List.Elements.{All-nil, All-head, All-tail}
use Rattle.c99_tree.specs.Tree.{Forest, none, token, node, Node, node_of}
use Rattle.c99_tree.specs.declared.production.Label.{Label}
use Rattle.c99_tree.specs.declared.production.Production.{Production}
use Rattle.c99_tree.specs.declared.production.Production.TheVariants.{FunBody, Specs, Enumerator, Declarator, Params, Pdecl, Suffix, Block, Statement, Sub, Args}
use Rattle.c99_tree.specs.contracts.production.ProductionPartialEq.TheImpl.{ghosts}
use Rattle.c_types.specs.Trees.{is_node, has_mod, first_list}
use Rattle.name_chains.specs.Entering.{scope_in}
use Rattle.scope_bind.specs.Named.{Scope}
use Rattle.tree_laws.specs.TreesOfTexts.{token_count, has_body}
use Rattle.tree_laws.proofs.Outline.{Entry, Outline, is_listing, added, stepped, begun, entries_after, ended, outlined}
use Rattle.reordered_tree_laws.specs.Reordered.{nodes_in}
use Rattle.reordered_tree_laws.specs.Adding.{is_adding}
use Rattle.reordered_tree_laws.specs.Premises.{is_items, is_item_production, is_quiet, declared_name}
use Rattle.reordered_tree_laws.proofs.Chains.{heap}
use Rattle.reordered_tree_laws.proofs.Longer.{begun_longer, outlined_longer}
use Rattle.reordered_tree_laws.proofs.Within.{IsWithin, IsBodiless, IsQuietWithin, within_all, quiet_all, same_in}

-- inside a list, with nothing known and before the first item
abbrev pub bare : Outline → Outline
bare o = record o { entries = []; nth = 0 }

abbrev pub bag_in : Outline → Node → List Entry
bag_in b n = (outlined (node n.label n.first n.under none) b).entries

-- ---- Productions of items

pub item_specs : (p : Production) → is_item_production p ≡ true → ghosts.eq p Specs ≡ false
item_specs Specs e = absurd (false≢true e)
item_specs _ e = refl

pub item_declarator : (p : Production) → is_item_production p ≡ true → ghosts.eq p Declarator ≡ false
item_declarator Declarator e = absurd (false≢true e)
item_declarator _ e = refl

pub item_body : (p : Production) → is_item_production p ≡ true → ghosts.eq p FunBody ≡ false
item_body FunBody e = absurd (false≢true e)
item_body _ e = refl

pub item_scope : (p : Production) (l : Label) (under : Forest) (s : Scope) → is_item_production p ≡ true → scope_in p l under s ≡ s
item_scope Block l under s e = absurd (false≢true e)
item_scope FunBody l under s e = absurd (false≢true e)
item_scope Suffix l under s e = absurd (false≢true e)
item_scope Sub l under s e = absurd (false≢true e)
item_scope Statement l under s e = absurd (false≢true e)
item_scope _ l under s e = refl

pub item_after : (p : Production) (first : ℕ) (o : Outline) (l : Label) (under : Forest) (es : List Entry) → is_item_production p ≡ true
    → entries_after p first o l under es ≡ es
item_after Declarator first o l under es e = absurd (false≢true e)
item_after Pdecl first o l under es e = absurd (false≢true e)
item_after Enumerator first o l under es e = absurd (false≢true e)
item_after _ first o l under es e = refl

pub items_unlisted : (p : Production) (a k : ℕ) → (ghosts.eq p Args || (ghosts.eq p Params && not (a == 1))) ≡ true → is_listing p a k ≡ false
items_unlisted Params a k e = by (a == 1) e
  where
    by : (c : Bool) → not c ≡ true → (c && (k % 2 == 0)) ≡ false
    by true h = absurd (false≢true h)
    by false h = refl
items_unlisted _ a k e = refl

-- ---- Items one after another

abbrev pub AreItems : List Node → Type 0
AreItems ns = All (λ (n : Node). is_item_production n.label.production ≡ true) ns

pub bare_ended : (l : Label) (first : ℕ) (under : Forest) (o o' : Outline) → is_item_production l.production ≡ true → bare (ended l first under o o') ≡ bare o
bare_ended l first under o o' e =
    ap (λ (c : Bool). record (bare o) { typedef = if c then has_mod 1 under else o.typedef; kept = if is_node l Declarator then first_list under else o.kept })
    (item_specs l.production e)
    ∙ ap (λ (c : Bool). record (bare o) { kept = if c then first_list under else o.kept }) (item_declarator l.production e)

pub one_item : (l : Label) (first : ℕ) (under : Forest) (o : Outline) → is_item_production l.production ≡ true → has_body under ≡ false
    → (ended l first under o (outlined under (begun l first under o))).entries ≡ bag_in (bare o) (node_of l first under) ++ o.entries
one_item l first under o e plain =
    let start : Outline = begun l first under (bare o) in
    item_after l.production first o l under (outlined under (begun l first under o)).entries e
    ∙ (ap (λ (x : Outline). x.entries)
    (ap (outlined under) (begun_longer l first under (bare o) o.entries (item_body l.production e)) ∙ outlined_longer under start o.entries (inl plain))
    ∙ ap (λ es. es ++ o.entries) (sym (item_after l.production first (bare o) l under (outlined under start).entries e)))

pub items_heap : (u : Forest) (o b : Outline) → bare o ≡ b → is_items o.label ≡ true → has_body u ≡ false → AreItems (nodes_in u)
    → (outlined u o).entries ≡ heap (map (bag_in b) (nodes_in u)) ++ o.entries
items_heap none o b e q plain all = refl
items_heap (token i rest) o b e q plain all =
    let none : is_listing o.label.production o.label.alternative o.nth ≡ false = items_unlisted o.label.production o.label.alternative o.nth q in
    items_heap rest (stepped i o) b e q plain all
    ∙ ap (λ c. heap (map (bag_in b) (nodes_in rest)) ++ (if c then added o i false i o.entries else o.entries)) none
items_heap (node l first under rest) o b e q plain all =
    let n : Node = node_of l first under in
    let item : is_item_production l.production ≡ true = All-head (λ (x : Node). is_item_production x.label.production ≡ true) n (nodes_in rest) all in
    let more : AreItems (nodes_in rest) = All-tail (λ (x : Node). is_item_production x.label.production ≡ true) n (nodes_in rest) all in
    let p = or_parts (has_body under) (has_body rest) ((or_parts (is_node l FunBody) (has_body under || has_body rest) plain).1) in
    let inside : Outline = outlined under (begun l first under o) in
    let bags : List (List Entry) = map (bag_in b) (nodes_in rest) in
    items_heap rest (ended l first under o inside) b (bare_ended l first under o inside item ∙ e) q p.1 more
    ∙ (ap (λ es. heap bags ++ es) (one_item l first under o item p.0 ∙ ap (λ (x : Outline). bag_in x n ++ o.entries) e)
    ∙ sym (append_assoc (heap bags) (bag_in b n) o.entries))

-- ---- One item

-- what an item says of the entries that it adds
abbrev pub lasting_of : Node → ℕ → Bool
lasting_of n i = option_map_or (λ j. j == i) (declared_name n) false

module _ (P : Entry → Type 0) (b : Outline) (n : Node) (first : ℕ) (here : n.first ≡ first) (nothing : b.entries ≡ []) (item : is_item_production n.label.production ≡ true)
    (sub : IsBodiless first n.under) where
  abbrev inside : Outline
  inside = outlined n.under (begun n.label n.first n.under b)

  start_none : (begun n.label n.first n.under b).entries ≡ []
  start_none = same_in n.label.production n.first n.under b.kept b.scope.depth b.entries (item_body n.label.production item) ∙ nothing

  same_scope : (begun n.label n.first n.under b).scope ≡ b.scope
  same_scope = item_scope n.label.production n.label n.under b.scope item

  after : All P inside.entries → All P (bag_in b n)
  after h = subst (λ (es : List Entry). All P es) (sym (item_after n.label.production n.first b n.label n.under inside.entries item)) h

  begins : All P (begun n.label n.first n.under b).entries
  begins = subst (λ (es : List Entry). All P es) (sym start_none) (All-nil P)

  pub bag_within : ((e : Entry) → IsWithin first (first + token_count n.under) b.scope e → P e) → All P (bag_in b n)
  bag_within f =
      after (within_all P n.under first (begun n.label n.first n.under b) sub (λ e w. f e (subst (λ (s : Scope). IsWithin first (first + token_count n.under) s e) same_scope w)) begins)

  pub bag_quiet : is_adding (λ i. true) false n.label n.under ≡ true → is_quiet (lasting_of n) n.label n.under ≡ true
      → ((e : Entry) → IsQuietWithin (lasting_of n) first (first + token_count n.under) b.scope e → P e) → All P (bag_in b n)
  bag_quiet add quiet f =
      after (quiet_all (lasting_of n) P n.under first (begun n.label n.first n.under b) false sub add quiet
      (λ e w. f e (subst (λ (s : Scope). IsQuietWithin (lasting_of n) first (first + token_count n.under) s e) same_scope w)) begins)
