-- No list in parentheses begins a unit: words of a declaration stand in front.
use Rattle.std.proofs.Common.{◌≡◌, ℕ, zero, suc, ◌+◌, ◌<◌, ◌≤◌, inl, inr, Bool, true, false, ◌&&◌, ◌||◌, not, if◌then◌else◌, List, [], ◌∷◌, ◌++◌, Some, refl, sym, ap, subst, ◌∙◌, arith}
use Rattle.std.specs.Prelude.{slice_get}
use Rattle.std.specs.List.{list_all}
use Rattle.std.proofs.lemmas.Bool.{false≢true, and_parts}
use Rattle.std.proofs.lemmas.Option.{same_Some}
use Rattle.cs_base.proofs.BoolLemmas.{or_met as implied}
use Rattle.c99_grammar.specs.declared.dialects.Edition.{Edition}
use Rattle.c99_tree.specs.Tree.{Forest, none, token, node}
use Rattle.c99_tree.specs.declared.production.Label.{Label}
use Rattle.c99_tree.specs.declared.production.Production.{Production}
use Rattle.c99_tree.specs.declared.production.Production.TheVariants.{TranslationUnit, External, Sassert, Specs, Main, Mod, Qual, Word, StructSpec, EnumSpec}
use Rattle.c99_grammar.specs.First.{order}
use Rattle.c99_grammar.specs.Items.{Item, one, part, end_of_text, act, ◌·◌, choice, maybe, many, deep, Alternative}
use Rattle.c99_grammar.specs.Standard.{iso}
use Rattle.c99_read.specs.Sound.{never_empty, has_token, is_low}
use Rattle.c99_grammar.proofs.StandardLemmas.{by_edition}
use Rattle.c99_read.proofs.C99Sound.{iso-sound}
use Rattle.tree_laws.specs.TreesOfTexts.{token_count, AreFrom}
use Rattle.tree_laws.proofs.Lookups.{In}
use Rattle.reordered_tree_laws.specs.Reordered.{is_parenthesised}
use Rattle.template_meaning.specs.Children.{Child, a_token, a_node, children, StandsFor, AreTimes, AreOfItem, EachNode, IsOfAlternative}
use Rattle.template_meaning.proofs.Counted.{item_some, sound_at}
use Rattle.template_meaning.proofs.InnerTable.{can_none}
use Rattle.template_meaning.proofs.Children.{item_none}
use Rattle.template_meaning.proofs.Parens.{in_split, Entry, entry, entry_of, entries, Begins, within}

-- what may begin an external declaration
abbrev pub is_lead : Production → Bool
is_lead External = true
is_lead Sassert = true
is_lead Specs = true
is_lead Main = true
is_lead Mod = true
is_lead Qual = true
is_lead Word = true
is_lead StructSpec = true
is_lead EnumSpec = true
is_lead _ = false

-- the first child is a token, or such a node
abbrev pub leads : List Child → Bool
leads [] = true
leads (a_token ∷ w) = true
leads (a_node q ∷ w) = is_lead q

abbrev leads_item : Item → Bool
leads_item (one classes) = true
leads_item (part p) = is_lead p
leads_item end_of_text = true
leads_item (act a) = true
leads_item (a · b) = leads_item a && (not (can_none a) || leads_item b)
leads_item (choice a b) = leads_item a && leads_item b
leads_item (maybe a) = leads_item a
leads_item (many t a) = leads_item a
leads_item (deep a) = leads_item a

lead_part : (p q : Production) → is_lead p ≡ true → StandsFor p q → is_lead q ≡ true
lead_part p q h (inl same) = ap is_lead same ∙ h
lead_part External q h (inr c) = absurd (let e = c.0 in false≢true e)
lead_part Sassert q h (inr c) = absurd (let e = c.0 in false≢true e)
lead_part Specs q h (inr c) = absurd (let e = c.0 in false≢true e)
lead_part Main q h (inr c) = absurd (let e = c.0 in false≢true e)
lead_part Mod q h (inr c) = absurd (let e = c.0 in false≢true e)
lead_part Qual q h (inr c) = absurd (let e = c.0 in false≢true e)
lead_part Word q h (inr c) = absurd (let e = c.0 in false≢true e)
lead_part StructSpec q h (inr c) = absurd (let e = c.0 in false≢true e)
lead_part EnumSpec q h (inr c) = absurd (let e = c.0 in false≢true e)
lead_part _ q h (inr c) = absurd (false≢true h)

leads_front : (xs ys : List Child) → leads xs ≡ true → (xs ≡ [] → leads ys ≡ true) → leads (xs ++ ys) ≡ true
leads_front [] ys h k = k refl
leads_front (a_token ∷ xs) ys h k = refl
leads_front (a_node q ∷ xs) ys h k = h

times_lead : (P : List Child → Type 0) → ((w : List Child) → P w → leads w ≡ true) → (n : ℕ) (w : List Child) → AreTimes P n w → leads w ≡ true
times_lead P each zero w e = subst (λ (v : List Child). leads v ≡ true) (sym e) refl
times_lead P each (suc n) w (xs, ys, all, x, more) =
    subst (λ (v : List Child). leads v ≡ true) (sym all) (leads_front xs ys (each xs x) (λ e. times_lead P each n ys more))

item_leads : (a : Item) → leads_item a ≡ true → (w : List Child) → AreOfItem a w → leads w ≡ true
item_leads (one classes) h w e = subst (λ (v : List Child). leads v ≡ true) (sym e) refl
item_leads (part p) h w (q, e, stands) = subst (λ (v : List Child). leads v ≡ true) (sym e) (lead_part p q h stands)
item_leads end_of_text h w e = subst (λ (v : List Child). leads v ≡ true) (sym e) refl
item_leads (act a) h w e = subst (λ (v : List Child). leads v ≡ true) (sym e) refl
item_leads (a · b) h w (xs, ys, all, x, y) =
    let parts = and_parts (leads_item a) (not (can_none a) || leads_item b) h in
    subst (λ (v : List Child). leads v ≡ true) (sym all)
    (leads_front xs ys (item_leads a parts.0 xs x) (λ e. item_leads b (implied (can_none a) (leads_item b) parts.1 (item_none a xs x e)) ys y))
item_leads (choice a b) h w (inl x) = item_leads a (and_parts (leads_item a) (leads_item b) h).0 w x
item_leads (choice a b) h w (inr x) = item_leads b (and_parts (leads_item a) (leads_item b) h).1 w x
item_leads (maybe a) h w (inl x) = item_leads a h w x
item_leads (maybe a) h w (inr e) = subst (λ (v : List Child). leads v ≡ true) (sym e) refl
item_leads (many t a) h w (n, x) = times_lead (AreOfItem a) (λ v y. item_leads a h v y) n w x
item_leads (deep a) h w x = item_leads a h w x

abbrev lead_row : Alternative → Bool
lead_row a = leads_item a.body

module _ (s : Edition) where
  rows_lead : (p : Production) → is_lead p ≡ true → list_all lead_row ((iso s).table p) ≡ true
  rows_lead External h = by_edition (λ t. list_all lead_row ((iso t).table External) ≡ true) refl refl s
  rows_lead Sassert h = by_edition (λ t. list_all lead_row ((iso t).table Sassert) ≡ true) refl refl s
  rows_lead Specs h = refl
  rows_lead Main h = refl
  rows_lead Mod h = by_edition (λ t. list_all lead_row ((iso t).table Mod) ≡ true) refl refl s
  rows_lead Qual h = refl
  rows_lead Word h = refl
  rows_lead StructSpec h = refl
  rows_lead EnumSpec h = refl
  rows_lead _ h = absurd (false≢true h)

  row_of : (rows : List Alternative) (k : ℕ) (a : Alternative) → list_all lead_row rows ≡ true → slice_get rows k ≡ Some a → leads_item a.body ≡ true
  row_of [] k a all at = absurd (cc)
  row_of (b ∷ rows) zero a all at = subst (λ (c : Alternative). leads_item c.body ≡ true) (same_Some b a at) (and_parts (lead_row b) (list_all lead_row rows) all).0
  row_of (b ∷ rows) (suc k) a all at = row_of rows k a (and_parts (lead_row b) (list_all lead_row rows) all).1 at

  node_leads : (l : Label) (under : Forest) → IsOfAlternative (iso s) l under → is_lead l.production ≡ true → leads (children under) ≡ true
  node_leads l under x h = item_leads x.alternative.body (row_of ((iso s).table l.production) x.number x.alternative (rows_lead l.production h) x.is_one) (children under) x.own

  pub unit_leads : (l : Label) (under : Forest) → IsOfAlternative (iso s) l under → l.production ≡ TranslationUnit → leads (children under) ≡ true
  unit_leads l under x named =
      item_leads x.alternative.body (row_of ((iso s).table l.production) x.number x.alternative (ap (λ (p : Production). list_all lead_row ((iso s).table p)) named) x.is_one)
      (children under) x.own

  lead_some : (p : Production) → is_lead p ≡ true → never_empty p ≡ true
  lead_some TranslationUnit h = absurd (false≢true h)
  lead_some _ h = refl

  lead_children : (l : Label) (under : Forest) → IsOfAlternative (iso s) l under → is_lead l.production ≡ true → under ≡ none → ⊥
  lead_children l under x lead e =
      let sound = sound_at (iso s) l.production ((iso s).table l.production) x.number x.alternative ((iso-sound s).sound l.production) x.is_one in
      let body = implied (never_empty l.production) (has_token x.alternative.body) (and_parts (is_low (order l.production) x.alternative.body) _ sound).1 (lead_some l.production lead) in
      item_some x.alternative.body body (children under) x.own (ap children e)

  lead_tokens : (f : Forest) → EachNode (IsOfAlternative (iso s)) f → leads (children f) ≡ true → (f ≡ none → ⊥) → 1 ≤ token_count f
  lead_tokens none each h some = absurd (some refl)
  lead_tokens (token i rest) each h some = omega arith
  lead_tokens (node l first under rest) each h some =
      let below = lead_tokens under each.1 (node_leads l under each.0 h) (lead_children l under each.0 h) in
      omega (arith, below)

  unparenthesised : (l : Label) (p : Production) → l.production ≡ p → is_lead p ≡ true → is_parenthesised l ≡ false
  unparenthesised l External e h = ap (λ (q : Production). is_parenthesised (record l { production = q })) e
  unparenthesised l Sassert e h = ap (λ (q : Production). is_parenthesised (record l { production = q })) e
  unparenthesised l Specs e h = ap (λ (q : Production). is_parenthesised (record l { production = q })) e
  unparenthesised l Main e h = ap (λ (q : Production). is_parenthesised (record l { production = q })) e
  unparenthesised l Mod e h = ap (λ (q : Production). is_parenthesised (record l { production = q })) e
  unparenthesised l Qual e h = ap (λ (q : Production). is_parenthesised (record l { production = q })) e
  unparenthesised l Word e h = ap (λ (q : Production). is_parenthesised (record l { production = q })) e
  unparenthesised l StructSpec e h = ap (λ (q : Production). is_parenthesised (record l { production = q })) e
  unparenthesised l EnumSpec e h = ap (λ (q : Production). is_parenthesised (record l { production = q })) e
  unparenthesised l _ e h = absurd (false≢true h)

  own_none : (l : Label) (under : Forest) (x : Entry) → is_parenthesised l ≡ false → In x (entry_of l under) → ⊥
  own_none l under x e w = subst (λ (b : Bool). In x (if b then entry l under ∷ [] else [])) e w

  -- each list in parentheses begins behind the first token
  pub behind_first : (f : Forest) (k : ℕ) → AreFrom k f → EachNode (IsOfAlternative (iso s)) f → EachNode Begins f → leads (children f) ≡ true → (x : Entry) → In x (entries f) → k < x.begin
  behind_first none k tokens each begin h x w = absurd w
  behind_first (token i rest) k tokens each begin h x w = let r = within rest (k + 1) tokens.1 begin x w in omega (arith, r.0)
  behind_first (node l first under rest) k tokens each begin h x w = elim (in_split x (entry_of l under) (entries under ++ entries rest) w) [
    | inl v ↦ absurd (own_none l under x (unparenthesised l l.production refl h) v)
    | inr v ↦ elim (in_split x (entries under) (entries rest) v) [
      | inl b ↦ behind_first under k tokens.1 each.1 begin.1 (node_leads l under each.0 h) x b
      | inr b ↦
          let some = lead_tokens under each.1 (node_leads l under each.0 h) (lead_children l under each.0 h) in
          let r = within rest (k + token_count under) tokens.2 begin.2 x b in
          omega (arith, some, r.0)
    ]
  ]
