-- How the parentheses of a list, and the node with its items, are entered and left: nothing is noted but by the items.
use Rattle.std.proofs.Common.{ℕ, ◌+◌, ◌≡◌, Bool, true, false, ◌&&◌, ◌||◌, ◌==◌, List, refl, sym, ap, ◌∙◌}
use Rattle.std.specs.List.{list_all}
use Rattle.std.proofs.lemmas.Bool.{false≢true, and_parts, eqb-true}
use Rattle.cs_base.specs.Token.{Token}
use Rattle.c99_tree.specs.Tree.{Forest, none, token, node, node_of}
use Rattle.c99_tree.specs.declared.production.Label.{Label}
use Rattle.c99_tree.specs.declared.production.Production.{Production}
use Rattle.c99_tree.specs.declared.production.Production.TheVariants.{Args, Params, Primary, Post, Suffix, Members, Enumerators}
use Rattle.c99_tree.specs.contracts.production.ProductionPartialEq.TheImpl.{ghosts}
use Rattle.c_types.specs.Types.{arithmetic}
use Rattle.c_types.specs.Trees.{has_node}
use Rattle.c_types.specs.Declarations.{Facts}
use Rattle.name_chains.specs.Frames.{State, state}
use Rattle.name_chains.specs.Entering.{entered}
use Rattle.scope_bind.specs.Named.{Frame, Role}
use Rattle.scope_bind.specs.Roles.{role_if, role_of}
use Rattle.scope_bind.specs.Walk.{passed_as, passed, left}
use Rattle.reordered_tree_laws.specs.Reordered.{nodes_in, is_parenthesised}
use Rattle.reordered_tree_laws.specs.Premises.{is_items, is_item_production, is_item}

-- the frame in the node with the items
abbrev pub items_frame : Label → Frame → Frame
items_frame l fr = record fr { label = l; nth = 0; alone = false; has_body = false; found = arithmetic }

plain_role : (p : Production) (a n : ℕ) → ((ghosts.eq p Post && (a == 2)) || (ghosts.eq p Suffix && (a == 2))) ≡ true → role_of p a n ≡ role_if false (role_of Primary 1 0)
plain_role Post a n e =
    ap (λ (x : ℕ). role_of Post x n) (eqb-true a 2 (by (a == 2) e))
  where
    by : (c : Bool) → (c || false) ≡ true → c ≡ true
    by true w = refl
    by false w = w
plain_role Suffix a n e = refl
plain_role _ a n e = absurd (false≢true e)

module _ (toks : List Token) where
  pub passed_plain : (i : ℕ) (s : State) → is_parenthesised s.frame.label ≡ true → passed toks i s ≡ state s.facts (record s.frame { nth = s.frame.nth + 1; token = i })
  passed_plain i s e = ap (λ (r : Role). passed_as toks r i s) (plain_role s.frame.label.production s.frame.label.alternative s.frame.nth e)

  entered_by : (p : Production) (a first : ℕ) (u : Forest) (s : State) → is_items (record { production = p; alternative = a }) ≡ true
      → (has_node Members u || has_node Enumerators u) ≡ false
      → entered toks (record { production = p; alternative = a }) first u s ≡ state s.facts (items_frame (record { production = p; alternative = a }) s.frame)
  entered_by Args a first u s e h =
      ap (λ (c : Bool). state s.facts (record (items_frame (record { production = Args; alternative = a }) s.frame) { has_body = c })) h
  entered_by Params a first u s e h =
      ap (λ (c : Bool). state s.facts (record (items_frame (record { production = Params; alternative = a }) s.frame) { has_body = c })) h
  entered_by _ a first u s e h = absurd (false≢true e)

  pub entered_items : (l : Label) (first : ℕ) (u : Forest) (s : State) → is_items l ≡ true → (has_node Members u || has_node Enumerators u) ≡ false
      → entered toks l first u s ≡ state s.facts (items_frame l s.frame)
  entered_items l first u s e h = entered_by l.production l.alternative first u s e h

  -- the frame around, once the items are read
  abbrev Around : Frame → Frame
  Around fr = record fr { nth = fr.nth + 1 }

  left_by : (p q : Production) (a b first : ℕ) (u : Forest) (f : Facts) (fr : Frame) (s' : State) → is_items (record { production = p; alternative = a }) ≡ true
      → ((ghosts.eq q Post && (b == 2)) || (ghosts.eq q Suffix && (b == 2))) ≡ true
      → left toks (record { production = p; alternative = a }) first u (state f (record fr { label = record { production = q; alternative = b } })) s'
      ≡ state s'.facts (Around (record fr { label = record { production = q; alternative = b } }))
  left_by Args Post a b first u f fr s' e h =
      ap (λ (x : ℕ). left toks (record { production = Args; alternative = a }) first u (state f (record fr { label = record { production = Post; alternative = x } })) s') (two b h)
      ∙ ap (λ (x : ℕ). state s'.facts (Around (record fr { label = record { production = Post; alternative = x } }))) (sym (two b h))
    where
      two : (x : ℕ) → ((x == 2) || false) ≡ true → x ≡ 2
      two x w = eqb-true x 2 (by (x == 2) w)
        where
          by : (c : Bool) → (c || false) ≡ true → c ≡ true
          by true z = refl
          by false z = z
  left_by Params Post a b first u f fr s' e h =
      ap (λ (x : ℕ). left toks (record { production = Params; alternative = a }) first u (state f (record fr { label = record { production = Post; alternative = x } })) s') (two b h)
      ∙ ap (λ (x : ℕ). state s'.facts (Around (record fr { label = record { production = Post; alternative = x } }))) (sym (two b h))
    where
      two : (x : ℕ) → ((x == 2) || false) ≡ true → x ≡ 2
      two x w = eqb-true x 2 (by (x == 2) w)
        where
          by : (c : Bool) → (c || false) ≡ true → c ≡ true
          by true z = refl
          by false z = z
  left_by Args Suffix a b first u f fr s' e h = refl
  left_by Params Suffix a b first u f fr s' e h = refl
  left_by Args _ a b first u f fr s' e h = absurd (false≢true h)
  left_by Params _ a b first u f fr s' e h = absurd (false≢true h)
  left_by _ q a b first u f fr s' e h = absurd (false≢true e)

  pub left_items : (l : Label) (first : ℕ) (u : Forest) (s s' : State) → is_items l ≡ true → is_parenthesised s.frame.label ≡ true
      → left toks l first u s s' ≡ state s'.facts (record s.frame { nth = s.frame.nth + 1 })
  left_items l first u s s' e h = left_by l.production s.frame.label.production l.alternative s.frame.label.alternative first u s.facts s.frame s' e h

-- ---- Items are no lists of members

no_members : (q : Production) → is_item_production q ≡ true → (ghosts.eq q Members ≡ false) × (ghosts.eq q Enumerators ≡ false)
no_members Members e = absurd (false≢true e)
no_members Enumerators e = absurd (false≢true e)
no_members _ e = (refl, refl)

pub item_production : (l : Label) (first : ℕ) (under : Forest) → is_item (node_of l first under) ≡ true → is_item_production l.production ≡ true
item_production l first under e =
    (and_parts (is_item_production l.production) _ ((and_parts (is_item_production l.production && _) _ e).0)).0

no_nodes : (f : Forest) → list_all is_item (nodes_in f) ≡ true → (has_node Members f ≡ false) × (has_node Enumerators f ≡ false)
no_nodes none e = (refl, refl)
no_nodes (token i rest) e = no_nodes rest e
no_nodes (node l first under rest) e =
    let p = and_parts (is_item (node_of l first under)) (list_all is_item (nodes_in rest)) e in
    let q = no_members l.production (item_production l first under p.0) in
    let r = no_nodes rest p.1 in
    (ap (λ (c : Bool). c || has_node Members rest) q.0 ∙ r.0, ap (λ (c : Bool). c || has_node Enumerators rest) q.1 ∙ r.1)

pub no_list_nodes : (f : Forest) → list_all is_item (nodes_in f) ≡ true → (has_node Members f || has_node Enumerators f) ≡ false
no_list_nodes f e = let r = no_nodes f e in ap (λ (c : Bool). c || has_node Enumerators f) r.0 ∙ r.1
