-- Reading goes on beside the outline of binding.
use Rattle.std.proofs.Common.{ℕ, ◌+◌, ◌<◌, ◌≤◌, ◌≡◌, Bool, true, false, ◌&&◌, if◌then◌else◌, List, length, Ok, Err, refl, sym, ap, subst, ◌∙◌, arith}
use Rattle.std.proofs.lemmas.Bool.{false≢true, and_parts}
use Rattle.c99_grammar.specs.declared.dialects.Edition.{Edition}
use Rattle.cs_base.specs.Token.{Token}
use Rattle.c99_tree.specs.Tree.{Forest, none, token, node, Node, node_of, leaf, inner, put, count_of, lone, collapsed}
use Rattle.c99_tree.specs.declared.production.Label.{Label}
use Rattle.c99_tree.specs.declared.production.Production.{Production}
use Rattle.c99_tree.specs.declared.production.Production.TheVariants.{Specs}
use Rattle.c99_read.specs.State.{State, Names, collapses, finished, is_declarator, head_closed, names_closed, nearest, closed}
use Rattle.c99_read.specs.Reading.{Step}
use Rattle.scope_bind.specs.Named.{Scope}
use Rattle.c_types.specs.Trees.{is_node, has_mod}
use Rattle.name_chains.specs.Entering.{scope_in}
use Rattle.tree_laws.proofs.Outline.{Outline, Entry, added, begun, entries_in, outlined, stepped, is_listing, token_agrees, node_agrees, all_agree}
use Rattle.tree_laws.proofs.Matching.{Matches, Bounds, IsOpen, SameOuter, matches_later, outer_still, outer_further, outer_open, bounds_sooner}
use Rattle.tree_laws.proofs.Places.{EndsAt, ends_leaf, ends_inner, count_leaf, count_inner, outlined_leaf, outlined_inner, behind, agree_leaf, agree_inner}
use Rattle.tree_laws.proofs.Rules.{labelled, is_tame, is_main_apart, main_apart, may_hold, stands, may_stand, all_hold, hold_leaf, hold_inner, entries_alone, after_alone, after_tame, tame_alone, tame_apart, tame_specs, nearest_same, collapsed_scope, collapsed_entries, collapsed_alone, collapsed_tame, collapsed_held, collapsed_nearest}

-- this is so of the state that is left, if reading does not stop
abbrev pub After : (State → Type 0) → Step → Type 0
After P (Ok s) = P s
After P (Err stop) = Unit {0}

-- the next token becomes a child of the open node
abbrev pub with_token : State → State
with_token s = record s { at = s.at + 1; built = record s.built { under = put s.built.under (leaf s.at) } }

-- the node that is open
pub record IsIn (l : Label) (first : ℕ) (s : State) : Type 0 where
  pub label : s.built.label ≡ l
  pub begins : s.built.first ≡ first

module _ (std : Edition) where
  module _ (toks : List Token) where
    -- The state beside the outline: `o` is what was known where the open node, of this label, began, and `ends` says where
    -- the open scopes end.
    pub record Fits (l : Label) (s : State) (ends : List ℕ) (o : Outline) : Type 0 where
      pub text : s.toks ≡ toks
      pub matches : Matches s.at s.names.scopes ends (outlined s.built.under o).entries
      pub near : (outlined s.built.under o).typedef ≡ s.near
      pub label : (outlined s.built.under o).label ≡ l
      pub nth : (outlined s.built.under o).nth ≡ count_of s.built.under
      pub scope : (outlined s.built.under o).scope ≡ o.scope
      pub agree : all_agree std toks s.built.under o ≡ true
      pub opens : IsOpen s.names.scopes

    -- a later state in the same open node, with the same scopes open
    pub record Goes (l : Label) (first : ℕ) (s s' : State) : Type 0 where
      pub same_text : s'.toks ≡ s.toks
      pub later : s.at ≤ s'.at
      pub within : s.at ≤ length s.toks → s'.at ≤ length s.toks
      pub outer : SameOuter s.names.scopes s'.names.scopes
      pub inside : IsIn l first s → IsIn l first s'
      pub ends : EndsAt first s.built.under s.at → EndsAt first s'.built.under s'.at
      pub holds : all_hold l.production s.built.under ≡ true → all_hold l.production s'.built.under ≡ true
      pub fits : (o : Outline) (ends : List ℕ) → Bounds s'.at o.scope.to s'.names.scopes ends → Fits l s ends o → Fits l s' ends o

    pub goes_still : (l : Label) (first : ℕ) (s : State) → Goes l first s s
    goes_still l first s = record {
      same_text = refl;
      later = omega arith;
      within = λ h. h;
      outer = outer_still s.names.scopes;
      inside = λ h. h;
      ends = λ h. h;
      holds = λ h. h;
      fits = λ o ends b f. f;
    }

    pub goes_further : (l : Label) (first : ℕ) (s s' s'' : State) → Goes l first s s' → Goes l first s' s'' → Goes l first s s''
    goes_further l first s s' s'' g g' = record {
      same_text = g'.same_text ∙ g.same_text;
      later = (let h = g.later in let h' = g'.later in omega arith);
      within = λ h. subst (λ t. s''.at ≤ length t) g.same_text (g'.within (subst (λ t. s'.at ≤ length t) (sym g.same_text) (g.within h)));
      outer = outer_further s.names.scopes s'.names.scopes s''.names.scopes g.outer g'.outer;
      inside = λ h. g'.inside (g.inside h);
      ends = λ h. g'.ends (g.ends h);
      holds = λ h. g'.holds (g.holds h);
      fits = λ o ends b f.
          g'.fits o ends b
          (g.fits o ends
          (bounds_sooner s'.at s''.at o.scope.to s'.names.scopes s''.names.scopes ends (outer_open s.names.scopes s'.names.scopes f.opens g.outer) g'.later g'.outer b) f);
    }

    -- ---- A token

    pub token_fits : (l : Label) (s : State) (ends : List ℕ) (o : Outline)
        → is_listing l.production l.alternative (outlined s.built.under o).nth ≡ false
        → token_agrees std toks l.production l.alternative (outlined s.built.under o).nth s.at (outlined s.built.under o).entries ≡ true
        → Fits l s ends o → Fits l (with_token s) ends o
    token_fits l s ends o plain agrees f =
        let here : Outline = outlined s.built.under o in
        let more : outlined (put s.built.under (leaf s.at)) o ≡ stepped s.at here = outlined_leaf s.built.under s.at o in
        let unlisted : is_listing here.label.production here.label.alternative here.nth ≡ false =
        ap (λ (m : Label). is_listing m.production m.alternative here.nth) f.label ∙ plain in
        let same : (stepped s.at here).entries ≡ here.entries = ap (λ c. if c then added here s.at false s.at here.entries else here.entries) unlisted in
        let entries : (outlined (put s.built.under (leaf s.at)) o).entries ≡ here.entries = ap (λ (x : Outline). x.entries) more ∙ same in
        record {
          text = f.text;
          matches = subst (Matches (s.at + 1) s.names.scopes ends) (sym entries) (matches_later s.at (s.at + 1) s.names.scopes ends here.entries (omega arith) f.matches);
          near = ap (λ (x : Outline). x.typedef) more ∙ f.near;
          label = ap (λ (x : Outline). x.label) more ∙ f.label;
          nth = ap (λ (x : Outline). x.nth) more ∙ (ap (λ n. n + 1) f.nth ∙ sym (count_leaf s.built.under s.at));
          scope = ap (λ (x : Outline). x.scope) more ∙ f.scope;
          agree = agree_leaf std toks s.built.under s.at o f.agree
              (ap (λ (m : Label). token_agrees std toks m.production m.alternative here.nth s.at here.entries) f.label ∙ agrees);
          opens = f.opens;
        }

    -- a token that declares nothing, and is read as it is bound
    pub token_goes : (l : Label) (first : ℕ) (s : State) → s.at < length s.toks
        → ((o : Outline) (ends : List ℕ) → Bounds (s.at + 1) o.scope.to s.names.scopes ends → Fits l s ends o
        → (is_listing l.production l.alternative (outlined s.built.under o).nth ≡ false)
        × (token_agrees std toks l.production l.alternative (outlined s.built.under o).nth s.at (outlined s.built.under o).entries ≡ true))
        → Goes l first s (with_token s)
    token_goes l first s more agrees = record {
      same_text = refl;
      later = omega arith;
      within = λ h. omega arith;
      outer = outer_still s.names.scopes;
      inside = λ h. record { label = h.label; begins = h.begins };
      ends = λ h. ends_leaf first s.built.under s.at;
      holds = λ h. hold_leaf l.production s.built.under s.at h;
      fits = λ o ends b f. (let a = agrees o ends b f in token_fits l s ends o a.0 a.1 f);
    }

    -- ---- A node

    -- the declarations behind a node, where the node around it adds none
    abbrev pub made_entries : Outline → Node → List Entry
    made_entries o n = entries_alone n.label.production n.first o n.under (outlined n.under (begun n.label n.first n.under o)).entries

    -- what the outline says behind a node
    pub record Made (at : ℕ) (s' : State) (ends : List ℕ) (o : Outline) (n : Node) : Type 0 where
      pub matches : Matches at s'.names.scopes ends (made_entries o n)
      pub agree : all_agree std toks n.under (begun n.label n.first n.under o) ≡ true
      pub named : node_agrees std toks n.label n.first o.entries ≡ true

    -- a node of the production, or what replaces it, was read and stands behind the others
    pub record Makes (p : Production) (s s' : State) : Type 0 where
      pub child : Node
      pub built : s'.built ≡ record s.built { under = put s.built.under (inner child) }
      pub same_text : s'.toks ≡ s.toks
      pub later : s.at ≤ s'.at
      pub within : s.at ≤ length s.toks → s'.at ≤ length s.toks
      pub outer : SameOuter s.names.scopes s'.names.scopes
      pub held : (q : Production) → may_hold q p ≡ true → may_hold q child.label.production ≡ true
      pub own : collapses p ≡ false → child.label.production ≡ p
      pub holds : collapses p ≡ false → all_hold p child.under ≡ true
      pub apart : is_main_apart child.label child.under ≡ true
      pub ends : EndsAt s.at child.under s'.at
      pub near : s'.near ≡ (if is_node child.label Specs then has_mod 1 child.under else s.near)
      pub fits : (o : Outline) (ends : List ℕ) → s.toks ≡ toks → IsOpen s.names.scopes → Bounds s'.at o.scope.to s'.names.scopes ends
          → Matches s.at s.names.scopes ends o.entries → o.typedef ≡ s.near → Made s'.at s' ends o child

    node_fits : (l : Label) (p : Production) (s s' : State) (m : Makes p s s') (ends : List ℕ) (o : Outline) → may_hold l.production p ≡ true
        → Bounds s'.at o.scope.to s'.names.scopes ends → Fits l s ends o → Fits l s' ends o
    node_fits l p s s' m ends o h b f =
        let here : Outline = outlined s.built.under o in
        let made : Made s'.at s' ends here m.child =
        m.fits here ends f.text f.opens (subst (λ (c : Scope). Bounds s'.at c.to s'.names.scopes ends) (sym f.scope) b) f.matches f.near in
        let under : s'.built.under ≡ put s.built.under (inner m.child) = ap (λ (n : Node). n.under) m.built in
        let more : outlined s'.built.under o ≡ behind m.child here = ap (λ g. outlined g o) under ∙ outlined_inner s.built.under m.child o in
        let entries : (outlined s'.built.under o).entries
        ≡ made_entries here m.child =
        ap (λ (x : Outline). x.entries) more
        ∙ after_alone l.production m.child.label.production m.child.first here m.child.label m.child.under (outlined m.child.under (begun m.child.label m.child.first m.child.under here)).entries (ap (λ (x : Label). x.production) f.label) (m.held l.production h) in
        record {
          text = m.same_text ∙ f.text;
          matches = subst (Matches s'.at s'.names.scopes ends) (sym entries) made.matches;
          near = ap (λ (x : Outline). x.typedef) more ∙ (ap (λ t. if is_node m.child.label Specs then has_mod 1 m.child.under else t) f.near ∙ sym m.near);
          label = ap (λ (x : Outline). x.label) more ∙ f.label;
          nth = ap (λ (x : Outline). x.nth) more ∙ (ap (λ n. n + 1) f.nth ∙ (sym (count_inner s.built.under m.child) ∙ sym (ap count_of under)));
          scope = ap (λ (x : Outline). x.scope) more ∙ f.scope;
          agree = ap (λ g. all_agree std toks g o) under ∙ agree_inner std toks s.built.under m.child o f.agree made.named made.agree;
          opens = outer_open s.names.scopes s'.names.scopes f.opens m.outer;
        }

    pub node_goes : (l : Label) (first : ℕ) (p : Production) (s s' : State) → may_hold l.production p ≡ true → Makes p s s' → Goes l first s s'
    node_goes l first p s s' h m =
        let under : s'.built.under ≡ put s.built.under (inner m.child) = ap (λ (n : Node). n.under) m.built in
        record {
          same_text = m.same_text;
          later = m.later;
          within = m.within;
          outer = m.outer;
          inside = λ i. record { label = ap (λ (n : Node). n.label) m.built ∙ i.label; begins = ap (λ (n : Node). n.first) m.built ∙ i.begins };
          ends = λ e. subst (λ g. EndsAt first g s'.at) (sym under) (ends_inner first s.built.under m.child s.at s'.at e m.ends);
          holds = λ a. ap (all_hold l.production) under ∙ hold_inner l.production s.built.under m.child a (may_stand l.production m.child.label.production (m.held l.production h)) m.apart;
          fits = λ o ends b f. node_fits l p s s' m ends o h b f;
        }

    -- ---- The end of a node

    -- the items of an alternative were read, in a node that was opened in s
    pub record Body (p : Production) (n : ℕ) (s s' : State) : Type 0 where
      pub same_text : s'.toks ≡ s.toks
      pub later : s.at ≤ s'.at
      pub within : s.at ≤ length s.toks → s'.at ≤ length s.toks
      pub outer : SameOuter s.names.scopes s'.names.scopes
      pub inside : IsIn (labelled p n) s.at s'
      pub holds : all_hold p s'.built.under ≡ true
      pub ends : EndsAt s.at s'.built.under s'.at
      pub fits : (o : Outline) (ends : List ℕ) → s.toks ≡ toks → IsOpen s.names.scopes → Bounds s'.at o.scope.to s'.names.scopes ends
          → Matches s.at s.names.scopes ends o.entries → o.typedef ≡ s.near → Made s'.at s' ends o (node_of (labelled p n) s.at s'.built.under)

    -- what is so of the child that a closed node leaves
    record Leaves (p : Production) (s s' : State) (child : Node) : Type 0 where
      held : (q : Production) → may_hold q p ≡ true → may_hold q child.label.production ≡ true
      own : collapses p ≡ false → child.label.production ≡ p
      holds : collapses p ≡ false → all_hold p child.under ≡ true
      apart : is_main_apart child.label child.under ≡ true
      ends : EndsAt s.at child.under s'.at
      near : nearest p s'.built s.near ≡ (if is_node child.label Specs then has_mod 1 child.under else s.near)
      fits : (o : Outline) (ends : List ℕ) → s.toks ≡ toks → IsOpen s.names.scopes → Bounds s'.at o.scope.to s'.names.scopes ends
          → Matches s.at s.names.scopes ends o.entries → o.typedef ≡ s.near → Made s'.at s' ends o child

    leaves_itself : (p : Production) (n : ℕ) (s s' : State) → Body p n s s' → Leaves p s s' (node_of (labelled p n) s.at s'.built.under)
    leaves_itself p n s s' b = record {
      held = λ q h. h;
      own = λ h. refl;
      holds = λ h. b.holds;
      apart = main_apart p n s'.built.under b.holds;
      ends = b.ends;
      near = nearest_same p n s'.built s'.built.under s.near refl b.holds;
      fits = b.fits;
    }

    -- a node in which no scope begins makes of its only child what the child makes by itself
    lone_made : (p : Production) (n at : ℕ) (s' : State) (ends : List ℕ) (o : Outline) (first : ℕ) (l : Label) (begins : ℕ) (under : Forest)
        → collapses p ≡ true → is_tame l.production ≡ true
        → Made at s' ends o (node_of (labelled p n) first (node l begins under none)) → Made at s' ends o (node_of l begins under)
    lone_made p n at s' ends o first l begins under c t made =
        let f : Forest = node l begins under none in
        let inside : Outline = begun (labelled p n) first f o in
        let entries : entries_in p first f o.kept o.scope.depth o.entries ≡ o.entries = collapsed_entries p first f o.kept o.scope.depth o.entries c in
        let scope : scope_in p (labelled p n) f o.scope ≡ o.scope = collapsed_scope p (labelled p n) f o.scope c in
        let same : begun l begins under inside ≡ begun l begins under o =
        ap (λ es. begun l begins under (record inside { entries = es })) entries ∙ ap (λ c. begun l begins under (record inside { entries = o.entries; scope = c })) scope in
        let agree = and_parts (node_agrees std toks l begins inside.entries) (all_agree std toks under (begun l begins under inside) && true) made.agree in
        let below = and_parts (all_agree std toks under (begun l begins under inside)) true agree.1 in
        record {
          matches = subst (Matches at s'.names.scopes ends)
              (collapsed_alone p first o f (outlined f inside).entries c
              ∙ (after_tame l.production begins inside l under (outlined under (begun l begins under inside)).entries t
              ∙ (ap (λ (x : Outline). (outlined under x).entries) same ∙ sym (tame_alone l.production begins o under (outlined under (begun l begins under o)).entries t)))) made.matches;
          agree = ap (all_agree std toks under) (sym same) ∙ below.0;
          named = ap (node_agrees std toks l begins) (sym entries) ∙ agree.0;
        }

    leaves_lone : (p : Production) (n : ℕ) (s s' : State) (f : Forest) → s'.built.under ≡ f → collapses p ≡ true → Body p n s s'
        → Leaves p s s' (lone f (node_of (labelled p n) s.at s'.built.under))
    leaves_lone p n s s' none e c b = leaves_itself p n s s' b
    leaves_lone p n s s' (token i rest) e c b = leaves_itself p n s s' b
    leaves_lone p n s s' (node l begins under (token i rest)) e c b = leaves_itself p n s s' b
    leaves_lone p n s s' (node l begins under (node m second below rest)) e c b = leaves_itself p n s s' b
    leaves_lone p n s s' (node l begins under none) e c b =
        let all : all_hold p (node l begins under none) ≡ true = ap (all_hold p) (sym e) ∙ b.holds in
        let tame : is_tame l.production ≡ true = collapsed_tame p l.production c (and_parts (stands p l.production) _ all).0 in
        record {
          held = λ q h. collapsed_held q p l.production c tame h;
          own = λ h. absurd (false≢true (sym h ∙ c));
          holds = λ h. absurd (false≢true (sym h ∙ c));
          apart = tame_apart l l.production under refl tame;
          ends = subst (λ g. EndsAt s.at g s'.at) e b.ends;
          near = collapsed_nearest p s'.built s.near c ∙ ap (λ x. if x then has_mod 1 under else s.near) (sym (tame_specs l.production tame));
          fits = λ o ends t op bounds m near.
              lone_made p n s'.at s' ends o s.at l begins under c tame
              (subst (λ g. Made s'.at s' ends o (node_of (labelled p n) s.at g)) e (b.fits o ends t op bounds m near));
        }

    leaves_finished : (p : Production) (n : ℕ) (s s' : State) → Body p n s s' → Leaves p s s' (finished p (node_of (labelled p n) s.at s'.built.under))
    leaves_finished p n s s' b = by (collapses p) refl
      where
        by : (c : Bool) → collapses p ≡ c
            → Leaves p s s' (if c then collapsed (node_of (labelled p n) s.at s'.built.under) else node_of (labelled p n) s.at s'.built.under)
        by true e = leaves_lone p n s s' s'.built.under refl e b
        by false e = leaves_itself p n s s' b

    pub closed_scopes : (p : Production) (names : Names) → (names_closed p names).scopes ≡ names.scopes
    closed_scopes p names = by (is_declarator p)
      where
        by : (c : Bool) → (if c then head_closed names else names).scopes ≡ names.scopes
        by true = refl
        by false = refl

    pub built_is : (p : Production) (n : ℕ) (s s' : State) → IsIn (labelled p n) s.at s' → s'.built ≡ node_of (labelled p n) s.at s'.built.under
    built_is p n s s' h = ap (λ l. node_of l s'.built.first s'.built.under) h.label ∙ ap (λ k. node_of (labelled p n) k s'.built.under) h.begins

    -- the node is closed
    pub body_makes : (p : Production) (n : ℕ) (s s' : State) → Body p n s s' → Makes p s (closed p s s')
    unfolding closed
    body_makes p n s s' b =
        let child : Node = finished p (node_of (labelled p n) s.at s'.built.under) in
        let leaves : Leaves p s s' child = leaves_finished p n s s' b in
        let same : finished p s'.built ≡ child = ap (finished p) (built_is p n s s' b.inside) in
        let scopes : s'.names.scopes ≡ (names_closed p s'.names).scopes = sym (closed_scopes p s'.names) in
        record {
          child = child;
          built = ap (λ c. record s.built { under = put s.built.under (inner c) }) same;
          same_text = b.same_text;
          later = b.later;
          within = b.within;
          outer = subst (SameOuter s.names.scopes) scopes b.outer;
          held = leaves.held;
          own = leaves.own;
          holds = leaves.holds;
          apart = leaves.apart;
          ends = leaves.ends;
          near = leaves.near;
          fits = λ o ends t op bounds m near. (
              let made = leaves.fits o ends t op (subst (λ x. Bounds s'.at o.scope.to x ends) (sym scopes) bounds) m near in
              record { matches = subst (λ x. Matches s'.at x ends (made_entries o child)) scopes made.matches; agree = made.agree; named = made.named });
        }
