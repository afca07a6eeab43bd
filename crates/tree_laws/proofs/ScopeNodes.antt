-- Nodes that are scopes: blocks, parameter lists, statements and substatements (6.2.1 paragraph 4).
use Rattle.std.proofs.Common.{ℕ, ◌+◌, ◌<◌, ◌≤◌, ◌≡◌, true, List, [], ◌∷◌, length, inl, inr, refl, sym, ap, subst, ◌∙◌, arith}
use Rattle.c99_grammar.specs.declared.dialects.Edition.{Edition}
use Rattle.cs_base.specs.Token.{Token}
use Rattle.c99_tree.specs.Tree.{Forest, leaf, put}
use Rattle.c99_tree.specs.declared.production.Label.{Label}
use Rattle.c99_tree.specs.declared.production.Production.{Production}
use Rattle.c99_grammar.specs.Items.{scope, end}
use Rattle.c99_grammar.specs.Standard.{iso}
use Rattle.c99_read.specs.State.{State, Names, with_scope_ended, acted, opened}
use Rattle.scope_bind.specs.Named.{Scope}
use Rattle.c_types.specs.Trees.{last_token}
use Rattle.name_chains.specs.Entering.{inner, scope_in}
use Rattle.tree_laws.proofs.Private.{Declaration}
use Rattle.tree_laws.proofs.Outline.{Outline, Entry, begun, entries_in, outlined, node_agrees}
use Rattle.tree_laws.proofs.Matching.{Matches, Bounds, Within, IsOpen, SameOuter, matches_begun, matches_left, bounds_within, bounds_inner, within_sooner}
use Rattle.tree_laws.proofs.Places.{EndsAt, ends_none, ends_leaf}
use Rattle.tree_laws.proofs.Rules.{labelled, all_hold, hold_leaf, is_quiet, entries_alone}
use Rattle.tree_laws.proofs.Goes.{with_token, IsIn, Fits, Goes, Body}
use Rattle.tree_laws.proofs.TypedefSteps.{quiet_fits, opened_fits, opened_scopes}

-- the scopes once the innermost one, in which others may have stood, has ended
pub ended_scopes : (names : Names) (scopes x : List (List Declaration)) → IsOpen scopes → SameOuter ([] ∷ scopes) x → (with_scope_ended names x).scopes ≡ scopes
ended_scopes names [] x op same = absurd op
ended_scopes names (a ∷ outer) [] op same = absurd same
ended_scopes names (a ∷ outer) (s ∷ x) op same = ap (λ y. (with_scope_ended names (s ∷ y)).scopes) same

-- the state with other names
abbrev pub renamed_to : State → Names → State
renamed_to s names = record s { names = names }

module _ (std : Edition) where
  module _ (toks : List Token) where
    -- a scope begins in the open node
    pub scope_fits : (l : Label) (s : State) (to : ℕ) (ends : List ℕ) (o : Outline) → Fits std toks l s ends o → Fits std toks l (acted (iso std) scope s) (to ∷ ends) o
    unfolding acted
    scope_fits l s to ends o f = record {
      text = f.text;
      matches = matches_begun s.at to s.names.scopes ends (outlined s.built.under o).entries f.matches;
      near = f.near;
      label = f.label;
      nth = f.nth;
      scope = f.scope;
      agree = f.agree;
      opens = tt;
    }

    -- .. and ends
    pub end_fits : (l : Label) (s : State) (to : ℕ) (ends : List ℕ) (o : Outline) (scopes : List (List Declaration)) (names : Names)
        → IsOpen scopes → SameOuter ([] ∷ scopes) s.names.scopes → to ≤ s.at → names.scopes ≡ scopes
        → Fits std toks l s (to ∷ ends) o → Fits std toks l (renamed_to s names) ends o
    end_fits l s to ends o scopes names op same h e f = record {
      text = f.text;
      matches = subst (λ x. Matches s.at x ends (outlined s.built.under o).entries) (sym e)
          (matches_left s.at to scopes s.names.scopes ends (outlined s.built.under o).entries same h f.matches);
      near = f.near;
      label = f.label;
      nth = f.nth;
      scope = f.scope;
      agree = f.agree;
      opens = subst IsOpen (sym e) op;
    }

    pub scoped_scopes : (s : State) → (acted (iso std) scope s).names.scopes ≡ [] ∷ s.names.scopes
    unfolding acted
    scoped_scopes s = refl

    pub scoped_in : (l : Label) (first : ℕ) (s : State) → IsIn l first s → IsIn l first (acted (iso std) scope s)
    unfolding acted
    scoped_in l first s i = record { label = i.label; begins = i.begins }

    pub scoped_at : (s : State) → (acted (iso std) scope s).at ≡ s.at
    unfolding acted
    scoped_at s = refl

    pub scoped_toks : (s : State) → (acted (iso std) scope s).toks ≡ s.toks
    unfolding acted
    scoped_toks s = refl

    scoped_under : (s : State) → (acted (iso std) scope s).built.under ≡ s.built.under
    unfolding acted
    scoped_under s = refl

    -- What is asked of a node that is a scope: it begins with what is known around it, and says nothing by itself.
    pub record IsScope (p : Production) (n : ℕ) (under : Forest) (to : ℕ) : Type 0 where
      pub scope : (around : Scope) → scope_in p (labelled p n) under around ≡ inner around to
      pub entries : (first : ℕ) (o : Outline) → entries_in p first under o.kept o.scope.depth o.entries ≡ o.entries
      pub alone : (first : ℕ) (o : Outline) (es : List Entry) → entries_alone p first o under es ≡ es
      pub named : (first : ℕ) (o : Outline) → node_agrees std toks (labelled p n) first o.entries ≡ true

    -- ---- A scope between two tokens

    module _ (p : Production) (n : ℕ) (s s' : State) (names : Names) (quiet : is_quiet p n ≡ true)
        (g : Goes std toks (labelled p n) s.at (acted (iso std) scope (with_token (opened p n s))) s')
        (back : IsOpen s.names.scopes → names.scopes ≡ s.names.scopes) (more : s'.at < length s.toks)
        (is_scope : IsScope p n (put s'.built.under (leaf s'.at)) s'.at) where
      abbrev last_state : State
      last_state = with_token (renamed_to s' names)

      abbrev under : Forest
      under = put s'.built.under (leaf s'.at)

      begun_scopes : (acted (iso std) scope (with_token (opened p n s))).names.scopes ≡ [] ∷ s.names.scopes
      unfolding opened
      begun_scopes = scoped_scopes (with_token (opened p n s)) ∙ ap (λ x. [] ∷ x) (opened_scopes std toks p s.names)

      same_outer : SameOuter ([] ∷ s.names.scopes) s'.names.scopes
      same_outer = subst (λ x. SameOuter x s'.names.scopes) begun_scopes g.outer

      bracket_fits : (o : Outline) (ends : List ℕ) → s.toks ≡ toks → IsOpen s.names.scopes → Within (s'.at + 1) s.names.scopes ends
          → Matches s.at s.names.scopes ends o.entries → o.typedef ≡ s.near → Fits std toks (labelled p n) last_state ends (begun (labelled p n) s.at under o)
      bracket_fits o ends t op w m near =
          let o' : Outline = begun (labelled p n) s.at under o in
          let to : o'.scope.to ≡ s'.at = ap (λ (c : Scope). c.to) (is_scope.scope o.scope) in
          let f2 = scope_fits (labelled p n) (with_token (opened p n s)) o'.scope.to ends o'
          (quiet_fits std toks (labelled p n) (opened p n s) ends o' quiet (opened_fits std toks p n s under o ends t op (is_scope.entries s.at o) m near)) in
          let f3 = g.fits o' (o'.scope.to ∷ ends)
          (bounds_inner s'.at o'.scope.to s.names.scopes s'.names.scopes ends same_outer (omega arith) (within_sooner s'.at (s'.at + 1) s.names.scopes ends (omega arith) w)) f2 in
          (quiet_fits std) toks (labelled p n) (renamed_to s' names) ends o' quiet
          (end_fits (labelled p n) s' o'.scope.to ends o' s.names.scopes names op same_outer (omega arith) (back op) f3)

      closing_outer : (x y : List (List Declaration)) → (IsOpen x → y ≡ x) → SameOuter x y
      closing_outer [] y e = tt
      closing_outer (a ∷ x) y e = subst (SameOuter (a ∷ x)) (sym (e tt)) refl

      pub bracket_body : Body std toks p n s last_state
      unfolding opened
      bracket_body = record {
        same_text = g.same_text ∙ scoped_toks (with_token (opened p n s));
        later = (let h : s.at + 1 ≤ s'.at = subst (λ k. k ≤ s'.at) (scoped_at (with_token (opened p n s))) g.later in omega arith);
        within = λ h. omega arith;
        outer = closing_outer s.names.scopes names.scopes back;
        inside = (let i = g.inside (scoped_in (labelled p n) s.at (with_token (opened p n s)) (record { label = refl; begins = refl })) in
            record { label = i.label; begins = i.begins });
        holds = hold_leaf p s'.built.under s'.at (g.holds (ap (all_hold p) (scoped_under (with_token (opened p n s)))));
        ends = ends_leaf s.at s'.built.under s'.at;
        fits = λ o ends t op b m near. (
            let w = bounds_within (s'.at + 1) o.scope.to s.names.scopes ends (subst (λ x. Bounds (s'.at + 1) o.scope.to x ends) (back op) b) in
            let f = bracket_fits o ends t op w m near in
            record {
              matches = subst (Matches (s'.at + 1) names.scopes ends) (sym (is_scope.alone s.at o (outlined under (begun (labelled p n) s.at under o)).entries)) f.matches;
              agree = f.agree;
              named = is_scope.named s.at o;
            });
      }

    -- ---- A scope that is the whole node

    module _ (p : Production) (n : ℕ) (s s' : State)
        (g : Goes std toks (labelled p n) s.at (acted (iso std) scope (opened p n s)) s') (grows : s.at < s'.at)
        (is_scope : IsScope p n s'.built.under (last_token s'.built.under 0 + 1)) where
      whole_scopes : (acted (iso std) scope (opened p n s)).names.scopes ≡ [] ∷ s.names.scopes
      unfolding opened
      whole_scopes = scoped_scopes (opened p n s) ∙ ap (λ x. [] ∷ x) (opened_scopes std toks p s.names)

      whole_outer : SameOuter ([] ∷ s.names.scopes) s'.names.scopes
      whole_outer = subst (λ x. SameOuter x s'.names.scopes) whole_scopes g.outer

      whole_back : IsOpen s.names.scopes → (with_scope_ended s'.names s'.names.scopes).scopes ≡ s.names.scopes
      whole_back op = ended_scopes s'.names s.names.scopes s'.names.scopes op whole_outer

      opened_under : EndsAt s.at (acted (iso std) scope (opened p n s)).built.under (acted (iso std) scope (opened p n s)).at
      unfolding acted opened
      opened_under = ends_none s.at

      last_is : EndsAt s.at s'.built.under s'.at → last_token s'.built.under 0 + 1 ≡ s'.at
      last_is (inl h) = absurd (let e : s'.at ≡ s.at = h.0 in omega arith)
      last_is (inr h) = h 0

      whole_fits : (o : Outline) (ends : List ℕ) → s.toks ≡ toks → IsOpen s.names.scopes → Within s'.at s.names.scopes ends
          → Matches s.at s.names.scopes ends o.entries → o.typedef ≡ s.near
          → Fits std toks (labelled p n) (acted (iso std) end s') ends (begun (labelled p n) s.at s'.built.under o)
      unfolding acted
      whole_fits o ends t op w m near =
          let o' : Outline = begun (labelled p n) s.at s'.built.under o in
          let to : o'.scope.to ≡ s'.at = ap (λ (c : Scope). c.to) (is_scope.scope o.scope) ∙ last_is (g.ends opened_under) in
          let f2 = scope_fits (labelled p n) (opened p n s) o'.scope.to ends o' (opened_fits std toks p n s s'.built.under o ends t op (is_scope.entries s.at o) m near) in
          let f3 = g.fits o' (o'.scope.to ∷ ends) (bounds_inner s'.at o'.scope.to s.names.scopes s'.names.scopes ends whole_outer (omega arith) w) f2 in
          end_fits (labelled p n) s' o'.scope.to ends o' s.names.scopes (with_scope_ended s'.names s'.names.scopes) op whole_outer (omega arith) (whole_back op) f3

      pub whole_body : Body std toks p n s (acted (iso std) end s')
      unfolding opened acted
      whole_body = record {
        same_text = g.same_text;
        later = (let h : s.at ≤ s'.at = g.later in omega arith);
        within = g.within;
        outer = closing_whole s.names.scopes (with_scope_ended s'.names s'.names.scopes).scopes whole_back;
        inside = (let i = g.inside (record { label = refl; begins = refl }) in record { label = i.label; begins = i.begins });
        holds = g.holds refl;
        ends = g.ends (ends_none s.at);
        fits = λ o ends t op b m near. (
            let w = bounds_within s'.at o.scope.to s.names.scopes ends (subst (λ x. Bounds s'.at o.scope.to x ends) (whole_back op) b) in
            let f = whole_fits o ends t op w m near in
            record {
              matches = subst (Matches s'.at (with_scope_ended s'.names s'.names.scopes).scopes ends) (sym (is_scope.alone s.at o (outlined s'.built.under (begun (labelled p n) s.at s'.built.under o)).entries)) f.matches;
              agree = f.agree;
              named = is_scope.named s.at o;
            });
      }
        where
          closing_whole : (x y : List (List Declaration)) → (IsOpen x → y ≡ x) → SameOuter x y
          closing_whole [] y e = tt
          closing_whole (a ∷ x) y e = subst (SameOuter (a ∷ x)) (sym (e tt)) refl
