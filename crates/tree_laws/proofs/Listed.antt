-- The names of a parameter list that ends are the declarations of its scope.
use Rattle.std.proofs.Common.{ℕ, ◌+◌, ◌<◌, ◌≤◌, ◌≡◌, Bool, true, false, ◌&&◌, not, if◌then◌else◌, List, [], ◌∷◌, ◌++◌, None, nat_lt, refl, sym, ap, subst, ◌∙◌, arith}
use Rattle.std.proofs.lemmas.Bool.{le-ltb, lt-ltb}
use Rattle.c99_grammar.specs.declared.dialects.Edition.{Edition}
use Rattle.cs_base.specs.Token.{Token}
use Rattle.c99_tree.specs.Tree.{Forest, none, token, node, leaf, put}
use Rattle.c99_tree.specs.declared.production.Label.{Label}
use Rattle.c99_tree.specs.declared.production.Production.TheVariants.{Suffix}
use Rattle.c99_grammar.specs.Items.{scope}
use Rattle.c99_grammar.specs.Standard.{iso}
use Rattle.c99_read.specs.State.{State, declaration, acted, opened}
use Rattle.scope_bind.specs.Named.{Scope}
use Rattle.name_chains.specs.Entering.{inner}
use Rattle.tree_laws.proofs.Private.{Declaration}
use Rattle.tree_laws.proofs.Outline.{Entry, entry, Outline, added, begun, outlined, is_listing, stepped}
use Rattle.tree_laws.proofs.Matching.{seen, shown, Within, IsOpen, SameOuter, bounds_inner}
use Rattle.tree_laws.proofs.Places.{last_leaf, outlined_leaf}
use Rattle.tree_laws.proofs.Rules.{labelled}
use Rattle.tree_laws.proofs.Goes.{with_token, Fits, Goes}
use Rattle.tree_laws.proofs.TypedefSteps.{opened_scopes}
use Rattle.tree_laws.proofs.ScopeNodes.{scoped_scopes}
use Rattle.tree_laws.proofs.Owned.{chosen, is_of, shown_chosen, Below}
use Rattle.tree_laws.proofs.Twins.{outlined_twins}

abbrev shadows : List Declaration → ℕ → List Entry → List Entry
shadows [] b es = es
shadows (d ∷ s) b es = entry d.name_at d.typedef 0 0 b ∷ shadows s b es

shadow_shown : (k b : ℕ) (s : List Declaration) (es : List Entry) → shown k (shadows s b es) ≡ (if nat_lt k b then s else []) ++ shown k es
shadow_shown k b s es = by s (nat_lt k b) refl
  where
    by : (s : List Declaration) (c : Bool) → nat_lt k b ≡ c → shown k (shadows s b es) ≡ (if c then s else []) ++ shown k es
    by [] true e = refl
    by [] false e = refl
    by (d ∷ s) true e =
        ap (λ x. if not x && nat_lt k b then declaration d.name_at d.typedef ∷ shown k (shadows s b es) else shown k (shadows s b es)) (le-ltb k 0 (omega arith))
        ∙ (ap (λ x. if x then declaration d.name_at d.typedef ∷ shown k (shadows s b es) else shown k (shadows s b es)) e
        ∙ ap (λ r. d ∷ r) (by s true e))
    by (d ∷ s) false e =
        ap (λ x. if not x && nat_lt k b then declaration d.name_at d.typedef ∷ shown k (shadows s b es) else shown k (shadows s b es)) (le-ltb k 0 (omega arith))
        ∙ (ap (λ x. if x then declaration d.name_at d.typedef ∷ shown k (shadows s b es) else shown k (shadows s b es)) e
        ∙ by s false e)

append_none : (s : List Declaration) → s ++ [] ≡ s
append_none [] = refl
append_none (d ∷ s) = ap (λ r. d ∷ r) (append_none s)

-- ---- A bound above all tokens

abbrev reach : Forest → ℕ
reach none = 1
reach (token i rest) = (i + 1) + reach rest
reach (node l first under rest) = first + (reach under + reach rest)

pub below_more : (b b' : ℕ) (f : Forest) → b ≤ b' → Below b f → Below b' f
below_more b b' none h w = tt
below_more b b' (token i rest) h w = (let x = w.0 in omega arith, below_more b b' rest h w.1)
below_more b b' (node l first under rest) h w = (let x = w.0 in omega arith, below_more b b' under h w.1, below_more b b' rest h w.2)

reach_some : (f : Forest) → 0 < reach f
reach_some none = omega arith
reach_some (token i rest) = let h = reach_some rest in omega arith
reach_some (node l first under rest) = let h = reach_some rest in omega arith

reach_below : (f : Forest) → Below (reach f) f
reach_below none = tt
reach_below (token i rest) = (omega arith, below_more (reach rest) (reach (token i rest)) rest (omega arith) (reach_below rest))
reach_below (node l first under rest) = (
  omega arith,
  below_more (reach under) (reach (node l first under rest)) under (omega arith) (reach_below under),
  below_more (reach rest) (reach (node l first under rest)) rest (omega arith) (reach_below rest),
)

pub outlined_label : (f : Forest) (o : Outline) → (outlined f o).label ≡ o.label
outlined_label none o = refl
outlined_label (token i rest) o = outlined_label rest _
outlined_label (node l first under rest) o = outlined_label rest _

pub outlined_scope : (f : Forest) (o : Outline) → (outlined f o).scope ≡ o.scope
outlined_scope none o = refl
outlined_scope (token i rest) o = outlined_scope rest _
outlined_scope (node l first under rest) o = outlined_scope rest _

module _ (std : Edition) where
  -- ---- Scopes that end at one token, and declarations that show them

  abbrev levels : List (List Declaration) → ℕ → List ℕ
  levels [] b = []
  levels (s ∷ outer) b = b ∷ levels outer b

  abbrev all_shadows : List (List Declaration) → ℕ → List Entry
  all_shadows [] b = []
  all_shadows (s ∷ outer) b = shadows s b (all_shadows outer b)

  levels_within : (b : ℕ) (scopes : List (List Declaration)) → Within b scopes (levels scopes b)
  levels_within b [] = tt
  levels_within b (s ∷ outer) = (omega arith, levels_within b outer)

  shadows_shown : (k b : ℕ) (scopes : List (List Declaration)) → shown k (all_shadows scopes b) ≡ seen k scopes (levels scopes b)
  shadows_shown k b [] = refl
  shadows_shown k b (s ∷ outer) =
      shadow_shown k b s (all_shadows outer b) ∙ ap (λ r. (if nat_lt k b then s else []) ++ r) (shadows_shown k b outer)

  -- no scope is seen from where all have ended
  none_seen : (k b : ℕ) (scopes : List (List Declaration)) → b ≤ k → seen k scopes (levels scopes b) ≡ []
  none_seen k b [] h = refl
  none_seen k b (s ∷ outer) h = ap (λ c. (if c then s else []) ++ seen k outer (levels outer b)) (le-ltb k b h) ∙ none_seen k b outer h

  abbrev pub head_of : List (List Declaration) → List Declaration
  head_of [] = []
  head_of (s ∷ outer) = s

  module _ (toks : List Token) (s s' : State) (g : Goes std toks (labelled Suffix 2) s.at (acted (iso std) scope (with_token (opened Suffix 2 s))) s')
      (text : s.toks ≡ toks) (op : IsOpen s.names.scopes) where
    abbrev all : Forest
    all = put s'.built.under (leaf s'.at)

    abbrev far : ℕ
    far = s'.at + reach s'.built.under + 1

    abbrev outer : List (List Declaration)
    outer = s.names.scopes

    -- what is known where a list begins that ends far behind
    abbrev far_outline : Outline
    far_outline = record {
      entries = all_shadows outer s'.at;
      label = labelled Suffix 2;
      nth = 0;
      scope = record { depth = 1; to = far + 1 };
      typedef = s.near;
      kept = None;
    }

    list_scopes : (acted (iso std) scope (with_token (opened Suffix 2 s))).names.scopes ≡ [] ∷ outer
    unfolding opened
    list_scopes = scoped_scopes std toks (with_token (opened Suffix 2 s)) ∙ ap (λ x. [] ∷ x) (opened_scopes std toks Suffix s.names)

    same_outer : SameOuter ([] ∷ outer) s'.names.scopes
    same_outer = subst (λ x. SameOuter x s'.names.scopes) list_scopes g.outer

    far_matches : (k : ℕ) (c : Bool) → shown k (all_shadows outer s'.at) ≡ (if c then [] else []) ++ seen k outer (levels outer s'.at)
    far_matches k true = shadows_shown k s'.at outer
    far_matches k false = shadows_shown k s'.at outer

    far_begins : Fits std toks (labelled Suffix 2) (acted (iso std) scope (with_token (opened Suffix 2 s))) ((far + 1) ∷ levels outer s'.at) far_outline
    unfolding opened acted
    far_begins = record {
      text = text;
      matches = λ k w. far_matches k (nat_lt k (far + 1));
      near = refl;
      label = refl;
      nth = refl;
      scope = refl;
      agree = refl;
      opens = tt;
    }

    far_fits : Fits std toks (labelled Suffix 2) s' ((far + 1) ∷ levels outer s'.at) far_outline
    far_fits =
        g.fits far_outline ((far + 1) ∷ levels outer s'.at)
        (bounds_inner s'.at (far + 1) outer s'.names.scopes (levels outer s'.at) same_outer (omega arith) (levels_within s'.at outer)) far_begins

    -- the names that the reader has are those that are shown far behind
    far_names : (x : List (List Declaration)) → SameOuter ([] ∷ outer) x → seen far x ((far + 1) ∷ levels outer s'.at) ≡ head_of x
    far_names [] same = absurd same
    far_names (n ∷ x) same =
        ap (λ c. (if c then n else []) ++ seen far x (levels outer s'.at)) (lt-ltb far (far + 1) (omega arith))
        ∙ (ap (λ y. n ++ seen far y (levels outer s'.at)) same ∙ (ap (λ r. n ++ r) (none_seen far s'.at outer (omega arith)) ∙ append_none n))

    pub listed_names : (o : Outline) → o.typedef ≡ s.near → chosen (is_of (o.scope.depth + 1) s'.at) o.entries ≡ []
        → head_of s'.names.scopes ≡ chosen (is_of (o.scope.depth + 1) s'.at) (outlined all (begun (labelled Suffix 2) s.at all o)).entries
    listed_names o near fresh =
        let list : Outline = begun (labelled Suffix 2) s.at all o in
        let c1 : Scope = inner o.scope s'.at in
        let to : list.scope ≡ c1 = ap (inner o.scope) (last_leaf s'.built.under s'.at 0) in
        let twins = outlined_twins far (reach s'.built.under) (omega arith) (reach_some s'.built.under) c1 far_outline.scope (omega arith)
        s'.built.under list far_outline (reach_below s'.built.under)
        (record {
          label = refl;
          nth = refl;
          typedef = near;
          scope = to;
          far_scope = refl;
          names = fresh ∙ sym (sym (shown_chosen far (all_shadows outer s'.at)) ∙ (shadows_shown far s'.at outer ∙ none_seen far s'.at outer (omega arith)));
        }) in
        let more : outlined all list ≡ stepped s'.at (outlined s'.built.under list) = outlined_leaf s'.built.under s'.at list in
        let label : (outlined s'.built.under list).label ≡ labelled Suffix 2 = outlined_label s'.built.under list in
        let same : (stepped s'.at (outlined s'.built.under list)).entries ≡ (outlined s'.built.under list).entries = plain_step s'.at (outlined s'.built.under list) label in
        sym (far_names s'.names.scopes same_outer)
        ∙ (sym (far_fits.matches far (omega arith))
        ∙ (shown_chosen far (outlined s'.built.under far_outline).entries
        ∙ (sym twins.names ∙ (ap (chosen (is_of (o.scope.depth + 1) s'.at)) (sym same) ∙ ap (λ (x : Outline). chosen (is_of (o.scope.depth + 1) s'.at) x.entries) (sym more)))))
      where
        plain_step : (i : ℕ) (x : Outline) → x.label ≡ labelled Suffix 2 → (stepped i x).entries ≡ x.entries
        plain_step i x e = ap (λ (l : Label). if is_listing l.production l.alternative x.nth then added x i false i x.entries else x.entries) e
