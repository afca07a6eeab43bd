-- Names that are declared: at the end of a declarator, and in an identifier list.
use Rattle.std.proofs.Common.{ℕ, ◌+◌, ◌<◌, ◌≤◌, ◌≡◌, Bool, true, false, ◌&&◌, ◌||◌, if◌then◌else◌, ◌==◌, List, [], ◌∷◌, Option, None, Some, Ok, Err, inl, inr, refl, sym, ap, subst, ◌∙◌, arith}
use Rattle.std.proofs.lemmas.Bool.{false≢true, and_parts}
use Rattle.c99_grammar.specs.declared.dialects.Edition.{Edition}
use Rattle.cs_base.specs.Token.{Token}
use Rattle.c99_tree.specs.Tree.{Forest, none, token, node, Node, inner, put, count_of}
use Rattle.c99_tree.specs.declared.production.Label.{Label}
use Rattle.c99_tree.specs.declared.production.Production.{Production}
use Rattle.c99_tree.specs.declared.production.Production.TheVariants.{InitDecl, Specs, Declarator, Direct, Param, Pdecl, Pdirect}
use Rattle.c99_tree.specs.contracts.production.ProductionPartialEq.TheImpl.{ghosts}
use Rattle.c99_grammar.specs.Items.{Item, part, act, ◌·◌, maybe, own, declare}
use Rattle.c99_grammar.specs.Standard.{c99, iso}
use Rattle.c99_read.specs.State.{State, name_below as reader_name, is_declaring, is_direct, last_declared, declaration, in_innermost, with_declared, acted, opened}
use Rattle.c99_read.specs.Reading.{Goal, produce, Step, and_then, may, step}
use Rattle.scope_bind.specs.Named.{Scope}
use Rattle.c_types.specs.Trees.{is_node, has_mod, holds_name, has_name, name_below, last_token}
use Rattle.tree_laws.proofs.Private.{Declaration}
use Rattle.tree_laws.proofs.Parts.{first_body, rest_of}
use Rattle.tree_laws.proofs.Outline.{Outline, Entry, entry, begun, outlined, named_entries, in_declaration, in_parameter, entries_after, all_agree}
use Rattle.tree_laws.proofs.Matching.{Matches, Bounds, SameOuter, matches_added, outer_still, outer_further, outer_open, bounds_sooner}
use Rattle.tree_laws.proofs.Places.{EndsAt, ends_inner, count_inner, outlined_inner, behind, agree_inner}
use Rattle.tree_laws.proofs.Rules.{labelled, all_hold, hold_inner, is_specifier, is_main_apart, entries_alone}
use Rattle.tree_laws.proofs.Goes.{After, Fits, Goes, goes_further, Made, Makes, node_goes, Body}
use Rattle.tree_laws.proofs.TypedefSteps.{Reads, Grows, goes_step, goes_body, opened_in}

holds_same : (p : Production) → is_declaring p ≡ holds_name p
holds_same Declarator = refl
holds_same Direct = refl
holds_same Pdecl = refl
holds_same Pdirect = refl
holds_same _ = refl

-- specifiers have none
no_declarator : (q : Production) → is_specifier q ≡ true → is_declaring q ≡ false
no_declarator Declarator h = absurd (false≢true h)
no_declarator Direct h = absurd (false≢true h)
no_declarator Pdecl h = absurd (false≢true h)
no_declarator Pdirect h = absurd (false≢true h)
no_declarator _ h = refl

pub no_name : (l : Label) (f : Forest) → l.production ≡ Specs → all_hold Specs f ≡ true → reader_name l f ≡ None
no_name l none e h = refl
no_name l (token i rest) e h =
    ap (λ p. if is_direct p && (l.alternative == 1) then Some i else reader_name l rest) e ∙ no_name l rest e h
no_name l (node m first under rest) e h =
    let both = and_parts (is_specifier m.production) (is_main_apart m under && all_hold Specs rest) h in
    let more = and_parts (is_main_apart m under) (all_hold Specs rest) both.1 in
    ap (λ c. if c then reader_name m under else reader_name l rest) (no_declarator m.production both.0) ∙ no_name l rest e more.1

-- ---- A declaration in the innermost scope

pub outer_declared : (scopes : List (List Declaration)) (d : Declaration) → SameOuter scopes (in_innermost scopes d)
outer_declared [] d = tt
outer_declared (s ∷ outer) d = refl

pub put_matches : (at k i from to depth : ℕ) (t : Bool) (scopes : List (List Declaration)) (ends : List ℕ) (es : List Entry)
    → Bounds k to scopes ends → from ≤ at → Matches at scopes ends es
    → Matches at (in_innermost scopes (declaration i t)) ends (entry i t depth from to ∷ es)
put_matches at k i from to depth t [] ends es b h m = absurd b
put_matches at k i from to depth t (s ∷ outer) [] es b h m = absurd b
put_matches at k i from to depth t (s ∷ outer) (e ∷ ends) es b h m =
    subst (λ x. Matches at (in_innermost (s ∷ outer) (declaration i t)) (e ∷ ends) (entry i t depth from x ∷ es)) b.0
    (matches_added at i from e depth t s outer ends es m h)

-- the state with this name declared, where there is one
abbrev pub naming : State → Option ℕ → Bool → State
naming s i t = record s { names = with_declared s.names i t }

module _ (std : Edition) where
  -- ---- The name of a declarator

  has_name_same : (p : Production) (n : ℕ) → (is_direct p && (n == 1)) ≡ ((ghosts.eq p Direct && (n == 1)) || (ghosts.eq p Pdirect && (n == 1)))
  has_name_same Direct n = by (n == 1)
    where
      by : (c : Bool) → c ≡ (c || false)
      by true = refl
      by false = refl
  has_name_same Pdirect n = refl
  has_name_same _ n = refl

  -- both say the same name
  pub names_below : (l : Label) (f : Forest) → reader_name l f ≡ name_below l f
  names_below l none = refl
  names_below l (token i rest) =
      ap (λ c. if c then Some i else reader_name l rest) (has_name_same l.production l.alternative)
      ∙ ap (λ r. if has_name l then Some i else r) (names_below l rest)
  names_below l (node m first under rest) =
      ap (λ c. if c then reader_name m under else reader_name l rest) (holds_same m.production)
      ∙ (ap (λ r. if holds_name m.production then r else reader_name l rest) (names_below m under)
      ∙ ap (λ r. if holds_name m.production then name_below m under else r) (names_below l rest))

  module _ (toks : List Token) where
    -- ---- At the end of a declarator

    module _ (l : Label) (first : ℕ) (p : Production) (s s' : State) (m : Makes std toks p s s') (grows : s.at < s'.at)
        (declares : (o : Outline) (es : List Entry) → o.label ≡ l
        → entries_after m.child.label.production m.child.first o m.child.label m.child.under es ≡ named_entries o (name_below m.child.label m.child.under) m.child.under es)
        (alone : (first : ℕ) (o : Outline) (under : Forest) (es : List Entry) → entries_alone m.child.label.production first o under es ≡ es)
        (specless : is_node m.child.label Specs ≡ false) where
      ends_before : (e : EndsAt s.at m.child.under s'.at) (k : ℕ) → last_token m.child.under k + 1 ≤ s'.at
      ends_before (inl h) k = absurd (let e : s'.at ≡ s.at = h.0 in omega arith)
      ends_before (inr h) k = let e = h k in omega arith

      near_same : s'.near ≡ s.near
      near_same = m.near ∙ ap (λ c. if c then has_mod 1 m.child.under else s.near) specless

      named_case : (nb : Option ℕ) (ends : List ℕ) (here : Outline) (es : List Entry)
          → Bounds s'.at here.scope.to s'.names.scopes ends → here.typedef ≡ s.near → Matches s'.at s'.names.scopes ends es
          → Matches s'.at (with_declared s'.names nb s'.near).scopes ends (named_entries here nb m.child.under es)
      named_case None ends here es b near x = x
      named_case (Some i) ends here es b near x =
          subst (λ t. Matches s'.at (in_innermost s'.names.scopes (declaration i t)) ends (named_entries here (Some i) m.child.under es)) (near ∙ sym near_same)
          (put_matches s'.at s'.at i (last_token m.child.under i + 1) here.scope.to here.scope.depth here.typedef s'.names.scopes ends es b (ends_before m.ends i) x)

      named_outer : (nb : Option ℕ) → SameOuter s'.names.scopes (with_declared s'.names nb s'.near).scopes
      named_outer None = outer_still s'.names.scopes
      named_outer (Some i) = outer_declared s'.names.scopes (declaration i s'.near)

      declared_fits : (nb : Option ℕ) → nb ≡ name_below m.child.label m.child.under → (o : Outline) (ends : List ℕ)
          → Bounds s'.at o.scope.to (with_declared s'.names nb s'.near).scopes ends → Fits std toks l s ends o → Fits std toks l (naming s' nb s'.near) ends o
      declared_fits nb e o ends b f =
          let here : Outline = outlined s.built.under o in
          let bounds : Bounds s'.at here.scope.to s'.names.scopes ends =
          subst (λ (c : Scope). Bounds s'.at c.to s'.names.scopes ends) (sym f.scope)
          (bounds_sooner s'.at s'.at o.scope.to s'.names.scopes (with_declared s'.names nb s'.near).scopes ends
          (outer_open s.names.scopes s'.names.scopes f.opens m.outer) (omega arith) (named_outer nb) b) in
          let made : Made std toks s'.at s' ends here m.child = m.fits here ends f.text f.opens bounds f.matches f.near in
          let inside : Outline = outlined m.child.under (begun m.child.label m.child.first m.child.under here) in
          let under : s'.built.under ≡ put s.built.under (inner m.child) = ap (λ (n : Node). n.under) m.built in
          let more : outlined s'.built.under o ≡ behind m.child here = ap (λ g. outlined g o) under ∙ outlined_inner s.built.under m.child o in
          let entries : (outlined s'.built.under o).entries ≡ named_entries here nb m.child.under inside.entries =
          ap (λ (x : Outline). x.entries) more ∙ (declares here inside.entries f.label ∙ ap (λ i. named_entries here i m.child.under inside.entries) (sym e)) in
          record {
            text = m.same_text ∙ f.text;
            matches = subst (Matches s'.at (with_declared s'.names nb s'.near).scopes ends) (sym entries)
                (named_case nb ends here inside.entries bounds f.near (subst (Matches s'.at s'.names.scopes ends) (alone m.child.first here m.child.under inside.entries) made.matches));
            near = ap (λ (x : Outline). x.typedef) more ∙ (ap (λ t. if is_node m.child.label Specs then has_mod 1 m.child.under else t) f.near ∙ sym m.near);
            label = ap (λ (x : Outline). x.label) more ∙ f.label;
            nth = ap (λ (x : Outline). x.nth) more ∙ (ap (λ n. n + 1) f.nth ∙ (sym (count_inner s.built.under m.child) ∙ sym (ap count_of under)));
            scope = ap (λ (x : Outline). x.scope) more ∙ f.scope;
            agree = ap (λ g. all_agree std toks g o) under ∙ agree_inner std toks s.built.under m.child o f.agree made.named made.agree;
            opens = outer_open s.names.scopes (with_declared s'.names nb s'.near).scopes f.opens
                (outer_further s.names.scopes s'.names.scopes (with_declared s'.names nb s'.near).scopes m.outer (named_outer nb));
          }

      pub declared_goes : (nb : Option ℕ) → nb ≡ name_below m.child.label m.child.under → (all_hold l.production s.built.under ≡ true → all_hold l.production s'.built.under ≡ true)
          → Goes std toks l first s (naming s' nb s'.near)
      declared_goes nb e holds =
          let under : s'.built.under ≡ put s.built.under (inner m.child) = ap (λ (n : Node). n.under) m.built in
          record {
            same_text = m.same_text;
            later = m.later;
            within = m.within;
            outer = outer_further s.names.scopes s'.names.scopes (with_declared s'.names nb s'.near).scopes m.outer (named_outer nb);
            inside = λ i. record { label = ap (λ (n : Node). n.label) m.built ∙ i.label; begins = ap (λ (n : Node). n.first) m.built ∙ i.begins };
            ends = λ h. subst (λ g. EndsAt first g s'.at) (sym under) (ends_inner first s.built.under m.child s.at s'.at h m.ends);
            holds = holds;
            fits = λ o ends b f. declared_fits nb e o ends b f;
          }

    -- ---- Declarations (6.7) and parameters (6.7.5.3)

    declarator_after : (q : Production) (first : ℕ) (o : Outline) (l : Label) (under : Forest) (es : List Entry) → q ≡ Declarator → o.label ≡ labelled InitDecl 1
        → entries_after q first o l under es ≡ named_entries o (name_below l under) under es
    declarator_after q first o l under es e in_ =
        ap (λ x. entries_after x first o l under es) e ∙ ap (λ (m : Label). in_declaration m.production o l under es) in_

    parameter_after : (q : Production) (first : ℕ) (o : Outline) (l : Label) (under : Forest) (es : List Entry) → q ≡ Pdecl → o.label ≡ labelled Param 1
        → entries_after q first o l under es ≡ named_entries o (name_below l under) under es
    parameter_after q first o l under es e in_ =
        ap (λ x. entries_after x first o l under es) e ∙ ap (λ (m : Label). in_parameter m.production o l under es) in_

    module _ (below : ℕ → Goal → State → Step) (reads : Reads std toks below) where
      abbrev init_items : Item
      init_items = rest_of (rest_of (first_body (c99.table InitDecl)))

      -- a declarator in a declaration, and its initializer
      pub declared_after : (depth : ℕ) (s s1 : State) → Makes std toks Declarator (opened InitDecl 1 s) s1 → Grows Declarator (opened InitDecl 1 s) s1
          → Goes std toks (labelled InitDecl 1) s.at (opened InitDecl 1 s) (acted (iso std) declare s1)
      unfolding acted opened
      declared_after depth s s1 m grows =
          let own : m.child.label.production ≡ Declarator = m.own refl in
          let under : s1.built.under ≡ put none (inner m.child) = ap (λ (n : Node). n.under) m.built in
          declared_goes (labelled InitDecl 1) s.at Declarator (opened InitDecl 1 s) s1 m (grows refl)
          (λ o es i. declarator_after m.child.label.production m.child.first o m.child.label m.child.under es own i)
          (λ f o u es. ap (λ x. entries_alone x f o u es) own)
          (ap (λ x. ghosts.eq x Specs) own)
          (last_declared s1.built.under)
          (ap last_declared under ∙ names_below m.child.label m.child.under)
          (λ a. ap (all_hold InitDecl) under ∙ hold_inner InitDecl none m.child refl refl m.apart)

      pub init_body : (depth : ℕ) (s : State)
          → After (Body std toks InitDecl 1 s) (step (iso std) below depth (part Declarator · (act declare · init_items)) (opened InitDecl 1 s))
      init_body depth s = by (below depth (produce Declarator) (opened InitDecl 1 s)) (reads.made depth Declarator (opened InitDecl 1 s) refl)
        where
          ends_with : (s1 s' : State) → Goes std toks (labelled InitDecl 1) s.at (opened InitDecl 1 s) s1 → Goes std toks (labelled InitDecl 1) s.at s1 s' → Body std toks InitDecl 1 s s'
          ends_with s1 s' g g' = goes_body std toks InitDecl 1 s s' refl refl (goes_further std toks (labelled InitDecl 1) s.at (opened InitDecl 1 s) s1 s' g g')

          last_items : (s1 : State) (r : Step) → Goes std toks (labelled InitDecl 1) s.at (opened InitDecl 1 s) s1 → After (Goes std toks (labelled InitDecl 1) s.at s1) r
              → After (Body std toks InitDecl 1 s) r
          last_items s1 (Err stop) g m = tt
          last_items s1 (Ok s') g m = ends_with s1 s' g m

          by : (r : Step) → After (λ s'. Makes std toks Declarator (opened InitDecl 1 s) s' × Grows Declarator (opened InitDecl 1 s) s') r
              → After (Body std toks InitDecl 1 s) (and_then r (step (iso std) below depth (act declare · init_items)))
          by (Err stop) m = tt
          by (Ok s1) m =
              let g = declared_after depth s s1 m.0 m.1 in
              last_items (acted (iso std) declare s1) (step (iso std) below depth init_items (acted (iso std) declare s1)) g
              (goes_step std toks below reads init_items (labelled InitDecl 1) s.at depth (acted (iso std) declare s1) refl (g.inside (opened_in std toks InitDecl 1 s)))

      -- a parameter with its declarator
      parameter_ended : (s s1 s2 : State) (m : Makes std toks Specs (opened Param 1 s) s1) (m' : Makes std toks Pdecl s1 s2) → Grows Pdecl s1 s2
          → Goes std toks (labelled Param 1) s.at s1 (acted (iso std) declare s2)
      unfolding acted opened
      parameter_ended s s1 s2 m m' grows =
          let own : m'.child.label.production ≡ Pdecl = m'.own refl in
          let before : s1.built.under ≡ put none (inner m.child) = ap (λ (n : Node). n.under) m.built in
          let under : s2.built.under ≡ put s1.built.under (inner m'.child) = ap (λ (n : Node). n.under) m'.built in
          declared_goes (labelled Param 1) s.at Pdecl s1 s2 m' (grows refl)
          (λ o es i. parameter_after m'.child.label.production m'.child.first o m'.child.label m'.child.under es own i)
          (λ f o u es. ap (λ x. entries_alone x f o u es) own)
          (ap (λ x. ghosts.eq x Specs) own)
          (last_declared s2.built.under)
          (ap last_declared (under ∙ ap (λ f. put f (inner m'.child)) before) ∙ names_below m'.child.label m'.child.under)
          (λ a. ap (all_hold Param) under ∙ hold_inner Param s1.built.under m'.child a refl m'.apart)

      -- .. and one without
      nameless_ended : (s s1 : State) → Makes std toks Specs (opened Param 1 s) s1 → acted (iso std) declare s1 ≡ s1
      unfolding acted opened
      nameless_ended s s1 m =
          let under : s1.built.under ≡ put none (inner m.child) = ap (λ (n : Node). n.under) m.built in
          ap (λ i. naming s1 i s1.near) (ap last_declared under ∙ no_name m.child.label m.child.under (m.own refl) (m.holds refl))

      pub parameter_body : (depth : ℕ) (s : State)
          → After (Body std toks Param 1 s) (step (iso std) below depth (part Specs · (maybe (part Pdecl) · act declare)) (opened Param 1 s))
      parameter_body depth s = by (below depth (produce Specs) (opened Param 1 s)) (reads.made depth Specs (opened Param 1 s) refl)
        where
          ended_with : (s1 s' : State) → Goes std toks (labelled Param 1) s.at (opened Param 1 s) s1 → Goes std toks (labelled Param 1) s.at s1 s' → Body std toks Param 1 s s'
          ended_with s1 s' g g' = goes_body std toks Param 1 s s' refl refl (goes_further std toks (labelled Param 1) s.at (opened Param 1 s) s1 s' g g')

          named : (s1 : State) (r : Step) → Makes std toks Specs (opened Param 1 s) s1 → Goes std toks (labelled Param 1) s.at (opened Param 1 s) s1 → After (λ s'. Makes std toks Pdecl s1 s' × Grows Pdecl s1 s') r
              → After (Body std toks Param 1 s) (and_then r (λ s2. Ok (acted (iso std) declare s2)))
          named s1 (Err stop) m g m' = tt
          named s1 (Ok s2) m g m' = ended_with s1 (acted (iso std) declare s2) g (parameter_ended s s1 s2 m m'.0 m'.1)

          second : (s1 : State) (c : Bool) → Makes std toks Specs (opened Param 1 s) s1 → Goes std toks (labelled Param 1) s.at (opened Param 1 s) s1
              → After (Body std toks Param 1 s) (and_then (if c then below depth (produce Pdecl) s1 else Ok s1) (λ s2. Ok (acted (iso std) declare s2)))
          second s1 true m g = named s1 (below depth (produce Pdecl) s1) m g (reads.made depth Pdecl s1 refl)
          second s1 false m g =
              subst (λ x. Body std toks Param 1 s x) (sym (nameless_ended s s1 m)) (goes_body std toks Param 1 s s1 refl refl g)

          by : (r : Step) → After (λ s'. Makes std toks Specs (opened Param 1 s) s' × Grows Specs (opened Param 1 s) s') r
              → After (Body std toks Param 1 s) (and_then r (step (iso std) below depth (maybe (part Pdecl) · act declare)))
          by (Err stop) m = tt
          by (Ok s1) m = second s1 (may (iso std) own (part Pdecl) s1) m.0 (node_goes std toks (labelled Param 1) s.at Specs (opened Param 1 s) s1 refl m.0)
