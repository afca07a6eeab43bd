-- Reading external definitions (6.9), and the unit that is made of them.
use Rattle.std.proofs.Common.{ℕ, zero, suc, ◌<◌, ◌≤◌, ◌≡◌, Bool, true, false, ◌&&◌, if◌then◌else◌, ◌==◌, List, [], ◌∷◌, length, Option, None, Some, Ok, Err, refl, sym, ap, subst, ◌∙◌, arith}
use Rattle.c99_grammar.specs.declared.dialects.Edition.{Edition}
use Rattle.c99_grammar.specs.declared.dialects.Edition.TheVariants.{C99, C11}
use Rattle.cs_base.specs.Token.{Token}
use Rattle.c99_tree.specs.Tree.{Forest, none, node, Node, inner, put}
use Rattle.c99_tree.specs.declared.production.Label.{Label}
use Rattle.c99_tree.specs.declared.production.Production.{Production}
use Rattle.c99_tree.specs.declared.production.Production.TheVariants.{TranslationUnit, External, ExtRest, ExtTail, FunBody, Sassert, Specs, Declarator, Suffix, Pdirect}
use Rattle.c99_tree.specs.contracts.production.ProductionPartialEq.TheImpl.{ghosts}
use Rattle.c99_grammar.specs.Items.{Item, part, end_of_text, act, ◌·◌, many, own, end, declare, again, plain}
use Rattle.c99_grammar.specs.Grammar.{externals}
use Rattle.c99_grammar.specs.Standard.{c99, iso}
use Rattle.c99_grammar.proofs.StandardLemmas.{by_edition}
use Rattle.c99_read.specs.State.{State, Names, last_declared, with_declared, with_scope_ended, acted, opened, closed}
use Rattle.c99_read.specs.Reading.{Goal, produce, repeat, Step, syntax, at_end, at_first, and_then, may, step, alternative, pick, read_within}
use Rattle.c99_read.proofs.Moves.{Moves}
use Rattle.scope_bind.specs.Named.{Scope}
use Rattle.name_chains.specs.Frames.{at_first as before}
use Rattle.c_types.specs.Trees.{is_at, last_token, first_list, name_below}
use Rattle.tree_laws.proofs.Private.{Declaration}
use Rattle.tree_laws.proofs.Parts.{first_body, second_body, first_test, second_test, rest_of, front_of, classes_of}
use Rattle.tree_laws.proofs.Outline.{Entry, Outline, begun, entries_after, named_entries, in_declaration, outlined, all_agree}
use Rattle.tree_laws.proofs.Outlines.{outline}
use Rattle.tree_laws.proofs.Matching.{Matches, Bounds, IsOpen, SameOuter, outer_still, outer_further, outer_open, bounds_sooner}
use Rattle.tree_laws.proofs.Beginning.{first_matches, file_bounds}
use Rattle.tree_laws.proofs.Places.{outlined_inner}
use Rattle.tree_laws.proofs.Rules.{labelled, is_simple, fine, all_hold, entries_alone, hold_inner}
use Rattle.tree_laws.proofs.Goes.{After, IsIn, Fits, Goes, Made, Makes, node_goes, Body}
use Rattle.tree_laws.proofs.TypedefSteps.{Reads, Grows, goes_step, fine_body, opened_in, opened_fits, opened_outer}
use Rattle.tree_laws.proofs.Declaring.{declared_goes, names_below}
use Rattle.tree_laws.proofs.Owned.{Below}
use Rattle.tree_laws.proofs.Listed.{head_of, outlined_scope}
use Rattle.tree_laws.proofs.Heads.{names_given, list_inner}
use Rattle.tree_laws.proofs.Handing.{listed, names_of, now, HandsOn}
use Rattle.tree_laws.proofs.Steady.{Steady, steady_within, none_open, Past, past_outlined, past_inside, below_last}
use Rattle.tree_laws.proofs.Functions.{tail_of, Kept, is_outer, Opens, Extends, opens_extends, made_fits, Bracketed, body_steps, body_read}
use Rattle.tree_laws.proofs.Declarators.{declarator_hands}
use Rattle.tree_laws.proofs.Table.{moves_within, reads_within}

-- where a definition begins no declarator is open, and no list ends behind the last token that was read
abbrev pub IsFresh : State → Outline → Type 0
IsFresh s o = (s.names.heads ≡ []) × Past s.at o

names_scope : (o o' : Outline) (x : Option ℕ) (es : List Entry) → o.scope ≡ o'.scope → names_of o x es ≡ names_of o' x es
names_scope o o' None es e = refl
names_scope o o' (Some list) es e = ap (λ (c : Scope). names_of (record o { scope = c }) (Some list) es) e

pub listed_scope : (o o' : Outline) (list : ℕ) (es : List Entry) → o.scope ≡ o'.scope → listed o list es ≡ listed o' list es
listed_scope o o' list es e = ap (λ (c : Scope). listed (record o { scope = c }) list es) e

declared_kept : (n : Names) (i : Option ℕ) (t : Bool) → (with_declared n i t).kept ≡ n.kept
declared_kept n None t = refl
declared_kept n (Some i) t = refl

pub tail_back : (n : Names) (x : List (List Declaration)) → IsOpen (tail_of x) → (with_scope_ended n x).scopes ≡ tail_of x
tail_back n [] op = absurd op
tail_back n (a ∷ []) op = absurd op
tail_back n (a ∷ (b ∷ outer)) op = refl

module _ (std : Edition) where
  module _ (toks : List Token) where
    -- the node of a body or of a declaration that is none, where the names of the list are in the scope
    abbrev pub Tails : Production → State → State → Type 0
    Tails p s s' = Extends std toks (tail_of s.names.scopes) (Kept (head_of std s.names.scopes)) p s s'

    abbrev pub OpensTail : Production → ℕ → State → State → Type 0
    OpensTail p n s s' = Opens std toks (tail_of s.names.scopes) (Kept (head_of std s.names.scopes)) p n s s'

    -- .. of a definition, or what follows its specifiers
    abbrev pub Defines : Production → State → State → Type 0
    Defines p s s' = Extends std toks s.names.scopes (IsFresh s) p s s'

    abbrev pub OpensDefinition : Production → ℕ → State → State → Type 0
    OpensDefinition p n s s' = Opens std toks s.names.scopes (IsFresh s) p n s s'

    -- ---- A body, or the rest of a declaration

    tail_first : (s s' : State) → Tails FunBody (opened ExtTail 1 s) s' → OpensTail ExtTail 1 s s'
    unfolding opened
    tail_first s s' e = record {
      same_text = e.same_text;
      later = e.later;
      within = e.within;
      outer = e.outer;
      inside = record { label = ap (λ (n : Node). n.label) e.built; begins = ap (λ (n : Node). n.first) e.built };
      fits = λ o ends t op b m near k. (
          let o' : Outline = begun (labelled ExtTail 1) s.at s'.built.under o in
          let f : Fits std toks (labelled ExtTail 1) s' ends o' =
          (made_fits std) toks (labelled ExtTail 1) FunBody (opened ExtTail 1 s) s' e.child ends o' refl e.label e.built (e.same_text ∙ t) e.near
          (outer_open (tail_of s.names.scopes) s'.names.scopes op (e.outer op)) near refl refl refl (e.fits o' ends t op b m near k) in
          record { matches = f.matches; agree = f.agree; named = refl });
    }

    tail_second : (s s' : State) → Goes std toks (labelled ExtTail 2) s.at (acted (iso std) end (opened ExtTail 2 s)) s' → OpensTail ExtTail 2 s s'
    unfolding acted opened
    tail_second s s' g = record {
      same_text = g.same_text;
      later = g.later;
      within = g.within;
      outer = λ op. subst (λ x. SameOuter x s'.names.scopes) (tail_back s.names s.names.scopes op) g.outer;
      inside = g.inside (record { label = refl; begins = refl });
      fits = λ o ends t op b m near k. (
          let o' : Outline = begun (labelled ExtTail 2) s.at s'.built.under o in
          let back : (with_scope_ended s.names s.names.scopes).scopes ≡ tail_of s.names.scopes = tail_back s.names s.names.scopes op in
          let f : Fits std toks (labelled ExtTail 2) s' ends o' =
          g.fits o' ends b
          (record {
            text = t;
            matches = subst (λ x. Matches s.at x ends o.entries) (sym back) m;
            near = near;
            label = refl;
            nth = refl;
            scope = refl;
            agree = refl;
            opens = subst IsOpen (sym back) op;
          }) in
          record { matches = f.matches; agree = f.agree; named = refl });
    }

    -- ---- A declarator and what follows it

    -- nothing else was known than is known of such nodes
    body_opens : (base : List (List Declaration)) (pre : Outline → Type 0) (p : Production) (n : ℕ) (s s' : State) → base ≡ s.names.scopes → Body std toks p n s s' → Opens std toks base pre p n s s'
    body_opens base pre p n s s' e b = record {
      same_text = b.same_text;
      later = b.later;
      within = b.within;
      outer = λ op. subst (λ x. SameOuter x s'.names.scopes) (sym e) b.outer;
      inside = b.inside;
      fits = λ o ends t op bounds m near k. b.fits o ends t (subst IsOpen e op) bounds (subst (λ x. Matches s.at x ends o.entries) e m) near;
    }

    declarator_after : (q : Production) (first : ℕ) (o : Outline) (l : Label) (under : Forest) (es : List Entry) → q ≡ Declarator → o.label ≡ labelled ExtRest 2
        → entries_after q first o l under es ≡ named_entries o (name_below l under) under es
    declarator_after q first o l under es e in_ =
        ap (λ x. entries_after x first o l under es) e ∙ ap (λ (m : Label). in_declaration m.production o l under es) in_

    rest_declared : (s s1 : State) → Makes std toks Declarator (opened ExtRest 2 s) s1 → Grows Declarator (opened ExtRest 2 s) s1
        → Goes std toks (labelled ExtRest 2) s.at (opened ExtRest 2 s) (acted (iso std) declare s1)
    unfolding acted opened
    rest_declared s s1 m grows =
        let own_label : m.child.label.production ≡ Declarator = m.own refl in
        let under : s1.built.under ≡ put none (inner m.child) = ap (λ (n : Node). n.under) m.built in
        (declared_goes std) toks (labelled ExtRest 2) s.at Declarator (opened ExtRest 2 s) s1 m (grows refl)
        (λ o es i. declarator_after m.child.label.production m.child.first o m.child.label m.child.under es own_label i)
        (λ f o u es. ap (λ x. entries_alone x f o u es) own_label)
        (ap (λ x. ghosts.eq x Specs) own_label)
        (last_declared s1.built.under)
        (ap last_declared under ∙ names_below std m.child.label m.child.under)
        (λ a. ap (all_hold ExtRest) under ∙ hold_inner ExtRest none m.child refl refl m.apart)

    module _ (s s1 : State) (m : Makes std toks Declarator (opened ExtRest 2 s) s1) (h : HandsOn std toks Declarator (opened ExtRest 2 s) s1) where
      abbrev around : Forest → Outline → Outline
      around under o = begun (labelled ExtRest 2) s.at under o

      declarator_list : (o : Outline) → (now s1 o).kept ≡ first_list s1.built.under
      unfolding opened
      declarator_list o =
          let own_label : m.child.label.production ≡ Declarator = m.own refl in
          let under : s1.built.under ≡ put none (inner m.child) = ap (λ (n : Node). n.under) m.built in
          ap (λ f. (outlined f o).kept) under
          ∙ (ap (λ q. if ghosts.eq q Declarator then first_list m.child.under else o.kept) own_label
          ∙ (sym (ap (λ q. if ghosts.eq q Suffix && (m.child.label.alternative == 2) then Some (last_token m.child.under 0) else first_list m.child.under) own_label)
          ∙ (sym (list_inner none m.child) ∙ ap first_list (sym under))))

      -- the names that are at hand are those of the list that a body would begin with
      declarator_kept : (under : Forest) (o : Outline) → s.toks ≡ toks → 0 < length s.names.scopes → o.typedef ≡ s.near → IsFresh s o
          → s1.names.kept ≡ names_given (names_of (now s1 (around under o)) (now s1 (around under o)).kept (now s1 (around under o)).entries)
      unfolding opened
      declarator_kept under o t op near fresh =
          let o' : Outline = around under o in
          h.kept refl fresh.0 refl o' t op (record { near = near; fresh = λ list e. fresh.1 list e })
          ∙ (ap (λ x. names_given (names_of o' x (now s1 o').entries)) (sym (declarator_list o'))
          ∙ ap names_given (names_scope o' (now s1 o') (now s1 o').kept (now s1 o').entries (sym (outlined_scope s1.built.under o'))))

    pub some_length : (x : List (List Declaration)) → IsOpen x → 0 < length x
    some_length [] op = absurd op
    some_length (a ∷ x) op = omega arith

    module _ (s s1 s' : State) (m : Makes std toks Declarator (opened ExtRest 2 s) s1) (grows : Grows Declarator (opened ExtRest 2 s) s1)
        (h : HandsOn std toks Declarator (opened ExtRest 2 s) s1) (e : Tails ExtTail (acted (iso std) again (acted (iso std) declare s1)) s') where
      abbrev declared_state : State
      declared_state = acted (iso std) declare s1

      pub goes : Goes std toks (labelled ExtRest 2) s.at (opened ExtRest 2 s) declared_state
      goes = rest_declared s s1 m grows

      rest_outer : SameOuter s.names.scopes declared_state.names.scopes
      rest_outer = opened_outer std toks ExtRest 2 s declared_state goes.outer

      pub rest_open : IsOpen s.names.scopes → IsOpen declared_state.names.scopes
      rest_open op = outer_open s.names.scopes declared_state.names.scopes op rest_outer

      pub tail_outer : IsOpen declared_state.names.scopes → SameOuter declared_state.names.scopes s'.names.scopes
      unfolding acted
      tail_outer = e.outer

      tail_text : s'.toks ≡ declared_state.toks
      unfolding acted
      tail_text = e.same_text

      pub tail_later : declared_state.at ≤ s'.at
      unfolding acted
      tail_later = e.later

      tail_within : declared_state.at ≤ length declared_state.toks → s'.at ≤ length declared_state.toks
      unfolding acted
      tail_within = e.within

      pub tail_built : s'.built ≡ record declared_state.built { under = put declared_state.built.under (inner e.child) }
      unfolding acted
      tail_built = e.built

      tail_near : s'.near ≡ declared_state.near
      unfolding acted
      tail_near = e.near

      pub names_kept : (under : Forest) (o : Outline) → s.toks ≡ toks → 0 < length s.names.scopes → o.typedef ≡ s.near → IsFresh s o
          → Kept declared_state.names.kept (now declared_state (begun (labelled ExtRest 2) s.at under o))
      unfolding acted
      names_kept under o t op near fresh =
          declared_kept s1.names (last_declared s1.built.under) s1.near ∙ declarator_kept s s1 m h under o t op near fresh

      tail_fits : (o : Outline) (ends : List ℕ) → declared_state.toks ≡ toks → IsOpen declared_state.names.scopes → Bounds s'.at o.scope.to s'.names.scopes ends
          → Matches declared_state.at declared_state.names.scopes ends o.entries → o.typedef ≡ declared_state.near → Kept declared_state.names.kept o → Made std toks s'.at s' ends o e.child
      unfolding acted
      tail_fits = e.fits

      rest_fits : (o : Outline) (ends : List ℕ) → s.toks ≡ toks → IsOpen s.names.scopes → Bounds s'.at o.scope.to s'.names.scopes ends
          → Matches s.at s.names.scopes ends o.entries → o.typedef ≡ s.near → IsFresh s o
          → Fits std toks (labelled ExtRest 2) s' ends (begun (labelled ExtRest 2) s.at s'.built.under o)
      rest_fits o ends t op b matches near fresh =
          let o' : Outline = begun (labelled ExtRest 2) s.at s'.built.under o in
          let open2 : IsOpen declared_state.names.scopes = rest_open op in
          let bounds : Bounds declared_state.at o.scope.to declared_state.names.scopes ends =
          bounds_sooner declared_state.at s'.at o.scope.to declared_state.names.scopes s'.names.scopes ends open2 tail_later (tail_outer open2) b in
          let f : Fits std toks (labelled ExtRest 2) declared_state ends o' = goes.fits o' ends bounds (opened_fits std toks ExtRest 2 s s'.built.under o ends t op refl matches near) in
          let here : Outline = now declared_state o' in
          let made : Made std toks s'.at s' ends here e.child =
          tail_fits here ends f.text open2 (subst (λ (c : Scope). Bounds s'.at c.to s'.names.scopes ends) (sym f.scope) b) f.matches f.near
          (names_kept s'.built.under o t (some_length s.names.scopes op) near fresh) in
          (made_fits std) toks (labelled ExtRest 2) ExtTail declared_state s' e.child ends o' refl e.label tail_built (tail_text ∙ f.text) tail_near
          (outer_open declared_state.names.scopes s'.names.scopes open2 (tail_outer open2)) f.near f.label f.nth f.agree made

      rest_inside : IsIn (labelled ExtRest 2) s.at s'
      rest_inside =
          let i = goes.inside (opened_in std toks ExtRest 2 s) in
          record { label = ap (λ (n : Node). n.label) tail_built ∙ i.label; begins = ap (λ (n : Node). n.first) tail_built ∙ i.begins }

      opened_same : ((opened ExtRest 2 s).toks ≡ s.toks) × ((opened ExtRest 2 s).at ≡ s.at)
      unfolding opened
      opened_same = (refl, refl)

      rest_opens : OpensDefinition ExtRest 2 s s'
      rest_opens = record {
        same_text = tail_text ∙ (goes.same_text ∙ opened_same.0);
        later = (let e1 = goes.later in let e2 = tail_later in let e3 = opened_same.1 in omega arith);
        within = λ w. (
            let t1 = ap length goes.same_text in let t2 = ap length opened_same.0 in let e3 = opened_same.1 in
            let w1 : declared_state.at ≤ length (opened ExtRest 2 s).toks = goes.within (omega arith) in
            let w2 = tail_within (omega arith) in omega arith);
        outer = λ op. outer_further s.names.scopes declared_state.names.scopes s'.names.scopes rest_outer (tail_outer (rest_open op));
        inside = rest_inside;
        fits = λ o ends t op b matches near fresh. (
            let f = rest_fits o ends t op b matches near fresh in
            record { matches = f.matches; agree = f.agree; named = refl });
      }

    -- ---- A definition

    module _ (n : ℕ) (s s1 s' : State) (m : Makes std toks Specs (opened External n s) s1) (grows : s.at < s1.at) (w : Steady (opened External n s) s1)
        (e : Defines ExtRest s1 s') where
      pub specs_goes : Goes std toks (labelled External n) s.at (opened External n s) s1
      specs_goes = node_goes std toks (labelled External n) s.at Specs (opened External n s) s1 refl m

      specs_outer : SameOuter s.names.scopes s1.names.scopes
      specs_outer = opened_outer std toks External n s s1 specs_goes.outer

      pub specs_open : IsOpen s.names.scopes → IsOpen s1.names.scopes
      specs_open op = outer_open s.names.scopes s1.names.scopes op specs_outer

      pub specs_fresh : (under : Forest) (o : Outline) → IsFresh s o → IsFresh s1 (now s1 (begun (labelled External n) s.at under o))
      unfolding opened
      specs_fresh under o fresh =
          let o' : Outline = begun (labelled External n) s.at under o in (
            none_open s1.names.heads (w.heads ∙ ap length fresh.0),
            λ list h.
                listed_scope (now s1 o') o' list (now s1 o').entries (outlined_scope s1.built.under o')
                ∙ past_outlined s1.at s1.built.under o' (w.below tt) (omega arith) (λ list' h'. fresh.1 list' (omega arith)) list h,
          )

      definition_fits : (o : Outline) (ends : List ℕ) → s.toks ≡ toks → IsOpen s.names.scopes → Bounds s'.at o.scope.to s'.names.scopes ends
          → Matches s.at s.names.scopes ends o.entries → o.typedef ≡ s.near → IsFresh s o
          → Fits std toks (labelled External n) s' ends (begun (labelled External n) s.at s'.built.under o)
      definition_fits o ends t op b matches near fresh =
          let o' : Outline = begun (labelled External n) s.at s'.built.under o in
          let open1 : IsOpen s1.names.scopes = specs_open op in
          let bounds : Bounds s1.at o.scope.to s1.names.scopes ends =
          bounds_sooner s1.at s'.at o.scope.to s1.names.scopes s'.names.scopes ends open1 e.later (e.outer open1) b in
          let f : Fits std toks (labelled External n) s1 ends o' = specs_goes.fits o' ends bounds (opened_fits std toks External n s s'.built.under o ends t op refl matches near) in
          let here : Outline = now s1 o' in
          let made : Made std toks s'.at s' ends here e.child =
          e.fits here ends f.text open1 (subst (λ (c : Scope). Bounds s'.at c.to s'.names.scopes ends) (sym f.scope) b) f.matches f.near
          (specs_fresh s'.built.under o fresh) in
          (made_fits std) toks (labelled External n) ExtRest s1 s' e.child ends o' refl e.label e.built (e.same_text ∙ f.text) e.near
          (outer_open s1.names.scopes s'.names.scopes open1 (e.outer open1)) f.near f.label f.nth f.agree made

      definition_same : ((opened External n s).toks ≡ s.toks) × ((opened External n s).at ≡ s.at)
      unfolding opened
      definition_same = (refl, refl)

      definition_opens : OpensDefinition External n s s'
      definition_opens = record {
        same_text = e.same_text ∙ (specs_goes.same_text ∙ definition_same.0);
        later = (let e2 = e.later in omega arith);
        within = λ l. (
            let t1 = ap length specs_goes.same_text in let t2 = ap length definition_same.0 in let e3 = definition_same.1 in
            let w1 : s1.at ≤ length (opened External n s).toks = specs_goes.within (omega arith) in
            let w2 = e.within (omega arith) in omega arith);
        outer = λ op. outer_further s.names.scopes s1.names.scopes s'.names.scopes specs_outer (e.outer (specs_open op));
        inside = (let i = specs_goes.inside (opened_in std toks External n s) in
            record { label = ap (λ (x : Node). x.label) e.built ∙ i.label; begins = ap (λ (x : Node). x.first) e.built ∙ i.begins });
        fits = λ o ends t op b matches near fresh. (
            let f = definition_fits o ends t op b matches near fresh in
            record { matches = f.matches; agree = f.agree; named = refl });
      }

    -- ---- Reading them

    after_test : (P : State → Type 0) (b : Bool) (r r' : Step) → After P r → After P r' → After P (if b then r else r')
    after_test P true r r' m m' = m
    after_test P false r r' m m' = m'

    after_same : (P Q : State → Type 0) (r : Step) → ((s : State) → P s → Q s) → After P r → After Q r
    after_same P Q (Err stop) f m = tt
    after_same P Q (Ok s) f m = f s m

    -- what reading makes of these productions
    pub record OuterReads (below : ℕ → Goal → State → Step) : Type 0 where
      pub bodies : (depth : ℕ) (s : State) → After (Tails FunBody s) (below depth (produce FunBody) s)
      pub tails : (depth : ℕ) (s : State) → After (Tails ExtTail s) (below depth (produce ExtTail) s)
      pub rests : (depth : ℕ) (s : State) → After (Defines ExtRest s) (below depth (produce ExtRest) s)
      pub definitions : (depth : ℕ) (s : State) → After (Defines External s) (below depth (produce External) s)

    module _ (below : ℕ → Goal → State → Step) (reads : Reads std toks below) (outer : OuterReads below)
        (hands : (depth : ℕ) (s : State) → After (HandsOn std toks Declarator s) (below depth (produce Declarator) s))
        (steady : (depth : ℕ) (goal : Goal) (s : State) → After (Steady s) (below depth goal s)) (depth : ℕ) where
      opens_alternative : (base : List (List Declaration)) (pre : Outline → Type 0) (p : Production) (n : ℕ) (body : Item) (s : State) → is_outer p ≡ true
          → After (Opens std toks base pre p n s) (step (iso std) below depth body (opened p n s)) → After (Extends std toks base pre p s) (alternative (iso std) below depth p n body s)
      opens_alternative base pre p n body s h m = by (step (iso std) below depth body (opened p n s)) m
        where
          by : (r : Step) → After (Opens std toks base pre p n s) r → After (Extends std toks base pre p s) (and_then r (λ s'. Ok (closed p s s')))
          by (Err stop) m' = tt
          by (Ok s') m' = opens_extends std toks base pre p n s s' h m'

      abbrev body_items : Item
      body_items = first_body (c99.table FunBody)

      body_made : (s : State) → After (Tails FunBody s) (pick (iso std) below depth FunBody 1 (c99.table FunBody) s)
      body_made s =
          after_test (Tails FunBody s) (may (iso std) own body_items s) (alternative (iso std) below depth FunBody 1 body_items s) (Err (syntax s.at))
          (opens_alternative (tail_of s.names.scopes) (Kept (head_of std s.names.scopes)) FunBody 1 body_items s refl
          (after_same (Bracketed std toks (labelled FunBody 1) s.at (opened FunBody 1 s)) (OpensTail FunBody 1 s) (step (iso std) below depth body_items (opened FunBody 1 s))
          (λ s' w. body_read std toks s s' w)
          (body_steps std toks below reads s.at depth (front_of body_items) (front_of (rest_of body_items)) (front_of (rest_of (rest_of body_items)))
          (classes_of (rest_of (rest_of (rest_of (rest_of body_items))))) (opened FunBody 1 s) refl refl refl (opened_in std toks FunBody 1 s))))
          tt

      abbrev tail_items : Item
      tail_items = second_body (c99.table ExtTail)

      ended_in : (s : State) → IsIn (labelled ExtTail 2) s.at (acted (iso std) end (opened ExtTail 2 s))
      unfolding acted opened
      ended_in s = record { label = refl; begins = refl }

      tail_made : (s : State) → After (Tails ExtTail s) (pick (iso std) below depth ExtTail 1 (c99.table ExtTail) s)
      tail_made s =
          after_test (Tails ExtTail s) (may (iso std) (first_test (c99.table ExtTail)) (part FunBody) s) (alternative (iso std) below depth ExtTail 1 (part FunBody) s)
          (if may (iso std) (second_test (c99.table ExtTail)) tail_items s then alternative (iso std) below depth ExtTail 2 tail_items s else Err (syntax s.at))
          (opens_alternative (tail_of s.names.scopes) (Kept (head_of std s.names.scopes)) ExtTail 1 (part FunBody) s refl
          (after_same (Tails FunBody (opened ExtTail 1 s)) (OpensTail ExtTail 1 s) (below depth (produce FunBody) (opened ExtTail 1 s)) (λ s' e. tail_first s s' e)
          (outer.bodies depth (opened ExtTail 1 s))))
          (after_test (Tails ExtTail s) (may (iso std) (second_test (c99.table ExtTail)) tail_items s) (alternative (iso std) below depth ExtTail 2 tail_items s) (Err (syntax s.at))
          (opens_alternative (tail_of s.names.scopes) (Kept (head_of std s.names.scopes)) ExtTail 2 tail_items s refl
          (after_same (Goes std toks (labelled ExtTail 2) s.at (acted (iso std) end (opened ExtTail 2 s))) (OpensTail ExtTail 2 s)
          (step (iso std) below depth (rest_of tail_items) (acted (iso std) end (opened ExtTail 2 s))) (λ s' g. tail_second s s' g)
          (goes_step std toks below reads (rest_of tail_items) (labelled ExtTail 2) s.at depth (acted (iso std) end (opened ExtTail 2 s)) refl (ended_in s))))
          tt)

      abbrev semicolon_rest : Item
      semicolon_rest = first_body (c99.table ExtRest)

      abbrev rest_items : Item
      rest_items = second_body (c99.table ExtRest)

      rest_body : (s : State) → After (OpensDefinition ExtRest 2 s) (step (iso std) below depth rest_items (opened ExtRest 2 s))
      rest_body s =
          by (below depth (produce Declarator) (opened ExtRest 2 s)) (reads.made depth Declarator (opened ExtRest 2 s) refl) (hands depth (opened ExtRest 2 s))
        where
          by : (r : Step) → After (λ s1. Makes std toks Declarator (opened ExtRest 2 s) s1 × Grows Declarator (opened ExtRest 2 s) s1) r
              → After (HandsOn std toks Declarator (opened ExtRest 2 s)) r
              → After (OpensDefinition ExtRest 2 s) (and_then r (step (iso std) below depth (act declare · (act again · part ExtTail))))
          by (Err stop) m h = tt
          by (Ok s1) m h =
              after_same (Tails ExtTail (acted (iso std) again (acted (iso std) declare s1))) (OpensDefinition ExtRest 2 s) (below depth (produce ExtTail) (acted (iso std) again (acted (iso std) declare s1)))
              (λ s' e. rest_opens s s1 s' m.0 m.1 h e) (outer.tails depth (acted (iso std) again (acted (iso std) declare s1)))

      rest_made : (s : State) → After (Defines ExtRest s) (pick (iso std) below depth ExtRest 1 (c99.table ExtRest) s)
      rest_made s =
          after_test (Defines ExtRest s) (may (iso std) own semicolon_rest s) (alternative (iso std) below depth ExtRest 1 semicolon_rest s)
          (if may (iso std) own rest_items s then alternative (iso std) below depth ExtRest 2 rest_items s else Err (syntax s.at))
          (opens_alternative s.names.scopes (IsFresh s) ExtRest 1 semicolon_rest s refl
          (after_same (Body std toks ExtRest 1 s) (OpensDefinition ExtRest 1 s) (step (iso std) below depth semicolon_rest (opened ExtRest 1 s))
          (λ s' b. body_opens s.names.scopes (IsFresh s) ExtRest 1 s s' refl b)
          (fine_body std toks below reads depth ExtRest 1 semicolon_rest s refl refl refl)))
          (after_test (Defines ExtRest s) (may (iso std) own rest_items s) (alternative (iso std) below depth ExtRest 2 rest_items s) (Err (syntax s.at))
          (opens_alternative s.names.scopes (IsFresh s) ExtRest 2 rest_items s refl (rest_body s))
          tt)

      abbrev semicolon_external : Item
      semicolon_external = first_body (externals C99)

      abbrev external_items : Item
      external_items = second_body (externals C99)

      external_body : (n : ℕ) (s : State) → After (OpensDefinition External n s) (step (iso std) below depth external_items (opened External n s))
      unfolding opened
      external_body n s =
          by (below depth (produce Specs) (opened External n s)) (reads.made depth Specs (opened External n s) refl) (steady depth (produce Specs) (opened External n s))
        where
          by : (r : Step) → After (λ s1. Makes std toks Specs (opened External n s) s1 × Grows Specs (opened External n s) s1) r
              → After (Steady (opened External n s)) r
              → After (OpensDefinition External n s) (and_then r (step (iso std) below depth (part ExtRest)))
          by (Err stop) m w = tt
          by (Ok s1) m w =
              after_same (Defines ExtRest s1) (OpensDefinition External n s) (below depth (produce ExtRest) s1)
              (λ s' e. definition_opens n s s1 s' m.0 (m.1 refl) w e) (outer.rests depth s1)

      -- where nothing else stands in a definition than what such nodes have
      plain_external : (n : ℕ) (item : Item) (s : State) → is_simple External n ≡ true → is_at (labelled External n) Pdirect 2 ≡ false → fine (labelled External n) item ≡ true
          → After (Defines External s) (alternative (iso std) below depth External n item s)
      plain_external n item s simple other is_fine =
          opens_alternative s.names.scopes (IsFresh s) External n item s refl
          (after_same (Body std toks External n s) (OpensDefinition External n s) (step (iso std) below depth item (opened External n s))
          (λ s' b. body_opens s.names.scopes (IsFresh s) External n s s' refl b)
          (fine_body std toks below reads depth External n item s simple other is_fine))

      specs_external : (n : ℕ) (s : State) → After (Defines External s) (pick (iso std) below depth External n (plain external_items ∷ []) s)
      specs_external n s =
          after_test (Defines External s) (may (iso std) own external_items s) (alternative (iso std) below depth External n external_items s) (Err (syntax s.at))
          (opens_alternative s.names.scopes (IsFresh s) External n external_items s refl (external_body n s))
          tt

      -- where an assertion may stand for a definition (C11 6.7.10)
      asserted_external : (s : State) → After (Defines External s) (pick (iso std) below depth External 1 (externals C11) s)
      asserted_external s =
          after_test (Defines External s) (may (iso std) own semicolon_external s) (alternative (iso std) below depth External 1 semicolon_external s)
          (pick (iso std) below depth External 2 (plain (part Sassert) ∷ (plain external_items ∷ [])) s)
          (plain_external 1 semicolon_external s refl refl refl)
          (after_test (Defines External s) (may (iso std) own (part Sassert) s) (alternative (iso std) below depth External 2 (part Sassert) s)
          (pick (iso std) below depth External 3 (plain external_items ∷ []) s)
          (plain_external 2 (part Sassert) s refl refl refl) (specs_external 3 s))

      external_made : (s : State) → After (Defines External s) (pick (iso std) below depth External 1 ((iso std).table External) s)
      external_made s =
          by_edition (λ v. After (Defines External s) (pick (iso std) below depth External 1 (externals v) s))
          (after_test (Defines External s) (may (iso std) own semicolon_external s) (alternative (iso std) below depth External 1 semicolon_external s)
          (pick (iso std) below depth External 2 (plain external_items ∷ []) s)
          (plain_external 1 semicolon_external s refl refl refl) (specs_external 2 s))
          (asserted_external s)
          std

    pub outer_within : (fuel : ℕ) → OuterReads (read_within (iso std) fuel)
    unfolding read_within
    outer_within zero = record { bodies = λ depth s. tt; tails = λ depth s. tt; rests = λ depth s. tt; definitions = λ depth s. tt }
    outer_within (suc fuel) = record {
      bodies = λ depth s. body_made (read_within (iso std) fuel) (reads_within std toks fuel) (outer_within fuel) (declarator_hands std toks fuel) (steady_within std fuel) depth s;
      tails = λ depth s. tail_made (read_within (iso std) fuel) (reads_within std toks fuel) (outer_within fuel) (declarator_hands std toks fuel) (steady_within std fuel) depth s;
      rests = λ depth s. rest_made (read_within (iso std) fuel) (reads_within std toks fuel) (outer_within fuel) (declarator_hands std toks fuel) (steady_within std fuel) depth s;
      definitions = λ depth s. external_made (read_within (iso std) fuel) (reads_within std toks fuel) (outer_within fuel) (declarator_hands std toks fuel) (steady_within std fuel) depth s;
    }

    -- ---- The unit

    abbrev pub unit_label : Label
    unit_label = labelled TranslationUnit 1

    -- beside the outline, what is known between definitions
    pub record Between (s : State) (ends : List ℕ) (o : Outline) : Type 0 where
      pub fits : Fits std toks unit_label s ends o
      pub heads : s.names.heads ≡ []
      pub below : Below s.at s.built.under
      pub past : (list : ℕ) → s.at < list → listed o list (now s o).entries ≡ []

    pub record UnitGoes (s s' : State) : Type 0 where
      pub same_text : s'.toks ≡ s.toks
      pub within : s.at ≤ length s.toks → s'.at ≤ length s.toks
      pub later : s.at ≤ s'.at
      pub outer : IsOpen s.names.scopes → SameOuter s.names.scopes s'.names.scopes
      pub inside : IsIn unit_label 0 s → IsIn unit_label 0 s'
      pub goes : (o : Outline) (ends : List ℕ) → Bounds s'.at o.scope.to s'.names.scopes ends → Between s ends o → Between s' ends o

    pub unit_still : (s : State) → UnitGoes s s
    unit_still s = record {
      same_text = refl;
      within = λ h. h;
      later = omega arith;
      outer = λ op. outer_still s.names.scopes;
      inside = λ i. i;
      goes = λ o ends b f. f;
    }

    unit_further : (s s' s'' : State) → UnitGoes s s' → UnitGoes s' s'' → UnitGoes s s''
    unit_further s s' s'' g g' = record {
      same_text = g'.same_text ∙ g.same_text;
      within = λ h. subst (λ t. s''.at ≤ length t) g.same_text (g'.within (subst (λ t. s'.at ≤ length t) (sym g.same_text) (g.within h)));
      later = (let h = g.later in let h' = g'.later in omega arith);
      outer = λ op. outer_further s.names.scopes s'.names.scopes s''.names.scopes (g.outer op) (g'.outer (outer_open s.names.scopes s'.names.scopes op (g.outer op)));
      inside = λ i. g'.inside (g.inside i);
      goes = λ o ends b f. (
          let op : IsOpen s'.names.scopes = outer_open s.names.scopes s'.names.scopes f.fits.opens (g.outer f.fits.opens) in
          g'.goes o ends b (g.goes o ends (bounds_sooner s'.at s''.at o.scope.to s'.names.scopes s''.names.scopes ends op g'.later (g'.outer op) b) f));
    }

    definition_goes : (s s' : State) → Defines External s s' → Steady s s' → s.at < s'.at → UnitGoes s s'
    definition_goes s s' e w grows = record {
      same_text = e.same_text;
      within = e.within;
      later = e.later;
      outer = e.outer;
      inside = λ i. record { label = ap (λ (n : Node). n.label) e.built ∙ i.label; begins = ap (λ (n : Node). n.first) e.built ∙ i.begins };
      goes = λ o ends b f. (
          let here : Outline = now s o in
          let child : Node = e.child in
          let scope : here.scope ≡ o.scope = outlined_scope s.built.under o in
          let op : IsOpen s.names.scopes = f.fits.opens in
          let under : s'.built.under ≡ put s.built.under (inner child) = ap (λ (n : Node). n.under) e.built in
          let made : Made std toks s'.at s' ends here child =
          e.fits here ends f.fits.text op (subst (λ (c : Scope). Bounds s'.at c.to s'.names.scopes ends) (sym scope) b) f.fits.matches f.fits.near
          (f.heads, λ list h. listed_scope here o list here.entries scope ∙ f.past list h) in
          let below : Below s'.at s'.built.under = w.below f.below in
          let inside : List Entry = (outlined child.under (begun child.label child.first child.under here)).entries in
          record {
            fits = made_fits std toks unit_label External s s' child ends o refl e.label e.built (e.same_text ∙ f.fits.text) e.near
                (outer_open s.names.scopes s'.names.scopes op (e.outer op)) f.fits.near f.fits.label f.fits.nth f.fits.agree made;
            heads = none_open s'.names.heads (w.heads ∙ ap length f.heads);
            below = below;
            past = λ list h.
                ap (λ g. listed o list (outlined g o).entries) under
                ∙ (ap (λ (x : Outline). listed o list x.entries) (outlined_inner s.built.under child o)
                ∙ (ap (listed o list) (external_after child.label.production child.first here child.label child.under inside e.label)
                ∙ (sym (listed_scope here o list inside scope)
                ∙ past_inside s'.at child.label child.first child.under here (below_last s'.at s.built.under child (subst (Below s'.at) under below)) (omega arith)
                (λ list' h'. listed_scope here o list' here.entries scope ∙ f.past list' (omega arith)) list h)));
          });
    }
      where
        external_after : (q : Production) (first : ℕ) (o : Outline) (l : Label) (under : Forest) (es : List Entry) → q ≡ External → entries_after q first o l under es ≡ es
        external_after q first o l under es e = ap (λ x. entries_after x first o l under es) e

    pub definitions_within : (fuel depth : ℕ) (s : State) → After (UnitGoes s) (read_within (iso std) fuel depth (produce External) s)
    definitions_within fuel depth s =
        by (read_within (iso std) fuel depth (produce External) s) ((outer_within fuel).definitions depth s) (steady_within std fuel depth (produce External) s)
        (moves_within std toks fuel depth (produce External) s refl)
      where
        by : (r : Step) → After (Defines External s) r → After (Steady s) r → Moves true s r → After (UnitGoes s) r
        by (Err stop) e w m = tt
        by (Ok s') e w m = definition_goes s s' e w (let f = m.1 refl in let t = ap length e.same_text in omega arith)

    pub unit_then : (s : State) (r : Step) (next_step : State → Step) → After (UnitGoes s) r → ((s' : State) → After (UnitGoes s') (next_step s')) → After (UnitGoes s) (and_then r next_step)
    unit_then s (Err stop) next_step m n = tt
    unit_then s (Ok s') next_step m n = onward (next_step s') (n s')
      where
        onward : (r : Step) → After (UnitGoes s') r → After (UnitGoes s) r
        onward (Err stop) n' = tt
        onward (Ok s'') n' = unit_further s s' s'' m n'

    pub many_within : (fuel depth : ℕ) (s : State) → After (UnitGoes s) (read_within (iso std) fuel depth (repeat own (part External)) s)
    unfolding read_within
    many_within zero depth s = tt
    many_within (suc fuel) depth s =
        after_test (UnitGoes s) (may (iso std) own (part External) s)
        (and_then (read_within (iso std) fuel depth (produce External) s) (read_within (iso std) fuel depth (repeat own (part External)))) (Ok s)
        (unit_then s (read_within (iso std) fuel depth (produce External) s) (read_within (iso std) fuel depth (repeat own (part External))) (definitions_within fuel depth s) (many_within fuel depth))
        (unit_still s)

    pub end_goes : (s : State) → After (UnitGoes s) (at_end s)
    unfolding at_end
    end_goes s = after_test (UnitGoes s) (s.at == length s.toks) (Ok s) (Err (syntax s.at)) (unit_still s) tt

    -- all definitions, and the end of the text
    pub all_within : (fuel depth : ℕ) (s : State) → After (UnitGoes s) (step (iso std) (read_within (iso std) fuel) depth (many own (part External) · end_of_text) s)
    all_within fuel depth s =
        unit_then s (step (iso std) (read_within (iso std) fuel) depth (many own (part External)) s) at_end
        (after_test (UnitGoes s) (may (iso std) own (part External) s)
        (and_then (read_within (iso std) fuel depth (produce External) s) (read_within (iso std) fuel depth (repeat own (part External)))) (Ok s)
        (unit_then s (read_within (iso std) fuel depth (produce External) s) (read_within (iso std) fuel depth (repeat own (part External))) (definitions_within fuel depth s) (many_within fuel depth))
        (unit_still s))
        end_goes

    -- what is known once a unit was read from its first token on
    pub record UnitMade (s : State) : Type 0 where
      pub under : Forest
      pub built : s.built ≡ record (at_first toks).built { under = node unit_label 0 under none }
      pub agrees : all_agree std toks under (outline (before (length toks))) ≡ true

    pub unit_begins : (n : ℕ) → Between (opened TranslationUnit 1 (at_first toks)) (n ∷ []) (outline (before n))
    unfolding opened
    unit_begins n = record {
      fits = record {
        text = refl;
        matches = first_matches n;
        near = refl;
        label = refl;
        nth = refl;
        scope = refl;
        agree = refl;
        opens = tt;
      };
      heads = refl;
      below = tt;
      past = λ list h. refl;
    }

    unit_made : (s : State) → UnitGoes (opened TranslationUnit 1 (at_first toks)) s → UnitMade (closed TranslationUnit (at_first toks) s)
    unfolding opened closed
    unit_made s g =
        let i = g.inside (record { label = refl; begins = refl }) in
        let within : s.at ≤ length toks = g.within (omega arith) in
        let b = g.goes (outline (before (length toks))) (length toks ∷ []) (file_bounds s.at (length toks) s.names.scopes (g.outer tt) within) (unit_begins (length toks)) in
        record {
          under = s.built.under;
          built = ap (λ l. record (at_first toks).built { under = node l s.built.first s.built.under none }) i.label
              ∙ ap (λ k. record (at_first toks).built { under = node unit_label k s.built.under none }) i.begins;
          agrees = b.fits.agree;
        }

    abbrev unit_items : Item
    unit_items = first_body (c99.table TranslationUnit)

    pub unit_within : (fuel : ℕ) → After UnitMade (read_within (iso std) fuel 0 (produce TranslationUnit) (at_first toks))
    unfolding read_within
    unit_within zero = tt
    unit_within (suc fuel) =
        after_test UnitMade (may (iso std) own unit_items (at_first toks)) (alternative (iso std) (read_within (iso std) fuel) 0 TranslationUnit 1 unit_items (at_first toks)) (Err (syntax 0))
        (by (step (iso std) (read_within (iso std) fuel) 0 unit_items (opened TranslationUnit 1 (at_first toks))) (all_within fuel 0 (opened TranslationUnit 1 (at_first toks))))
        tt
      where
        by : (r : Step) → After (UnitGoes (opened TranslationUnit 1 (at_first toks))) r → After UnitMade (and_then r (λ s'. Ok (closed TranslationUnit (at_first toks) s')))
        by (Err stop) m = tt
        by (Ok s') m = unit_made s' m
