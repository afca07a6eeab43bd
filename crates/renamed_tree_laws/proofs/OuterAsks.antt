-- What is asked along external definitions (6.9), and along bodies of functions (6.9.1).
use Rattle.std.proofs.Common.{ℕ, ◌+◌, ◌<◌, ◌≡◌, Bool, true, false, ◌&&◌, if◌then◌else◌, List, [], ◌∷◌, Ok, Err, refl, sym, ap, subst, ◌∙◌, arith}
use Rattle.std.proofs.lemmas.Bool.{and_from}
use Rattle.c99_grammar.specs.declared.dialects.Edition.{Edition}
use Rattle.c99_grammar.specs.declared.dialects.Edition.TheVariants.{C99, C11}
use Rattle.cs_base.specs.Token.{Token}
use Rattle.c99_tree.specs.Tree.{Forest, Node, node_of, leaf, inner, put, collapsed}
use Rattle.c99_tree.specs.declared.production.Label.{Label}
use Rattle.c99_tree.specs.declared.production.Production.{Production}
use Rattle.c99_tree.specs.declared.production.Production.TheVariants.{External, ExtRest, ExtTail, FunBody, Sassert, Specs, Declarator, Pdirect}
use Rattle.c99_grammar.specs.Items.{Item, Alternative, part, own, end, declare, again, plain}
use Rattle.c99_grammar.specs.Grammar.{externals}
use Rattle.c99_grammar.specs.Standard.{c99, iso}
use Rattle.c99_read.specs.State.{State, Names, head_closed, names_closed, finished, with_scope_ended, acted, opened, closed}
use Rattle.c99_read.specs.Reading.{Goal, produce, Step, syntax, and_then, take_one, may, step, alternative, pick}
use Rattle.c99_grammar.proofs.StandardLemmas.{by_edition}
use Rattle.c_types.specs.Trees.{is_at}
use Rattle.scope_bind.specs.Named.{Scope}
use Rattle.tree_laws.proofs.Private.{Declaration, Class}
use Rattle.tree_laws.proofs.Parts.{first_body, second_body, first_test, second_test, rest_of, front_of, classes_of}
use Rattle.tree_laws.proofs.Outline.{Outline, begun, node_agrees, all_agree}
use Rattle.tree_laws.proofs.Matching.{Matches, Bounds, Within, IsOpen, bounds_sooner, bounds_within, bounds_inner, within_sooner}
use Rattle.tree_laws.proofs.Places.{last_leaf}
use Rattle.tree_laws.proofs.Rules.{labelled, is_simple, fine}
use Rattle.tree_laws.proofs.Goes.{After, IsIn, Fits, Goes, goes_still, goes_further, Makes, built_is}
use Rattle.tree_laws.proofs.TypedefSteps.{Reads, Grows, taken, goes_step, opened_in, opened_fits}
use Rattle.tree_laws.proofs.Listed.{head_of, outlined_scope}
use Rattle.tree_laws.proofs.Handing.{now, HandsOn}
use Rattle.tree_laws.proofs.Steady.{Steady}
use Rattle.tree_laws.proofs.Functions.{tail_of, Kept, is_outer, Bracketed, ended_is, body_end_state, body_back, body_outer, body_begins, outer_declarator, outer_collapses}
use Rattle.tree_laws.proofs.Units.{IsFresh, Tails, Defines, OuterReads, tail_back, some_length, goes as rest_goes, rest_open, tail_outer, tail_later, tail_built, names_kept, specs_goes, specs_open, specs_fresh}
use Rattle.renamed_tree_laws.specs.Along.{along_rest, along_first}
use Rattle.renamed_tree_laws.proofs.Asking.{before_leaf, before_inner, of_token, of_node, Asks, asks_further, quiet_so, along, Asked, asks_step, BodyAsks, fine_asks}
use Rattle.renamed_tree_laws.proofs.NamingTokens.{declare_asks}

module _ (std : Edition) where
  module _ (a b : List Token) where
    -- what is known of the outline in these scopes, where the second text's names agree with a node, tells what was asked
    abbrev pub Told : List (List Declaration) → (Outline → Type 0) → Production → ℕ → Bool → State → State → Type 0
    Told base pre p n v s s' =
        (o : Outline) (ends : List ℕ) → s.toks ≡ a → IsOpen base → Bounds s'.at o.scope.to s'.names.scopes ends
        → Matches s.at base ends o.entries → o.typedef ≡ s.near → pre o
        → all_agree std b s'.built.under (begun (labelled p n) s.at s'.built.under o) ≡ true → v ≡ true

    pub record OpenAsks (base : List (List Declaration)) (pre : Outline → Type 0) (p : Production) (n : ℕ) (v : Bool) (s s' : State) : Type 0 where
      pub inside : IsIn (labelled p n) s.at s'
      pub asks : Told base pre p n v s s'

    -- .. and where they agree with what was built up to its end, they did so before it
    abbrev pub NodeAsks : List (List Declaration) → (Outline → Type 0) → Bool → State → State → Type 0
    NodeAsks base pre v s s' =
        (o : Outline) (ends : List ℕ) → s.toks ≡ a → IsOpen base → Bounds s'.at o.scope.to s'.names.scopes ends
        → Matches s.at base ends (now s o).entries → (now s o).typedef ≡ s.near → pre (now s o) → all_agree std b s'.built.under o ≡ true
        → (all_agree std b s.built.under o ≡ true) × (v ≡ true)

    -- the node is closed
    node_asks : (base : List (List Declaration)) (pre : Outline → Type 0) (p : Production) (n : ℕ) (v : Bool) (s s' : State) → is_outer p ≡ true
        → OpenAsks base pre p n v s s' → NodeAsks base pre v s (closed p s s')
    unfolding closed
    node_asks base pre p n v s s' h k = λ o ends t op bounds m near known agree. (
        let child : Node = node_of (labelled p n) s.at s'.built.under in
        let here : Outline = now s o in
        let same : finished p s'.built ≡ child = ap (λ c. if c then collapsed s'.built else s'.built) (outer_collapses p h) ∙ built_is std a p n s s' k.inside in
        let names : names_closed p s'.names ≡ s'.names = ap (λ c. if c then head_closed s'.names else s'.names) (outer_declarator p h) in
        let parts = before_inner std b s.built.under child o (subst (λ (c : Node). all_agree std b (put s.built.under (inner c)) o ≡ true) same agree) in (
          parts.0,
          k.asks here ends t op
              (subst (λ (c : Scope). Bounds s'.at c.to s'.names.scopes ends) (sym (outlined_scope s.built.under o))
              (subst (λ (x : Names). Bounds s'.at o.scope.to x.scopes ends) names bounds)) m near known parts.1.1,
        ))

    opens_node : (base : List (List Declaration)) (pre : Outline → Type 0) (p : Production) (n : ℕ) (v : Bool) (s : State) (r : Step) → is_outer p ≡ true
        → After (OpenAsks base pre p n v s) r → After (NodeAsks base pre v s) (and_then r (λ s'. Ok (closed p s s')))
    opens_node base pre p n v s (Err stop) h m = tt
    opens_node base pre p n v s (Ok s') h m = node_asks base pre p n v s s' h m

    -- nothing else is asked than of such nodes elsewhere
    plain_opens : (pre : Outline → Type 0) (p : Production) (n : ℕ) (v : Bool) (s : State) (r : Step)
        → ((o : Outline) → node_agrees std b (labelled p n) s.at o.entries ≡ true)
        → After (Goes std a (labelled p n) s.at (opened p n s)) r → After (BodyAsks std a b p n v s) r → After (OpenAsks s.names.scopes pre p n v s) r
    plain_opens pre p n v s (Err stop) f g m = tt
    plain_opens pre p n v s (Ok s') f g m = record {
      inside = g.inside (opened_in std a p n s);
      asks = λ o ends t op bounds x near known agree. m o ends t op bounds x near (f o) agree;
    }

    either : (base : List (List Declaration)) (pre : Outline → Type 0) (v w : Bool) (s : State) (c : Bool) (r r' : Step) → After (NodeAsks base pre v s) r → After (NodeAsks base pre w s) r'
        → After (NodeAsks base pre (if c then v else w) s) (if c then r else r')
    either base pre v w s true r r' m m' = m
    either base pre v w s false r r' m m' = m'

    -- ---- Bodies

    abbrev body_label : Label
    body_label = labelled FunBody 1

    record BodyEnds (first : ℕ) (v : Bool) (s s' : State) : Type 0 where
      ends : Bracketed std a body_label first s s'
      asks : Asks std a b body_label v s ends.last_one

    body_end : (first : ℕ) (right : List Class) (s : State) → IsIn body_label first s
        → After (BodyEnds first (of_token std a b (acted (iso std) end s)) s) (take_one (iso std) right (acted (iso std) end s))
    unfolding acted
    body_end first right s i =
        (taken std) (BodyEnds first (of_token std a b (acted (iso std) end s)) s) right (acted (iso std) end s)
        (λ c more. record {
          ends = record { last_one = s; goes = goes_still std a body_label first s; more = more; same = refl };
          asks = λ o ends bounds f agree. (agree, quiet_so std a b body_label first (acted (iso std) end s) refl (record { label = i.label; begins = i.begins }));
        })

    body_then : (first : ℕ) (s : State) (v : Bool) (w : State → Bool) (r : Step) (next_step : State → Step) → IsIn body_label first s
        → After (Goes std a body_label first s) r → After (Asks std a b body_label v s) r
        → ((s' : State) → IsIn body_label first s' → After (BodyEnds first (w s') s') (next_step s'))
        → After (BodyEnds first (v && along_rest r w) s) (and_then r next_step)
    body_then first s v w (Err stop) next_step i g k n = tt
    body_then first s v w (Ok s') next_step i g k n = onward (next_step s') (n s' (g.inside i))
      where
        onward : (r : Step) → After (BodyEnds first (w s') s') r → After (BodyEnds first (v && w s') s) r
        onward (Err stop) m = tt
        onward (Ok s'') m = record {
          ends = record {
            last_one = m.ends.last_one;
            goes = goes_further std a body_label first s s' m.ends.last_one g m.ends.goes;
            more = m.ends.more;
            same = m.ends.same;
          };
          asks = asks_further std a b body_label first s s' m.ends.last_one v (w s') g m.ends.goes.outer m.ends.goes.later k m.asks;
        }

    module _ (s s' : State) (v : Bool) (e : BodyEnds s.at v (opened FunBody 1 s) s') where
      abbrev last_one : State
      last_one = e.ends.last_one

      body_inside : IsIn body_label s.at (body_end_state std a s s' e.ends)
      body_inside = (let i = e.ends.goes.inside (opened_in std a FunBody 1 s) in record { label = i.label; begins = i.begins })

      body_told : Told (tail_of s.names.scopes) (Kept (head_of std s.names.scopes)) FunBody 1 v s (body_end_state std a s s' e.ends)
      body_told o ends t op bounds m near kept agree =
          let under : Forest = put last_one.built.under (leaf last_one.at) in
          let o' : Outline = begun body_label s.at under o in
          let to : o'.scope.to ≡ last_one.at = last_leaf last_one.built.under last_one.at 0 in
          let within : Within (last_one.at + 1) (tail_of s.names.scopes) ends =
          bounds_within (last_one.at + 1) o.scope.to (tail_of s.names.scopes) ends (subst (λ x. Bounds (last_one.at + 1) o.scope.to x ends) (body_back std a s s' e.ends op) bounds) in
          let inner_bounds = subst (λ k. Bounds last_one.at k last_one.names.scopes (last_one.at ∷ ends)) (sym to)
          (bounds_inner last_one.at last_one.at (tail_of s.names.scopes) last_one.names.scopes ends (body_outer std a s s' e.ends op) (omega arith)
          (within_sooner last_one.at (last_one.at + 1) (tail_of s.names.scopes) ends (omega arith) within)) in
          (e.asks o' (last_one.at ∷ ends) inner_bounds (body_begins std a s s' e.ends o ends t op m near kept) (before_leaf std b last_one.built.under last_one.at o' agree).0).1

      body_asks : OpenAsks (tail_of s.names.scopes) (Kept (head_of std s.names.scopes)) FunBody 1 v s s'
      body_asks =
          subst (OpenAsks (tail_of s.names.scopes) (Kept (head_of std s.names.scopes)) FunBody 1 v s) (sym (e.ends.same ∙ ended_is std a s s' e.ends))
          (record { inside = body_inside; asks = body_told })

    -- ---- A body, or the rest of a declaration

    -- what is asked where the names of the list are in the scope
    abbrev pub TailAsks : Bool → State → State → Type 0
    TailAsks v s s' = NodeAsks (tail_of s.names.scopes) (Kept (head_of std s.names.scopes)) v s s'

    -- .. and where a definition begins
    abbrev pub DefinitionAsks : Bool → State → State → Type 0
    DefinitionAsks v s s' = NodeAsks s.names.scopes (IsFresh s) v s s'

    tail_first : (v : Bool) (s s' : State) → Tails std a FunBody (opened ExtTail 1 s) s' → TailAsks v (opened ExtTail 1 s) s'
        → OpenAsks (tail_of s.names.scopes) (Kept (head_of std s.names.scopes)) ExtTail 1 v s s'
    unfolding opened
    tail_first v s s' e k = record {
      inside = record { label = ap (λ (n : Node). n.label) e.built; begins = ap (λ (n : Node). n.first) e.built };
      asks = λ o ends t op bounds m near kept agree. (k (begun (labelled ExtTail 1) s.at s'.built.under o) ends t op bounds m near kept agree).1;
    }

    ended_in : (s : State) → IsIn (labelled ExtTail 2) s.at (acted (iso std) end (opened ExtTail 2 s))
    unfolding acted opened
    ended_in s = record { label = refl; begins = refl }

    tail_second : (v : Bool) (s s' : State) → Goes std a (labelled ExtTail 2) s.at (acted (iso std) end (opened ExtTail 2 s)) s'
        → Asks std a b (labelled ExtTail 2) v (acted (iso std) end (opened ExtTail 2 s)) s'
        → OpenAsks (tail_of s.names.scopes) (Kept (head_of std s.names.scopes)) ExtTail 2 v s s'
    unfolding acted opened
    tail_second v s s' g k = record {
      inside = g.inside (record { label = refl; begins = refl });
      asks = λ o ends t op bounds m near kept agree. (
          let o' : Outline = begun (labelled ExtTail 2) s.at s'.built.under o in
          let back : (with_scope_ended s.names s.names.scopes).scopes ≡ tail_of s.names.scopes = tail_back s.names s.names.scopes op in
          (k o' ends bounds
          (record {
            text = t;
            matches = subst (λ x. Matches s.at x ends o.entries) (sym back) m;
            near = near;
            label = refl;
            nth = refl;
            scope = refl;
            agree = refl;
            opens = subst IsOpen (sym back) op;
          })
          agree).1);
    }

    -- ---- A declarator and what follows it

    module _ (s s1 s' : State) (m : Makes std a Declarator (opened ExtRest 2 s) s1) (grows : Grows Declarator (opened ExtRest 2 s) s1)
        (h : HandsOn std a Declarator (opened ExtRest 2 s) s1) (e : Tails std a ExtTail (acted (iso std) again (acted (iso std) declare s1)) s') (v w : Bool)
        (k : Asks std a b (labelled ExtRest 2) v (opened ExtRest 2 s) s1) (k' : TailAsks w (acted (iso std) again (acted (iso std) declare s1)) s') where
      abbrev declared_state : State
      declared_state = acted (iso std) declare s1

      goes : Goes std a (labelled ExtRest 2) s.at (opened ExtRest 2 s) declared_state
      goes = rest_goes std a s s1 s' m grows h e

      tail_told : (o : Outline) (ends : List ℕ) → declared_state.toks ≡ a → IsOpen declared_state.names.scopes → Bounds s'.at o.scope.to s'.names.scopes ends
          → Matches declared_state.at declared_state.names.scopes ends (now declared_state o).entries → (now declared_state o).typedef ≡ declared_state.near
          → Kept declared_state.names.kept (now declared_state o) → all_agree std b s'.built.under o ≡ true
          → (all_agree std b declared_state.built.under o ≡ true) × (w ≡ true)
      unfolding acted
      tail_told = k'

      rest_inside : IsIn (labelled ExtRest 2) s.at s'
      rest_inside =
          let i = goes.inside (opened_in std a ExtRest 2 s) in
          let built = tail_built std a s s1 s' m grows h e in
          record { label = ap (λ (n : Node). n.label) built ∙ i.label; begins = ap (λ (n : Node). n.first) built ∙ i.begins }

      rest_told : Told s.names.scopes (IsFresh s) ExtRest 2 (v && w) s s'
      rest_told o ends t op bounds matches near fresh agree =
          let o' : Outline = begun (labelled ExtRest 2) s.at s'.built.under o in
          let open2 : IsOpen declared_state.names.scopes = rest_open std a s s1 s' m grows h e op in
          let sooner : Bounds declared_state.at o.scope.to declared_state.names.scopes ends =
          bounds_sooner declared_state.at s'.at o.scope.to declared_state.names.scopes s'.names.scopes ends open2 (tail_later std a s s1 s' m grows h e)
          (tail_outer std a s s1 s' m grows h e open2) bounds in
          let before = opened_fits std a ExtRest 2 s s'.built.under o ends t op refl matches near in
          let f : Fits std a (labelled ExtRest 2) declared_state ends o' = goes.fits o' ends sooner before in
          let second = tail_told o' ends f.text open2 bounds f.matches f.near (names_kept std a s s1 s' m grows h e s'.built.under o t (some_length std a s.names.scopes op) near fresh) agree in
          let start = declare_asks std a b (labelled ExtRest 2) v (opened ExtRest 2 s) s1 m.outer k o' ends sooner before second.0 in
          and_from v w start.1 second.1

      rest_opens : OpenAsks s.names.scopes (IsFresh s) ExtRest 2 (v && w) s s'
      rest_opens = record { inside = rest_inside; asks = rest_told }

    -- ---- A definition

    module _ (n : ℕ) (s s1 s' : State) (m : Makes std a Specs (opened External n s) s1) (grows : s.at < s1.at) (w : Steady (opened External n s) s1)
        (e : Defines std a ExtRest s1 s') (u v : Bool)
        (k : Asks std a b (labelled External n) u (opened External n s) s1) (k' : DefinitionAsks v s1 s') where
      definition_told : Told s.names.scopes (IsFresh s) External n (u && v) s s'
      definition_told o ends t op bounds matches near fresh agree =
          let o' : Outline = begun (labelled External n) s.at s'.built.under o in
          let open1 : IsOpen s1.names.scopes = specs_open std a n s s1 s' m grows w e op in
          let sooner : Bounds s1.at o.scope.to s1.names.scopes ends =
          bounds_sooner s1.at s'.at o.scope.to s1.names.scopes s'.names.scopes ends open1 e.later (e.outer open1) bounds in
          let before = opened_fits std a External n s s'.built.under o ends t op refl matches near in
          let f : Fits std a (labelled External n) s1 ends o' = (specs_goes std a n s s1 s' m grows w e).fits o' ends sooner before in
          let second = k' o' ends f.text open1 bounds f.matches f.near (specs_fresh std a n s s1 s' m grows w e s'.built.under o fresh) agree in
          let start = k o' ends sooner before second.0 in
          and_from u v start.1 second.1

      definition_opens : OpenAsks s.names.scopes (IsFresh s) External n (u && v) s s'
      definition_opens = record {
        inside = (let i = (specs_goes std a n s s1 s' m grows w e).inside (opened_in std a External n s) in
            record { label = ap (λ (x : Node). x.label) e.built ∙ i.label; begins = ap (λ (x : Node). x.first) e.built ∙ i.begins });
        asks = definition_told;
      }

    -- ---- Reading them

    -- what is asked along these productions
    pub record OuterAsked (below : ℕ → Goal → State → Step) (along_below : ℕ → Goal → State → Bool) : Type 0 where
      pub bodies : (depth : ℕ) (s : State) → After (TailAsks (along_below depth (produce FunBody) s) s) (below depth (produce FunBody) s)
      pub tails : (depth : ℕ) (s : State) → After (TailAsks (along_below depth (produce ExtTail) s) s) (below depth (produce ExtTail) s)
      pub rests : (depth : ℕ) (s : State) → After (DefinitionAsks (along_below depth (produce ExtRest) s) s) (below depth (produce ExtRest) s)
      pub definitions : (depth : ℕ) (s : State) → After (DefinitionAsks (along_below depth (produce External) s) s) (below depth (produce External) s)

    module _ (below : ℕ → Goal → State → Step) (along_below : ℕ → Goal → State → Bool) (reads : Reads std a below) (asked : Asked std a b below along_below)
        (outer : OuterReads std a below) (outer_asked : OuterAsked below along_below)
        (hands : (depth : ℕ) (s : State) → After (HandsOn std a Declarator s) (below depth (produce Declarator) s))
        (steady : (depth : ℕ) (goal : Goal) (s : State) → After (Steady s) (below depth goal s)) (depth : ℕ) where
      abbrev along_here : Item → State → Bool
      along_here item s = along std a b below along_below depth item s

      abbrev along_all : Production → State → Bool
      along_all p s = along_first (iso std) (of_token std a b) (of_node std a b) below along_below depth p 1 ((iso std).table p) s

      abbrev body_items : Item
      body_items = first_body (c99.table FunBody)

      abbrev first_items : Item
      first_items = front_of body_items

      abbrev brace : Item
      brace = front_of (rest_of body_items)

      abbrev block_items : Item
      block_items = front_of (rest_of (rest_of body_items))

      body_steps : (s : State) → After (BodyEnds s.at (along_here body_items (opened FunBody 1 s)) (opened FunBody 1 s)) (step (iso std) below depth body_items (opened FunBody 1 s))
      body_steps s =
          body_then s.at (opened FunBody 1 s) (along_here first_items (opened FunBody 1 s)) (along_here (rest_of body_items))
          (step (iso std) below depth first_items (opened FunBody 1 s)) (step (iso std) below depth (rest_of body_items)) (opened_in std a FunBody 1 s)
          (goes_step std a below reads first_items body_label s.at depth (opened FunBody 1 s) refl (opened_in std a FunBody 1 s))
          (asks_step std a b below along_below reads asked first_items body_label s.at depth (opened FunBody 1 s) refl (opened_in std a FunBody 1 s))
          (λ s1 i1. body_then s.at s1 (along_here brace s1) (along_here (rest_of (rest_of body_items))) (step (iso std) below depth brace s1) (step (iso std) below depth (rest_of (rest_of body_items))) i1
          (goes_step std a below reads brace body_label s.at depth s1 refl i1) (asks_step std a b below along_below reads asked brace body_label s.at depth s1 refl i1)
          (λ s2 i2. body_then s.at s2 (along_here block_items s2) (along_here (rest_of (rest_of (rest_of body_items)))) (step (iso std) below depth block_items s2)
          (step (iso std) below depth (rest_of (rest_of (rest_of body_items)))) i2
          (goes_step std a below reads block_items body_label s.at depth s2 refl i2) (asks_step std a b below along_below reads asked block_items body_label s.at depth s2 refl i2)
          (λ s3 i3. body_end s.at (classes_of (rest_of (rest_of (rest_of (rest_of body_items))))) s3 i3)))

      pub body_made : (s : State) → After (TailAsks (along_all FunBody s) s) (pick (iso std) below depth FunBody 1 (c99.table FunBody) s)
      body_made s =
          either (tail_of s.names.scopes) (Kept (head_of std s.names.scopes)) (of_node std a b FunBody 1 s && along_here body_items (opened FunBody 1 s)) true s (may (iso std) own body_items s)
          (alternative (iso std) below depth FunBody 1 body_items s) (Err (syntax s.at))
          (opens_node (tail_of s.names.scopes) (Kept (head_of std s.names.scopes)) FunBody 1 (along_here body_items (opened FunBody 1 s)) s (step (iso std) below depth body_items (opened FunBody 1 s)) refl
          (by (step (iso std) below depth body_items (opened FunBody 1 s)) (body_steps s)))
          tt
        where
          by : (r : Step) → After (BodyEnds s.at (along_here body_items (opened FunBody 1 s)) (opened FunBody 1 s)) r
              → After (OpenAsks (tail_of s.names.scopes) (Kept (head_of std s.names.scopes)) FunBody 1 (along_here body_items (opened FunBody 1 s)) s) r
          by (Err stop) m = tt
          by (Ok s') m = body_asks s s' (along_here body_items (opened FunBody 1 s)) m

      abbrev tail_items : Item
      tail_items = second_body (c99.table ExtTail)

      pub tail_made : (s : State) → After (TailAsks (along_all ExtTail s) s) (pick (iso std) below depth ExtTail 1 (c99.table ExtTail) s)
      tail_made s =
          either (tail_of s.names.scopes) (Kept (head_of std s.names.scopes)) (along_below depth (produce FunBody) (opened ExtTail 1 s))
          (if may (iso std) (second_test (c99.table ExtTail)) tail_items s then along_here (rest_of tail_items) (acted (iso std) end (opened ExtTail 2 s)) else true) s
          (may (iso std) (first_test (c99.table ExtTail)) (part FunBody) s)
          (alternative (iso std) below depth ExtTail 1 (part FunBody) s) (if may (iso std) (second_test (c99.table ExtTail)) tail_items s then alternative (iso std) below depth ExtTail 2 tail_items s else Err (syntax s.at))
          (opens_node (tail_of s.names.scopes) (Kept (head_of std s.names.scopes)) ExtTail 1 (along_below depth (produce FunBody) (opened ExtTail 1 s)) s (below depth (produce FunBody) (opened ExtTail 1 s)) refl
          (first (below depth (produce FunBody) (opened ExtTail 1 s)) (outer.bodies depth (opened ExtTail 1 s)) (outer_asked.bodies depth (opened ExtTail 1 s))))
          (either (tail_of s.names.scopes) (Kept (head_of std s.names.scopes)) (along_here (rest_of tail_items) (acted (iso std) end (opened ExtTail 2 s))) true s (may (iso std) (second_test (c99.table ExtTail)) tail_items s)
          (alternative (iso std) below depth ExtTail 2 tail_items s) (Err (syntax s.at))
          (opens_node (tail_of s.names.scopes) (Kept (head_of std s.names.scopes)) ExtTail 2 (along_here (rest_of tail_items) (acted (iso std) end (opened ExtTail 2 s))) s
          (step (iso std) below depth (rest_of tail_items) (acted (iso std) end (opened ExtTail 2 s))) refl
          (second (step (iso std) below depth (rest_of tail_items) (acted (iso std) end (opened ExtTail 2 s)))
          (goes_step std a below reads (rest_of tail_items) (labelled ExtTail 2) s.at depth (acted (iso std) end (opened ExtTail 2 s)) refl (ended_in s))
          (asks_step std a b below along_below reads asked (rest_of tail_items) (labelled ExtTail 2) s.at depth (acted (iso std) end (opened ExtTail 2 s)) refl (ended_in s))))
          tt)
        where
          first : (r : Step) → After (Tails std a FunBody (opened ExtTail 1 s)) r → After (TailAsks (along_below depth (produce FunBody) (opened ExtTail 1 s)) (opened ExtTail 1 s)) r
              → After (OpenAsks (tail_of s.names.scopes) (Kept (head_of std s.names.scopes)) ExtTail 1 (along_below depth (produce FunBody) (opened ExtTail 1 s)) s) r
          first (Err stop) e k = tt
          first (Ok s') e k = tail_first (along_below depth (produce FunBody) (opened ExtTail 1 s)) s s' e k

          second : (r : Step) → After (Goes std a (labelled ExtTail 2) s.at (acted (iso std) end (opened ExtTail 2 s))) r
              → After (Asks std a b (labelled ExtTail 2) (along_here (rest_of tail_items) (acted (iso std) end (opened ExtTail 2 s))) (acted (iso std) end (opened ExtTail 2 s))) r
              → After (OpenAsks (tail_of s.names.scopes) (Kept (head_of std s.names.scopes)) ExtTail 2 (along_here (rest_of tail_items) (acted (iso std) end (opened ExtTail 2 s))) s) r
          second (Err stop) g k = tt
          second (Ok s') g k = tail_second (along_here (rest_of tail_items) (acted (iso std) end (opened ExtTail 2 s))) s s' g k

      abbrev semicolon_rest : Item
      semicolon_rest = first_body (c99.table ExtRest)

      abbrev rest_items : Item
      rest_items = second_body (c99.table ExtRest)

      abbrev behind_declarator : State → State
      behind_declarator s1 = acted (iso std) again (acted (iso std) declare s1)

      rest_body : (s : State) → After (OpenAsks s.names.scopes (IsFresh s) ExtRest 2 (along_here rest_items (opened ExtRest 2 s)) s) (step (iso std) below depth rest_items (opened ExtRest 2 s))
      rest_body s =
          by (below depth (produce Declarator) (opened ExtRest 2 s)) (reads.made depth Declarator (opened ExtRest 2 s) refl) (hands depth (opened ExtRest 2 s))
          (asked.made depth Declarator (labelled ExtRest 2) (opened ExtRest 2 s) refl)
        where
          onward : (s1 : State) → Makes std a Declarator (opened ExtRest 2 s) s1 → Grows Declarator (opened ExtRest 2 s) s1 → HandsOn std a Declarator (opened ExtRest 2 s) s1
              → Asks std a b (labelled ExtRest 2) (along_below depth (produce Declarator) (opened ExtRest 2 s)) (opened ExtRest 2 s) s1
              → (r : Step) → After (Tails std a ExtTail (behind_declarator s1)) r → After (TailAsks (along_below depth (produce ExtTail) (behind_declarator s1)) (behind_declarator s1)) r
              → After (OpenAsks s.names.scopes (IsFresh s) ExtRest 2 (along_below depth (produce Declarator) (opened ExtRest 2 s) && along_below depth (produce ExtTail) (behind_declarator s1)) s) r
          onward s1 m grows h k (Err stop) e k' = tt
          onward s1 m grows h k (Ok s') e k' =
              rest_opens s s1 s' m grows h e (along_below depth (produce Declarator) (opened ExtRest 2 s)) (along_below depth (produce ExtTail) (behind_declarator s1)) k k'

          by : (r : Step) → After (λ s1. Makes std a Declarator (opened ExtRest 2 s) s1 × Grows Declarator (opened ExtRest 2 s) s1) r
              → After (HandsOn std a Declarator (opened ExtRest 2 s)) r
              → After (Asks std a b (labelled ExtRest 2) (along_below depth (produce Declarator) (opened ExtRest 2 s)) (opened ExtRest 2 s)) r
              → After (OpenAsks s.names.scopes (IsFresh s) ExtRest 2 (along_below depth (produce Declarator) (opened ExtRest 2 s) && along_rest r (along_here (rest_of rest_items))) s)
              (and_then r (step (iso std) below depth (rest_of rest_items)))
          by (Err stop) m h k = tt
          by (Ok s1) m h k =
              onward s1 m.0 m.1 h k (below depth (produce ExtTail) (behind_declarator s1)) (outer.tails depth (behind_declarator s1)) (outer_asked.tails depth (behind_declarator s1))

      pub rest_made : (s : State) → After (DefinitionAsks (along_all ExtRest s) s) (pick (iso std) below depth ExtRest 1 (c99.table ExtRest) s)
      rest_made s =
          either s.names.scopes (IsFresh s) (along_here semicolon_rest (opened ExtRest 1 s)) (if may (iso std) own rest_items s then along_here rest_items (opened ExtRest 2 s) else true) s
          (may (iso std) own semicolon_rest s) (alternative (iso std) below depth ExtRest 1 semicolon_rest s)
          (if may (iso std) own rest_items s then alternative (iso std) below depth ExtRest 2 rest_items s else Err (syntax s.at))
          (opens_node s.names.scopes (IsFresh s) ExtRest 1 (along_here semicolon_rest (opened ExtRest 1 s)) s (step (iso std) below depth semicolon_rest (opened ExtRest 1 s)) refl
          (plain_opens (IsFresh s) ExtRest 1 (along_here semicolon_rest (opened ExtRest 1 s)) s (step (iso std) below depth semicolon_rest (opened ExtRest 1 s)) (λ o. refl)
          (goes_step std a below reads semicolon_rest (labelled ExtRest 1) s.at depth (opened ExtRest 1 s) refl (opened_in std a ExtRest 1 s))
          (fine_asks std a b below along_below reads asked depth ExtRest 1 semicolon_rest s refl refl refl)))
          (either s.names.scopes (IsFresh s) (along_here rest_items (opened ExtRest 2 s)) true s (may (iso std) own rest_items s) (alternative (iso std) below depth ExtRest 2 rest_items s) (Err (syntax s.at))
          (opens_node s.names.scopes (IsFresh s) ExtRest 2 (along_here rest_items (opened ExtRest 2 s)) s (step (iso std) below depth rest_items (opened ExtRest 2 s)) refl (rest_body s))
          tt)

      abbrev semicolon_external : Item
      semicolon_external = first_body (externals C99)

      abbrev external_items : Item
      external_items = second_body (externals C99)

      opened_start : (n : ℕ) (s : State) → (opened External n s).at ≡ s.at
      unfolding opened
      opened_start n s = refl

      external_body : (n : ℕ) (s : State) → After (OpenAsks s.names.scopes (IsFresh s) External n (along_here external_items (opened External n s)) s) (step (iso std) below depth external_items (opened External n s))
      external_body n s =
          by (below depth (produce Specs) (opened External n s)) (reads.made depth Specs (opened External n s) refl) (steady depth (produce Specs) (opened External n s))
          (asked.made depth Specs (labelled External n) (opened External n s) refl)
        where
          onward : (s1 : State) → Makes std a Specs (opened External n s) s1 → s.at < s1.at → Steady (opened External n s) s1
              → Asks std a b (labelled External n) (along_below depth (produce Specs) (opened External n s)) (opened External n s) s1
              → (r : Step) → After (Defines std a ExtRest s1) r → After (DefinitionAsks (along_below depth (produce ExtRest) s1) s1) r
              → After (OpenAsks s.names.scopes (IsFresh s) External n (along_below depth (produce Specs) (opened External n s) && along_below depth (produce ExtRest) s1) s) r
          onward s1 m grows w k (Err stop) e k' = tt
          onward s1 m grows w k (Ok s') e k' =
              definition_opens n s s1 s' m grows w e (along_below depth (produce Specs) (opened External n s)) (along_below depth (produce ExtRest) s1) k k'

          by : (r : Step) → After (λ s1. Makes std a Specs (opened External n s) s1 × Grows Specs (opened External n s) s1) r
              → After (Steady (opened External n s)) r
              → After (Asks std a b (labelled External n) (along_below depth (produce Specs) (opened External n s)) (opened External n s)) r
              → After (OpenAsks s.names.scopes (IsFresh s) External n (along_below depth (produce Specs) (opened External n s) && along_rest r (along_here (part ExtRest))) s)
              (and_then r (step (iso std) below depth (part ExtRest)))
          by (Err stop) m w k = tt
          by (Ok s1) m w k =
              onward s1 m.0 (subst (λ x. x < s1.at) (opened_start n s) (m.1 refl)) w k (below depth (produce ExtRest) s1) (outer.rests depth s1) (outer_asked.rests depth s1)

      -- where nothing else stands in a definition than what such nodes have
      plain_external : (n : ℕ) (item : Item) (s : State) → is_simple External n ≡ true → is_at (labelled External n) Pdirect 2 ≡ false → fine (labelled External n) item ≡ true
          → After (DefinitionAsks (along_here item (opened External n s)) s) (alternative (iso std) below depth External n item s)
      plain_external n item s simple other is_fine =
          opens_node s.names.scopes (IsFresh s) External n (along_here item (opened External n s)) s (step (iso std) below depth item (opened External n s)) refl
          (plain_opens (IsFresh s) External n (along_here item (opened External n s)) s (step (iso std) below depth item (opened External n s)) (λ o. refl)
          (goes_step std a below reads item (labelled External n) s.at depth (opened External n s) is_fine (opened_in std a External n s))
          (fine_asks std a b below along_below reads asked depth External n item s simple other is_fine))

      abbrev along_rows : ℕ → List Alternative → State → Bool
      along_rows n rows s = along_first (iso std) (of_token std a b) (of_node std a b) below along_below depth External n rows s

      specs_external : (n : ℕ) (s : State) → After (DefinitionAsks (along_rows n (plain external_items ∷ []) s) s) (pick (iso std) below depth External n (plain external_items ∷ []) s)
      specs_external n s =
          either s.names.scopes (IsFresh s) (along_here external_items (opened External n s)) true s (may (iso std) own external_items s) (alternative (iso std) below depth External n external_items s) (Err (syntax s.at))
          (opens_node s.names.scopes (IsFresh s) External n (along_here external_items (opened External n s)) s (step (iso std) below depth external_items (opened External n s)) refl (external_body n s))
          tt

      -- where an assertion may stand for a definition (C11 6.7.10)
      asserted_external : (s : State) → After (DefinitionAsks (along_rows 1 (externals C11) s) s) (pick (iso std) below depth External 1 (externals C11) s)
      asserted_external s =
          either s.names.scopes (IsFresh s) (along_here semicolon_external (opened External 1 s)) (along_rows 2 (plain (part Sassert) ∷ (plain external_items ∷ [])) s) s
          (may (iso std) own semicolon_external s) (alternative (iso std) below depth External 1 semicolon_external s)
          (pick (iso std) below depth External 2 (plain (part Sassert) ∷ (plain external_items ∷ [])) s)
          (plain_external 1 semicolon_external s refl refl refl)
          (either s.names.scopes (IsFresh s) (along_here (part Sassert) (opened External 2 s)) (along_rows 3 (plain external_items ∷ []) s) s
          (may (iso std) own (part Sassert) s) (alternative (iso std) below depth External 2 (part Sassert) s)
          (pick (iso std) below depth External 3 (plain external_items ∷ []) s)
          (plain_external 2 (part Sassert) s refl refl refl) (specs_external 3 s))

      pub external_made : (s : State) → After (DefinitionAsks (along_all External s) s) (pick (iso std) below depth External 1 ((iso std).table External) s)
      external_made s =
          by_edition (λ v. After (DefinitionAsks (along_rows 1 (externals v) s) s) (pick (iso std) below depth External 1 (externals v) s))
          (either s.names.scopes (IsFresh s) (along_here semicolon_external (opened External 1 s)) (along_rows 2 (plain external_items ∷ []) s) s
          (may (iso std) own semicolon_external s) (alternative (iso std) below depth External 1 semicolon_external s)
          (pick (iso std) below depth External 2 (plain external_items ∷ []) s)
          (plain_external 1 semicolon_external s refl refl refl) (specs_external 2 s))
          (asserted_external s)
          std
