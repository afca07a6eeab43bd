-- Names that are declared where they stand, and a parameter's declarator in parentheses.
use Rattle.std.proofs.Common.{ℕ, ◌+◌, ◌<◌, ◌≡◌, Bool, true, false, ◌&&◌, ◌||◌, not, if◌then◌else◌, List, length, Option, None, Some, Ok, Err, refl, ap, subst, ◌∙◌, arith}
use Rattle.std.proofs.lemmas.Bool.{and_from}
use Rattle.c99_grammar.specs.declared.dialects.Edition.{Edition}
use Rattle.cs_base.specs.Token.{Token}
use Rattle.c99_tree.specs.declared.production.Label.{Label}
use Rattle.c99_tree.specs.declared.production.Production.TheVariants.{InitDecl, Specs, Declarator, Enumerator, Cond, Param, Pdecl, Pdirect}
use Rattle.c99_grammar.specs.Items.{Item, one, part, act, ◌·◌, maybe, deep, own, names, declare, name}
use Rattle.c99_grammar.specs.Standard.{c99, iso}
use Rattle.c99_read.specs.Sound.{has_token, is_low, is_met, goal_has_token}
use Rattle.c99_read.specs.State.{State, Names, base_at, is_identifier, declaration, with_declared, acted, opened}
use Rattle.c99_read.specs.Reading.{Goal, produce, Step, and_then, take_one, may, step}
use Rattle.c99_read.proofs.Moves.{Moves, Moves-step}
use Rattle.tree_laws.proofs.Private.{Class}
use Rattle.tree_laws.proofs.Parts.{first_body, rest_of}
use Rattle.tree_laws.proofs.TypedefClasses.{equals}
use Rattle.tree_laws.proofs.Outline.{Outline, begun, node_agrees}
use Rattle.tree_laws.proofs.Matching.{Matches, Bounds, IsOpen, SameOuter, outer_still, outer_further, outer_open, bounds_within, bounds_sooner, same_typedef}
use Rattle.tree_laws.proofs.Rules.{labelled, fine}
use Rattle.tree_laws.proofs.Goes.{After, with_token, IsIn, Goes, Makes, node_goes}
use Rattle.tree_laws.proofs.TypedefSteps.{Reads, Grows, taken, quiet_goes, goes_step, opened_in, opened_fits, opened_outer}
use Rattle.tree_laws.proofs.Declaring.{outer_declared, declared_after}
use Rattle.renamed_tree_laws.specs.Along.{along_rest}
use Rattle.renamed_tree_laws.proofs.Asking.{of_token, of_node, Asks, Stays, asks_still, asks_further, asks_and_then, quiet_asks, along, Asked, asks_step, BodyAsks, asks_body, asks_named}

pub declared_outer : (n : Names) (i : Option ℕ) (t : Bool) → SameOuter n.scopes (with_declared n i t).scopes
declared_outer n None t = outer_still n.scopes
declared_outer n (Some i) t = outer_declared n.scopes (declaration i t)

abbrev init_items : Item
init_items = rest_of (rest_of (first_body (c99.table InitDecl)))

abbrev value_items : Item
value_items = one equals · deep (part Cond)

abbrev enumerator : Label
enumerator = labelled Enumerator 1

module _ (std : Edition) where
  module _ (a b : List Token) where
    pub asks_true : (l : Label) (v : Bool) (s s' : State) → Asks std a b l v s s' → Asks std a b l (v && true) s s'
    asks_true l v s s' k = λ o ends bounds f agree. (let r = k o ends bounds f agree in (r.0, and_from v true r.1 refl))

    -- a name is declared behind what was read
    renamed_asks : (l : Label) (v : Bool) (s s1 : State) (n : Names) → SameOuter s.names.scopes s1.names.scopes → SameOuter s1.names.scopes n.scopes
        → Asks std a b l v s s1 → Asks std a b l v s (record s1 { names = n })
    renamed_asks l v s s1 n same same' k = λ o ends bounds f agree. (
        k o ends (bounds_sooner s1.at s1.at o.scope.to s1.names.scopes n.scopes ends (outer_open s.names.scopes s1.names.scopes f.opens same) (omega arith) same' bounds) f agree)

    pub declare_stays : (s : State) → Stays std a b s (acted (iso std) declare s)
    unfolding acted
    declare_stays s = (declared_outer s.names _ s.near, omega arith)

    pub name_stays : (s : State) → Stays std a b s (acted (iso std) name s)
    unfolding acted
    name_stays s = (declared_outer s.names _ false, omega arith)

    pub declare_asks : (l : Label) (v : Bool) (s s1 : State) → SameOuter s.names.scopes s1.names.scopes → Asks std a b l v s s1 → Asks std a b l v s (acted (iso std) declare s1)
    unfolding acted
    declare_asks l v s s1 same k = renamed_asks l v s s1 (acted (iso std) declare s1).names same (declared_outer s1.names _ s1.near) k

    pub name_asks : (l : Label) (v : Bool) (s s1 : State) → SameOuter s.names.scopes s1.names.scopes → Asks std a b l v s s1 → Asks std a b l v s (acted (iso std) name s1)
    unfolding acted
    name_asks l v s s1 same k = renamed_asks l v s s1 (acted (iso std) name s1).names same (declared_outer s1.names _ false) k

    pub stays_further : (s s' s'' : State) → Stays std a b s s' → Stays std a b s' s'' → Stays std a b s s''
    stays_further s s' s'' h k = (
      outer_further s.names.scopes s'.names.scopes s''.names.scopes h.0 k.0,
      (let e = h.1 in let e' = k.1 in omega arith),
    )

    module _ (below : ℕ → Goal → State → Step) (along_below : ℕ → Goal → State → Bool) (reads : Reads std a below) (asked : Asked std a b below along_below) (depth : ℕ) where
      pub items_ask : (item : Item) (l : Label) (first depth : ℕ) (s : State) → fine l item ≡ true → IsIn l first s
          → After (λ s'. Asks std a b l (along std a b below along_below depth item s) s s' × Stays std a b s s') (step (iso std) below depth item s)
      items_ask item l first depth s h i =
          by (step (iso std) below depth item s) (goes_step std a below reads item l first depth s h i) (asks_step std a b below along_below reads asked item l first depth s h i)
        where
          by : (r : Step) → After (Goes std a l first s) r → After (Asks std a b l (along std a b below along_below depth item s) s) r
              → After (λ s'. Asks std a b l (along std a b below along_below depth item s) s s' × Stays std a b s s') r
          by (Err stop) g k = tt
          by (Ok s') g k = (k, (g.outer, g.later))

      -- ---- Declarations (6.7)

      abbrev init_label : Label
      init_label = labelled InitDecl 1

      abbrev all_init : Item
      all_init = part Declarator · (act declare · init_items)

      pub init_asks : (s : State)
          → After (BodyAsks std a b InitDecl 1 (of_node std a b InitDecl 1 s && along std a b below along_below depth all_init (opened InitDecl 1 s)) s)
          (step (iso std) below depth all_init (opened InitDecl 1 s))
      init_asks s =
          by (below depth (produce Declarator) (opened InitDecl 1 s)) (reads.made depth Declarator (opened InitDecl 1 s) refl)
          (asked.made depth Declarator init_label (opened InitDecl 1 s) refl)
        where
          last_items : (v w : Bool) (s1 : State) (r : Step) → Goes std a init_label s.at (opened InitDecl 1 s) s1 → Asks std a b init_label v (opened InitDecl 1 s) s1
              → After (λ s'. Asks std a b init_label w s1 s' × Stays std a b s1 s') r → After (BodyAsks std a b InitDecl 1 (of_node std a b InitDecl 1 s && (v && w)) s) r
          last_items v w s1 (Err stop) g k m = tt
          last_items v w s1 (Ok s') g k m =
              (asks_body std) a b InitDecl 1 (v && w) s s' refl refl (asks_further std a b init_label s.at (opened InitDecl 1 s) s1 s' v w g m.1.0 m.1.1 k m.0)

          by : (r : Step) → After (λ s'. Makes std a Declarator (opened InitDecl 1 s) s' × Grows Declarator (opened InitDecl 1 s) s') r
              → After (Asks std a b init_label (along_below depth (produce Declarator) (opened InitDecl 1 s)) (opened InitDecl 1 s)) r
              → After (BodyAsks std a b InitDecl 1 (of_node std a b InitDecl 1 s && (along_below depth (produce Declarator) (opened InitDecl 1 s)
              && along_rest r (along std a b below along_below depth (act declare · init_items)))) s)
              (and_then r (step (iso std) below depth (act declare · init_items)))
          by (Err stop) m k = tt
          by (Ok s1) m k =
              let g = declared_after std a below reads depth s s1 m.0 m.1 in
              last_items (along_below depth (produce Declarator) (opened InitDecl 1 s)) (along std a b below along_below depth init_items (acted (iso std) declare s1))
              (acted (iso std) declare s1) (step (iso std) below depth init_items (acted (iso std) declare s1)) g
              (declare_asks init_label (along_below depth (produce Declarator) (opened InitDecl 1 s)) (opened InitDecl 1 s) s1 m.0.outer k)
              (items_ask init_items init_label s.at depth (acted (iso std) declare s1) refl (g.inside (opened_in std a InitDecl 1 s)))

      -- ---- Parameters (6.7.5.3)

      abbrev parameter_label : Label
      parameter_label = labelled Param 1

      abbrev later_parameter : Item
      later_parameter = maybe (part Pdecl) · act declare

      abbrev all_parameter : Item
      all_parameter = part Specs · later_parameter

      -- the declarator, where there is one
      declarator_asks : (s1 : State)
          → After (λ s'. Asks std a b parameter_label (along std a b below along_below depth later_parameter s1) s1 s' × Stays std a b s1 s') (step (iso std) below depth later_parameter s1)
      declarator_asks s1 = by (may (iso std) own (part Pdecl) s1)
        where
          named : (r : Step) → After (λ s'. Makes std a Pdecl s1 s' × Grows Pdecl s1 s') r → After (Asks std a b parameter_label (along_below depth (produce Pdecl) s1) s1) r
              → After (λ s'. Asks std a b parameter_label (along_below depth (produce Pdecl) s1 && along_rest r (along std a b below along_below depth (act declare))) s1 s' × Stays std a b s1 s')
              (and_then r (step (iso std) below depth (act declare)))
          named (Err stop) m k = tt
          named (Ok s2) m k = (
            declare_asks parameter_label (along_below depth (produce Pdecl) s1 && true) s1 s2 m.0.outer (asks_true parameter_label (along_below depth (produce Pdecl) s1) s1 s2 k),
            stays_further s1 s2 (acted (iso std) declare s2) (m.0.outer, m.0.later) (declare_stays s2),
          )

          by : (c : Bool)
              → After (λ s'. Asks std a b parameter_label ((if c then along_below depth (produce Pdecl) s1 else true)
              && along_rest (if c then below depth (produce Pdecl) s1 else Ok s1) (along std a b below along_below depth (act declare))) s1 s' × Stays std a b s1 s')
              (and_then (if c then below depth (produce Pdecl) s1 else Ok s1) (step (iso std) below depth (act declare)))
          by true = named (below depth (produce Pdecl) s1) (reads.made depth Pdecl s1 refl) (asked.made depth Pdecl parameter_label s1 refl)
          by false = (declare_asks parameter_label true s1 s1 (outer_still s1.names.scopes) (asks_still std a b parameter_label s1), declare_stays s1)

      body_of_param : (v : Bool) (s : State) (r : Step) → After (λ s'. Asks std a b parameter_label v (opened Param 1 s) s' × Stays std a b (opened Param 1 s) s') r
          → After (BodyAsks std a b Param 1 (of_node std a b Param 1 s && v) s) r
      body_of_param v s (Err stop) m = tt
      body_of_param v s (Ok s') m = asks_body std a b Param 1 v s s' refl refl m.0

      pub parameter_asks : (s : State)
          → After (BodyAsks std a b Param 1 (of_node std a b Param 1 s && along std a b below along_below depth all_parameter (opened Param 1 s)) s)
          (step (iso std) below depth all_parameter (opened Param 1 s))
      parameter_asks s =
          body_of_param (along std a b below along_below depth all_parameter (opened Param 1 s)) s (step (iso std) below depth all_parameter (opened Param 1 s))
          (asks_and_then std a b parameter_label s.at (opened Param 1 s) (along_below depth (produce Specs) (opened Param 1 s)) (along std a b below along_below depth later_parameter)
          (below depth (produce Specs) (opened Param 1 s)) (step (iso std) below depth later_parameter)
          (by (below depth (produce Specs) (opened Param 1 s)) (reads.made depth Specs (opened Param 1 s) refl) (asked.made depth Specs parameter_label (opened Param 1 s) refl))
          (λ s1 g. declarator_asks s1))
        where
          by : (r : Step) → After (λ s'. Makes std a Specs (opened Param 1 s) s' × Grows Specs (opened Param 1 s) s') r
              → After (Asks std a b parameter_label (along_below depth (produce Specs) (opened Param 1 s)) (opened Param 1 s)) r
              → After (λ s'. Goes std a parameter_label s.at (opened Param 1 s) s' × Asks std a b parameter_label (along_below depth (produce Specs) (opened Param 1 s)) (opened Param 1 s) s') r
          by (Err stop) m k = tt
          by (Ok s1) m k = (node_goes std a parameter_label s.at Specs (opened Param 1 s) s1 refl m.0, k)

      -- ---- Enumerators (6.7.2.2)

      abbrev later_enumerator : Item
      later_enumerator = maybe value_items · act name

      abbrev all_enumerator : Item
      all_enumerator = one names · later_enumerator

      value_asks : (s : State) (s1 : State) → IsIn enumerator s.at s1
          → After (λ s'. Asks std a b enumerator (along std a b below along_below depth later_enumerator s1) s1 s' × Stays std a b s1 s') (step (iso std) below depth later_enumerator s1)
      value_asks s s1 i = by (step (iso std) below depth (maybe value_items) s1) (items_ask (maybe value_items) enumerator s.at depth s1 refl i)
        where
          by : (r : Step) → After (λ s'. Asks std a b enumerator (along std a b below along_below depth (maybe value_items) s1) s1 s' × Stays std a b s1 s') r
              → After (λ s'. Asks std a b enumerator (along std a b below along_below depth (maybe value_items) s1 && along_rest r (along std a b below along_below depth (act name))) s1 s' × Stays std a b s1 s')
              (and_then r (step (iso std) below depth (act name)))
          by (Err stop) m = tt
          by (Ok s2) m = (
            name_asks enumerator (along std a b below along_below depth (maybe value_items) s1 && true) s1 s2 m.1.0
                (asks_true enumerator (along std a b below along_below depth (maybe value_items) s1) s1 s2 m.0),
            stays_further s1 s2 (acted (iso std) name s2) m.1 (name_stays s2),
          )

      body_of_enumerator : (v : Bool) (s : State) (r : Step) → After (λ s'. Asks std a b enumerator v (opened Enumerator 1 s) s' × Stays std a b (opened Enumerator 1 s) s') r
          → After (BodyAsks std a b Enumerator 1 (of_node std a b Enumerator 1 s && v) s) r
      body_of_enumerator v s (Err stop) m = tt
      body_of_enumerator v s (Ok s') m = λ o ends t op bounds h near named agree. (
          (m.0 (begun enumerator s.at s'.built.under o) ends bounds (opened_fits std a Enumerator 1 s s'.built.under o ends t op refl h near) agree).1)

      pub enumerator_asks : (s : State)
          → After (BodyAsks std a b Enumerator 1 (of_node std a b Enumerator 1 s && along std a b below along_below depth all_enumerator (opened Enumerator 1 s)) s)
          (step (iso std) below depth all_enumerator (opened Enumerator 1 s))
      enumerator_asks s =
          body_of_enumerator (along std a b below along_below depth all_enumerator (opened Enumerator 1 s)) s (step (iso std) below depth all_enumerator (opened Enumerator 1 s))
          (asks_and_then std a b enumerator s.at (opened Enumerator 1 s) (of_token std a b (opened Enumerator 1 s)) (along std a b below along_below depth later_enumerator)
          (take_one (iso std) names (opened Enumerator 1 s)) (step (iso std) below depth later_enumerator)
          (taken std (λ s'. Goes std a enumerator s.at (opened Enumerator 1 s) s' × Asks std a b enumerator (of_token std a b (opened Enumerator 1 s)) (opened Enumerator 1 s) s') names (opened Enumerator 1 s)
          (λ c more. (quiet_goes std a below reads enumerator s.at (opened Enumerator 1 s) more refl, quiet_asks std a b enumerator s.at (opened Enumerator 1 s) refl (opened_in std a Enumerator 1 s))))
          (λ s1 g. value_asks s s1 (g.inside (opened_in std a Enumerator 1 s))))

      -- ---- A parameter's declarator in parentheses (6.7.5.3 paragraph 11)

      abbrev in_parens : Label
      in_parens = labelled Pdirect 2

      opened_start : (s : State) → ((opened Pdirect 2 s).at ≡ s.at) × ((opened Pdirect 2 s).toks ≡ s.toks)
      unfolding opened
      opened_start s = (refl, refl)

      paren_named : (s s' : State) → SameOuter s.names.scopes s'.names.scopes → s.at + 1 < s'.at
          → (o : Outline) (ends : List ℕ) → s.toks ≡ a → IsOpen s.names.scopes → Bounds s'.at o.scope.to s'.names.scopes ends
          → Matches s.at s.names.scopes ends o.entries → node_agrees std b in_parens s.at o.entries ≡ true → of_node std a b Pdirect 2 s ≡ true
      paren_named s s' same further o ends t op bounds m h =
          let w = bounds_within ((s.at + 1) + 1) o.scope.to s.names.scopes ends
          (bounds_sooner ((s.at + 1) + 1) s'.at o.scope.to s.names.scopes s'.names.scopes ends op (omega arith) same bounds) in
          ap (λ x. not (is_identifier (base_at (iso std) b (s.at + 1))) || not x) (same_typedef std b (s.at + 1) s.at s.names.scopes ends o.entries (omega arith) w m) ∙ h

      module _ (moves : (depth : ℕ) (goal : Goal) (s : State) → is_met goal ≡ true → Moves (goal_has_token goal) s (below depth goal s)) where
        token_text : (s : State) → ((with_token s).at ≡ s.at + 1) × ((with_token s).toks ≡ s.toks)
        token_text s = (refl, refl)

        moved : (left : List Class) (rest : Item) (s : State) → has_token rest ≡ true → is_low 64 rest ≡ true
            → After (Goes std a in_parens s.at (opened Pdirect 2 s)) (step (iso std) below depth (one left · rest) (opened Pdirect 2 s))
            → After (λ s'. s.at + 1 < s'.at) (step (iso std) below depth (one left · rest) (opened Pdirect 2 s))
        moved left rest s has low g = by (take_one (iso std) left (opened Pdirect 2 s)) (taken std (λ s'. s' ≡ with_token (opened Pdirect 2 s)) left (opened Pdirect 2 s) (λ c more. refl)) g
          where
            second : (r : Step) → After (Goes std a in_parens s.at (opened Pdirect 2 s)) r → Moves true (with_token (opened Pdirect 2 s)) r → After (λ s'. s.at + 1 < s'.at) r
            second (Err stop) h m = tt
            second (Ok s') h m = (let f = m.1 refl in let k = ap length h.same_text in let e = (opened_start s).0 in omega arith)

            by : (r : Step) → After (λ s'. s' ≡ with_token (opened Pdirect 2 s)) r → After (Goes std a in_parens s.at (opened Pdirect 2 s)) (and_then r (step (iso std) below depth rest))
                → After (λ s'. s.at + 1 < s'.at) (and_then r (step (iso std) below depth rest))
            by (Err stop) e h = tt
            by (Ok s1) e h =
                second (step (iso std) below depth rest s1) h
                (subst (λ x. Moves true x (step (iso std) below depth rest s1)) e
                (subst (λ c. Moves c s1 (step (iso std) below depth rest s1)) has (Moves-step (iso std) below moves rest depth 64 s1 low)))

        pub parentheses_asks : (left : List Class) (rest : Item) (s : State) → fine in_parens rest ≡ true → has_token rest ≡ true → is_low 64 rest ≡ true
            → After (BodyAsks std a b Pdirect 2 (of_node std a b Pdirect 2 s && along std a b below along_below depth (one left · rest) (opened Pdirect 2 s)) s)
            (step (iso std) below depth (one left · rest) (opened Pdirect 2 s))
        parentheses_asks left rest s h has low =
            by (step (iso std) below depth (one left · rest) (opened Pdirect 2 s))
            (goes_step std a below reads (one left · rest) in_parens s.at depth (opened Pdirect 2 s) h (opened_in std a Pdirect 2 s))
            (asks_step std a b below along_below reads asked (one left · rest) in_parens s.at depth (opened Pdirect 2 s) h (opened_in std a Pdirect 2 s))
            (moved left rest s has low (goes_step std a below reads (one left · rest) in_parens s.at depth (opened Pdirect 2 s) h (opened_in std a Pdirect 2 s)))
          where
            by : (r : Step) → After (Goes std a in_parens s.at (opened Pdirect 2 s)) r
                → After (Asks std a b in_parens (along std a b below along_below depth (one left · rest) (opened Pdirect 2 s)) (opened Pdirect 2 s)) r
                → After (λ s'. s.at + 1 < s'.at) r
                → After (BodyAsks std a b Pdirect 2 (of_node std a b Pdirect 2 s && along std a b below along_below depth (one left · rest) (opened Pdirect 2 s)) s) r
            by (Err stop) g k m = tt
            by (Ok s') g k m =
                (asks_named std) a b Pdirect 2 (along std a b below along_below depth (one left · rest) (opened Pdirect 2 s)) s s' refl
                (λ o ends t op bounds x n. paren_named s s' (opened_outer std a Pdirect 2 s s' g.outer) m o ends t op bounds x n) k
