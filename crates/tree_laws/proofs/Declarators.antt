-- Each production that may stand in a declarator hands on the names of its first list.
use Rattle.std.proofs.Common.{ℕ, zero, suc, ◌+◌, ◌≡◌, Bool, true, false, ◌&&◌, if◌then◌else◌, ◌==◌, List, [], ◌∷◌, length, Option, None, Some, Ok, Err, nat_lt, ◌⊎◌, inl, inr, refl, sym, ap, subst}
use Rattle.std.specs.List.{list_all}
use Rattle.std.proofs.lemmas.Bool.{false≢true, and_parts, and_left}
use Rattle.c99_grammar.specs.declared.dialects.Edition.{Edition}
use Rattle.cs_base.specs.Token.{Token}
use Rattle.c99_tree.specs.Tree.{Forest}
use Rattle.c99_tree.specs.declared.production.Label.{Label}
use Rattle.c99_tree.specs.declared.production.Production.{Production}
use Rattle.c99_tree.specs.declared.production.Production.TheVariants.{TranslationUnit, External, ExtRest, ExtTail, FunBody, Declaration, DeclRest, InitDecl, Declarator, Suffix, Block, BlockItem, Statement, Sub, ForInit, Sassert, Mod, Member, MemRest}
use Rattle.c99_tree.specs.contracts.production.ProductionPartialEq.TheImpl.{ghosts}
use Rattle.c99_grammar.specs.Items.{Item, one, part, end_of_text, act, ◌·◌, choice, maybe, many, deep, Test, own, scope, end, declare, name, keep, again, Alternative}
use Rattle.c99_grammar.specs.Standard.{c99, iso}
use Rattle.c99_grammar.proofs.StandardLemmas.{by_edition}
use Rattle.c99_read.specs.Sound.{is_met, goal_has_token}
use Rattle.c99_read.specs.State.{State, Names, last_declared, last_identifier, declaration, in_innermost, with_declared, acted, opened, closed}
use Rattle.c99_read.specs.Reading.{Goal, produce, repeat, Step, syntax, and_then, deepest, take_one, enter, may, step, alternative, pick, read_within}
use Rattle.c99_read.proofs.Moves.{Moves}
use Rattle.c_types.specs.Trees.{is_list, last_token}
use Rattle.name_chains.specs.Entering.{inner}
use Rattle.tree_laws.specs.TypedefNames.{is_bodiless}
use Rattle.tree_laws.proofs.Private.{Class, Declaration as Declared}
use Rattle.tree_laws.proofs.Parts.{first_body, second_body, rest_of, front_of, classes_of}
use Rattle.tree_laws.proofs.Rules.{labelled, fine}
use Rattle.tree_laws.proofs.Goes.{After, with_token, IsIn, Goes, Body}
use Rattle.tree_laws.proofs.TypedefSteps.{Reads, after_if, taken, goes_step}
use Rattle.tree_laws.proofs.ScopeNodes.{scoped_in}
use Rattle.tree_laws.proofs.Table.{Bodies, moves_within, reads_within, bodies_within}
use Rattle.tree_laws.proofs.Twins.{IsPlain}
use Rattle.tree_laws.proofs.Handing.{Hands, HandsOn, hands_still, hands_further, hands_token, hands_named, closed_on, list_on}
use Rattle.tree_laws.proofs.Steady.{declared_heads}

-- no declaration and no statement may stand in one of the production
abbrev pub is_reached : Production → Bool
is_reached TranslationUnit = false
is_reached External = false
is_reached ExtRest = false
is_reached ExtTail = false
is_reached FunBody = false
is_reached Declaration = false
is_reached DeclRest = false
is_reached InitDecl = false
is_reached Block = false
is_reached BlockItem = false
is_reached Statement = false
is_reached Sub = false
is_reached ForInit = false
is_reached _ = true

reached_told : (p : Production) → is_reached p ≡ true → is_bodiless p ≡ true
reached_told TranslationUnit h = absurd (false≢true h)
reached_told External h = absurd (false≢true h)
reached_told ExtRest h = absurd (false≢true h)
reached_told ExtTail h = absurd (false≢true h)
reached_told FunBody h = absurd (false≢true h)
reached_told _ h = refl

-- nothing in the item begins or ends a scope, and only such productions stand in it
abbrev inert : Item → Bool
inert (one classes) = true
inert (part q) = is_reached q
inert end_of_text = false
inert (act declare) = true
inert (act name) = true
inert (act a) = false
inert (a · b) = inert a && inert b
inert (choice a b) = inert a && inert b
inert (maybe a) = inert a
inert (many t a) = inert a
inert (deep a) = inert a

abbrev all_inert : List Alternative → Bool
all_inert alternatives = list_all (λ a. inert a.body) alternatives

plain_at : (p : Production) (l : Label) (under : Forest) → is_reached p ≡ true → is_list l ≡ false → IsPlain p l under
plain_at FunBody l under h k = absurd (false≢true h)
plain_at Block l under h k = absurd (false≢true h)
plain_at Statement l under h k = absurd (false≢true h)
plain_at Sub l under h k = absurd (false≢true h)
plain_at Suffix l under h k = (λ c. ap (λ b. if b then inner c (last_token under 0) else c) k, λ first kept depth es. refl)
plain_at _ l under h k = (λ c. refl, λ first kept depth es. refl)

suffix_or_none : (p : Production) → (p ≡ Suffix) ⊎ (ghosts.eq p Suffix ≡ false)
suffix_or_none Suffix = inl refl
suffix_or_none _ = inr refl

innermost_length : (x : List (List Declared)) (d : Declared) → length (in_innermost x d) ≡ length x
innermost_length [] d = refl
innermost_length (s ∷ outer) d = refl

declared_length : (n : Names) (i : Option ℕ) (t : Bool) → length (with_declared n i t).scopes ≡ length n.scopes
declared_length n None t = refl
declared_length n (Some i) t = innermost_length n.scopes (declaration i t)

both_after : (P Q : State → Type 0) (r : Step) → After P r → After Q r → After (λ s. P s × Q s) r
both_after P Q (Err stop) m m' = tt
both_after P Q (Ok s) m m' = (m, m')

module _ (std : Edition) where
  -- .. in each production but the one of lists
  inert_at : (p : Production) → is_reached p ≡ true → ghosts.eq p Suffix ≡ false → all_inert ((iso std).table p) ≡ true
  inert_at TranslationUnit h k = absurd (false≢true h)
  inert_at External h k = absurd (false≢true h)
  inert_at ExtRest h k = absurd (false≢true h)
  inert_at ExtTail h k = absurd (false≢true h)
  inert_at FunBody h k = absurd (false≢true h)
  inert_at Declaration h k = absurd (false≢true h)
  inert_at DeclRest h k = absurd (false≢true h)
  inert_at InitDecl h k = absurd (false≢true h)
  inert_at Block h k = absurd (false≢true h)
  inert_at BlockItem h k = absurd (false≢true h)
  inert_at Statement h k = absurd (false≢true h)
  inert_at Sub h k = absurd (false≢true h)
  inert_at ForInit h k = absurd (false≢true h)
  inert_at Suffix h k = absurd (false≢true (sym k))
  inert_at Sassert h k = by_edition (λ s. all_inert ((iso s).table Sassert) ≡ true) refl refl std
  inert_at Mod h k = by_edition (λ s. all_inert ((iso s).table Mod) ≡ true) refl refl std
  inert_at Member h k = by_edition (λ s. all_inert ((iso s).table Member) ≡ true) refl refl std
  inert_at MemRest h k = by_edition (λ s. all_inert ((iso s).table MemRest) ≡ true) refl refl std
  inert_at _ h k = refl

  module _ (toks : List Token) where
    -- what reading makes of such productions and repetitions
    record HandReads (below : ℕ → Goal → State → Step) : Type 0 where
      made : (depth : ℕ) (p : Production) (s : State) → is_reached p ≡ true → After (HandsOn std toks p s) (below depth (produce p) s)
      more : (depth : ℕ) (t : Test) (a : Item) (s : State) → inert a ≡ true → After (Hands toks s) (below depth (repeat t a) s)

    named_hands : (s : State) (i : Option ℕ) (t : Bool) → Hands toks s (record s { names = with_declared s.names i t })
    named_hands s i t = hands_named toks s (with_declared s.names i t) (declared_heads s.names i t) (declared_length s.names i t)

    declare_hands : (s : State) → Hands toks s (acted (iso std) declare s)
    unfolding acted
    declare_hands s = named_hands s (last_declared s.built.under) s.near

    name_hands : (s : State) → Hands toks s (acted (iso std) name s)
    unfolding acted
    name_hands s = named_hands s (last_identifier (iso std) s.toks s.built.under None) false

    enter_hands : (depth : ℕ) (b : Bool) (s : State) → After (Hands toks s) (enter depth b s)
    unfolding enter
    enter_hands depth b s =
        after_if (Hands toks s) b _ _ (after_if (Hands toks s) (nat_lt depth deepest) _ _ (hands_still toks s) tt) tt

    module _ (below : ℕ → Goal → State → Step) (hands : HandReads below) where
      hands_then : (s : State) (r : Step) (next_step : State → Step) → After (Hands toks s) r → ((s' : State) → After (Hands toks s') (next_step s'))
          → After (Hands toks s) (and_then r next_step)
      hands_then s (Err stop) next_step m n = tt
      hands_then s (Ok s') next_step m n = onward (next_step s') (n s')
        where
          onward : (r : Step) → After (Hands toks s') r → After (Hands toks s) r
          onward (Err stop) n' = tt
          onward (Ok s'') n' = hands_further toks s s' s'' m n'

      hands_part : (depth : ℕ) (p : Production) (s : State) → is_reached p ≡ true → After (Hands toks s) (below depth (produce p) s)
      hands_part depth p s h = by (below depth (produce p) s) (hands.made depth p s h)
        where
          by : (r : Step) → After (HandsOn std toks p s) r → After (Hands toks s) r
          by (Err stop) m = tt
          by (Ok s') m = m.hands

      hands_step : (item : Item) (depth : ℕ) (s : State) → inert item ≡ true → After (Hands toks s) (step (iso std) below depth item s)
      hands_step (one classes) depth s h = taken std (Hands toks s) classes s (λ c more. hands_token toks s)
      hands_step (part p) depth s h = hands_part depth p s h
      hands_step end_of_text depth s h = absurd (false≢true h)
      hands_step (act declare) depth s h = declare_hands s
      hands_step (act name) depth s h = name_hands s
      hands_step (act scope) depth s h = absurd (false≢true h)
      hands_step (act end) depth s h = absurd (false≢true h)
      hands_step (act keep) depth s h = absurd (false≢true h)
      hands_step (act again) depth s h = absurd (false≢true h)
      hands_step (a · b) depth s h =
          let both = and_parts (inert a) (inert b) h in
          hands_then s (step (iso std) below depth a s) (step (iso std) below depth b) (hands_step a depth s both.0) (λ s'. hands_step b depth s' both.1)
      hands_step (choice a b) depth s h =
          let both = and_parts (inert a) (inert b) h in
          after_if (Hands toks s) (may (iso std) own a s) _ _ (hands_step a depth s both.0)
          (after_if (Hands toks s) (may (iso std) own b s) _ _ (hands_step b depth s both.1) tt)
      hands_step (maybe a) depth s h =
          after_if (Hands toks s) (may (iso std) own a s) _ _ (hands_step a depth s h) (hands_still toks s)
      hands_step (many t a) depth s h =
          after_if (Hands toks s) (may (iso std) t a s) _ _
          (hands_then s (step (iso std) below depth a s) (below depth (repeat t a)) (hands_step a depth s h) (λ s'. hands.more depth t a s' h))
          (hands_still toks s)
      hands_step (deep a) depth s h =
          hands_then s (enter depth (may (iso std) own a s) s) (step (iso std) below (depth + 1) a) (enter_hands depth (may (iso std) own a s) s)
          (λ s'. hands_step a (depth + 1) s' h)

    -- ---- Alternatives

    after_test : (P : State → Type 0) (b : Bool) (r r' : Step) → (b ≡ true → After P r) → After P r' → After P (if b then r else r')
    after_test P true r r' m m' = m refl
    after_test P false r r' m m' = m'

    module _ (below : ℕ → Goal → State → Step) (hands : HandReads below) (reads : Reads std toks below)
        (moves : (depth : ℕ) (goal : Goal) (s : State) → is_met goal ≡ true → Moves (goal_has_token goal) s (below depth goal s)) (depth : ℕ) where
      hands_alternative : (p : Production) (n : ℕ) (body : Item) (s : State) → is_reached p ≡ true → is_list (labelled p n) ≡ false → inert body ≡ true
          → After (Body std toks p n s) (step (iso std) below depth body (opened p n s)) → After (HandsOn std toks p s) (alternative (iso std) below depth p n body s)
      hands_alternative p n body s h k i m = by (step (iso std) below depth body (opened p n s)) m (hands_step below hands body depth (opened p n s) i)
        where
          by : (r : Step) → After (Body std toks p n s) r → After (Hands toks (opened p n s)) r → After (HandsOn std toks p s) (and_then r (λ s'. Ok (closed p s s')))
          by (Err stop) b w = tt
          by (Ok s') b w = closed_on std toks p n s s' (plain_at p (labelled p n) s'.built.under h k) k b w

      hands_pick : (p : Production) (n : ℕ) (alternatives : List Alternative) (s : State) → is_reached p ≡ true → ghosts.eq p Suffix ≡ false
          → all_inert alternatives ≡ true → Bodies std toks below reads moves depth p n alternatives s
          → After (HandsOn std toks p s) (pick (iso std) below depth p n alternatives s)
      hands_pick p n [] s h k i b = tt
      hands_pick p n (a ∷ more) s h k i b =
          let both = and_parts (inert a.body) (all_inert more) i in
          after_test (HandsOn std toks p s) (may (iso std) a.test a.body s) _ _
          (λ m. hands_alternative p n a.body s h (and_left (ghosts.eq p Suffix) (n == 2) k) both.0 (b.0 m))
          (hands_pick p (n + 1) more s h k both.1 b.1)

      list_in : (s : State) → IsIn (labelled Suffix 2) s.at (with_token (opened Suffix 2 s))
      unfolding opened
      list_in s = record { label = refl; begins = refl }

      -- a list
      list_alternative : (left right : List Class) (middle : Item) (s : State) → fine (labelled Suffix 2) middle ≡ true → inert middle ≡ true
          → After (HandsOn std toks Suffix s) (alternative (iso std) below depth Suffix 2 (one left · (act scope · (middle · (act end · (act keep · one right))))) s)
      list_alternative left right middle s f i =
          by (take_one (iso std) left (opened Suffix 2 s)) (taken std (λ s'. s' ≡ with_token (opened Suffix 2 s)) left (opened Suffix 2 s) (λ c more. refl))
        where
          last_step : (s' : State) → Goes std toks (labelled Suffix 2) s.at (acted (iso std) scope (with_token (opened Suffix 2 s))) s'
              → Hands toks (acted (iso std) scope (with_token (opened Suffix 2 s))) s'
              → (r : Step) → After (λ s''. s'' ≡ with_token (acted (iso std) keep (acted (iso std) end s'))) r → After (HandsOn std toks Suffix s) (and_then r (λ s''. Ok (closed Suffix s s'')))
          last_step s' g w (Err stop) m = tt
          last_step s' g w (Ok s'') m = subst (λ x. HandsOn std toks Suffix s (closed Suffix s x)) (sym m) (list_on std toks s s' g w)

          second : (r : Step) → After (λ s'. Goes std toks (labelled Suffix 2) s.at (acted (iso std) scope (with_token (opened Suffix 2 s))) s' × Hands toks (acted (iso std) scope (with_token (opened Suffix 2 s))) s') r
              → After (HandsOn std toks Suffix s) (and_then (and_then r (step (iso std) below depth (act end · (act keep · one right)))) (λ s''. Ok (closed Suffix s s'')))
          second (Err stop) m = tt
          second (Ok s') m =
              last_step s' m.0 m.1 (take_one (iso std) right (acted (iso std) keep (acted (iso std) end s')))
              (taken std (λ s''. s'' ≡ with_token (acted (iso std) keep (acted (iso std) end s'))) right (acted (iso std) keep (acted (iso std) end s')) (λ c more. refl))

          by : (r : Step) → After (λ s'. s' ≡ with_token (opened Suffix 2 s)) r
              → After (HandsOn std toks Suffix s) (and_then (and_then r (step (iso std) below depth (act scope · (middle · (act end · (act keep · one right)))))) (λ s''. Ok (closed Suffix s s'')))
          by (Err stop) m = tt
          by (Ok s1) m =
              subst (λ x. After (HandsOn std toks Suffix s) (and_then (step (iso std) below depth (act scope · (middle · (act end · (act keep · one right)))) x) (λ s''. Ok (closed Suffix s s'')))) (sym m)
              (second (step (iso std) below depth middle (acted (iso std) scope (with_token (opened Suffix 2 s))))
              (both_after (Goes std toks (labelled Suffix 2) s.at (acted (iso std) scope (with_token (opened Suffix 2 s)))) (Hands toks (acted (iso std) scope (with_token (opened Suffix 2 s))))
              (step (iso std) below depth middle (acted (iso std) scope (with_token (opened Suffix 2 s))))
              (goes_step std toks below reads middle (labelled Suffix 2) s.at depth (acted (iso std) scope (with_token (opened Suffix 2 s))) f
              (scoped_in std toks (labelled Suffix 2) s.at (with_token (opened Suffix 2 s)) (list_in s)))
              (hands_step below hands middle depth (acted (iso std) scope (with_token (opened Suffix 2 s))) i)))

      abbrev array_items : Item
      array_items = first_body (c99.table Suffix)

      abbrev list_items : Item
      list_items = second_body (c99.table Suffix)

      hands_suffix : (s : State) → Bodies std toks below reads moves depth Suffix 1 (c99.table Suffix) s → After (HandsOn std toks Suffix s) (pick (iso std) below depth Suffix 1 (c99.table Suffix) s)
      hands_suffix s b =
          after_test (HandsOn std toks Suffix s) (may (iso std) own array_items s) (alternative (iso std) below depth Suffix 1 array_items s)
          (if may (iso std) own list_items s then alternative (iso std) below depth Suffix 2 list_items s else Err (syntax s.at))
          (λ m. hands_alternative Suffix 1 array_items s refl refl refl (b.0 m))
          (after_test (HandsOn std toks Suffix s) (may (iso std) own list_items s) (alternative (iso std) below depth Suffix 2 list_items s) (Err (syntax s.at))
          (λ m. list_alternative (classes_of (front_of list_items)) (classes_of (rest_of (rest_of (rest_of (rest_of (rest_of list_items))))))
          (front_of (rest_of (rest_of list_items))) s refl refl)
          tt)

      hands_run : (p : Production) (s : State) → is_reached p ≡ true → Bodies std toks below reads moves depth p 1 ((iso std).table p) s
          → After (HandsOn std toks p s) (pick (iso std) below depth p 1 ((iso std).table p) s)
      hands_run p s h b =
          elim (suffix_or_none p) [
            | inl e ↦ subst (λ q. Bodies std toks below reads moves depth q 1 ((iso std).table q) s → After (HandsOn std toks q s) (pick (iso std) below depth q 1 ((iso std).table q) s)) (sym e) (hands_suffix s) b
            | inr k ↦ hands_pick p 1 ((iso std).table p) s h k (inert_at p h k) b
          ]

    hands_within : (fuel : ℕ) → HandReads (read_within (iso std) fuel)
    unfolding read_within
    hands_within zero = record { made = λ depth p s h. tt; more = λ depth t a s h. tt }
    hands_within (suc fuel) = record {
      made = λ depth p s h.
          hands_run (read_within (iso std) fuel) (hands_within fuel) (reads_within std toks fuel) (moves_within std toks fuel) depth p s h
          (bodies_within std toks fuel depth p s (reached_told p h));
      more = λ depth t a s h. hands_step (read_within (iso std) fuel) (hands_within fuel) (many t a) depth s h;
    }

    -- a declarator that stands in no other one was read: the names that are at hand are those of its first list
    pub declarator_hands : (fuel depth : ℕ) (s : State) → After (HandsOn std toks Declarator s) (read_within (iso std) fuel depth (produce Declarator) s)
    declarator_hands fuel depth s = (hands_within fuel).made depth Declarator s refl
