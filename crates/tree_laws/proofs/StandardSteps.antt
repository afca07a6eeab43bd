-- Reading goes in step by both standards: what C99 reads, C11 reads.
use Rattle.std.proofs.Common.{ℕ, ◌+◌, ◌≡◌, Bool, true, false, ◌&&◌, ◌||◌, not, if◌then◌else◌, ◌==◌, List, [], ◌∷◌, length, None, Ok, Err, nat_lt, refl, sym, ap, subst, ◌∙◌}
use Rattle.std.specs.List.{list_all}
use Rattle.std.proofs.lemmas.Bool.{and_parts, and_from, not-true}
use Rattle.cs_base.specs.Token.{Token}
use Rattle.c99_tree.specs.Tree.{Forest, none, Node, node_of, leaf, inner, put}
use Rattle.c99_tree.specs.declared.production.Label.{Label}
use Rattle.c99_tree.specs.declared.production.Production.{Production}
use Rattle.c99_grammar.specs.declared.classes.Class.{Class}
use Rattle.c99_grammar.specs.Classes.{among}
use Rattle.c99_grammar.specs.Items.{Item, one, part, end_of_text, act, ◌·◌, choice, maybe, many, deep, Test, own, Action, scope, end, declare, name, keep, again, Alternative}
use Rattle.c99_read.specs.Sound.{is_met}
use Rattle.c99_read.specs.State.{State, class_at, last_declared, last_identifier, with_declared, acted, opened, closed, finished, names_closed, nearest, is_specs}
use Rattle.c99_read.specs.Reading.{Goal, produce, repeat, Step, and_then, deepest, take_one, at_end, enter, may, step, alternative, pick, whole}
use Rattle.tree_laws.specs.Narrowed.{number, renumbered, is_member, is_line, is_rest, narrowed, narrowed_node, has_no_added_word}
use Rattle.tree_laws.proofs.StandardClasses.{c99, c11, class_alike, may_same, base_same, is_silent, test_fits, part_fits, fits}
use Rattle.tree_laws.proofs.Standing.{is_members, only, kids, kids-put, kids_within, is_good, formed, formed-put, formed_finished}
use Rattle.tree_laws.proofs.StandardTrees.{joined, joined-put, narrowed-put, has_member, has_member-put, last_declared-same, last_identifier-same, has_typedef-same, finished-narrowed, finished-member, finished-only}

abbrev pub labelled : Production → ℕ → Label
labelled p n = record { production = p; alternative = n }

-- An open node by C99, with what stands in it before this was read; the one by C11; whether it holds lines of members; and
-- whether names are declared there.
pub record Context : Type 0 where
  pub label : Label
  pub first : ℕ
  pub front : Forest
  pub wide : Label
  pub wide_first : ℕ
  pub lines : Bool
  pub names : Bool

-- the state by C99 in place of one by C11
abbrev pub seen : Context → State → State
seen c s = record s { built = node_of c.label c.first (joined c.front (narrowed s.built.under)) }

-- a node that both open
abbrev pub inside : Production → ℕ → ℕ → ℕ → Context
inside p n m at = record {
  label = labelled p n;
  first = at;
  front = none;
  wide = labelled p m;
  wide_first = at;
  lines = is_members p;
  names = not (is_members p);
}

module _ (toks : List Token) (plain : has_no_added_word toks ≡ true) (strict : Bool) where
  -- the state by C11 is in the context
  pub record At (c : Context) (s : State) : Type 0 where
    pub text : s.toks ≡ toks
    pub built_is : s.built ≡ node_of c.wide c.wide_first s.built.under
    pub members : c.lines ≡ false → has_member s.built.under ≡ false
    pub free : c.names ≡ true → (c.front ≡ none) × (c.lines ≡ false)
    pub sound : formed strict s.built.under ≡ true
    pub stands : kids (only c.wide.production) s.built.under ≡ true

  -- what C99 reads, C11 reads
  abbrev pub Sim : Context → Step → Step → Type 0
  Sim c (Err stop) r = Unit {0}
  Sim c (Ok s) r = (s' : State) × ((r ≡ Ok s') × ((s ≡ seen c s') × At c s'))

  plain_at : (c : Context) (s : State) → At c s → has_no_added_word s.toks ≡ true
  plain_at c s at = ap has_no_added_word at.text ∙ plain

  pub sim_if : (c : Context) (p p' : Bool) (r r' q q' : Step) → p ≡ p' → Sim c r r' → Sim c q q' → Sim c (if p then r else q) (if p' then r' else q')
  sim_if c true p' r r' q q' e m n = subst (λ b. Sim c r (if b then r' else q')) e m
  sim_if c false p' r r' q q' e m n = subst (λ b. Sim c q (if b then r' else q')) e n

  pub sim_then : (c d : Context) (r r' : Step) (f f' : State → Step) → Sim c r r' → ((s : State) → At c s → Sim d (f (seen c s)) (f' s))
      → Sim d (and_then r f) (and_then r' f')
  sim_then c d (Err stop) r' f f' m n = tt
  sim_then c d (Ok s) r' f f' m n =
      subst (λ x. Sim d (f s) (and_then x f')) (sym m.1.0) (subst (λ x. Sim d (f x) (f' m.0)) (sym m.1.1.0) (n m.0 m.1.1.1))

  pub sim_may : (c : Context) (s : State) → At c s → (lines names : Bool) (holder : Production) (t : Test) (item : Item) → test_fits t ≡ true → fits lines names holder item ≡ true
      → may c99 t item (seen c s) ≡ may c11 t item s
  sim_may c s at lines names holder t item of_test of_item = may_same s (seen c s).built (plain_at c s at) lines names holder t item of_test of_item

  -- the next token becomes a child
  abbrev pub with_next : State → State
  with_next s = record s { at = s.at + 1; built = record s.built { under = put s.built.under (leaf s.at) } }

  pub sim_next : (c : Context) (s : State) → At c s → Sim c (Ok (with_next (seen c s))) (Ok (with_next s))
  sim_next c s at =
      let u : Forest = s.built.under in (
        with_next s,
        (
          refl,
          (
            ap (λ f. record s { at = s.at + 1; built = node_of c.label c.first f })
                (joined-put c.front (narrowed u) (leaf s.at) ∙ ap (joined c.front) (narrowed-put u (leaf s.at))),
            record {
              text = at.text;
              built_is = ap (λ (n : Node). record n { under = put u (leaf s.at) }) at.built_is;
              members = λ e. has_member-put u (leaf s.at) (at.members e) refl;
              free = at.free;
              sound = formed-put strict u (leaf s.at) at.sound refl;
              stands = kids-put (only c.wide.production) u (leaf s.at) at.stands refl;
            },
          ),
        ),
      )

  pub next_alike : (c : Context) (classes : List Class) (s : State) → At c s
      → (nat_lt s.at (length s.toks) && among classes (class_at c99 (seen c s) s.at)) ≡ (nat_lt s.at (length s.toks) && among classes (class_at c11 s s.at))
  next_alike c classes s at = ap (λ k. nat_lt s.at (length s.toks) && among classes k) (class_alike s (seen c s).built (plain_at c s at) s.at)

  sim_take : (c : Context) (classes : List Class) (s : State) → At c s → Sim c (take_one c99 classes (seen c s)) (take_one c11 classes s)
  unfolding take_one
  sim_take c classes s at = sim_if c _ _ _ _ _ _ (next_alike c classes s at) (sim_next c s at) tt

  sim_at_end : (c : Context) (s : State) → At c s → Sim c (at_end (seen c s)) (at_end s)
  unfolding at_end
  sim_at_end c s at = sim_if c (s.at == length s.toks) (s.at == length s.toks) _ _ _ _ refl (s, (refl, (refl, at))) tt

  sim_enter : (c : Context) (depth : ℕ) (p p' : Bool) (s : State) → At c s → p ≡ p' → Sim c (enter depth p (seen c s)) (enter depth p' s)
  unfolding enter
  sim_enter c depth p p' s at e =
      sim_if c p p' _ _ _ _ e (sim_if c (nat_lt depth deepest) (nat_lt depth deepest) _ _ _ _ refl (s, (refl, (refl, at))) tt) tt

  allowed : (b : Bool) → (b || false) ≡ true → b ≡ true
  allowed true e = refl
  allowed false e = cc

  pub sim_acted : (c : Context) (a : Action) (s : State) → At c s → (c.names || is_silent a) ≡ true → Sim c (Ok (acted c99 a (seen c s))) (Ok (acted c11 a s))
  unfolding acted
  sim_acted c scope s at h = (acted c11 scope s, (refl, (refl, record { text = at.text; built_is = at.built_is; members = at.members; free = at.free; sound = at.sound; stands = at.stands })))
  sim_acted c end s at h = (acted c11 end s, (refl, (refl, record { text = at.text; built_is = at.built_is; members = at.members; free = at.free; sound = at.sound; stands = at.stands })))
  sim_acted c keep s at h = (acted c11 keep s, (refl, (refl, record { text = at.text; built_is = at.built_is; members = at.members; free = at.free; sound = at.sound; stands = at.stands })))
  sim_acted c again s at h = (acted c11 again s, (refl, (refl, record { text = at.text; built_is = at.built_is; members = at.members; free = at.free; sound = at.sound; stands = at.stands })))
  sim_acted c declare s at h =
      let free = at.free (allowed c.names h) in (
        acted c11 declare s,
        (
          refl,
          (
            ap (λ i. record (seen c s) { names = with_declared s.names i s.near })
                (ap (λ f. last_declared (joined f (narrowed s.built.under))) free.0 ∙ last_declared-same s.built.under (at.members free.1)),
            record { text = at.text; built_is = at.built_is; members = at.members; free = at.free; sound = at.sound; stands = at.stands },
          ),
        ),
      )
  sim_acted c name s at h =
      let free = at.free (allowed c.names h) in (
        acted c11 name s,
        (
          refl,
          (
            ap (λ i. record (seen c s) { names = with_declared s.names i false })
                (ap (λ f. last_identifier c99 s.toks (joined f (narrowed s.built.under)) None) free.0
                ∙ last_identifier-same s.toks (λ k. base_same s.toks (plain_at c s at) k) s.built.under None),
            record { text = at.text; built_is = at.built_is; members = at.members; free = at.free; sound = at.sound; stands = at.stands },
          ),
        ),
      )

  -- ---- A node of both

  -- the two number an alternative so
  pub record Numbers (c : Context) (p : Production) (n m : ℕ) : Type 0 where
    pub numbered : number p m ≡ n
    pub no_line : is_line (labelled p m) ≡ false
    pub no_rest : is_rest p ≡ false
    pub stands : only c.wide.production p ≡ true
    pub held : c.lines ≡ false → is_member p ≡ false

  pub at_opened : (c : Context) (p : Production) (n m : ℕ) (s : State) → At c s → At (inside p n m s.at) (opened p m s)
  unfolding opened
  at_opened c p n m s at = record {
    text = at.text;
    built_is = refl;
    members = λ e. refl;
    free = λ e. (refl, not-true (is_members p) e);
    sound = refl;
    stands = refl;
  }

  pub opened_seen : (c : Context) (p : Production) (n m : ℕ) (s : State) → opened p n (seen c s) ≡ seen (inside p n m s.at) (opened p m s)
  unfolding opened
  opened_seen c p n m s = refl

  -- what stands in such a node may stand there
  node_good : (p : Production) (m : ℕ) (v : Forest) → is_line (labelled p m) ≡ false → is_rest p ≡ false → kids (only p) v ≡ true
      → is_good strict (labelled p m) v ≡ true
  node_good p m v no_line no_rest stands = rw (no_line, no_rest) (and_from _ _ (kids_within p v stands) refl)

  pub sim_closed : (c : Context) (p : Production) (n m : ℕ) (s s' : State) → Numbers c p n m → At c s → At (inside p n m s.at) s'
      → Sim c (Ok (closed p (seen c s) (seen (inside p n m s.at) s'))) (Ok (closed p s s'))
  unfolding closed
  sim_closed c p n m s s' k at in_node =
      let u : Forest = s.built.under in
      let v : Forest = s'.built.under in
      let label : s'.built.label ≡ labelled p m = ap (λ (b : Node). b.label) in_node.built_is in
      let line : is_line s'.built.label ≡ false = ap is_line label ∙ k.no_line in
      let good : is_good strict s'.built.label v ≡ true =
      ap (λ (l : Label). is_good strict l v) label ∙ node_good p m v k.no_line k.no_rest in_node.stands in
      let as_seen : node_of (labelled p n) s.at (narrowed v) ≡ node_of (renumbered s'.built.label) s'.built.first (narrowed v) =
      sym (ap (λ (b : Node). node_of (renumbered b.label) b.first (narrowed v)) in_node.built_is ∙ ap (λ j. node_of (labelled p j) s.at (narrowed v)) k.numbered) in
      let done : finished p (node_of (labelled p n) s.at (narrowed v)) ≡ narrowed_node (finished p s'.built) =
      ap (finished p) as_seen ∙ finished-narrowed p s'.built line in
      let built : put (joined c.front (narrowed u)) (inner (finished p (node_of (labelled p n) s.at (narrowed v))))
      ≡ joined c.front (narrowed (put u (inner (finished p s'.built)))) =
      ap (λ x. put (joined c.front (narrowed u)) (inner x)) done
      ∙ (joined-put c.front (narrowed u) (inner (narrowed_node (finished p s'.built))) ∙ ap (joined c.front) (narrowed-put u (inner (finished p s'.built)))) in (
        closed p s s',
        (
          refl,
          (
            ap (λ b. record s' { names = names_closed p s'.names; near = (if is_specs p then b else s.near); built = node_of c.label c.first (put (joined c.front (narrowed u)) (inner (finished p (node_of (labelled p n) s.at (narrowed v))))) }) (has_typedef-same v)
                ∙ ap (λ f. record s' { names = names_closed p s'.names; near = nearest p s'.built s.near; built = node_of c.label c.first f }) built,
            record {
              text = in_node.text;
              built_is = ap (λ (b : Node). record b { under = put u (inner (finished p s'.built)) }) at.built_is;
              members = λ e.
                  has_member-put u (inner (finished p s'.built)) (at.members e)
                  (finished-member p s'.built in_node.members (ap (λ (l : Label). is_member l.production) label ∙ k.held e));
              free = at.free;
              sound = formed-put strict u (inner (finished p s'.built)) at.sound
                  (formed_finished strict p s'.built (and_from _ _ good in_node.sound));
              stands = kids-put (only c.wide.production) u (inner (finished p s'.built)) at.stands
                  (finished-only c.wide.production p s'.built (ap (λ (l : Label). l.production) label) k.stands in_node.members);
            },
          ),
        ),
      )

  -- ---- Items

  abbrev pub goal_fits : Context → Goal → Bool
  goal_fits c (produce p) = part_fits c.lines c.wide.production p
  goal_fits c (repeat t a) = fits c.lines c.names c.wide.production (many t a)

  module _ (below : ℕ → Goal → State → Step)
      (same : (c : Context) (depth : ℕ) (goal : Goal) (s : State) → goal_fits c goal ≡ true → At c s → Sim c (below depth goal (seen c s)) (whole c11 depth goal s)) where
    pub sim_step : (c : Context) (item : Item) (depth : ℕ) (s : State) → fits c.lines c.names c.wide.production item ≡ true → At c s
        → Sim c (step c99 below depth item (seen c s)) (step c11 (whole c11) depth item s)
    sim_step c (one classes) depth s h at = sim_take c classes s at
    sim_step c (part p) depth s h at = same c depth (produce p) s h at
    sim_step c end_of_text depth s h at = sim_at_end c s at
    sim_step c (act a) depth s h at = sim_acted c a s at h
    sim_step c (x · y) depth s h at =
        let parts = and_parts (fits c.lines c.names c.wide.production x) (fits c.lines c.names c.wide.production y) h in
        sim_then c c _ _ _ _ (sim_step c x depth s parts.0 at) (λ s' at'. sim_step c y depth s' parts.1 at')
    sim_step c (choice x y) depth s h at =
        let parts = and_parts (fits c.lines c.names c.wide.production x) (fits c.lines c.names c.wide.production y) h in
        sim_if c _ _ _ _ _ _ (sim_may c s at c.lines c.names c.wide.production own x refl parts.0) (sim_step c x depth s parts.0 at)
        (sim_if c _ _ _ _ _ _ (sim_may c s at c.lines c.names c.wide.production own y refl parts.1) (sim_step c y depth s parts.1 at) tt)
    sim_step c (maybe x) depth s h at =
        sim_if c _ _ _ _ _ _ (sim_may c s at c.lines c.names c.wide.production own x refl h) (sim_step c x depth s h at) (s, (refl, (refl, at)))
    sim_step c (many t x) depth s h at =
        let parts = and_parts (test_fits t) (fits c.lines c.names c.wide.production x) ((and_parts (is_met (repeat t x)) (test_fits t && fits c.lines c.names c.wide.production x) h).1) in
        sim_if c _ _ _ _ _ _ (sim_may c s at c.lines c.names c.wide.production t x parts.0 parts.1)
        (sim_then c c _ _ _ _ (sim_step c x depth s parts.1 at) (λ s' at'. same c depth (repeat t x) s' h at')) (s, (refl, (refl, at)))
    sim_step c (deep x) depth s h at =
        sim_then c c _ _ _ _ (sim_enter c depth _ _ s at (sim_may c s at c.lines c.names c.wide.production own x refl h)) (λ s' at'. sim_step c x (depth + 1) s' h at')

    pub sim_alternative : (c : Context) (p : Production) (n m : ℕ) (body : Item) (depth : ℕ) (s : State) → Numbers c p n m
        → fits (is_members p) (not (is_members p)) p body ≡ true → At c s
        → Sim c (alternative c99 below depth p n body (seen c s)) (alternative c11 (whole c11) depth p m body s)
    sim_alternative c p n m body depth s k h at =
        sim_then (inside p n m s.at) c _ _ _ _
        (subst (λ x. Sim (inside p n m s.at) (step c99 below depth body x) (step c11 (whole c11) depth body (opened p m s))) (sym (opened_seen c p n m s))
        (sim_step (inside p n m s.at) body depth (opened p m s) h (at_opened c p n m s at)))
        (λ s' at'. sim_closed c p n m s s' k at at')

    abbrev pub alternative_fits : Production → Alternative → Bool
    alternative_fits p a = test_fits a.test && fits (is_members p) (not (is_members p)) p a.body

    -- a row that both have
    pub sim_pick : (c : Context) (p : Production) (alternatives : List Alternative) (depth n : ℕ) (s : State) → ((m : ℕ) → Numbers c p m m)
        → list_all (alternative_fits p) alternatives ≡ true → At c s
        → Sim c (pick c99 below depth p n alternatives (seen c s)) (pick c11 (whole c11) depth p n alternatives s)
    sim_pick c p [] depth n s k h at = tt
    sim_pick c p (a ∷ more) depth n s k h at =
        let parts = and_parts (alternative_fits p a) (list_all (alternative_fits p) more) h in
        let a_fits = and_parts (test_fits a.test) (fits (is_members p) (not (is_members p)) p a.body) parts.0 in
        sim_if c _ _ _ _ _ _ (sim_may c s at (is_members p) (not (is_members p)) p a.test a.body a_fits.0 a_fits.1)
        (sim_alternative c p n n a.body depth s (k n) a_fits.1 at)
        (sim_pick c p more depth (n + 1) s k parts.1 at)
