-- Reading goes in step by both standards: what C11 reads, C99 reads, if no semicolon stands alone behind specifiers of members.
use Rattle.std.proofs.Common.{ℕ, zero, suc, ◌+◌, ◌≡◌, Bool, true, false, ◌&&◌, ◌||◌, not, if◌then◌else◌, ◌==◌, List, [], ◌∷◌, length, Result, Ok, Err, nat_lt, ◌⊎◌, inl, inr, refl, sym, ap, subst, ◌∙◌}
use Rattle.std.specs.List.{list_all}
use Rattle.std.proofs.Math.Bool.{or_assoc}
use Rattle.std.proofs.lemmas.Bool.{and_parts, or_parts, false≢true}
use Rattle.cs_base.specs.Token.{Token}
use Rattle.c99_grammar.specs.declared.dialects.Edition.TheVariants.{C99, C11}
use Rattle.c99_tree.specs.Tree.{Forest, none, token, node, Node, node_of, Part, leaf, inner, put, lone, collapsed}
use Rattle.c99_tree.specs.declared.production.Production.{Production}
use Rattle.c99_tree.specs.declared.production.Production.TheVariants.{TranslationUnit, External, ExtRest, ExtTail, FunBody, Declaration, DeclRest, InitDecl, Sassert, Specs, Main, Mod, Qual, Word, StructSpec, SuRest, Members, Member, MemRest, Mdecl, EnumSpec, EnRest, Enumerators, Enumerator, Declarator, Pointer, Direct, Suffix, Bound, Params, Param, Pdecl, Pdirect, TypeName, Adecl, Adirect, Init, InitList, InitItem, Designator, Expr, Assign, Asgop, Cond, Lor, Land, Bor, Bxor, Band, Equal, Relate, Shift, Add, Mul, Cast, CastRest, Unary, SizeRest, SizeLit, Primary, Post, Args, Block, BlockItem, Statement, Sub, ForInit, AutoDecl, Attr, AttrItem, AttrWord, AsmName, Operand, Association, MemberPath, AsmPart, AsmOperand}
use Rattle.c99_grammar.specs.declared.classes.Class.{Class}
use Rattle.c99_grammar.specs.declared.classes.Class.TheVariants.{Semicolon, Noreturn, Typedef, Extern, Static, Auto, Register, Inline}
use Rattle.c99_grammar.specs.Grammar.{table, externals, declarations, modifiers, member_lines, member_rests}
use Rattle.c99_grammar.specs.Items.{Item, one, part, end_of_text, act, ◌·◌, choice, maybe, many, deep, tok, Test, own, Action, Alternative}
use Rattle.c99_read.specs.Sound.{is_met}
use Rattle.c99_read.specs.State.{State, acted, opened, closed, finished, collapses}
use Rattle.c99_read.specs.Reading.{Stop, syntax, Goal, produce, repeat, Step, and_then, deepest, take_one, at_end, enter, may, step, alternative, pick, read_within, whole, steps_for, tree_of, at_first}
use Rattle.c99_read.proofs.C99Sound.{iso-sound}
use Rattle.c99_read.proofs.Suffices.{whole-runs}
use Rattle.c99_grammar.specs.Standard.{iso}
use Rattle.tree_laws.specs.ReadTexts.{Reads}
use Rattle.tree_laws.specs.Narrowed.{is_lone, has_lone, has_lone_below, narrowed, narrowed_node, has_no_added_word, TextsOfC11AreReadByC99}
use Rattle.tree_laws.proofs.StandardClasses.{c99, c11, is_silent, test_fits, part_fits, fits}
use Rattle.tree_laws.proofs.Standing.{is_members, is_unit_part, only, kids-put, kids_weaker, formed-put, IsUnit, unit_of, free_part}
use Rattle.tree_laws.proofs.StandardTrees.{lone-narrowed}
use Rattle.tree_laws.proofs.StandardSteps.{labelled, Context, seen, inside, At, Sim, sim_may, sim_next, next_alike, sim_acted, sim_closed, Numbers, goal_fits, at_opened, opened_seen}
use Rattle.tree_laws.proofs.Lines.{opened_none, members_item, One, closed_specs, in_line, behind, held_lines, stands_of, line_sound, line_closed, at_behind, seen_behind}
use Rattle.tree_laws.proofs.Rows.{no_assertion, no_noreturn, shared_numbers, start, root_sound}

-- ---- Lone semicolons

abbrev part_lone : Part → Bool
part_lone (leaf i) = false
part_lone (inner n) = is_lone n.label || has_lone n.under

has_lone-put : (f : Forest) (x : Part) → has_lone (put f x) ≡ (has_lone f || part_lone x)
has_lone-put none (leaf i) = refl
has_lone-put none (inner n) = ap (λ b. is_lone n.label || b) (or_none (has_lone n.under))
  where
    or_none : (b : Bool) → (b || false) ≡ b
    or_none true = refl
    or_none false = refl
has_lone-put (token i rest) x = has_lone-put rest x
has_lone-put (node l first under rest) x =
    ap (λ b. is_lone l || (has_lone under || b)) (has_lone-put rest x)
    ∙ (ap (λ b. is_lone l || b) (sym (or_assoc (has_lone under) (has_lone rest) (part_lone x)))
    ∙ sym (or_assoc (is_lone l) (has_lone under || has_lone rest) (part_lone x)))

-- nothing lone is put behind, and there was none before
put_free : (f : Forest) (x : Part) → has_lone (put f x) ≡ false → (has_lone f ≡ false) × (part_lone x ≡ false)
put_free f x e = or_parts (has_lone f) (part_lone x) (sym (has_lone-put f x) ∙ e)

lone_free : (f : Forest) (n : Node) → n.under ≡ f → part_lone (inner (lone f n)) ≡ false → has_lone f ≡ false
lone_free none n e k = refl
lone_free (token i rest) n e k = sym (ap has_lone e) ∙ (or_parts (is_lone n.label) (has_lone n.under) k).1
lone_free (node l first under none) n e k = let p = or_parts (is_lone l) (has_lone under) k in rw (p.0, p.1) refl
lone_free (node l first under (token i rest)) n e k = sym (ap has_lone e) ∙ (or_parts (is_lone n.label) (has_lone n.under) k).1
lone_free (node l first under (node m second below rest)) n e k = sym (ap has_lone e) ∙ (or_parts (is_lone n.label) (has_lone n.under) k).1

finished_free : (p : Production) (n : Node) → part_lone (inner (finished p n)) ≡ false → has_lone n.under ≡ false
finished_free p n = by (collapses p)
  where
    by : (b : Bool) → part_lone (inner (if b then collapsed n else n)) ≡ false → has_lone n.under ≡ false
    by true k = lone_free n.under n refl k
    by false k = (or_parts (is_lone n.label) (has_lone n.under) k).1

closed_free : (p : Production) (s z : State) → has_lone (closed p s z).built.under ≡ false → (has_lone s.built.under ≡ false) × (part_lone (inner (finished p z.built)) ≡ false)
unfolding closed
closed_free p s z e = put_free s.built.under (inner (finished p z.built)) e

-- the state of what was read
told : State → Step → State
told d (Ok s) = s
told d (Err stop) = d

abbrev AreEqual : Step → Step → Type 0
AreEqual r r' = r ≡ r'

same_state : (x y : State) → AreEqual (Ok x) (Ok y) → x ≡ y
unfolding told
same_state x y e = ap (told x) e

module _ (toks : List Token) (plain : has_no_added_word toks ≡ true) where
  -- what is told of two states that both have
  of_both : (c : Context) (x y : State) → Sim toks plain false c (Ok x) (Ok y) → (x ≡ seen c y) × At toks plain false c y
  of_both c x y m =
      let e : y ≡ m.0 = same_state y m.0 m.1.0 in
      (m.1.1.0 ∙ ap (seen c) (sym e), subst (At toks plain false c) (sym e) m.1.1.1)

  abbrev Free : State → Type 0
  Free s = has_lone s.built.under ≡ false

  -- what C11 reads from a state on, C99 reads, where nothing lone is read
  abbrev Back : Context → State → Step → Step → Type 0
  Back c s (Err stop) r = Unit {0}
  Back c s (Ok s') r = At toks plain false c s' × ((Free s' → Free s) × (Free s' → r ≡ Ok (seen c s')))

  back_if : (c : Context) (s : State) (p p' : Bool) (r r' q q' : Step) → p ≡ p' → Back c s r r' → Back c s q q'
      → Back c s (if p then r else q) (if p' then r' else q')
  back_if c s true p' r r' q q' e m n = subst (λ b. Back c s r (if b then r' else q')) e m
  back_if c s false p' r r' q q' e m n = subst (λ b. Back c s q (if b then r' else q')) e n

  onward : (c : Context) (s s1 : State) (r r' q : Step) (f' : State → Step) → (Free s1 → Free s) → (Free s1 → q ≡ Ok (seen c s1))
      → Back c s1 r (f' (seen c s1)) → Back c s r (and_then q f')
  onward c s s1 (Err stop) r' q f' grown is m = tt
  onward c s s1 (Ok s2) r' q f' grown is m =
      (m.0, (λ e. grown (m.1.0 e), λ e. ap (λ x. and_then x f') (is (m.1.0 e)) ∙ m.1.1 e))

  back_then : (c : Context) (s : State) (r r' : Step) (f f' : State → Step) → Back c s r r' → ((s1 : State) → At toks plain false c s1 → Back c s1 (f s1) (f' (seen c s1)))
      → Back c s (and_then r f) (and_then r' f')
  back_then c s (Err stop) r' f f' m n = tt
  back_then c s (Ok s1) r' f f' m n = onward c s s1 (f s1) r' r' f' m.1.0 m.1.1 (n s1 m.0)

  -- nothing is read
  back_still : (c : Context) (s : State) → At toks plain false c s → Back c s (Ok s) (Ok (seen c s))
  back_still c s at = (at, (λ e. e, λ e. refl))

  back_may : (c : Context) (s : State) → At toks plain false c s → (lines names : Bool) (holder : Production) (t : Test) (item : Item) → test_fits t ≡ true → fits lines names holder item ≡ true
      → may c11 t item s ≡ may c99 t item (seen c s)
  back_may c s at lines names holder t item of_test of_item = sym (sim_may toks plain false c s at lines names holder t item of_test of_item)

  back_take : (c : Context) (classes : List Class) (s : State) → At toks plain false c s → Back c s (take_one c11 classes s) (take_one c99 classes (seen c s))
  unfolding take_one
  back_take c classes s at =
      let both = of_both c _ _ (sim_next toks plain false c s at) in
      back_if c s _ _ _ _ _ _ (sym (next_alike toks plain false c classes s at)) (both.1, (λ e. (put_free s.built.under (leaf s.at) e).0, λ e. ap Ok both.0)) tt

  back_at_end : (c : Context) (s : State) → At toks plain false c s → Back c s (at_end s) (at_end (seen c s))
  unfolding at_end
  back_at_end c s at = back_if c s (s.at == length s.toks) (s.at == length s.toks) _ _ _ _ refl (back_still c s at) tt

  back_enter : (c : Context) (depth : ℕ) (p p' : Bool) (s : State) → At toks plain false c s → p ≡ p' → Back c s (enter depth p s) (enter depth p' (seen c s))
  unfolding enter
  back_enter c depth p p' s at e =
      back_if c s p p' _ _ _ _ e (back_if c s (nat_lt depth deepest) (nat_lt depth deepest) _ _ _ _ refl (back_still c s at) tt) tt

  acted_built : (a : Action) (s : State) → (acted c11 a s).built ≡ s.built
  unfolding acted
  acted_built a s = refl

  back_acted : (c : Context) (a : Action) (s : State) → At toks plain false c s → (c.names || is_silent a) ≡ true → Back c s (Ok (acted c11 a s)) (Ok (acted c99 a (seen c s)))
  back_acted c a s at h =
      let both = of_both c _ _ (sim_acted toks plain false c a s at h) in
      (both.1, (λ e. sym (ap (λ (b : Node). has_lone b.under) (acted_built a s)) ∙ e, λ e. ap Ok both.0))

  module _ (below : ℕ → Goal → State → Step)
      (same : (c : Context) (depth : ℕ) (goal : Goal) (s : State) → goal_fits toks plain false c goal ≡ true → At toks plain false c s
      → Back c s (below depth goal s) (whole c99 depth goal (seen c s))) where
    back_step : (c : Context) (item : Item) (depth : ℕ) (s : State) → fits c.lines c.names c.wide.production item ≡ true → At toks plain false c s
        → Back c s (step c11 below depth item s) (step c99 (whole c99) depth item (seen c s))
    back_step c (one classes) depth s h at = back_take c classes s at
    back_step c (part p) depth s h at = same c depth (produce p) s h at
    back_step c end_of_text depth s h at = back_at_end c s at
    back_step c (act a) depth s h at = back_acted c a s at h
    back_step c (x · y) depth s h at =
        let parts = and_parts (fits c.lines c.names c.wide.production x) (fits c.lines c.names c.wide.production y) h in
        back_then c s _ _ _ _ (back_step c x depth s parts.0 at) (λ s' at'. back_step c y depth s' parts.1 at')
    back_step c (choice x y) depth s h at =
        let parts = and_parts (fits c.lines c.names c.wide.production x) (fits c.lines c.names c.wide.production y) h in
        back_if c s _ _ _ _ _ _ (back_may c s at c.lines c.names c.wide.production own x refl parts.0) (back_step c x depth s parts.0 at)
        (back_if c s _ _ _ _ _ _ (back_may c s at c.lines c.names c.wide.production own y refl parts.1) (back_step c y depth s parts.1 at) tt)
    back_step c (maybe x) depth s h at =
        back_if c s _ _ _ _ _ _ (back_may c s at c.lines c.names c.wide.production own x refl h) (back_step c x depth s h at) (back_still c s at)
    back_step c (many t x) depth s h at =
        let parts = and_parts (test_fits t) (fits c.lines c.names c.wide.production x) ((and_parts (is_met (repeat t x)) (test_fits t && fits c.lines c.names c.wide.production x) h).1) in
        back_if c s _ _ _ _ _ _ (back_may c s at c.lines c.names c.wide.production t x parts.0 parts.1)
        (back_then c s _ _ _ _ (back_step c x depth s parts.1 at) (λ s' at'. same c depth (repeat t x) s' h at')) (back_still c s at)
    back_step c (deep x) depth s h at =
        back_then c s _ _ _ _ (back_enter c depth _ _ s at (back_may c s at c.lines c.names c.wide.production own x refl h)) (λ s' at'. back_step c x (depth + 1) s' h at')

    node_closed : (c : Context) (p : Production) (n m : ℕ) (s : State) (r r' : Step) → Numbers toks plain false c p n m → At toks plain false c s
        → Back (inside p n m s.at) (opened p m s) r r'
        → Back c s (and_then r (λ z. Ok (closed p s z))) (and_then r' (λ z. Ok (closed p (seen c s) z)))
    node_closed c p n m s (Err stop) r' k at b = tt
    node_closed c p n m s (Ok z) r' k at b =
        let both = of_both c _ _ (sim_closed toks plain false c p n m s z k at b.0) in (
          both.1,
          (
            λ e. (closed_free p s z e).0,
            λ e. ap (λ x. and_then x (λ z. Ok (closed p (seen c s) z))) (b.1.1 (finished_free p z.built ((closed_free p s z e).1))) ∙ ap Ok both.0,
          ),
        )

    back_alternative : (c : Context) (p : Production) (n m : ℕ) (body : Item) (depth : ℕ) (s : State) → Numbers toks plain false c p n m
        → fits (is_members p) (not (is_members p)) p body ≡ true → At toks plain false c s
        → Back c s (alternative c11 below depth p m body s) (alternative c99 (whole c99) depth p n body (seen c s))
    back_alternative c p n m body depth s k h at =
        node_closed c p n m s (step c11 below depth body (opened p m s)) (step c99 (whole c99) depth body (opened p n (seen c s))) k at
        (subst (λ x. Back (inside p n m s.at) (opened p m s) (step c11 below depth body (opened p m s)) (step c99 (whole c99) depth body x)) (sym (opened_seen toks plain false c p n m s))
        (back_step (inside p n m s.at) body depth (opened p m s) h (at_opened toks plain false c p n m s at)))

    abbrev alternative_fits : Production → Alternative → Bool
    alternative_fits p a = test_fits a.test && fits (is_members p) (not (is_members p)) p a.body

    back_pick : (c : Context) (p : Production) (alternatives : List Alternative) (depth n : ℕ) (s : State) → ((m : ℕ) → Numbers toks plain false c p m m)
        → list_all (alternative_fits p) alternatives ≡ true → At toks plain false c s
        → Back c s (pick c11 below depth p n alternatives s) (pick c99 (whole c99) depth p n alternatives (seen c s))
    back_pick c p [] depth n s k h at = tt
    back_pick c p (a ∷ more) depth n s k h at =
        let parts = and_parts (alternative_fits p a) (list_all (alternative_fits p) more) h in
        let a_fits = and_parts (test_fits a.test) (fits (is_members p) (not (is_members p)) p a.body) parts.0 in
        back_if c s _ _ _ _ _ _ (back_may c s at (is_members p) (not (is_members p)) p a.test a.body a_fits.0 a_fits.1)
        (back_alternative c p n n a.body depth s (k n) a_fits.1 at)
        (back_pick c p more depth (n + 1) s k parts.1 at)

    -- what C11 adds in between is not taken
    back_passed : (c : Context) (s : State) (r r' q : Step) (b : Bool) → b ≡ false → Back c s q r → Back c s (if b then r' else q) r
    back_passed c s r r' q b e m = subst (λ x. Back c s (if x then r' else q) r) (sym e) m

    back_more : (c : Context) (p : Production) (n m : ℕ) (body : Item) (depth : ℕ) (s : State) (q q' : Step) → Numbers toks plain false c p n m
        → fits (is_members p) (not (is_members p)) p body ≡ true → At toks plain false c s → Back c s q q'
        → Back c s (if may c11 own body s then alternative c11 below depth p m body s else q)
        (if may c99 own body (seen c s) then alternative c99 (whole c99) depth p n body (seen c s) else q')
    back_more c p n m body depth s q q' k h at later =
        back_if c s _ _ _ _ _ _ (back_may c s at (is_members p) (not (is_members p)) p own body refl h)
        (back_alternative c p n m body depth s k h at) later

    back_external : (c : Context) (depth : ℕ) (s : State) → only c.wide.production External ≡ true → At toks plain false c s
        → Back c s (pick c11 below depth External 1 (externals C11) s) (pick c99 (whole c99) depth External 1 (externals C99) (seen c s))
    back_external c depth s holder at =
        back_more c External 1 1 (tok Semicolon) depth s _ _ (record { numbered = refl; no_line = refl; no_rest = refl; stands = holder; held = λ l. refl }) refl at
        (back_passed c s _ _ _ (may c11 own (part Sassert) s) (no_assertion toks plain false c s at)
        (back_more c External 2 3 (part Specs · part ExtRest) depth s _ _ (record { numbered = refl; no_line = refl; no_rest = refl; stands = holder; held = λ l. refl }) refl at tt))

    back_declaration : (c : Context) (depth : ℕ) (s : State) → only c.wide.production Declaration ≡ true → At toks plain false c s
        → Back c s (pick c11 below depth Declaration 1 (declarations C11) s) (pick c99 (whole c99) depth Declaration 1 (declarations C99) (seen c s))
    back_declaration c depth s holder at =
        back_passed c s _ _ _ (may c11 own (part Sassert) s) (no_assertion toks plain false c s at)
        (back_more c Declaration 1 2 (part Specs · part DeclRest) depth s _ _ (record { numbered = refl; no_line = refl; no_rest = refl; stands = holder; held = λ l. refl }) refl at tt)

    back_mod : (c : Context) (depth : ℕ) (s : State) → only c.wide.production Mod ≡ true → At toks plain false c s
        → Back c s (pick c11 below depth Mod 1 (modifiers C11) s) (pick c99 (whole c99) depth Mod 1 (modifiers C99) (seen c s))
    back_mod c depth s holder at =
        back_more c Mod 1 1 (tok Typedef) depth s _ _ (record { numbered = refl; no_line = refl; no_rest = refl; stands = holder; held = λ l. refl }) refl at
        (back_more c Mod 2 2 (tok Extern) depth s _ _ (record { numbered = refl; no_line = refl; no_rest = refl; stands = holder; held = λ l. refl }) refl at
        (back_more c Mod 3 3 (tok Static) depth s _ _ (record { numbered = refl; no_line = refl; no_rest = refl; stands = holder; held = λ l. refl }) refl at
        (back_more c Mod 4 4 (tok Auto) depth s _ _ (record { numbered = refl; no_line = refl; no_rest = refl; stands = holder; held = λ l. refl }) refl at
        (back_more c Mod 5 5 (tok Register) depth s _ _ (record { numbered = refl; no_line = refl; no_rest = refl; stands = holder; held = λ l. refl }) refl at
        (back_more c Mod 6 6 (tok Inline) depth s _ _ (record { numbered = refl; no_line = refl; no_rest = refl; stands = holder; held = λ l. refl }) refl at
        (back_passed c s _ _ _ (may c11 own (tok Noreturn) s) (no_noreturn toks plain false c s at)
        (back_more c Mod 7 8 (part Qual) depth s _ _ (record { numbered = refl; no_line = refl; no_rest = refl; stands = holder; held = λ l. refl }) refl at tt)))))))

  -- ---- Members

  module _ (below below' : ℕ → Goal → State → Step)
      (same : (c : Context) (depth : ℕ) (goal : Goal) (s : State) → goal_fits toks plain false c goal ≡ true → At toks plain false c s
      → Back c s (below depth goal s) (whole c99 depth goal (seen c s)))
      (same' : (c : Context) (depth : ℕ) (goal : Goal) (s : State) → goal_fits toks plain false c goal ≡ true → At toks plain false c s
      → Back c s (below' depth goal s) (whole c99 depth goal (seen c s)))
      (specs : (depth : ℕ) (s x : State) → s.built.under ≡ none → below depth (produce Specs) s ≡ Ok x → One x.built.under)
      (unrolled : (depth : ℕ) (y : State)
      → (below depth (produce MemRest) y ≡ pick c11 below' depth MemRest 1 (member_rests C11) y) ⊎ ((stop : Stop) × (below depth (produce MemRest) y ≡ Err stop)))
    where
      module _ (c : Context) (depth : ℕ) (s : State) (lines : c.lines ≡ true) (holder : only c.wide.production Member ≡ true) (at : At toks plain false c s) where
        abbrev in_c11 : State → Step
        in_c11 x = Ok (closed Member s x)

        abbrev in_c99 : State → Step
        in_c99 x = Ok (closed Member (seen c s) x)

        -- behind the specifiers
        abbrev Rest : State → Step → Step → Type 0
        Rest y (Err stop) r = Unit {0}
        Rest y (Ok w) r = At toks plain false c w × ((Free w → Free s) × ((Free w → Free y) × (Free w → r ≡ Ok (seen c w))))

        -- what is free in the line was free before
        line_free : (y z : State) → Free (closed Member s (closed MemRest y z))
            → Free s × (Free y × (part_lone (inner (finished MemRest z.built)) ≡ false))
        line_free y z e =
            let a = closed_free Member s (closed MemRest y z) e in
            let b = closed_free MemRest y z (finished_free Member (closed MemRest y z).built a.1) in
            (a.0, (b.0, b.1))

        lines_read : (y : State) (r r' : Step) → At toks plain false (in_line s.at) y → One y.built.under → Back (behind s.at y) (opened MemRest 2 y) r r'
            → Rest y (and_then (and_then r (λ z. Ok (closed MemRest y z))) in_c11) (and_then r' in_c99)
        lines_read y (Err stop) r' at_y one_y b = tt
        lines_read y (Ok z) r' at_y one_y b =
            let both = of_both c _ _ (line_closed toks plain false c s lines holder at y z at_y one_y b.0) in (
              both.1,
              (
                λ e. (line_free y z e).0,
                (
                  λ e. (line_free y z e).1.0,
                  λ e. ap (λ x. and_then x in_c99) (b.1.1 (finished_free MemRest z.built ((line_free y z e).1.1))) ∙ ap Ok both.0,
                ),
              ),
            )

        at_line : (y z : State) → At toks plain false (in_line s.at) y → One y.built.under → At toks plain false (inside MemRest 1 1 y.at) z
            → At toks plain false c (closed Member s (closed MemRest y z))
        unfolding closed
        at_line y z at_y one_y at_z =
            let wide : Node = record y.built { under = put y.built.under (inner z.built) } in
            record {
              text = at_z.text;
              built_is = ap (λ (b : Node). record b { under = put s.built.under (inner wide) }) at.built_is;
              members = λ e. absurd (false≢true (sym e ∙ lines));
              free = at.free;
              sound = formed-put false s.built.under (inner wide) at.sound
                  (line_sound toks plain false y z.built s.at 1 at_y one_y (ap (λ (b : Node). b.label) at_z.built_is) refl at_z.stands at_z.sound);
              stands = kids-put (only c.wide.production) s.built.under (inner wide) at.stands
                  (ap (λ (b : Node). only c.wide.production b.label.production) at_y.built_is ∙ holder);
            }

        -- a semicolon alone
        lone_read : (y : State) (r q r' : Step) → At toks plain false (in_line s.at) y → One y.built.under → Back (inside MemRest 1 1 y.at) (opened MemRest 1 y) r q
            → Rest y (and_then (and_then r (λ z. Ok (closed MemRest y z))) in_c11) r'
        lone_read y (Err stop) q r' at_y one_y b = tt
        lone_read y (Ok z) q r' at_y one_y b = (at_line y z at_y one_y b.0, (λ e. (line_free y z e).0, (λ e. (line_free y z e).1.0, λ e. absurd (none_free e))))
          where
            none_free : Free (closed Member s (closed MemRest y z)) → ⊥
            none_free e =
                false≢true (sym ((or_parts (is_lone z.built.label) (has_lone z.built.under) ((line_free y z e).1.1)).0)
                ∙ ap (λ (n : Node). is_lone n.label) b.0.built_is)

        picked : (y : State) (p p' : Bool) (r r' q : Step) (stop : Stop) → Rest y (and_then r in_c11) q → Rest y (and_then r' in_c11) q
            → Rest y (and_then (if p then r else (if p' then r' else Err stop)) in_c11) q
        picked y true p' r r' q stop m n = m
        picked y false true r r' q stop m n = n
        picked y false false r r' q stop m n = tt

        rest_read : (y : State) → At toks plain false (in_line s.at) y → One y.built.under
            → Rest y (and_then (below depth (produce MemRest) y) in_c11) (and_then (step c99 (whole c99) depth members_item (seen (in_line s.at) y)) in_c99)
        rest_read y at_y one_y =
            let by_c99 : Step = and_then (step c99 (whole c99) depth members_item (seen (in_line s.at) y)) in_c99 in
            elim (unrolled depth y) [
              | inl e ↦
                  subst (λ r. Rest y (and_then r in_c11) by_c99) (sym e)
                  (picked y (may c11 own (tok Semicolon) y) (may c11 own members_item y) (alternative c11 below' depth MemRest 1 (tok Semicolon) y)
                  (alternative c11 below' depth MemRest 2 members_item y) by_c99 (syntax y.at)
                  (lone_read y (step c11 below' depth (tok Semicolon) (opened MemRest 1 y)) (step c99 (whole c99) depth (tok Semicolon) (seen (inside MemRest 1 1 y.at) (opened MemRest 1 y))) by_c99 at_y one_y
                  (back_step below' same' (inside MemRest 1 1 y.at) (tok Semicolon) depth (opened MemRest 1 y) refl (at_opened toks plain false (in_line s.at) MemRest 1 1 y at_y)))
                  (lines_read y (step c11 below' depth members_item (opened MemRest 2 y)) (step c99 (whole c99) depth members_item (seen (in_line s.at) y)) at_y one_y
                  (subst (λ x. Back (behind s.at y) (opened MemRest 2 y) (step c11 below' depth members_item (opened MemRest 2 y)) (step c99 (whole c99) depth members_item x))
                  (sym (seen_behind toks plain false s y at_y))
                  (back_step below' same' (behind s.at y) members_item depth (opened MemRest 2 y) refl (at_behind toks plain false s y at_y)))))
              | inr ends ↦ subst (λ r. Rest y (and_then r in_c11) by_c99) (sym ends.1) tt
            ]

        joined_on : (y : State) (q r r' : Step) → Rest y q r → (Free y → r' ≡ r) → Back c s q r'
        joined_on y (Err stop) r r' m e = tt
        joined_on y (Ok w) r r' m e = (m.0, (m.1.0, λ f. e (m.1.1.0 f) ∙ m.1.1.1 f))

        specs_read : (r r' : Step) → Back (in_line s.at) (opened Member 3 s) r r' → ((x : State) → r ≡ Ok x → One x.built.under)
            → Back c s (and_then (and_then r (step c11 below depth (part MemRest))) in_c11) (and_then (and_then r' (step c99 (whole c99) depth members_item)) in_c99)
        specs_read (Err stop) r' b one_x = tt
        specs_read (Ok y) r' b one_x =
            joined_on y (and_then (below depth (produce MemRest) y) in_c11) (and_then (step c99 (whole c99) depth members_item (seen (in_line s.at) y)) in_c99)
            (and_then (and_then r' (step c99 (whole c99) depth members_item)) in_c99)
            (rest_read y b.0 (one_x y refl))
            (λ f. ap (λ x. and_then (and_then x (step c99 (whole c99) depth members_item)) in_c99) (b.1.1 f))

        line_read : Back c s (alternative c11 below depth Member 3 (part Specs · part MemRest) s) (alternative c99 (whole c99) depth Member 2 (part Specs · members_item) (seen c s))
        line_read =
            specs_read (below depth (produce Specs) (opened Member 3 s)) (whole c99 depth (produce Specs) (opened Member 2 (seen c s)))
            (subst (λ x. Back (in_line s.at) (opened Member 3 s) (below depth (produce Specs) (opened Member 3 s)) (whole c99 depth (produce Specs) x)) (sym (opened_seen toks plain false c Member 2 3 s))
            (same (in_line s.at) depth (produce Specs) (opened Member 3 s) refl (at_opened toks plain false c Member 2 3 s at)))
            (λ x is. specs depth (opened Member 3 s) x (opened_none Member 3 s) is)

        back_member_line : Back c s (pick c11 below depth Member 1 (member_lines C11) s) (pick c99 (whole c99) depth Member 1 (member_lines C99) (seen c s))
        back_member_line =
            back_more below same c Member 1 1 (tok Semicolon) depth s _ _
            (record { numbered = refl; no_line = refl; no_rest = refl; stands = holder; held = λ l. absurd (false≢true (sym l ∙ lines)) }) refl at
            (back_passed below same c s _ _ _ (may c11 own (part Sassert) s) (no_assertion toks plain false c s at)
            (back_if c s _ _ _ _ _ _ (back_may c s at false false Specs own (part Specs · members_item) refl refl) line_read tt))

      back_row : (p : Production) (c : Context) (depth : ℕ) (s : State) → part_fits c.lines c.wide.production p ≡ true → At toks plain false c s
          → Back c s (pick c11 below depth p 1 (table p C11) s) (pick c99 (whole c99) depth p 1 (table p C99) (seen c s))
      back_row TranslationUnit c depth s h at = back_pick below same c TranslationUnit (table TranslationUnit C99) depth 1 s (λ m. shared_numbers toks plain false c TranslationUnit m refl refl refl (stands_of c.lines c.wide.production TranslationUnit h)) refl at
      back_row External c depth s h at = back_external below same c depth s (stands_of c.lines c.wide.production External h) at
      back_row ExtRest c depth s h at = back_pick below same c ExtRest (table ExtRest C99) depth 1 s (λ m. shared_numbers toks plain false c ExtRest m refl refl refl (stands_of c.lines c.wide.production ExtRest h)) refl at
      back_row ExtTail c depth s h at = back_pick below same c ExtTail (table ExtTail C99) depth 1 s (λ m. shared_numbers toks plain false c ExtTail m refl refl refl (stands_of c.lines c.wide.production ExtTail h)) refl at
      back_row FunBody c depth s h at = back_pick below same c FunBody (table FunBody C99) depth 1 s (λ m. shared_numbers toks plain false c FunBody m refl refl refl (stands_of c.lines c.wide.production FunBody h)) refl at
      back_row Declaration c depth s h at = back_declaration below same c depth s (stands_of c.lines c.wide.production Declaration h) at
      back_row DeclRest c depth s h at = back_pick below same c DeclRest (table DeclRest C99) depth 1 s (λ m. shared_numbers toks plain false c DeclRest m refl refl refl (stands_of c.lines c.wide.production DeclRest h)) refl at
      back_row InitDecl c depth s h at = back_pick below same c InitDecl (table InitDecl C99) depth 1 s (λ m. shared_numbers toks plain false c InitDecl m refl refl refl (stands_of c.lines c.wide.production InitDecl h)) refl at
      back_row Sassert c depth s h at = cc
      back_row Specs c depth s h at = back_pick below same c Specs (table Specs C99) depth 1 s (λ m. shared_numbers toks plain false c Specs m refl refl refl (stands_of c.lines c.wide.production Specs h)) refl at
      back_row Main c depth s h at = back_pick below same c Main (table Main C99) depth 1 s (λ m. shared_numbers toks plain false c Main m refl refl refl (stands_of c.lines c.wide.production Main h)) refl at
      back_row Mod c depth s h at = back_mod below same c depth s (stands_of c.lines c.wide.production Mod h) at
      back_row Qual c depth s h at = back_pick below same c Qual (table Qual C99) depth 1 s (λ m. shared_numbers toks plain false c Qual m refl refl refl (stands_of c.lines c.wide.production Qual h)) refl at
      back_row Word c depth s h at = back_pick below same c Word (table Word C99) depth 1 s (λ m. shared_numbers toks plain false c Word m refl refl refl (stands_of c.lines c.wide.production Word h)) refl at
      back_row StructSpec c depth s h at = back_pick below same c StructSpec (table StructSpec C99) depth 1 s (λ m. shared_numbers toks plain false c StructSpec m refl refl refl (stands_of c.lines c.wide.production StructSpec h)) refl at
      back_row SuRest c depth s h at = back_pick below same c SuRest (table SuRest C99) depth 1 s (λ m. shared_numbers toks plain false c SuRest m refl refl refl (stands_of c.lines c.wide.production SuRest h)) refl at
      back_row Members c depth s h at = back_pick below same c Members (table Members C99) depth 1 s (λ m. shared_numbers toks plain false c Members m refl refl refl (stands_of c.lines c.wide.production Members h)) refl at
      back_row Member c depth s h at = back_member_line c depth s (held_lines c.lines c.wide.production h) (stands_of c.lines c.wide.production Member h) at
      back_row MemRest c depth s h at = cc
      back_row Mdecl c depth s h at = back_pick below same c Mdecl (table Mdecl C99) depth 1 s (λ m. shared_numbers toks plain false c Mdecl m refl refl refl (stands_of c.lines c.wide.production Mdecl h)) refl at
      back_row EnumSpec c depth s h at = back_pick below same c EnumSpec (table EnumSpec C99) depth 1 s (λ m. shared_numbers toks plain false c EnumSpec m refl refl refl (stands_of c.lines c.wide.production EnumSpec h)) refl at
      back_row EnRest c depth s h at = back_pick below same c EnRest (table EnRest C99) depth 1 s (λ m. shared_numbers toks plain false c EnRest m refl refl refl (stands_of c.lines c.wide.production EnRest h)) refl at
      back_row Enumerators c depth s h at = back_pick below same c Enumerators (table Enumerators C99) depth 1 s (λ m. shared_numbers toks plain false c Enumerators m refl refl refl (stands_of c.lines c.wide.production Enumerators h)) refl at
      back_row Enumerator c depth s h at = back_pick below same c Enumerator (table Enumerator C99) depth 1 s (λ m. shared_numbers toks plain false c Enumerator m refl refl refl (stands_of c.lines c.wide.production Enumerator h)) refl at
      back_row Declarator c depth s h at = back_pick below same c Declarator (table Declarator C99) depth 1 s (λ m. shared_numbers toks plain false c Declarator m refl refl refl (stands_of c.lines c.wide.production Declarator h)) refl at
      back_row Pointer c depth s h at = back_pick below same c Pointer (table Pointer C99) depth 1 s (λ m. shared_numbers toks plain false c Pointer m refl refl refl (stands_of c.lines c.wide.production Pointer h)) refl at
      back_row Direct c depth s h at = back_pick below same c Direct (table Direct C99) depth 1 s (λ m. shared_numbers toks plain false c Direct m refl refl refl (stands_of c.lines c.wide.production Direct h)) refl at
      back_row Suffix c depth s h at = back_pick below same c Suffix (table Suffix C99) depth 1 s (λ m. shared_numbers toks plain false c Suffix m refl refl refl (stands_of c.lines c.wide.production Suffix h)) refl at
      back_row Bound c depth s h at = back_pick below same c Bound (table Bound C99) depth 1 s (λ m. shared_numbers toks plain false c Bound m refl refl refl (stands_of c.lines c.wide.production Bound h)) refl at
      back_row Params c depth s h at = back_pick below same c Params (table Params C99) depth 1 s (λ m. shared_numbers toks plain false c Params m refl refl refl (stands_of c.lines c.wide.production Params h)) refl at
      back_row Param c depth s h at = back_pick below same c Param (table Param C99) depth 1 s (λ m. shared_numbers toks plain false c Param m refl refl refl (stands_of c.lines c.wide.production Param h)) refl at
      back_row Pdecl c depth s h at = back_pick below same c Pdecl (table Pdecl C99) depth 1 s (λ m. shared_numbers toks plain false c Pdecl m refl refl refl (stands_of c.lines c.wide.production Pdecl h)) refl at
      back_row Pdirect c depth s h at = back_pick below same c Pdirect (table Pdirect C99) depth 1 s (λ m. shared_numbers toks plain false c Pdirect m refl refl refl (stands_of c.lines c.wide.production Pdirect h)) refl at
      back_row TypeName c depth s h at = back_pick below same c TypeName (table TypeName C99) depth 1 s (λ m. shared_numbers toks plain false c TypeName m refl refl refl (stands_of c.lines c.wide.production TypeName h)) refl at
      back_row Adecl c depth s h at = back_pick below same c Adecl (table Adecl C99) depth 1 s (λ m. shared_numbers toks plain false c Adecl m refl refl refl (stands_of c.lines c.wide.production Adecl h)) refl at
      back_row Adirect c depth s h at = back_pick below same c Adirect (table Adirect C99) depth 1 s (λ m. shared_numbers toks plain false c Adirect m refl refl refl (stands_of c.lines c.wide.production Adirect h)) refl at
      back_row Init c depth s h at = back_pick below same c Init (table Init C99) depth 1 s (λ m. shared_numbers toks plain false c Init m refl refl refl (stands_of c.lines c.wide.production Init h)) refl at
      back_row InitList c depth s h at = back_pick below same c InitList (table InitList C99) depth 1 s (λ m. shared_numbers toks plain false c InitList m refl refl refl (stands_of c.lines c.wide.production InitList h)) refl at
      back_row InitItem c depth s h at = back_pick below same c InitItem (table InitItem C99) depth 1 s (λ m. shared_numbers toks plain false c InitItem m refl refl refl (stands_of c.lines c.wide.production InitItem h)) refl at
      back_row Designator c depth s h at = back_pick below same c Designator (table Designator C99) depth 1 s (λ m. shared_numbers toks plain false c Designator m refl refl refl (stands_of c.lines c.wide.production Designator h)) refl at
      back_row Expr c depth s h at = back_pick below same c Expr (table Expr C99) depth 1 s (λ m. shared_numbers toks plain false c Expr m refl refl refl (stands_of c.lines c.wide.production Expr h)) refl at
      back_row Assign c depth s h at = back_pick below same c Assign (table Assign C99) depth 1 s (λ m. shared_numbers toks plain false c Assign m refl refl refl (stands_of c.lines c.wide.production Assign h)) refl at
      back_row Asgop c depth s h at = back_pick below same c Asgop (table Asgop C99) depth 1 s (λ m. shared_numbers toks plain false c Asgop m refl refl refl (stands_of c.lines c.wide.production Asgop h)) refl at
      back_row Cond c depth s h at = back_pick below same c Cond (table Cond C99) depth 1 s (λ m. shared_numbers toks plain false c Cond m refl refl refl (stands_of c.lines c.wide.production Cond h)) refl at
      back_row Lor c depth s h at = back_pick below same c Lor (table Lor C99) depth 1 s (λ m. shared_numbers toks plain false c Lor m refl refl refl (stands_of c.lines c.wide.production Lor h)) refl at
      back_row Land c depth s h at = back_pick below same c Land (table Land C99) depth 1 s (λ m. shared_numbers toks plain false c Land m refl refl refl (stands_of c.lines c.wide.production Land h)) refl at
      back_row Bor c depth s h at = back_pick below same c Bor (table Bor C99) depth 1 s (λ m. shared_numbers toks plain false c Bor m refl refl refl (stands_of c.lines c.wide.production Bor h)) refl at
      back_row Bxor c depth s h at = back_pick below same c Bxor (table Bxor C99) depth 1 s (λ m. shared_numbers toks plain false c Bxor m refl refl refl (stands_of c.lines c.wide.production Bxor h)) refl at
      back_row Band c depth s h at = back_pick below same c Band (table Band C99) depth 1 s (λ m. shared_numbers toks plain false c Band m refl refl refl (stands_of c.lines c.wide.production Band h)) refl at
      back_row Equal c depth s h at = back_pick below same c Equal (table Equal C99) depth 1 s (λ m. shared_numbers toks plain false c Equal m refl refl refl (stands_of c.lines c.wide.production Equal h)) refl at
      back_row Relate c depth s h at = back_pick below same c Relate (table Relate C99) depth 1 s (λ m. shared_numbers toks plain false c Relate m refl refl refl (stands_of c.lines c.wide.production Relate h)) refl at
      back_row Shift c depth s h at = back_pick below same c Shift (table Shift C99) depth 1 s (λ m. shared_numbers toks plain false c Shift m refl refl refl (stands_of c.lines c.wide.production Shift h)) refl at
      back_row Add c depth s h at = back_pick below same c Add (table Add C99) depth 1 s (λ m. shared_numbers toks plain false c Add m refl refl refl (stands_of c.lines c.wide.production Add h)) refl at
      back_row Mul c depth s h at = back_pick below same c Mul (table Mul C99) depth 1 s (λ m. shared_numbers toks plain false c Mul m refl refl refl (stands_of c.lines c.wide.production Mul h)) refl at
      back_row Cast c depth s h at = back_pick below same c Cast (table Cast C99) depth 1 s (λ m. shared_numbers toks plain false c Cast m refl refl refl (stands_of c.lines c.wide.production Cast h)) refl at
      back_row CastRest c depth s h at = back_pick below same c CastRest (table CastRest C99) depth 1 s (λ m. shared_numbers toks plain false c CastRest m refl refl refl (stands_of c.lines c.wide.production CastRest h)) refl at
      back_row Unary c depth s h at = back_pick below same c Unary (table Unary C99) depth 1 s (λ m. shared_numbers toks plain false c Unary m refl refl refl (stands_of c.lines c.wide.production Unary h)) refl at
      back_row SizeRest c depth s h at = back_pick below same c SizeRest (table SizeRest C99) depth 1 s (λ m. shared_numbers toks plain false c SizeRest m refl refl refl (stands_of c.lines c.wide.production SizeRest h)) refl at
      back_row SizeLit c depth s h at = back_pick below same c SizeLit (table SizeLit C99) depth 1 s (λ m. shared_numbers toks plain false c SizeLit m refl refl refl (stands_of c.lines c.wide.production SizeLit h)) refl at
      back_row Primary c depth s h at = back_pick below same c Primary (table Primary C99) depth 1 s (λ m. shared_numbers toks plain false c Primary m refl refl refl (stands_of c.lines c.wide.production Primary h)) refl at
      back_row Post c depth s h at = back_pick below same c Post (table Post C99) depth 1 s (λ m. shared_numbers toks plain false c Post m refl refl refl (stands_of c.lines c.wide.production Post h)) refl at
      back_row Args c depth s h at = back_pick below same c Args (table Args C99) depth 1 s (λ m. shared_numbers toks plain false c Args m refl refl refl (stands_of c.lines c.wide.production Args h)) refl at
      back_row Block c depth s h at = back_pick below same c Block (table Block C99) depth 1 s (λ m. shared_numbers toks plain false c Block m refl refl refl (stands_of c.lines c.wide.production Block h)) refl at
      back_row BlockItem c depth s h at = back_pick below same c BlockItem (table BlockItem C99) depth 1 s (λ m. shared_numbers toks plain false c BlockItem m refl refl refl (stands_of c.lines c.wide.production BlockItem h)) refl at
      back_row Statement c depth s h at = back_pick below same c Statement (table Statement C99) depth 1 s (λ m. shared_numbers toks plain false c Statement m refl refl refl (stands_of c.lines c.wide.production Statement h)) refl at
      back_row Sub c depth s h at = back_pick below same c Sub (table Sub C99) depth 1 s (λ m. shared_numbers toks plain false c Sub m refl refl refl (stands_of c.lines c.wide.production Sub h)) refl at
      back_row ForInit c depth s h at = back_pick below same c ForInit (table ForInit C99) depth 1 s (λ m. shared_numbers toks plain false c ForInit m refl refl refl (stands_of c.lines c.wide.production ForInit h)) refl at
      back_row AutoDecl c depth s h at = back_pick below same c AutoDecl (table AutoDecl C99) depth 1 s (λ m. shared_numbers toks plain false c AutoDecl m refl refl refl (stands_of c.lines c.wide.production AutoDecl h)) refl at
      back_row Attr c depth s h at = back_pick below same c Attr (table Attr C99) depth 1 s (λ m. shared_numbers toks plain false c Attr m refl refl refl (stands_of c.lines c.wide.production Attr h)) refl at
      back_row AttrItem c depth s h at = back_pick below same c AttrItem (table AttrItem C99) depth 1 s (λ m. shared_numbers toks plain false c AttrItem m refl refl refl (stands_of c.lines c.wide.production AttrItem h)) refl at
      back_row AttrWord c depth s h at = back_pick below same c AttrWord (table AttrWord C99) depth 1 s (λ m. shared_numbers toks plain false c AttrWord m refl refl refl (stands_of c.lines c.wide.production AttrWord h)) refl at
      back_row AsmName c depth s h at = back_pick below same c AsmName (table AsmName C99) depth 1 s (λ m. shared_numbers toks plain false c AsmName m refl refl refl (stands_of c.lines c.wide.production AsmName h)) refl at
      back_row Operand c depth s h at = back_pick below same c Operand (table Operand C99) depth 1 s (λ m. shared_numbers toks plain false c Operand m refl refl refl (stands_of c.lines c.wide.production Operand h)) refl at
      back_row Association c depth s h at = back_pick below same c Association (table Association C99) depth 1 s (λ m. shared_numbers toks plain false c Association m refl refl refl (stands_of c.lines c.wide.production Association h)) refl at
      back_row MemberPath c depth s h at = back_pick below same c MemberPath (table MemberPath C99) depth 1 s (λ m. shared_numbers toks plain false c MemberPath m refl refl refl (stands_of c.lines c.wide.production MemberPath h)) refl at
      back_row AsmPart c depth s h at = back_pick below same c AsmPart (table AsmPart C99) depth 1 s (λ m. shared_numbers toks plain false c AsmPart m refl refl refl (stands_of c.lines c.wide.production AsmPart h)) refl at
      back_row AsmOperand c depth s h at = back_pick below same c AsmOperand (table AsmOperand C99) depth 1 s (λ m. shared_numbers toks plain false c AsmOperand m refl refl refl (stands_of c.lines c.wide.production AsmOperand h)) refl at

  specs_of : (fuel depth : ℕ) (s x : State) → s.built.under ≡ none → read_within c11 fuel depth (produce Specs) s ≡ Ok x → One x.built.under
  unfolding read_within
  specs_of zero depth s x e is = cc
  specs_of (suc fuel) depth s x e is =
      closed_specs s x (may c11 own (many own (part Mod) · part Main) s)
      (step c11 (read_within c11 fuel) depth (many own (part Mod) · part Main) (opened Specs 1 s)) (syntax s.at) e is

  back_run : (c : Context) (s : State) (r r' q : Step) → r' ≡ q → Back c s r q → Back c s r r'
  back_run c s r r' q e m = subst (Back c s r) (sym e) m

  back_within : (fuel : ℕ) (c : Context) (depth : ℕ) (goal : Goal) (s : State) → goal_fits toks plain false c goal ≡ true → At toks plain false c s
      → Back c s (read_within c11 fuel depth goal s) (whole c99 depth goal (seen c s))
  unfolding read_within
  back_within zero c depth goal s h at = tt
  back_within (suc zero) c depth (produce p) s h at =
      back_run c s _ _ _ (whole-runs c99 (iso-sound C99) depth (produce p) (seen c s) refl)
      (back_row (read_within c11 zero) (read_within c11 zero) (back_within zero) (back_within zero) (specs_of zero) (λ d y. inr (syntax y.at, refl)) p c depth s h at)
  back_within (suc zero) c depth (repeat t a) s h at =
      back_run c s _ _ _ (whole-runs c99 (iso-sound C99) depth (repeat t a) (seen c s) ((and_parts (is_met (repeat t a)) _ h).0))
      (back_step (read_within c11 zero) (back_within zero) c (many t a) depth s h at)
  back_within (suc (suc fuel)) c depth (produce p) s h at =
      back_run c s _ _ _ (whole-runs c99 (iso-sound C99) depth (produce p) (seen c s) refl)
      (back_row (read_within c11 (suc fuel)) (read_within c11 fuel) (back_within (suc fuel)) (back_within fuel) (specs_of (suc fuel)) (λ d y. inl refl) p c depth s h at)
  back_within (suc (suc fuel)) c depth (repeat t a) s h at =
      back_run c s _ _ _ (whole-runs c99 (iso-sound C99) depth (repeat t a) (seen c s) ((and_parts (is_met (repeat t a)) _ h).0))
      (back_step (read_within c11 (suc fuel)) (back_within (suc fuel)) c (many t a) depth s h at)

  unit_back : Back (start toks plain false) (at_first toks) (whole c11 0 (produce TranslationUnit) (at_first toks)) (whole c99 0 (produce TranslationUnit) (at_first toks))
  unfolding whole
  unit_back =
      back_within (steps_for (produce TranslationUnit) (at_first toks)) (start toks plain false) 0 (produce TranslationUnit) (at_first toks) refl
      (record { text = refl; built_is = refl; members = λ e. refl; free = λ e. (refl, refl); sound = refl; stands = refl })

  abbrev got : Node → Result Node Stop → Node
  got d (Ok tree) = tree
  got d (Err stop) = d

  tree_back : (tree : Node) (r r' : Step) → Back (start toks plain false) (at_first toks) r r' → tree_of r ≡ Ok tree → has_lone_below tree ≡ false → tree_of r' ≡ Ok (narrowed_node tree)
  tree_back tree (Err stop) r' m e f = cc
  tree_back tree (Ok s) r' m e f =
      let u : Forest = s.built.under in
      let tree_is : lone u s.built ≡ tree = ap (got tree) e in
      let node_seen : node_of (labelled TranslationUnit 1) 0 (narrowed u) ≡ narrowed_node s.built = sym (ap narrowed_node m.0.built_is) in
      ap tree_of (m.1.1 (lone_free u s.built refl (ap has_lone_below tree_is ∙ f)))
      ∙ ap Ok (ap (lone (narrowed u)) node_seen ∙ (lone-narrowed u s.built ∙ ap narrowed_node tree_is))

-- what binding rests on is so of the tree
tree_unit : (toks : List Token) (plain : has_no_added_word toks ≡ true) (tree : Node) (r r' : Step) → Back toks plain (start toks plain false) (at_first toks) r r' → tree_of r ≡ Ok tree
    → has_lone_below tree ≡ false → IsUnit tree
tree_unit toks plain tree (Err stop) r' m e f = cc
tree_unit toks plain tree (Ok s) r' m e f =
    let u : Forest = s.built.under in
    let tree_is : lone u s.built ≡ tree = ap (got toks plain tree) e in
    let free : (is_lone (lone u s.built).label || has_lone (lone u s.built).under) ≡ false = ap has_lone_below tree_is ∙ f in
    subst IsUnit tree_is
    (unit_of u s.built (kids_weaker (only TranslationUnit) is_unit_part (λ q h. h) u m.0.stands)
    (ap (λ (b : Node). is_unit_part b.label.production) m.0.built_is) (free_part (lone u s.built) (root_sound toks plain false s m.0) free))

pub unit_by_c11 : (toks : List Token) (tree : Node) → has_no_added_word toks ≡ true → Reads (iso C11) toks tree → has_lone_below tree ≡ false → IsUnit tree
unit_by_c11 toks tree plain e f =
    tree_unit toks plain tree (whole c11 0 (produce TranslationUnit) (at_first toks)) (whole c99 0 (produce TranslationUnit) (at_first toks)) (unit_back toks plain) e f

pub read_by_c99 : TextsOfC11AreReadByC99
read_by_c99 toks tree plain e f =
    tree_back toks plain tree (whole c11 0 (produce TranslationUnit) (at_first toks)) (whole c99 0 (produce TranslationUnit) (at_first toks)) (unit_back toks plain) e f
