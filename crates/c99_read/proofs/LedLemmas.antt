-- Nodes that are read apart from the open node, and those that are left out.
use Rattle.std.proofs.Common.{ℕ, ◌+◌, ◌≡◌, true, false, if◌then◌else◌, List, [], ◌∷◌, None, Some, Result, Ok, Err, refl, sym, ap, subst, ◌∙◌}
use Rattle.std.specs.Result.{IsErrAnd}
use Rattle.std.proofs.lemmas.Bool.{false≢true}
use Rattle.c99_grammar.specs.declared.dialects.Dialect.{Dialect}
use Rattle.c99_tree.specs.Tree.{Node, node_of, none, leaf, put, collapsed}
use Rattle.c99_grammar.specs.declared.classes.Class.{Class}
use Rattle.c99_tree.specs.declared.production.Production.{Production}
use Rattle.c99_tree.specs.declared.production.Production.TheVariants.{Declarator, Specs}
use Rattle.c99_grammar.specs.Items.{Item, one, part, end_of_text, act, choice, deep, many, maybe, ◌·◌, own, otherwise, next, next_two, Test, Alternative}
use Rattle.c99_grammar.specs.Standard.{Grammar, grammar}
use Rattle.c99_read.specs.declared.faults.ReadRefusal.{ReadRefusal}
use Rattle.c99_read.specs.declared.faults.ReadRefusal.TheVariants as refusal
use Rattle.c99_read.specs.declared.reader.Begun.{Begun}
use Rattle.c99_read.specs.declared.reader.Outer.{Outer}
use Rattle.c99_read.specs.Answer.{Reads, ReadsNode, Opens, Wraps, Closes, IsBegun, Takes, is_next, with_built, behind}
use Rattle.c99_read.specs.Choosing.{Choice, chosen}
use Rattle.c99_read.specs.Leading.{is_optional, CanBeLeftOut}
use Rattle.c99_read.specs.Reading.{produce, repeat, Step, and_then, may, step, alternative, whole, syntax, too_deep, take_one}
use Rattle.c99_read.specs.State.{State, class_at, opened, closed, collapses, is_declarator, is_specs, names_opened, names_closed, nearest, finished}
use Rattle.c99_read.specs.Leads.{IsPlain}
use Rattle.c99_read.proofs.TurnLemmas.{read-chosen, read-none}

-- ---- What may be read does not depend on the open node

pub may-elsewhere : (g : Grammar) (t : Test) (a : Item) (s : State) (b : Node) → may g t a (with_built s b) ≡ may g t a s
unfolding class_at
may-elsewhere g t a s b = refl

pub chosen-elsewhere : (g : Grammar) (s : State) (b : Node) (n : ℕ) (alternatives : List Alternative)
    → chosen g (with_built s b) n alternatives ≡ chosen g s n alternatives
chosen-elsewhere g s b n [] = refl
chosen-elsewhere g s b n (a ∷ more) =
    ap (λ x. if x then Some (record { number = n; body = a.body }) else chosen g (with_built s b) (n + 1) more) (may-elsewhere g a.test a.body s b)
    ∙ ap (λ o. if may g a.test a.body s then Some (record { number = n; body = a.body }) else o) (chosen-elsewhere g s b (n + 1) more)

-- ---- Nodes

-- what two that read alike from every open node make of it
pub ReadsNode-alike : (r : Result Node ReadRefusal) (old new : State) (read read' : State → Step)
    → ((b : Node) → read (with_built old b) ≡ read' (with_built old b)) → ReadsNode r old new read → ReadsNode r old new read'
ReadsNode-alike (Ok n) old new read read' alike m = (m.0, λ b. sym (alike b) ∙ m.1 b)
ReadsNode-alike (Err (refusal.Syntax i)) old new read read' alike m = λ b. sym (alike b) ∙ m b
ReadsNode-alike (Err (refusal.TooDeep i)) old new read read' alike m = λ b. sym (alike b) ∙ m b
ReadsNode-alike (Err refusal.Memory) old new read read' alike m = m

module _ (std : Dialect) where
  pub node-chosen : (depth : ℕ) (p : Production) (c : Choice) (r : Result Node ReadRefusal) (s new : State) → chosen (grammar std) s 1 ((grammar std).table p) ≡ Some c
      → ReadsNode r s new (alternative (grammar std) (whole (grammar std)) depth p c.number c.body)
      → ReadsNode r s new (whole (grammar std) depth (produce p))
  node-chosen depth p c r s new e m =
      ReadsNode-alike r s new _ _
      (λ b. read-chosen std depth p (with_built s b) c (chosen-elsewhere (grammar std) s b 1 ((grammar std).table p) ∙ e)) m

  pub node-none : (depth : ℕ) (p : Production) (s : State) → chosen (grammar std) s 1 ((grammar std).table p) ≡ None
      → (b : Node) → whole (grammar std) depth (produce p) (with_built s b) ≡ Err (syntax s.at)
  node-none depth p s e = λ b. read-none std depth p (with_built s b) (chosen-elsewhere (grammar std) s b 1 ((grammar std).table p) ∙ e)

-- what a production's node is, as a child of the open node
pub node-pushed : (n : Node) (s new : State) (read : State → Step) → ReadsNode (Ok n) s new read → read s ≡ Ok (with_built new (behind new.built n))
node-pushed n s new read m = m.1 s.built ∙ ap (λ b. Ok (with_built new (behind b n))) (sym m.0)

pub node-stopped : (e : ReadRefusal) (s new : State) (read : State → Step) → ReadsNode (Err e) s new read → Reads (Err e) new (read s)
node-stopped (refusal.Syntax i) s new read m = m s.built
node-stopped (refusal.TooDeep i) s new read m = m s.built
node-stopped refusal.Memory s new read m = m

pub node-unmade : (e : ReadRefusal) (s new : State) (read : State → Step) → e ≡ refusal.Memory → ReadsNode (Err e) s new read
node-unmade e s new read unmade =
    let P : ReadRefusal → Type 0 = λ r. ReadsNode (Err r) s new read in
    subst P (sym unmade) tt

-- a refusal that is handed on
pub node-passed : (e : ReadRefusal) (r : Result Node ReadRefusal) (s new : State) (read : State → Step) → IsErrAnd r (λ x. x ≡ e)
    → ReadsNode (Err e) s new read → ReadsNode r s new read
node-passed e (Ok n) s new read same m = absurd same
node-passed e (Err x) s new read same m =
    let P : ReadRefusal → Type 0 = λ y. ReadsNode (Err y) s new read in
    subst P (sym same) m

pub read-passed : (e : ReadRefusal) (r : Result (Unit {0}) ReadRefusal) (new : State) (expected : Step) → IsErrAnd r (λ x. x ≡ e)
    → Reads (Err e) new expected → Reads r new expected
read-passed e (Ok n) new expected same m = absurd same
read-passed e (Err x) new expected same m =
    let P : ReadRefusal → Type 0 = λ y. Reads (Err y) new expected in
    subst P (sym same) m

-- ---- A node that is opened first

opened-elsewhere : (p : Production) (n : ℕ) (s : State) (b : Node) → opened p n (with_built s b) ≡ opened p n s
unfolding opened
opened-elsewhere p n s b = refl

closed-elsewhere : (p : Production) (s s' new : State) (outer : Outer) (n b : Node) → outer.near ≡ s.near → Closes (Ok n) s' new p outer
    → closed p (with_built s b) s' ≡ with_built new (behind b n)
unfolding closed
closed-elsewhere p s s' new outer n b near close = rw (close.0, close.1, near) refl

module _ (g : Grammar) (depth : ℕ) (p : Production) (n : ℕ) where
  -- the node, where its items were read from the open node on
  opened-read : (body : Item) (s s1 s2 new : State) (outer : Outer) (node : Node) → Opens (Ok tt) outer s s1 p n
      → step g (whole g) depth body s1 ≡ Ok s2 → Closes (Ok node) s2 new p outer
      → ReadsNode (Ok node) s new (alternative g (whole g) depth p n body)
  opened-read body s s1 s2 new outer node opening items close = (
    ap (λ (x : State). x.built) close.0 ∙ opening.1.built,
    λ b.
        ap (λ x. and_then (step g (whole g) depth body x) (λ s'. Ok (closed p (with_built s b) s'))) (opened-elsewhere p n s b ∙ sym opening.0)
        ∙ ap (λ r. and_then r (λ s'. Ok (closed p (with_built s b) s'))) items
        ∙ ap Ok (closed-elsewhere p s s2 new outer node b opening.1.near close),
  )

  pub opened-ends : (body : Item) (s s1 s2 new : State) (outer : Outer) (r : Result Node ReadRefusal) → Opens (Ok tt) outer s s1 p n
      → step g (whole g) depth body s1 ≡ Ok s2 → Closes r s2 new p outer
      → ReadsNode r s new (alternative g (whole g) depth p n body)
  opened-ends body s s1 s2 new outer (Ok node) opening items close = opened-read body s s1 s2 new outer node opening items close
  opened-ends body s s1 s2 new outer (Err e) opening items close = node-unmade e s new (alternative g (whole g) depth p n body) close

  pub opened-stopped : (body : Item) (s s1 s2 : State) (outer : Outer) (e : ReadRefusal) → Opens (Ok tt) outer s s1 p n
      → Reads (Err e) s2 (step g (whole g) depth body s1) → ReadsNode (Err e) s s2 (alternative g (whole g) depth p n body)
  opened-stopped body s s1 s2 outer e opening items = by e items
    where
      at : (b : Node) (r : Step) → step g (whole g) depth body s1 ≡ r
          → alternative g (whole g) depth p n body (with_built s b) ≡ and_then r (λ s'. Ok (closed p (with_built s b) s'))
      at b r h =
          ap (λ x. and_then (step g (whole g) depth body x) (λ s'. Ok (closed p (with_built s b) s'))) (opened-elsewhere p n s b ∙ sym opening.0)
          ∙ ap (λ q. and_then q (λ s'. Ok (closed p (with_built s b) s'))) h

      by : (e : ReadRefusal) → Reads (Err e) s2 (step g (whole g) depth body s1) → ReadsNode (Err e) s s2 (alternative g (whole g) depth p n body)
      by (refusal.Syntax i) h = λ b. at b (Err (syntax i)) h
      by (refusal.TooDeep i) h = λ b. at b (Err (too_deep i)) h
      by refusal.Memory h = h

-- ---- A node whose first child is read first

plain-names : (p : Production) → collapses p ≡ true → is_declarator p ≡ false
plain-names Declarator e = absurd (false≢true e)
plain-names _ e = refl

plain-near : (p : Production) → collapses p ≡ true → is_specs p ≡ false
plain-near Specs e = absurd (false≢true e)
plain-near _ e = refl

optional-passed : (g : Grammar) (depth : ℕ) (rest : Item) (s : State) → is_optional rest ≡ true → may g own rest s ≡ false
    → step g (whole g) depth rest s ≡ Ok s
optional-passed g depth (maybe a) s optional off = ap (λ x. if x then step g (whole g) depth a s else Ok s) off
optional-passed g depth (many own a) s optional off =
    ap (λ x. if x then and_then (step g (whole g) depth a s) (whole g depth (repeat own a)) else Ok s) off
optional-passed g depth (one classes) s optional off = absurd (false≢true optional)
optional-passed g depth (part p) s optional off = absurd (false≢true optional)
optional-passed g depth end_of_text s optional off = absurd (false≢true optional)
optional-passed g depth (act a) s optional off = absurd (false≢true optional)
optional-passed g depth (a · b) s optional off = absurd (false≢true optional)
optional-passed g depth (choice a b) s optional off = absurd (false≢true optional)
optional-passed g depth (many otherwise a) s optional off = absurd (false≢true optional)
optional-passed g depth (many (next x) a) s optional off = absurd (false≢true optional)
optional-passed g depth (many (next_two x y) a) s optional off = absurd (false≢true optional)
optional-passed g depth (deep a) s optional off = absurd (false≢true optional)

module _ (g : Grammar) (depth : ℕ) (p : Production) (n : ℕ) (below : Production) (rest : Item) (can : CanBeLeftOut p rest) (s : State) where
  abbrev fresh : Node
  fresh = node_of (record { production = p; alternative = n }) s.at none

  opened-fresh : (b : Node) → opened p n (with_built s b) ≡ with_built s fresh
  unfolding opened
  opened-fresh b = ap (λ x. record s { names = if x then names_opened Declarator s.names else s.names; built = fresh }) (plain-names p can.collapses)

  -- the reading of the node, once its first child is read
  led-begun : (s1 : State) (first b : Node) → ReadsNode (Ok first) s s1 (whole g depth (produce below))
      → alternative g (whole g) depth p n (part below · rest) (with_built s b)
      ≡ and_then (step g (whole g) depth rest (with_built s1 (behind fresh first))) (λ s'. Ok (closed p (with_built s b) s'))
  led-begun s1 first b m =
      ap (λ x. and_then (and_then (whole g depth (produce below) x) (step g (whole g) depth rest)) (λ s'. Ok (closed p (with_built s b) s'))) (opened-fresh b)
      ∙ ap (λ r. and_then (and_then r (step g (whole g) depth rest)) (λ s'. Ok (closed p (with_built s b) s'))) (m.1 fresh)

  closed-first : (s1 : State) (first b : Node)
      → closed p (with_built s b) (with_built s1 (behind fresh first)) ≡ with_built (record s1 { near = s.near }) (behind b first)
  unfolding closed
  closed-first s1 first b =
      ap (λ x. record s1 { names = if x then names_closed Declarator s1.names else s1.names; near = nearest p (behind fresh first) s.near; built = behind b (finished p (behind fresh first)) })
      (plain-names p can.collapses)
      ∙ ap (λ x. record s1 { near = if x then nearest Specs (behind fresh first) s.near else s.near; built = behind b (finished p (behind fresh first)) })
      (plain-near p can.collapses)
      ∙ ap (λ x. record s1 { near = s.near; built = behind b (if x then first else behind fresh first) }) can.collapses

  pub led-left : (s1 new : State) (first : Node) → ReadsNode (Ok first) s s1 (whole g depth (produce below)) → may g own rest s1 ≡ false
      → new ≡ record s1 { near = s.near } → ReadsNode (Ok first) s new (alternative g (whole g) depth p n (part below · rest))
  led-left s1 new first m off e = (
    ap (λ (x : State). x.built) e ∙ m.0,
    λ b.
        led-begun s1 first b m
        ∙ ap (λ r. and_then r (λ s'. Ok (closed p (with_built s b) s')))
        (optional-passed g depth rest (with_built s1 (behind fresh first)) can.optional (may-elsewhere g own rest s1 (behind fresh first) ∙ off))
        ∙ ap Ok (closed-first s1 first b)
        ∙ ap (λ x. Ok (with_built x (behind b first))) (sym e),
  )

  pub led-stopped : (s1 : State) (e : ReadRefusal) → ReadsNode (Err e) s s1 (whole g depth (produce below))
      → ReadsNode (Err e) s s1 (alternative g (whole g) depth p n (part below · rest))
  led-stopped s1 e m = by e m
    where
      at : (b : Node) (r : Step) → whole g depth (produce below) (with_built s fresh) ≡ r
          → alternative g (whole g) depth p n (part below · rest) (with_built s b)
          ≡ and_then (and_then r (step g (whole g) depth rest)) (λ s'. Ok (closed p (with_built s b) s'))
      at b r h =
          ap (λ x. and_then (and_then (whole g depth (produce below) x) (step g (whole g) depth rest)) (λ s'. Ok (closed p (with_built s b) s'))) (opened-fresh b)
          ∙ ap (λ q. and_then (and_then q (step g (whole g) depth rest)) (λ s'. Ok (closed p (with_built s b) s'))) h

      by : (e : ReadRefusal) → ReadsNode (Err e) s s1 (whole g depth (produce below)) → ReadsNode (Err e) s s1 (alternative g (whole g) depth p n (part below · rest))
      by (refusal.Syntax i) h = λ b. at b (Err (syntax i)) (h fresh)
      by (refusal.TooDeep i) h = λ b. at b (Err (too_deep i)) (h fresh)
      by refusal.Memory h = h

  wrapped : (s1 s2 : State) (first : Node) (outer : Outer) (begun : Begun) → IsBegun begun s
      → Wraps (Ok tt) outer s1 s2 (record { production = p; alternative = n }) begun first → s2 ≡ with_built s1 (behind fresh first)
  wrapped s1 s2 first outer begun at wrap =
      wrap.0 ∙ ap (λ k. with_built s1 (behind (node_of (record { production = p; alternative = n }) k none) first)) at.at

  led-read : (s1 s2 s3 new : State) (first node : Node) (outer : Outer) (begun : Begun) → IsBegun begun s
      → ReadsNode (Ok first) s s1 (whole g depth (produce below)) → Wraps (Ok tt) outer s1 s2 (record { production = p; alternative = n }) begun first
      → step g (whole g) depth rest s2 ≡ Ok s3 → Closes (Ok node) s3 new p outer
      → ReadsNode (Ok node) s new (alternative g (whole g) depth p n (part below · rest))
  led-read s1 s2 s3 new first node outer begun at m wrap items close = (
    ap (λ (x : State). x.built) close.0 ∙ wrap.1 ∙ m.0,
    λ b.
        led-begun s1 first b m
        ∙ ap (λ x. and_then (step g (whole g) depth rest x) (λ s'. Ok (closed p (with_built s b) s'))) (sym (wrapped s1 s2 first outer begun at wrap))
        ∙ ap (λ r. and_then r (λ s'. Ok (closed p (with_built s b) s'))) items
        ∙ ap Ok (closed-elsewhere p s s3 new outer node b (wrap.2 ∙ at.near) close),
  )

  pub led-ends : (s1 s2 s3 new : State) (first : Node) (r : Result Node ReadRefusal) (outer : Outer) (begun : Begun) → IsBegun begun s
      → ReadsNode (Ok first) s s1 (whole g depth (produce below)) → Wraps (Ok tt) outer s1 s2 (record { production = p; alternative = n }) begun first
      → step g (whole g) depth rest s2 ≡ Ok s3 → Closes r s3 new p outer
      → ReadsNode r s new (alternative g (whole g) depth p n (part below · rest))
  led-ends s1 s2 s3 new first (Ok node) outer begun at m wrap items close = led-read s1 s2 s3 new first node outer begun at m wrap items close
  led-ends s1 s2 s3 new first (Err e) outer begun at m wrap items close =
      node-unmade e s new (alternative g (whole g) depth p n (part below · rest)) close

  pub led-stopped-behind : (s1 s2 s3 : State) (first : Node) (outer : Outer) (begun : Begun) (e : ReadRefusal) → IsBegun begun s
      → ReadsNode (Ok first) s s1 (whole g depth (produce below)) → Wraps (Ok tt) outer s1 s2 (record { production = p; alternative = n }) begun first
      → Reads (Err e) s3 (step g (whole g) depth rest s2) → ReadsNode (Err e) s s3 (alternative g (whole g) depth p n (part below · rest))
  led-stopped-behind s1 s2 s3 first outer begun e at m wrap items = by e items
    where
      behind-it : (b : Node) (r : Step) → step g (whole g) depth rest s2 ≡ r
          → alternative g (whole g) depth p n (part below · rest) (with_built s b) ≡ and_then r (λ s'. Ok (closed p (with_built s b) s'))
      behind-it b r h =
          led-begun s1 first b m
          ∙ ap (λ x. and_then (step g (whole g) depth rest x) (λ s'. Ok (closed p (with_built s b) s'))) (sym (wrapped s1 s2 first outer begun at wrap))
          ∙ ap (λ q. and_then q (λ s'. Ok (closed p (with_built s b) s'))) h

      by : (e : ReadRefusal) → Reads (Err e) s3 (step g (whole g) depth rest s2) → ReadsNode (Err e) s s3 (alternative g (whole g) depth p n (part below · rest))
      by (refusal.Syntax i) h = λ b. behind-it b (Err (syntax i)) h
      by (refusal.TooDeep i) h = λ b. behind-it b (Err (too_deep i)) h
      by refusal.Memory h = h

-- ---- An alternative that is one production

module _ (g : Grammar) (depth : ℕ) (p : Production) (n : ℕ) (below : Production) (collapsing : collapses p ≡ true) (s : State) where
  abbrev rest : Item
  rest = maybe (part below)

  can : CanBeLeftOut p rest
  can = record { collapses = collapsing; optional = refl }

  abbrev begun-fresh : Node
  begun-fresh = fresh g depth p n below rest can s

  pub alone-left : (s1 new : State) (first : Node) → ReadsNode (Ok first) s s1 (whole g depth (produce below)) → new ≡ record s1 { near = s.near }
      → ReadsNode (Ok first) s new (alternative g (whole g) depth p n (part below))
  alone-left s1 new first m e = (
    ap (λ (x : State). x.built) e ∙ m.0,
    λ b.
        ap (λ x. and_then (whole g depth (produce below) x) (λ s'. Ok (closed p (with_built s b) s'))) (opened-fresh g depth p n below rest can s b)
        ∙ ap (λ r. and_then r (λ s'. Ok (closed p (with_built s b) s'))) (m.1 begun-fresh)
        ∙ ap Ok (closed-first g depth p n below rest can s s1 first b)
        ∙ ap (λ x. Ok (with_built x (behind b first))) (sym e),
  )

  pub alone-stopped : (s1 : State) (e : ReadRefusal) → ReadsNode (Err e) s s1 (whole g depth (produce below))
      → ReadsNode (Err e) s s1 (alternative g (whole g) depth p n (part below))
  alone-stopped s1 e m = by e m
    where
      at : (b : Node) (r : Step) → whole g depth (produce below) (with_built s begun-fresh) ≡ r
          → alternative g (whole g) depth p n (part below) (with_built s b) ≡ and_then r (λ s'. Ok (closed p (with_built s b) s'))
      at b r h =
          ap (λ x. and_then (whole g depth (produce below) x) (λ s'. Ok (closed p (with_built s b) s'))) (opened-fresh g depth p n below rest can s b)
          ∙ ap (λ q. and_then q (λ s'. Ok (closed p (with_built s b) s'))) h

      by : (e : ReadRefusal) → ReadsNode (Err e) s s1 (whole g depth (produce below)) → ReadsNode (Err e) s s1 (alternative g (whole g) depth p n (part below))
      by (refusal.Syntax i) h = λ b. at b (Err (syntax i)) (h begun-fresh)
      by (refusal.TooDeep i) h = λ b. at b (Err (too_deep i)) (h begun-fresh)
      by refusal.Memory h = h

-- ---- An alternative that is one token

module _ (g : Grammar) (depth : ℕ) (p : Production) (n : ℕ) (classes : List Class) (s : State) where
  abbrev with_none : Node
  with_none = node_of (record { production = p; alternative = n }) s.at none

  abbrev with_token : Node
  with_token = node_of (record { production = p; alternative = n }) s.at (put none (leaf s.at))

  single-opened : (b : Node) → is_declarator p ≡ false → opened p n (with_built s b) ≡ with_built s with_none
  unfolding opened
  single-opened b plain = ap (λ x. record s { names = if x then names_opened Declarator s.names else s.names; built = with_none }) plain

  single-taken : take_one g classes (with_built s with_none) ≡ (if is_next g classes s then Ok (record s { at = s.at + 1; built = with_token }) else Err (syntax s.at))
  unfolding take_one class_at
  single-taken = refl

  single-closed : (b : Node) → IsPlain p
      → closed p (with_built s b) (record s { at = s.at + 1; built = with_token }) ≡ with_built (record s { at = s.at + 1 }) (behind b with_token)
  unfolding closed
  single-closed b plain =
      ap (λ x. record s { at = s.at + 1; names = if x then names_closed Declarator s.names else s.names; near = nearest p with_token s.near; built = behind b (finished p with_token) })
      plain.declarator
      ∙ ap (λ x. record s { at = s.at + 1; near = if x then nearest Specs with_token s.near else s.near; built = behind b (finished p with_token) }) plain.specs
      ∙ ap (λ x. record s { at = s.at + 1; built = behind b (if x then collapsed with_token else with_token) }) plain.stays

  single-begun : (b : Node) (r : Step) → IsPlain p
      → (if is_next g classes s then Ok (record s { at = s.at + 1; built = with_token }) else Err (syntax s.at)) ≡ r
      → alternative g (whole g) depth p n (one classes) (with_built s b) ≡ and_then r (λ s'. Ok (closed p (with_built s b) s'))
  single-begun b r plain is =
      ap (λ x. and_then (take_one g classes x) (λ s'. Ok (closed p (with_built s b) s'))) (single-opened b plain.declarator)
      ∙ ap (λ q. and_then q (λ s'. Ok (closed p (with_built s b) s'))) (single-taken ∙ is)

  pub single-read : (r : Result Node ReadRefusal) (new : State) → IsPlain p → Takes r s new g (record { production = p; alternative = n }) classes
      → ReadsNode r s new (alternative g (whole g) depth p n (one classes))
  single-read (Ok node) new plain took = (
    ap (λ (x : State). x.built) took.2,
    λ b.
        single-begun b (Ok (record s { at = s.at + 1; built = with_token })) plain
        (ap (λ x. if x then Ok (record s { at = s.at + 1; built = with_token }) else Err (syntax s.at)) took.0)
        ∙ ap Ok (single-closed b plain)
        ∙ ap (λ x. Ok (with_built x (behind b with_token))) (sym took.2)
        ∙ ap (λ x. Ok (with_built new (behind b x))) (sym took.1),
  )
  single-read (Err (refusal.Syntax i)) new plain took = λ b.
      single-begun b (Err (syntax s.at)) plain (ap (λ x. if x then Ok (record s { at = s.at + 1; built = with_token }) else Err (syntax s.at)) took.0)
      ∙ ap Err (sym took.1)
  single-read (Err (refusal.TooDeep i)) new plain took = λ b.
      single-begun b (Err (syntax s.at)) plain (ap (λ x. if x then Ok (record s { at = s.at + 1; built = with_token }) else Err (syntax s.at)) took.0)
      ∙ ap Err (sym took.1)
  single-read (Err refusal.Memory) new plain took = took
