-- What is read of a text, looking at its first tokens alone, is read of each text that begins with them.
use Rattle.std.proofs.Common.{ℕ, suc, zero, ◌+◌, ◌-◌, ◌<◌, ◌≤◌, ◌≡◌, Bool, true, false, ◌&&◌, if◌then◌else◌, unwrap_or, List, [], ◌∷◌, ◌++◌, length, take, slice_get, Option, None, Some, Ok, Err, nat_lt, ◌==◌, refl, sym, ap, subst, ◌∙◌, arith}
use Rattle.std.specs.Option.{option_map_or}
use Rattle.std.specs.Str.{bytes_eq}
use Rattle.std.proofs.lemmas.Bool.{lt-ltb, ne_eqb}
use Rattle.cs_base.specs.Token.{Token}
use Rattle.c99_tree.specs.Names.{latest}
use Rattle.c99_tree.specs.Tree.{Forest, none, token, node, Node, Part, leaf, inner, put, lone, collapsed}
use Rattle.c99_tree.specs.declared.production.Label.{Label}
use Rattle.c99_tree.specs.declared.production.Production.{Production}
use Rattle.c99_tree.specs.declared.production.Production.TheVariants.{External}
use Rattle.c99_grammar.specs.declared.classes.Class.{Class}
use Rattle.c99_grammar.specs.declared.classes.Class.TheVariants.{TypedefName}
use Rattle.c99_grammar.specs.Classes.{among}
use Rattle.c99_grammar.specs.Items.{Item, one, part, end_of_text, act, ◌·◌, choice, maybe, many, deep, Test, own, Action, scope, end, declare, name, keep, again, Alternative}
use Rattle.c99_grammar.specs.Standard.{Grammar, grammar}
use Rattle.c99_grammar.specs.Starting.{holds, starts}
use Rattle.c99_read.specs.declared.names.Declaration.{Declaration}
use Rattle.c99_read.specs.Fronts.{external, externals, BeginAlike, FrontsReadAlike}
use Rattle.c99_read.specs.Reading.{Goal, produce, repeat, Step, and_then, steps_for, at_first, take_one, at_end, enter, may, step, alternative, pick, run, read_within, whole}
use Rattle.c99_read.specs.Sound.{is_met, IsSound}
use Rattle.c99_read.specs.State.{State, Names, Head, base_at, spelling_at, spelled_scope, is_typedef_at, is_identifier, class_at, has_name, is_declaring, name_below, last_declared, last_identifier, in_innermost, declaration, with_declared, with_scope_ended, given_names, acted, opened, closed, collapses, is_declarator, names_opened, names_closed, head_closed, with_head, finished}
use Rattle.c99_read.proofs.C99Sound.{grammar-sound}
use Rattle.c99_read.proofs.Suffices.{within-agree}

-- the state with the other tokens
abbrev pub swapped : List Token → State → State
swapped b s = record s { toks = b }

module _ (n : ℕ) where
  -- ---- Names and trees of the first n tokens

  abbrev pub LowScope : List Declaration → Type 0
  LowScope [] = Unit {0}
  LowScope (d ∷ older) = (d.name_at < n) × LowScope older

  abbrev pub LowScopes : List (List Declaration) → Type 0
  LowScopes [] = Unit {0}
  LowScopes (s ∷ outer) = LowScope s × LowScopes outer

  abbrev LowGiven : Option (List Declaration) → Type 0
  LowGiven None = Unit {0}
  LowGiven (Some ds) = LowScope ds

  abbrev LowHeads : List Head → Type 0
  LowHeads [] = Unit {0}
  LowHeads (h ∷ more) = LowGiven h.given × LowHeads more

  abbrev LowForest : Forest → Type 0
  LowForest none = Unit {0}
  LowForest (token i rest) = (i < n) × LowForest rest
  LowForest (node l first under rest) = LowForest under × LowForest rest

  abbrev LowPart : Part → Type 0
  LowPart (leaf i) = i < n
  LowPart (inner m) = LowForest m.under

  abbrev LowIndex : Option ℕ → Type 0
  LowIndex None = Unit {0}
  LowIndex (Some i) = i < n

  record LowNames (ns : Names) : Type 0 where
    scopes : LowScopes ns.scopes
    ended : LowScope ns.ended
    heads : LowHeads ns.heads
    kept : LowScope ns.kept

  low_put : (f : Forest) (p : Part) → LowForest f → LowPart p → LowForest (put f p)
  low_put none (leaf i) h l = (l, tt)
  low_put none (inner m) h l = (l, tt)
  low_put (token i rest) p h l = (h.0, low_put rest p h.1 l)
  low_put (node m first under rest) p h l = (h.0, low_put rest p h.1 l)

  low_lone : (f : Forest) (m : Node) → LowForest f → LowForest m.under → LowForest (lone f m).under
  low_lone none m h l = l
  low_lone (token i rest) m h l = l
  low_lone (node k first under none) m h l = h.0
  low_lone (node k first under (token i rest)) m h l = l
  low_lone (node k first under (node k' first' under' rest)) m h l = l

  low_finished : (p : Production) (m : Node) → LowForest m.under → LowForest (finished p m).under
  low_finished p m h = by (collapses p)
    where
      by : (c : Bool) → LowForest (if c then collapsed m else m).under
      by true = low_lone m.under m h h
      by false = h

  index_if : (c : Bool) (x y : Option ℕ) → LowIndex x → LowIndex y → LowIndex (if c then x else y)
  index_if true x y h k = h
  index_if false x y h k = k

  low_named : (l : Label) (f : Forest) → LowForest f → LowIndex (name_below l f)
  low_named l none h = tt
  low_named l (token i rest) h = index_if (has_name l) (Some i) (name_below l rest) h.0 (low_named l rest h.1)
  low_named l (node m first under rest) h =
      index_if (is_declaring m.production) (name_below m under) (name_below l rest) (low_named m under h.0) (low_named l rest h.1)

  low_declared : (f : Forest) → LowForest f → LowIndex (last_declared f)
  low_declared none h = tt
  low_declared (token i rest) h = low_declared rest h.1
  low_declared (node l first under none) h = low_named l under h.0
  low_declared (node l first under (token i rest)) h = low_declared (token i rest) h.1
  low_declared (node l first under (node m second below rest)) h = low_declared (node m second below rest) h.1

  low_identifier : (g : Grammar) (toks : List Token) (f : Forest) (found : Option ℕ) → LowForest f → LowIndex found → LowIndex (last_identifier g toks f found)
  low_identifier g toks none found h l = l
  low_identifier g toks (token i rest) found h l =
      low_identifier g toks rest (if is_identifier (base_at g toks i) then Some i else found) h.1
      (index_if (is_identifier (base_at g toks i)) (Some i) found h.0 l)
  low_identifier g toks (node l first under rest) found h low = low_identifier g toks rest found h.1 low

  low_innermost : (scopes : List (List Declaration)) (d : Declaration) → LowScopes scopes → d.name_at < n → LowScopes (in_innermost scopes d)
  low_innermost [] d h l = tt
  low_innermost (s ∷ outer) d h l = ((l, h.0), h.1)

  low_with : (ns : Names) (o : Option ℕ) (typedef : Bool) → LowNames ns → LowIndex o → LowNames (with_declared ns o typedef)
  low_with ns None typedef h l = h
  low_with ns (Some i) typedef h l =
      record { scopes = low_innermost ns.scopes (declaration i typedef) h.scopes l; ended = h.ended; heads = h.heads; kept = h.kept }

  low_ended : (ns : Names) (scopes : List (List Declaration)) → LowNames ns → LowScopes scopes → LowNames (with_scope_ended ns scopes)
  low_ended ns [] h l = h
  low_ended ns (s ∷ []) h l = h
  low_ended ns (s ∷ (next ∷ outer)) h l = record { scopes = l.1; ended = l.0; heads = h.heads; kept = h.kept }

  low_unwrapped : (o : Option (List Declaration)) (ds : List Declaration) → LowGiven o → LowScope ds → LowScope (unwrap_or o ds)
  low_unwrapped None ds h l = l
  low_unwrapped (Some es) ds h l = h

  low_given : (count : ℕ) (ds : List Declaration) (hs : List Head) → LowScope ds → LowHeads hs → LowHeads (given_names count ds hs)
  low_given count ds [] l h = tt
  low_given count ds (x ∷ more) l h = by (x.scopes_open == count) (low_given count ds more l h.1)
    where
      by : (c : Bool) → LowHeads (given_names count ds more)
          → LowHeads (if c then (record x { given = Some (unwrap_or x.given ds) } ∷ more) else (x ∷ given_names count ds more))
      by true rest = (low_unwrapped x.given ds h.0 l, h.1)
      by false rest = (h.0, rest)

  low_pushed : (hs : List Head) (x : Head) → LowHeads hs → LowGiven x.given → LowHeads (hs ++ x ∷ [])
  low_pushed [] x h l = (l, tt)
  low_pushed (y ∷ more) x h l = (h.0, low_pushed more x h.1 l)

  low_taken : (k : ℕ) (hs : List Head) → LowHeads hs → LowHeads (take k hs)
  low_taken zero hs h = tt
  low_taken (suc k) [] h = tt
  low_taken (suc k) (x ∷ more) h = (h.0, low_taken k more h.1)

  low_kept : (k : ℕ) (hs : List Head) → LowHeads hs → LowScope (option_map_or (λ h. unwrap_or h.given []) (slice_get hs k) [])
  low_kept k [] h = tt
  low_kept zero (x ∷ more) h = low_unwrapped x.given [] h.0 tt
  low_kept (suc k) (x ∷ more) h = low_kept k more h.1

  low_opened : (p : Production) (ns : Names) → LowNames ns → LowNames (names_opened p ns)
  low_opened p ns h = by (is_declarator p)
    where
      by : (c : Bool) → LowNames (if c then with_head ns else ns)
      by true =
          record { scopes = h.scopes; ended = h.ended; heads = low_pushed ns.heads (record { scopes_open = length ns.scopes; given = None }) h.heads tt; kept = h.kept }
      by false = h

  low_closed : (p : Production) (ns : Names) → LowNames ns → LowNames (names_closed p ns)
  low_closed p ns h = by (is_declarator p)
    where
      by : (c : Bool) → LowNames (if c then head_closed ns else ns)
      by true =
          record { scopes = h.scopes; ended = h.ended; heads = low_taken (length ns.heads - 1) ns.heads h.heads; kept = low_kept (length ns.heads - 1) ns.heads h.heads }
      by false = h

module _ (g : Grammar) (n : ℕ) (a b : List Token) (alike : BeginAlike g n a b) where
  -- what is known of the text `a` is of its first n tokens
  record IsLow (s : State) : Type 0 where
    of_a : s.toks ≡ a
    names : LowNames n s.names
    built : LowForest n s.built.under

  -- ---- Classes

  latest_alike : (scope : List Declaration) (k : ℕ) → LowScope n scope → k < n → latest (spelled_scope a scope) (spelling_at a k) ≡ latest (spelled_scope b scope) (spelling_at b k)
  latest_alike [] k low h = refl
  latest_alike (d ∷ older) k low h =
      let e : bytes_eq (spelling_at a k) (spelling_at a d.name_at) ≡ bytes_eq (spelling_at b k) (spelling_at b d.name_at) =
      ap (λ x. bytes_eq x (spelling_at a d.name_at)) (alike.spellings k h) ∙ ap (bytes_eq (spelling_at b k)) (alike.spellings d.name_at low.0) in
      ap (λ c. if c then Some d.typedef else latest (spelled_scope a older) (spelling_at a k)) e
      ∙ ap (λ o. if bytes_eq (spelling_at b k) (spelling_at b d.name_at) then Some d.typedef else o) (latest_alike older k low.1 h)

  typedef_alike : (scopes : List (List Declaration)) (k : ℕ) → LowScopes n scopes → k < n → is_typedef_at a scopes k ≡ is_typedef_at b scopes k
  typedef_alike [] k low h = refl
  typedef_alike (s ∷ outer) k low h =
      ap (λ o. unwrap_or o (is_typedef_at a outer k)) (latest_alike s k low.0 h)
      ∙ ap (λ r. unwrap_or (latest (spelled_scope b s) (spelling_at b k)) r) (typedef_alike outer k low.1 h)

  class_alike : (s : State) (k : ℕ) → IsLow s → k < n → class_at g (swapped b s) k ≡ class_at g s k
  unfolding class_at
  class_alike s k low h =
      let e : base_at g s.toks k ≡ base_at g b k = ap (λ t. base_at g t k) low.of_a ∙ alike.classes k h in
      let f : is_typedef_at s.toks s.names.scopes k ≡ is_typedef_at b s.names.scopes k =
      ap (λ t. is_typedef_at t s.names.scopes k) low.of_a ∙ typedef_alike s.names.scopes k low.names.scopes h in
      sym (ap (λ c. if is_identifier c && is_typedef_at s.toks s.names.scopes k then TypedefName else c) e
      ∙ ap (λ t. if is_identifier (base_at g b k) && t then TypedefName else base_at g b k) f)

  identifier_alike : (f : Forest) (found : Option ℕ) → LowForest n f → last_identifier g a f found ≡ last_identifier g b f found
  identifier_alike none found low = refl
  identifier_alike (token i rest) found low =
      ap (λ c. last_identifier g a rest (if is_identifier c then Some i else found)) (alike.classes i low.0) ∙ identifier_alike rest _ low.1
  identifier_alike (node l first under rest) found low = identifier_alike rest found low.1

  -- ---- Steps

  -- Reading goes on; where the two tokens ahead are still among the first n, the second is what the first gives, with
  -- the other tokens.
  abbrev Follows : ℕ → Step → Step → Type 0
  Follows at (Ok s) r = (at ≤ s.at) × (s.at + 1 < n → IsLow s × (r ≡ Ok (swapped b s)))
  Follows at (Err stop) r = Unit {0}

  abbrev Given : State → Type 0
  Given s = s.at + 1 < n → IsLow s

  follows_then : (at : ℕ) (r r' : Step) (f f' : State → Step) → Follows at r r'
      → ((s : State) → at ≤ s.at → Given s → Follows s.at (f s) (f' (swapped b s))) → Follows at (and_then r f) (and_then r' f')
  follows_then at (Err stop) r' f f' m next = tt
  follows_then at (Ok s) r' f f' m next = onward (f s) (next s m.0 (λ h. (m.1 h).0))
    where
      onward : (q : Step) → Follows s.at q (f' (swapped b s)) → Follows at q (and_then r' f')
      onward (Err stop) k = tt
      onward (Ok t) k = (
        omega (arith, m.0, k.0),
        λ h. let e : r' ≡ Ok (swapped b s) = (m.1 (omega (arith, h, k.0))).1 in ((k.1 h).0, ap (λ q. and_then q f') e ∙ (k.1 h).1),
      )

  follows_if : (at : ℕ) (p p' : Bool) (r r' q q' : Step) → (at + 1 < n → p' ≡ p) → Follows at r r' → Follows at q q'
      → Follows at (if p then r else q) (if p' then r' else q')
  follows_if at true p' r r' q q' e m k = by r m
    where
      by : (x : Step) → Follows at x r' → Follows at x (if p' then r' else q')
      by (Err stop) w = tt
      by (Ok t) w = (w.0, λ h. ((w.1 h).0, ap (λ c. if c then r' else q') (e (omega (arith, h, w.0))) ∙ (w.1 h).1))
  follows_if at false p' r r' q q' e m k = by q k
    where
      by : (x : Step) → Follows at x q' → Follows at x (if p' then r' else q')
      by (Err stop) w = tt
      by (Ok t) w = (w.0, λ h. ((w.1 h).0, ap (λ c. if c then r' else q') (e (omega (arith, h, w.0))) ∙ (w.1 h).1))

  stays : (s : State) → Given s → Follows s.at (Ok s) (Ok (swapped b s))
  stays s given = (omega arith, λ h. (given h, refl))

  may_alike : (t : Test) (item : Item) (s : State) → Given s → s.at + 1 < n → may g t item (swapped b s) ≡ may g t item s
  may_alike t item s given h =
      ap (λ c. holds g t (starts g item c (class_at g (swapped b s) (s.at + 1))) c (class_at g (swapped b s) (s.at + 1)))
      (class_alike s s.at (given h) (omega (arith, h)))
      ∙ ap (λ d. holds g t (starts g item (class_at g s s.at) d) (class_at g s s.at) d) (class_alike s (s.at + 1) (given h) h)

  within_a : (s : State) → Given s → s.at + 1 < n → s.at < length s.toks
  within_a s given h = let e : length s.toks ≡ length a = ap length ((given h).of_a) in let f = alike.first in omega (arith, h, e, f)

  within_b : (s : State) → s.at + 1 < n → s.at < length b
  within_b s h = let f = alike.second in omega (arith, h, f)

  follows_take : (classes : List Class) (s : State) → Given s → Follows s.at (take_one g classes s) (take_one g classes (swapped b s))
  unfolding take_one
  follows_take classes s given =
      follows_if s.at _ _ _ _ _ _
      (λ h.
      ap (λ c. c && among classes (class_at g (swapped b s) s.at)) (lt-ltb s.at (length b) (within_b s h) ∙ sym (lt-ltb s.at (length s.toks) (within_a s given h)))
      ∙ ap (λ c. nat_lt s.at (length s.toks) && among classes c) (class_alike s s.at (given h) (omega (arith, h))))
      (omega arith, λ h. let low = given (omega (arith, h)) in (record { of_a = low.of_a; names = low.names; built = low_put n s.built.under (leaf s.at) low.built (omega (arith, h)) }, refl))
      tt

  follows_end : (s : State) → Given s → Follows s.at (at_end s) (at_end (swapped b s))
  unfolding at_end
  follows_end s given =
      follows_if s.at _ _ _ _ _ _
      (λ h. let x = within_b s h in let y = within_a s given h in ne_eqb s.at (length b) (λ e. omega (arith, x, e)) ∙ sym (ne_eqb s.at (length s.toks) (λ e. omega (arith, y, e))))
      (stays s given) tt

  follows_enter : (depth : ℕ) (p p' : Bool) (s : State) → Given s → (s.at + 1 < n → p' ≡ p) → Follows s.at (enter depth p s) (enter depth p' (swapped b s))
  unfolding enter
  follows_enter depth p p' s given e =
      follows_if s.at p p' _ _ _ _ e (follows_if s.at (nat_lt depth 256) (nat_lt depth 256) _ _ _ _ (λ h. refl) (stays s given) tt) tt

  low_state : (s : State) (ns : Names) → IsLow s → LowNames n ns → IsLow (record s { names = ns })
  low_state s ns low h = record { of_a = low.of_a; names = h; built = low.built }

  follows_acted : (action : Action) (s : State) → Given s → Follows s.at (Ok (acted g action s)) (Ok (acted g action (swapped b s)))
  unfolding acted
  follows_acted scope s given = (
    omega arith,
    λ h. let low = given h in let w = low.names in (low_state s _ low (record { scopes = (tt, w.scopes); ended = w.ended; heads = w.heads; kept = w.kept }), refl),
  )
  follows_acted end s given = (omega arith, λ h. let low = given h in (low_state s _ low (low_ended n s.names s.names.scopes low.names low.names.scopes), refl))
  follows_acted declare s given = (
    omega arith,
    λ h. let low = given h in (low_state s _ low (low_with n s.names (last_declared s.built.under) s.near low.names (low_declared n s.built.under low.built)), refl),
  )
  follows_acted name s given = (
    omega arith,
    λ h.
        let low = given h in (
          low_state s _ low (low_with n s.names (last_identifier g s.toks s.built.under None) false low.names (low_identifier n g s.toks s.built.under None low.built tt)),
          ap (λ i. Ok (record (swapped b s) { names = with_declared s.names i false }))
              (sym (ap (λ t. last_identifier g t s.built.under None) low.of_a ∙ identifier_alike s.built.under None low.built)),
        ),
  )
  follows_acted keep s given = (
    omega arith,
    λ h.
        let low = given h in let w = low.names in
        (low_state s _ low (record { scopes = w.scopes; ended = w.ended; heads = low_given n (length s.names.scopes) s.names.ended s.names.heads w.ended w.heads; kept = w.kept }), refl),
  )
  follows_acted again s given = (
    omega arith,
    λ h. let low = given h in let w = low.names in (low_state s _ low (record { scopes = (w.kept, w.scopes); ended = w.ended; heads = w.heads; kept = w.kept }), refl),
  )

  opened_alike : (p : Production) (k : ℕ) (s : State) → opened p k (swapped b s) ≡ swapped b (opened p k s)
  unfolding opened
  opened_alike p k s = refl

  opened_at : (p : Production) (k : ℕ) (s : State) → (opened p k s).at ≡ s.at
  unfolding opened
  opened_at p k s = refl

  opened_given : (p : Production) (k : ℕ) (s : State) → Given s → Given (opened p k s)
  unfolding opened
  opened_given p k s given = λ h. let low = given h in record { of_a = low.of_a; names = low_opened n p s.names low.names; built = tt }

  follows_closed : (p : Production) (outer s : State) → Given outer → outer.at ≤ s.at → Given s
      → Follows s.at (Ok (closed p outer s)) (Ok (closed p (swapped b outer) (swapped b s)))
  unfolding closed
  follows_closed p outer s around behind given = (
    omega arith,
    λ h.
        let low = given h in
        let low_outer = around (omega (arith, h, behind)) in (
          record {
            of_a = low.of_a;
            names = low_closed n p s.names low.names;
            built = low_put n outer.built.under (inner (finished p s.built)) low_outer.built (low_finished n p s.built low.built);
          },
          refl,
        ),
  )

  module _ (below below' : ℕ → Goal → State → Step)
      (same : (depth : ℕ) (goal : Goal) (s : State) → Given s → Follows s.at (below depth goal s) (below' depth goal (swapped b s))) where
    follows_step : (item : Item) (depth : ℕ) (s : State) → Given s → Follows s.at (step g below depth item s) (step g below' depth item (swapped b s))
    follows_step (one classes) depth s given = follows_take classes s given
    follows_step (part p) depth s given = same depth (produce p) s given
    follows_step end_of_text depth s given = follows_end s given
    follows_step (act action) depth s given = follows_acted action s given
    follows_step (x · y) depth s given = follows_then s.at _ _ _ _ (follows_step x depth s given) (λ s' later given'. follows_step y depth s' given')
    follows_step (choice x y) depth s given =
        follows_if s.at _ _ _ _ _ _ (may_alike own x s given) (follows_step x depth s given)
        (follows_if s.at _ _ _ _ _ _ (may_alike own y s given) (follows_step y depth s given) tt)
    follows_step (maybe x) depth s given = follows_if s.at _ _ _ _ _ _ (may_alike own x s given) (follows_step x depth s given) (stays s given)
    follows_step (many t x) depth s given =
        follows_if s.at _ _ _ _ _ _ (may_alike t x s given)
        (follows_then s.at _ _ _ _ (follows_step x depth s given) (λ s' later given'. same depth (repeat t x) s' given')) (stays s given)
    follows_step (deep x) depth s given =
        follows_then s.at _ _ _ _ (follows_enter depth _ _ s given (may_alike own x s given)) (λ s' later given'. follows_step x (depth + 1) s' given')

    follows_alternative : (p : Production) (body : Item) (depth k : ℕ) (s : State) → Given s
        → Follows s.at (alternative g below depth p k body s) (alternative g below' depth p k body (swapped b s))
    follows_alternative p body depth k s given =
        let o : State = opened p k s in
        let e : o.at ≡ s.at = opened_at p k s in
        let inside : Follows o.at (step g below depth body o) (step g below' depth body (swapped b o)) = follows_step body depth o (opened_given p k s given) in
        let inside' : Follows s.at (step g below depth body o) (step g below' depth body (opened p k (swapped b s))) =
        subst (λ x. Follows x (step g below depth body o) (step g below' depth body (opened p k (swapped b s)))) e
        (subst (λ x. Follows o.at (step g below depth body o) (step g below' depth body x)) (sym (opened_alike p k s)) inside) in
        follows_then s.at _ _ _ _ inside' (λ s' later given'. follows_closed p s s' given later given')

    follows_pick : (p : Production) (alternatives : List Alternative) (depth k : ℕ) (s : State) → Given s
        → Follows s.at (pick g below depth p k alternatives s) (pick g below' depth p k alternatives (swapped b s))
    follows_pick p [] depth k s given = tt
    follows_pick p (x ∷ more) depth k s given =
        follows_if s.at _ _ _ _ _ _ (may_alike x.test x.body s given) (follows_alternative p x.body depth k s given) (follows_pick p more depth (k + 1) s given)

    follows_run : (depth : ℕ) (goal : Goal) (s : State) → Given s → Follows s.at (run g below depth goal s) (run g below' depth goal (swapped b s))
    follows_run depth (produce p) s given = follows_pick p (g.table p) depth 1 s given
    follows_run depth (repeat t x) s given = follows_step (many t x) depth s given

  follows_within : (fuel depth : ℕ) (goal : Goal) (s : State) → Given s
      → Follows s.at (read_within g fuel depth goal s) (read_within g fuel depth goal (swapped b s))
  unfolding read_within
  follows_within zero depth goal s given = tt
  follows_within (suc fuel) depth goal s given = follows_run (read_within g fuel) (read_within g fuel) (follows_within fuel) depth goal s given

  module _ (sound : IsSound g) where
    -- each has so many steps that it needs no more
    follows_whole : (depth : ℕ) (goal : Goal) (s : State) → is_met goal ≡ true → Given s → Follows s.at (whole g depth goal s) (whole g depth goal (swapped b s))
    unfolding whole
    follows_whole depth goal s met given =
        let fuel : ℕ = steps_for goal s + steps_for goal (swapped b s) in
        let e : read_within g fuel depth goal s ≡ whole g depth goal s = within-agree g sound fuel (steps_for goal s) depth goal s met (omega arith) (omega arith) in
        let f : read_within g fuel depth goal (swapped b s) ≡ whole g depth goal (swapped b s) =
        within-agree g sound fuel (steps_for goal (swapped b s)) depth goal (swapped b s) met (omega arith) (omega arith) in
        subst (λ x. Follows s.at x (whole g depth goal (swapped b s))) e
        (subst (λ x. Follows s.at (read_within g fuel depth goal s) x) f (follows_within fuel depth goal s given))

    follows_external : (s : State) → Given s → Follows s.at (external g s) (external g (swapped b s))
    follows_external s given = follows_if s.at _ _ _ _ _ _ (may_alike own (part External) s given) (follows_whole 0 (produce External) s refl given) tt

    follows_externals : (k : ℕ) → Follows 0 (externals g k (at_first a)) (externals g k (at_first b))
    follows_externals zero =
        stays (at_first a) (λ h. record { of_a = refl; names = record { scopes = (tt, tt); ended = tt; heads = tt; kept = tt }; built = tt })
    follows_externals (suc k) = follows_then 0 _ _ _ _ (follows_externals k) (λ s later given. follows_external s given)

pub fronts_read_alike : FrontsReadAlike
fronts_read_alike d n k a b s alike read seen =
    let P : Step → Type 0 = λ r. Follows (grammar d) n a b alike 0 r (externals (grammar d) k (at_first b)) in
    ((subst P read (follows_externals (grammar d) n a b alike (grammar-sound d) k)).1 seen).1
