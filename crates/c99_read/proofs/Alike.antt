-- Reading sees tokens through their classes: two lists that are alike are read to the same tree.
use Rattle.std.proofs.Common.{ℕ, suc, zero, ◌+◌, ◌-◌, ◌*◌, ◌≡◌, Bool, true, false, ◌&&◌, if◌then◌else◌, unwrap_or, List, [], ◌∷◌, length, Option, None, Some, Ok, Err, nat_lt, ◌==◌, refl, sym, ap, subst, ◌∙◌}
use Rattle.std.specs.Str.{bytes_eq}
use Rattle.cs_base.specs.Token.{Token}
use Rattle.c99_tree.specs.Names.{latest}
use Rattle.c99_tree.specs.Tree.{Forest, none, token, node}
use Rattle.c99_tree.specs.declared.production.Production.{Production}
use Rattle.c99_tree.specs.declared.production.Production.TheVariants.{TranslationUnit}
use Rattle.c99_grammar.specs.declared.classes.Class.{Class}
use Rattle.c99_read.specs.declared.names.Declaration.{Declaration}
use Rattle.c99_grammar.specs.declared.classes.Class.TheVariants.{TypedefName}
use Rattle.c99_read.specs.Alike.{IsAlike, AlikeReadAlike}
use Rattle.c99_grammar.specs.Classes.{among}
use Rattle.c99_grammar.specs.Items.{Item, one, part, end_of_text, act, ◌·◌, choice, maybe, many, deep, Test, own, Action, scope, end, declare, name, keep, again, Alternative}
use Rattle.c99_read.specs.State.{State, base_at, spelling_at, spelled_scope, is_typedef_at, is_identifier, class_at, last_identifier, with_declared, acted, opened, closed}
use Rattle.c99_grammar.specs.Standard.{Grammar, grammar}
use Rattle.c99_read.specs.Reading.{Goal, produce, repeat, Step, and_then, goal_order, tree_of, at_first, take_one, at_end, enter, may, step, pick, run, read_within, whole}
use Rattle.c99_grammar.specs.Starting.{holds, starts}

-- the state with the other tokens
abbrev pub swapped : List Token → State → State
swapped b s = record s { toks = b }

if_alike : {A : Type 0} (p q : Bool) (x y : A) → p ≡ q → (if p then x else y) ≡ (if q then x else y)
if_alike p q x y e = ap (λ c. if c then x else y) e

module _ (g : Grammar) (a b : List Token) (alike : IsAlike g a b) where
  latest_alike : (scope : List Declaration) (k : ℕ) → latest (spelled_scope a scope) (spelling_at a k) ≡ latest (spelled_scope b scope) (spelling_at b k)
  latest_alike [] k = refl
  latest_alike (d ∷ older) k =
      if_alike _ _ (Some d.typedef) (latest (spelled_scope a older) (spelling_at a k)) (alike.spellings k d.name_at)
      ∙ ap (λ o. if bytes_eq (spelling_at b k) (spelling_at b d.name_at) then Some d.typedef else o) (latest_alike older k)

  typedef_alike : (scopes : List (List Declaration)) (k : ℕ) → is_typedef_at a scopes k ≡ is_typedef_at b scopes k
  typedef_alike [] k = refl
  typedef_alike (s ∷ outer) k =
      ap (λ o. unwrap_or o (is_typedef_at a outer k)) (latest_alike s k)
      ∙ ap (λ r. unwrap_or (latest (spelled_scope b s) (spelling_at b k)) r) (typedef_alike outer k)

  class_alike : (s : State) (k : ℕ) → s.toks ≡ a → class_at g (swapped b s) k ≡ class_at g s k
  unfolding class_at
  class_alike s k of_a =
      let e : base_at g s.toks k ≡ base_at g b k = ap (λ t. base_at g t k) of_a ∙ alike.classes k in
      let f : is_typedef_at s.toks s.names.scopes k ≡ is_typedef_at b s.names.scopes k =
      ap (λ t. is_typedef_at t s.names.scopes k) of_a ∙ typedef_alike s.names.scopes k in
      sym (ap (λ c. if is_identifier c && is_typedef_at s.toks s.names.scopes k then TypedefName else c) e
      ∙ ap (λ t. if is_identifier (base_at g b k) && t then TypedefName else base_at g b k) f)

  identifier_alike : (f : Forest) (found : Option ℕ) → last_identifier g a f found ≡ last_identifier g b f found
  identifier_alike none found = refl
  identifier_alike (token i rest) found =
      ap (last_identifier g a rest) (if_alike _ _ (Some i) found (ap is_identifier (alike.classes i))) ∙ identifier_alike rest _
  identifier_alike (node l first under rest) found = identifier_alike rest found

  -- the second is what the first gives, with the other tokens
  abbrev pub Same : Step → Step → Type 0
  Same (Ok s) r = (s.toks ≡ a) × (r ≡ Ok (swapped b s))
  Same (Err stop) r = r ≡ Err stop

  same_then : (r r' : Step) (f f' : State → Step) → Same r r' → ((s : State) → s.toks ≡ a → Same (f s) (f' (swapped b s)))
      → Same (and_then r f) (and_then r' f')
  same_then (Ok s) r' f f' same next_same = subst (λ q. Same (f s) (and_then q f')) (sym same.1) (next_same s same.0)
  same_then (Err stop) r' f f' same next_same = ap (λ q. and_then q f') same

  same_if : (p p' : Bool) (r r' q q' : Step) → p' ≡ p → Same r r' → Same q q' → Same (if p then r else q) (if p' then r' else q')
  same_if true p' r r' q q' e m n = subst (λ c. Same r (if c then r' else q')) (sym e) m
  same_if false p' r r' q q' e m n = subst (λ c. Same q (if c then r' else q')) (sym e) n

  same_may : (t : Test) (item : Item) (s : State) → s.toks ≡ a → may g t item (swapped b s) ≡ may g t item s
  same_may t item s of_a =
      ap (λ c. holds g t (starts g item c (class_at g (swapped b s) (s.at + 1))) c (class_at g (swapped b s) (s.at + 1))) (class_alike s s.at of_a)
      ∙ ap (λ d. holds g t (starts g item (class_at g s s.at) d) (class_at g s s.at) d) (class_alike s (s.at + 1) of_a)

  same_take : (classes : List Class) (s : State) → s.toks ≡ a → Same (take_one g classes s) (take_one g classes (swapped b s))
  unfolding take_one
  same_take classes s of_a =
      same_if _ _ _ _ _ _
      (ap (λ n. nat_lt s.at n && among classes (class_at g (swapped b s) s.at)) (sym (ap length of_a ∙ alike.as_long))
      ∙ ap (λ c. nat_lt s.at (length s.toks) && among classes c) (class_alike s s.at of_a))
      (of_a, refl) refl

  same_at_end : (s : State) → s.toks ≡ a → Same (at_end s) (at_end (swapped b s))
  unfolding at_end
  same_at_end s of_a = same_if _ _ _ _ _ _ (ap (λ n. s.at == n) (sym (ap length of_a ∙ alike.as_long))) (of_a, refl) refl

  same_enter : (depth : ℕ) (p p' : Bool) (s : State) → s.toks ≡ a → p' ≡ p → Same (enter depth p s) (enter depth p' (swapped b s))
  unfolding enter
  same_enter depth p p' s of_a e =
      same_if p p' _ _ _ _ e (same_if (nat_lt depth 256) (nat_lt depth 256) _ _ _ _ refl (of_a, refl) refl) refl

  same_acted : (action : Action) (s : State) → s.toks ≡ a → Same (Ok (acted g action s)) (Ok (acted g action (swapped b s)))
  unfolding acted
  same_acted scope s of_a = (of_a, refl)
  same_acted end s of_a = (of_a, refl)
  same_acted declare s of_a = (of_a, refl)
  same_acted name s of_a = (
    of_a,
    ap (λ i. Ok (record (swapped b s) { names = with_declared s.names i false }))
        (sym (ap (λ t. last_identifier g t s.built.under None) of_a ∙ identifier_alike s.built.under None)),
  )
  same_acted keep s of_a = (of_a, refl)
  same_acted again s of_a = (of_a, refl)

  same_opened : (p : Production) (n : ℕ) (s : State) → opened p n (swapped b s) ≡ swapped b (opened p n s)
  unfolding opened
  same_opened p n s = refl

  opened_of : (p : Production) (n : ℕ) (s : State) → (opened p n s).toks ≡ s.toks
  unfolding opened
  opened_of p n s = refl

  same_closed : (p : Production) (outer s : State) → s.toks ≡ a → Same (Ok (closed p outer s)) (Ok (closed p (swapped b outer) (swapped b s)))
  unfolding closed
  same_closed p outer s of_a = (of_a, refl)

  module _ (below below' : ℕ → Goal → State → Step)
      (same : (depth : ℕ) (goal : Goal) (s : State) → s.toks ≡ a → Same (below depth goal s) (below' depth goal (swapped b s))) where
    same_step : (item : Item) (depth : ℕ) (s : State) → s.toks ≡ a → Same (step g below depth item s) (step g below' depth item (swapped b s))
    same_step (one classes) depth s of_a = same_take classes s of_a
    same_step (part p) depth s of_a = same depth (produce p) s of_a
    same_step end_of_text depth s of_a = same_at_end s of_a
    same_step (act action) depth s of_a = same_acted action s of_a
    same_step (x · y) depth s of_a = same_then _ _ _ _ (same_step x depth s of_a) (λ s' of_a'. same_step y depth s' of_a')
    same_step (choice x y) depth s of_a =
        same_if _ _ _ _ _ _ (same_may own x s of_a) (same_step x depth s of_a)
        (same_if _ _ _ _ _ _ (same_may own y s of_a) (same_step y depth s of_a) refl)
    same_step (maybe x) depth s of_a = same_if _ _ _ _ _ _ (same_may own x s of_a) (same_step x depth s of_a) (of_a, refl)
    same_step (many t x) depth s of_a =
        same_if _ _ _ _ _ _ (same_may t x s of_a)
        (same_then _ _ _ _ (same_step x depth s of_a) (λ s' of_a'. same depth (repeat t x) s' of_a')) (of_a, refl)
    same_step (deep x) depth s of_a =
        same_then _ _ _ _ (same_enter depth _ _ s of_a (same_may own x s of_a)) (λ s' of_a'. same_step x (depth + 1) s' of_a')

    same_pick : (p : Production) (alternatives : List Alternative) (depth n : ℕ) (s : State) → s.toks ≡ a
        → Same (pick g below depth p n alternatives s) (pick g below' depth p n alternatives (swapped b s))
    same_pick p [] depth n s of_a = refl
    same_pick p (x ∷ more) depth n s of_a =
        same_if _ _ _ _ _ _ (same_may x.test x.body s of_a)
        (same_then _ _ _ _
        (subst (λ q. Same (step g below depth x.body (opened p n s)) (step g below' depth x.body q)) (sym (same_opened p n s))
        (same_step x.body depth (opened p n s) (opened_of p n s ∙ of_a)))
        (λ s' of_a'. same_closed p s s' of_a'))
        (same_pick p more depth (n + 1) s of_a)

    same_run : (depth : ℕ) (goal : Goal) (s : State) → s.toks ≡ a → Same (run g below depth goal s) (run g below' depth goal (swapped b s))
    same_run depth (produce p) s of_a = same_pick p (g.table p) depth 1 s of_a
    same_run depth (repeat t x) s of_a = same_step (many t x) depth s of_a

  same_within : (fuel depth : ℕ) (goal : Goal) (s : State) → s.toks ≡ a
      → Same (read_within g fuel depth goal s) (read_within g fuel depth goal (swapped b s))
  unfolding read_within
  same_within zero depth goal s of_a = refl
  same_within (suc fuel) depth goal s of_a = same_run (read_within g fuel) (read_within g fuel) (same_within fuel) depth goal s of_a

  -- `whole` of both has as many steps, since as many tokens are left
  pub same_whole : (depth : ℕ) (goal : Goal) (s : State) → s.toks ≡ a → Same (whole g depth goal s) (whole g depth goal (swapped b s))
  unfolding whole
  same_whole depth goal s of_a =
      subst (λ n. Same (whole g depth goal s) (read_within g (64 * (n - s.at) + goal_order goal + 1) depth goal (swapped b s)))
      (ap length of_a ∙ alike.as_long) (same_within _ depth goal s of_a)

tree_alike : (g : Grammar) (a b : List Token) (alike : IsAlike g a b) (r r' : Step) → Same g a b alike r r' → tree_of r ≡ tree_of r'
tree_alike g a b alike (Ok s) r' same = sym (ap tree_of same.1)
tree_alike g a b alike (Err stop) r' same = sym (ap tree_of same)

pub alike_read_alike : AlikeReadAlike
alike_read_alike std a b alike =
    tree_alike (grammar std) a b alike _ _ (same_whole (grammar std) a b alike 0 (produce TranslationUnit) (at_first a) refl)
