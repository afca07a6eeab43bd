-- Reading keeps what the open node has.
use Rattle.std.proofs.Common.{ℕ, zero, suc, ◌+◌, ◌≡◌, Bool, true, false, ◌&&◌, ◌||◌, if◌then◌else◌, ◌==◌, List, [], ◌∷◌, length, Ok, Err, nat_lt, refl, ap, ◌∙◌}
use Rattle.c99_tree.specs.Tree.{leaf, put}
use Rattle.c99_tree.specs.declared.production.Label.{Label}
use Rattle.c99_tree.specs.declared.production.Production.{Production}
use Rattle.c99_grammar.specs.declared.classes.Class.{Class}
use Rattle.c99_grammar.specs.Classes.{among}
use Rattle.c99_grammar.specs.Items.{Item, one, part, end_of_text, act, ◌·◌, choice, maybe, many, deep, own, Action, Alternative}
use Rattle.c99_grammar.specs.Standard.{Grammar}
use Rattle.c99_read.specs.State.{State, class_at, acted, opened, closed, finished}
use Rattle.c99_read.specs.Reading.{Goal, produce, repeat, Step, syntax, too_deep, and_then, deepest, take_one, at_end, enter, may, step, alternative, pick, read_within}
use Rattle.reordered_text_laws.specs.Fronted.{strays, dirty}
use Rattle.reordered_text_laws.proofs.CleanNames.{dirty-leaf, dirty-inner}

module _ (used : ℕ → Bool) where
  -- the open node is the same, and what strayed in it strays
  abbrev pub Grown : State → Step → Type 0
  Grown s (Err stop) = Unit {0}
  Grown s (Ok s') = (s'.built.label ≡ s.built.label) × ((l : Label) → dirty used l s.built.under ≡ true → dirty used l s'.built.under ≡ true)

  grown_still : (s : State) → Grown s (Ok s)
  grown_still s = (refl, λ l d. d)

  grown_if : (s : State) (c : Bool) (r q : Step) → Grown s r → Grown s q → Grown s (if c then r else q)
  grown_if s true r q m n = m
  grown_if s false r q m n = n

  pub grown_then : (s : State) (r : Step) (f : State → Step) → Grown s r → ((s' : State) → Grown s' (f s')) → Grown s (and_then r f)
  grown_then s (Err stop) f m n = tt
  grown_then s (Ok s') f m n = by (f s') (n s')
    where
      by : (r : Step) → Grown s' r → Grown s r
      by (Err stop) k = tt
      by (Ok s'') k = (k.0 ∙ m.0, λ l d. k.1 l (m.1 l d))

  module _ (g : Grammar) where
    grown_one : (L : List Class) (s : State) → Grown s (take_one g L s)
    unfolding take_one
    grown_one L s = by (nat_lt s.at (length s.toks) && among L (class_at g s s.at))
      where
        by : (c : Bool) → Grown s (if c then Ok (record s { at = s.at + 1; built = record s.built { under = put s.built.under (leaf s.at) } }) else Err (syntax s.at))
        by true = (refl, λ l d. dirty-leaf used l s.built.under s.at ∙ ap (λ b. b || strays used l s.at) d)
        by false = tt

    pub grown_end : (s : State) → Grown s (at_end s)
    unfolding at_end
    grown_end s = grown_if s (s.at == length s.toks) (Ok s) (Err (syntax s.at)) (grown_still s) tt

    grown_enter : (depth : ℕ) (c : Bool) (s : State) → Grown s (enter depth c s)
    unfolding enter
    grown_enter depth c s =
        grown_if s c (if nat_lt depth deepest then Ok s else Err (too_deep s.at)) (Err (syntax s.at))
        (grown_if s (nat_lt depth deepest) (Ok s) (Err (too_deep s.at)) (grown_still s) tt) tt

    grown_act : (a : Action) (s : State) → Grown s (Ok (acted g a s))
    unfolding acted
    grown_act a s = (refl, λ l d. d)

    grown_closed : (p : Production) (s : State) (r : Step) → Grown s (and_then r (λ s'. Ok (closed p s s')))
    unfolding closed
    grown_closed p s (Err stop) = tt
    grown_closed p s (Ok s') =
        (refl, λ l d. dirty-inner used l s.built.under (finished p s'.built) ∙ ap (λ b. b || dirty used (finished p s'.built).label (finished p s'.built).under) d)

    module _ (below : ℕ → Goal → State → Step) (grown : (depth : ℕ) (goal : Goal) (s : State) → Grown s (below depth goal s)) where
      pub grown_item : (item : Item) (depth : ℕ) (s : State) → Grown s (step g below depth item s)
      grown_item (one L) depth s = grown_one L s
      grown_item (part p) depth s = grown depth (produce p) s
      grown_item end_of_text depth s = grown_end s
      grown_item (act a) depth s = grown_act a s
      grown_item (a · b) depth s = grown_then s (step g below depth a s) (step g below depth b) (grown_item a depth s) (λ s'. grown_item b depth s')
      grown_item (choice a b) depth s =
          grown_if s (may g own a s) (step g below depth a s) (if may g own b s then step g below depth b s else Err (syntax s.at)) (grown_item a depth s)
          (grown_if s (may g own b s) (step g below depth b s) (Err (syntax s.at)) (grown_item b depth s) tt)
      grown_item (maybe a) depth s = grown_if s (may g own a s) (step g below depth a s) (Ok s) (grown_item a depth s) (grown_still s)
      grown_item (many t a) depth s =
          grown_if s (may g t a s) (and_then (step g below depth a s) (below depth (repeat t a))) (Ok s)
          (grown_then s (step g below depth a s) (below depth (repeat t a)) (grown_item a depth s) (λ s'. grown depth (repeat t a) s')) (grown_still s)
      grown_item (deep a) depth s = grown_then s (enter depth (may g own a s) s) (step g below (depth + 1) a) (grown_enter depth (may g own a s) s) (λ s'. grown_item a (depth + 1) s')

      grown_first : (p : Production) (alternatives : List Alternative) (depth n : ℕ) (s : State) → Grown s (pick g below depth p n alternatives s)
      grown_first p [] depth n s = tt
      grown_first p (a ∷ more) depth n s =
          grown_if s (may g a.test a.body s) (alternative g below depth p n a.body s) (pick g below depth p (n + 1) more s)
          (grown_closed p s (step g below depth a.body (opened p n s))) (grown_first p more depth (n + 1) s)

    pub grown_within : (fuel depth : ℕ) (goal : Goal) (s : State) → Grown s (read_within g fuel depth goal s)
    unfolding read_within
    grown_within zero depth goal s = tt
    grown_within (suc fuel) depth (produce p) s = grown_first (read_within g fuel) (grown_within fuel) p (g.table p) depth 1 s
    grown_within (suc fuel) depth (repeat t a) s = grown_item (read_within g fuel) (grown_within fuel) (many t a) depth s
