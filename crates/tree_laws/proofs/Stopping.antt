-- Where reading stops, a token of the text stands, or its end.
use Rattle.std.proofs.Common.{ℕ, zero, suc, ◌+◌, ◌<◌, ◌≤◌, ◌≡◌, Bool, true, false, ◌&&◌, if◌then◌else◌, List, [], ◌∷◌, length, Ok, Err, nat_lt, ◌==◌, refl, subst, arith}
use Rattle.std.specs.Prelude.{IfErr}
use Rattle.std.proofs.lemmas.Bool.{ltb-true}
use Rattle.cs_base.specs.Token.{Token}
use Rattle.c99_tree.specs.declared.production.Production.{Production}
use Rattle.c99_tree.specs.declared.production.Production.TheVariants.{TranslationUnit}
use Rattle.c99_grammar.specs.Classes.{among}
use Rattle.c99_grammar.specs.Items.{Item, one, part, end_of_text, act, ◌·◌, choice, maybe, many, deep, own, Alternative}
use Rattle.c99_read.specs.State.{State, class_at, acted, opened, closed}
use Rattle.c99_grammar.specs.Standard.{Grammar}
use Rattle.c99_read.specs.Reading.{Goal, produce, repeat, Step, and_then, deepest, take_one, at_end, enter, may, step, pick, run, read_within, steps_for, whole, at_first, tree_of, syntax}
use Rattle.tree_laws.specs.ReadTexts.{place_of, ReadingStopsInTheText}
use Rattle.tree_laws.proofs.Walked.{with_token}

module _ (g : Grammar) (toks : List Token) where
  -- the state is one of this text, and stands in it
  record Inside (s : State) : Type 0 where
    own : s.toks ≡ toks
    within : s.at ≤ length toks

  -- so does the state that is left, or the place of the stop
  abbrev Ends : Step → Type 0
  Ends (Ok s) = Inside s
  Ends (Err stop) = place_of stop ≤ length toks

  ends_if : (b : Bool) (r r' : Step) → Ends r → Ends r' → Ends (if b then r else r')
  ends_if true r r' m m' = m
  ends_if false r r' m m' = m'

  ends_then : (r : Step) (next_step : State → Step) → Ends r → ((s : State) → Inside s → Ends (next_step s)) → Ends (and_then r next_step)
  ends_then (Ok s) next_step m n = n s m
  ends_then (Err stop) next_step m n = m

  more : (s : State) → Inside s → nat_lt s.at (length s.toks) ≡ true → s.at + 1 ≤ length toks
  more s i h =
      let less : s.at < length s.toks = ltb-true s.at (length s.toks) h in
      let here : s.at < length toks = subst (λ ts. s.at < length ts) i.own less in
      omega (arith, here)

  ends_at_end : (s : State) → Inside s → Ends (at_end s)
  unfolding at_end
  ends_at_end s i = ends_if (s.at == length s.toks) _ _ i i.within

  ends_enter : (depth : ℕ) (b : Bool) (s : State) → Inside s → Ends (enter depth b s)
  unfolding enter
  ends_enter depth b s i = ends_if b _ _ (ends_if (nat_lt depth deepest) _ _ i i.within) i.within

  module _ (below : ℕ → Goal → State → Step) (reads : (depth : ℕ) (goal : Goal) (s : State) → Inside s → Ends (below depth goal s)) where
    ends_step : (item : Item) (depth : ℕ) (s : State) → Inside s → Ends (step g below depth item s)
    unfolding acted take_one
    ends_step (one classes) depth s i = by (nat_lt s.at (length s.toks)) (among classes (class_at g s s.at)) (more s i)
      where
        by : (b c : Bool) → (b ≡ true → s.at + 1 ≤ length toks) → Ends (if b && c then Ok (with_token s) else Err (syntax s.at))
        by true true h = record { own = i.own; within = h refl }
        by true false h = i.within
        by false c h = i.within
    ends_step (part p) depth s i = reads depth (produce p) s i
    ends_step end_of_text depth s i = ends_at_end s i
    ends_step (act a) depth s i = record { own = i.own; within = i.within }
    ends_step (a · b) depth s i = ends_then _ (step g below depth b) (ends_step a depth s i) (λ s' j. ends_step b depth s' j)
    ends_step (choice a b) depth s i =
        ends_if (may g own a s) _ _ (ends_step a depth s i) (ends_if (may g own b s) _ _ (ends_step b depth s i) i.within)
    ends_step (maybe a) depth s i = ends_if (may g own a s) _ _ (ends_step a depth s i) i
    ends_step (many t a) depth s i =
        ends_if (may g t a s) _ _ (ends_then _ (below depth (repeat t a)) (ends_step a depth s i) (λ s' j. reads depth (repeat t a) s' j)) i
    ends_step (deep a) depth s i =
        ends_then _ (step g below (depth + 1) a) (ends_enter depth (may g own a s) s i) (λ s' j. ends_step a (depth + 1) s' j)

    ends_pick : (depth : ℕ) (p : Production) (n : ℕ) (alternatives : List Alternative) (s : State) → Inside s → Ends (pick g below depth p n alternatives s)
    unfolding opened closed
    ends_pick depth p n [] s i = i.within
    ends_pick depth p n (a ∷ more) s i =
        ends_if (may g a.test a.body s) _ _
        (ends_then _ (λ s'. Ok (closed p s s')) (ends_step a.body depth (opened p n s) (record { own = i.own; within = i.within }))
        (λ s' j. record { own = j.own; within = j.within }))
        (ends_pick depth p (n + 1) more s i)

    ends_run : (depth : ℕ) (goal : Goal) (s : State) → Inside s → Ends (run g below depth goal s)
    ends_run depth (produce p) s i = ends_pick depth p 1 (g.table p) s i
    ends_run depth (repeat t a) s i = ends_step (many t a) depth s i

  ends_within : (fuel depth : ℕ) (goal : Goal) (s : State) → Inside s → Ends (read_within g fuel depth goal s)
  unfolding read_within
  ends_within zero depth goal s i = i.within
  ends_within (suc fuel) depth goal s i = ends_run (read_within g fuel) (ends_within fuel) depth goal s i

  -- where nothing is read yet
  inside_first : Inside (at_first toks)
  inside_first = record { own = refl; within = omega arith }

pub stops_in_text : ReadingStopsInTheText
unfolding whole
stops_in_text = λ g toks.
    by g toks (read_within g (steps_for (produce TranslationUnit) (at_first toks)) 0 (produce TranslationUnit) (at_first toks))
    (ends_within g toks (steps_for (produce TranslationUnit) (at_first toks)) 0 (produce TranslationUnit) (at_first toks) (inside_first g toks))
  where
    by : (g : Grammar) (toks : List Token) (r : Step) → Ends g toks r → IfErr (tree_of r) (λ stop. place_of stop ≤ length toks)
    by g toks (Ok s) m = tt
    by g toks (Err stop) m = m
