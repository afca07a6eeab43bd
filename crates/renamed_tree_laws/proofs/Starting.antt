-- What is known of the next token where something was read and reading did not stop.
use Rattle.std.proofs.Common.{ℕ, zero, suc, ◌+◌, ◌≡◌, Bool, true, false, ◌&&◌, ◌||◌, not, if◌then◌else◌, ◌==◌, List, [], ◌∷◌, length, None, slice_get, Ok, refl, sym, ap, subst, ◌∙◌, arith, inl, inr}
use Rattle.std.specs.Option.{option_map_or}
use Rattle.std.proofs.lemmas.Bool.{false≢true, and_parts, and_from, or_cases, not-true}
use Rattle.c99_grammar.specs.declared.dialects.Dialect.{Dialect}
use Rattle.cs_base.specs.Token.{Token}
use Rattle.cs_base.proofs.BoolLemmas.{or_met as implied}
use Rattle.c99_tree.specs.declared.production.Label.{Label}
use Rattle.c99_tree.specs.declared.production.Production.{Production}
use Rattle.c99_grammar.specs.Classes.{among}
use Rattle.c99_grammar.specs.Items.{Item, one, part, end_of_text, act, ◌·◌, choice, maybe, many, deep, own, Test, next_two, is, Action, scope, Alternative}
use Rattle.c99_grammar.specs.Standard.{grammar}
use Rattle.c99_read.specs.State.{State, base_at, is_identifier, class_at, acted, opened, closed}
use Rattle.c99_grammar.specs.TokenClasses.{base_class}
use Rattle.c99_read.specs.Reading.{Goal, produce, repeat, Step, enter, may, step, pick, run, read_within}
use Rattle.c99_grammar.specs.Starting.{asks}
use Rattle.renamed_tree_laws.specs.Along.{along_rest, along_item, along_first, along_goal, along_within}
use Rattle.renamed_tree_laws.proofs.Private.{Class, identifier, typedef_name, end_class, no_class, colons, fronts, covers}
use Rattle.renamed_tree_laws.proofs.Twins.{plain_is, plain_class, class_so, Same}
use Rattle.renamed_tree_laws.proofs.Moods.{Mood, any, label, calm, solid, taken, start_mood, is_second, is_asked, is_told, takes_colon, before_colon, labelled_mood, mood, is_calm_behind, many_calm, second_known, not_front, front_free, told_where, named_where, placed, is_bare_test, second_where, is_known, are_known, is_production_known, decided}
use Rattle.renamed_tree_laws.proofs.Could.{may_no}
use Rattle.renamed_tree_laws.proofs.Knowing.{Known, known_less, known_first, known_second, known_both}
use Rattle.renamed_tree_laws.proofs.Steps.{stopped, ok_is, between, branch, Takes, takes, ends, enters, opened_scopes, opened_at, opened_class}
use Rattle.renamed_tree_laws.proofs.Keeping.{labelled, fit, placed_goal, Kept, Fine, fine_opened, step_keeps, within_keeps}

-- behind the last token stands no identifier
none_past : (toks : List Token) (k : ℕ) → k ≡ length toks → slice_get toks k ≡ None
none_past [] k e = refl
none_past (t ∷ toks) zero e = absurd (omega (arith, e))
none_past (t ∷ toks) (suc k) e = none_past toks k (omega (arith, e))

pub rest_so : (r : Step) (asked : State → Bool) (s : State) → r ≡ Ok s → along_rest r asked ≡ true → asked s ≡ true
rest_so r asked s e h = subst (λ x. along_rest x asked ≡ true) e h

module _ (std : Dialect) where
  end_is : (toks : List Token) (k : ℕ) → k ≡ length toks → is_identifier (base_at (grammar std) toks k) ≡ false
  end_is toks k e =
      subst (λ t. is_identifier (option_map_or (base_class (grammar std)) t (if k == length toks then end_class else no_class)) ≡ false)
      (sym (none_past toks k e)) (by (k == length toks))
    where
      by : (c : Bool) → is_identifier (if c then end_class else no_class) ≡ false
      by true = refl
      by false = refl

  -- What is asked along the reading makes tokens the same: of a token that is read by what it denotes, and of the second
  -- token of a node.
  pub record Asked (a b : List Token) (Good : State → Type 0) (of_token : State → Bool) (of_node : Production → ℕ → State → Bool) : Type 0 where
    pub tokens : (s : State) (L : List Class) → s.toks ≡ a → Good s → is_told s.built.label.production s.built.label.alternative L ≡ true
        → among L (class_at (grammar std) s s.at) ≡ true → of_token s ≡ true → Same std a b s.names.scopes s.at
    pub nodes : (p : Production) (n : ℕ) (s : State) (M : List Class) → s.toks ≡ a → is_asked p n ≡ true → among M typedef_name ≡ false
        → among M (class_at (grammar std) s (s.at + 1)) ≡ true → of_node p n s ≡ true → Same std a b s.names.scopes (s.at + 1)

  module _ (a b : List Token) (Good : State → Type 0) (kept : Kept std a Good) (of_token : State → Bool) (of_node : Production → ℕ → State → Bool)
      (asked : Asked a b Good of_token of_node) where
    abbrev pub Knows : Mood → State → Type 0
    Knows m s = Known std a b s.names.scopes s.at m

    -- what the table of moods says of a production
    pub record Begins (p : Production) (s : State) : Type 0 where
      pub first : Knows (start_mood std p) s
      pub second : is_second p ≡ true → among fronts (class_at (grammar std) s s.at) ≡ true → Same std a b s.names.scopes (s.at + 1)

    no_identifier : (s : State) (k : ℕ) → s.toks ≡ a → is_identifier (base_at (grammar std) s.toks k) ≡ false → is_identifier (base_at (grammar std) a k) ≡ false
    no_identifier s k of_a h = ap (λ t. is_identifier (base_at (grammar std) t k)) (sym of_a) ∙ h

    -- a token that was taken
    taken_knows : (l : Label) (L : List Class) (s : State) → placed l (one L) ≡ true → Fine std a Good kept l s → among L (class_at (grammar std) s s.at) ≡ true
        → of_token s ≡ true → Knows (taken L) s
    taken_knows l L s h f e so =
        by (among L identifier) (among L typedef_name) refl refl
        (and_parts (told_where (taken L) (is_told l.production l.alternative L)) (named_where _ L) h).0
      where
        told : is_told l.production l.alternative L ≡ true → Same std a b s.names.scopes s.at
        told k = asked.tokens s L f.text f.good (ap (λ (m : Label). is_told m.production m.alternative L) f.label ∙ k) e so

        by : (i t : Bool) → among L identifier ≡ i → among L typedef_name ≡ t
            → told_where (if i then (if t then any else calm) else (if t then calm else solid)) (is_told l.production l.alternative L) ≡ true
            → Knows (if i then (if t then any else calm) else (if t then calm else solid)) s
        by true true n m k = tt
        by true false n m k = told k
        by false true n m k = told k
        by false false n m k = no_identifier s s.at f.text (plain_is std s s.at L n m e)

    acted_knows : (action : Action) (m : Mood) (s : State) → Knows m (acted (grammar std) action s) → Knows (mood std (act action) m) s
    unfolding acted
    acted_knows scope any s k = tt
    acted_knows scope label s k = k
    acted_knows scope calm s k = k
    acted_knows scope solid s k = k
    acted_knows _ any s k = tt
    acted_knows _ label s k = tt
    acted_knows _ calm s k = tt
    acted_knows _ solid s k = k

    module _ (below : ℕ → Goal → State → Step) (along_below : ℕ → Goal → State → Bool)
        (keeps : (depth : ℕ) (goal : Goal) (l : Label) (s s' : State) → placed_goal l goal ≡ true → Fine std a Good kept l s → below depth goal s ≡ Ok s' → Fine std a Good kept l s')
        (begins : (depth : ℕ) (p : Production) (l : Label) (s s' : State) → Fine std a Good kept l s → below depth (produce p) s ≡ Ok s'
        → along_below depth (produce p) s ≡ true → Begins p s) where
      colon_next : (x : Item) (depth : ℕ) (s s' : State) → takes_colon x ≡ true → s.toks ≡ a → step (grammar std) below depth x s ≡ Ok s'
          → among colons (base_at (grammar std) a s.at) ≡ true
      colon_next (one L) depth s s' h of_a e =
          let t = takes std L s s' e in
          let both = and_parts (covers (λ c. not (among L c) || among colons c)) (not (among L typedef_name) || among colons typedef_name) h in
          let c : among colons (class_at (grammar std) s s.at) ≡ true = implied _ _ (class_so std s s.at (λ c. not (among L c) || among colons c) both.0 both.1) t.here in
          let i : is_identifier (base_at (grammar std) s.toks s.at) ≡ false = plain_is std s s.at colons refl refl c in
          ap (λ x. among colons (base_at (grammar std) x s.at)) (sym of_a) ∙ (ap (among colons) (sym (plain_class std s s.at i)) ∙ c)
      colon_next (x · y) depth s s' h of_a e =
          colon_next x depth s (between (step (grammar std) below depth x s) (step (grammar std) below depth y) s' e).state h of_a
          (between (step (grammar std) below depth x s) (step (grammar std) below depth y) s' e).first
      colon_next _ depth s s' h of_a e = absurd (false≢true h)

      labelled_knows : (x y : Item) (depth : ℕ) (s s' s'' : State) → s.toks ≡ a → step (grammar std) below depth x s ≡ Ok s' → step (grammar std) below depth y s' ≡ Ok s''
          → Knows (labelled_mood x y) s
      labelled_knows (one L) y depth s s' s'' of_a e e' = by (taken L) (takes_colon y) refl
        where
          t : Takes std L s s'
          t = takes std L s s' e

          colon : takes_colon y ≡ true → among colons (base_at (grammar std) a (s.at + 1)) ≡ true
          colon h = ap (λ (z : State). among colons (base_at (grammar std) a z.at)) t.new ∙ colon_next y depth s' s'' h (ap (λ (z : State). z.toks) (sym t.new) ∙ of_a) e'

          by : (m : Mood) (c : Bool) → takes_colon y ≡ c → Knows (before_colon m y) s
          by any c h = by_colon c h
            where
              by_colon : (c : Bool) → takes_colon y ≡ c → Knows (if takes_colon y then label else any) s
              by_colon true h = subst (λ d. Knows (if d then label else any) s) (sym h) (inr (colon h))
              by_colon false h = subst (λ d. Knows (if d then label else any) s) (sym h) tt
          by label c h = tt
          by calm c h = tt
          by solid c h = tt
      labelled_knows _ y depth s s' s'' of_a e e' = tt

      pub step_knows : (item : Item) (depth : ℕ) (l : Label) (m : Mood) (s s' : State) → placed l item ≡ true → Fine std a Good kept l s
          → step (grammar std) below depth item s ≡ Ok s' → along_item (grammar std) of_token of_node below along_below depth item s ≡ true → Knows m s' → Knows (mood std item m) s
      step_knows (one L) depth l m s s' h f e so k = taken_knows l L s h f (takes std L s s' e).here so
      step_knows (part p) depth l m s s' h f e so k = (begins depth p l s s' f e so).first
      step_knows end_of_text depth l m s s' h f e so k =
          no_identifier s s.at f.text (end_is s.toks s.at (ends s s' e).last)
      step_knows (act action) depth l m s s' h f e so k = acted_knows action m s (subst (Knows m) (sym (ok_is _ _ e)) k)
      step_knows (x · y) depth l m s s' h f e so k =
          let both = and_parts (placed l x) (placed l y) h in
          let t = between (step (grammar std) below depth x s) (step (grammar std) below depth y) s' e in
          let sos = and_parts (along_item (grammar std) of_token of_node below along_below depth x s) _ so in
          let fine = step_keeps std a Good kept below keeps x depth l s t.state both.0 f t.first in
          let inner = step_knows y depth l m t.state s' both.1 fine t.second
          (rest_so (step (grammar std) below depth x s) (along_item (grammar std) of_token of_node below along_below depth y) t.state t.first sos.1) k in
          (known_both std) a b s.names.scopes s.at (labelled_mood x y) (mood std x (mood std y m)) (labelled_knows x y depth s t.state s' f.text t.first t.second)
          (step_knows x depth l (mood std y m) s t.state both.0 f t.first sos.0 inner)
      step_knows (choice x y) depth l m s s' h f e so k =
          let both = and_parts (placed l x) (placed l y) h in
          branch (may (grammar std) own x s) _ _ _ _ s'
          (λ c e' so'. known_first std a b s.names.scopes s.at (mood std x m) (mood std y m) (step_knows x depth l m s s' both.0 f e' so' k))
          (λ c e' so'.
          branch (may (grammar std) own y s) _ _ _ _ s'
          (λ d e'' so''. known_second std a b s.names.scopes s.at (mood std x m) (mood std y m) (step_knows y depth l m s s' both.1 f e'' so'' k))
          (λ d e'' so''. absurd (stopped _ _ e''))
          e' (as_it_is (may (grammar std) own y s) _ so'))
          e so
        where
          as_it_is : (c x : Bool) → x ≡ true → (if c then x else x) ≡ true
          as_it_is true x g = g
          as_it_is false x g = g
      step_knows (maybe x) depth l m s s' h f e so k =
          branch (may (grammar std) own x s) _ _ _ _ s'
          (λ c e' so'. known_first std a b s.names.scopes s.at (mood std x m) m (step_knows x depth l m s s' h f e' so' k))
          (λ c e' so'. known_second std a b s.names.scopes s.at (mood std x m) m (subst (Knows m) (sym (ok_is _ _ e')) k))
          e so
      step_knows (many t x) depth l m s s' h f e so k =
          branch (may (grammar std) t x s) _ _ _ _ s'
          (λ c e' so'.
          let u = between (step (grammar std) below depth x s) (below depth (repeat t x)) s' e' in
          let sos = and_parts (along_item (grammar std) of_token of_node below along_below depth x s) _ so' in
          (known_first std) a b s.names.scopes s.at (mood std x any) m (step_knows x depth l any s u.state h f u.first sos.0 tt))
          (λ c e' so'. known_second std a b s.names.scopes s.at (mood std x any) m (subst (Knows m) (sym (ok_is _ _ e')) k))
          e so
      step_knows (deep x) depth l m s s' h f e so k =
          let t = between (enter depth (may (grammar std) own x s) s) (step (grammar std) below (depth + 1) x) s' e in
          let e' : step (grammar std) below (depth + 1) x s ≡ Ok s' = ap (step (grammar std) below (depth + 1) x) (enters depth _ s t.state t.first).new ∙ t.second in
          step_knows x (depth + 1) l m s s' h f e' so k

      -- ---- The second token

      module _ (repeats : (depth : ℕ) (t : Test) (x : Item) (l : Label) (m : Mood) (s s' : State) → placed l x ≡ true → Fine std a Good kept l s
          → below depth (repeat t x) s ≡ Ok s' → along_below depth (repeat t x) s ≡ true → Knows m s' → Knows (mood std (many t x) m) s) where
        second_behind : (x y : Item) (depth : ℕ) (l : Label) (s s' s'' : State) → is_calm_behind std x y ≡ true → placed l x ≡ true → placed l y ≡ true → Fine std a Good kept l s
            → step (grammar std) below depth x s ≡ Ok s' → step (grammar std) below depth y s' ≡ Ok s'' → along_item (grammar std) of_token of_node below along_below depth y s' ≡ true
            → Same std a b s.names.scopes (s.at + 1)
        second_behind (one L) y depth l s s' s'' h g g' f e e' so =
            let t = takes std L s s' e in
            let fine = step_keeps std a Good kept below keeps (one L) depth l s s' g f e in
            let known = known_less std a b s'.names.scopes s'.at (mood std y any) calm h (step_knows y depth l any s' s'' g' fine e' so tt) in
            subst (λ (z : State). Same std a b z.names.scopes z.at) (sym t.new) known
        second_behind _ y depth l s s' s'' h g g' f e e' so = absurd (false≢true h)

        -- a token that is repeated, and what stands behind
        second_many : (t : Test) (L : List Class) (y : Item) (depth : ℕ) (l : Label) (s s' s'' : State) → many_calm std (many t (one L)) y ≡ true
            → placed l (one L) ≡ true → placed l y ≡ true → Fine std a Good kept l s → step (grammar std) below depth (many t (one L)) s ≡ Ok s'
            → step (grammar std) below depth y s' ≡ Ok s'' → along_item (grammar std) of_token of_node below along_below depth (many t (one L)) s ≡ true
            → along_item (grammar std) of_token of_node below along_below depth y s' ≡ true → (s ≡ s' → Same std a b s.names.scopes (s.at + 1))
            → Same std a b s.names.scopes (s.at + 1)
        second_many t L y depth l s s' s'' h g g' f e e' so so' none =
            branch {P = Same std a b s.names.scopes (s.at + 1)} (may (grammar std) t (one L) s) _ _ _ _ s'
            (λ c d q.
            let u = between (step (grammar std) below depth (one L) s) (below depth (repeat t (one L))) s' d in
            let sos = and_parts (along_item (grammar std) of_token of_node below along_below depth (one L) s) _ q in
            let w = takes std L s u.state u.first in
            let fine = step_keeps std a Good kept below keeps (one L) depth l s u.state g f u.first in
            let later = keeps depth (repeat t (one L)) l u.state s' g fine u.second in
            let known = repeats depth t (one L) l (mood std y any) u.state s' g fine u.second
            (rest_so (step (grammar std) below depth (one L) s) (along_below depth (repeat t (one L))) u.state u.first sos.1)
            (step_knows y depth l any s' s'' g' later e' so' tt) in
            let same = known_less std a b u.state.names.scopes u.state.at (mood std (many t (one L)) (mood std y any)) calm h known in
            subst (λ (z : State). Same std a b z.names.scopes z.at) (sym w.new) same)
            (λ c d q. none (ok_is _ _ d))
            e so

        second_repeated : (x y : Item) (depth : ℕ) (l : Label) (s s' s'' : State) → many_calm std x y ≡ true → placed l x ≡ true → placed l y ≡ true
            → Fine std a Good kept l s → step (grammar std) below depth x s ≡ Ok s' → step (grammar std) below depth y s' ≡ Ok s''
            → along_item (grammar std) of_token of_node below along_below depth x s ≡ true
            → along_item (grammar std) of_token of_node below along_below depth y s' ≡ true → (s ≡ s' → Same std a b s.names.scopes (s.at + 1))
            → Same std a b s.names.scopes (s.at + 1)
        second_repeated (many t (one L)) y depth l s s' s'' h g g' f e e' so so' none = second_many t L y depth l s s' s'' h g g' f e e' so so' none
        second_repeated _ y depth l s s' s'' h g g' f e e' so so' none = absurd (false≢true h)

        pub step_second : (item : Item) (depth : ℕ) (l : Label) (s s' : State) → second_known std item ≡ true → placed l item ≡ true → Fine std a Good kept l s
            → step (grammar std) below depth item s ≡ Ok s' → along_item (grammar std) of_token of_node below along_below depth item s ≡ true
            → among fronts (class_at (grammar std) s s.at) ≡ true → Same std a b s.names.scopes (s.at + 1)
        step_second (one L) depth l s s' h g f e so p =
            let both = and_parts (covers (λ c. not (among L c && among fronts c))) (not (among L typedef_name && among fronts typedef_name)) h in
            absurd (false≢true (ap not (sym (and_from _ _ (takes std L s s' e).here p)) ∙ class_so std s s.at (λ c. not (among L c && among fronts c)) both.0 both.1))
        step_second (part p) depth l s s' h g f e so q = (begins depth p l s s' f e so).second h q
        step_second (x · y) depth l s s' h g f e so p =
            let both = and_parts (placed l x) (placed l y) g in
            let t = between (step (grammar std) below depth x s) (step (grammar std) below depth y) s' e in
            let sos = and_parts (along_item (grammar std) of_token of_node below along_below depth x s) _ so in
            let q = rest_so (step (grammar std) below depth x s) (along_item (grammar std) of_token of_node below along_below depth y) t.state t.first sos.1 in
            elim (or_cases (second_known std x) (is_calm_behind std x y || (many_calm std x y && second_known std y)) h) [
              | inl known ↦ step_second x depth l s t.state known both.0 f t.first sos.0 p
              | inr other ↦ elim (or_cases (is_calm_behind std x y) (many_calm std x y && second_known std y) other) [
                | inl behind ↦ second_behind x y depth l s t.state s' behind both.0 both.1 f t.first t.second q
                | inr more ↦
                    let ms = and_parts (many_calm std x y) (second_known std y) more in
                    second_repeated x y depth l s t.state s' ms.0 both.0 both.1 f t.first t.second sos.0 q
                    (λ same.
                    step_second y depth l s s' ms.1 both.1 f (subst (λ z. step (grammar std) below depth y z ≡ Ok s') (sym same) t.second)
                    (subst (λ z. along_item (grammar std) of_token of_node below along_below depth y z ≡ true) (sym same) q) p)
              ]
            ]
        step_second (deep x) depth l s s' h g f e so p =
            let t = between (enter depth (may (grammar std) own x s) s) (step (grammar std) below (depth + 1) x) s' e in
            let e' : step (grammar std) below (depth + 1) x s ≡ Ok s' = ap (step (grammar std) below (depth + 1) x) (enters depth _ s t.state t.first).new ∙ t.second in
            step_second x (depth + 1) l s s' h g f e' so p
        step_second _ depth l s s' h g f e so p = absurd (false≢true h)

        -- ---- Productions

        asked_second : (p : Production) (n : ℕ) (t : Test) (item : Item) (s : State) → s.toks ≡ a → is_asked p n ≡ true → is_bare_test t ≡ true
            → may (grammar std) t item s ≡ true → of_node p n s ≡ true → Same std a b s.names.scopes (s.at + 1)
        asked_second p n (next_two x (is M)) item s of_a h bare m so =
            asked.nodes p n s M of_a h (not-true _ bare) (and_parts (asks (grammar std) x (class_at (grammar std) s s.at)) (among M (class_at (grammar std) s (s.at + 1))) m).1 so
        asked_second p n _ item s of_a h bare m so = absurd (false≢true bare)

        -- an alternative that does not start with one of those is not read there
        no_front : (x : Alternative) (s : State) → front_free std x.test x.body ≡ true → may (grammar std) x.test x.body s ≡ true
            → among fronts (class_at (grammar std) s s.at) ≡ true → ⊥
        no_front x s free m r =
            let both = and_parts (covers (not_front std x.test x.body)) (not_front std x.test x.body typedef_name) free in
            let here = class_so std s s.at (not_front std x.test x.body) both.0 both.1 in
            let no = not-true _ (implied _ _ here r) in
            false≢true (sym (may_no (grammar std) x.test x.body (class_at (grammar std) s s.at) (class_at (grammar std) s (s.at + 1)) no) ∙ m)

        second_by : (p : Production) (n : ℕ) (x : Alternative) (depth : ℕ) (l : Label) (s s' : State) (second is_here : Bool) → is_asked p n ≡ is_here
            → second_where std second is_here x.test x.body ≡ true → placed (labelled p n) x.body ≡ true → Fine std a Good kept l s → may (grammar std) x.test x.body s ≡ true
            → step (grammar std) below depth x.body (opened p n s) ≡ Ok s' → of_node p n s ≡ true
            → along_item (grammar std) of_token of_node below along_below depth x.body (opened p n s) ≡ true
            → second ≡ true → among fronts (class_at (grammar std) s s.at) ≡ true → Same std a b s.names.scopes (s.at + 1)
        second_by p n x depth l s s' false is_here i h g f m e so so' q r = absurd (false≢true q)
        second_by p n x depth l s s' true true i h g f m e so so' q r = asked_second p n x.test x.body s f.text i h m so
        second_by p n x depth l s s' true false i h g f m e so so' q r =
            elim (or_cases (front_free std x.test x.body) (second_known std x.body) h) [
              | inl free ↦ absurd (no_front x s free m r)
              | inr known ↦ second_opened p n s
                  (step_second x.body depth (labelled p n) (opened p n s) s' known g (fine_opened std a Good kept l p n s f) e so' (paren_opened p n s r))
            ]
          where
            second_opened : (p : Production) (n : ℕ) (s : State) → Same std a b (opened p n s).names.scopes ((opened p n s).at + 1) → Same std a b s.names.scopes (s.at + 1)
            second_opened p n s k = subst (λ sc. Same std a b sc (s.at + 1)) (opened_scopes p n s) (subst (λ j. Same std a b (opened p n s).names.scopes (j + 1)) (opened_at p n s) k)

            paren_opened : (p : Production) (n : ℕ) (s : State) → among fronts (class_at (grammar std) s s.at) ≡ true
                → among fronts (class_at (grammar std) (opened p n s) (opened p n s).at) ≡ true
            paren_opened p n s k =
                ap (λ j. among fronts (class_at (grammar std) (opened p n s) j)) (opened_at p n s) ∙ (ap (among fronts) (opened_class std p n s s.at) ∙ k)

        pick_begins : (p : Production) (alternatives : List Alternative) (depth n : ℕ) (l : Label) (s s' : State) → are_known std p n alternatives ≡ true
            → Fine std a Good kept l s → pick (grammar std) below depth p n alternatives s ≡ Ok s'
            → along_first (grammar std) of_token of_node below along_below depth p n alternatives s ≡ true → Begins p s
        pick_begins p [] depth n l s s' h f e so = absurd (stopped _ _ e)
        pick_begins p (x ∷ more) depth n l s s' h f e so =
            let both = and_parts (is_known std p n x) (are_known std p (n + 1) more) h in
            let ft = fit std p n x both.0 in
            branch (may (grammar std) x.test x.body s) _ _ _ _ s'
            (λ c e' so'.
            let t = between (step (grammar std) below depth x.body (opened p n s)) (λ z. Ok (closed p s z)) s' e' in
            let sos = and_parts (of_node p n s) _ so' in
            let k : Knows (mood std x.body any) (opened p n s)
            = step_knows x.body depth (labelled p n) any (opened p n s) t.state ft.placed (fine_opened std a Good kept l p n s f) t.first sos.1 tt in
            record {
              first = known_less std a b s.names.scopes s.at (mood std x.body any) (start_mood std p) ft.starts
                  (subst (λ sc. Known std a b sc s.at (mood std x.body any)) (opened_scopes p n s)
                  (subst (λ j. Known std a b (opened p n s).names.scopes j (mood std x.body any)) (opened_at p n s) k));
              second = second_by p n x depth l s t.state (is_second p) (is_asked p n) refl ft.second ft.placed f c t.first sos.0 sos.1;
            })
            (λ c e' so'. pick_begins p more depth (n + 1) l s s' both.1 f e' so')
            e so

        run_begins : ((p : Production) → is_production_known std p ≡ true) → (depth : ℕ) (p : Production) (l : Label) (s s' : State) → Fine std a Good kept l s
            → run (grammar std) below depth (produce p) s ≡ Ok s' → along_goal (grammar std) of_token of_node below along_below depth (produce p) s ≡ true → Begins p s
        run_begins known depth p l s s' f e so =
            pick_begins p ((grammar std).table p) depth 1 l s s' (and_parts (are_known std p 1 ((grammar std).table p)) (decided std (is_second p) (start_mood std p) ((grammar std).table p)) (known p)).0 f e so

    module _ (known : (p : Production) → is_production_known std p ≡ true) where
      -- with so many steps inside each other: before a production, and before what is left of a repetition
      record Within (fuel : ℕ) : Type 0 where
        begins : (depth : ℕ) (p : Production) (l : Label) (s s' : State) → Fine std a Good kept l s → read_within (grammar std) fuel depth (produce p) s ≡ Ok s'
            → along_within (grammar std) of_token of_node fuel depth (produce p) s ≡ true → Begins p s
        repeats : (depth : ℕ) (t : Test) (x : Item) (l : Label) (m : Mood) (s s' : State) → placed l x ≡ true → Fine std a Good kept l s
            → read_within (grammar std) fuel depth (repeat t x) s ≡ Ok s' → along_within (grammar std) of_token of_node fuel depth (repeat t x) s ≡ true
            → Knows m s' → Knows (mood std (many t x) m) s

      within : (fuel : ℕ) → Within fuel
      unfolding read_within along_within
      within zero = record {
        begins = λ depth p l s s' f e so. absurd (stopped _ _ e);
        repeats = λ depth t x l m s s' h f e so k. absurd (stopped _ _ e);
      }
      within (suc fuel) = record {
        begins = λ depth p l s s' f e so.
            run_begins (read_within (grammar std) fuel) (along_within (grammar std) of_token of_node fuel) (within_keeps std a Good kept known fuel) (within fuel).begins
            (within fuel).repeats known depth p l s s' f e so;
        repeats = λ depth t x l m s s' h f e so k.
            step_knows (read_within (grammar std) fuel) (along_within (grammar std) of_token of_node fuel) (within_keeps std a Good kept known fuel) (within fuel).begins
            (many t x) depth l m s s' h f e so k;
      }

      pub within_begins : (fuel depth : ℕ) (p : Production) (l : Label) (s s' : State) → Fine std a Good kept l s → read_within (grammar std) fuel depth (produce p) s ≡ Ok s'
          → along_within (grammar std) of_token of_node fuel depth (produce p) s ≡ true → Begins p s
      within_begins fuel depth p l s s' f e so = (within fuel).begins depth p l s s' f e so

      pub within_repeats : (fuel depth : ℕ) (t : Test) (x : Item) (l : Label) (m : Mood) (s s' : State) → placed l x ≡ true → Fine std a Good kept l s
          → read_within (grammar std) fuel depth (repeat t x) s ≡ Ok s' → along_within (grammar std) of_token of_node fuel depth (repeat t x) s ≡ true
          → Knows m s' → Knows (mood std (many t x) m) s
      within_repeats fuel depth t x l m s s' h f e so k = (within fuel).repeats depth t x l m s s' h f e so k
