-- Texts that are alike are read alike: in step, but for the tokens in the state.
use Rattle.std.proofs.Common.{ℕ, zero, suc, ◌+◌, ◌*◌, ◌-◌, ◌==◌, ◌≡◌, Bool, true, false, ◌&&◌, if◌then◌else◌, nat_lt, List, [], ◌∷◌, length, Option, None, Some, Ok, Err, refl, sym, ap, ◌∙◌}
use Rattle.std.specs.Prelude.{unwrap_or}
use Rattle.std.specs.Str.{bytes_eq}
use Rattle.cs_base.proofs.OptionLemmas.{ok_same}
use Rattle.cs_base.specs.Token.{Token}
use Rattle.c99_tree.specs.Names.{latest}
use Rattle.c99_tree.specs.Tree.{Forest, none, token, node, leaf, put}
use Rattle.c99_tree.specs.declared.production.Production.{Production}
use Rattle.c99_tree.specs.declared.production.Production.TheVariants.{TranslationUnit}
use Rattle.c99_read.specs.Below.c99_grammar.Classes.{among}
use Rattle.c99_read.specs.Below.c99_grammar.Items.{Item, one, part, end_of_text, act, ◌·◌, choice, maybe, many, deep, Test, own, Action, scope, end, declare, name, keep, again, Alternative}
use Rattle.c99_read.specs.Below.c99_grammar.Standard.{Grammar}
use Rattle.c99_read.specs.Below.c99_grammar.Starting.{holds, starts}
use Rattle.c99_read.specs.Below.c99_grammar.declared.classes.Class.{Class}
use Rattle.c99_read.specs.Below.c99_grammar.declared.classes.Class.TheVariants.{TypedefName}
use Rattle.c99_read.specs.State.{State, base_at, spelling_at, spelled_scope, is_identifier, is_typedef_at, class_at, last_identifier, declaration, with_declared, acted, opened, closed}
use Rattle.c99_read.specs.Reading.{Stop, syntax, Goal, produce, repeat, Step, and_then, deepest, take_one, at_end, enter, too_deep, goal_order, steps_for, may, step, alternative, pick, run, read_within, whole, at_first, tree_of}
use Rattle.same_readings.specs.Alike.{AreAlike}
use Rattle.same_readings.specs.AlikeLaws.{AlikeTextsReadAlike}

-- the type of the reader's declarations, which it keeps to itself
abbrev Given : {A B : Type 0} → (A → B) → Type 0
Given {A} {B} f = B

abbrev Declaration : Type 0
Declaration = Given (declaration 0)

-- the same state over other tokens
abbrev on : List Token → State → State
on b s = record s { toks = b }

abbrev step_on : List Token → Step → Step
step_on b (Ok s) = Ok (on b s)
step_on b (Err stop) = Err stop

alike_itself : (g : Grammar) (a : List Token) → AreAlike g a a
alike_itself g a = record { as_long = refl; classes = λ k. refl; spelled = λ i j. refl }

-- one of two, where each goes over
choose : (b : List Token) (c d : Bool) (x x' y y' : Step) → c ≡ d → x ≡ step_on b x' → y ≡ step_on b y'
    → (if c then x else y) ≡ step_on b (if d then x' else y')
choose b c d x x' y y' same e f =
    ap (λ (t : Bool). if t then x else y) same ∙ by d
  where
    by : (t : Bool) → (if t then x else y) ≡ step_on b (if t then x' else y')
    by true = e
    by false = f

-- one step after another
next_goes : (a b : List Token) (x x' : Step) (f f' : State → Step) → x ≡ step_on b x' → x' ≡ step_on a x'
    → ((s : State) → f (on b s) ≡ step_on b (f' (on a s))) → and_then x f ≡ step_on b (and_then x' f')
next_goes a b x x' f f' goes own_ then_ = ap (λ (z : Step). and_then z f) goes ∙ by x' own_
  where
    by : (z : Step) → z ≡ step_on a z → and_then (step_on b z) f ≡ step_on b (and_then z f')
    by (Ok s) e = then_ s ∙ ap (λ (t : State). step_on b (f' t)) (sym (ok_same {D = Stop} s (on a s) e))
    by (Err stop) e = refl

module _ (g : Grammar) (a : List Token) where
  module _ (b : List Token) (law : AreAlike g a b) where
    -- ---- Names

    latest_same : (scope_of : List Declaration) (k : ℕ) → latest (spelled_scope b scope_of) (spelling_at b k) ≡ latest (spelled_scope a scope_of) (spelling_at a k)
    latest_same [] k = refl
    latest_same (d ∷ older) k =
        ap (λ (c : Bool). if c then Some d.typedef else latest (spelled_scope b older) (spelling_at b k)) (law.spelled k d.name_at)
        ∙ ap (λ (o : Option Bool). if bytes_eq (spelling_at a k) (spelling_at a d.name_at) then Some d.typedef else o) (latest_same older k)

    typedef_same : (scopes : List (List Declaration)) (k : ℕ) → is_typedef_at b scopes k ≡ is_typedef_at a scopes k
    typedef_same [] k = refl
    typedef_same (s ∷ outer) k =
        ap (λ (o : Option Bool). unwrap_or o (is_typedef_at b outer k)) (latest_same s k)
        ∙ ap (λ (c : Bool). unwrap_or (latest (spelled_scope a s) (spelling_at a k)) c) (typedef_same outer k)

    class_same : (s : State) (k : ℕ) → class_at g (on b s) k ≡ class_at g (on a s) k
    unfolding class_at
    class_same s k =
        ap (λ (c : Class). if is_identifier c && is_typedef_at b s.names.scopes k then TypedefName else c) (law.classes k)
        ∙ ap (λ (t : Bool). if is_identifier (base_at g a k) && t then TypedefName else base_at g a k) (typedef_same s.names.scopes k)

    may_same : (t : Test) (i : Item) (s : State) → may g t i (on b s) ≡ may g t i (on a s)
    may_same t i s =
        ap (λ (c : Class). holds g t (starts g i c (class_at g (on b s) (s.at + 1))) c (class_at g (on b s) (s.at + 1))) (class_same s s.at)
        ∙ ap (λ (d : Class). holds g t (starts g i (class_at g (on a s) s.at) d) (class_at g (on a s) s.at) d) (class_same s (s.at + 1))

    identifier_same : (f : Forest) (found : Option ℕ) → last_identifier g b f found ≡ last_identifier g a f found
    identifier_same none found = refl
    identifier_same (token i rest) found =
        ap (λ (c : Class). last_identifier g b rest (if is_identifier c then Some i else found)) (law.classes i)
        ∙ identifier_same rest (if is_identifier (base_at g a i) then Some i else found)
    identifier_same (node l first under rest) found = identifier_same rest found

    -- ---- What is done

    acted_goes : (x : Action) (s : State) → acted g x (on b s) ≡ on b (acted g x (on a s))
    unfolding acted
    acted_goes scope s = refl
    acted_goes end s = refl
    acted_goes declare s = refl
    acted_goes name s =
        ap (λ (o : Option ℕ). record (on b s) { names = with_declared s.names o false }) (identifier_same s.built.under None)
    acted_goes keep s = refl
    acted_goes again s = refl

    taken_goes : (classes : List Class) (s : State) → take_one g classes (on b s) ≡ step_on b (take_one g classes (on a s))
    unfolding take_one
    taken_goes classes s =
        choose b (nat_lt s.at (length b) && among classes (class_at g (on b s) s.at)) (nat_lt s.at (length a) && among classes (class_at g (on a s) s.at))
        (Ok (record (on b s) { at = s.at + 1; built = record s.built { under = put s.built.under (leaf s.at) } }))
        (Ok (record (on a s) { at = s.at + 1; built = record s.built { under = put s.built.under (leaf s.at) } }))
        (Err (syntax s.at)) (Err (syntax s.at))
        (ap (λ (n : ℕ). nat_lt s.at n && among classes (class_at g (on b s) s.at)) law.as_long
        ∙ ap (λ (c : Class). nat_lt s.at (length a) && among classes c) (class_same s s.at))
        refl refl

    end_goes : (s : State) → at_end (on b s) ≡ step_on b (at_end (on a s))
    unfolding at_end
    end_goes s = choose b (s.at == length b) (s.at == length a) (Ok (on b s)) (Ok (on a s)) (Err (syntax s.at)) (Err (syntax s.at)) (ap (λ (n : ℕ). s.at == n) law.as_long) refl refl

    entered_by : (depth : ℕ) (c : Bool) (s : State) → enter depth c (on b s) ≡ step_on b (enter depth c (on a s))
    unfolding enter
    entered_by depth true s =
        choose b (nat_lt depth deepest) (nat_lt depth deepest) (Ok (on b s)) (Ok (on a s)) (Err (too_deep s.at)) (Err (too_deep s.at)) refl refl refl
    entered_by depth false s = refl

    entered_goes : (depth : ℕ) (c d : Bool) (s : State) → c ≡ d → enter depth c (on b s) ≡ step_on b (enter depth d (on a s))
    entered_goes depth c d s same = ap (λ (t : Bool). enter depth t (on b s)) same ∙ entered_by depth d s

  -- ---- Steps, where what reads productions goes over

  abbrev Goes : (ℕ → Goal → State → Step) → Type 0
  Goes below = (b : List Token) → AreAlike g a b → (depth : ℕ) (goal : Goal) (s : State) → below depth goal (on b s) ≡ step_on b (below depth goal (on a s))

  module _ (below : ℕ → Goal → State → Step) (goes : Goes below) where
    step_goes : (i : Item) (b : List Token) → AreAlike g a b → (depth : ℕ) (s : State) → step g below depth i (on b s) ≡ step_on b (step g below depth i (on a s))
    step_goes (one classes) b law depth s = taken_goes b law classes s
    step_goes (part p) b law depth s = goes b law depth (produce p) s
    step_goes end_of_text b law depth s = end_goes b law s
    step_goes (act x) b law depth s = ap (λ (t : State). Ok t) (acted_goes b law x s)
    step_goes (x · y) b law depth s =
        next_goes a b (step g below depth x (on b s)) (step g below depth x (on a s)) (step g below depth y) (step g below depth y)
        (step_goes x b law depth s) (step_goes x a (alike_itself g a) depth s) (λ t. step_goes y b law depth t)
    step_goes (choice x y) b law depth s =
        choose b (may g own x (on b s)) (may g own x (on a s)) (step g below depth x (on b s)) (step g below depth x (on a s))
        (if may g own y (on b s) then step g below depth y (on b s) else Err (syntax s.at)) (if may g own y (on a s) then step g below depth y (on a s) else Err (syntax s.at))
        (may_same b law own x s) (step_goes x b law depth s)
        (choose b (may g own y (on b s)) (may g own y (on a s)) (step g below depth y (on b s)) (step g below depth y (on a s)) (Err (syntax s.at)) (Err (syntax s.at))
        (may_same b law own y s) (step_goes y b law depth s) refl)
    step_goes (maybe x) b law depth s =
        choose b (may g own x (on b s)) (may g own x (on a s)) (step g below depth x (on b s)) (step g below depth x (on a s)) (Ok (on b s)) (Ok (on a s))
        (may_same b law own x s) (step_goes x b law depth s) refl
    step_goes (many t x) b law depth s =
        choose b (may g t x (on b s)) (may g t x (on a s)) (and_then (step g below depth x (on b s)) (below depth (repeat t x)))
        (and_then (step g below depth x (on a s)) (below depth (repeat t x))) (Ok (on b s)) (Ok (on a s))
        (may_same b law t x s)
        (next_goes a b (step g below depth x (on b s)) (step g below depth x (on a s)) (below depth (repeat t x)) (below depth (repeat t x))
        (step_goes x b law depth s) (step_goes x a (alike_itself g a) depth s) (λ t'. goes b law depth (repeat t x) t'))
        refl
    step_goes (deep x) b law depth s =
        next_goes a b (enter depth (may g own x (on b s)) (on b s)) (enter depth (may g own x (on a s)) (on a s)) (step g below (depth + 1) x) (step g below (depth + 1) x)
        (entered_goes b law depth (may g own x (on b s)) (may g own x (on a s)) s (may_same b law own x s))
        (entered_goes a (alike_itself g a) depth (may g own x (on a s)) (may g own x (on a s)) s refl)
        (λ t. step_goes x b law (depth + 1) t)

    alternative_goes : (b : List Token) → AreAlike g a b → (depth : ℕ) (p : Production) (n : ℕ) (body : Item) (s : State)
        → alternative g below depth p n body (on b s) ≡ step_on b (alternative g below depth p n body (on a s))
    unfolding opened closed
    alternative_goes b law depth p n body s =
        next_goes a b (step g below depth body (opened p n (on b s))) (step g below depth body (opened p n (on a s)))
        (λ t. Ok (closed p (on b s) t)) (λ t. Ok (closed p (on a s) t))
        (step_goes body b law depth (opened p n (on a s))) (step_goes body a (alike_itself g a) depth (opened p n (on a s)))
        (λ t. refl)

    pick_goes : (more : List Alternative) (b : List Token) → AreAlike g a b → (depth : ℕ) (p : Production) (n : ℕ) (s : State)
        → pick g below depth p n more (on b s) ≡ step_on b (pick g below depth p n more (on a s))
    pick_goes [] b law depth p n s = refl
    pick_goes (x ∷ more) b law depth p n s =
        choose b (may g x.test x.body (on b s)) (may g x.test x.body (on a s)) (alternative g below depth p n x.body (on b s)) (alternative g below depth p n x.body (on a s))
        (pick g below depth p (n + 1) more (on b s)) (pick g below depth p (n + 1) more (on a s))
        (may_same b law x.test x.body s) (alternative_goes b law depth p n x.body s) (pick_goes more b law depth p (n + 1) s)

    run_goes : Goes (run g below)
    run_goes b law depth (produce p) s = pick_goes (g.table p) b law depth p 1 s
    run_goes b law depth (repeat t x) s = step_goes (many t x) b law depth s

  within_goes : (fuel : ℕ) → Goes (read_within g fuel)
  unfolding read_within
  within_goes zero b law depth goal s = refl
  within_goes (suc fuel) b law depth goal s = run_goes (read_within g fuel) (within_goes fuel) b law depth goal s

tree_same : (b : List Token) (x : Step) → tree_of (step_on b x) ≡ tree_of x
tree_same b (Ok s) = refl
tree_same b (Err stop) = refl

pub alike_texts_read_alike : AlikeTextsReadAlike
unfolding whole
alike_texts_read_alike g a b law =
    ap (λ (n : ℕ). tree_of (read_within g (64 * (n - 0) + goal_order (produce TranslationUnit) + 1) 0 (produce TranslationUnit) (at_first b))) law.as_long
    ∙ (ap tree_of (within_goes g a (steps_for (produce TranslationUnit) (at_first a)) b law 0 (produce TranslationUnit) (at_first a))
    ∙ tree_same b (read_within g (steps_for (produce TranslationUnit) (at_first a)) 0 (produce TranslationUnit) (at_first a)))
