-- Where names stand, a production reads identifiers.
use Rattle.std.proofs.Common.{ℕ, zero, suc, ◌+◌, ◌%◌, ◌≡◌, Bool, true, false, ◌&&◌, ◌||◌, not, if◌then◌else◌, ◌==◌, List, length, Ok, Err, nat_lt, inl, inr, refl, sym, ap, subst, ◌∙◌, arith}
use Rattle.std.proofs.lemmas.Bool.{and_parts, cases_eq, eq-eqb, ne_eqb, and_from, or_left, or_right}
use Rattle.c99_grammar.specs.declared.dialects.Dialect.{Dialect}
use Rattle.cs_base.specs.Token.{Token}
use Rattle.cs_base.proofs.BoolLemmas.{or_met as implied}
use Rattle.c99_tree.specs.Tree.{Forest, none, token, node, Node, leaf, inner, put, count_of}
use Rattle.c99_tree.specs.declared.production.Label.{Label}
use Rattle.c99_tree.specs.declared.production.Production.{Production}
use Rattle.c99_tree.specs.declared.production.Production.TheVariants.{Main, SuRest, EnRest, Params, Designator, Primary, Post, Statement, Enumerator}
use Rattle.c99_grammar.specs.Classes.{among}
use Rattle.c99_grammar.specs.Items.{Item, one, part, end_of_text, act, ◌·◌, choice, maybe, many, deep, own, Test, Action}
use Rattle.c99_grammar.specs.Standard.{grammar}
use Rattle.c99_read.specs.State.{State, base_at, class_at, is_identifier, acted}
use Rattle.c99_read.specs.Reading.{Goal, produce, repeat, Step, syntax, and_then, deepest, take_one, at_end, enter, may, step}
use Rattle.scope_bind.specs.Named.{is_plain_role}
use Rattle.scope_bind.specs.Roles.{role_of}
use Rattle.c_types.specs.Trees.{is_node, has_name}
use Rattle.tree_laws.specs.TreesOfTexts.{is_name_place, pass_at}
use Rattle.tree_laws.proofs.Walked.{After, with_token, after_if}
use Rattle.tree_laws.proofs.NameClasses.{only_names, name_is}

-- ---- Places among children

-- How many children stand before a place, as far as it matters: none, one, or an even or odd number of more.
pub data Place : Type 0 where
  first : Place
  second : Place
  even : Place
  odd : Place

abbrev pub next : Place → Place
next first = second
next second = even
next even = odd
next odd = even

abbrev pub place : ℕ → Place
place zero = first
place (suc k) = next (place k)

-- a number that has the place
abbrev pub number : Place → ℕ
number first = 0
number second = 1
number even = 2
number odd = 3

abbrev pub is_first : Place → Bool
is_first first = true
is_first _ = false

abbrev is_second : Place → Bool
is_second second = true
is_second _ = false

abbrev is_even : Place → Bool
is_even first = true
is_even second = false
is_even even = true
is_even odd = false

first_number : (c : Place) → (number c == 0) ≡ is_first c
first_number first = refl
first_number second = refl
first_number even = refl
first_number odd = refl

second_number : (c : Place) → (number c == 1) ≡ is_second c
second_number first = refl
second_number second = refl
second_number even = refl
second_number odd = refl

even_number : (c : Place) → (number c % 2 == 0) ≡ is_even c
even_number first = refl
even_number second = refl
even_number even = refl
even_number odd = refl

not_first : (c : Place) → is_first (next c) ≡ false
not_first first = refl
not_first second = refl
not_first even = refl
not_first odd = refl

second_next : (c : Place) → is_second (next c) ≡ is_first c
second_next first = refl
second_next second = refl
second_next even = refl
second_next odd = refl

even_again : (c : Place) → is_even (next (next c)) ≡ is_even c
even_again first = refl
even_again second = refl
even_again even = refl
even_again odd = refl

first_at : (k : ℕ) → (k == 0) ≡ is_first (place k)
first_at zero = refl
first_at (suc k) = ne_eqb (suc k) 0 (λ e. absurd (omega (arith, e))) ∙ sym (not_first (place k))

second_at : (k : ℕ) → (k == 1) ≡ is_second (place k)
second_at zero = refl
second_at (suc k) = elim (cases_eq k 0) [
  | inl same ↦ eq-eqb (suc k) 1 (omega (arith, same)) ∙ sym (eq-eqb k 0 same) ∙ first_at k ∙ sym (second_next (place k))
  | inr other ↦ ne_eqb (suc k) 1 (λ e. other (omega (arith, e))) ∙ sym (ne_eqb k 0 other) ∙ first_at k ∙ sym (second_next (place k))
]

even_at : (k : ℕ) → (k % 2 == 0) ≡ is_even (place k)
even_at zero = refl
even_at (suc zero) = refl
even_at (suc (suc k)) =
    let same : suc (suc k) % 2 ≡ k % 2 = omega arith in
    ap (λ (n : ℕ). n == 0) same ∙ even_at k ∙ sym (even_again (place k))

-- two numbers are alike, as far as roles go
record AreAlike (k j : ℕ) : Type 0 where
  first : (k == 0) ≡ (j == 0)
  second : (k == 1) ≡ (j == 1)
  even : (k % 2 == 0) ≡ (j % 2 == 0)

alike_number : (k : ℕ) → AreAlike k (number (place k))
alike_number k = record {
  first = first_at k ∙ sym (first_number (place k));
  second = second_at k ∙ sym (second_number (place k));
  even = even_at k ∙ sym (even_number (place k));
}

role_alike : (p : Production) (a k j : ℕ) → AreAlike k j → role_of p a k ≡ role_of p a j
role_alike Main a k j s = rw s.first refl
role_alike SuRest a k j s = rw s.first refl
role_alike EnRest a k j s = rw s.first refl
role_alike Params a k j s = rw s.even refl
role_alike Designator a k j s = rw s.second refl
role_alike Primary a k j s = refl
role_alike Post a k j s = rw s.second refl
role_alike Statement a k j s = rw (s.first, s.second) refl
role_alike _ a k j s = refl

-- whether a name stands at a place is known by how far as it matters
pub places_matter : (l : Label) (k : ℕ) → is_name_place l k ≡ is_name_place l (number (place k))
places_matter l k =
    let s = alike_number k in
    ap (λ r. not (is_plain_role r) || (has_name l || is_node l Enumerator && (k == 0))) (role_alike l.production l.alternative k (number (place k)) s)
    ∙ ap (λ (c : Bool). not (is_plain_role (role_of l.production l.alternative (number (place k)))) || (has_name l || is_node l Enumerator && c)) s.first

-- ---- Sets of places

-- the test holds of each place
abbrev all_places : (Place → Bool) → Bool
all_places test = test first && (test second && (test even && test odd))

abbrev pub shifted : (Place → Bool) → Place → Bool
shifted X first = false
shifted X second = X first
shifted X even = X second || X odd
shifted X odd = X even

abbrev joined : (Place → Bool) → (Place → Bool) → Place → Bool
joined X Y c = X c || Y c

abbrev pub is_within : (Place → Bool) → (Place → Bool) → Bool
is_within X Y = all_places (λ c. not (X c) || Y c)

abbrev anywhere : Place → Bool
anywhere c = true

-- where an item ends that begins at one of these places
abbrev pub behind : Item → (Place → Bool) → Place → Bool
behind (one classes) X = shifted X
behind (part p) X = shifted X
behind end_of_text X = X
behind (act a) X = X
behind (a · b) X = behind b (behind a X)
behind (choice a b) X = joined (behind a X) (behind b X)
behind (maybe a) X = joined X (behind a X)
behind (many t a) X = if is_within (behind a (joined X (behind a X))) (joined X (behind a X)) then joined X (behind a X) else anywhere
behind (deep a) X = behind a X

-- tokens of the item stand where no name does, or are identifiers
module _ (stands : Label → ℕ → Bool) where
  abbrev pub fits : Label → Item → (Place → Bool) → Bool
  fits l (one classes) X = all_places (λ c. not (stands l (number c) && X c) || only_names classes)
  fits l (part p) X = true
  fits l end_of_text X = true
  fits l (act a) X = true
  fits l (a · b) X = fits l a X && fits l b (behind a X)
  fits l (choice a b) X = fits l a X && fits l b X
  fits l (maybe a) X = fits l a X
  fits l (many t a) X =
      fits l a (behind (many t a) X) && (is_within (behind a (behind (many t a) X)) (behind (many t a) X) && is_within X (behind (many t a) X))
  fits l (deep a) X = fits l a X

pub shifted_next : (X : Place → Bool) (c : Place) → X c ≡ true → shifted X (next c) ≡ true
shifted_next X first h = h
shifted_next X second h = or_left (X second) (X odd) h
shifted_next X even h = h
shifted_next X odd h = or_right (X second) (X odd) h

-- ---- Children that are tokens

module _ (stands : Label → ℕ → Bool) where
  -- the test holds of those that are names; so many children stand before them
  abbrev pub own_pass : (ℕ → Bool) → Label → ℕ → Forest → Bool
  own_pass test l k none = true
  own_pass test l k (token i rest) = (not (stands l k) || test i) && own_pass test l (k + 1) rest
  own_pass test l k (node m begin under rest) = own_pass test l (k + 1) rest

  -- .. and of all names below the nodes
  abbrev pub below_pass : (ℕ → Bool) → Forest → Bool
  below_pass test none = true
  below_pass test (token i rest) = below_pass test rest
  below_pass test (node m begin under rest) = pass_at stands test m 0 under && below_pass test rest

  pub both_pass : (test : ℕ → Bool) (l : Label) (k : ℕ) (f : Forest) → own_pass test l k f ≡ true → below_pass test f ≡ true → pass_at stands test l k f ≡ true
  both_pass test l k none h w = refl
  both_pass test l k (token i rest) h w =
      let here = and_parts (not (stands l k) || test i) (own_pass test l (k + 1) rest) h in
      and_from _ _ here.0 (both_pass test l (k + 1) rest here.1 w)
  both_pass test l k (node m begin under rest) h w =
      let below = and_parts (pass_at stands test m 0 under) (below_pass test rest) w in
      and_from _ _ below.0 (both_pass test l (k + 1) rest h below.1)

  own_leaf : (test : ℕ → Bool) (l : Label) (f : Forest) (k n i : ℕ) → k + count_of f ≡ n → own_pass test l k f ≡ true → (stands l n ≡ true → test i ≡ true)
      → own_pass test l k (put f (leaf i)) ≡ true
  own_leaf test l none k n i e h here =
      let same : k ≡ n = omega (arith, e) in
      and_from _ _ (may_be (stands l k) (test i) (λ named. here (subst (λ j. stands l j ≡ true) same named))) refl
    where
      may_be : (c d : Bool) → (c ≡ true → d ≡ true) → (not c || d) ≡ true
      may_be true d g = g refl
      may_be false d g = refl
  own_leaf test l (token j rest) k n i e h here =
      let both = and_parts (not (stands l k) || test j) (own_pass test l (k + 1) rest) h in
      and_from _ _ both.0 (own_leaf test l rest (k + 1) n i (omega (arith, e)) both.1 here)
  own_leaf test l (node m begin under rest) k n i e h here = own_leaf test l rest (k + 1) n i (omega (arith, e)) h here

  pub own_inner : (test : ℕ → Bool) (l : Label) (f : Forest) (k : ℕ) (n : Node) → own_pass test l k f ≡ true → own_pass test l k (put f (inner n)) ≡ true
  own_inner test l none k n h = refl
  own_inner test l (token j rest) k n h =
      let both = and_parts (not (stands l k) || test j) (own_pass test l (k + 1) rest) h in
      and_from _ _ both.0 (own_inner test l rest (k + 1) n both.1)
  own_inner test l (node m begin under rest) k n h = own_inner test l rest (k + 1) n h

pub count_leaf : (f : Forest) (i : ℕ) → count_of (put f (leaf i)) ≡ suc (count_of f)
count_leaf none i = refl
count_leaf (token j rest) i = omega (arith, count_leaf rest i)
count_leaf (node l begin under rest) i = omega (arith, count_leaf rest i)

pub count_inner : (f : Forest) (n : Node) → count_of (put f (inner n)) ≡ suc (count_of f)
count_inner none n = refl
count_inner (token j rest) n = omega (arith, count_inner rest n)
count_inner (node l begin under rest) n = omega (arith, count_inner rest n)

module _ (stands : Label → ℕ → Bool) (places : (l : Label) (k : ℕ) → stands l k ≡ stands l (number (place k))) (std : Dialect) where
  each_place : (test : Place → Bool) (c : Place) → all_places test ≡ true → test c ≡ true
  each_place test c all =
      let one_ = and_parts (test first) (test second && (test even && test odd)) all in
      let two_ = and_parts (test second) (test even && test odd) one_.1 in
      let three_ = and_parts (test even) (test odd) two_.1 in
      by c one_.0 two_.0 three_.0 three_.1
    where
      by : (d : Place) → test first ≡ true → test second ≡ true → test even ≡ true → test odd ≡ true → test d ≡ true
      by first h i j k = h
      by second h i j k = i
      by even h i j k = j
      by odd h i j k = k

  -- ---- Items

  module _ (toks : List Token) (l : Label) where
    -- the token is an identifier
    abbrev pub is_named : ℕ → Bool
    is_named i = is_identifier (base_at (grammar std) toks i)

    -- in the open node names are identifiers so far, and the next child stands at one of these places
    pub record Stands (X : Place → Bool) (s : State) : Type 0 where
      pub text : s.toks ≡ toks
      pub here : X (place (count_of s.built.under)) ≡ true
      pub own : own_pass stands is_named l 0 s.built.under ≡ true

    wider : (X Y : Place → Bool) → ((c : Place) → X c ≡ true → Y c ≡ true) → (r : Step) → After (Stands X) r → After (Stands Y) r
    wider X Y on (Err stop) h = tt
    wider X Y on (Ok s) h = record { text = h.text; here = on (place (count_of s.built.under)) h.here; own = h.own }

    stands_then : (X Y : Place → Bool) (r : Step) (next_step : State → Step) → After (Stands X) r → ((s : State) → Stands X s → After (Stands Y) (next_step s))
        → After (Stands Y) (and_then r next_step)
    stands_then X Y (Err stop) next_step h n = tt
    stands_then X Y (Ok s) next_step h n = n s h

    acted_stands : (X : Place → Bool) (a : Action) (s : State) → Stands X s → Stands X (acted (grammar std) a s)
    unfolding acted
    acted_stands X a s h = record { text = h.text; here = h.here; own = h.own }

    end_stands : (X : Place → Bool) (s : State) → Stands X s → After (Stands X) (at_end s)
    unfolding at_end
    end_stands X s h = after_if (Stands X) (s.at == length s.toks) _ _ h tt

    enter_stands : (X : Place → Bool) (depth : ℕ) (b : Bool) (s : State) → Stands X s → After (Stands X) (enter depth b s)
    unfolding enter
    enter_stands X depth b s h = after_if (Stands X) b _ _ (after_if (Stands X) (nat_lt depth deepest) _ _ h tt) tt

    token_stands : (X : Place → Bool) (s : State) → (stands l (count_of s.built.under) ≡ true → is_named s.at ≡ true) → Stands X s
        → Stands (shifted X) (with_token s)
    token_stands X s named h = record {
      text = h.text;
      here = subst (λ n. shifted X (place n) ≡ true) (sym (count_leaf s.built.under s.at)) (shifted_next X (place (count_of s.built.under)) h.here);
      own = own_leaf stands is_named l s.built.under 0 (count_of s.built.under) s.at (omega arith) h.own named;
    }

    module _ (below : ℕ → Goal → State → Step)
        (parts : (depth : ℕ) (p : Production) (s : State) (X : Place → Bool) → Stands X s → After (Stands (shifted X)) (below depth (produce p) s))
        (more : (depth : ℕ) (t : Test) (a : Item) (s : State) (X : Place → Bool) → fits stands l a X ≡ true → is_within (behind a X) X ≡ true → Stands X s
        → After (Stands X) (below depth (repeat t a) s)) where
      pub own_step : (item : Item) (depth : ℕ) (s : State) (X : Place → Bool) → fits stands l item X ≡ true → Stands X s
          → After (Stands (behind item X)) (step (grammar std) below depth item s)
      unfolding take_one
      own_step (one classes) depth s X fit h = by (nat_lt s.at (length s.toks) && among classes (class_at (grammar std) s s.at)) refl
        where
          named : among classes (class_at (grammar std) s s.at) ≡ true → stands l (count_of s.built.under) ≡ true → is_named s.at ≡ true
          named there is =
              let c : Place = place (count_of s.built.under) in
              let at : stands l (number c) ≡ true = sym (places l (count_of s.built.under)) ∙ is in
              let only : only_names classes ≡ true =
              implied (stands l (number c) && X c) (only_names classes) (each_place (λ d. not (stands l (number d) && X d) || only_names classes) c fit) (and_from _ _ at h.here) in
              subst (λ ts. is_identifier (base_at (grammar std) ts s.at) ≡ true) h.text (name_is std classes only s s.at there)

          by : (b : Bool) → (nat_lt s.at (length s.toks) && among classes (class_at (grammar std) s s.at)) ≡ b
              → After (Stands (shifted X)) (if b then Ok (with_token s) else Err (syntax s.at))
          by true e = token_stands X s (named (and_parts (nat_lt s.at (length s.toks)) (among classes (class_at (grammar std) s s.at)) e).1) h
          by false e = tt
      own_step (part p) depth s X fit h = parts depth p s X h
      own_step end_of_text depth s X fit h = end_stands X s h
      own_step (act a) depth s X fit h = acted_stands X a s h
      own_step (a · b) depth s X fit h =
          let both = and_parts (fits stands l a X) (fits stands l b (behind a X)) fit in
          stands_then (behind a X) (behind b (behind a X)) (step (grammar std) below depth a s) (step (grammar std) below depth b) (own_step a depth s X both.0 h)
          (λ s' h'. own_step b depth s' (behind a X) both.1 h')
      own_step (choice a b) depth s X fit h =
          let both = and_parts (fits stands l a X) (fits stands l b X) fit in
          after_if (Stands (joined (behind a X) (behind b X))) (may (grammar std) own a s) _ _
          (wider (behind a X) (joined (behind a X) (behind b X)) (λ c e. or_left _ _ e) (step (grammar std) below depth a s) (own_step a depth s X both.0 h))
          (after_if (Stands (joined (behind a X) (behind b X))) (may (grammar std) own b s) _ _
          (wider (behind b X) (joined (behind a X) (behind b X)) (λ c e. or_right _ _ e) (step (grammar std) below depth b s) (own_step b depth s X both.1 h)) tt)
      own_step (maybe a) depth s X fit h =
          after_if (Stands (joined X (behind a X))) (may (grammar std) own a s) _ _
          (wider (behind a X) (joined X (behind a X)) (λ c e. or_right _ _ e) (step (grammar std) below depth a s) (own_step a depth s X fit h))
          (wider X (joined X (behind a X)) (λ c e. or_left _ _ e) (Ok s) h)
      own_step (many t a) depth s X fit h =
          let Y : Place → Bool = behind (many t a) X in
          let three = and_parts (fits stands l a Y) (is_within (behind a Y) Y && is_within X Y) fit in
          let two = and_parts (is_within (behind a Y) Y) (is_within X Y) three.1 in
          let h' : After (Stands Y) (Ok s) = wider X Y (λ c e. implied (X c) (Y c) (each_place (λ d. not (X d) || Y d) c two.1) e) (Ok s) h in
          after_if (Stands Y) (may (grammar std) t a s) _ _
          (stands_then Y Y (step (grammar std) below depth a s) (below depth (repeat t a))
          (wider (behind a Y) Y (λ c e. implied (behind a Y c) (Y c) (each_place (λ d. not (behind a Y d) || Y d) c two.0) e) (step (grammar std) below depth a s)
          (own_step a depth s Y three.0 h'))
          (λ s' k. more depth t a s' Y three.0 two.0 k))
          h'
      own_step (deep a) depth s X fit h =
          stands_then X (behind a X) (enter depth (may (grammar std) own a s) s) (step (grammar std) below (depth + 1) a) (enter_stands X depth (may (grammar std) own a s) s h)
          (λ s' h'. own_step a (depth + 1) s' X fit h')

      -- a repetition that goes on
      pub own_repeat : (t : Test) (a : Item) (depth : ℕ) (s : State) (X : Place → Bool) → fits stands l a X ≡ true → is_within (behind a X) X ≡ true → Stands X s
          → After (Stands X) (step (grammar std) below depth (many t a) s)
      own_repeat t a depth s X fit closed h =
          after_if (Stands X) (may (grammar std) t a s) _ _
          (stands_then X X (step (grammar std) below depth a s) (below depth (repeat t a))
          (wider (behind a X) X (λ c e. implied (behind a X c) (X c) (each_place (λ d. not (behind a X d) || X d) c closed) e) (step (grammar std) below depth a s)
          (own_step a depth s X fit h))
          (λ s' k. more depth t a s' X fit closed k))
          h
