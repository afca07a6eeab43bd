-- What is true of each token that stands where names do is true of each bare name.
use Rattle.std.proofs.Common.{ℕ, ◌+◌, ◌≡◌, Bool, true, false, ◌||◌, not, if◌then◌else◌, [], ◌∷◌, ◌++◌, inl, inr, refl, ◌∙◌, arith}
use Rattle.std.specs.Prelude.{◌==◌, ◌%◌}
use Rattle.std.specs.List.{list_all}
use Rattle.std.proofs.lemmas.Bool.{cases_Bool, false≢true, and_parts, and_from, eqb-true, eq-eqb}
use Rattle.std.proofs.lemmas.List.Folds.{list_all-append}
use Rattle.cs_base.proofs.BoolLemmas.{or_first}
use Rattle.c99_tree.specs.Tree.{Forest, none, token, node}
use Rattle.c99_tree.specs.declared.production.Label.{Label}
use Rattle.c99_tree.specs.declared.production.Production.{Production}
use Rattle.c99_tree.specs.declared.production.Production.TheVariants.{Direct, Params, Pdirect}
use Rattle.c99_tree.specs.contracts.production.ProductionPartialEq.TheImpl.{ghosts}
use Rattle.c_types.specs.Trees.{is_at, is_node, has_name}
use Rattle.c_types.specs.Lists.{odd_tokens, even_tokens, name_in, bare_at, bare_in}
use Rattle.scope_bind.specs.Named.{is_plain_role}
use Rattle.scope_bind.specs.Roles.{role_of}
use Rattle.tree_laws.specs.TreesOfTexts.{is_name_place, names_pass}

listed_role : (p : Production) (a k : ℕ) → ghosts.eq p Params ≡ true → (a == 1) ≡ true → (k % 2 == 0) ≡ true → not (is_plain_role (role_of p a k)) ≡ true
listed_role Params a k same one even = rw (one, even) refl
listed_role _ a k same one even = absurd (false≢true same)

or_second : (a b c : Bool) → b ≡ true → (a || (b || c)) ≡ true
or_second true b c e = refl
or_second false b c e = or_first b c e

-- an identifier of an identifier list
listed_place : (l : Label) (k : ℕ) → is_at l Params 1 ≡ true → ((k + 1) % 2 == 1) ≡ true → is_name_place l k ≡ true
listed_place l k at odd =
    let both = and_parts (is_node l Params) (l.alternative == 1) at in
    let even : (k % 2 == 0) ≡ true = eq-eqb (k % 2) 0 (let e : (k + 1) % 2 ≡ 1 = eqb-true ((k + 1) % 2) 1 odd in omega (arith, e)) in
    or_first (not (is_plain_role (role_of l.production l.alternative k))) _ (listed_role l.production l.alternative k both.0 both.1 even)

-- the name of a declarator
named_place : (l : Label) (k : ℕ) → is_at l Pdirect 1 ≡ true → is_name_place l k ≡ true
named_place l k at = or_second (not (is_plain_role (role_of l.production l.alternative k))) (has_name l) _ (or_last (is_at l Direct 1) (is_at l Pdirect 1) at)
  where
    or_last : (a b : Bool) → b ≡ true → (a || b) ≡ true
    or_last true b e = refl
    or_last false b e = e

module _ (test : ℕ → Bool) where
  passes_at : (c : Bool) (i : ℕ) → (not c || test i) ≡ true → c ≡ true → test i ≡ true
  passes_at true i h e = h
  passes_at false i h e = absurd (false≢true e)

  odd_pass : (f : Forest) (l : Label) (k : ℕ) → is_at l Params 1 ≡ true → names_pass test l k f ≡ true → list_all test (odd_tokens (k + 1) f) ≡ true
  odd_pass none l k at h = refl
  odd_pass (token i rest) l k at h =
      let both = and_parts (not (is_name_place l k) || test i) (names_pass test l (k + 1) rest) h in
      let more = odd_pass rest l (k + 1) at both.1 in
      elim (cases_Bool ((k + 1) % 2 == 1)) [
        | inl odd ↦ rw odd (and_from (test i) (list_all test (odd_tokens (k + 1 + 1) rest)) (passes_at (is_name_place l k) i both.0 (listed_place l k at odd)) more)
        | inr even ↦ rw even more
      ]
  odd_pass (node m first under rest) l k at h =
      odd_pass rest l (k + 1) at (and_parts (names_pass test m 0 under) (names_pass test l (k + 1) rest) h).1

  if_pass : (c : Bool) (i : ℕ) → (c ≡ true → test i ≡ true) → list_all test (if c then i ∷ [] else []) ≡ true
  if_pass true i h = and_from (test i) true (h refl) refl
  if_pass false i h = refl

  name_pass : (f : Forest) (l : Label) → names_pass test l 0 f ≡ true → list_all test (name_in f) ≡ true
  name_pass (token p (node m first (node n begin (token i list) rest) more)) l h =
      let behind = (and_parts (not (is_name_place l 0) || test p) (names_pass test l 1 (node m first (node n begin (token i list) rest) more)) h).1 in
      let below = (and_parts (names_pass test m 0 (node n begin (token i list) rest)) (names_pass test l 2 more) behind).0 in
      let inside = (and_parts (names_pass test n 0 (token i list)) (names_pass test m 1 rest) below).0 in
      let here = (and_parts (not (is_name_place n 0) || test i) (names_pass test n 1 list) inside).0 in
      if_pass (is_at n Pdirect 1) i (λ at. passes_at (is_name_place n 0) i here (named_place n 0 at))
  name_pass _ l h = refl

  own_pass : (l : Label) (under : Forest) (c d : Bool) → is_at l Params 1 ≡ c → names_pass test l 0 under ≡ true
      → list_all test (if c then even_tokens under else (if d then name_in under else [])) ≡ true
  own_pass l under true d at h = odd_pass under l 0 at h
  own_pass l under false true at h = name_pass under l h
  own_pass l under false false at h = refl

  pub bare_pass : (f : Forest) (l : Label) (k : ℕ) → names_pass test l k f ≡ true → list_all test (bare_in f) ≡ true
  bare_pass none l k h = refl
  bare_pass (token i rest) l k h = bare_pass rest l (k + 1) (and_parts (not (is_name_place l k) || test i) (names_pass test l (k + 1) rest) h).1
  bare_pass (node m first under rest) l k h =
      let both = and_parts (names_pass test m 0 under) (names_pass test l (k + 1) rest) h in
      list_all-append test (bare_at m under ++ bare_in under) (bare_in rest)
      ∙ and_from (list_all test (bare_at m under ++ bare_in under)) (list_all test (bare_in rest))
      (list_all-append test (bare_at m under) (bare_in under)
      ∙ and_from (list_all test (bare_at m under)) (list_all test (bare_in under))
      (own_pass m under (is_at m Params 1) (is_at m Pdirect 2) refl both.0) (bare_pass under m 0 both.0))
      (bare_pass rest l (k + 1) both.1)
