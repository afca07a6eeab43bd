-- The rows of values that the steps of queries make.
use Rattle.std.proofs.Common.{◌≡◌, ℕ, ◌+◌, ◌-◌, ◌<◌, ◌≤◌, Bool, true, false, List, [], ◌∷◌, ◌++◌, length, take, drop, get_or, refl, sym, ap, ◌∙◌, arith, length-append}
use Rattle.std.specs.Prelude.{◌&&◌, ◌||◌, not, filter, nat_le}
use Rattle.std.proofs.lemmas.Bool.{cases_Bool}
use Rattle.std.proofs.lemmas.List.{take_at}
use Rattle.query_words.specs.declared.attributes.Attribute.{Attribute}
use Rattle.query_words.specs.declared.attributes.Facts.{Facts}
use Rattle.query_words.specs.declared.steps.Step.{Step}
use Rattle.query_words.specs.declared.steps.Step.TheVariants as step
use Rattle.query_words.specs.Patterns.{matches}
use Rattle.query_words.specs.Queries.{Query, Either, Both, Not, Is, Named, value}
use Rattle.query_words.specs.Steps.{IsSpelled, Runs, front_of, last_of, put, run, step_on}

-- ---- rows

pub front_put : (values : List Bool) (b : Bool) → front_of (put values b) ≡ values
front_put values b =
    let long = length-append values (b ∷ []) in
    take_at values (b ∷ []) (length (put values b) - 1) (omega (arith, long))

at_end : (values : List Bool) (b : Bool) → get_or (put values b) (length values) false ≡ b
at_end [] b = refl
at_end (v ∷ values) b = at_end values b

pub last_put : (values : List Bool) (b : Bool) → last_of (put values b) ≡ b
last_put values b =
    let long = length-append values (b ∷ []) in
    let is : length (put values b) - 1 ≡ length values = omega (arith, long) in
    ap (λ (n : ℕ). get_or (put values b) n false) is ∙ at_end values b

-- ---- steps behind others

module _ (facts : Facts) (spelling : List ℕ) where
  run_append : (xs ys : List Step) (values : List Bool) → run facts spelling (xs ++ ys) values ≡ run facts spelling ys (run facts spelling xs values)
  unfolding run
  run_append [] ys values = refl
  run_append (x ∷ xs) ys values = run_append xs ys (step_on facts spelling values x)

  pub run_one : (xs : List Step) (x : Step) (values : List Bool)
      → run facts spelling (xs ++ x ∷ []) values ≡ step_on facts spelling (run facts spelling xs values) x
  unfolding run
  run_one xs x values = run_append xs (x ∷ []) values

  pub run_none : (values : List Bool) → run facts spelling [] values ≡ values
  unfolding run
  run_none values = refl

run_last : (facts : Facts) (spelling : List ℕ) (old new : List Step) (x : Step) (values : List Bool) → new ≡ old ++ x ∷ []
    → run facts spelling new values ≡ step_on facts spelling (run facts spelling old values) x
run_last facts spelling old new x values is = ap (λ (steps : List Step). run facts spelling steps values) is ∙ run_one facts spelling old x values

pub runs_spelled : (old new : List Step) (x : Step) (pattern : List ℕ) → IsSpelled pattern x → new ≡ old ++ x ∷ [] → Runs old new (Named pattern)
unfolding value
runs_spelled old new x pattern says is = record {
  runs = λ facts spelling values. run_last facts spelling old new x values is ∙ says facts spelling (run facts spelling old values);
}

pub runs_has : (old new : List Step) (attribute : Attribute) → new ≡ old ++ step.Has attribute ∷ [] → Runs old new (Is attribute)
unfolding value
runs_has old new attribute is = record { runs = λ facts spelling values. run_last facts spelling old new (step.Has attribute) values is }

pub runs_not : (old mid new : List Step) (q : Query) → Runs old mid q → new ≡ mid ++ step.Negate ∷ [] → Runs old new (Not q)
unfolding value
runs_not old mid new q first is = record {
  runs = λ facts spelling values.
      let row = run facts spelling old values in
      let b = value facts spelling q in
      run_last facts spelling mid new step.Negate values is
      ∙ ap (λ (vs : List Bool). step_on facts spelling vs step.Negate) (first.runs facts spelling values)
      ∙ ap (λ (vs : List Bool). put vs (not (last_of (put row b)))) (front_put row b)
      ∙ ap (λ (x : Bool). put row (not x)) (last_put row b);
}

-- two values behind others, and one made of them
two_put : (row : List Bool) (a b : Bool) (of : Bool → Bool → Bool)
    → put (front_of (front_of (put (put row a) b))) (of (last_of (front_of (put (put row a) b))) (last_of (put (put row a) b))) ≡ put row (of a b)
two_put row a b of =
    ap (λ (vs : List Bool). put (front_of vs) (of (last_of vs) (last_of (put (put row a) b)))) (front_put (put row a) b)
    ∙ ap (λ (x : Bool). put (front_of (put row a)) (of (last_of (put row a)) x)) (last_put (put row a) b)
    ∙ ap (λ (x : Bool). put (front_of (put row a)) (of x b)) (last_put row a)
    ∙ ap (λ (vs : List Bool). put vs (of a b)) (front_put row a)

-- two queries one behind the other
two_runs : (facts : Facts) (spelling : List ℕ) (old mid late : List Step) (p q : Query) (values : List Bool) → Runs old mid p → Runs mid late q
    → run facts spelling late values ≡ put (put (run facts spelling old values) (value facts spelling p)) (value facts spelling q)
two_runs facts spelling old mid late p q values first second =
    second.runs facts spelling values ∙ ap (λ (vs : List Bool). put vs (value facts spelling q)) (first.runs facts spelling values)

pub runs_both : (old mid late new : List Step) (p q : Query) → Runs old mid p → Runs mid late q → new ≡ late ++ step.And ∷ [] → Runs old new (Both p q)
unfolding value
runs_both old mid late new p q first second is = record {
  runs = λ facts spelling values.
      run_last facts spelling late new step.And values is
      ∙ ap (λ (vs : List Bool). step_on facts spelling vs step.And) (two_runs facts spelling old mid late p q values first second)
      ∙ two_put (run facts spelling old values) (value facts spelling p) (value facts spelling q) (λ a b. a && b);
}

pub runs_either : (old mid late new : List Step) (p q : Query) → Runs old mid p → Runs mid late q → new ≡ late ++ step.Or ∷ [] → Runs old new (Either p q)
unfolding value
runs_either old mid late new p q first second is = record {
  runs = λ facts spelling values.
      run_last facts spelling late new step.Or values is
      ∙ ap (λ (vs : List Bool). step_on facts spelling vs step.Or) (two_runs facts spelling old mid late p q values first second)
      ∙ two_put (run facts spelling old values) (value facts spelling p) (value facts spelling q) (λ a b. a || b);
}

-- steps with none before them make the value alone
pub says_of : (old new : List Step) (q : Query) → old ≡ [] → Runs old new q → (facts : Facts) (spelling : List ℕ)
    → run facts spelling new [] ≡ value facts spelling q ∷ []
unfolding run
says_of old new q none is facts spelling =
    is.runs facts spelling [] ∙ ap (λ (steps : List Step). put (run facts spelling steps []) (value facts spelling q)) none
