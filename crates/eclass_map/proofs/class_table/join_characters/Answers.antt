use Rattle.std.proofs.Common.{◌≡◌, ℕ, ◌<◌, List, length, drop, sym, ◌∙◌, ap, arith, Some}
use Rattle.std.specs.Prelude.{slice_get}
use Rattle.std.specs.Option.{option_and_then}
use Rattle.std.proofs.lemmas.List.{length-map, drop_all}
use Rattle.cs_base.specs.Token.{Token, origin_at}
use Rattle.eclass_map.specs.declared.token_list.Added.{Added}
use Rattle.class_labels.specs.Labels.{Labels, class_at, joined, joined_parts, common, step_parts}
use Rattle.eclass_map.specs.Positions.{numbers, number_of, Begins}
use Rattle.class_labels.specs.Walk.{AtPlace, Forced}
use Rattle.class_labels.proofs.ListFacts.{now_at}
use Rattle.class_labels.proofs.LookFacts.{look_below}
use Rattle.class_labels.proofs.LoopFacts.{stepped, stepped_as, begins_first, begins_second, joined_end, parts_end}
use Rattle.eclass_map.proofs.class_table.join_characters.Goals as goal

-- the number at a place
number_at : (tokens : List Added) (x : Token) (at n : ℕ) → n ≡ number_of tokens (origin_at x at) → at < length x.origins → slice_get (numbers tokens x.origins) at ≡ Some n
number_at tokens x at n e below =
    let o = look_below x.origins at below in
    let origin : origin_at x at ≡ o.0 = ap (λ v. option_and_then (λ origin. origin) v) o.1 in
    now_at (number_of tokens) x.origins at o.0 o.1 ∙ ap Some (sym (e ∙ ap (number_of tokens) origin))

-- where a step of the loop stands
record Here (B : ℕ → Type 0) (R : ℕ → ℕ → Type 0) (n at x y : ℕ) (xs ys : List ℕ) (t : Labels) : Type 0 where
  at_x : slice_get xs at ≡ Some x
  at_y : slice_get ys at ≡ Some y
  place : AtPlace B R n 0 (drop at xs) (drop at ys) t
  below : at < length xs

here_from : (tokens : List Added) (x y : Token) (R : ℕ → ℕ → Type 0) (n at i j len : ℕ) (t : Labels) → i ≡ number_of tokens (origin_at x at) → j ≡ number_of tokens (origin_at y at) → at < len → len ≡ length x.origins → length (numbers tokens x.origins) ≡ length (numbers tokens y.origins)
    → AtPlace (Begins tokens) R n 0 (drop at (numbers tokens x.origins)) (drop at (numbers tokens y.origins)) t → Here (Begins tokens) R n at i j (numbers tokens x.origins) (numbers tokens y.origins) t
here_from tokens x y R n at i j len t e f below long even place =
    let long_x : length (numbers tokens x.origins) ≡ length x.origins = length-map x.origins (number_of tokens) in
    let long_y : length (numbers tokens y.origins) ≡ length y.origins = length-map y.origins (number_of tokens) in
    record { at_x = number_at tokens x at i e (omega arith); at_y = number_at tokens y at j f (omega arith); place = place; below = omega arith }

pub step-part_len-requires-clause-first : goal.step-part_len-requires-clause-first
step-part_len-requires-clause-first g c =
    let tokens = c.args.tokens.now in
    let xs = numbers tokens c.args.x.now.origins in
    let ys = numbers tokens c.args.y.now.origins in
    let old = c.args.labels.now in
    let t = c.loop-at.labels in
    let R : ℕ → ℕ → Type 0 = Forced xs ys old in
    let n = length old.spots in
    let e : c.number-first.result ≡ number_of tokens (origin_at c.args.x.now c.loop-at.at) = c.number-first.ensures ∙ ap (number_of tokens) c.origins.ensures.answer in
    let f : c.number-second.result ≡ number_of tokens (origin_at c.args.y.now c.loop-at.at) = c.number-second.ensures ∙ ap (number_of tokens) c.origins-in-loop-at.ensures.answer in
    let here = here_from tokens c.args.x.now c.args.y.now R n c.loop-at.at c.number-first.result c.number-second.result c.args.len t e f c.loop-at-test.true c.requires.len c.requires.place.even c.loop-at.invariant.place in
    begins_first (Begins tokens) R n c.loop-at.at c.number-first.result xs ys t here.place here.at_x

pub step-part_len-requires-clause-second : goal.step-part_len-requires-clause-second
step-part_len-requires-clause-second g c =
    let tokens = c.args.tokens.now in
    let xs = numbers tokens c.args.x.now.origins in
    let ys = numbers tokens c.args.y.now.origins in
    let old = c.args.labels.now in
    let t = c.loop-at.labels in
    let R : ℕ → ℕ → Type 0 = Forced xs ys old in
    let n = length old.spots in
    let e : c.number-first.result ≡ number_of tokens (origin_at c.args.x.now c.loop-at.at) = c.number-first.ensures ∙ ap (number_of tokens) c.origins.ensures.answer in
    let f : c.number-second.result ≡ number_of tokens (origin_at c.args.y.now c.loop-at.at) = c.number-second.ensures ∙ ap (number_of tokens) c.origins-in-loop-at.ensures.answer in
    let here = here_from tokens c.args.x.now c.args.y.now R n c.loop-at.at c.number-first.result c.number-second.result c.args.len t e f c.loop-at-test.true c.requires.len c.requires.place.even c.loop-at.invariant.place in
    begins_second (Begins tokens) R n c.loop-at.at c.number-second.result xs ys t here.place here.at_y

pub overflow_add-at : goal.overflow_add-at
overflow_add-at g c =
    let tokens = c.args.tokens.now in
    let xs = numbers tokens c.args.x.now.origins in
    let ys = numbers tokens c.args.y.now.origins in
    let old = c.args.labels.now in
    let t = c.loop-at.labels in
    let R : ℕ → ℕ → Type 0 = Forced xs ys old in
    let n = length old.spots in
    let e : c.number-first.result ≡ number_of tokens (origin_at c.args.x.now c.loop-at.at) = c.number-first.ensures ∙ ap (number_of tokens) c.origins.ensures.answer in
    let f : c.number-second.result ≡ number_of tokens (origin_at c.args.y.now c.loop-at.at) = c.number-second.ensures ∙ ap (number_of tokens) c.origins-in-loop-at.ensures.answer in
    let here = here_from tokens c.args.x.now c.args.y.now R n c.loop-at.at c.number-first.result c.number-second.result c.args.len t e f c.loop-at-test.true c.requires.len c.requires.place.even c.loop-at.invariant.place in
    let l = common t (class_at t c.number-first.result) (class_at t c.number-second.result) in
    let s = stepped_as (Begins tokens) R n c.loop-at.at l c.step-part_len.result (step_parts (class_at t c.number-first.result) (class_at t c.number-second.result) t) xs ys t _ c.step-part_len.new.self c.step-part_len.ensures.len c.step-part_len.ensures.table
    (stepped (Begins tokens) R n c.loop-at.at c.number-first.result c.number-second.result xs ys t here.at_x here.at_y here.place here.below) in
    let long : length xs ≡ length c.args.x.now.origins = length-map c.args.x.now.origins (number_of tokens) in
    omega (arith, s.within, c.requires.len)

pub loop-at-smaller : goal.loop-at-smaller
loop-at-smaller g c =
    let tokens = c.args.tokens.now in
    let xs = numbers tokens c.args.x.now.origins in
    let ys = numbers tokens c.args.y.now.origins in
    let old = c.args.labels.now in
    let t = c.loop-at.labels in
    let R : ℕ → ℕ → Type 0 = Forced xs ys old in
    let n = length old.spots in
    let e : c.number-first.result ≡ number_of tokens (origin_at c.args.x.now c.loop-at.at) = c.number-first.ensures ∙ ap (number_of tokens) c.origins.ensures.answer in
    let f : c.number-second.result ≡ number_of tokens (origin_at c.args.y.now c.loop-at.at) = c.number-second.ensures ∙ ap (number_of tokens) c.origins-in-loop-at.ensures.answer in
    let here = here_from tokens c.args.x.now c.args.y.now R n c.loop-at.at c.number-first.result c.number-second.result c.args.len t e f c.loop-at-test.true c.requires.len c.requires.place.even c.loop-at.invariant.place in
    let l = common t (class_at t c.number-first.result) (class_at t c.number-second.result) in
    let s = stepped_as (Begins tokens) R n c.loop-at.at l c.step-part_len.result (step_parts (class_at t c.number-first.result) (class_at t c.number-second.result) t) xs ys t _ c.step-part_len.new.self c.step-part_len.ensures.len c.step-part_len.ensures.table
    (stepped (Begins tokens) R n c.loop-at.at c.number-first.result c.number-second.result xs ys t here.at_x here.at_y here.place here.below) in
    let long : length xs ≡ length c.args.x.now.origins = length-map c.args.x.now.origins (number_of tokens) in
    omega (arith, s.within, s.some, c.requires.len)

pub loop-at-preserved : goal.loop-at-preserved
loop-at-preserved g c =
    let tokens = c.args.tokens.now in
    let xs = numbers tokens c.args.x.now.origins in
    let ys = numbers tokens c.args.y.now.origins in
    let old = c.args.labels.now in
    let t = c.loop-at.labels in
    let R : ℕ → ℕ → Type 0 = Forced xs ys old in
    let n = length old.spots in
    let e : c.number-first.result ≡ number_of tokens (origin_at c.args.x.now c.loop-at.at) = c.number-first.ensures ∙ ap (number_of tokens) c.origins.ensures.answer in
    let f : c.number-second.result ≡ number_of tokens (origin_at c.args.y.now c.loop-at.at) = c.number-second.ensures ∙ ap (number_of tokens) c.origins-in-loop-at.ensures.answer in
    let here = here_from tokens c.args.x.now c.args.y.now R n c.loop-at.at c.number-first.result c.number-second.result c.args.len t e f c.loop-at-test.true c.requires.len c.requires.place.even c.loop-at.invariant.place in
    let l = common t (class_at t c.number-first.result) (class_at t c.number-second.result) in
    let s = stepped_as (Begins tokens) R n c.loop-at.at l c.step-part_len.result (step_parts (class_at t c.number-first.result) (class_at t c.number-second.result) t) xs ys t _ c.step-part_len.new.self c.step-part_len.ensures.len c.step-part_len.ensures.table
    (stepped (Begins tokens) R n c.loop-at.at c.number-first.result c.number-second.result xs ys t here.at_x here.at_y here.place here.below) in
    let long : length xs ≡ length c.args.x.now.origins = length-map c.args.x.now.origins (number_of tokens) in
    record {
      rest = sym s.rest ∙ c.loop-at.invariant.rest;
      ticks = omega (arith, s.counts, c.step-part_len.ensures.steps, c.loop-at.invariant.ticks);
      place = s.place;
      within = omega (arith, s.within);
    }

pub returns-clause-labels : goal.returns-clause-labels
returns-clause-labels g c =
    let tokens = c.args.tokens.now in
    let xs = numbers tokens c.args.x.now.origins in
    let ys = numbers tokens c.args.y.now.origins in
    let long : length xs ≡ length c.args.x.now.origins = length-map c.args.x.now.origins (number_of tokens) in
    let done = drop_all c.loop-at.at xs (omega (arith, c.requires.len)) in
    sym (joined_end (drop c.loop-at.at ys) c.loop-at.labels) ∙ ap (λ v. joined 0 v (drop c.loop-at.at ys) c.loop-at.labels) (sym done) ∙ c.loop-at.invariant.rest

pub returns-clause-steps : goal.returns-clause-steps
returns-clause-steps g c =
    let tokens = c.args.tokens.now in
    let xs = numbers tokens c.args.x.now.origins in
    let ys = numbers tokens c.args.y.now.origins in
    let long : length xs ≡ length c.args.x.now.origins = length-map c.args.x.now.origins (number_of tokens) in
    let done = drop_all c.loop-at.at xs (omega (arith, c.requires.len)) in
    let none : joined_parts 0 (drop c.loop-at.at xs) (drop c.loop-at.at ys) c.loop-at.labels ≡ 0 =
    ap (λ v. joined_parts 0 v (drop c.loop-at.at ys) c.loop-at.labels) done ∙ parts_end (drop c.loop-at.at ys) c.loop-at.labels in
    omega (arith, c.loop-at.invariant.ticks)
