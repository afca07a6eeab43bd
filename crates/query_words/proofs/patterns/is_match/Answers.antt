use Rattle.std.proofs.Common.{sym, ap, ◌∙◌, List, ℕ, ◌-◌, length, take, drop}
use Rattle.query_words.specs.Patterns.{matches}
use Rattle.query_words.proofs.FrontLemmas.{byte_within, none_left, other_byte, rest_of, same_byte}
use Rattle.query_words.proofs.patterns.is_match.Goals as goal

pub returns-then-is_star : goal.returns-then-is_star
returns-then-is_star c =
    let pattern = c.args.pattern.now in
    let text = c.args.text.now in
    let k = c.loop-k.k in
    c.matches.ensures
    ∙ ap (λ (xs : List ℕ). matches xs (take (length text - k) (drop k text))) (rest_of pattern k)
    ∙ ap (λ (xs : List ℕ). matches (drop k pattern) xs) (rest_of text k)
    ∙ c.loop-k.invariant.rest

pub returns-then-not-is_byte : goal.returns-then-not-is_byte
returns-then-not-is_byte c =
    sym (other_byte c.args.pattern.now c.args.text.now c.loop-k.k c.loop-k-test.true (sym c.is_star.ensures ∙ c.if-is_star.false) (sym c.if-not-is_byte.ensures.answer))
    ∙ c.loop-k.invariant.rest

pub loop-k-preserved : goal.loop-k-preserved
loop-k-preserved c = record {
  rest =
      same_byte c.args.pattern.now c.args.text.now c.loop-k.k c.loop-k-test.true (sym c.is_star.ensures ∙ c.if-is_star.false) (sym c.if-not-is_byte.ensures.answer)
      ∙ c.loop-k.invariant.rest;
  within = byte_within c.args.text.now c.loop-k.k _ (sym c.if-not-is_byte.ensures.answer);
}

pub returns : goal.returns
returns c =
    sym (none_left c.args.pattern.now c.args.text.now c.loop-k.k c.loop-k-test.false c.loop-k.auto.k-end c.loop-k.invariant.within)
    ∙ c.loop-k.invariant.rest
