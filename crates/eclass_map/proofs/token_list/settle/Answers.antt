use Rattle.std.proofs.Common.{◌≡◌, ◌+◌, ◌<◌, ◌^◌, [], ◌∷◌, ◌++◌, get_or, refl, ap, arith, rules}
use Rattle.eclass_map.specs.declared.token_list.Added.{Added}
use Rattle.eclass_map.specs.Settled.{settled_token}
use Rattle.eclass_map.proofs.TokenFacts.{no_added}
use Rattle.eclass_map.proofs.SettledFacts.{settled_here, settled_more, settled_all, token_here, behind_more}
use Rattle.eclass_map.proofs.token_list.settle.Goals as goal

pub settled_one-token-requires-clause-first : goal.settled_one-token-requires-clause-first
settled_one-token-requires-clause-first c = c.requires.numbers.first c.loop-index.index (get_or c.args.tokens.now c.loop-index.index no_added) (token_here c.args.tokens.now c.loop-index.index c.loop-index-test.true)

pub settled_one-token-requires-clause-ends : goal.settled_one-token-requires-clause-ends
settled_one-token-requires-clause-ends c = c.requires.numbers.ends c.loop-index.index (get_or c.args.tokens.now c.loop-index.index no_added) (token_here c.args.tokens.now c.loop-index.index c.loop-index-test.true)

pub settled_one-token-requires-clause-grows : goal.settled_one-token-requires-clause-grows
settled_one-token-requires-clause-grows c = c.requires.numbers.grows c.loop-index.index (get_or c.args.tokens.now c.loop-index.index no_added) (token_here c.args.tokens.now c.loop-index.index c.loop-index-test.true)

pub settled_one-token-requires-clause-numbered : goal.settled_one-token-requires-clause-numbered
settled_one-token-requires-clause-numbered c = c.requires.tokens.numbered c.loop-index.index (get_or c.args.tokens.now c.loop-index.index no_added) (token_here c.args.tokens.now c.loop-index.index c.loop-index-test.true)

pub settled_one-token-requires-clause-behind : goal.settled_one-token-requires-clause-behind
settled_one-token-requires-clause-behind c = λ e. c.loop-index.invariant.behind c.loop-index.index (get_or c.args.tokens.now c.loop-index.index no_added) (omega arith) (token_here c.args.tokens.now c.loop-index.index c.loop-index-test.true) e

pub settled_one-token-requires-clause-fits : goal.settled_one-token-requires-clause-fits
settled_one-token-requires-clause-fits c =
    let tokens = c.args.tokens.now in
    let index = c.loop-index.index in
    let s = settled_token c.args.numbers.now c.loop-index.from c.loop-index.to (get_or tokens index no_added) in
    let fits : s.place.start.at + s.place.len < 2 ^ 32 = c.requires.fits index s
    (settled_here c.args.numbers.now c.loop-index.from c.loop-index.to tokens c.loop-index.all.items _ index c.loop-index-test.true (omega (arith, c.loop-index.invariant.long, c.loop-index.all.ok.0)) c.loop-index.invariant.rest) in
    omega arith

pub end_of-from-requires : goal.end_of-from-requires
end_of-from-requires c = c.requires.within c.loop-index.index (get_or c.args.tokens.now c.loop-index.index no_added) (token_here c.args.tokens.now c.loop-index.index c.loop-index-test.true)

pub overflow_add-to : goal.overflow_add-to
overflow_add-to c =
    let tokens = c.args.tokens.now in
    let index = c.loop-index.index in
    let s = settled_token c.args.numbers.now c.loop-index.from c.loop-index.to (get_or tokens index no_added) in
    let fits : s.place.start.at + s.place.len < 2 ^ 32 = c.requires.fits index s
    (settled_here c.args.numbers.now c.loop-index.from c.loop-index.to tokens c.loop-index.all.items _ index c.loop-index-test.true (omega (arith, c.loop-index.invariant.long, c.loop-index.all.ok.0)) c.loop-index.invariant.rest) in
    let same : c.settled_one-token.result.place.start.at + c.settled_one-token.result.place.len ≡ s.place.start.at + s.place.len = ap (λ (v : Added). v.place.start.at + v.place.len) c.settled_one-token.ensures in
    omega arith

pub loop-index-preserved : goal.loop-index-preserved
loop-index-preserved c =
    let tokens = c.args.tokens.now in
    let index = c.loop-index.index in
    let pushed : c.push.new.self.items ≡ c.loop-index.all.items ++ c.settled_one-token.result ∷ [] = search rules in
    record {
      rest = settled_more c.args.numbers.now c.loop-index.from c.end_of-from.result c.loop-index.to _ c.settled_one-token.result tokens c.loop-index.all.items _ _ index c.loop-index-test.true c.loop-index.invariant.rest c.settled_one-token.ensures pushed c.end_of-from.ensures refl;
      long = grind arith;
      room = omega (arith, c.loop-index.invariant.room, c.push.ensures.capacity);
      behind = λ k r beyond at e. behind_more tokens index k r c.end_of-from.result c.requires.tokens c.loop-index-test.true beyond at c.end_of-from.ensures e;
    }

pub returns : goal.returns
returns c = settled_all c.args.numbers.now c.loop-index.from c.loop-index.to c.args.tokens.now c.loop-index.all.items _ c.loop-index.index (omega (arith, c.loop-index-test.false)) c.loop-index.invariant.rest
