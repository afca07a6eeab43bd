use Rattle.std.proofs.Common.{◌≡◌, ◌+◌, ◌<◌, ◌++◌, ◌∷◌, [], List, Option, None, length, take, get_or, map, rules, arith, ap, sym, ◌∙◌}
use Rattle.std.specs.List.{range_with_len}
use Rattle.std.proofs.lemmas.List.{take_more, take_all}
use Rattle.std.proofs.lemmas.List.FromFn.{map-range_with_len_more}
use Rattle.cs_base.specs.declared.positions.Pos.{Pos}
use Rattle.cs_base.proofs.OriginLemmas.{next_to, origins_by-whole, padded_whole}
use Rattle.cs_base.proofs.spans.first_of_neighbours.Goals as goal

pub loop-k-preserved : goal.loop-k-preserved
loop-k-preserved c =
    let first = c.in-Some-Some.first in
    let k = c.loop-k.k in
    let given = c.args.origins.now in
    let within : k < length given = omega arith in
    let same : get_or given k None ≡ next_to first k = search (rules, arith) in
    let more : take (k + 1) given ≡ map (next_to first) (range_with_len 0 (k + 1)) =
    take_more given k None within
    ∙ ap (λ (next : Option Pos). take k given ++ next ∷ []) same
    ∙ ap (λ (front : List (Option Pos)). front ++ next_to first k ∷ []) c.loop-k.invariant.0
    ∙ sym (map-range_with_len_more (next_to first) 0 k k (omega arith)) in
    search (rules, more, arith)

pub returns-clause-same : goal.returns-clause-same
returns-clause-same c =
    let first = c.in-Some-Some.first in
    let n = c.args.len in
    let given = c.args.origins.now in
    let whole : length given ≡ n = omega arith in
    let done : c.loop-k.k ≡ n = omega arith in
    let all : take c.loop-k.k given ≡ given = take_all c.loop-k.k given (omega arith) in
    let told : given ≡ map (next_to first) (range_with_len 0 n) = rw (← done) (sym all ∙ c.loop-k.invariant.0) in
    padded_whole n given whole ∙ told ∙ sym (origins_by-whole n first)
