use Rattle.std.proofs.Common.{◌-◌, ◌<◌, length, get_or, arith}
use Rattle.std.proofs.lemmas.Option.{slice_get-get_or}
use Rattle.eclass_map.proofs.TokenFacts.{Halved, no_added}
use Rattle.eclass_map.proofs.WholenessFacts.{no_beginning, other_beginning, entry_is_in}
use Rattle.eclass_map.proofs.wholeness.beginning_at.Goals as goal

pub returns-then-count-eq0 : goal.returns-then-count-eq0
returns-then-count-eq0 c =
    let halved : Halved c.args.tokens.now c.args.pos c.count_begun-count.result = record { before = c.count_begun-count.ensures.before; behind = c.count_begun-count.ensures.behind } in
    no_beginning c.args.tokens.now c.args.pos c.count_begun-count.result c.requires halved (let e = c.if-count-eq0.true in omega arith)

pub returns-then-is_same : goal.returns-then-is_same
returns-then-is_same c =
    let tokens = c.args.tokens.now in
    let last = c.count_begun-count.result - 1 in
    let within : last < length tokens = omega (arith, c.count_begun-count.ensures.within, c.if-count-eq0.false) in
    (entry_is_in tokens last (get_or tokens last no_added) (slice_get-get_or tokens last no_added within), c.if-is_same.ensures)

pub returns-else-is_same : goal.returns-else-is_same
returns-else-is_same c =
    let tokens = c.args.tokens.now in
    let count = c.count_begun-count.result in
    let some : 0 < count = omega (arith, c.if-count-eq0.false) in
    let within : count - 1 < length tokens = omega (arith, c.count_begun-count.ensures.within) in
    let halved : Halved tokens c.args.pos count = record { before = c.count_begun-count.ensures.before; behind = c.count_begun-count.ensures.behind } in
    other_beginning tokens c.args.pos count (get_or tokens (count - 1) no_added) c.requires halved some (slice_get-get_or tokens (count - 1) no_added within) c.if-is_same.ensures
