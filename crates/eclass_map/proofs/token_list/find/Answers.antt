use Rattle.std.proofs.Common.{◌≡◌, ◌-◌, ◌<◌, true, false, length, get_or, sym, ◌∙◌, arith}
use Rattle.std.proofs.lemmas.Option.{slice_get-get_or}
use Rattle.eclass_map.specs.Positions.{holds}
use Rattle.eclass_map.proofs.TokenFacts.{Halved, holding, found_none, found_not, found_here, no_added}
use Rattle.eclass_map.proofs.token_list.find.Goals as goal

pub returns-then-count-eq0 : goal.returns-then-count-eq0
returns-then-count-eq0 c =
    let halved : Halved c.args.tokens.now c.args.pos c.count_begun-count.result = record { before = c.count_begun-count.ensures.before; behind = c.count_begun-count.ensures.behind } in
    sym (found_none c.args.tokens.now c.args.pos c.count_begun-count.result halved (let e = c.if-count-eq0.true in omega arith))

pub overflow_add-result : goal.overflow_add-result
overflow_add-result c =
    let tokens = c.args.tokens.now in
    let last = c.count_begun-count.result - 1 in
    let within : last < length tokens = omega (arith, c.count_begun-count.ensures.within, c.if-count-eq0.false) in
    let token = get_or tokens last no_added in
    let held : holds token.place c.args.pos ≡ true = sym c.part_holds.ensures ∙ c.if-part_holds.true in
    let h = holding token.place c.args.pos held in
    omega (arith, c.requires.numbered last token (slice_get-get_or tokens last no_added within), h.less)

pub returns-then-part_holds : goal.returns-then-part_holds
returns-then-part_holds c =
    let tokens = c.args.tokens.now in
    let count = c.count_begun-count.result in
    let some : 0 < count = omega (arith, c.if-count-eq0.false) in
    let within : count - 1 < length tokens = omega (arith, c.count_begun-count.ensures.within) in
    let token = get_or tokens (count - 1) no_added in
    let held : holds token.place c.args.pos ≡ true = sym c.part_holds.ensures ∙ c.if-part_holds.true in
    let halved : Halved tokens c.args.pos count = record { before = c.count_begun-count.ensures.before; behind = c.count_begun-count.ensures.behind } in
    sym (found_here tokens c.args.pos count token c.requires halved some (slice_get-get_or tokens (count - 1) no_added within) held)

pub returns-else-part_holds : goal.returns-else-part_holds
returns-else-part_holds c =
    let tokens = c.args.tokens.now in
    let count = c.count_begun-count.result in
    let some : 0 < count = omega (arith, c.if-count-eq0.false) in
    let within : count - 1 < length tokens = omega (arith, c.count_begun-count.ensures.within) in
    let token = get_or tokens (count - 1) no_added in
    let not_held : holds token.place c.args.pos ≡ false = sym c.part_holds.ensures ∙ c.if-part_holds.false in
    let halved : Halved tokens c.args.pos count = record { before = c.count_begun-count.ensures.before; behind = c.count_begun-count.ensures.behind } in
    sym (found_not tokens c.args.pos count token c.requires halved some (slice_get-get_or tokens (count - 1) no_added within) not_held)
