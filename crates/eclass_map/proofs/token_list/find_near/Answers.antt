use Rattle.std.proofs.Common.{◌≡◌, true, get_or, sym, ◌∙◌, arith}
use Rattle.std.proofs.lemmas.Option.{slice_get-get_or}
use Rattle.eclass_map.specs.Positions.{holds}
use Rattle.eclass_map.proofs.TokenFacts.{holding, index_of_holder, no_added}
use Rattle.eclass_map.proofs.token_list.find_near.Goals as goal

pub overflow_add-result : goal.overflow_add-result
overflow_add-result c =
    let tokens = c.args.tokens.now in
    let token = get_or tokens c.args.guess no_added in
    let held : holds token.place c.args.pos ≡ true = sym c.part_holds.ensures ∙ c.if-part_holds.true in
    let h = holding token.place c.args.pos held in
    omega (arith, c.requires.numbered c.args.guess token (slice_get-get_or tokens c.args.guess no_added c.if-guess-tokens.true), h.less)

pub returns-then-part_holds : goal.returns-then-part_holds
returns-then-part_holds c =
    let tokens = c.args.tokens.now in
    let token = get_or tokens c.args.guess no_added in
    let held : holds token.place c.args.pos ≡ true = sym c.part_holds.ensures ∙ c.if-part_holds.true in
    sym (index_of_holder tokens c.args.guess token c.args.pos c.requires (slice_get-get_or tokens c.args.guess no_added c.if-guess-tokens.true) held)
