use Rattle.std.proofs.Common.{◌≡◌, ◌+◌, ◌<◌, ◌≤◌, List, ◌++◌, length, get_or, sym, ap, subst, ◌∙◌, arith}
use Rattle.std.proofs.lemmas.Option.{slice_get-get_or, slice_get_within}
use Rattle.cs_base.specs.declared.positions.Pos.{Pos}
use Rattle.eclass_map.specs.ClassTable.{fresh_places}
use Rattle.eclass_map.proofs.TokenFacts.{no_added}
use Rattle.eclass_map.proofs.RunFacts.{ArePlacedTo, placed_more}
use Rattle.eclass_map.proofs.places.runs_of.Goals as goal

pub loop-k-preserved : goal.loop-k-preserved
loop-k-preserved c =
    let tokens = c.args.tokens.now in
    let k = c.loop-k.k in
    let t = get_or tokens k no_added in
    let before = c.loop-k.places.list in
    let first : t.first ≡ length before = omega (arith, c.if-token-len.false, c.len.ensures) in
    let list : c.push.new.self.list ≡ before ++ fresh_places t.place.start t.place.len =
    c.push.ensures ∙ ap (λ (v : List Pos). v ++ fresh_places t.place.start t.place.len) c.in_ok-reserve.ensures.list in
    subst (λ (v : List Pos). ArePlacedTo (k + 1) tokens v) (sym list)
    (placed_more k t tokens before c.loop-k.invariant (slice_get-get_or tokens k no_added c.loop-k-test.true) first)

pub returns-then-len-count : goal.returns-then-len-count
returns-then-len-count c =
    let tokens = c.args.tokens.now in
    let all : length tokens ≤ c.loop-k.k = omega (arith, c.loop-k-test.false) in (
      omega (arith, c.len-2.ensures, c.if-len-count.true),
      λ k r o at within. c.loop-k.invariant k r o (omega (arith, all, slice_get_within tokens k r at)) at within,
    )
