use Rattle.std.proofs.Common.{◌≡◌, ◌-◌, ◌∙◌, Some, slice_get, ap, sym, arith}
use Rattle.std.proofs.lemmas.Option.{slice_get-get_or}
use Rattle.rename_rules.proofs.PrefixLemmas.{pairs_next, pairs_all}
use Rattle.rename_rules.proofs.constant_prefixes.prefixes_in.Goals as goal

pub loop-k-init : goal.loop-k-init
loop-k-init c = (omega arith, λ last later. later)

pub loop-k-preserved : goal.loop-k-preserved
loop-k-preserved c =
    let toks = c.args.toks.now in
    let k = c.loop-k.k in
    let tok = c.index-toks-k.result in
    let next = c.index-toks-k-in-loop-k.result in
    let at : slice_get toks (k - 1) ≡ Some tok =
    slice_get-get_or toks (k - 1) tok (omega (arith, c.loop-k-test.true)) ∙ ap Some (sym c.index-toks-k.is) in
    let behind : slice_get toks k ≡ Some next = slice_get-get_or toks k next c.loop-k-test.true ∙ ap Some (sym c.index-toks-k-in-loop-k.is) in (
      omega (arith, c.loop-k.invariant.0),
      pairs_next c.args.renaming.now.class.members c.args.renaming.now.name c.args.a.now.value.table toks k tok next c.args.first c.loop-k.now
          c.in_ok-now.now c.loop-k.invariant.0 at behind c.loop-k.invariant.1 c.in_ok-now.ensures,
    )

pub returns : goal.returns
returns c =
    pairs_all c.args.renaming.now.class.members c.args.renaming.now.name c.args.a.now.value.table c.args.toks.now c.loop-k.k c.args.first c.loop-k.now
    c.loop-k.invariant.0 c.loop-k-test.false c.loop-k.invariant.1
