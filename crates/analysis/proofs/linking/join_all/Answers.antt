use Rattle.std.proofs.Common.{◌+◌, ◌∷◌, [], drop}
use Rattle.std.proofs.lemmas.List.{drop_all}
use Rattle.analysis.proofs.JoinLemmas.{awaits_more, awaits_end, links_more}
use Rattle.analysis.proofs.linking.join_all.Goals as goal

pub loop-link-preserved : goal.loop-link-preserved
loop-link-preserved c =
    let links = c.args.links.now in
    let k = c.loop-link.link-index in
    let l = c.link-item.result in
    awaits_more (l ∷ []) (drop k links) (drop (k + 1) links) links c.args.classes.now c.loop-link.classes c.join.new.classes (links_more links k l c.loop-link-test.true c.link-item.is) c.in_ok-join.ensures c.loop-link.invariant

pub returns : goal.returns
returns c =
    let links = c.args.links.now in
    let k = c.loop-link.link-index in
    awaits_end (drop k links) links c.args.classes.now c.loop-link.classes (drop_all k links c.loop-link-test.false) c.loop-link.invariant
