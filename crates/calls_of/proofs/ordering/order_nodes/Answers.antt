use Rattle.std.proofs.Common.{rules}
use Rattle.std.specs.Ordering.{eq_by_cmp}
use Rattle.std.proofs.lemmas.Fn.{dedup_same}
use Rattle.calls_of.specs.Graphs.{node_cmp}
use Rattle.calls_of.proofs.NodeLemmas.{node_cmp-strict}
use Rattle.calls_of.proofs.OrderLemmas.{once, sorted-by}
use Rattle.calls_of.proofs.ordering.order_nodes.Goals as goal

pub returns : goal.returns
returns c =
    let table = c.args.a.now.value.table in
    let strict = node_cmp-strict table in
    let sorted = c.sort_unstable_by.new.self.items in
    once (node_cmp table) c.args.nodes.now.items sorted c.dedup_by.new.self.items strict
    c.sort_unstable_by.ensures.permutation
    (sorted-by (node_cmp table) sorted strict c.sort_unstable_by.ensures.sorted (λ a r q k. search rules))
    (dedup_same _ (eq_by_cmp (node_cmp table)) _ (λ x y b f' x' y' k. search rules) _ _ c.dedup_by.ensures.filtered)
