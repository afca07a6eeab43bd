use Rattle.std.proofs.Common.{rules}
use Rattle.std.specs.Ordering.{eq_by_cmp}
use Rattle.std.proofs.lemmas.Fn.{dedup_same}
use Rattle.calls_of.specs.Numbers.{edge_cmp}
use Rattle.calls_of.proofs.NodeLemmas.{edge_cmp-strict}
use Rattle.calls_of.proofs.OrderLemmas.{once, sorted-by}
use Rattle.calls_of.proofs.ordering.order_edges.Goals as goal

pub returns : goal.returns
returns c =
    let sorted = c.sort_unstable_by.new.self.items in
    once edge_cmp c.args.edges.now.items sorted c.dedup_by.new.self.items edge_cmp-strict
    c.sort_unstable_by.ensures.permutation
    (sorted-by edge_cmp sorted edge_cmp-strict c.sort_unstable_by.ensures.sorted (λ a r q k. search rules))
    (dedup_same _ (eq_by_cmp edge_cmp) _ (λ x y b f' x' y' k. search rules) _ _ c.dedup_by.ensures.filtered)
