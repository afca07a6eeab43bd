use Rattle.std.proofs.Common.{◌≡◌, List, sym, subst, rules}
use Rattle.std.specs.List.{dedup}
use Rattle.std.specs.List.Sorted.{IsStrictlySortedBy}
use Rattle.std.proofs.lemmas.List.Filters.{dedup_is}
use Rattle.cs_base.specs.declared.positions.Pos.{Pos}
use Rattle.unused_names.specs.Lines.{HaveSame, is_position}
use Rattle.unused_names.specs.Order.{position_cmp}
use Rattle.unused_names.proofs.OrderLemmas.{have_same, once, position_cmp-total, sorted_by}
use Rattle.unused_names.proofs.unneeded_lines.in_order.Goals as goal

pub returns-clause-same : goal.returns-clause-same
returns-clause-same c =
    let table = c.args.a.now.value.table in
    let sorted = c.sort_by.new.self.items in
    let is : c.dedup.new.self.items ≡ dedup is_position sorted = dedup_is is_position sorted c.dedup.new.self.items c.dedup.ensures.filtered in
    let all = have_same table c.in_ok-places.places.items sorted c.in_ok-sort_by.ensures.permutation in
    let copied : HaveSame c.args.all.now (dedup is_position sorted) =
    subst (λ (ps : List Pos). HaveSame ps (dedup is_position sorted)) c.in_ok-places.ensures.items all in
    subst (HaveSame c.args.all.now) (sym is) copied

pub returns-clause-sorted : goal.returns-clause-sorted
returns-clause-sorted c =
    let table = c.args.a.now.value.table in
    let sorted = c.sort_by.new.self.items in
    let is : c.dedup.new.self.items ≡ dedup is_position sorted = dedup_is is_position sorted c.dedup.new.self.items c.dedup.ensures.filtered in
    subst (IsStrictlySortedBy (position_cmp table)) (sym is)
    (once table sorted (sorted_by (position_cmp table) sorted (position_cmp-total table) c.in_ok-sort_by.ensures.sorted (λ a r q k. search rules)))
