use Rattle.std.proofs.Common.{◌≡◌, ◌∙◌, rules}
use Rattle.std.specs.Borrow.{Bor}
use Rattle.std.proofs.lemmas.List.{take_all}
use Rattle.std.proofs.lemmas.List.Sorted.{IsNonDecreasingBy-from_sort_by_key, list_any-IsPermutation}
use Rattle.c_types.specs.declared.lists.List.{List as NameList}
use Rattle.template_rules.proofs.covers.in_order.Goals as goal

pub returns-clause-moved : goal.returns-clause-moved
returns-clause-moved c p =
    let all : c.loop-list.out.items ≡ c.args.lists.now = c.loop-list.invariant ∙ take_all c.loop-list.list-index c.args.lists.now c.loop-list-test.false in
    list_any-IsPermutation p c.args.lists.now c.sort_by_key.new.self.items (rw all at c.in_ok-sort_by_key.ensures.permutation)

pub returns-clause-rising : goal.returns-clause-rising
returns-clause-rising c =
    IsNonDecreasingBy-from_sort_by_key (λ (l : Bor NameList). l.now.begin) _ c.in_ok-sort_by_key.ensures.sorted (λ a r f k. search rules)
