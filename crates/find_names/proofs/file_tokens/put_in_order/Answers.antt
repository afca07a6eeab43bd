use Rattle.std.proofs.Common.{sym, rules}
use Rattle.std.proofs.lemmas.List.Sorted.{IsNonDecreasingBy-from_sort_by_key, list_any-IsPermutation}
use Rattle.find_names.specs.FileTokens.{is_part, place_number}
use Rattle.find_names.proofs.file_tokens.put_in_order.Goals as goal

pub returns-clause-same : goal.returns-clause-same
returns-clause-same c part =
    sym (list_any-IsPermutation (λ p. is_part p part) c.args.spans.now.items c.sort_by_key.new.self.items c.in_ok-sort_by_key.ensures.permutation)

pub returns-clause-rising : goal.returns-clause-rising
returns-clause-rising c =
    IsNonDecreasingBy-from_sort_by_key place_number _ c.in_ok-sort_by_key.ensures.sorted (λ a r f k. search rules)
