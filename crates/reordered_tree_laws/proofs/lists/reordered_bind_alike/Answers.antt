use Rattle.reordered_tree_laws.proofs.ReorderedBind.{bind_alike}
use Rattle.reordered_tree_laws.proofs.ListsGo.{lists_go}
use Rattle.reordered_tree_laws.proofs.lists.reordered_bind_alike.Goals as goal

pub returns : goal.returns
returns c = bind_alike (λ m old new order lists barred law is lowest f. lists_go m old new law order lists barred is lowest f)
