use Rattle.std.proofs.Common.{◌≡◌, ◌++◌, take}
use Rattle.linkage_join.specs.Firsts.{first_at, table_links}
use Rattle.linkage_join.proofs.firsts.Firsts.link.Given as goal

abbrev pub invariant-loop-name : goal.invariant-loop-name
invariant-loop-name l =
    l.links.items ≡ l.initial.links.items ++ table_links (first_at l.self.toks) l.unit.project (take l.name-index l.unit.names)
