use Rattle.std.proofs.Common.{◌∙◌}
use Rattle.name_chains.specs.Linked.{linkage_key_of}
use Rattle.name_chains.specs.Chains.{name_key_of, member_key_of, found_key_of}
use Rattle.name_chains.proofs.ChainTables.{linked_more, tabled_more}
use Rattle.name_chains.proofs.chains.Chains.push.Goals as goal

pub invariant_of-self-2 : goal.invariant_of-self-2
invariant_of-self-2 c =
    let numbers = c.self.inside.numbers.items in
    let xs = c.self.inside.declared.items in
    let counted = c.len-count.ensures ∙ c.self.inside.declared.ok.0 in
    tabled_more c.self.inside.toks.now numbers xs c.self.inside.names c.self.inside.linked c.self.inside.structures c.self.inside.found
    c.self.inside.over.items c.self.inside.ends.items c.self.inside.ranks.items c.args.d c.in_ok-rank.rank c.len-count.result c.place_over-over.result
    c.push-3.new.self.items c.link.new.self c.link-2.new.self c.link-3.new.self c.link-4.new.self c.push.new.self.items c.tell_end.new.ends.items
    c.push-2.new.self.items c.self.invariant counted
    (linked_more (name_key_of numbers) xs c.args.d c.len-count.result c.name_key-name.result c.self.inside.names c.grow.new.self c.link.new.self
    c.self.invariant.named counted (rw c.as_slice.ensures.value at c.name_key-name.ensures) c.in_ok-grow.ensures.same c.in_ok-grow.ensures.room c.link.ensures)
    (linked_more (linkage_key_of numbers) xs c.args.d c.len-count.result c.linkage_key-linkage.result c.self.inside.linked c.grow-2.new.self c.link-2.new.self
    c.self.invariant.joined counted (rw c.as_slice-2.ensures.value at c.linkage_key-linkage.ensures) c.in_ok-grow-2.ensures.same c.in_ok-grow-2.ensures.room
    c.link-2.ensures)
    (linked_more member_key_of xs c.args.d c.len-count.result c.member_key-structure.result c.self.inside.structures c.grow-3.new.self c.link-3.new.self
    c.self.invariant.owned counted c.member_key-structure.ensures c.in_ok-grow-3.ensures.same c.in_ok-grow-3.ensures.room c.link-3.ensures)
    (linked_more found_key_of xs c.args.d c.len-count.result c.found_key-found.result c.self.inside.found c.grow-4.new.self c.link-4.new.self
    c.self.invariant.held counted c.found_key-found.ensures c.in_ok-grow-4.ensures.same c.in_ok-grow-4.ensures.room c.link-4.ensures)
    (rw c.as_slice-3.ensures.value at (rw c.as_slice-5.ensures.value at c.place_over-over.ensures))
    (rw c.as_slice-6.ensures.value at c.in_ok-rank.ensures)
    (rw c.in_ok-reserve-3.ensures.items at (rw c.unwrap-3.ensures at c.push-3.ensures.items))
    (rw c.in_ok-reserve.ensures.items at (rw c.unwrap.ensures at c.push.ensures.items)) c.tell_end.ensures
    (rw c.in_ok-reserve-2.ensures.items at (rw c.unwrap-2.ensures at c.push-2.ensures.items))
