use Rattle.std.proofs.Common.{◌∙◌}
use Rattle.std.proofs.lemmas.Map.Iter.{rest_more, rest_all}
use Rattle.std.specs.Map.Iter.{deref_pair}
use Rattle.macro_body.specs.Live.{table_of}
use Rattle.macro_body.proofs.LiveLemmas.{spelled_entries, entries-begin, entries-more, entries-end}
use Rattle.macro_body.proofs.table.same_entries.Goals as goal

pub loop-name-init : goal.loop-name-init
loop-name-init c =
    entries-begin (λ k. k.items) c.in_ok-all.all.entries c.into_iter-name-iterator.result c.args.live.now.entries c.in_ok-all.ensures.empty
    c.into_iter-name-iterator.ensures.into_iter_gives.0 c.into_iter-name-iterator.ensures.into_iter_gives.4

pub loop-name-preserved-in_ok-insert : goal.loop-name-preserved-in_ok-insert
loop-name-preserved-in_ok-insert c =
    entries-more (λ k. k.items) c.in_ok-same.same c.in_ok-key.key c.loop-name.all.entries c.insert.new.self.entries (deref_pair (c.in-Some.name, c.in-Some.m))
    c.loop-name.name-iterator c.next.new.self (table_of (spelled_entries (λ k. k.items) c.args.live.now.entries))
    c.in_ok-insert.ensures.updates.3 c.in_ok-insert.ensures.updates.1
    (rest_more deref_pair c.loop-name.name-iterator c.next.new.self c.next.result (c.in-Some.name, c.in-Some.m) c.in-Some.is c.next.ensures.steps)
    (c.in_ok-key.ensures.items ∙ c.as_slice.ensures.value) c.in_ok-same.ensures c.loop-name.invariant

pub loop-name-preserved : goal.loop-name-preserved
loop-name-preserved c =
    entries-more (λ k. k.items) c.in_ok-same.same c.in_ok-key.key c.loop-name.all.entries c.insert.new.self.entries (deref_pair (c.in-Some.name, c.in-Some.m))
    c.loop-name.name-iterator c.next.new.self (table_of (spelled_entries (λ k. k.items) c.args.live.now.entries))
    c.in_ok-insert.ensures.updates.3 c.in_ok-insert.ensures.updates.1
    (rest_more deref_pair c.loop-name.name-iterator c.next.new.self c.next.result (c.in-Some.name, c.in-Some.m) c.in-Some.is c.next.ensures.steps)
    (c.in_ok-key.ensures.items ∙ c.as_slice.ensures.value) c.in_ok-same.ensures c.loop-name.invariant

pub returns : goal.returns
returns c =
    entries-end (λ k. k.items) c.loop-name.name-iterator (table_of (spelled_entries (λ k. k.items) c.loop-name.all.entries))
    (table_of (spelled_entries (λ k. k.items) c.args.live.now.entries))
    (rest_all deref_pair c.loop-name.name-iterator c.next.new.self c.next.result c.in-None.is c.next.ensures.steps) c.loop-name.invariant
