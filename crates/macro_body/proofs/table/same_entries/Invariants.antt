use Rattle.std.proofs.Common.{◌≡◌}
use Rattle.macro_body.specs.Live.{table_of}
use Rattle.macro_body.proofs.LiveLemmas.{spelled_entries, with_entries}
use Rattle.macro_body.proofs.table.same_entries.Given as goal

abbrev pub invariant-loop-name : goal.invariant-loop-name
invariant-loop-name l =
    with_entries (spelled_entries (λ k. k.items) l.name-iterator) (table_of (spelled_entries (λ k. k.items) l.all.entries))
    ≡ table_of (spelled_entries (λ k. k.items) l.live.entries)
