use Rattle.std.proofs.Common.{List, ℕ, Bor, sym}
use Rattle.cs_base.proofs.ListLemmas.{read_at}
use Rattle.unused_names.specs.LastUses.{last_at}
use Rattle.unused_names.proofs.UseLemmas.{none_asks, one_asks}
use Rattle.unused_names.proofs.last_uses.LastUses.add.Goals as goal

-- a key of this number and these bytes
abbrev lent : ℕ × List ℕ → ℕ × Bor (List ℕ)
lent subject = (subject.0, record { ref_ptr = (0, 0); now = subject.1 })

pub returns-then-not-asks_meaning : goal.returns-then-not-asks_meaning
returns-then-not-asks_meaning c =
    let e = c.index-events-k.result in
    let at = read_at c.args.events.now c.args.k e c.requires.within c.index-events-k.is in
    none_asks c.args.events.now c.args.k (last_at c.args.self.now.numbers) e at (sym c.if-not-asks_meaning.ensures) c.requires.before

pub returns : goal.returns
returns c =
    let e = c.index-events-k.result in
    let at = read_at c.args.events.now c.args.k e c.requires.within c.index-events-k.is in
    one_asks c.args.events.now c.args.k (last_at c.args.self.now.numbers) (last_at c.insert.new.self) e (c.subject_of.result.0, c.subject_of.result.1.now) at
    (sym c.if-not-asks_meaning.ensures) c.subject_of.ensures (λ text. c.in_ok-insert.ensures.updates.0 (lent text)) c.requires.before
