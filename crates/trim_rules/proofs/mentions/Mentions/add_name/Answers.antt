use Rattle.std.proofs.Common.{List, ℕ, Bor, sym}
use Rattle.cs_base.proofs.ListLemmas.{read_at}
use Rattle.trim_rules.specs.Mentions.{told_at}
use Rattle.trim_rules.proofs.MentionLemmas.{names-other, names-one}
use Rattle.trim_rules.proofs.mentions.Mentions.add_name.Goals as goal

-- a key of these bytes
abbrev lent : List ℕ → Bor (List ℕ)
lent bytes = record { ref_ptr = (0, 0); now = bytes }

pub returns-then-not-gives_meaning : goal.returns-then-not-gives_meaning
returns-then-not-gives_meaning c =
    let e = c.index-events-k.result in
    let at = read_at c.args.events.now c.args.k e c.requires.within c.index-events-k.is in
    names-other c.args.events.now c.args.k (told_at c.args.self.now.spans) e at (sym c.if-not-gives_meaning.ensures) c.requires.before

pub returns : goal.returns
returns c =
    let e = c.index-events-k.result in
    let at = read_at c.args.events.now c.args.k e c.requires.within c.index-events-k.is in
    names-one c.args.events.now c.args.k (told_at c.args.self.now.spans) e at (told_at c.insert.new.self) c.name_of.result.now c.name_of.ensures
    (λ text. c.in_ok-insert.ensures.updates.0 (lent text)) c.requires.before
