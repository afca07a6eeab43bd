use Rattle.std.proofs.Common.{◌≡◌, ◌∙◌, length, Some, None, sym, ap, subst}
use Rattle.cs_base.proofs.ListLemmas.{read_at}
use Rattle.unused_names.specs.LastUses.{last_at, TellsLast}
use Rattle.unused_names.specs.Unneeded.{subject_of}
use Rattle.unused_names.proofs.UseLemmas.{asked_before, asked_behind, gives_none, never_asked}
use Rattle.unused_names.proofs.last_uses.means_behind.Goals as goal

pub returns-then-not-gives_meaning : goal.returns-then-not-gives_meaning
returns-then-not-gives_meaning c =
    let e = c.index-events-i.result in
    let at = read_at c.args.events.now c.args.i e c.requires.within c.index-events-i.is in
    gives_none c.args.events.now c.args.i c.args.end e at (sym c.if-not-gives_meaning.ensures)

pub returns-in_default : goal.returns-in_default
returns-in_default c =
    let events = c.args.events.now in
    let e = c.index-events-i.result in
    let at = read_at events c.args.i e c.requires.within c.index-events-i.is in
    let found : None ≡ last_at c.args.uses.now.numbers (subject_of e) =
    c.in_default.ensures ∙ ap (last_at c.args.uses.now.numbers) c.subject_of.ensures in
    never_asked events c.args.i c.args.end e at (subst (TellsLast events (length events) (subject_of e)) (sym found) (c.requires.last (subject_of e)))

pub returns-then-last-end : goal.returns-then-last-end
returns-then-last-end c =
    let events = c.args.events.now in
    let e = c.index-events-i.result in
    let at = read_at events c.args.i e c.requires.within c.index-events-i.is in
    let found : Some c.in-Some.last ≡ last_at c.args.uses.now.numbers (subject_of e) =
    c.in-Some.ensures ∙ ap (last_at c.args.uses.now.numbers) c.subject_of.ensures in
    asked_before events c.args.i c.args.end e at c.in-Some.last
    (subst (TellsLast events (length events) (subject_of e)) (sym found) (c.requires.last (subject_of e))) c.if-last-end.true

pub returns : goal.returns
returns c =
    let events = c.args.events.now in
    let e = c.index-events-i.result in
    let at = read_at events c.args.i e c.requires.within c.index-events-i.is in
    let found : Some c.in-Some.last ≡ last_at c.args.uses.now.numbers (subject_of e) =
    c.in-Some.ensures ∙ ap (last_at c.args.uses.now.numbers) c.subject_of.ensures in
    asked_behind events c.args.i c.args.end e at c.in-Some.last (sym c.if-not-gives_meaning.ensures)
    (subst (TellsLast events (length events) (subject_of e)) (sym found) (c.requires.last (subject_of e))) c.if-last-end.false
