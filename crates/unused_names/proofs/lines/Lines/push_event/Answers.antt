use Rattle.std.proofs.Common.{◌<◌, length, sym}
use Rattle.cs_base.proofs.ListLemmas.{read_at}
use Rattle.unused_names.specs.Lines.{lines_in}
use Rattle.unused_names.proofs.LineLemmas.{go_on_line, go_on_other}
use Rattle.unused_names.proofs.lines.Lines.push_event.Goals as goal

pub returns-then-not-is_enter : goal.returns-then-not-is_enter
returns-then-not-is_enter c =
    let e = c.index-events-k.result in
    let events = c.events-events.result.now in
    let within : c.args.k < length events = rw c.events-events.ensures c.requires.within in
    let at = rw c.events-events.ensures at (read_at events c.args.k e within c.index-events-k.is) in
    go_on_other c.args.text.now c.args.bound.now.names c.args.k e at (lines_in c.args.self.now.all.items c.args.self.now.needed)
    (sym c.if-not-is_enter.ensures)

pub returns : goal.returns
returns c =
    let e = c.index-events-k.result in
    let events = c.events-events.result.now in
    let within : c.args.k < length events = rw c.events-events.ensures c.requires.within in
    let at = rw c.events-events.ensures at (read_at events c.args.k e within c.index-events-k.is) in
    go_on_line c.args.text.now c.args.bound.now.names c.args.k e at (lines_in c.args.self.now.all.items c.args.self.now.needed)
    (lines_in c.push.new.self.all.items c.push.new.self.needed) c.is_unneeded-unneeded.result (sym c.if-not-is_enter.ensures) c.in_ok-push.ensures
    c.is_unneeded-unneeded.ensures
