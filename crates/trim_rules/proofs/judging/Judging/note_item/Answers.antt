use Rattle.std.proofs.Common.{sym}
use Rattle.analysis.specs.Below.include_tree.Walk.{item_text}
use Rattle.analysis.specs.Below.lexer.Tokens.{tokens_of}
use Rattle.trim_rules.specs.Judging.{told_of}
use Rattle.trim_rules.proofs.JudgingLemmas.{item-other, item-unknown, item-known}
use Rattle.trim_rules.proofs.judging.Judging.note_item.Goals as goal

pub returns-then-not-names_header : goal.returns-then-not-names_header
returns-then-not-names_header c =
    item-other (item_text (tokens_of c.args.file.now.number c.args.file.now.bytes) c.args.item.now) (told_of c.args.self.now.whys) (sym c.if-not-names_header.ensures)

pub returns-in_default : goal.returns-in_default
returns-in_default c =
    item-unknown (item_text (tokens_of c.args.file.now.number c.args.file.now.bytes) c.args.item.now) (told_of c.args.self.now.whys) (sym c.in_default.ensures)

pub returns : goal.returns
returns c =
    item-known (item_text (tokens_of c.args.file.now.number c.args.file.now.bytes) c.args.item.now) (told_of c.args.self.now.whys) (told_of c.know.new.self.whys)
    (sym c.if-not-names_header.ensures) (_, sym c.in-Some.ensures) c.in_ok-know.ensures
