use Rattle.std.proofs.Common.{rules, ◌≡◌, ◌+◌, ◌++◌, ◌∷◌, [], ◌∙◌, List, ap, length, subst, take, arith}
use Rattle.std.specs.Prelude.{map}
use Rattle.std.specs.List.{list_any}
use Rattle.std.proofs.lemmas.List.{take_more, take_all, map-append}
use Rattle.analysis.specs.Below.include_tree.Walk.{item_text}
use Rattle.analysis.specs.Below.lexer.Tokens.{tokens_of}
use Rattle.analysis.specs.Below.line_shape.declared.items.Item.{Item}
use Rattle.trim_rules.specs.Judging.{told_of, unless, Learns}
use Rattle.trim_rules.specs.Staying.{is_header_line}
use Rattle.trim_rules.proofs.JudgingLemmas.{items-begin, items-next}
use Rattle.trim_rules.proofs.judging.Judging.note_file.Goals as goal

pub loop-item-init : goal.loop-item-init
loop-item-init c = items-begin (told_of c.args.self.now.whys)

pub loop-item-preserved : goal.loop-item-preserved
loop-item-preserved c =
    let items = c.items_in-items.result.now in
    let text = item_text (tokens_of c.args.file.now.number c.args.file.now.bytes) in
    items-next (map text (take c.loop-item.item-index items)) (map text (take (c.loop-item.item-index + 1) items)) _
    (told_of c.args.self.now.whys) (told_of c.loop-item.self.whys) (told_of c.note_item.new.self.whys)
    (ap (map text) (take_more items c.loop-item.item-index _ (omega (arith, c.loop-item-test.true))) ∙ map-append text (take c.loop-item.item-index items) _)
    c.loop-item.invariant c.in_ok-note_item.ensures

pub returns : goal.returns
returns c =
    let items = c.items_in-items.result.now in
    let text = item_text (tokens_of c.args.file.now.number c.args.file.now.bytes) in
    subst (λ (is : List Item). Learns (λ p w. unless (list_any (is_header_line p) (map text is)) w) (told_of c.args.self.now.whys) (told_of c.loop-item.self.whys))
    (take_all c.loop-item.item-index items (omega (arith, c.loop-item-test.false)) ∙ c.items_in-items.ensures) c.loop-item.invariant
