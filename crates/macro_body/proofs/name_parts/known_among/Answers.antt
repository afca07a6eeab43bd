use Rattle.std.proofs.Common.{◌∙◌}
use Rattle.macro_body.proofs.NamePartLemmas.{known-more}
use Rattle.macro_body.proofs.name_parts.known_among.Goals as goal

pub loop-name-preserved : goal.loop-name-preserved
loop-name-preserved c =
    known-more (λ k. k.items) c.loop-name.known.keys c.insert.new.self.keys c.in_ok-spelling.spelling c.in_ok-insert.field-0 c.args.names.now c.loop-name.name-index c.name-item.result
    c.loop-name-test.true c.name-item.is (c.in_ok-spelling.ensures.items ∙ c.text.ensures.answer) c.in_ok-insert.ensures.added c.in_ok-insert.ensures.keys c.loop-name.invariant
