use Rattle.std.proofs.Common.{◌≡◌}
use Rattle.std.specs.List.{list_any}
use Rattle.cs_base.specs.declared.positions.Pos.{Pos}
use Rattle.unseen_names.specs.Characters.{covers}
use Rattle.unseen_names.specs.Unseen.{comes_from}
use Rattle.unseen_names.proofs.SpanMarks.{on_ok_if, taken}
use Rattle.unseen_names.proofs.characters.take_spans.Goals as goal

pub returns : goal.returns
returns c =
    on_ok_if c.push_spans.result _ ((q : Pos) → list_any (covers q) c.push_spans.new.spans.items ≡ comes_from q c.args.tok.now)
    c.push_spans.ensures.answer
    (λ told q. taken q c.args.tok.now c.clear.new.self.items c.push_spans.new.spans.items c.push_spans.ensures.sound told)
