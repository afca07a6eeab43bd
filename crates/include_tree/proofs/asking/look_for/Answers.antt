use Rattle.source_files.specs.Sources.{source_at}
use Rattle.unit_steps.specs.Moments.{state_in}
use Rattle.include_tree.proofs.AskingLemmas.{look-found, look-stopped}
use Rattle.include_tree.proofs.asking.look_for.Goals as goal

pub returns-in_ok-tok-in-Ok-clause-answer : goal.returns-in_ok-tok-in-Ok-clause-answer
returns-in_ok-tok-in-Ok-clause-answer g c = λ source found.
    look-found source c.args.unit.now c.args.cache.now.toks c.args.at c.args.word.now (state_in c.args.cache.now.table c.args.p.now) c.args.p.now.text c.args.header.now c.asks_next-next.result
    c.asks_next-next.ensures (source_at c.args.cache.now.table c.args.number) c.in-Ok.known c.is_there.new.cache.table (state_in c.is_there.new.cache.table c.found.new.self) c.found.new.self.text c.in_ok-tok-in-Ok.tok
    (c.in-Ok.ensures.answer source found) (c.in_ok-tok-in-Ok.ensures.answer c.is_there.new.cache.table)

pub returns-in-Err-clause-answer : goal.returns-in-Err-clause-answer
returns-in-Err-clause-answer g c = λ source found.
    look-stopped source c.args.unit.now c.args.cache.now.toks c.args.at c.args.word.now (state_in c.args.cache.now.table c.args.p.now) c.args.p.now.text c.args.header.now c.asks_next-next.result
    c.asks_next-next.ensures (source_at c.args.cache.now.table c.args.number) c.in-Err.fault c.is_there.new.cache.table (c.in-Err.ensures.answer source found)
