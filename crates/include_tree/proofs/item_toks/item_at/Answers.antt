use Rattle.include_tree.proofs.ItemToksLemmas.{item-none, item-some, item-ordered, item-within, item-sound, item-defines}
use Rattle.include_tree.proofs.item_toks.item_at.Goals as goal

pub toks_of-toks-requires-clause-order : goal.toks_of-toks-requires-clause-order
toks_of-toks-requires-clause-order c =
    item-ordered c.args.file.now c.text.result.now c.items.result.now c.args.k c.in-Some.item.now c.toks.result.now c.text.ensures c.items.ensures c.in-Some.ensures.lookup.3.0 c.in-Some.ensures.lookup.1 c.toks.ensures.value

pub toks_of-toks-requires-clause-within : goal.toks_of-toks-requires-clause-within
toks_of-toks-requires-clause-within c =
    item-within c.args.file.now c.text.result.now c.items.result.now c.args.k c.in-Some.item.now c.toks.result.now c.text.ensures c.items.ensures c.in-Some.ensures.lookup.3.0 c.in-Some.ensures.lookup.1 c.toks.ensures.value

pub returns-in-Some-clause-answer : goal.returns-in-Some-clause-answer
returns-in-Some-clause-answer c =
    item-some c.args.file.now c.text.result.now c.items.result.now c.args.k c.in-Some.item.now c.toks.result.now c.text.ensures c.items.ensures c.in-Some.ensures.lookup.3.0 c.in-Some.ensures.lookup.1 c.toks.ensures.value
    c.toks_of-toks.result.now c.toks_of-toks.ensures

pub returns-in-Some-clause-sound : goal.returns-in-Some-clause-sound
returns-in-Some-clause-sound c =
    item-sound c.args.file.now c.text.result.now c.items.result.now c.args.k c.in-Some.item.now c.toks.result.now c.text.ensures c.items.ensures c.in-Some.ensures.lookup.3.0 c.in-Some.ensures.lookup.1 c.toks.ensures.value
    c.toks_of-toks.result.now c.toks_of-toks.ensures

pub returns-in-Some-clause-defines : goal.returns-in-Some-clause-defines
returns-in-Some-clause-defines c =
    item-defines c.args.file.now c.text.result.now c.items.result.now c.args.k c.in-Some.item.now c.toks.result.now c.text.ensures c.items.ensures c.in-Some.ensures.lookup.3.0 c.in-Some.ensures.lookup.1 c.toks.ensures.value
    c.toks_of-toks.result.now c.toks_of-toks.ensures

pub returns-in-None-clause-answer : goal.returns-in-None-clause-answer
returns-in-None-clause-answer c = item-none c.args.file.now c.items.result.now c.args.k c.items.ensures c.in-None.ensures.lookup.3
