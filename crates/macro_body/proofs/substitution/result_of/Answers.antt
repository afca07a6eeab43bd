use Rattle.std.proofs.Common.{◌≡◌, ◌∙◌, ap, sym}
use Rattle.std.proofs.lemmas.Result.{err_from_is_err_and}
use Rattle.macro_body.specs.Substitution.{with_gap}
use Rattle.macro_body.specs.Costs.{arguments}
use Rattle.macro_body.specs.Faults.{fault_of}
use Rattle.macro_body.proofs.SoundLemmas.{arguments-sound}
use Rattle.macro_body.proofs.PlainBodyLemmas.{plain-is}
use Rattle.macro_body.proofs.ReplacementLemmas.{result-is, result-no_string, result-no_token, result-within, result-sound}
use Rattle.macro_body.proofs.substitution.result_of.Goals as goal

pub returns-in_err-made-clause-answer : goal.returns-in_err-made-clause-answer
returns-in_err-made-clause-answer c =
    let p = err_from_is_err_and c.from_residual-in_err-made.result c.from_residual-in_err-made.ensures.1 in
    rw (p.1, p.2)
    (result-no_string c.args.name.now (arguments c.args.raw.now c.args.full.now) c.args.chains.now c.args.notes.now (fault_of c.in_err-made.field-0.0) c.in_err-made.ensures.answer)

pub returns-in_err-pasted-clause-answer : goal.returns-in_err-pasted-clause-answer
returns-in_err-pasted-clause-answer c =
    let p = err_from_is_err_and c.from_residual-in_err-pasted.result c.from_residual-in_err-pasted.ensures.1 in
    rw (p.1, p.2)
    (result-no_token c.args.name.now (arguments c.args.raw.now c.args.full.now) c.args.chains.now c.args.notes.now c.chains_made.new.notes c.in_ok-made.made.items
    (fault_of c.in_err-pasted.field-0.0) c.in_ok-made.ensures.answer c.in_err-pasted.ensures.answer)

answered : goal.returns-clause-answer
answered c =
    let under : c.in_ok-with_gap-2.field-0.items ≡ with_gap c.args.name.now.gap c.in_ok-pasted.pasted.items =
    c.in_ok-with_gap-2.ensures ∙ ap (λ gap. with_gap gap c.in_ok-pasted.pasted.items) c.gap-2.ensures in
    result-is c.args.name.now (arguments c.args.raw.now c.args.full.now) c.args.chains.now c.args.notes.now c.chains_made.new.notes c.chains_pasted.new.notes c.in_ok-made.made.items
    c.in_ok-pasted.pasted.items c.in_ok-with_gap-2.field-0.items c.in_ok-made.ensures.answer c.in_ok-pasted.ensures.answer under

pub returns-clause-answer : goal.returns-clause-answer
returns-clause-answer c = answered c

pub returns-clause-sound : goal.returns-clause-sound
returns-clause-sound c =
    result-sound c.args.name.now (arguments c.args.raw.now c.args.full.now) c.args.chains.now c.args.notes.now c.chains_pasted.new.notes c.in_ok-with_gap-2.field-0.items
    (record { low = c.requires.low; raw = arguments-sound c.args.raw.now c.requires.raw_sound; full = c.requires.full_sound }) c.requires.traced (answered c)

pub returns-clause-within : goal.returns-clause-within
returns-clause-within c =
    result-within c.args.name.now (arguments c.args.raw.now c.args.full.now) c.args.chains.now c.args.notes.now c.chains_pasted.new.notes c.in_ok-with_gap-2.field-0.items (answered c)

-- ---- nothing is made a string or pasted

plain : goal.returns-then-are_plain-clause-answer
plain c =
    let under : c.in_ok-with_gap.field-0.items ≡ with_gap c.args.name.now.gap c.in_ok-toks.toks.items =
    c.in_ok-with_gap.ensures ∙ ap (λ gap. with_gap gap c.in_ok-toks.toks.items) c.gap.ensures in
    plain-is c.args.name.now (arguments c.args.raw.now c.args.full.now) c.args.chains.now c.args.notes.now c.in_ok-toks.toks.items c.in_ok-with_gap.field-0.items
    (sym c.are_plain.ensures ∙ c.if-are_plain.true) c.in_ok-toks.ensures under

pub returns-then-are_plain-clause-answer : goal.returns-then-are_plain-clause-answer
returns-then-are_plain-clause-answer c = plain c

pub returns-then-are_plain-clause-sound : goal.returns-then-are_plain-clause-sound
returns-then-are_plain-clause-sound c =
    result-sound c.args.name.now (arguments c.args.raw.now c.args.full.now) c.args.chains.now c.args.notes.now c.args.notes.now c.in_ok-with_gap.field-0.items
    (record { low = c.requires.low; raw = arguments-sound c.args.raw.now c.requires.raw_sound; full = c.requires.full_sound }) c.requires.traced (plain c)

pub returns-then-are_plain-clause-within : goal.returns-then-are_plain-clause-within
returns-then-are_plain-clause-within c =
    result-within c.args.name.now (arguments c.args.raw.now c.args.full.now) c.args.chains.now c.args.notes.now c.args.notes.now c.in_ok-with_gap.field-0.items (plain c)
