use Rattle.std.proofs.Common.{◌+◌, ◌<◌, [], ◌∷◌, length, sym, ◌∙◌, arith, Vec, Global}
use Rattle.std.proofs.lemmas.Result.{err_from_is_err_and}
use Rattle.macro_body.specs.declared.hidden.HiddenTok.{HiddenTok}
use Rattle.macro_expand.specs.Calls.{call_from, commas_of}
use Rattle.macro_expand.specs.Expansion.{full_from, whole}
use Rattle.macro_body.specs.Kept.{finished}
use Rattle.macro_expand.specs.Going.{setting_of, brought, full_of, all_full, read_from}
use Rattle.macro_expand.proofs.CallLemmas.{taken_is}
use Rattle.macro_expand.proofs.ListSound.{put_sound, out_sound, lists_sound, fitting_arguments, turn_fits, turn_few}
use Rattle.macro_expand.proofs.TurnLemmas.{refused_more, stays-goes, alone-goes, object-goes, object-faults, Calling, call-unread, call-goes, call-faults, whole-turn, whole-fault, whole-end}
use Rattle.macro_expand.proofs.FullLemmas.{full-turn, full-fault, substituted-given}
use Rattle.macro_expand.proofs.context.Context.+expansion.Goals as goal

-- ---- a call

pub call-returns-in_err-read-clause-answer : goal.call-returns-in_err-read-clause-answer
call-returns-in_err-read-clause-answer t c =
    let set = setting_of c.args.self.now in
    let depth = c.args.self.now.depth in
    let p = err_from_is_err_and c.from_residual-in_err-read.result c.from_residual-in_err-read.ensures.1 in
    let calling : Calling set c.args.first.now c.args.m.now c.in_ok-_sign._sign c.args.rest.now c.take.new.self =
    record { named = c.requires.named; function = c.requires.function; opens = c.requires.opens; taken = c.in_ok-_sign.ensures } in
    rw (p.1, p.2)
    (refused_more c.in_err-read.field-0.0 (read_from c.args.first.now c.args.m.now (call_from c.take.new.self (commas_of c.args.m.now) 0))
    (finished c.args.notes.now [] (whole set depth c.args.before (c.args.first.now ∷ c.args.rest.now) c.args.work.now))
    (call-unread set depth c.args.before c.args.first.now c.args.m.now c.in_ok-_sign._sign c.args.rest.now c.take.new.self c.args.work.now c.args.notes.now calling)
    c.in_err-read.ensures.answer)

pub call-returns-in_err-toks-clause-answer : goal.call-returns-in_err-toks-clause-answer
call-returns-in_err-toks-clause-answer t c =
    let set = setting_of c.args.self.now in
    let depth = c.args.self.now.depth in
    let p = err_from_is_err_and c.from_residual-in_err-toks.result c.from_residual-in_err-toks.ensures.1 in
    let calling : Calling set c.args.first.now c.args.m.now c.in_ok-_sign._sign c.args.rest.now c.take.new.self =
    record { named = c.requires.named; function = c.requires.function; opens = c.requires.opens; taken = c.in_ok-_sign.ensures } in
    rw (p.1, p.2)
    (refused_more c.in_err-toks.field-0.0
    (finished c.args.notes.now [] (brought set (whole set) depth c.args.before c.tok.result.now c.args.m.now c.deref.result.now c.args.work.now))
    (finished c.args.notes.now [] (whole set depth c.args.before (c.args.first.now ∷ c.args.rest.now) c.args.work.now))
    (call-faults set depth c.args.before c.args.first.now c.tok.result.now c.args.m.now c.in_ok-_sign._sign c.args.rest.now c.take.new.self c.read_call.new.rest
    c.in_ok-read.read.raw.items c.deref.result.now c.in_ok-read.read.added c.args.work.now c.args.notes.now calling c.in_ok-read.ensures.answer c.tok.ensures c.deref.ensures.value)
    c.in_err-toks.ensures.answer)

pub call-returns-clause-sound : goal.call-returns-clause-sound
call-returns-clause-sound t c =
    put_sound c.in_ok-read.read.added c.in_ok-toks.toks.items c.read_call.new.rest c.put.new.self c.in_ok-put.ensures c.in_ok-toks.ensures.sound c.in_ok-read.ensures.sound

pub call-returns-clause-answer : goal.call-returns-clause-answer
call-returns-clause-answer t c =
    let set = setting_of c.args.self.now in
    let calling : Calling set c.args.first.now c.args.m.now c.in_ok-_sign._sign c.args.rest.now c.take.new.self =
    record { named = c.requires.named; function = c.requires.function; opens = c.requires.opens; taken = c.in_ok-_sign.ensures } in
    call-goes set c.args.self.now.depth c.args.before c.args.first.now c.tok.result.now c.args.m.now c.in_ok-_sign._sign c.args.rest.now c.take.new.self c.read_call.new.rest
    c.put.new.self c.in_ok-toks.toks.items c.in_ok-read.read.raw.items c.deref.result.now c.in_ok-read.read.added c.args.work.now c.replacement.new.work
    c.args.notes.now c.replacement.new.notes calling c.in_ok-read.ensures.answer c.tok.ensures c.deref.ensures.value c.in_ok-toks.ensures.answer c.in_ok-put.ensures

-- ---- the arguments

pub full_arguments-returns-in_err-toks-clause-answer : goal.full_arguments-returns-in_err-toks-clause-answer
full_arguments-returns-in_err-toks-clause-answer t c =
    let next = whole (setting_of c.args.self.now) in
    let depth = c.args.self.now.depth in
    let p = err_from_is_err_and c.from_residual.result c.from_residual.ensures.1 in
    let inside : c.loop-number.number < length c.args.raw.now = omega arith in
    rw (p.1, p.2)
    (refused_more c.in_err-toks.field-0.0
    (finished c.loop-number.notes [] (full_of c.occurs_alone-lone.result next depth c.args.before c.args.name.now c.index-raw-number.result c.loop-number.work))
    (all_full c.args.notes.now [] (full_from next depth c.args.before c.args.name.now c.args.chains.now 0 c.args.raw.now c.args.work.now))
    (full-fault next depth c.args.before c.args.name.now c.args.chains.now c.loop-number.number c.args.raw.now c.index-raw-number.result c.occurs_alone-lone.result
    c.loop-number.work c.loop-number.notes c.loop-number.full.items _ inside c.index-raw-number.is c.occurs_alone-lone.ensures c.loop-number.invariant.same)
    c.in_err-toks.ensures.answer)

pub full_arguments-loop-number-preserved : goal.full_arguments-loop-number-preserved
full_arguments-loop-number-preserved t c =
    let inside : c.loop-number.number < length c.args.raw.now = omega arith in
    let less = c.in_ok-toks.ensures.falls in
    record {
      same =
          full-turn (whole (setting_of c.args.self.now)) c.args.self.now.depth c.args.before c.args.name.now c.args.chains.now c.loop-number.number c.args.raw.now
          c.index-raw-number.result c.occurs_alone-lone.result c.loop-number.work c.full_argument.new.work c.loop-number.notes c.full_argument.new.notes
          c.loop-number.full.items c.push_argument.new.full.items c.in_ok-toks.toks _ inside c.index-raw-number.is c.occurs_alone-lone.ensures
          c.in_ok-toks.ensures.answer c.in_ok-push_argument.ensures c.loop-number.invariant.same;
      falls = omega (arith, less);
      sound =
          lists_sound c.loop-number.full.items c.push_argument.new.full.items c.in_ok-toks.toks c.in_ok-push_argument.ensures
          c.loop-number.invariant.sound c.in_ok-toks.ensures.sound;
    }

pub substituted-result_of-requires-clause-raw_sound : goal.substituted-result_of-requires-clause-raw_sound
substituted-result_of-requires-clause-raw_sound t c = fitting_arguments (c.args.before + c.args.work.now.left) c.args.raw.now c.requires.fitting

pub substituted-returns-in-Some-clause-answer : goal.substituted-returns-in-Some-clause-answer
substituted-returns-in-Some-clause-answer t c =
    substituted-given (λ (v : Vec HiddenTok Global). v.items) (whole (setting_of c.args.self.now)) c.args.self.now.depth c.args.before c.args.name.now c.args.m.now c.args.raw.now
    c.in_ok-arguments.arguments.items c.as_slice-full.result.now c.as_slice-chains.result.now c.args.work.now c.full_arguments.new.work c.in-Some.left
    c.args.notes.now c.full_arguments.new.notes c.result_of.new.notes c.result_of.result
    (c.as_slice-chains.ensures.value ∙ c.in_ok-body.ensures.answer) c.as_slice-full.ensures.value c.in_ok-arguments.ensures.answer c.in-Some.ensures c.result_of.ensures.answer

-- ---- the first token

pub next_token-returns-in-None-clause-answer : goal.next_token-returns-in-None-clause-answer
next_token-returns-in-None-clause-answer t c =
    stays-goes (setting_of c.args.self.now) c.args.self.now.depth c.args.before c.args.first c.args.rest.now c.args.work.now c.args.notes.now (sym c.in-None.ensures.answer)

pub function_like-returns-else-begins_open-clause-answer : goal.function_like-returns-else-begins_open-clause-answer
function_like-returns-else-begins_open-clause-answer t c =
    alone-goes (setting_of c.args.self.now) c.args.self.now.depth c.args.before c.args.first c.args.rest.now c.args.work.now c.args.m.now c.args.notes.now
    c.requires.named c.requires.function (sym c.begins_open.ensures ∙ c.if-begins_open.false)

pub object_like-returns-in_err-toks-clause-answer : goal.object_like-returns-in_err-toks-clause-answer
object_like-returns-in_err-toks-clause-answer t c =
    let set = setting_of c.args.self.now in
    let depth = c.args.self.now.depth in
    let p = err_from_is_err_and c.from_residual-in_err-toks.result c.from_residual-in_err-toks.ensures.1 in
    rw (p.1, p.2)
    (refused_more c.in_err-toks.field-0.0
    (finished c.args.notes.now [] (brought set (whole set) depth c.args.before c.tok.result.now c.args.m.now [] c.args.work.now))
    (finished c.args.notes.now [] (whole set depth c.args.before (c.args.first ∷ c.args.rest.now) c.args.work.now))
    (object-faults set depth c.args.before c.args.first c.tok.result.now c.args.m.now c.args.rest.now c.in_ok-added.added c.args.work.now c.args.notes.now
    c.requires.named c.requires.object c.tok.ensures c.in_ok-added.ensures)
    c.in_err-toks.ensures.answer)

pub object_like-returns-clause-sound : goal.object_like-returns-clause-sound
object_like-returns-clause-sound t c =
    put_sound c.in_ok-added.added c.in_ok-toks.toks.items c.args.rest.now c.put.new.self c.in_ok-put.ensures c.in_ok-toks.ensures.sound c.requires.sound

pub object_like-returns-clause-answer : goal.object_like-returns-clause-answer
object_like-returns-clause-answer t c =
    object-goes (setting_of c.args.self.now) c.args.self.now.depth c.args.before c.args.first c.tok.result.now c.args.m.now c.args.rest.now c.put.new.self c.in_ok-toks.toks.items
    c.in_ok-added.added c.args.work.now c.replacement.new.work c.args.notes.now c.replacement.new.notes
    c.requires.named c.requires.object c.tok.ensures c.in_ok-added.ensures c.in_ok-toks.ensures.answer c.in_ok-put.ensures

-- ---- the list

pub whole_list-toks-preserved : goal.whole_list-toks-preserved
whole_list-toks-preserved t c =
    let kept = c.toks.invariant in
    let taken = taken_is c.in_ok-first.field-0 c.in-Some.first c.toks.rest c.take.new.self c.in-Some.is c.in_ok-first.ensures in
    let shorter = c.in_ok-stayed.ensures.shorter in
    let less = c.in_ok-stayed.ensures.falls in
    record {
      same =
          whole-turn (setting_of c.args.self.now) c.args.self.now.depth c.toks.before c.behind-before.result c.in-Some.first c.in_ok-stayed.stayed c.toks.rest c.take.new.self c.next_token.new.rest
          c.toks.out.items c.put_out.new.out.items c.toks.work c.next_token.new.work c.toks.notes c.next_token.new.notes _
          taken c.in_ok-stayed.ensures.answer c.behind-before.ensures c.in_ok-put_out.ensures kept.same;
      fits =
          turn_fits c.in_ok-stayed.stayed c.args.self.now.depth c.toks.before c.behind-before.result c.toks.work.left c.next_token.new.work.left c.in-Some.first c.toks.rest
          c.take.new.self c.next_token.new.rest c.behind-before.ensures taken shorter kept.fits;
      falls = omega (arith, less);
      few =
          turn_few c.in_ok-stayed.stayed c.toks.work.left c.next_token.new.work.left _ c.in-Some.first c.toks.rest c.take.new.self c.next_token.new.rest
          c.toks.out.items c.put_out.new.out.items c.in_ok-put_out.ensures taken shorter kept.few;
      sound = c.in_ok-stayed.ensures.sound;
      out_sound = out_sound c.toks.out.items c.put_out.new.out.items c.in_ok-stayed.stayed c.in_ok-put_out.ensures kept.out_sound c.in_ok-stayed.ensures.stayed_sound;
    }

pub whole_list-returns-in_err-stayed-clause-answer : goal.whole_list-returns-in_err-stayed-clause-answer
whole_list-returns-in_err-stayed-clause-answer t c =
    let set = setting_of c.args.self.now in
    let depth = c.args.self.now.depth in
    let p = err_from_is_err_and c.from_residual-in_err-stayed.result c.from_residual-in_err-stayed.ensures.1 in
    let taken = taken_is c.in_ok-first.field-0 c.in-Some.first c.toks.rest c.take.new.self c.in-Some.is c.in_ok-first.ensures in
    rw (p.1, p.2)
    (refused_more c.in_err-stayed.field-0.0
    (finished c.toks.notes [] (whole set depth c.toks.before (c.in-Some.first ∷ c.take.new.self) c.toks.work)) _
    (whole-fault set depth c.toks.before c.in-Some.first c.toks.rest c.take.new.self c.toks.out.items c.toks.work c.toks.notes _ taken c.toks.invariant.same)
    c.in_err-stayed.ensures.answer)

pub whole_list-returns-clause-answer : goal.whole_list-returns-clause-answer
whole_list-returns-clause-answer t c =
    whole-end (setting_of c.args.self.now) c.args.self.now.depth c.toks.before c.in_ok-first.field-0 c.toks.rest c.take.new.self c.toks.out.items c.toks.work c.toks.notes _
    c.in_default.is c.in_ok-first.ensures c.toks.invariant.same
