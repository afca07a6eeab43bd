use Rattle.std.proofs.Common.{arith}
use Rattle.macro_expand.specs.declared.call_reading.CallRead.{CallRead}
use Rattle.macro_expand.proofs.CallLemmas.{call_shorter}
use Rattle.macro_expand.proofs.CallSound.{call_sound, taken_call, read_fitting, always_ok}
use Rattle.macro_expand.proofs.call_reading.read_call.Goals as goal

pub returns-in-Some-clause-sound : goal.returns-in-Some-clause-sound
returns-in-Some-clause-sound c =
    let taken = taken_call c.in_ok-call.field-0 c.in-Some.call c.take_call.new.rest c.args.rest.now c.commas_of.result c.in-Some.is c.in_ok-call.ensures in
    always_ok c.with_arguments.result (call_sound c.args.rest.now c.commas_of.result 0 _ c.requires.sound taken).rest

pub returns-in-Some-clause-shorter : goal.returns-in-Some-clause-shorter
returns-in-Some-clause-shorter c =
    let taken = taken_call c.in_ok-call.field-0 c.in-Some.call c.take_call.new.rest c.args.rest.now c.commas_of.result c.in-Some.is c.in_ok-call.ensures in
    let shorter = (call_shorter c.args.rest.now c.commas_of.result 0 _ taken).behind in
    always_ok c.with_arguments.result (omega (arith, shorter))

pub returns-in-Some-clause-fitting : goal.returns-in-Some-clause-fitting
returns-in-Some-clause-fitting c =
    let taken = taken_call c.in_ok-call.field-0 c.in-Some.call c.take_call.new.rest c.args.rest.now c.commas_of.result c.in-Some.is c.in_ok-call.ensures in
    read_fitting (λ (v : CallRead). v.raw.items) (λ (v : CallRead). v.added) c.args.name.now c.args.m.now c.in-Some.call.close c.in-Some.call.arguments.items _
    (call_shorter c.args.rest.now c.commas_of.result 0 _ taken).each (call_sound c.args.rest.now c.commas_of.result 0 _ c.requires.sound taken).arguments
    c.with_arguments.result c.with_arguments.ensures
