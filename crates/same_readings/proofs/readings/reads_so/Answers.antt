use Rattle.std.proofs.Common.{◌≡◌, Bool, Ok}
use Rattle.c99_read.specs.Answer.{stop_of}
use Rattle.same_readings.specs.Readings.{is_read_so, reads_so, IsRefused}
use Rattle.same_readings.proofs.ReadingLemmas.{if_ok, read_again, unread}
use Rattle.same_readings.proofs.readings.reads_so.Goals as goal

pub returns-in-Ok : goal.returns-in-Ok
returns-in-Ok c =
    let toks = c.args.toks.now in
    let tree = c.args.tree.now in
    let bound = c.args.bound.now in
    if_ok c.binds_so.result (λ (b : Bool). b ≡ is_read_so toks tree bound (Ok c.in-Ok.again)) (λ (b : Bool). b ≡ reads_so toks tree bound)
    (λ b e. read_again toks tree bound b c.in-Ok.again c.in-Ok.ensures.answer e) c.binds_so.ensures

pub returns-in-Err : goal.returns-in-Err
returns-in-Err c =
    let toks = c.args.toks.now in
    let tree = c.args.tree.now in
    let bound = c.args.bound.now in
    if_ok c.is_unread.result (IsRefused (stop_of c.in-Err.refusal)) (λ (b : Bool). b ≡ reads_so toks tree bound)
    (λ b e. unread toks tree bound (stop_of c.in-Err.refusal) b e c.in-Err.ensures.answer) c.is_unread.ensures
