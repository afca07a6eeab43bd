use Rattle.std.proofs.Common.{◌≡◌, ℕ, List, Some, refl, sym, ap, subst, ◌∙◌}
use Rattle.std.specs.Prelude.{map, string_bytes}
use Rattle.std.specs.Option.{option_map}
use Rattle.cs_base.specs.Edit.{with_edits}
use Rattle.cs_base.specs.Outside.{FilesTold, Writes}
use Rattle.cs_base.specs.declared.outside.Wrote.TheVariants as wrote
use Rattle.cscout_run.specs.declared.status.Status.{Status}
use Rattle.command_words.specs.Request.{asked}
use Rattle.command_words.specs.Asking.{request_value, workspace_file}
use Rattle.cscout_run.specs.Answer.{IsAnswer}
use Rattle.cscout_run.specs.Stopping.{line_of}
use Rattle.cscout_run.specs.Outcome.{World, world, Tells, Unmoved, FailedWrite, Ends}
use Rattle.cscout_run.proofs.AnswerLemmas.{answer-alike, answer-usage}
use Rattle.cscout_run.proofs.RunLemmas.{ready-answer, stop-answer, failed_put, stop-not_done}
use Rattle.cscout_run.proofs.EndLemmas.{usage-ends, stop-ends, put-ends, write-ends, done-ends}
use Rattle.cscout_run.proofs.PromiseLemmas.{promise-told, refused-stopped, refused-told}
use Rattle.cscout_run.proofs.top.run.Goals as goal

pub returns-in_default-clause-outcome : goal.returns-in_default-clause-outcome
returns-in_default-clause-outcome g c =
    let words : List (List ℕ) = map string_bytes c.args.words.now in
    let before : World = world
    (g.F.Files.told c.args.files.now)
    (g.O.Sink.bytes c.args.out.now) (g.O.Sink.failed_writes c.args.out.now) (g.E.Sink.bytes c.args.err.now) (g.E.Sink.failed_writes c.args.err.now) in
    let now : World = world
    (g.F.Files.told c.args.files.now)
    (g.O.Sink.bytes c.args.out.now) (g.O.Sink.failed_writes c.args.out.now) (g.E.Sink.bytes c.tell.new.err) (g.E.Sink.failed_writes c.tell.new.err) in
    usage-ends (IsAnswer words) before now (answer-alike words) (λ fs. answer-usage words fs (sym c.in_default.ensures)) record { held = refl; out = refl } refl refl refl c.tell.ensures

pub returns-in-Err-clause-outcome : goal.returns-in-Err-clause-outcome
returns-in-Err-clause-outcome g c =
    let words : List (List ℕ) = map string_bytes c.args.words.now in
    let before : World = world
    (g.F.Files.told c.args.files.now)
    (g.O.Sink.bytes c.args.out.now) (g.O.Sink.failed_writes c.args.out.now) (g.E.Sink.bytes c.args.err.now) (g.E.Sink.failed_writes c.args.err.now) in
    let now : World = world
    (g.F.Files.told c.prepare.new.files)
    (g.O.Sink.bytes c.args.out.now) (g.O.Sink.failed_writes c.args.out.now) (g.E.Sink.bytes c.tell_stop.new.err) (g.E.Sink.failed_writes c.tell_stop.new.err) in
    let some : asked words ≡ Some (request_value c.in-Some.request) = sym c.in-Some.ensures in
    let ws = workspace_file c.in-Some.request in
    let stops = stop-answer before.held words (request_value c.in-Some.request) ws c.in-Err.stop some c.in-Err.ensures.answer in
    let line : Tells (line_of ws c.in-Err.stop) before now = rw (← c.workspace_file.ensures) c.tell_stop.ensures.told in
    let unmoved : Unmoved before now = record { held = c.prepare.ensures.faults.held; out = refl } in
    let P : Status → Type 0 = λ s. Ends (IsAnswer words) before now s in
    subst P (sym c.tell_stop.ensures.status)
    (stop-ends (IsAnswer words) ws c.in-Err.stop before now (answer-alike words) stops unmoved c.in-Err.ensures.faults.told c.prepare.ensures.faults.apart refl line)

pub returns-in-Failed-clause-outcome : goal.returns-in-Failed-clause-outcome
returns-in-Failed-clause-outcome g c =
    let words : List (List ℕ) = map string_bytes c.args.words.now in
    let before : World = world
    (g.F.Files.told c.args.files.now)
    (g.O.Sink.bytes c.args.out.now) (g.O.Sink.failed_writes c.args.out.now) (g.E.Sink.bytes c.args.err.now) (g.E.Sink.failed_writes c.args.err.now) in
    let now : World = world
    (g.F.Files.told c.apply.new.files)
    (g.O.Sink.bytes c.args.out.now) (g.O.Sink.failed_writes c.args.out.now) (g.E.Sink.bytes c.tell-in-Failed.new.err) (g.E.Sink.failed_writes c.tell-in-Failed.new.err) in
    let some : asked words ≡ Some (request_value c.in-Some.request) = sym c.in-Some.ensures in
    let text = c.in-Ok.ready.text.items in
    let edits = c.in-Ok.ready.edits in
    let ready = ready-answer before.held words (request_value c.in-Some.request) (workspace_file c.in-Some.request) c.in-Ok.ready some c.in-Ok.ensures.answer in
    let failed = c.in-Failed.ensures.faults.failed c.in-Failed.written refl in
    let put = failed_put edits c.in-Failed.written before now (g.F.Files.told c.prepare.new.files).held (g.F.Files.told c.prepare.new.files).puts c.prepare.ensures.faults.held c.prepare.ensures.faults.apart c.in-Failed.ensures.held failed.0 failed.1 refl refl in
    let reads : now.reads ≡ before.reads = c.in-Failed.ensures.faults.reads_stay ∙ ap (λ (o : FilesTold). o.reads) c.in-Ok.ensures.faults.told in
    put-ends (IsAnswer words) c.in-Ok.ready.refused text edits c.in-Failed.written c.path.result.now before now (answer-alike words) ready put reads c.path.ensures.answer c.tell-in-Failed.ensures

pub returns-in-Failed-write_text-clause-outcome : goal.returns-in-Failed-write_text-clause-outcome
returns-in-Failed-write_text-clause-outcome g c =
    let words : List (List ℕ) = map string_bytes c.args.words.now in
    let before : World = world
    (g.F.Files.told c.args.files.now)
    (g.O.Sink.bytes c.args.out.now) (g.O.Sink.failed_writes c.args.out.now) (g.E.Sink.bytes c.args.err.now) (g.E.Sink.failed_writes c.args.err.now) in
    let now : World = world
    (g.F.Files.told c.apply.new.files)
    (g.O.Sink.bytes c.write_text.new.out) (g.O.Sink.failed_writes c.write_text.new.out) (g.E.Sink.bytes c.tell-in-Failed-write_text.new.err) (g.E.Sink.failed_writes c.tell-in-Failed-write_text.new.err) in
    let some : asked words ≡ Some (request_value c.in-Some.request) = sym c.in-Some.ensures in
    let text = c.in-Ok.ready.text.items in
    let edits = c.in-Ok.ready.edits in
    let ready = ready-answer before.held words (request_value c.in-Some.request) (workspace_file c.in-Some.request) c.in-Ok.ready some c.in-Ok.ensures.answer in
    let held : now.held ≡ option_map (with_edits edits) before.held = rw (← c.prepare.ensures.faults.held) c.in_default-apply.ensures.held in
    let counts = c.apply.ensures.faults.done c.in_default-apply.is in
    let reads : now.reads ≡ before.reads = c.apply.ensures.faults.reads_stay ∙ ap (λ (o : FilesTold). o.reads) c.in-Ok.ensures.faults.told in
    let puts : now.puts ≡ before.puts = counts.0 ∙ c.prepare.ensures.faults.apart in
    let out : Writes text before.out now.out wrote.Failed = rw (← c.as_slice.ensures.value) c.in-Failed-write_text.ensures.bytes in
    let failed : FailedWrite edits text before now = record { held = held; out = out; puts = puts; rose = c.in-Failed-write_text.ensures.faults.rises refl } in
    write-ends (IsAnswer words) c.in-Ok.ready.refused text edits before now (answer-alike words) ready failed reads c.tell-in-Failed-write_text.ensures

pub returns-clause-outcome : goal.returns-clause-outcome
returns-clause-outcome g c =
    let words : List (List ℕ) = map string_bytes c.args.words.now in
    let before : World = world
    (g.F.Files.told c.args.files.now)
    (g.O.Sink.bytes c.args.out.now) (g.O.Sink.failed_writes c.args.out.now) (g.E.Sink.bytes c.args.err.now) (g.E.Sink.failed_writes c.args.err.now) in
    let now : World = world
    (g.F.Files.told c.apply.new.files)
    (g.O.Sink.bytes c.write_text.new.out) (g.O.Sink.failed_writes c.write_text.new.out) (g.E.Sink.bytes c.args.err.now) (g.E.Sink.failed_writes c.args.err.now) in
    let some : asked words ≡ Some (request_value c.in-Some.request) = sym c.in-Some.ensures in
    let text = c.in-Ok.ready.text.items in
    let edits = c.in-Ok.ready.edits in
    let ready = ready-answer before.held words (request_value c.in-Some.request) (workspace_file c.in-Some.request) c.in-Ok.ready some c.in-Ok.ensures.answer in
    let held : now.held ≡ option_map (with_edits edits) before.held = rw (← c.prepare.ensures.faults.held) c.in_default-apply.ensures.held in
    let counts = c.apply.ensures.faults.done c.in_default-apply.is in
    let reads : now.reads ≡ before.reads = c.apply.ensures.faults.reads_stay ∙ ap (λ (o : FilesTold). o.reads) c.in-Ok.ensures.faults.told in
    let puts : now.puts ≡ before.puts = counts.0 ∙ c.prepare.ensures.faults.apart in
    let out : Writes text before.out now.out wrote.Done = rw (← c.as_slice.ensures.value) c.in_default-write_text.ensures.bytes in
    let outs : now.outs ≡ before.outs = c.in_default-write_text.ensures.faults.stays refl in
    let P : Status → Type 0 = λ s. Ends (IsAnswer words) before now s in
    subst P (sym c.ready_status.ensures)
    (done-ends (IsAnswer words) c.in-Ok.ready.refused text edits before now (answer-alike words) ready record { held = held; out = out } reads puts outs refl)

pub returns-in_default-clause-promise : goal.returns-in_default-clause-promise
returns-in_default-clause-promise g c = λ done. absurd cc

pub returns-in-Err-clause-promise : goal.returns-in-Err-clause-promise
returns-in-Err-clause-promise g c = λ done. absurd (stop-not_done c.in-Err.stop (sym c.tell_stop.ensures.status ∙ done))

pub returns-in-Failed-clause-promise : goal.returns-in-Failed-clause-promise
returns-in-Failed-clause-promise g c = λ done. absurd cc

pub returns-in-Failed-write_text-clause-promise : goal.returns-in-Failed-write_text-clause-promise
returns-in-Failed-write_text-clause-promise g c = λ done. absurd cc

pub returns-clause-promise : goal.returns-clause-promise
returns-clause-promise g c =
    let words : List (List ℕ) = map string_bytes c.args.words.now in
    let told = (g.F.Files.told c.args.files.now).held in
    let some : asked words ≡ Some (request_value c.in-Some.request) = sym c.in-Some.ensures in
    let held : (g.F.Files.told c.apply.new.files).held ≡ option_map (with_edits c.in-Ok.ready.edits) told = rw (← c.prepare.ensures.faults.held) c.in_default-apply.ensures.held in
    λ done. promise-told told (g.F.Files.told c.apply.new.files).held (request_value c.in-Some.request) words c.in-Ok.ready some c.in-Ok.ensures.planned held

pub returns-in_default-clause-refused : goal.returns-in_default-clause-refused
returns-in_default-clause-refused g c = λ is. absurd cc

pub returns-in-Err-clause-refused : goal.returns-in-Err-clause-refused
returns-in-Err-clause-refused g c =
    let words : List (List ℕ) = map string_bytes c.args.words.now in
    let some : asked words ≡ Some (request_value c.in-Some.request) = sym c.in-Some.ensures in
    λ is. refused-stopped (g.F.Files.told c.args.files.now).held (g.F.Files.told c.prepare.new.files).held (request_value c.in-Some.request) words
    (workspace_file c.in-Some.request) c.in-Err.stop some c.in-Err.ensures.answer (sym c.tell_stop.ensures.status ∙ is)

pub returns-in-Failed-clause-refused : goal.returns-in-Failed-clause-refused
returns-in-Failed-clause-refused g c = λ is. absurd cc

pub returns-in-Failed-write_text-clause-refused : goal.returns-in-Failed-write_text-clause-refused
returns-in-Failed-write_text-clause-refused g c = λ is. absurd cc

pub returns-clause-refused : goal.returns-clause-refused
returns-clause-refused g c =
    let words : List (List ℕ) = map string_bytes c.args.words.now in
    let told = (g.F.Files.told c.args.files.now).held in
    let some : asked words ≡ Some (request_value c.in-Some.request) = sym c.in-Some.ensures in
    let held : (g.F.Files.told c.apply.new.files).held ≡ option_map (with_edits c.in-Ok.ready.edits) told = rw (← c.prepare.ensures.faults.held) c.in_default-apply.ensures.held in
    λ is. refused-told told (g.F.Files.told c.apply.new.files).held (request_value c.in-Some.request) words c.in-Ok.ready some c.in-Ok.ensures.planned held
