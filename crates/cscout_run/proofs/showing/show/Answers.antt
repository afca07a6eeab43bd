use Rattle.std.proofs.Common.{◌≡◌, ℕ, List, [], Some, refl, sym, ap, subst, ◌∙◌}
use Rattle.std.specs.Prelude.{map, string_bytes}
use Rattle.std.specs.Option.{option_map}
use Rattle.cs_base.specs.Edit.{with_edits}
use Rattle.cs_base.specs.Outside.{FilesTold, Writes}
use Rattle.cs_base.specs.declared.outside.Wrote.TheVariants as wrote
use Rattle.cscout_run.specs.declared.status.Status.{Status}
use Rattle.command_words.specs.Request.{asked}
use Rattle.command_words.specs.Asking.{request_value, workspace_file}
use Rattle.cscout_run.specs.Shown.{IsShownAnswer}
use Rattle.cscout_run.specs.Stopping.{line_of}
use Rattle.cscout_run.specs.Outcome.{World, world, Tells, Unmoved, FailedWrite, Ends}
use Rattle.cscout_run.proofs.EndLemmas.{usage-ends, stop-ends, write-ends, done-ends}
use Rattle.cscout_run.proofs.RunLemmas.{put_none}
use Rattle.cscout_run.proofs.ShowLemmas.{shown-alike, shown-ready, shown-stop, shown-usage}
use Rattle.cscout_run.proofs.showing.show.Goals as goal

pub returns-in_default-clause-outcome : goal.returns-in_default-clause-outcome
returns-in_default-clause-outcome g c =
    let words : List (List ℕ) = map string_bytes c.args.words.now in
    let before : World = world
    (g.F.Files.told c.args.files.now)
    (g.O.Sink.bytes c.args.out.now) (g.O.Sink.failed_writes c.args.out.now) (g.E.Sink.bytes c.args.err.now) (g.E.Sink.failed_writes c.args.err.now) in
    let now : World = world
    (g.F.Files.told c.args.files.now)
    (g.O.Sink.bytes c.args.out.now) (g.O.Sink.failed_writes c.args.out.now) (g.E.Sink.bytes c.tell.new.err) (g.E.Sink.failed_writes c.tell.new.err) in
    usage-ends (IsShownAnswer words) before now (shown-alike words) (λ fs. shown-usage words fs (sym c.in_default.ensures)) record { held = refl; out = refl }
    refl refl refl c.tell.ensures

pub returns-in-Err-clause-outcome : goal.returns-in-Err-clause-outcome
returns-in-Err-clause-outcome g c =
    let words : List (List ℕ) = map string_bytes c.args.words.now in
    let before : World = world
    (g.F.Files.told c.args.files.now)
    (g.O.Sink.bytes c.args.out.now) (g.O.Sink.failed_writes c.args.out.now) (g.E.Sink.bytes c.args.err.now) (g.E.Sink.failed_writes c.args.err.now) in
    let now : World = world
    (g.F.Files.told c.prepare_shown.new.files)
    (g.O.Sink.bytes c.args.out.now) (g.O.Sink.failed_writes c.args.out.now) (g.E.Sink.bytes c.tell_stop.new.err) (g.E.Sink.failed_writes c.tell_stop.new.err) in
    let some : asked words ≡ Some (request_value c.in-Some.request) = sym c.in-Some.ensures in
    let ws = workspace_file c.in-Some.request in
    let stops = shown-stop before.held words (request_value c.in-Some.request) ws c.in-Err.stop some c.in-Err.ensures.answer in
    let line : Tells (line_of ws c.in-Err.stop) before now = rw (← c.workspace_file.ensures) c.tell_stop.ensures.told in
    let unmoved : Unmoved before now = record { held = c.prepare_shown.ensures.faults.held; out = refl } in
    let P : Status → Type 0 = λ s. Ends (IsShownAnswer words) before now s in
    subst P (sym c.tell_stop.ensures.status)
    (stop-ends (IsShownAnswer words) ws c.in-Err.stop before now (shown-alike words) stops unmoved c.in-Err.ensures.faults.told
    c.prepare_shown.ensures.faults.apart refl line)

pub returns-in-Failed-clause-outcome : goal.returns-in-Failed-clause-outcome
returns-in-Failed-clause-outcome g c =
    let words : List (List ℕ) = map string_bytes c.args.words.now in
    let before : World = world
    (g.F.Files.told c.args.files.now)
    (g.O.Sink.bytes c.args.out.now) (g.O.Sink.failed_writes c.args.out.now) (g.E.Sink.bytes c.args.err.now) (g.E.Sink.failed_writes c.args.err.now) in
    let now : World = world
    (g.F.Files.told c.prepare_shown.new.files)
    (g.O.Sink.bytes c.write_text.new.out) (g.O.Sink.failed_writes c.write_text.new.out) (g.E.Sink.bytes c.tell-in-Failed.new.err) (g.E.Sink.failed_writes c.tell-in-Failed.new.err) in
    let some : asked words ≡ Some (request_value c.in-Some.request) = sym c.in-Some.ensures in
    let text = c.in-Ok.ready.text.items in
    let ready = shown-ready before.held words (request_value c.in-Some.request) (workspace_file c.in-Some.request) c.in-Ok.ready some c.in-Ok.ensures.none c.in-Ok.ensures.answer in
    let held : now.held ≡ option_map (with_edits []) before.held = c.prepare_shown.ensures.faults.held ∙ put_none before.held in
    let reads : now.reads ≡ before.reads = ap (λ (o : FilesTold). o.reads) c.in-Ok.ensures.faults.told in
    let out : Writes text before.out now.out wrote.Failed = rw (← c.as_slice.ensures.value) c.in-Failed.ensures.bytes in
    let failed : FailedWrite [] text before now =
    record { held = held; out = out; puts = c.prepare_shown.ensures.faults.apart; rose = c.in-Failed.ensures.faults.rises refl } in
    write-ends (IsShownAnswer words) c.in-Ok.ready.refused text [] before now (shown-alike words) ready failed reads c.tell-in-Failed.ensures

pub returns-clause-outcome : goal.returns-clause-outcome
returns-clause-outcome g c =
    let words : List (List ℕ) = map string_bytes c.args.words.now in
    let before : World = world
    (g.F.Files.told c.args.files.now)
    (g.O.Sink.bytes c.args.out.now) (g.O.Sink.failed_writes c.args.out.now) (g.E.Sink.bytes c.args.err.now) (g.E.Sink.failed_writes c.args.err.now) in
    let now : World = world
    (g.F.Files.told c.prepare_shown.new.files)
    (g.O.Sink.bytes c.write_text.new.out) (g.O.Sink.failed_writes c.write_text.new.out) (g.E.Sink.bytes c.args.err.now) (g.E.Sink.failed_writes c.args.err.now) in
    let some : asked words ≡ Some (request_value c.in-Some.request) = sym c.in-Some.ensures in
    let text = c.in-Ok.ready.text.items in
    let ready = shown-ready before.held words (request_value c.in-Some.request) (workspace_file c.in-Some.request) c.in-Ok.ready some c.in-Ok.ensures.none c.in-Ok.ensures.answer in
    let held : now.held ≡ option_map (with_edits []) before.held = c.prepare_shown.ensures.faults.held ∙ put_none before.held in
    let reads : now.reads ≡ before.reads = ap (λ (o : FilesTold). o.reads) c.in-Ok.ensures.faults.told in
    let out : Writes text before.out now.out wrote.Done = rw (← c.as_slice.ensures.value) c.in_default-write_text.ensures.bytes in
    let outs : now.outs ≡ before.outs = c.in_default-write_text.ensures.faults.stays refl in
    let P : Status → Type 0 = λ s. Ends (IsShownAnswer words) before now s in
    subst P (sym c.ready_status.ensures)
    (done-ends (IsShownAnswer words) c.in-Ok.ready.refused text [] before now (shown-alike words) ready record { held = held; out = out } reads
    c.prepare_shown.ensures.faults.apart outs refl)
