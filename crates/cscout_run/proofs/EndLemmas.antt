-- How a run ends: the whole outcome at each end.
use Rattle.std.proofs.Common.{◌≡◌, ◌∙◌, ℕ, Bool, true, false, List, [], ◌++◌, Option, refl, inl, inr}
use Rattle.std.specs.Option.{option_map}
use Rattle.std.specs.Prelude.{IfSome, slice_get}
use Rattle.cs_base.specs.Edit.{Edit}
use Rattle.cs_base.specs.Outside.{FileMap, TellsReads}
use Rattle.cscout_run.specs.declared.status.Status.{Status}
use Rattle.cscout_run.specs.declared.status.Status.TheVariants.{Done, Refused, Usage, WriteFault}
use Rattle.cscout_run.specs.declared.stops.Stop.{Stop}
use Rattle.cscout_run.specs.Shapes.{Answer, answer_of, ready_status, stopped}
use Rattle.command_words.specs.Message.{usage_line, unwritten_line, no_output_line}
use Rattle.cscout_run.specs.Outcome.{World, told_in, HasCauses, IsComplete, ShowsAnswer, Tells, FailedPut, FailedWrite, IsDone, Unmoved, Ends}
use Rattle.cscout_run.specs.Stopping.{Stops, stop_reads, status_of, line_of}
use Rattle.cscout_run.proofs.RunLemmas.{if_told, if_told-map, quiet-causes, put-causes, stop-causes, stop-shows, stop-status, complete, write-complete, ready_is, goes_on, written_none, path-last}

-- any two of these answers have one status
abbrev pub AreAlike : (FileMap → Answer → Type 0) → Type 0
AreAlike IsOne = (fs : FileMap) (a b : Answer) → IsOne fs a → IsOne fs b → a.status ≡ b.status

-- the run ends at once
pub usage-ends : (IsOne : FileMap → Answer → Type 0) (before now : World) → AreAlike IsOne → ((fs : FileMap) → IsOne fs (stopped Usage usage_line))
    → Unmoved before now → now.reads ≡ before.reads → now.puts ≡ before.puts → now.outs ≡ before.outs → Tells usage_line before now
    → Ends IsOne before now Usage
usage-ends IsOne before now alike usage unmoved reads puts outs line =
    let a : Answer = stopped Usage usage_line in
    let causes = quiet-causes before now Usage reads puts outs (λ e. cc) (λ e. cc) in
    record {
      shows = if_told before.held (λ fs. ShowsAnswer (IsOne fs) before now Usage)
          (λ fs. (a, usage fs, record { status = refl; leaves = unmoved; says = line }));
      causes = causes;
      complete = if_told before.held (λ fs. (b : Answer) → IsOne fs b → IsComplete b before now Usage)
          (λ fs b is. complete b before now Usage (alike fs b a is (usage fs)) causes);
    }

-- the run ends before the first put
pub stop-ends : (IsOne : FileMap → Answer → Type 0) (ws : List ℕ) (end : Stop) (before now : World) → AreAlike IsOne
    → IfSome before.held (λ fs. Stops ws (IsOne fs) end) → Unmoved before now
    → TellsReads (told_in before) (told_in now) (stop_reads end) → now.puts ≡ before.puts → now.outs ≡ before.outs
    → Tells (line_of ws end) before now → Ends IsOne before now (status_of end)
stop-ends IsOne ws end before now alike stops unmoved reads puts outs line =
    let causes = stop-causes end before now reads puts outs in
    record {
      shows = if_told-map before.held _ _ stops (λ fs p. stop-shows ws (IsOne fs) end before now p unmoved line reads);
      causes = causes;
      complete = if_told-map before.held _ _ stops
          (λ fs p b is. complete b before now (status_of end) (stop-status ws (IsOne fs) end b (alike fs) p is) causes);
    }

-- where a run that stood ready ends, it is complete if it is so for each answer of this status
ready-complete : (o : Option FileMap) (IsOne : FileMap → Answer → Type 0) (refused : Bool) (text : List ℕ) (edits : List Edit) (before now : World) (ended : Status)
    → AreAlike IsOne → IfSome o (λ fs. IsOne fs (answer_of (ready_status refused) text [] edits))
    → ((a : Answer) → a.status ≡ ready_status refused → IsComplete a before now ended)
    → IfSome o (λ fs. (a : Answer) → IsOne fs a → IsComplete a before now ended)
ready-complete o IsOne refused text edits before now ended alike ready follows =
    if_told-map o _ _ ready (λ fs p b is. follows b (alike fs b (answer_of (ready_status refused) text [] edits) is p))

-- the run ends at a put that failed
pub put-ends : (IsOne : FileMap → Answer → Type 0) (refused : Bool) (text : List ℕ) (edits : List Edit) (n : ℕ) (path : List ℕ) (before now : World)
    → AreAlike IsOne → IfSome before.held (λ fs. IsOne fs (answer_of (ready_status refused) text [] edits)) → FailedPut edits n before now
    → now.reads ≡ before.reads → IfSome (slice_get edits n) (λ e. path ≡ e.path) → Tells (unwritten_line path) before now
    → Ends IsOne before now WriteFault
put-ends IsOne refused text edits n path before now alike ready failed reads named line =
    let causes = put-causes before now reads failed.rose in
    let last = path-last edits n path now.last failed.within named failed.last in
    record {
      shows = if_told-map before.held _ _ ready
          (λ fs p. (
            answer_of (ready_status refused) text [] edits,
            p,
            record { status = goes_on refused text edits; leaves = inl (n, failed); says = inl (path, line, last, failed.rose) },
          ));
      causes = causes;
      complete = ready-complete before.held IsOne refused text edits before now WriteFault alike ready (λ a is. write-complete a before now causes);
    }

-- the run ends at the write to the output
pub write-ends : (IsOne : FileMap → Answer → Type 0) (refused : Bool) (text : List ℕ) (edits : List Edit) (before now : World) → AreAlike IsOne
    → IfSome before.held (λ fs. IsOne fs (answer_of (ready_status refused) text [] edits)) → FailedWrite edits text before now
    → now.reads ≡ before.reads → Tells no_output_line before now → Ends IsOne before now WriteFault
write-ends IsOne refused text edits before now alike ready failed reads line =
    let causes : HasCauses before now WriteFault = record {
      read = λ e. cc;
      reads_stay = λ _. reads;
      write = λ _. inr failed.rose;
      puts_stay = λ e. cc;
      outs_stay = λ e. cc;
    } in
    record {
      shows = if_told-map before.held _ _ ready
          (λ fs p. (
            answer_of (ready_status refused) text [] edits,
            p,
            record { status = goes_on refused text edits; leaves = inr failed; says = inr (line, failed.rose) },
          ));
      causes = causes;
      complete = ready-complete before.held IsOne refused text edits before now WriteFault alike ready (λ a is. write-complete a before now causes);
    }

-- nothing is told where the messages stay as they were
tells_none : (before now : World) → now.err ≡ before.err → Tells [] before now
tells_none before now err =
    let same : now.err ≡ option_map (λ bytes. bytes ++ []) before.err = err ∙ written_none before.err in
    record { front = ([], ([], refl), same); whole = λ none. same }

-- the run shows the answer that stood ready
done-shows : (IsOne : Answer → Type 0) (refused : Bool) (text : List ℕ) (edits : List Edit) (before now : World)
    → IsOne (answer_of (ready_status refused) text [] edits) → IsDone edits text before now → now.err ≡ before.err
    → ShowsAnswer IsOne before now (ready_status refused)
done-shows IsOne false text edits before now is done err = (answer_of Done text [] edits, is, record { status = refl; leaves = done; says = err })
done-shows IsOne true text edits before now is done err =
    (answer_of Refused text [] edits, is, record { status = refl; leaves = done; says = tells_none before now err })

done-causes : (refused : Bool) (before now : World) → now.reads ≡ before.reads → now.puts ≡ before.puts → now.outs ≡ before.outs
    → HasCauses before now (ready_status refused)
done-causes false before now reads puts outs = quiet-causes before now Done reads puts outs (λ e. cc) (λ e. cc)
done-causes true before now reads puts outs = quiet-causes before now Refused reads puts outs (λ e. cc) (λ e. cc)

-- the run is done, or refused behind its last put
pub done-ends : (IsOne : FileMap → Answer → Type 0) (refused : Bool) (text : List ℕ) (edits : List Edit) (before now : World) → AreAlike IsOne
    → IfSome before.held (λ fs. IsOne fs (answer_of (ready_status refused) text [] edits)) → IsDone edits text before now
    → now.reads ≡ before.reads → now.puts ≡ before.puts → now.outs ≡ before.outs → now.err ≡ before.err
    → Ends IsOne before now (ready_status refused)
done-ends IsOne refused text edits before now alike ready done reads puts outs err =
    let causes = done-causes refused before now reads puts outs in
    record {
      shows = if_told-map before.held _ _ ready (λ fs p. done-shows (IsOne fs) refused text edits before now p done err);
      causes = causes;
      complete = ready-complete before.held IsOne refused text edits before now (ready_status refused) alike ready
          (λ a is. complete a before now (ready_status refused) (ready_is refused a is) causes);
    }
