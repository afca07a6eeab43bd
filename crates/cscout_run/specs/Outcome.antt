-- How a run ends: what its status says of the answer, of the files held, of the output, of the messages
-- and of the counts of what failed.
use Rattle.std.specs.Prelude.{ℕ, ◌≡◌, ◌⊎◌, ◌+◌, ◌<◌, Bool, true, false, List, [], ◌++◌, Option, IfSome, length, take, slice_get}
use Rattle.std.specs.Option.{option_map}
use Rattle.cs_base.specs.Edit.{Edit, with_edits}
use Rattle.cs_base.specs.Outside.{FileMap, FilesTold, files_told, Rose, IsFront}
use Rattle.cscout_run.specs.declared.status.Status.{Status}
use Rattle.cscout_run.specs.declared.status.Status.TheVariants.{Done, Refused, Usage, Workspace, ReadFault, WriteFault, Memory}
use Rattle.cscout_run.specs.Shapes.{Answer}
use Rattle.command_words.specs.Telling.{Told}
use Rattle.command_words.specs.Message.{unread_line, unwritten_line, no_output_line, memory_line}

-- What is told of the outside at one moment: the files held, how many reads and puts failed, the path of
-- the last call of these that failed, and of each sink its bytes and how many writes failed.
pub record World : Type 0 where
  pub held : Option FileMap
  pub reads : ℕ
  pub puts : ℕ
  pub last : Option (List ℕ)
  pub out : Option (List ℕ)
  pub outs : ℕ
  pub err : Option (List ℕ)
  pub errs : ℕ

-- a moment at which files and sinks tell this
abbrev pub world : FilesTold → Option (List ℕ) → ℕ → Option (List ℕ) → ℕ → World
world files out outs err errs = record {
  held = files.held;
  reads = files.reads;
  puts = files.puts;
  last = files.last;
  out = out;
  outs = outs;
  err = err;
  errs = errs;
}

-- what the files tell then
abbrev pub told_in : World → FilesTold
told_in w = files_told w.held w.reads w.puts w.last

-- nothing stops the run: it would be done, or refused without a message, as a batch behind a refused line
abbrev pub GoesOn : Answer → Type 0
GoesOn a = (a.status ≡ Done) ⊎ ((a.status ≡ Refused) × (a.err ≡ []))

-- The status is that of the answer. Want of memory and a failed read may take its place, and a failed
-- put or write that of a run that nothing stops.
abbrev pub StatusIs : Answer → Status → Type 0
StatusIs a ReadFault = Unit {0}
StatusIs a Memory = Unit {0}
StatusIs a WriteFault = GoesOn a
StatusIs a Done = a.status ≡ Done
StatusIs a Refused = a.status ≡ Refused
StatusIs a Usage = a.status ≡ Usage
StatusIs a Workspace = a.status ≡ Workspace

-- the files once the first n edits are put
abbrev pub put_first : ℕ → List Edit → Option FileMap → Option FileMap
put_first n edits held = option_map (with_edits (take n edits)) held

-- a put failed: so many edits are put, the next one or not, and nothing was written to the output
pub record FailedPut (edits : List Edit) (n : ℕ) (before now : World) : Type 0 where
  pub within : n < length edits
  pub held : (now.held ≡ put_first n edits before.held) ⊎ (now.held ≡ put_first (n + 1) edits before.held)
  pub out : now.out ≡ before.out
  pub outs : now.outs ≡ before.outs
  pub rose : Rose before.puts now.puts
  pub last : IfSome now.last (λ path. IfSome (slice_get edits n) (λ e. path ≡ e.path))

-- the write to the output failed: all edits are put, and the output has a front of its text more
pub record FailedWrite (edits : List Edit) (text : List ℕ) (before now : World) : Type 0 where
  pub held : now.held ≡ option_map (with_edits edits) before.held
  pub out : (front : List ℕ) × IsFront front text × (now.out ≡ option_map (λ bytes. bytes ++ front) before.out)
  pub puts : now.puts ≡ before.puts
  pub rose : Rose before.outs now.outs

-- The files and the output: all edits and the whole text where the run is done or refused, and what is refused with a
-- message has none of them; as the failed put or write left them; and else as they were.
pub record Unmoved (before now : World) : Type 0 where
  pub held : now.held ≡ before.held
  pub out : now.out ≡ before.out

pub record IsDone (edits : List Edit) (text : List ℕ) (before now : World) : Type 0 where
  pub held : now.held ≡ option_map (with_edits edits) before.held
  pub out : now.out ≡ option_map (λ bytes. bytes ++ text) before.out

abbrev pub Leaves : Answer → World → World → Status → Type 0
Leaves a before now Done = IsDone a.edits a.out before now
Leaves a before now Refused = IsDone a.edits a.out before now
Leaves a before now WriteFault =
    ((n : ℕ) × FailedPut a.edits n before now) ⊎ FailedWrite a.edits a.out before now
Leaves a before now _ = Unmoved before now

-- the messages grew by this line, or by a front of it where a write to them failed
abbrev pub Tells : List ℕ → World → World → Type 0
Tells line before now = Told line before.err now.err before.errs now.errs

-- The line of a failed read names the last failed path, where it is told.
abbrev pub TellsRead : World → World → Type 0
TellsRead before now = (path : List ℕ) × Tells (unread_line path) before now × IfSome now.last (λ last. last ≡ path)

-- The line of a failed put names the last failed path, where it is told; that of the output comes only
-- where a write to it failed.
abbrev pub TellsWrite : World → World → Type 0
TellsWrite before now =
    ((path : List ℕ) × Tells (unwritten_line path) before now × IfSome now.last (λ last. last ≡ path) × Rose before.puts now.puts)
    ⊎ (Tells no_output_line before now × Rose before.outs now.outs)

-- The messages: nothing where the run is done, and else the line of the status; a batch with a refused line has none.
abbrev pub Says : Answer → World → World → Status → Type 0
Says a before now Done = now.err ≡ before.err
Says a before now Refused = Tells a.err before now
Says a before now Usage = Tells a.err before now
Says a before now Workspace = Tells a.err before now
Says a before now ReadFault = TellsRead before now
Says a before now WriteFault = TellsWrite before now
Says a before now Memory = Tells memory_line before now

-- the statuses after which a read may have failed
abbrev pub may_follow_read : Status → Bool
may_follow_read ReadFault = true
may_follow_read Memory = true
may_follow_read _ = false

-- the status after which a put or a write to the output may have failed
abbrev pub may_follow_write : Status → Bool
may_follow_write WriteFault = true
may_follow_write _ = false

-- The counts, told or not: a fault is answered only where its count rose, and a count that rose is answered.
pub record HasCauses (before now : World) (status : Status) : Type 0 where
  pub read : status ≡ ReadFault → Rose before.reads now.reads
  pub reads_stay : may_follow_read status ≡ false → now.reads ≡ before.reads
  pub write : status ≡ WriteFault → Rose before.puts now.puts ⊎ Rose before.outs now.outs
  pub puts_stay : may_follow_write status ≡ false → now.puts ≡ before.puts
  pub outs_stay : may_follow_write status ≡ false → now.outs ≡ before.outs

-- done, or out of memory
abbrev pub IsDoneOrMemory : Status → Type 0
IsDoneOrMemory Done = Unit {0}
IsDoneOrMemory Memory = Unit {0}
IsDoneOrMemory _ = ⊥

-- refused, or out of memory
abbrev pub IsRefusedOrMemory : Status → Type 0
IsRefusedOrMemory Refused = Unit {0}
IsRefusedOrMemory Memory = Unit {0}
IsRefusedOrMemory _ = ⊥

-- No count rose.
pub record NoneRose (before now : World) : Type 0 where
  pub reads : ¬ (Rose before.reads now.reads)
  pub puts : ¬ (Rose before.puts now.puts)
  pub outs : ¬ (Rose before.outs now.outs)

-- Where no count rose, the run is done if nothing stands against it, and refused if it is to be, unless memory ran out.
pub record IsComplete (a : Answer) (before now : World) (status : Status) : Type 0 where
  pub done : a.status ≡ Done → NoneRose before now → IsDoneOrMemory status
  pub refused : a.status ≡ Refused → NoneRose before now → IsRefusedOrMemory status

-- The end is one of this answer: its status, the files and the output, and the messages.
pub record IsEndOf (a : Answer) (before now : World) (ended : Status) : Type 0 where
  pub status : StatusIs a ended
  pub leaves : Leaves a before now ended
  pub says : Says a before now ended

-- The end is one of an answer that there is. After a failed read and without memory it is one whatever the
-- answer would be.
abbrev pub ShowsAnswer : (Answer → Type 0) → World → World → Status → Type 0
ShowsAnswer IsAnswer before now ReadFault = (a : Answer) → IsEndOf a before now ReadFault
ShowsAnswer IsAnswer before now Memory = (a : Answer) → IsEndOf a before now Memory
ShowsAnswer IsAnswer before now ended = (a : Answer) × IsAnswer a × IsEndOf a before now ended

-- How a run ends. `IsAnswer` says what is an answer over the files held before, where they are told. Where it is an
-- equation, as for `--help`, `--version`, `tokens` and `skipped`, the end is one of that answer; for the other commands,
-- which rest on classes or calls, it is one of such an answer.
pub record Ends (IsAnswer : FileMap → Answer → Type 0) (before now : World) (ended : Status) : Type 0 where
  pub shows : IfSome before.held (λ fs. ShowsAnswer (IsAnswer fs) before now ended)
  pub causes : HasCauses before now ended
  pub complete : IfSome before.held (λ fs. (a : Answer) → IsAnswer fs a → IsComplete a before now ended)
