-- What each end of a run says of the answer and of the outside.
use Rattle.std.proofs.Common.{◌≡◌, ℕ, ◌<◌, zero, suc, false, true, Bool, List, [], ◌∷◌, ◌++◌, Option, None, Some, Result, Ok, Err, refl, ap, sym, subst, ◌∙◌, inl, inr, ⊎_elim, length, arith}
use Rattle.std.specs.Prelude.{IfOk, IfSome, slice_get}
use Rattle.std.specs.Option.{option_map}
use Rattle.std.proofs.lemmas.List.{append-nil}
use Rattle.cs_base.specs.Edit.{Edit, with_edits}
use Rattle.cs_base.specs.Outside.{FileMap, FilesTold, TellsReads, Rose}
use Rattle.edited_files.specs.Applying.{Applies}
use Rattle.edited_files.specs.declared.applying.Applied.TheVariants as applied
use Rattle.command_words.specs.Request.{RequestValue, asked}
use Rattle.cscout_run.specs.declared.preparing.Ready.{Ready}
use Rattle.cscout_run.specs.declared.status.Status.{Status}
use Rattle.cscout_run.specs.declared.status.Status.TheVariants.{Done, Refused, Usage, Workspace, ReadFault, WriteFault, Memory}
use Rattle.cscout_run.specs.declared.stops.Stop.{Stop}
use Rattle.cscout_run.specs.declared.stops.Stop.TheVariants as stop
use Rattle.cscout_run.specs.Answer.{IsAnswer, IsRequestAnswer}
use Rattle.cscout_run.specs.Outcome.{World, told_in, GoesOn, StatusIs, HasCauses, IsComplete, IsDone, NoneRose, ShowsAnswer, Tells, FailedPut, Unmoved}
use Rattle.cscout_run.specs.Shapes.{Answer, answer_of, ready_status}
use Rattle.cscout_run.specs.Steps.{Prepares}
use Rattle.cscout_run.specs.Stopping.{Stops, stop_reads, status_of, line_of}
use Rattle.cscout_run.proofs.AnswerLemmas.{answer-request}

-- what holds of every value holds of one that is told
pub if_told : {A : Type 0} (o : Option A) (P : A → Type 0) → ((x : A) → P x) → IfSome o P
if_told None P always = tt
if_told (Some x) P always = always x

-- what follows of every value follows of one that is told
pub if_told-map : {A : Type 0} (o : Option A) (P Q : A → Type 0) → IfSome o P → ((x : A) → P x → Q x) → IfSome o Q
if_told-map None P Q p follows = tt
if_told-map (Some x) P Q p follows = follows x p

-- and so for what a result has, if it has something
pub if_told-ok : {A X E : Type 0} (o : Option A) (r : Result X E) (P : A → X → Type 0) → ((a : A) (x : X) → P a x) → IfSome o (λ a. IfOk r (λ x. P a x))
if_told-ok None r P always = tt
if_told-ok (Some a) (Ok x) P always = always a x
if_told-ok (Some a) (Err e) P always = tt

-- ---- early ends

-- the message of the early end is what its answers are
pub stops-map : (ws : List ℕ) (P Q : Answer → Type 0) (end : Stop) → ((a : Answer) → P a → Q a) → Stops ws P end → Stops ws Q end
stops-map ws P Q (stop.Workspace fault) follows p = follows _ p
stops-map ws P Q (stop.Unread path) follows p = tt
stops-map ws P Q (stop.Refused why) follows p = follows _ p
stops-map ws P Q stop.Memory follows p = tt

-- any answer has the status of the early end
pub stop-status : (ws : List ℕ) (IsOne : Answer → Type 0) (end : Stop) (a : Answer)
    → ((b c : Answer) → IsOne b → IsOne c → b.status ≡ c.status) → Stops ws IsOne end → IsOne a → StatusIs a (status_of end)
stop-status ws IsOne (stop.Workspace fault) a alike p q = alike a _ q p
stop-status ws IsOne (stop.Unread path) a alike p q = tt
stop-status ws IsOne (stop.Refused why) a alike p q = alike a _ q p
stop-status ws IsOne stop.Memory a alike p q = tt

-- files and output stay as they were where there is nothing to put and to write
pub put_none : (held : Option FileMap) → held ≡ option_map (with_edits []) held
put_none None = refl
put_none (Some fs) = refl

pub written_none : (out : Option (List ℕ)) → out ≡ option_map (λ bytes. bytes ++ []) out
written_none None = refl
written_none (Some bytes) = ap (λ (bs : List ℕ). Some bs) (sym (append-nil bytes))

nothing_done : (before now : World) → Unmoved before now → IsDone [] [] before now
nothing_done before now unmoved = record { held = unmoved.held ∙ put_none before.held; out = unmoved.out ∙ written_none before.out }

-- the early end shows its answer
pub stop-shows : (ws : List ℕ) (IsOne : Answer → Type 0) (end : Stop) (before now : World) → Stops ws IsOne end → Unmoved before now
    → Tells (line_of ws end) before now → TellsReads (told_in before) (told_in now) (stop_reads end) → ShowsAnswer IsOne before now (status_of end)
stop-shows ws IsOne (stop.Workspace fault) before now p unmoved told reads = (_, p, record { status = refl; leaves = unmoved; says = told })
stop-shows ws IsOne (stop.Unread path) before now p unmoved told reads = λ a. record { status = tt; leaves = unmoved; says = (path, told, reads.1) }
stop-shows ws IsOne (stop.Refused why) before now p unmoved told reads = (_, p, record { status = refl; leaves = nothing_done before now unmoved; says = told })
stop-shows ws IsOne stop.Memory before now p unmoved told reads = λ a. record { status = tt; leaves = unmoved; says = told }

-- an answer has one status
apart : (s t : Status) (a : Answer) → a.status ≡ s → a.status ≡ t → (s ≡ t → ⊥) → ⊥
apart s t a is is' differ = differ (sym is ∙ is')

-- a write that failed made a count rise
write-rose : (before now : World) → HasCauses before now WriteFault → NoneRose before now → ⊥
write-rose before now causes none = ⊎_elim (λ p. none.puts p) (λ p. none.outs p) (causes.write refl)

pub write-complete : (a : Answer) (before now : World) → HasCauses before now WriteFault → IsComplete a before now WriteFault
write-complete a before now causes = record {
  done = λ is none. absurd (write-rose before now causes none);
  refused = λ is none. absurd (write-rose before now causes none);
}

-- the status of a run is that of its answer, unless a count rose or memory ran out
pub complete : (a : Answer) (before now : World) (status : Status) → StatusIs a status → HasCauses before now status
    → IsComplete a before now status
complete a before now Done s causes = record { done = λ is none. tt; refused = λ is none. absurd (apart Done Refused a s is (λ e. cc)) }
complete a before now Refused s causes = record { done = λ is none. absurd (apart Refused Done a s is (λ e. cc)); refused = λ is none. tt }
complete a before now Memory s causes = record { done = λ is none. tt; refused = λ is none. tt }
complete a before now Usage s causes =
    record { done = λ is none. absurd (apart Usage Done a s is (λ e. cc)); refused = λ is none. absurd (apart Usage Refused a s is (λ e. cc)) }
complete a before now Workspace s causes =
    record { done = λ is none. absurd (apart Workspace Done a s is (λ e. cc)); refused = λ is none. absurd (apart Workspace Refused a s is (λ e. cc)) }
complete a before now ReadFault s causes =
    record { done = λ is none. absurd (none.reads (causes.read refl)); refused = λ is none. absurd (none.reads (causes.read refl)) }
complete a before now WriteFault s causes = write-complete a before now causes

-- the status of an answer that stands ready is that of its run
pub ready_is : (refused : Bool) (a : Answer) → a.status ≡ ready_status refused → StatusIs a (ready_status refused)
ready_is false a is = is
ready_is true a is = is

-- nothing stops it
pub goes_on : (refused : Bool) (text : List ℕ) (edits : List Edit) → GoesOn (answer_of (ready_status refused) text [] edits)
goes_on false text edits = inl refl
goes_on true text edits = inr (refl, refl)

-- what stands ready is an answer to the words
pub ready-answer : (o : Option FileMap) (words : List (List ℕ)) (request : RequestValue) (ws : List ℕ) (ready : Ready)
    → asked words ≡ Some request → IfSome o (λ fs. Prepares ws (IsRequestAnswer fs request) (Ok ready))
    → IfSome o (λ fs. IsAnswer words fs (answer_of (ready_status ready.refused) ready.text.items [] ready.edits))
ready-answer o words request ws ready some p = if_told-map o _ _ p (λ fs is. answer-request words fs request _ some is)

-- the message of the early end is an answer to the words
pub stop-answer : (o : Option FileMap) (words : List (List ℕ)) (request : RequestValue) (ws : List ℕ) (end : Stop)
    → asked words ≡ Some request → IfSome o (λ fs. Prepares ws (IsRequestAnswer fs request) (Err end))
    → IfSome o (λ fs. Stops ws (IsAnswer words fs) end)
stop-answer o words request ws end some p =
    if_told-map o _ _ p (λ fs is. stops-map ws (IsRequestAnswer fs request) (IsAnswer words fs) end (λ a h. answer-request words fs request a some h) is)

-- no count rose
pub quiet-causes : (before now : World) (status : Status) → now.reads ≡ before.reads → now.puts ≡ before.puts
    → now.outs ≡ before.outs → (status ≡ ReadFault → ⊥) → (status ≡ WriteFault → ⊥) → HasCauses before now status
quiet-causes before now status reads puts outs no_read no_write = record {
  read = λ e. absurd (no_read e);
  reads_stay = λ _. reads;
  write = λ e. absurd (no_write e);
  puts_stay = λ _. puts;
  outs_stay = λ _. outs;
}

-- the count of the reads rose
pub read-causes : (before now : World) → Rose before.reads now.reads → now.puts ≡ before.puts
    → now.outs ≡ before.outs → HasCauses before now ReadFault
read-causes before now rose puts outs = record {
  read = λ _. rose;
  reads_stay = λ e. cc;
  write = λ e. cc;
  puts_stay = λ _. puts;
  outs_stay = λ _. outs;
}

-- the reads are not told where memory ran out
pub memory-causes : (before now : World) → now.puts ≡ before.puts → now.outs ≡ before.outs → HasCauses before now Memory
memory-causes before now puts outs = record {
  read = λ e. cc;
  reads_stay = λ e. cc;
  write = λ e. cc;
  puts_stay = λ _. puts;
  outs_stay = λ _. outs;
}

reads_stay : (before now : World) → told_in now ≡ told_in before → now.reads ≡ before.reads
reads_stay before now same = ap (λ (o : FilesTold). o.reads) same

-- the counts of an early end
pub stop-causes : (end : Stop) (before now : World) → TellsReads (told_in before) (told_in now) (stop_reads end)
    → now.puts ≡ before.puts → now.outs ≡ before.outs → HasCauses before now (status_of end)
stop-causes (stop.Workspace fault) before now reads puts outs = quiet-causes before now Workspace (reads_stay before now reads) puts outs (λ e. cc) (λ e. cc)
stop-causes (stop.Unread path) before now reads puts outs = read-causes before now reads.0 puts outs
stop-causes (stop.Refused why) before now reads puts outs = quiet-causes before now Refused (reads_stay before now reads) puts outs (λ e. cc) (λ e. cc)
stop-causes stop.Memory before now reads puts outs = memory-causes before now puts outs

-- a put that failed
pub failed_put : (edits : List Edit) (n : ℕ) (before now : World) (held : Option FileMap) (puts : ℕ) → held ≡ before.held
    → puts ≡ before.puts → Applies edits held now.held (applied.Failed n) → Rose puts now.puts
    → IfSome now.last (λ path. IfSome (slice_get edits n) (λ e. path ≡ e.path)) → now.out ≡ before.out → now.outs ≡ before.outs
    → FailedPut edits n before now
failed_put edits n before now held puts same same' applies rose last out outs =
    let P : Option FileMap → Type 0 = λ h. Applies edits h now.held (applied.Failed n) in
    let applied' = subst P same applies in
    let Q : ℕ → Type 0 = λ p. Rose p now.puts in
    record {
      within = applied'.0;
      held = applied'.1;
      out = out;
      outs = outs;
      rose = subst Q same' rose;
      last = last;
    }

-- the path of an edit is that of the last failed put, where it is told
path-same : (edits : List Edit) (n : ℕ) (path last : List ℕ) → n < length edits → IfSome (slice_get edits n) (λ e. path ≡ e.path)
    → IfSome (slice_get edits n) (λ e. last ≡ e.path) → last ≡ path
path-same [] n path last within p l = absurd (omega arith)
path-same (e ∷ es) zero path last within p l = l ∙ sym p
path-same (e ∷ es) (suc n) path last within p l =
    let within' : n < length es = omega arith in
    path-same es n path last within' p l

pub path-last : (edits : List Edit) (n : ℕ) (path : List ℕ) (last : Option (List ℕ)) → n < length edits
    → IfSome (slice_get edits n) (λ e. path ≡ e.path) → IfSome last (λ l. IfSome (slice_get edits n) (λ e. l ≡ e.path))
    → IfSome last (λ l. l ≡ path)
path-last edits n path None within p l = tt
path-last edits n path (Some last) within p l = path-same edits n path last within p l

-- the counts where a put failed
pub put-causes : (before now : World) → now.reads ≡ before.reads → Rose before.puts now.puts → HasCauses before now WriteFault
put-causes before now reads rose = record {
  read = λ e. cc;
  reads_stay = λ _. reads;
  write = λ _. inl rose;
  puts_stay = λ e. cc;
  outs_stay = λ e. cc;
}

-- no early end is done
pub stop-not_done : (end : Stop) → status_of end ≡ Done → ⊥
stop-not_done (stop.Workspace fault) e = cc
stop-not_done (stop.Unread path) e = cc
stop-not_done (stop.Refused why) e = cc
stop-not_done stop.Memory e = cc
