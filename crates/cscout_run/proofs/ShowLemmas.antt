-- What `--diff` shows of an answer, and what its steps say.
use Rattle.std.proofs.Common.{◌≡◌, ◌∙◌, ℕ, ◌+◌, ◌<◌, ◌≤◌, List, [], ◌∷◌, ◌++◌, Option, None, Some, Result, Ok, Err, drop, length, refl, ap, sym, subst, arith}
use Rattle.std.specs.Prelude.{IfErr, IfOk, OnOk, IfSome, IsErrAnd, slice_get}
use Rattle.std.specs.List.{flat_map}
use Rattle.std.specs.Option.{option_map}
use Rattle.std.proofs.lemmas.List.{append-nil, append_assoc, drop_all}
use Rattle.cs_base.specs.Edit.{Edit, with_edits}
use Rattle.cs_base.specs.Outside.{FileMap, FilesTold, ReadEnd, ReadsOnly, NoneFailed, bytes_at}
use Rattle.command_words.specs.Message.{usage_line}
use Rattle.command_words.specs.Request.{RequestValue, asked}
use Rattle.cscout_run.specs.declared.preparing.Ready.{Ready}
use Rattle.cscout_run.specs.declared.status.Status.TheVariants.{Usage}
use Rattle.cscout_run.specs.declared.stops.Stop.{Stop}
use Rattle.cscout_run.specs.declared.stops.Stop.TheVariants as stop
use Rattle.cscout_run.specs.Answer.{IsAnswer, IsRequestAnswer}
use Rattle.cscout_run.specs.Shapes.{Answer, answer_of, ready_status, stopped}
use Rattle.cscout_run.specs.Shown.{IsShown, IsShownAnswer, as_shown, diff_of, held_bytes}
use Rattle.cscout_run.specs.Steps.{IsLateStop, Prepares, ready_answer, reads_of}
use Rattle.cscout_run.specs.Stopping.{Stops, stop_reads}
use Rattle.line_diff.specs.FileText.{file_text}
use Rattle.line_diff.proofs.PairLemmas.{drop-get, get-there}
use Rattle.cscout_run.proofs.AnswerLemmas.{answer-alike, answer-request, answer-usage}
use Rattle.cscout_run.proofs.RunLemmas.{if_told, if_told-map, stops-map}

-- ---- ends that are handed on

pub handed_reads : {X : Type 0} (a b : FilesTold) (end : Stop) (result : Result X Stop) → IsErrAnd result (λ e. e ≡ end) → ReadsOnly a b (stop_reads end)
    → ReadsOnly a b (reads_of result)
handed_reads a b end (Ok x) same reads = absurd same
handed_reads a b end (Err e) same reads = subst (λ (s : Stop). ReadsOnly a b (stop_reads s)) (sym same) reads

pub handed_late : {X : Type 0} (end : Stop) (result : Result X Stop) → IsErrAnd result (λ e. e ≡ end) → IsLateStop end → IfErr result IsLateStop
handed_late end (Ok x) same late = absurd same
handed_late end (Err e) same late = subst (λ (s : Stop). IsLateStop s) (sym same) late

pub handed_none : {X : Type 0} (end : Stop) (result : Result X Stop) (P : X → Type 0) → IsErrAnd result (λ e. e ≡ end) → IfOk result P
handed_none end (Ok x) P same = absurd same
handed_none end (Err e) P same = tt

pub handed_done : {X : Type 0} (told : Option FileMap) (end : Stop) (result : Result X Stop) (P : FileMap → Type 0)
    → IsErrAnd result (λ e. e ≡ end) → IfSome told (λ fs. OnOk result (P fs))
handed_done told end (Ok x) P same = absurd same
handed_done told end (Err s) P same = if_told told _ (λ fs. tt)

pub handed_edit : {X : Type 0} (told : Option FileMap) (o : Option Edit) (end : Stop) (result : Result X Stop) (P : FileMap → Edit → Type 0)
    → IsErrAnd result (λ e. e ≡ end) → IfSome told (λ fs. IfSome o (λ e. OnOk result (P fs e)))
handed_edit told o end (Ok x) P same = absurd same
handed_edit told o end (Err s) P same = if_told told _ (λ fs. if_told o _ (λ e. tt))

-- ---- shown answers

-- any two have one status
pub shown-alike : (words : List (List ℕ)) (fs : FileMap) (a b : Answer) → IsShownAnswer words fs a → IsShownAnswer words fs b → a.status ≡ b.status
shown-alike words fs a b p q =
    sym (ap (λ (c : Answer). c.status) p.2) ∙ answer-alike words fs p.0 q.0 p.1 q.1 ∙ ap (λ (c : Answer). c.status) q.2

-- words of no form
pub shown-usage : (words : List (List ℕ)) (fs : FileMap) → asked words ≡ None → IsShownAnswer words fs (stopped Usage usage_line)
shown-usage words fs none = (stopped Usage usage_line, answer-usage words fs none, refl)

-- ---- early ends

-- the message of an early end is shown as it is
pub shown-stops : (fs : FileMap) (IsOne : Answer → Type 0) (ws : List ℕ) (end : Stop) → Stops ws IsOne end → Stops ws (IsShown fs IsOne) end
shown-stops fs IsOne ws (stop.Workspace fault) p = (_, p, refl)
shown-stops fs IsOne ws (stop.Unread path) p = tt
shown-stops fs IsOne ws (stop.Refused why) p = (_, p, refl)
shown-stops fs IsOne ws stop.Memory p = tt

-- what is prepared where nothing stands ready
pub shown-handed : (o : Option FileMap) (IsOne : FileMap → Answer → Type 0) (ws : List ℕ) (end : Stop) (result : Result Ready Stop)
    → IsErrAnd result (λ e. e ≡ end) → IfSome o (λ fs. Prepares ws (IsOne fs) (Err end)) → IfSome o (λ fs. Prepares ws (IsShown fs (IsOne fs)) result)
shown-handed o IsOne ws end (Ok ready) same p = absurd same
shown-handed o IsOne ws end (Err e) same p =
    if_told-map o _ _ p (λ fs q. subst (λ (s : Stop). Stops ws (IsShown fs (IsOne fs)) s) (sym same) (shown-stops fs (IsOne fs) ws end q))

-- the message of the early end is an answer to the words
pub shown-stop : (o : Option FileMap) (words : List (List ℕ)) (request : RequestValue) (ws : List ℕ) (end : Stop) → asked words ≡ Some request
    → IfSome o (λ fs. Prepares ws (IsShown fs (IsRequestAnswer fs request)) (Err end)) → IfSome o (λ fs. Stops ws (IsShownAnswer words fs) end)
shown-stop o words request ws end some p =
    if_told-map o _ _ p
    (λ fs q. stops-map ws (IsShown fs (IsRequestAnswer fs request)) (IsShownAnswer words fs) end
    (λ a h. (h.0, answer-request words fs request h.0 some h.1, h.2)) q)

-- ---- what stands ready

-- what stands ready is an answer to the words
pub shown-ready : (o : Option FileMap) (words : List (List ℕ)) (request : RequestValue) (ws : List ℕ) (ready : Ready) → asked words ≡ Some request
    → ready.edits ≡ [] → IfSome o (λ fs. Prepares ws (IsShown fs (IsRequestAnswer fs request)) (Ok ready))
    → IfSome o (λ fs. IsShownAnswer words fs (answer_of (ready_status ready.refused) ready.text.items [] []))
shown-ready o words request ws ready some none p =
    if_told-map o _ _ p
    (λ fs h. (
      h.0,
      answer-request words fs request h.0 some h.1,
      h.2 ∙ ap (λ (edits : List Edit). answer_of (ready_status ready.refused) ready.text.items [] edits) none,
    ))

-- a late end says nothing of the answer
late-stops : (ws : List ℕ) (IsOne : Answer → Type 0) (end : Stop) → IsLateStop end → Stops ws IsOne end
late-stops ws IsOne (stop.Workspace fault) late = absurd late
late-stops ws IsOne (stop.Unread path) late = tt
late-stops ws IsOne (stop.Refused why) late = absurd late
late-stops ws IsOne stop.Memory late = tt

-- what is shown of what stood ready
shown-of : (fs : FileMap) (IsOne : Answer → Type 0) (ready shown : Ready) → IsOne (ready_answer ready)
    → shown.text.items ≡ ready.text.items ++ flat_map (diff_of fs) ready.edits → shown.edits ≡ [] → shown.refused ≡ ready.refused
    → IsShown fs IsOne (ready_answer shown)
shown-of fs IsOne ready shown is text none refused = (
  ready_answer ready,
  is,
  ap (λ (t : List ℕ). answer_of (ready_status ready.refused) t [] []) (sym text)
      ∙ ap (λ (r : _). answer_of (ready_status r) shown.text.items [] []) (sym refused)
      ∙ ap (λ (edits : List Edit). answer_of (ready_status shown.refused) shown.text.items [] edits) (sym none),
)

-- the same of a result
shown-there : (o : Option FileMap) (IsOne : FileMap → Answer → Type 0) (ws : List ℕ) (ready : Ready) (result : Result Ready Stop)
    → IfSome o (λ fs. Prepares ws (IsOne fs) (Ok ready))
    → IfSome o (λ fs. IfOk result (λ shown. shown.text.items ≡ ready.text.items ++ flat_map (diff_of fs) ready.edits))
    → IfOk result (λ shown. shown.edits ≡ []) → IfOk result (λ shown. shown.refused ≡ ready.refused) → IfErr result IsLateStop
    → IfSome o (λ fs. Prepares ws (IsShown fs (IsOne fs)) result)
shown-there None IsOne ws ready result p text none refused late = tt
shown-there (Some fs) IsOne ws ready (Ok shown) p text none refused late = shown-of fs (IsOne fs) ready shown p text none refused
shown-there (Some fs) IsOne ws ready (Err end) p text none refused late = late-stops ws (IsShown fs (IsOne fs)) end late

-- the same of a result, with what the files held between
pub shown-prepared : (o mid : Option FileMap) (IsOne : FileMap → Answer → Type 0) (ws : List ℕ) (ready : Ready) (result : Result Ready Stop) → mid ≡ o
    → IfSome o (λ fs. Prepares ws (IsOne fs) (Ok ready))
    → IfSome mid (λ fs. IfOk result (λ shown. shown.text.items ≡ ready.text.items ++ flat_map (diff_of fs) ready.edits))
    → IfOk result (λ shown. shown.edits ≡ []) → IfOk result (λ shown. shown.refused ≡ ready.refused) → IfErr result IsLateStop
    → IfSome o (λ fs. Prepares ws (IsShown fs (IsOne fs)) result)
shown-prepared o mid IsOne ws ready result same p text none refused late =
    shown-there o IsOne ws ready result p
    (subst (λ (held : Option FileMap). IfSome held (λ fs. IfOk result (λ shown. shown.text.items ≡ ready.text.items ++ flat_map (diff_of fs) ready.edits)))
    same text)
    none refused late

-- ---- the diffs of edits

-- reads behind others of which none failed
pub reads_on : (a b d : FilesTold) (ended : ReadEnd) → ReadsOnly a b NoneFailed → ReadsOnly b d ended → ReadsOnly a d ended
reads_on a b d ended first next = subst (λ (x : FilesTold). ReadsOnly x d ended) first.told next

-- want of memory behind reads of which none failed
pub handed_memory : {X : Type 0} (a b : FilesTold) (result : Result X Stop) → IsErrAnd result (λ e. e ≡ stop.Memory) → ReadsOnly a b NoneFailed
    → ReadsOnly a b (reads_of result)
handed_memory a b result same reads =
    handed_reads a b stop.Memory result same record { held = reads.held; grows = reads.grows; apart = reads.apart; told = reads.grows }

-- the text of the diffs, with one more
pub diffs-more : (o : Option FileMap) (edits : List Edit) (k : ℕ) (start before now : List ℕ) → k < length edits
    → IfSome o (λ fs. before ++ flat_map (diff_of fs) (drop k edits) ≡ start ++ flat_map (diff_of fs) edits)
    → IfSome o (λ fs. IfSome (slice_get edits k) (λ e. now ≡ before ++ diff_of fs e))
    → IfSome o (λ fs. now ++ flat_map (diff_of fs) (drop (k + 1) edits) ≡ start ++ flat_map (diff_of fs) edits)
diffs-more None edits k start before now within all one = tt
diffs-more (Some fs) edits k start before now within all one =
    let there = get-there edits k within in
    let e = there.0 in
    let told : now ≡ before ++ diff_of fs e = rw there.1 at one in
    let left : flat_map (diff_of fs) (drop k edits) ≡ diff_of fs e ++ flat_map (diff_of fs) (drop (k + 1) edits) =
    ap (λ (es : List Edit). flat_map (diff_of fs) es) (drop-get edits k e there.1) in
    ap (λ (t : List ℕ). t ++ flat_map (diff_of fs) (drop (k + 1) edits)) told
    ∙ append_assoc before (diff_of fs e) (flat_map (diff_of fs) (drop (k + 1) edits))
    ∙ ap (λ (t : List ℕ). before ++ t) (sym left) ∙ all

-- the diff of one edit, by what its path holds
diff-there : (fs : FileMap) (o : Option Edit) (read path old bytes before now : List ℕ) → IfSome o (λ e. read ≡ e.path) → IfSome o (λ e. path ≡ e.path)
    → IfSome o (λ e. bytes ≡ e.bytes) → old ≡ held_bytes (bytes_at read fs) → now ≡ before ++ file_text path old bytes
    → IfSome o (λ e. now ≡ before ++ diff_of fs e)
diff-there fs None read path old bytes before now read_is path_is bytes_is old_is now_is = tt
diff-there fs (Some e) read path old bytes before now read_is path_is bytes_is old_is now_is =
    now_is
    ∙ ap (λ (p : List ℕ). before ++ file_text p old bytes) path_is
    ∙ ap (λ (b : List ℕ). before ++ file_text e.path old b) bytes_is
    ∙ ap (λ (t : List ℕ). before ++ file_text e.path t e.bytes) (old_is ∙ ap (λ (p : List ℕ). held_bytes (bytes_at p fs)) read_is)

pub diff-pushed : (told : Option FileMap) (o : Option Edit) (read path old bytes before now : List ℕ) → IfSome o (λ e. read ≡ e.path)
    → IfSome o (λ e. path ≡ e.path) → IfSome o (λ e. bytes ≡ e.bytes) → IfSome told (λ fs. old ≡ held_bytes (bytes_at read fs))
    → now ≡ before ++ file_text path old bytes → IfSome told (λ fs. IfSome o (λ e. now ≡ before ++ diff_of fs e))
diff-pushed told o read path old bytes before now read_is path_is bytes_is old_is now_is =
    if_told-map told _ _ old_is (λ fs old_there. diff-there fs o read path old bytes before now read_is path_is bytes_is old_there now_is)

-- what is said of a value, where an end is handed on
pub handed_text : {X : Type 0} (told : Option FileMap) (end : Stop) (result : Result X Stop) (P : FileMap → X → Type 0) → IsErrAnd result (λ e. e ≡ end)
    → IfSome told (λ fs. IfOk result (λ x. P fs x))
handed_text told end result P same = if_told told (λ fs. IfOk result (λ x. P fs x)) (λ fs. handed_none end result (λ x. P fs x) same)

-- ---- the loop over the edits

pub reads-none : (a : FilesTold) → ReadsOnly a a NoneFailed
reads-none a = record { held = refl; grows = omega arith; apart = refl; told = refl }

pub diffs-none : (o : Option FileMap) (text : List ℕ) (edits : List Edit)
    → IfSome o (λ fs. text ++ flat_map (diff_of fs) (drop 0 edits) ≡ text ++ flat_map (diff_of fs) edits)
diffs-none o text edits = if_told o _ (λ fs. refl)

pub diffs-all : (o : Option FileMap) (edits : List Edit) (k : ℕ) (start now : List ℕ) → length edits ≤ k
    → IfSome o (λ fs. now ++ flat_map (diff_of fs) (drop k edits) ≡ start ++ flat_map (diff_of fs) edits)
    → IfSome o (λ fs. now ≡ start ++ flat_map (diff_of fs) edits)
diffs-all o edits k start now past all =
    if_told-map o _ _ all
    (λ fs left. sym (append-nil now) ∙ ap (λ (es : List Edit). now ++ flat_map (diff_of fs) es) (sym (drop_all k edits past)) ∙ left)

-- the files hold what they held
pub same-held : (a b : FilesTold) (P : FileMap → Type 0) → ReadsOnly a b NoneFailed → IfSome b.held P → IfSome a.held P
same-held a b P reads p = subst (λ (held : Option FileMap). IfSome held P) reads.held p
