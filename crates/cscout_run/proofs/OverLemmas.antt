-- From the workspace file to the answer: what is asked over a workspace, over its units, and over its analysis.
use Rattle.std.proofs.Common.{◌≡◌, ℕ, false, zero, suc, ◌≤◌, List, [], Option, None, Some, Result, Ok, Err, length, ap, sym, subst, ◌∙◌, ⊎_elim, arith, refl}
use Rattle.std.specs.Prelude.{IfOk, IfSome, IsErrAnd, codes}
use Rattle.std.specs.Option.{option_map, option_map_or}
use Rattle.std.proofs.lemmas.Option.{slice_get_cases}
use Rattle.cs_base.specs.Answer.{Gives}
use Rattle.cs_base.specs.Edit.{IsKept}
use Rattle.cs_base.specs.Outside.{FileMap, FilesTold, NoneFailed, ReadEnd, ReadsOnly}
use Rattle.cs_base.specs.Units.{UnitValue}
use Rattle.ws_file.specs.Workspace.{WorkspaceValue}
use Rattle.ws_file.specs.Reading.{WsFault}
use Rattle.analysis.specs.Below.source_files.Files.{source_of}
use Rattle.analysis.specs.Below.unit_steps.Texts.{UnitTextValue}
use Rattle.analysis.specs.Analysis.{AnalysisValue, analysis_of}
use Rattle.analysis.specs.Texts.{TextsValue, UnitFault, unit_at, alone, one_text_of, texts_of}
use Rattle.analysis.specs.Answers.{fault_of}
use Rattle.analysis.specs.Answers as core
use Rattle.analysis.specs.declared.analyse_fault.AnalyseFault.{AnalyseFault}
use Rattle.analysis.specs.declared.analyse_fault.AnalyseFault.TheVariants as fault
use Rattle.query_report.specs.Skipped.{skipped_text}
use Rattle.query_report.specs.TokensText.{tokens_text}
use Rattle.command_words.specs.Message.{refused_line}
use Rattle.command_words.specs.Request.{AskValue, EditValue}
use Rattle.cscout_run.specs.declared.preparing.Ready.{Ready}
use Rattle.cscout_run.specs.declared.status.Status.TheVariants.{Refused}
use Rattle.cscout_run.specs.declared.stops.Stop.{Stop}
use Rattle.cscout_run.specs.declared.stops.Stop.TheVariants as stop
use Rattle.cscout_run.specs.Answer.{IsAnalysed, IsOverWorkspace, text_answer, texts_answer, unit_answer, units_answer, workspace_at}
use Rattle.cscout_run.specs.Asks.{KeepsOver}
use Rattle.cscout_run.specs.Shapes.{Answer, shown, stopped}
use Rattle.cscout_run.specs.Steps.{Answers, IsPlanned, Planned, PlannedOver, Prepares, ReadsWorkspace, Tells, no_analysis, no_workspace, ready_answer, reads_of, stop_of}
use Rattle.cscout_run.specs.Stopping.{Stops, stop_reads}
use Rattle.cscout_run.proofs.RunLemmas.{if_told, if_told-map, stops-map}

-- ---- an early end that is handed on

pub handed_on : (P : Answer → Type 0) (end : Stop) (result : Result Ready Stop) → IsErrAnd result (λ e. e ≡ end) → ((ws : List ℕ) → Stops ws P end)
    → Answers P result
handed_on P end (Ok ready) same p = absurd same
handed_on P end (Err e) same p = λ ws. subst (λ (s : Stop). Stops ws P s) (sym same) (p ws)

-- what is told of reads
pub handed_told : (a b : FilesTold) (end : Stop) (result : Result Ready Stop) → IsErrAnd result (λ e. e ≡ end) → ReadsOnly a b (stop_reads end)
    → ReadsOnly a b (reads_of result)
handed_told a b end (Ok ready) same reads = absurd same
handed_told a b end (Err e) same reads = subst (λ (s : Stop). ReadsOnly a b (stop_reads s)) (sym same) reads

-- the same over an analysis
pub handed_tells : {X : Type 0} (answer : X → Answer) (IsOne : Answer → Type 0) (end : Stop) (result : Result Ready Stop) → IsErrAnd result (λ e. e ≡ end)
    → Tells answer IsOne (Err end) → Tells ready_answer IsOne result
handed_tells answer IsOne end (Ok ready) same p = absurd same
handed_tells answer IsOne (stop.Refused why) (Err e) same p = subst (λ (s : Stop). Tells ready_answer IsOne (Err s)) (sym same) p
handed_tells answer IsOne stop.Memory (Err e) same p = subst (λ (s : Stop). Tells ready_answer IsOne (Err s)) (sym same) tt
handed_tells answer IsOne (stop.Workspace fault) (Err e) same p = absurd p
handed_tells answer IsOne (stop.Unread path) (Err e) same p = absurd p

-- reads behind others of which none failed
pub reads_then : {X : Type 0} (a b c : FilesTold) (result : Result X Stop) → ReadsOnly a b NoneFailed → ReadsOnly b c (reads_of result)
    → ReadsOnly a c (reads_of result)
reads_then a b c result first then = subst (λ (x : FilesTold). ReadsOnly x c (reads_of result)) first.told then

-- want of memory, where none of them failed
pub memory-answers : (o : Option FileMap) (IsOne : FileMap → Answer → Type 0) (result : Result Ready Stop) → IsErrAnd result (λ e. e ≡ stop.Memory)
    → IfSome o (λ fs. Answers (IsOne fs) result)
memory-answers o IsOne result same =
    if_told o (λ fs. Answers (IsOne fs) result) (λ fs. handed_on (IsOne fs) stop.Memory result same (λ ws. tt))

pub memory-reads : (a b : FilesTold) (result : Result Ready Stop) → IsErrAnd result (λ e. e ≡ stop.Memory) → ReadsOnly a b NoneFailed
    → ReadsOnly a b (reads_of result)
memory-reads a b result same reads =
    handed_told a b stop.Memory result same record { held = reads.held; grows = reads.grows; apart = reads.apart; told = reads.grows }

-- an early end behind a fault of the workspace
fault_reads : (X : Type 0) (f : AnalyseFault) → core.reads_of {X = X} (Err f) ≡ stop_reads (stop_of f)
fault_reads X (fault.WorkspaceFault unit place cause) = refl
fault_reads X (fault.ReadFault path) = refl
fault_reads X fault.Memory = refl

pub stop_told : (X : Type 0) (a b : FilesTold) (f : AnalyseFault) (end : Stop) → end ≡ stop_of f → ReadsOnly a b (core.reads_of {X = X} (Err f))
    → ReadsOnly a b (stop_reads end)
stop_told X a b f end is reads =
    subst (λ (e : Stop). ReadsOnly a b (stop_reads e)) (sym is) (subst (λ (e : ReadEnd). ReadsOnly a b e) (fault_reads X f) reads)

-- what is told over an analysis tells of no read
pub tells-reads : {X : Type 0} (answer : X → Answer) (IsOne : Answer → Type 0) (result : Result X Stop) (a b : FilesTold)
    → Tells answer IsOne result → ReadsOnly a b NoneFailed → ReadsOnly a b (reads_of result)
tells-reads answer IsOne (Ok x) a b p r = r
tells-reads answer IsOne (Err (stop.Refused why)) a b p r = r
tells-reads answer IsOne (Err stop.Memory) a b p r = record { held = r.held; grows = r.grows; apart = r.apart; told = r.grows }
tells-reads answer IsOne (Err (stop.Workspace fault)) a b p r = absurd p
tells-reads answer IsOne (Err (stop.Unread path)) a b p r = absurd p

-- ---- the workspace file

-- what is answered over the workspace is an answer
pub over_told : (o o' : Option FileMap) (ws : List ℕ) (w : WorkspaceValue) (IsNext : FileMap → WorkspaceValue → Answer → Type 0)
    (result : Result Ready Stop) → o' ≡ o → IfSome o (λ fs. ReadsWorkspace ws fs (Ok w)) → IfSome o' (λ fs. Answers (IsNext fs w) result)
    → IfSome o (λ fs. Prepares ws (IsOverWorkspace ws (IsNext fs) (workspace_at ws fs)) result)
over_told None o' ws w IsNext result same read p = tt
over_told (Some fs) o' ws w IsNext result same read p =
    let p' : Answers (IsNext fs w) result = rw same at p in
    let P : Option (Result WorkspaceValue WsFault) → Type 0 = λ r. Prepares ws (IsOverWorkspace ws (IsNext fs) r) result in
    subst P (sym read) (p' ws)

-- and what is planned over it is planned
pub planned_over : (o o' : Option FileMap) (path : List ℕ) (w : WorkspaceValue) (ask : AskValue) (result : Result Ready Stop) → o' ≡ o
    → IfSome o (λ fs. ReadsWorkspace path fs (Ok w)) → IfSome o' (λ fs. IfOk result (λ ready. IsPlanned ask w fs ready.edits))
    → IfSome o (λ fs. IfOk result (λ ready. PlannedOver path ask fs ready.edits))
planned_over None o' path w ask result same read p = tt
planned_over (Some fs) o' path w ask (Err end) same read p = tt
planned_over (Some fs) o' path w ask (Ok ready) same read p =
    let p' : IsPlanned ask w fs ready.edits = rw same at p in
    record { ws = w; workspace = read; planned = p' }

none-told : (ws : List ℕ) (IsNext : WorkspaceValue → Answer → Type 0) (read : Option (Result WorkspaceValue WsFault)) (a : Answer)
    → no_workspace ws read ≡ Some a → IsOverWorkspace ws IsNext read a
none-told ws IsNext None a is = cc
none-told ws IsNext (Some (Ok w)) a is = cc
none-told ws IsNext (Some (Err fault)) a is = cc

-- an early end where the workspace file is read
pub reading-stops : (o : Option FileMap) (ws : List ℕ) (end : Stop) (IsNext : FileMap → WorkspaceValue → Answer → Type 0) (result : Result Ready Stop)
    → IsErrAnd result (λ e. e ≡ end) → IfSome o (λ fs. ReadsWorkspace ws fs (Err end))
    → IfSome o (λ fs. Prepares ws (IsOverWorkspace ws (IsNext fs) (workspace_at ws fs)) result)
reading-stops o ws end IsNext (Ok ready) same p = absurd same
reading-stops o ws end IsNext (Err e) same p =
    if_told-map o _ _ p
    (λ fs h.
    let P : Stop → Type 0 = λ s. Stops ws (IsOverWorkspace ws (IsNext fs) (workspace_at ws fs)) s in
    subst P (sym same)
    (stops-map ws (λ a. no_workspace ws (workspace_at ws fs) ≡ Some a) (IsOverWorkspace ws (IsNext fs) (workspace_at ws fs)) end
    (λ a is. none-told ws (IsNext fs) (workspace_at ws fs) a is) h))

-- ---- a unit, and all units

-- the text of a report is its answer
pub shows : (ready : Ready) (text : List ℕ) → ready.text.items ≡ text → ready.edits ≡ [] → ready.refused ≡ false → shown text ≡ ready_answer ready
shows ready text is edits refused = rw (is, edits, refused) refl

unit_at-some : (units : List UnitValue) (n : ℕ) → 1 ≤ n → n ≤ length units → (u : UnitValue) × (unit_at units n ≡ Some u)
unit_at-some units zero first last = absurd (omega arith)
unit_at-some units (suc n) first last =
    ⊎_elim (λ p. (p.0, p.2)) (λ p. absurd (let past : length units ≤ n = p.0 in omega arith)) (slice_get_cases units n).1

-- What a report on a unit says, and what the call that preprocesses it gives.
record Expects (a : Answer) (result : Result UnitTextValue AnalyseFault) : Type 0 where
  expected : Result UnitTextValue UnitFault
  answer : a ≡ text_answer expected
  gives : Gives (λ t. t) fault_of result expected

unit-expects : (unit : ℕ) (w : WorkspaceValue) (fs : FileMap) (result : Result UnitTextValue AnalyseFault) → 1 ≤ unit
    → unit ≤ length w.units → IfSome (one_text_of (source_of fs) w.units unit) (λ e. Gives (λ t. t) fault_of result e)
    → Expects (unit_answer unit fs w) result
unit-expects unit w fs result first last p =
    let u = unit_at-some w.units unit first last in
    let one : one_text_of (source_of fs) w.units unit ≡ Some (alone (source_of fs) unit u.0) = ap (option_map (alone (source_of fs) unit)) u.1 in
    let P : Option (Result UnitTextValue UnitFault) → Type 0 = λ o. IfSome o (λ e. Gives (λ t. t) fault_of result e) in
    record {
      expected = alone (source_of fs) unit u.0;
      answer = ap (λ (o : Option (Result UnitTextValue UnitFault)). option_map_or text_answer o (stopped Refused (refused_line (codes "no unit")))) one;
      gives = subst P one p;
    }

pub tokens-ok : (o : Option FileMap) (unit : ℕ) (w : WorkspaceValue) (text : UnitTextValue) (ready : Ready) → 1 ≤ unit → unit ≤ length w.units
    → IfSome o (λ fs. IfSome (one_text_of (source_of fs) w.units unit) (λ e. Gives (λ t. t) fault_of (Ok text) e))
    → shown (tokens_text text) ≡ ready_answer ready → IfSome o (λ fs. Answers (λ a. unit_answer unit fs w ≡ a) (Ok ready))
tokens-ok o unit w text ready first last p is =
    if_told-map o _ _ p (λ fs h. let x = unit-expects unit w fs (Ok text) first last h in λ ws. x.answer ∙ (ap text_answer x.gives ∙ is))

text-stops : (ws : List ℕ) (a : Answer) (f : AnalyseFault) (expected : Result UnitTextValue UnitFault) → a ≡ text_answer expected
    → IfSome (fault_of f) (λ e. expected ≡ Err e) → Stops ws (λ b. a ≡ b) (stop_of f)
text-stops ws a (fault.WorkspaceFault unit place cause) expected is same = is ∙ ap text_answer same
text-stops ws a (fault.ReadFault path) expected is same = tt
text-stops ws a fault.Memory expected is same = tt

pub tokens-stop : (o : Option FileMap) (unit : ℕ) (w : WorkspaceValue) (f : AnalyseFault) (end : Stop) → 1 ≤ unit → unit ≤ length w.units
    → end ≡ stop_of f → IfSome o (λ fs. IfSome (one_text_of (source_of fs) w.units unit) (λ e. Gives (λ t. t) fault_of (Err f) e))
    → IfSome o (λ fs. Answers (λ a. unit_answer unit fs w ≡ a) (Err end))
tokens-stop o unit w f end first last is p =
    if_told-map o _ _ p
    (λ fs h ws.
    let x = unit-expects unit w fs (Err f) first last h in
    subst (Stops ws (λ a. unit_answer unit fs w ≡ a)) (sym is) (text-stops ws (unit_answer unit fs w) f x.expected x.answer x.gives))

all-stops : (ws : List ℕ) (f : AnalyseFault) (expected : Result TextsValue UnitFault) → IfSome (fault_of f) (λ e. expected ≡ Err e)
    → Stops ws (λ a. texts_answer expected ≡ a) (stop_of f)
all-stops ws (fault.WorkspaceFault unit place cause) expected same = ap texts_answer same
all-stops ws (fault.ReadFault path) expected same = tt
all-stops ws fault.Memory expected same = tt

pub skipped-ok : (o : Option FileMap) (w : WorkspaceValue) (texts : TextsValue) (ready : Ready) → IfSome o (λ fs. texts_of (source_of fs) w.units ≡ Ok texts)
    → shown (skipped_text texts) ≡ ready_answer ready → IfSome o (λ fs. Answers (λ a. units_answer fs w ≡ a) (Ok ready))
skipped-ok o w texts ready p is = if_told-map o _ _ p (λ fs h ws. ap texts_answer h ∙ is)

pub skipped-stop : (o : Option FileMap) (w : WorkspaceValue) (f : AnalyseFault) (end : Stop) → end ≡ stop_of f
    → IfSome o (λ fs. IfSome (fault_of f) (λ e. texts_of (source_of fs) w.units ≡ Err e))
    → IfSome o (λ fs. Answers (λ a. units_answer fs w ≡ a) (Err end))
skipped-stop o w f end is p =
    if_told-map o _ _ p
    (λ fs h ws. subst (Stops ws (λ a. units_answer fs w ≡ a)) (sym is) (all-stops ws f (texts_of (source_of fs) w.units) h))

-- ---- the analysis

-- what is told over it is an answer
told-answers : (IsOne : Answer → Type 0) (result : Result Ready Stop) → Tells ready_answer IsOne result → Answers IsOne result
told-answers IsOne (Ok ready) p = λ ws. p
told-answers IsOne (Err (stop.Refused why)) p = λ ws. p
told-answers IsOne (Err stop.Memory) p = λ ws. tt
told-answers IsOne (Err (stop.Workspace fault)) p = absurd p
told-answers IsOne (Err (stop.Unread path)) p = absurd p

pub analysed-answers : (o : Option FileMap) (w : WorkspaceValue) (value : AnalysisValue) (IsNext : AnalysisValue → Answer → Type 0) (result : Result Ready Stop)
    → IfSome o (λ fs. analysis_of (source_of fs) w ≡ Ok value) → Tells ready_answer (IsNext value) result
    → IfSome o (λ fs. Answers (IsAnalysed IsNext (analysis_of (source_of fs) w)) result)
analysed-answers o w value IsNext result analysed p =
    if_told-map o _ _ analysed
    (λ fs is.
    let P : Result AnalysisValue UnitFault → Type 0 = λ r. Answers (IsAnalysed IsNext r) result in
    subst P (sym is) (told-answers (IsNext value) result p))

-- where there is none, the message says so
pub fault-stops : (ws : List ℕ) (f : AnalyseFault) (end : Stop) (analysed : Result AnalysisValue UnitFault) → end ≡ stop_of f
    → IfSome (fault_of f) (λ e. analysed ≡ Err e) → Stops ws (λ a. no_analysis analysed ≡ Some a) end
fault-stops ws f end analysed is p = subst (Stops ws (λ a. no_analysis analysed ≡ Some a)) (sym is) (for_fault f p)
  where
    for_fault : (g : AnalyseFault) → IfSome (fault_of g) (λ e. analysed ≡ Err e) → Stops ws (λ a. no_analysis analysed ≡ Some a) (stop_of g)
    for_fault (fault.WorkspaceFault unit place cause) same = ap no_analysis same
    for_fault (fault.ReadFault path) same = tt
    for_fault fault.Memory same = tt

pub none-analysed : (IsNext : AnalysisValue → Answer → Type 0) (analysed : Result AnalysisValue UnitFault) (a : Answer) → no_analysis analysed ≡ Some a
    → IsAnalysed IsNext analysed a
none-analysed IsNext (Ok value) a is = cc
none-analysed IsNext (Err fault) a is = cc

pub unanalysed : (o : Option FileMap) (w : WorkspaceValue) (IsNext : AnalysisValue → Answer → Type 0) (end : Stop) (result : Result Ready Stop)
    → IsErrAnd result (λ e. e ≡ end)
    → IfSome o (λ fs. (ws : List ℕ) → Stops ws (λ a. no_analysis (analysis_of (source_of fs) w) ≡ Some a) end)
    → IfSome o (λ fs. Answers (IsAnalysed IsNext (analysis_of (source_of fs) w)) result)
unanalysed o w IsNext end result same p =
    if_told-map o _ _ p
    (λ fs h.
    let analysed = analysis_of (source_of fs) w in
    handed_on (IsAnalysed IsNext analysed) end result same
    (λ ws. stops-map ws (λ a. no_analysis analysed ≡ Some a) (IsAnalysed IsNext analysed) end (none-analysed IsNext analysed) (h ws)))

pub fault-answers : (o : Option FileMap) (w : WorkspaceValue) (IsNext : AnalysisValue → Answer → Type 0) (f : AnalyseFault) (end : Stop) → end ≡ stop_of f
    → IfSome o (λ fs. IfSome (fault_of f) (λ e. analysis_of (source_of fs) w ≡ Err e))
    → IfSome o (λ fs. Answers (IsAnalysed IsNext (analysis_of (source_of fs) w)) (Err end))
fault-answers o w IsNext f end is p =
    if_told-map o _ _ p
    (λ fs h ws.
    let analysed = analysis_of (source_of fs) w in
    stops-map ws (λ a. no_analysis analysed ≡ Some a) (IsAnalysed IsNext analysed) end (none-analysed IsNext analysed) (fault-stops ws f end analysed is h))

-- ---- what edits keep

pub planned_told : (o : Option FileMap) (edit : EditValue) (w : WorkspaceValue) (value : AnalysisValue) (result : Result Ready Stop)
    → IfSome o (λ fs. analysis_of (source_of fs) w ≡ Ok value) → IfOk result (λ ready. KeepsOver edit value ready.edits)
    → IfOk result (λ ready. IsKept ready.edits) → IfSome o (λ fs. IfOk result (λ ready. Planned edit w fs ready.edits))
planned_told o edit w value (Err end) analysed keeps sound = if_told o _ (λ fs. tt)
planned_told o edit w value (Ok ready) analysed keeps sound =
    if_told-map o _ _ analysed (λ fs is. record { analysis = value; analysed = is; keeps = keeps; sound = sound })
