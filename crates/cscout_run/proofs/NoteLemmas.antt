-- The note behind a run: what the steps to it say of the files held.
use Rattle.std.proofs.Common.{◌≡◌, ℕ, List, [], Option, Some, None, Result, Ok, Err, refl, sym, subst, ap, ◌∙◌}
use Rattle.std.specs.Prelude.{IfErr, IfOk, IfSome}
use Rattle.cs_base.specs.Outside.{FileMap, FilesTold, ReadsOnly}
use Rattle.analysis.specs.Below.source_files.Files.{source_of}
use Rattle.analysis.specs.Analysis.{AnalysisValue, analysis_of}
use Rattle.analysis.specs.Texts.{UnitFault}
use Rattle.ws_file.specs.Workspace.{WorkspaceValue}
use Rattle.ws_file.specs.Reading.{WsFault}
use Rattle.command_words.specs.Request.{ClassValue}
use Rattle.unnamed_places.specs.declared.steps.FailedStep.{FailedStep}
use Rattle.unnamed_places.specs.Unnamed.{IsUnnamed}
use Rattle.cscout_run.specs.declared.status.Status.{Status}
use Rattle.cscout_run.specs.declared.stops.Stop.{Stop}
use Rattle.cscout_run.specs.declared.stops.Stop.TheVariants as stop
use Rattle.cscout_run.specs.Answer.{workspace_at}
use Rattle.cscout_run.specs.Noted.{IsNote, IsPlaceNote, IsWhyIn, IsWhyOver, late, place_line}
use Rattle.cscout_run.specs.Shapes.{Answer}
use Rattle.cscout_run.specs.Steps.{IsLateStop, no_analysis, no_workspace, reads_of}
use Rattle.cscout_run.specs.Stopping.{Stops, stop_reads}
use Rattle.cscout_run.proofs.RunLemmas.{if_told, if_told-map}

-- ---- early ends

-- an early end whose message is an answer that there is only where nothing is to be said
late_found : (ws : List ℕ) (P : Answer → Type 0) (R : Option FailedStep → Type 0) (end : Stop) → ((a : Answer) → P a → R None) → Stops ws P end
    → IfOk (late end) R
late_found ws P R (stop.Workspace fault) none stops = none _ stops
late_found ws P R (stop.Unread path) none stops = tt
late_found ws P R (stop.Refused why) none stops = none _ stops
late_found ws P R stop.Memory none stops = tt

pub late_stops : (end : Stop) → IfErr (late end) IsLateStop
late_stops (stop.Workspace fault) = tt
late_stops (stop.Unread path) = tt
late_stops (stop.Refused why) = tt
late_stops stop.Memory = tt

late_same : (end : Stop) → stop_reads end ≡ reads_of (late end)
late_same (stop.Workspace fault) = refl
late_same (stop.Unread path) = refl
late_same (stop.Refused why) = refl
late_same stop.Memory = refl

pub late_reads : (a b : FilesTold) (end : Stop) (result : Result (Option FailedStep) Stop) → result ≡ late end → ReadsOnly a b (stop_reads end)
    → ReadsOnly a b (reads_of result)
late_reads a b end result is reads = subst (ReadsOnly a b) (late_same end ∙ ap (λ (r : Result (Option FailedStep) Stop). reads_of r) (sym is)) reads

pub late_ends : (end : Stop) (result : Result (Option FailedStep) Stop) → result ≡ late end → IfErr result IsLateStop
late_ends end result is = subst (λ (r : Result (Option FailedStep) Stop). IfErr r IsLateStop) (sym is) (late_stops end)

-- ---- over the files held

module _ (q : ClassValue) where
  no_ws : (ws : List ℕ) (fs : FileMap) (found : Option (Result WorkspaceValue WsFault)) (a : Answer) → no_workspace ws found ≡ Some a → IsWhyIn q fs found None
  no_ws ws fs None a is = refl
  no_ws ws fs (Some (Ok w)) a is = absurd (cc)
  no_ws ws fs (Some (Err fault)) a is = refl

  no_units : (analysed : Result AnalysisValue UnitFault) (a : Answer) → no_analysis analysed ≡ Some a → IsWhyOver q analysed None
  no_units (Ok value) a is = absurd (cc)
  no_units (Err fault) a is = refl

  pub late_in : (o : Option FileMap) (ws : List ℕ) (end : Stop) (result : Result (Option FailedStep) Stop) → result ≡ late end
      → IfSome o (λ fs. Stops ws (λ a. no_workspace ws (workspace_at ws fs) ≡ Some a) end) → IfSome o (λ fs. IfOk result (IsWhyIn q fs (workspace_at ws fs)))
  late_in o ws end result is stops =
      if_told-map o (λ fs. Stops ws (λ a. no_workspace ws (workspace_at ws fs) ≡ Some a) end) (λ fs. IfOk result (IsWhyIn q fs (workspace_at ws fs))) stops
      (λ fs s. subst (λ (r : Result (Option FailedStep) Stop). IfOk r (IsWhyIn q fs (workspace_at ws fs))) (sym is)
      (late_found ws (λ a. no_workspace ws (workspace_at ws fs) ≡ Some a) (IsWhyIn q fs (workspace_at ws fs)) end (no_ws ws fs (workspace_at ws fs)) s))

  pub late_over : (o : Option FileMap) (w : WorkspaceValue) (end : Stop) (result : Result (Option FailedStep) Stop) → result ≡ late end
      → IfSome o (λ fs. (ws : List ℕ) → Stops ws (λ a. no_analysis (analysis_of (source_of fs) w) ≡ Some a) end)
      → IfSome o (λ fs. IfOk result (IsWhyOver q (analysis_of (source_of fs) w)))
  late_over o w end result is stops =
      if_told-map o (λ fs. (ws : List ℕ) → Stops ws (λ a. no_analysis (analysis_of (source_of fs) w) ≡ Some a) end)
      (λ fs. IfOk result (IsWhyOver q (analysis_of (source_of fs) w))) stops
      (λ fs s. subst (λ (r : Result (Option FailedStep) Stop). IfOk r (IsWhyOver q (analysis_of (source_of fs) w))) (sym is)
      (late_found [] (λ a. no_analysis (analysis_of (source_of fs) w) ≡ Some a) (IsWhyOver q (analysis_of (source_of fs) w)) end
      (no_units (analysis_of (source_of fs) w)) (s [])))

  pub told_over : (o : Option FileMap) (w : WorkspaceValue) (value : AnalysisValue) (why : Option FailedStep)
      → IfSome o (λ fs. analysis_of (source_of fs) w ≡ Ok value) → IsUnnamed value q.path q.line q.column why
      → IfSome o (λ fs. IsWhyOver q (analysis_of (source_of fs) w) why)
  told_over o w value why analysed is =
      if_told-map o (λ fs. analysis_of (source_of fs) w ≡ Ok value) (λ fs. IsWhyOver q (analysis_of (source_of fs) w) why) analysed
      (λ fs same. subst (λ (r : Result AnalysisValue UnitFault). IsWhyOver q r why) (sym same) is)

  pub told_in : (o o' : Option FileMap) (ws : List ℕ) (w : WorkspaceValue) (result : Result (Option FailedStep) Stop) → o' ≡ o
      → IfSome o (λ fs. workspace_at ws fs ≡ Some (Ok w)) → IfSome o' (λ fs. IfOk result (IsWhyOver q (analysis_of (source_of fs) w)))
      → IfSome o (λ fs. IfOk result (IsWhyIn q fs (workspace_at ws fs)))
  told_in None o' ws w result same read over = tt
  told_in (Some fs) o' ws w result same read over =
      let here = subst (λ (p : Option FileMap). IfSome p (λ gs. IfOk result (IsWhyOver q (analysis_of (source_of gs) w)))) same over in
      subst (λ (found : Option (Result WorkspaceValue WsFault)). IfOk result (IsWhyIn q fs found)) (sym read) here

-- ---- lines

-- what is said of a place, told by its line or by none
pub placed : (o : Option FileMap) (ws : List ℕ) (q : ClassValue) (why : Option FailedStep) (line : List (List ℕ) → Option (List ℕ))
    → ((words : List (List ℕ)) → line words ≡ place_line q why) → IfSome o (λ fs. IsWhyIn q fs (workspace_at ws fs) why)
    → IfSome o (λ fs. (words : List (List ℕ)) → IsPlaceNote ws fs (Some q) (line words))
placed o ws q why line same found =
    if_told-map o (λ fs. IsWhyIn q fs (workspace_at ws fs) why) (λ fs. (words : List (List ℕ)) → IsPlaceNote ws fs (Some q) (line words)) found
    (λ fs is words. (why, is, same words))

-- the note behind an end of this kind
pub noted : (o : Option FileMap) (words : List (List ℕ)) (ended other : Status) (line : Option (List ℕ)) → ended ≡ other
    → ((fs : FileMap) → IsNote words fs other line) → IfSome o (λ fs. IsNote words fs ended line)
noted o words ended other line same always =
    if_told o (λ fs. IsNote words fs ended line) (λ fs. subst (λ (s : Status). IsNote words fs s line) (sym same) (always fs))
