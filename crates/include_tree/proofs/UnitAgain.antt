-- A unit once more, over a table that has grown.
use Rattle.std.proofs.Common.{◌≡◌, ℕ, ◌+◌, ◌-◌, ◌≤◌, List, [], ◌++◌, length, Option, Some, Result, Ok, Err, sym, ◌∙◌, ap, subst, arith}
use Rattle.cs_base.specs.Token.{Token}
use Rattle.cs_base.specs.Units.{UnitValue, defines_of}
use Rattle.cs_base.specs.declared.ws_units.Setting.{Setting}
use Rattle.source_files.specs.Below.lexer.FileText.{file_text}
use Rattle.source_files.specs.Limits.{the_limits}
use Rattle.source_files.specs.Files.{Source, Table, Carried, carried, asked, made_path}
use Rattle.source_files.specs.Faults.{Fault, first_place}
use Rattle.source_files.specs.Tables.{IsGrown}
use Rattle.source_files.proofs.TableLemmas.{grown_trans, widens_asked}
use Rattle.unit_steps.specs.State.{Context, context, State, Outcome, only, onward}
use Rattle.unit_steps.specs.Expanding.{most_toks}
use Rattle.unit_steps.specs.Texts.{unit_text}
use Rattle.include_tree.specs.OpeningStep.{open_file}
use Rattle.include_tree.specs.Walk.{file_items}
use Rattle.include_tree.specs.Unit.{path_or_own, pseudo_path, table_or_more, first_state, outer_file, main_file, both_files, unit_outcome}
use Rattle.include_tree.specs.Preprocessed.{Preprocessed, with_text, preprocessed_by, preprocessed}
use Rattle.include_tree.specs.Laws.{IfDone}
use Rattle.include_tree.specs.Again.{UnitGivesTheSameAgain}
use Rattle.include_tree.proofs.StepLemmas.{PutsOut}
use Rattle.include_tree.proofs.WalkLemmas.{both_files_lead}
use Rattle.include_tree.proofs.SharedLemmas.{made_grown, begun}
use Rattle.include_tree.proofs.AgainTables.{asked_again}
use Rattle.include_tree.proofs.AgainLemmas.{Again, other, same, onward_again, open_again, files_again}

module _ (ctx : Context) (source : Source) (project path : List ℕ) (settings : List Setting) (includes : List (List ℕ)) (earlier : ℕ) (later : Table) where
  abbrev next : Context
  next = other ctx source project path settings includes earlier later

  abbrev later_state : State → State
  later_state s = record s { table = later }

  abbrev Gives : State → Outcome (List Token) → Outcome (List Token) → Type 0
  Gives s m n = Again ctx source project path settings includes earlier later s m n

  outer_again : (name : List ℕ) (s : State) → Gives s (outer_file ctx name s) (outer_file next name (later_state s))
  outer_again name s =
      onward_again ctx source project path settings includes earlier later s (open_file ctx (first_place name) name s) (open_file next (first_place name) name (later_state s))
      (file_items ctx (ctx.limits.open_files - 1)) (file_items next (ctx.limits.open_files - 1))
      (open_again ctx source project path settings includes earlier later (first_place name) name s)
      (λ f t. files_again ctx source project path settings includes earlier later (ctx.limits.open_files - 1) f t)

  main_then : (name : List ℕ) (s : State) (m : Outcome (List Token))
      → Gives (record s { table = asked ctx.source name s.table }) m (outer_file next name (later_state s)) → Gives s m (main_file next name (later_state s))
  main_then name s (Ok d) h = (
    (grown_trans s.table (asked ctx.source name s.table) d.state.table (widens_asked ctx.source name s.table).grown h.0.0, h.0.1),
    λ g few.
        ap (λ (t : Table). outer_file next name (record s { table = t }))
        (asked_again ctx.source source name s.table later (grown_trans (asked ctx.source name s.table) d.state.table later h.0.0 g)) ∙ h.1 g few,
  )
  main_then name s (Err found) h = tt

  main_again : (name : List ℕ) (s : State) → Gives s (main_file ctx name s) (main_file next name (later_state s))
  main_again name s = main_then name s (main_file ctx name s) (outer_again name (record s { table = asked ctx.source name s.table }))

  both_again : (defines name : List ℕ) (s : State) → Gives s (both_files ctx defines name s) (both_files next defines name (later_state s))
  both_again defines name s =
      onward_again ctx source project path settings includes earlier later s (outer_file ctx defines s) (outer_file next defines (later_state s))
      (λ toks t. onward (main_file ctx name t) (λ more u. only (toks ++ more) u)) (λ toks t. onward (main_file next name t) (λ more u. only (toks ++ more) u)) (outer_again defines s)
      (λ toks t. onward_again ctx source project path settings includes earlier later t (main_file ctx name t) (main_file next name (later_state t)) (λ more u. only (toks ++ more) u) (λ more u. only (toks ++ more) u)
      (main_again name t) (λ more u. same ctx source project path settings includes earlier later (toks ++ more) [] u))

-- ---- a unit

done_same : (a b : Preprocessed) → ◌≡◌ {A = Result Preprocessed Fault} (Ok a) (Ok b) → a ≡ b
done_same a b h = cc

-- what an outcome gives, another one gives too
module _ (source other_source : Source) (number later_number earlier : ℕ) (unit : UnitValue) (before : Carried) (p : Preprocessed) (later : Table)
    (less : earlier ≤ before.toks) where
  abbrev first_context : Context
  first_context = context source file_text unit the_limits before.toks

  abbrev later_context : Context
  later_context = context other_source file_text unit the_limits earlier

  abbrev first : State
  first = first_state the_limits number unit before.table

  abbrev defines : List ℕ
  defines = pseudo_path number unit before.table

  by_again : (m : Outcome (List Token))
      → Again first_context other_source unit.project unit.path unit.settings unit.includes earlier later first m (both_files later_context defines unit.path (record first { table = later }))
      → IfDone (PutsOut first_context first) m → preprocessed_by before.toks m ≡ Ok p → IsGrown p.after.table later
      → IsGrown first.table later × (preprocessed_by earlier (both_files later_context defines unit.path (record first { table = later })) ≡ Ok (with_text (carried later (earlier + length p.text.toks)) p.text))
  by_again (Ok d) h leads is grown =
      let given : record { text = unit_text d.value d.notes; after = carried d.state.table (before.toks + length d.value) } ≡ p = done_same _ p is in
      let up : IsGrown d.state.table later = subst (λ (x : Preprocessed). IsGrown x.after.table later) (sym given) grown in
      let within : d.state.before ≤ most_toks first_context = leads.few (omega arith) in
      let few : d.state.before ≤ most_toks later_context = omega (arith, within, less) in (
        grown_trans first.table d.state.table later h.0.0 up,
        ap (preprocessed_by earlier) (h.1 up few) ∙ ap (λ (x : Preprocessed). Ok (with_text (carried later (earlier + length x.text.toks)) x.text)) given,
      )
  by_again (Err found) h leads is grown = absurd (cc)

  again : preprocessed source number unit before ≡ Ok p → IsGrown p.after.table later
      → preprocessed other_source later_number unit (carried later earlier) ≡ Ok (with_text (carried later (earlier + length p.text.toks)) p.text)
  unfolding preprocessed
  again is grown =
      let both = by_again (unit_outcome the_limits file_text source number unit before)
      (both_again first_context other_source unit.project unit.path unit.settings unit.includes earlier later defines unit.path first)
      (both_files_lead first_context defines unit.path first) is grown in
      let made : made_path (defines_of unit) later ≡ Some defines = made_grown (defines_of unit) defines first.table later both.0 (begun number unit before.table) in
      ap (λ (found : Option (List ℕ)).
      preprocessed_by earlier (both_files later_context (path_or_own found later_number) unit.path (record first { table = table_or_more found later_number unit later }))) made
      ∙ both.1

pub unit_gives_the_same_again : UnitGivesTheSameAgain
unit_gives_the_same_again = λ source other_source number later_number earlier unit before p later is grown less.
    again source other_source number later_number earlier unit before p later less is grown
