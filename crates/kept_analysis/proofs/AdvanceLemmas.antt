-- What an analysis that goes on with its files asks, and what it gives.
use Rattle.std.proofs.Common.{◌≡◌, ℕ, ◌<◌, List, true, length, map, None, Some, slice_get, sym, ap, subst, ◌∙◌, arith}
use Rattle.std.specs.Prelude.{IfOk, Result, Ok, Err}
use Rattle.std.proofs.lemmas.Option.{slice_get_within, same_Some}
use Rattle.cs_base.specs.declared.positions.Part.{Part}
use Rattle.eclass_map.specs.ClassTable.{Table, HasParts, class_in, members_of}
use Rattle.eclass_map.specs.Resized.{Resizes}
use Rattle.renamed.specs.Renamed.{renaming_of}
use Rattle.analysis.specs.Changed.{Renaming, renamed_analysis, renamed_unit_analysis}
use Rattle.include_tree.specs.Below.source_files.Files.{Table as Files}
use Rattle.ws_file.specs.Workspace.{WorkspaceValue}
use Rattle.analysis.specs.Analysed.{Analysed, analysed}
use Rattle.analysis.specs.Analysis.{AnalysisValue, UnitAnalysis, analysis_and}
use Rattle.analysis.specs.Classes.{AreItsClasses}
use Rattle.analysis.specs.Parts.{AreMembers, IsPart}
use Rattle.analysis.proofs.ClassLemmas.{part_told}
use Rattle.rename_meaning.specs.Allowed.{IsAllowed}
use Rattle.part_respell.specs.Respelled.{respelled}
use Rattle.offences.specs.First.{IsFirst}
use Rattle.rename_rules.specs.Offences.{offences_of}
use Rattle.rename_meaning.proofs.FollowLinkLemmas.{classes_follow}
use Rattle.rename_meaning.proofs.ReadLemmas.{unit_has_tree}
use Rattle.rename_meaning.proofs.TextLemmas.{respelled_files_have_renamed_analysis}
use Rattle.offences.specs.declared.moves.Moves.{Moves}
use Rattle.kept_analysis.specs.Following.{IsAnalysedAnew, IsFollowed, IsReadAsBefore, IsRenamedIn, renamed_by}
use Rattle.kept_analysis.specs.Edits.{edited_front}
use Rattle.offences.specs.Moves.{AreMoves, editing_by, renaming_by}
use Rattle.kept_analysis.proofs.FollowLemmas.{analysis_same, renaming_same}
use Rattle.offences.proofs.MemberListLemmas.{one_list}

-- what holds of a value that a call gave
pub if_ok : {X E : Type 0} (r : Result X E) (P Q : X → Type 0) → ((x : X) → P x → Q x) → IfOk r P → IfOk r Q
if_ok (Ok x) P Q f h = f x h
if_ok (Err e) P Q f h = tt

-- what parts of an analysis are renamed has the classes that the renamed analysis has
pub parts_own : (m : Moves) (a : Analysed) (ws : WorkspaceValue) (us renamed : List UnitAnalysis) (files edited : Files) (old new : Table) (class len : ℕ)
    → analysed (analysis_and ws us files) old ≡ a → ((t : Table) → Resizes class len a.classes t → HasParts t → AreItsClasses (renamed_by m a.value) t)
    → Resizes class len old new → HasParts new → renamed ≡ map (renamed_unit_analysis (renaming_by m)) us → edited ≡ edited_front (editing_by m) 0 (length files) files
    → AreItsClasses (analysis_and ws renamed edited) new
parts_own m a ws us renamed files edited old new class len parts own resizes has units table =
    let follows = subst (λ (b : Analysed). (t : Table) → Resizes class len b.classes t → HasParts t → AreItsClasses (renamed_by m b.value) t) (sym parts) own in
    rw (units, table) (follows new resizes has)

-- the renamed tokens of its units have their trees
pub parts_read : (m : Moves) (a : Analysed) (ws : WorkspaceValue) (us : List UnitAnalysis) (files : Files) (old : Table)
    → analysed (analysis_and ws us files) old ≡ a
    → ((k : ℕ) (u : UnitAnalysis) → slice_get a.value.units k ≡ Some u → IsReadAsBefore (renaming_by m) u)
    → (k : ℕ) (u : UnitAnalysis) → slice_get us k ≡ Some u → IsReadAsBefore (renaming_by m) u
parts_read m a ws us files old parts read k u at = read k u (ap (λ (b : Analysed). slice_get b.value.units k) (sym parts) ∙ at)

-- and so it is with what is made of them
pub answered_own : {E : Type 0} (r : Result Analysed E) (v : AnalysisValue) (t : Table) → AreItsClasses v t → IfOk r (λ b. b ≡ analysed v t)
    → IfOk r (λ b. AreItsClasses b.value b.classes)
answered_own r v t own is =
    if_ok r (λ (b : Analysed). b ≡ analysed v t) (λ (b : Analysed). AreItsClasses b.value b.classes)
    (λ b e. subst (λ (x : Analysed). AreItsClasses x.value x.classes) (sym e) own) is

module _ (a : Analysed) (own : AreItsClasses a.value a.classes) (part : Part) (c : ℕ) (at : class_in a.classes part ≡ Some c) where
  pub part_is : IsPart a.value part
  part_is = part_told a.value a.classes own part (own.parts.told part c at)

  pub members_held : 0 < length (members_of a.classes c)
  members_held =
      let there = own.parts.member part c at in
      let within = slice_get_within (members_of a.classes c) there.0 part there.1 in
      omega (arith, within)

  module _ (name : List ℕ) (f : IsFollowed a.value part name) (ms : List Part) (of : AreMembers a.value part ms) (m : Moves) (are : AreMoves a.value.table ms name m) where
    allowed : IsAllowed a ms name
    allowed = record {
      source = f.source;
      workspace = a.value.workspace;
      accepted = f.accepted;
      own = own;
      number = c;
      class = record { part = part; numbered = at; listed = of };
      identifier = f.identifier;
      first = subst (λ (xs : List Part). IsFirst a.value.table (offences_of a.value xs name true) None) (one_list a.value part f.members ms f.class of) f.clear;
    }

    pub own_follows : (t : Table) → Resizes c (length name) a.classes t → HasParts t → AreItsClasses (renamed_by m a.value) t
    unfolding allowed
    own_follows t resizes parts =
        subst (λ (v : AnalysisValue). AreItsClasses v t) (sym (analysis_same a ms name allowed m are))
        (classes_follow a ms name f.path f.line f.column allowed f.named t resizes parts)

    pub reads_follow : (k : ℕ) (u : UnitAnalysis) → slice_get a.value.units k ≡ Some u → IsReadAsBefore (renaming_by m) u
    unfolding allowed
    reads_follow k u at =
        subst (λ (r : Renaming). IsReadAsBefore r u) (sym (renaming_same a ms name allowed m are)) (unit_has_tree a ms name allowed k u at)

    pub renamed_in : (b : AnalysisValue) → b ≡ renamed_by m a.value → IsRenamedIn a.value part name b
    renamed_in b is members also =
        is
        ∙ (analysis_same a ms name allowed m are
        ∙ ap (λ (xs : List Part). renamed_analysis (renaming_of a.value xs name) (respelled xs name) a.value) (one_list a.value part ms members of also))

  pub analysed_anew : (name : List ℕ) → IsFollowed a.value part name → (b : AnalysisValue) → IsRenamedIn a.value part name b
      → IsAnalysedAnew a.value part name b
  analysed_anew name f b is source now members ws once analysed these respelled =
      respelled_files_have_renamed_analysis source now a.value.workspace a.value a.classes part members name f.path f.line f.column
      (record {
        workspace = ws;
        analysed = analysed;
        own = own;
        once = once;
        class = these;
        identifier = f.identifier;
        clear = subst (λ (xs : List Part). IsFirst a.value.table (offences_of a.value xs name true) None) (one_list a.value part f.members members f.class these) f.clear;
      })
      f.named respelled
      ∙ ap (λ (v : AnalysisValue). Ok v) (sym (is members these))

  pub moved_for : (len : ℕ) (t : Table) (d : ℕ) → class_in a.classes part ≡ Some d → Resizes c len a.classes t → Resizes d len a.classes t
  moved_for len t d also resizes = subst (λ (n : ℕ). Resizes n len a.classes t) (same_Some c d (sym at ∙ also)) resizes
