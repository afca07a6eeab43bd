-- The answer to a renaming is one: a place names one part, the members of its class stand in one list, and the first reason against
-- the renaming is one.
use Rattle.std.proofs.Common.{◌≡◌, ℕ, Bool, true, false, List, Option, None, Some, Result, Ok, Err, refl, ap, sym, subst, ◌∙◌}
use Rattle.cs_base.specs.declared.positions.Part.{Part}
use Rattle.cs_base.specs.Edit.{Edit}
use Rattle.analysis.specs.Below.lexer.Spelling.{is_identifier_text}
use Rattle.ws_file.specs.Workspace.{WorkspaceValue, IsWorkspace}
use Rattle.analysis.specs.Below.source_files.Files.{Source}
use Rattle.analysis.specs.Analysis.{AnalysisValue, analysis_of}
use Rattle.rename_rules.specs.Offences.{offences_of}
use Rattle.offences.specs.declared.refusals.Refusal.{Refusal}
use Rattle.rename_rules.specs.Renaming.{IsRenamed, IsClassRenamed, IsNamedRenamed, IsRenaming}
use Rattle.offences.proofs.MemberListLemmas.{one_list}
use Rattle.rename_meaning.proofs.RefusalLemmas.{refusals_are_one}
use Rattle.offences.proofs.NamedLemmas.{one_named}
use Rattle.offences.proofs.TiedLemmas.{none_stands}

-- An analysis of a workspace: each answer to a renaming over it is one.
module _ (source : Source) (ws : WorkspaceValue) (a : AnalysisValue) (is_ws : IsWorkspace ws) (analysed : analysis_of source ws ≡ Ok a) where
  renamed_once : (members : List Part) (name : List ℕ) (strings : Bool) (r s : Result (List Edit) Refusal) → IsRenamed a members name strings r
      → IsRenamed a members name strings s → r ≡ s
  renamed_once members name strings (Ok es) (Ok fs) p q = ap (λ (edits : List Edit). Ok edits) (p.1 ∙ sym q.1)
  renamed_once members name strings (Ok es) (Err s) p q = absurd (none_stands (offences_of a members name strings) q.0 p.0 q.1.0)
  renamed_once members name strings (Err r) (Ok fs) p q = absurd (none_stands (offences_of a members name strings) p.0 q.0 p.1.0)
  renamed_once members name strings (Err r) (Err s) p q =
      ap (λ (refusal : Refusal). Err refusal) (refusals_are_one source ws a members name strings r s is_ws analysed p q)

  class_once : (part : Part) (name : List ℕ) (strings : Bool) (r s : Result (List Edit) Refusal) → IsClassRenamed a part name strings r
      → IsClassRenamed a part name strings s → r ≡ s
  class_once part name strings r s p q =
      renamed_once p.members name strings r s p.renamed
      (subst (λ (ms : List Part). IsRenamed a ms name strings s) (one_list a part q.members p.members q.are_members p.are_members) q.renamed)

  named_once : (name : List ℕ) (strings : Bool) (r s : Result (List Edit) Refusal) (part : Option Part) → IsNamedRenamed a name strings r part
      → IsNamedRenamed a name strings s part → r ≡ s
  named_once name strings r s None p q = p ∙ sym q
  named_once name strings r s (Some part) p q = class_once part name strings r s p q

  places_once : (path : List ℕ) (line column : ℕ) (name : List ℕ) (strings : Bool) (r s : Result (List Edit) Refusal) (good : Bool)
      → is_identifier_text name ≡ good → IsRenaming a path line column name strings r → IsRenaming a path line column name strings s → r ≡ s
  places_once path line column name strings r s false is p q = p.bad_name is ∙ sym (q.bad_name is)
  places_once path line column name strings r s true is p q =
      let m = p.named is in
      let n = q.named is in
      named_once name strings r s m.0 m.2 (subst (λ (o : Option Part). IsNamedRenamed a name strings s o) (one_named a path line column m.0 n.0 m.1 n.1) n.2)

  pub renamings_once : (path : List ℕ) (line column : ℕ) (name : List ℕ) (strings : Bool) (r s : Result (List Edit) Refusal)
      → IsRenaming a path line column name strings r → IsRenaming a path line column name strings s → r ≡ s
  renamings_once path line column name strings r s p q = places_once path line column name strings r s (is_identifier_text name) refl p q
