-- The answer to a new order of a macro's parameters is one: a place names one part, the members of its class stand in one list, and the
-- first reason against the order is one.
use Rattle.std.proofs.Common.{◌≡◌, ℕ, Bool, true, false, List, [], ◌∷◌, Option, None, Some, Result, Ok, Err, refl, ap, sym, subst, ◌∙◌}
use Rattle.cs_base.specs.declared.positions.Part.{Part}
use Rattle.cs_base.specs.Edit.{Edit}
use Rattle.list_cuts.specs.Orders.{is_order}
use Rattle.analysis.specs.Below.ws_file.Workspace.{WorkspaceValue, IsWorkspace}
use Rattle.analysis.specs.Below.source_files.Files.{Source}
use Rattle.analysis.specs.Analysis.{AnalysisValue, analysis_of}
use Rattle.analysis.proofs.OnceLemmas.{paths_once}
use Rattle.edited_unit_laws.proofs.AnalysedUnitLemmas.{no_lines, lines_first}
use Rattle.offences.specs.declared.refusals.Refusal.{Refusal}
use Rattle.offences.proofs.MemberListLemmas.{one_list}
use Rattle.offences.proofs.NamedLemmas.{one_named}
use Rattle.offences.proofs.TiedLemmas.{none_stands, one_refusal}
use Rattle.macro_rules.specs.declared.heads.Head.{Head}
use Rattle.macro_rules.specs.Counting.{class_heads, count_of}
use Rattle.macro_rules.specs.Offences.{offences_of}
use Rattle.macro_plan.specs.Macro.{IsTurned, IsOrdered, IsClassOrdered, IsNamedOrdered, IsMacro}

-- An analysis of a workspace: each answer to an order over it is one.
module _ (source : Source) (ws : WorkspaceValue) (a : AnalysisValue) (is_ws : IsWorkspace ws) (analysed : analysis_of source ws ≡ Ok a) where
  turned_once : (members : List Part) (order : List ℕ) (r s : Result (List Edit) Refusal) → IsTurned a members order r → IsTurned a members order s → r ≡ s
  turned_once members order (Ok es) (Ok fs) p q = ap (λ (edits : List Edit). Ok edits) (p.1 ∙ sym q.1)
  turned_once members order (Ok es) (Err s) p q = absurd (none_stands (offences_of a members (count_of a members)) q.0 p.0 q.1.0)
  turned_once members order (Err r) (Ok fs) p q = absurd (none_stands (offences_of a members (count_of a members)) p.0 q.0 p.1.0)
  turned_once members order (Err r) (Err s) p q =
      let one = one_refusal a (paths_once source ws a is_ws analysed) (no_lines source ws a analysed) (lines_first source ws a analysed)
      (offences_of a members (count_of a members)) p.0 q.0 p.1 q.1 in
      ap (λ (refusal : Refusal). Err refusal) (p.2 ∙ one ∙ sym q.2)

  ordered_once : (members : List Part) (order : List ℕ) (r s : Result (List Edit) Refusal) (heads : List Head) (good : Bool) → class_heads members a ≡ heads
      → is_order (count_of a members) order ≡ good → IsOrdered a members order r → IsOrdered a members order s → r ≡ s
  ordered_once members order r s [] good none is p q = p.no_macro none ∙ sym (q.no_macro none)
  ordered_once members order r s (h ∷ heads) false has is p q =
      let some : class_heads members a ≡ [] → ⊥ = λ none. (let e : h ∷ heads ≡ [] = sym has ∙ none in cc) in
      p.no_order some is ∙ sym (q.no_order some is)
  ordered_once members order r s (h ∷ heads) true has is p q =
      let some : class_heads members a ≡ [] → ⊥ = λ none. (let e : h ∷ heads ≡ [] = sym has ∙ none in cc) in
      turned_once members order r s (p.ordered some is) (q.ordered some is)

  class_once : (part : Part) (order : List ℕ) (r s : Result (List Edit) Refusal) → IsClassOrdered a part order r → IsClassOrdered a part order s → r ≡ s
  class_once part order r s p q =
      ordered_once p.members order r s (class_heads p.members a) (is_order (count_of a p.members) order) refl refl p.ordered
      (subst (λ (ms : List Part). IsOrdered a ms order s) (one_list a part q.members p.members q.are_members p.are_members) q.ordered)

  named_once : (order : List ℕ) (r s : Result (List Edit) Refusal) (part : Option Part) → IsNamedOrdered a order r part → IsNamedOrdered a order s part → r ≡ s
  named_once order r s None p q = p ∙ sym q
  named_once order r s (Some part) p q = class_once part order r s p q

  pub macros_once : (path : List ℕ) (line column : ℕ) (order : List ℕ) (r s : Result (List Edit) Refusal) → IsMacro a path line column order r
      → IsMacro a path line column order s → r ≡ s
  macros_once path line column order r s p q =
      named_once order r s p.0 p.2 (subst (λ (o : Option Part). IsNamedOrdered a order s o) (one_named a path line column p.0 q.0 p.1 q.1) q.2)
