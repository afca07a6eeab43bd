-- The answer to a new order is one: a place names one part, the members of its class stand in one list, and the first reason against
-- the order is one.
use Rattle.std.proofs.Common.{◌≡◌, ℕ, Bool, true, false, List, Option, None, Some, Result, Ok, Err, refl, ap, sym, subst, ◌∙◌}
use Rattle.cs_base.specs.declared.positions.Part.{Part}
use Rattle.cs_base.specs.Edit.{Edit}
use Rattle.list_cuts.specs.Orders.{is_order}
use Rattle.analysis.specs.Below.ws_file.Workspace.{WorkspaceValue, IsWorkspace}
use Rattle.analysis.specs.Below.source_files.Files.{Source}
use Rattle.analysis.specs.Analysis.{AnalysisValue, analysis_of}
use Rattle.template_rules.specs.Functions.{has_function}
use Rattle.template_rules.specs.Lists.{count_of}
use Rattle.template_rules.specs.Offences.{offences_of}
use Rattle.offences.specs.declared.refusals.Refusal.{Refusal}
use Rattle.template_rules.specs.Template.{IsReordered, IsOrdered, IsClassOrdered, IsNamedOrdered, IsTemplate}
use Rattle.offences.proofs.MemberListLemmas.{one_list}
use Rattle.offences.proofs.NamedLemmas.{one_named}
use Rattle.offences.proofs.TiedLemmas.{none_stands}
use Rattle.template_meaning.proofs.RefusalsOne.{refusals_are_one}

-- An analysis of a workspace: each answer to an order over it is one.
module _ (source : Source) (ws : WorkspaceValue) (a : AnalysisValue) (is_ws : IsWorkspace ws) (analysed : analysis_of source ws ≡ Ok a) where
  reordered_once : (members : List Part) (order : List ℕ) (r s : Result (List Edit) Refusal) → IsReordered a members order r → IsReordered a members order s → r ≡ s
  reordered_once members order (Ok es) (Ok fs) p q = ap (λ (edits : List Edit). Ok edits) (p.1 ∙ sym q.1)
  reordered_once members order (Ok es) (Err s) p q = absurd (none_stands (offences_of a members (count_of a members)) q.0 p.0 q.1.0)
  reordered_once members order (Err r) (Ok fs) p q = absurd (none_stands (offences_of a members (count_of a members)) p.0 q.0 p.1.0)
  reordered_once members order (Err r) (Err s) p q =
      ap (λ (refusal : Refusal). Err refusal) (refusals_are_one source ws a members order r s is_ws analysed p q)

  ordered_once : (members : List Part) (order : List ℕ) (r s : Result (List Edit) Refusal) (some good : Bool) → has_function members a ≡ some
      → is_order (count_of a members) order ≡ good → IsOrdered a members order r → IsOrdered a members order s → r ≡ s
  ordered_once members order r s false good has is p q = p.no_function has ∙ sym (q.no_function has)
  ordered_once members order r s true false has is p q = p.no_order has is ∙ sym (q.no_order has is)
  ordered_once members order r s true true has is p q = reordered_once members order r s (p.ordered has is) (q.ordered has is)

  class_once : (part : Part) (order : List ℕ) (r s : Result (List Edit) Refusal) → IsClassOrdered a part order r → IsClassOrdered a part order s → r ≡ s
  class_once part order r s p q =
      ordered_once p.members order r s (has_function p.members a) (is_order (count_of a p.members) order) refl refl p.ordered
      (subst (λ (ms : List Part). IsOrdered a ms order s) (one_list a part q.members p.members q.are_members p.are_members) q.ordered)

  named_once : (order : List ℕ) (r s : Result (List Edit) Refusal) (part : Option Part) → IsNamedOrdered a order r part → IsNamedOrdered a order s part → r ≡ s
  named_once order r s None p q = p ∙ sym q
  named_once order r s (Some part) p q = class_once part order r s p q

  pub templates_once : (path : List ℕ) (line column : ℕ) (order : List ℕ) (r s : Result (List Edit) Refusal) → IsTemplate a path line column order r
      → IsTemplate a path line column order s → r ≡ s
  templates_once path line column order r s p q =
      named_once order r s p.0 p.2 (subst (λ (o : Option Part). IsNamedOrdered a order s o) (one_named a path line column p.0 q.0 p.1 q.1) q.2)
