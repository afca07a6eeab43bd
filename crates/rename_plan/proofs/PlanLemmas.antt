-- What is answered for a place, by what is answered for a class.
use Rattle.std.proofs.Common.{◌≡◌, ℕ, Bool, true, false, List, Option, Result, sym, ◌∙◌}
use Rattle.cs_base.specs.declared.positions.Part.{Part}
use Rattle.cs_base.specs.Edit.{Edit}
use Rattle.lexer.specs.Spelling.{is_identifier_text}
use Rattle.analysis.specs.Analysis.{AnalysisValue}
use Rattle.analysis.specs.Naming.{Names}
use Rattle.rename_rules.specs.Renaming.{IsNamedRenamed, IsRenaming}
use Rattle.offences.specs.declared.refusals.Refusal.{Refusal}

not_both : (name : List ℕ) → is_identifier_text name ≡ true → is_identifier_text name ≡ false → ⊥
not_both name good bad = let e : true ≡ false = sym good ∙ bad in cc

pub named_part : (a : AnalysisValue) (path : List ℕ) (line column : ℕ) (name : List ℕ) (strings : Bool) (part : Option Part) (r : Result (List Edit) Refusal)
    → is_identifier_text name ≡ true → Names a path line column part → IsNamedRenamed a name strings r part → IsRenaming a path line column name strings r
named_part a path line column name strings part r id n h = record {
  bad_name = λ bad. absurd (not_both name id bad);
  named = λ i. (part, n, h);
}
