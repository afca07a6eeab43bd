-- A place names one part, or nothing.
use Rattle.std.proofs.Common.{◌≡◌, ℕ, true, List, Option, None, Some, refl, ap, sym, subst, ◌∙◌}
use Rattle.std.proofs.lemmas.Option.{none-some, same_Some}
use Rattle.cs_base.specs.declared.positions.Part.{Part}
use Rattle.cs_base.specs.declared.positions.Pos.{Pos}
use Rattle.analysis.specs.Below.eclass_map.Positions.{holds}
use Rattle.analysis.specs.Analysis.{AnalysisValue}
use Rattle.analysis.specs.Naming.{Names}
use Rattle.analysis.proofs.PartLemmas.{part_once}

pub one_named : (a : AnalysisValue) (path : List ℕ) (line column : ℕ) (m n : Option Part) → Names a path line column m
    → Names a path line column n → n ≡ m
one_named a path line column None None p q = refl
one_named a path line column None (Some part) p q = absurd (none-some q.0 (sym p ∙ q.1))
one_named a path line column (Some part) None p q = absurd (none-some p.0 (sym q ∙ p.1))
one_named a path line column (Some part) (Some other) p q =
    let same : q.0 ≡ p.0 = same_Some q.0 p.0 (sym q.1 ∙ p.1) in
    let held : holds other p.0 ≡ true = subst (λ (x : Pos). holds other x ≡ true) same q.3 in
    ap (λ (x : Part). Some x) (part_once a other part p.0 q.2 p.2 held p.3)
