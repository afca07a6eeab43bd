-- An analysis behind which a renaming may wait.
use Rattle.std.proofs.Common.{◌≡◌, true, false, ℕ, List, Option, None, Some, sym, ap, subst, ◌∙◌}
use Rattle.std.proofs.lemmas.Bool.{false≢true}
use Rattle.cs_base.specs.declared.positions.Part.{Part}
use Rattle.analysis.specs.Analysis.{AnalysisValue}
use Rattle.analysis.specs.Changed.{renamed_analysis}
use Rattle.analysis.specs.Parts.{AreMembers}
use Rattle.kept_analysis.specs.Following.{IsRenamedIn}
use Rattle.offences.proofs.MemberListLemmas.{one_list}
use Rattle.part_respell.specs.Respelled.{respelled}
use Rattle.renamed.specs.Renamed.{renaming_of}
use Rattle.batch_run.specs.declared.standing.Ahead.{Ahead}
use Rattle.batch_run.specs.Standing.{StandingValue, standing_value}

-- where nothing waits, it is the analysis itself
pub value_settled : (a : AnalysisValue) (o : Option Ahead) (v : StandingValue) → standing_value a o ≡ v → v.waits ≡ false → a ≡ v.value
value_settled a None v is settled = ap (λ (x : StandingValue). x.value) is
value_settled a (Some r) v is settled = absurd (false≢true (sym (ap (λ (x : StandingValue). x.waits) is ∙ settled)))

-- the analysis in which the class of a part is renamed
abbrev pub renamed_at : AnalysisValue → List Part → List ℕ → AnalysisValue
renamed_at a members name = renamed_analysis (renaming_of a members name) (respelled members name) a

pub renamed_is : (a b : AnalysisValue) (part : Part) (ms kept : List Part) (name text : List ℕ) → a ≡ b → AreMembers a part ms → kept ≡ ms → text ≡ name
    → IsRenamedIn b part name (renamed_at a kept text)
renamed_is a b part ms kept name text same of members_are name_is = λ ns those.
    let there : AreMembers a part ns = subst (λ (x : AnalysisValue). AreMembers x part ns) (sym same) those in
    let list : kept ≡ ns = members_are ∙ one_list a part ms ns of there in
    ap (λ (x : AnalysisValue). renamed_at x kept text) same
    ∙ ap (λ (xs : List Part). renamed_at b xs text) list
    ∙ ap (λ (t : List ℕ). renamed_at b ns t) name_is
