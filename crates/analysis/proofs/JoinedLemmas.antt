-- A table of file tokens once the links are joined.
use Rattle.std.proofs.Common.{◌≡◌, List, sym, ap, ◌∙◌}
use Rattle.std.specs.Prelude.{slice_get}
use Rattle.cs_base.specs.declared.positions.Part.{Part}
use Rattle.eclass_map.specs.ClassTable.{Table, AreLinks, HasParts, added_tokens}
use Rattle.analysis.specs.Analysis.{AnalysisValue}
use Rattle.analysis.specs.Classes.{HasFileTokens, AreItsClasses}
use Rattle.analysis.specs.Links.{linked_pairs}

pub joined : (a : AnalysisValue) (old new : Table) → HasFileTokens a old → added_tokens new ≡ added_tokens old → AreLinks (linked_pairs a) new → HasParts new
    → AreItsClasses a new
joined a old new has same links parts = record {
  tokens = λ token i. has.tokens token (i.0, ap (λ (ps : List Part). slice_get ps i.0) (sym same) ∙ i.1);
  all = λ token is. let i = has.all token is in (i.0, ap (λ (ps : List Part). slice_get ps i.0) same ∙ i.1);
  links = links;
  parts = parts;
}
