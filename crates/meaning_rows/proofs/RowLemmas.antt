-- An analysis of a row has the tree and the binding of its tokens; so it keeps or breaks meaning as these do.
use Rattle.std.proofs.Common.{◌≡◌, ℕ, List, [], ◌∷◌, map, Ok, sym, subst}
use Rattle.cs_base.specs.declared.ws_units.Standard.{Standard}
use Rattle.cs_base.specs.declared.ws_units.Standard.TheVariants.{C99}
use Rattle.cs_base.specs.Token.{Token}
use Rattle.analysis.specs.Below.macro_expand.Renaming.{Renaming, renamed}
use Rattle.analysis.specs.Below.c99_tree.Tree.{Node}
use Rattle.analysis.specs.Below.c99_read.Reading.{read_of}
use Rattle.analysis.specs.Below.c99_grammar.Dialects.{dialect}
use Rattle.analysis.specs.Below.c99_grammar.Standard.{c99, grammar}
use Rattle.analysis.specs.Below.scope_bind.Bound.{Bound, binding_of}
use Rattle.analysis.specs.Below.gnu_bind.Bound.{binding_by}
use Rattle.analysis.specs.Analysis.{UnitAnalysis, AnalysisValue}
use Rattle.edited_unit_laws.specs.Lines.{Each}
use Rattle.edited_unit_laws.specs.Analyses.{IsRead, ReadsAlike}
use Rattle.rename_meaning.specs.KeptUnits.{change}
use Rattle.meaning_rows.specs.Rows.{Row, IsOf, member, KeepsReading, BreaksMeaning}
use Rattle.meaning_rows.proofs.ClauseLemmas.{one_answer, kept_meaning_reads_alike}

-- the tokens are read to this tree, and bound so
pub record ReadSo (toks : List Token) (tree : Node) (bound : Bound) : Type 0 where
  pub reads : read_of c99 toks ≡ Ok tree
  pub binds : binding_of toks tree ≡ Ok bound

-- how a renaming of this class spells the tokens of an analysis
abbrev pub renaming : AnalysisValue → ℕ → List ℕ → Renaming
renaming a at name = (change a (member at) name).renaming

-- a unit of C99 with these tokens has their tree and binding
module _ (toks : List Token) (tree : Node) (bound : Bound) (old : ReadSo toks tree bound) (u : UnitAnalysis) (is : u.standard ≡ C99) (has : u.text.toks ≡ toks)
    (read : IsRead u) where
  unit_tree : u.tree ≡ tree
  unit_tree =
      let reads : read_of c99 toks ≡ Ok u.tree = subst (λ (ts : List Token). read_of c99 ts ≡ Ok u.tree) has (subst (λ (s : Standard). read_of (grammar (dialect s)) u.text.toks ≡ Ok u.tree) is read.reads) in
      one_answer (read_of c99 toks) u.tree tree reads old.reads

  pub unit_bound : u.bound ≡ bound
  unit_bound =
      let binds : binding_of toks u.tree ≡ Ok u.bound = subst (λ (ts : List Token). binding_of ts u.tree ≡ Ok u.bound) has (subst (λ (s : Standard). binding_by s u.text.toks u.tree ≡ Ok u.bound) is read.binds) in
      let same : binding_of toks tree ≡ Ok u.bound = subst (λ (t : Node). binding_of toks t ≡ Ok u.bound) unit_tree binds in
      one_answer (binding_of toks tree) u.bound bound same old.binds

  -- renamed tokens that are read and bound as these keep the unit
  pub unit_keeps : (c : Renaming) → ReadSo (map (renamed c) toks) tree bound → ReadsAlike c u
  unit_keeps c anew =
      let now : ReadSo (map (renamed c) u.text.toks) tree bound = subst (λ (ts : List Token). ReadSo (map (renamed c) ts) tree bound) (sym has) anew in
      let on_tree : ReadSo (map (renamed c) u.text.toks) u.tree bound =
      subst (λ (t : Node). ReadSo (map (renamed c) u.text.toks) t bound) (sym unit_tree) now in
      let so : ReadSo (map (renamed c) u.text.toks) u.tree u.bound =
      subst (λ (b : Bound). ReadSo (map (renamed c) u.text.toks) u.tree b) (sym unit_bound) on_tree in
      record {
        reads = subst (λ (s : Standard). read_of (grammar (dialect s)) (map (renamed c) u.text.toks) ≡ Ok u.tree) (sym is) so.reads;
        binds = subst (λ (s : Standard). binding_by s (map (renamed c) u.text.toks) u.tree ≡ Ok u.bound) (sym is) so.binds;
      }

module _ (r : Row) (tree : Node) (bound : Bound) (old : ReadSo r.toks tree bound) (a : AnalysisValue) (h : IsOf r a) where
  its_tree : h.unit.tree ≡ tree
  its_tree = unit_tree r.toks tree bound old h.unit h.standard h.toks h.read

  pub its_bound : h.unit.bound ≡ bound
  its_bound = unit_bound r.toks tree bound old h.unit h.standard h.toks h.read

-- renamed tokens that are read and bound as the row's keep the units of each analysis of it
pub keeps : (r : Row) (at : ℕ) (name : List ℕ) (tree : Node) (bound : Bound) → ReadSo r.toks tree bound
    → ((a : AnalysisValue) → ReadSo (map (renamed (renaming a at name)) r.toks) tree bound) → KeepsReading r at name
keeps r at name tree bound old anew a h =
    let c : Renaming = renaming a at name in
    subst (Each (ReadsAlike c)) (sym h.only) (unit_keeps r.toks tree bound old h.unit h.standard h.toks h.read c (anew a), tt)

-- where they are not, no analysis of the row keeps meaning
pub breaks : (r : Row) (at : ℕ) (name : List ℕ) (tree : Node) (bound : Bound) → ReadSo r.toks tree bound
    → ((a : AnalysisValue) → ReadSo (map (renamed (renaming a at name)) r.toks) tree bound → ⊥) → BreaksMeaning r at name
breaks r at name tree bound old never a h now ws kept =
    let c : Renaming = renaming a at name in
    let u : UnitAnalysis = h.unit in
    let each : Each (ReadsAlike c) (u ∷ []) = subst (Each (ReadsAlike c)) h.only (kept_meaning_reads_alike now ws a (member at) name kept) in
    let so : ReadSo (map (renamed c) u.text.toks) u.tree u.bound = record {
      reads = subst (λ (s : Standard). read_of (grammar (dialect s)) (map (renamed c) u.text.toks) ≡ Ok u.tree) h.standard each.0.reads;
      binds = subst (λ (s : Standard). binding_by s (map (renamed c) u.text.toks) u.tree ≡ Ok u.bound) h.standard each.0.binds;
    } in
    let on_bound : ReadSo (map (renamed c) u.text.toks) u.tree bound =
    subst (λ (b : Bound). ReadSo (map (renamed c) u.text.toks) u.tree b) (its_bound r tree bound old a h) so in
    let on_tree : ReadSo (map (renamed c) u.text.toks) tree bound =
    subst (λ (t : Node). ReadSo (map (renamed c) u.text.toks) t bound) (its_tree r tree bound old a h) on_bound in
    never a (subst (λ (toks : List Token). ReadSo (map (renamed c) toks) tree bound) h.toks on_tree)
