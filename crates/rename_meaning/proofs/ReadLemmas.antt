-- The renamed tokens of each unit are read and bound as before.
use Rattle.std.proofs.Common.{◌≡◌, ℕ, true, false, List, Some, Ok, map, slice_get, inl, inr, ◌∙◌}
use Rattle.std.proofs.lemmas.Bool.{cases_Bool, and_parts, false≢true}
use Rattle.cs_base.proofs.BoolLemmas.{or_other}
use Rattle.cs_base.proofs.ListLemmas.{map-map}
use Rattle.cs_base.specs.Units.{is_gnu}
use Rattle.cs_base.specs.declared.ws_units.Standard.{Standard}
use Rattle.cs_base.specs.declared.ws_units.Standard.TheVariants.{C99, C11, Gnu99, Gnu11}
use Rattle.cs_base.specs.declared.positions.Part.{Part}
use Rattle.cs_base.specs.Token.{Token}
use Rattle.c99_tree.specs.Tree.{Node}
use Rattle.unit_steps.specs.Below.macro_expand.Renaming.{Renaming, renamed}
use Rattle.analysis.specs.Below.c99_grammar.declared.dialects.Dialect.TheVariants.{Gnu}
use Rattle.analysis.specs.Below.c99_grammar.Dialects.{edition, dialect}
use Rattle.analysis.specs.Below.c99_grammar.Standard.{iso, grammar}
use Rattle.analysis.specs.Below.c99_read.Reading.{read_of}
use Rattle.analysis.specs.Below.c99_read.State.{base_at, is_identifier}
use Rattle.analysis.specs.Below.gnu_bind.Bound.{gnu_binding_of, binding_by}
use Rattle.analysis.specs.Below.scope_bind.Bound.{Bound}
use Rattle.analysis.specs.Below.scope_bind.Below.name_chains.Frames.{outermost}
use Rattle.tree_laws.proofs.NamesRead.{names_are_read}
use Rattle.renamed_tree_laws.specs.Loose.{StaysWhole}
use Rattle.renamed_tree_laws.proofs.ReadBareNames.{bare_names_are_loose}
use Rattle.renamed_tree_laws.proofs.RenamedTrees.{renamed_alike}
use Rattle.edited_unit_laws.specs.Analyses.{IsRead, ReadsAlike}
use Rattle.analysis.specs.Analysed.{Analysed}
use Rattle.analysis.specs.Analysis.{UnitAnalysis}
use Rattle.analysis.specs.Trees.{HasTree}
use Rattle.analysis.specs.Changed.{renamed_text, renamed_token}
use Rattle.analysis.specs.Changed as changed
use Rattle.renamed.specs.Renamed.{renaming_of}
use Rattle.rename_meaning.specs.Allowed.{IsAllowed}
use Rattle.rename_meaning.specs.KeptTokens.{Spells}
use Rattle.rename_meaning.specs.Renamings.{KeepsUnedited}
use Rattle.rename_meaning.proofs.KeptTokenLemmas.{each_of}
use Rattle.edited_unit_laws.proofs.ListLemmas.{In}
use Rattle.rename_meaning.proofs.RenamingLemmas.{renamings_spell}
use Rattle.rename_meaning.proofs.UneditedLemmas.{renamings_keep_unedited}
use Rattle.rename_meaning.proofs.BoundUnitLemmas.{names_bind_as_before, units_are_renamed_whole}
use Rattle.rename_meaning.proofs.NoneLemmas.{gnu_kept}
use Rattle.rename_meaning.proofs.UnitNameLemmas.{gnu_by}
use Rattle.rename_rules.specs.GnuOffences.{are_identifiers, is_read_so}
use Rattle.rename_rules.specs.Below.same_readings.Readings.{reads_so}
use Rattle.rename_rules.specs.Below.same_readings.Whole.{goes_whole}
use Rattle.rename_rules.proofs.Below.same_readings.ReadingLemmas.{readings_found_are_so}
use Rattle.rename_rules.proofs.Below.same_readings.WholeTexts.{whole_texts_are_read_so}
use Rattle.edited_unit_laws.proofs.EditionLemmas.{reads_by_edition, binds_by_edition, read_by_edition, unit_is_read}
use Rattle.rename_meaning.specs.KeptUnits.{change}
use Rattle.rename_meaning.proofs.KeptUnitLemmas.{analysis_is_renamed_where_named}
use Rattle.rename_meaning.specs.ReadUnits.{UnitsReadAsBefore, EditedFilesHaveRenamedAnalysis}
use Rattle.rename_meaning.proofs.BareLemmas.{bare_stays}
use Rattle.rename_meaning.proofs.ClassLemmas.{bases_kept}
use Rattle.rename_meaning.proofs.LooseLemmas.{loose_named, loose_all}

module _ (a : Analysed) (members : List Part) (name : List ℕ) (r : Renaming) (h : IsAllowed a members name) (spells : Spells members name r)
    (keeps : KeepsUnedited r) where
  unit_reads : (u : UnitAnalysis) → In u a.value.units → is_gnu u.standard ≡ false → ReadsAlike r u
  unit_reads u i iso_ =
      let is = read_by_edition u iso_ (unit_is_read h.source h.workspace a.value h.accepted u i) in
      let old : List Token = u.text.toks in
      let new : List Token = map (renamed r) u.text.toks in
      let Named : ℕ → Type 0 = λ k. is_identifier (base_at (iso (edition u.standard)) old k) ≡ true in
      let named = loose_named (edition u.standard) old (outermost 0).label 0 u.tree.under (names_are_read (edition u.standard) old u.tree is.reads) in
      let whole = bare_names_are_loose (edition u.standard) old u.tree u.bound is.reads is.binds (λ x. Named x → StaysWhole old new u.bound.typedefs x)
      (λ k x at. bare_stays a members name r h spells keeps u i x (k, at)) in
      let loose = loose_all (edition u.standard) old Named (StaysWhole old new u.bound.typedefs) (outermost 0).label 0 u.tree.under named whole in
      record {
        reads = reads_by_edition u.standard new is.not_gnu
            ∙ renamed_alike (edition u.standard) old new u.tree u.bound is.reads is.binds (units_are_renamed_whole a members name r h spells keeps u i)
            (bases_kept a members name r h spells keeps u i) loose;
        binds = binds_by_edition u.standard new u.tree is.not_gnu ∙ names_bind_as_before a members name r h spells keeps u i iso_;
      }

-- what a standard of GNU C reads and binds so is read and bound so by GNU C
by_gnu : (s : Standard) (toks : List Token) (tree : Node) (b : Bound) → is_gnu s ≡ true → read_of (grammar (dialect s)) toks ≡ Ok tree → binding_by s toks tree ≡ Ok b
    → (read_of (grammar Gnu) toks ≡ Ok tree) × (gnu_binding_of toks tree ≡ Ok b)
by_gnu C99 toks tree b h reads binds = absurd (false≢true h)
by_gnu C11 toks tree b h reads binds = absurd (false≢true h)
by_gnu Gnu99 toks tree b h reads binds = (reads, binds)
by_gnu Gnu11 toks tree b h reads binds = (reads, binds)

-- renamed tokens of a unit that are said to be read and bound as it is are
found_so : (r : changed.Renaming) (u : UnitAnalysis) → is_gnu u.standard ≡ true → IsRead u → is_read_so u (map (renamed_token r) u.text.toks) ≡ true
    → (read_of (grammar Gnu) (map (renamed_token r) u.text.toks) ≡ Ok u.tree) × (gnu_binding_of (map (renamed_token r) u.text.toks) u.tree ≡ Ok u.bound)
found_so r u gnu is said =
    let new : List Token = map (renamed_token r) u.text.toks in
    elim (cases_Bool (goes_whole u.text.toks new)) [
      | inl whole ↦
          let old = by_gnu u.standard u.text.toks u.tree u.bound gnu is.reads is.binds in
          whole_texts_are_read_so u.text.toks new u.tree u.bound (map-map (λ (t : Token). t.kind) (renamed_token r) u.text.toks) whole old.0 old.1
      | inr other ↦ readings_found_are_so new u.tree u.bound (or_other (goes_whole u.text.toks new) (reads_so new u.tree u.bound) said other)
    ]

-- a unit of GNU C
gnu_reads : (a : Analysed) (members : List Part) (name : List ℕ) → IsAllowed a members name → (u : UnitAnalysis) → In u a.value.units → is_gnu u.standard ≡ true
    → ReadsAlike (change a.value members name).renaming u
gnu_reads a members name h u i gnu =
    let new : List Token = map (renamed_token (renaming_of a.value members name)) u.text.toks in
    let both = and_parts (are_identifiers u.text.toks u.bound.names) (is_read_so u new) (gnu_kept a members name h u i gnu) in
    let is = gnu_by u.standard new u.tree u.bound gnu (found_so (renaming_of a.value members name) u gnu (unit_is_read h.source h.workspace a.value h.accepted u i) both.1) in
    record { reads = is.0; binds = is.1 }

-- a unit of the analysis, under a renaming against which nothing stands
unit_reads_as_before : (a : Analysed) (members : List Part) (name : List ℕ) → IsAllowed a members name → (u : UnitAnalysis) → In u a.value.units
    → ReadsAlike (change a.value members name).renaming u
unit_reads_as_before a members name h u i = elim (cases_Bool (is_gnu u.standard)) [
  | inl gnu ↦ gnu_reads a members name h u i gnu
  | inr iso_ ↦
      let keeps = renamings_keep_unedited a members name u.text h in
      unit_reads a members name (change a.value members name).renaming h (renamings_spell a.value members name u.text)
      (record { untraced = keeps.untraced; numbers = keeps.numbers; still = keeps.still }) u i iso_
]

-- its renamed tokens have the tree that it had
pub unit_has_tree : (a : Analysed) (members : List Part) (name : List ℕ) → IsAllowed a members name → (k : ℕ) (u : UnitAnalysis)
    → slice_get a.value.units k ≡ Some u → HasTree u.standard (renamed_text (renaming_of a.value members name) u.text).toks u.tree
unit_has_tree a members name h k u at = (unit_reads_as_before a members name h u (k, at)).reads

pub units_read_as_before : UnitsReadAsBefore
units_read_as_before = λ a members name h. each_of (ReadsAlike (change a.value members name).renaming) a.value.units (unit_reads_as_before a members name h)

pub edited_files_have_renamed_analysis : EditedFilesHaveRenamedAnalysis
edited_files_have_renamed_analysis = λ a members name path line column h workspace once named new holds.
    analysis_is_renamed_where_named a members name path line column h workspace once named new holds (units_read_as_before a members name h)
