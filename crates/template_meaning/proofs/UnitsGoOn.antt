-- Each unit goes on in the new order: it is read, since its names agree with the tree in that order, and bound, since each name
-- denotes at its new place what it denoted.
use Rattle.std.proofs.Common.{ℕ, ◌≡◌, Bool, List, [], ◌∷◌, length, map, refl, sym, ap, ◌∙◌}
use Rattle.cs_base.specs.declared.positions.Part.{Part}
use Rattle.cs_base.specs.declared.tokens.Kind.{Kind}
use Rattle.cs_base.specs.Token.{Token}
use Rattle.c99_grammar.specs.Dialects.{edition}
use Rattle.tree_laws.specs.ReadTexts.{ReadParameterListsAreInOrder}
use Rattle.tree_laws.specs.TreesOfTexts.{IsTreeOf}
use Rattle.tree_laws.proofs.OfTexts.{trees_of_texts}
use Rattle.source_files.specs.Files.{Source}
use Rattle.ws_file.specs.Workspace.{WorkspaceValue}
use Rattle.analysis.specs.Analysis.{UnitAnalysis, AnalysisValue}
use Rattle.edited_unit_laws.proofs.ListLemmas.{In}
use Rattle.edited_unit_laws.proofs.AnalysedUnitLemmas.{unit_is, unit_spelled}
use Rattle.list_cuts.specs.Cuts.{Cut, arranged}
use Rattle.list_cuts.proofs.CutLemmas.{arranged-map}
use Rattle.reordered_tree_laws.specs.Premises.{CanReorder, ReorderedBindAlike}
use Rattle.reordered_tree_laws.specs.Reordered.{reordered}
use Rattle.reordered_tree_laws.specs.ReorderedNames.{ReorderedNamesAgree}
use Rattle.unit_laws.specs.Walking.{plains}
use Rattle.reordered_text_laws.specs.Joined.{NamesAreSpelled, AreTokensInOrder, PlainTokensStandInOrder, ArrangedTextsAreRead, SpelledTextsHaveNames}
use Rattle.tree_laws.proofs.Texts.{units_agree}
use Rattle.template_meaning.specs.Accepted.{IsAccepted}
use Rattle.template_meaning.specs.CanReorder.{UnitsCanReorder}
use Rattle.template_meaning.specs.Lists.{IsCut}
use Rattle.reordered.specs.Reordered.{begins_list, unit_cut}
use Rattle.template_meaning.specs.Standing.{UnitGoesOn, UnitsGoOn}
use Rattle.template_meaning.proofs.NamesGoOn.{have_bare_names, classes_move}
use Rattle.template_meaning.proofs.UnitCut.{units_are_cut}
use Rattle.template_meaning.proofs.Editions.{no_gnu_places}
use Rattle.edited_unit_laws.proofs.EditionLemmas.{reads_by_edition, binds_by_edition, IsReadSo, unit_read_so}

-- ---- Spellings

abbrev text_of : Kind × List ℕ → List ℕ
text_of p = p.1

plain_texts : (toks : List Token) → map text_of (plains toks) ≡ map (λ (t : Token). t.text) toks
plain_texts [] = refl
plain_texts (t ∷ toks) = ap (λ (xs : List (List ℕ)). t.text ∷ xs) (plain_texts toks)

texts_arranged : (order : List ℕ) (c : Cut) (old new : List Token) → plains new ≡ arranged order c (plains old)
    → map (λ (t : Token). t.text) new ≡ arranged order c (map (λ (t : Token). t.text) old)
texts_arranged order c old new same =
    sym (plain_texts new)
    ∙ (ap (λ (ps : List (Kind × List ℕ)). map text_of ps) same
    ∙ (sym (arranged-map text_of order c (plains old)) ∙ ap (λ (xs : List (List ℕ)). arranged order c xs) (plain_texts old)))

-- ---- Each unit

module _ (in_order : ReadParameterListsAreInOrder) (arranged_read : ArrangedTextsAreRead) (tokens_stand : PlainTokensStandInOrder) (have_names : SpelledTextsHaveNames)
    (names_agree : ReorderedNamesAgree) (bind_alike : ReorderedBindAlike) (can_reorder : UnitsCanReorder) where
  module _ (source : Source) (ws : WorkspaceValue) (a : AnalysisValue) (members : List Part) (order : List ℕ) (h : IsAccepted source ws a members order)
      (u : UnitAnalysis) (i : In u a.units) where
    abbrev old : List Token
    old = u.text.toks

    abbrev lists : ℕ → Bool
    lists = begins_list members u

    is_read : IsReadSo u
    is_read = unit_read_so source ws a h.analysed (no_gnu_places source ws a members order h) u i

    cut : IsCut members order u
    cut = units_are_cut in_order source ws a members order h u i

    named : NamesAreSpelled (edition u.standard) old
    named = have_names (edition u.standard) old (let spelled = unit_spelled a u i (unit_is source ws a h.analysed u i) in spelled.toks)

    goes_on : (new : List Token) → plains new ≡ arranged order (unit_cut members u) (plains old) → UnitGoesOn members order u new
    goes_on new same =
        let r = is_read in
        let c = cut in
        let can : CanReorder order lists old u.tree u.bound = can_reorder source ws a members order h u i in
        let of : IsTreeOf (length old) u.tree = trees_of_texts (edition u.standard) old u.tree r.reads in
        let texts = texts_arranged order (unit_cut members u) old new same in
        let stand : AreTokensInOrder (edition u.standard) order lists u.tree old new = (tokens_stand (edition u.standard) (length order) order lists old new u.tree c.order_is c.each same).0 in
        let agree =
        names_agree (edition u.standard) old new order lists u.tree u.bound of (have_bare_names (edition u.standard) old u.tree r.reads) can
        (record { texts = texts; classes = classes_move (edition u.standard) order lists u.tree old new c.order_is c.each stand }) (units_agree (edition u.standard) old u.tree r.reads) in
        let b = bind_alike old new order lists u.tree u.bound of r.binds can texts in
        record {
          bound = b.bound;
          reads = reads_by_edition u.standard new r.not_gnu
              ∙ arranged_read (edition u.standard) (length order) order lists old new u.tree named same r.reads c.order_is c.each agree;
          binds = binds_by_edition u.standard new (reordered order lists u.tree) r.not_gnu ∙ b.told;
          names = record { entities = b.named; declares = b.declared; kinds = b.kinds; linkages = b.linked };
        }

  pub units_go_on : UnitsGoOn
  units_go_on source ws a members order h u i toks same = goes_on source ws a members order h u i toks same
