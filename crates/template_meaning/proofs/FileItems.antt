-- The items of each list in a file.
use Rattle.std.proofs.Common.{◌≡◌, ℕ, ◌<◌, ◌≤◌, List, [], ◌∷◌, length, Some, Ok, sym, ap, subst, ◌∙◌, arith}
use Rattle.std.specs.Prelude.{slice_get}
use Rattle.cs_base.specs.Token.{Token}
use Rattle.c99_grammar.specs.Dialects.{edition}
use Rattle.tree_laws.specs.ReadTexts.{ReadParameterListsAreInOrder}
use Rattle.macro_body.specs.declared.notes.Work.{Work}
use Rattle.macro_body.specs.Hides.{toks_of, unhidden}
use Rattle.unit_steps.specs.Below.macro_expand.Expansion.{whole, expansion}
use Rattle.source_files.specs.Files.{SourceFile, Table}
use Rattle.source_files.specs.Sources.{source_at}
use Rattle.analysis.specs.Analysis.{UnitAnalysis}
use Rattle.expansion_laws.specs.Arranging.{AreDistinct}
use Rattle.expansion_laws.specs.Ends.{ExpansionsEndAlike}
use Rattle.arranged_text_laws.specs.Lists.{IsItem}
use Rattle.reordered_text_laws.specs.Marks.{Each, AreOfList, StandFrom, spans_by, first_of, last_of}
use Rattle.unit_laws.proofs.ReorderedFileLemmas.{distinct_range}
use Rattle.template_meaning.specs.Ends.{TokensMayStand}
use Rattle.template_meaning.specs.Lists.{UnitsAreCut}
use Rattle.template_meaning.specs.Items.{ItemsStand}
use Rattle.template_meaning.specs.Units.{own_lists}
use Rattle.template_meaning.proofs.Counts.{kept_tokens_have}
use Rattle.template_meaning.proofs.ItemEnds.{EachPair, EndsItem, own_pairs, no_hash}
use Rattle.template_meaning.proofs.ItemsAlone.{range_get, items_later, items_out, items_run, plain_signed}
use Rattle.template_meaning.proofs.RunsOf.{each_mark, within_limit}
use Rattle.template_meaning.proofs.Walks.{among_in}

distinct_kept : (files : Table) (file : SourceFile) → source_at files file.number ≡ Some file → AreDistinct file.text.toks
distinct_kept files file kept = let k = kept_tokens_have files file.number file kept in λ i j t one two. sym (k.begun i t one) ∙ k.begun j t two

bounded : (limit : ℕ) (ms : List ℕ) → AreOfList limit ms → Each (λ m. m < limit) ms
bounded limit ms w = let last = within_limit limit ms w in by last ms (each_mark limit ms w)
  where
    by : last_of ms < limit → (ks : List ℕ) → Each (λ k. (first_of ms ≤ k) × (k ≤ last_of ms)) ks → Each (λ k. k < limit) ks
    by last [] h = tt
    by last (k ∷ ks) h = let high = h.0.1 in (omega (arith, high, last), by last ks h.1)

standing : (limit : ℕ) (ms : List ℕ) → AreOfList limit ms → StandFrom 0 ms
standing limit [] w = absurd w
standing limit (m ∷ []) w = absurd w
standing limit (m ∷ k ∷ ms) w = w.0

whole_of : (table : _) (path : List ℕ) (run : List Token) (work : Work) (e : _) → expansion table path run work ≡ Ok e → whole (record { table = table; path = path }) 0 0 (unhidden run) work ≡ Ok e
unfolding expansion
whole_of table path run work e h = h

pub items_stand : TokensMayStand → ExpansionsEndAlike → ReadParameterListsAreInOrder → UnitsAreCut → ItemsStand
items_stand may alike in_order cuts source ws a members order h some typed file kept t x =
    let u : UnitAnalysis = x.unit in
    let pairs = own_pairs may in_order cuts source ws a members order h some u x.there (typed u x.there) x.list (among_in (own_lists members u) x.list x.own) in
    let pairs2 = subst (EachPair (EndsItem _ u.text.toks)) x.unit_marks pairs in
    let out_items = items_out (edition u.standard) (toks_of x.e.toks) u.text.toks x.before x.toks (no_hash may in_order cuts source ws a members order h some u x.there (typed u x.there)) x.in_out (bounded (length (toks_of x.e.toks)) x.in_out x.out_marks) pairs2 in
    let distinct : AreDistinct x.run = subst AreDistinct (sym x.run_is) (distinct_range file.text.toks x.it.from x.it.to (distinct_kept a.table file kept)) in
    let run_items = items_run alike (record { table = x.s.macros; path = file.path }) 0 x.run x.s.work x.e distinct (whole_of x.s.macros file.path x.run x.s.work x.e x.expands) 0 x.in_run x.in_out
    (standing (length x.run) x.in_run x.run_marks) x.same (plain_signed (toks_of x.e.toks) x.in_out x.signed) out_items in
    let file_items = items_later x.run file.text.toks x.it.from
    (λ j y at. range_get file.text.toks x.it.from x.it.to j y (ap (λ (ts : List Token). slice_get ts j) (sym x.run_is) ∙ at)) x.in_run run_items in
    subst (λ (ms : List ℕ). Each (IsItem file.text.toks) (spans_by ms)) (sym x.file_marks) file_items
