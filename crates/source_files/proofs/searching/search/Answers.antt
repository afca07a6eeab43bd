use Rattle.std.proofs.Common.{◌≡◌, List, ℕ, true, false, not, [], get_or, refl, ◌∙◌, ap, subst}
use Rattle.cs_base.proofs.ListLemmas.{default as get_or-default}
use Rattle.source_files.specs.Files.{asked, found_at}
use Rattle.source_files.specs.Statuses.{is_missing}
use Rattle.source_files.proofs.TableLemmas.{earlier_found, only_asks-refl, only_asks-trans}
use Rattle.source_files.proofs.SearchedLemmas.{search-there, search-gone, search-end}
use Rattle.source_files.proofs.searching.search.Goals as goal

pub loop-i-init : goal.loop-i-init
loop-i-init g c = record {
  told = refl;
  answer = λ source found. refl;
  only = only_asks-refl (g.F.Files.told c.args.files.now).held c.args.cache.now.table;
  toks = refl;
}

pub returns-then-there-clause-answer : goal.returns-then-there-clause-answer
returns-then-there-clause-answer g c =
    let path : c.bytes.result.now ≡ get_or c.args.paths.now c.loop-i.i [] =
    c.bytes.ensures ∙ c.index-paths-i.is ∙ get_or-default c.args.paths.now c.loop-i.i c.index-paths-i.result [] c.loop-i-test.true in
    λ source found.
    c.loop-i.invariant.answer source (earlier_found source c.loop-i.cache.table c.ask_bytes.new.cache.table c.in-Ok.ensures.asks.only.grown found)
    ∙ search-there source c.args.paths.now c.loop-i.i c.loop-i.cache.table c.ask_bytes.new.cache.table c.loop-i-test.true
    (subst (λ (p : List ℕ). c.ask_bytes.new.cache.table ≡ asked source p c.loop-i.cache.table) path (c.in-Ok.ensures.answer source found))
    (subst (λ (p : List ℕ). is_missing (found_at p c.ask_bytes.new.cache.table) ≡ false) path (c.in-Ok.ensures.there ∙ ap not c.if-there.true))

pub returns-then-there-clause-asks : goal.returns-then-there-clause-asks
returns-then-there-clause-asks g c = record {
  only = only_asks-trans (g.F.Files.told c.args.files.now).held c.args.cache.now.table c.loop-i.cache.table c.ask_bytes.new.cache.table c.loop-i.invariant.only
      (rw c.loop-i.invariant.told at c.in-Ok.ensures.asks.only);
  counted = c.in-Ok.ensures.asks.counted ∙ c.loop-i.invariant.toks;
}

pub returns-in-Err-clause-asks : goal.returns-in-Err-clause-asks
returns-in-Err-clause-asks g c = record {
  only = only_asks-trans (g.F.Files.told c.args.files.now).held c.args.cache.now.table c.loop-i.cache.table c.ask_bytes.new.cache.table c.loop-i.invariant.only
      (rw c.loop-i.invariant.told at c.in-Err.ensures.asks.only);
  counted = c.in-Err.ensures.asks.counted ∙ c.loop-i.invariant.toks;
}

pub loop-i-preserved : goal.loop-i-preserved
loop-i-preserved g c =
    let path : c.bytes.result.now ≡ get_or c.args.paths.now c.loop-i.i [] =
    c.bytes.ensures ∙ c.index-paths-i.is ∙ get_or-default c.args.paths.now c.loop-i.i c.index-paths-i.result [] c.loop-i-test.true in
    record {
      told = c.in-Ok.ensures.faults.told ∙ c.loop-i.invariant.told;
      answer = λ source found.
          c.loop-i.invariant.answer source (earlier_found source c.loop-i.cache.table c.ask_bytes.new.cache.table c.in-Ok.ensures.asks.only.grown found)
          ∙ search-gone source c.args.paths.now c.loop-i.i c.loop-i.cache.table c.ask_bytes.new.cache.table c.loop-i-test.true
          (subst (λ (p : List ℕ). c.ask_bytes.new.cache.table ≡ asked source p c.loop-i.cache.table) path (c.in-Ok.ensures.answer source found))
          (subst (λ (p : List ℕ). is_missing (found_at p c.ask_bytes.new.cache.table) ≡ true) path (c.in-Ok.ensures.there ∙ ap not c.if-there.false));
      only = only_asks-trans (g.F.Files.told c.args.files.now).held c.args.cache.now.table c.loop-i.cache.table c.ask_bytes.new.cache.table c.loop-i.invariant.only
          (rw c.loop-i.invariant.told at c.in-Ok.ensures.asks.only);
      toks = c.in-Ok.ensures.asks.counted ∙ c.loop-i.invariant.toks;
    }

pub returns-clause-answer : goal.returns-clause-answer
returns-clause-answer g c =
    λ source found. c.loop-i.invariant.answer source found ∙ search-end source c.args.paths.now c.loop-i.i c.loop-i.cache.table c.loop-i-test.false
