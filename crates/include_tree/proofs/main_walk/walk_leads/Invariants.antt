use Rattle.std.proofs.Common.{◌≡◌, None, length}
use Rattle.std.specs.Prelude.{IfSome}
use Rattle.source_files.specs.Answers.{ReadsOn}
use Rattle.source_files.specs.Files.{Source}
use Rattle.source_files.specs.Sources.{source_at}
use Rattle.source_files.specs.Tables.{AreFound}
use Rattle.unit_steps.specs.Moments.{state_in, IsAble}
use Rattle.include_tree.specs.Fronts.{IsAlong}
use Rattle.include_tree.specs.GivenFiles.{unit_context}
use Rattle.include_tree.specs.Leads.{rest_at}
use Rattle.include_tree.proofs.main_walk.walk_leads.Given as goal

-- The items that are left give what all of them give, and the trail goes along.
abbrev pub invariant-loop-k : goal.invariant-loop-k
invariant-loop-k g l = record {
  told : g.F.Files.told l.files ≡ g.F.Files.told l.fn.files;
  rest : (source : Source) → AreFound source l.cache.table → IfSome (source_at l.fn.cache.table l.main) (λ file.
      rest_at (unit_context source l.unit l.fn.cache.toks) file (length l.fn.trail.lines.items) (state_in l.fn.cache.table l.fn.p) l.fn.p.text
      ≡ rest_at (unit_context source l.unit l.fn.cache.toks) file l.k (state_in l.cache.table l.p) l.p.text);
  count : length l.trail.lines.items ≡ l.k;
  along : IsAlong l.unit l.cache.table l.pseudo l.trail (state_in l.cache.table l.p) l.p.text;
  place : l.p.behind ≡ None;
  same : source_at l.cache.table l.main ≡ source_at l.fn.cache.table l.main;
  able : IsAble l.p;
  most : l.p.most ≡ l.fn.p.most;
  cache : ReadsOn (g.F.Files.told l.fn.files).held l.fn.cache l.cache;
}
