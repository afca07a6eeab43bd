use Rattle.std.proofs.Common.{◌≡◌, ◌&&◌, map, length}
use Rattle.std.specs.Prelude.{IfSome, IsTrue}
use Rattle.std.specs.List.{list_all}
use Rattle.source_files.specs.Answers.{ReadsOn}
use Rattle.source_files.specs.Files.{Source}
use Rattle.source_files.specs.Sources.{source_at}
use Rattle.source_files.specs.Tables.{AreFound}
use Rattle.unit_steps.specs.Below.macro_body.Sound.{is_traced, is_low}
use Rattle.unit_steps.specs.Keeping.{kept_after}
use Rattle.unit_steps.specs.Moments.{state_in, IsAble}
use Rattle.unit_steps.specs.Questions.{is_sound, question_of}
use Rattle.include_tree.specs.Asking.{looked}
use Rattle.include_tree.specs.GivenFiles.{unit_context}
use Rattle.include_tree.proofs.AskingLemmas.{behind}
use Rattle.include_tree.proofs.asking.looked.Given as goal

-- The pieces that are left give what all of them give, behind the tokens that stand for the others.
abbrev pub invariant-pieces : goal.invariant-pieces
invariant-pieces g l = record {
  told : g.F.Files.told l.files ≡ g.F.Files.told l.fn.files;
  answer : (source : Source) → AreFound source l.cache.table → IfSome (source_at l.fn.cache.table l.number) (λ file.
      kept_after l.fn.p.text (looked (unit_context source l.unit l.fn.cache.toks) file l.at (map question_of l.fn.questions) (state_in l.fn.cache.table l.fn.p))
      ≡ behind l.out.items (kept_after l.p.text (looked (unit_context source l.unit l.fn.cache.toks) file l.at (map question_of l.rest) (state_in l.cache.table l.p))));
  same : source_at l.cache.table l.number ≡ source_at l.fn.cache.table l.number;
  able : IsAble l.p;
  most : l.p.most ≡ l.fn.p.most;
  cache : ReadsOn (g.F.Files.told l.fn.files).held l.fn.cache l.cache;
  sound : IsTrue (list_all is_sound (map question_of l.fn.questions)) → IsTrue (list_all (λ t. is_traced t && is_low t) l.out.items) × IsTrue (list_all is_sound (map question_of l.rest));
}

abbrev pub decreases-pieces : goal.decreases-pieces
decreases-pieces g l = length l.rest
