use Rattle.std.proofs.Common.{Ok, Err, refl, sym, ap, ◌∙◌}
use Rattle.cs_base.specs.Units.{is_gnu}
use Rattle.unit_steps.specs.SourceTexts.{source_in}
use Rattle.unit_steps.specs.Moments.{state_in}
use Rattle.unit_steps.specs.Keeping.{put_after}
use Rattle.include_tree.specs.Walk.{processed}
use Rattle.include_tree.proofs.WalkingLemmas.{include-step, define-step, pragma-step, processed-rest, line-stopped}
use Rattle.include_tree.proofs.item_steps.processed.Goals as goal

pub returns-in_ok-header-in-Include-clause-answer : goal.returns-in_ok-header-in-Include-clause-answer
returns-in_ok-header-in-Include-clause-answer c = λ ctx inner table limit standard.
    include-step ctx inner (source_in c.args.file.now) c.args.item.now.kind c.args.item.now.at c.args.item.now.toks.now c.behind_word.result.now (state_in table c.args.p.now)
    c.args.p.now.text c.header_named.new.self.text c.in_ok-header-in-Include.header (state_in table c.header_named.new.self) c.in-Include.is c.behind_word.ensures
    (c.in_ok-header-in-Include.ensures.answer table)

pub returns-in_ok-define-in-Define-clause-answer : goal.returns-in_ok-define-in-Define-clause-answer
returns-in_ok-define-in-Define-clause-answer c = λ ctx inner table limit standard.
    define-step ctx inner (source_in c.args.file.now) c.args.item.now.kind c.args.item.now.at c.args.item.now.toks.now (state_in table c.args.p.now) c.args.p.now.text
    (Ok tt) (state_in table c.define.new.self) c.define.new.self.text c.is_gnu.result c.in-Define.is (c.is_gnu.ensures ∙ ap is_gnu (sym standard))
    (c.in_ok-define-in-Define.ensures.answer table)

pub returns-in_err-define-in-Define-clause-answer : goal.returns-in_err-define-in-Define-clause-answer
returns-in_err-define-in-Define-clause-answer c = λ ctx inner table limit standard.
    let e = c.in_err-define-in-Define.field-0.0 in
    let file = source_in c.args.file.now in
    let item = c.args.item.now in
    let s = state_in table c.args.p.now in
    let t = state_in table c.define.new.self in
    line-stopped ctx inner file e c.from_residual-in_err-define-in-Define.result t c.define.new.self.text (put_after c.args.p.now.text (processed ctx inner file item.kind item.at item.toks.now s))
    c.from_residual-in_err-define-in-Define.ensures.1
    (define-step ctx inner file item.kind item.at item.toks.now s c.args.p.now.text (Err e) t c.define.new.self.text c.is_gnu.result c.in-Define.is (c.is_gnu.ensures ∙ ap is_gnu (sym standard))
    (c.in_err-define-in-Define.ensures.answer table))

pub returns-in_ok-pragma-in-Pragma-clause-answer : goal.returns-in_ok-pragma-in-Pragma-clause-answer
returns-in_ok-pragma-in-Pragma-clause-answer c = λ ctx inner table limit standard.
    pragma-step ctx inner (source_in c.args.file.now) c.args.item.now.kind c.args.item.now.at c.args.item.now.toks.now (state_in table c.args.p.now) c.args.p.now.text
    (Ok (state_in table c.pragma.new.self, c.pragma.new.self.text)) c.is_gnu-in-Pragma.result c.in-Pragma.is (c.is_gnu-in-Pragma.ensures ∙ ap is_gnu (sym standard))
    (c.in_ok-pragma-in-Pragma.ensures.answer table)

pub returns-in_default : goal.returns-in_default
returns-in_default c = record {
  goes_on = record { able = c.requires.able; most = refl };
  no_read = tt;
  sound = tt;
  answer = λ ctx inner table limit standard.
      processed-rest ctx inner (source_in c.args.file.now) c.args.item.now.kind c.args.item.now.at c.args.item.now.toks.now (state_in table c.args.p.now) c.args.p.now.text
      c.in_default.not-Run c.in_default.not-Define c.in_default.not-Undef c.in_default.not-Include c.in_default.not-Error c.in_default.not-Bad c.in_default.not-Gnu c.in_default.not-Pragma;
}
