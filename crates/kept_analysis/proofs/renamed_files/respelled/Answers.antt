use Rattle.std.proofs.Common.{ℕ, List, refl, sym, ap, ◌∙◌}
use Rattle.analysis.specs.Below.lexer.Places.{pos}
use Rattle.kept_analysis.specs.Edits.{stands_at}
use Rattle.offences.specs.Moves.{put_by}
use Rattle.kept_analysis.proofs.ByteLemmas.{editing_is, made_none, made_end, made_character, made_other}
use Rattle.kept_analysis.proofs.renamed_files.respelled.Goals as goal
use Rattle.kept_analysis.proofs.renamed_files.respelled.Goals.{then-stands_at+in_ok-push_put, else-stands_at+in_ok-push}

pub loop-offset-init : goal.loop-offset-init
loop-offset-init c = rw c.new-out.ensures.items (made_none (λ at b. put_by c.args.moves.now (pos c.args.number at) b) c.args.bytes.now)

pub loop-offset-preserved : goal.loop-offset-preserved
loop-offset-preserved c =
    let put : ℕ → ℕ → List ℕ = λ at b. put_by c.args.moves.now (pos c.args.number at) b in
    elim c.if-stands_at.branch [
      | then-stands_at+in_ok-push_put w ↦
          rw (w.out-is, w.at-is)
          (made_character put c.args.bytes.now c.loop-offset.out.items w.push_put.new.out.items c.loop-offset.offset c.loop-offset.at _ c.loop-offset-test.true refl
          (ap (λ (bs : List ℕ). stands_at bs c.loop-offset.at c.loop-offset.offset) c.requires ∙ (sym c.stands_at.ensures.answer ∙ w.if-stands_at.true)) w.in_ok-push_put.ensures c.loop-offset.invariant)
      | else-stands_at+in_ok-push w ↦
          rw (w.out-is, w.at-is)
          (made_other put c.args.bytes.now c.loop-offset.out.items w.push.new.self.items c.loop-offset.offset c.loop-offset.at _ c.loop-offset-test.true refl
          (ap (λ (bs : List ℕ). stands_at bs c.loop-offset.at c.loop-offset.offset) c.requires ∙ (sym c.stands_at.ensures.answer ∙ w.if-stands_at.false)) w.in_ok-push.ensures.items c.loop-offset.invariant)
    ]

pub returns : goal.returns
returns c =
    made_end (λ at b. put_by c.args.moves.now (pos c.args.number at) b) c.args.bytes.now c.loop-offset.out.items c.loop-offset.offset c.loop-offset.at c.loop-offset-test.false c.loop-offset.invariant
    ∙ editing_is c.args.moves.now c.args.number c.args.bytes.now
