use Rattle.std.proofs.Common.{◌≡◌, ◌<◌, ◌+◌, ℕ, Option, Some, drop, is_some, length, refl, sym, ◌∙◌, ap, arith}
use Rattle.std.specs.Prelude.{slice_get}
use Rattle.cs_base.proofs.ListLemmas.{read_at}
use Rattle.unit_steps.specs.declared.progress.Progress.{Progress}
use Rattle.unit_steps.specs.Texts.{UnitTextValue}
use Rattle.include_tree.specs.Fronts.{trail_texts, with_piece, with_pieces, front_state}
use Rattle.include_tree.proofs.FrontLemmas.{mapped-last, texts-length}
use Rattle.include_tree.proofs.WalkedLemmas.{get-some}
use Rattle.include_tree.proofs.MainLemmas.{put-next, put-end, lines-fit, able-still, room-still}
use Rattle.include_tree.proofs.fronts.put_front.Goals as goal

pub loop-k-init : goal.loop-k-init
loop-k-init c = record { text = refl; state = refl }

pub lead_in-requires : goal.lead_in-requires
lead_in-requires c =
    let fit = lines-fit c.args.front.now.trail.lines.items c.args.leads.now c.requires.lines in
    let less : c.loop-k.k < length c.args.leads.now = omega (arith, fit, c.loop-k-test.true, c.in_ok-count.ensures) in
    ap is_some (get-some c.args.leads.now c.loop-k.k less).1

pub put_piece-requires-clause-able : goal.put_piece-requires-clause-able
put_piece-requires-clause-able c =
    able-still c.args.main c.loop-k.k c.args.leads.now (trail_texts c.args.front.now.trail) c.args.p.now c.loop-k.p c.requires.able c.requires.few c.loop-k.invariant.text c.loop-k.invariant.state

pub put_piece-requires-clause-few : goal.put_piece-requires-clause-few
put_piece-requires-clause-few c =
    let less : c.loop-k.k < length c.args.front.now.trail.pieces.items = omega (arith, texts-length c.args.front.now.trail, c.requires.texts, c.in_ok-count.ensures, c.loop-k-test.true) in
    let at : slice_get (trail_texts c.args.front.now.trail) c.loop-k.k ≡ Some c.deref.result.now =
    mapped-last c.args.front.now.trail.pieces.items c.loop-k.k c.index.result.now (λ r. r.value) (read_at c.args.front.now.trail.pieces.items c.loop-k.k c.index.result.now less c.index.ensures)
    ∙ ap (λ (t : UnitTextValue). Some t) (sym c.deref.ensures) in
    room-still c.args.main c.loop-k.k c.args.leads.now (trail_texts c.args.front.now.trail) c.args.p.now c.loop-k.p c.lead_in.result.now c.deref.result.now c.requires.few c.loop-k.invariant.text c.loop-k.invariant.state
    c.lead_in.ensures at

pub loop-k-preserved : goal.loop-k-preserved
loop-k-preserved c =
    let less : c.loop-k.k < length c.args.front.now.trail.pieces.items = omega (arith, texts-length c.args.front.now.trail, c.requires.texts, c.in_ok-count.ensures, c.loop-k-test.true) in
    let at : slice_get (trail_texts c.args.front.now.trail) c.loop-k.k ≡ Some c.deref.result.now =
    mapped-last c.args.front.now.trail.pieces.items c.loop-k.k c.index.result.now (λ r. r.value) (read_at c.args.front.now.trail.pieces.items c.loop-k.k c.index.result.now less c.index.ensures)
    ∙ ap (λ (t : UnitTextValue). Some t) (sym c.deref.ensures) in
    let text : UnitTextValue = with_piece c.args.main c.loop-k.k c.lead_in.result.now c.deref.result.now c.loop-k.p.text in
    let put = c.in_ok-put_piece.ensures.put in
    let is : text ≡ c.put_piece.new.p.text = sym (ap (λ (p : Progress). p.text) put) in
    record {
      text = c.loop-k.invariant.text
          ∙ put-next c.args.main c.loop-k.k c.args.leads.now (trail_texts c.args.front.now.trail) c.loop-k.p.text c.lead_in.result.now c.deref.result.now c.lead_in.ensures at
          ∙ ap (λ (x : UnitTextValue). with_pieces c.args.main (c.loop-k.k + 1) (drop (c.loop-k.k + 1) c.args.leads.now) (drop (c.loop-k.k + 1) (trail_texts c.args.front.now.trail)) x) is;
      state = put ∙ ap (λ (p : Progress). record p { text = text }) c.loop-k.invariant.state ∙ ap (λ (x : UnitTextValue). record c.args.p.now { text = x }) is;
    }

pub set_end-requires-clause-able : goal.set_end-requires-clause-able
set_end-requires-clause-able c =
    able-still c.args.main c.loop-k.k c.args.leads.now (trail_texts c.args.front.now.trail) c.args.p.now c.loop-k.p c.requires.able c.requires.few c.loop-k.invariant.text c.loop-k.invariant.state

pub returns-clause-goes_on : goal.returns-clause-goes_on
returns-clause-goes_on c = record {
  able = c.in_ok-set_end.ensures.goes_on.able;
  most = c.in_ok-set_end.ensures.goes_on.most ∙ ap (λ (p : Progress). p.most) c.loop-k.invariant.state;
}

pub returns-clause-text : goal.returns-clause-text
returns-clause-text c =
    c.in_ok-set_end.ensures.text
    ∙ sym (c.loop-k.invariant.text ∙ put-end c.args.main c.loop-k.k c.args.leads.now (trail_texts c.args.front.now.trail) c.loop-k.p.text
    (omega (arith, c.requires.texts, c.in_ok-count.ensures, c.loop-k-test.false)))

pub returns-clause-state : goal.returns-clause-state
returns-clause-state c = λ table.
    c.in_ok-set_end.ensures.state table
    ∙ ap (λ (x : UnitTextValue). record (front_state table c.args.front.now) { before = length x.toks; behind = c.loop-k.p.behind }) (sym c.in_ok-set_end.ensures.text)
    ∙ ap (λ (b : Option ℕ). record (front_state table c.args.front.now) { before = length c.set_end.new.p.text.toks; behind = b }) (ap (λ (p : Progress). p.behind) c.loop-k.invariant.state)
