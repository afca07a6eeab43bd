use Rattle.std.proofs.Common.{List, sym, subst}
use Rattle.unit_steps.specs.Moments.{state_in}
use Rattle.include_tree.specs.declared.fronts.Front.{Front}
use Rattle.include_tree.specs.declared.fronts.Trail.{Trail}
use Rattle.include_tree.specs.Fronts.{IsAlong, AreFronts}
use Rattle.include_tree.proofs.FrontLemmas.{fronts-push}
use Rattle.include_tree.proofs.AlongLemmas.{keep-front}
use Rattle.include_tree.proofs.fronts.Fronts.add.Goals as goal

pub returns : goal.returns
returns c = λ table along fronts.
    let f : Front = c.in_ok-front.front in
    let goes : IsAlong c.args.unit.now table c.args.pseudo f.trail (state_in table c.args.p.now) c.args.p.now.text =
    subst (λ (t : Trail). IsAlong c.args.unit.now table c.args.pseudo t (state_in table c.args.p.now) c.args.p.now.text) (sym c.in_ok-front.ensures.trail) along in
    subst (λ (fs : List Front). AreFronts table fs) (sym c.in_ok-push.ensures.items)
    (fronts-push table c.args.self.now.all.items f fronts
    (keep-front c.args.unit.now table c.args.pseudo (state_in table c.args.p.now) c.args.p.now.text f c.in_ok-front.ensures.start goes (c.in_ok-front.ensures.state table)
    c.in_ok-front.ensures.little c.in_ok-front.ensures.traced))
