use Rattle.std.proofs.Common.{◌++◌, ◌∙◌, List, ap, refl}
use Rattle.cs_base.specs.declared.positions.Part.{Part}
use Rattle.unseen_names.specs.Unseen.{unseen_lines}
use Rattle.unseen_names.proofs.UnseenLemmas.{on_ok_then}
use Rattle.unseen_names.proofs.place_lines.push_unseen.Goals as goal

pub returns : goal.returns
returns c =
    let a = c.args.a.now.value in
    let part = c.args.part in
    let places = c.in_ok-places.places.items in
    on_ok_then c.push_lines.result _ _ c.push_lines.ensures
    (λ is. (
      unseen_lines a part places,
      record { places = places; are_unseen = c.in_ok-places.ensures; lines = refl },
      is ∙ ap (λ (ps : List Part). c.args.text.now.items ++ unseen_lines a part ps) c.deref.ensures.value,
    ))
