use Rattle.std.proofs.Common.{◌∙◌, true, List, refl, sym, ap}
use Rattle.cs_base.specs.Token.{Token}
use Rattle.trim_rules.specs.Held.{first_held_defining, pragma_held}
use Rattle.trim_rules.specs.Staying.{definition, definition_why}
use Rattle.trim_rules.proofs.HeldLemmas.{why-first, why-other}
use Rattle.trim_rules.proofs.unit_reasons.UnitReasons.behind_names.Goals as goal

pub returns-in-Some : goal.returns-in-Some
returns-in-Some c =
    let r = c.args.self.now in
    why-first true (definition_why r.text.now.toks) (first_held_defining r.defining.items c.args.from c.args.to) c.in-Some.j _
    (pragma_held r c.args.k c.args.end) refl (sym (rw c.deref.ensures.value at c.in-Some.ensures))
    (ap definition c.spelling_at.ensures ∙ ap (λ (ts : List Token). definition_why ts c.in-Some.j) c.toks.ensures)

pub returns-in-None : goal.returns-in-None
returns-in-None c =
    let r = c.args.self.now in
    why-other true (definition_why r.text.now.toks) (first_held_defining r.defining.items c.args.from c.args.to)
    (pragma_held r c.args.k c.args.end) _ refl (sym (rw c.deref.ensures.value at c.in-None.ensures)) c.pragma_in.ensures
