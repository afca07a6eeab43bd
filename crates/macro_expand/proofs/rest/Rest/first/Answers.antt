use Rattle.std.proofs.Common.{◌∙◌, ◌-◌, List, length, reverse, sym, ap}
use Rattle.std.specs.Option.{option_map, option_copied}
use Rattle.std.specs.Prelude.{slice_get}
use Rattle.macro_body.specs.Hides.{Hidden}
use Rattle.macro_expand.specs.declared.rest.Frame.{Frame}
use Rattle.macro_expand.specs.Following.{first_of}
use Rattle.macro_expand.specs.Frames.{lent_toks}
use Rattle.macro_expand.proofs.FrameLemmas.{first_below}
use Rattle.macro_expand.proofs.rest.Rest.first.Goals as goal

pub returns-in-Some-last : goal.returns-in-Some-last
returns-in-Some-last c =
    c.last_tok.ensures
    ∙ ap (λ (xs : List Hidden). option_map (λ (h : Hidden). h.tok) (first_of (reverse xs))) c.deref-in-Some-last.ensures.value
    ∙ first_below c.self.inside.names c.self.inside.toks.items c.self.inside.below.items c.in-Some-last.frame.now (lent_toks c.self.inside.lent) c.args.self.now c.self.view_is
    (sym (ap (λ (xs : List Hidden). slice_get xs (length xs - 1)) c.deref.ensures.value) ∙ sym c.last.ensures.value ∙ ap option_copied c.in-None.is)
    (sym (ap (λ (xs : List Frame). slice_get xs (length xs - 1)) c.deref-in-None.ensures.value) ∙ sym c.last-in-None.ensures.value ∙ ap option_copied c.in-Some-last.is)
    c.self.invariant
