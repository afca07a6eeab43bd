use Rattle.std.proofs.Common.{sym, ◌∙◌, ap}
use Rattle.std.specs.Prelude.{[], option_map, unwrap_or}
use Rattle.std.specs.List.{list_any}
use Rattle.std.specs.Rc.{rc_slice_items}
use Rattle.std.specs.Str.{bytes_eq}
use Rattle.cs_base.specs.Token.{Token}
use Rattle.macro_body.specs.Hides.{hides_name}
use Rattle.macro_body.proofs.HideLemmas.{hides-behind, hides-above}
use Rattle.macro_body.proofs.hide_set.HideSet.contains.Goals as goal

pub returns-then-is_among : goal.returns-then-is_among
returns-then-is_among c =
    hides-behind (unwrap_or (option_map rc_slice_items c.self.inside.full) []) (unwrap_or (option_map rc_slice_items c.self.inside.last) []) c.args.self.now c.args.name.now
    c.self.view_is (ap (list_any (λ (t : Token). bytes_eq c.args.name.now t.text)) (sym c.names_in.ensures) ∙ sym c.is_among.ensures ∙ c.if-is_among.true)

pub returns : goal.returns
returns c =
    c.is_in_parts.ensures
    ∙ ap (list_any (λ p. hides_name p c.args.name.now)) c.parts_in.ensures
    ∙ hides-above (unwrap_or (option_map rc_slice_items c.self.inside.full) []) (unwrap_or (option_map rc_slice_items c.self.inside.last) []) c.args.self.now c.args.name.now
    c.self.view_is (ap (list_any (λ (t : Token). bytes_eq c.args.name.now t.text)) (sym c.names_in.ensures) ∙ sym c.is_among.ensures ∙ c.if-is_among.false)
