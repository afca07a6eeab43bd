use Rattle.std.proofs.Common.{◌≡◌, Bool, true, false, ◌&&◌, sym, ap, ◌∙◌}
use Rattle.line_shape.specs.Signs.{is_name, is_ellipsis}
use Rattle.macro_body.proofs.DefiningLemmas.{rest-last, rest-short}
use Rattle.macro_body.proofs.define_line.has_named_rest.Goals as goal

pub returns-in_default : goal.returns-in_default
returns-in_default c = sym (rest-short c.args.list.now c.in_default.len_below)

pub returns-then-is_ellipsis : goal.returns-then-is_ellipsis
returns-then-is_ellipsis c =
    let t = c.name-item.result in
    let u = c.last-item.result in
    let ends : is_ellipsis u ≡ true = sym c.is_ellipsis.ensures ∙ c.if-is_ellipsis.true in
    c.is_name.ensures ∙ sym (ap (λ (b : Bool). b && is_name t) ends)
    ∙ sym (rest-last c.args.list.now t u c.in-len2-up.len_at_least c.name-item.is c.last-item.is)

pub returns-else-is_ellipsis : goal.returns-else-is_ellipsis
returns-else-is_ellipsis c =
    let t = c.name-item.result in
    let u = c.last-item.result in
    let other : is_ellipsis u ≡ false = sym c.is_ellipsis.ensures ∙ c.if-is_ellipsis.false in
    c.if-is_ellipsis.false ∙ sym (ap (λ (b : Bool). b && is_name t) other)
    ∙ sym (rest-last c.args.list.now t u c.in-len2-up.len_at_least c.name-item.is c.last-item.is)
