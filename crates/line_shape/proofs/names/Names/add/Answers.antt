use Rattle.std.proofs.Common.{◌≡◌, ◌∷◌, ◌++◌, [], false, map, refl, sym, ◌∙◌}
use Rattle.std.specs.Str.{bytes_eq}
use Rattle.std.specs.List.{list_any}
use Rattle.line_shape.proofs.NameLemmas.{list_any-map, map-push}
use Rattle.line_shape.proofs.names.Names.add.Goals as goal

pub returns : goal.returns
returns c =
    let absent = sym c.contains.ensures ∙ c.if-contains.false in
    let keys = c.self.inside.names.keys in
    let key = c.in_ok-from_slice.field-0 in
    let nowhere : list_any (λ k. bytes_eq c.args.name.now k.items) keys ≡ false =
    list_any-map (λ k. k.items) (bytes_eq c.args.name.now) keys ∙ rw (← c.self.view_is) at absent in
    let new : list_any (λ k. bytes_eq key.items k.items) keys ≡ false = rw c.in_ok-from_slice.ensures.items nowhere in
    let pushed = map-push (λ k. k.items) keys c.insert.new.self.keys key (rw new at c.in_ok-insert.ensures.keys) in
    let names : map (λ k. k.items) keys ++ key.items ∷ [] ≡ c.args.self.now ++ c.args.name.now ∷ [] =
    rw (← c.self.view_is, c.in_ok-from_slice.ensures.items) refl in
    (absent, pushed ∙ names)
