use Rattle.std.proofs.Common.{◌≡◌, false, List, ◌++◌, ◌∷◌, [], is_some, ◌∙◌, sym, ap}
use Rattle.std.specs.Str.{bytes_eq}
use Rattle.indexmap.proofs.CallerLemmas.{insert_entry-new}
use Rattle.cs_base.specs.Token.{Token}
use Rattle.unit_steps.specs.Names.{spelled_in}
use Rattle.unit_steps.specs.FirstNames.{names_of, rows_of}
use Rattle.unit_steps.proofs.FirstNamesLemmas.{find-none, names-push, names-added, are_spelled-push}
use Rattle.unit_steps.proofs.first_names.FirstNames.add.Goals as goal

new : (c : goal.Joined-branch-4) → is_some (spelled_in (names_of (rows_of (λ k. k.items) c.self.inside.names.entries)) c.args.name.now.text) ≡ false
new c =
    let none : is_some (spelled_in c.args.self.now c.args.name.now.text) ≡ false =
    ap (λ (n : List _). is_some (spelled_in c.args.self.now n)) (sym c.text.ensures.answer) ∙ sym c.has.ensures ∙ c.if-has.false in
    rw (← c.self.view_is) at none

entries : (c : goal.Joined-branch-4) → c.insert.new.self.entries ≡ c.self.inside.names.entries ++ (c.in_ok-key.key, c.in_ok-shared.field-0) ∷ []
entries c =
    c.in_ok-insert.ensures.entries
    ∙ insert_entry-new (λ x y. bytes_eq x.items y.items) c.self.inside.names c.in_ok-key.key c.in_ok-shared.field-0
    (find-none (λ k. k.items) c.args.name.now.text c.in_ok-key.key.items c.self.inside.names.entries c.self.invariant (c.in_ok-key.ensures.items ∙ c.text-2.ensures.answer) (new c))

pub invariant_of-self-2 : goal.invariant_of-self-2
invariant_of-self-2 c =
    are_spelled-push (λ k. k.items) c.self.inside.names.entries c.insert.new.self.entries c.in_ok-key.key c.in_ok-shared.field-0 (entries c) c.self.invariant
    (c.in_ok-key.ensures.items ∙ c.text-2.ensures.answer ∙ ap (λ (t : Token). t.text) (sym c.in_ok-shared.ensures))

pub returns : goal.returns
returns c =
    rw (← c.self.view_is)
    (names-push (λ k. k.items) c.self.inside.names.entries c.insert.new.self.entries c.in_ok-key.key c.in_ok-shared.field-0 (entries c)
    ∙ names-added (names_of (rows_of (λ k. k.items) c.self.inside.names.entries)) c.in_ok-shared.field-0 c.args.name.now (new c) c.in_ok-shared.ensures)
