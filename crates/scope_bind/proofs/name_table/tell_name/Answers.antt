use Rattle.std.proofs.Common.{◌≡◌, ◌≢◌, ◌+◌, ℕ, get_or, take}
use Rattle.scope_bind.specs.Names.{ArePlaces}
use Rattle.scope_bind.proofs.NameLemmas.{told-more, ok_both}
use Rattle.scope_bind.proofs.name_table.tell_name.Goals as goal

pub returns-in-Some : goal.returns-in-Some
returns-in-Some c =
    ok_both c.tell.result
    (get_or c.tell.new.places.items c.in-Some.name.now.index 0 ≡ c.args.k + 1)
    ((j : ℕ) → j ≢ c.in-Some.name.now.index → get_or c.tell.new.places.items j 0 ≡ get_or c.args.places.now.items j 0)
    (ArePlaces (take c.args.k c.args.names.now) c.args.places.now.items → ArePlaces (take (c.args.k + 1) c.args.names.now) c.tell.new.places.items)
    (told-more c.args.names.now c.args.k c.in-Some.name.now c.args.places.now.items c.tell.new.places.items
    c.in-Some.ensures.lookup.3.0 c.in-Some.ensures.lookup.1)
    c.tell.ensures.here c.tell.ensures.others
