use Rattle.std.proofs.Common.{refl, sym}
use Rattle.trim_plan.proofs.CompareLemmas.{name-none, name-some}
use Rattle.trim_plan.proofs.comparing.is_left_at.Goals as goal

pub returns-in-Some : goal.returns-in-Some
returns-in-Some c = λ passed gone count is.
    name-some gone c.args.old.now.names c.args.new.now.names c.args.k c.args.place c.in-Some.e (c.if-not-is_declaring_alike.ensures refl) (sym c.in-Some.ensures)
    (c.is_denoting.ensures passed gone count is)

pub returns-in-None : goal.returns-in-None
returns-in-None c = λ passed gone count is.
    name-none gone c.args.old.now.names c.args.new.now.names c.args.k c.args.place (c.if-not-is_declaring_alike.ensures refl) (sym c.in-None.ensures)
    (c.is_denoting_none.ensures passed)
