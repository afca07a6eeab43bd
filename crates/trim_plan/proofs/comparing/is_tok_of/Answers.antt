use Rattle.std.proofs.Common.{Some, sym}
use Rattle.trim_plan.specs.Trimmed.{plain}
use Rattle.trim_plan.proofs.CompareLemmas.{tok-left}
use Rattle.trim_plan.proofs.comparing.is_tok_of.Goals as goal

pub returns-in-Some : goal.returns-in-Some
returns-in-Some c = λ passed gone count is.
    tok-left gone count c.args.left.now c.args.new.now c.args.k c.in-Some.place (Some (plain c.args.tok.now)) is (sym c.in-Some.ensures) (c.is_tok_at.ensures passed)
