use Rattle.std.proofs.Common.{ℕ, ◌≡◌, length, Ok, Err, ap, ◌∙◌, arith}
use Rattle.c99_grammar.specs.Items.{scope}
use Rattle.c99_read.specs.Reading.{Step}
use Rattle.c99_grammar.specs.Standard.{Grammar, grammar}
use Rattle.c99_read.specs.State.{State, acted}
use Rattle.c99_read.proofs.reader.Reader.again.Goals as goal

kept_in : Step → ℕ
kept_in (Ok s) = length s.names.kept
kept_in (Err stop) = 0

begun : (g : Grammar) (old new : State) → ◌≡◌ {A = Step} (Ok (acted g scope old)) (Ok new) → length old.names.kept ≡ length new.names.kept
unfolding acted kept_in
begun g old new e = ap kept_in e

pub kept_at-kept-requires : goal.kept_at-kept-requires
kept_at-kept-requires c =
    let here = ap (λ r. length r.state.names.kept) c.self-in-names.view_is ∙ ap (λ s. length s.names.kept) c.names.invariant.1 in
    let before = ap (λ r. length r.state.names.kept) c.self.view_is in
    let all = begun (grammar c.args.dialect) c.args.self.now.state _ c.in_ok-begin_scope.ensures.answer in
    omega (arith, here, before, all, c.kept_len-count.ensures, c.names-test.true)
