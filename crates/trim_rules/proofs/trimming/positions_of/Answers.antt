use Rattle.std.proofs.Common.{rules, ◌≡◌, ◌+◌, ◌++◌, ◌∷◌, [], List, length, subst, take, arith}
use Rattle.std.proofs.lemmas.List.{take_more, take_all}
use Rattle.cs_base.specs.declared.positions.Pos.{Pos}
use Rattle.trim_rules.specs.Made.{AgreeOn}
use Rattle.trim_rules.proofs.TrimmedLemmas.{agree-none, agree-next}
use Rattle.trim_rules.proofs.trimming.positions_of.Goals as goal
use Rattle.unused_names.specs.Lines.{has_position}

pub loop-p-init : goal.loop-p-init
loop-p-init c = agree-none (has_position c.no_positions-set.result) c.no_positions-set.ensures

pub loop-p-preserved : goal.loop-p-preserved
loop-p-preserved c =
    let lines = c.args.lines.now in
    agree-next (take c.loop-p.p-index lines) (take (c.loop-p.p-index + 1) lines) _ (has_position c.loop-p.set) (has_position c.insert.new.self)
    (take_more lines c.loop-p.p-index _ (omega (arith, c.loop-p-test.true))) c.loop-p.invariant (λ p. c.in_ok-insert.ensures.updates.0 (p.file, p.at))

pub returns : goal.returns
returns c =
    let lines = c.args.lines.now in
    subst (λ (ps : List Pos). AgreeOn (has_position c.loop-p.set) ps) (take_all c.loop-p.p-index lines (omega (arith, c.loop-p-test.false))) c.loop-p.invariant
