use Rattle.std.proofs.Common.{◌≡◌, ℕ, length, subst, arith}
use Rattle.trim_rules.specs.Judging.{told_of, unless, Learns}
use Rattle.trim_rules.specs.Numbers.{is_below}
use Rattle.trim_rules.proofs.JudgingLemmas.{header_at, files-begin, files-next}
use Rattle.trim_rules.proofs.judging.Judging.note_files.Goals as goal

pub loop-number-init : goal.loop-number-init
loop-number-init c = files-begin c.args.a.now.value.table (told_of c.args.self.now.whys)

pub loop-number-preserved : goal.loop-number-preserved
loop-number-preserved c =
    files-next c.args.a.now.value.table c.loop-number.number (told_of c.args.self.now.whys) (told_of c.loop-number.self.whys) (told_of c.note_numbered.new.self.whys)
    c.loop-number.invariant c.in_ok-note_numbered.ensures

pub returns : goal.returns
returns c =
    let table = c.args.a.now.value.table in
    let all : c.loop-number.number ≡ length table = omega (arith, c.files-number-end.ensures.answer, c.loop-number-test.false, c.loop-number.auto.number-end) in
    subst (λ (n : ℕ). Learns (λ p w. unless (is_below (header_at table p) n) w) (told_of c.args.self.now.whys) (told_of c.loop-number.self.whys)) all c.loop-number.invariant
