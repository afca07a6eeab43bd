use Rattle.std.proofs.Common.{◌∙◌, ◌++◌, ◌≤◌, ℕ, List, map, ap, sym, arith}
use Rattle.std.specs.Prelude.{slice_range}
use Rattle.std.specs.List.{flat_map}
use Rattle.std.proofs.lemmas.List.{append-nil, append_assoc}
use Rattle.line_diff.specs.FileText.{entry_text}
use Rattle.line_diff.specs.Hunks.{gets}
use Rattle.line_diff.specs.Pairs.{gain_at, texts_of}
use Rattle.line_diff.proofs.TellingLemmas.{gains-more, gains-none}
use Rattle.line_diff.proofs.entries.push_gains.Goals as goal

pub loop-j-init : goal.loop-j-init
loop-j-init c =
    sym (append-nil c.args.text.now.items) ∙ ap (λ (t : List ℕ). c.args.text.now.items ++ t) (sym (gains-none c.args.news.now c.args.from))

pub loop-j-preserved : goal.loop-j-preserved
loop-j-preserved c =
    let le : c.args.from ≤ c.loop-j.j = omega arith in
    let start = c.args.text.now.items in
    let told = flat_map entry_text (map gets (slice_range (texts_of c.args.news.now) c.args.from c.loop-j.j)) in
    let one = flat_map entry_text (gain_at c.args.news.now c.loop-j.j) in
    c.in_ok-push_gain.ensures ∙ ap (λ (t : List ℕ). t ++ one) c.loop-j.invariant ∙ append_assoc start told one
    ∙ ap (λ (t : List ℕ). start ++ t) (sym (gains-more c.args.news.now c.args.from c.loop-j.j le))
