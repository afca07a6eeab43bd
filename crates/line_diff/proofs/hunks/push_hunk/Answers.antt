use Rattle.std.proofs.Common.{◌∙◌, ◌++◌, ◌-◌, ℕ, List, [], min, length, ap, sym}
use Rattle.std.specs.Prelude.{codes, slice_range}
use Rattle.std.specs.List.{flat_map}
use Rattle.std.proofs.lemmas.List.{append_assoc}
use Rattle.line_diff.specs.FileText.{entry_text, range_text}
use Rattle.line_diff.specs.Hunks.{entries_of}
use Rattle.line_diff.specs.Pairs.{rows_in}
use Rattle.line_diff.proofs.PushLemmas.{hunk-text}
use Rattle.line_diff.proofs.hunks.push_hunk.Goals as goal

pub returns : goal.returns
returns c =
    let olds = c.args.olds.now in
    let news = c.args.news.now in
    let k = c.args.k in
    let end = c.args.end in
    let start = c.args.text.now.items in
    let ranges : List ℕ = codes "@@ -" ++ range_text (min k (length olds)) (min end (length olds) - min k (length olds))
    ++ codes " +" ++ range_text (min k (length news)) (min end (length news) - min k (length news)) ++ codes " @@\n" in
    let entries : List ℕ = flat_map entry_text (entries_of [] (slice_range (rows_in olds news) k end)) in
    c.in_ok-push_entries.ensures ∙ ap (λ (t : List ℕ). t ++ entries) c.in_ok-push_ranges.ensures ∙ append_assoc start ranges entries
    ∙ ap (λ (t : List ℕ). start ++ t) (sym (hunk-text olds news k end c.requires.in_order))
