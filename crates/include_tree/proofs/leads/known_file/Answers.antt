use Rattle.std.proofs.Common.{◌≡◌, ℕ, ◌+◌, ◌∷◌, List, Some, drop, sym, ap, subst, ◌∙◌}
use Rattle.cs_base.proofs.ListLemmas.{read_at, drop-some}
use Rattle.include_tree.specs.Leads.{IsKnownFile}
use Rattle.include_tree.proofs.LeadLemmas.{absent-known}
use Rattle.include_tree.proofs.leads.known_file.Goals as goal

pub loop-k-init : goal.loop-k-init
loop-k-init c = λ n h. h

pub loop-k-preserved : goal.loop-k-preserved
loop-k-preserved c =
    let path = c.bytes.result.now in
    let next : drop c.loop-k.k c.args.paths.now ≡ path ∷ drop (c.loop-k.k + 1) c.args.paths.now =
    drop-some c.args.paths.now c.loop-k.k path (read_at c.args.paths.now c.loop-k.k c.index-paths-k.result c.loop-k-test.true c.index-paths-k.is ∙ ap (λ (p : List ℕ). Some p) (sym c.bytes.ensures)) in
    λ n h.
    c.loop-k.invariant n
    (subst (λ (ps : List (List ℕ)). IsKnownFile c.args.cache.now.table ps n) (sym next)
    (absent-known path c.args.cache.now.table n (drop (c.loop-k.k + 1) c.args.paths.now) c.in-Absent.ensures h))

pub returns-in-Kept : goal.returns-in-Kept
returns-in-Kept c =
    let path = c.bytes.result.now in
    let next : drop c.loop-k.k c.args.paths.now ≡ path ∷ drop (c.loop-k.k + 1) c.args.paths.now =
    drop-some c.args.paths.now c.loop-k.k path (read_at c.args.paths.now c.loop-k.k c.index-paths-k.result c.loop-k-test.true c.index-paths-k.is ∙ ap (λ (p : List ℕ). Some p) (sym c.bytes.ensures)) in
    c.loop-k.invariant c.in-Kept.number
    (subst (λ (ps : List (List ℕ)). IsKnownFile c.args.cache.now.table ps c.in-Kept.number) (sym next) (c.in-Kept.ensures (drop (c.loop-k.k + 1) c.args.paths.now)))
