use Rattle.std.proofs.Common.{◌≡◌, ℕ, List, ◌++◌, ◌-◌, drop, length, filter, map, ap, ◌∙◌, append_assoc, rules}
use Rattle.cs_base.specs.Paths.{joined_path_of}
use Rattle.source_files.specs.Search.{can_be_asked}
use Rattle.source_files.proofs.CandidateLemmas.{paths-behind}
use Rattle.source_files.proofs.candidates.add_behind.Goals as goal

pub returns : goal.returns
returns c =
    let name = c.args.name.now in
    let passed = c.args.passed in
    let u = c.args.unit.now in
    let all = c.args.all.now.items in
    let front : List (List ℕ) = filter can_be_asked (map (λ d. joined_path_of d name) (drop passed u.qpath)) in
    let back : List (List ℕ) = filter can_be_asked (map (λ d. joined_path_of d name) (drop (passed - length u.qpath) u.ipath)) in
    let first : c.add_candidates.new.all.items ≡ all ++ front = search rules in
    let second : c.add_candidates-2.new.all.items ≡ c.add_candidates.new.all.items ++ back = search rules in
    second ∙ ap (λ (paths : List (List ℕ)). paths ++ back) first ∙ append_assoc all front back
    ∙ ap (λ (paths : List (List ℕ)). all ++ paths) (paths-behind name passed u.qpath u.ipath)
