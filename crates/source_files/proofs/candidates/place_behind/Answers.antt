use Rattle.std.proofs.Common.{◌≡◌, Some, None, drop, length, ◌-◌, max, sym, ap, ◌∙◌, rules}
use Rattle.source_files.specs.Search.{places_from, behind_in}
use Rattle.source_files.proofs.CandidateLemmas.{places-behind, behind-front, behind-back}
use Rattle.source_files.proofs.candidates.place_behind.Goals as goal

pub returns-in-Some : goal.returns-in-Some
returns-in-Some c =
    let name = c.args.name.now in
    let path = c.args.path.now in
    let passed = c.args.passed in
    let u = c.args.unit.now in
    let there : behind_in name path (places_from passed (drop passed u.qpath)) ≡ Some c.in-Some.k = search rules in
    let found = behind-front name path c.in-Some.k (places_from passed (drop passed u.qpath)) (places_from (max passed (length u.qpath)) (drop (passed - length u.qpath) u.ipath)) there in
    sym (ap (behind_in name path) (places-behind passed u.qpath u.ipath) ∙ found)

pub returns-in_ok-later-in-None : goal.returns-in_ok-later-in-None
returns-in_ok-later-in-None c =
    let name = c.args.name.now in
    let path = c.args.path.now in
    let passed = c.args.passed in
    let u = c.args.unit.now in
    let none : behind_in name path (places_from passed (drop passed u.qpath)) ≡ None = search rules in
    let left = behind-back name path (places_from passed (drop passed u.qpath)) (places_from (max passed (length u.qpath)) (drop (passed - length u.qpath) u.ipath)) none in
    let later : c.in_ok-later-in-None.later ≡ behind_in name path (places_from (max passed (length u.qpath)) (drop (passed - length u.qpath) u.ipath)) = search rules in
    later ∙ sym (ap (behind_in name path) (places-behind passed u.qpath u.ipath) ∙ left)
