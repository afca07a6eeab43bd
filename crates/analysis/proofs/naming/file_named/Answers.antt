use Rattle.std.proofs.Common.{◌+◌, ◌<◌, ◌≤◌, Bool, cond, drop, length, sym, ap, ◌∙◌, arith}
use Rattle.include_tree.specs.Below.source_files.KeptFiles.{kept_at}
use Rattle.analysis.specs.Naming.{file_named}
use Rattle.analysis.proofs.PlaceNameLemmas.{named_here, named_past}
use Rattle.analysis.proofs.naming.file_named.Goals as goal

pub returns-then-is_path : goal.returns-then-is_path
returns-then-is_path c =
    let table = c.args.a.now.table in
    let path = c.args.path.now in
    let n = c.loop-number.number in
    let within : n < length table = omega (arith, c.loop-number-test.true, c.files-number-end.ensures.answer) in
    let step = named_here path table n c.is_path.result within c.is_path.ensures in
    let chosen = ap (λ (b : Bool). cond b (kept_at table n) (file_named path (n + 1) (drop (n + 1) table))) c.if-is_path.true in
    c.file.ensures ∙ sym (c.loop-number.invariant ∙ step ∙ chosen)

pub loop-number-preserved : goal.loop-number-preserved
loop-number-preserved c =
    let table = c.args.a.now.table in
    let path = c.args.path.now in
    let n = c.loop-number.number in
    let within : n < length table = omega (arith, c.loop-number-test.true, c.files-number-end.ensures.answer) in
    let step = named_here path table n c.is_path.result within c.is_path.ensures in
    let passed = ap (λ (b : Bool). cond b (kept_at table n) (file_named path (n + 1) (drop (n + 1) table))) c.if-is_path.false in
    c.loop-number.invariant ∙ step ∙ passed

pub returns : goal.returns
returns c =
    let past : length c.args.a.now.table ≤ c.loop-number.number = omega (arith, c.loop-number-test.false, c.files-number-end.ensures.answer) in
    sym (c.loop-number.invariant ∙ named_past c.args.path.now c.args.a.now.table c.loop-number.number past)
