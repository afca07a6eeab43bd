use Rattle.std.proofs.Common.{ℕ, Bool, List, map, ◌∙◌, ap, is_some}
use Rattle.cs_base.specs.Token.{Token}
use Rattle.source_files.specs.Answers.{fault_of}
use Rattle.source_files.specs.Files.{SourceFile}
use Rattle.source_files.specs.Sources.{source_at}
use Rattle.source_files.proofs.TableLemmas.{earlier_found, reads-trans}
use Rattle.unit_steps.specs.Moments.{state_in}
use Rattle.unit_steps.specs.Questions.{question_of}
use Rattle.unit_steps.specs.State.{State, Outcome}
use Rattle.include_tree.specs.Asking.{looked, gnu_asked}
use Rattle.include_tree.specs.GivenFiles.{unit_context}
use Rattle.include_tree.proofs.StayingLemmas.{source-same}
use Rattle.include_tree.proofs.AskingLemmas.{then-gives, then-stops}
use Rattle.include_tree.proofs.asking.condition_holds.Goals as goal

pub asked_holds-requires-clause-kept : goal.asked_holds-requires-clause-kept
asked_holds-requires-clause-kept g c =
    ap is_some (source-same c.args.cache.now.table c.looked.new.cache.table c.args.number c.in-Ok.ensures.reads.grown c.requires.kept) ∙ c.requires.kept

pub returns-in-Ok-clause-answer : goal.returns-in-Ok-clause-answer
returns-in-Ok-clause-answer g c =
    let same = source-same c.args.cache.now.table c.looked.new.cache.table c.args.number c.in-Ok.ensures.reads.grown c.requires.kept in
    let qs = map question_of c.args.line.now.questions.items in
    λ source found.
    let asked : SourceFile → Outcome (List Token) = λ file. looked (unit_context source c.args.unit.now c.args.cache.now.toks) file c.args.line.now.at qs (state_in c.args.cache.now.table c.args.p.now) in
    let next : ℕ → SourceFile → List Token → State → Outcome Bool = λ n file. gnu_asked (unit_context source c.args.unit.now n) file c.args.line.now.at in
    then-gives (source_at c.args.cache.now.table c.args.number) (source_at c.looked.new.cache.table c.args.number) c.args.cache.now.toks c.looked.new.cache.toks asked next
    c.args.p.now.text c.looked.new.p.text c.asked_holds.new.p.text c.in-Ok.toks.items (state_in c.looked.new.cache.table c.looked.new.p)
    (state_in c.asked_holds.new.cache.table c.asked_holds.new.p) c.asked_holds.result c.in-Ok.ensures.reads.counted same
    (rw c.as_slice.ensures.value at (c.in-Ok.ensures.answer source (earlier_found source c.looked.new.cache.table c.asked_holds.new.cache.table c.asked_holds.ensures.reads.grown found)))
    (rw c.as_slice-in-Ok.ensures.value at (c.asked_holds.ensures.answer source found))

pub returns-in-Err-clause-answer : goal.returns-in-Err-clause-answer
returns-in-Err-clause-answer g c =
    let qs = map question_of c.args.line.now.questions.items in
    λ source found.
    let ctx = unit_context source c.args.unit.now c.args.cache.now.toks in
    then-stops (source_at c.args.cache.now.table c.args.number) (λ file. looked ctx file c.args.line.now.at qs (state_in c.args.cache.now.table c.args.p.now)) (λ file. gnu_asked ctx file c.args.line.now.at)
    c.args.p.now.text (fault_of c.in-Err.fault) (rw c.as_slice.ensures.value at (c.in-Err.ensures.answer source found))

pub returns-in-Ok-clause-reads : goal.returns-in-Ok-clause-reads
returns-in-Ok-clause-reads g c =
    reads-trans (g.F.Files.told c.args.files.now).held (g.F.Files.told c.looked.new.files).held c.args.cache.now c.looked.new.cache c.asked_holds.new.cache c.in-Ok.ensures.faults.held c.in-Ok.ensures.reads
    c.asked_holds.ensures.reads
