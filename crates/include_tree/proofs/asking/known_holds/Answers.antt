use Rattle.std.proofs.Common.{ℕ, Bool, false, List, ◌∙◌, ap, is_some}
use Rattle.cs_base.specs.Token.{Token}
use Rattle.source_files.specs.Answers.{fault_of}
use Rattle.source_files.specs.Files.{SourceFile}
use Rattle.source_files.specs.Sources.{source_at}
use Rattle.source_files.proofs.TableLemmas.{reads-refl}
use Rattle.unit_steps.specs.Conditions.{judged}
use Rattle.unit_steps.specs.Moments.{state_in}
use Rattle.unit_steps.specs.Questions.{questions_from}
use Rattle.unit_steps.specs.State.{State, Outcome}
use Rattle.include_tree.specs.Asking.{looked}
use Rattle.include_tree.specs.GivenFiles.{unit_context}
use Rattle.include_tree.proofs.StayingLemmas.{source-same}
use Rattle.include_tree.proofs.AskingLemmas.{then-gives, then-stops, judged-told}
use Rattle.include_tree.proofs.asking.known_holds.Goals as goal

pub judged_in-requires-clause-kept : goal.judged_in-requires-clause-kept
judged_in-requires-clause-kept g c =
    ap is_some (source-same c.args.cache.now.table c.looked.new.cache.table c.args.number c.in-Ok.ensures.reads.grown c.requires.kept) ∙ c.requires.kept

pub returns-in-Ok-clause-answer : goal.returns-in-Ok-clause-answer
returns-in-Ok-clause-answer g c =
    let same = source-same c.args.cache.now.table c.looked.new.cache.table c.args.number c.in-Ok.ensures.reads.grown c.requires.kept in
    let qs = questions_from false 0 c.args.toks.now in
    λ source found.
    let known : SourceFile → Outcome (List Token) = λ file. looked (unit_context source c.args.unit.now c.args.cache.now.toks) file c.args.at qs (state_in c.args.cache.now.table c.args.p.now) in
    let next : ℕ → SourceFile → List Token → State → Outcome Bool = λ n file. judged file c.args.at in
    then-gives (source_at c.args.cache.now.table c.args.number) (source_at c.looked.new.cache.table c.args.number) c.args.cache.now.toks c.looked.new.cache.toks known next
    c.args.p.now.text c.looked.new.p.text c.judged_in.new.p.text c.in-Ok.known.items (state_in c.looked.new.cache.table c.looked.new.p)
    (state_in c.looked.new.cache.table c.judged_in.new.p) c.judged_in.result c.in-Ok.ensures.reads.counted same
    (rw (c.as_slice.ensures.value, c.in_ok-asked.ensures.answer) at (c.in-Ok.ensures.answer source found))
    (judged-told (source_at c.looked.new.cache.table c.args.number) c.looked.new.cache.table c.looked.new.p c.judged_in.new.p c.args.at c.in-Ok.known.items c.judged_in.result
    (rw c.as_slice-in-Ok.ensures.value at c.judged_in.ensures.answer))

pub returns-clause-answer : goal.returns-clause-answer
returns-clause-answer g c =
    let qs = questions_from false 0 c.args.toks.now in
    λ source found.
    let ctx = unit_context source c.args.unit.now c.args.cache.now.toks in
    then-stops (source_at c.args.cache.now.table c.args.number) (λ file. looked ctx file c.args.at qs (state_in c.args.cache.now.table c.args.p.now)) (λ file. judged file c.args.at)
    c.args.p.now.text (fault_of c.in-Err.fault) (rw (c.as_slice.ensures.value, c.in_ok-asked.ensures.answer) at (c.in-Err.ensures.answer source found))

pub returns-in_err-asked-clause-reads : goal.returns-in_err-asked-clause-reads
returns-in_err-asked-clause-reads g c = reads-refl (g.F.Files.told c.args.files.now).held c.args.cache.now
