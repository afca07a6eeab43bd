use Rattle.std.proofs.Common.{◌≡◌, ℕ, Ok, Err, refl, sym, ◌∙◌}
use Rattle.std.specs.Prelude.{IfSome}
use Rattle.cs_base.specs.Token.{Token}
use Rattle.source_files.specs.Answers.{fault_of}
use Rattle.source_files.specs.Files.{SourceFile}
use Rattle.source_files.specs.HeaderNames.{header_of_toks}
use Rattle.source_files.specs.Search.{Header}
use Rattle.source_files.specs.Sources.{source_at}
use Rattle.source_files.proofs.TableLemmas.{reads-refl}
use Rattle.unit_steps.specs.IncludeNames.{header_or}
use Rattle.unit_steps.specs.Keeping.{kept_after}
use Rattle.unit_steps.specs.Moments.{state_in}
use Rattle.unit_steps.specs.SourceTexts.{source_in}
use Rattle.unit_steps.specs.State.{State, Outcome}
use Rattle.include_tree.specs.Asking.{look_for}
use Rattle.include_tree.specs.GivenFiles.{unit_context}
use Rattle.include_tree.proofs.AskingLemmas.{then-gives, then-stops, file-known}
use Rattle.include_tree.proofs.asking.look_up.Goals as goal

pub returns-in-Ok-clause-answer : goal.returns-in-Ok-clause-answer
returns-in-Ok-clause-answer g c =
    let table = c.args.cache.now.table in
    let q = source_at table c.args.number in
    let named : SourceFile → Outcome Header = λ file. header_or file c.args.at c.args.operand.now (state_in table c.args.p.now) (header_of_toks c.args.operand.now) in
    λ source found.
    let next : ℕ → SourceFile → Header → State → Outcome Token = λ n file. look_for (unit_context source c.args.unit.now n) file c.args.at c.args.word.now in
    then-gives q q c.args.cache.now.toks c.args.cache.now.toks named next c.args.p.now.text c.header_or.new.self.text c.look_for.new.p.text c.in-Ok.header (state_in table c.header_or.new.self)
    (state_in c.look_for.new.cache.table c.look_for.new.p) c.look_for.result refl refl
    (file-known q (source_in c.source_of-file.result) (λ file. kept_after c.args.p.now.text (named file) ≡ Ok (c.in-Ok.header, state_in table c.header_or.new.self, c.header_or.new.self.text))
    (sym c.kept_file.ensures ∙ c.source_of-file.ensures) (c.in-Ok.ensures.answer table))
    (c.look_for.ensures.answer source found)

pub returns-in-Err-clause-answer : goal.returns-in-Err-clause-answer
returns-in-Err-clause-answer g c =
    let table = c.args.cache.now.table in
    let q = source_at table c.args.number in
    let named : SourceFile → Outcome Header = λ file. header_or file c.args.at c.args.operand.now (state_in table c.args.p.now) (header_of_toks c.args.operand.now) in
    λ source found.
    then-stops q named (λ file. look_for (unit_context source c.args.unit.now c.args.cache.now.toks) file c.args.at c.args.word.now) c.args.p.now.text (fault_of c.in-Err.fault)
    (file-known q (source_in c.source_of-file.result) (λ file. IfSome (fault_of c.in-Err.fault) (λ f. kept_after c.args.p.now.text (named file) ≡ Err f))
    (sym c.kept_file.ensures ∙ c.source_of-file.ensures) (c.in-Err.ensures.answer table))

pub returns-in-Err-clause-reads : goal.returns-in-Err-clause-reads
returns-in-Err-clause-reads g c = reads-refl (g.F.Files.told c.args.files.now).held c.args.cache.now
