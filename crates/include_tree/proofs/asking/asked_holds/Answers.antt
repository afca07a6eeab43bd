use Rattle.std.proofs.Common.{◌≡◌, ℕ, Bool, List, Ok, Err, refl, sym, ◌∙◌}
use Rattle.std.specs.Prelude.{IfSome}
use Rattle.cs_base.specs.Token.{Token}
use Rattle.source_files.specs.Answers.{fault_of}
use Rattle.source_files.specs.Files.{SourceFile}
use Rattle.source_files.specs.Sources.{source_at}
use Rattle.source_files.proofs.TableLemmas.{reads-refl}
use Rattle.unit_steps.specs.Conditions.{asked_toks}
use Rattle.unit_steps.specs.Keeping.{kept_after}
use Rattle.unit_steps.specs.Moments.{state_in}
use Rattle.unit_steps.specs.SourceTexts.{source_in}
use Rattle.unit_steps.specs.State.{State, Outcome}
use Rattle.include_tree.specs.Asking.{gnu_known}
use Rattle.include_tree.specs.GivenFiles.{unit_context}
use Rattle.include_tree.proofs.AskingLemmas.{then-gives, then-stops, file-known}
use Rattle.include_tree.proofs.asking.asked_holds.Goals as goal

pub returns-in-Ok-clause-answer : goal.returns-in-Ok-clause-answer
returns-in-Ok-clause-answer g c =
    let table = c.args.cache.now.table in
    let q = source_at table c.args.number in
    let asked : SourceFile → Outcome (List Token) = λ file. asked_toks file c.args.at c.args.toks.now (state_in table c.args.p.now) in
    λ source found.
    let next : ℕ → SourceFile → List Token → State → Outcome Bool = λ n file. gnu_known (unit_context source c.args.unit.now n) file c.args.at in
    then-gives q q c.args.cache.now.toks c.args.cache.now.toks asked next c.args.p.now.text c.asked_toks.new.self.text c.known_holds.new.p.text c.in-Ok.out.items (state_in table c.asked_toks.new.self)
    (state_in c.known_holds.new.cache.table c.known_holds.new.p) c.known_holds.result refl refl
    (file-known q (source_in c.source_of-file.result) (λ file. kept_after c.args.p.now.text (asked file) ≡ Ok (c.in-Ok.out.items, state_in table c.asked_toks.new.self, c.asked_toks.new.self.text))
    (sym c.kept_file.ensures ∙ c.source_of-file.ensures) (c.in-Ok.ensures.answer table))
    (rw c.as_slice.ensures.value at (c.known_holds.ensures.answer source found))

pub returns-in-Err-clause-answer : goal.returns-in-Err-clause-answer
returns-in-Err-clause-answer g c =
    let table = c.args.cache.now.table in
    let q = source_at table c.args.number in
    let asked : SourceFile → Outcome (List Token) = λ file. asked_toks file c.args.at c.args.toks.now (state_in table c.args.p.now) in
    λ source found.
    then-stops q asked (λ file. gnu_known (unit_context source c.args.unit.now c.args.cache.now.toks) file c.args.at) c.args.p.now.text (fault_of c.in-Err.fault)
    (file-known q (source_in c.source_of-file.result) (λ file. IfSome (fault_of c.in-Err.fault) (λ f. kept_after c.args.p.now.text (asked file) ≡ Err f))
    (sym c.kept_file.ensures ∙ c.source_of-file.ensures) (c.in-Err.ensures.answer table))

pub returns-in-Err-clause-reads : goal.returns-in-Err-clause-reads
returns-in-Err-clause-reads g c = reads-refl (g.F.Files.told c.args.files.now).held c.args.cache.now
