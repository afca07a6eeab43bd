-- A unit by itself over edited files.
use Rattle.std.proofs.Common.{◌≡◌, ℕ, ◌+◌, List, length, Option, Some, Result, Ok, Err, refl, ap, sym, subst, ◌∙◌}
use Rattle.std.specs.Option.{option_map}
use Rattle.cs_base.specs.Answer.{result_then, result_map_err}
use Rattle.cs_base.specs.Token.{Token}
use Rattle.cs_base.specs.Units.{UnitValue}
use Rattle.lexer.specs.FileText.{file_text}
use Rattle.source_files.specs.Faults.{Fault}
use Rattle.source_files.specs.Files.{Source, carried, nothing_carried}
use Rattle.source_files.specs.Tables.{IsGrown}
use Rattle.source_files.specs.Limits.{the_limits}
use Rattle.unit_steps.specs.State.{Did, Outcome}
use Rattle.unit_steps.specs.Texts.{unit_text}
use Rattle.include_tree.specs.Preprocessed.{Preprocessed, preprocessed_by, preprocessed, one_unit}
use Rattle.include_tree.specs.Unit.{unit_outcome}
use Rattle.source_files.proofs.TableLemmas.{grown_refl}
use Rattle.analysis.specs.Texts.{unit_fault, alone}
use Rattle.edited_unit_laws.proofs.SeenLemmas.{unit_texts_are_renamed}
use Rattle.edited_unit_laws.specs.Alone.{UnitAloneIsRenamed, OneTextIsRenamed}

pub ok-same : {A E : Type 0} (a b : A) → ◌≡◌ {A = Result A E} (Ok a) (Ok b) → a ≡ b
ok-same a b h = cc

-- what a unit without a fault did, and the files that it has in the end
done : (earlier : ℕ) (m : Outcome (List Token)) (p : Preprocessed) → preprocessed_by earlier m ≡ Ok p
    → (d : Did (List Token)) × (m ≡ Ok d) × (p.after.table ≡ d.state.table)
done earlier (Err found) p h = absurd (cc)
done earlier (Ok d) p h =
    let q : Preprocessed = record { text = unit_text d.value d.notes; after = carried d.state.table (earlier + length d.value) } in
    (d, refl, sym (ap (λ (x : Preprocessed). x.after.table) (ok-same {E = Fault} q p h)))

unit-done : (old : Source) (number : ℕ) (unit : UnitValue) (p : Preprocessed) → one_unit old number unit ≡ Ok p
    → (d : Did (List Token)) × (unit_outcome the_limits file_text old number unit nothing_carried ≡ Ok d) × (p.after.table ≡ d.state.table)
unfolding preprocessed
unit-done old number unit p h = done 0 (unit_outcome the_limits file_text old number unit nothing_carried) p h

pub unit_alone_is_renamed : UnitAloneIsRenamed
unit_alone_is_renamed c old new number unit p h same keeps =
    let did = unit-done old number unit p h in
    let reach : IsGrown did.0.state.table c.files = subst (IsGrown did.0.state.table) (sym did.2 ∙ same) (grown_refl did.0.state.table) in
    let kept = keeps did.0 did.1 in
    unit_texts_are_renamed c old new number unit nothing_carried did.0 p did.1 h reach kept.0 kept.1

pub one_text_is_renamed : OneTextIsRenamed
one_text_is_renamed c old new units number unit p there h same keeps =
    ap (λ (o : Option UnitValue). option_map (alone new number) o) there
    ∙ ap (λ (r : Result Preprocessed Fault). Some (result_then (λ q. Ok q.text) (result_map_err (unit_fault number) r))) (unit_alone_is_renamed c old new number unit p h same keeps)
