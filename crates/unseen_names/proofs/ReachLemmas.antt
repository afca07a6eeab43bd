-- Which places a class reaches.
use Rattle.std.proofs.Common.{◌≡◌, Bool, true, false, List, refl, sym, ap, ◌∙◌, inl, inr}
use Rattle.std.specs.Prelude.{MatchBool, ◌&&◌, ◌==◌, not}
use Rattle.std.specs.List.{list_any}
use Rattle.std.proofs.lemmas.Bool.{cases_Bool, and_parts, and_from, eqb-true, eq-eqb, ltb-true, lt-ltb, false_from_ne_true}
use Rattle.cs_base.specs.declared.positions.Part.{Part}
use Rattle.cs_base.specs.declared.positions.Pos.{Pos}
use Rattle.cs_base.proofs.ListLemmas.{any_at as any_from}
use Rattle.analysis.specs.Analysis.{AnalysisValue}
use Rattle.analysis.specs.Parts.{AreMembers, IsMember}
use Rattle.analysis.proofs.NamingLemmas.{any_in}
use Rattle.class_marks.proofs.AnswerLemmas.{told}
use Rattle.unseen_names.specs.Reach.{IsBetween, are_around, begins_before, begins_behind, is_elsewhere}

-- ---- between members

not_true : (b : Bool) → not b ≡ true → b ≡ false
not_true true is = absurd (cc)
not_true false is = refl

module _ (a : AnalysisValue) (part : Part) (members : List Part) (are : AreMembers a part members) (p : Pos) where
  one_file : list_any (is_elsewhere p.file) members ≡ false → (m : Part) → IsMember a part m → m.start.file ≡ p.file
  one_file none m is =
      let at = are.all m is in
      elim (cases_Bool (m.start.file == p.file)) [
        | inl same ↦ eqb-true m.start.file p.file same
        | inr other ↦
            let here : is_elsewhere p.file m ≡ true = ap not other in
            let some = any_from (is_elsewhere p.file) members at.0 m at.1 here in
            absurd (cc)
      ]

  no_elsewhere : ((m : Part) → IsMember a part m → m.start.file ≡ p.file) → list_any (is_elsewhere p.file) members ≡ false
  no_elsewhere all =
      false_from_ne_true (list_any (is_elsewhere p.file) members) (λ some.
      let found = any_in (is_elsewhere p.file) members some in
      let same = eq-eqb found.0.start.file p.file (all found.0 (are.each found.1.0 found.0 found.1.1)) in
      let wrong : not true ≡ true = rw same at found.2 in
      cc)

  pub between : are_around members p ≡ true → IsBetween a part p
  between around =
      let outer = and_parts (not (list_any (is_elsewhere p.file) members)) (list_any (begins_before p.at) members && list_any (begins_behind p.at) members) around in
      let inner = and_parts (list_any (begins_before p.at) members) (list_any (begins_behind p.at) members) outer.1 in
      let before = any_in (begins_before p.at) members inner.0 in
      let behind = any_in (begins_behind p.at) members inner.1 in
      record {
        one_file = one_file (not_true (list_any (is_elsewhere p.file) members) outer.0);
        before = before.0;
        is_before = are.each before.1.0 before.0 before.1.1;
        starts_before = ltb-true before.0.start.at p.at before.2;
        behind = behind.0;
        is_behind = are.each behind.1.0 behind.0 behind.1.1;
        starts_behind = ltb-true p.at behind.0.start.at behind.2;
      }

  pub around : IsBetween a part p → are_around members p ≡ true
  around b =
      let before = are.all b.before b.is_before in
      let behind = are.all b.behind b.is_behind in
      and_from (not (list_any (is_elsewhere p.file) members)) (list_any (begins_before p.at) members && list_any (begins_behind p.at) members)
      (ap not (no_elsewhere b.one_file))
      (and_from (list_any (begins_before p.at) members) (list_any (begins_behind p.at) members)
      (any_from (begins_before p.at) members before.0 b.before before.1 (lt-ltb b.before.start.at p.at b.starts_before))
      (any_from (begins_behind p.at) members behind.0 b.behind behind.1 (lt-ltb p.at b.behind.start.at b.starts_behind)))

  pub told_between : (is : Bool) → is ≡ are_around members p → MatchBool is (IsBetween a part p) (IsBetween a part p → ⊥)
  told_between is same = told is (IsBetween a part p) (λ passed. between (sym same ∙ passed)) (λ failed b. let passed = around b in cc)
