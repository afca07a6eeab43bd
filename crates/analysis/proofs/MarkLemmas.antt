-- Marks that are set one after another.
use Rattle.std.proofs.Common.{◌≡◌, ℕ, ◌+◌, ◌<◌, ◌≤◌, Bool, true, false, List, Some, sym, ap, subst, ◌∙◌, inl, inr, arith}
use Rattle.std.specs.Prelude.{slice_get}
use Rattle.std.proofs.lemmas.Bool.{cases_eq, both_ways}
use Rattle.std.proofs.lemmas.Option.{same_Some}
use Rattle.cs_base.specs.Token.{Token}
use Rattle.include_tree.specs.Below.line_shape.Signs.{is_name}
use Rattle.analysis.specs.Marking.{is_marked, SetsMark, IsNameIn, MarksNames}

-- ---- the identifiers among some tokens

name_on : (toks : List Token) (from k j : ℕ) → IsNameIn toks from k j → IsNameIn toks from (k + 1) j
name_on toks from k j is =
    let less = is.ends in
    record { token = is.token; at = is.at; name = is.name; begins = is.begins; ends = omega arith }

pub names_more : (n : ℕ) (toks : List Token) (from k : ℕ) (t : Token) (old mid new : List (List Bool)) → MarksNames n toks from k old mid
    → from ≤ k → slice_get toks k ≡ Some t → is_name t ≡ true → SetsMark n k mid new → MarksNames n toks from (k + 1) old new
names_more n toks from k t old mid new marks begun at name sets = record {
  all = λ j is. elim (cases_eq j k) [
    | inl same ↦ subst (λ (i : ℕ). is_marked new n i ≡ true) (sym same) sets.set
    | inr apart ↦
        let less = is.ends in
        sets.kept n j (marks.all j (record { token = is.token; at = is.at; name = is.name; begins = is.begins; ends = omega arith }))
  ];
  kept = λ m j marked. sets.kept m j (marks.kept m j marked);
  only = λ m j marked. elim (sets.only m j marked) [
    | inl before ↦ elim (marks.only m j before) [
      | inl first ↦ inl first
      | inr is ↦ inr (is.0, name_on toks from k j is.1)
    ]
    | inr here ↦ inr (
      here.0,
      subst (λ (i : ℕ). IsNameIn toks from (k + 1) i) (sym here.1)
          (record { token = t; at = at; name = name; begins = begun; ends = omega arith }),
    )
  ];
}

pub names_same : (n : ℕ) (toks : List Token) (from k : ℕ) (t : Token) (old new : List (List Bool)) → MarksNames n toks from k old new
    → slice_get toks k ≡ Some t → is_name t ≡ false → MarksNames n toks from (k + 1) old new
names_same n toks from k t old new marks at other = record {
  all = λ j is. elim (cases_eq j k) [
    | inl same ↦
        let here : t ≡ is.token = same_Some t is.token (sym at ∙ ap (slice_get toks) (sym same) ∙ is.at) in
        absurd (both_ways (is_name t) other (ap is_name here ∙ is.name))
    | inr apart ↦
        let less = is.ends in
        marks.all j (record { token = is.token; at = is.at; name = is.name; begins = is.begins; ends = omega arith })
  ];
  kept = marks.kept;
  only = λ m j marked. elim (marks.only m j marked) [
    | inl first ↦ inl first
    | inr is ↦ inr (is.0, name_on toks from k j is.1)
  ];
}

name_ends : (toks : List Token) (from k to j : ℕ) → (from < k → k ≤ to) → IsNameIn toks from k j → IsNameIn toks from to j
name_ends toks from k to j end is =
    let begun = is.begins in
    let less = is.ends in
    let within = end (omega arith) in
    record { token = is.token; at = is.at; name = is.name; begins = begun; ends = omega arith }

pub names_end : (n : ℕ) (toks : List Token) (from k to : ℕ) (old new : List (List Bool)) → MarksNames n toks from k old new
    → to ≤ k → (from < k → k ≤ to) → MarksNames n toks from to old new
names_end n toks from k to old new marks past end = record {
  all = λ j is.
      let less = is.ends in
      marks.all j (record { token = is.token; at = is.at; name = is.name; begins = is.begins; ends = omega arith });
  kept = marks.kept;
  only = λ m j marked. elim (marks.only m j marked) [
    | inl first ↦ inl first
    | inr is ↦ inr (is.0, name_ends toks from k to j end is.1)
  ];
}
