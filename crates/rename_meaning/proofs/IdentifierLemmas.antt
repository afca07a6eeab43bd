-- The new spelling of an identifier is one.
use Rattle.std.proofs.Common.{◌≡◌, ℕ, true, List, [], ◌∷◌, length, Option, Some, None, refl, ap, ◌∙◌, arith}
use Rattle.std.specs.List.{list_all}
use Rattle.std.proofs.lemmas.Bool.{and_parts, and_from}
use Rattle.std.proofs.lemmas.List.Folds.{list_all-append}
use Rattle.cs_base.specs.declared.positions.Part.{Part}
use Rattle.cs_base.specs.declared.positions.Pos.{Pos}
use Rattle.lexer.specs.Characters.{is_nondigit, is_word}
use Rattle.lexer.specs.Spelling.{is_identifier_text}
use Rattle.part_respell.specs.Respelled.{member_over, put_at, put_for, spelled_from}
use Rattle.part_respell.proofs.PutLemmas.{first_put}
use Rattle.analysis.specs.Analysis.{AnalysisValue}
use Rattle.analysis.specs.Parts.{AreMembers, Begins}
use Rattle.rename_meaning.proofs.MemberLemmas.{over_begins}
use Rattle.rename_meaning.proofs.PutLemmas.{put_words}
use Rattle.edited_unit_laws.proofs.TracedLemmas.{AreChained}
use Rattle.lexer.proofs.FitLemmas.{identifier-words}
use Rattle.lexer.proofs.NameLemmas.{identifier_on}

-- letters, digits and `_` stand for such characters
words_from : (members : List Part) (name : List ℕ) (os : List (Option Pos)) (text : List ℕ) → list_all is_word name ≡ true → list_all is_word text ≡ true
    → list_all is_word (spelled_from members name os text) ≡ true
unfolding spelled_from
words_from members name [] text words all = refl
words_from members name (o ∷ os) [] words all = refl
words_from members name (o ∷ os) (c ∷ text) words all =
    let both = and_parts (is_word c) (list_all is_word text) all in
    list_all-append is_word (put_for members name o c) (spelled_from members name os text)
    ∙ and_from (list_all is_word (put_for members name o c)) (list_all is_word (spelled_from members name os text)) (for_words o c both.0)
    (words_from members name os text words both.1)
  where
    for_words : (p : Option Pos) (d : ℕ) → is_word d ≡ true → list_all is_word (put_for members name p d) ≡ true
    for_words None d word = and_from (is_word d) true word refl
    for_words (Some p) d word = put_words name p d (member_over members p) words word

module _ (a : AnalysisValue) (members : List Part) (part : Part) (listed : AreMembers a part members) (name : List ℕ) (is : is_identifier_text name ≡ true) where
  begins_at : (p : Pos) → Begins a p → (m : Part) → member_over members p ≡ Some m → m.start.at ≡ p.at
  begins_at p b m over =
      over_begins a members part listed b.0 m b.1 (ap (member_over members) b.2 ∙ over) ∙ ap (λ (q : Pos). q.at) b.2

  -- the new spelling of an identifier is one
  pub identifier_from : (os : List (Option Pos)) (text : List ℕ) → AreChained a os → length os ≡ length text → is_identifier_text text ≡ true
      → is_identifier_text (spelled_from members name os text) ≡ true
  unfolding spelled_from
  identifier_from [] [] chained size identifier = absurd (cc)
  identifier_from [] (c ∷ text) chained size identifier = absurd (omega (arith, size))
  identifier_from (None ∷ os) text chained size identifier = absurd chained
  identifier_from (Some p ∷ os) [] chained size identifier = absurd (cc)
  identifier_from (Some p ∷ os) (c ∷ text) chained size identifier =
      let both = and_parts (is_nondigit c) (list_all is_word text) identifier in
      identifier_on (put_at members name p c) (spelled_from members name os text)
      (first_put name p c (member_over members p) is both.0 (begins_at p chained.0))
      (words_from members name os text (identifier-words name is) both.1)
