-- What is found by a query: its value tells, and the lines of classes that are gone through.
use Rattle.std.proofs.Common.{◌≡◌, ℕ, ◌+◌, ◌<◌, ◌≤◌, Bool, true, false, List, [], ◌∷◌, ◌++◌, Some, Result, Ok, Err, length, get_or, take, slice_get, refl, sym, ap, ◌∙◌, subst}
use Rattle.std.specs.Prelude.{MatchBool, IfErr, IfSome, IsErrAnd}
use Rattle.std.proofs.lemmas.List.{take_all}
use Rattle.cs_base.specs.declared.positions.Part.{Part}
use Rattle.analysis.specs.Analysis.{AnalysisValue}
use Rattle.analysis.specs.Parts.{AreFirsts, IsFirst, part_cmp}
use Rattle.analysis.specs.Spellings.{spelling_of}
use Rattle.class_marks.specs.Keeping.{Keeps}
use Rattle.class_marks.proofs.KeepLemmas.{keeps_all, keeps_each, keeps_more, keeps_none, keeps_same, keeps_sorted}
use Rattle.query_words.specs.declared.attributes.Facts.{Facts}
use Rattle.query_words.specs.declared.faults.QueryFault.{QueryFault}
use Rattle.query_words.specs.declared.compiled.Compiled.{Compiled}
use Rattle.query_words.specs.declared.faults.QueryFault.TheVariants.{Bad, Deep}
use Rattle.query_words.specs.declared.faults.QueryRefusal.{QueryRefusal}
use Rattle.query_words.specs.declared.faults.QueryRefusal.TheVariants.{Fault}
use Rattle.query_words.specs.declared.faults.QueryRefusal.TheVariants.{Memory as NoMemory}
use Rattle.query_words.specs.Queries.{Query, value}
use Rattle.query_words.specs.Reading.{parsed}
use Rattle.query_words.specs.Satisfying.{AreFacts, Satisfies}
use Rattle.query_words.specs.Steps.{IsFault, IsOf, Means}
use Rattle.query_words.specs.Walk.{decided}
use Rattle.query_words.proofs.SatisfyingLemmas.{value_tells}
use Rattle.find_names.specs.declared.refusal.FindRefusal.{FindRefusal}
use Rattle.find_names.specs.Found.{AreFound, IsFound, PrintsFound, PrintsLine, PrintsLines, Refuses, nothing, more}
use Rattle.find_names.specs.Question.{IsInQuestion}
use Rattle.find_names.specs.Refusals.{fault_of, refusal_of}
use Rattle.find_names.specs.Satisfying.{HasAttribute, SatisfiesQuery}

-- ---- queries and their faults

pub refused_so : (query : List ℕ) (refusal : QueryRefusal) → IsFault (parsed query) refusal → Refuses query (refusal_of refusal)
refused_so query (Fault (Bad at)) is = is
refused_so query (Fault (Deep at)) is = is
refused_so query NoMemory is = is

-- what the compiled query says is what the word says
pub decided_so : (query : List ℕ) (compiled : Compiled) (facts : Facts) (spelling : List ℕ) (b : Bool) → IsOf query compiled
    → ((q : Query) → Means q compiled → b ≡ value facts spelling q) → Ok b ≡ decided (value facts spelling) (parsed query)
decided_so query compiled facts spelling b is says = rw is.is (ap Ok (says is.query is.means))

value_told : (v : Query → Bool) (read : Result Query QueryFault) (b : Bool) (q : Query) → Ok b ≡ decided v read → read ≡ Ok q → b ≡ v q
value_told v (Ok p) b q is same =
    let one : p ≡ q = cc in
    let value : b ≡ v p = cc in
    value ∙ ap v one
value_told v (Err fault) b q is same = absurd (cc)

-- what the value says of a class
pub satisfied : (a : AnalysisValue) (part : Part) (facts : Facts) (query spelling : List ℕ) (b : Bool) (q : Query)
    → AreFacts (HasAttribute a part) facts → spelling ≡ spelling_of a part → Ok b ≡ decided (value facts spelling) (parsed query)
    → parsed query ≡ Ok q → MatchBool b (SatisfiesQuery a part q) (SatisfiesQuery a part q → ⊥)
satisfied a part facts query spelling b q are spelled is read =
    let Tells : Bool → List ℕ → Type 0 =
    λ c text. MatchBool c (Satisfies (HasAttribute a part) text q) (Satisfies (HasAttribute a part) text q → ⊥) in
    let told : Tells b spelling = subst (λ (c : Bool). Tells c spelling) (sym (value_told (value facts spelling) (parsed query) b q is read))
    (value_tells (HasAttribute a part) facts spelling are q) in
    subst (Tells b) spelled told

pub not_satisfied : (a : AnalysisValue) (part : Part) (q : Query) → (SatisfiesQuery a part q → ⊥) → IsFound a q part → ⊥
not_satisfied a part q not x = not x.satisfies

-- ---- classes that are gone through

-- Of the first k classes those that are found are printed.
pub record Shown (a : AnalysisValue) (q : Query) (firsts : List Part) (k : ℕ) (text : List ℕ) : Type 0 where
  pub parts : List Part
  pub kept : Keeps (IsFound a q) (take k firsts) parts
  pub lines : PrintsLines a parts text

pub shown_none : (a : AnalysisValue) (q : Query) (firsts : List Part) (text : List ℕ) → text ≡ [] → Shown a q firsts 0 text
shown_none a q firsts text is = record {
  parts = [];
  kept = keeps_none (IsFound a q) [] refl;
  lines = subst (PrintsLines a []) (sym is) nothing;
}

pub shown_more : (a : AnalysisValue) (q : Query) (firsts : List Part) (k : ℕ) (d : Part) (old new : List ℕ) → k < length firsts
    → IsFound a q (get_or firsts k d) → PrintsLine a (get_or firsts k d) old new → Shown a q firsts k old → Shown a q firsts (k + 1) new
shown_more a q firsts k d old new within found line before = record {
  parts = before.parts ++ get_or firsts k d ∷ [];
  kept = keeps_more (IsFound a q) firsts k d before.parts (before.parts ++ get_or firsts k d ∷ []) within found refl before.kept;
  lines = more (get_or firsts k d) before.lines line;
}

pub shown_same : (a : AnalysisValue) (q : Query) (firsts : List Part) (k : ℕ) (d : Part) (old new : List ℕ) → k < length firsts
    → (IsFound a q (get_or firsts k d) → ⊥) → new ≡ old → Shown a q firsts k old → Shown a q firsts (k + 1) new
shown_same a q firsts k d old new within not is before = record {
  parts = before.parts;
  kept = keeps_same (IsFound a q) firsts k d before.parts before.parts within not refl before.kept;
  lines = subst (PrintsLines a before.parts) (sym is) before.lines;
}

pub shown_all : (a : AnalysisValue) (q : Query) (firsts : List Part) (k : ℕ) (text : List ℕ) → length firsts ≤ k → AreFirsts a firsts
    → Shown a q firsts k text → PrintsFound a q text
shown_all a q firsts k text past are shown =
    let P : Part → Type 0 = IsFound a q in
    let all : Keeps P firsts shown.parts = subst (λ (ps : List Part). Keeps P ps shown.parts) (take_all k firsts past) shown.kept in
    record {
      parts = shown.parts;
      are_found = record {
        each = λ j part at. keeps_each P firsts shown.parts all j part at;
        all = λ part found.
            let there = are.all part found.first in
            keeps_all P firsts shown.parts all there.0 part there.1 found;
        sorted = keeps_sorted P (part_cmp a) firsts shown.parts all are.sorted;
      };
      lines = shown.lines;
    }

-- ---- refusals that are handed on

pub refused_err : {X : Type 0} (query : List ℕ) (r : Result X FindRefusal) (e : FindRefusal) → IsErrAnd r (λ x. x ≡ e) → Refuses query e
    → IfErr r (Refuses query)
refused_err query (Ok x) e same h = absurd same
refused_err query (Err f) e same h = subst (Refuses query) (sym same) h
