-- Parts by the table of the classes: where a part stands, and whether two are of one class.
use Rattle.std.proofs.Common.{◌≡◌, ℕ, ◌<◌, Bool, true, Some, None, refl, sym, ap, ◌∙◌, subst, arith}
use Rattle.std.specs.Prelude.{MatchBool, ◌&&◌, nat_eq}
use Rattle.std.proofs.lemmas.Bool.{and_parts, eqb-true, eq-eqb}
use Rattle.std.proofs.lemmas.Option.{none-some}
use Rattle.cs_base.specs.declared.positions.Part.{Part}
use Rattle.cs_base.proofs.PlaceLemmas.{part_of_parts}
use Rattle.eclass_map.specs.ClassTable.{Table, class_in}
use Rattle.eclass_map.specs.Positions.{holds}
use Rattle.eclass_map.proofs.TokenFacts.{holds_from}
use Rattle.analysis.specs.Analysis.{AnalysisValue}
use Rattle.analysis.specs.Classes.{AreItsClasses}
use Rattle.analysis.specs.Parts.{IsPart, IsMember, Holds}
use Rattle.analysis.proofs.ClassLemmas.{part_held, same_told, same_held, character_held}
use Rattle.analysis.proofs.PartLemmas.{part_once}
use Rattle.class_marks.proofs.AnswerLemmas.{told}
use Rattle.unseen_names.specs.Unseen.{is_same}

-- ---- where a part stands

pub same_part : (p q : Part) → is_same p q ≡ true → p ≡ q
same_part p q passed =
    let outer = and_parts (nat_eq p.start.file q.start.file && nat_eq p.start.at q.start.at) (nat_eq p.len q.len) passed in
    let inner = and_parts (nat_eq p.start.file q.start.file) (nat_eq p.start.at q.start.at) outer.0 in
    part_of_parts p q (eqb-true p.start.file q.start.file inner.0) (eqb-true p.start.at q.start.at inner.1) (eqb-true p.len q.len outer.1)

pub part_itself : (p q : Part) → p ≡ q → is_same p q ≡ true
part_itself p q same =
    let file : nat_eq p.start.file q.start.file ≡ true = eq-eqb p.start.file q.start.file (ap (λ (x : Part). x.start.file) same) in
    let at : nat_eq p.start.at q.start.at ≡ true = eq-eqb p.start.at q.start.at (ap (λ (x : Part). x.start.at) same) in
    let len : nat_eq p.len q.len ≡ true = eq-eqb p.len q.len (ap (λ (x : Part). x.len) same) in
    rw (file, at, len) refl

-- a part holds the character with which it begins
holds_start : (part : Part) → 0 < part.len → holds part part.start ≡ true
holds_start part some = holds_from part part.start (record { file = refl; from = omega arith; less = omega (arith, some) })

-- the part at the start of a place is there, and it is that place or not
pub part_there : (a : AnalysisValue) (place found : Part) (same : Bool) → Holds a place.start (Some found) → same ≡ is_same found place
    → MatchBool same (IsPart a place) (IsPart a place → ⊥)
part_there a place found same h is =
    told same (IsPart a place) (λ passed. subst (IsPart a) (same_part found place (sym is ∙ passed)) h.0)
    (λ failed p.
    let one = part_itself found place (part_once a found place place.start h.0 p h.1 (holds_start place p.some)) in
    cc)

-- ---- one class

-- each part has a class
pub has_class : (a : AnalysisValue) (t : Table) → AreItsClasses a t → (part : Part) → IsPart a part → None ≡ class_in t part → ⊥
has_class a t own part is none = let number = own.parts.each part (part_held a t own part is) in none-some number.0 (none ∙ number.1)

module _ (a : AnalysisValue) (t : Table) (own : AreItsClasses a t) (part other : Part) (c d : ℕ)
    (is : class_in t part ≡ Some c) (is' : class_in t other ≡ Some d) where
  member_of_one : IsPart a other → c ≡ d → IsMember a part other
  member_of_one there same = record {
    is_part = there;
    same =
        same_told a t own part.start other.start
        (own.parts.one_class part other c is (is' ∙ ap (λ (n : ℕ). Some n) (sym same)));
  }

  one_of_member : IsPart a part → IsMember a part other → c ≡ d
  one_of_member here m =
      own.parts.one_number part other c d is is' (same_held a t own part.start other.start (character_held a t own part.start here.held) m.same)

  pub member_told : IsPart a part → IsPart a other → MatchBool (nat_eq c d) (IsMember a part other) (IsMember a part other → ⊥)
  member_told here there =
      told (nat_eq c d) (IsMember a part other) (λ same. member_of_one there (eqb-true c d same))
      (λ apart m. let one = eq-eqb c d (one_of_member here m) in cc)
