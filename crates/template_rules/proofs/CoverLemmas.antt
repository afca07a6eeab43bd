-- Lists around tokens, by the last token at which lists end that begin before.
use Rattle.std.proofs.Common.{◌≡◌, ℕ, zero, suc, ◌+◌, ◌-◌, ◌<◌, ◌≤◌, Bool, true, false, List, [], ◌∷◌, ◌++◌, length, take, get_or, Option, Some, None, inl, inr, refl, sym, ap, ◌∙◌, arith}
use Rattle.std.proofs.Common.{length-append}
use Rattle.std.proofs.Math.ListN.{get_or-append}
use Rattle.std.proofs.Math.Seq.{get_or-append_seam}
use Rattle.std.specs.Borrow.{Bor}
use Rattle.std.specs.Prelude.{◌&&◌, ◌||◌, cond, max, nat_le, nat_lt}
use Rattle.std.specs.List.{flat_map, list_any}
use Rattle.std.specs.List.Sorted.{IsPartitionPoint}
use Rattle.std.proofs.lemmas.Bool.{cases_Bool, ltb-true}
use Rattle.std.proofs.lemmas.Bool.Decides.{nat_tests}
use Rattle.std.proofs.lemmas.List.{take_more}
use Rattle.cs_base.specs.declared.causes.Cause.{Cause}
use Rattle.cs_base.specs.declared.causes.Cause.TheVariants as cause
use Rattle.cs_base.specs.declared.positions.Pos.{Pos}
use Rattle.cs_base.specs.Token.{Token}
use Rattle.c_types.specs.declared.lists.List.{List as NameList}
use Rattle.analysis.specs.Below.source_files.Files.{Table}
use Rattle.analysis.specs.Below.unit_steps.declared.events.Event.{Event}
use Rattle.analysis.specs.Below.scope_bind.declared.bound.Name.{Name}
use Rattle.offences.specs.declared.firsts.Offence.{Offence}
use Rattle.offences.specs.First.{standing, IsAmong, FirstThen}
use Rattle.offences.proofs.FirstLemmas.{then_none}
use Rattle.template_rules.specs.Covers.{is_around, last_of}
use Rattle.template_rules.specs.Functions.{place_of}
use Rattle.template_rules.specs.ListPlaces.{HaveSame}
use Rattle.template_rules.specs.MacroOffences.{is_line_number, line_number_place}
use Rattle.template_rules.specs.ScopeOffences.{declaration_place, declares_more, is_inside}
use Rattle.template_rules.proofs.LineOddsLemmas.{any_of, any_there}
use Rattle.template_rules.proofs.ToldLemmas.{in_flat, none_among, not_among, not_before_itself, of_flat, then_told}

-- ---- the last token at which lists end

last_more : (ls : List (Bor NameList)) (l : Bor NameList) → last_of (ls ++ l ∷ []) ≡ max (last_of ls) l.now.close
last_more [] l = omega arith
last_more (m ∷ ls) l = let rest = last_more ls l in rw rest (omega arith)

pub last_next : (ls : List (Bor NameList)) (k : ℕ) (d : Bor NameList) (last now : ℕ) → k < length ls → now ≡ max last (get_or ls k d).now.close
    → last ≡ last_of (take k ls) → now ≡ last_of (take (k + 1) ls)
last_next ls k d last now within is before =
    rw (take_more ls k d within, last_more (take k ls) (get_or ls k d), ← before) is

pub ends_next : (ls : List (Bor NameList)) (ends now : List ℕ) (k last : ℕ) → length ends ≡ k → last ≡ last_of (take (k + 1) ls) → now ≡ ends ++ last ∷ []
    → ((i : ℕ) → i < length ends → get_or ends i 0 ≡ last_of (take (i + 1) ls)) → (i : ℕ) → i < length now → get_or now i 0 ≡ last_of (take (i + 1) ls)
ends_next ls ends now k last long is made before i within =
    rw made (elim (cases_Bool (nat_lt i k)) [
      | inl less ↦
          let old : i < length ends = grind (arith, nat_tests, less, long) in
          get_or-append ends (last ∷ []) 0 i old ∙ before i old
      | inr other ↦
          let size : length now ≡ k + 1 = rw (made, length-append) (omega (arith, long)) in
          let here : i ≡ length ends = grind (arith, nat_tests, other, long, size, within) in
          let same : last ≡ last_of (take (i + 1) ls) = rw (here ∙ long) is in
          rw here (get_or-append_seam ends last [] 0) ∙ same
    ])

any_last : (to : ℕ) (ls : List (Bor NameList)) → 0 < to → list_any (λ (l : Bor NameList). nat_le to l.now.close) ls ≡ nat_le to (last_of ls)
any_last to [] some = grind (arith, nat_tests)
any_last to (l ∷ ls) some = let rest = any_last to ls some in rw rest (grind (arith, nat_tests))

-- where the first elements pass one test and no others do, these tell of both tests
any_cut : {X : Type 0} (p q : X → Bool) (xs : List X) (n : ℕ) → n ≤ length xs → IsPartitionPoint (λ x. p x ≡ true) (λ x. p x ≡ false) xs n
    → list_any (λ x. p x && q x) xs ≡ list_any q (take n xs)
any_cut p q [] zero within cut = refl
any_cut p q [] (suc n) within cut = absurd (omega arith)
any_cut p q (x ∷ xs) zero within cut =
    let rest : list_any (λ y. p y && q y) xs ≡ false =
    any_cut p q xs 0 (omega arith) (λ k d h l. absurd (omega (arith, l)), λ k d h l. cut.1 (suc k) d (omega arith) (omega (arith, l))) in
    let fails : p x ≡ false = cut.1 0 x (omega arith) (omega arith) in
    rw (fails, rest) refl
any_cut p q (x ∷ xs) (suc n) within cut =
    let rest : list_any (λ y. p y && q y) xs ≡ list_any q (take n xs) =
    any_cut p q xs n (omega (arith, within))
    (λ k d h l. cut.0 (suc k) d (omega arith) (omega (arith, l)), λ k d h l. cut.1 (suc k) d (omega (arith, h)) (omega (arith, l))) in
    let passes : p x ≡ true = cut.0 0 x (omega arith) (omega arith) in
    rw (passes, rest) refl

-- a token before which some list begins is not the first
begun_positive : (after n : ℕ) (ls : List (Bor NameList)) → (n ≡ 0 → ⊥) → n ≤ length ls
    → IsPartitionPoint (λ (l : Bor NameList). nat_lt l.now.begin after ≡ true) (λ (l : Bor NameList). nat_lt l.now.begin after ≡ false) ls n → 0 < after
begun_positive after n [] some within cut = absurd (some (omega (arith, within)))
begun_positive after n (l ∷ ls) some within cut =
    let low : l.now.begin < after = ltb-true l.now.begin after (cut.0 0 l (omega arith) (omega (arith, some))) in
    omega (arith, low)

module _ (after to n : ℕ) (ls : List (Bor NameList)) (on : after ≤ to) (within : n ≤ length ls)
    (cut : IsPartitionPoint (λ (l : Bor NameList). nat_lt l.now.begin after ≡ true) (λ (l : Bor NameList). nat_lt l.now.begin after ≡ false) ls n) where
  abbrev begins : Bor NameList → Bool
  begins l = nat_lt l.now.begin after

  abbrev reaches : Bor NameList → Bool
  reaches l = nat_le to l.now.close

  pub none_around : n ≡ 0 → list_any (λ (l : Bor NameList). is_around after to l.now) ls ≡ false
  none_around none = any_cut begins reaches ls n within cut ∙ rw none refl

  pub around_told : (n ≡ 0 → ⊥) → (last : ℕ) → last ≡ last_of (take n ls) → nat_le to last ≡ list_any (λ (l : Bor NameList). is_around after to l.now) ls
  around_told some last is =
      let first = begun_positive after n ls some within cut in
      let positive : 0 < to = omega (arith, first, on) in
      rw is (sym (any_last to (take n ls) positive)) ∙ sym (any_cut begins reaches ls n within cut)

any_alike : {X : Type 0} (p q : X → Bool) (xs : List X) → ((x : X) → p x ≡ q x) → list_any p xs ≡ list_any q xs
any_alike p q [] same = refl
any_alike p q (x ∷ xs) same = rw (same x, any_alike p q xs same) refl

-- inside a list
inside_around : (k : ℕ) (l : NameList) → is_inside l k ≡ is_around k (k + 1) l
inside_around k l = grind (arith, nat_tests)

-- ---- one offence for all lists around it

module _ (table : Table) (c : Cause) {X : Type 0} (p : X → Bool) (here : List Pos) (xs : List X) where
  abbrev each : List Offence
  each = flat_map (λ x. standing c (cond (p x) here [])) xs

  at_one : (b : Bool) (o : Offence) → IsAmong (standing c (cond b here [])) o → (b ≡ true) × IsAmong (standing c here) o
  at_one true o at = (refl, at)
  at_one false o at = absurd (not_among o at)

  for_one : (x : X) → p x ≡ true → (o : Offence) → IsAmong (standing c here) o → IsAmong (standing c (cond (p x) here [])) o
  for_one x is o at = rw is at

  pub one_for_all : (a b : Option Offence) → list_any p xs ≡ true → FirstThen table (standing c here) a b → FirstThen table each a b
  one_for_all a b is then_ =
      then_told table (standing c here) each a b
      (λ o at. let r = any_of p xs is in in_flat (λ x. standing c (cond (p x) here [])) xs r.0 o r.1 (for_one r.0 r.2 o at))
      (λ o at.
      let r = of_flat (λ x. standing c (cond (p x) here [])) xs o at in
      (o, (at_one (p r.0) o r.2).1, not_before_itself table o))
      then_

  pub none_for_all : (a : Option Offence) → list_any p xs ≡ false → FirstThen table each a a
  none_for_all a none =
      let nothing : each ≡ [] = none_among each (λ o at.
      let r = of_flat (λ x. standing c (cond (p x) here [])) xs o at in
      let is = any_there p xs r.0 r.1 (at_one (p r.0) o r.2).0 in
      let both : true ≡ false = sym is ∙ none in
      cc) in
      rw nothing (then_none table a)

module _ (table : Table) (ls sorted : List (Bor NameList)) (moved : HaveSame ls sorted) (a b : Option Offence) (any : Bool) where
  same_any : (p : Bor NameList → Bool) → any ≡ list_any p sorted → list_any p ls ≡ any
  same_any p is = moved p ∙ sym is

  -- a number of a line
  pub numbers_told : (e : Event) → is_line_number e.kind e.def e.name ≡ true
      → any ≡ list_any (λ (l : Bor NameList). is_around e.before e.before l.now) sorted → any ≡ true
      → FirstThen table (standing cause.LineNumber (e.at ∷ [])) a b
      → FirstThen table (flat_map (λ (l : Bor NameList). standing cause.LineNumber (line_number_place l.now e)) ls) a b
  numbers_told e numbered is some then_ =
      rw numbered (one_for_all table cause.LineNumber (λ (l : Bor NameList). is_around e.before e.before l.now) (e.at ∷ []) ls a b
      (same_any (λ (l : Bor NameList). is_around e.before e.before l.now) is ∙ some) then_)

  pub no_numbers_told : (e : Event) → is_line_number e.kind e.def e.name ≡ true
      → any ≡ list_any (λ (l : Bor NameList). is_around e.before e.before l.now) sorted → any ≡ false
      → FirstThen table (flat_map (λ (l : Bor NameList). standing cause.LineNumber (line_number_place l.now e)) ls) a a
  no_numbers_told e numbered is none =
      rw numbered (none_for_all table cause.LineNumber (λ (l : Bor NameList). is_around e.before e.before l.now) (e.at ∷ []) ls a
      (same_any (λ (l : Bor NameList). is_around e.before e.before l.now) is ∙ none))

  -- a name that declares more inside a list
  inside_any : (k : ℕ) → any ≡ list_any (λ (l : Bor NameList). is_around k (k + 1) l.now) sorted → list_any (λ (l : Bor NameList). is_inside l.now k) ls ≡ any
  inside_any k is =
      same_any (λ (l : Bor NameList). is_inside l.now k)
      (is ∙ sym (any_alike (λ (l : Bor NameList). is_inside l.now k) (λ (l : Bor NameList). is_around k (k + 1) l.now) sorted (λ l. inside_around k l.now)))

  pub declarations_told : (toks : List Token) (n : Name) → declares_more toks n ≡ true
      → any ≡ list_any (λ (l : Bor NameList). is_around n.index (n.index + 1) l.now) sorted → any ≡ true
      → FirstThen table (standing cause.DeclarationInArgument (place_of toks n.index)) a b
      → FirstThen table (flat_map (λ (l : Bor NameList). standing cause.DeclarationInArgument (declaration_place toks l.now n)) ls) a b
  declarations_told toks n more is some then_ =
      rw more (one_for_all table cause.DeclarationInArgument (λ (l : Bor NameList). is_inside l.now n.index) (place_of toks n.index) ls a b
      (inside_any n.index is ∙ some) then_)

  pub no_declarations_told : (toks : List Token) (n : Name) → declares_more toks n ≡ true
      → any ≡ list_any (λ (l : Bor NameList). is_around n.index (n.index + 1) l.now) sorted → any ≡ false
      → FirstThen table (flat_map (λ (l : Bor NameList). standing cause.DeclarationInArgument (declaration_place toks l.now n)) ls) a a
  no_declarations_told toks n more is none =
      rw more (none_for_all table cause.DeclarationInArgument (λ (l : Bor NameList). is_inside l.now n.index) (place_of toks n.index) ls a
      (inside_any n.index is ∙ none))
