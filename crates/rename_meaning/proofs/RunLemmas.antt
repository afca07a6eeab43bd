-- The members of one file, and the file as they are respelled in it.
use Rattle.std.proofs.Common.{◌≡◌, ℕ, zero, suc, ◌+◌, ◌-◌, ◌≤◌, ◌^◌, Bool, true, false, cond, ◌==◌, List, [], ◌∷◌, ◌++◌, length, take, drop, Option, Some, None, inl, inr, refl, sym, ap, subst, ◌∙◌, arith, nat_lt}
use Rattle.std.specs.List.{flat_map, prefix_len}
use Rattle.std.specs.Option.{option_map_or}
use Rattle.std.proofs.lemmas.Bool.{cases_Bool, cases_lt, both_ways, eq-eqb, eqb-true, lt-ltb, false_from_ne_true}
use Rattle.cs_base.specs.declared.positions.Part.{Part}
use Rattle.cs_base.specs.declared.positions.Pos.{Pos}
use Rattle.cs_base.proofs.ListLemmas.{front_none as nil_left, nil_behind as nil_right}
use Rattle.lexer.specs.Logical.{gone_length}
use Rattle.lexer.specs.Places.{pos}
use Rattle.lexer.specs.Respelling.{Put, edited_from as bytes_edited, edited}
use Rattle.source_files.specs.KeptFiles.{KeptValue, kept_at}
use Rattle.analysis.specs.Below.eclass_map.Positions.{holds}
use Rattle.analysis.proofs.Below.eclass_map.TokenFacts.{holding}
use Rattle.part_respell.specs.Respelled.{member_over, put_in, put_of, respelled}
use Rattle.analysis.specs.Analysis.{AnalysisValue}
use Rattle.rename_rules.specs.Offences.{large_place}
use Rattle.rename_rules.specs.Runs.{runs, is_in, is_edited, new_size, size_of}
use Rattle.rename_rules.proofs.RunLemmas.{runs-split}
use Rattle.edited_unit_laws.proofs.ListLemmas.{cons_nil}
use Rattle.rename_meaning.proofs.MemberOrderLemmas.{NoneIn, StandTogether}

-- ---- texts with the same for each character

edited_same : (p q : Put) → ((at c : ℕ) → p at c ≡ q at c) → (skip at : ℕ) (bytes : List ℕ) → bytes_edited p skip at bytes ≡ bytes_edited q skip at bytes
unfolding bytes_edited
edited_same p q same zero at [] = refl
edited_same p q same (suc skip) at [] = refl
edited_same p q same (suc skip) at (c ∷ cs) = ap (λ (w : List ℕ). c ∷ w) (edited_same p q same skip at cs)
edited_same p q same zero at (c ∷ cs) = elim (cases_Bool (gone_length c cs == 0)) [
  | inl character ↦
      rw character
      (ap (λ (w : List ℕ). w ++ bytes_edited p 0 (at + 1) cs) (same at c) ∙ ap (λ (w : List ℕ). q at c ++ w) (edited_same p q same 0 (at + 1) cs))
  | inr gone ↦ rw gone (ap (λ (w : List ℕ). c ∷ w) (edited_same p q same (gone_length c cs - 1) at cs))
]

-- a file in which the same members lie is respelled so
over_same : (xs ys : List Part) (name : List ℕ) (file : ℕ) (bytes : List ℕ) → ((at : ℕ) → member_over xs (pos file at) ≡ member_over ys (pos file at))
    → respelled xs name file bytes ≡ respelled ys name file bytes
unfolding respelled edited
over_same xs ys name file bytes same =
    edited_same (put_of xs name file) (put_of ys name file)
    (λ at c. ap (λ (o : Option Part). option_map_or (put_in name (pos file at)) o (c ∷ [])) (same at)) 0 0 bytes

-- ---- members of one file

no_hold : (m : Part) (file at : ℕ) → (m.start.file ≡ file → ⊥) → holds m (pos file at) ≡ false
no_hold m file at other = false_from_ne_true (holds m (pos file at)) (λ held. other (holding m (pos file at) held).file)

none_over : (ms : List Part) (file at : ℕ) → NoneIn file ms → member_over ms (pos file at) ≡ None
none_over [] file at h = refl
none_over (m ∷ ms) file at h = rw (no_hold m file at h.0) (none_over ms file at h.1)

-- those behind the first ones of a file do not lie in it
front_over : (file at k : ℕ) (ms : List Part) → NoneIn file (drop k ms) → member_over ms (pos file at) ≡ member_over (take k ms) (pos file at)
front_over file at zero ms none = none_over ms file at none
front_over file at (suc k) [] none = refl
front_over file at (suc k) (m ∷ ms) none = elim (cases_Bool (holds m (pos file at))) [
  | inl held ↦ rw held refl
  | inr other ↦ rw other (front_over file at k ms none)
]

-- the first ones of a file do not lie in another
behind_over : (first file at : ℕ) (ms : List Part) → (first ≡ file → ⊥)
    → member_over ms (pos file at) ≡ member_over (drop (prefix_len (is_in first) ms) ms) (pos file at)
behind_over first file at [] other = refl
behind_over first file at (m ∷ ms) other = elim (cases_Bool (is_in first m)) [
  | inl passes ↦
      let here : m.start.file ≡ first = eqb-true m.start.file first passes in
      let not_held : holds m (pos file at) ≡ false = no_hold m file at (λ e. other (sym here ∙ e)) in
      let next : suc (prefix_len (is_in first) ms) ≡ 1 + prefix_len (is_in first) ms = omega arith in
      rw passes (rw not_held (behind_over first file at ms other ∙ ap (λ (n : ℕ). member_over (drop n (m ∷ ms)) (pos file at)) next))
  | inr fails ↦ rw fails refl
]

behind_edited : (first number : ℕ) (ms : List Part) → (first ≡ number → ⊥) → is_edited ms number ≡ is_edited (drop (prefix_len (is_in first) ms) ms) number
behind_edited first number [] other = refl
behind_edited first number (m ∷ ms) other = elim (cases_Bool (is_in first m)) [
  | inl passes ↦
      let here : m.start.file ≡ first = eqb-true m.start.file first passes in
      let not_there : (m.start.file == number) ≡ false = false_from_ne_true (m.start.file == number) (λ e. other (sym here ∙ eqb-true m.start.file number e)) in
      let next : suc (prefix_len (is_in first) ms) ≡ 1 + prefix_len (is_in first) ms = omega arith in
      rw passes (rw not_there (behind_edited first number ms other ∙ ap (λ (n : ℕ). is_edited (drop n (m ∷ ms)) number) next))
  | inr fails ↦ rw fails refl
]

drop_together : (k : ℕ) (ms : List Part) → StandTogether ms → StandTogether (drop k ms)
drop_together zero ms h = h
drop_together (suc k) [] h = tt
drop_together (suc k) (m ∷ ms) h = drop_together k ms h.1

drop_less : (k : ℕ) (ms : List Part) → length (drop k ms) ≤ length ms
drop_less zero ms = omega arith
drop_less (suc k) [] = omega arith
drop_less (suc k) (m ∷ ms) = let h = drop_less k ms in omega (arith, h)

-- ---- one run and those behind it

-- the first run of members, and the members behind it
abbrev pub run_of : Part → List Part → List Part
run_of m ms = m ∷ take (prefix_len (is_in m.start.file) ms) ms

abbrev pub rest_of : Part → List Part → List Part
rest_of m ms = drop (prefix_len (is_in m.start.file) ms) ms

pub runs_are : (m : Part) (ms : List Part) → runs (m ∷ ms) ≡ run_of m ms ∷ runs (rest_of m ms)
runs_are m ms =
    let k = prefix_len (is_in m.start.file) ms in
    let next : k + 1 ≡ suc k = omega arith in
    runs-split m ms ∙ ap (λ (n : ℕ). take n (m ∷ ms) ∷ runs (drop n (m ∷ ms))) next

pub rest_less : (m : Part) (ms : List Part) → length (rest_of m ms) ≤ length ms
rest_less m ms = drop_less (prefix_len (is_in m.start.file) ms) ms

pub rest_together : (m : Part) (ms : List Part) → StandTogether (m ∷ ms) → StandTogether (rest_of m ms)
rest_together m ms h = drop_together (prefix_len (is_in m.start.file) ms) ms h.1

-- the file of the run is respelled by it as by all members
pub run_respelled : (m : Part) (ms : List Part) (name bytes : List ℕ) (file : ℕ) → m.start.file ≡ file → StandTogether (m ∷ ms)
    → respelled (m ∷ ms) name file bytes ≡ respelled (run_of m ms) name file bytes
run_respelled m ms name bytes file same h =
    let k = prefix_len (is_in m.start.file) ms in
    over_same (m ∷ ms) (run_of m ms) name file bytes (λ at.
    front_over file at (suc k) (m ∷ ms) (subst (λ (n : ℕ). NoneIn n (drop k ms)) same h.0))

-- any other one by those behind it
pub rest_respelled : (m : Part) (ms : List Part) (name bytes : List ℕ) (file : ℕ) → (m.start.file ≡ file → ⊥)
    → respelled (m ∷ ms) name file bytes ≡ respelled (rest_of m ms) name file bytes
rest_respelled m ms name bytes file other =
    over_same (m ∷ ms) (rest_of m ms) name file bytes (λ at. rw (no_hold m file at other) (behind_over m.start.file file at ms other))

pub rest_edited : (m : Part) (ms : List Part) (number : ℕ) → (m.start.file ≡ number → ⊥) → is_edited (m ∷ ms) number ≡ is_edited (rest_of m ms) number
rest_edited m ms number other =
    let not_there : (m.start.file == number) ≡ false = false_from_ne_true (m.start.file == number) (λ e. other (eqb-true m.start.file number e)) in
    rw not_there (behind_edited m.start.file number ms other)

-- ---- no file is too large

pub cond_none : (b : Bool) (p : Pos) → cond b (p ∷ []) [] ≡ [] → b ≡ false
cond_none true p e = absurd (cons_nil p [] e)
cond_none false p e = refl

pub not_more : (most n : ℕ) → nat_lt most n ≡ false → n ≤ most
not_more most n h = elim (cases_lt most n) [
  | inl more ↦ absurd (both_ways (nat_lt most n) h (lt-ltb most n more))
  | inr within ↦ within
]

module _ (a : AnalysisValue) (name : List ℕ) where
  -- the size of a file in which these members are respelled
  abbrev pub size_by : List Part → KeptValue → ℕ
  size_by ms f = size_of f (respelled ms name f.number f.bytes)

  pub run_size : (m : Part) (ms : List Part) (f : KeptValue) → kept_at a.table m.start.file ≡ Some f → m.start.file ≡ f.number → StandTogether (m ∷ ms)
      → new_size a name (run_of m ms) ≡ size_by (m ∷ ms) f
  run_size m ms f is number h =
      ap (λ (o : Option KeptValue). option_map_or (λ (g : KeptValue). size_of g (respelled (run_of m ms) name g.number g.bytes)) o 0) is
      ∙ ap (size_of f) (sym (run_respelled m ms name f.bytes f.number number h))

  pub sizes_small : (len : ℕ) (ms : List Part) → length ms ≤ len → StandTogether ms → flat_map (large_place a name) (runs ms) ≡ [] → (number : ℕ) (f : KeptValue)
      → kept_at a.table number ≡ Some f → number ≡ f.number → is_edited ms number ≡ true → size_by ms f ≤ 2 ^ 22
  sizes_small len [] less h none number f is own edited_is = absurd (cc)
  sizes_small zero (m ∷ ms) less h none number f is own edited_is = absurd (omega (arith, less))
  sizes_small (suc len) (m ∷ ms) less h none number f is own edited_is =
      let all : large_place a name (run_of m ms) ++ flat_map (large_place a name) (runs (rest_of m ms)) ≡ [] =
      ap (flat_map (large_place a name)) (sym (runs_are m ms)) ∙ none in
      elim (cases_Bool (m.start.file == number)) [
        | inl same ↦
            let file : m.start.file ≡ number = eqb-true m.start.file number same in
            let here : kept_at a.table m.start.file ≡ Some f = ap (kept_at a.table) file ∙ is in
            let not_large : nat_lt (2 ^ 22) (new_size a name (run_of m ms)) ≡ false =
            cond_none (nat_lt (2 ^ 22) (new_size a name (run_of m ms))) m.start (nil_left (large_place a name (run_of m ms)) (flat_map (large_place a name) (runs (rest_of m ms))) all) in
            let size = run_size m ms f here (file ∙ own) h in
            let few = not_more (2 ^ 22) (new_size a name (run_of m ms)) not_large in
            subst (λ (n : ℕ). n ≤ 2 ^ 22) size few
        | inr other ↦
            let apart : m.start.file ≡ number → ⊥ = λ e. both_ways (m.start.file == number) other (eq-eqb m.start.file number e) in
            let rest = rest_less m ms in
            let later = sizes_small len (rest_of m ms) (omega (arith, less, rest)) (rest_together m ms h)
            (nil_right (large_place a name (run_of m ms)) (flat_map (large_place a name) (runs (rest_of m ms))) all) number f is own (sym (rest_edited m ms number apart) ∙ edited_is) in
            let same : size_by (rest_of m ms) f ≡ size_by (m ∷ ms) f =
            ap (size_of f) (sym (rest_respelled m ms name f.bytes f.number (λ e. apart (e ∙ sym own)))) in
            subst (λ (n : ℕ). n ≤ 2 ^ 22) same later
      ]
