-- The tables make the renaming of the class.
use Rattle.std.proofs.Common.{◌≡◌, ℕ, zero, suc, ◌+◌, ◌≤◌, List, [], ◌∷◌, ◌++◌, length, take, get_or, Option, Some, None, inl, inr, refl, sym, ap, subst, ◌∙◌, arith}
use Rattle.std.specs.Prelude.{min}
use Rattle.std.specs.Option.{option_map_or, option_and_then}
use Rattle.std.proofs.lemmas.Bool.{cases_lt}
use Rattle.std.proofs.lemmas.List.{length-take}
use Rattle.std.proofs.lemmas.Option.{slice_get_past}
use Rattle.cs_base.specs.declared.positions.Part.{Part}
use Rattle.cs_base.specs.declared.positions.Pos.{Pos}
use Rattle.cs_base.proofs.ListLemmas.{default}
use Rattle.analysis.specs.Below.lexer.Places.{pos, origins_from}
use Rattle.analysis.specs.Below.lexer.Respelling.{respell}
use Rattle.part_respell.specs.Respelled.{put_at as what_at, put_for, put_of as putting, moved_to}
use Rattle.analysis.specs.Below.source_files.KeptFiles.{KeptValue, kept_in, kept_at}
use Rattle.analysis.specs.Analysis.{AnalysisValue}
use Rattle.offences.specs.declared.moves.FileMove.{FileMove}
use Rattle.offences.specs.declared.moves.Moves.{Moves}
use Rattle.offences.specs.declared.puts.Put.{Put}
use Rattle.offences.specs.declared.puts.Put.TheVariants.{Character}
use Rattle.offences.specs.Class.{IsFree}
use Rattle.offences.specs.Moves.{AreMoves, AreOfFile, IsOf, file_at, table_size, text_for, put_in, place_in, put_by, move_by, spell_of, trace_of, spell_by, trace_by, renaming_by, put_at, put_of, text_in}
use Rattle.offences.specs.Respelling.{spell_from, trace_from, origins_for, move_to, moved_in, renaming_of}
use Rattle.offences.proofs.PutPlaceLemmas.{text_is}
use Rattle.offences.proofs.OtherLemmas.{others_over}

get_past : {X : Type 0} (xs : List X) (k : ℕ) (d : X) → length xs ≤ k → get_or xs k d ≡ d
get_past [] k d past = refl
get_past (x ∷ xs) zero d past = absurd (omega (arith, past))
get_past (x ∷ xs) (suc k) d past = get_past xs k d (omega (arith, past))

take_past : {X : Type 0} (xs : List X) (k : ℕ) → length xs ≤ k → take k xs ≡ take (length xs) xs
take_past [] zero past = refl
take_past [] (suc k) past = refl
take_past (x ∷ xs) zero past = absurd (omega (arith, past))
take_past {X = X} (x ∷ xs) (suc k) past = ap (λ (ys : List X). x ∷ ys) (take_past xs k (omega (arith, past)))

module _ (a : AnalysisValue) (members : List Part) (name : List ℕ) (m : Moves) (are : AreMoves a.table members name m) where
  -- the tables of a number
  of_number : (n : ℕ) → IsOf members name n (kept_at a.table n) (file_at m n)
  of_number n = elim (cases_lt n (length a.table)) [
    | inl less ↦ are.each.1 n less
    | inr past ↦
        let none : kept_at a.table n ≡ None = ap (option_and_then (kept_in n)) (slice_get_past a.table n past) in
        let all = are.each.0 in
        subst (λ (f : Option FileMove). IsOf members name n (kept_at a.table n) f) (sym (get_past m.files.items n None (omega (arith, past, all))))
        (subst (λ (k : Option KeptValue). IsOf members name n k None) (sym none) tt)
  ]

  -- ---- characters and positions

  size_is : (n : ℕ) (f : Option FileMove) → file_at m n ≡ f → table_size m.files.items n ≡ option_map_or (λ (g : FileMove). length g.puts.items) f 0
  size_is n f e = ap (λ (g : Option FileMove). option_map_or (λ (h : FileMove). length h.puts.items) g 0) e

  other_put : (p : Pos) → table_size m.files.items p.file ≤ p.at → put_at m.others.items p ≡ put_at members p
  other_put p past =
      ap (λ (ms : List Part). put_at ms p) are.others
      ∙ ap (λ (o : Option Part). option_map_or (put_of p) o Character) (others_over m.files.items p past members)

  put_full : (p : Pos) (k : KeptValue) (f : FileMove) → file_at m p.file ≡ Some f → AreOfFile members name p.file k.bytes f
      → get_or f.puts.items p.at (put_at m.others.items p) ≡ put_at members p
  put_full p k f e of = elim (cases_lt p.at (length f.puts.items)) [
    | inl less ↦ default f.puts.items p.at (put_at m.others.items p) Character less ∙ of.puts p.at less
    | inr past ↦ get_past f.puts.items p.at (put_at m.others.items p) past ∙ other_put p (let size = size_is p.file (Some f) e in omega (arith, size, past))
  ]

  put_within : (p : Pos) (k : Option KeptValue) (f : Option FileMove) → file_at m p.file ≡ f → IsOf members name p.file k f
      → put_in m.others.items f p ≡ put_at members p
  put_within p None None e of = other_put p (let size = size_is p.file None e in omega (arith, size))
  put_within p (Some k) None e of = absurd of
  put_within p None (Some f) e of = absurd of
  put_within p (Some k) (Some f) e (inl full) = put_full p k f e full.1
  put_within p (Some k) (Some f) e (inr calm) =
      let none = ap length calm.0.puts in
      get_past f.puts.items p.at (put_at m.others.items p) (omega (arith, none)) ∙ other_put p (let size = size_is p.file (Some f) e in omega (arith, size, none))

  pub put_same : (p : Pos) (c : ℕ) → put_by m p c ≡ what_at members name p c
  put_same p c =
      ap (λ (x : Put). text_for m.name.items x c) (put_within p (kept_at a.table p.file) (file_at m p.file) refl (of_number p.file))
      ∙ (ap (λ (w : List ℕ). text_for w (put_at members p) c) are.spelled ∙ text_is members name p c)

  place_full : (p : Pos) (k : KeptValue) (f : FileMove) → AreOfFile members name p.file k.bytes f
      → get_or f.places.items p.at f.end ≡ moved_to members name p.file k.bytes p.at
  place_full p k f of = elim (cases_lt p.at (length (text_in k.bytes))) [
    | inl less ↦ of.places.each p.at f.end less
    | inr past ↦
        let count = of.places.count in
        get_past f.places.items p.at f.end (omega (arith, past, count))
        ∙ (of.places.next ∙ ap (λ (w : List ℕ). length (respell (putting members name p.file) 0 w)) (sym (take_past (text_in k.bytes) p.at past)))
  ]

  -- where no member stands in the file
  free_text : (file : ℕ) → IsFree members file → (at : ℕ) (w : List ℕ) → respell (putting members name file) at w ≡ w
  free_text file free at [] = refl
  free_text file free at (c ∷ cs) = rw (free (pos file at) refl) (ap (λ (v : List ℕ). c ∷ v) (free_text file free (at + 1) cs))

  place_same : (p : Pos) (k : KeptValue) (f : FileMove) → IsOf members name p.file (Some k) (Some f)
      → place_in (Some f) p.at ≡ moved_to members name p.file k.bytes p.at
  place_same p k f (inl full) = rw full.0 (place_full p k f full.1)
  place_same p k f (inr calm) =
      let size = length-take p.at (text_in k.bytes) in
      let end : min p.at f.end ≡ length (take p.at (text_in k.bytes)) = ap (λ (n : ℕ). min p.at n) calm.0.end ∙ sym size in
      rw calm.0.still (end ∙ ap length (sym (free_text p.file calm.1 0 (take p.at (text_in k.bytes)))))

  place_there : (p : Pos) (k : Option KeptValue) (f : Option FileMove) → IsOf members name p.file k f
      → pos p.file (place_in f p.at) ≡ option_map_or (moved_in members name p) k p
  place_there p None None of = refl
  place_there p (Some k) None of = absurd of
  place_there p None (Some f) of = absurd of
  place_there p (Some k) (Some f) of = ap (λ (n : ℕ). pos p.file n) (place_same p k f of)

  pub move_same : (p : Pos) → move_by m p ≡ move_to a members name p
  move_same p = place_there p (kept_at a.table p.file) (file_at m p.file) (of_number p.file)

  -- ---- tokens

  spell_one : (o : Option Pos) (c : ℕ) → spell_of m o c ≡ put_for members name o c
  spell_one None c = refl
  spell_one (Some p) c = put_same p c

  spell_same : (os : List (Option Pos)) (cs : List ℕ) → spell_by m os cs ≡ spell_from members name os cs
  unfolding spell_by spell_from
  spell_same [] cs = refl
  spell_same (o ∷ os) [] = refl
  spell_same (o ∷ os) (c ∷ cs) = ap (λ (w : List ℕ). w ++ spell_by m os cs) (spell_one o c) ∙ ap (λ (w : List ℕ). put_for members name o c ++ w) (spell_same os cs)

  trace_one : (o : Option Pos) (c : ℕ) → trace_of m o c ≡ origins_for a members name o c
  trace_one None c = refl
  trace_one (Some p) c =
      ap (λ (q : Pos). origins_from p.file q.at (length (put_by m p c))) (move_same p)
      ∙ ap (λ (w : List ℕ). origins_from p.file (move_to a members name p).at (length w)) (put_same p c)

  trace_same : (os : List (Option Pos)) (cs : List ℕ) → trace_by m os cs ≡ trace_from a members name os cs
  unfolding trace_by trace_from
  trace_same [] cs = refl
  trace_same (o ∷ os) [] = refl
  trace_same (o ∷ os) (c ∷ cs) =
      ap (λ (w : List (Option Pos)). w ++ trace_by m os cs) (trace_one o c)
      ∙ ap (λ (w : List (Option Pos)). origins_for a members name o c ++ w) (trace_same os cs)

  pub renaming_same : renaming_by m ≡ renaming_of a members name
  renaming_same = λ i. record { spell = λ os cs. spell_same os cs i; trace = λ os cs. trace_same os cs i; move = λ p. move_same p i }
