-- The pseudo files of units: each unit gives a number to its own alone.
use Rattle.std.proofs.Common.{◌≡◌, ◌<◌, ◌^◌, ℕ, true, false, cond, is_some, List, [], ◌∷◌, ◌++◌, codes, Option, None, Some, refl, sym, subst, inl, inr}
use Rattle.std.specs.Str.{bytes_eq}
use Rattle.std.specs.Fmt.{decimal}
use Rattle.std.proofs.lemmas.Bool.{cases_Bool}
use Rattle.std.proofs.lemmas.Fmt.{decimal_injective}
use Rattle.std.proofs.lemmas.List.{append_cancel_left, append_cancel_right}
use Rattle.cs_base.specs.Units.{UnitValue, defines_of}
use Rattle.cs_base.proofs.FileMapLemmas.{bytes_eq-equal}
use Rattle.source_files.specs.Limits.{Limits}
use Rattle.source_files.specs.Files.{Source, Found, Made, Entry, Table, Carried, found_at, found_in, numbered, opened, defines_path}
use Rattle.unit_steps.specs.State.{Context, context, State}
use Rattle.source_files.specs.Opening.{Reader}
use Rattle.include_tree.specs.Unit.{pseudo_path, first_state, unit_outcome}
use Rattle.include_tree.specs.Laws.{IfDone}
use Rattle.include_tree.specs.PseudoFiles.{is_pseudo}
use Rattle.include_tree.proofs.DefinesLemmas.{with_defines_has}
use Rattle.include_tree.proofs.StayLemmas.{IsStable}
use Rattle.include_tree.proofs.StayingWalk.{both_files_stay}

-- another path has no number where it had none
abbrev pub Lacks : List ℕ → Table → Type 0
Lacks path t = found_at path t ≡ None

lacks_rest : (path : List ℕ) (e : Entry) (t : Table) → bytes_eq path e.path ≡ false → Lacks path (e ∷ t) → Lacks path t
unfolding found_at
lacks_rest path e t other h =
    let k : cond (bytes_eq path e.path) (Some e.found) (found_at path t) ≡ None = h in rw other at k

lacks_here : (path : List ℕ) (e : Entry) (t : Table) → bytes_eq path e.path ≡ true → Lacks path (e ∷ t) → ⊥
unfolding found_at
lacks_here path e t same h =
    let k : cond (bytes_eq path e.path) (Some e.found) (found_at path t) ≡ None = h in
    let l : ◌≡◌ {A = Option Found} (Some e.found) None = rw same at k in cc

pub lacks-push : (path other : List ℕ) (found : Found) (t : Table) → bytes_eq path other ≡ false → Lacks path t → Lacks path (numbered other found t)
unfolding found_at
lacks-push path other found [] apart h = rw apart refl
lacks-push path other found (e ∷ t) apart h = elim (cases_Bool (bytes_eq path e.path)) [
  | inl same ↦ absurd (lacks_here path e t same h)
  | inr differs ↦ rw differs (lacks-push path other found t apart (lacks_rest path e t differs h))
]

lacks-opened : (path other bytes : List ℕ) (t : Table) → Lacks path t → Lacks path (opened other bytes t)
unfolding found_at opened
lacks-opened path other bytes [] h = refl
lacks-opened path other bytes (e ∷ t) h = elim (cases_Bool (bytes_eq path e.path)) [
  | inl same ↦ absurd (lacks_here path e t same h)
  | inr differs ↦ elim (cases_Bool (bytes_eq other e.path)) [
    | inl there ↦
        let apart : bytes_eq path other ≡ false = subst (λ (p : List ℕ). bytes_eq path p ≡ false) (sym (bytes_eq-equal other e.path there)) differs in
        rw there (rw apart (lacks_rest path e t differs h))
    | inr elsewhere ↦ rw elsewhere (rw differs (lacks-opened path other bytes t (lacks_rest path e t differs h)))
  ]
]

asked_lacks : (source : Source) (path other : List ℕ) (t : Table) (o : Option Found) → bytes_eq path other ≡ false → Lacks path t
    → Lacks path (cond (is_some o) t (numbered other (found_in (source other)) t))
asked_lacks source path other t None apart h = lacks-push path other (found_in (source other)) t apart h
asked_lacks source path other t (Some found) apart h = h

-- a pseudo file and a file have different paths
pseudo_apart : (path other : List ℕ) → is_pseudo path ≡ true → is_pseudo other ≡ false → bytes_eq path other ≡ false
pseudo_apart path other is not = elim (cases_Bool (bytes_eq path other)) [
  | inl same ↦ absurd (let e : is_pseudo path ≡ false = subst (λ (p : List ℕ). is_pseudo p ≡ false) (sym (bytes_eq-equal path other same)) not in cc)
  | inr differs ↦ differs
]

pseudo_stable : (source : Source) (path : List ℕ) → is_pseudo path ≡ true → IsStable source (Lacks path)
pseudo_stable source path is = record {
  asks = λ other t real h. asked_lacks source path other t (found_at other t) (pseudo_apart path other is real) h;
  opens = λ other bytes t there h. lacks-opened path other bytes t h;
}

-- ---- the pseudo files of two units

defines-equal : (m n : ℕ) → m < 2 ^ 64 → n < 2 ^ 64 → defines_path m ≡ defines_path n → m ≡ n
defines-equal m n few few2 h =
    decimal_injective m n few few2
    (append_cancel_left (codes "<defines ") (decimal m) (decimal n)
    (append_cancel_right (codes "<defines " ++ decimal m) (codes "<defines " ++ decimal n) (codes ">") h))

pub defines-apart : (m n : ℕ) → m < 2 ^ 64 → n < 2 ^ 64 → (m ≡ n → ⊥) → bytes_eq (defines_path m) (defines_path n) ≡ false
defines-apart m n few few2 other = elim (cases_Bool (bytes_eq (defines_path m) (defines_path n))) [
  | inl same ↦ absurd (other (defines-equal m n few few2 (bytes_eq-equal (defines_path m) (defines_path n) same)))
  | inr differs ↦ differs
]

pub others_stay : (limits : Limits) (reader : Reader) (source : Source) (number other : ℕ) (unit : UnitValue) (before : Carried)
    → is_pseudo unit.path ≡ false → number < 2 ^ 64 → other < 2 ^ 64 → (other ≡ number → ⊥)
    → found_at (defines_path other) before.table ≡ None
    → IfDone (λ toks t. found_at (defines_path other) t.table ≡ None) (unit_outcome limits reader source number unit before)
others_stay limits reader source number other unit before real few few2 apart none =
    let ctx : Context = context source reader unit limits before.toks in
    let s : State = first_state limits number unit before.table in
    both_files_stay ctx (Lacks (defines_path other)) (pseudo_stable source (defines_path other) refl) (pseudo_path number unit before.table) unit.path s real
    (with_defines_has (Lacks (defines_path other)) number unit before.table none
    (lacks-push (defines_path other) (defines_path number) (Made (defines_of unit)) before.table
    (defines-apart other number few2 few apart) none))
