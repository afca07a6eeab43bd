-- Include lines (6.10.2).
use Rattle.std.proofs.Common.{◌≡◌, ◌≤◌, true, List, [], ◌∷◌, length, get_or, arith, Ok, Option, Some, sym, ◌∙◌, ap}
use Rattle.cs_base.specs.declared.positions.Pos.{Pos}
use Rattle.cs_base.specs.Token.{Token}
use Rattle.source_files.specs.Files.{SourceFile}
use Rattle.unit_steps.specs.State.{State, only}
use Rattle.source_files.specs.Search.{Header}
use Rattle.unit_steps.specs.IncludeNames.{header_named, written_header}
use Rattle.source_files.specs.HeaderNames.{is_header, header_in}
use Rattle.unit_steps.specs.Texts.{UnitTextValue}
use Rattle.unit_steps.specs.Keeping.{kept_after}
use Rattle.unit_steps.proofs.KeepingLemmas.{noted_in-nil}

-- a value, where nothing happens
pub kept-only : {A : Type 0} (k : UnitTextValue) (value : A) (s : State) → kept_after k (only value s) ≡ Ok (value, s, k)
kept-only {A} k value s = ap (λ (t : UnitTextValue). Ok (value, s, t)) (noted_in-nil k)

-- the header of a header name
pub header-alone : (k : UnitTextValue) (file : SourceFile) (at : Pos) (toks : List Token) (s : State) (t : Token) (h : Header) → 1 ≤ length toks → t ≡ get_or toks 0 t
    → is_header t.kind ≡ true → h ≡ header_in t.text → kept_after k (header_named file at toks s) ≡ Ok (h, s, k)
header-alone k file at [] s t h some is header named = absurd (omega (arith, some))
header-alone k file at (u ∷ us) s t h some is header named =
    let here : is_header u.kind ≡ true = ap (λ (x : Token). is_header x.kind) (sym is) ∙ header in
    let same : header_in u.text ≡ h = ap (λ (x : Token). header_in x.text) (sym is) ∙ sym named in
    rw here (kept-only k (header_in u.text) s ∙ ap (λ (x : Header). Ok (x, s, k)) same)

-- the header of tokens as they stand
pub header-written : (k : UnitTextValue) (file : SourceFile) (at : Pos) (s : State) (o : Option Header) (h : Header) → o ≡ Some h
    → kept_after k (written_header file at s o) ≡ Ok (h, s, k)
header-written k file at s o h is = ap (λ (x : Option Header). kept_after k (written_header file at s x)) is ∙ kept-only k h s
