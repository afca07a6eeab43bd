-- The texts of units, one unit at a time.
use Rattle.std.proofs.Common.{◌≡◌, ℕ, ◌+◌, ◌<◌, ◌≤◌, List, [], ◌∷◌, ◌++◌, length, get_or, drop, Option, None, Some, Result, Ok, Err, refl, sym, ◌∙◌, ap, append_assoc, length-append, arith}
use Rattle.std.specs.Prelude.{IfSome}
use Rattle.std.proofs.lemmas.List.{at_drop_more, at_drop_all, append-nil}
use Rattle.cs_base.specs.Answer.{result_then}
use Rattle.cs_base.specs.Units.{UnitValue}
use Rattle.include_tree.specs.Preprocessed.{with_text}
use Rattle.include_tree.specs.Below.source_files.Files.{Source, Carried, nothing_carried}
use Rattle.include_tree.specs.Below.unit_steps.Texts.{UnitTextValue}
use Rattle.analysis.specs.Texts.{TextsValue, texts_and, UnitFault, with_front, unit_with, texts_from, texts_of}

-- texts, and then those of later units
abbrev pub behind : List UnitTextValue → Result TextsValue UnitFault → Result TextsValue UnitFault
behind all (Ok later) = Ok (texts_and (all ++ later.texts) later.table)
behind all (Err fault) = Err fault

behind-none : (r : Result TextsValue UnitFault) → behind [] r ≡ r
behind-none (Ok later) = refl
behind-none (Err fault) = refl

behind-front : (all : List UnitTextValue) (text : UnitTextValue) (r : Result TextsValue UnitFault)
    → behind all (result_then (λ later. Ok (with_front text later)) r) ≡ behind (all ++ text ∷ []) r
behind-front all text (Ok later) =
    ap (λ (texts : List UnitTextValue). Ok (texts_and texts later.table)) (sym (append_assoc all (text ∷ []) later.texts))
behind-front all text (Err fault) = refl

pub length-more : (all now : List UnitTextValue) (text : UnitTextValue) (i : ℕ) → now ≡ all ++ text ∷ [] → length all ≡ i → length now ≡ i + 1
length-more all now text i is each = rw is (omega (arith, length-append all (text ∷ []), each))

-- no unit was preprocessed yet
pub rest_first : (source : Source) (units : List UnitValue) (before : Carried) → before ≡ nothing_carried
    → behind [] (texts_from source (0 + 1) (drop 0 units) before) ≡ texts_of source units
rest_first source units before is = rw is (behind-none (texts_from source 1 units nothing_carried))

-- the first unit left has a fault
pub rest_fault : (source : Source) (units : List UnitValue) (i : ℕ) (unit d : UnitValue) (all : List UnitTextValue) (before : Carried) (named : Option UnitFault)
    → i < length units → unit ≡ get_or units i d
    → behind all (texts_from source (i + 1) (drop i units) before) ≡ texts_of source units
    → IfSome named (λ f. unit_with source (i + 1) unit before ≡ Err f)
    → IfSome named (λ f. texts_of source units ≡ Err f)
unfolding texts_from
rest_fault source units i unit d all before None h p rest step = tt
rest_fault source units i unit d all before (Some f) h p rest step =
    let more = at_drop_more (λ (us : List UnitValue). behind all (texts_from source (i + 1) us before)) units i d h in
    let now = rw (← p) at more in
    sym rest ∙ now ∙ rw step refl

-- the first unit left is preprocessed
pub rest_more : (source : Source) (units : List UnitValue) (i : ℕ) (unit d : UnitValue) (all now : List UnitTextValue) (text : UnitTextValue) (before after : Carried)
    → i < length units → unit ≡ get_or units i d → now ≡ all ++ text ∷ []
    → behind all (texts_from source (i + 1) (drop i units) before) ≡ texts_of source units
    → unit_with source (i + 1) unit before ≡ Ok (with_text after text)
    → behind now (texts_from source (i + 1 + 1) (drop (i + 1) units) after) ≡ texts_of source units
unfolding texts_from
rest_more source units i unit d all now text before after h p is rest step =
    let more = at_drop_more (λ (us : List UnitValue). behind all (texts_from source (i + 1) us before)) units i d h in
    let head = rw (← p) at more in
    let next = rw step at head in
    rw is (sym (behind-front all text (texts_from source (i + 1 + 1) (drop (i + 1) units) after)) ∙ sym next ∙ rest)

-- no unit is left
pub rest_end : (source : Source) (units : List UnitValue) (i : ℕ) (all : List UnitTextValue) (before : Carried) → length units ≤ i
    → behind all (texts_from source (i + 1) (drop i units) before) ≡ texts_of source units
    → texts_of source units ≡ Ok (texts_and all before.table)
unfolding texts_from
rest_end source units i all before h rest =
    sym rest ∙ at_drop_all (λ (us : List UnitValue). behind all (texts_from source (i + 1) us before)) units i h
    ∙ ap (λ (texts : List UnitTextValue). Ok (texts_and texts before.table)) (append-nil all)
