-- All units of a workspace: those that are kept, and those that are made again when they are asked for.
use Rattle.std.proofs.Common.{◌≡◌, ℕ, zero, suc, ◌+◌, ◌-◌, ◌<◌, ◌≤◌, ◌^◌, List, [], ◌∷◌, ◌++◌, length, map, take, drop, Option, None, Some, Result, Ok, Err, refl, sym, ◌∙◌, ap, subst, arith, length-append, slice_get, slice_range}
use Rattle.std.proofs.lemmas.List.{append-nil, length-drop, length-map}
use Rattle.std.proofs.lemmas.Option.{none-some, slice_get-map, slice_get_within}
use Rattle.std.specs.Option.{option_map}
use Rattle.cs_base.specs.Token.{Token}
use Rattle.cs_base.specs.Units.{UnitValue}
use Rattle.cs_base.specs.Answer.{result_map_err}
use Rattle.cs_base.specs.declared.positions.Pos.{Pos}
use Rattle.cs_base.proofs.AnswerLemmas.{map_err_ok as unmapped}
use Rattle.cs_base.proofs.ListLemmas.{at_drop, get-front, next}
use Rattle.include_tree.specs.Below.source_files.Files.{Source, Table, Carried, carried, found_at, defines_path}
use Rattle.include_tree.specs.Below.source_files.Tables.{AreFound, HasEachOnce}
use Rattle.include_tree.specs.Below.unit_steps.Texts.{UnitTextValue}
use Rattle.include_tree.specs.Preprocessed.{Preprocessed, preprocessed, with_text}
use Rattle.include_tree.proofs.Below.source_files.AgreeLemmas.{some_source}
use Rattle.include_tree.proofs.Below.source_files.TableLemmas.{grown_refl}
use Rattle.analysis.specs.Texts.{unit_fault}
use Rattle.analysis.specs.Analysis.{UnitAnalysis, read_unit}
use Rattle.analysis.specs.Carrying.{IsFresh}
use Rattle.analysis.specs.GnuUnits.{gnu_begin}
use Rattle.analysis.specs.MadeAgain.{IsMadeAgain, units_again, AreMadeAgain, others_of, all_units, AreTaken}
use Rattle.analysis.specs.BroughtNumbers.{all_brought}
use Rattle.cs_base.specs.Limits.{most_units}
use Rattle.analysis.proofs.MadeAgainLemmas.{ok_same, list_at, list_count}
use Rattle.analysis.proofs.PushedLemmas.{behind_at}

-- ---- lists

pub taken_at : {X : Type 0} (n : ℕ) (xs : List X) (j : ℕ) (x : X) → j < n → slice_get xs j ≡ Some x → slice_get (take n xs) j ≡ Some x
taken_at zero xs j x less at = absurd (omega (arith, less))
taken_at (suc n) [] j x less at = absurd (cc)
taken_at (suc n) (y ∷ ys) zero x less at = at
taken_at (suc n) (y ∷ ys) (suc j) x less at = taken_at n ys j x (omega (arith, less)) at

pub taken_count : {X : Type 0} (n : ℕ) (xs : List X) → n ≤ length xs → length (take n xs) ≡ n
taken_count zero xs few = refl
taken_count (suc n) [] few = absurd (omega (arith, few))
taken_count (suc n) (y ∷ ys) few = ap (λ (m : ℕ). suc m) (taken_count n ys (omega (arith, few)))

pub taken_few : {X : Type 0} (n : ℕ) (xs : List X) → length (take n xs) ≤ n
taken_few zero xs = omega arith
taken_few (suc n) [] = omega arith
taken_few (suc n) (y ∷ ys) = let h = taken_few n ys in omega (arith, h)

-- ---- all units

-- how many there are
pub all_count : (t : Table) (units : List UnitValue) (kept : List UnitAnalysis) (others : ℕ) (begins : List (Option Pos)) (brought : List Token)
    → AreTaken t units kept others begins brought → length (all_units t units kept others) ≡ length kept + others
all_count t units kept others begins brought h =
    let some : length (drop (length kept) units) ≡ length units - length kept = length-drop (length kept) units in
    let own : length (others_of units (length kept) others) ≡ others = taken_count others (drop (length kept) units) (omega (arith, some, h.within)) in
    let again : length (units_again t (others_of units (length kept) others)) ≡ others =
    list_count t (others_of units (length kept) others) (units_again t (others_of units (length kept) others)) h.again ∙ own in
    length-append kept (units_again t (others_of units (length kept) others)) ∙ ap (λ (n : ℕ). length kept + n) again

-- one that is kept
pub own_at : (t : Table) (units : List UnitValue) (kept : List UnitAnalysis) (others k : ℕ) (u : UnitAnalysis) → slice_get kept k ≡ Some u
    → slice_get (all_units t units kept others) k ≡ Some u
own_at t units kept others k u at = get-front kept (units_again t (others_of units (length kept) others)) k (slice_get_within kept k u at) ∙ at

-- one that is made again
pub other_at : (t : Table) (units : List UnitValue) (kept : List UnitAnalysis) (others k : ℕ) (begins : List (Option Pos)) (brought : List Token) (unit : UnitValue) (v : UnitAnalysis)
    → AreTaken t units kept others begins brought → length kept ≤ k → k < length kept + others → slice_get units k ≡ Some unit
    → ((u : UnitAnalysis) → IsMadeAgain t unit u → v ≡ u) → slice_get (all_units t units kept others) k ≡ Some v
other_at t units kept others k begins brought unit v h from less at is =
    let j : ℕ = k - length kept in
    let place : length kept + j ≡ k = omega (arith, from) in
    let mine : slice_get (drop (length kept) units) j ≡ Some unit = at_drop units (length kept) j ∙ ap (slice_get units) place ∙ at in
    let own : slice_get (others_of units (length kept) others) j ≡ Some unit = taken_at others (drop (length kept) units) j unit (omega (arith, from, less)) mine in
    let again : List UnitAnalysis = units_again t (others_of units (length kept) others) in
    let u = list_at t (others_of units (length kept) others) again j unit h.again own in
    ap (slice_get (all_units t units kept others)) (sym place) ∙ behind_at kept again u.0 j u.1 ∙ ap (λ (x : UnitAnalysis). Some x) (sym (is u.0 u.2))

pub other_made : (t : Table) (units : List UnitValue) (kept : List UnitAnalysis) (others k : ℕ) (begins : List (Option Pos)) (brought : List Token) (unit : UnitValue)
    → AreTaken t units kept others begins brought → length kept ≤ k → k < length kept + others → slice_get units k ≡ Some unit → (u : UnitAnalysis) × IsMadeAgain t unit u
other_made t units kept others k begins brought unit h from less at =
    let j : ℕ = k - length kept in
    let place : length kept + j ≡ k = omega (arith, from) in
    let mine : slice_get (drop (length kept) units) j ≡ Some unit = at_drop units (length kept) j ∙ ap (slice_get units) place ∙ at in
    let own : slice_get (others_of units (length kept) others) j ≡ Some unit = taken_at others (drop (length kept) units) j unit (omega (arith, from, less)) mine in
    let u = list_at t (others_of units (length kept) others) (units_again t (others_of units (length kept) others)) j unit h.again own in
    (u.0, u.2)

-- where one begins
pub begin_at : (t : Table) (units : List UnitValue) (kept : List UnitAnalysis) (others k : ℕ) (begins : List (Option Pos)) (brought : List Token) (b : Option Pos)
    → AreTaken t units kept others begins brought → slice_get begins k ≡ Some b → option_map gnu_begin (slice_get (all_units t units kept others) k) ≡ Some b
begin_at t units kept others k begins brought b h at =
    sym (slice_get-map gnu_begin (all_units t units kept others) k) ∙ ap (λ (bs : List (Option Pos)). slice_get bs k) (sym h.begins) ∙ at

-- ---- a unit once more

text_same : (source : Source) (number : ℕ) (unit : UnitValue) (before after : Carried) (t : Table) (text : UnitTextValue) (u : UnitAnalysis) → before ≡ carried t 0
    → preprocessed source number unit before ≡ Ok (with_text after text) → IsMadeAgain t unit u → text ≡ u.text
text_same source number unit before after t text u is h m =
    let mine : preprocessed source number unit (carried t 0) ≡ Ok (with_text after text) = subst (λ (b : Carried). preprocessed source number unit b ≡ Ok (with_text after text)) is h in
    ap (λ (p : Preprocessed). p.text) (ok_same (with_text after text) (with_text (carried t (0 + length u.text.toks)) u.text) (sym mine ∙ m.text source number t (grown_refl t)))

table_same : (source : Source) (number : ℕ) (unit : UnitValue) (before after : Carried) (t : Table) (text : UnitTextValue) (u : UnitAnalysis) → before ≡ carried t 0
    → preprocessed source number unit before ≡ Ok (with_text after text) → IsMadeAgain t unit u → after.table ≡ t
table_same source number unit before after t text u is h m =
    let mine : preprocessed source number unit (carried t 0) ≡ Ok (with_text after text) = subst (λ (b : Carried). preprocessed source number unit b ≡ Ok (with_text after text)) is h in
    ap (λ (p : Preprocessed). p.after.table) (ok_same (with_text after text) (with_text (carried t (0 + length u.text.toks)) u.text) (sym mine ∙ m.text source number t (grown_refl t)))

pub text_again : (number : ℕ) (unit : UnitValue) (before after : Carried) (t : Table) (text : UnitTextValue) → before ≡ carried t 0 → HasEachOnce after.table → number < 2 ^ 32 → IsFresh number t
    → (found_at (defines_path number) before.table ≡ None → (source : Source) → AreFound source after.table → preprocessed source number unit before ≡ Ok (with_text after text))
    → (u : UnitAnalysis) → IsMadeAgain t unit u → text ≡ u.text
text_again number unit before after t text is once few fresh h = λ u m.
    let some : (source : Source) × AreFound source after.table = some_source after.table once in
    let own : found_at (defines_path number) before.table ≡ None = subst (λ (b : Carried). found_at (defines_path number) b.table ≡ None) (sym is) (fresh number (omega arith) few) in
    text_same some.0 number unit before after t text u is (h own some.0 some.1) m

-- and nothing more is known behind it
pub table_again : (number : ℕ) (unit : UnitValue) (before after : Carried) (t : Table) (text : UnitTextValue) → before ≡ carried t 0 → HasEachOnce after.table → number < 2 ^ 32 → IsFresh number t
    → (found_at (defines_path number) before.table ≡ None → (source : Source) → AreFound source after.table → preprocessed source number unit before ≡ Ok (with_text after text))
    → (u : UnitAnalysis) → IsMadeAgain t unit u → after.table ≡ t
table_again number unit before after t text is once few fresh h = λ u m.
    let some : (source : Source) × AreFound source after.table = some_source after.table once in
    let own : found_at (defines_path number) before.table ≡ None = subst (λ (b : Carried). found_at (defines_path number) b.table ≡ None) (sym is) (fresh number (omega arith) few) in
    table_same some.0 number unit before after t text u is (h own some.0 some.1) m

pub made_again_so : (t : Table) (number : ℕ) (unit : UnitValue) (text : UnitTextValue) (v : UnitAnalysis) → result_map_err (unit_fault number) (read_unit unit.standard t unit.path text) ≡ Ok v
    → ((u : UnitAnalysis) → IsMadeAgain t unit u → text ≡ u.text) → (u : UnitAnalysis) → IsMadeAgain t unit u → v ≡ u
made_again_so t number unit text v h same = λ u m.
    let read : read_unit unit.standard t unit.path text ≡ Ok v = unmapped (read_unit unit.standard t unit.path text) (unit_fault number) v h in
    ok_same v u (sym read ∙ ap (read_unit unit.standard t unit.path) (same u m) ∙ m.read t)

-- ---- some units, one by one

pub again_next : (t : Table) (units : List UnitValue) (i : ℕ) (unit : UnitValue) (v : UnitAnalysis) (all now : List UnitAnalysis) → AreMadeAgain t units (units_again t units)
    → slice_get units i ≡ Some unit → ((u : UnitAnalysis) → IsMadeAgain t unit u → v ≡ u) → now ≡ all ++ v ∷ [] → all ≡ take i (units_again t units)
    → now ≡ take (i + 1) (units_again t units)
again_next t units i unit v all now again at is more h =
    let u = list_at t units (units_again t units) i unit again at in
    more ∙ ap (λ (us : List UnitAnalysis). us ++ v ∷ []) h ∙ ap (λ (x : UnitAnalysis). take i (units_again t units) ++ x ∷ []) (is u.0 u.2)
    ∙ sym (next (units_again t units) i u.0 u.1)

-- a number that no unit has
pub fresh_far : (n : ℕ) (t : Table) → n ≤ 2 ^ 32 - 1 → IsFresh n t → IsFresh (2 ^ 32 - 1) t
fresh_far n t less h = λ other later few. h other (omega (arith, less, later)) few

-- ---- all of them kept

pub alone_is : (t : Table) (units : List UnitValue) (kept : List UnitAnalysis) → all_units t units kept 0 ≡ kept
alone_is t units kept = append-nil kept

pub kept_alone : (t : Table) (units : List UnitValue) (kept : List UnitAnalysis) (begins : List (Option Pos)) (brought : List Token) → length kept ≤ most_units
    → begins ≡ map gnu_begin kept → brought ≡ all_brought kept → AreTaken t units kept 0 begins brought
kept_alone t units kept begins brought few b r = record {
  few = omega (arith, few);
  within = omega arith;
  again = tt;
  fresh = λ some. absurd (omega (arith, some));
  begins = b ∙ ap (map gnu_begin) (sym (alone_is t units kept));
  brought = r ∙ ap all_brought (sym (alone_is t units kept));
}

pub range_others : (units : List UnitValue) (from others : ℕ) → slice_range units from (from + others) ≡ others_of units from others
range_others units from others =
    let count : from + others - from ≡ others = omega arith in
    ap (λ (n : ℕ). take n (drop from units)) count

pub others_fresh : (t : Table) (units others_ : List UnitValue) (from others : ℕ) → others_ ≡ others_of units from others → (0 < others → IsFresh (2 ^ 32 - 1) t)
    → 0 < length others_ → IsFresh (2 ^ 32 - 1) t
others_fresh t units others_ from others is h some =
    let few : length others_ ≤ others = subst (λ (us : List UnitValue). length us ≤ others) (sym is) (taken_few others (drop from units)) in
    h (omega (arith, few, some))

pub others_again : (t : Table) (units others_ : List UnitValue) (from others : ℕ) → others_ ≡ others_of units from others
    → AreMadeAgain t (others_of units from others) (units_again t (others_of units from others)) → AreMadeAgain t others_ (units_again t others_)
others_again t units others_ from others is h = subst (λ (us : List UnitValue). AreMadeAgain t us (units_again t us)) (sym is) h

-- the units that are kept, and then the others
pub all_parts : (t : Table) (units others_ : List UnitValue) (kept all again : List UnitAnalysis) (others : ℕ) → others_ ≡ others_of units (length kept) others
    → all ≡ kept ++ again → again ≡ units_again t others_ → all ≡ all_units t units kept others
all_parts t units others_ kept all again others is more made =
    more ∙ ap (λ (us : List UnitAnalysis). kept ++ us) (made ∙ ap (units_again t) is)

-- where each begins
pub begins_count : (t : Table) (units : List UnitValue) (kept : List UnitAnalysis) (others : ℕ) (begins : List (Option Pos)) (brought : List Token)
    → AreTaken t units kept others begins brought → length begins ≡ length (all_units t units kept others)
begins_count t units kept others begins brought h = ap (λ (bs : List (Option Pos)). length bs) h.begins ∙ length-map (all_units t units kept others) gnu_begin

-- a unit behind those that are kept is one of the workspace
pub other_within : (t : Table) (units : List UnitValue) (kept : List UnitAnalysis) (others k : ℕ) (begins : List (Option Pos)) (brought : List Token)
    → AreTaken t units kept others begins brought → length kept ≤ k → k < length (all_units t units kept others) → (k < length kept + others) × (k < length units) × (0 < others)
other_within t units kept others k begins brought h from less =
    let count = all_count t units kept others begins brought h in
    let w = h.within in
    let below : k < length kept + others = omega (arith, count, less) in
    (below, omega (arith, below, w, from), omega (arith, below, from))
