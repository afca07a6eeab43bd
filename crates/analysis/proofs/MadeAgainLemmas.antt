-- Units that are made again are what they were; and units that are taken one after another.
use Rattle.std.proofs.Common.{◌≡◌, ℕ, zero, suc, ◌+◌, ◌-◌, ◌<◌, ◌≤◌, ◌^◌, List, [], ◌∷◌, ◌++◌, length, map, take, drop, Option, None, Some, Result, Ok, Err, refl, sym, ◌∙◌, ap, subst, inl, inr, arith, append_assoc, length-append, slice_get}
use Rattle.std.specs.List.{flat_map}
use Rattle.std.proofs.lemmas.List.{append-nil, map-append}
use Rattle.std.proofs.lemmas.List.Concat.{flat_map-append}
use Rattle.cs_base.specs.Answer.{result_then, result_map_err}
use Rattle.cs_base.specs.Limits.{most_units}
use Rattle.cs_base.specs.Token.{Token}
use Rattle.cs_base.specs.Units.{UnitValue}
use Rattle.cs_base.specs.declared.positions.Pos.{Pos}
use Rattle.cs_base.specs.declared.ws_units.Standard.{Standard}
use Rattle.cs_base.proofs.AnswerLemmas.{map_err_ok as unmapped}
use Rattle.cs_base.proofs.ListLemmas.{at_drop, next}
use Rattle.c99_tree.specs.Tree.{Node}
use Rattle.c99_read.specs.Reading.{Stop, read_of}
use Rattle.c99_read.specs.Below.c99_grammar.Dialects.{dialect}
use Rattle.c99_read.specs.Below.c99_grammar.Standard.{grammar}
use Rattle.gnu_bind.specs.Below.scope_bind.Bound.{Bound}
use Rattle.gnu_bind.specs.Bound.{binding_by}
use Rattle.include_tree.specs.Below.source_files.Faults.{Fault}
use Rattle.include_tree.specs.Below.source_files.Files.{Source, Table, Carried, carried}
use Rattle.include_tree.specs.Below.source_files.Tables.{IsGrown}
use Rattle.include_tree.specs.Below.unit_steps.Texts.{UnitTextValue}
use Rattle.include_tree.specs.Preprocessed.{Preprocessed, preprocessed, with_text}
use Rattle.include_tree.proofs.Below.source_files.TableLemmas.{grown_refl, grown_trans}
use Rattle.include_tree.proofs.UnitAgain.{unit_gives_the_same_again}
use Rattle.analysis.specs.Texts.{unit_fault, unit_with}
use Rattle.analysis.specs.Analysis.{UnitAnalysis, unit_analysis, bound_unit, read_unit, unit_read}
use Rattle.analysis.specs.Accepting.{Passed, passed, passed_with}
use Rattle.analysis.specs.BroughtNumbers.{all_brought}
use Rattle.analysis.specs.Carrying.{IsFresh}
use Rattle.analysis.specs.FileTokens.{numbers_brought}
use Rattle.analysis.specs.GnuUnits.{gnu_begin}
use Rattle.analysis.specs.MadeAgain.{nothing, made_again, IsMadeAgain, in_front, units_again, AreMadeAgain, others_of, all_units, AreTaken, Takes}
use Rattle.analysis.proofs.MadeLemmas.{done_first}

pub ok_same : {X E : Type 0} (a b : X) → ◌≡◌ {A = Result X E} (Ok a) (Ok b) → a ≡ b
ok_same a b h = cc

-- ---- one unit

-- a unit without a fault does not depend on where faults stand
bound_any : {E F G : Type 0} (standard : Standard) (text : UnitTextValue) (tree : Node) (u : UnitAnalysis) (f : E → F) (g : E → G) (b : Result Bound E)
    → result_then (λ bound. Ok (unit_analysis standard text tree bound)) (result_map_err f b) ≡ Ok u
    → (result_then (λ bound. Ok (unit_analysis standard text tree bound)) (result_map_err g b) ≡ Ok u) × (u.text ≡ text)
bound_any standard text tree u f g (Ok bound) h =
    let is : unit_analysis standard text tree bound ≡ u = ok_same (unit_analysis standard text tree bound) u h in
    (ap (λ (v : UnitAnalysis). Ok v) is, sym (ap (λ (v : UnitAnalysis). v.text) is))
bound_any standard text tree u f g (Err e) h = absurd (cc)

read_by : (standard : Standard) (t later : Table) (path : List ℕ) (text : UnitTextValue) (u : UnitAnalysis) (f g : Stop → Fault) (r : Result Node Stop)
    → result_then (bound_unit standard t path text) (result_map_err f r) ≡ Ok u
    → (result_then (bound_unit standard later path text) (result_map_err g r) ≡ Ok u) × (u.text ≡ text)
read_by standard t later path text u f g (Ok tree) h = bound_any standard text tree u _ _ (binding_by standard text.toks tree) h
read_by standard t later path text u f g (Err stop) h = absurd (cc)

pub read_any : (standard : Standard) (t later : Table) (path : List ℕ) (text : UnitTextValue) (u : UnitAnalysis) → read_unit standard t path text ≡ Ok u
    → (read_unit standard later path text ≡ Ok u) × (u.text ≡ text)
read_any standard t later path text u h = read_by standard t later path text u _ _ (read_of (grammar (dialect standard)) text.toks) h

-- a unit that was accepted is made again, whatever comes behind it
pub made_so : (source : Source) (number : ℕ) (unit : UnitValue) (before after : Carried) (u : UnitAnalysis) → passed_with source number unit before ≡ Ok (passed after u)
    → IsMadeAgain after.table unit u
made_so source number unit before after u h =
    let p = done_first (unit_with source number unit before) _ (passed after u) h in
    let v = done_first (unit_read unit.standard number unit.path p.0) _ (passed after u) p.2 in
    let text : preprocessed source number unit before ≡ Ok p.0 = unmapped (preprocessed source number unit before) (unit_fault number) p.0 p.1 in
    let read : read_unit unit.standard p.0.after.table unit.path p.0.text ≡ Ok v.0 = unmapped (read_unit unit.standard p.0.after.table unit.path p.0.text) (unit_fault number) v.0 v.1 in
    let both : passed p.0.after v.0 ≡ passed after u = ok_same (passed p.0.after v.0) (passed after u) v.2 in
    let same : v.0 ≡ u = ap (λ (x : Passed). x.unit) both in
    let behind : p.0.after ≡ after = ap (λ (x : Passed). x.after) both in
    let own : p.0.text ≡ u.text = sym (read_any unit.standard p.0.after.table p.0.after.table unit.path p.0.text v.0 read).1 ∙ ap (λ (x : UnitAnalysis). x.text) same in
    record {
      text = λ other n later grown.
          let up : IsGrown p.0.after.table later = subst (λ (k : Carried). IsGrown k.table later) (sym behind) grown in
          unit_gives_the_same_again source other number n 0 unit before p.0 later text up (omega arith)
          ∙ ap (λ (t : UnitTextValue). Ok (with_text (carried later (0 + length t.toks)) t)) own;
      read = λ later.
          ap (read_unit unit.standard later unit.path) (sym own) ∙ (read_any unit.standard p.0.after.table later unit.path p.0.text v.0 read).0
          ∙ ap (λ (x : UnitAnalysis). Ok x) same;
    }

pub made_later : (t later : Table) (unit : UnitValue) (u : UnitAnalysis) → IsGrown t later → IsMadeAgain t unit u → IsMadeAgain later unit u
made_later t later unit u grown h = record {
  text = λ source number table g. h.text source number table (grown_trans t later table grown g);
  read = h.read;
}

pub again_is : (t : Table) (unit : UnitValue) (u : UnitAnalysis) → IsMadeAgain t unit u → made_again t unit ≡ Ok u
again_is t unit u h =
    ap (result_then (λ (p : Preprocessed). read_unit unit.standard t unit.path p.text)) (h.text nothing 0 t (grown_refl t)) ∙ h.read t

-- ---- some units

pub list_is : (t : Table) (units : List UnitValue) (us : List UnitAnalysis) → AreMadeAgain t units us → units_again t units ≡ us
list_is t [] [] h = refl
list_is t [] (u ∷ us) h = absurd h
list_is t (unit ∷ units) [] h = absurd h
list_is t (unit ∷ units) (u ∷ us) h =
    ap (λ (r : Result UnitAnalysis Fault). in_front r (units_again t units)) (again_is t unit u h.0) ∙ ap (λ (vs : List UnitAnalysis). u ∷ vs) (list_is t units us h.1)

pub list_later : (t later : Table) (units : List UnitValue) (us : List UnitAnalysis) → IsGrown t later → AreMadeAgain t units us → AreMadeAgain later units us
list_later t later [] [] grown h = tt
list_later t later [] (u ∷ us) grown h = absurd h
list_later t later (unit ∷ units) [] grown h = absurd h
list_later t later (unit ∷ units) (u ∷ us) grown h = (made_later t later unit u grown h.0, list_later t later units us grown h.1)

list_more : (t : Table) (units : List UnitValue) (us : List UnitAnalysis) (unit : UnitValue) (u : UnitAnalysis) → AreMadeAgain t units us → IsMadeAgain t unit u
    → AreMadeAgain t (units ++ unit ∷ []) (us ++ u ∷ [])
list_more t [] [] unit u h is = (is, tt)
list_more t [] (v ∷ us) unit u h is = absurd h
list_more t (other ∷ units) [] unit u h is = absurd h
list_more t (other ∷ units) (v ∷ us) unit u h is = (h.0, list_more t units us unit u h.1 is)

pub list_count : (t : Table) (units : List UnitValue) (us : List UnitAnalysis) → AreMadeAgain t units us → length us ≡ length units
list_count t [] [] h = refl
list_count t [] (u ∷ us) h = absurd h
list_count t (unit ∷ units) [] h = absurd h
list_count t (unit ∷ units) (u ∷ us) h = ap (λ (n : ℕ). suc n) (list_count t units us h.1)

pub list_at : (t : Table) (units : List UnitValue) (us : List UnitAnalysis) (k : ℕ) (unit : UnitValue) → AreMadeAgain t units us → slice_get units k ≡ Some unit
    → (u : UnitAnalysis) × (slice_get us k ≡ Some u) × IsMadeAgain t unit u
list_at t [] us k unit h at = absurd (cc)
list_at t (other ∷ units) [] k unit h at = absurd h
list_at t (other ∷ units) (v ∷ us) zero unit h at =
    let same : other ≡ unit = cc in (v, refl, subst (λ (x : UnitValue). IsMadeAgain t x v) same h.0)
list_at t (other ∷ units) (v ∷ us) (suc k) unit h at = list_at t units us k unit h.1 at

-- ---- a unit more

all_more : (t : Table) (all mid : List UnitAnalysis) (u : UnitAnalysis) → all ++ (mid ++ u ∷ []) ≡ (all ++ mid) ++ u ∷ []
all_more t all mid u = sym (append_assoc all mid (u ∷ []))

begins_more : (us now : List UnitAnalysis) (u : UnitAnalysis) (begins begins2 : List (Option Pos)) → now ≡ us ++ u ∷ [] → begins ≡ map gnu_begin us
    → begins2 ≡ begins ++ gnu_begin u ∷ [] → begins2 ≡ map gnu_begin now
begins_more us now u begins begins2 is h more =
    more ∙ ap (λ (bs : List (Option Pos)). bs ++ gnu_begin u ∷ []) h ∙ sym (map-append gnu_begin us (u ∷ [])) ∙ ap (map gnu_begin) (sym is)

brought_more : (us now : List UnitAnalysis) (u : UnitAnalysis) (brought brought2 : List Token) → now ≡ us ++ u ∷ [] → brought ≡ all_brought us
    → brought2 ≡ brought ++ numbers_brought u.text → brought2 ≡ all_brought now
brought_more us now u brought brought2 is h more =
    let f : UnitAnalysis → List Token = λ v. numbers_brought v.text in
    more ∙ ap (λ (ts : List Token). ts ++ numbers_brought u.text) h ∙ ap (λ (ts : List Token). all_brought us ++ ts) (sym (append-nil (numbers_brought u.text)))
    ∙ sym (flat_map-append f us (u ∷ [])) ∙ ap all_brought (sym is)

-- the others behind it
others_next : (units : List UnitValue) (kept others : ℕ) (unit : UnitValue) → slice_get units (kept + others) ≡ Some unit
    → others_of units kept (others + 1) ≡ others_of units kept others ++ unit ∷ []
others_next units kept others unit at = next (drop kept units) others unit (at_drop units kept others ∙ at)

-- what is known of the units before, one by one, over a table that has grown
module _ (t later : Table) (units : List UnitValue) (unit : UnitValue) (u : UnitAnalysis) (kept : List UnitAnalysis) (others : ℕ) where
  abbrev before : List UnitAnalysis
  before = units_again t (others_of units (length kept) others)

  others_again : slice_get units (length kept + others) ≡ Some unit → IsGrown t later → AreMadeAgain t (others_of units (length kept) others) before → IsMadeAgain later unit u
      → AreMadeAgain later (others_of units (length kept) (others + 1)) (before ++ u ∷ [])
  others_again at grown again is =
      subst (λ (vs : List UnitValue). AreMadeAgain later vs (before ++ u ∷ [])) (sym (others_next units (length kept) others unit at))
      (list_more later (others_of units (length kept) others) before unit u (list_later t later (others_of units (length kept) others) before grown again) is)

  all_again : AreMadeAgain later (others_of units (length kept) (others + 1)) (before ++ u ∷ [])
      → all_units later units kept (others + 1) ≡ all_units t units kept others ++ u ∷ []
  all_again again =
      ap (λ (us : List UnitAnalysis). kept ++ us) (list_is later (others_of units (length kept) (others + 1)) (before ++ u ∷ []) again) ∙ all_more later kept before u

-- nothing stands between units that are kept and the next one
all_kept : (t later : Table) (units : List UnitValue) (u : UnitAnalysis) (kept : List UnitAnalysis) → all_units later units (kept ++ u ∷ []) 0 ≡ all_units t units kept 0 ++ u ∷ []
all_kept t later units u kept = append-nil (kept ++ u ∷ []) ∙ ap (λ (us : List UnitAnalysis). us ++ u ∷ []) (sym (append-nil kept))

-- A unit more is taken.
pub record TakenOn (t later : Table) (units : List UnitValue) (u : UnitAnalysis) (kept kept2 : List UnitAnalysis) (others others2 : ℕ) (begins2 : List (Option Pos)) (brought2 : List Token) : Type 0 where
  pub count : length kept2 + others2 ≡ length kept + others + 1
  pub all : all_units later units kept2 others2 ≡ all_units t units kept others ++ u ∷ []
  pub taken : AreTaken later units kept2 others2 begins2 brought2

kept_on : (t later : Table) (units : List UnitValue) (u : UnitAnalysis) (kept : List UnitAnalysis) (begins begins2 : List (Option Pos)) (brought brought2 : List Token)
    → length kept + 0 < length units → length units ≤ most_units → AreTaken t units kept 0 begins brought → begins2 ≡ begins ++ gnu_begin u ∷ [] → brought2 ≡ brought ++ numbers_brought u.text
    → TakenOn t later units u kept (kept ++ u ∷ []) 0 0 begins2 brought2
kept_on t later units u kept begins begins2 brought brought2 less few h b r =
    let all = all_kept t later units u kept in
    record {
      count = omega (arith, length-append kept (u ∷ []));
      all = all;
      taken = record {
        few = omega (arith, length-append kept (u ∷ []), less, few);
        within = omega arith;
        again = tt;
        fresh = λ some. absurd (omega (arith, some));
        begins = begins_more (all_units t units kept 0) (all_units later units (kept ++ u ∷ []) 0) u begins begins2 all h.begins b;
        brought = brought_more (all_units t units kept 0) (all_units later units (kept ++ u ∷ []) 0) u brought brought2 all h.brought r;
      };
    }

other_on : (t later : Table) (units : List UnitValue) (unit : UnitValue) (u : UnitAnalysis) (kept : List UnitAnalysis) (others : ℕ) (begins begins2 : List (Option Pos)) (brought brought2 : List Token)
    → length kept + others < length units → length units ≤ most_units → slice_get units (length kept + others) ≡ Some unit → IsGrown t later → IsMadeAgain later unit u → IsFresh (2 ^ 32 - 1) later
    → AreTaken t units kept others begins brought → begins2 ≡ begins ++ gnu_begin u ∷ [] → brought2 ≡ brought ++ numbers_brought u.text
    → TakenOn t later units u kept kept others (others + 1) begins2 brought2
other_on t later units unit u kept others begins begins2 brought brought2 less few at grown is fresh h b r =
    let again = others_again t later units unit u kept others at grown h.again is in
    let all = all_again t later units unit u kept others again in
    record {
      count = omega arith;
      all = all;
      taken = record {
        few = omega (arith, less, few);
        within = omega (arith, less);
        again = subst (AreMadeAgain later (others_of units (length kept) (others + 1))) (sym (list_is later (others_of units (length kept) (others + 1)) _ again)) again;
        fresh = λ some. fresh;
        begins = begins_more (all_units t units kept others) (all_units later units kept (others + 1)) u begins begins2 all h.begins b;
        brought = brought_more (all_units t units kept others) (all_units later units kept (others + 1)) u brought brought2 all h.brought r;
      };
    }

pub taken_on : (t later : Table) (units : List UnitValue) (unit : UnitValue) (u : UnitAnalysis) (kept kept2 : List UnitAnalysis) (others others2 : ℕ) (begins begins2 : List (Option Pos)) (brought brought2 : List Token)
    → length kept + others < length units → length units ≤ most_units → slice_get units (length kept + others) ≡ Some unit → IsGrown t later → IsMadeAgain later unit u → IsFresh (2 ^ 32 - 1) later
    → AreTaken t units kept others begins brought → Takes u kept kept2 others others2 → begins2 ≡ begins ++ gnu_begin u ∷ [] → brought2 ≡ brought ++ numbers_brought u.text
    → TakenOn t later units u kept kept2 others others2 begins2 brought2
taken_on t later units unit u kept kept2 others others2 begins begins2 brought brought2 less few at grown is fresh h (inl own) b r =
    let less0 : length kept + 0 < length units = omega (arith, less) in
    rw (own.0, own.1, own.2) (kept_on t later units u kept begins begins2 brought brought2 less0 few (rw own.0 at h) b r)
taken_on t later units unit u kept kept2 others others2 begins begins2 brought brought2 less few at grown is fresh h (inr other) b r =
    rw (other.0, other.1) (other_on t later units unit u kept others begins begins2 brought brought2 less few at grown is fresh h b r)

-- no unit was taken yet
pub taken_first : (t : Table) (units : List UnitValue) (kept : List UnitAnalysis) (others : ℕ) (begins : List (Option Pos)) (brought : List Token) → kept ≡ [] → others ≡ 0 → begins ≡ [] → brought ≡ []
    → AreTaken t units kept others begins brought
taken_first t units kept others begins brought k o b r =
    rw (k, o, b, r) (record { few = omega arith; within = omega arith; again = tt; fresh = λ some. absurd (omega (arith, some)); begins = refl; brought = refl })
