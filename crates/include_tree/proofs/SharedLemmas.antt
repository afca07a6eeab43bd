-- Units whose pseudo files have one text begin with one.
use Rattle.std.proofs.Common.{◌≡◌, ℕ, List, [], ◌∷◌, Option, None, Some, Ok, Err, refl, sym, ◌∙◌, ap, subst, inl, inr}
use Rattle.std.proofs.lemmas.Bool.{cases_Bool}
use Rattle.cs_base.specs.Token.{Token}
use Rattle.cs_base.specs.Units.{UnitValue, defines_of}
use Rattle.cs_base.proofs.FileMapLemmas.{bytes_eq-same}
use Rattle.source_files.specs.Limits.{Limits}
use Rattle.source_files.specs.Files.{Source, Found, Made, Table, Carried, is_made, made_path, defines_path, numbered}
use Rattle.source_files.specs.Tables.{Becomes, IsGrown}
use Rattle.source_files.specs.Opening.{Reader}
use Rattle.source_files.proofs.TableLemmas.{grown_trans}
use Rattle.unit_steps.specs.State.{Context, context, State, Outcome}
use Rattle.include_tree.specs.Unit.{path_or_own, pseudo_path, table_or_more, with_defines, first_state, unit_outcome}
use Rattle.include_tree.specs.Laws.{IfDone}
use Rattle.include_tree.proofs.StepLemmas.{PutsOut}
use Rattle.include_tree.proofs.WalkLemmas.{both_files_lead}

-- ---- the first pseudo file with a text, in a table that grows

becomes_made : (text : List ℕ) (old new : Found) → Becomes old new → is_made text new ≡ is_made text old
becomes_made text old new (inl same) = ap (is_made text) same
becomes_made text old new (inr opens) = ap (is_made text) opens.2 ∙ sym (ap (is_made text) opens.1)

pub made_grown : (text path : List ℕ) (old new : Table) → IsGrown old new → made_path text old ≡ Some path → made_path text new ≡ Some path
unfolding made_path
made_grown text path [] new g h = absurd (cc)
made_grown text path (e ∷ old) [] g h = absurd g
made_grown text path (e ∷ old) (f ∷ new) g h = elim (cases_Bool (is_made text e.found)) [
  | inl same ↦
      let k : ◌≡◌ {A = Option (List ℕ)} (Some e.path) (Some path) = rw same at h in
      rw (becomes_made text e.found f.found g.1 ∙ same) (ap (λ (p : List ℕ). Some p) g.0 ∙ k)
  | inr other ↦
      let k : made_path text old ≡ Some path = rw other at h in
      rw (becomes_made text e.found f.found g.1 ∙ other) (made_grown text path old new g.2 k)
]

made_last : (text path : List ℕ) (t : Table) → made_path text t ≡ None → made_path text (numbered path (Made text) t) ≡ Some path
unfolding made_path
made_last text path [] h = rw (bytes_eq-same text) refl
made_last text path (e ∷ t) h = elim (cases_Bool (is_made text e.found)) [
  | inl same ↦ absurd (let k : ◌≡◌ {A = Option (List ℕ)} (Some e.path) None = rw same at h in cc)
  | inr other ↦ rw other (made_last text path t (rw other at h))
]

made_first : (number : ℕ) (unit : UnitValue) (t : Table) (found : Option (List ℕ)) → made_path (defines_of unit) t ≡ found
    → made_path (defines_of unit) (table_or_more found number unit t) ≡ Some (path_or_own found number)
made_first number unit t None h = made_last (defines_of unit) (defines_path number) t h
made_first number unit t (Some path) h = h

-- where a unit begins, its pseudo file has its text
pub begun : (number : ℕ) (unit : UnitValue) (t : Table) → made_path (defines_of unit) (with_defines number unit t) ≡ Some (pseudo_path number unit t)
begun number unit t = made_first number unit t (made_path (defines_of unit) t) refl

-- ---- units

shared_by : (ctx : Context) (s : State) (later : ℕ) (other : UnitValue) (path : List ℕ) (o : Outcome (List Token)) → made_path (defines_of other) s.table ≡ Some path
    → IfDone (PutsOut ctx s) o → IfDone (λ toks t. (table : Table) → IsGrown t.table table → pseudo_path later other table ≡ path) o
shared_by ctx s later other path (Ok d) h leads = λ table grown.
    ap (λ (found : Option (List ℕ)). path_or_own found later)
    (made_grown (defines_of other) path s.table table (grown_trans s.table d.state.table table leads.table.grown grown) h)
shared_by ctx s later other path (Err fault) h leads = tt

pub equal_settings_share : (limits : Limits) (reader : Reader) (source : Source) (number later : ℕ) (unit other : UnitValue) (before : Carried)
    → defines_of other ≡ defines_of unit
    → IfDone (λ toks t. (table : Table) → IsGrown t.table table → pseudo_path later other table ≡ pseudo_path number unit before.table)
    (unit_outcome limits reader source number unit before)
equal_settings_share limits reader source number later unit other before same =
    let ctx : Context = context source reader unit limits before.toks in
    let s : State = first_state limits number unit before.table in
    let path : List ℕ = pseudo_path number unit before.table in
    let there : made_path (defines_of other) s.table ≡ Some path =
    subst (λ (text : List ℕ). made_path text s.table ≡ Some path) (sym same) (begun number unit before.table) in
    shared_by ctx s later other path (unit_outcome limits reader source number unit before) there (both_files_lead ctx path unit.path s)
