-- The files that hold lists of the functions: where nothing stands against a new order they are no pseudo files, and the source
-- holds the bytes that were read.
use Rattle.std.proofs.Common.{◌≡◌, ℕ, zero, suc, Bool, true, false, if◌then◌else◌, ◌==◌, List, [], ◌∷◌, length, Option, None, Some, ◌⊎◌, inl, inr, refl, sym, ap, subst, ◌∙◌}
use Rattle.std.specs.Prelude.{slice_get}
use Rattle.std.specs.List.{flat_map}
use Rattle.std.specs.Option.{option_map, option_map_or, option_and_then}
use Rattle.std.proofs.lemmas.Bool.{and_parts, or_parts, eqb-true, false≢true}
use Rattle.std.proofs.lemmas.Option.{none-some, same_Some}
use Rattle.cs_base.specs.declared.positions.Part.{Part}
use Rattle.cs_base.specs.declared.positions.Pos.{Pos}
use Rattle.cs_base.specs.Token.{Token}
use Rattle.c_types.specs.declared.lists.List.{List as NameList}
use Rattle.scope_bind.specs.declared.bound.Name.{Name}
use Rattle.analysis.specs.Tables.{IsPseudoIfMade, MadeArePseudo}
use Rattle.source_files.specs.Files.{Source, Found, Lines, Absent, Unopened, Opened, Made, Table}
use Rattle.source_files.specs.KeptFiles.{KeptValue, kept as kept_file, kept_at, kept_bytes, kept_in}
use Rattle.source_files.specs.Tables.{IsFound, AreFound}
use Rattle.include_tree.specs.PseudoFiles.{is_pseudo}
use Rattle.ws_file.specs.Workspace.{WorkspaceValue}
use Rattle.analysis.specs.Analysis.{UnitAnalysis, AnalysisValue}
use Rattle.analysis.specs.Places.{is_read_only, is_read_only_path}
use Rattle.analysis.proofs.NamingLemmas.{split_at}
use Rattle.edited_unit_laws.proofs.ListLemmas.{In}
use Rattle.list_cuts.specs.Cuts.{IsOrder}
use Rattle.list_cuts.proofs.OrderLemmas.{orders_permute}
use Rattle.template_rules.specs.declared.file_lists.FoundList.{FoundList}
use Rattle.template_rules.specs.FileLists.{found_at, found_in, function_list, unit_found, all_found, marks_in, with_lists, lists_in}
use Rattle.template_rules.specs.Functions.{origin_of, names_function}
use Rattle.template_rules.specs.Lists.{count_of}
use Rattle.template_meaning.specs.Accepted.{IsAccepted}
use Rattle.template_meaning.specs.Clear.{IsOwn, ListIsClear}
use Rattle.reordered.specs.Reorder.{HoldsLists}
use Rattle.template_meaning.proofs.Clear.{units_are_clear}

-- ---- The order

pub order_is_one : (source : Source) (ws : WorkspaceValue) (a : AnalysisValue) (members : List Part) (order : List ℕ) → IsAccepted source ws a members order
    → IsOrder (length order) order
order_is_one source ws a members order h =
    subst (λ (k : ℕ). IsOrder k order) (sym (eqb-true (length order) (count_of a members) (and_parts (length order == count_of a members) _ h.ordered).0))
    (orders_permute (count_of a members) order h.ordered)

-- ---- Lists of a file

pub from_flat : {X Y : Type 0} (f : X → List Y) (y : Y) (xs : List X) → In y (flat_map f xs) → (x : X) × (In x xs × In y (f x))
from_flat f y [] i = absurd (let at = i.1 in cc)
from_flat {X = X} f y (x ∷ xs) i =
    split_at ((z : X) × (In z (x ∷ xs) × In y (f z))) y (f x) (flat_map f xs) i.0 i.1 (λ j. (x, ((0, refl), j)))
    (λ j. let r = from_flat f y xs j in let there = r.1.0 in (r.0, ((suc there.0, there.1), r.1.1)))

pub first_of : {X : Type 0} (xs : List X) → (xs ≡ [] → ⊥) → (x : X) × In x xs
first_of [] some = absurd (some refl)
first_of (x ∷ xs) some = (x, (0, refl))

pub none_in : (found : List FoundList) (number : ℕ) → flat_map (marks_in number) found ≡ [] → lists_in found number ≡ []
unfolding with_lists
none_in found number e = ap (λ (ls : List (List ℕ)). with_lists ls []) e

pub in_file : (number : ℕ) (f : FoundList) (l : List ℕ) → In l (marks_in number f) → f.file ≡ number
in_file number f l i = by (f.file == number) refl i.0 i.1
  where
    by : (b : Bool) → (f.file == number) ≡ b → (k : ℕ) → slice_get (if b then f.marks ∷ [] else []) k ≡ Some l → f.file ≡ number
    by true e k at = eqb-true f.file number e
    by false e k at = absurd (none-some l at)

-- A list of the functions whose `(` stands in the file.
pub record IsListIn (a : AnalysisValue) (members : List Part) (number : ℕ) : Type 0 where
  pub unit : UnitAnalysis
  pub there : In unit a.units
  pub list : NameList
  pub among : In list unit.bound.declarators ⊎ In list unit.bound.calls
  pub own : IsOwn members unit list
  pub at : Pos
  pub origin : origin_of unit.text.toks list.begin ≡ Some at
  pub file : at.file ≡ number

record IsFoundBy (members : List Part) (toks : List Token) (names : List Name) (l : NameList) (f : FoundList) : Type 0 where
  own : names_function members toks names l.name ≡ true
  at : Pos
  origin : origin_of toks l.begin ≡ Some at
  file : at.file ≡ f.file

found_by : (members : List Part) (toks : List Token) (names : List Name) (l : NameList) (f : FoundList) → In f (function_list members toks names l) → IsFoundBy members toks names l f
found_by members toks names l f i = by (names_function members toks names l.name) refl i.0 i.1
  where
    at_pos : (o : Option Pos) → origin_of toks l.begin ≡ o → names_function members toks names l.name ≡ true → (k : ℕ) → slice_get (option_map_or (found_at toks l) o []) k ≡ Some f
        → IsFoundBy members toks names l f
    at_pos None e own k at = absurd (none-some f at)
    at_pos (Some p) e own zero at = record { own = own; at = p; origin = e; file = ap (λ (g : FoundList). g.file) (same_Some _ f at) }
    at_pos (Some p) e own (suc k) at = absurd (none-some f at)

    by : (b : Bool) → names_function members toks names l.name ≡ b → (k : ℕ) → slice_get (if b then found_in toks l else []) k ≡ Some f → IsFoundBy members toks names l f
    by true e k at = at_pos (origin_of toks l.begin) refl e k at
    by false e k at = absurd (none-some f at)

module _ (a : AnalysisValue) (members : List Part) (number : ℕ) where
  of_unit : (u : UnitAnalysis) → In u a.units → (f : FoundList) → f.file ≡ number → In f (unit_found members u) → IsListIn a members number
  of_unit u there f is i =
      split_at (IsListIn a members number) f (flat_map (function_list members u.text.toks u.bound.names) u.bound.declarators) (flat_map (function_list members u.text.toks u.bound.names) u.bound.calls) i.0 i.1
      (λ j. let r = from_flat (function_list members u.text.toks u.bound.names) f u.bound.declarators j in by r.0 (inl r.1.0) r.1.1)
      (λ j. let r = from_flat (function_list members u.text.toks u.bound.names) f u.bound.calls j in by r.0 (inr r.1.0) r.1.1)
    where
      by : (l : NameList) → In l u.bound.declarators ⊎ In l u.bound.calls → In f (function_list members u.text.toks u.bound.names l) → IsListIn a members number
      by l among j =
          let b = found_by members u.text.toks u.bound.names l f j in
          record { unit = u; there = there; list = l; among = among; own = b.own; at = b.at; origin = b.origin; file = b.file ∙ is }

  pub list_in : (lists_in (all_found members a) number ≡ [] → ⊥) → IsListIn a members number
  list_in some =
      let one = first_of (flat_map (marks_in number) (all_found members a)) (λ e. some (none_in (all_found members a) number e)) in
      let f = from_flat (marks_in number) one.0 (all_found members a) one.1 in
      let u = from_flat (unit_found members) f.0 a.units f.1.0 in
      of_unit u.0 u.1.0 f.0 (in_file number f.0 one.0 f.1.1) u.1.1

-- ---- Files that are edited

module _ (source : Source) (ws : WorkspaceValue) (a : AnalysisValue) (members : List Part) (order : List ℕ) (h : IsAccepted source ws a members order) where
  list_edited : (number : ℕ) (x : IsListIn a members number) → is_read_only a.table a.workspace.readonly number ≡ false
  list_edited number x = subst (λ (k : ℕ). is_read_only a.table a.workspace.readonly k ≡ false) x.file (by x.among)
    where
      clear : (l : NameList) (n : ℕ) → x.list ≡ l → ListIsClear a members x.unit n l → (p : Pos) → origin_of x.unit.text.toks l.begin ≡ Some p
          → is_read_only a.table a.workspace.readonly p.file ≡ false
      clear l n same c p at = c.edited p at

      by : In x.list x.unit.bound.declarators ⊎ In x.list x.unit.bound.calls → is_read_only a.table a.workspace.readonly x.at.file ≡ false
      by (inl i) =
          let u = units_are_clear source ws a members order h x.unit x.there in
          let d = u.declarators x.list i x.own in
          clear x.list _ refl d.list x.at x.origin
      by (inr i) =
          let u = units_are_clear source ws a members order h x.unit x.there in
          let d = u.calls x.list i x.own in
          clear x.list _ refl d.list x.at x.origin

  pub real_file : (f : KeptValue) → HoldsLists a members f → is_pseudo f.path ≡ false
  real_file f holds =
      let stays = list_edited f.number (list_in a members f.number holds.some) in
      let file : option_map_or (λ (g : KeptValue). is_read_only_path a.workspace.readonly g.path) (kept_at a.table f.number) false ≡ false = (or_parts (f.number == 0) _ stays).1 in
      let path : is_read_only_path a.workspace.readonly f.path ≡ false = sym (ap (λ (o : Option KeptValue). option_map_or (λ (g : KeptValue). is_read_only_path a.workspace.readonly g.path) o false) holds.kept) ∙ file in
      (or_parts (is_pseudo f.path) _ path).0

  entry_held : (number : ℕ) (path : List ℕ) (found : Found) (f : KeptValue) → IsFound source path found → IsPseudoIfMade path found → is_pseudo f.path ≡ false
      → option_map (kept_file number path) (kept_bytes found) ≡ Some f → source f.path ≡ Some f.bytes
  entry_held number path Lines f is made real at = absurd (none-some f at)
  entry_held number path Absent f is made real at = absurd (none-some f at)
  entry_held number path (Unopened bytes) f is made real at = absurd (none-some f at)
  entry_held number path (Opened bytes) f is made real at = subst (λ (g : KeptValue). source g.path ≡ Some g.bytes) (same_Some (kept_file number path bytes) f at) is
  entry_held number path (Made bytes) f is made real at =
      absurd (false≢true (sym real ∙ subst (λ (g : KeptValue). is_pseudo g.path ≡ true) (same_Some (kept_file number path bytes) f at) made))

  number_held : (t : Table) (k number : ℕ) (f : KeptValue) → AreFound source t → MadeArePseudo t → is_pseudo f.path ≡ false
      → option_and_then (kept_in number) (slice_get t k) ≡ Some f → source f.path ≡ Some f.bytes
  number_held [] k number f found made real at = absurd (none-some f at)
  number_held (e ∷ t) zero number f found made real at = entry_held number e.path e.found f found.0 made.0 real at
  number_held (e ∷ t) (suc k) number f found made real at = number_held t k number f found.1 made.1 real at

  -- the source holds the bytes of a file with lists
  pub files_held : AreFound source a.table → MadeArePseudo a.table → (f : KeptValue) → HoldsLists a members f → source f.path ≡ Some f.bytes
  files_held found made f holds = number_held a.table f.number f.number f found made (real_file f holds) holds.kept
