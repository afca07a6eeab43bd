-- Files that hold members of a class against which nothing stands, and their edits.
use Rattle.std.proofs.Common.{◌≡◌, ℕ, zero, suc, true, false, ◌==◌, List, [], ◌∷◌, Option, None, Some, length, refl, ap, sym, ◌∙◌, inl, inr}
use Rattle.std.specs.Prelude.{◌≢◌, slice_get}
use Rattle.std.specs.List.{flat_map}
use Rattle.std.specs.Option.{option_map_or, option_and_then}
use Rattle.std.specs.Str.{bytes_eq}
use Rattle.std.proofs.lemmas.Bool.{cases_Bool, or_parts}
use Rattle.std.proofs.lemmas.Option.{none-some, same_Some}
use Rattle.cs_base.specs.declared.positions.Part.{Part}
use Rattle.cs_base.specs.Edit.{Edit, edit}
use Rattle.cs_base.proofs.FileMapLemmas.{bytes_eq-equal}
use Rattle.source_files.specs.Files.{Source, Table}
use Rattle.source_files.specs.KeptFiles.{KeptValue, kept_at, kept_in}
use Rattle.source_files.specs.Tables.{AreFound}
use Rattle.include_tree.specs.PseudoFiles.{is_pseudo}
use Rattle.analysis.specs.Analysis.{AnalysisValue}
use Rattle.analysis.specs.Places.{is_read_only_path}
use Rattle.analysis.specs.Tables.{MadeArePseudo}
use Rattle.offences.specs.First.{IsAmong}
use Rattle.rename_rules.specs.Offences.{offences_of}
use Rattle.rename_rules.specs.Runs.{edit_of, edits_of, file_of, new_bytes, runs}
use Rattle.analysis.proofs.NamingLemmas.{split_at}
use Rattle.analysis.proofs.TableLemmas.{entry_held}
use Rattle.edited_unit_laws.proofs.ListLemmas.{In, in_flat}
use Rattle.rename_meaning.proofs.NoneLemmas.{none_stand, writable}
use Rattle.renamed.specs.Rename.{HoldsMembers}
use Rattle.rename_meaning.proofs.SourceLemmas.{head_in}

abbrev pub edit_for : (name : List ℕ) (run : List Part) (f : KeptValue) → Edit
edit_for name run f = edit f.path (new_bytes name run f) (length run)

-- ---- files that hold members

-- where no reason stands, a file that holds a member is no pseudo file
real_file : (a : AnalysisValue) (members : List Part) (name : List ℕ) (m : Part) (f : KeptValue) → offences_of a members name true ≡ []
    → In m members → kept_at a.table m.start.file ≡ Some f → is_pseudo f.path ≡ false
real_file a members name m f clear i here =
    let stays = writable a members name (none_stand a members name clear) m i in
    let file : option_map_or (λ (g : KeptValue). is_read_only_path a.workspace.readonly g.path) (kept_at a.table m.start.file) false ≡ false = (or_parts (m.start.file == 0) _ stays).1 in
    let path : is_read_only_path a.workspace.readonly f.path ≡ false = rw here at file in
    (or_parts (is_pseudo f.path) _ path).0

number_held : (source : Source) (t : Table) (k number : ℕ) (f : KeptValue) → AreFound source t → MadeArePseudo t → is_pseudo f.path ≡ false
    → option_and_then (kept_in number) (slice_get t k) ≡ Some f → source f.path ≡ Some f.bytes
number_held source [] k number f found made real at = absurd (none-some f at)
number_held source (e ∷ t) zero number f found made real at = entry_held source number e.path e.found f found.0 made.0 real at
number_held source (e ∷ t) (suc k) number f found made real at = number_held source t k number f found.1 made.1 real at

-- a file that holds members holds the bytes that were read
pub held_before : (source : Source) (a : AnalysisValue) (members run : List Part) (name : List ℕ) (f : KeptValue) → offences_of a members name true ≡ []
    → AreFound source a.table → MadeArePseudo a.table → HoldsMembers a members run f → source f.path ≡ Some f.bytes
held_before source a members [] name f clear found made holds = absurd (none-some f holds.1)
held_before source a members (m ∷ run) name f clear found made holds =
    number_held source a.table m.start.file m.start.file f found made (real_file a members name m f clear (head_in members m run holds.0) holds.1) holds.1

-- ---- the edits

-- each file that holds members has an edit
pub edit_there : (a : AnalysisValue) (name : List ℕ) (members run : List Part) (f : KeptValue) → HoldsMembers a members run f
    → IsAmong (edits_of a members name) (edit_for name run f)
unfolding edits_of
edit_there a name members run f holds =
    let made : edit_of a name run ≡ edit_for name run f ∷ [] =
    ap (λ (o : Option KeptValue). option_map_or (λ (g : KeptValue). edit g.path (new_bytes name run g) (length run) ∷ []) o []) holds.1 in
    in_flat (edit_of a name) (runs members) run (edit_for name run f) holds.0 (0, ap (λ (es : List Edit). slice_get es 0) made)

record IsOfFile (name : List ℕ) (run : List Part) (o : Option KeptValue) (e : Edit) : Type 0 where
  file : KeptValue
  is : o ≡ Some file
  path : e.path ≡ file.path

of_file_at : (name : List ℕ) (run : List Part) (f : KeptValue) (e : Edit) (k : ℕ) → slice_get (edit_for name run f ∷ []) k ≡ Some e
    → IsOfFile name run (Some f) e
of_file_at name run f e zero at = record { file = f; is = refl; path = ap (λ (d : Edit). d.path) (sym (same_Some (edit_for name run f) e at)) }
of_file_at name run f e (suc k) at = absurd (none-some e at)

of_file : (name : List ℕ) (run : List Part) (o : Option KeptValue) (e : Edit)
    → IsAmong (option_map_or (λ (f : KeptValue). edit f.path (new_bytes name run f) (length run) ∷ []) o []) e → IsOfFile name run o e
of_file name run None e among = absurd (none-some e among.1)
of_file name run (Some f) e among = of_file_at name run f e among.0 among.1

-- what stands in a list that is put together stands in one of its pieces
from_piece : {X Y : Type 0} (f : X → List Y) (xs : List X) (y : Y) → In y (flat_map f xs) → (x : X) × In x xs × In y (f x)
from_piece f [] y i = absurd (none-some y i.1)
from_piece {X = X} {Y = Y} f (x ∷ xs) y i =
    split_at ((w : X) × In w (x ∷ xs) × In y (f w)) y (f x) (flat_map f xs) i.0 i.1 (λ here. (x, (0, refl), here))
    (λ later. (let r = from_piece f xs y later in (r.0, (suc r.1.0, r.1.1), r.2)))

-- each edit is that of a file which holds members
pub edit_apart : (a : AnalysisValue) (name : List ℕ) (members : List Part) (path : List ℕ) (e : Edit) → IsAmong (edits_of a members name) e
    → ((run : List Part) (f : KeptValue) → HoldsMembers a members run f → f.path ≢ path) → bytes_eq e.path path ≡ false
unfolding edits_of
edit_apart a name members path e among apart =
    let from = from_piece (edit_of a name) (runs members) e among in
    let of = of_file name from.0 (file_of a from.0) e from.2 in
    elim (cases_Bool (bytes_eq e.path path)) [
      | inl same ↦ absurd (apart from.0 of.file (from.1, of.is) (sym of.path ∙ bytes_eq-equal e.path path same))
      | inr differs ↦ differs
    ]
