-- Searching and opening files once more, where all that was asked for is known.
use Rattle.std.proofs.Common.{◌≡◌, ℕ, ◌+◌, nat_le, cond, is_some, Bool, true, false, List, [], ◌∷◌, Option, None, Some, Result, Ok, Err, refl, sym, ◌∙◌, ap, subst, inl, inr}
use Rattle.std.specs.Str.{bytes_eq}
use Rattle.std.proofs.lemmas.Bool.{cases_Bool}
use Rattle.std.proofs.lemmas.Option.{same_Some}
use Rattle.cs_base.specs.declared.causes.Cause.TheVariants.{TooManyFiles, TooManyBytes}
use Rattle.cs_base.specs.declared.positions.Place.{Place}
use Rattle.cs_base.proofs.FileMapLemmas.{bytes_eq-same}
use Rattle.source_files.specs.Below.lexer.FileText.{TextValue, LexFault, FileTooLarge, OpenComment}
use Rattle.source_files.specs.Limits.{Limits}
use Rattle.source_files.specs.Files.{Source, Found, Lines, Absent, Unopened, Opened, Made, Table, SourceFile, source_file, found_at, found_in, numbered, opened, asked, number_of, files_opened}
use Rattle.source_files.specs.Faults.{Fault, fault}
use Rattle.source_files.specs.Opening.{Reader, Opening, file_read, readable, are_too_many, opened_as, opening}
use Rattle.source_files.specs.Search.{Searched, searched, search, search_on}
use Rattle.source_files.specs.Tables.{Becomes, IsGrown}
use Rattle.source_files.proofs.SourcesLemmas.{found-opened}
use Rattle.source_files.proofs.TableLemmas.{grown_refl, grown_trans}
use Rattle.include_tree.proofs.SearchLemmas.{search_wide}

-- ---- a path that has a number keeps it, and what it stands for but that its file is opened

pub number_grown : (path : List ℕ) (f : Found) (t later : Table) → IsGrown t later → found_at path t ≡ Some f → number_of path later ≡ number_of path t
unfolding found_at
number_grown path f [] later g h = absurd (cc)
number_grown path f (e ∷ t) [] g h = absurd g
number_grown path f (e ∷ t) (d ∷ later) g h = elim (cases_Bool (bytes_eq path e.path)) [
  | inl same ↦
      let there : bytes_eq path d.path ≡ true = ap (bytes_eq path) g.0 ∙ same in
      rw same (rw there refl)
  | inr other ↦
      let there : bytes_eq path d.path ≡ false = ap (bytes_eq path) g.0 ∙ other in
      let rest : found_at path t ≡ Some f = rw other at h in
      rw other (rw there (ap (λ (n : ℕ). 1 + n) (number_grown path f t later g.2 rest)))
]

pub found_grown : (path : List ℕ) (f : Found) (t later : Table) → IsGrown t later → found_at path t ≡ Some f
    → (g : Found) × (found_at path later ≡ Some g) × Becomes f g
unfolding found_at
found_grown path f [] later g h = absurd (cc)
found_grown path f (e ∷ t) [] g h = absurd g
found_grown path f (e ∷ t) (d ∷ later) g h = elim (cases_Bool (bytes_eq path e.path)) [
  | inl same ↦
      let there : bytes_eq path d.path ≡ true = ap (bytes_eq path) g.0 ∙ same in
      let is : ◌≡◌ {A = Option Found} (Some e.found) (Some f) = rw same at h in
      (d.found, rw there refl, subst (λ (x : Found). Becomes x d.found) (same_Some e.found f is) g.1)
  | inr other ↦
      let there : bytes_eq path d.path ≡ false = ap (bytes_eq path) g.0 ∙ other in
      let rest : found_at path t ≡ Some f = rw other at h in
      let r = found_grown path f t later g.2 rest in
      (r.0, rw there r.1, r.2)
]

-- ---- searches

found_last : (path : List ℕ) (f : Found) (t : Table) → found_at path t ≡ None → found_at path (numbered path f t) ≡ Some f
unfolding found_at
found_last path f [] h = rw (bytes_eq-same path) refl
found_last path f (e ∷ t) h =
    let k : cond (bytes_eq path e.path) (Some e.found) (found_at path t) ≡ None = h in
    elim (cases_Bool (bytes_eq path e.path)) [
      | inl same ↦ absurd (let wrong : ◌≡◌ {A = Option Found} (Some e.found) None = rw same at k in cc)
      | inr other ↦ rw other (found_last path f t (rw other at k))
    ]

asked_found : (source : Source) (path : List ℕ) (t : Table) (o : Option Found) → found_at path t ≡ o
    → (f : Found) × (found_at path (cond (is_some o) t (numbered path (found_in (source path)) t)) ≡ Some f)
asked_found source path t None h = (found_in (source path), found_last path (found_in (source path)) t h)
asked_found source path t (Some f) h = (f, h)

pub known_asked : (source : Source) (path : List ℕ) (later : Table) (f : Found) → found_at path later ≡ Some f → asked source path later ≡ later
known_asked source path later f h = rw h refl

-- a path that was asked for is asked for once
pub asked_again : (source source2 : Source) (path : List ℕ) (t later : Table) → IsGrown (asked source path t) later → asked source2 path later ≡ later
asked_again source source2 path t later g =
    let there = asked_found source path t (found_at path t) refl in
    let known = found_grown path there.0 (asked source path t) later g there.1 in
    known_asked source2 path later known.0 known.1

-- the search goes on or ends alike
search_on_again : (path : List ℕ) (u later : Table) (rest rest2 : Table → Searched) (f g : Found) → Becomes f g
    → IsGrown u later
    → (IsGrown (rest u).table later → ◌≡◌ {A = Searched} (rest2 later) (searched (rest u).path later))
    → IsGrown (search_on path u rest (Some f)).table later
    → ◌≡◌ {A = Searched} (search_on path later rest2 (Some g)) (searched (search_on path u rest (Some f)).path later)
search_on_again path u later rest rest2 f g (inr opens) grown k h =
    rw (opens.1, opens.2) refl
search_on_again path u later rest rest2 Lines g (inl same) grown k h = rw same (k h)
search_on_again path u later rest rest2 Absent g (inl same) grown k h = rw same (k h)
search_on_again path u later rest rest2 (Unopened bytes) g (inl same) grown k h = rw same refl
search_on_again path u later rest rest2 (Opened bytes) g (inl same) grown k h = rw same refl
search_on_again path u later rest rest2 (Made bytes) g (inl same) grown k h = rw same refl

search_on_grown : (source : Source) (path : List ℕ) (u : Table) (paths : List (List ℕ)) (f : Found) → IsGrown u (search_on path u (search source paths) (Some f)).table
search_on_grown source path u paths Lines = (search_wide source paths u).grown
search_on_grown source path u paths Absent = (search_wide source paths u).grown
search_on_grown source path u paths (Unopened bytes) = grown_refl u
search_on_grown source path u paths (Opened bytes) = grown_refl u
search_on_grown source path u paths (Made bytes) = grown_refl u

pub search_again : (source source2 : Source) (paths : List (List ℕ)) (t later : Table) → IsGrown (search source paths t).table later
    → ◌≡◌ {A = Searched} (search source2 paths later) (searched (search source paths t).path later)
unfolding search
search_again source source2 [] t later g = refl
search_again source source2 (path ∷ paths) t later g =
    let u : Table = asked source path t in
    let rest : Table → Searched = search source paths in
    let there = asked_found source path t (found_at path t) refl in
    let g2 : IsGrown (search_on path u rest (Some there.0)).table later = subst (λ (o : Option Found). IsGrown (search_on path u rest o).table later) there.1 g in
    let up : IsGrown u later = grown_trans u (search_on path u rest (Some there.0)).table later (search_on_grown source path u paths there.0) g2 in
    let known = found_grown path there.0 u later up there.1 in
    ap (λ (x : Table). search_on path x (search source2 paths) (found_at path x)) (known_asked source2 path later known.0 known.1)
    ∙ ap (search_on path later (search source2 paths)) known.1
    ∙ search_on_again path u later rest (search source2 paths) there.0 known.0 known.2 up (λ h. search_again source source2 paths u later h) g2
    ∙ sym (ap (λ (o : Option Found). searched (search_on path u rest o).path later) there.1)

-- ---- opening

ok_same : (a b : SourceFile × Table) → ◌≡◌ {A = Opening} (Ok a) (Ok b) → a ≡ b
ok_same a b h = cc

read_again : (place : Place) (n : ℕ) (path : List ℕ) (t later u : Table) (file : SourceFile) (r : Result TextValue LexFault)
    → ◌≡◌ {A = Opening} (file_read place n path t r) (Ok (file, u)) → (u ≡ t) × ◌≡◌ {A = Opening} (file_read place n path later r) (Ok (file, later))
read_again place n path t later u file (Ok text) h =
    let both : ◌≡◌ {A = SourceFile × Table} (source_file n path text, t) (file, u) = ok_same (source_file n path text, t) (file, u) h in
    (sym (ap (λ (p : SourceFile × Table). p.1) both), ap (λ (p : SourceFile × Table). Ok (p.0, later)) both)
read_again place n path t later u file (Err FileTooLarge) h = absurd (cc)
read_again place n path t later u file (Err (OpenComment at line column)) h = absurd (cc)

becomes_kept : (f g : Found) (bytes : List ℕ) → f ≡ Opened bytes → Becomes f g → g ≡ Opened bytes
becomes_kept f g bytes is (inl same) = same ∙ is
becomes_kept f g bytes is (inr opens) = absurd (cc)

becomes_made : (f g : Found) (bytes : List ℕ) → f ≡ Made bytes → Becomes f g → g ≡ Made bytes
becomes_made f g bytes is (inl same) = same ∙ is
becomes_made f g bytes is (inr opens) = absurd (cc)

-- a file that is kept, in a table into which that has grown
opened_known : (limits : Limits) (reader : Reader) (place : Place) (path bytes : List ℕ) (t later u : Table) (file : SourceFile) → found_at path t ≡ Some (Opened bytes)
    → ◌≡◌ {A = Opening} (readable reader place path bytes t) (Ok (file, u)) → IsGrown u later → ◌≡◌ {A = Opening} (opening limits reader place path later) (Ok (file, later))
opened_known limits reader place path bytes t later u file is h g =
    let r = read_again place (number_of path t) path t later u file (reader (number_of path t) bytes) h in
    let up : IsGrown t later = subst (λ (x : Table). IsGrown x later) r.0 g in
    let known = found_grown path (Opened bytes) t later up is in
    let kept : known.0 ≡ Opened bytes = becomes_kept (Opened bytes) known.0 bytes refl known.2 in
    ap (opened_as limits reader place path later) (known.1 ∙ ap (λ (x : Found). Some x) kept)
    ∙ ap (λ (n : ℕ). file_read place n path later (reader n bytes)) (number_grown path (Opened bytes) t later up is) ∙ r.1

made_known : (limits : Limits) (reader : Reader) (place : Place) (path bytes : List ℕ) (t later u : Table) (file : SourceFile) → found_at path t ≡ Some (Made bytes)
    → ◌≡◌ {A = Opening} (readable reader place path bytes t) (Ok (file, u)) → IsGrown u later → ◌≡◌ {A = Opening} (opening limits reader place path later) (Ok (file, later))
made_known limits reader place path bytes t later u file is h g =
    let r = read_again place (number_of path t) path t later u file (reader (number_of path t) bytes) h in
    let up : IsGrown t later = subst (λ (x : Table). IsGrown x later) r.0 g in
    let known = found_grown path (Made bytes) t later up is in
    let kept : known.0 ≡ Made bytes = becomes_made (Made bytes) known.0 bytes refl known.2 in
    ap (opened_as limits reader place path later) (known.1 ∙ ap (λ (x : Found). Some x) kept)
    ∙ ap (λ (n : ℕ). file_read place n path later (reader n bytes)) (number_grown path (Made bytes) t later up is) ∙ r.1

test_passed : (b : Bool) (found : Fault) (o : Opening) (file : SourceFile) (u : Table) → ◌≡◌ {A = Opening} (cond b (Err found) o) (Ok (file, u)) → ◌≡◌ {A = Opening} o (Ok (file, u))
test_passed true found o file u h = absurd (cc)
test_passed false found o file u h = h

opened_as_again : (limits : Limits) (reader : Reader) (place : Place) (path : List ℕ) (t later u : Table) (file : SourceFile) (o : Option Found) → found_at path t ≡ o
    → ◌≡◌ {A = Opening} (opened_as limits reader place path t o) (Ok (file, u)) → IsGrown u later → ◌≡◌ {A = Opening} (opening limits reader place path later) (Ok (file, later))
opened_as_again limits reader place path t later u file None is h g = absurd (cc)
opened_as_again limits reader place path t later u file (Some Lines) is h g = absurd (cc)
opened_as_again limits reader place path t later u file (Some Absent) is h g = absurd (cc)
opened_as_again limits reader place path t later u file (Some (Unopened bytes)) is h g =
    let few = test_passed (nat_le limits.files (files_opened t)) (fault place TooManyFiles) (cond (are_too_many limits reader path bytes t) (Err (fault place TooManyBytes)) (readable reader place path bytes (opened path bytes t))) file u h in
    let small = test_passed (are_too_many limits reader path bytes t) (fault place TooManyBytes) (readable reader place path bytes (opened path bytes t)) file u few in
    opened_known limits reader place path bytes (opened path bytes t) later u file (found-opened path bytes (Unopened bytes) t is) small g
opened_as_again limits reader place path t later u file (Some (Opened bytes)) is h g = opened_known limits reader place path bytes t later u file is h g
opened_as_again limits reader place path t later u file (Some (Made bytes)) is h g = made_known limits reader place path bytes t later u file is h g

pub opening_again : (limits : Limits) (reader : Reader) (place : Place) (path : List ℕ) (t later u : Table) (file : SourceFile)
    → ◌≡◌ {A = Opening} (opening limits reader place path t) (Ok (file, u)) → IsGrown u later → ◌≡◌ {A = Opening} (opening limits reader place path later) (Ok (file, later))
opening_again limits reader place path t later u file h g = opened_as_again limits reader place path t later u file (found_at path t) refl h g
