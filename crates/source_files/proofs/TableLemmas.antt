-- The table of files: how it grows.
use Rattle.std.proofs.Common.{◌≡◌, ℕ, true, false, cond, List, [], ◌∷◌, ◌++◌, Option, None, Some, is_some, refl, sym, ◌∙◌, ap, subst, inl, inr}
use Rattle.std.specs.Prelude.{IfSome}
use Rattle.std.specs.List.{list_any}
use Rattle.std.specs.Str.{bytes_eq}
use Rattle.std.proofs.lemmas.Bool.{cases_Bool}
use Rattle.cs_base.specs.Outside.{FileMap, bytes_at}
use Rattle.cs_base.proofs.FileMapLemmas.{bytes_eq-equal, bytes_eq-same}
use Rattle.line_shape.proofs.NameLemmas.{are_distinct-new, map-push}
use Rattle.line_shape.specs.MacroLine.{are_distinct}
use Rattle.source_files.specs.Files.{Source, source_of, Found, Lines, Absent, Unopened, Opened, Made, Entry, Carried, entry, Table, found_at, found_in, numbered, asked, opened, files_opened, bytes_opened, one_more, more_bytes, opened_bytes}
use Rattle.source_files.specs.Tables.{StaysHeld, OnlyAsks, Becomes, IsGrown, IsFound, AreFound, paths_in, HasEachOnce, Widens}
use Rattle.source_files.specs.Slots.{IsRead}
use Rattle.source_files.specs.Answers.{ReadsOn}
use Rattle.source_files.proofs.OpeningLemmas.{same_found as some_same}

-- ---- one after another

becomes_trans : (a b c : Found) → Becomes a b → Becomes b c → Becomes a c
becomes_trans a b c (inl same) (inl same2) = inl (same2 ∙ same)
becomes_trans a b c (inl same) (inr later) = inr (later.0, sym same ∙ later.1, later.2)
becomes_trans a b c (inr first) (inl same) = inr (first.0, first.1, same ∙ first.2)
becomes_trans a b c (inr first) (inr later) = cc

pub grown_refl : (t : Table) → IsGrown t t
grown_refl [] = tt
grown_refl (e ∷ t) = (refl, inl refl, grown_refl t)

pub grown_trans : (a b c : Table) → IsGrown a b → IsGrown b c → IsGrown a c
grown_trans [] b c h k = tt
grown_trans (e ∷ a) [] c h k = absurd h
grown_trans (e ∷ a) (f ∷ b) [] h k = absurd k
grown_trans (e ∷ a) (f ∷ b) (g ∷ c) h k =
    (k.0 ∙ h.0, becomes_trans e.found f.found g.found h.1 k.1, grown_trans a b c h.2 k.2)

pub widens_refl : (source : Source) (t : Table) → Widens source t t
widens_refl source t = record { grown = grown_refl t; found = λ h. h; once = λ h. h }

pub widens_trans : (source : Source) (a b c : Table) → Widens source a b → Widens source b c → Widens source a c
widens_trans source a b c h k = record {
  grown = grown_trans a b c h.grown k.grown;
  found = λ f. k.found (h.found f);
  once = λ o. k.once (h.once o);
}

-- ---- what an earlier table told

becomes_found : (source : Source) (path : List ℕ) (old new : Found) → Becomes old new → IsFound source path new → IsFound source path old
becomes_found source path old new (inl same) h = subst (λ (f : Found). IsFound source path f) same h
becomes_found source path old new (inr opens) h =
    subst (λ (f : Found). IsFound source path f) (sym opens.1) (subst (λ (f : Found). IsFound source path f) opens.2 h)

pub earlier_found : (source : Source) (old new : Table) → IsGrown old new → AreFound source new → AreFound source old
earlier_found source [] new grown found = tt
earlier_found source (e ∷ old) [] grown found = absurd grown
earlier_found source (e ∷ old) (f ∷ new) grown found = (
  becomes_found source e.path e.found f.found grown.1 (subst (λ (p : List ℕ). IsFound source p f.found) grown.0 found.0),
  earlier_found source old new grown.2 found.1,
)

-- ---- a new number

grown_push : (t : Table) (e : Entry) → IsGrown t (t ++ e ∷ [])
grown_push [] e = tt
grown_push (d ∷ t) e = (refl, inl refl, grown_push t e)

found_push : (source : Source) (t : Table) (e : Entry) → IsFound source e.path e.found → AreFound source t → AreFound source (t ++ e ∷ [])
found_push source [] e h all = (h, tt)
found_push source (d ∷ t) e h all = (all.0, found_push source t e h all.1)

-- a path that has no number is none of those that have one
pub not_among : (path : List ℕ) (t : Table) → found_at path t ≡ None → list_any (bytes_eq path) (paths_in t) ≡ false
unfolding found_at
not_among path [] h = refl
not_among path (e ∷ t) h = elim (cases_Bool (bytes_eq path e.path)) [
  | inl same ↦ cc
  | inr other ↦ rw other (not_among path t (let k : cond (bytes_eq path e.path) (Some e.found) (found_at path t) ≡ None = h in rw other at k))
]

once_push : (path : List ℕ) (found : Found) (t : Table) → found_at path t ≡ None → HasEachOnce t → HasEachOnce (numbered path found t)
once_push path found t none once =
    subst (λ (ps : List (List ℕ)). are_distinct ps ≡ true) (sym (map-push (λ (e : Entry). e.path) t (numbered path found t) (entry path found) refl))
    (are_distinct-new (paths_in t) path once (not_among path t none))

pub widens_push : (source : Source) (path : List ℕ) (found : Found) (t : Table) → found_at path t ≡ None → IsFound source path found
    → Widens source t (numbered path found t)
widens_push source path found t none is = record {
  grown = grown_push t (entry path found);
  found = found_push source t (entry path found) is;
  once = once_push path found t none;
}

found_in_is : (source : Source) (path : List ℕ) (o : Option (List ℕ)) → source path ≡ o → IsFound source path (found_in o)
found_in_is source path None h = h
found_in_is source path (Some bytes) h = h

asked_by : (source : Source) (path : List ℕ) (t : Table) (o : Option Found) → found_at path t ≡ o
    → Widens source t (cond (is_some o) t (numbered path (found_in (source path)) t))
asked_by source path t None h = widens_push source path (found_in (source path)) t h (found_in_is source path (source path) refl)
asked_by source path t (Some found) h = widens_refl source t

pub widens_asked : (source : Source) (path : List ℕ) (t : Table) → Widens source t (asked source path t)
widens_asked source path t = asked_by source path t (found_at path t) refl

-- ---- a file that is opened

opened_found : (e : Entry) (path bytes : List ℕ) (t : Table) → bytes_eq path e.path ≡ true → found_at path (e ∷ t) ≡ Some (Unopened bytes)
    → e.found ≡ Unopened bytes
unfolding found_at
opened_found e path bytes t same h =
    let k : cond (bytes_eq path e.path) (Some e.found) (found_at path t) ≡ Some (Unopened bytes) = h in
    some_same e.found (Unopened bytes) (rw same at k)

later_found : (e : Entry) (path bytes : List ℕ) (t : Table) → bytes_eq path e.path ≡ false → found_at path (e ∷ t) ≡ Some (Unopened bytes)
    → found_at path t ≡ Some (Unopened bytes)
unfolding found_at
later_found e path bytes t other h =
    let k : cond (bytes_eq path e.path) (Some e.found) (found_at path t) ≡ Some (Unopened bytes) = h in rw other at k

grown_opened : (path bytes : List ℕ) (t : Table) → found_at path t ≡ Some (Unopened bytes) → IsGrown t (opened path bytes t)
unfolding opened
grown_opened path bytes [] h = tt
grown_opened path bytes (e ∷ t) h = elim (cases_Bool (bytes_eq path e.path)) [
  | inl same ↦ rw same (bytes_eq-equal path e.path same, inr (bytes, opened_found e path bytes t same h, refl), grown_refl t)
  | inr other ↦ rw other (refl, inl refl, grown_opened path bytes t (later_found e path bytes t other h))
]

is_opened : (source : Source) (p path bytes : List ℕ) (f : Found) → p ≡ path → f ≡ Unopened bytes → IsFound source p f → IsFound source path (Opened bytes)
is_opened source p path bytes f e g h =
    subst (λ (q : List ℕ). source q ≡ Some bytes) e (subst (λ (d : Found). IsFound source p d) g h)

found_opened : (source : Source) (path bytes : List ℕ) (t : Table) → found_at path t ≡ Some (Unopened bytes) → AreFound source t
    → AreFound source (opened path bytes t)
unfolding opened
found_opened source path bytes [] h all = tt
found_opened source path bytes (e ∷ t) h all = elim (cases_Bool (bytes_eq path e.path)) [
  | inl same ↦ rw same (is_opened source e.path path bytes e.found (sym (bytes_eq-equal path e.path same)) (opened_found e path bytes t same h) all.0, all.1)
  | inr other ↦ rw other (all.0, found_opened source path bytes t (later_found e path bytes t other h) all.1)
]

paths-opened : (path bytes : List ℕ) (t : Table) → paths_in (opened path bytes t) ≡ paths_in t
unfolding opened
paths-opened path bytes [] = refl
paths-opened path bytes (e ∷ t) = elim (cases_Bool (bytes_eq path e.path)) [
  | inl same ↦ rw same (ap (λ (p : List ℕ). p ∷ paths_in t) (bytes_eq-equal path e.path same))
  | inr other ↦ rw other (ap (λ (ps : List (List ℕ)). e.path ∷ ps) (paths-opened path bytes t))
]

pub widens_opened : (source : Source) (path bytes : List ℕ) (t : Table) → found_at path t ≡ Some (Unopened bytes)
    → Widens source t (opened path bytes t)
widens_opened source path bytes t h = record {
  grown = grown_opened path bytes t h;
  found = found_opened source path bytes t h;
  once = λ o. rw (paths-opened path bytes t) o;
}

-- what stays what files hold
pub stays-refl : (told : Option FileMap) (t : Table) → StaysHeld told t t
stays-refl None t = tt
stays-refl (Some m) t = λ all. all

pub stays-trans : (told : Option FileMap) (a b c : Table) → StaysHeld told a b → StaysHeld told b c → StaysHeld told a c
stays-trans None a b c h k = tt
stays-trans (Some m) a b c h k = λ all. k (h all)

pub stays-widened : (told : Option FileMap) (a b : Table) → ((source : Source) → Widens source a b) → StaysHeld told a b
stays-widened None a b h = tt
stays-widened (Some m) a b h = (h (source_of m)).found

stays-push : (told : Option FileMap) (path : List ℕ) (found : Found) (t : Table) → IfSome told (λ m. found ≡ found_in (bytes_at path m))
    → StaysHeld told t (numbered path found t)
stays-push None path found t h = tt
stays-push (Some m) path found t h =
    let here : IsFound (source_of m) path found = subst (λ (f : Found). IsFound (source_of m) path f) (sym h) (found_in_is (source_of m) path (bytes_at path m) refl) in
    λ all. found_push (source_of m) t (entry path found) here all

-- a path that got a number has one
pub known-push : (path : List ℕ) (found : Found) (t : Table) → is_some (found_at path (numbered path found t)) ≡ true
unfolding found_at
known-push path found [] = rw (bytes_eq-same path) refl
known-push path found (e ∷ t) = elim (cases_Bool (bytes_eq path e.path)) [
  | inl same ↦ rw same refl
  | inr other ↦ rw other (known-push path found t)
]

-- ---- only asking

pub only_asks-refl : (told : Option FileMap) (t : Table) → OnlyAsks told t t
only_asks-refl told t = record { grown = grown_refl t; found = stays-refl told t; files = refl; bytes = refl }

pub only_asks-trans : (told : Option FileMap) (a b c : Table) → OnlyAsks told a b → OnlyAsks told b c → OnlyAsks told a c
only_asks-trans told a b c h k = record {
  grown = grown_trans a b c h.grown k.grown;
  found = stays-trans told a b c h.found k.found;
  files = k.files ∙ h.files;
  bytes = k.bytes ∙ h.bytes;
}

files-push : (path : List ℕ) (found : Found) (t : Table) → opened_bytes found ≡ None → files_opened (numbered path found t) ≡ files_opened t
unfolding files_opened
files-push path found [] h = ap (λ o. one_more o 0) h
files-push path found (e ∷ t) h = ap (one_more (opened_bytes e.found)) (files-push path found t h)

bytes-push : (path : List ℕ) (found : Found) (t : Table) → opened_bytes found ≡ None → bytes_opened (numbered path found t) ≡ bytes_opened t
unfolding bytes_opened
bytes-push path found [] h = ap (λ o. more_bytes o 0) h
bytes-push path found (e ∷ t) h = ap (more_bytes (opened_bytes e.found)) (bytes-push path found t h)

pub only_asks-push : (told : Option FileMap) (path : List ℕ) (found : Found) (t u : Table) → opened_bytes found ≡ None
    → IfSome told (λ m. found ≡ found_in (bytes_at path m)) → u ≡ numbered path found t → OnlyAsks told t u
only_asks-push told path found t u h read e =
    rw e (record {
      grown = grown_push t (entry path found);
      found = stays-push told path found t read;
      files = files-push path found t h;
      bytes = bytes-push path found t h;
    })

-- ---- what each source holds that agrees with the table

read_none : (found : Found) → IsRead found → opened_bytes found ≡ None
read_none Lines r = absurd r
read_none Absent r = refl
read_none (Unopened bytes) r = refl
read_none (Opened bytes) r = absurd r
read_none (Made bytes) r = absurd r

read_is : (source : Source) (path : List ℕ) (found : Found) → IsRead found → IsFound source path found → found ≡ found_in (source path)
read_is source path Lines r h = absurd r
read_is source path Absent r h = ap found_in (sym h)
read_is source path (Unopened bytes) r h = ap found_in (sym h)
read_is source path (Opened bytes) r h = absurd r
read_is source path (Made bytes) r h = absurd r

found_last : (source : Source) (t : Table) (e : Entry) → AreFound source (t ++ e ∷ []) → IsFound source e.path e.found
found_last source [] e all = all.0
found_last source (d ∷ t) e all = found_last source t e all.1

pub none_is : (o : Option Found) → is_some o ≡ false → o ≡ None
none_is None h = refl
none_is (Some found) h = absurd (cc)

-- a path that has a number
pub asked-known : (source : Source) (path : List ℕ) (t : Table) → is_some (found_at path t) ≡ true → t ≡ asked source path t
asked-known source path t known = rw known refl

-- one that got it, and was read
pub asked-push : (source : Source) (path : List ℕ) (found : Found) (t u : Table) → IsRead found → found_at path t ≡ None → u ≡ numbered path found t → AreFound source u
    → u ≡ asked source path t
asked-push source path found t u read none is all =
    let here : IsFound source path found = found_last source t (entry path found) (subst (λ (v : Table). AreFound source v) is all) in
    is ∙ rw none (ap (λ (f : Found). numbered path f t) (read_is source path found read here))

pub asks-push : (told : Option FileMap) (path : List ℕ) (found : Found) (t u : Table) → IsRead found
    → IfSome told (λ m. found ≡ found_in (bytes_at path m)) → u ≡ numbered path found t → OnlyAsks told t u
asks-push told path found t u read is e = only_asks-push told path found t u (read_none found read) is e

-- ---- a cache behind a step

pub reads-refl : (told : Option FileMap) (c : Carried) → ReadsOn told c c
reads-refl told c = record { grown = grown_refl c.table; found = stays-refl told c.table; counted = refl }

pub reads-trans : (told told2 : Option FileMap) (a b c : Carried) → told2 ≡ told → ReadsOn told a b → ReadsOn told2 b c → ReadsOn told a c
reads-trans told told2 a b c same h k = record {
  grown = grown_trans a.table b.table c.table h.grown k.grown;
  found = stays-trans told a.table b.table c.table h.found (subst (λ (o : Option FileMap). StaysHeld o b.table c.table) same k.found);
  counted = k.counted ∙ h.counted;
}

pub reads-asked : (told : Option FileMap) (a b : Carried) → OnlyAsks told a.table b.table → b.toks ≡ a.toks → ReadsOn told a b
reads-asked told a b asks toks = record { grown = asks.grown; found = asks.found; counted = toks }

pub reads-widened : (told : Option FileMap) (a b : Carried) → ((source : Source) → Widens source a.table b.table) → b.toks ≡ a.toks → ReadsOn told a b
reads-widened told a b h toks = record { grown = (h (λ _. None)).grown; found = stays-widened told a.table b.table h; counted = toks }
