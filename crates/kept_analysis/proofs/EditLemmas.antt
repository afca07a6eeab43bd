-- A table of files whose kept files are edited one by one.
use Rattle.std.proofs.Common.{◌≡◌, ℕ, zero, suc, ◌+◌, ◌≤◌, List, [], ◌∷◌, length, Option, Some, None, Result, Ok, Err, refl, sym, ap, ◌∙◌, arith}
use Rattle.std.specs.Prelude.{OnOk, slice_get}
use Rattle.std.specs.Option.{option_and_then}
use Rattle.std.proofs.lemmas.Option.{none-some, same_Some}
use Rattle.include_tree.specs.Below.source_files.Edited.{edited, with_bytes}
use Rattle.include_tree.specs.Below.source_files.Files.{Table, Found, Lines, Absent, Unopened, Opened, Made, entry}
use Rattle.include_tree.specs.Below.source_files.KeptFiles.{KeptValue, kept, kept_in, kept_at}
use Rattle.analysis.specs.Changed.{Editing}
use Rattle.kept_analysis.specs.Edits.{kept_edited, edited_one, edited_front, IsNew}

-- ---- what an edit that is made gives

-- ---- one entry

found_edited : (edit : List ℕ → List ℕ) (number : ℕ) (path : List ℕ) (found : Found) (f : KeptValue) → kept_in number (entry path found) ≡ Some f
    → with_bytes (edit f.bytes) found ≡ kept_edited edit found
found_edited edit number path Lines f e = absurd (none-some f e)
found_edited edit number path Absent f e = absurd (none-some f e)
found_edited edit number path (Unopened bytes) f e = absurd (none-some f e)
found_edited edit number path (Opened bytes) f e = ap (λ (k : KeptValue). Opened (edit k.bytes)) (sym (same_Some (kept number path bytes) f e))
found_edited edit number path (Made bytes) f e = ap (λ (k : KeptValue). Made (edit k.bytes)) (sym (same_Some (kept number path bytes) f e))

found_stays : (edit : List ℕ → List ℕ) (number : ℕ) (path : List ℕ) (found : Found) (o : Option KeptValue) → kept_in number (entry path found) ≡ o
    → IsNew edit o None → kept_edited edit found ≡ found
found_stays edit number path Lines o e is = refl
found_stays edit number path Absent o e is = refl
found_stays edit number path (Unopened bytes) o e is = refl
found_stays edit number path (Opened bytes) None e is = absurd (none-some (kept number path bytes) (sym e))
found_stays edit number path (Made bytes) None e is = absurd (none-some (kept number path bytes) (sym e))
found_stays edit number path (Opened bytes) (Some f) e is =
    let same = same_Some (kept number path bytes) f e in
    ap (λ (k : KeptValue). Opened (edit k.bytes)) same ∙ (ap Opened is ∙ ap (λ (k : KeptValue). Opened k.bytes) (sym same))
found_stays edit number path (Made bytes) (Some f) e is =
    let same = same_Some (kept number path bytes) f e in
    ap (λ (k : KeptValue). Made (edit k.bytes)) same ∙ (ap Made is ∙ ap (λ (k : KeptValue). Made k.bytes) (sym same))

one_at : (edit : List ℕ → List ℕ) (number k : ℕ) (table : Table) (f : KeptValue) (bytes : List ℕ) → option_and_then (kept_in number) (slice_get table k) ≡ Some f
    → bytes ≡ edit f.bytes → edited k bytes table ≡ edited_one edit k table
unfolding edited edited_one
one_at edit number k [] f bytes e is = refl
one_at edit number zero (x ∷ table) f bytes e is =
    ap (λ (g : Found). entry x.path g ∷ table) (ap (λ (w : List ℕ). with_bytes w x.found) is ∙ found_edited edit number x.path x.found f e)
one_at edit number (suc k) (x ∷ table) f bytes e is = ap (λ (t : Table). x ∷ t) (one_at edit number k table f bytes e is)

pub one_edited : (edit : List ℕ → List ℕ) (number : ℕ) (table : Table) (o : Option KeptValue) (bytes : List ℕ) → kept_at table number ≡ o → IsNew edit o (Some bytes)
    → edited number bytes table ≡ edited_one edit number table
one_edited edit number table None bytes e is = absurd is
one_edited edit number table (Some f) bytes e is = one_at edit number number table f bytes e is

one_same : (edit : List ℕ → List ℕ) (number k : ℕ) (table : Table) (o : Option KeptValue) → option_and_then (kept_in number) (slice_get table k) ≡ o
    → IsNew edit o None → table ≡ edited_one edit k table
unfolding edited_one
one_same edit number k [] o e is = refl
one_same edit number zero (x ∷ table) o e is = ap (λ (g : Found). entry x.path g ∷ table) (sym (found_stays edit number x.path x.found o e is))
one_same edit number (suc k) (x ∷ table) o e is = ap (λ (t : Table). x ∷ t) (one_same edit number k table o e is)

pub one_stays : (edit : List ℕ → List ℕ) (number : ℕ) (table : Table) → IsNew edit (kept_at table number) None → table ≡ edited_one edit number table
one_stays edit number table is = one_same edit number number table (kept_at table number) refl is

-- ---- all entries

pub front_none : (edit : Editing) (table : Table) → table ≡ edited_front edit 0 0 table
unfolding edited_front
front_none edit table = refl

front_on : (edit : Editing) (number k : ℕ) (table : Table) → edited_one (edit (number + k)) k (edited_front edit number k table) ≡ edited_front edit number (k + 1) table
unfolding edited_one edited_front
front_on edit number zero [] = let next : 0 + 1 ≡ suc 0 = omega arith in ap (λ (n : ℕ). edited_front edit number n []) (sym next)
front_on edit number (suc k) [] = let next : suc k + 1 ≡ suc (k + 1) = omega arith in ap (λ (n : ℕ). edited_front edit number n []) (sym next)
front_on edit number zero (e ∷ table) =
    let here : number + 0 ≡ number = omega arith in
    let next : 0 + 1 ≡ suc 0 = omega arith in
    ap (λ (n : ℕ). entry e.path (kept_edited (edit n) e.found) ∷ table) here ∙ ap (λ (n : ℕ). edited_front edit number n (e ∷ table)) (sym next)
front_on edit number (suc k) (e ∷ table) =
    let next : number + suc k ≡ suc number + k = omega arith in
    let more : suc k + 1 ≡ suc (k + 1) = omega arith in
    ap (λ (n : ℕ). entry e.path (kept_edited (edit number) e.found) ∷ edited_one (edit n) k (edited_front edit (suc number) k table)) next
    ∙ (ap (λ (t : Table). entry e.path (kept_edited (edit number) e.found) ∷ t) (front_on edit (suc number) k table)
    ∙ ap (λ (n : ℕ). edited_front edit number n (e ∷ table)) (sym more))

pub front_more : (edit : Editing) (k : ℕ) (table mid new : Table) → mid ≡ edited_front edit 0 k table → new ≡ edited_one (edit k) k mid
    → new ≡ edited_front edit 0 (k + 1) table
front_more edit k table mid new before one =
    let here : k ≡ 0 + k = omega arith in
    one ∙ (ap (edited_one (edit k) k) before ∙ (ap (λ (n : ℕ). edited_one (edit n) k (edited_front edit 0 k table)) here ∙ front_on edit 0 k table))

-- more than all entries are no more
pub front_all : (edit : Editing) (number k : ℕ) (table : Table) → length table ≤ k → edited_front edit number k table ≡ edited_front edit number (length table) table
unfolding edited_front
front_all edit number zero [] past = refl
front_all edit number (suc k) [] past = refl
front_all edit number zero (e ∷ table) past = absurd (omega (arith, past))
front_all edit number (suc k) (e ∷ table) past =
    ap (λ (t : Table). entry e.path (kept_edited (edit number) e.found) ∷ t) (front_all edit (suc number) k table (omega (arith, past)))

pub front_end : (edit : Editing) (k : ℕ) (table new : Table) → length table ≤ k → new ≡ edited_front edit 0 k table → new ≡ edited_front edit 0 (length table) table
front_end edit k table new past is = is ∙ front_all edit 0 k table past

-- what holds where a call went well
pub on_ok : {X E : Type 0} (r : Result X E) (P Q : Type 0) → (P → Q) → OnOk r P → OnOk r Q
on_ok (Ok x) P Q f h = f h
on_ok (Err e) P Q f h = tt
