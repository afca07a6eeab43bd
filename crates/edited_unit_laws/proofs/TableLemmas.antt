-- The table of files behind an edit: numbers, what they stand for, and how it grows.
use Rattle.std.proofs.Common.{◌≡◌, ℕ, suc, ◌+◌, ◌≤◌, Bool, true, false, cond, List, [], ◌∷◌, ◌++◌, length, Option, None, Some, is_some, refl, sym, ◌∙◌, ap, subst, inl, inr, arith}
use Rattle.std.specs.Option.{option_map}
use Rattle.std.specs.Str.{bytes_eq}
use Rattle.std.proofs.lemmas.Bool.{cases_Bool}
use Rattle.source_files.specs.Files.{Source, Found, Lines, Absent, Unopened, Opened, Made, Entry, entry, Table, is_made, made_path, number_of, found_at, found_in, numbered, asked, opened, opened_bytes, one_more, more_bytes, files_opened, bytes_opened}
use Rattle.source_files.specs.Tables.{Becomes, IsGrown, IsFound, AreFound}
use Rattle.source_files.proofs.KeptLemmas.{behind_other as number-other}
use Rattle.analysis.specs.Changed.{Editing, edited_found, edited_from, edited_table}

-- ---- what a path stands for

pub number-edited : (edit : Editing) (n : ℕ) (path : List ℕ) (t : Table) → number_of path (edited_from edit n t) ≡ number_of path t
number-edited edit n path [] = refl
number-edited edit n path (e ∷ t) = elim (cases_Bool (bytes_eq path e.path)) [
  | inl same ↦ rw same refl
  | inr other ↦ rw (other, number-edited edit (suc n) path t) refl
]

pub found-edited : (edit : Editing) (n : ℕ) (path : List ℕ) (t : Table)
    → found_at path (edited_from edit n t) ≡ option_map (edited_found (edit (n + number_of path t))) (found_at path t)
unfolding found_at
found-edited edit n path [] = refl
found-edited edit n path (e ∷ t) = elim (cases_Bool (bytes_eq path e.path)) [
  | inl same ↦
      let here : n + 0 ≡ n = omega arith in
      rw same (rw here refl)
  | inr other ↦
      let there : n + (1 + number_of path t) ≡ suc n + number_of path t = omega arith in
      rw other (rw there (found-edited edit (suc n) path t))
]

pub some-edited : (edit : List ℕ → List ℕ) (o : Option Found) → is_some (option_map (edited_found edit) o) ≡ is_some o
some-edited edit None = refl
some-edited edit (Some f) = refl

pub push-edited : (edit : Editing) (n : ℕ) (path : List ℕ) (f : Found) (t : Table)
    → edited_from edit n (numbered path f t) ≡ numbered path (edited_found (edit (n + length t)) f) (edited_from edit n t)
push-edited edit n path f [] =
    let here : n + 0 ≡ n = omega arith in
    rw here refl
push-edited edit n path f (e ∷ t) =
    let there : n + length (e ∷ t) ≡ suc n + length t = omega arith in
    rw there (ap (λ (l : Table). entry e.path (edited_found (edit n) e.found) ∷ l) (push-edited edit (suc n) path f t))

-- ---- pseudo files

is_made-edited : (edit : List ℕ → List ℕ) (text : List ℕ) (f : Found) → is_made text (edited_found edit f) ≡ is_made text f
is_made-edited edit text Lines = refl
is_made-edited edit text Absent = refl
is_made-edited edit text (Unopened bytes) = refl
is_made-edited edit text (Opened bytes) = refl
is_made-edited edit text (Made bytes) = refl

-- they stay, so the first with a text does
pub made-edited : (edit : Editing) (n : ℕ) (text : List ℕ) (t : Table) → made_path text (edited_from edit n t) ≡ made_path text t
unfolding made_path
made-edited edit n text [] = refl
made-edited edit n text (e ∷ t) = rw (is_made-edited (edit n) text e.found) (rw (made-edited edit (suc n) text t) refl)

-- ---- growing

becomes-edited : (edit : List ℕ → List ℕ) (old new : Found) → Becomes old new → Becomes (edited_found edit old) (edited_found edit new)
becomes-edited edit old new (inl same) = inl (ap (edited_found edit) same)
becomes-edited edit old new (inr opens) = inr (edit opens.0, ap (edited_found edit) opens.1, ap (edited_found edit) opens.2)

pub grown-edited : (edit : Editing) (n : ℕ) (old new : Table) → IsGrown old new → IsGrown (edited_from edit n old) (edited_from edit n new)
grown-edited edit n [] new h = tt
grown-edited edit n (e ∷ old) [] h = absurd h
grown-edited edit n (e ∷ old) (f ∷ new) h = (h.0, becomes-edited (edit n) e.found f.found h.1, grown-edited edit (suc n) old new h.2)

-- ---- what the edited files hold

held-becomes : (source : Source) (edit : List ℕ → List ℕ) (path path2 : List ℕ) (f g : Found) → path2 ≡ path → Becomes f g → IsFound source path2 (edited_found edit g)
    → IsFound source path (edited_found edit f)
held-becomes source edit path path2 f g e (inl same) h =
    subst (λ (p : List ℕ). IsFound source p (edited_found edit f)) e (subst (λ (x : Found). IsFound source path2 (edited_found edit x)) same h)
held-becomes source edit path path2 f g e (inr opens) h =
    let there : source path2 ≡ Some (edit opens.0) = subst (λ (x : Found). IsFound source path2 (edited_found edit x)) opens.2 h in
    subst (λ (x : Found). IsFound source path (edited_found edit x)) (sym opens.1) (ap source (sym e) ∙ there)

held-last : (source : Source) (edit : Editing) (n : ℕ) (path : List ℕ) (f : Found) (t new : Table) → IsGrown (numbered path f t) new → AreFound source (edited_from edit n new)
    → IsFound source path (edited_found (edit (n + length t)) f)
held-last source edit n path f [] [] g h = absurd g
held-last source edit n path f [] (e ∷ new) g h =
    let here : n + 0 ≡ n = omega arith in
    rw here (held-becomes source (edit n) path e.path f e.found g.0 g.1 h.0)
held-last source edit n path f (d ∷ t) [] g h = absurd g
held-last source edit n path f (d ∷ t) (e ∷ new) g h =
    let there : n + length (d ∷ t) ≡ suc n + length t = omega arith in
    rw there (held-last source edit (suc n) path f t new g.2 h.1)

read-edited : (source : Source) (edit : List ℕ → List ℕ) (path : List ℕ) (o : Option (List ℕ)) → IsFound source path (edited_found edit (found_in o))
    → found_in (source path) ≡ edited_found edit (found_in o)
read-edited source edit path None h = ap found_in h
read-edited source edit path (Some bytes) h = ap found_in h

asked-by : (old new : Source) (edit : Editing) (path : List ℕ) (t files : Table) (b : Bool) → IsGrown (cond b t (numbered path (found_in (old path)) t)) files
    → AreFound new (edited_table edit files)
    → cond b (edited_table edit t) (numbered path (found_in (new path)) (edited_table edit t)) ≡ edited_table edit (cond b t (numbered path (found_in (old path)) t))
asked-by old new edit path t files true g h = refl
asked-by old new edit path t files false g h =
    let is = read-edited new (edit (0 + length t)) path (old path) (held-last new edit 0 path (found_in (old path)) t files g h) in
    ap (λ (f : Found). numbered path f (edited_table edit t)) is ∙ sym (push-edited edit 0 path (found_in (old path)) t)

-- a path that is asked for
pub asked-edited : (old new : Source) (edit : Editing) (path : List ℕ) (t files : Table) → IsGrown (asked old path t) files → AreFound new (edited_table edit files)
    → asked new path (edited_table edit t) ≡ edited_table edit (asked old path t)
asked-edited old new edit path t files g h =
    let known : is_some (found_at path (edited_table edit t)) ≡ is_some (found_at path t) =
    ap (λ (o : Option Found). is_some o) (found-edited edit 0 path t) ∙ some-edited (edit (0 + number_of path t)) (found_at path t) in
    ap (λ (b : Bool). cond b (edited_table edit t) (numbered path (found_in (new path)) (edited_table edit t))) known
    ∙ asked-by old new edit path t files (is_some (found_at path t)) g h

-- ---- files that are opened

number-same : (path : List ℕ) (e : Entry) (t : Table) → bytes_eq path e.path ≡ true → number_of path (e ∷ t) ≡ 0
number-same path e t same = rw same refl

opened-at : (edit : Editing) (n k : ℕ) (path bytes : List ℕ) (t : Table) → k ≡ n + number_of path t
    → opened path (edit k bytes) (edited_from edit n t) ≡ edited_from edit n (opened path bytes t)
unfolding opened
opened-at edit n k path bytes [] h = refl
opened-at edit n k path bytes (e ∷ t) h = elim (cases_Bool (bytes_eq path e.path)) [
  | inl same ↦
      let zero_th : number_of path (e ∷ t) ≡ 0 = number-same path e t same in
      let here : k ≡ n = omega (arith, h, zero_th) in
      rw same (ap (λ (m : ℕ). entry path (Opened (edit m bytes)) ∷ edited_from edit (suc n) t) here)
  | inr other ↦
      let next : number_of path (e ∷ t) ≡ 1 + number_of path t = number-other path e t other in
      let there : k ≡ suc n + number_of path t = omega (arith, h, next) in
      rw other (ap (λ (l : Table). entry e.path (edited_found (edit n) e.found) ∷ l) (opened-at edit (suc n) k path bytes t there))
]

pub opened-edited : (edit : Editing) (n : ℕ) (path bytes : List ℕ) (t : Table)
    → opened path (edit (n + number_of path t) bytes) (edited_from edit n t) ≡ edited_from edit n (opened path bytes t)
opened-edited edit n path bytes t = opened-at edit n (n + number_of path t) path bytes t refl

-- a table with one number more has grown
pub grown-push : (t : Table) (e : Entry) → IsGrown t (t ++ e ∷ [])
grown-push [] e = tt
grown-push (d ∷ t) e = (refl, inl refl, grown-push t e)

one-edited : (edit : List ℕ → List ℕ) (f : Found) (n : ℕ) → one_more (opened_bytes (edited_found edit f)) n ≡ one_more (opened_bytes f) n
one-edited edit Lines n = refl
one-edited edit Absent n = refl
one-edited edit (Unopened bytes) n = refl
one-edited edit (Opened bytes) n = refl
one-edited edit (Made bytes) n = refl

pub files-edited : (edit : Editing) (n : ℕ) (t : Table) → files_opened (edited_from edit n t) ≡ files_opened t
unfolding files_opened
files-edited edit n [] = refl
files-edited edit n (e ∷ t) = one-edited (edit n) e.found (files_opened (edited_from edit (suc n) t)) ∙ ap (one_more (opened_bytes e.found)) (files-edited edit (suc n) t)

more-le : (o : Option (List ℕ)) (m n : ℕ) → m ≤ n → more_bytes o m ≤ more_bytes o n
more-le None m n h = h
more-le (Some bytes) m n h = omega (arith, h)

none-le : (o : Option (List ℕ)) (m n : ℕ) → m ≤ n → m ≤ more_bytes o n
none-le None m n h = h
none-le (Some bytes) m n h = omega (arith, h)

becomes-le : (old new : Found) (m n : ℕ) → Becomes old new → m ≤ n → more_bytes (opened_bytes old) m ≤ more_bytes (opened_bytes new) n
becomes-le old new m n (inl same) h = subst (λ (f : Found). more_bytes (opened_bytes old) m ≤ more_bytes (opened_bytes f) n) (sym same) (more-le (opened_bytes old) m n h)
becomes-le old new m n (inr opens) h =
    subst (λ (f : Found). more_bytes (opened_bytes f) m ≤ more_bytes (opened_bytes new) n) (sym opens.1) (none-le (opened_bytes new) m n h)

-- the bytes of opened files never become fewer
pub bytes-grown : (old new : Table) → IsGrown old new → bytes_opened old ≤ bytes_opened new
unfolding bytes_opened
bytes-grown [] new h = omega arith
bytes-grown (e ∷ old) [] h = absurd h
bytes-grown (e ∷ old) (f ∷ new) h = becomes-le e.found f.found (bytes_opened old) (bytes_opened new) h.1 (bytes-grown old new h.2)
