-- Names that are found by their spellings.
use Rattle.std.proofs.Common.{zero, suc, ◌≡◌, ℕ, Bool, true, false, cond, List, [], ◌∷◌, ◌++◌, map, Option, Some, None, is_some, take, get_or, ◌+◌, ◌<◌, length, refl, sym, ◌∙◌, ap, subst, append_assoc, inl, inr, arith}
use Rattle.std.specs.List.{AllByRecursion, IsDistinct}
use Rattle.std.specs.Map.{lookup, keys_of}
use Rattle.std.specs.Str.{bytes_eq}
use Rattle.std.proofs.lemmas.Bool.{cases_Bool}
use Rattle.std.proofs.lemmas.Cmp.{nat_list_eq_equiv}
use Rattle.std.proofs.lemmas.List.{map-append, append-nil}
use Rattle.cs_base.specs.Token.{Token}
use Rattle.cs_base.proofs.FileMapLemmas.{bytes_eq-equal}
use Rattle.unit_steps.specs.Names.{spelled_in}
use Rattle.unit_steps.specs.FirstNames.{names_with, names_of, rows_of, AreSpelled}

lookup-rows : {K : Type 0} (spelling : K → List ℕ) (test : List ℕ → Bool) (es : List (K × Token))
    → lookup (λ k. test (spelling k)) es ≡ lookup test (rows_of spelling es)
lookup-rows spelling test [] = refl
lookup-rows spelling test (e ∷ es) = ap (λ (rest : Option Token). cond (test (spelling e.0)) (Some e.1) rest) (lookup-rows spelling test es)

lookup-names : (text : List ℕ) (rows : List (List ℕ × Token)) → AreSpelled rows → lookup (bytes_eq text) rows ≡ spelled_in (names_of rows) text
lookup-names text [] h = refl
lookup-names text (row ∷ rows) h =
    rw h.0 (ap (λ (rest : Option Token). cond (bytes_eq text row.1.text) (Some row.1) rest) (lookup-names text rows h.1))

-- a look-up by a spelling finds the name
pub find-names : {K : Type 0} (spelling : K → List ℕ) (text : List ℕ) (es : List (K × Token)) → AreSpelled (rows_of spelling es)
    → lookup (λ k. bytes_eq text (spelling k)) es ≡ spelled_in (names_of (rows_of spelling es)) text
find-names spelling text es h = lookup-rows spelling (bytes_eq text) es ∙ lookup-names text (rows_of spelling es) h

spelled-push : (rows : List (List ℕ × Token)) (text : List ℕ) (t : Token) → AreSpelled rows → text ≡ t.text → AreSpelled (rows ++ (text, t) ∷ [])
spelled-push [] text t h is = (is, tt)
spelled-push (row ∷ rows) text t h is = (h.0, spelled-push rows text t h.1 is)

rows-push : {K : Type 0} (spelling : K → List ℕ) (es new : List (K × Token)) (k : K) (t : Token) → new ≡ es ++ (k, t) ∷ []
    → rows_of spelling new ≡ rows_of spelling es ++ (spelling k, t) ∷ []
rows-push spelling es new k t is = ap (rows_of spelling) is ∙ map-append (λ e. (spelling e.0, e.1)) es ((k, t) ∷ [])

pub names-push : {K : Type 0} (spelling : K → List ℕ) (es new : List (K × Token)) (k : K) (t : Token) → new ≡ es ++ (k, t) ∷ []
    → names_of (rows_of spelling new) ≡ names_of (rows_of spelling es) ++ t ∷ []
names-push spelling es new k t is =
    ap names_of (rows-push spelling es new k t is) ∙ map-append (λ (row : List ℕ × Token). row.1) (rows_of spelling es) ((spelling k, t) ∷ [])

pub are_spelled-push : {K : Type 0} (spelling : K → List ℕ) (es new : List (K × Token)) (k : K) (t : Token) → new ≡ es ++ (k, t) ∷ []
    → AreSpelled (rows_of spelling es) → spelling k ≡ t.text → AreSpelled (rows_of spelling new)
are_spelled-push spelling es new k t is h named =
    rw (rows-push spelling es new k t is) (spelled-push (rows_of spelling es) (spelling k) t h named)

-- ---- the first of each spelling among tokens

spelled_in-push : (names : List Token) (t : Token) (text : List ℕ)
    → spelled_in (names ++ t ∷ []) text ≡ cond (is_some (spelled_in names text)) (spelled_in names text) (cond (bytes_eq text t.text) (Some t) None)
spelled_in-push [] t text = refl
spelled_in-push (n ∷ names) t text = elim (cases_Bool (bytes_eq text n.text)) [
  | inl same ↦ rw same refl
  | inr other ↦ rw other (spelled_in-push names t text)
]

none-from : (o : Option Token) → is_some o ≡ false → o ≡ None
none-from None h = refl
none-from (Some t) h = absurd (cc)

-- a spelling that is new
pub find-none : {K : Type 0} (spelling : K → List ℕ) (text key : List ℕ) (es : List (K × Token)) → AreSpelled (rows_of spelling es) → key ≡ text
    → is_some (spelled_in (names_of (rows_of spelling es)) text) ≡ false → lookup (λ k. bytes_eq key (spelling k)) es ≡ None
find-none spelling text key es h is new =
    ap (λ (n : List ℕ). lookup (λ k. bytes_eq n (spelling k)) es) is ∙ find-names spelling text es h ∙ none-from _ new

names_with-spelled : (name : Token) (names : List Token) (text : List ℕ) → spelled_in (names_with name names) text ≡ spelled_in (names ++ name ∷ []) text
names_with-spelled name names text = elim (cases_Bool (is_some (spelled_in names name.text))) [
  | inl has ↦ rw has (met name names text has ∙ sym (spelled_in-push names name text))
  | inr new ↦ rw new refl
]
  where
    found : (n : Token) (ns : List Token) (text : List ℕ) → bytes_eq text n.text ≡ true → is_some (spelled_in ns n.text) ≡ true → is_some (spelled_in ns text) ≡ true
    found n ns text same has = rw (bytes_eq-equal text n.text same) has

    met : (n : Token) (ns : List Token) (text : List ℕ) → is_some (spelled_in ns n.text) ≡ true
        → spelled_in ns text ≡ cond (is_some (spelled_in ns text)) (spelled_in ns text) (cond (bytes_eq text n.text) (Some n) None)
    met n ns text has = elim (cases_Bool (is_some (spelled_in ns text))) [
      | inl some ↦ rw some refl
      | inr none ↦ elim (cases_Bool (bytes_eq text n.text)) [
        | inl same ↦ absurd (let e = found n ns text same has in cc)
        | inr other ↦ rw (none, other) (none-from _ none)
      ]
    ]

pub take-push : (toks : List Token) (i : ℕ) (t : Token) → i < length toks → t ≡ get_or toks i t → take (i + 1) toks ≡ take i toks ++ t ∷ []
take-push [] i t below is = absurd (omega arith)
take-push (u ∷ toks) zero t below is = ap (λ (v : Token). v ∷ []) (sym is)
take-push (u ∷ toks) (suc i) t below is =
    let n : suc i + 1 ≡ suc (i + 1) = omega arith in
    rw n (ap (λ (ts : List Token). u ∷ ts) (take-push toks i t (omega arith) is))

-- one token more
pub firsts-more : (names new toks : List Token) (i : ℕ) (t : Token) → i < length toks → t ≡ get_or toks i t → new ≡ names_with t names
    → ((text : List ℕ) → spelled_in names text ≡ spelled_in (take i toks) text) → (text : List ℕ) → spelled_in new text ≡ spelled_in (take (i + 1) toks) text
firsts-more names new toks i t below is news h text =
    ap (λ (ns : List Token). spelled_in ns text) news ∙ names_with-spelled t names text ∙ spelled_in-push names t text
    ∙ ap (λ (o : Option Token). cond (is_some o) o (cond (bytes_eq text t.text) (Some t) None)) (h text)
    ∙ sym (ap (λ (ts : List Token). spelled_in ts text) (take-push toks i t below is) ∙ spelled_in-push (take i toks) t text)

-- a name that is new comes last
pub names-added : (names : List Token) (t name : Token) → is_some (spelled_in names name.text) ≡ false → t ≡ name → names ++ t ∷ [] ≡ names_with name names
names-added names t name new is = rw new (ap (λ (u : Token). names ++ u ∷ []) is)

-- ---- rows that are copied, one after the other

apart-rows : {K : Type 0} (spelling : K → List ℕ) (key : K) (es : List (K × Token))
    → AllByRecursion (λ k. bytes_eq (spelling key) (spelling k) ≡ false) (keys_of es)
    → AllByRecursion (λ name. bytes_eq (spelling key) name ≡ false) (keys_of (rows_of spelling es))
apart-rows spelling key [] h = tt
apart-rows spelling key (e ∷ es) h = (h.0, apart-rows spelling key es h.1)

distinct-rows : {K : Type 0} (spelling : K → List ℕ) (es : List (K × Token)) → IsDistinct (λ x y. bytes_eq (spelling x) (spelling y)) (keys_of es)
    → IsDistinct bytes_eq (keys_of (rows_of spelling es))
unfolding IsDistinct
distinct-rows spelling [] h = tt
distinct-rows spelling (e ∷ es) h = (apart-rows spelling e.0 es h.0, distinct-rows spelling es h.1)

apart-behind : (text : List ℕ) (rows : List (List ℕ × Token)) (row : List ℕ × Token) (rest : List (List ℕ × Token))
    → AllByRecursion (λ name. bytes_eq text name ≡ false) (keys_of (rows ++ row ∷ rest)) → bytes_eq text row.0 ≡ false
apart-behind text [] row rest h = h.0
apart-behind text (r ∷ rows) row rest h = apart-behind text rows row rest h.1

-- a row's spelling is not among those before it
none-before : (rows : List (List ℕ × Token)) (row : List ℕ × Token) (rest : List (List ℕ × Token))
    → IsDistinct bytes_eq (keys_of (rows ++ row ∷ rest)) → lookup (bytes_eq row.0) rows ≡ None
unfolding IsDistinct
none-before [] row rest h = refl
none-before (r ∷ rows) row rest h =
    let other : bytes_eq row.0 r.0 ≡ false = nat_list_eq_equiv.symm row.0 r.0 ∙ apart-behind r.0 rows row rest h.0 in
    rw other (none-before rows row rest h.1)

-- where the rows so far and those that are left are all of them, the next key is new
pub next-new : {K : Type 0} (spelling : K → List ℕ) (all : List (K × Token)) (so_far : List (K × Token)) (key : List ℕ) (e : K × Token) (left : List (K × Token))
    → IsDistinct (λ x y. bytes_eq (spelling x) (spelling y)) (keys_of all) → key ≡ spelling e.0
    → rows_of spelling so_far ++ rows_of spelling (e ∷ left) ≡ rows_of spelling all → lookup (λ k. bytes_eq key (spelling k)) so_far ≡ None
next-new spelling all so_far key e left distinct is whole =
    ap (λ (n : List ℕ). lookup (λ k. bytes_eq n (spelling k)) so_far) is ∙ lookup-rows spelling (bytes_eq (spelling e.0)) so_far
    ∙ none-before (rows_of spelling so_far) (spelling e.0, e.1) (rows_of spelling left)
    (subst (λ (rows : List (List ℕ × Token)). IsDistinct bytes_eq (keys_of rows)) (sym whole) (distinct-rows spelling all distinct))

-- and behind it the rows so far and those that are left are all of them
pub next-rows : {K : Type 0} (spelling : K → List ℕ) (so_far new : List (K × Token)) (key : K) (name : Token) (e : K × Token) (left : List (K × Token)) (all : List (List ℕ × Token))
    → new ≡ so_far ++ (key, name) ∷ [] → spelling key ≡ spelling e.0 → name ≡ e.1 → rows_of spelling so_far ++ rows_of spelling (e ∷ left) ≡ all
    → rows_of spelling new ++ rows_of spelling left ≡ all
next-rows spelling so_far new key name e left all is same token whole =
    let row : (spelling key, name) ≡ (spelling e.0, e.1) = λ i. (same i, token i) in
    ap (λ (rows : List (List ℕ × Token)). rows ++ rows_of spelling left) (rows-push spelling so_far new key name is ∙ ap (λ (r : List ℕ × Token). rows_of spelling so_far ++ r ∷ []) row)
    ∙ append_assoc (rows_of spelling so_far) ((spelling e.0, e.1) ∷ []) (rows_of spelling left) ∙ whole

-- before the first of them, and behind the last
pub rows-begin : {K : Type 0} (spelling : K → List ℕ) (none left all : List (K × Token)) → none ≡ [] → left ≡ all → rows_of spelling none ++ rows_of spelling left ≡ rows_of spelling all
rows-begin {K = K} spelling none left all empty whole =
    ap (λ (es : List (K × Token)). rows_of spelling es ++ rows_of spelling left) empty ∙ ap (rows_of spelling) whole

pub rows-end : {K : Type 0} (spelling : K → List ℕ) (left so_far : List (K × Token)) (all : List (List ℕ × Token)) → left ≡ [] → rows_of spelling so_far ++ rows_of spelling left ≡ all
    → rows_of spelling so_far ≡ all
rows-end {K = K} spelling left so_far all is h =
    sym (append-nil (rows_of spelling so_far)) ∙ ap (λ (es : List (K × Token)). rows_of spelling so_far ++ rows_of spelling es) (sym is) ∙ h
