-- What the rules on units say of their texts.
use Rattle.std.proofs.Common.{◌≡◌, ℕ, zero, suc, Bool, true, false, not, ◌==◌, ◌+◌, ◌<◌, List, [], ◌∷◌, ◌++◌, IsTrue, length, drop, get_or, refl, ap, sym, subst, ◌∙◌, arith, length-append, append_assoc, lit<}
use Rattle.std.specs.Prelude.{IsUtf8, nat_lt}
use Rattle.std.specs.List.{list_all}
use Rattle.std.specs.Str.{is_utf8, IsAscii}
use Rattle.std.proofs.lemmas.Str.{IsUtf8-from_is_utf8, is_utf8-from_IsUtf8, IsUtf8-append, IsUtf8-nil, IsUtf8-take, IsUtf8-drop, IsUtf8-from_ascii, IsCharBoundary-before_ascii, IsCharBoundary-after_ascii}
use Rattle.std.proofs.lemmas.Bool.{ltb-true, and_parts, and_from}
use Rattle.std.proofs.lemmas.List.{get_or_at, take_at, drop_at}
use Rattle.std.proofs.lemmas.List.Folds.{list_all-append}
use Rattle.cs_base.specs.Paths.{slash, normal_path_of}
use Rattle.cs_base.specs.Units.{line_feed, has_bad_ends, is_writable, is_unit_path}
use Rattle.cs_base.proofs.PathLaws.{IsByParts, normal_path_of-keeps}

pub IsUtf8-writable : (text : List ℕ) → IsTrue (is_writable text) → IsUtf8 text
unfolding is_writable
IsUtf8-writable text h = IsUtf8-from_is_utf8 text ((and_parts _ _ ((and_parts _ _ h).0)).0)

pub IsUtf8-unit_path : (path : List ℕ) → IsTrue (is_unit_path path) → IsUtf8 path
IsUtf8-unit_path path h = IsUtf8-writable path ((and_parts _ _ ((and_parts _ _ ((and_parts _ _ h).0)).0)).0)

-- UTF-8 before an ASCII byte
pub is_utf8-front : (xs ys : List ℕ) (b : ℕ) → b < 128 → is_utf8 (xs ++ b ∷ ys) ≡ true → is_utf8 xs ≡ true
is_utf8-front xs ys b ascii h =
    let bs = xs ++ b ∷ ys in
    let here : get_or bs (length xs) 0 ≡ b = get_or_at xs b ys 0 (length xs) refl in
    let within : length xs < length bs = omega (arith, length-append xs (b ∷ ys)) in
    let before = IsCharBoundary-before_ascii bs (length xs) within (omega arith) in
    let front = IsUtf8-take bs (length xs) (IsUtf8-from_is_utf8 bs h) before in
    is_utf8-from_IsUtf8 xs (subst IsUtf8 (take_at xs (b ∷ ys) (length xs) refl) front)

-- UTF-8 behind an ASCII byte
pub is_utf8-back : (xs ys : List ℕ) (b : ℕ) → b < 128 → is_utf8 (xs ++ b ∷ ys) ≡ true → is_utf8 ys ≡ true
is_utf8-back xs ys b ascii h =
    let bs = xs ++ b ∷ ys in
    let here : get_or bs (length xs) 0 ≡ b = get_or_at xs b ys 0 (length xs) refl in
    let within : length xs < length bs = omega (arith, length-append xs (b ∷ ys)) in
    let after = IsCharBoundary-after_ascii bs (length xs) (IsUtf8-from_is_utf8 bs h) within (omega arith) in
    let back = IsUtf8-drop bs (length xs + 1) (IsUtf8-from_is_utf8 bs h) after in
    let same : drop (length xs + 1) bs ≡ ys =
    ap (λ (zs : List ℕ). drop (length xs + 1) zs) (sym (append_assoc xs (b ∷ []) ys))
    ∙ drop_at (xs ++ b ∷ []) ys (length xs + 1) (length-append xs (b ∷ [])) in
    is_utf8-from_IsUtf8 ys (subst IsUtf8 same back)

IsAscii-one : (b : ℕ) → b < 128 → IsAscii (b ∷ [])
IsAscii-one b ascii zero = ascii
IsAscii-one b ascii (suc i) = lit< tt

-- UTF-8 around an ASCII byte
pub is_utf8-around : (xs ys : List ℕ) (b : ℕ) → b < 128 → is_utf8 xs ≡ true → is_utf8 ys ≡ true → is_utf8 (xs ++ b ∷ ys) ≡ true
is_utf8-around xs ys b ascii h q =
    let one = IsUtf8-from_ascii (b ∷ []) (IsAscii-one b ascii) in
    is_utf8-from_IsUtf8 (xs ++ b ∷ ys)
    (IsUtf8-append xs (b ∷ ys) (IsUtf8-from_is_utf8 xs h) (IsUtf8-append (b ∷ []) ys one (IsUtf8-from_is_utf8 ys q)))

utf8_by_parts : IsByParts is_utf8
utf8_by_parts = record {
  nil = is_utf8-from_IsUtf8 [] IsUtf8-nil;
  front = λ xs ys h. is_utf8-front xs ys slash (lit< tt) h;
  back = λ xs ys h. is_utf8-back xs ys slash (lit< tt) h;
  whole = λ xs ys h q. is_utf8-around xs ys slash (lit< tt) h q;
}

-- what each byte passes
all_by_parts : (p : ℕ → Bool) → p slash ≡ true → IsByParts (list_all p)
all_by_parts p holds = record {
  nil = refl;
  front = λ xs ys h. (and_parts (list_all p xs) (list_all p (slash ∷ ys)) (sym (list_all-append p xs (slash ∷ ys)) ∙ h)).0;
  back = λ xs ys h. (and_parts (p slash) (list_all p ys) ((and_parts (list_all p xs) (list_all p (slash ∷ ys)) (sym (list_all-append p xs (slash ∷ ys)) ∙ h)).1)).1;
  whole = λ xs ys h q. list_all-append p xs (slash ∷ ys) ∙ and_from (list_all p xs) (list_all p (slash ∷ ys)) h (and_from (p slash) (list_all p ys) holds q);
}

-- the normal path of a text that a line can hold, where its ends are good
pub is_writable-normal_path_of : (path : List ℕ) → IsTrue (is_writable path) → has_bad_ends (normal_path_of path) ≡ false
    → is_writable (normal_path_of path) ≡ true
unfolding is_writable
is_writable-normal_path_of path h ends =
    let is_other : ℕ → Bool = λ b. not (b == line_feed) in
    let utf8 = normal_path_of-keeps is_utf8 utf8_by_parts path ((and_parts _ _ ((and_parts _ _ h).0)).0) in
    let one_line = normal_path_of-keeps (list_all is_other) (all_by_parts is_other refl) path ((and_parts (is_utf8 path) _ ((and_parts _ _ h).0)).1) in
    and_from _ _ (and_from _ _ utf8 one_line) (rw ends refl)

IsAscii-from_all : (text : List ℕ) → list_all (λ b. nat_lt b 128) text ≡ true → IsAscii text
IsAscii-from_all [] h i = lit< tt
IsAscii-from_all (b ∷ text) h zero = ltb-true b 128 ((and_parts _ _ h).0)
IsAscii-from_all (b ∷ text) h (suc i) = IsAscii-from_all text ((and_parts _ _ h).1) i

-- ASCII is UTF-8
pub is_utf8-ascii : (text : List ℕ) → list_all (λ b. nat_lt b 128) text ≡ true → is_utf8 text ≡ true
is_utf8-ascii text h = is_utf8-from_IsUtf8 text (IsUtf8-from_ascii text (IsAscii-from_all text h))
