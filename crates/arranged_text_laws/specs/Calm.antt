-- Texts whose tokens ask for nothing on their lines (ISO/IEC 9899:1999, 6.4 paragraphs 3 and 4): they settle.
use Rattle.std.specs.Prelude.{◌≡◌, ℕ, zero, suc, ◌-◌, ◌==◌, ◌&&◌, ◌||◌, not, if◌then◌else◌, Bool, true, false, List, [], ◌∷◌, ◌++◌}
use Rattle.std.specs.List.{list_all}
use Rattle.cs_base.specs.declared.tokens.Kind.{Kind}
use Rattle.cs_base.specs.declared.tokens.Kind.TheVariants.{Other}
use Rattle.lexer.specs.Characters.{line_feed, slash}
use Rattle.lexer.specs.Tokens.{Found, FoundToken, FoundOpen, is_hash_text, piece_of, piece_length, leaves_gap, line_front_after, expects_header, found_in}
use Rattle.arranged_text_laws.specs.Settling.{Front, is_lone, has_line_feed, settles, gap_behind}
use Rattle.arranged_text_laws.specs.Labels.{starts}
use Rattle.arranged_text_laws.specs.Places.{found_plain}
use Rattle.arranged_text_laws.specs.Marks.{Before, front_at}

-- a character that is no token of another kind, as a lone quote
abbrev pub is_odd : Kind → Bool
is_odd Other = true
is_odd _ = false

-- It is no such token, no `#` that begins a directive (6.10), and no comment without end.
abbrev pub is_calm : Found → Bool
is_calm (FoundToken t first) = not (is_odd t.kind) && not (first && is_hash_text t.text)
is_calm (FoundOpen at) = false

-- how many characters of what stands behind belong to the last piece
unfoldable pub skip_behind : ℕ → Front → List ℕ → List ℕ → ℕ
skip_behind skip front [] ys = skip
skip_behind (suc skip) front (c ∷ xs) ys = skip_behind skip front xs ys
skip_behind zero front (c ∷ xs) ys =
    skip_behind (piece_length 0 (piece_of (expects_header front) c (xs ++ ys)) - 1)
    (line_front_after (c ∷ (xs ++ ys)) front (piece_of (expects_header front) c (xs ++ ys))) xs ys

-- the last character is a `/`
abbrev pub ends_slash : List ℕ → Bool
ends_slash [] = false
ends_slash (c ∷ []) = c == slash
ends_slash (c ∷ d ∷ cs) = ends_slash (d ∷ cs)

-- The law: a text that ends with a token, other than one that ends in a `/`, settles before what begins with a stop, where
-- all that is found in it is calm.
abbrev pub CalmTextsSettle : Type 0
CalmTextsSettle = (st : Before) (xs ys : List ℕ) → list_all is_calm (found_plain 0 st.gap (front_at st) 0 xs ys) ≡ true
    → skip_behind 0 (front_at st) xs ys ≡ 0 → gap_behind 0 st.gap (front_at st) xs ys ≡ false → ends_slash xs ≡ false
    → settles true 0 (front_at st) xs ys ≡ true

-- ---- what stands before an item

-- no such token, and no comment without end
abbrev pub is_even : Found → Bool
is_even (FoundToken t first) = not (is_odd t.kind)
is_even (FoundOpen at) = false

-- a line feed stands behind each piece that is not even
unfoldable pub is_quiet : ℕ → Bool → Front → List ℕ → List ℕ → Bool
is_quiet skip gap front [] ys = true
is_quiet (suc skip) gap front (c ∷ xs) ys = is_quiet skip gap front xs ys
is_quiet zero gap front (c ∷ xs) ys =
    (has_line_feed xs || list_all is_even (found_in 0 0 gap front 0 (c ∷ (xs ++ ys)) (piece_of (expects_header front) c (xs ++ ys))))
    && is_quiet (piece_length 0 (piece_of (expects_header front) c (xs ++ ys)) - 1) (leaves_gap (piece_of (expects_header front) c (xs ++ ys)))
    (line_front_after (c ∷ (xs ++ ys)) front (piece_of (expects_header front) c (xs ++ ys))) xs ys

-- no comment is without end
abbrev pub is_shut : Found → Bool
is_shut (FoundToken t first) = true
is_shut (FoundOpen at) = false

-- the last line on which a token is the first begins no directive
abbrev pub is_plain_at_end : Bool → List Found → Bool
is_plain_at_end plain [] = plain
is_plain_at_end plain (FoundToken t first ∷ found) = is_plain_at_end (if first then not (is_hash_text t.text) else plain) found
is_plain_at_end plain (FoundOpen at ∷ found) = is_plain_at_end plain found

-- a parenthesis or a comma
abbrev pub is_sign : Found → Bool
is_sign (FoundToken t first) = starts is_lone t.text
is_sign (FoundOpen at) = false

-- the last that is found is one
abbrev pub ends_in_sign : List Found → Bool
ends_in_sign [] = true
ends_in_sign (f ∷ []) = is_sign f
ends_in_sign (f ∷ g ∷ found) = ends_in_sign (g ∷ found)

-- a character of a line stands first
abbrev pub begins_on_line : List ℕ → Bool
begins_on_line [] = false
begins_on_line (c ∷ cs) = not (c == line_feed)

-- The law: a text whose last token is a parenthesis or a comma settles before whatever stands behind it, where a line feed stands
-- in it behind each odd token, and its last line is of no directive.
abbrev pub LeadsSettle : Type 0
LeadsSettle = (st : Before) (xs ys : List ℕ) → list_all is_shut (found_plain 0 st.gap (front_at st) 0 xs ys) ≡ true
    → is_quiet 0 st.gap (front_at st) xs ys ≡ true → is_plain_at_end true (found_plain 0 st.gap (front_at st) 0 xs ys) ≡ true
    → ends_in_sign (found_plain 0 st.gap (front_at st) 0 xs ys) ≡ true → skip_behind 0 (front_at st) xs ys ≡ 0 → begins_on_line ys ≡ true
    → settles false 0 (front_at st) xs ys ≡ true
