-- The first token of a text, read in one pass.
use Rattle.std.specs.Prelude.{◌≡◌, ◌≤◌, ℕ, zero, suc, ◌+◌, not, ◌&&◌, ◌||◌, ◌==◌, nat_le, Bool, true, false, if◌then◌else◌, List, [], ◌∷◌, length, take, Option, Some, None, unwrap_or}
use Rattle.std.specs.List.{prefix_len, list_any}
use Rattle.std.specs.Option.{option_map}
use Rattle.cs_base.specs.declared.tokens.Kind.{Kind}
use Rattle.cs_base.specs.declared.tokens.Kind.TheVariants.{Ident, Number, Char, Str, Punct, Other, Header}
use Rattle.lexer.specs.Characters.{line_feed, single_quote, capital_l, backslash, is_nondigit, is_word, is_quote, begins}
use Rattle.lexer.specs.Spelling.{may_follow, begins_number, header_close, punctuators_of_one, punctuators_of_two, punctuators_of_three, punctuators_of_four}
use Rattle.lexer.specs.Tokens.{front_length, kind_or_other, one_more}

-- how many characters go on with a pp-number that ends in `last`
abbrev pub count_following : ℕ → List ℕ → ℕ
count_following last [] = 0
count_following last (c ∷ cs) = if may_follow last c then 1 + count_following c cs else 0

-- so many characters more
abbrev pub more_by : ℕ → Option ℕ → Option ℕ
more_by count None = None
more_by count (Some n) = Some (count + n)

-- how many characters stand to the closing quote, if one does on this line
abbrev pub closing : ℕ → Bool → List ℕ → Option ℕ
closing quote escaped [] = None
closing quote true (c ∷ cs) = if c == line_feed then None else one_more (closing quote false cs)
closing quote false (c ∷ cs) =
    if c == quote then Some 1 else
    (if c == line_feed then None else one_more (closing quote (c == backslash) cs))

-- how many characters follow a quote to the closing one: there is at least one element between single
-- quotes
abbrev pub quoted : ℕ → List ℕ → Option ℕ
quoted quote cs = if quote == single_quote && begins single_quote cs then None else closing quote false cs

-- the kind of what stands between these quotes
abbrev pub quoted_kind : ℕ → Kind
quoted_kind quote = if quote == single_quote then Char else Str

-- what begins with a quote: its kind and how many characters follow its first
abbrev pub quoted_front : ℕ → List ℕ → Option (Kind × ℕ)
quoted_front quote cs = option_map (λ n. (quoted_kind quote, n)) (quoted quote cs)

-- what begins with `L` and a quote
abbrev pub wide_front : ℕ → List ℕ → Option (Kind × ℕ)
wide_front c [] = None
wide_front c (q ∷ cs) =
    if c == capital_l && is_quote q then option_map (λ n. (quoted_kind q, n + 1)) (quoted q cs) else None

-- how many characters stand to the one that closes a header name
abbrev pub header_closing : ℕ → List ℕ → Option ℕ
header_closing close [] = None
header_closing close (c ∷ cs) =
    if c == close then Some 1 else (if c == line_feed then None else one_more (header_closing close cs))

-- how many characters follow the first of a header name
abbrev pub header_length : ℕ → List ℕ → Option ℕ
header_length c cs =
    if header_close c == 0 then None else
    (if begins (header_close c) cs then None else header_closing (header_close c) cs)

-- the text begins with the word
abbrev pub begins_with : List ℕ → List ℕ → Bool
begins_with [] text = true
begins_with (w ∷ ws) [] = false
begins_with (w ∷ ws) (c ∷ cs) = c == w && begins_with ws cs

-- the text begins with one of these words
abbrev pub begins_with_one : List (List ℕ) → List ℕ → Bool
begins_with_one words text = list_any (λ w. begins_with w text) words

-- the punctuators of one character with which no other one begins (6.4.6): `(`, `)`, `[`, `]`, `{`, `}`, `,`, `;`, `~` and `?`
abbrev pub is_lone_sign : ℕ → Bool
is_lone_sign c =
    c == 40 || c == 41 || c == 91 || c == 93 || c == 123 || c == 125 || c == 44 || c == 59 || c == 126 || c == 63

-- the other punctuators of one character (6.4.6): `.`, `&`, `*`, `+`, `-`, `!`, `/`, `%`, `<`, `>`, `^`, `|`, `:`, `=` and `#`
abbrev pub is_open_sign : ℕ → Bool
is_open_sign c =
    c == 46 || c == 38 || c == 42 || c == 43 || c == 45 || c == 33 || c == 47 || c == 37 || c == 60 || c == 62 || c == 94 || c == 124 || c == 58
    || c == 61 || c == 35

-- the second characters of longer ones: `=`, `>`, `+`, `-`, `<`, `&`, `|`, `#`, `:`, `%` and `.`
abbrev pub is_second_sign : ℕ → Bool
is_second_sign c = c == 61 || c == 62 || c == 43 || c == 45 || c == 60 || c == 38 || c == 124 || c == 35 || c == 58 || c == 37 || c == 46

-- another character is next, and is none of these
abbrev pub is_alone_before : List ℕ → Bool
is_alone_before [] = false
is_alone_before (c ∷ cs) = not (is_second_sign c)

-- how many characters the longest punctuator in front has, and 0 where there is none
unfoldable pub punctuator_length : List ℕ → ℕ
punctuator_length text =
    if begins_with_one punctuators_of_four text then 4 else
    if begins_with_one punctuators_of_three text then 3 else
    if begins_with_one punctuators_of_two text then 2 else
    if begins_with_one punctuators_of_one text then 1 else
    0

-- a punctuator of so many characters, or a character that is a token by itself
abbrev pub punctuator_front : ℕ → Kind × ℕ
punctuator_front zero = (Other, 0)
punctuator_front (suc more) = (Punct, more)

-- The kind of the first token of a text without white space before it, and how many characters
-- follow its first.
unfoldable pub plain_front : ℕ → List ℕ → Kind × ℕ
plain_front c cs =
    if is_nondigit c then unwrap_or (wide_front c cs) (Ident, prefix_len is_word cs) else
    if begins_number c cs then (Number, count_following c cs) else
    if is_quote c then unwrap_or (quoted_front c cs) (Other, 0) else
    punctuator_front (punctuator_length (c ∷ cs))

-- the longer of a header name and another token
abbrev pub or_header : Option ℕ → Kind × ℕ → Kind × ℕ
or_header None front = front
or_header (Some n) front = if nat_le front.1 n then (Header, n) else front

-- the same where a header name may stand
unfoldable pub front_of : Bool → ℕ → List ℕ → Kind × ℕ
front_of header c cs = if header then or_header (header_length c cs) (plain_front c cs) else plain_front c cs

-- this is the kind of the first token of a text, and so many characters follow its first
pub record IsFront (header : Bool) (c : ℕ) (cs : List ℕ) (kind : Kind) (n : ℕ) : Type 0 where
  pub spelled : kind_or_other header (c ∷ take n cs) ≡ kind
  pub longest : front_length header (c ∷ cs) ≡ suc n
  pub within : n ≤ length cs
