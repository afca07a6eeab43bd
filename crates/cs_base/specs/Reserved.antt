-- Spellings that no name may take or lose (ISO/IEC 9899:1999, 6.4.1, 6.4.2.2, 6.10.1, 6.10.3, 6.10.8,
-- and the keywords more of ISO/IEC 9899:2011, 6.4.1).
use Rattle.std.specs.Prelude.{ℕ, Bool, ◌&&◌, ◌||◌, List, [], ◌∷◌, codes, eqb}
use Rattle.std.specs.List.{list_any, starts_with}
use Rattle.std.specs.Str.{bytes_eq}

-- keyword (6.4.1), from `auto` to `if`
abbrev pub keywords_to_if : List (List ℕ)
keywords_to_if =
    codes "auto" ∷ codes "break" ∷ codes "case" ∷ codes "char" ∷ codes "const" ∷ codes "continue"
    ∷ codes "default" ∷ codes "do" ∷ codes "double" ∷ codes "else" ∷ codes "enum" ∷ codes "extern"
    ∷ codes "float" ∷ codes "for" ∷ codes "goto" ∷ codes "if" ∷ []

-- keyword (6.4.1), from `inline` to `struct`
abbrev pub keywords_to_struct : List (List ℕ)
keywords_to_struct =
    codes "inline" ∷ codes "int" ∷ codes "long" ∷ codes "register" ∷ codes "restrict"
    ∷ codes "return" ∷ codes "short" ∷ codes "signed" ∷ codes "sizeof" ∷ codes "static"
    ∷ codes "struct" ∷ []

-- keyword (6.4.1), from `switch` to `_Imaginary`
abbrev pub keywords_to_end : List (List ℕ)
keywords_to_end =
    codes "switch" ∷ codes "typedef" ∷ codes "union" ∷ codes "unsigned" ∷ codes "void"
    ∷ codes "volatile" ∷ codes "while" ∷ codes "_Bool" ∷ codes "_Complex" ∷ codes "_Imaginary" ∷ []

-- keyword of C11 and not of C99 (ISO/IEC 9899:2011, 6.4.1)
abbrev pub keywords_of_c11 : List (List ℕ)
keywords_of_c11 =
    codes "_Alignas" ∷ codes "_Alignof" ∷ codes "_Atomic" ∷ codes "_Generic" ∷ codes "_Noreturn"
    ∷ codes "_Static_assert" ∷ codes "_Thread_local" ∷ []

-- Names that the preprocessor or the implementation gives a meaning (6.4.2.2, 6.10.1, 6.10.3, 6.10.8, 6.10.9), here or
-- in later standards and GNU C, and `L`, which directly before a quote would become its prefix (6.4.4.4, 6.4.5).
abbrev pub given_names : List (List ℕ)
given_names =
    codes "defined" ∷ codes "__VA_ARGS__" ∷ codes "__func__" ∷ codes "L" ∷ codes "__LINE__"
    ∷ codes "__FILE__" ∷ codes "__DATE__" ∷ codes "__TIME__" ∷ codes "__STDC__"
    ∷ codes "__STDC_HOSTED__" ∷ codes "__STDC_VERSION__" ∷ codes "_Pragma" ∷ codes "__VA_OPT__"
    ∷ codes "__COUNTER__" ∷ codes "__has_include" ∷ codes "__has_include_next" ∷ []

-- A reserved spelling, whatever the standards of the units are: one of the 37 keywords of C99, of the 7 that C11
-- has more, or of the 16 given names. `unfoldable`, since the table would stand in every goal above.
unfoldable pub is_reserved_text : List ℕ → Bool
is_reserved_text text =
    list_any (bytes_eq text) keywords_to_if
    || list_any (bytes_eq text) keywords_to_struct
    || list_any (bytes_eq text) keywords_to_end
    || list_any (bytes_eq text) keywords_of_c11
    || list_any (bytes_eq text) given_names

-- words of gcc for what no standard has
abbrev pub own_words_of_gnu : List (List ℕ)
own_words_of_gnu =
    codes "asm" ∷ codes "__asm" ∷ codes "__asm__" ∷ codes "typeof" ∷ codes "__typeof" ∷ codes "__typeof__"
    ∷ codes "__attribute__" ∷ codes "__attribute" ∷ codes "__extension__" ∷ codes "__label__" ∷ codes "__auto_type"
    ∷ codes "__real__" ∷ codes "__real" ∷ codes "__imag__" ∷ codes "__imag" ∷ codes "__builtin_va_arg"
    ∷ codes "__builtin_convertvector" ∷ codes "__builtin_offsetof" ∷ codes "__builtin_types_compatible_p" ∷ []

-- words of gcc that mean what a keyword of the standard means
abbrev pub other_words_of_gnu : List (List ℕ)
other_words_of_gnu =
    codes "__const" ∷ codes "__const__" ∷ codes "__volatile" ∷ codes "__volatile__" ∷ codes "__restrict"
    ∷ codes "__restrict__" ∷ codes "__inline" ∷ codes "__inline__" ∷ codes "__signed" ∷ codes "__signed__"
    ∷ codes "__complex" ∷ codes "__complex__" ∷ codes "__alignof" ∷ codes "__alignof__" ∷ codes "__thread" ∷ []

-- types that gcc has by a word
abbrev pub types_of_gnu : List (List ℕ)
types_of_gnu =
    codes "__int128" ∷ codes "__int128_t" ∷ codes "__uint128_t" ∷ codes "_Float16" ∷ codes "_Float32"
    ∷ codes "_Float64" ∷ codes "_Float128" ∷ codes "_Float32x" ∷ codes "_Float64x" ∷ codes "__float80"
    ∷ codes "__float128" ∷ codes "__ibm128" ∷ codes "_Decimal32" ∷ codes "_Decimal64" ∷ codes "_Decimal128"
    ∷ codes "__builtin_va_list" ∷ []

-- a word of gcc that no standard has. `unfoldable`, since the table would stand in every goal above.
unfoldable pub is_word_of_gnu : List ℕ → Bool
is_word_of_gnu text =
    list_any (bytes_eq text) own_words_of_gnu
    || list_any (bytes_eq text) other_words_of_gnu
    || list_any (bytes_eq text) types_of_gnu

-- a name that gcc gives the meaning of `__func__` (6.4.2.2)
abbrev pub is_function_word : List ℕ → Bool
is_function_word text = list_any (bytes_eq text) (codes "__FUNCTION__" ∷ codes "__PRETTY_FUNCTION__" ∷ [])

-- a name that begins as those of the functions do that gcc has without a declaration
abbrev pub is_built_in : List ℕ → Bool
is_built_in text =
    list_any (starts_with eqb text) (codes "__builtin_" ∷ codes "__sync_" ∷ codes "__atomic_" ∷ [])

-- A spelling that is reserved more where a unit of the workspace is of GNU C.
unfoldable pub is_reserved_by_gnu : List ℕ → Bool
is_reserved_by_gnu text = is_word_of_gnu text || is_function_word text || is_built_in text

-- A spelling that is reserved in a workspace; `gnu` says whether one of its units is of GNU C.
abbrev pub is_reserved_in : Bool → List ℕ → Bool
is_reserved_in gnu text = is_reserved_text text || gnu && is_reserved_by_gnu text
