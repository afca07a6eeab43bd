-- The lines of a workspace file and the words in them.
use Rattle.std.specs.Prelude.{ℕ, ◌==◌, List, [], ◌∷◌, length, drop, reverse, codes, if◌then◌else◌}
use Rattle.std.specs.List.{before_first, onto_first}
use Rattle.std.specs.Str.{bytes_eq}
use Rattle.cs_base.specs.Units.{line_feed, is_blank}
use Rattle.ws_file.specs.declared.words.LineWord.{LineWord}
use Rattle.ws_file.specs.declared.words.LineWord.TheVariants.{Project, Standard, Qpath, Ipath, Readonly, Define, Undefine, Include, File, Other}

-- the lines of a file: each ends before a line feed, or at the end of the file where a byte is left
abbrev pub lines_of : List ℕ → List (List ℕ)
lines_of [] = []
lines_of (b ∷ bytes) = if b == line_feed then [] ∷ lines_of bytes else onto_first b (lines_of bytes)

-- the text without the blanks that it begins with
abbrev pub without_first_blanks : List ℕ → List ℕ
without_first_blanks [] = []
without_first_blanks (b ∷ text) = if is_blank b then without_first_blanks text else b ∷ text

-- the text without the blanks that it ends with
abbrev pub without_last_blanks : List ℕ → List ℕ
without_last_blanks text = reverse (without_first_blanks (reverse text))

-- the text without the blanks at its ends
unfoldable pub trimmed : List ℕ → List ℕ
trimmed text = without_last_blanks (without_first_blanks text)

-- the first word of a text that begins with no blank
unfoldable pub first_word : List ℕ → List ℕ
first_word text = before_first is_blank text

-- what follows the first word, from the next byte on that is no blank
unfoldable pub rest_of : List ℕ → List ℕ
rest_of text = without_first_blanks (drop (length (first_word text)) text)

-- the meaning of a line's first word
unfoldable pub line_word : List ℕ → LineWord
line_word word =
    if bytes_eq word (codes "project") then Project
    else (if bytes_eq word (codes "standard") then Standard
    else (if bytes_eq word (codes "qpath") then Qpath
    else (if bytes_eq word (codes "ipath") then Ipath
    else (if bytes_eq word (codes "readonly") then Readonly
    else (if bytes_eq word (codes "define") then Define
    else (if bytes_eq word (codes "undefine") then Undefine
    else (if bytes_eq word (codes "include") then Include
    else (if bytes_eq word (codes "file") then File else Other))))))))
