-- Two texts whose tokens are alike one another in the same places (this project's, over ISO/IEC 9899:1999, 6.2.1, and over the
-- manual of gcc).
use Rattle.std.specs.Prelude.{ℕ, ◌≡◌, Bool, true, List, [], ◌∷◌, length, codes}
use Rattle.std.specs.List.{list_any}
use Rattle.std.specs.Str.{bytes_eq}
use Rattle.cs_base.specs.Reserved.{is_built_in, is_function_word}
use Rattle.cs_base.specs.Token.{Token}
use Rattle.c99_read.specs.Below.c99_grammar.Standard.{Grammar}
use Rattle.c99_read.specs.State.{base_at}
use Rattle.c_types.specs.Declarations.{spelling_at, alike}
use Rattle.gnu_bind.specs.Words.{is_word_attribute, is_fetch, is_path_sign, begins_call, is_extension}

-- As many tokens, of the same classes where no name counts as a typedef name; and two are spelled alike in the one text where
-- they are in the other.
pub record AreAlike (g : Grammar) (a b : List Token) : Type 0 where
  pub as_long : length b ≡ length a
  pub classes : (k : ℕ) → base_at g b k ≡ base_at g a k
  pub spelled : (i j : ℕ) → alike b i j ≡ alike a i j

-- ---- What binding asks of a spelling by itself

-- the spellings that it asks for in all of C
abbrev pub words_of_c : List (List ℕ)
words_of_c = codes "union" ∷ codes "__func__" ∷ codes "++" ∷ codes "--" ∷ codes "&" ∷ codes "*" ∷ codes "-" ∷ []

abbrev pub is_word_of_c : List ℕ → Bool
is_word_of_c word = list_any (λ w. bytes_eq w word) words_of_c

-- two spellings are the same to it, in GNU C
pub record SayTheSame (s t : List ℕ) : Type 0 where
  pub word : (w : List ℕ) → is_word_of_c w ≡ true → bytes_eq t w ≡ bytes_eq s w
  pub built_in : is_built_in t ≡ is_built_in s
  pub function_word : is_function_word t ≡ is_function_word s
  pub attribute : is_word_attribute t ≡ is_word_attribute s
  pub fetch : is_fetch t ≡ is_fetch s
  pub sign : is_path_sign t ≡ is_path_sign s
  pub call : begins_call t ≡ begins_call s
  pub extension : is_extension t ≡ is_extension s

-- so it is with each token of two texts
abbrev pub AllSayTheSame : List Token → List Token → Type 0
AllSayTheSame a b = (k : ℕ) → SayTheSame (spelling_at a k) (spelling_at b k)
