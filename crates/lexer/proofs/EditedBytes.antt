-- The logical text of an edited file.
use Rattle.std.proofs.Common.{◌≡◌, ℕ, zero, suc, ◌+◌, ◌-◌, Bool, true, false, ◌&&◌, ◌==◌, if◌then◌else◌, List, [], ◌∷◌, ◌++◌, drop, map, inl, inr, refl, sym, ap, ◌∙◌, arith, add-zero}
use Rattle.std.specs.List.{list_all}
use Rattle.std.specs.Option.{option_map}
use Rattle.std.proofs.lemmas.Bool.{cases_Bool, and_parts, both_ways, eqb-true, eqb-false, ne_eqb}
use Rattle.std.proofs.lemmas.Bool.Decides.{nat_tests}
use Rattle.cs_base.specs.Token.{Token}
use Rattle.cs_base.proofs.ListLemmas.{drop-next}
use Rattle.lexer.specs.declared.pieces.LineFront.TheVariants.{Nothing}
use Rattle.lexer.specs.Characters.{line_feed, carriage_return, backslash, is_word, begins, line_after}
use Rattle.lexer.specs.Spelling.{is_identifier_text}
use Rattle.lexer.specs.Logical.{new_line_length, gone_length, logical_from, logical_of, spelling, line_at}
use Rattle.lexer.specs.Tokens.{Found, FoundToken, FoundOpen, found_of, tokens_in, firsts_in, open_in, tokens_of, firsts_of, open_comment_of}
use Rattle.lexer.specs.Respelling.{Put, KeepsPieces, keeps_pieces, edited_from, edited, moved, respelled_token, EditKeepsTokens}
use Rattle.lexer.proofs.ScanLemmas.{line-step}
use Rattle.lexer.proofs.FitLemmas.{FitsAt, kept, named, inner, Fits, identifier-first, word-line, word-backslash, identifier-words}
use Rattle.lexer.proofs.KeptLemmas.{keeps-fits}
use Rattle.lexer.proofs.EditedTokens.{Lined, on_line, bytes_in, lined, bytes_in-lined, found_lined, found_from-lined, put_on, respell_lined, respelled_found, found-edited}
use Rattle.lexer.proofs.LocalLemmas.{nondigit-word}

-- the characters of bytes with their lines, of which the first `skip` go
unfoldable lined_from : ℕ → ℕ → List ℕ → List Lined
lined_from skip line [] = []
lined_from (suc skip) line (c ∷ cs) = lined_from skip (line_after c line) cs
lined_from zero line (c ∷ cs) =
    if gone_length c cs == 0 then on_line c line ∷ lined_from 0 (line_after c line) cs
    else lined_from (gone_length c cs - 1) (line_after c line) cs

pub line-next : (bytes : List ℕ) (o c : ℕ) (cs : List ℕ) → drop o bytes ≡ c ∷ cs → line_at bytes (o + 1) ≡ line_after c (line_at bytes o)
line-next bytes o c cs here =
    let step = line-step bytes (c ∷ cs) o 1 (o + 1) (line_at bytes o) here refl refl in
    elim (cases_Bool (c == line_feed)) [
      | inl ends ↦ rw ends (sym (rw ends at step))
      | inr on ↦ rw on (sym (rw (on, add-zero) at step))
    ]

lined-from : (bytes : List ℕ) (skip o : ℕ) (bs : List ℕ) → drop o bytes ≡ bs
    → lined bytes (logical_from skip o bs) ≡ lined_from skip (line_at bytes o) bs
unfolding logical_from lined_from
lined-from bytes zero o [] here = refl
lined-from bytes (suc skip) o [] here = refl
lined-from bytes (suc skip) o (c ∷ cs) here =
    rw (← line-next bytes o c cs here) (lined-from bytes skip (o + 1) cs (drop-next bytes o c cs here))
lined-from bytes zero o (c ∷ cs) here =
    let next = line-next bytes o c cs here in
    let rest = drop-next bytes o c cs here in
    elim (cases_Bool (gone_length c cs == 0)) [
      | inl stays ↦ rw (stays, ← next) (ap (λ (zs : List Lined). on_line c (line_at bytes o) ∷ zs) (lined-from bytes 0 (o + 1) cs rest))
      | inr goes ↦ rw (goes, ← next) (lined-from bytes (gone_length c cs - 1) (o + 1) cs rest)
    ]

-- Bytes that go.

pub gone-other : (c : ℕ) (cs : List ℕ) → (c == backslash) ≡ false → (c == carriage_return) ≡ false → gone_length c cs ≡ 0
unfolding gone_length
gone-other c cs no_backslash no_return = rw (no_backslash, no_return) refl

word-return : (c : ℕ) → is_word c ≡ true → (c == carriage_return) ≡ false
word-return c h = grind (arith, nat_tests)

pub gone-word : (c : ℕ) (cs : List ℕ) → is_word c ≡ true → gone_length c cs ≡ 0
gone-word c cs word = gone-other c cs (word-backslash c word) (word-return c word)

-- a character that is no word character stands for itself
plain-kept : (put : Put) (before : Bool) (at c : ℕ) → is_word c ≡ false → FitsAt put before at c → put at c ≡ c ∷ []
plain-kept put before at c plain (kept is) = is
plain-kept put before at c plain (named letter is) = absurd (both_ways (is_word c) plain (nondigit-word c letter))
plain-kept put before at c plain (inner behind word is) = absurd (both_ways (is_word c) plain word)

pub edited_from-stays : (put : Put) (at c : ℕ) (cs : List ℕ) → gone_length c cs ≡ 0
    → edited_from put 0 at (c ∷ cs) ≡ put at c ++ edited_from put 0 (at + 1) cs
unfolding edited_from
edited_from-stays put at c cs stays = rw stays refl

edited_from-goes : (put : Put) (at c : ℕ) (cs : List ℕ) → (gone_length c cs == 0) ≡ false
    → edited_from put 0 at (c ∷ cs) ≡ c ∷ edited_from put (gone_length c cs - 1) at cs
unfolding edited_from
edited_from-goes put at c cs goes = rw goes refl

lined_from-stays : (line c : ℕ) (cs : List ℕ) → gone_length c cs ≡ 0
    → lined_from 0 line (c ∷ cs) ≡ on_line c line ∷ lined_from 0 (line_after c line) cs
unfolding lined_from
lined_from-stays line c cs stays = rw stays refl

lined_from-goes : (line c : ℕ) (cs : List ℕ) → (gone_length c cs == 0) ≡ false
    → lined_from 0 line (c ∷ cs) ≡ lined_from (gone_length c cs - 1) (line_after c line) cs
unfolding lined_from
lined_from-goes line c cs goes = rw goes refl

-- the edited bytes begin with a line feed where the bytes do
begins-named : (text cs : List ℕ) → is_identifier_text text ≡ true → begins line_feed (text ++ cs) ≡ false
begins-named text cs ident =
    let w = identifier-first text ident in
    rw w.2 (word-line w.0 (nondigit-word w.0 w.3))

begins-at : (put : Put) (at c : ℕ) (cs : List ℕ) → gone_length c cs ≡ 0 → FitsAt put false at c
    → begins line_feed (edited_from put 0 at (c ∷ cs)) ≡ begins line_feed (c ∷ cs)
begins-at put at c cs stays (kept is) = rw (edited_from-stays put at c cs stays, is) refl
begins-at put at c cs stays (named letter is) =
    rw (edited_from-stays put at c cs stays, begins-named (put at c) (edited_from put 0 (at + 1) cs) is, word-line c (nondigit-word c letter)) refl
begins-at put at c cs stays (inner contra word is) = absurd (both_ways false refl contra)

begins-edited : (put : Put) (at line : ℕ) (cs : List ℕ) → Fits put false at (bytes_in (lined_from 0 line cs))
    → begins line_feed (edited_from put 0 at cs) ≡ begins line_feed cs
unfolding edited_from
begins-edited put at line [] fits = refl
begins-edited put at line (c ∷ cs) fits =
    elim (cases_Bool (gone_length c cs == 0)) [
      | inl stays ↦
          let none = eqb-true (gone_length c cs) 0 stays in
          let first : FitsAt put false at c = (rw (lined_from-stays line c cs none) at fits).0 in
          begins-at put at c cs none first
      | inr goes ↦ rw (edited_from-goes put at c cs goes) refl
    ]

-- the edited bytes begin with no new-line where the bytes do not
new_line-named : (text cs : List ℕ) → is_identifier_text text ≡ true → new_line_length (text ++ cs) ≡ 0
new_line-named text cs ident =
    let w = identifier-first text ident in
    let word = nondigit-word w.0 w.3 in
    rw (w.2, word-line w.0 word, word-return w.0 word) refl

new_line-kept : (put : Put) (at c : ℕ) (cs : List ℕ) → new_line_length (c ∷ cs) ≡ 0
    → (is_word c ≡ false → begins line_feed (edited_from put 0 (at + 1) cs) ≡ begins line_feed cs)
    → new_line_length (c ∷ edited_from put 0 (at + 1) cs) ≡ 0
new_line-kept put at c cs none later =
    elim (cases_Bool (c == line_feed)) [
      | inl ends ↦ let contra = rw ends at none in absurd (omega arith)
      | inr on ↦ elim (cases_Bool (c == carriage_return)) [
        | inr other ↦ rw (on, other) refl
        | inl returns ↦
            let plain : is_word c ≡ false = rw (eqb-true c carriage_return returns) refl in
            rw (on, returns, later plain) (rw (on, returns) at none)
      ]
    ]

new_line-goes : (c : ℕ) (cs now : List ℕ) → (gone_length c cs == 0) ≡ false → new_line_length (c ∷ cs) ≡ 0 → new_line_length (c ∷ now) ≡ 0
unfolding gone_length
new_line-goes c cs now goes none =
    elim (cases_Bool (c == backslash)) [
      | inl splice ↦ let is = eqb-true c backslash splice in rw is refl
      | inr other ↦ elim (cases_Bool (c == line_feed)) [
        | inl ends ↦ let contra = rw ends at none in absurd (omega arith)
        | inr on ↦ elim (cases_Bool (c == carriage_return && begins line_feed cs)) [
          | inl both ↦ let contra = rw (on, both) at none in absurd (omega arith)
          | inr neither ↦ let contra = rw (other, neither) at goes in absurd cc
        ]
      ]
    ]

new_line-at : (put : Put) (at c : ℕ) (cs : List ℕ) → gone_length c cs ≡ 0 → FitsAt put false at c → new_line_length (c ∷ cs) ≡ 0
    → (is_word c ≡ false → begins line_feed (edited_from put 0 (at + 1) cs) ≡ begins line_feed cs)
    → new_line_length (edited_from put 0 at (c ∷ cs)) ≡ 0
new_line-at put at c cs stays (kept is) none later =
    rw (edited_from-stays put at c cs stays, is) (new_line-kept put at c cs none later)
new_line-at put at c cs stays (named letter is) none later =
    rw (edited_from-stays put at c cs stays) (new_line-named (put at c) (edited_from put 0 (at + 1) cs) is)
new_line-at put at c cs stays (inner contra word is) none later = absurd (both_ways false refl contra)

new_line-edited : (put : Put) (at line : ℕ) (cs : List ℕ) → Fits put false at (bytes_in (lined_from 0 line cs))
    → new_line_length cs ≡ 0 → new_line_length (edited_from put 0 at cs) ≡ 0
unfolding edited_from
new_line-edited put at line [] fits none = refl
new_line-edited put at line (c ∷ cs) fits none =
    elim (cases_Bool (gone_length c cs == 0)) [
      | inl stays ↦
          let zero_gone = eqb-true (gone_length c cs) 0 stays in
          let both = rw (lined_from-stays line c cs zero_gone) at fits in
          new_line-at put at c cs zero_gone both.0 none
          (λ plain. begins-edited put (at + 1) (line_after c line) cs (rw plain at both.1))
      | inr goes ↦ rw (edited_from-goes put at c cs goes) (new_line-goes c cs (edited_from put (gone_length c cs - 1) at cs) goes none)
    ]

splice-none : (n : ℕ) → (if n == 0 then 0 else n + 1) ≡ 0 → n ≡ 0
splice-none zero none = refl
splice-none (suc n) none = let some : (suc n == 0) ≡ false = ne_eqb (suc n) 0 (λ e. omega arith) in absurd (omega (arith, rw some at none))

new_line-pair : (put : Put) (at d : ℕ) (ds : List ℕ) → (d == line_feed) ≡ false → (d == carriage_return) ≡ true → begins line_feed ds ≡ true
    → (if new_line_length (edited_from put 2 at (d ∷ ds)) == 0 then 0 else new_line_length (edited_from put 2 at (d ∷ ds)) + 1) ≡ 3
unfolding edited_from
new_line-pair put at d [] on returns feeds = absurd (both_ways false refl feeds)
new_line-pair put at d (e ∷ es) on returns feeds = rw (on, returns, feeds) refl

begins-return : (put : Put) (before : Bool) (at line : ℕ) (cs : List ℕ) → begins line_feed cs ≡ true
    → Fits put before at (bytes_in (lined_from 0 line cs)) → begins line_feed (edited_from put 0 at cs) ≡ true
begins-return put before at line [] feeds fits = absurd (both_ways false refl feeds)
begins-return put before at line (d ∷ ds) feeds fits =
    let is = eqb-true d line_feed feeds in
    let stays : gone_length d ds ≡ 0 = rw is (gone-other line_feed ds refl refl) in
    let plain : is_word d ≡ false = rw is refl in
    let both = rw (lined_from-stays line d ds stays) at fits in
    let same = plain-kept put before at d plain both.0 in
    rw (edited_from-stays put at d ds stays, same) feeds

-- a character that stays still stays
gone-kept : (put : Put) (at line c : ℕ) (cs : List ℕ) → is_word c ≡ false → gone_length c cs ≡ 0
    → Fits put false at (bytes_in (lined_from 0 line cs)) → gone_length c (edited_from put 0 at cs) ≡ 0
unfolding gone_length
gone-kept put at line c cs plain stays fits =
    elim (cases_Bool (c == backslash)) [
      | inl splice ↦
          let none = splice-none (new_line_length cs) (rw splice at stays) in
          rw (splice, new_line-edited put at line cs fits none) refl
      | inr other ↦
          let same = begins-edited put at line cs fits in
          rw (other, same) (rw other at stays)
    ]

-- what goes still goes
gone-splice : (put : Put) (at c n : ℕ) (cs : List ℕ) → (c == backslash) ≡ true → gone_length c cs ≡ suc n
    → gone_length c (edited_from put n at cs) ≡ suc n
unfolding gone_length edited_from
gone-splice put at c n [] splice goes = let contra = rw splice at goes in absurd cc
gone-splice put at c n (d ∷ ds) splice goes =
    elim (cases_Bool (d == line_feed)) [
      | inl ends ↦
          let one : suc n ≡ 2 = sym (rw (splice, ends) at goes) in
          let count : n ≡ 1 = omega arith in
          rw (count, splice, ends) refl
      | inr on ↦ elim (cases_Bool (d == carriage_return && begins line_feed ds)) [
        | inr none ↦ let contra = rw (splice, on, none) at goes in absurd (omega arith)
        | inl both ↦
            let two : suc n ≡ 3 = sym (rw (splice, on, both) at goes) in
            let count : n ≡ 2 = omega arith in
            let parts = and_parts (d == carriage_return) (begins line_feed ds) both in
            rw (count, splice) (new_line-pair put at d ds on parts.0 parts.1)
      ]
    ]

gone-return : (put : Put) (before : Bool) (at line c n : ℕ) (cs : List ℕ) → (c == backslash) ≡ false → gone_length c cs ≡ suc n
    → Fits put before at (bytes_in (lined_from n line cs)) → gone_length c (edited_from put n at cs) ≡ suc n
unfolding gone_length
gone-return put before at line c n cs other goes fits =
    elim (cases_Bool (c == carriage_return && begins line_feed cs)) [
      | inr none ↦ let contra = rw (other, none) at goes in absurd (omega arith)
      | inl both ↦
          let one : suc n ≡ 1 = sym (rw (other, both) at goes) in
          let count : n ≡ 0 = omega arith in
          let parts = and_parts (c == carriage_return) (begins line_feed cs) both in
          let begins_now = begins-return put before at line cs parts.1 (rw count at fits) in
          rw (count, other, parts.0, begins_now) refl
    ]

gone-goes : (put : Put) (before : Bool) (at line c n : ℕ) (cs : List ℕ) → gone_length c cs ≡ suc n
    → Fits put before at (bytes_in (lined_from n line cs)) → gone_length c (edited_from put n at cs) ≡ suc n
gone-goes put before at line c n cs goes fits =
    elim (cases_Bool (c == backslash)) [
      | inl splice ↦ gone-splice put at c n cs splice goes
      | inr other ↦ gone-return put before at line c n cs other goes fits
    ]

-- words on a line
lined-words : (line : ℕ) (ws cs : List ℕ) → list_all is_word ws ≡ true → lined_from 0 line (ws ++ cs) ≡ put_on ws line ++ lined_from 0 line cs
lined-words line [] cs words = refl
lined-words line (w ∷ ws) cs words =
    let parts = and_parts (is_word w) (list_all is_word ws) words in
    lined_from-stays line w (ws ++ cs) (gone-word w (ws ++ cs) parts.0)
    ∙ rw (word-line w parts.0) (ap (λ (zs : List Lined). on_line w line ∷ zs) (lined-words line ws cs parts.1))

-- a character that stays, and what stands for it
edited-stays : (put : Put) (before : Bool) (at line c : ℕ) (cs : List ℕ) → gone_length c cs ≡ 0 → FitsAt put before at c
    → Fits put (is_word c) (at + 1) (bytes_in (lined_from 0 (line_after c line) cs))
    → lined_from 0 (line_after c line) (edited_from put 0 (at + 1) cs) ≡ respell_lined put (at + 1) (lined_from 0 (line_after c line) cs)
    → lined_from 0 line (put at c ++ edited_from put 0 (at + 1) cs)
    ≡ put_on (put at c) line ++ respell_lined put (at + 1) (lined_from 0 (line_after c line) cs)
edited-stays put before at line c cs stays (kept is) fits later =
    let now = edited_from put 0 (at + 1) cs in
    let again : gone_length c now ≡ 0 = elim (cases_Bool (is_word c)) [
      | inl word ↦ gone-word c now word
      | inr plain ↦ gone-kept put (at + 1) (line_after c line) c cs plain stays (rw plain at fits)
    ] in
    rw is (lined_from-stays line c now again ∙ ap (λ (zs : List Lined). on_line c line ∷ zs) later)
edited-stays put before at line c cs stays (named letter is) fits later =
    let words = lined-words line (put at c) (edited_from put 0 (at + 1) cs) (identifier-words (put at c) is) in
    let line_same = rw (word-line c (nondigit-word c letter)) at later in
    words ∙ ap (λ (zs : List Lined). put_on (put at c) line ++ zs) (rw (word-line c (nondigit-word c letter)) line_same)
edited-stays put before at line c cs stays (inner behind word is) fits later =
    let words = lined-words line (put at c) (edited_from put 0 (at + 1) cs) is in
    let line_same = rw (word-line c word) at later in
    words ∙ ap (λ (zs : List Lined). put_on (put at c) line ++ zs) (rw (word-line c word) line_same)

-- bytes that go, and what stands for those behind them
edited-goes : (put : Put) (at line c n : ℕ) (cs : List ℕ) → gone_length c (edited_from put n at cs) ≡ suc n
    → lined_from n (line_after c line) (edited_from put n at cs) ≡ respell_lined put at (lined_from n (line_after c line) cs)
    → lined_from 0 line (c ∷ edited_from put n at cs) ≡ respell_lined put at (lined_from n (line_after c line) cs)
edited-goes put at line c n cs again later =
    let goes : (gone_length c (edited_from put n at cs) == 0) ≡ false = rw again (ne_eqb (suc n) 0 (λ e. omega arith)) in
    let left : gone_length c (edited_from put n at cs) - 1 ≡ n = omega arith in
    lined_from-goes line c (edited_from put n at cs) goes
    ∙ rw left later

-- the characters of the edited bytes
edited-lined : (put : Put) (skip : ℕ) (before : Bool) (at line : ℕ) (bs : List ℕ) → Fits put before at (bytes_in (lined_from skip line bs))
    → lined_from skip line (edited_from put skip at bs) ≡ respell_lined put at (lined_from skip line bs)
unfolding lined_from edited_from
edited-lined put zero before at line [] fits = refl
edited-lined put (suc skip) before at line [] fits = refl
edited-lined put (suc skip) before at line (c ∷ cs) fits = edited-lined put skip before at (line_after c line) cs fits
edited-lined put zero before at line (c ∷ cs) fits =
    elim (cases_Bool (gone_length c cs == 0)) [
      | inl stays ↦
          let none = eqb-true (gone_length c cs) 0 stays in
          let both = rw stays at fits in
          let later = edited-lined put 0 (is_word c) (at + 1) (line_after c line) cs both.1 in
          rw stays (edited-stays put before at line c cs none both.0 both.1 later)
      | inr goes ↦
          let n = gone_length c cs - 1 in
          let some = eqb-false (gone_length c cs) 0 goes in
          let size : gone_length c cs ≡ suc n = omega arith in
          let left : Fits put before at (bytes_in (lined_from n (line_after c line) cs)) = rw goes at fits in
          let again = gone-goes put before at (line_after c line) c n cs size left in
          let later = edited-lined put n before at (line_after c line) cs left in
          rw goes (edited-goes put at line c n cs again later)
    ]

-- The edited file.

tokens_in-moved : (put : Put) (file : ℕ) (text : List ℕ) (found : List Found)
    → tokens_in (map (respelled_found put file text) found) ≡ map (respelled_token put file text) (tokens_in found)
tokens_in-moved put file text [] = refl
tokens_in-moved put file text (FoundToken t first ∷ found) =
    ap (λ (ts : List Token). respelled_token put file text t ∷ ts) (tokens_in-moved put file text found)
tokens_in-moved put file text (FoundOpen at ∷ found) = tokens_in-moved put file text found

firsts_in-moved : (put : Put) (file : ℕ) (text : List ℕ) (found : List Found)
    → firsts_in (map (respelled_found put file text) found) ≡ firsts_in found
firsts_in-moved put file text [] = refl
firsts_in-moved put file text (FoundToken t first ∷ found) = ap (λ (fs : List Bool). first ∷ fs) (firsts_in-moved put file text found)
firsts_in-moved put file text (FoundOpen at ∷ found) = firsts_in-moved put file text found

open_in-moved : (put : Put) (file : ℕ) (text : List ℕ) (found : List Found)
    → open_in (map (respelled_found put file text) found) ≡ option_map (moved put text) (open_in found)
open_in-moved put file text [] = refl
open_in-moved put file text (FoundToken t first ∷ found) = open_in-moved put file text found
open_in-moved put file text (FoundOpen at ∷ found) = refl

lined-whole : (bytes : List ℕ) → lined bytes (logical_of bytes) ≡ lined_from 0 1 bytes
unfolding logical_of
lined-whole bytes = lined-from bytes 0 0 bytes refl

pub found_of-edited : (put : Put) (file : ℕ) (bytes : List ℕ) → KeepsPieces put bytes
    → found_of file (edited put bytes) ≡ map (respelled_found put file (spelling (logical_of bytes))) (found_of file bytes)
unfolding found_of edited
found_of-edited put file bytes keeps =
    let now = edited_from put 0 0 bytes in
    let text : bytes_in (lined_from 0 1 bytes) ≡ spelling (logical_of bytes) =
    ap bytes_in (sym (lined-whole bytes)) ∙ bytes_in-lined bytes (logical_of bytes) in
    let kept_pieces : keeps_pieces put 0 Nothing 0 (bytes_in (lined_from 0 1 bytes)) ≡ true = rw text keeps in
    let fits = keeps-fits put Nothing 0 (bytes_in (lined_from 0 1 bytes)) kept_pieces in
    found_from-lined file now 0 true Nothing 0 (logical_of now)
    ∙ ap (found_lined file 0 true Nothing 0) (lined-whole now ∙ edited-lined put 0 false 0 1 bytes fits)
    ∙ found-edited put file true Nothing (lined_from 0 1 bytes) kept_pieces
    ∙ rw (text, ← lined-whole bytes) (ap (map (respelled_found put file (spelling (logical_of bytes))))
    (sym (found_from-lined file bytes 0 true Nothing 0 (logical_of bytes))))

-- the edited file has the old tokens
pub edit_keeps_tokens : EditKeepsTokens
unfolding tokens_of firsts_of open_comment_of
edit_keeps_tokens file bytes put keeps =
    let text = spelling (logical_of bytes) in (
      ap tokens_in (found_of-edited put file bytes keeps) ∙ tokens_in-moved put file text (found_of file bytes),
      ap firsts_in (found_of-edited put 0 bytes keeps) ∙ firsts_in-moved put 0 text (found_of 0 bytes),
      ap open_in (found_of-edited put 0 bytes keeps) ∙ open_in-moved put 0 text (found_of 0 bytes),
    )
