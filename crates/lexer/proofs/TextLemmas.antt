-- What a text of a file is, once there is one.
use Rattle.std.proofs.Common.{◌≡◌, ℕ, zero, suc, ◌<◌, ◌≤◌, ◌^◌, true, false, nat_lt, List, length, Option, Some, None, Ok, Err, IfSome, inl, inr, refl, sym, ap, ◌∙◌}
use Rattle.std.specs.Option.{option_and_then}
use Rattle.std.proofs.lemmas.Bool.{cases_Bool, le-ltb, lt-ltb, ltb-true}
use Rattle.cs_base.specs.Limits.{most_bytes}
use Rattle.lexer.specs.declared.refusal.LexRefusal.{LexRefusal}
use Rattle.lexer.specs.declared.refusal.LexRefusal.TheVariants as refused
use Rattle.lexer.specs.Refusal.{fault_of}
use Rattle.lexer.specs.Scan.{ScanRefused}
use Rattle.lexer.specs.Logical.{logical_of}
use Rattle.lexer.specs.Tokens.{tokens_of, firsts_of, open_comment_of}
use Rattle.lexer.specs.Lines.{place_of_byte, byte_at_place, byte_offset_of, line_column_of, index_in, offset_of}
use Rattle.lexer.specs.LineTable.{line_starts, place_in}
use Rattle.lexer.specs.GoneTable.{gone_of, marks_of, byte_in, character_in}
use Rattle.lexer.specs.FileText.{TextValue, FileTooLarge, open_at, text_value, text_or_open, file_text, byte_at, place_at, place_byte, offset_at}
use Rattle.lexer.proofs.LineLemmas.{place_of_byte-table, byte_at_place-table, byte_at_place-within}
use Rattle.lexer.proofs.GoneLemmas.{byte_offset_of-table, byte_in-within, index_in-table}

-- a file that is not too large has a text, or a comment without end
pub file_text-small : (file : ℕ) (bytes : List ℕ) → length bytes ≤ 2 ^ 22
    → file_text file bytes ≡ text_or_open file bytes (open_comment_of bytes)
unfolding file_text
file_text-small file bytes small =
    let fits : nat_lt most_bytes (length bytes) ≡ false = le-ltb most_bytes (length bytes) small in rw fits refl

pub file_text-ok : (file : ℕ) (bytes : List ℕ) → length bytes ≤ 2 ^ 22 → open_comment_of bytes ≡ None
    → file_text file bytes ≡ Ok (text_value file bytes)
file_text-ok file bytes small closed = file_text-small file bytes small ∙ ap (text_or_open file bytes) closed

pub file_text-open : (file : ℕ) (bytes : List ℕ) (at line column : ℕ) → length bytes ≤ 2 ^ 22 → open_comment_of bytes ≡ Some at
    → line_column_of bytes at ≡ Some (line, column) → file_text file bytes ≡ Err (open_at at (line, column))
file_text-open file bytes at line column small opens place =
    file_text-small file bytes small ∙ ap (text_or_open file bytes) opens ∙ rw place refl

pub file_text-too_large : (file : ℕ) (bytes : List ℕ) → 2 ^ 22 < length bytes
    → file_text file bytes ≡ Err FileTooLarge
unfolding file_text
file_text-too_large file bytes large =
    let over : nat_lt most_bytes (length bytes) ≡ true = lt-ltb most_bytes (length bytes) large in rw over refl

-- what the walk refuses has no text
pub file_text-refused : (file : ℕ) (bytes : List ℕ) (refusal : LexRefusal) → length bytes ≤ 2 ^ 22 → ScanRefused bytes refusal
    → IfSome (fault_of refusal) (λ fault. file_text file bytes ≡ Err fault)
file_text-refused file bytes refused.FileTooLarge small is = absurd is
file_text-refused file bytes (refused.OpenComment at line column) small is =
    file_text-open file bytes at line column small is.open_comment is.place
file_text-refused file bytes refused.Memory small is = tt

-- a text comes from a file that has no comment without end
open-text : (file : ℕ) (bytes : List ℕ) (text : TextValue) (x : Option ℕ) → text_or_open file bytes x ≡ Ok text → text ≡ text_value file bytes
open-text file bytes text None is = cc
open-text file bytes text (Some at) is = absurd cc

-- a text of a file is the one text of it
pub file_text-is : (file : ℕ) (bytes : List ℕ) (text : TextValue) → file_text file bytes ≡ Ok text → text ≡ text_value file bytes
unfolding file_text
file_text-is file bytes text is =
    elim (cases_Bool (nat_lt most_bytes (length bytes))) [
      | inl large ↦ let no_text = rw large at is in absurd cc
      | inr small ↦ open-text file bytes text (open_comment_of bytes) (rw small at is)
    ]

text_value-toks : (file : ℕ) (bytes : List ℕ) → (text_value file bytes).toks ≡ tokens_of file bytes
unfolding text_value
text_value-toks file bytes = refl

text_value-firsts : (file : ℕ) (bytes : List ℕ) → (text_value file bytes).firsts ≡ firsts_of bytes
unfolding text_value
text_value-firsts file bytes = refl

text_value-byte : (file : ℕ) (bytes : List ℕ) (at : ℕ) → byte_at (text_value file bytes) at ≡ byte_offset_of bytes at
unfolding text_value
text_value-byte file bytes at = sym (byte_offset_of-table bytes at)

-- places of offsets that are within the file
places : (bytes : List ℕ) (b : ℕ) → b < length bytes → place_of_byte bytes b ≡ Some (place_in (line_starts bytes) b)
places bytes b within =
    let fits : nat_lt b (length bytes) ≡ true = lt-ltb b (length bytes) within in
    place_of_byte-table bytes b ∙ rw fits refl

text_value-place : (file : ℕ) (bytes : List ℕ) (at : ℕ) → place_at (text_value file bytes) at ≡ line_column_of bytes at
unfolding text_value line_column_of
text_value-place file bytes at =
    elim (cases_Bool (nat_lt at (length (logical_of bytes)))) [
      | inl within ↦
          let inside = byte_in-within bytes at (ltb-true at (length (logical_of bytes)) within) in
          rw (byte_offset_of-table bytes at, within) (sym (places bytes (byte_in (marks_of bytes) at) inside))
      | inr past ↦ rw (byte_offset_of-table bytes at, past) refl
    ]

-- the character at an offset of the file, if there is an offset
text-index : (bytes : List ℕ) (x : Option ℕ) → IfSome x (λ b. b < length bytes)
    → option_and_then (character_in (gone_of bytes)) x ≡ option_and_then (index_in (logical_of bytes)) x
text-index bytes None within = refl
text-index bytes (Some b) within = sym (index_in-table bytes b within)

text_value-place_byte : (file : ℕ) (bytes : List ℕ) (line column : ℕ)
    → place_byte (text_value file bytes) line column ≡ byte_at_place bytes line column
unfolding text_value byte_at_place
text_value-place_byte file bytes zero column = refl
text_value-place_byte file bytes (suc lines) zero = refl
text_value-place_byte file bytes (suc lines) (suc n) = sym (byte_at_place-table bytes lines n)

text_value-gone : (file : ℕ) (bytes : List ℕ) → (text_value file bytes).gone ≡ gone_of bytes
unfolding text_value
text_value-gone file bytes = refl

text_value-offset : (file : ℕ) (bytes : List ℕ) (line column : ℕ)
    → offset_at (text_value file bytes) line column ≡ offset_of bytes line column
unfolding offset_of
text_value-offset file bytes line column =
    rw (text_value-gone file bytes, text_value-place_byte file bytes line column)
    (text-index bytes (byte_at_place bytes line column) (byte_at_place-within bytes line column))

-- the tokens of a file that has a text
pub file_text-toks : (file : ℕ) (bytes : List ℕ) (text : TextValue) → file_text file bytes ≡ Ok text → text.toks ≡ tokens_of file bytes
file_text-toks file bytes text is =
    ap (λ (t : TextValue). t.toks) (file_text-is file bytes text is) ∙ text_value-toks file bytes

-- for each of them, whether it is the first of its line
pub file_text-firsts : (file : ℕ) (bytes : List ℕ) (text : TextValue) → file_text file bytes ≡ Ok text → text.firsts ≡ firsts_of bytes
file_text-firsts file bytes text is =
    ap (λ (t : TextValue). t.firsts) (file_text-is file bytes text is) ∙ text_value-firsts file bytes

-- the byte at which a character of it stands
pub file_text-byte : (file : ℕ) (bytes : List ℕ) (text : TextValue) → file_text file bytes ≡ Ok text
    → (at : ℕ) → byte_at text at ≡ byte_offset_of bytes at
file_text-byte file bytes text is at =
    ap (λ (t : TextValue). byte_at t at) (file_text-is file bytes text is) ∙ text_value-byte file bytes at

-- the line and the column of a character of it
pub file_text-place : (file : ℕ) (bytes : List ℕ) (text : TextValue) → file_text file bytes ≡ Ok text
    → (at : ℕ) → place_at text at ≡ line_column_of bytes at
file_text-place file bytes text is at =
    ap (λ (t : TextValue). place_at t at) (file_text-is file bytes text is) ∙ text_value-place file bytes at

-- the character at a line and a column of it
pub file_text-offset : (file : ℕ) (bytes : List ℕ) (text : TextValue) → file_text file bytes ≡ Ok text
    → (line column : ℕ) → offset_at text line column ≡ offset_of bytes line column
file_text-offset file bytes text is line column =
    ap (λ (t : TextValue). offset_at t line column) (file_text-is file bytes text is)
    ∙ text_value-offset file bytes line column
