-- Kept files in which members are spelled otherwise have the renamed tokens.
use Rattle.std.proofs.Common.{◌≡◌, ℕ, ◌≤◌, Bool, true, false, cond, List, [], ◌∷◌, length, map, Option, Some, None, Result, Ok, Err, refl, ap, sym, ◌∙◌}
use Rattle.std.specs.Option.{option_map, option_and_then}
use Rattle.std.proofs.lemmas.Bool.{le-ltb}
use Rattle.cs_base.specs.Token.{Token}
use Rattle.cs_base.specs.Limits.{most_bytes}
use Rattle.lexer.specs.FileText.{TextValue, LexFault, FileTooLarge, text_value, text_or_open, file_text}
use Rattle.lexer.specs.Tokens.{tokens_of, firsts_of, open_comment_of}
use Rattle.part_respell.specs.Respelled.{respelled, moved_to}
use Rattle.macro_expand.specs.Renaming.{Renaming, renamed}
use Rattle.source_files.specs.Sources.{read_as, source_kept, source_at}
use Rattle.source_files.proofs.KeptLemmas.{read-text}
use Rattle.edited_unit_laws.specs.EditedTokens.{edited_token}
use Rattle.edited_unit_laws.specs.Lines.{Each}
use Rattle.edited_unit_laws.proofs.EditedTokenLemmas.{edited_files_keep_tokens}
use Rattle.edited_unit_laws.specs.EditedFiles.{EditedFilesAreKept, RespelledFilesAreKept}

text-same : (a b : TextValue) → ◌≡◌ {A = Result TextValue LexFault} (Ok a) (Ok b) → a ≡ b
text-same a b h = cc

-- a file that has a text has no comment without end
record HasText (n : ℕ) (bytes : List ℕ) (text : TextValue) : Type 0 where
  none : open_comment_of bytes ≡ None
  is : text_value n bytes ≡ text

open-none : (n : ℕ) (bytes : List ℕ) (text : TextValue) (o : Option ℕ) → open_comment_of bytes ≡ o → text_or_open n bytes o ≡ Ok text → HasText n bytes text
open-none n bytes text None is h = record { none = is; is = text-same (text_value n bytes) text h }
open-none n bytes text (Some at) is h = absurd (cc)

small-text : (n : ℕ) (bytes : List ℕ) (text : TextValue) (b : Bool) → cond b (Err FileTooLarge) (text_or_open n bytes (open_comment_of bytes)) ≡ Ok text → HasText n bytes text
small-text n bytes text true h = absurd (cc)
small-text n bytes text false h = open-none n bytes text (open_comment_of bytes) refl h

has-text : (n : ℕ) (bytes : List ℕ) (text : TextValue) → file_text n bytes ≡ Ok text → HasText n bytes text
unfolding file_text
has-text n bytes text h = small-text n bytes text _ h

text-of : (n : ℕ) (bytes : List ℕ) → length bytes ≤ most_bytes → open_comment_of bytes ≡ None → file_text n bytes ≡ Ok (text_value n bytes)
unfolding file_text
text-of n bytes small none = rw (le-ltb most_bytes (length bytes) small, none) refl

all-same : (r : Renaming) (edit : Token → Token) (ts : List Token) → Each (λ (t : Token). edit t ≡ renamed r t) ts → map edit ts ≡ map (renamed r) ts
all-same r edit [] h = refl
all-same r edit (t ∷ ts) h = ap (λ (u : Token). u ∷ map edit ts) h.0 ∙ ap (λ (us : List Token). renamed r t ∷ us) (all-same r edit ts h.1)

pub edited_files_are_kept : EditedFilesAreKept
unfolding text_value
edited_files_are_kept = λ c file bytes edited at h.
    let n : ℕ = file.number in
    let read : source_at c.files n ≡ read_as n file.path (file_text n bytes) = ap (option_and_then source_kept) h.old in
    let had = has-text n bytes file.text (read-text n file.path (file_text n bytes) file (sym read ∙ at)) in
    let toks : tokens_of n bytes ≡ file.text.toks = ap (λ (t : TextValue). t.toks) had.is in
    let firsts : firsts_of bytes ≡ file.text.firsts = ap (λ (t : TextValue). t.firsts) had.is in
    record {
      tokens = h.fits;
      lines = h.lines;
      text = text_value n edited;
      edited = ap (option_and_then source_kept) h.new ∙ ap (read_as n file.path) (text-of n edited h.small (h.ends had.none));
      toks = h.toks ∙ ap (map (renamed c.renaming)) toks;
      firsts = h.firsts ∙ firsts;
    }

pub respelled_files_are_kept : RespelledFilesAreKept
unfolding text_value
respelled_files_are_kept = λ c members name file bytes at h.
    let n : ℕ = file.number in
    let read : source_at c.files n ≡ read_as n file.path (file_text n bytes) = ap (option_and_then source_kept) h.old in
    let had = has-text n bytes file.text (read-text n file.path (file_text n bytes) file (sym read ∙ at)) in
    let toks : tokens_of n bytes ≡ file.text.toks = ap (λ (t : TextValue). t.toks) had.is in
    let anew = edited_files_keep_tokens members name n bytes h.pieces in
    edited_files_are_kept c file bytes (respelled members name n bytes) at
    (record {
      old = h.old;
      new = h.new;
      small = h.small;
      toks = anew.0 ∙ ap (map (edited_token members name n bytes)) toks ∙ all-same c.renaming (edited_token members name n bytes) file.text.toks h.renames
          ∙ ap (map (renamed c.renaming)) (sym toks);
      firsts = anew.1;
      ends = λ none. anew.2 ∙ ap (option_map (moved_to members name n bytes)) none;
      fits = h.fits;
      lines = h.lines;
    })
