use Rattle.std.proofs.Common.{◌≡◌, ℕ, ◌+◌, List, [], ◌∷◌, take, drop, length, ap, sym, ◌∙◌, refl, arith}
use Rattle.std.specs.List.{prefix_len}
use Rattle.std.proofs.lemmas.List.{drop-drop}
use Rattle.cs_base.proofs.ListLemmas.{prefix_len_le}
use Rattle.batch_run.specs.Taking.{is_no_feed}
use Rattle.ws_file.proofs.LineLemmas.{lines_of-first}
use Rattle.batch_run.proofs.line_parts.first_line.Goals as goal

-- what follows the first line, from what is left behind it
after_feed : (bytes after more : List ℕ) (n b : ℕ) → after ≡ drop n bytes → after ≡ b ∷ more → drop (n + 1) bytes ≡ more
after_feed bytes after more n b cut found = sym (drop-drop 1 n bytes) ∙ ap (λ (rest : List ℕ). drop 1 rest) (sym cut ∙ found)

empty : (bytes : List ℕ) → length bytes ≡ 0 → bytes ≡ []
empty [] none = refl
empty (b ∷ bytes) none = absurd (omega arith)

after_end : (bytes after : List ℕ) (n : ℕ) → after ≡ drop n bytes → after ≡ [] → drop (n + 1) bytes ≡ []
after_end bytes after n cut found = sym (drop-drop 1 n bytes) ∙ ap (λ (rest : List ℕ). drop 1 rest) (sym cut ∙ found)

pub split_at-requires : goal.split_at-requires
split_at-requires c = rw c.line_len.ensures (prefix_len_le is_no_feed c.args.bytes.now)

pub returns-in-Some-clause-lines : goal.returns-in-Some-clause-lines
returns-in-Some-clause-lines c =
    let bytes = c.args.bytes.now in
    let n = prefix_len is_no_feed bytes in
    let front : c.split_at.result.0.now ≡ take n bytes = rw c.split_at.ensures.front (rw c.line_len.ensures refl) in
    let cut : c.split_at.result.1.now ≡ drop n bytes = rw c.split_at.ensures.back (rw c.line_len.ensures refl) in
    let rest = after_feed bytes _ _ n _ cut c.in-Some.ensures.cases.0 in
    lines_of-first bytes c.requires ∙ rw (front, rest) refl

pub returns-in-None-clause-lines : goal.returns-in-None-clause-lines
returns-in-None-clause-lines c =
    let bytes = c.args.bytes.now in
    let n = prefix_len is_no_feed bytes in
    let front : c.split_at.result.0.now ≡ take n bytes = rw c.split_at.ensures.front (rw c.line_len.ensures refl) in
    let cut : c.split_at.result.1.now ≡ drop n bytes = rw c.split_at.ensures.back (rw c.line_len.ensures refl) in
    let rest = after_end bytes _ n cut (empty _ c.in-None.ensures.cases) in
    lines_of-first bytes c.requires ∙ rw (front, rest) (rw (empty _ c.in-None.ensures.cases) refl)
