-- A string has an origin, or none, for each of its characters.
use Rattle.std.proofs.Common.{◌≡◌, ℕ, suc, ◌+◌, Bool, true, false, if◌then◌else◌, List, [], ◌∷◌, ◌++◌, length, Option, Some, None, refl, sym, ap, ◌∙◌, length-append, arith}
use Rattle.std.specs.List.{flat_map}
use Rattle.cs_base.specs.declared.positions.Pos.{Pos}
use Rattle.cs_base.specs.declared.tokens.Kind.{Kind}
use Rattle.cs_base.specs.Token.{Token}
use Rattle.lexer.specs.Characters.{backslash}
use Rattle.macro_body.specs.Below.paste_origin.Strings.{space, needs_backslash, escaped, escaped_origins, origins_along, spelling_of, origins_of, later_spelling, later_origins, spellings_of, all_origins, string_text, string_origins}
use Rattle.expansion_laws.proofs.ListLemmas.{AllToks}

-- an origin, or none, for each character
abbrev pub IsEach : Token → Type 0
IsEach t = length t.origins ≡ length t.text

long_both : {X Y : Type 0} (xs ys : List X) (vs ws : List Y) → length xs ≡ length vs → length ys ≡ length ws → length (xs ++ ys) ≡ length (vs ++ ws)
long_both xs ys vs ws first second =
    length-append xs ys ∙ ap (λ (n : ℕ). n + length ys) first ∙ ap (λ (n : ℕ). length vs + n) second ∙ sym (length-append vs ws)

long_if : (b : Bool) (o : Option Pos) (c : ℕ) → length (if b then None ∷ o ∷ [] else o ∷ []) ≡ length (if b then backslash ∷ c ∷ [] else c ∷ [])
long_if true o c = refl
long_if false o c = refl

pub escaped_long : (kind : Kind) (c : ℕ) (o : Option Pos) → length (escaped_origins kind c o) ≡ length (escaped kind c)
escaped_long kind c o = long_if (needs_backslash kind c) o c

pub along_long : (kind : Kind) (cs : List ℕ) (os : List (Option Pos)) → length os ≡ length cs → length (origins_along kind cs os) ≡ length (flat_map (escaped kind) cs)
unfolding origins_along
along_long kind [] os same = refl
along_long kind (c ∷ cs) [] same = absurd (omega (arith, same))
along_long kind (c ∷ cs) (o ∷ os) same =
    long_both (escaped_origins kind c o) (origins_along kind cs os) (escaped kind c) (flat_map (escaped kind) cs) (escaped_long kind c o)
    (along_long kind cs os (omega (arith, same)))

either_long : {X Y : Type 0} (b : Bool) (xs zs : List X) (ys ws : List Y) → length xs ≡ length ys → length zs ≡ length ws
    → length (if b then xs else zs) ≡ length (if b then ys else ws)
either_long true xs zs ys ws h k = h
either_long false xs zs ys ws h k = k

pub later_long : (t : Token) → IsEach t → length (later_origins t) ≡ length (later_spelling t)
later_long t each =
    long_both (if t.gap then None ∷ [] else []) (origins_of t) (if t.gap then space ∷ [] else []) (spelling_of t) (either_long t.gap (None ∷ []) [] (space ∷ []) [] refl refl) (along_long t.kind t.text t.origins each)

pub laters_long : (ts : List Token) → AllToks IsEach ts → length (flat_map later_origins ts) ≡ length (flat_map later_spelling ts)
laters_long [] each = refl
laters_long (t ∷ ts) each =
    long_both (later_origins t) (flat_map later_origins ts) (later_spelling t) (flat_map later_spelling ts) (later_long t each.0) (laters_long ts each.1)

pub all_long : (ts : List Token) → AllToks IsEach ts → length (all_origins ts) ≡ length (spellings_of ts)
all_long [] each = refl
all_long (t ∷ ts) each =
    long_both (origins_of t) (flat_map later_origins ts) (spelling_of t) (flat_map later_spelling ts) (along_long t.kind t.text t.origins each.0) (laters_long ts each.1)

pub string_long : (ts : List Token) → AllToks IsEach ts → length (string_origins ts) ≡ length (string_text ts)
string_long ts each = ap suc (long_both (all_origins ts) (None ∷ []) (spellings_of ts) (_ ∷ []) (all_long ts each) refl)
