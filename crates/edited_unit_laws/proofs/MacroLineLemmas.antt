-- Macro definitions under a renaming.
use Rattle.std.proofs.Common.{◌≡◌, ℕ, Bool, true, false, ◌&&◌, cond, List, [], ◌∷◌, map, Option, Some, None, codes, inl, inr, refl, ap}
use Rattle.std.specs.List.{list_any, filter}
use Rattle.std.specs.Option.{option_map}
use Rattle.std.specs.Str.{bytes_eq}
use Rattle.std.proofs.lemmas.Bool.{cases_Bool}
use Rattle.cs_base.specs.declared.tokens.Kind.{Kind}
use Rattle.cs_base.specs.declared.tokens.Kind.TheVariants.{Ident, Number, Char, Str, Punct, Other, Header}
use Rattle.cs_base.specs.Token.{Token}
use Rattle.line_shape.specs.Signs.{is_punctuator, is_name, is_sign, is_hash, is_paste, is_open, is_close, is_comma, is_ellipsis}
use Rattle.line_shape.specs.MacroLine.{MacroParts, macro, spellings, is_function_like, before_close, behind_close, is_parameter, is_end, is_identifier_list, ends_in_rest, has_named_rest, has_plain_rest, params_in, are_distinct, is_parameter_list, function_macro, macro_of}
use Rattle.macro_expand.specs.Renaming.{Renaming, spelled, renamed, renamed_macro}
use Rattle.macro_body.specs.Defining.{definition_of}
use Rattle.edited_unit_laws.specs.Lines.{Each, is_fixed, KeepsToken, NamesAsBefore, KeepsParameters, DefinitionsAreRenamed}

-- the parts of a definition, renamed
abbrev pub renamed_parts : Renaming → MacroParts → MacroParts
renamed_parts r m = macro m.function (map (renamed r) m.params) m.variadic m.named (map (renamed r) m.body)

-- ---- signs

sign-text : (kind : Kind) (x y spelling : List ℕ) → (is_fixed kind ≡ true → x ≡ y)
    → (is_punctuator kind && bytes_eq x spelling) ≡ (is_punctuator kind && bytes_eq y spelling)
sign-text Ident x y spelling same = refl
sign-text Number x y spelling same = refl
sign-text Char x y spelling same = refl
sign-text Str x y spelling same = refl
sign-text Punct x y spelling same = ap (λ (text : List ℕ). bytes_eq text spelling) (same refl)
sign-text Other x y spelling same = refl
sign-text Header x y spelling same = refl

pub sign-kept : (r : Renaming) (spelling : List ℕ) (t : Token) → KeepsToken r t → is_sign spelling (renamed r t) ≡ is_sign spelling t
sign-kept r spelling t kept = sign-text t.kind (spelled r t) t.text spelling kept.others

pub hash-kept : (r : Renaming) (t : Token) → KeepsToken r t → is_hash (renamed r t) ≡ is_hash t
unfolding is_hash
hash-kept r t kept = rw (sign-kept r (codes "#") t kept, sign-kept r (codes "%:") t kept) refl

pub paste-kept : (r : Renaming) (t : Token) → KeepsToken r t → is_paste (renamed r t) ≡ is_paste t
unfolding is_paste
paste-kept r t kept = rw (sign-kept r (codes "##") t kept, sign-kept r (codes "%:%:") t kept) refl

pub open-kept : (r : Renaming) (t : Token) → KeepsToken r t → is_open (renamed r t) ≡ is_open t
unfolding is_open
open-kept r t kept = sign-kept r (codes "(") t kept

pub close-kept : (r : Renaming) (t : Token) → KeepsToken r t → is_close (renamed r t) ≡ is_close t
unfolding is_close
close-kept r t kept = sign-kept r (codes ")") t kept

comma-kept : (r : Renaming) (t : Token) → KeepsToken r t → is_comma (renamed r t) ≡ is_comma t
unfolding is_comma
comma-kept r t kept = sign-kept r (codes ",") t kept

ellipsis-kept : (r : Renaming) (t : Token) → KeepsToken r t → is_ellipsis (renamed r t) ≡ is_ellipsis t
unfolding is_ellipsis
ellipsis-kept r t kept = sign-kept r (codes "...") t kept

-- ---- lists

pub any-kept : (r : Renaming) (test : Token → Bool) (ts : List Token) → Each (λ t. test (renamed r t) ≡ test t) ts
    → list_any test (map (renamed r) ts) ≡ list_any test ts
any-kept r test [] same = refl
any-kept r test (t ∷ ts) same = rw (same.0, any-kept r test ts same.1) refl

pub all-weaker : (P Q : Token → Type 0) (ts : List Token) → ((t : Token) → P t → Q t) → Each P ts → Each Q ts
all-weaker P Q [] weaker all = tt
all-weaker P Q (t ∷ ts) weaker all = (weaker t all.0, all-weaker P Q ts weaker all.1)

cond-map : (r : Renaming) (b : Bool) (t : Token) (ps : List Token)
    → cond b (renamed r t ∷ map (renamed r) ps) (map (renamed r) ps) ≡ map (renamed r) (cond b (t ∷ ps) ps)
cond-map r true t ps = refl
cond-map r false t ps = refl

names-renamed : (r : Renaming) (ts : List Token) → params_in (map (renamed r) ts) ≡ map (renamed r) (params_in ts)
names-renamed r [] = refl
names-renamed r (t ∷ ts) = rw (names-renamed r ts) (cond-map r (is_name t) t (params_in ts))

before-renamed : (r : Renaming) (ts : List Token) → Each (KeepsToken r) ts → before_close (map (renamed r) ts) ≡ map (renamed r) (before_close ts)
before-renamed r [] all = refl
before-renamed r (t ∷ ts) all =
    rw (close-kept r t all.0, before-renamed r ts all.1) (elim (cases_Bool (is_close t)) [
      | inl closes ↦ rw closes refl
      | inr on ↦ rw on refl
    ])

behind-renamed : (r : Renaming) (ts : List Token) → Each (KeepsToken r) ts → behind_close (map (renamed r) ts) ≡ option_map (map (renamed r)) (behind_close ts)
behind-renamed r [] all = refl
behind-renamed r (t ∷ ts) all =
    rw (close-kept r t all.0, behind-renamed r ts all.1) (elim (cases_Bool (is_close t)) [
      | inl closes ↦ rw closes refl
      | inr on ↦ rw on refl
    ])

all-before : (P : Token → Type 0) (ts : List Token) → Each P ts → Each P (before_close ts)
all-before P [] all = tt
all-before P (t ∷ ts) all =
    elim (cases_Bool (is_close t)) [
      | inl closes ↦ rw closes tt
      | inr on ↦ rw on (all.0, all-before P ts all.1)
    ]

each-filter : (P : Token → Type 0) (test : Token → Bool) (ts : List Token) → Each P ts → Each P (filter test ts)
each-filter P test [] all = tt
each-filter P test (t ∷ ts) all =
    elim (cases_Bool (test t)) [
      | inl passes ↦ rw passes (all.0, each-filter P test ts all.1)
      | inr fails ↦ rw fails (each-filter P test ts all.1)
    ]

passes-filter : (test : Token → Bool) (ts : List Token) → Each (λ t. test t ≡ true) (filter test ts)
passes-filter test [] = tt
passes-filter test (t ∷ ts) =
    elim (cases_Bool (test t)) [
      | inl passes ↦ rw passes (passes, passes-filter test ts)
      | inr fails ↦ rw fails (passes-filter test ts)
    ]

pub all-params : (P : Token → Type 0) (ts : List Token) → Each P ts → Each P (params_in (before_close ts))
all-params P ts all = each-filter P is_name (before_close ts) (all-before P ts all)

-- ---- parameter lists

parameter-kept : (r : Renaming) (t : Token) → KeepsToken r t → is_parameter (renamed r t) ≡ is_parameter t
parameter-kept r t kept = rw kept.rest refl

end-kept : (r : Renaming) (ts : List Token) → is_end (map (renamed r) ts) ≡ is_end ts
end-kept r [] = refl
end-kept r (t ∷ ts) = refl

list-kept : (r : Renaming) (ts : List Token) → Each (KeepsToken r) ts → is_identifier_list (map (renamed r) ts) ≡ is_identifier_list ts
list-kept r [] all = refl
list-kept r (t ∷ []) all = rw (parameter-kept r t all.0, ellipsis-kept r t all.0) refl
list-kept r (t ∷ comma ∷ ts) all =
    rw (parameter-kept r t all.0, comma-kept r comma all.1.0, list-kept r ts all.1.1, ellipsis-kept r comma all.1.0, end-kept r ts) refl

-- a spelling among those of parameters
pub among-kept : (r : Renaming) (t : Token) (ps : List Token) → is_name t ≡ true → Each (λ p. NamesAsBefore r p t) ps
    → list_any (bytes_eq (spelled r t)) (spellings (map (renamed r) ps)) ≡ list_any (bytes_eq t.text) (spellings ps)
among-kept r t [] named same = refl
among-kept r t (p ∷ ps) named same = rw (same.0 named, among-kept r t ps named same.1) refl

-- the first of the tokens, seen from each of these
heads : (r : Renaming) (t : Token) (ts ps : List Token) → Each (λ p. Each (λ u. NamesAsBefore r p u) (t ∷ ts)) ps → Each (λ p. NamesAsBefore r p t) ps
heads r t ts ps same = all-weaker (λ p. Each (λ u. NamesAsBefore r p u) (t ∷ ts)) (λ p. NamesAsBefore r p t) ps (λ p all. all.0) same

distinct-kept : (r : Renaming) (ps : List Token) → Each (λ p. is_name p ≡ true) ps → Each (λ p. Each (λ t. NamesAsBefore r p t) ps) ps
    → are_distinct (spellings (map (renamed r) ps)) ≡ are_distinct (spellings ps)
distinct-kept r [] named same = refl
distinct-kept r (p ∷ ps) named same =
    let tails = all-weaker (λ q. Each (λ u. NamesAsBefore r q u) (p ∷ ps)) (λ q. Each (λ u. NamesAsBefore r q u) ps) ps (λ q all. all.1) same.1 in
    rw (among-kept r p ps named.0 (heads r p ps ps same.1), distinct-kept r ps named.1 tails) refl

-- the parameters of a function-like macro, seen from each other
seen : (r : Renaming) (t : Token) (ts ps : List Token) → Each (λ p. Each (λ u. NamesAsBefore r p u) (t ∷ ts)) ps
    → Each (λ p. Each (λ u. NamesAsBefore r p u) (params_in (before_close ts))) ps
seen r t ts ps same =
    all-weaker (λ p. Each (λ u. NamesAsBefore r p u) (t ∷ ts)) (λ p. Each (λ u. NamesAsBefore r p u) (params_in (before_close ts))) ps
    (λ p all. all-params (λ u. NamesAsBefore r p u) ts all.1) same

parameter_list-kept : (r : Renaming) (list : List Token) → Each (KeepsToken r) list → Each (λ p. Each (λ u. NamesAsBefore r p u) (params_in list)) (params_in list)
    → is_parameter_list (map (renamed r) list) ≡ is_parameter_list list
parameter_list-kept r [] kept same = refl
parameter_list-kept r (t ∷ ts) kept same =
    rw (
      list-kept r (t ∷ ts) kept,
      names-renamed r (t ∷ ts),
      distinct-kept r (params_in (t ∷ ts)) (passes-filter is_name (t ∷ ts)) same,
    ) refl

-- ---- definitions

ellipses-kept : (r : Renaming) (list : List Token) → Each (KeepsToken r) list → list_any is_ellipsis (map (renamed r) list) ≡ list_any is_ellipsis list
ellipses-kept r list kept = any-kept r is_ellipsis list (all-weaker (KeepsToken r) (λ t. is_ellipsis (renamed r t) ≡ is_ellipsis t) list (ellipsis-kept r) kept)

rest-kept : (r : Renaming) (behind : Bool) (ts : List Token) → Each (KeepsToken r) ts → ends_in_rest behind (map (renamed r) ts) ≡ ends_in_rest behind ts
rest-kept r behind [] all = refl
rest-kept r behind (t ∷ []) all = ap (λ b. b && behind) (ellipsis-kept r t all.0)
rest-kept r behind (t ∷ u ∷ ts) all = rest-kept r (is_name t) (u ∷ ts) all.1

some-cond : (r : Renaming) (b : Bool) (m : MacroParts)
    → cond b (Some (renamed_parts r m)) None ≡ option_map (renamed_parts r) (cond b (Some m) None)
some-cond r true m = refl
some-cond r false m = refl

function-renamed : (r : Renaming) (list : List Token) (body : Option (List Token)) → Each (KeepsToken r) list
    → Each (λ p. Each (λ u. NamesAsBefore r p u) (params_in list)) (params_in list)
    → function_macro (map (renamed r) list) (option_map (map (renamed r)) body) ≡ option_map (renamed_parts r) (function_macro list body)
function-renamed r list None kept same = refl
function-renamed r list (Some body) kept same =
    rw (parameter_list-kept r list kept same, names-renamed r list, ellipses-kept r list kept, rest-kept r false list kept)
    (some-cond r (is_parameter_list list) (macro true (params_in list) (has_plain_rest list) (has_named_rest list) body))

function_like-kept : (r : Renaming) (toks : List Token) → Each (KeepsToken r) toks → is_function_like (map (renamed r) toks) ≡ is_function_like toks
function_like-kept r [] kept = refl
function_like-kept r (t ∷ ts) kept = rw (open-kept r t kept.0) refl

pub macro_of-renamed : (r : Renaming) (toks : List Token) → Each (KeepsToken r) toks → KeepsParameters r toks
    → macro_of (map (renamed r) toks) ≡ option_map (renamed_parts r) (macro_of toks)
unfolding macro_of
macro_of-renamed r [] kept same = refl
macro_of-renamed r (t ∷ ts) kept same =
    elim (cases_Bool (is_function_like (t ∷ ts))) [
      | inl function ↦
          let asked : Each (λ p. Each (λ u. NamesAsBefore r p u) (t ∷ ts)) (params_in (before_close ts)) = rw function at same in
          let each = seen r t ts (params_in (before_close ts)) asked in
          rw (function_like-kept r (t ∷ ts) kept, function, before-renamed r ts kept.1, behind-renamed r ts kept.1)
          (function-renamed r (before_close ts) (behind_close ts) (all-before (KeepsToken r) ts kept.1) each)
      | inr object ↦ rw (function_like-kept r (t ∷ ts) kept, object) refl
    ]

named-renamed : (r : Renaming) (name : Token) (m : Option MacroParts)
    → option_map (definition_of (renamed r name)) (option_map (renamed_parts r) m) ≡ option_map (renamed_macro r) (option_map (definition_of name) m)
named-renamed r name None = refl
named-renamed r name (Some m) = refl

pub definitions_are_renamed : DefinitionsAreRenamed
definitions_are_renamed r [] kept same = refl
definitions_are_renamed r (hash ∷ []) kept same = refl
definitions_are_renamed r (hash ∷ word ∷ []) kept same = refl
definitions_are_renamed r (hash ∷ word ∷ name ∷ toks) kept same =
    rw (macro_of-renamed r toks kept.1.1.1 same) (named-renamed r name (macro_of toks))
