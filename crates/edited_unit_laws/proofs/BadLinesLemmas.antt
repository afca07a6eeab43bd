-- What stands against a directive line, under a renaming.
use Rattle.std.proofs.Common.{◌≡◌, Bool, true, List, [], ◌∷◌, drop, map, Option, Some, None, is_none, inl, inr, refl}
use Rattle.std.specs.Option.{option_map}
use Rattle.std.proofs.lemmas.Bool.{cases_Bool}
use Rattle.cs_base.specs.Token.{Token}
use Rattle.line_shape.specs.declared.items.ItemKind.{ItemKind}
use Rattle.line_shape.specs.Signs.{is_name, is_paste, is_close, is_va_args, is_unfit_name}
use Rattle.line_shape.specs.Directives.{is_define}
use Rattle.line_shape.specs.MacroLine.{MacroParts, spellings, macro_of, function_macro, is_function_like, params_in, before_close, behind_close, is_parameter_list}
use Rattle.line_shape.specs.BadLines.{begins_with, ends_with, is_operand, has_lone_hash, has_bad_hash, has_end_paste, has_bad_va_args, has, is_empty, cause_on}
use Rattle.macro_expand.specs.Renaming.{Renaming, renamed}
use Rattle.edited_unit_laws.specs.Lines.{Each, KeepsToken, NamesAsBefore, KeepsParameters}
use Rattle.edited_unit_laws.proofs.MacroLineLemmas.{renamed_parts, hash-kept, paste-kept, any-kept, all-weaker, among-kept, macro_of-renamed}

-- ---- tests of a list

begins-kept : (r : Renaming) (test : Token → Bool) (ts : List Token) → Each (λ t. test (renamed r t) ≡ test t) ts
    → begins_with test (map (renamed r) ts) ≡ begins_with test ts
begins-kept r test [] same = refl
begins-kept r test (t ∷ ts) same = same.0

ends-kept : (r : Renaming) (test : Token → Bool) (ts : List Token) → Each (λ t. test (renamed r t) ≡ test t) ts
    → ends_with test (map (renamed r) ts) ≡ ends_with test ts
ends-kept r test [] same = refl
ends-kept r test (t ∷ []) same = same.0
ends-kept r test (t ∷ u ∷ ts) same = ends-kept r test (u ∷ ts) same.1

names-kept : (r : Renaming) (ts : List Token) → begins_with is_name (map (renamed r) ts) ≡ begins_with is_name ts
names-kept r [] = refl
names-kept r (t ∷ ts) = refl

unfit-kept : (r : Renaming) (t : Token) → KeepsToken r t → is_unfit_name (renamed r t) ≡ is_unfit_name t
unfolding is_unfit_name
unfit-kept r t kept = rw (kept.asks, kept.rest) refl

empty-kept : (r : Renaming) (ts : List Token) → is_empty (map (renamed r) ts) ≡ is_empty ts
empty-kept r [] = refl
empty-kept r (t ∷ ts) = refl

-- ---- definitions

-- the test of an operand gives what it gave
abbrev OperandKept : Renaming → (Token → Bool) → (Token → Bool) → Token → Type 0
OperandKept r old new t = new (renamed r t) ≡ old t

operand-begins : (r : Renaming) (old new : Token → Bool) (ts : List Token) → Each (OperandKept r old new) ts
    → begins_with new (map (renamed r) ts) ≡ begins_with old ts
operand-begins r old new [] same = refl
operand-begins r old new (t ∷ ts) same = same.0

lone_hash-kept : (r : Renaming) (old new : Token → Bool) (ts : List Token) → Each (KeepsToken r) ts → Each (OperandKept r old new) ts
    → has_lone_hash new (map (renamed r) ts) ≡ has_lone_hash old ts
lone_hash-kept r old new [] kept same = refl
lone_hash-kept r old new (t ∷ ts) kept same =
    rw (hash-kept r t kept.0, operand-begins r old new ts same.1, lone_hash-kept r old new ts kept.1 same.1) refl

operand-kept : (r : Renaming) (params : List Token) (variadic : Bool) (t : Token) → KeepsToken r t → Each (λ p. NamesAsBefore r p t) params
    → is_operand (spellings (map (renamed r) params)) variadic (renamed r t) ≡ is_operand (spellings params) variadic t
unfolding is_operand
operand-kept r params variadic t kept same =
    elim (cases_Bool (is_name t)) [
      | inl named ↦ rw (among-kept r t params named same, kept.rest) refl
      | inr other ↦ rw other refl
    ]

-- What is kept of a definition: each token of its list, and which parameter each one names.
pub record KeepsParts (r : Renaming) (m : MacroParts) : Type 0 where
  pub tokens : Each (KeepsToken r) m.body
  pub names : Each (λ t. Each (λ p. NamesAsBefore r p t) m.params) m.body

operands-kept : (r : Renaming) (params : List Token) (variadic : Bool) (ts : List Token) → Each (KeepsToken r) ts
    → Each (λ t. Each (λ p. NamesAsBefore r p t) params) ts
    → Each (OperandKept r (is_operand (spellings params) variadic) (is_operand (spellings (map (renamed r) params)) variadic)) ts
operands-kept r params variadic [] kept same = tt
operands-kept r params variadic (t ∷ ts) kept same =
    (operand-kept r params variadic t kept.0 same.0, operands-kept r params variadic ts kept.1 same.1)

bad_hash-kept : (r : Renaming) (m : MacroParts) → KeepsParts r m → has_bad_hash (renamed_parts r m) ≡ has_bad_hash m
bad_hash-kept r m kept =
    rw (lone_hash-kept r (is_operand (spellings m.params) m.variadic) (is_operand (spellings (map (renamed r) m.params)) m.variadic) m.body
    kept.tokens (operands-kept r m.params m.variadic m.body kept.tokens kept.names)) refl

end_paste-kept : (r : Renaming) (body : List Token) → Each (KeepsToken r) body → has_end_paste (map (renamed r) body) ≡ has_end_paste body
end_paste-kept r body kept =
    let each = all-weaker (KeepsToken r) (λ t. is_paste (renamed r t) ≡ is_paste t) body (paste-kept r) kept in
    rw (begins-kept r is_paste body each, ends-kept r is_paste body each) refl

bad_va_args-kept : (r : Renaming) (m : MacroParts) → KeepsParts r m → has_bad_va_args (renamed_parts r m) ≡ has_bad_va_args m
bad_va_args-kept r m kept =
    let each = all-weaker (KeepsToken r) (λ t. is_va_args (renamed r t) ≡ is_va_args t) m.body (λ t k. k.rest) kept.tokens in
    rw (any-kept r is_va_args m.body each) refl

-- so is what is said of a definition that is there
abbrev KeptIfThere : Renaming → Option MacroParts → Type 0
KeptIfThere r None = Unit {0}
KeptIfThere r (Some m) = KeepsParts r m

has-kept : (r : Renaming) (test : MacroParts → Bool) (m : Option MacroParts) → KeptIfThere r m
    → ((parts : MacroParts) → KeepsParts r parts → test (renamed_parts r parts) ≡ test parts)
    → has test (option_map (renamed_parts r) m) ≡ has test m
has-kept r test None kept same = refl
has-kept r test (Some m) kept same = same m kept

none-kept : (r : Renaming) (m : Option MacroParts) → is_none (option_map (renamed_parts r) m) ≡ is_none m
none-kept r None = refl
none-kept r (Some m) = refl

-- ---- the definition in a line

-- facts on pairs, the other way round
empty-turned : (R : Token → Token → Type 0) (ts : List Token) → Each (λ t. Each (λ p. R p t) []) ts
empty-turned R [] = tt
empty-turned R (t ∷ ts) = (tt, empty-turned R ts)

onto-turned : (R : Token → Token → Type 0) (p : Token) (ps ts : List Token) → Each (λ t. R p t) ts → Each (λ t. Each (λ q. R q t) ps) ts
    → Each (λ t. Each (λ q. R q t) (p ∷ ps)) ts
onto-turned R p ps [] first rest = tt
onto-turned R p ps (t ∷ ts) first rest = ((first.0, rest.0), onto-turned R p ps ts first.1 rest.1)

turned : (R : Token → Token → Type 0) (ps ts : List Token) → Each (λ p. Each (λ t. R p t) ts) ps → Each (λ t. Each (λ p. R p t) ps) ts
turned R [] ts all = empty-turned R ts
turned R (p ∷ ps) ts all = onto-turned R p ps ts all.0 (turned R ps ts all.1)

-- facts on the tokens behind a parenthesis
abbrev BehindIf : (Token → Type 0) → Option (List Token) → Type 0
BehindIf P None = Unit {0}
BehindIf P (Some body) = Each P body

all-behind : (P : Token → Type 0) (ts : List Token) → Each P ts → BehindIf P (behind_close ts)
all-behind P [] all = tt
all-behind P (t ∷ ts) all =
    elim (cases_Bool (is_close t)) [
      | inl closes ↦ rw closes all.1
      | inr on ↦ rw on (all-behind P ts all.1)
    ]

function-parts : (r : Renaming) (list : List Token) (body : Option (List Token)) → BehindIf (KeepsToken r) body
    → BehindIf (λ t. Each (λ p. NamesAsBefore r p t) (params_in list)) body → KeptIfThere r (function_macro list body)
function-parts r list None tokens names = tt
function-parts r list (Some body) tokens names =
    elim (cases_Bool (is_parameter_list list)) [
      | inl good ↦ rw good (record { tokens = tokens; names = names })
      | inr bad ↦ rw bad tt
    ]

parts-kept : (r : Renaming) (toks : List Token) → Each (KeepsToken r) toks → KeepsParameters r toks → KeptIfThere r (macro_of toks)
unfolding macro_of
parts-kept r [] kept same = record { tokens = tt; names = tt }
parts-kept r (t ∷ ts) kept same =
    elim (cases_Bool (is_function_like (t ∷ ts))) [
      | inl function ↦
          let asked : Each (λ p. Each (λ u. NamesAsBefore r p u) (t ∷ ts)) (params_in (before_close ts)) = rw function at same in
          let each = turned (NamesAsBefore r) (params_in (before_close ts)) (t ∷ ts) asked in
          rw function (function-parts r (before_close ts) (behind_close ts) (all-behind (KeepsToken r) ts kept.1)
          (all-behind (λ u. Each (λ p. NamesAsBefore r p u) (params_in (before_close ts))) ts each.1))
      | inr object ↦ rw object (record { tokens = kept; names = empty-turned (NamesAsBefore r) (t ∷ ts) })
    ]

-- ---- what is named

all-drop : (P : Token → Type 0) (ts : List Token) → Each P ts → Each P (drop 1 ts)
all-drop P [] all = tt
all-drop P (t ∷ ts) all = all.1

drop-map : (r : Renaming) (ts : List Token) → drop 1 (map (renamed r) ts) ≡ map (renamed r) (drop 1 ts)
drop-map r [] = refl
drop-map r (t ∷ ts) = refl

pub cause-kept : (r : Renaming) (kind : ItemKind) (ts : List Token) → Each (KeepsToken r) ts
    → (is_define kind ≡ true → KeepsParameters r (drop 1 ts)) → cause_on kind (map (renamed r) ts) ≡ cause_on kind ts
unfolding cause_on
cause-kept r kind ts kept same =
    let unfit = begins-kept r is_unfit_name ts (all-weaker (KeepsToken r) (λ t. is_unfit_name (renamed r t) ≡ is_unfit_name t) ts (unfit-kept r) kept) in
    elim (cases_Bool (is_define kind)) [
      | inl define ↦
          let toks = drop 1 ts in
          let behind = all-drop (KeepsToken r) ts kept in
          let there = parts-kept r toks behind (same define) in
          let parts = macro_of-renamed r toks behind (same define) in
          rw (
            define,
            drop-map r ts,
            parts,
            names-kept r ts,
            unfit,
            none-kept r (macro_of toks),
            empty-kept r ts,
            has-kept r has_bad_hash (macro_of toks) there (bad_hash-kept r),
            has-kept r (λ m. has_end_paste m.body) (macro_of toks) there (λ m k. end_paste-kept r m.body k.tokens),
            has-kept r has_bad_va_args (macro_of toks) there (bad_va_args-kept r),
          ) refl
      | inr other ↦ rw (other, names-kept r ts, unfit, empty-kept r ts) refl
    ]
