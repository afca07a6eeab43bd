-- Parameters of a definition and their uses: what agrees for the tokens of links agrees for these.
use Rattle.std.proofs.Common.{◌≡◌, ℕ, zero, suc, ◌==◌, not, Bool, true, false, cond, List, [], ◌∷◌, drop, Option, Some, None, inl, inr, refl, sym, ap, subst, ◌∙◌}
use Rattle.std.specs.Prelude.{◌⊎◌, slice_get}
use Rattle.std.specs.List.{flat_map, list_any}
use Rattle.std.specs.Option.{option_map}
use Rattle.std.specs.Str.{bytes_eq}
use Rattle.std.proofs.lemmas.Bool.{cases_Bool, and_parts}
use Rattle.std.proofs.lemmas.Option.{none-some, same_Some}
use Rattle.cs_base.proofs.FileMapLemmas.{bytes_eq-equal, bytes_eq-same}
use Rattle.cs_base.proofs.ListLemmas.{any_at, none_at as not_found}
use Rattle.cs_base.specs.declared.tokens.Kind.{Kind}
use Rattle.cs_base.specs.declared.tokens.Kind.TheVariants.{Ident}
use Rattle.cs_base.specs.declared.tokens.Link.{Link}
use Rattle.cs_base.specs.Token.{Token}
use Rattle.lexer.specs.Characters.{less_than, double_quote, is_nondigit, is_word}
use Rattle.lexer.specs.Spelling.{is_identifier_text, is_header_text, header_close, kind_of, kind_in}
use Rattle.lexer.specs.Tokens.{kind_or_other}
use Rattle.line_shape.specs.MacroLine.{MacroParts, macro, spellings, is_function_like, before_close, behind_close, is_parameter_list, is_identifier_list, has_named_rest, has_plain_rest, params_in, are_distinct, function_macro, macro_of}
use Rattle.line_shape.specs.Signs.{is_identifier, is_punctuator, is_name, is_open, is_close}
use Rattle.macro_body.specs.declared.definitions.Definition.{Definition}
use Rattle.macro_body.specs.Defining.{definition_of, defined_by}
use Rattle.unit_steps.specs.Names.{spelled_in, linked_with, parameter_named, definition_links}
use Rattle.unit_steps.specs.Notes.{Note, Linked, link, links_of}
use Rattle.edited_unit_laws.specs.Lines.{Each, parameters_of}
use Rattle.analysis.proofs.NamingLemmas.{map_at, filter_in}
use Rattle.edited_unit_laws.proofs.ListLemmas.{In, found, in_flat}
use Rattle.rename_meaning.proofs.DirectiveLemmas.{in_more, first_or, none_in}
use Rattle.edited_unit_laws.proofs.FileLemmas.{StandsIn, name_spelled}
use Rattle.rename_meaning.proofs.KeptTokenLemmas.{each_of}
use Rattle.rename_meaning.proofs.OneTokenLemmas.{word_apart}

-- ---- what is spelled as an identifier

close_none : (c : ℕ) → is_nondigit c ≡ true → (header_close c == 0) ≡ true
close_none c h =
    let word : is_word c ≡ true = rw h refl in
    rw (word_apart c less_than refl word, word_apart c double_quote refl word) refl

no_header : (text : List ℕ) → is_identifier_text text ≡ true → is_header_text text ≡ false
no_header [] h = refl
no_header (c ∷ cs) h = rw (close_none c (and_parts (is_nondigit c) _ h).0) refl

identifier_kind : (header : Bool) (text : List ℕ) → is_identifier_text text ≡ true → is_identifier (kind_or_other header text) ≡ true
unfolding kind_in kind_of
identifier_kind true text h = rw (no_header text h, h) refl
identifier_kind false text h = rw h refl

-- is one
pub named_like : (file : ℕ) (t p : Token) → StandsIn file t → StandsIn file p → is_name p ≡ true → t.text ≡ p.text → is_name t ≡ true
named_like file t p st sp named same =
    let text : is_identifier_text t.text ≡ true = ap is_identifier_text same ∙ name_spelled file p sp named in
    ap is_identifier st.kind ∙ identifier_kind st.header t.text text

-- ---- parameters

distinct_same : (ps : List Token) → are_distinct (spellings ps) ≡ true → (p q : Token) (i j : ℕ) → slice_get ps i ≡ Some p → slice_get ps j ≡ Some q → p.text ≡ q.text → p ≡ q
distinct_same [] h p q i j e f same = absurd (none-some p e)
distinct_same (x ∷ ps) h p q zero zero e f same = sym (same_Some x p e) ∙ same_Some x q f
distinct_same (x ∷ ps) h p q zero (suc j) e f same = absurd (twice x ps q j h f (ap (λ (t : Token). t.text) (same_Some x p e) ∙ same))
  where
    twice : (y : Token) (ys : List Token) (r : Token) (k : ℕ) → are_distinct (spellings (y ∷ ys)) ≡ true → slice_get ys k ≡ Some r → y.text ≡ r.text → ⊥
    twice y ys r k d at alike =
        let any : list_any (bytes_eq y.text) (spellings ys) ≡ true =
        any_at (bytes_eq y.text) (spellings ys) k r.text (map_at (λ (t : Token). t.text) r ys k at) (ap (λ (w : List ℕ). bytes_eq w r.text) alike ∙ bytes_eq-same r.text) in
        let both = and_parts (not (list_any (bytes_eq y.text) (spellings ys))) (are_distinct (spellings ys)) d in
        let no : not true ≡ true = ap not (sym any) ∙ both.0 in
        cc
distinct_same (x ∷ ps) h p q (suc i) zero e f same = absurd (twice x ps p i h e (ap (λ (t : Token). t.text) (same_Some x q f) ∙ sym same))
  where
    twice : (y : Token) (ys : List Token) (r : Token) (k : ℕ) → are_distinct (spellings (y ∷ ys)) ≡ true → slice_get ys k ≡ Some r → y.text ≡ r.text → ⊥
    twice y ys r k d at alike =
        let any : list_any (bytes_eq y.text) (spellings ys) ≡ true =
        any_at (bytes_eq y.text) (spellings ys) k r.text (map_at (λ (t : Token). t.text) r ys k at) (ap (λ (w : List ℕ). bytes_eq w r.text) alike ∙ bytes_eq-same r.text) in
        let both = and_parts (not (list_any (bytes_eq y.text) (spellings ys))) (are_distinct (spellings ys)) d in
        let no : not true ≡ true = ap not (sym any) ∙ both.0 in
        cc
distinct_same (x ∷ ps) h p q (suc i) (suc j) e f same =
    distinct_same ps (and_parts (not (list_any (bytes_eq x.text) (spellings ps))) (are_distinct (spellings ps)) h).1 p q i j e f same

-- ---- definitions

-- What is known of a function-like definition.
record IsFunction (toks params body : List Token) : Type 0 where
  own : params ≡ parameters_of toks
  distinct : are_distinct (spellings params) ≡ true
  names : (t : Token) → In t toks → is_name t ≡ true → In t params ⊎ In t body

sign_no_name : (k : Kind) → is_punctuator k ≡ true → is_identifier k ≡ true → ⊥
sign_no_name Ident h i = cc
sign_no_name _ h i = cc

open_no_name : (t : Token) → is_open t ≡ true → is_name t ≡ true → ⊥
unfolding is_open
open_no_name t h named = sign_no_name t.kind (and_parts (is_punctuator t.kind) _ h).0 named

close_no_name : (t : Token) → is_close t ≡ true → is_name t ≡ true → ⊥
unfolding is_close
close_no_name t h named = sign_no_name t.kind (and_parts (is_punctuator t.kind) _ h).0 named

more_names : (x t : Token) (ts : List Token) → In t (params_in ts) → In t (params_in (x ∷ ts))
more_names x t ts i = elim (cases_Bool (is_name x)) [
  | inl named ↦ rw named (in_more t x (params_in ts) i)
  | inr other ↦ rw other i
]

first_name : (t : Token) (ts : List Token) → is_name t ≡ true → In t (params_in (t ∷ ts))
first_name t ts named = rw named (0, refl)

-- a name lies before the first `)` or behind it
split_close : (ts body : List Token) (t : Token) → behind_close ts ≡ Some body → In t ts → is_name t ≡ true → In t (params_in (before_close ts)) ⊎ In t body
split_close [] body t e i named = absurd (none_in t i)
split_close (x ∷ ts) body t e i named = elim (cases_Bool (is_close x)) [
  | inl close ↦
      let same : ts ≡ body = same_Some ts body (rw close at e) in
      elim (first_or t x ts i) [
        | inl one ↦ absurd (close_no_name t (ap is_close (sym one) ∙ close) named)
        | inr later ↦ inr (subst (λ (us : List Token). In t us) same later)
      ]
  | inr on ↦
      elim (first_or t x ts i) [
        | inl one ↦
            let here : In t (params_in (t ∷ before_close ts)) = first_name t (before_close ts) named in
            let own : In t (params_in (x ∷ before_close ts)) = subst (λ (y : Token). In t (params_in (y ∷ before_close ts))) (sym one) here in
            inl (rw on own)
        | inr later ↦ elim (split_close ts body t (rw on at e) later named) [
          | inl before ↦ inl (rw on (more_names x t (before_close ts) before))
          | inr behind ↦ inr behind
        ]
      ]
]

cond_parts : (b : Bool) (x m : MacroParts) → cond b (Some x) None ≡ Some m → (b ≡ true) × (x ≡ m)
cond_parts true x m e = (refl, same_Some x m e)
cond_parts false x m e = absurd (none-some m e)

list_distinct : (ts : List Token) → is_parameter_list ts ≡ true → are_distinct (spellings (params_in ts)) ≡ true
list_distinct [] h = refl
list_distinct (t ∷ ts) h = (and_parts (is_identifier_list (t ∷ ts)) (are_distinct (spellings (params_in (t ∷ ts)))) h).1

function_by : (first : Token) (rest : List Token) (m : MacroParts) (o : Option (List Token)) → is_function_like (first ∷ rest) ≡ true → behind_close rest ≡ o
    → function_macro (before_close rest) o ≡ Some m → IsFunction (first ∷ rest) m.params m.body
function_by first rest m None function is e = absurd (none-some m e)
function_by first rest m (Some body) function is e =
    let list : List Token = before_close rest in
    let both = cond_parts (is_parameter_list list) (macro true (params_in list) (has_plain_rest list) (has_named_rest list) body) m e in
    let open_ = (and_parts (is_open first) (not first.gap) function).0 in
    let h : IsFunction (first ∷ rest) (params_in list) body = record {
      own = rw function refl;
      distinct = list_distinct list both.0;
      names = λ t i named. elim (first_or t first rest i) [
        | inl one ↦ absurd (open_no_name t (ap is_open (sym one) ∙ open_) named)
        | inr later ↦ split_close rest body t is later named
      ];
    } in
    subst (λ (x : MacroParts). IsFunction (first ∷ rest) x.params x.body) both.1 h

function_is : (toks : List Token) (m : MacroParts) → is_function_like toks ≡ true → macro_of toks ≡ Some m → IsFunction toks m.params m.body
unfolding macro_of
function_is [] m function e = absurd (cc)
function_is (first ∷ rest) m function e = function_by first rest m (behind_close rest) function refl (rw function at e)

defined_by_parts : (name : Token) (toks : List Token) (o : Option MacroParts) (m : Definition) → macro_of toks ≡ o → is_function_like toks ≡ true
    → option_map (definition_of name) o ≡ Some m → IsFunction toks m.params m.body
defined_by_parts name toks None m is function e = absurd (none-some m e)
defined_by_parts name toks (Some parts) m is function e =
    subst (λ (d : Definition). IsFunction toks d.params d.body) (same_Some (definition_of name parts) m e) (function_is toks parts function is)

defined_function : (hash word : Token) (operands : List Token) (m : Definition) → is_function_like (drop 1 operands) ≡ true
    → defined_by (hash ∷ word ∷ operands) ≡ Some m → IsFunction (drop 1 operands) m.params m.body
defined_function hash word [] m function e = absurd (none-some m e)
defined_function hash word (name ∷ toks) m function e = defined_by_parts name toks (macro_of toks) m refl function e

-- ---- parameters of a list of tokens

before_in : (ts : List Token) (t : Token) → In t (before_close ts) → In t ts
before_in [] t i = i
before_in (x ∷ ts) t i = elim (cases_Bool (is_close x)) [
  | inl close ↦ let none : In t [] = rw close at i in absurd (none_in t none)
  | inr on ↦
      let here : In t (x ∷ before_close ts) = rw on at i in
      elim (first_or t x (before_close ts) here) [
        | inl one ↦ (0, ap (λ (y : Token). Some y) one)
        | inr later ↦ in_more t x ts (before_in ts t later)
      ]
]

pub parameter_in : (toks : List Token) (p : Token) → In p (parameters_of toks) → is_function_like toks ≡ true → In p toks × (is_name p ≡ true)
parameter_in [] p i function = absurd (cc)
parameter_in (first ∷ rest) p i function =
    let here : In p (params_in (before_close rest)) = rw function at i in
    let f = filter_in is_name p (before_close rest) here in
    (in_more p first rest (before_in rest p f.0), f.1)

-- ---- uses

module _ (mapped : Token → List ℕ) where
  -- both tokens of each link of a definition are mapped to the same
  abbrev pub UsesAgree : Definition → Type 0
  UsesAgree m = (l : Link) → In l (flat_map links_of (definition_links m)) → mapped l.x ≡ mapped l.y

  use_by : (m : Definition) → UsesAgree m → (t p : Token) → In t m.body → is_name t ≡ true → In p m.params → are_distinct (spellings m.params) ≡ true → t.text ≡ p.text
      → (o : Option Token) → spelled_in m.params t.text ≡ o → mapped t ≡ mapped p
  use_by m agree t p i named j distinct same None e =
      absurd (not_found (λ (x : Token). bytes_eq t.text x.text) m.params p j.0 e j.1 (ap (λ (w : List ℕ). bytes_eq w p.text) same ∙ bytes_eq-same p.text))
  use_by m agree t p i named j distinct same (Some first) e =
      let is = found (λ (x : Token). bytes_eq t.text x.text) m.params first e in
      let one : first ≡ p = distinct_same m.params distinct first p is.0.0 j.0 is.0.1 j.1 (sym (bytes_eq-equal t.text first.text is.1) ∙ same) in
      let links : linked_with t (parameter_named m.params t) ≡ Linked t first ∷ [] =
      ap (λ (b : Bool). linked_with t (cond b (spelled_in m.params t.text) None)) named ∙ ap (linked_with t) e in
      let note : In (Linked t first) (definition_links m) =
      in_flat (λ (x : Token). linked_with x (parameter_named m.params x)) m.body t (Linked t first) i (subst (λ (ns : List Note). In (Linked t first) ns) (sym links) (0, refl)) in
      agree (link t first) (in_flat links_of (definition_links m) (Linked t first) (link t first) note (0, refl)) ∙ ap mapped one

  -- uses of parameters are mapped as these
  pub uses_alike : (file : ℕ) (hash word : Token) (operands : List Token) (m : Definition) → ((t : Token) → In t (drop 1 operands) → StandsIn file t)
      → defined_by (hash ∷ word ∷ operands) ≡ Some m → UsesAgree m
      → Each (λ p. Each (λ t. t.text ≡ p.text → mapped t ≡ mapped p) (drop 1 operands)) (parameters_of (drop 1 operands))
  uses_alike file hash word operands m stand e agree = elim (cases_Bool (is_function_like (drop 1 operands))) [
    | inr object ↦ rw object tt
    | inl function ↦
        let toks : List Token = drop 1 operands in
        let h = defined_function hash word operands m function e in
        each_of (λ (p : Token). Each (λ (t : Token). t.text ≡ p.text → mapped t ≡ mapped p) toks) (parameters_of toks) (λ p ip.
        let own : In p m.params = subst (λ (ps : List Token). In p ps) (sym h.own) ip in
        let from = parameter_in toks p ip function in
        each_of (λ (t : Token). t.text ≡ p.text → mapped t ≡ mapped p) toks (λ t it same.
        let named = named_like file t p (stand t it) (stand p from.0) from.1 same in
        elim (h.names t it named) [
          | inl param ↦ ap mapped (distinct_same m.params h.distinct t p param.0 own.0 param.1 own.1 same)
          | inr use_ ↦ use_by m agree t p use_ named own h.distinct same (spelled_in m.params t.text) refl
        ]))
  ]
