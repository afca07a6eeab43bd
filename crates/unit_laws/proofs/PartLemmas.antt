-- Parts of lines: their tokens, the names in them, and what definitions take from them.
use Rattle.std.proofs.Common.{◌≡◌, ℕ, zero, suc, ◌+◌, ◌-◌, ◌&&◌, Bool, true, false, List, [], ◌∷◌, ◌++◌, length, take, drop, map, get_or, Option, Some, None, refl, ap, ◌∙◌, subst, arith, inl, inr}
use Rattle.std.specs.Prelude.{All, slice_get}
use Rattle.std.specs.Str.{bytes_eq}
use Rattle.std.proofs.lemmas.Bool.{cases_Bool}
use Rattle.std.proofs.lemmas.Option.{none-some, same_Some}
use Rattle.std.proofs.lemmas.Slice.Eq.{bytes_eq-Decides}
use Rattle.cs_base.specs.declared.causes.Cause.{Cause}
use Rattle.cs_base.specs.declared.positions.Pos.{Pos}
use Rattle.cs_base.specs.Token.{Token}
use Rattle.line_shape.specs.declared.items.Item.{Item}
use Rattle.line_shape.specs.declared.items.ItemKind.{ItemKind}
use Rattle.line_shape.specs.declared.items.ItemKind.TheVariants as kind
use Rattle.line_shape.specs.declared.items.GnuLine.TheVariants as gnu
use Rattle.line_shape.specs.declared.items.ItemKind.TheVariants.{Run, Bad}
use Rattle.line_shape.specs.Signs.{is_name, is_hash, is_close}
use Rattle.line_shape.specs.Directives.{directive_named, takes_name, is_run, nests_when_bad}
use Rattle.line_shape.specs.BadLines.{cause_on}
use Rattle.line_shape.specs.Items.{onto_lines, lines_of, line_kind, named_kind, kind_unless, directive_kind, Piece, piece, onto_pieces, pieces_of, item_of, items_from, items_of}
use Rattle.line_shape.specs.MacroLine.{MacroParts, macro, before_close, behind_close, is_function_like, is_parameter_list, params_in, function_macro, macro_of}
use Rattle.line_shape.proofs.SignLemmas.{cond-parts as cond_parts}
use Rattle.macro_expand.proofs.CallLemmas.{cond_has}
use Rattle.macro_expand.proofs.TracedLemmas.{IsLine, lines-items_of}
use Rattle.source_files.specs.Files.{SourceFile, Table}
use Rattle.source_files.specs.HeaderNames.{is_header, begins_header}
use Rattle.source_files.specs.Sources.{source_at}
use Rattle.include_tree.specs.Walk.{ItemText, item_text, item_texts, items_in}
use Rattle.unit_steps.specs.Names.{spelled_in}
use Rattle.expansion_laws.proofs.ListLemmas.{AllToks}
use Rattle.unit_laws.specs.UnitItems.{expanded_name, taken_next, taken}
use Rattle.unit_laws.proofs.DoneLemmas.{AllIn, all_both, NameHas, PlaceHas, TakenHas}

-- ---- parts of lists

pub toks_take : (P : Token → Type 0) (n : ℕ) (ts : List Token) → AllToks P ts → AllToks P (take n ts)
toks_take P zero [] h = tt
toks_take P zero (t ∷ ts) h = tt
toks_take P (suc n) [] h = tt
toks_take P (suc n) (t ∷ ts) h = (h.0, toks_take P n ts h.1)

pub toks_drop : (P : Token → Type 0) (n : ℕ) (ts : List Token) → AllToks P ts → AllToks P (drop n ts)
toks_drop P zero [] h = tt
toks_drop P zero (t ∷ ts) h = h
toks_drop P (suc n) [] h = tt
toks_drop P (suc n) (t ∷ ts) h = toks_drop P n ts h.1

pub toks_both : (P : Token → Type 0) (xs ys : List Token) → AllToks P xs → AllToks P ys → AllToks P (xs ++ ys)
toks_both P [] ys h k = k
toks_both P (x ∷ xs) ys h k = (h.0, toks_both P xs ys h.1 k)

-- ---- items

lines_have : (P : Token → Type 0) (toks : List Token) (firsts : List Bool) → AllToks P toks → AllIn (AllToks P) (lines_of toks firsts)
unfolding lines_of
lines_have P [] firsts h = tt
lines_have P (t ∷ toks) firsts h = onto (get_or firsts 1 false) (lines_of toks (drop 1 firsts)) (lines_have P toks (drop 1 firsts) h.1)
  where
    onto : (b : Bool) (lines : List (List Token)) → AllIn (AllToks P) lines → AllIn (AllToks P) (onto_lines t b lines)
    onto true lines k = ((h.0, tt), k)
    onto false [] k = ((h.0, tt), tt)
    onto false (l ∷ ls) k = ((h.0, k.0), k.1)

abbrev PieceHas : (Token → Type 0) → Piece → Type 0
PieceHas P p = AllToks P p.toks

pieces_have : (P : Token → Type 0) (lines : List (List Token)) → AllIn (AllToks P) lines → AllIn (PieceHas P) (pieces_of lines)
unfolding pieces_of
pieces_have P [] h = tt
pieces_have P (line ∷ lines) h = onto (pieces_of lines) (pieces_have P lines h.1)
  where
    onto : (ps : List Piece) → AllIn (PieceHas P) ps → AllIn (PieceHas P) (onto_pieces (piece (line_kind line) line) ps)
    onto [] k = (h.0, tt)
    onto (next ∷ ps) k =
        cond_has (AllIn (PieceHas P)) (is_run (line_kind line) && is_run next.kind) (piece Run (line ++ next.toks) ∷ ps) (piece (line_kind line) line ∷ next ∷ ps)
        (toks_both P line next.toks h.0 k.0, k.1) (h.0, k)

-- where an item stands
abbrev AtHas : (Token → Type 0) → Item → Type 0
AtHas P i = PlaceHas P i.at

places_have : (P : Token → Type 0) (from : ℕ) (ps : List Piece) → AllIn (PieceHas P) ps → AllIn (AtHas P) (items_from from ps)
unfolding items_from
places_have P from [] h = tt
places_have P from (p ∷ ps) h =
    all_both (AtHas P) (item_of p.kind from p.toks) (items_from (from + length p.toks) ps) (first p.toks h.0) (places_have P (from + length p.toks) ps h.1)
  where
    first : (toks : List Token) → AllToks P toks → AllIn (AtHas P) (item_of p.kind from toks)
    first [] k = tt
    first (t ∷ toks) k = ((t, (k.0, refl)), tt)

-- an item has the tokens of a line of its kind, where it is a directive, and stands where its first one does
pub record ItemHas (P : Token → Type 0) (i : ItemText) : Type 0 where
  pub toks : AllToks P i.toks
  pub line : is_run i.kind ≡ false → line_kind i.toks ≡ i.kind
  pub at : PlaceHas P i.at

texts_have : (P : Token → Type 0) (toks : List Token) (items : List Item) → AllToks P toks → AllIn (AtHas P) items → All (IsLine toks) items → AllIn (ItemHas P) (map (item_text toks) items)
texts_have P toks [] h places lines = tt
texts_have P toks (i ∷ items) h places lines = (
  record { toks = toks_take P (i.to - i.from) (drop i.from toks) (toks_drop P i.from toks h); line = λ e. lines 0 i (omega arith) e; at = places.0 },
  texts_have P toks items h places.1 (λ k d below. lines (suc k) d (omega arith)),
)

pub items_have : (P : Token → Type 0) (toks : List Token) (firsts : List Bool) → AllToks P toks → AllIn (ItemHas P) (item_texts toks firsts)
unfolding items_of
items_have P toks firsts h =
    texts_have P toks (items_of toks firsts) h (places_have P 0 (pieces_of (lines_of toks firsts)) (pieces_have P (lines_of toks firsts) (lines_have P toks firsts h))) (lines-items_of toks firsts)

item_at : {X : Type 0} (Q : X → Type 0) (xs : List X) → AllIn Q xs → (x : X) (k : ℕ) → slice_get xs k ≡ Some x → Q x
item_at Q [] h x k e = absurd (none-some x e)
item_at Q (y ∷ ys) h x zero e = subst Q (same_Some y x e) h.0
item_at Q (y ∷ ys) h x (suc k) e = item_at Q ys h.1 x k e

-- an item of a file whose tokens have it
pub item_has : (P : Token → Type 0) (file : SourceFile) (k : ℕ) (i : ItemText) → AllToks P file.text.toks → slice_get (items_in file) k ≡ Some i → ItemHas P i
item_has P file k i h at = item_at (ItemHas P) (items_in file) (items_have P file.text.toks file.text.firsts h) i k at

expanded_has : (P : Token → Type 0) (toks : List Token) → AllToks P toks → AllToks P (expanded_name toks)
expanded_has P [] h = tt
expanded_has P (t ∷ toks) h = cond_has (AllToks P) (is_header t.kind) [] (t ∷ toks) tt h

next_has : (P : Token → Type 0) (toks : List Token) → AllToks P toks → AllToks P (taken_next toks)
next_has P toks h = cond_has (AllToks P) (begins_header toks) [] toks tt h

taken_has : (P : Token → Type 0) (k : ItemKind) (evaluated : Bool) (toks : List Token) → AllToks P toks → AllToks P (taken k evaluated toks)
taken_has P Run evaluated toks h = h
taken_has P kind.Define evaluated toks h = toks_drop P 2 toks h
taken_has P kind.Undef evaluated toks h = toks_take P 1 (drop 2 toks) (toks_drop P 2 toks h)
taken_has P kind.Ifdef evaluated toks h = toks_take P 1 (drop 2 toks) (toks_drop P 2 toks h)
taken_has P kind.Ifndef evaluated toks h = toks_take P 1 (drop 2 toks) (toks_drop P 2 toks h)
taken_has P kind.If true toks h = toks_drop P 2 toks h
taken_has P kind.If false toks h = tt
taken_has P kind.Elif true toks h = toks_drop P 2 toks h
taken_has P kind.Elif false toks h = tt
taken_has P kind.Include evaluated toks h = expanded_has P (drop 2 toks) (toks_drop P 2 toks h)
taken_has P kind.Else evaluated toks h = tt
taken_has P kind.Endif evaluated toks h = tt
taken_has P kind.Line evaluated toks h = tt
taken_has P kind.Error evaluated toks h = tt
taken_has P kind.Pragma evaluated toks h = tt
taken_has P kind.Empty evaluated toks h = tt
taken_has P (Bad cause at nests) evaluated toks h = tt
taken_has P (kind.Gnu gnu.IncludeNext) evaluated toks h = next_has P (drop 2 toks) (toks_drop P 2 toks h)
taken_has P (kind.Gnu gnu.Message) evaluated toks h = tt
taken_has P (kind.Gnu gnu.Elifdef) true toks h = toks_take P 1 (drop 2 toks) (toks_drop P 2 toks h)
taken_has P (kind.Gnu gnu.Elifdef) false toks h = tt
taken_has P (kind.Gnu gnu.Elifndef) true toks h = toks_take P 1 (drop 2 toks) (toks_drop P 2 toks h)
taken_has P (kind.Gnu gnu.Elifndef) false toks h = tt

-- what is taken from the items of kept files has it, where all their tokens do
pub from_files : (P : Token → Type 0) (table : Table) → ((number : ℕ) (file : SourceFile) → source_at table number ≡ Some file → AllToks P file.text.toks)
    → (number k : ℕ) (evaluated : Bool) (file : SourceFile) (i : ItemText) → source_at table number ≡ Some file → slice_get (items_in file) k ≡ Some i
    → TakenHas P evaluated i
from_files P table files number k evaluated file i is at =
    let has = item_has P file k i (files number file is) at in
    record { toks = taken_has P i.kind evaluated i.toks has.toks; at = λ include. has.at }

-- ---- the name that a directive takes

unless_named : (kind k : ItemKind) (at : Pos) (c : Option Cause) → takes_name k ≡ true → kind_unless c at kind ≡ k → (kind ≡ k) × (c ≡ None)
unless_named kind k at None takes is = (is, refl)
unless_named kind k at (Some cause) takes is =
    let no : takes_name (Bad cause at (nests_when_bad kind)) ≡ true = ap takes_name is ∙ takes in absurd (cc)

first_stands : (kind : ItemKind) (name : Token) (operands : List Token) → takes_name kind ≡ true → cause_on kind (name ∷ operands) ≡ None → is_name name ≡ true
unfolding cause_on
first_stands kind name operands takes none =
    elim (cases_Bool (is_name name)) [
      | inl is ↦ is
      | inr is_not ↦ let some = rw (takes, is_not) at none in absurd (cc)
    ]

operand_named : (k : ItemKind) (at : Pos) (o : Option ItemKind) (name : Token) (operands : List Token) → takes_name k ≡ true
    → named_kind o at (name ∷ operands) ≡ k → is_name name ≡ true
operand_named k at None name operands takes is = let no = ap takes_name is ∙ takes in absurd (cc)
operand_named k at (Some kind) name operands takes is =
    let both = unless_named kind k at (cause_on kind (name ∷ operands)) takes is in
    first_stands kind name operands (ap takes_name both.0 ∙ takes) both.1

pub directive_name : (k : ItemKind) (hash word name : Token) (operands : List Token) → takes_name k ≡ true
    → line_kind (hash ∷ word ∷ name ∷ operands) ≡ k → is_name name ≡ true
unfolding directive_kind
directive_name k hash word name operands takes is =
    elim (cases_Bool (is_hash hash)) [
      | inl hashed ↦ operand_named k hash.at (directive_named word) name operands takes (rw hashed at is)
      | inr other ↦ let run : Run ≡ k = rw other at is in let bad = ap takes_name run ∙ takes in absurd (cc)
    ]

-- ---- definitions

before_has : (P : Token → Type 0) (ts : List Token) → AllToks P ts → AllToks P (before_close ts)
before_has P [] h = tt
before_has P (t ∷ ts) h = elim (cases_Bool (is_close t)) [
  | inl close ↦ rw close tt
  | inr other ↦ rw other (h.0, before_has P ts h.1)
]

behind_has : (P : Token → Type 0) (ts body : List Token) → AllToks P ts → behind_close ts ≡ Some body → AllToks P body
behind_has P [] body h e = absurd (none-some body e)
behind_has P (t ∷ ts) body h e = elim (cases_Bool (is_close t)) [
  | inl close ↦ subst (AllToks P) (same_Some ts body (rw close at e)) h.1
  | inr other ↦ behind_has P ts body h.1 (rw other at e)
]

params_have : (P : Token → Type 0) (ts : List Token) → AllToks P ts → AllIn (NameHas P) (params_in ts)
params_have P [] h = tt
params_have P (t ∷ ts) h = elim (cases_Bool (is_name t)) [
  | inl name ↦ rw name ((h.0, name), params_have P ts h.1)
  | inr other ↦ rw other (params_have P ts h.1)
]

-- the parameters of a definition are names, and its body has the tokens
pub record PartsHave (P : Token → Type 0) (m : MacroParts) : Type 0 where
  pub params : AllIn (NameHas P) m.params
  pub body : AllToks P m.body

function_has : (P : Token → Type 0) (list : List Token) (o : Option (List Token)) (m : MacroParts) → AllToks P list
    → ((body : List Token) → o ≡ Some body → AllToks P body) → function_macro list o ≡ Some m → PartsHave P m
function_has P list None m h behind e = absurd (none-some m e)
function_has P list (Some body) m h behind e =
    subst (PartsHave P) (cond_parts (is_parameter_list list) (macro true (params_in list) _ _ body) m e)
    (record { params = params_have P list h; body = behind body refl })

pub macro_has : (P : Token → Type 0) (ts : List Token) (m : MacroParts) → AllToks P ts → macro_of ts ≡ Some m → PartsHave P m
unfolding macro_of
macro_has P ts m h e = elim (cases_Bool (is_function_like ts)) [
  | inl function ↦
      function_has P (before_close (drop 1 ts)) (behind_close (drop 1 ts)) m (before_has P (drop 1 ts) (toks_drop P 1 ts h))
      (λ body is. behind_has P (drop 1 ts) body (toks_drop P 1 ts h) is) (rw function at e)
  | inr object ↦ subst (PartsHave P) (same_Some (macro false [] false false ts) m (rw object at e)) (record { params = tt; body = h })
]

-- ---- names of one spelling

pub spelled_has : (P : Token → Type 0) (names : List Token) (text : List ℕ) (first : Token) → AllIn (NameHas P) names → spelled_in names text ≡ Some first
    → NameHas P first × (text ≡ first.text)
spelled_has P [] text first h e = absurd (none-some first e)
spelled_has P (t ∷ names) text first h e = elim (cases_Bool (bytes_eq text t.text)) [
  | inl same ↦
      let here : t ≡ first = same_Some t first (rw same at e) in
      subst (λ (u : Token). NameHas P u × (text ≡ u.text)) here (h.0, (bytes_eq-Decides text t.text).0 same)
  | inr other ↦ spelled_has P names text first h.1 (rw other at e)
]
