-- Replacement lists and runs that are read from a file: their tokens come from somewhere.
use Rattle.std.proofs.Common.{◌≡◌, ℕ, suc, ◌+◌, ◌-◌, ◌<◌, ◌≤◌, ◌&&◌, Bool, true, false, cond, List, [], ◌∷◌, ◌++◌, length, take, drop, get_or, Option, Some, None, Result, Ok, Err, IsTrue, is_some, OnOk, refl, ap, sym, subst, ◌∙◌, append_assoc, arith}
use Rattle.std.specs.Prelude.{All, slice_get}
use Rattle.std.specs.Bool.{OnTrue}
use Rattle.std.specs.List.{list_all}
use Rattle.std.specs.Option.{option_and_then}
use Rattle.std.specs.Str.{bytes_eq}
use Rattle.std.proofs.lemmas.Option.{same_Some}
use Rattle.std.proofs.lemmas.List.{drop-drop}
use Rattle.std.proofs.lemmas.Bool.{and_parts}
use Rattle.std.proofs.lemmas.List.Elements.{All-nil, All-cons, All-same}
use Rattle.std.proofs.Math.Seq.{take-append_seam, drop-append_seam}
use Rattle.cs_base.specs.Token.{Token, IsToken, origin_at}
use Rattle.cs_base.specs.declared.positions.Pos.{Pos}
use Rattle.macro_body.specs.Below.line_shape.declared.items.Item.{Item}
use Rattle.macro_body.specs.Below.line_shape.declared.items.ItemKind.{ItemKind}
use Rattle.macro_body.specs.Below.line_shape.declared.items.ItemKind.TheVariants.{Run, Define}
use Rattle.macro_body.specs.Below.line_shape.Directives.{is_run}
use Rattle.macro_body.specs.Below.line_shape.Items.{onto_lines, lines_of, line_kind, Piece, piece, onto_pieces, pieces_of, item_of, items_from, items_of, Follow}
use Rattle.macro_body.proofs.Below.line_shape.CoverLemmas.{Follow-within}
use Rattle.macro_body.specs.declared.definitions.Definition.{Definition}
use Rattle.macro_body.specs.Macro.{Table}
use Rattle.macro_body.specs.Live.{no_macro, with_macro, without_macro}
use Rattle.macro_body.specs.Sound.{is_traced, is_low, AllTraced}
use Rattle.macro_expand.proofs.CallLemmas.{cond_has}

-- ---- tokens

each-traced : (os : List (Option Pos)) → ((k : ℕ) → k < length os → is_some (option_and_then (λ origin. origin) (slice_get os k)) ≡ true) → list_all is_some os ≡ true
each-traced [] h = refl
each-traced (o ∷ os) h =
    let first : is_some o ≡ true = h 0 (omega arith) in
    let rest : list_all is_some os ≡ true = each-traced os (λ k below. h (suc k) (omega arith)) in
    rw (first, rest) refl

pub origins-traced : (t : Token) → IsToken t → ((k : ℕ) → k < length t.text → is_some (origin_at t k) ≡ true) → list_all is_some t.origins ≡ true
origins-traced t is h = each-traced t.origins (λ k below. h k (let e = is.each in omega arith))

pub list_all-left : (p q : Token → Bool) (ts : List Token) → list_all (λ (t : Token). p t && q t) ts ≡ true → list_all p ts ≡ true
list_all-left p q [] h = refl
list_all-left p q (t ∷ ts) h =
    let both = and_parts (p t && q t) (list_all (λ (u : Token). p u && q u) ts) h in
    let first = and_parts (p t) (q t) both.0 in
    let rest = list_all-left p q ts both.1 in
    rw (first.0, rest) refl

-- ---- tables

pub traced-no_macro : AllTraced no_macro
traced-no_macro = λ name m e. absurd (cc)

with_traced : (m d : Definition) (rest : Option Definition) (b : Bool) → IsTrue (list_all is_traced m.body) → (rest ≡ Some d → IsTrue (list_all is_traced d.body))
    → cond b (Some m) rest ≡ Some d → IsTrue (list_all is_traced d.body)
with_traced m d rest true h more e = subst (λ (x : Definition). IsTrue (list_all is_traced x.body)) (same_Some m d e) h
with_traced m d rest false h more e = more e

pub traced-with_macro : (m : Definition) (old new : Table) → new ≡ with_macro m old → IsTrue (list_all is_traced m.body) → AllTraced old → AllTraced new
traced-with_macro m old new is h traced =
    let P : Table → Type 0 = AllTraced in
    subst P (sym is) (λ name d e. with_traced m d (old name) (bytes_eq name m.name.text) h (traced name d) e)

without_traced : (d : Definition) (rest : Option Definition) (b : Bool) → (rest ≡ Some d → IsTrue (list_all is_traced d.body)) → cond b None rest ≡ Some d → IsTrue (list_all is_traced d.body)
without_traced d rest true more e = absurd (cc)
without_traced d rest false more e = more e

pub traced-without_macro : (gone : List ℕ) (old new : Table) → new ≡ without_macro gone old → AllTraced old → AllTraced new
traced-without_macro gone old new is traced =
    let P : Table → Type 0 = AllTraced in
    subst P (sym is) (λ name d e. without_traced d (old name) (bytes_eq name gone) (traced name d) e)

-- ---- items

abbrev all_toks : List Piece → List Token
all_toks [] = []
all_toks (p ∷ ps) = p.toks ++ all_toks ps

abbrev all_lines : List (List Token) → List Token
all_lines [] = []
all_lines (l ∷ ls) = l ++ all_lines ls

all_lines-onto : (t : Token) (b : Bool) (lines : List (List Token)) → all_lines (onto_lines t b lines) ≡ t ∷ all_lines lines
all_lines-onto t true lines = refl
all_lines-onto t false [] = refl
all_lines-onto t false (l ∷ ls) = refl

all_lines-lines_of : (toks : List Token) (firsts : List Bool) → all_lines (lines_of toks firsts) ≡ toks
unfolding lines_of
all_lines-lines_of [] firsts = refl
all_lines-lines_of (t ∷ toks) firsts =
    all_lines-onto t (get_or firsts 1 false) (lines_of toks (drop 1 firsts)) ∙ ap (λ (l : List Token). t ∷ l) (all_lines-lines_of toks (drop 1 firsts))

-- a directive is of the kind of its line
abbrev KindsOf : List Piece → Type 0
KindsOf [] = Unit {0}
KindsOf (p ∷ ps) = (is_run p.kind ≡ false → line_kind p.toks ≡ p.kind) × KindsOf ps

-- the tokens and the kinds of pieces
record Pieces (toks : List Token) (ps : List Piece) : Type 0 where
  all : all_toks ps ≡ toks
  kinds : KindsOf ps

Pieces-onto : (line toks : List Token) (ps : List Piece) → Pieces toks ps → Pieces (line ++ toks) (onto_pieces (piece (line_kind line) line) ps)
Pieces-onto line toks [] h = record { all = ap (λ (l : List Token). line ++ l) h.all; kinds = ((λ _. refl), tt) }
Pieces-onto line toks (next ∷ ps) h =
    cond_has (Pieces (line ++ toks)) (is_run (line_kind line) && is_run next.kind) (piece Run (line ++ next.toks) ∷ ps) (piece (line_kind line) line ∷ next ∷ ps)
    (record { all = append_assoc line next.toks (all_toks ps) ∙ ap (λ (l : List Token). line ++ l) h.all; kinds = ((λ e. absurd (cc)), h.kinds.1) })
    (record { all = ap (λ (l : List Token). line ++ l) h.all; kinds = ((λ _. refl), h.kinds) })

Pieces-pieces_of : (lines : List (List Token)) → Pieces (all_lines lines) (pieces_of lines)
unfolding pieces_of
Pieces-pieces_of [] = record { all = refl; kinds = tt }
Pieces-pieces_of (line ∷ lines) = Pieces-onto line (all_lines lines) (pieces_of lines) (Pieces-pieces_of lines)

-- the tokens of an item make a line of its kind, where it is a directive
abbrev pub IsLine : List Token → Item → Type 0
IsLine toks i = is_run i.kind ≡ false → line_kind (take (i.to - i.from) (drop i.from toks)) ≡ i.kind

line-item : (toks : List Token) (kind : ItemKind) (from : ℕ) (line behind : List Token) (items : List Item) → drop from toks ≡ line ++ behind
    → (is_run kind ≡ false → line_kind line ≡ kind) → All (IsLine toks) items → All (IsLine toks) (item_of kind from line ++ items)
line-item toks kind from [] behind items is h rest = rest
line-item toks kind from (t ∷ ts) behind items is h rest =
    let len : from + length (t ∷ ts) - from ≡ length (t ∷ ts) = omega arith in
    let cut : take (from + length (t ∷ ts) - from) (drop from toks) ≡ t ∷ ts =
    ap (λ (n : ℕ). take n (drop from toks)) len ∙ ap (λ (l : List Token). take (length (t ∷ ts)) l) is ∙ take-append_seam (t ∷ ts) behind in
    All-cons (IsLine toks) _ items (λ e. ap line_kind cut ∙ h e) rest

lines-items : (toks : List Token) (from : ℕ) (ps : List Piece) → Pieces (drop from toks) ps → All (IsLine toks) (items_from from ps)
unfolding items_from
lines-items toks from [] h = All-nil (IsLine toks)
lines-items toks from (p ∷ ps) h =
    let behind : all_toks ps ≡ drop (from + length p.toks) toks =
    sym (drop-append_seam p.toks (all_toks ps)) ∙ ap (λ (l : List Token). drop (length p.toks) l) h.all ∙ drop-drop (length p.toks) from toks in
    line-item toks p.kind from p.toks (all_toks ps) (items_from (from + length p.toks) ps) (sym h.all) h.kinds.0
    (lines-items toks (from + length p.toks) ps (record { all = behind; kinds = h.kinds.1 }))

pub lines-items_of : (toks : List Token) (firsts : List Bool) → All (IsLine toks) (items_of toks firsts)
unfolding items_of
lines-items_of toks firsts =
    let pieces = Pieces-pieces_of (lines_of toks firsts) in
    lines-items toks 0 (pieces_of (lines_of toks firsts)) (record { all = pieces.all ∙ all_lines-lines_of toks firsts; kinds = pieces.kinds })

pub item-ordered : (items all : List Item) (n k : ℕ) (d : Item) → items ≡ all → Follow 0 n all → k < length items → (get_or items k d).from ≤ (get_or items k d).to
item-ordered items all n k d is covers below =
    let within = All-same (λ (i : Item). (i.from < i.to) × (i.to ≤ n)) items all is (Follow-within 0 n all covers) in
    let here = (within k d below).0 in
    omega arith

pub item-within : (items all : List Item) (toks whole : List Token) (k : ℕ) (d : Item) → items ≡ all → toks ≡ whole → Follow 0 (length whole) all → k < length items → (get_or items k d).to ≤ length toks
item-within items all toks whole k d is toks_is covers below =
    let within = All-same (λ (i : Item). (i.from < i.to) × (i.to ≤ length whole)) items all is (Follow-within 0 (length whole) all covers) in
    let here = (within k d below).1 in
    omega (arith, ap length toks_is)

pub item-line : (items all : List Item) (toks whole : List Token) (firsts : List Bool) (k : ℕ) (d : Item) → items ≡ all → toks ≡ whole → all ≡ items_of whole firsts
    → k < length items → (get_or items k d).kind ≡ Define → line_kind (take ((get_or items k d).to - (get_or items k d).from) (drop (get_or items k d).from toks)) ≡ Define
item-line items all toks whole firsts k d is toks_is all_is below kind =
    let line = All-same (IsLine whole) items (items_of whole firsts) (is ∙ all_is) (lines-items_of whole firsts) in
    ap (λ (ts : List Token). line_kind (take ((get_or items k d).to - (get_or items k d).from) (drop (get_or items k d).from ts))) toks_is
    ∙ line k d below (ap is_run kind) ∙ kind

-- ---- what the program tests

pub on_ok-more : {A E P Q : Type 0} (r : Result A E) → OnOk r P → (P → Q) → OnOk r Q
on_ok-more (Ok x) p more = more p
on_ok-more (Err e) p more = tt

pub sound-body : (r : Bool) (ts body : List Token) → r ≡ true → ts ≡ body → OnTrue r (IsTrue (list_all (λ (t : Token). is_traced t && is_low t) ts)) → IsTrue (list_all is_traced body)
sound-body true ts body e is h = list_all-left is_traced is_low body (ap (list_all (λ (t : Token). is_traced t && is_low t)) (sym is) ∙ h)
sound-body false ts body e is h = absurd (cc)

pub traced-none : (table : Table) → table ≡ no_macro → AllTraced table
traced-none table is =
    let P : Table → Type 0 = AllTraced in
    subst P (sym is) traced-no_macro
