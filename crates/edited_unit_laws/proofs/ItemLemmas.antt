-- Items under a renaming.
use Rattle.std.proofs.Common.{◌≡◌, ℕ, ◌+◌, Bool, true, false, ◌&&◌, List, [], ◌∷◌, length, drop, get_or, map, Option, Some, None, inl, inr, refl, sym}
use Rattle.std.specs.List.{onto_first}
use Rattle.std.specs.Str.{bytes_eq}
use Rattle.std.proofs.lemmas.Bool.{cases_Bool}
use Rattle.std.proofs.lemmas.List.{map-append, length-map}
use Rattle.cs_base.specs.declared.causes.Cause.{Cause}
use Rattle.cs_base.specs.declared.positions.Pos.{Pos}
use Rattle.cs_base.specs.Token.{Token}
use Rattle.line_shape.specs.declared.items.ItemKind.{ItemKind}
use Rattle.line_shape.specs.declared.items.ItemKind.TheVariants.{Run, Define, Undef, If, Ifdef, Ifndef, Elif, Else, Endif, Include, Line, Error, Pragma, Empty, Gnu, Bad}
use Rattle.line_shape.specs.Signs.{is_name, is_hash}
use Rattle.line_shape.specs.Directives.{directive_named, directive_spelled, directives, meaning_in, is_run, is_define}
use Rattle.line_shape.specs.BadLines.{cause_on}
use Rattle.line_shape.specs.Items.{onto_lines, lines_of, kind_unless, named_kind, directive_kind, line_kind, Piece, piece, onto_pieces, pieces_of, last_of, item_of, items_from, items_of}
use Rattle.macro_expand.specs.Renaming.{Renaming, renamed}
use Rattle.edited_unit_laws.specs.Lines.{Each, KeepsToken, KeepsParameters, defines, KeepsLine, renamed_kind, renamed_item, ItemsAreRenamed}
use Rattle.edited_unit_laws.proofs.MacroLineLemmas.{hash-kept}
use Rattle.edited_unit_laws.proofs.BadLinesLemmas.{cause-kept}

-- ---- lines

onto_first-renamed : (r : Renaming) (t : Token) (lines : List (List Token))
    → onto_first (renamed r t) (map (map (renamed r)) lines) ≡ map (map (renamed r)) (onto_first t lines)
onto_first-renamed r t [] = refl
onto_first-renamed r t (line ∷ lines) = refl

onto_lines-renamed : (r : Renaming) (t : Token) (first : Bool) (lines : List (List Token))
    → onto_lines (renamed r t) first (map (map (renamed r)) lines) ≡ map (map (renamed r)) (onto_lines t first lines)
onto_lines-renamed r t true lines = refl
onto_lines-renamed r t false lines = onto_first-renamed r t lines

lines-renamed : (r : Renaming) (toks : List Token) (firsts : List Bool)
    → lines_of (map (renamed r) toks) firsts ≡ map (map (renamed r)) (lines_of toks firsts)
unfolding lines_of
lines-renamed r [] firsts = refl
lines-renamed r (t ∷ toks) firsts =
    rw (lines-renamed r toks (drop 1 firsts)) (onto_lines-renamed r t (get_or firsts 1 false) (lines_of toks (drop 1 firsts)))

-- a fact for each token is one for each token of each line
onto_first-all : (P : Token → Type 0) (t : Token) (lines : List (List Token)) → P t → Each (Each P) lines → Each (Each P) (onto_first t lines)
onto_first-all P t [] first all = ((first, tt), tt)
onto_first-all P t (line ∷ lines) first all = ((first, all.0), all.1)

onto_lines-all : (P : Token → Type 0) (t : Token) (begins : Bool) (lines : List (List Token)) → P t → Each (Each P) lines
    → Each (Each P) (onto_lines t begins lines)
onto_lines-all P t true lines first all = ((first, tt), all)
onto_lines-all P t false lines first all = onto_first-all P t lines first all

lines-all : (P : Token → Type 0) (toks : List Token) (firsts : List Bool) → Each P toks → Each (Each P) (lines_of toks firsts)
unfolding lines_of
lines-all P [] firsts all = tt
lines-all P (t ∷ toks) firsts all =
    onto_lines-all P t (get_or firsts 1 false) (lines_of toks (drop 1 firsts)) all.0 (lines-all P toks (drop 1 firsts) all.1)

-- ---- the kind of a line

-- a kind without a position
abbrev is_bad : ItemKind → Bool
is_bad (Bad cause at nests) = true
is_bad kind = false

kind-stays : (r : Renaming) (kind : ItemKind) → is_bad kind ≡ false → renamed_kind r kind ≡ kind
kind-stays r Run good = refl
kind-stays r Define good = refl
kind-stays r Undef good = refl
kind-stays r If good = refl
kind-stays r Ifdef good = refl
kind-stays r Ifndef good = refl
kind-stays r Elif good = refl
kind-stays r Else good = refl
kind-stays r Endif good = refl
kind-stays r Include good = refl
kind-stays r Line good = refl
kind-stays r Error good = refl
kind-stays r Pragma good = refl
kind-stays r Empty good = refl
kind-stays r (Gnu line) good = refl
kind-stays r (Bad cause at nests) good = absurd cc

-- the words of directives name kinds without positions
abbrev AllGood : List (List ℕ × ItemKind) → Type 0
AllGood [] = Unit {0}
AllGood (row ∷ rows) = (is_bad row.1 ≡ false) × AllGood rows

meaning-good : (rows : List (List ℕ × ItemKind)) (text : List ℕ) (kind : ItemKind) → AllGood rows → meaning_in rows text ≡ Some kind → is_bad kind ≡ false
meaning-good [] text kind good is = absurd cc
meaning-good (row ∷ rows) text kind good is =
    elim (cases_Bool (bytes_eq text row.0)) [
      | inl same ↦
          let here : Some row.1 ≡ Some kind = rw same at is in
          let now : row.1 ≡ kind = cc in
          rw (← now) good.0
      | inr other ↦ meaning-good rows text kind good.1 (rw other at is)
    ]

directive-good : (text : List ℕ) (kind : ItemKind) → directive_spelled text ≡ Some kind → is_bad kind ≡ false
unfolding directive_spelled
directive-good text kind is =
    meaning-good directives text kind (refl, (refl, (refl, (refl, (refl, (refl, (refl, (refl, (refl, (refl, (refl, (refl, (refl, (refl, (refl, (refl, (refl, (refl, tt)))))))))))))))))) is

named-good : (t : Token) (kind : ItemKind) → directive_named t ≡ Some kind → is_bad kind ≡ false
named-good t kind is =
    elim (cases_Bool (is_name t)) [
      | inl named ↦ directive-good t.text kind (rw named at is)
      | inr other ↦ let none : None ≡ Some kind = rw other at is in absurd cc
    ]

unless-renamed : (r : Renaming) (cause : Option Cause) (at : Pos) (kind : ItemKind) → is_bad kind ≡ false
    → kind_unless cause (r.move at) kind ≡ renamed_kind r (kind_unless cause at kind)
unless-renamed r None at kind good = sym (kind-stays r kind good)
unless-renamed r (Some cause) at kind good = refl

named-renamed : (r : Renaming) (named : Option ItemKind) (at : Pos) (operands : List Token) → Each (KeepsToken r) operands
    → ((kind : ItemKind) → named ≡ Some kind → is_bad kind ≡ false)
    → ((kind : ItemKind) → named ≡ Some kind → is_define kind ≡ true → KeepsParameters r (drop 1 operands))
    → named_kind named (r.move at) (map (renamed r) operands) ≡ renamed_kind r (named_kind named at operands)
named-renamed r None at operands kept good same = refl
named-renamed r (Some kind) at operands kept good same =
    rw (cause-kept r kind operands kept (same kind refl)) (unless-renamed r (cause_on kind operands) at kind (good kind refl))

defines-word : (word : Token) (kind : ItemKind) → directive_named word ≡ Some kind → is_define kind ≡ true → defines word ≡ true
defines-word word kind is define = rw is define

line-renamed : (r : Renaming) (line : List Token) → Each (KeepsToken r) line → KeepsLine r line
    → line_kind (map (renamed r) line) ≡ renamed_kind r (line_kind line)
unfolding directive_kind
line-renamed r [] kept keeps = refl
line-renamed r (t ∷ []) kept keeps =
    elim (cases_Bool (is_hash t)) [
      | inl hash ↦ rw (hash-kept r t kept.0, hash) refl
      | inr text ↦ rw (hash-kept r t kept.0, text) refl
    ]
line-renamed r (t ∷ word ∷ operands) kept keeps =
    elim (cases_Bool (is_hash t)) [
      | inl hash ↦
          let both = keeps hash in
          rw (hash-kept r t kept.0, hash, both.0) (named-renamed r (directive_named word) t.at operands kept.1.1 (named-good word)
          (λ kind is define. both.1 (defines-word word kind is define)))
      | inr text ↦ rw (hash-kept r t kept.0, text) refl
    ]

-- ---- pieces

abbrev renamed_piece : Renaming → Piece → Piece
renamed_piece r p = piece (renamed_kind r p.kind) (map (renamed r) p.toks)

run-renamed : (r : Renaming) (kind : ItemKind) → is_run (renamed_kind r kind) ≡ is_run kind
run-renamed r Run = refl
run-renamed r Define = refl
run-renamed r Undef = refl
run-renamed r If = refl
run-renamed r Ifdef = refl
run-renamed r Ifndef = refl
run-renamed r Elif = refl
run-renamed r Else = refl
run-renamed r Endif = refl
run-renamed r Include = refl
run-renamed r Line = refl
run-renamed r Error = refl
run-renamed r Pragma = refl
run-renamed r Empty = refl
run-renamed r (Gnu line) = refl
run-renamed r (Bad cause at nests) = refl

onto_pieces-renamed : (r : Renaming) (p : Piece) (ps : List Piece)
    → onto_pieces (renamed_piece r p) (map (renamed_piece r) ps) ≡ map (renamed_piece r) (onto_pieces p ps)
onto_pieces-renamed r p [] = refl
onto_pieces-renamed r p (q ∷ ps) =
    rw (run-renamed r p.kind, run-renamed r q.kind) (elim (cases_Bool (is_run p.kind && is_run q.kind)) [
      | inl joins ↦ rw (joins, map-append (renamed r) p.toks q.toks) refl
      | inr apart ↦ rw apart refl
    ])

pieces-renamed : (r : Renaming) (lines : List (List Token)) → Each (Each (KeepsToken r)) lines → Each (KeepsLine r) lines
    → pieces_of (map (map (renamed r)) lines) ≡ map (renamed_piece r) (pieces_of lines)
unfolding pieces_of
pieces-renamed r [] kept keeps = refl
pieces-renamed r (line ∷ lines) kept keeps =
    rw (line-renamed r line kept.0 keeps.0, pieces-renamed r lines kept.1 keeps.1)
    (onto_pieces-renamed r (piece (line_kind line) line) (pieces_of lines))

-- ---- items

last-renamed : (r : Renaming) (t : Token) (toks : List Token) → last_of (renamed r t) (map (renamed r) toks) ≡ renamed r (last_of t toks)
last-renamed r t [] = refl
last-renamed r t (u ∷ toks) = last-renamed r u toks

item-renamed : (r : Renaming) (kind : ItemKind) (from : ℕ) (toks : List Token)
    → item_of (renamed_kind r kind) from (map (renamed r) toks) ≡ map (renamed_item r) (item_of kind from toks)
item-renamed r kind from [] = refl
item-renamed r kind from (t ∷ toks) = rw (last-renamed r t toks, length-map toks (renamed r)) refl

items-renamed : (r : Renaming) (from : ℕ) (ps : List Piece)
    → items_from from (map (renamed_piece r) ps) ≡ map (renamed_item r) (items_from from ps)
unfolding items_from
items-renamed r from [] = refl
items-renamed r from (p ∷ ps) =
    rw (item-renamed r p.kind from p.toks, length-map p.toks (renamed r), items-renamed r (from + length p.toks) ps)
    (sym (map-append (renamed_item r) (item_of p.kind from p.toks) (items_from (from + length p.toks) ps)))

pub items_are_renamed : ItemsAreRenamed
unfolding items_of
items_are_renamed r toks firsts kept keeps =
    rw (lines-renamed r toks firsts, pieces-renamed r (lines_of toks firsts) (lines-all (KeepsToken r) toks firsts kept) keeps)
    (items-renamed r 0 (pieces_of (lines_of toks firsts)))
