-- The items of a file: what is kept of each.
use Rattle.std.proofs.Common.{◌≡◌, ℕ, ◌+◌, ◌-◌, ◌&&◌, Bool, true, false, List, [], ◌∷◌, ◌++◌, length, take, drop, get_or, map, Option, Some, None, refl, ap, sym, subst, ◌∙◌, append_assoc, inl, inr, arith}
use Rattle.std.proofs.lemmas.Bool.{cases_Bool}
use Rattle.std.proofs.lemmas.List.{drop-drop}
use Rattle.std.proofs.Math.Seq.{take-append_seam, drop-append_seam}
use Rattle.cs_base.specs.declared.causes.Cause.{Cause}
use Rattle.cs_base.specs.declared.causes.Cause.TheVariants.{UnknownDirective}
use Rattle.cs_base.specs.declared.positions.Pos.{Pos}
use Rattle.cs_base.specs.Token.{Token}
use Rattle.line_shape.specs.declared.items.Item.{Item}
use Rattle.line_shape.specs.declared.items.ItemKind.{ItemKind}
use Rattle.line_shape.specs.declared.items.ItemKind.TheVariants.{Run, Bad, Pragma, Gnu}
use Rattle.line_shape.specs.declared.items.GnuLine.TheVariants.{IncludeNext}
use Rattle.line_shape.specs.Signs.{is_name, is_hash}
use Rattle.line_shape.specs.Directives.{directive_named, takes_name, is_run, nests_when_bad}
use Rattle.line_shape.specs.BadLines.{cause_on}
use Rattle.line_shape.specs.Items.{onto_lines, lines_of, line_kind, named_kind, kind_unless, directive_kind, Piece, piece, onto_pieces, pieces_of, item_of, items_from, items_of}
use Rattle.macro_expand.proofs.CallLemmas.{cond_has}
use Rattle.include_tree.specs.Walk.{ItemText, item_text, item_texts}
use Rattle.macro_expand.specs.Renaming.{renamed}
use Rattle.source_files.specs.HeaderNames.{header_at, begins_header}
use Rattle.unit_steps.specs.Directives.{says_once}
use Rattle.edited_unit_laws.specs.Lines.{Each, KeepsLine, asks_next, begins_pragma}
use Rattle.edited_unit_laws.specs.Keeping.{Change, Fits}
use Rattle.edited_unit_laws.proofs.FollowLemmas.{each-both}

-- ---- lines and pieces

abbrev all_lines : List (List Token) → List Token
all_lines [] = []
all_lines (l ∷ ls) = l ++ all_lines ls

abbrev all_toks : List Piece → List Token
all_toks [] = []
all_toks (p ∷ ps) = p.toks ++ all_toks ps

all_lines-onto : (t : Token) (b : Bool) (lines : List (List Token)) → all_lines (onto_lines t b lines) ≡ t ∷ all_lines lines
all_lines-onto t true lines = refl
all_lines-onto t false [] = refl
all_lines-onto t false (l ∷ ls) = refl

all_lines-of : (toks : List Token) (firsts : List Bool) → all_lines (lines_of toks firsts) ≡ toks
unfolding lines_of
all_lines-of [] firsts = refl
all_lines-of (t ∷ toks) firsts =
    all_lines-onto t (get_or firsts 1 false) (lines_of toks (drop 1 firsts)) ∙ ap (λ (l : List Token). t ∷ l) (all_lines-of toks (drop 1 firsts))

lines-fit : (c : Change) (toks : List Token) (firsts : List Bool) → Each (Fits c) toks → Each (Each (Fits c)) (lines_of toks firsts)
unfolding lines_of
lines-fit c [] firsts h = tt
lines-fit c (t ∷ toks) firsts h = onto (get_or firsts 1 false) (lines_of toks (drop 1 firsts)) (lines-fit c toks (drop 1 firsts) h.1)
  where
    onto : (b : Bool) (lines : List (List Token)) → Each (Each (Fits c)) lines → Each (Each (Fits c)) (onto_lines t b lines)
    onto true lines k = ((h.0, tt), k)
    onto false [] k = ((h.0, tt), tt)
    onto false (l ∷ ls) k = ((h.0, k.0), k.1)

-- tokens that fit, of a line of this kind, where it is a directive
pub record LineGoes (c : Change) (kind : ItemKind) (ts : List Token) : Type 0 where
  pub toks : Each (Fits c) ts
  pub line : is_run kind ≡ false → (line_kind ts ≡ kind) × KeepsLine c.renaming ts

abbrev PieceGoes : Change → Piece → Type 0
PieceGoes c p = LineGoes c p.kind p.toks

record PiecesGo (c : Change) (toks : List Token) (ps : List Piece) : Type 0 where
  all : all_toks ps ≡ toks
  each : Each (PieceGoes c) ps

onto-go : (c : Change) (line toks : List Token) (ps : List Piece) → Each (Fits c) line → KeepsLine c.renaming line → PiecesGo c toks ps
    → PiecesGo c (line ++ toks) (onto_pieces (piece (line_kind line) line) ps)
onto-go c line toks [] h keeps k = record { all = ap (λ (l : List Token). line ++ l) k.all; each = (record { toks = h; line = λ text. (refl, keeps) }, tt) }
onto-go c line toks (next ∷ ps) h keeps k =
    cond_has (PiecesGo c (line ++ toks)) (is_run (line_kind line) && is_run next.kind) (piece Run (line ++ next.toks) ∷ ps) (piece (line_kind line) line ∷ next ∷ ps)
    (record {
      all = append_assoc line next.toks (all_toks ps) ∙ ap (λ (l : List Token). line ++ l) k.all;
      each = (record { toks = each-both (Fits c) line next.toks h k.each.0.toks; line = λ text. absurd (cc) }, k.each.1);
    })
    (record { all = ap (λ (l : List Token). line ++ l) k.all; each = (record { toks = h; line = λ text. (refl, keeps) }, k.each) })

pieces-go : (c : Change) (lines : List (List Token)) → Each (Each (Fits c)) lines → Each (KeepsLine c.renaming) lines → PiecesGo c (all_lines lines) (pieces_of lines)
unfolding pieces_of
pieces-go c [] h keeps = record { all = refl; each = tt }
pieces-go c (line ∷ lines) h keeps = onto-go c line (all_lines lines) (pieces_of lines) h.0 keeps.0 (pieces-go c lines h.1 keeps.1)

-- ---- items

-- what is kept of an item
abbrev pub ItemGoes : Change → ItemText → Type 0
ItemGoes c i = LineGoes c i.kind i.toks

item-goes : (c : Change) (toks : List Token) (kind : ItemKind) (from : ℕ) (line behind : List Token) (items : List Item) → drop from toks ≡ line ++ behind → LineGoes c kind line
    → Each (ItemGoes c) (map (item_text toks) items) → Each (ItemGoes c) (map (item_text toks) (item_of kind from line ++ items))
item-goes c toks kind from [] behind items is h rest = rest
item-goes c toks kind from (t ∷ ts) behind items is h rest =
    let len : from + length (t ∷ ts) - from ≡ length (t ∷ ts) = omega arith in
    let cut : take (from + length (t ∷ ts) - from) (drop from toks) ≡ t ∷ ts =
    ap (λ (n : ℕ). take n (drop from toks)) len ∙ ap (λ (l : List Token). take (length (t ∷ ts)) l) is ∙ take-append_seam (t ∷ ts) behind in
    (subst (LineGoes c kind) (sym cut) h, rest)

items-go : (c : Change) (toks : List Token) (from : ℕ) (ps : List Piece) → PiecesGo c (drop from toks) ps → Each (ItemGoes c) (map (item_text toks) (items_from from ps))
unfolding items_from
items-go c toks from [] h = tt
items-go c toks from (p ∷ ps) h =
    let behind : all_toks ps ≡ drop (from + length p.toks) toks =
    sym (drop-append_seam p.toks (all_toks ps)) ∙ ap (λ (l : List Token). drop (length p.toks) l) h.all ∙ drop-drop (length p.toks) from toks in
    item-goes c toks p.kind from p.toks (all_toks ps) (items_from (from + length p.toks) ps) (sym h.all) h.each.0
    (items-go c toks (from + length p.toks) ps (record { all = behind; each = h.each.1 }))

pub file-items-go : (c : Change) (toks : List Token) (firsts : List Bool) → Each (Fits c) toks → Each (KeepsLine c.renaming) (lines_of toks firsts) → Each (ItemGoes c) (item_texts toks firsts)
unfolding items_of
file-items-go c toks firsts h keeps =
    items-go c toks 0 (pieces_of (lines_of toks firsts))
    (subst (λ (l : List Token). PiecesGo c l (pieces_of (lines_of toks firsts))) (all_lines-of toks firsts)
    (pieces-go c (lines_of toks firsts) (lines-fit c toks firsts h) keeps))

-- ---- the word of a directive, and the name that it takes

unless-named : (kind k : ItemKind) (at : Pos) (o : Option Cause) → takes_name k ≡ true → kind_unless o at kind ≡ k → (kind ≡ k) × (o ≡ None)
unless-named kind k at None takes is = (is, refl)
unless-named kind k at (Some cause) takes is =
    let no : takes_name (Bad cause at (nests_when_bad kind)) ≡ true = ap takes_name is ∙ takes in absurd (cc)

first-named : (kind : ItemKind) (name : Token) (operands : List Token) → takes_name kind ≡ true → cause_on kind (name ∷ operands) ≡ None → is_name name ≡ true
unfolding cause_on
first-named kind name operands takes none = elim (cases_Bool (is_name name)) [
  | inl is ↦ is
  | inr is_not ↦ let some = rw (takes, is_not) at none in absurd (cc)
]

-- Of a line that takes a name: the `#`, the word, and the name.
pub record TakesName (k : ItemKind) (first second third : Token) : Type 0 where
  pub hash : is_hash first ≡ true
  pub word : directive_named second ≡ Some k
  pub name : is_name third ≡ true

operand-named : (k : ItemKind) (at : Pos) (hash word name : Token) (o : Option ItemKind) (operands : List Token) → takes_name k ≡ true → is_hash hash ≡ true → directive_named word ≡ o
    → named_kind o at (name ∷ operands) ≡ k → TakesName k hash word name
operand-named k at hash word name None operands takes hashed at_word is = let no = ap takes_name is ∙ takes in absurd (cc)
operand-named k at hash word name (Some kind) operands takes hashed at_word is =
    let both = unless-named kind k at (cause_on kind (name ∷ operands)) takes is in
    record {
      hash = hashed;
      word = at_word ∙ ap (λ (x : ItemKind). Some x) both.0;
      name = first-named kind name operands (ap takes_name both.0 ∙ takes) both.1;
    }

pub takes-name : (k : ItemKind) (hash word name : Token) (operands : List Token) → takes_name k ≡ true → line_kind (hash ∷ word ∷ name ∷ operands) ≡ k → TakesName k hash word name
unfolding directive_kind
takes-name k hash word name operands takes is = elim (cases_Bool (is_hash hash)) [
  | inl hashed ↦ operand-named k hash.at hash word name (directive_named word) operands takes hashed refl (rw hashed at is)
  | inr other ↦ let run : Run ≡ k = rw other at is in let bad = ap takes_name run ∙ takes in absurd (cc)
]

-- ---- the header of a line that asks for the next file of its name

-- a kind that no bad line has is that of the word
abbrev IsGood : ItemKind → Type 0
IsGood k = (cause : Cause) (at : Pos) (nests : Bool) → Bad cause at nests ≡ k → ⊥

unless-good : (k kind : ItemKind) (at : Pos) (o : Option Cause) → IsGood k → kind_unless o at kind ≡ k → kind ≡ k
unless-good k kind at None good is = is
unless-good k kind at (Some cause) good is = absurd (good cause at (nests_when_bad kind) is)

named-good : (k : ItemKind) (o : Option ItemKind) (at : Pos) (operands : List Token) → IsGood k → named_kind o at operands ≡ k → o ≡ Some k
named-good k None at operands good is = absurd (good UnknownDirective at false is)
named-good k (Some kind) at operands good is = ap (λ (z : ItemKind). Some z) (unless-good k kind at (cause_on kind operands) good is)

pub next-kept : (c : Change) (toks : List Token) → line_kind toks ≡ Gnu IncludeNext → KeepsLine c.renaming toks
    → begins_header (drop 2 toks) ≡ true → header_at (map (renamed c.renaming) (drop 2 toks)) ≡ header_at (drop 2 toks)
unfolding directive_kind
next-kept c [] is keeps begins = refl
next-kept c (hash ∷ []) is keeps begins = refl
next-kept c (hash ∷ word ∷ operands) is keeps begins = elim (cases_Bool (is_hash hash)) [
  | inl hashed ↦
      let named : directive_named word ≡ Some (Gnu IncludeNext) = named-good (Gnu IncludeNext) (directive_named word) hash.at operands (λ cause at nests e. cc) (rw hashed at is) in
      let asks : asks_next word ≡ true = rw named refl in
      (keeps hashed).2 asks begins
  | inr other ↦ let run : Run ≡ Gnu IncludeNext = rw other at is in absurd (cc)
]

-- ---- whether a pragma says that its file is read once

pub pragma-kept : (c : Change) (toks : List Token) → line_kind toks ≡ Pragma → KeepsLine c.renaming toks
    → says_once (map (renamed c.renaming) toks) ≡ says_once toks
unfolding directive_kind
pragma-kept c [] is keeps = refl
pragma-kept c (hash ∷ []) is keeps = refl
pragma-kept c (hash ∷ word ∷ operands) is keeps = elim (cases_Bool (is_hash hash)) [
  | inl hashed ↦
      let named : directive_named word ≡ Some Pragma = named-good Pragma (directive_named word) hash.at operands (λ cause at nests e. cc) (rw hashed at is) in
      let begins : begins_pragma word ≡ true = rw named refl in
      (keeps hashed).3 begins
  | inr other ↦ let run : Run ≡ Pragma = rw other at is in absurd (cc)
]
