-- The item of a line from which something is taken.
use Rattle.std.proofs.Common.{◌≡◌, ℕ, Bool, true, false, List, [], ◌∷◌, ◌++◌, length, drop, Option, Some, None, inl, inr, refl, sym, ap, subst, ◌∙◌, arith, append-nil}
use Rattle.std.specs.Option.{option_map_or}
use Rattle.std.proofs.lemmas.Bool.{cases_Bool, both_ways}
use Rattle.cs_base.specs.declared.causes.Cause.{Cause}
use Rattle.cs_base.specs.declared.positions.Pos.{Pos}
use Rattle.cs_base.specs.Token.{Token}
use Rattle.lexer.specs.Logical.{logical_of}
use Rattle.lexer.specs.Order.{InOrder}
use Rattle.lexer.specs.Tokens.{tokens_of, firsts_of}
use Rattle.lexer.proofs.OrderLemmas.{tokens_of-in_order}
use Rattle.line_shape.specs.declared.items.ItemKind.{ItemKind}
use Rattle.line_shape.specs.declared.items.ItemKind.TheVariants as kind
use Rattle.line_shape.specs.BadLines.{cause_on}
use Rattle.line_shape.specs.Directives.{directive_named, is_run, is_define}
use Rattle.line_shape.specs.Items.{lines_of, kind_unless, directive_kind, line_kind, Piece, piece, onto_pieces, pieces_of, items_of}
use Rattle.line_shape.specs.Signs.{is_hash}
use Rattle.include_tree.specs.Walk.{ItemText, item_texts}
use Rattle.edited_unit_laws.specs.Lines.{defines}
use Rattle.unit_laws.specs.UnitItems.{taken}
use Rattle.edited_unit_laws.proofs.ListLemmas.{In, AllOf, all_at}
use Rattle.rename_meaning.proofs.DirectiveLemmas.{in_more, either, first_or, none_in, in_drop, together, lines-together, Between, order_between, split_order, in_together, all_toks, pieces-toks, texts_from, taken_from}

-- ---- lines

-- the line on which a token stands is one
same_line : (from to : ℕ) (lines : List (List Token)) (first second : List Token) (v w : Token) → InOrder from to (together lines) → In first lines → In second lines
    → In v first → In w second → v.at.at ≡ w.at.at → first ≡ second
same_line from to [] first second v w order i j p q same = absurd (none_in first i)
same_line from to (l ∷ lines) first second v w order i j p q same =
    let r = split_order from to l (together lines) order in
    let front : Between from r.0 l = order_between from r.0 l r.1 in
    let back : Between r.0 to (together lines) = order_between r.0 to (together lines) r.2 in
    elim (first_or first l lines i) [
      | inl one ↦ elim (first_or second l lines j) [
        | inl two ↦ sym one ∙ two
        | inr later ↦
            let here : In v l = subst (λ (x : List Token). In v x) (sym one) p in
            let a = (front v here).1 in
            let b = (back w (in_together lines second w later q)).0 in
            absurd (omega arith)
      ]
      | inr after ↦ elim (first_or second l lines j) [
        | inl two ↦
            let here : In w l = subst (λ (x : List Token). In w x) (sym two) q in
            let a = (front w here).1 in
            let b = (back v (in_together lines first v after p)).0 in
            absurd (omega arith)
        | inr later ↦ same_line r.0 to lines first second v w r.2 after later p q same
      ]
    ]

-- ---- pieces

-- What is known of a piece: a run has the tokens of text lines, and anything else is one directive line.
pub record IsOfLines (lines : List (List Token)) (p : Piece) : Type 0 where
  pub run : is_run p.kind ≡ true → (t : Token) → In t p.toks → (l : List Token) × In l lines × In t l × (is_run (line_kind l) ≡ true)
  pub line : is_run p.kind ≡ false → (l : List Token) × In l lines × (p.kind ≡ line_kind l) × (p.toks ≡ l)

of_later : (l : List Token) (lines : List (List Token)) (p : Piece) → IsOfLines lines p → IsOfLines (l ∷ lines) p
of_later l lines p h = record {
  run = λ run t i. (let r = h.run run t i in (r.0, in_more r.0 l lines r.1, r.2, r.3));
  line = λ other. (let r = h.line other in (r.0, in_more r.0 l lines r.1, r.2, r.3));
}

all_later : (l : List Token) (lines : List (List Token)) (ps : List Piece) → AllOf (IsOfLines lines) ps → AllOf (IsOfLines (l ∷ lines)) ps
all_later l lines [] h = tt
all_later l lines (p ∷ ps) h = (of_later l lines p h.0, all_later l lines ps h.1)

of_first : (l : List Token) (lines : List (List Token)) → IsOfLines (l ∷ lines) (piece (line_kind l) l)
of_first l lines = record {
  run = λ run t i. (l, (0, refl), i, run);
  line = λ other. (l, (0, refl), refl, refl);
}

of_onto : (l : List Token) (lines : List (List Token)) (ps : List Piece) → AllOf (IsOfLines lines) ps
    → AllOf (IsOfLines (l ∷ lines)) (onto_pieces (piece (line_kind l) l) ps)
of_onto l lines [] h = (of_first l lines, tt)
of_onto l lines (next ∷ ps) h = elim (cases_Bool (is_run (line_kind l))) [
  | inl run ↦ elim (cases_Bool (is_run next.kind)) [
    | inl also ↦
        let joined : IsOfLines (l ∷ lines) (piece kind.Run (l ++ next.toks)) = record {
          run = λ is t i. elim (either t l next.toks i.0 i.1) [
            | inl front ↦ (of_first l lines).run run t front
            | inr back ↦ (of_later l lines next h.0).run also t back
          ];
          line = λ other. absurd (let no : true ≡ false = other in cc);
        } in
        rw (run, also) (joined, all_later l lines ps h.1)
    | inr other ↦ rw (run, other) (of_first l lines, (of_later l lines next h.0, all_later l lines ps h.1))
  ]
  | inr directive ↦ rw directive (of_first l lines, (of_later l lines next h.0, all_later l lines ps h.1))
]

pieces_of_lines : (lines : List (List Token)) → AllOf (IsOfLines lines) (pieces_of lines)
unfolding pieces_of
pieces_of_lines [] = tt
pieces_of_lines (l ∷ lines) = of_onto l lines (pieces_of lines) (pieces_of_lines lines)

-- ---- items

taken_in : (k : ItemKind) (evaluated : Bool) (toks : List Token) (t : Token) → In t (taken k evaluated toks) → In t toks
taken_in k evaluated toks t i = elim (taken_from k evaluated toks t i) [
  | inl run ↦ run.1
  | inr directive ↦ in_drop t 2 toks directive.1
]

-- The item from which a token of a directive line is taken is that line.
pub item_is_line : (file : ℕ) (bytes : List ℕ) (i : ItemText) (evaluated : Bool) (line : List Token) (w : Token)
    → In i (item_texts (tokens_of file bytes) (firsts_of bytes)) → In w (taken i.kind evaluated i.toks)
    → In line (lines_of (tokens_of file bytes) (firsts_of bytes)) → In w line → is_run (line_kind line) ≡ false
    → (i.kind ≡ line_kind line) × (i.toks ≡ line)
unfolding items_of
item_is_line file bytes i evaluated line w there from in_lines is_in directive =
    let toks = tokens_of file bytes in
    let firsts = firsts_of bytes in
    let lines = lines_of toks firsts in
    let ps = pieces_of lines in
    let order : InOrder 0 (length (logical_of bytes)) (together lines) =
    subst (λ (ts : List Token). InOrder 0 (length (logical_of bytes)) ts) (sym (lines-together toks firsts)) (tokens_of-in_order file bytes) in
    let whole : drop 0 toks ≡ all_toks ps ++ [] = sym (lines-together toks firsts) ∙ sym (pieces-toks lines) ∙ sym (append-nil (all_toks ps)) in
    let is = texts_from toks 0 ps [] whole i there in
    let own : Piece = is.own in
    let h : IsOfLines lines own = all_at (IsOfLines lines) ps (pieces_of_lines lines) own is.among in
    let here : In w own.toks = subst (λ (ts : List Token). In w ts) is.toks (taken_in i.kind evaluated i.toks w from) in
    elim (cases_Bool (is_run own.kind)) [
      | inl run ↦
          let r = h.run run w here in
          let one : r.0 ≡ line = same_line 0 (length (logical_of bytes)) lines r.0 line w w order r.1 in_lines r.2 is_in refl in
          absurd (both_ways (is_run (line_kind line)) directive (ap (λ (l : List Token). is_run (line_kind l)) (sym one) ∙ r.3))
      | inr other ↦
          let r = h.line other in
          let in_r : In w r.0 = subst (λ (ts : List Token). In w ts) r.3 here in
          let one : r.0 ≡ line = same_line 0 (length (logical_of bytes)) lines r.0 line w w order r.1 in_lines in_r is_in refl in
          (is.kind ∙ r.2 ∙ ap line_kind one, is.toks ∙ r.3 ∙ one)
    ]

-- ---- `define` lines

define_kind : (k : ItemKind) → is_define k ≡ true → k ≡ kind.Define
define_kind kind.Define is = refl
define_kind _ is = absurd (cc)

named_define : (o : Option ItemKind) → option_map_or is_define o false ≡ true → o ≡ Some kind.Define
named_define None is = absurd (cc)
named_define (Some k) is = ap (λ (x : ItemKind). Some x) (define_kind k is)

-- it is a definition, or a bad line, from which nothing is taken
abbrev pub DefinesOrBad : ItemKind → Type 0
DefinesOrBad k = (is_run k ≡ false) × ((evaluated : Bool) (toks : List Token) (w : Token) → In w (taken k evaluated toks) → k ≡ kind.Define)

unless_bad : (c : Option Cause) (at : Pos) → DefinesOrBad (kind_unless c at kind.Define)
unless_bad None at = (refl, λ evaluated toks w i. refl)
unless_bad (Some cause) at = (refl, λ evaluated toks w i. absurd (none_in w i))

pub define_line : (hash word : Token) (operands : List Token) → is_hash hash ≡ true → defines word ≡ true → DefinesOrBad (line_kind (hash ∷ word ∷ operands))
unfolding directive_kind
define_line hash word operands is def =
    let named : directive_named word ≡ Some kind.Define = named_define (directive_named word) def in
    rw is (rw named (unless_bad (cause_on kind.Define operands) hash.at))
