-- The items of a file stay where tokens inside its runs change.
use Rattle.std.proofs.Common.{◌≡◌, ℕ, suc, ◌+◌, ◌≤◌, Bool, true, false, not, ◌&&◌, ◌||◌, cond, List, [], ◌∷◌, ◌++◌, length, take, drop, inl, inr, refl, sym, ap, subst, ◌∙◌, arith, append_assoc, take-append-drop, length-drop, length-take-le}
use Rattle.std.specs.List.{list_any, onto_first}
use Rattle.std.proofs.lemmas.Bool.{cases_Bool, and_parts}
use Rattle.cs_base.specs.Token.{Token}
use Rattle.cs_base.proofs.BoolLemmas.{not_both as true_false}
use Rattle.line_shape.specs.declared.items.Item.{Item}
use Rattle.line_shape.specs.declared.items.ItemKind.{ItemKind}
use Rattle.line_shape.specs.declared.items.ItemKind.TheVariants.{Run}
use Rattle.line_shape.specs.Signs.{is_hash}
use Rattle.line_shape.specs.Directives.{is_run}
use Rattle.line_shape.specs.Items.{lines_of, line_kind, Piece, piece, onto_pieces, pieces_of, last_of, item_of, items_from, items_of}
use Rattle.line_shape.proofs.KindLemmas.{is_run-line_kind}
use Rattle.line_shape.proofs.PieceLemmas.{onto_pieces-directive as onto_other}
use Rattle.list_cuts.specs.Cuts.{done, keep, list, Items, count_of, span_of, extent_of, IsOrder, picked, woven, gaps_of, arranged, items_of as cut_items_of, AreItemsOf}
use Rattle.list_cuts.proofs.CutLemmas.{any-arranged, items_of-append, gaps_of-append, short-drop}
use Rattle.arranged_text_laws.proofs.OutsideLemmas.{weave_of, list_arranged, woven_long}
use Rattle.arranged_text_laws.specs.Runs.{Placed, begins_directive, in_text, goes_on, SameButInRuns, SameFile, toks_of, firsts_of, text_behind, ItemsStay, RunsMove}

-- ---- lines

-- the tokens of the line of a token, from it on, and the lines behind it
abbrev pub line_from : Token → List Placed → List Token
line_from t [] = t ∷ []
line_from t (q ∷ qs) = cond q.first (t ∷ []) (t ∷ line_from q.tok qs)

abbrev pub all_lines : List Placed → List (List Token)
all_lines ps = lines_of (toks_of ps) (firsts_of ps)

abbrev pub later_lines : List Placed → List (List Token)
later_lines [] = []
later_lines (q ∷ qs) = cond q.first (all_lines (q ∷ qs)) (later_lines qs)

pub one_line : (p : Placed) (ps : List Placed) → all_lines (p ∷ ps) ≡ line_from p.tok ps ∷ later_lines ps
unfolding lines_of
one_line p [] = refl
one_line p (q ∷ qs) =
    elim (cases_Bool q.first) [
      | inl first ↦ rw first refl
      | inr on ↦ rw on (ap (onto_first p.tok) (one_line q qs))
    ]

pub head_line : (t : Token) (ps : List Placed) → (r : List Token) × (line_from t ps ≡ t ∷ r)
head_line t [] = ([], refl)
head_line t (q ∷ qs) =
    elim (cases_Bool q.first) [
      | inl first ↦ ([], rw first refl)
      | inr on ↦ (line_from q.tok qs, rw on refl)
    ]

-- ---- runs

-- the tokens of a run from here on, and what stands behind it
abbrev pub run_in : List Placed → List Token
run_in [] = []
run_in (p ∷ ps) = cond (begins_directive p) [] (p.tok ∷ run_in ps)

abbrev pub behind_run : List Placed → List Placed
behind_run [] = []
behind_run (p ∷ ps) = cond (begins_directive p) (p ∷ ps) (behind_run ps)

abbrev pub all_pieces : List Placed → List Piece
all_pieces ps = pieces_of (all_lines ps)

line_pieces : (p : Placed) (ps : List Placed)
    → all_pieces (p ∷ ps) ≡ onto_pieces (piece (line_kind (line_from p.tok ps)) (line_from p.tok ps)) (pieces_of (later_lines ps))
unfolding pieces_of
line_pieces p ps = ap pieces_of (one_line p ps)

pub kind_of_line : (t : Token) (ps : List Placed) → is_run (line_kind (line_from t ps)) ≡ not (is_hash t)
kind_of_line t ps =
    let h = head_line t ps in
    ap (λ (l : List Token). is_run (line_kind l)) h.1 ∙ is_run-line_kind t h.0

pub text_line : (t : Token) (ps : List Placed) → is_hash t ≡ false → line_kind (line_from t ps) ≡ Run
text_line t ps h = let l = head_line t ps in ap line_kind l.1 ∙ rw h refl

run_before : (toks : List Token) (line : Piece) (pieces : List Piece) → is_run line.kind ≡ false
    → onto_pieces (piece Run toks) (onto_pieces line pieces) ≡ piece Run toks ∷ onto_pieces line pieces
run_before toks line pieces h = rw (onto_other line pieces h) (rw h refl)

-- a run goes on to the next directive
run_pieces : (u : List Token) (t : Token) (ps : List Placed)
    → onto_pieces (piece Run (u ++ line_from t ps)) (pieces_of (later_lines ps)) ≡ piece Run (u ++ t ∷ run_in ps) ∷ all_pieces (behind_run ps)
unfolding pieces_of lines_of
run_pieces u t [] = refl
run_pieces u t (q ∷ qs) =
    elim (cases_Bool q.first) [
      | inr on ↦
          let text = append_assoc u (t ∷ []) (line_from q.tok qs) in
          let out = append_assoc u (t ∷ []) (q.tok ∷ run_in qs) in
          rw on (ap (λ (l : List Token). onto_pieces (piece Run l) (pieces_of (later_lines qs))) (sym text) ∙ run_pieces (u ++ t ∷ []) q.tok qs
          ∙ ap (λ (l : List Token). piece Run l ∷ all_pieces (behind_run qs)) out)
      | inl first ↦ elim (cases_Bool (is_hash q.tok)) [
        | inl hash ↦
            let none : is_run (line_kind (line_from q.tok qs)) ≡ false = kind_of_line q.tok qs ∙ rw hash refl in
            rw (first, hash)
            (ap (onto_pieces (piece Run (u ++ t ∷ []))) (line_pieces q qs)
            ∙ run_before (u ++ t ∷ []) (piece (line_kind (line_from q.tok qs)) (line_from q.tok qs)) (pieces_of (later_lines qs)) none
            ∙ ap (λ (l : List Piece). piece Run (u ++ t ∷ []) ∷ l) (sym (line_pieces q qs)))
        | inr text ↦
            rw (first, text)
            (ap (onto_pieces (piece Run (u ++ t ∷ []))) (line_pieces q qs
            ∙ ap (λ (k : ItemKind). onto_pieces (piece k (line_from q.tok qs)) (pieces_of (later_lines qs))) (text_line q.tok qs text) ∙ run_pieces [] q.tok qs)
            ∙ ap (λ (l : List Token). piece Run l ∷ all_pieces (behind_run qs)) (append_assoc u (t ∷ []) (q.tok ∷ run_in qs)))
      ]
    ]

pub start_run : (p : Placed) (ps : List Placed) → is_hash p.tok ≡ false → all_pieces (p ∷ ps) ≡ piece Run (p.tok ∷ run_in ps) ∷ all_pieces (behind_run ps)
start_run p ps h =
    line_pieces p ps ∙ ap (λ (k : ItemKind). onto_pieces (piece k (line_from p.tok ps)) (pieces_of (later_lines ps))) (text_line p.tok ps h) ∙ run_pieces [] p.tok ps

pub start_directive : (p : Placed) (ps : List Placed) → is_hash p.tok ≡ true
    → all_pieces (p ∷ ps) ≡ piece (line_kind (line_from p.tok ps)) (line_from p.tok ps) ∷ pieces_of (later_lines ps)
start_directive p ps h =
    line_pieces p ps ∙ onto_other (piece (line_kind (line_from p.tok ps)) (line_from p.tok ps)) (pieces_of (later_lines ps)) (kind_of_line p.tok ps ∙ rw h refl)

-- ---- pieces of one shape

-- Pieces of one kind, as long, with the same first token and the same last.
record SamePiece (p q : Piece) : Type 0 where
  kind : q.kind ≡ p.kind
  long : length q.toks ≡ length p.toks
  items : (from : ℕ) → item_of q.kind from q.toks ≡ item_of p.kind from p.toks

abbrev SamePieces : List Piece → List Piece → Type 0
SamePieces [] [] = Unit {0}
SamePieces (p ∷ ps) (q ∷ qs) = SamePiece p q × SamePieces ps qs
SamePieces _ _ = ⊥

pieces_items : (from : ℕ) (ps qs : List Piece) → SamePieces ps qs → items_from from qs ≡ items_from from ps
unfolding items_from
pieces_items from [] [] same = refl
pieces_items from [] (q ∷ qs) same = absurd same
pieces_items from (p ∷ ps) [] same = absurd same
pieces_items from (p ∷ ps) (q ∷ qs) same =
    ap (λ (is : List Item). is ++ items_from (from + length q.toks) qs) (same.0.items from)
    ∙ ap (λ (n : ℕ). item_of p.kind from p.toks ++ items_from (from + n) qs) same.0.long
    ∙ ap (λ (is : List Item). item_of p.kind from p.toks ++ is) (pieces_items (from + length p.toks) ps qs same.1)

equal_piece : (p q : Piece) → q ≡ p → SamePiece p q
equal_piece p q e = record {
  kind = ap (λ (x : Piece). x.kind) e;
  long = ap (λ (x : Piece). length x.toks) e;
  items = λ from. ap (λ (x : Piece). item_of x.kind from x.toks) e;
}

-- a run of as many tokens with the same first and the same last
run_piece : (t : Token) (r s : List Token) → length s ≡ length r → last_of t s ≡ last_of t r → SamePiece (piece Run (t ∷ r)) (piece Run (t ∷ s))
run_piece t r s long last = record {
  kind = refl;
  long = ap (λ (n : ℕ). suc n) long;
  items = λ from.
      ap (λ (l : Token). record { kind = Run; at = t.at; first_line = t.line; last_line = l.line; from = from; to = from + length (t ∷ s) } ∷ []) last
      ∙ ap (λ (n : ℕ). record { kind = Run; at = t.at; first_line = t.line; last_line = (last_of t r).line; from = from; to = from + suc n } ∷ []) long;
}

-- ---- the walk

-- What is known of tokens that are the same but in runs.
record Shape (text : Bool) (ps qs : List Placed) : Type 0 where
  long : text ≡ true → length (run_in qs) ≡ length (run_in ps)
  last : text ≡ true → (t : Token) → last_of t (run_in qs) ≡ last_of t (run_in ps)
  inner : text ≡ true → goes_on ps ≡ true → goes_on qs ≡ true → (t u : Token) → last_of u (run_in qs) ≡ last_of t (run_in ps)
  behind : text ≡ true → SamePieces (all_pieces (behind_run ps)) (all_pieces (behind_run qs))
  line : text ≡ false → (t : Token) → line_from t qs ≡ line_from t ps
  later : text ≡ false → SamePieces (pieces_of (later_lines ps)) (pieces_of (later_lines qs))

-- a token with which a line begins, and what stands behind it
start_shape : (p : Placed) (ps qs : List Placed) → Shape (not (is_hash p.tok)) ps qs → SamePieces (all_pieces (p ∷ ps)) (all_pieces (p ∷ qs))
start_shape p ps qs s =
    elim (cases_Bool (is_hash p.tok)) [
      | inl hash ↦
          let no_text : not (is_hash p.tok) ≡ false = rw hash refl in
          let lines = s.line no_text p.tok in
          let one : piece (line_kind (line_from p.tok qs)) (line_from p.tok qs) ≡ piece (line_kind (line_from p.tok ps)) (line_from p.tok ps) =
          ap (λ (l : List Token). piece (line_kind l) l) lines in
          rw (start_directive p ps hash, start_directive p qs hash)
          (equal_piece (piece (line_kind (line_from p.tok ps)) (line_from p.tok ps)) (piece (line_kind (line_from p.tok qs)) (line_from p.tok qs)) one, s.later no_text)
      | inr text ↦
          let is : not (is_hash p.tok) ≡ true = rw text refl in
          rw (start_run p ps text, start_run p qs text) (run_piece p.tok (run_in ps) (run_in qs) (s.long is) (s.last is p.tok), s.behind is)
    ]

pub same_text : (text : Bool) (p : Placed) → p.first ≡ true → in_text text p ≡ not (is_hash p.tok)
same_text text p first = ap (λ b. cond b (not (is_hash p.tok)) text) first

pub same_line : (text : Bool) (p : Placed) → p.first ≡ false → in_text text p ≡ text
same_line text p on = ap (λ b. cond b (not (is_hash p.tok)) text) on

-- the first of these tokens, which begins a directive or not, a line or not
pub run_start : (p : Placed) (ps : List Placed) → begins_directive p ≡ true → run_in (p ∷ ps) ≡ []
run_start p ps h = ap (λ b. cond b [] (p.tok ∷ run_in ps)) h

pub run_on : (p : Placed) (ps : List Placed) → begins_directive p ≡ false → run_in (p ∷ ps) ≡ p.tok ∷ run_in ps
run_on p ps h = ap (λ b. cond b [] (p.tok ∷ run_in ps)) h

pub behind_start : (p : Placed) (ps : List Placed) → begins_directive p ≡ true → behind_run (p ∷ ps) ≡ p ∷ ps
behind_start p ps h = ap (λ b. cond b (p ∷ ps) (behind_run ps)) h

pub behind_on : (p : Placed) (ps : List Placed) → begins_directive p ≡ false → behind_run (p ∷ ps) ≡ behind_run ps
behind_on p ps h = ap (λ b. cond b (p ∷ ps) (behind_run ps)) h

pub later_start : (p : Placed) (ps : List Placed) → p.first ≡ true → later_lines (p ∷ ps) ≡ all_lines (p ∷ ps)
later_start p ps h = ap (λ b. cond b (all_lines (p ∷ ps)) (later_lines ps)) h

pub later_on : (p : Placed) (ps : List Placed) → p.first ≡ false → later_lines (p ∷ ps) ≡ later_lines ps
later_on p ps h = ap (λ b. cond b (all_lines (p ∷ ps)) (later_lines ps)) h

pub line_start_at : (t : Token) (p : Placed) (ps : List Placed) → p.first ≡ true → line_from t (p ∷ ps) ≡ t ∷ []
line_start_at t p ps h = ap (λ b. cond b (t ∷ []) (t ∷ line_from p.tok ps)) h

pub line_on : (t : Token) (p : Placed) (ps : List Placed) → p.first ≡ false → line_from t (p ∷ ps) ≡ t ∷ line_from p.tok ps
line_on t p ps h = ap (λ b. cond b (t ∷ []) (t ∷ line_from p.tok ps)) h

-- a token that begins no directive stands in a text line where the one before it does
pub goes_text : (text : Bool) (p : Placed) → text ≡ true → begins_directive p ≡ false → in_text text p ≡ true
goes_text text p is none =
    elim (cases_Bool p.first) [
      | inl first ↦
          let no_hash : is_hash p.tok ≡ false = ap (λ b. b && is_hash p.tok) (sym first) ∙ none in
          same_text text p first ∙ ap not no_hash
      | inr on ↦ same_line text p on ∙ is
    ]

pub begins_first : (p : Placed) → begins_directive p ≡ true → p.first ≡ true
begins_first p h = (and_parts p.first (is_hash p.tok) h).0

no_start : (p : Placed) (ps : List Placed) → begins_directive p ≡ true → goes_on (p ∷ ps) ≡ true → ⊥
no_start p ps h on = let nost : not true ≡ true = ap not (sym h) ∙ on in absurd cc

-- pieces of lists that are these
pieces_at : (xs ys zs ws : List Placed) → xs ≡ ys → zs ≡ ws → SamePieces (all_pieces ys) (all_pieces ws) → SamePieces (all_pieces xs) (all_pieces zs)
pieces_at xs ys zs ws e g same =
    subst (λ (x : List Placed). SamePieces (all_pieces x) (all_pieces zs)) (sym e)
    (subst (λ (z : List Placed). SamePieces (all_pieces ys) (all_pieces z)) (sym g) same)

lines_at : (xs ys zs ws : List (List Token)) → xs ≡ ys → zs ≡ ws → SamePieces (pieces_of ys) (pieces_of ws) → SamePieces (pieces_of xs) (pieces_of zs)
lines_at xs ys zs ws e g same =
    subst (λ (x : List (List Token)). SamePieces (pieces_of x) (pieces_of zs)) (sym e)
    (subst (λ (z : List (List Token)). SamePieces (pieces_of ys) (pieces_of z)) (sym g) same)

last_at : (t u : Token) (r s r2 s2 : List Token) → r ≡ r2 → s ≡ s2 → last_of u s2 ≡ last_of t r2 → last_of u s ≡ last_of t r
last_at t u r s r2 s2 e g same = ap (last_of u) g ∙ same ∙ ap (last_of t) (sym e)

-- the same token
same_shape : (text : Bool) (p : Placed) (ps qs : List Placed) → Shape (in_text text p) ps qs → Shape text (p ∷ ps) (p ∷ qs)
same_shape text p ps qs s =
    let start = λ (first : p.first ≡ true). start_shape p ps qs (subst (λ (b : Bool). Shape b ps qs) (same_text text p first) s) in
    record {
      long = λ is. elim (cases_Bool (begins_directive p)) [
        | inl h ↦ ap length (run_start p qs h) ∙ sym (ap length (run_start p ps h))
        | inr h ↦ ap length (run_on p qs h) ∙ ap (λ (n : ℕ). suc n) (s.long (goes_text text p is h)) ∙ sym (ap length (run_on p ps h))
      ];
      last = λ is t. elim (cases_Bool (begins_directive p)) [
        | inl h ↦ last_at t t (run_in (p ∷ ps)) (run_in (p ∷ qs)) [] [] (run_start p ps h) (run_start p qs h) refl
        | inr h ↦ last_at t t (run_in (p ∷ ps)) (run_in (p ∷ qs)) (p.tok ∷ run_in ps) (p.tok ∷ run_in qs) (run_on p ps h) (run_on p qs h) (s.last (goes_text text p is h) p.tok)
      ];
      inner = λ is on on2 t u. elim (cases_Bool (begins_directive p)) [
        | inl h ↦ absurd (no_start p ps h on)
        | inr h ↦ last_at t u (run_in (p ∷ ps)) (run_in (p ∷ qs)) (p.tok ∷ run_in ps) (p.tok ∷ run_in qs) (run_on p ps h) (run_on p qs h) (s.last (goes_text text p is h) p.tok)
      ];
      behind = λ is. elim (cases_Bool (begins_directive p)) [
        | inl h ↦ pieces_at (behind_run (p ∷ ps)) (p ∷ ps) (behind_run (p ∷ qs)) (p ∷ qs) (behind_start p ps h) (behind_start p qs h) (start (begins_first p h))
        | inr h ↦ pieces_at (behind_run (p ∷ ps)) (behind_run ps) (behind_run (p ∷ qs)) (behind_run qs) (behind_on p ps h) (behind_on p qs h) (s.behind (goes_text text p is h))
      ];
      line = λ is t. elim (cases_Bool p.first) [
        | inl first ↦ line_start_at t p qs first ∙ sym (line_start_at t p ps first)
        | inr on ↦ line_on t p qs on ∙ ap (λ (l : List Token). t ∷ l) (s.line (same_line text p on ∙ is) p.tok) ∙ sym (line_on t p ps on)
      ];
      later = λ is. elim (cases_Bool p.first) [
        | inl first ↦ lines_at (later_lines (p ∷ ps)) (all_lines (p ∷ ps)) (later_lines (p ∷ qs)) (all_lines (p ∷ qs)) (later_start p ps first) (later_start p qs first) (start first)
        | inr on ↦ lines_at (later_lines (p ∷ ps)) (later_lines ps) (later_lines (p ∷ qs)) (later_lines qs) (later_on p ps on) (later_on p qs on) (s.later (same_line text p on ∙ is))
      ];
    }

-- tokens inside a run
free_shape : (text : Bool) (p q : Placed) (ps qs : List Placed) → text ≡ true → begins_directive p ≡ false → begins_directive q ≡ false → goes_on ps ≡ true
    → goes_on qs ≡ true → Shape true ps qs → Shape text (p ∷ ps) (q ∷ qs)
free_shape text p q ps qs is hp hq on on2 s =
    let ends = s.inner refl on on2 p.tok q.tok in
    record {
      long = λ _. ap length (run_on q qs hq) ∙ ap (λ (n : ℕ). suc n) (s.long refl) ∙ sym (ap length (run_on p ps hp));
      last = λ _ t. last_at t t (run_in (p ∷ ps)) (run_in (q ∷ qs)) (p.tok ∷ run_in ps) (q.tok ∷ run_in qs) (run_on p ps hp) (run_on q qs hq) ends;
      inner = λ _ _ _ t u. last_at t u (run_in (p ∷ ps)) (run_in (q ∷ qs)) (p.tok ∷ run_in ps) (q.tok ∷ run_in qs) (run_on p ps hp) (run_on q qs hq) ends;
      behind = λ _. pieces_at (behind_run (p ∷ ps)) (behind_run ps) (behind_run (q ∷ qs)) (behind_run qs) (behind_on p ps hp) (behind_on q qs hq) (s.behind refl);
      line = λ no t. absurd (true_false text is no);
      later = λ no. absurd (true_false text is no);
    }

no_shape : (text : Bool) → Shape text [] []
unfolding pieces_of lines_of
no_shape text = record {
  long = λ is. refl;
  last = λ is t. refl;
  inner = λ is on on2 t u. absurd cc;
  behind = λ is. tt;
  line = λ is t. refl;
  later = λ is. tt;
}

shape : (text : Bool) (ps qs : List Placed) → SameButInRuns text ps qs → Shape text ps qs
shape text [] [] same = no_shape text
shape text [] (q ∷ qs) same = absurd same
shape text (p ∷ ps) [] same = absurd same
shape text (p ∷ ps) (q ∷ qs) same =
    elim same [
      | inl one ↦ subst (λ (x : Placed). Shape text (p ∷ ps) (x ∷ qs)) (sym one.0) (same_shape text p ps qs (shape (in_text text p) ps qs one.1))
      | inr two ↦ free_shape text p q ps qs two.0 two.1 two.2 two.3 two.4 (shape true ps qs two.5)
    ]

items_same : (ps qs : List Placed) → SameFile ps qs → items_from 0 (all_pieces qs) ≡ items_from 0 (all_pieces ps)
items_same [] [] same = refl
items_same [] (q ∷ qs) same = absurd same
items_same (p ∷ ps) [] same = absurd same
items_same (p ∷ ps) (q ∷ qs) same =
    subst (λ (x : Placed). items_from 0 (all_pieces (x ∷ qs)) ≡ items_from 0 (all_pieces (p ∷ ps))) (sym same.0)
    (pieces_items 0 (all_pieces (p ∷ ps)) (all_pieces (p ∷ qs)) (start_shape p ps qs (shape (not (is_hash p.tok)) ps qs same.1)))

pub items_stay : ItemsStay
unfolding items_of
items_stay = items_same

-- ---- lists in runs

same_all : (text : Bool) (ps : List Placed) → SameButInRuns text ps ps
same_all text [] = tt
same_all text (p ∷ ps) = inl (refl, same_all (in_text text p) ps)

same_append : (text : Bool) (bs xs ys : List Placed) → SameButInRuns (text_behind text bs) xs ys → SameButInRuns text (bs ++ xs) (bs ++ ys)
same_append text [] xs ys h = h
same_append text (b ∷ bs) xs ys h = inl (refl, same_append (in_text text b) bs xs ys h)

goes_same : (text : Bool) (xs ys : List Placed) → SameButInRuns text xs ys → goes_on xs ≡ true → goes_on ys ≡ true
goes_same text [] ys h on = absurd cc
goes_same text (x ∷ xs) [] h on = absurd h
goes_same text (x ∷ xs) (y ∷ ys) h on =
    elim h [
      | inl one ↦ ap (λ (p : Placed). not (begins_directive p)) one.0 ∙ on
      | inr two ↦ ap not two.2
    ]

pub or_parts_false : (b c : Bool) → (b || c) ≡ false → (b ≡ false) × (c ≡ false)
or_parts_false true c h = absurd cc
or_parts_false false c h = (refl, h)

goes_append : (rs xs : List Placed) → list_any begins_directive rs ≡ false → goes_on xs ≡ true → goes_on (rs ++ xs) ≡ true
goes_append [] xs h on = on
goes_append (r ∷ rs) xs h on = ap not (or_parts_false (begins_directive r) (list_any begins_directive rs) h).0

free_append : (rs ss xs ys : List Placed) → length ss ≡ length rs → list_any begins_directive rs ≡ false → list_any begins_directive ss ≡ false
    → goes_on xs ≡ true → goes_on ys ≡ true → SameButInRuns true xs ys → SameButInRuns true (rs ++ xs) (ss ++ ys)
free_append [] [] xs ys long hr hs ox oy h = h
free_append [] (s ∷ ss) xs ys long hr hs ox oy h = absurd (omega (arith, long))
free_append (r ∷ rs) [] xs ys long hr hs ox oy h = absurd (omega (arith, long))
free_append (r ∷ rs) (s ∷ ss) xs ys long hr hs ox oy h =
    let r_parts = or_parts_false (begins_directive r) (list_any begins_directive rs) hr in
    let s_parts = or_parts_false (begins_directive s) (list_any begins_directive ss) hs in
    inr (
      refl,
      r_parts.0,
      s_parts.0,
      goes_append rs xs r_parts.1 ox,
      goes_append ss ys s_parts.1 oy,
      free_append rs ss xs ys (omega (arith, long)) r_parts.1 s_parts.1 ox oy h,
    )

any_front : (p : Placed → Bool) (xs ys : List Placed) → list_any p (xs ++ ys) ≡ false → list_any p xs ≡ false
any_front p [] ys h = refl
any_front p (x ∷ xs) ys h =
    let parts = or_parts_false (p x) (list_any p (xs ++ ys)) h in
    rw parts.0 (any_front p xs ys parts.1)

-- the items of a list in the new order are of its tokens
weave_front : (order : List ℕ) (is : Items) (vs : List Placed) → span_of is ≤ length vs → weave_of order is vs ≡ weave_of order is (take (span_of is) vs)
weave_front order is vs within =
    let s = span_of is in
    let small : s ≤ length (take s vs) = rw (length-take-le s vs within) (omega arith) in
    ap (weave_of order is) (sym (take-append-drop s vs))
    ∙ ap (λ (l : List (List Placed)). woven (picked order l) (gaps_of is (take s vs ++ drop s vs))) (items_of-append order is (take s vs) (drop s vs) small)
    ∙ ap (woven (picked order (cut_items_of order is (take s vs)))) (gaps_of-append is (take s vs) (drop s vs) small)

weave_free : (n : ℕ) (order : List ℕ) (is : Items) (vs : List Placed) → IsOrder n order → count_of is ≡ n → AreItemsOf n is → span_of is ≤ length vs
    → list_any begins_directive (take (span_of is) vs) ≡ false → list_any begins_directive (weave_of order is vs) ≡ false
weave_free n order is vs permutes count all within none =
    let front = take (span_of is) vs in
    let whole = any-arranged begins_directive n order (list is done) front permutes (count, all, tt) in
    let made = list_arranged order is front in
    ap (list_any begins_directive) (weave_front order is vs within)
    ∙ any_front begins_directive (weave_of order is front) (drop (span_of is) front) (ap (list_any begins_directive) (sym made) ∙ whole ∙ none)

pub runs_move : RunsMove
unfolding arranged extent_of
runs_move n order text done ps vs permutes all within long same lists = subst (λ (l : List Placed). SameButInRuns text ps l) (sym same) (same_all text ps)
runs_move n order text (keep k c) ps vs permutes all within long same lists =
    let A = arranged order c (drop k vs) in
    let size = length-drop k ps in
    let size2 = length-drop k vs in
    let rest = runs_move n order (text_behind text (take k ps)) c (drop k ps) (drop k vs) permutes all (short-drop k (extent_of c) ps within) (omega (arith, size, size2, long)) same.1 lists in
    subst (λ (l : List Placed). SameButInRuns text l (take k vs ++ A)) (take-append-drop k ps)
    (subst (λ (l : List Placed). SameButInRuns text (take k ps ++ drop k ps) (l ++ A)) (sym same.0) (same_append text (take k ps) (drop k ps) A rest))
runs_move n order text (list is c) ps vs permutes all within long same lists =
    let s = span_of is in
    let A = arranged order c (drop s vs) in
    let W = weave_of order is vs in
    let size = length-drop s ps in
    let size2 = length-drop s vs in
    let near : s ≤ length ps = omega (arith, within) in
    let near2 : s ≤ length vs = omega (arith, near, long) in
    let rest = runs_move n order true c (drop s ps) (drop s vs) permutes all.2 (short-drop s (extent_of c) ps within) (omega (arith, size, size2, long)) same lists.4 in
    let wide : length W ≡ length (take s ps) = woven_long n order is vs permutes all.0 all.1 near2 ∙ sym (length-take-le s ps near) in
    let free = weave_free n order is vs permutes all.0 all.1 near2 lists.2 in
    let here = free_append (take s ps) W (drop s ps) A wide lists.1 free lists.3 (goes_same true (drop s ps) A rest lists.3) rest in
    subst (λ (b : Bool). SameButInRuns b ps (W ++ A)) (sym lists.0)
    (subst (λ (l : List Placed). SameButInRuns true l (W ++ A)) (take-append-drop s ps) here)
