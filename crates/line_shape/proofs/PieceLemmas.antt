-- The pieces of a list of tokens: the first, and those behind.
use Rattle.std.proofs.Common.{◌≡◌, ℕ, zero, suc, Bool, true, false, List, [], ◌∷◌, get_or, take, drop, refl, sym, ◌∙◌, inl, inr, arith}
use Rattle.std.specs.List.{onto_first}
use Rattle.std.proofs.lemmas.Bool.{cases_Bool, and_parts}
use Rattle.cs_base.specs.Token.{Token}
use Rattle.line_shape.specs.declared.items.ItemKind.TheVariants.{Run}
use Rattle.line_shape.specs.Signs.{is_hash}
use Rattle.line_shape.specs.Directives.{is_run}
use Rattle.line_shape.specs.Items.{lines_of, line_kind, Piece, piece, onto_pieces, pieces_of}
use Rattle.line_shape.specs.Walk.{is_hash_at, is_end}
use Rattle.line_shape.proofs.KindLemmas.{is_run-line_kind}
use Rattle.line_shape.proofs.LineLemmas.{drop-after, EndsBehind, EndsBehind-after, BeginsWith, lines_of-BeginsWith, lines_of-cons, lines_of-nil, lines_of-one, lines_of-line}

pub pieces_of-cons : (line : List Token) (lines : List (List Token)) → pieces_of (line ∷ lines) ≡ onto_pieces (piece (line_kind line) line) (pieces_of lines)
unfolding pieces_of
pieces_of-cons line lines = refl

pub pieces_of-nil : pieces_of [] ≡ []
unfolding pieces_of
pieces_of-nil = refl

-- a directive line is a piece
pub onto_pieces-directive : (line : Piece) (pieces : List Piece) → is_run line.kind ≡ false → onto_pieces line pieces ≡ line ∷ pieces
onto_pieces-directive line [] h = refl
onto_pieces-directive line (next ∷ pieces) h = rw h refl

-- the pieces with a token put before those of the first
abbrev onto_run : Token → List Piece → List Piece
onto_run t [] = []
onto_run t (p ∷ pieces) = piece p.kind (t ∷ p.toks) ∷ pieces

-- a token more in a text line
onto_pieces-longer : (t : Token) (line : List Token) (pieces : List Piece)
    → onto_pieces (piece Run (t ∷ line)) pieces ≡ onto_run t (onto_pieces (piece Run line) pieces)
onto_pieces-longer t line [] = refl
onto_pieces-longer t line (next ∷ pieces) =
    elim (cases_Bool (is_run next.kind)) [ inl run ↦ rw run refl | inr other ↦ rw other refl ]

-- a text line of one token before another text line
onto_pieces-twice : (t : Token) (line : List Token) (pieces : List Piece)
    → onto_pieces (piece Run (t ∷ [])) (onto_pieces (piece Run line) pieces) ≡ onto_run t (onto_pieces (piece Run line) pieces)
onto_pieces-twice t line [] = refl
onto_pieces-twice t line (next ∷ pieces) =
    elim (cases_Bool (is_run next.kind)) [ inl run ↦ rw run refl | inr other ↦ rw other refl ]

-- a text line of one token before a directive
onto_pieces-before : (t : Token) (p : Piece) (pieces : List Piece) → is_run p.kind ≡ false
    → onto_pieces (piece Run (t ∷ [])) (p ∷ pieces) ≡ piece Run (t ∷ []) ∷ p ∷ pieces
onto_pieces-before t p pieces h = rw h refl

-- the pieces of lines of which the first is text, with whatever token it begins
abbrev text_pieces : List (List Token) → List Piece
text_pieces [] = []
text_pieces (line ∷ lines) = onto_pieces (piece Run line) (pieces_of lines)

line_kind-text : (t : Token) (toks : List Token) → is_hash t ≡ false → line_kind (t ∷ toks) ≡ Run
line_kind-text t toks h = rw h refl

pieces_of-text : (t : Token) (lines : List (List Token)) → BeginsWith t lines → is_hash t ≡ false → pieces_of lines ≡ text_pieces lines
pieces_of-text t lines b h = rw (b.same, pieces_of-cons, line_kind-text t b.toks h) refl

pieces_of-directive : (t : Token) (lines : List (List Token)) (b : BeginsWith t lines) → is_hash t ≡ true
    → pieces_of lines ≡ piece (line_kind (t ∷ b.toks)) (t ∷ b.toks) ∷ pieces_of b.more
pieces_of-directive t lines b h =
    rw (b.same, pieces_of-cons) (onto_pieces-directive _ (pieces_of b.more) (is_run-line_kind t b.toks ∙ rw h refl))

-- the next token stands on the same line
text_pieces-same_line : (t u : Token) (lines : List (List Token)) → BeginsWith u lines
    → text_pieces (onto_first t lines) ≡ onto_run t (text_pieces lines)
text_pieces-same_line t u lines b = rw b.same (onto_pieces-longer t (u ∷ b.toks) (pieces_of b.more))

-- it begins a text line
text_pieces-next_line : (t u : Token) (lines : List (List Token)) → BeginsWith u lines → is_hash u ≡ false
    → text_pieces ((t ∷ []) ∷ lines) ≡ onto_run t (text_pieces lines)
text_pieces-next_line t u lines b h =
    rw (pieces_of-text u lines b h, b.same) (onto_pieces-twice t (u ∷ b.toks) (pieces_of b.more))

-- it begins a directive
text_pieces-last_line : (t u : Token) (lines : List (List Token)) → BeginsWith u lines → is_hash u ≡ true
    → text_pieces ((t ∷ []) ∷ lines) ≡ piece Run (t ∷ []) ∷ pieces_of lines
text_pieces-last_line t u lines b h =
    rw (pieces_of-directive u lines b h) (onto_pieces-before t _ (pieces_of b.more) (is_run-line_kind u b.toks ∙ rw h refl))

-- the second token of a list
is_hash_at-second : (t u : Token) (toks : List Token) → is_hash_at (t ∷ u ∷ toks) 1 ≡ is_hash u
unfolding is_hash_at
is_hash_at-second t u toks = refl

-- a run goes on with its second token
text_pieces-more : (t u : Token) (toks : List Token) (firsts : List Bool) → is_end false (t ∷ u ∷ toks) firsts 1 ≡ false
    → text_pieces (lines_of (t ∷ u ∷ toks) firsts) ≡ onto_run t (text_pieces (lines_of (u ∷ toks) (drop 1 firsts)))
text_pieces-more t u toks firsts h =
    let lines = lines_of-BeginsWith u toks (drop 1 firsts) in
    elim (cases_Bool (get_or firsts 1 false)) [
      | inr same ↦ rw (lines_of-cons, same) (text_pieces-same_line t u _ lines)
      | inl begins ↦
          let text : is_hash u ≡ false = sym (is_hash_at-second t u toks) ∙ rw begins at h in
          rw (lines_of-cons, begins) (text_pieces-next_line t u _ lines text)
    ]

-- a run
text_pieces-run : (t : Token) (toks : List Token) (firsts : List Bool) (n : ℕ) → EndsBehind false t toks firsts n
    → text_pieces (lines_of (t ∷ toks) firsts) ≡ piece Run (t ∷ take n toks) ∷ pieces_of (lines_of (drop n toks) (drop (suc n) firsts))
text_pieces-run t [] firsts zero e = rw (lines_of-one t firsts, lines_of-nil (drop 1 firsts), pieces_of-nil) refl
text_pieces-run t [] firsts (suc n) e = absurd (let w = e.within in omega arith)
text_pieces-run t (u ∷ toks) firsts zero e =
    let ends = e.end (omega arith) in
    let begins = (and_parts (get_or firsts 1 false) (is_hash_at (t ∷ u ∷ toks) 1) ends).0 in
    let hash = sym (is_hash_at-second t u toks) ∙ (and_parts (get_or firsts 1 false) (is_hash_at (t ∷ u ∷ toks) 1) ends).1 in
    rw (lines_of-cons t (u ∷ toks) firsts, begins) (text_pieces-last_line t u _ (lines_of-BeginsWith u toks (drop 1 firsts)) hash)
text_pieces-run t (u ∷ toks) firsts (suc n) e =
    let rest = text_pieces-run u toks (drop 1 firsts) n (EndsBehind-after false t u toks firsts n e) in
    text_pieces-more t u toks firsts (e.none 0 (omega arith)) ∙ rw (rest, drop-after firsts n) refl

-- the pieces of a list of tokens: its first item, and those behind
pub pieces_of-item : (t : Token) (toks : List Token) (firsts : List Bool) (n : ℕ) → EndsBehind (is_hash t) t toks firsts n
    → pieces_of (lines_of (t ∷ toks) firsts) ≡ piece (line_kind (t ∷ take n toks)) (t ∷ take n toks) ∷ pieces_of (lines_of (drop n toks) (drop (suc n) firsts))
pieces_of-item t toks firsts n e =
    elim (cases_Bool (is_hash t)) [
      | inl hash ↦
          let line = lines_of-line t toks firsts n (rw hash at e) in
          rw (line, pieces_of-cons) (onto_pieces-directive _ _ (is_run-line_kind t (take n toks) ∙ rw hash refl))
      | inr text ↦
          let run = text_pieces-run t toks firsts n (rw text at e) in
          pieces_of-text t _ (lines_of-BeginsWith t toks firsts) text ∙ run ∙ rw (line_kind-text t (take n toks) text) refl
    ]
