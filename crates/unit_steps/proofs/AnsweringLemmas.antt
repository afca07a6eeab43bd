-- Operands of `defined`, answered piece by piece.
use Rattle.std.proofs.Common.{◌≡◌, ℕ, zero, suc, ◌&&◌, Bool, true, false, cond, List, [], ◌∷◌, ◌++◌, drop, length, Option, Some, None, refl, sym, ◌∙◌, ap, subst, append_assoc, arith}
use Rattle.std.specs.List.{list_all}
use Rattle.std.specs.Option.{option_map}
use Rattle.std.proofs.lemmas.Bool.{and_parts, and_from}
use Rattle.std.proofs.lemmas.List.{append-nil}
use Rattle.std.proofs.lemmas.Option.{same_Some}
use Rattle.cs_base.specs.Token.{Token}
use Rattle.macro_expand.specs.Below.macro_body.Sound.{is_traced, is_low}
use Rattle.unit_steps.specs.declared.progress.Progress.{Progress}
use Rattle.source_files.specs.Files.{Table}
use Rattle.unit_steps.specs.Notes.{Answered}
use Rattle.unit_steps.specs.State.{State}
use Rattle.unit_steps.specs.Names.{with_name}
use Rattle.unit_steps.specs.Conditions.{Piece, Plain, Asks, is_defined, operand_of, onto_pieces, asks_with, pieces_from, answer_for, is_macro, test_notes, answered}
use Rattle.unit_steps.specs.Texts.{UnitTextValue}
use Rattle.unit_steps.specs.FirstNames.{names_with}
use Rattle.unit_steps.specs.Keeping.{noted_in}
use Rattle.unit_steps.specs.Moments.{state_in}
use Rattle.unit_steps.specs.Answering.{answer_notes, asked_kept, asked_in, behind}
use Rattle.unit_steps.proofs.KeepingLemmas.{noted_in-nil, noted_in-append}
use Rattle.unit_steps.proofs.DefiningLemmas.{noted_at}

-- ---- where pieces begin

pieces_from-drop : (n : ℕ) (toks : List Token) → pieces_from n toks ≡ pieces_from 0 (drop n toks)
unfolding pieces_from
pieces_from-drop zero toks = refl
pieces_from-drop (suc n) [] = refl
pieces_from-drop (suc n) (t ∷ toks) = pieces_from-drop n toks

pub asked_in-drop : (k : UnitTextValue) (n : ℕ) (toks rest : List Token) (s : State) → rest ≡ drop n toks → asked_in k n toks s ≡ asked_in k 0 rest s
unfolding asked_in
asked_in-drop k n toks rest s is =
    ap (λ (o : Option (List Piece)). asked_kept k (option_map (λ pieces. answered pieces s) o)) (pieces_from-drop n toks ∙ ap (λ (ts : List Token). pieces_from 0 ts) (sym is))

-- no token is left
pub asked_in-end : (k : UnitTextValue) (out toks : List Token) (s : State) → length toks ≡ 0 → behind out (asked_in k 0 toks s) ≡ Some (out, s, k)
unfolding asked_in pieces_from answered
asked_in-end k out [] s none =
    ap (λ (ts : List Token). Some (ts, s, noted_in k [])) (append-nil out) ∙ ap (λ (t : UnitTextValue). Some (out, s, t)) (noted_in-nil k)
asked_in-end k out (t ∷ toks) s none = absurd (omega arith)

-- ---- a token that stays

plain-front : (k : UnitTextValue) (word : Token) (out new : List Token) (s : State) (o : Option (List Piece)) → new ≡ out ++ word ∷ []
    → behind out (asked_kept k (option_map (λ pieces. answered pieces s) (onto_pieces (Plain word) o))) ≡ behind new (asked_kept k (option_map (λ pieces. answered pieces s) o))
unfolding answered
plain-front k word out new s None is = refl
plain-front k word out new s (Some pieces) is =
    let d = answered pieces s in
    ap (λ (ts : List Token). Some (ts, d.state, noted_in k d.notes)) (sym (append_assoc out (word ∷ []) d.value) ∙ ap (λ (ts : List Token). ts ++ d.value) (sym is))

pub piece-plain : (k : UnitTextValue) (word : Token) (after out new : List Token) (s : State) → is_defined word ≡ false → new ≡ out ++ word ∷ []
    → behind out (asked_in k 0 (word ∷ after) s) ≡ behind new (asked_in k 0 after s)
unfolding asked_in pieces_from
piece-plain k word after out new s other is = rw other (plain-front k word out new s (pieces_from 0 after) is)

-- ---- an operand of `defined`

asks-front : (k : UnitTextValue) (word name : Token) (out new : List Token) (s : State) (o : Option (List Piece)) → new ≡ out ++ answer_for word (is_macro name s) ∷ []
    → behind out (asked_kept k (option_map (λ pieces. answered pieces s) (onto_pieces (Asks word name) o)))
    ≡ behind new (asked_kept (noted_in k (answer_notes word name s)) (option_map (λ pieces. answered pieces (with_name name s)) o))
unfolding answered
asks-front k word name out new s None is = refl
asks-front k word name out new s (Some pieces) is =
    let d = answered pieces (with_name name s) in
    ap (λ (t : UnitTextValue). Some (out ++ answer_for word (is_macro name s) ∷ d.value, d.state, t)) (noted_in-append k (answer_notes word name s) d.notes)
    ∙ ap (λ (ts : List Token). Some (ts, d.state, noted_in (noted_in k (answer_notes word name s)) d.notes))
    (sym (append_assoc out (answer_for word (is_macro name s) ∷ []) d.value) ∙ ap (λ (ts : List Token). ts ++ d.value) (sym is))

pub piece-none : (k : UnitTextValue) (word : Token) (after : List Token) (s : State) → is_defined word ≡ true → None ≡ operand_of after → asked_in k 0 (word ∷ after) s ≡ None
unfolding asked_in pieces_from
piece-none k word after s is none =
    rw is (ap (λ (o : Option (Token × ℕ)). asked_kept k (option_map (λ pieces. answered pieces s) (asks_with word (λ skip. pieces_from skip after) o))) (sym none))

pub piece-asks : (k k2 : UnitTextValue) (word name : Token) (n : ℕ) (after out new : List Token) (s t : State) → is_defined word ≡ true → Some (name, n) ≡ operand_of after
    → new ≡ out ++ answer_for word (is_macro name s) ∷ [] → t ≡ with_name name s → k2 ≡ noted_in k (answer_notes word name s)
    → behind out (asked_in k 0 (word ∷ after) s) ≡ behind new (asked_in k2 n after t)
unfolding asked_in pieces_from
piece-asks k k2 word name n after out new s t is found news state text =
    rw is (ap (λ (o : Option (Token × ℕ)). behind out (asked_kept k (option_map (λ pieces. answered pieces s) (asks_with word (λ skip. pieces_from skip after) o)))) (sym found)
    ∙ asks-front k word name out new s (pieces_from n after) news
    ∙ ap (λ (u : State). behind new (asked_kept (noted_in k (answer_notes word name s)) (option_map (λ pieces. answered pieces u) (pieces_from n after)))) (sym state)
    ∙ ap (λ (x : UnitTextValue). behind new (asked_kept x (option_map (λ pieces. answered pieces t) (pieces_from n after)))) (sym text))

-- what is known behind an operand that is answered
pub answer-known : (table : Table) (p q : Progress) (word name number : Token) (b : Bool) (t : UnitTextValue) → b ≡ is_macro name (state_in table p)
    → number ≡ answer_for word b → q ≡ noted_at name (test_notes name (state_in table p)) p → t ≡ noted_in q.text (Answered number ∷ [])
    → record q { text = t } ≡ noted_at name (answer_notes word name (state_in table p)) p
answer-known table p q word name number b t known is step text =
    let notes = test_notes name (state_in table p) in
    ap (λ (x : Progress). record x { text = t }) step
    ∙ ap (λ (u : UnitTextValue). record p { names = names_with name p.names; text = u })
    (text ∙ ap (λ (x : Progress). noted_in x.text (Answered number ∷ [])) step ∙ ap (λ (x : Token). noted_in (noted_in p.text notes) (Answered x ∷ [])) (is ∙ ap (answer_for word) known)
    ∙ sym (noted_in-append p.text notes (Answered (answer_for word (is_macro name (state_in table p))) ∷ [])))

-- ---- answers come from somewhere

abbrev sound : Token → Bool
sound t = is_traced t && is_low t

abbrev piece_sound : Piece → Bool
piece_sound (Plain t) = sound t
piece_sound (Asks word name) = is_low word

front-sound : (p : Piece) (o : Option (List Piece)) (ps : List Piece) → piece_sound p ≡ true → ((qs : List Piece) → o ≡ Some qs → list_all piece_sound qs ≡ true)
    → onto_pieces p o ≡ Some ps → list_all piece_sound ps ≡ true
front-sound p None ps here rest e = absurd (cc)
front-sound p (Some qs) ps here rest e =
    subst (λ (x : List Piece). list_all piece_sound x ≡ true) (same_Some (p ∷ qs) ps e) (and_from (piece_sound p) (list_all piece_sound qs) here (rest qs refl))

asks-sound : (word : Token) (more : ℕ → Option (List Piece)) (o : Option (Token × ℕ)) (ps : List Piece) → is_low word ≡ true
    → ((n : ℕ) (qs : List Piece) → more n ≡ Some qs → list_all piece_sound qs ≡ true) → asks_with word more o ≡ Some ps → list_all piece_sound ps ≡ true
asks-sound word more None ps low rest e = absurd (cc)
asks-sound word more (Some operand) ps low rest e = front-sound (Asks word operand.0) (more operand.1) ps low (rest operand.1) e

either-sound : (b : Bool) (x y : Option (List Piece)) (ps : List Piece) → (x ≡ Some ps → list_all piece_sound ps ≡ true) → (y ≡ Some ps → list_all piece_sound ps ≡ true)
    → cond b x y ≡ Some ps → list_all piece_sound ps ≡ true
either-sound true x y ps h k e = h e
either-sound false x y ps h k e = k e

pieces-sound : (skip : ℕ) (toks : List Token) (ps : List Piece) → list_all sound toks ≡ true → pieces_from skip toks ≡ Some ps → list_all piece_sound ps ≡ true
unfolding pieces_from
pieces-sound skip [] ps all e = subst (λ (x : List Piece). list_all piece_sound x ≡ true) (same_Some [] ps e) refl
pieces-sound (suc skip) (t ∷ toks) ps all e = pieces-sound skip toks ps (and_parts (sound t) (list_all sound toks) all).1 e
pieces-sound zero (t ∷ toks) ps all e =
    let parts = and_parts (sound t) (list_all sound toks) all in
    either-sound (is_defined t) (asks_with t (λ skip. pieces_from skip toks) (operand_of toks)) (onto_pieces (Plain t) (pieces_from 0 toks)) ps
    (asks-sound t (λ skip. pieces_from skip toks) (operand_of toks) ps (and_parts (is_traced t) (is_low t) parts.0).1 (λ n qs h. pieces-sound n toks qs parts.1 h))
    (front-sound (Plain t) (pieces_from 0 toks) ps parts.0 (λ qs h. pieces-sound 0 toks qs parts.1 h)) e

answered-sound : (ps : List Piece) (s : State) → list_all piece_sound ps ≡ true → list_all sound (answered ps s).value ≡ true
unfolding answered
answered-sound [] s all = refl
answered-sound (Plain t ∷ ps) s all =
    let parts = and_parts (sound t) (list_all piece_sound ps) all in
    and_from (sound t) (list_all sound (answered ps s).value) parts.0 (answered-sound ps s parts.1)
answered-sound (Asks word name ∷ ps) s all =
    let parts = and_parts (is_low word) (list_all piece_sound ps) all in
    and_from (sound (answer_for word (is_macro name s))) (list_all sound (answered ps (with_name name s)).value) parts.0 (answered-sound ps (with_name name s) parts.1)

kept-sound : (k k2 : UnitTextValue) (o : Option (List Piece)) (out : List Token) (s t : State) → ((ps : List Piece) → o ≡ Some ps → list_all piece_sound ps ≡ true)
    → asked_kept k (option_map (λ pieces. answered pieces s) o) ≡ Some (out, t, k2) → list_all sound out ≡ true
kept-sound k k2 None out s t all e = absurd (cc)
kept-sound k k2 (Some ps) out s t all e =
    let d = answered ps s in
    subst (λ (x : List Token). list_all sound x ≡ true) (ap (λ (r : List Token × State × UnitTextValue). r.0) (same_Some (d.value, d.state, noted_in k d.notes) (out, t, k2) e))
    (answered-sound ps s (all ps refl))

pub asked_in-sound : (k k2 : UnitTextValue) (toks out : List Token) (s t : State) → list_all sound toks ≡ true → asked_in k 0 toks s ≡ Some (out, t, k2) → list_all sound out ≡ true
unfolding asked_in
asked_in-sound k k2 toks out s t all e = kept-sound k k2 (pieces_from 0 toks) out s t (λ ps h. pieces-sound 0 toks ps all h) e
