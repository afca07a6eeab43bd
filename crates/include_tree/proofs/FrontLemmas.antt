-- Pieces stay what the items of their files give; trails and fronts go on.
use Rattle.std.specs.List.{flat_map}
use Rattle.std.proofs.Common.{◌≡◌, ◌≤◌, ◌-◌, ◌+◌, ℕ, zero, suc, length, List, [], ◌∷◌, ◌++◌, map, take, get_or, Option, None, Some, Result, Ok, Err, refl, sym, ◌∙◌, ap, subst, arith}
use Rattle.std.proofs.lemmas.List.{length-append}
use Rattle.std.proofs.lemmas.Option.{none-some, same_Some}
use Rattle.std.specs.Prelude.{OnOk, slice_get}
use Rattle.cs_base.proofs.ListLemmas.{next, read_at, below_length}
use Rattle.cs_base.specs.Token.{Token}
use Rattle.cs_base.specs.Units.{UnitValue, unit}
use Rattle.source_files.specs.Files.{Source, Table, SourceFile}
use Rattle.source_files.specs.Limits.{the_limits}
use Rattle.source_files.specs.Tables.{IsGrown}
use Rattle.unit_steps.specs.Expanding.{most_toks}
use Rattle.unit_steps.specs.Notes.{events_of}
use Rattle.unit_steps.specs.State.{Context, State, Did, did, Outcome}
use Rattle.unit_steps.specs.Texts.{UnitTextValue}
use Rattle.include_tree.specs.declared.fronts.Start.{Start}
use Rattle.include_tree.specs.declared.fronts.Line.{Line}
use Rattle.include_tree.specs.declared.fronts.Trail.{Trail}
use Rattle.include_tree.specs.declared.fronts.Front.{Front}
use Rattle.include_tree.specs.declared.fronts.Fronts.{Fronts}
use Rattle.include_tree.specs.declared.leads.Lead.{Lead}
use Rattle.include_tree.specs.GivenFiles.{unit_context}
use Rattle.include_tree.specs.Walk.{file_items}
use Rattle.include_tree.specs.Fronts.{Piece, placed, like, GivesAlways, behind_piece, IsPiece, ArePieces, state_behind, piece_text, events_behind, texts_of, all_events, line_of, IsTrail, looks, start_state, IsBegun, begun_state, begun_events, HasBegun, IsAlong, HasPiece, start_unit, IsFront, StartsSo, Fits, trail_texts, AreFronts}
use Rattle.include_tree.proofs.AgainLemmas.{items_give_the_same_again}
use Rattle.include_tree.proofs.StayingLemmas.{source-grown}

-- what a walk gave once is given always
pub gives-always : (source : Source) (u : UnitValue) (earlier room : ℕ) (file : SourceFile) (s : State) (d : Did (List Token)) (table : Table)
    → file_items (unit_context source u earlier) room file s ≡ Ok d → IsGrown d.state.table table
    → GivesAlways (looks u) table room s (record { file = file; behind = s.behind; toks = d.value; notes = d.notes; after = d.state })
gives-always source u earlier room file s d table is grown = λ other project path settings includes later few.
    items_give_the_same_again (unit_context source u earlier) other project path settings includes later room file s d table is grown few

-- ---- a table that grows

pub gives-later : (u : UnitValue) (table table2 : Table) (room : ℕ) (s : State) (p : Piece) → IsGrown table table2 → GivesAlways u table room s p → GivesAlways u table2 room s p
gives-later u table table2 room s p grown h = λ source project path settings includes earlier few.
    let none : Source = λ name. None in
    let room_for : most_toks (like u source project path settings includes earlier) ≤ most_toks (like u none project path settings includes 0) = omega arith in
    let first = h none project path settings includes 0 (omega (arith, few, room_for)) in
    items_give_the_same_again (like u none project path settings includes 0) source project path settings includes earlier room p.file (placed table p.behind s)
    (did p.toks p.notes (record p.after { table = table })) table2 first grown few

piece-later : (u : UnitValue) (table table2 : Table) (x : State) (p : Piece) → IsGrown table table2 → IsPiece u table (placed table None x) p → IsPiece u table2 (placed table2 None x) p
piece-later u table table2 x p grown h = record {
  file = source-grown table table2 p.file.number p.file grown h.file;
  other = h.other;
  counted = h.counted;
  gives = gives-later u table table2 (the_limits.open_files - 2) (placed table None x) p grown h.gives;
}

pieces-later : (u : UnitValue) (table table2 : Table) (x : State) (pieces : List Piece) → IsGrown table table2 → ArePieces u table (placed table None x) pieces
    → ArePieces u table2 (placed table2 None x) pieces
pieces-later u table table2 x [] grown h = tt
pieces-later u table table2 x (p ∷ pieces) grown h = (piece-later u table table2 x p grown h.0, pieces-later u table table2 p.after pieces grown h.1)

state-later : (table table2 : Table) (x : State) (pieces : List Piece)
    → state_behind table2 (placed table2 None x) pieces ≡ placed table2 None (state_behind table (placed table None x) pieces)
state-later table table2 x [] = refl
state-later table table2 x (p ∷ pieces) = state-later table table2 p.after pieces

begun-later : (u : UnitValue) (table table2 : Table) (number : ℕ) (first : Piece) → IsGrown table table2 → IsBegun u table number first → IsBegun u table2 number first
begun-later u table table2 number first grown h = record {
  file = source-grown table table2 number first.file grown h.file;
  place = h.place;
  gives = gives-later u table table2 (the_limits.open_files - 1) (start_state u.standard) first grown h.gives;
}

trail-later : (u : UnitValue) (table table2 : Table) (x : State) (events : ℕ) (trail : Trail) (pieces : List Piece) → IsGrown table table2
    → IsTrail u table (placed table None x) events trail pieces → IsTrail u table2 (placed table2 None x) events trail pieces
trail-later u table table2 x events trail pieces grown h =
    record { are = pieces-later u table table2 x pieces grown h.are; lines = h.lines; texts = h.texts }

pub has-begun-later : (u : UnitValue) (table table2 : Table) (number : ℕ) (s : State) (text : UnitTextValue) → IsGrown table table2 → HasBegun u table number s text
    → HasBegun u table2 number (placed table2 None s) text
has-begun-later u table table2 number s text grown h = record {
  first = h.first;
  begun = begun-later (looks u) table table2 number h.first grown h.begun;
  state = ap (placed table2 None) h.state;
  events = h.events;
}

pub along-later : (u : UnitValue) (table table2 : Table) (number : ℕ) (trail : Trail) (s : State) (text : UnitTextValue) → IsGrown table table2
    → IsAlong u table number trail s text → IsAlong u table2 number trail (placed table2 None s) text
along-later u table table2 number trail s text grown h = record {
  first = h.first;
  pieces = h.pieces;
  begun = begun-later (looks u) table table2 number h.first grown h.begun;
  trail = trail-later (looks u) table table2 h.first.after (begun_events h.first) trail h.pieces grown h.trail;
  state = ap (placed table2 None) h.state ∙ sym (state-later table table2 h.first.after h.pieces);
  events = h.events;
}

front-later : (table table2 : Table) (f : Front) → IsGrown table table2 → IsFront table f → IsFront table2 f
front-later table table2 f grown h = record {
  first = h.first;
  pieces = h.pieces;
  begun = begun-later (start_unit f.start) table table2 f.start.pseudo h.first grown h.begun;
  trail = trail-later (start_unit f.start) table table2 h.first.after (begun_events h.first) f.trail h.pieces grown h.trail;
  end = ap (placed table2 None) h.end ∙ sym (state-later table table2 h.first.after h.pieces);
  counted = h.counted;
  little = h.little;
  traced = h.traced;
}

pub fronts-later : (table table2 : Table) (fronts : List Front) → IsGrown table table2 → AreFronts table fronts → AreFronts table2 fronts
fronts-later table table2 [] grown h = tt
fronts-later table table2 (f ∷ fronts) grown h = (front-later table table2 f grown h.0, fronts-later table table2 fronts grown h.1)

pub fronts-push : (table : Table) (fronts : List Front) (f : Front) → AreFronts table fronts → IsFront table f → AreFronts table (fronts ++ f ∷ [])
fronts-push table [] f h is = (is, tt)
fronts-push table (g ∷ fronts) f h is = (h.0, fronts-push table fronts f h.1 is)

-- ---- a piece more

pieces-push : (u : UnitValue) (t : Table) (s : State) (pieces : List Piece) (p : Piece) → ArePieces u t s pieces → IsPiece u t (state_behind t s pieces) p
    → ArePieces u t s (pieces ++ p ∷ [])
pieces-push u t s [] p h is = (is, tt)
pieces-push u t s (q ∷ pieces) p h is = (h.0, pieces-push u t (behind_piece t None q) pieces p h.1 is)

state-push : (t : Table) (s : State) (pieces : List Piece) (p : Piece) → state_behind t s (pieces ++ p ∷ []) ≡ behind_piece t None p
state-push t s [] p = refl
state-push t s (q ∷ pieces) p = state-push t (behind_piece t None q) pieces p

texts-push : (events : ℕ) (pieces : List Piece) (p : Piece) → texts_of events (pieces ++ p ∷ []) ≡ texts_of events pieces ++ piece_text (all_events events pieces + 1) p ∷ []
texts-push events [] p = refl
texts-push events (q ∷ pieces) p = ap (λ (ts : List UnitTextValue). piece_text (events + 1) q ∷ ts) (texts-push (events_behind events q) pieces p)

events-push : (events : ℕ) (pieces : List Piece) (p : Piece) → all_events events (pieces ++ p ∷ []) ≡ events_behind (all_events events pieces) p
events-push events [] p = refl
events-push events (q ∷ pieces) p = events-push (events_behind events q) pieces p

lines-push : (pieces : List Piece) (p : Piece) → map line_of (pieces ++ p ∷ []) ≡ map line_of pieces ++ line_of p ∷ []
lines-push [] p = refl
lines-push (q ∷ pieces) p = ap (λ (ls : List Line). line_of q ∷ ls) (lines-push pieces p)

line-same : (p : Piece) (l : Line) → p.file.number ≡ l.number → p.behind ≡ l.behind → line_of p ≡ l
line-same p l number behind = λ i. record { number = number i; behind = behind i }

pub along-push : (u : UnitValue) (table table2 : Table) (number : ℕ) (trail trail2 : Trail) (s t : State) (text text2 gave : UnitTextValue) (l : Lead) (line : Line) → IsGrown table table2
    → IsAlong u table number trail s text → HasPiece u table2 l s text t text2 gave → line.number ≡ l.number → line.behind ≡ l.behind
    → trail2.lines.items ≡ trail.lines.items ++ line ∷ [] → trail_texts trail2 ≡ trail_texts trail ++ gave ∷ []
    → IsAlong u table2 number trail2 t text2
unfolding along-later
along-push u table table2 number trail trail2 s t text text2 gave l line grown h k same begins lines texts =
    let later = along-later u table table2 number trail s text grown h in
    let p : Piece = k.piece in
    let here : IsPiece (looks u) table2 (placed table2 None s) p = record { file = k.is.file; other = k.is.other; counted = k.is.counted; gives = k.is.gives } in
    let at : IsPiece (looks u) table2 (state_behind table2 (begun_state table2 h.first) h.pieces) p = subst (λ (x : State). IsPiece (looks u) table2 x p) later.state here in
    record {
      first = h.first;
      pieces = h.pieces ++ p ∷ [];
      begun = later.begun;
      trail = record {
        are = pieces-push (looks u) table2 (begun_state table2 h.first) h.pieces p later.trail.are at;
        lines = lines ∙ ap (λ (ls : List Line). ls ++ line ∷ []) h.trail.lines
            ∙ ap (λ (x : Line). map line_of h.pieces ++ x ∷ []) (sym (line-same p line (k.number ∙ sym same) (k.behind ∙ sym begins))) ∙ sym (lines-push h.pieces p);
        texts = texts ∙ ap (λ (ts : List UnitTextValue). ts ++ gave ∷ []) h.trail.texts
            ∙ ap (λ (x : UnitTextValue). texts_of (begun_events h.first) h.pieces ++ x ∷ []) (k.gives ∙ ap (λ (e : ℕ). piece_text (e + 1) p) h.events)
            ∙ sym (texts-push (begun_events h.first) h.pieces p);
      };
      state = k.state ∙ sym (state-push table2 (begun_state table2 h.first) h.pieces p);
      events = k.events ∙ ap (λ (e : ℕ). events_behind e p) h.events ∙ sym (events-push (begun_events h.first) h.pieces p);
    }

-- ---- the begin of a unit

pub starts-looks : (start : Start) (u : UnitValue) (number : ℕ) → StartsSo start u number → start_unit start ≡ looks u
starts-looks start u number h = λ i. unit [] [] (h.2 i) (h.3 i) [] [] (h.1 i)

ok_same : (a b : Did (List Token)) → ◌≡◌ {A = Outcome (List Token)} (Ok a) (Ok b) → a ≡ b
ok_same a b h = cc

-- what the pseudo file gives, it gives once
pub begun-same : (v : UnitValue) (t : Table) (number : ℕ) (a b : Piece) → IsBegun v t number a → IsBegun v t number b
    → a.after.before ≤ most_toks (like v (λ name. None) [] [] [] [] 0) → b.after.before ≤ most_toks (like v (λ name. None) [] [] [] [] 0)
    → (begun_state t a ≡ begun_state t b) × (begun_events a ≡ begun_events b)
begun-same v t number a b h k few few2 =
    let none : Source = λ name. None in
    let same : a.file ≡ b.file = same_Some a.file b.file (sym h.file ∙ k.file) in
    let start : State = start_state v.standard in
    let ctx : Context = like v none [] [] [] [] 0 in
    let gives : file_items ctx (the_limits.open_files - 1) a.file (placed t a.behind start) ≡ Ok (did a.toks a.notes (record a.after { table = t })) = h.gives none [] [] [] [] 0 few in
    let gives2 : file_items ctx (the_limits.open_files - 1) b.file (placed t b.behind start) ≡ Ok (did b.toks b.notes (record b.after { table = t })) = k.gives none [] [] [] [] 0 few2 in
    let both : did a.toks a.notes (record a.after { table = t }) ≡ did b.toks b.notes (record b.after { table = t }) =
    ok_same _ _ (sym gives ∙ ap (λ (f : SourceFile). file_items ctx (the_limits.open_files - 1) f (placed t a.behind start)) same
    ∙ ap (λ (o : Option ℕ). file_items ctx (the_limits.open_files - 1) b.file (placed t o start)) (h.place ∙ sym k.place) ∙ gives2) in
    (ap (λ (d : Did (List Token)). placed t None d.state) both, ap (λ (d : Did (List Token)). length (flat_map events_of d.notes)) both)

pub front-at : (table : Table) (fronts : List Front) (k : ℕ) (f : Front) → AreFronts table fronts → slice_get fronts k ≡ Some f → IsFront table f
front-at table [] k f h at = absurd (none-some f at)
front-at table (g ∷ fronts) zero f h at = subst (IsFront table) (same_Some g f at) h.0
front-at table (g ∷ fronts) (suc k) f h at = front-at table fronts k f h.1 at

-- ---- paths

pub taken-more : {X : Type 0} (a b : List X) (k : ℕ) (x y : X) → slice_get a k ≡ Some x → slice_get b k ≡ Some y → take k a ≡ take k b → x ≡ y → take (k + 1) a ≡ take (k + 1) b
taken-more {X} a b k x y at at2 h same = next a k x at ∙ ap (λ (xs : List X). xs ++ x ∷ []) h ∙ ap (λ (z : X). take k b ++ z ∷ []) same ∙ sym (next b k y at2)

pub mapped-at : {X Y : Type 0} (f : X → Y) (xs : List X) (k : ℕ) (x : X) → slice_get xs k ≡ Some x → slice_get (map f xs) k ≡ Some (f x)
mapped-at {X} {Y} f [] k x at = absurd (none-some x at)
mapped-at {X} {Y} f (z ∷ xs) zero x at = ap (λ (y : X). Some (f y)) (same_Some z x at)
mapped-at {X} {Y} f (z ∷ xs) (suc k) x at = mapped-at f xs k x at

pub mapped-more : {X Y : Type 0} (f : X → Y) (xs : List X) (ys : List Y) (k : ℕ) (x : X) → slice_get xs k ≡ Some x → ys ≡ take k (map f xs) ++ f x ∷ [] → ys ≡ take (k + 1) (map f xs)
mapped-more {X} {Y} f [] ys k x at h = absurd (none-some x at)
mapped-more {X} {Y} f (z ∷ xs) ys k x at h = h ∙ sym (next (map f (z ∷ xs)) k (f x) (mapped-at f (z ∷ xs) k x at))

-- a front that was chosen
chosen : (fronts : List Front) (k : ℕ) (e : Front) (u : UnitValue) (n most : ℕ) (leads : List Lead) → (is : (front : Front) × (slice_get fronts k ≡ Some front) × Fits u n leads most front)
    → e ≡ get_or fronts k e → slice_get fronts k ≡ Some e
chosen fronts k e u n most leads is at = read_at fronts k e (below_length fronts k is.0 is.1) at

pub chosen-fits : (fronts : List Front) (k : ℕ) (e : Front) (u : UnitValue) (n most : ℕ) (leads : List Lead) → (front : Front) × (slice_get fronts k ≡ Some front) × Fits u n leads most front
    → e ≡ get_or fronts k e → Fits u n leads most e
chosen-fits fronts k e u n most leads is at =
    subst (Fits u n leads most) (same_Some is.0 e (sym is.1 ∙ chosen fronts k e u n most leads is at)) is.2

pub chosen-is : (t : Table) (fronts : List Front) (k : ℕ) (e : Front) (u : UnitValue) (n most : ℕ) (leads : List Lead) → AreFronts t fronts
    → (front : Front) × (slice_get fronts k ≡ Some front) × Fits u n leads most front → e ≡ get_or fronts k e → IsFront t e
chosen-is t fronts k e u n most leads all is at = front-at t fronts k e all (chosen fronts k e u n most leads is at)

pub on-any : {X E : Type 0} (r : Result X E) (P : Type 0) → P → OnOk r P
on-any (Ok x) P h = h
on-any (Err e) P h = tt

pub mapped-last : {X Y : Type 0} (xs : List X) (k : ℕ) (x : X) (f : X → Y) → slice_get xs k ≡ Some x → slice_get (map f xs) k ≡ Some (f x)
mapped-last xs k x f at = mapped-at f xs k x at

mapped-length : {X Y : Type 0} (xs : List X) (f : X → Y) → length (map f xs) ≡ length xs
mapped-length [] f = refl
mapped-length (x ∷ xs) f = ap suc (mapped-length xs f)

pub texts-length : (trail : Trail) → length (trail_texts trail) ≡ length trail.pieces.items
texts-length trail = mapped-length trail.pieces.items (λ r. r.value)

pub taken-texts : (trail : Trail) (k : ℕ) (t : UnitTextValue) (all : List UnitTextValue) → slice_get (trail_texts trail) k ≡ Some t → all ≡ take k (trail_texts trail) ++ t ∷ []
    → all ≡ take (k + 1) (trail_texts trail)
taken-texts trail k t all at is = is ∙ sym (next (trail_texts trail) k t at)

-- what the unit before began with says nothing of the fronts
pub fronts-told : (t : Table) (old new : Fronts) → new.all ≡ old.all → AreFronts t old.all.items → AreFronts t new.all.items
fronts-told t old new same h = subst (λ v. AreFronts t v.items) (sym same) h

pub length-more : {X : Type 0} (new old : List X) (x : X) → new ≡ old ++ x ∷ [] → length new ≡ length old + 1
length-more {X} new old x is = ap (λ (xs : List X). length xs) is ∙ length-append old (x ∷ [])
