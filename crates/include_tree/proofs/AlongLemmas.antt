-- A front that fits is what the unit gives.
use Rattle.std.proofs.Common.{◌≡◌, ◌≤◌, ◌-◌, ◌+◌, ℕ, length, List, [], map, Option, None, refl, sym, ◌∙◌, ap, subst, arith}
use Rattle.cs_base.specs.Limits.{most_work}
use Rattle.cs_base.specs.Units.{UnitValue}
use Rattle.unit_steps.specs.Below.macro_body.Live.{table_of}
use Rattle.unit_steps.specs.Below.macro_body.Sound.{AllTraced}
use Rattle.source_files.specs.Files.{Source, Table, SourceFile}
use Rattle.source_files.specs.Limits.{the_limits}
use Rattle.std.specs.Prelude.{IfSome, IsSome}
use Rattle.source_files.specs.Sources.{source_at, unit_most}
use Rattle.unit_steps.specs.declared.progress.Progress.{Progress}
use Rattle.unit_steps.specs.Moments.{state_in}
use Rattle.include_tree.proofs.StayingLemmas.{some_all, some_at, some_is, source-number}
use Rattle.unit_steps.specs.Expanding.{most_toks}
use Rattle.unit_steps.specs.Keeping.{put_after}
use Rattle.unit_steps.specs.State.{Context, State}
use Rattle.unit_steps.specs.Texts.{UnitTextValue}
use Rattle.include_tree.specs.declared.fronts.Line.{Line}
use Rattle.include_tree.specs.declared.fronts.Trail.{Trail}
use Rattle.include_tree.specs.declared.fronts.Front.{Front}
use Rattle.include_tree.specs.declared.leads.Lead.{Lead}
use Rattle.include_tree.specs.GivenFiles.{unit_context}
use Rattle.include_tree.specs.Walk.{file_items}
use Rattle.include_tree.specs.Leads.{AreLeads, rest_at}
use Rattle.include_tree.specs.Fronts.{Piece, like, state_behind, texts_of, line_of, IsTrail, looks, IsBegun, begun_state, begun_events, HasBegun, IsAlong, start_unit, front_state, IsFront, StartsSo, Fits, AreLinesOf, with_pieces, trail_texts, IsSameTrail}
use Rattle.include_tree.proofs.WalkedLemmas.{items-walk}
use Rattle.include_tree.proofs.FrontLemmas.{starts-looks, begun-same}
use Rattle.include_tree.proofs.MainLemmas.{before-grows, put-walks, put-toks, put-events, texts-counted, lines-counted}

none_told : Source
none_told = λ name. None

module _ (u : UnitValue) (t : Table) (n most earlier : ℕ) (s : State) (text : UnitTextValue) (f : Front) (leads : List Lead)
    (begun : HasBegun u t n s text) (front : IsFront t f) (fits : Fits u n leads most f) (toks : length text.toks ≡ s.before)
    (few : s.before ≤ most) (limit : most ≡ unit_most earlier) where
  abbrev v : UnitValue
  v = looks u

  start : start_unit f.start ≡ v
  start = starts-looks f.start u n fits.start

  abbrev first : Piece
  first = front.first

  begins : IsBegun v t n first
  begins = subst (λ (k : ℕ). IsBegun v t k first) fits.start.0 (subst (λ (x : UnitValue). IsBegun x t f.start.pseudo first) start front.begun)

  trail : IsTrail v t (begun_state t first) (begun_events first) f.trail front.pieces
  trail = subst (λ (x : UnitValue). IsTrail x t (begun_state t first) (begun_events first) f.trail front.pieces) start front.trail

  same : (begun_state t begun.first ≡ begun_state t first) × (begun_events begun.first ≡ begun_events first)
  same =
      let before : s.before ≡ begun.first.after.before = ap (λ (x : State). x.before) begun.state in
      let room : most ≤ most_toks (like v none_told [] [] [] [] 0) = omega (arith, limit) in
      let counted : first.after.before ≤ f.toks = front.counted in
      let within : f.toks ≤ most = fits.few in
      begun-same v t n begun.first first begun.begun begins (omega (arith, before, few, room)) (omega (arith, counted, within, room))

  state : s ≡ begun_state t first
  state = begun.state ∙ same.0

  events : length text.events ≡ begun_events first
  events = begun.events ∙ same.1

  lines : AreLinesOf (map line_of front.pieces) leads
  lines = subst (λ (ls : List Line). AreLinesOf ls leads) trail.lines fits.lines

  begin_toks : length text.toks ≡ first.after.before
  begin_toks = toks ∙ ap (λ (x : State). x.before) state

  abbrev end_state : State
  end_state = state_behind t (begun_state t first) front.pieces

  abbrev end_text : ℕ → UnitTextValue
  end_text main = with_pieces main 0 leads (texts_of (begun_events first) front.pieces) text

  put_text : (main : ℕ) → with_pieces main 0 leads (trail_texts f.trail) text ≡ end_text main
  put_text main = ap (λ (ts : List UnitTextValue). with_pieces main 0 leads ts text) trail.texts

  end-toks : (main : ℕ) → length (end_text main).toks ≡ f.toks
  end-toks main =
      put-toks v t main 0 (begun_events first) first.after front.pieces leads text trail.are lines begin_toks
      ∙ sym (ap (λ (x : State). x.before) front.end)

  pub put-room : (main : ℕ) → length (with_pieces main 0 leads (trail_texts f.trail) text).toks ≤ most
  put-room main =
      let all : length (with_pieces main 0 leads (trail_texts f.trail) text).toks ≡ f.toks = ap (λ (x : UnitTextValue). length x.toks) (put_text main) ∙ end-toks main in
      let within : f.toks ≤ most = fits.few in
      omega (arith, all, within)

  pub put-counted : length (trail_texts f.trail) ≡ length f.trail.lines.items
  put-counted =
      ap (λ (ts : List UnitTextValue). length ts) trail.texts ∙ texts-counted (begun_events first) front.pieces
      ∙ sym (lines-counted front.pieces) ∙ sym (ap (λ (ls : List Line). length ls) trail.lines)

  module _ (main : SourceFile) (known : AreLeads u t main 0 leads) (s2 : State) (text2 : UnitTextValue) (copy : Trail)
      (put : text2 ≡ with_pieces main.number 0 leads (trail_texts f.trail) text)
      (behind : s2 ≡ record (front_state t f) { before = length text2.toks }) (copied : IsSameTrail copy f.trail) where
    text-is : text2 ≡ end_text main.number
    text-is = put ∙ put_text main.number

    state-is : s2 ≡ end_state
    state-is =
        behind ∙ ap (λ (k : ℕ). record (front_state t f) { before = k }) (ap (λ (x : UnitTextValue). length x.toks) text-is ∙ end-toks main.number) ∙ front.end

    pub put-along : IsAlong u t n copy s2 text2
    put-along = record {
      first = first;
      pieces = front.pieces;
      begun = begins;
      trail = record { are = trail.are; lines = copied.0 ∙ trail.lines; texts = copied.1 ∙ trail.texts };
      state = state-is;
      events = ap (λ (x : UnitTextValue). length x.events) text-is ∙ put-events main.number 0 (begun_events first) front.pieces leads text lines events;
    }

    pub put-rest : (source : Source) → put_after text (file_items (unit_context source u earlier) (the_limits.open_files - 1) main s)
        ≡ rest_at (unit_context source u earlier) main (length copy.lines.items) s2 text2
    put-rest source =
        let ctx : Context = unit_context source u earlier in
        let within : end_state.before ≤ most_toks ctx =
        (let is : f.toks ≡ end_state.before = ap (λ (x : State). x.before) front.end in
        let few2 : f.toks ≤ most = fits.few in
        omega (arith, is, few2, limit)) in
        let counted : length front.pieces ≡ length copy.lines.items =
        sym (lines-counted front.pieces) ∙ sym (ap (λ (ls : List Line). length ls) (copied.0 ∙ trail.lines)) in
        let count : 0 + length front.pieces ≡ length copy.lines.items = omega (arith, counted) in
        ap (put_after text) (items-walk ctx (the_limits.open_files - 1) main s)
        ∙ ap (λ (x : State). rest_at ctx main 0 x text) state
        ∙ put-walks source earlier u main t 0 (begun_events first) first.after front.pieces leads text trail.are lines known within begin_toks events
        ∙ ap (λ (k : ℕ). rest_at ctx main k end_state (end_text main.number)) count
        ∙ ap (λ (x : State). rest_at ctx main (length copy.lines.items) x (end_text main.number)) (sym state-is)
        ∙ ap (λ (x : UnitTextValue). rest_at ctx main (length copy.lines.items) s2 x) (sym text-is)

-- where no front fits, nothing is put in
pub none-along : (u : UnitValue) (t : Table) (n : ℕ) (s : State) (text : UnitTextValue) (kept : Trail) → HasBegun u t n s text → kept.lines.items ≡ [] → trail_texts kept ≡ []
    → IsAlong u t n kept s text
none-along u t n s text kept h lines texts = record {
  first = h.first;
  pieces = [];
  begun = h.begun;
  trail = record { are = tt; lines = lines; texts = texts };
  state = h.state;
  events = h.events;
}

pub none-rest : (u : UnitValue) (earlier : ℕ) (main : SourceFile) (s : State) (text : UnitTextValue) (kept : Trail) → kept.lines.items ≡ []
    → (source : Source) → put_after text (file_items (unit_context source u earlier) (the_limits.open_files - 1) main s)
    ≡ rest_at (unit_context source u earlier) main (length kept.lines.items) s text
none-rest u earlier main s text kept none source =
    let ctx : Context = unit_context source u earlier in
    ap (put_after text) (items-walk ctx (the_limits.open_files - 1) main s) ∙ ap (λ (ls : List Line). rest_at ctx main (length ls) s text) (sym none)

-- ---- a front that is kept

pub keep-front : (u : UnitValue) (t : Table) (n : ℕ) (s : State) (text : UnitTextValue) (f : Front) → StartsSo f.start u n → IsAlong u t n f.trail s text → front_state t f ≡ s
    → f.work.left ≤ most_work → AllTraced (table_of f.macros) → IsFront t f
keep-front u t n s text f starts along same little traced =
    let start : start_unit f.start ≡ looks u = starts-looks f.start u n starts in
    let grows = before-grows (looks u) t along.first.after along.pieces along.trail.are in
    let all : f.toks ≡ (state_behind t (begun_state t along.first) along.pieces).before = ap (λ (x : State). x.before) (same ∙ along.state) in
    record {
      first = along.first;
      pieces = along.pieces;
      begun = subst (λ (k : ℕ). IsBegun (start_unit f.start) t k along.first) (sym starts.0) (subst (λ (x : UnitValue). IsBegun x t n along.first) (sym start) along.begun);
      trail = subst (λ (x : UnitValue). IsTrail x t (begun_state t along.first) (begun_events along.first) f.trail along.pieces) (sym start) along.trail;
      end = same ∙ along.state;
      counted = omega (arith, grows, all);
      little = little;
      traced = traced;
    }

-- ---- in the words of the program

module _ (u : UnitValue) (t : Table) (n main most earlier : ℕ) (p0 p1 : Progress) (f : Front) (leads : List Lead) (copy : Trail)
    (begun : HasBegun u t n (state_in t p0) p0.text) (front : IsFront t f) (fits : Fits u n leads most f) (few : length p0.text.toks ≤ most) (limit : most ≡ unit_most earlier)
    (known : IfSome (source_at t main) (λ file. AreLeads u t file 0 leads))
    (put : p1.text ≡ with_pieces main 0 leads (trail_texts f.trail) p0.text)
    (state : state_in t p1 ≡ record (front_state t f) { before = length p1.text.toks; behind = p0.behind }) (copied : IsSameTrail copy f.trail) where
  place : p0.behind ≡ None
  place = ap (λ (x : State). x.behind) begun.state

  at_end : state_in t p1 ≡ record (front_state t f) { before = length p1.text.toks }
  at_end = state ∙ ap (λ (b : Option ℕ). record (front_state t f) { before = length p1.text.toks; behind = b }) place

  put-in : (file : SourceFile) → file.number ≡ main → p1.text ≡ with_pieces file.number 0 leads (trail_texts f.trail) p0.text
  put-in file number = put ∙ ap (λ (m : ℕ). with_pieces m 0 leads (trail_texts f.trail) p0.text) (sym number)

  pub front-along : IsSome (source_at t main) → IsAlong u t n copy (state_in t p1) p1.text
  front-along kept =
      let file = some_is (source_at t main) kept in
      put-along u t n most earlier (state_in t p0) p0.text f leads begun front fits refl few limit file.0
      (subst (λ (o : Option SourceFile). IfSome o (λ g. AreLeads u t g 0 leads)) file.1 known) (state_in t p1) p1.text copy (put-in file.0 (source-number t main file.0 file.1)) at_end copied

  pub front-rest : (source : Source) → IfSome (source_at t main) (λ file.
      put_after p0.text (file_items (unit_context source u earlier) 199 file (state_in t p0)) ≡ rest_at (unit_context source u earlier) file (length copy.lines.items) (state_in t p1) p1.text)
  front-rest source =
      some_at (source_at t main) (λ file. AreLeads u t file 0 leads)
      (λ file. put_after p0.text (file_items (unit_context source u earlier) 199 file (state_in t p0)) ≡ rest_at (unit_context source u earlier) file (length copy.lines.items) (state_in t p1) p1.text) known
      (λ file is are. put-rest u t n most earlier (state_in t p0) p0.text f leads begun front fits refl few limit file are (state_in t p1) p1.text copy (put-in file (source-number t main file is)) at_end copied source)

pub none-rests : (u : UnitValue) (t : Table) (main earlier : ℕ) (p0 : Progress) (trail : Trail) → trail.lines.items ≡ [] → (source : Source)
    → IfSome (source_at t main) (λ file.
    put_after p0.text (file_items (unit_context source u earlier) 199 file (state_in t p0)) ≡ rest_at (unit_context source u earlier) file (length trail.lines.items) (state_in t p0) p0.text)
none-rests u t main earlier p0 trail none source =
    some_all (source_at t main)
    (λ file. put_after p0.text (file_items (unit_context source u earlier) 199 file (state_in t p0)) ≡ rest_at (unit_context source u earlier) file (length trail.lines.items) (state_in t p0) p0.text)
    (λ file. none-rest u earlier file (state_in t p0) p0.text trail none source)

pub front-place : (t : Table) (p0 p1 : Progress) (f : Front) (u : UnitValue) (n : ℕ) → HasBegun u t n (state_in t p0) p0.text
    → state_in t p1 ≡ record (front_state t f) { before = length p1.text.toks; behind = p0.behind } → p1.behind ≡ None
front-place t p0 p1 f u n begun state = ap (λ (x : State). x.behind) state ∙ ap (λ (x : State). x.behind) begun.state

pub begun-place : (t : Table) (p : Progress) (u : UnitValue) (n : ℕ) → HasBegun u t n (state_in t p) p.text → p.behind ≡ None
begun-place t p u n begun = ap (λ (x : State). x.behind) begun.state
