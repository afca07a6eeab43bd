-- Include lines whose pieces are put in, and the rest of the unit's own file.
use Rattle.std.proofs.Common.{◌≡◌, ◌≤◌, ◌<◌, ◌-◌, ◌+◌, ℕ, suc, length, false, List, [], ◌∷◌, ◌++◌, map, drop, Option, None, Some, Ok, Err, refl, sym, ◌∙◌, ap, subst, arith}
use Rattle.std.specs.Prelude.{IfSome, slice_get}
use Rattle.std.proofs.lemmas.List.{append-nil, length-append}
use Rattle.std.proofs.lemmas.Option.{same_Some}
use Rattle.cs_base.specs.Token.{Token}
use Rattle.cs_base.specs.Units.{UnitValue}
use Rattle.cs_base.specs.declared.positions.Pos.{Pos}
use Rattle.source_files.specs.Files.{Source, Table, SourceFile}
use Rattle.source_files.specs.Limits.{the_limits}
use Rattle.source_files.specs.Search.{Header, behind_of}
use Rattle.source_files.specs.Sources.{source_at}
use Rattle.unit_steps.specs.Expanding.{most_toks}
use Rattle.unit_steps.specs.IncludeNames.{header_named}
use Rattle.unit_steps.specs.Keeping.{noted_in, put_in, put_after}
use Rattle.unit_steps.specs.Notes.{Note, Reaches, Entered, Exited}
use Rattle.unit_steps.specs.Pieces.{joined}
use Rattle.unit_steps.specs.State.{Context, State, did, Outcome, only, noted, onward}
use Rattle.unit_steps.specs.Texts.{UnitTextValue}
use Rattle.unit_steps.proofs.KeepingLemmas.{noted_in-append}
use Rattle.cs_base.proofs.ListLemmas.{drop-some}
use Rattle.source_files.proofs.SearchedLemmas.{drop-past}
use Rattle.unit_steps.specs.Moments.{IsAble}
use Rattle.unit_steps.specs.declared.progress.Progress.{Progress}
use Rattle.include_tree.specs.declared.fronts.Line.{Line}
use Rattle.include_tree.specs.declared.leads.Lead.{Lead}
use Rattle.include_tree.specs.Sections.{Section}
use Rattle.include_tree.specs.GivenFiles.{unit_context}
use Rattle.include_tree.specs.Including.{Inner, open_header, entered, unless_once, included, include_of}
use Rattle.include_tree.specs.Walk.{ItemText, items_in, stepped, item_step, file_items}
use Rattle.include_tree.specs.Walking.{stepped_after, with_sections, inner_in}
use Rattle.include_tree.specs.Leads.{IsWritten, IsLead, AreLeads, rest_at}
use Rattle.include_tree.specs.Fronts.{Piece, placed, IsPiece, ArePieces, state_behind, piece_text, events_behind, texts_of, all_events, line_of, looks, left_piece, with_piece, with_pieces, AreLinesOf}
use Rattle.include_tree.proofs.WalkedLemmas.{place_of, included-open, entered-done, walk-more}

step-included : (text : UnitTextValue) (r : Note) (sections : List Section) (m : Outcome (List Token))
    → stepped_after text (noted (r ∷ []) (onward (noted [] m) (λ toks t. only (stepped toks sections) t))) ≡ with_sections sections (put_after (noted_in text (r ∷ [])) m)
step-included text r sections (Ok d) =
    ap (λ (k : UnitTextValue). Ok (sections, d.state, put_in k d.value)) (ap (λ (ns : List Note). noted_in text (r ∷ ns)) (append-nil d.notes) ∙ noted_in-append text (r ∷ []) d.notes)
step-included text r sections (Err f) = refl

-- an include line that names its header, in no section
pub lead-step : (ctx : Context) (inner : Inner) (main : SourceFile) (k : ℕ) (i : ItemText) (h : Header) (s : State) (text : UnitTextValue) → IsWritten i h
    → stepped_after text (item_step ctx inner main k i [] s)
    ≡ with_sections [] (put_after (noted_in text (Reaches main.number k false s.before ∷ [])) (included ctx inner main i.at false h s))
lead-step ctx inner main k i h s text is =
    let r : Note = Reaches main.number k false s.before in
    let named : header_named main i.at (drop 2 i.toks) s ≡ only h s = rw is.1.2 (rw is.1.3 (ap (λ (x : Header). only x s) (sym is.1.4))) in
    let line : include_of ctx inner main i.at i.toks s ≡ noted [] (included ctx inner main i.at false h s) =
    ap (λ (m : Outcome Header). onward m (included ctx inner main i.at false)) named in
    rw is.0 (ap (λ (m : Outcome (List Token)). stepped_after text (noted (r ∷ []) (onward m (λ toks t. only (stepped toks []) t)))) line
    ∙ step-included text r [] (included ctx inner main i.at false h s))

-- the text behind such a line, by what is counted
abbrev text_by : UnitTextValue → ℕ → ℕ → Lead → Piece → ℕ → Pos → ℕ → ℕ → UnitTextValue
text_by text main k l p before at after events =
    noted_in (joined (noted_in (noted_in text (Reaches main k false before ∷ [])) (Entered at l.number before ∷ [])) (piece_text events p)) (Exited at l.number after ∷ [])

module _ (source : Source) (earlier : ℕ) (u : UnitValue) (main : SourceFile) (table : Table) (k : ℕ) (l : Lead) (x : State) (p : Piece) (text : UnitTextValue)
    (is : IsLead u table main k l) (piece : IsPiece (looks u) table (placed table None x) p) (number : p.file.number ≡ l.number) (behind : p.behind ≡ l.behind)
    (few : p.after.before ≤ most_toks (unit_context source u earlier)) (toks : length text.toks ≡ x.before) where
  abbrev ctx : Context
  ctx = unit_context source u earlier

  abbrev s : State
  s = placed table None x

  abbrev at : Pos
  at = is.item.at

  abbrev one : UnitTextValue
  one = noted_in text (Reaches main.number k false s.before ∷ [])

  abbrev two : UnitTextValue
  two = noted_in one (Entered at l.number s.before ∷ [])

  file-there : source_at table l.number ≡ Some p.file
  file-there = ap (source_at table) (sym number) ∙ piece.file

  opened : open_header ctx main at false is.header s ≡ Ok (did p.file [] s)
  opened =
      let gives = is.opens.0 source earlier s refl refl in
      let same : gives.0 ≡ p.file = same_Some gives.0 p.file (sym gives.1 ∙ file-there) in
      ap (λ (a : Pos). open_header ctx main a false is.header s) is.place ∙ gives.2 ∙ ap (λ (f : SourceFile). Ok (did f [] s)) same

  begins : place_of ctx main false is.header s p.file ≡ p.behind
  begins =
      let there : l.behind ≡ behind_of false is.header None main.path u p.file.path =
      subst (λ (o : Option SourceFile). IfSome o (λ inner. l.behind ≡ behind_of false is.header None main.path u inner.path)) file-there is.opens.1 in
      sym there ∙ sym behind

  inside : put_after two (unless_once at (file_items ctx 198) p.file (record s { behind = p.behind }))
      ≡ Ok (record p.after { table = table }, joined two (piece_text (length two.events) p))
  inside = rw piece.other (ap (put_after two) (piece.gives source u.project u.path u.settings u.includes earlier few))

  counted : text_by text main.number k l p s.before at p.after.before (length two.events) ≡ with_piece main.number k l (piece_text (length text.events + 1) p) text
  counted =
      let more : p.after.before ≡ length (text.toks ++ p.toks) = piece.counted ∙ omega (arith, toks, length-append text.toks p.toks) in
      let events : length two.events ≡ length text.events + 1 = grind (arith, length-append) in
      λ j. text_by text main.number k l p (sym toks j) (is.place j) (more j) (events j)

  pub piece-put : stepped_after text (item_step ctx (inner_in ctx (the_limits.open_files - 1)) main k is.item [] s)
      ≡ Ok ([], placed table None p.after, with_piece main.number k l (piece_text (length text.events + 1) p) text)
  piece-put =
      let room : 0 < the_limits.open_files - 1 = omega arith in
      let goes = included-open ctx (the_limits.open_files - 1) main at false is.header s one p.file s room opened in
      let enters = entered-done (unless_once at (file_items ctx 198)) at p.behind p.file l.number s (record p.after { table = table }) one (joined two (piece_text (length two.events) p)) number inside in
      lead-step ctx (inner_in ctx (the_limits.open_files - 1)) main k is.item is.header s text is.written
      ∙ ap (with_sections []) (goes ∙ ap (λ (b : Option ℕ). put_after one (entered (unless_once at (file_items ctx 198)) at b p.file s)) begins ∙ enters)
      ∙ ap (λ (t : UnitTextValue). Ok ([], placed table None p.after, t)) counted

  pub walks-piece : rest_at ctx main k s text
      ≡ rest_at ctx main (k + 1) (placed table None p.after) (with_piece main.number k l (piece_text (length text.events + 1) p) text)
  walks-piece =
      walk-more ctx (inner_in ctx (the_limits.open_files - 1)) main k (items_in main) [] s text is.item [] (placed table None p.after)
      (with_piece main.number k l (piece_text (length text.events + 1) p) text) is.at piece-put

-- ---- what a line adds

pub piece-toks : (main k : ℕ) (l : Lead) (piece text : UnitTextValue) → length (with_piece main k l piece text).toks ≡ length text.toks + length piece.toks
piece-toks main k l piece text = length-append text.toks piece.toks

pub piece-events : (main k events : ℕ) (l : Lead) (p : Piece) (text : UnitTextValue) → length (with_piece main k l (piece_text events p) text).events ≡ events_behind (length text.events) p
piece-events main k events l p text = grind (arith, length-append)

pub before-grows : (u : UnitValue) (table : Table) (x : State) (pieces : List Piece) → ArePieces u table (placed table None x) pieces
    → x.before ≤ (state_behind table (placed table None x) pieces).before
before-grows u table x [] are = omega arith
before-grows u table x (p ∷ pieces) are =
    let rest = before-grows u table p.after pieces are.1 in
    let counted : p.after.before ≡ x.before + length p.toks = are.0.counted in
    omega (arith, rest, counted)

-- ---- pieces, one behind the other

module _ (source : Source) (earlier : ℕ) (u : UnitValue) (main : SourceFile) (table : Table) where
  abbrev context_of : Context
  context_of = unit_context source u earlier

  pub put-walks : (k events : ℕ) (x : State) (pieces : List Piece) (leads : List Lead) (text : UnitTextValue)
      → ArePieces (looks u) table (placed table None x) pieces → AreLinesOf (map line_of pieces) leads → AreLeads u table main k leads
      → (state_behind table (placed table None x) pieces).before ≤ most_toks context_of
      → length text.toks ≡ x.before → length text.events ≡ events
      → rest_at context_of main k (placed table None x) text
      ≡ rest_at context_of main (k + length pieces) (state_behind table (placed table None x) pieces) (with_pieces main.number k leads (texts_of events pieces) text)
  put-walks k events x [] leads text are lines known few toks count =
      ap (λ (n : ℕ). rest_at context_of main n (placed table None x) (with_pieces main.number k leads [] text)) (omega arith)
  put-walks k events x (p ∷ pieces) [] text are lines known few toks count = absurd lines
  put-walks k events x (p ∷ pieces) (l ∷ leads) text are lines known few toks count =
      let less = before-grows (looks u) table p.after pieces are.1 in
      let here : p.after.before ≤ most_toks context_of = omega (arith, less, few) in
      let next : UnitTextValue = with_piece main.number k l (piece_text (events + 1) p) text in
      let counted : p.after.before ≡ x.before + length p.toks = are.0.counted in
      let more : length next.toks ≡ p.after.before = piece-toks main.number k l (piece_text (events + 1) p) text ∙ omega (arith, toks, counted) in
      let behind : length next.events ≡ events_behind events p = piece-events main.number k (events + 1) l p text ∙ ap (λ (e : ℕ). events_behind e p) count in
      walks-piece source earlier u main table k l x p text known.0 are.0 lines.0 lines.1 here toks
      ∙ ap (λ (e : ℕ). rest_at context_of main (k + 1) (placed table None p.after) (with_piece main.number k l (piece_text (e + 1) p) text)) count
      ∙ put-walks (k + 1) (events_behind events p) p.after pieces leads next are.1 lines.2 known.1 few more behind
      ∙ ap (λ (n : ℕ). rest_at context_of main n (state_behind table (placed table None p.after) pieces) (with_pieces main.number (k + 1) leads (texts_of (events_behind events p) pieces) next)) (omega arith)

pub put-toks : (u : UnitValue) (table : Table) (main k events : ℕ) (x : State) (pieces : List Piece) (leads : List Lead) (text : UnitTextValue)
    → ArePieces u table (placed table None x) pieces → AreLinesOf (map line_of pieces) leads → length text.toks ≡ x.before
    → length (with_pieces main k leads (texts_of events pieces) text).toks ≡ (state_behind table (placed table None x) pieces).before
put-toks u table main k events x [] leads text are lines toks = toks
put-toks u table main k events x (p ∷ pieces) [] text are lines toks = absurd lines
put-toks u table main k events x (p ∷ pieces) (l ∷ leads) text are lines toks =
    let counted : p.after.before ≡ x.before + length p.toks = are.0.counted in
    put-toks u table main (k + 1) (events_behind events p) p.after pieces leads (with_piece main k l (piece_text (events + 1) p) text) are.1 lines.2
    (piece-toks main k l (piece_text (events + 1) p) text ∙ omega (arith, toks, counted))

pub put-events : (main k events : ℕ) (pieces : List Piece) (leads : List Lead) (text : UnitTextValue) → AreLinesOf (map line_of pieces) leads → length text.events ≡ events
    → length (with_pieces main k leads (texts_of events pieces) text).events ≡ all_events events pieces
put-events main k events [] leads text lines count = count
put-events main k events (p ∷ pieces) [] text lines count = absurd lines
put-events main k events (p ∷ pieces) (l ∷ leads) text lines count =
    put-events main (k + 1) (events_behind events p) pieces leads (with_piece main k l (piece_text (events + 1) p) text) lines.2
    (piece-events main k (events + 1) l p text ∙ ap (λ (e : ℕ). events_behind e p) count)

pub texts-counted : (events : ℕ) (pieces : List Piece) → length (texts_of events pieces) ≡ length pieces
texts-counted events [] = refl
texts-counted events (p ∷ pieces) = ap suc (texts-counted (events_behind events p) pieces)

pub lines-counted : (pieces : List Piece) → length (map line_of pieces) ≡ length pieces
lines-counted [] = refl
lines-counted (p ∷ pieces) = ap suc (lines-counted pieces)

-- ---- texts that are put in, one at a time

pub pieces-grow : (main k : ℕ) (leads : List Lead) (texts : List UnitTextValue) (text : UnitTextValue) → length text.toks ≤ length (with_pieces main k leads texts text).toks
pieces-grow main k leads [] text = omega arith
pieces-grow main k [] (t ∷ texts) text = omega arith
pieces-grow main k (l ∷ leads) (t ∷ texts) text =
    let rest = pieces-grow main (k + 1) leads texts (with_piece main k l t text) in
    let one = piece-toks main k l t text in
    omega (arith, rest, one)

pub put-next : (main k : ℕ) (leads : List Lead) (texts : List UnitTextValue) (text : UnitTextValue) (l : Lead) (t : UnitTextValue) → slice_get leads k ≡ Some l → slice_get texts k ≡ Some t
    → with_pieces main k (drop k leads) (drop k texts) text ≡ with_pieces main (k + 1) (drop (k + 1) leads) (drop (k + 1) texts) (with_piece main k l t text)
put-next main k leads texts text l t at at2 =
    ap (λ (ls : List Lead). with_pieces main k ls (drop k texts) text) (drop-some leads k l at)
    ∙ ap (λ (ts : List UnitTextValue). with_pieces main k (l ∷ drop (k + 1) leads) ts text) (drop-some texts k t at2)

pub put-end : (main k : ℕ) (leads : List Lead) (texts : List UnitTextValue) (text : UnitTextValue) → length texts ≤ k → with_pieces main k (drop k leads) (drop k texts) text ≡ text
put-end main k leads texts text past = ap (λ (ts : List UnitTextValue). with_pieces main k (drop k leads) ts text) (drop-past texts k past)

pub lines-fit : (lines : List Line) (leads : List Lead) → AreLinesOf lines leads → length lines ≤ length leads
lines-fit [] leads h = omega arith
lines-fit (l ∷ lines) [] h = absurd h
lines-fit (l ∷ lines) (d ∷ leads) h = let rest = lines-fit lines leads h.2 in omega (arith, rest)

-- a piece is put in
pub put-done : (main k : ℕ) (l : Lead) (piece : UnitTextValue) (p0 p1 p2 p4 : Progress) (t3 : UnitTextValue)
    → p1 ≡ record p0 { text = noted_in p0.text (Reaches main k false (length p0.text.toks) ∷ []) }
    → p2 ≡ record p1 { text = noted_in p1.text (Entered l.at l.number (length p1.text.toks) ∷ []) }
    → t3 ≡ joined p2.text piece → p4 ≡ record p2 { text = noted_in t3 (Exited l.at l.number (length t3.toks) ∷ []) }
    → p4 ≡ record p0 { text = with_piece main k l piece p0.text }
put-done main k l piece p0 p1 p2 p4 t3 reaches enters joins leaves =
    leaves ∙ ap (λ (t : UnitTextValue). record p2 { text = noted_in t (Exited l.at l.number (length t.toks) ∷ []) }) joins
    ∙ ap (λ (p : Progress). record p { text = left_piece l (joined p.text piece) }) enters
    ∙ ap (λ (p : Progress). record p { text = left_piece l (joined (noted_in p.text (Entered l.at l.number (length p.text.toks) ∷ [])) piece) }) reaches

-- what is true at a moment stays so with a text that is not too long
pub able-with : (p : Progress) (text : UnitTextValue) → IsAble p → length text.toks ≤ p.most → IsAble (record p { text = text })
able-with p text able few = record { few = few; low = able.low; little = able.little; traced = able.traced }

-- it stays so while texts are put in that are not too long together
pub able-still : (main k : ℕ) (leads : List Lead) (texts : List UnitTextValue) (p0 p : Progress) → IsAble p0 → length (with_pieces main 0 leads texts p0.text).toks ≤ p0.most
    → with_pieces main 0 leads texts p0.text ≡ with_pieces main k (drop k leads) (drop k texts) p.text → p ≡ record p0 { text = p.text } → IsAble p
able-still main k leads texts p0 p able few rest same =
    let grows = pieces-grow main k (drop k leads) (drop k texts) p.text in
    let all : length (with_pieces main 0 leads texts p0.text).toks ≡ length (with_pieces main k (drop k leads) (drop k texts) p.text).toks = ap (λ (x : UnitTextValue). length x.toks) rest in
    subst IsAble (sym same) (able-with p0 p.text able (omega (arith, grows, all, few)))

pub room-still : (main k : ℕ) (leads : List Lead) (texts : List UnitTextValue) (p0 p : Progress) (l : Lead) (t : UnitTextValue) → length (with_pieces main 0 leads texts p0.text).toks ≤ p0.most
    → with_pieces main 0 leads texts p0.text ≡ with_pieces main k (drop k leads) (drop k texts) p.text → p ≡ record p0 { text = p.text }
    → slice_get leads k ≡ Some l → slice_get texts k ≡ Some t → length p.text.toks + length t.toks ≤ p.most
room-still main k leads texts p0 p l t few rest same at at2 =
    let next = rest ∙ put-next main k leads texts p.text l t at at2 in
    let grows = pieces-grow main (k + 1) (drop (k + 1) leads) (drop (k + 1) texts) (with_piece main k l t p.text) in
    let one = piece-toks main k l t p.text in
    let all = ap (λ (x : UnitTextValue). length x.toks) next in
    let most : p.most ≡ p0.most = ap (λ (x : Progress). x.most) same in
    omega (arith, grows, one, all, few, most)
