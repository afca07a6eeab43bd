-- A run falls into sections.
use Rattle.std.proofs.Common.{◌≡◌, ℕ, suc, List, [], ◌∷◌, ◌++◌, length, None, Result, Ok, refl, ap, ◌∙◌, append-nil}
use Rattle.macro_body.specs.declared.notes.Work.{Work}
use Rattle.macro_body.specs.Hides.{Hidden}
use Rattle.macro_body.specs.Notes.{Fault, Note, Expanded, expanded, put_out, onward}
use Rattle.macro_expand.specs.Expansion.{Setting, one_more, act, macro_of, whole}
use Rattle.macro_expand.specs.Laws.{put_out_after}
use Rattle.macro_expand.proofs.WholeLemmas.{whole_is_step}
use Rattle.expansion_laws.specs.Sections.{Section, laid_out, AreSigns, Fallen, FallsInto, RunsFall}
use Rattle.expansion_laws.proofs.SplitLemmas.{expansion_splits}

-- a token that no macro replaces is expanded to itself
pub sign_alone : (set : Setting) (depth before : ℕ) (t : Hidden) (work : Work) → macro_of set.table t ≡ None → whole set depth before (t ∷ []) work ≡ Ok (expanded (t ∷ []) [] work)
sign_alone set depth before t work is =
    whole_is_step set depth before (t ∷ []) work
    ∙ ap (act set (whole set) depth before t [] work) is
    ∙ ap (λ (r : Result Expanded Fault). onward r (λ o. Ok (put_out t o))) (whole_is_step set depth (one_more depth before) [] work)

fall : (set : Setting) (depth before : ℕ) (ts : List Hidden) (work : Work) (e : Expanded) (ss : List Section) (last : List Hidden)
    → whole set depth before ts work ≡ Ok e → e.toks ≡ laid_out ss last → AreSigns set.table ss
    → (fs : List Fallen) × (end : Fallen) × FallsInto set depth ts work e ss last fs end
unfolding laid_out
fall set depth before ts work e [] last is toks_are signs =
    let end : Fallen = record { toks = ts; before = before; work = work; out = e } in
    ([], end, (refl, refl, refl, toks_are, is))
fall set depth before ts work e (s ∷ ss) last is toks_are signs =
    let k = expansion_splits set depth before ts work e s.toks s.sign (laid_out ss last) is toks_are signs.0 in
    let f : Fallen = record { toks = k.xs; before = before; work = work; out = k.x } in
    let alone = sign_alone set depth (put_out_after depth before (length k.x.toks)) s.sign k.x.left signs.1 in
    let signed : whole set depth before (k.xs ++ s.sign ∷ []) work ≡ Ok (expanded (k.x.toks ++ s.sign ∷ []) k.x.notes k.x.left) =
    k.composes [] (expanded (s.sign ∷ []) [] k.x.left) alone
    ∙ ap (λ (l : List Note). Ok (expanded (k.x.toks ++ s.sign ∷ []) l k.x.left)) (append-nil k.x.notes) in
    let later = fall set depth (put_out_after depth before (suc (length k.x.toks))) k.ys k.x.left k.z ss last k.behind k.more signs.2 in
    (f ∷ later.0, later.1, (record { alone = k.first; signed = signed }, refl, k.toks, (k.ys, k.z, k.run, k.all, later.2)))

pub runs_fall : RunsFall
runs_fall = fall
