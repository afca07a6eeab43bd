use Rattle.std.proofs.Common.{◌≡◌, sym, ap, ◌∙◌}
use Rattle.std.specs.Prelude.{slice_get}
use Rattle.std.proofs.lemmas.Option.{same_Some, get_or_from_slice_get}
use Rattle.analysis.specs.Spellings.{spelling_in}
use Rattle.analysis.proofs.TokenSearchLemmas.{over_once}
use Rattle.analysis.proofs.spelling.slice_in.Goals as goal

pub returns-in-Some : goal.returns-in-Some
returns-in-Some c = λ k t at held.
    let toks = c.args.toks.now in
    let i = c.in-Some.k in
    let token = c.index-toks-k.result in
    let over = c.in-Some.ensures in
    let here : token ≡ over.0 = c.index-toks-k.is ∙ get_or_from_slice_get toks i over.0 token over.1 in
    let place : i ≡ k = over_once toks c.args.part.start i k over.0 t c.requires over.1 at over.2 held in
    let same : over.0 ≡ t = same_Some over.0 t (sym over.1 ∙ ap (slice_get toks) place ∙ at) in
    c.slice_of.ensures ∙ ap (spelling_in c.args.part) (here ∙ same)
