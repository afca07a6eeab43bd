use Rattle.std.proofs.Common.{◌≡◌, ◌∙◌, List, ℕ, ap, subst, sym}
use Rattle.std.specs.Prelude.{IsUtf8}
use Rattle.cs_base.specs.Paths.{normal_path_of}
use Rattle.batch_run.proofs.WordLemmas.{IsUtf8-normal_path_of}
use Rattle.command_words.specs.Request.{order_of}
use Rattle.cscout_run.proofs.edits.turning.Goals as goal

pub path_text-requires : goal.path_text-requires
path_text-requires c =
    let P : List ℕ → Type 0 = λ path. IsUtf8 path in
    subst P (sym c.in_ok-path.ensures) (IsUtf8-normal_path_of c.as_bytes.result.now c.as_bytes.ensures.utf8)

pub returns-clause-keeps : goal.returns-clause-keeps
returns-clause-keeps c =
    let path : c.path_text.result.now ≡ normal_path_of c.args.q.now.path.now =
    c.path_text.ensures ∙ (c.in_ok-path.ensures ∙ ap normal_path_of c.as_bytes.ensures.value) in
    let order : c.deref.result.now ≡ order_of c.args.q.now.order.now =
    c.deref.ensures.value ∙ (c.in_ok-order.ensures ∙ ap order_of c.as_bytes-2.ensures.value) in
    rw (← path, ← order) c.plan_macro.ensures.tokens
