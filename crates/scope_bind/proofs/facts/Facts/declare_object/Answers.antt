use Rattle.std.proofs.Common.{ℕ, ◌≡◌, List, Some, ap, ◌∙◌}
use Rattle.std.proofs.lemmas.Result.{IfOk-equal}
use Rattle.cs_base.specs.Token.{Token}
use Rattle.c99_tree.specs.Tree.{Forest}
use Rattle.c_types.specs.declared.frames.Frame.{Frame}
use Rattle.scope_bind.specs.declared.ordinary.Declared.{Declared}
use Rattle.c_types.specs.Types.{CType}
use Rattle.c_types.specs.Trees.{last_token, declarator_type}
use Rattle.c_types.specs.Declarations.{Facts}
use Rattle.scope_bind.specs.Known.{known}
use Rattle.scope_bind.specs.Ordinary.{declared, new_object, with_object}
use Rattle.scope_bind.proofs.facts.Facts.declare_object.Goals as goal

object-made : (toks : List Token) (f : Frame) (under : Forest) (i last : ℕ) (base t : CType) (n : Declared) (s : Facts)
    → base ≡ f.base → t ≡ declarator_type base under → last ≡ last_token under i → n ≡ new_object toks f i last t s
    → declared toks f.scope n s ≡ with_object toks f under (Some i) s
object-made toks f under i last base t n s based typed ends made =
    ap (λ m. declared toks f.scope m s)
    (made
    ∙ (ap (λ k. new_object toks f i k t s) ends
    ∙ ap (λ u. new_object toks f i (last_token under i) u s) (typed ∙ ap (λ b. declarator_type b under) based)))

pub returns-in_ok-n-in-Some : goal.returns-in_ok-n-in-Some
returns-in_ok-n-in-Some c =
    let toks = c.args.self.now.toks in
    let f = c.args.f.now in
    let u = c.args.tree.now.under in
    rw c.in-Some.is
    (IfOk-equal c.declare_name.result c.declare_name.new.self
    (known toks (declared toks f.scope c.in_ok-n-in-Some.n c.args.self.now.facts)) (known toks (with_object toks f u (Some c.in-Some.i) c.args.self.now.facts))
    c.declare_name.ensures
    (ap (known toks)
    (object-made toks f u c.in-Some.i c.last_token.result c.in_ok-copied-in-Some.field-0 c.in_ok-t-in-Some.t c.in_ok-n-in-Some.n c.args.self.now.facts
    c.in_ok-copied-in-Some.ensures c.in_ok-t-in-Some.ensures c.last_token.ensures c.in_ok-n-in-Some.ensures)))
