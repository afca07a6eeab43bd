use Rattle.std.proofs.Common.{ℕ, suc, ◌≡◌, ◌-◌, ◌<◌, List, Option, None, sym, ap, subst, ◌∙◌, arith}
use Rattle.cs_base.specs.Token.{Token}
use Rattle.c99_tree.specs.Tree.{Forest}
use Rattle.c99_read.specs.Children.{from_child}
use Rattle.c99_grammar.specs.Standard.{Grammar, grammar}
use Rattle.c99_read.specs.State.{last_identifier}
use Rattle.c99_read.proofs.ChildLemmas.{from_child-end, last_identifier-at, last_identifier-before}
use Rattle.c99_read.proofs.identifiers.last_identifier.Goals as goal

pub children-init : goal.children-init
children-init c = λ found.
    ap (λ f. last_identifier (grammar c.args.dialect) c.args.toks.now f found)
    (from_child-end c.args.node.now.under c.len-k.result (omega (arith, c.len-k.ensures)))

behind : (g : Grammar) (toks : List Token) (f : Forest) (k : ℕ) → 0 < k → ((x : Option ℕ) → last_identifier g toks (from_child k f) x ≡ x)
    → (x : Option ℕ) → last_identifier g toks (from_child (suc (k - 1)) f) x ≡ x
behind g toks f k some none =
    let P : ℕ → Type 0 = λ j. (x : Option ℕ) → last_identifier g toks (from_child j f) x ≡ x in
    let same : k ≡ suc (k - 1) = omega (arith, some) in
    subst P same none

pub returns-in-Some : goal.returns-in-Some
returns-in-Some c =
    sym (last_identifier-at (grammar c.args.dialect) c.args.toks.now c.args.node.now.under (c.children.k - 1) c.in-Some.index None
    (sym c.identifier_at.ensures ∙ c.in-Some.is) (behind (grammar c.args.dialect) c.args.toks.now c.args.node.now.under c.children.k c.children-test.true c.children.invariant))

pub children-preserved : goal.children-preserved
children-preserved c =
    last_identifier-before (grammar c.args.dialect) c.args.toks.now c.args.node.now.under (c.children.k - 1)
    (sym c.identifier_at.ensures ∙ c.in_default.is) (behind (grammar c.args.dialect) c.args.toks.now c.args.node.now.under c.children.k c.children-test.true c.children.invariant)
