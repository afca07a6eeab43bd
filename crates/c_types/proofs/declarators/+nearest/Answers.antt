use Rattle.std.proofs.Common.{ℕ, ◌+◌, ◌≤◌, ◌≡◌, Bool, None, sym, ap, ◌∙◌, arith}
use Rattle.std.specs.Option.{option_map}
use Rattle.c99_tree.specs.Tree.{Forest, count_of}
use Rattle.c_types.specs.Children.{from_child}
use Rattle.c_types.specs.Lists.{nearest_of}
use Rattle.c_types.specs.Fronts.{is_front_pointer}
use Rattle.c_types.proofs.ChildWalks.{from_child-end}
use Rattle.c_types.proofs.FrontLemmas.{or_pointer, or_pointer-found, or_pointer-on, nearest_of-front}
use Rattle.c_types.proofs.declarators.+nearest.Goals as goal

at_end : (f : Forest) (k : ℕ) (pointed : Bool) → count_of f ≤ k → or_pointer pointed (nearest_of (from_child k f)) ≡ nearest_of f → or_pointer pointed None ≡ nearest_of f
at_end f k pointed past kept = sym (ap (λ g. or_pointer pointed (nearest_of g)) (from_child-end f k past)) ∙ kept

pub nearest-returns-in-Some : goal.nearest-returns-in-Some
nearest-returns-in-Some t c =
    let f = c.args.declarator.now.under in
    or_pointer-found _ (is_front_pointer (from_child c.parts.k f)) _ (nearest_of (from_child (c.parts.k + 1) f)) _ _ _ c.parts.invariant
    (nearest_of-front f c.parts.k)
    (sym c.nearest_at.ensures ∙ ap (option_map (λ o. option_map (λ t. t.now.under) o)) c.in-Some.is)

pub nearest-parts-preserved : goal.nearest-parts-preserved
nearest-parts-preserved t c =
    ap (λ b. or_pointer b (nearest_of (from_child (c.parts.k + 1) c.args.declarator.now.under))) c.is_pointed-pointed.ensures
    ∙ or_pointer-on _ _ _ _ _ _ c.parts.invariant (nearest_of-front c.args.declarator.now.under c.parts.k)
    (sym c.nearest_at.ensures ∙ ap (option_map (λ o. option_map (λ t. t.now.under) o)) c.in_default.is)

pub nearest-returns-then-pointed : goal.nearest-returns-then-pointed
nearest-returns-then-pointed t c =
    ap (λ b. or_pointer b None) (sym c.if-pointed.true)
    ∙ at_end c.args.declarator.now.under c.parts.k c.parts.pointed (omega (arith, c.parts-test.false, c.len-count.ensures)) c.parts.invariant

pub nearest-returns-else-pointed : goal.nearest-returns-else-pointed
nearest-returns-else-pointed t c =
    ap (λ b. or_pointer b None) (sym c.if-pointed.false)
    ∙ at_end c.args.declarator.now.under c.parts.k c.parts.pointed (omega (arith, c.parts-test.false, c.len-count.ensures)) c.parts.invariant
