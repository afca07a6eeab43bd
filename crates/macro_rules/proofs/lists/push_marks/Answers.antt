use Rattle.std.proofs.Common.{◌≡◌, ℕ, ◌++◌, ◌∷◌, List, [], sym, ap, ◌∙◌, append-nil, arith}
use Rattle.macro_rules.proofs.ListLemmas.{marks_end, marks_next, marks_none, level_grows}
use Rattle.macro_rules.proofs.lists.push_marks.Goals as goal

pub returns-then-closes : goal.returns-then-closes
returns-then-closes c =
    let ended =
    marks_end c.args.toks.now c.tokens.marks.items c.tokens.level c.tokens.k c.index-toks-k.result (omega arith) c.index-toks-k.is (sym c.closes.ensures ∙ c.if-closes.true) in
    let list : c.new.result ≡ c.tokens.marks.items ++ c.tokens.k ∷ [] = c.new.ensures ∙ c.in_ok-push-2.ensures.items in
    c.in_ok-push-3.ensures.items ∙ ap (λ (ls : List (List ℕ)). ls ++ c.new.result ∷ []) c.tokens.invariant.2
    ∙ ap (λ (l : List ℕ). c.args.out.now.items ++ l ∷ []) list ∙ ap (λ (ls : List (List ℕ)). c.args.out.now.items ++ ls) (sym ended ∙ c.tokens.invariant.3)

pub tokens-preserved : goal.tokens-preserved
tokens-preserved c =
    let next =
    marks_next c.args.toks.now c.tokens.marks.items c.tokens.level c.tokens.k c.index-toks-k.result (omega arith) c.index-toks-k.is (sym c.closes.ensures ∙ c.if-closes.false) in
    let grows = level_grows c.tokens.level c.index-toks-k.result in (
      omega arith,
      omega (arith, grows, c.level_behind-level.ensures),
      c.tokens.invariant.2,
      rw (c.in_ok-push_mark.ensures, c.level_behind-level.ensures) (sym next ∙ c.tokens.invariant.3),
    )

pub returns : goal.returns
returns c =
    let none = marks_none c.args.toks.now c.tokens.marks.items c.tokens.level c.tokens.k (omega arith) in
    c.tokens.invariant.2 ∙ sym (append-nil c.args.out.now.items) ∙ ap (λ (ls : List (List ℕ)). c.args.out.now.items ++ ls) (sym none ∙ c.tokens.invariant.3)
