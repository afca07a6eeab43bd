use Rattle.std.proofs.Common.{◌≡◌, ◌++◌, ◌∷◌, [], List, ℕ, true, false, ap, sym, ◌∙◌, rules}
use Rattle.calls_of.specs.Walking.{is_marked}
use Rattle.calls_of.proofs.GraphListLemmas.{numbers-more}
use Rattle.calls_of.proofs.marks.Marks.numbers.Goals as goal
use Rattle.calls_of.proofs.marks.Marks.numbers.Goals.{then-mark+in_ok-push, else-mark}

pub loop-node-preserved : goal.loop-node-preserved
loop-node-preserved c =
    let test = is_marked c.args.self.now in
    let k = c.loop-node.node in
    let more = numbers-more test k in
    let before = c.loop-node.invariant in
    elim c.if-mark.branch [
      | then-mark+in_ok-push w ↦
          let yes : test k ≡ true = search rules in
          let now : c.if-mark.numbers.items ≡ c.loop-node.numbers.items ++ k ∷ [] = search rules in
          now ∙ ap (λ (ns : List ℕ). ns ++ k ∷ []) before ∙ sym (rw yes at more)
      | else-mark w ↦
          let no : test k ≡ false = search rules in
          let now : c.if-mark.numbers.items ≡ c.loop-node.numbers.items ++ [] = search rules in
          now ∙ ap (λ (ns : List ℕ). ns ++ []) before ∙ sym (rw no at more)
    ]
