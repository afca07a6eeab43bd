use Rattle.std.proofs.Common.{◌≡◌, ◌+◌, ◌-◌, ◌*◌, max, Ok}
use Rattle.c99_grammar.specs.Items.{many}
use Rattle.c99_grammar.specs.ItemsOf.{item_of, test_of}
use Rattle.c99_read.specs.Levels.{level_of, height, size}
use Rattle.c99_read.specs.Reading.{step, whole, tokens_left, produce}
use Rattle.c99_read.specs.Answer.{ReadsNode}
use Rattle.c99_read.proofs.OperatorLemmas.{Under}
use Rattle.c99_grammar.specs.Standard.{grammar}
use Rattle.c99_read.proofs.reader.Reader.+reading.Given as goal

abbrev pub decreases-produce : goal.decreases-produce
decreases-produce l = 100000 * (257 - l.depth) + 1000 * level_of l.production + 950

abbrev pub decreases-node : goal.decreases-node
decreases-node l = 100000 * (257 - l.depth) + 1000 * level_of l.production + 900

abbrev pub decreases-binary : goal.decreases-binary
decreases-binary l = 100000 * (257 - l.depth) + 1000 * level_of l.production + 890

abbrev pub decreases-over_first : goal.decreases-over_first
decreases-over_first l = 100000 * (257 - l.depth) + 1000 * level_of l.production + 885

abbrev pub decreases-joined : goal.decreases-joined
decreases-joined l = 100000 * (257 - l.depth) + 1000 * level_of l.production + 880

abbrev pub decreases-alternative : goal.decreases-alternative
decreases-alternative l = 100000 * (257 - l.depth) + 1000 * level_of l.production + 890

abbrev pub decreases-alone : goal.decreases-alone
decreases-alone l = 100000 * (257 - l.depth) + 1000 * level_of l.first + 950

abbrev pub decreases-led : goal.decreases-led
decreases-led l = 100000 * (257 - l.depth) + 1000 * level_of l.production + 885

abbrev pub decreases-opened : goal.decreases-opened
decreases-opened l = 100000 * (257 - l.depth) + 1000 * level_of l.production + 800

abbrev pub decreases-item : goal.decreases-item
decreases-item l = 100000 * (257 - l.depth) + 1000 * height (item_of l.item.now) + 4 * size (item_of l.item.now) + 1

abbrev pub decreases-either : goal.decreases-either
decreases-either l =
    100000 * (257 - l.depth) + 1000 * max (height (item_of l.first.now)) (height (item_of l.second.now))
    + 4 * (size (item_of l.first.now) + size (item_of l.second.now) + 1)

abbrev pub decreases-maybe : goal.decreases-maybe
decreases-maybe l = 100000 * (257 - l.depth) + 1000 * height (item_of l.item.now) + 4 * size (item_of l.item.now) + 2

abbrev pub decreases-repeated : goal.decreases-repeated
decreases-repeated l = 100000 * (257 - l.depth) + 1000 * height (item_of l.item.now) + 4 * size (item_of l.item.now) + 2

abbrev pub decreases-deep : goal.decreases-deep
decreases-deep l = 100000 * (257 - l.depth) + 2

-- the node is what the production becomes that was read, and so many stand over it
abbrev pub invariant-binary-rungs : goal.invariant-binary-rungs
invariant-binary-rungs l =
    (l.self.dialect ≡ l.dialect) ×
    Under l.left l.read l.fn.production ×
    ReadsNode (Ok l.node) l.fn.self.state l.self.state (whole (grammar l.dialect) l.depth (produce l.read))

abbrev pub decreases-binary-rungs : goal.decreases-binary-rungs
decreases-binary-rungs l = l.left

abbrev pub invariant-repeated-turns : goal.invariant-repeated-turns
invariant-repeated-turns l =
    (l.self.dialect ≡ l.dialect) ×
    (step (grammar l.dialect) (whole (grammar l.dialect)) l.depth (many (test_of l.test) (item_of l.item)) l.self.state
    ≡ step (grammar l.dialect) (whole (grammar l.dialect)) l.depth (many (test_of l.test) (item_of l.item)) l.initial.self.state)

abbrev pub decreases-repeated-turns : goal.decreases-repeated-turns
decreases-repeated-turns l = tokens_left l.self.state
