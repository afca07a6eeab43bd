use Rattle.std.proofs.Common.{◌≡◌, ℕ, ◌+◌, ◌-◌, ◌<◌, ◌≤◌, ◌^◌, List, get_or, set, length, sym, ◌∙◌, ap, arith, subst}
use Rattle.std.proofs.lemmas.List.{get_or-set_other}
use Rattle.class_labels.specs.declared.spots.Spot.{Spot}
use Rattle.class_labels.specs.Table.{In}
use Rattle.class_labels.specs.Links.{members, with_parts, with_part, with_links}
use Rattle.class_labels.proofs.MemberFacts.{members_first, members_rest, members_none, with_links_nil, with_links_more, with_links_last}
use Rattle.class_labels.proofs.PartFacts.{with_parts_step, with_parts_nil}
use Rattle.class_labels.proofs.partition.split.Goals as goal

-- where a step of the loop stands, over plain values
record Place (at len left : ℕ) (nexts now : List ℕ) (all : List ℕ) (x n : ℕ) : Type 0 where
  more : 0 < left
  less : at < len
  short : n < 2 ^ 32
  among : (y : ℕ) → In y (members left nexts x) → In y all
  within : (y : ℕ) → In y all → y + len ≤ n
  kept : (y : ℕ) → In y all → get_or now y 0 ≡ get_or nexts y 0
  clear : (y z : ℕ) → In y all → In z all → z ≡ y + at → ⊥

here_in : (at len left : ℕ) (nexts now all : List ℕ) (x n : ℕ) → Place at len left nexts now all x n → In x all
here_in at len left nexts now all x n p = p.among x (members_first left nexts x p.more)

here_fits : (at len left : ℕ) (nexts now all : List ℕ) (x n : ℕ) → Place at len left nexts now all x n → x + len ≤ n
here_fits at len left nexts now all x n p = p.within x (here_in at len left nexts now all x n p)

next_fits : (at len left : ℕ) (nexts now all : List ℕ) (x n : ℕ) → Place at len left nexts now all x n → 0 < left - 1 → get_or now x 0 + len ≤ n
next_fits at len left nexts now all x n p h =
    let y = get_or nexts x 0 in
    let inside = p.within y (p.among y (members_rest left nexts x y p.more (members_first (left - 1) nexts y h))) in
    let same = p.kept x (here_in at len left nexts now all x n p) in
    omega arith

next_among : (at len left : ℕ) (nexts now all : List ℕ) (x n : ℕ) → Place at len left nexts now all x n → (y : ℕ) → In y (members (left - 1) nexts (get_or now x 0)) → In y all
next_among at len left nexts now all x n p y i =
    let same = p.kept x (here_in at len left nexts now all x n p) in
    let P : ℕ → Type 0 = λ v. In y (members (left - 1) nexts v) in
    p.among y (members_rest left nexts x y p.more (subst P same i))

next_kept : (at len left : ℕ) (nexts now all : List ℕ) (x n v : ℕ) → Place at len left nexts now all x n → (y : ℕ) → In y all → get_or (set now (x + at) v) y 0 ≡ get_or nexts y 0
next_kept at len left nexts now all x n v p y i =
    get_or-set_other now (x + at) y v 0 (λ e. p.clear x y (here_in at len left nexts now all x n p) i e) ∙ p.kept y i

next_labels : (class at len left : ℕ) (nexts now all : List ℕ) (x n : ℕ) (spots written : List Spot) → Place at len left nexts now all x n → written ≡ with_part class (len - at) (x + at) spots
    → with_parts class at (len - at) (members (left - 1) nexts (get_or now x 0)) written ≡ with_parts class at (len - at) (members left nexts x) spots
next_labels class at len left nexts now all x n spots written p is =
    let same = p.kept x (here_in at len left nexts now all x n p) in
    ap (λ v. with_parts class at (len - at) (members (left - 1) nexts v) written) same
    ∙ ap (λ v. with_parts class at (len - at) (members (left - 1) nexts (get_or nexts x 0)) v) is
    ∙ sym (with_parts_step class at (len - at) left nexts x spots p.more)

next_links : (at len left : ℕ) (nexts now all : List ℕ) (x n : ℕ) → Place at len left nexts now all x n → 0 < left - 1
    → with_links at (members (left - 1) nexts (get_or now x 0)) (set now (x + at) (get_or now x 0 + at)) ≡ with_links at (members left nexts x) now
next_links at len left nexts now all x n p h =
    let same = p.kept x (here_in at len left nexts now all x n p) in
    ap (λ v. with_links at (members (left - 1) nexts v) (set now (x + at) (v + at))) same ∙ sym (with_links_more at left nexts now x h)

last_links : (at len left : ℕ) (nexts now all : List ℕ) (x n : ℕ) → Place at len left nexts now all x n → left - 1 ≤ 0
    → with_links at (members (left - 1) nexts (get_or now x 0)) now ≡ with_links at (members left nexts x) now
last_links at len left nexts now all x n p h =
    let same = p.kept x (here_in at len left nexts now all x n p) in
    ap (λ v. with_links at (members (left - 1) nexts v) now) same ∙ sym (with_links_last at left nexts now x p.more h)

pub overflow_add-x : goal.overflow_add-x
overflow_add-x c =
    let all = members c.args.row.size c.args.nexts.now c.args.row.first in
    let fits : c.loop-left.x + c.args.row.len ≤ length c.args.spots.now =
    c.requires.within c.loop-left.x (c.loop-left.invariant.among c.loop-left.x (members_first c.loop-left.left c.args.nexts.now c.loop-left.x c.loop-left-test.true)) in
    omega arith

pub write_part-requires : goal.write_part-requires
write_part-requires c =
    let fits : c.loop-left.x + c.args.row.len ≤ length c.args.spots.now =
    c.requires.within c.loop-left.x (c.loop-left.invariant.among c.loop-left.x (members_first c.loop-left.left c.args.nexts.now c.loop-left.x c.loop-left-test.true)) in
    omega arith

pub bounds-nexts-x : goal.bounds-nexts-x
bounds-nexts-x c =
    let fits : c.loop-left.x + c.args.row.len ≤ length c.args.spots.now =
    c.requires.within c.loop-left.x (c.loop-left.invariant.among c.loop-left.x (members_first c.loop-left.left c.args.nexts.now c.loop-left.x c.loop-left-test.true)) in
    omega arith

pub overflow_add-nexts : goal.overflow_add-nexts
overflow_add-nexts c =
    let all = members c.args.row.size c.args.nexts.now c.args.row.first in
    let n = length c.args.spots.now in
    let p : Place c.args.at c.args.row.len c.loop-left.left c.args.nexts.now c.loop-left.nexts all c.loop-left.x n = record {
      more = c.loop-left-test.true;
      less = c.requires.less;
      short = c.requires.short;
      among = c.loop-left.invariant.among;
      within = c.requires.within;
      kept = c.loop-left.invariant.kept;
      clear = c.requires.clear;
    } in
    let fits : get_or c.loop-left.nexts c.loop-left.x 0 + c.args.row.len ≤ n = next_fits c.args.at c.args.row.len c.loop-left.left c.args.nexts.now c.loop-left.nexts all c.loop-left.x n p c.if-left-gt0.true in
    omega arith

pub overflow_add-nexts-then-left-gt0 : goal.overflow_add-nexts-then-left-gt0
overflow_add-nexts-then-left-gt0 c =
    let all = members c.args.row.size c.args.nexts.now c.args.row.first in
    let n = length c.args.spots.now in
    let p : Place c.args.at c.args.row.len c.loop-left.left c.args.nexts.now c.loop-left.nexts all c.loop-left.x n = record {
      more = c.loop-left-test.true;
      less = c.requires.less;
      short = c.requires.short;
      among = c.loop-left.invariant.among;
      within = c.requires.within;
      kept = c.loop-left.invariant.kept;
      clear = c.requires.clear;
    } in
    let fits : c.loop-left.x + c.args.row.len ≤ n = here_fits c.args.at c.args.row.len c.loop-left.left c.args.nexts.now c.loop-left.nexts all c.loop-left.x n p in
    omega arith

pub bounds-nexts-x-then-left-gt0 : goal.bounds-nexts-x-then-left-gt0
bounds-nexts-x-then-left-gt0 c =
    let all = members c.args.row.size c.args.nexts.now c.args.row.first in
    let n = length c.args.spots.now in
    let p : Place c.args.at c.args.row.len c.loop-left.left c.args.nexts.now c.loop-left.nexts all c.loop-left.x n = record {
      more = c.loop-left-test.true;
      less = c.requires.less;
      short = c.requires.short;
      among = c.loop-left.invariant.among;
      within = c.requires.within;
      kept = c.loop-left.invariant.kept;
      clear = c.requires.clear;
    } in
    let fits : c.loop-left.x + c.args.row.len ≤ n = here_fits c.args.at c.args.row.len c.loop-left.left c.args.nexts.now c.loop-left.nexts all c.loop-left.x n p in
    omega arith

pub loop-left-preserved-then-left-gt0 : goal.loop-left-preserved-then-left-gt0
loop-left-preserved-then-left-gt0 c =
    let all = members c.args.row.size c.args.nexts.now c.args.row.first in
    let n = length c.args.spots.now in
    let p : Place c.args.at c.args.row.len c.loop-left.left c.args.nexts.now c.loop-left.nexts all c.loop-left.x n = record {
      more = c.loop-left-test.true;
      less = c.requires.less;
      short = c.requires.short;
      among = c.loop-left.invariant.among;
      within = c.requires.within;
      kept = c.loop-left.invariant.kept;
      clear = c.requires.clear;
    } in
    record {
      labels = next_labels c.args.class c.args.at c.args.row.len c.loop-left.left c.args.nexts.now c.loop-left.nexts all c.loop-left.x n c.loop-left.spots c.write_part.new.spots p c.write_part.ensures ∙ c.loop-left.invariant.labels;
      links = next_links c.args.at c.args.row.len c.loop-left.left c.args.nexts.now c.loop-left.nexts all c.loop-left.x n p c.if-left-gt0.true ∙ c.loop-left.invariant.links;
      among = next_among c.args.at c.args.row.len c.loop-left.left c.args.nexts.now c.loop-left.nexts all c.loop-left.x n p;
      kept = next_kept c.args.at c.args.row.len c.loop-left.left c.args.nexts.now c.loop-left.nexts all c.loop-left.x n (get_or c.loop-left.nexts c.loop-left.x 0 + c.args.at) p;
    }

pub loop-left-preserved : goal.loop-left-preserved
loop-left-preserved c =
    let all = members c.args.row.size c.args.nexts.now c.args.row.first in
    let n = length c.args.spots.now in
    let p : Place c.args.at c.args.row.len c.loop-left.left c.args.nexts.now c.loop-left.nexts all c.loop-left.x n = record {
      more = c.loop-left-test.true;
      less = c.requires.less;
      short = c.requires.short;
      among = c.loop-left.invariant.among;
      within = c.requires.within;
      kept = c.loop-left.invariant.kept;
      clear = c.requires.clear;
    } in
    record {
      labels = next_labels c.args.class c.args.at c.args.row.len c.loop-left.left c.args.nexts.now c.loop-left.nexts all c.loop-left.x n c.loop-left.spots c.write_part.new.spots p c.write_part.ensures ∙ c.loop-left.invariant.labels;
      links = last_links c.args.at c.args.row.len c.loop-left.left c.args.nexts.now c.loop-left.nexts all c.loop-left.x n p c.if-left-gt0.false ∙ c.loop-left.invariant.links;
      among = next_among c.args.at c.args.row.len c.loop-left.left c.args.nexts.now c.loop-left.nexts all c.loop-left.x n p;
      kept = c.loop-left.invariant.kept;
    }

pub returns-clause-labels : goal.returns-clause-labels
returns-clause-labels c =
    sym (ap (λ v. with_parts c.args.class c.args.at (c.args.row.len - c.args.at) v c.loop-left.spots) (members_none c.loop-left.left c.args.nexts.now c.loop-left.x (omega arith))
    ∙ with_parts_nil c.args.class c.args.at (c.args.row.len - c.args.at) c.loop-left.spots) ∙ c.loop-left.invariant.labels

pub returns-clause-links : goal.returns-clause-links
returns-clause-links c =
    sym (ap (λ v. with_links c.args.at v c.loop-left.nexts) (members_none c.loop-left.left c.args.nexts.now c.loop-left.x (omega arith))
    ∙ with_links_nil c.args.at c.loop-left.nexts) ∙ c.loop-left.invariant.links
