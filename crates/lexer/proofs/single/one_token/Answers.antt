use Rattle.std.proofs.Common.{◌≡◌, ◌-◌, suc, length, refl, arith, ap}
use Rattle.lexer.specs.Tokens.{piece_length}
use Rattle.lexer.specs.Lone.{IsLone}
use Rattle.lexer.specs.Walk.{spelled}
use Rattle.lexer.proofs.LoneLemmas.{IsLone-none, IsLone-piece, IsLone-here}
use Rattle.lexer.proofs.LogicalLemmas.{spelled-first}
use Rattle.lexer.proofs.ScanLemmas.{IsClosed-from, closed-bounds}
use Rattle.lexer.proofs.SingleLemmas.{Counted-none, Counted-gone, Counted-piece, Counted-open, Counted-all}
use Rattle.lexer.proofs.single.one_token.Goals as goal

pub loop-here-init : goal.loop-here-init
loop-here-init c = (Counted-none c.args.text.now, IsLone-none (record { single = 0; double = 0 }) (spelled c.args.text.now) refl refl)

pub returns-in-OpenComment : goal.returns-in-OpenComment
returns-in-OpenComment c =
    let w = Counted-gone c.args.text.now c.loop-here.held c.loop-here.front c.loop-here.rest.now c.in-Some.here.now
    c.in-Some.ensures.here c.loop-here.invariant.0 in
    let is = rw c.expects_header.ensures at c.in-OpenComment.ensures in
    Counted-open c.args.text.now c.loop-here.held c.loop-here.front c.in-Some.here.now c.in-Some.first c.in-Some.after.now
    c.in-Some.ensures.first is w

pub overflow_sub-n : goal.overflow_sub-n
overflow_sub-n c =
    let is = rw c.expects_header.ensures at c.first_piece-piece.ensures in
    let bounds = closed-bounds _ c.in-Some.first (spelled c.in-Some.after.now) c.first_piece-piece.result is
    (IsClosed-from c.first_piece-piece.result c.in_default-piece.not-OpenComment) in
    omega (arith, bounds.0, c.len-n.ensures)

pub after-front-requires : goal.after-front-requires
after-front-requires c =
    let is = rw c.expects_header.ensures at c.first_piece-piece.ensures in
    let bounds = closed-bounds _ c.in-Some.first (spelled c.in-Some.after.now) c.first_piece-piece.result is
    (IsClosed-from c.first_piece-piece.result c.in_default-piece.not-OpenComment) in
    let whole = ap length (spelled-first c.in-Some.here.now c.in-Some.first c.in-Some.after.now c.in-Some.ensures.first) in
    omega (arith, bounds.1)

pub loop-here-preserved : goal.loop-here-preserved
loop-here-preserved c =
    let w = Counted-gone c.args.text.now c.loop-here.held c.loop-here.front c.loop-here.rest.now c.in-Some.here.now
    c.in-Some.ensures.here c.loop-here.invariant.0 in
    let is = rw c.expects_header.ensures at c.first_piece-piece.ensures in
    let over = rw c.len-n.ensures at c.behind-rest.ensures in
    let closed = IsClosed-from c.first_piece-piece.result c.in_default-piece.not-OpenComment in
    let bounds = closed-bounds _ c.in-Some.first (spelled c.in-Some.after.now) c.first_piece-piece.result is closed in
    let n = piece_length 0 c.first_piece-piece.result in
    let size : n ≡ suc (n - 1) = omega (arith, bounds.0) in
    let lone : IsLone c.behind-lone.result (spelled c.behind-rest.result.now) =
    rw (c.behind-lone.ensures, c.len-n.ensures)
    (IsLone-piece c.searched.result c.in-Some.here.now c.in-Some.first c.in-Some.after.now c.behind-rest.result.now n (n - 1)
    c.in-Some.ensures.first over size c.searched.ensures) in (
      rw (c.after-held.ensures, c.after-front.ensures)
          (Counted-piece c.args.text.now c.loop-here.held c.loop-here.front c.in-Some.here.now c.in-Some.first c.in-Some.after.now
          c.first_piece-piece.result c.behind-rest.result.now c.in-Some.ensures.first is closed over w),
      lone,
    )

pub returns : goal.returns
returns c =
    rw c.kind.ensures (Counted-all c.args.text.now c.loop-here.held c.loop-here.front c.loop-here.rest.now
    c.in_default.ensures.none c.loop-here.invariant.0)

pub first_piece-piece-requires-clause-lone : goal.first_piece-piece-requires-clause-lone
first_piece-piece-requires-clause-lone c =
    IsLone-here c.loop-here.lone c.loop-here.rest.now c.in-Some.here.now c.in-Some.first c.in-Some.after.now
    c.in-Some.ensures.here c.in-Some.ensures.first c.loop-here.invariant.1

pub searched-requires : goal.searched-requires
searched-requires c =
    IsLone-here c.loop-here.lone c.loop-here.rest.now c.in-Some.here.now c.in-Some.first c.in-Some.after.now
    c.in-Some.ensures.here c.in-Some.ensures.first c.loop-here.invariant.1
