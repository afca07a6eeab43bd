use Rattle.std.proofs.Common.{◌≡◌, ◌∙◌, ◌-◌, suc, refl, arith}
use Rattle.lexer.specs.Tokens.{piece_length}
use Rattle.lexer.specs.Lone.{IsLone}
use Rattle.lexer.specs.Walk.{spelled}
use Rattle.lexer.proofs.LoneLemmas.{IsLone-none, IsLone-piece, IsLone-here}
use Rattle.lexer.proofs.LogicalLemmas.{spelled-within}
use Rattle.lexer.proofs.LineLemmas.{line_starts-table}
use Rattle.lexer.proofs.ScanLemmas.{Walked-none, Walked-gone, Walked-all, Walked-piece, Walked-open, IsClosed-from, walked-bounds, tokens_of-found, firsts_of-file, open_comment_of-file}
use Rattle.lexer.proofs.scan.scan.Goals as goal

pub loop-here-init : goal.loop-here-init
loop-here-init c =
    rw (c.new-toks.ensures.items, c.new-firsts.ensures.items)
    (Walked-none c.args.file c.args.bytes.now, IsLone-none (record { single = 0; double = 0 }) (spelled c.args.bytes.now) refl refl)

pub open_comment-requires-clause-table : goal.open_comment-requires-clause-table
open_comment-requires-clause-table c = rw c.requires.table (line_starts-table c.args.bytes.now c.requires.small)

pub returns-in-OpenComment : goal.returns-in-OpenComment
returns-in-OpenComment c =
    let w = Walked-gone c.args.file c.args.bytes.now c.loop-here.toks.items c.loop-here.firsts.items c.loop-here.line
    c.loop-here.at c.loop-here.gap c.loop-here.front c.loop-here.rest.now c.in-Some.here.now c.line_at-line_here.result
    c.in-Some.ensures.here c.line_at-line_here.ensures c.loop-here.invariant.0 in
    let is = rw c.expects_header.ensures at c.in-OpenComment.ensures in
    let opens = Walked-open c.args.file c.args.bytes.now c.loop-here.toks.items c.loop-here.firsts.items
    c.line_at-line_here.result c.loop-here.at c.loop-here.gap c.loop-here.front c.in-Some.here.now c.in-Some.first
    c.in-Some.after.now c.in-Some.ensures.first is w in
    let file = open_comment_of-file c.args.file c.args.bytes.now in
    rw (c.open_comment.ensures, c.requires.table)
    (record { open_comment = rw file at opens.0; place = opens.1 })

pub add_piece-requires : goal.add_piece-requires
add_piece-requires c =
    let few = spelled-within c.args.bytes.now in
    let within = c.in-Some.ensures.here.within in
    omega (arith, c.loop-here.invariant.0.count, c.loop-here.invariant.0.passes.within)

pub overflow_sub-n : goal.overflow_sub-n
overflow_sub-n c =
    let w = Walked-gone c.args.file c.args.bytes.now c.loop-here.toks.items c.loop-here.firsts.items c.loop-here.line
    c.loop-here.at c.loop-here.gap c.loop-here.front c.loop-here.rest.now c.in-Some.here.now c.line_at-line_here.result
    c.in-Some.ensures.here c.line_at-line_here.ensures c.loop-here.invariant.0 in
    let is = rw c.expects_header.ensures at c.first_piece-piece.ensures in
    let bounds = walked-bounds c.args.file c.args.bytes.now c.loop-here.toks.items c.loop-here.firsts.items
    c.line_at-line_here.result c.loop-here.at c.loop-here.gap c.loop-here.front c.in-Some.here.now c.in-Some.first
    c.in-Some.after.now c.first_piece-piece.result c.in-Some.ensures.first is
    (IsClosed-from c.first_piece-piece.result c.in_default-piece.not-OpenComment) w in
    omega (arith, bounds.0, c.len-n.ensures)

pub overflow_cast-at : goal.overflow_cast-at
overflow_cast-at c =
    let w = Walked-gone c.args.file c.args.bytes.now c.loop-here.toks.items c.loop-here.firsts.items c.loop-here.line
    c.loop-here.at c.loop-here.gap c.loop-here.front c.loop-here.rest.now c.in-Some.here.now c.line_at-line_here.result
    c.in-Some.ensures.here c.line_at-line_here.ensures c.loop-here.invariant.0 in
    let is = rw c.expects_header.ensures at c.first_piece-piece.ensures in
    let bounds = walked-bounds c.args.file c.args.bytes.now c.loop-here.toks.items c.loop-here.firsts.items
    c.line_at-line_here.result c.loop-here.at c.loop-here.gap c.loop-here.front c.in-Some.here.now c.in-Some.first
    c.in-Some.after.now c.first_piece-piece.result c.in-Some.ensures.first is
    (IsClosed-from c.first_piece-piece.result c.in_default-piece.not-OpenComment) w in
    omega (arith, bounds.2, c.len-n.ensures)

pub overflow_add-at : goal.overflow_add-at
overflow_add-at c =
    let w = Walked-gone c.args.file c.args.bytes.now c.loop-here.toks.items c.loop-here.firsts.items c.loop-here.line
    c.loop-here.at c.loop-here.gap c.loop-here.front c.loop-here.rest.now c.in-Some.here.now c.line_at-line_here.result
    c.in-Some.ensures.here c.line_at-line_here.ensures c.loop-here.invariant.0 in
    let is = rw c.expects_header.ensures at c.first_piece-piece.ensures in
    let bounds = walked-bounds c.args.file c.args.bytes.now c.loop-here.toks.items c.loop-here.firsts.items
    c.line_at-line_here.result c.loop-here.at c.loop-here.gap c.loop-here.front c.in-Some.here.now c.in-Some.first
    c.in-Some.after.now c.first_piece-piece.result c.in-Some.ensures.first is
    (IsClosed-from c.first_piece-piece.result c.in_default-piece.not-OpenComment) w in
    omega (arith, bounds.2, c.len-n.ensures)

pub after-front-requires : goal.after-front-requires
after-front-requires c =
    let w = Walked-gone c.args.file c.args.bytes.now c.loop-here.toks.items c.loop-here.firsts.items c.loop-here.line
    c.loop-here.at c.loop-here.gap c.loop-here.front c.loop-here.rest.now c.in-Some.here.now c.line_at-line_here.result
    c.in-Some.ensures.here c.line_at-line_here.ensures c.loop-here.invariant.0 in
    let is = rw c.expects_header.ensures at c.first_piece-piece.ensures in
    let bounds = walked-bounds c.args.file c.args.bytes.now c.loop-here.toks.items c.loop-here.firsts.items
    c.line_at-line_here.result c.loop-here.at c.loop-here.gap c.loop-here.front c.in-Some.here.now c.in-Some.first
    c.in-Some.after.now c.first_piece-piece.result c.in-Some.ensures.first is
    (IsClosed-from c.first_piece-piece.result c.in_default-piece.not-OpenComment) w in
    bounds.1

pub loop-here-preserved : goal.loop-here-preserved
loop-here-preserved c =
    let w = Walked-gone c.args.file c.args.bytes.now c.loop-here.toks.items c.loop-here.firsts.items c.loop-here.line
    c.loop-here.at c.loop-here.gap c.loop-here.front c.loop-here.rest.now c.in-Some.here.now c.line_at-line_here.result
    c.in-Some.ensures.here c.line_at-line_here.ensures c.loop-here.invariant.0 in
    let is = rw c.expects_header.ensures at c.first_piece-piece.ensures in
    let closed = IsClosed-from c.first_piece-piece.result c.in_default-piece.not-OpenComment in
    let over = rw c.len-n.ensures at c.behind-rest.ensures in
    let bounds = walked-bounds c.args.file c.args.bytes.now c.loop-here.toks.items c.loop-here.firsts.items
    c.line_at-line_here.result c.loop-here.at c.loop-here.gap c.loop-here.front c.in-Some.here.now c.in-Some.first
    c.in-Some.after.now c.first_piece-piece.result c.in-Some.ensures.first is closed w in
    let n = piece_length 0 c.first_piece-piece.result in
    let size : n ≡ suc (n - 1) = omega (arith, bounds.0) in
    let lone : IsLone c.behind-lone.result (spelled c.behind-rest.result.now) =
    rw (c.behind-lone.ensures, c.len-n.ensures)
    (IsLone-piece c.searched.result c.in-Some.here.now c.in-Some.first c.in-Some.after.now c.behind-rest.result.now n (n - 1)
    c.in-Some.ensures.first over size c.searched.ensures) in (
      rw (c.len-n.ensures, c.leaves_gap-gap.ensures, c.after-front.ensures)
          (Walked-piece c.args.file c.args.bytes.now c.loop-here.toks.items c.loop-here.firsts.items
          c.line_at-line_here.result c.loop-here.at c.loop-here.gap c.loop-here.front c.in-Some.here.now c.in-Some.first
          c.in-Some.after.now c.first_piece-piece.result c.behind-rest.result.now c.add_piece.new.toks.items
          c.add_piece.new.firsts.items c.line_at-line.result c.in-Some.ensures.first is closed over c.in_ok-add_piece.ensures.toks
          c.in_ok-add_piece.ensures.firsts c.line_at-line.ensures w),
      lone,
    )

pub returns : goal.returns
returns c =
    let all = Walked-all c.args.file c.args.bytes.now c.loop-here.toks.items c.loop-here.firsts.items c.loop-here.line
    c.loop-here.at c.loop-here.gap c.loop-here.front c.loop-here.rest.now c.in_default.ensures.none c.loop-here.invariant.0 in
    let file = open_comment_of-file c.args.file c.args.bytes.now in
    record {
      toks = all.toks_are ∙ tokens_of-found c.args.file c.args.bytes.now;
      firsts = all.firsts_are ∙ firsts_of-file c.args.file c.args.bytes.now;
      len = all.len;
      closed = rw file at all.closed;
    }

pub first_piece-piece-requires-clause-lone : goal.first_piece-piece-requires-clause-lone
first_piece-piece-requires-clause-lone c =
    IsLone-here c.loop-here.lone c.loop-here.rest.now c.in-Some.here.now c.in-Some.first c.in-Some.after.now
    c.in-Some.ensures.here c.in-Some.ensures.first c.loop-here.invariant.1

pub searched-requires : goal.searched-requires
searched-requires c =
    IsLone-here c.loop-here.lone c.loop-here.rest.now c.in-Some.here.now c.in-Some.first c.in-Some.after.now
    c.in-Some.ensures.here c.in-Some.ensures.first c.loop-here.invariant.1
