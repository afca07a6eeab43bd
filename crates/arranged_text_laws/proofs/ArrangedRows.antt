-- Worked rows: a file with one list in another, both of which may change.
use Rattle.std.proofs.Common.{◌≡◌, true, false, [], ◌∷◌, codes, refl, arith}
use Rattle.lexer.specs.Logical.{gone_length, logical_of, logical_from}
use Rattle.lexer.specs.Spelling.{is_punctuator_text, kind_of, kind_in}
use Rattle.lexer.specs.Front.{front_of, plain_front, punctuator_length}
use Rattle.lexer.specs.Tokens.{front_length, token_piece, piece_of}
use Rattle.list_cuts.specs.Cuts.{Cut, done, keep, list, ended, item, count_of, span_of, extent_of, woven, gaps_of, arranged, items_of}
use Rattle.arranged_text_laws.specs.Settling.{settles, gap_behind, front_behind}
use Rattle.arranged_text_laws.specs.Joining.{is_seam}
use Rattle.arranged_text_laws.specs.Marks.{file_front, before, marks_from, brought}
use Rattle.arranged_text_laws.specs.Seams.{kept}
use Rattle.arranged_text_laws.specs.Weighed.{weighed, weighed_items}
use Rattle.arranged_text_laws.specs.Arranging.{MayMove, token_cut, character_cut}

-- `f(a, b)`, where the items are one character each
two_items : Cut
two_items = keep 2 (list (item 1 done 2 (item 1 done 0 ended)) done)

row_bytes : arranged (2 ∷ 1 ∷ []) two_items (codes "f(a, b);") ≡ codes "f(b, a);"
unfolding arranged items_of gaps_of woven span_of two_items
row_bytes = refl

row_tokens : token_cut 1 (character_cut two_items (codes "f(a, b);")) (codes "f(a, b);") ≡ keep 2 (list (item 1 done 1 (item 1 done 0 ended)) done)
unfolding two_items weighed weighed_items span_of kept gone_length brought marks_from logical_of logical_from file_front piece_of token_piece front_length kind_in kind_of is_punctuator_text
row_tokens = refl

row_moves : MayMove two_items (codes "f(a, b);")
unfolding two_items weighed weighed_items span_of extent_of count_of kept gone_length front_of plain_front punctuator_length is_seam settles gap_behind front_behind marks_from logical_of logical_from file_front piece_of token_piece front_length kind_in kind_of is_punctuator_text
row_moves = record {
  within = omega arith;
  seams = (tt, refl, (omega arith, (tt, refl, omega arith, (refl, refl), (refl, refl), (tt, refl, omega arith, (refl, refl), refl, tt)), tt, (refl, refl)));
  more = refl;
  inside = omega arith;
  end = before false false;
  settles = (
    tt,
    refl,
    (
      before false false,
      (refl, refl),
      (
        omega arith,
        (
          tt,
          (refl, refl, refl),
          omega arith,
          (refl, refl, (refl, refl)),
          (refl, refl, (before true false, (refl, refl))),
          (tt, (refl, refl, refl), omega arith, (refl, refl, (refl, refl)), refl, tt),
        ),
        refl,
        (refl, refl, (refl, refl)),
      ),
    ),
  );
  stop = refl;
}
