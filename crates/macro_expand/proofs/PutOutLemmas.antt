-- Facts on what is put out.
use Rattle.std.proofs.Common.{None, arith, false, refl, suc, zero, ℕ, ◌≡◌}
use Rattle.macro_expand.specs.Expansion.{macro_of, one_more}
use Rattle.macro_expand.specs.Laws.{put_out_after}
use Rattle.macro_body.specs.Macro.{Table}
use Rattle.macro_body.specs.Hides.{Hidden}
use Rattle.macro_body.specs.Below.line_shape.Signs.{is_name}

pub no_macro : (table : Table) (t : Hidden) → is_name t.tok ≡ false → macro_of table t ≡ None
no_macro table t h = rw h refl

pub count_later : (depth before n : ℕ) → put_out_after depth before (suc n) ≡ put_out_after depth (one_more depth before) n
count_later zero before n = omega arith
count_later (suc depth) before n = refl

pub count_none : (depth before : ℕ) → put_out_after depth before 0 ≡ before
count_none zero before = omega arith
count_none (suc depth) before = refl
