use Rattle.std.proofs.Common.{◌≡◌, ◌-◌, true, false, take, drop, length, sym, ◌∙◌, arith}
use Rattle.std.proofs.lemmas.List.{take_rest}
use Rattle.line_shape.specs.MacroLine.{is_function_like}
use Rattle.macro_body.proofs.DefiningLemmas.{define_line, define_line-length, defined_by-closed, defined_by-function, defined_by-object, if_ok-more}
use Rattle.macro_body.proofs.definitions.Definition.of.Goals as goal

pub bounds-toks-2 : goal.bounds-toks-2
bounds-toks-2 c = let len = define_line-length c.args.toks.now (define_line c.args.toks.now c.requires.defines) in omega arith

pub slice_bounds-rest-count : goal.slice_bounds-rest-count
slice_bounds-rest-count c = let len = define_line-length c.args.toks.now (define_line c.args.toks.now c.requires.defines) in omega arith

pub slice_bounds-rest-start : goal.slice_bounds-rest-start
slice_bounds-rest-start c = define_line-length c.args.toks.now (define_line c.args.toks.now c.requires.defines)

pub function_like-requires : goal.function_like-requires
function_like-requires c =
    let toks = c.args.toks.now in
    let function : is_function_like (drop 3 toks) ≡ true = rw (take_rest toks 3) at (sym c.is_function_like.ensures ∙ c.if-is_function_like.true) in
    record { closed = rw (take_rest (take (length toks - 3) (drop 3 toks)) 1, take_rest toks 3) (defined_by-closed toks (define_line toks c.requires.defines) function) }

pub returns-then-is_function_like : goal.returns-then-is_function_like
returns-then-is_function_like c =
    let toks = c.args.toks.now in
    let function : is_function_like (drop 3 toks) ≡ true = rw (take_rest toks 3) at (sym c.is_function_like.ensures ∙ c.if-is_function_like.true) in
    if_ok-more c.function_like.result (rw (take_rest (take (length toks - 3) (drop 3 toks)) 1, take_rest toks 3) at c.function_like.ensures)
    (λ m same. defined_by-function toks (define_line toks c.requires.defines) c.index-toks-2.result m c.index-toks-2.is function same)

pub returns-else-is_function_like : goal.returns-else-is_function_like
returns-else-is_function_like c =
    let toks = c.args.toks.now in
    let object : is_function_like (drop 3 toks) ≡ false = rw (take_rest toks 3) at (sym c.is_function_like.ensures ∙ c.if-is_function_like.false) in
    if_ok-more c.object_like.result (rw (take_rest toks 3) at c.object_like.ensures)
    (λ m same. defined_by-object toks (define_line toks c.requires.defines) c.index-toks-2.result m c.index-toks-2.is object same)
