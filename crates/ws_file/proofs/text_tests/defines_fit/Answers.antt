use Rattle.std.proofs.Common.{sym, ◌∙◌, arith}
use Rattle.ws_file.proofs.SizeLemmas.{settings_pass, includes_decide}
use Rattle.ws_file.proofs.text_tests.defines_fit.Goals as goal

pub returns-in-Some : goal.returns-in-Some
returns-in-Some c =
    c.includes_fit.ensures
    ∙ sym (includes_decide c.args.standard c.args.settings.now c.args.includes.now c.in-Some.room (omega (arith, c.in-Some.ensures, c.room_of.ensures)) (omega (arith, c.in-Some.ensures, c.room_of.ensures)))

pub returns-in-None : goal.returns-in-None
returns-in-None c =
    sym (settings_pass c.args.standard c.args.settings.now c.args.includes.now (omega (arith, c.in-None.ensures, c.room_of.ensures)))
