use Rattle.std.proofs.Common.{◌∙◌, not, ap, sym}
use Rattle.std.specs.Prelude.{None, Some}
use Rattle.line_diff.proofs.PairLemmas.{changed-at, changed-both, texts-get, texts-none}
use Rattle.line_diff.proofs.rows.is_changed.Goals as goal

pub returns-in-Some-Some : goal.returns-in-Some-Some
returns-in-Some-Some c =
    let old = c.in-Some-Some.old.now in
    let new = c.in-Some-Some.new.now in
    let a = c.in-Some-Some.ensures.lookup in
    let b = c.in-Some-Some.ensures'.lookup in
    let at =
    changed-at c.args.olds.now c.args.news.now c.args.k (Some old.now) (Some new.now)
    (texts-get c.args.olds.now c.args.k old a.3.0 a.1) (texts-get c.args.news.now c.args.k new b.3.0 b.1) in
    ap not c.is_same.ensures ∙ sym (changed-both old.now new.now) ∙ sym at

pub returns-in-Some-None : goal.returns-in-Some-None
returns-in-Some-None c =
    let old = c.in-Some-None.field-0-0.now in
    let a = c.in-Some-None.ensures.lookup in
    let b = c.in-Some-None.ensures'.lookup in
    sym
    (changed-at c.args.olds.now c.args.news.now c.args.k (Some old.now) None (texts-get c.args.olds.now c.args.k old a.3.0 a.1)
    (texts-none c.args.news.now c.args.k b.3))

pub returns-in-None-Some : goal.returns-in-None-Some
returns-in-None-Some c =
    let new = c.in-None-Some.field-0-1.now in
    let a = c.in-None-Some.ensures.lookup in
    let b = c.in-None-Some.ensures'.lookup in
    sym
    (changed-at c.args.olds.now c.args.news.now c.args.k None (Some new.now) (texts-none c.args.olds.now c.args.k a.3)
    (texts-get c.args.news.now c.args.k new b.3.0 b.1))

pub returns-in-None-None : goal.returns-in-None-None
returns-in-None-None c =
    let a = c.in-None-None.ensures.lookup in
    let b = c.in-None-None.ensures'.lookup in
    sym
    (changed-at c.args.olds.now c.args.news.now c.args.k None None (texts-none c.args.olds.now c.args.k a.3)
    (texts-none c.args.news.now c.args.k b.3))
