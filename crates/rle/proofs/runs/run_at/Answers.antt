use Rattle.std.proofs.Common.{Ok, sym, ap, ◌∙◌, arith}
use Rattle.std.proofs.lemmas.Result.{err_from_is_err_and}
use Rattle.rle.proofs.Headers.{run-by-header}
use Rattle.rle.proofs.Later.{past-stands}
use Rattle.rle.proofs.runs.run_at.Goals as goal

pub returns-then-at-page : goal.returns-then-at-page
returns-then-at-page c = sym (past-stands c.args.width c.args.page.now c.args.at (omega arith))

pub returns-in_err-header : goal.returns-in_err-header
returns-in_err-header c =
    let p = err_from_is_err_and c.from_residual.result c.from_residual.ensures.1 in
    rw (p.1, p.2) (sym (run-by-header c.args.width c.args.page.now c.args.at (sym c.header_at.ensures.value ∙ c.in_err-header.was)))

pub returns-in_default : goal.returns-in_default
returns-in_default c =
    sym (run-by-header c.args.width c.args.page.now c.args.at (sym c.header_at.ensures.value ∙ c.in_ok-header.was ∙ ap Ok c.in_default.is))

pub returns : goal.returns
returns c =
    c.run.ensures ∙ sym (run-by-header c.args.width c.args.page.now c.args.at (sym c.header_at.ensures.value ∙ c.in_ok-header.was ∙ ap Ok c.in-Some.is))
