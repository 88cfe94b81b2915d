use Rattle.std.proofs.Common.{leb, ◌≡◌, Ok, Some, sym, refl, ap, ◌∙◌, zero-le}
use Rattle.std.proofs.lemmas.Bool.{cond-false, leb-true}
use Rattle.std.proofs.lemmas.Result.{err_from_is_err_and}
use Rattle.column.specs.Taking.{head_fault}
use Rattle.rle.specs.Reading.{opens, reads, run_at, waiting_at}
use Rattle.rle.specs.Found.{found}
use Rattle.rle_decoder.proofs.Opened.{reads-opened, shut_allowed}
use Rattle.rle_decoder.proofs.Runs.{run_in_page, run_fits}
use Rattle.rle_decoder.proofs.decoder.RleDecoder.open_page.Goals as goal

pub returns-then-not-has_width : goal.returns-then-not-has_width
returns-then-not-has_width c =
    let w = c.args.width in
    let s = c.args.page.now in
    cond-false (leb w 64) (head_fault (reads w s)) _ (sym c.if-not-has_width.ensures) ∙ ap Some (sym c.into.ensures)

pub returns-in_err-run : goal.returns-in_err-run
returns-in_err-run c =
    let w = c.args.width in
    let s = c.args.page.now in
    let small = leb-true w 64 (sym c.if-not-has_width.ensures) in
    let p = err_from_is_err_and c.from_residual.result c.from_residual.ensures.1 in
    rw (p.1, p.2) (shut_allowed w (reads w s) small
    ∙ ap (λ st. head_fault (opens st (waiting_at w s 0))) (sym c.run_at.ensures ∙ ap found c.in_err-run.was))

pub invariant_of-result : goal.invariant_of-result
invariant_of-result c =
    let w = c.args.width in
    let s = c.args.page.now in
    let small = leb-true w 64 (sym c.if-not-has_width.ensures) in
    let stand : found (Ok c.in_ok-run.run') ≡ run_at w s 0 = sym (ap found c.in_ok-run.was) ∙ c.run_at.ensures in
    record {
      narrow = small;
      counted = zero-le;
      in_page = run_in_page w s 0 (found (Ok c.in_ok-run.run')) stand;
      value_fits = run_fits w s 0 (found (Ok c.in_ok-run.run')) small stand;
    }

pub returns : goal.returns
returns c =
    let w = c.args.width in
    let s = c.args.page.now in
    let small = leb-true w 64 (sym c.if-not-has_width.ensures) in
    let run = c.in_ok-run.run' in
    let stand : found (Ok run) ≡ run_at w s 0 = sym (ap found c.in_ok-run.was) ∙ c.run_at.ensures in
    let read = reads-opened w s run stand in
    (shut_allowed w (reads w s) small ∙ ap head_fault read, read, refl, refl)
