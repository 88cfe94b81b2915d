use Rattle.std.proofs.Common.{suc, ◌<◌, length, arith}
use Rattle.std.proofs.ByRecursion.{All-from_get_or}
use Rattle.rle.proofs.Leniencies.{lenient-from}
use Rattle.rle.proofs.ReadBack.{hybrid-opens}
use Rattle.rle_decoder.proofs.decoder.RleDecoder.open.Goals as goal

pub returns-clause-standing : goal.returns-clause-standing
returns-clause-standing c = λ vs stands. hybrid-opens c.args.width stands

pub returns-clause-lenient : goal.returns-clause-lenient
returns-clause-lenient c =
    let w = c.args.width in
    let s = c.args.page.now in
    let bytes = All-from_get_or (λ b. b < 256) s 0 (λ i _. (c.type_inv.page i).fits) in
    λ vs read. lenient-from w s bytes (suc (length s)) 0 vs (omega arith) read
