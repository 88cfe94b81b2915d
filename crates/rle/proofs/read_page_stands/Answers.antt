use Rattle.std.proofs.Common.{suc, length, arith}
use Rattle.rle.proofs.Leniencies.{lenient-from}
use Rattle.rle.proofs.read_page_stands.Goals as goal

pub returns : goal.returns
returns c = λ w s vs bytes read. lenient-from w s bytes (suc (length s)) 0 vs (omega arith) read
