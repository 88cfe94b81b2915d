use Rattle.std.proofs.Common.{arith}
use Rattle.rle_encoder.proofs.Added.{copied}
use Rattle.rle_encoder.proofs.storing.write_bytes.Goals as goal

pub returns-clause-bytes : goal.returns-clause-bytes
returns-clause-bytes c = copied c.args.out.now c.copy_from_slice.new.self c.args.bytes.now c.args.at _ c.copy_from_slice.ensures.after (omega arith)
