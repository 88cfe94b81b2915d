use Rattle.std.proofs.Common.{arith}
use Rattle.rle_encoder.proofs.Closed.{all_finished}
use Rattle.rle_encoder.proofs.Keeping.{kept-stands}
use Rattle.rle_encoder.proofs.progress.Progress.close.Goals as goal

pub clear_behind-requires : goal.clear_behind-requires
clear_behind-requires c =
    let ended = c.write_end-end.ensures.ended in
    omega (arith, ended.length_is, (kept-stands c.requires).fits, c.write_end-end.auto.out)

pub returns : goal.returns
returns c =
    let all = all_finished c.requires c.write_end-end.ensures.ended c.write_end-end.ensures.kept c.write_end-end.auto.out c.clear_behind.ensures in
    record { finished = all.0; kept = all.1 }
