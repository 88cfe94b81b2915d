use Rattle.std.proofs.Common.{refl, arith}
use Rattle.rle_decoder.proofs.Taking.{took_run}
use Rattle.rle_decoder.proofs.decoder.RleDecoder.pass_run.Goals as goal

pub returns-clause-took : goal.returns-clause-took
returns-clause-took c = took_run c.args.self.now _ c.min-passed.result refl refl refl refl (omega arith)
