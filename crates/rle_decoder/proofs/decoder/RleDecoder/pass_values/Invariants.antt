use Rattle.std.proofs.Common.{◌-◌, ◌≤◌}
use Rattle.rle_decoder.specs.Decoder.{Took}
use Rattle.rle_decoder.proofs.decoder.RleDecoder.pass_values.Given as goal

abbrev pub invariant-loop-passed : goal.invariant-loop-passed
invariant-loop-passed l = record { took : Took l.initial.self l.self l.passed; most : l.passed ≤ l.count }

abbrev pub decreases-loop-passed : goal.decreases-loop-passed
decreases-loop-passed l = l.count - l.passed
