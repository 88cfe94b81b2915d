use Rattle.rle.specs.Found.{found}
use Rattle.rle_decoder.specs.Decoder.{page_of, Took}
use Rattle.rle_decoder.proofs.Runs.{turns_left}
use Rattle.rle_decoder.proofs.decoder.RleDecoder.refill.Given as goal

abbrev pub invariant-loop-count : goal.invariant-loop-count
invariant-loop-count l = Took l.initial.self l.self 0

abbrev pub decreases-loop-count : goal.decreases-loop-count
decreases-loop-count l = turns_left (page_of l.self) (found l.self.run)
