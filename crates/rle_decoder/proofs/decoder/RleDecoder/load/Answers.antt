use Rattle.std.proofs.Common.{zero-le}
use Rattle.rle_decoder.specs.Decoder.{page_of}
use Rattle.rle.specs.Found.{found}
use Rattle.rle_decoder.proofs.Runs.{run_in_page, run_fits}
use Rattle.rle_decoder.proofs.decoder.RleDecoder.load.Goals as goal

pub invariant_of-self : goal.invariant_of-self
invariant_of-self c =
    let d = c.args.self.now in
    let stand = found c.run_at-self.result in
    record {
      narrow = d.narrow;
      counted = zero-le;
      in_page = run_in_page d.width (page_of d) c.args.at stand c.run_at-self.ensures;
      value_fits = run_fits d.width (page_of d) c.args.at stand d.narrow c.run_at-self.ensures;
    }
