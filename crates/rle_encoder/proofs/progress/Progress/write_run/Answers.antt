use Rattle.std.proofs.Common.{◌+◌, length, ap, ◌∙◌, le_refl, arith}
use Rattle.packed.specs.Bytes.{overwrite}
use Rattle.rle.specs.Runs.{bytes_of, repeated}
use Rattle.rle_encoder.proofs.Added.{kept-over}
use Rattle.rle_encoder.proofs.progress.Progress.write_run.Goals as goal

pub write_bytes-requires : goal.write_bytes-requires
write_bytes-requires c =
    let p = c.args.self.now in
    let run = c.as_slice.ensures.value ∙ c.repeated_bytes-run.ensures ∙ ap (λ v. bytes_of p.width (repeated c.args.count v)) c.current.ensures in
    omega (arith, ap length run, c.requires.fits)

pub returns : goal.returns
returns c =
    let p = c.args.self.now in
    let run = c.as_slice.ensures.value ∙ c.repeated_bytes-run.ensures ∙ ap (λ v. bytes_of p.width (repeated c.args.count v)) c.current.ensures in
    record {
      bytes = c.write_bytes.ensures.bytes ∙ ap (overwrite c.args.out.now p.written) run;
      end = c.write_bytes.ensures.end ∙ ap (λ l. p.written + length l) run;
      kept = kept-over p.written c.as_slice.result.now c.requires.kept c.write_bytes.ensures.bytes (le_refl _) (omega (arith, ap length run, c.requires.fits));
    }
