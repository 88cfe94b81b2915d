use Rattle.std.proofs.Common.{length, ap, ◌∙◌, arith}
use Rattle.rle.specs.Runs.{bytes_of, repeated}
use Rattle.rle_encoder.proofs.Added.{close-room, closed, only-run, run-facts}
use Rattle.rle_encoder.proofs.Keeping.{stands-accepted, stands-kept}
use Rattle.rle_encoder.proofs.RleEncoder.close_run.Goals as goal

pub repeated_bytes-run-requires-clause-count : goal.repeated_bytes-run-requires-clause-count
repeated_bytes-run-requires-clause-count c = omega (arith, (run-facts c.args.self.now c.args.count c.requires.run).1, c.args.self.now.kept.short)

pub store-self-requires-clause-fits : goal.store-self-requires-clause-fits
store-self-requires-clause-fits c =
    let e = c.args.self.now in
    omega (
      arith,
      close-room e c.args.value c.requires.takes c.args.count c.requires.run c.requires.other,
      ap length (c.as_slice.ensures.value ∙ c.repeated_bytes-run.ensures ∙ ap (λ v. bytes_of e.progress.width (repeated c.args.count v)) c.current.ensures),
    )

pub collect-requires-clause-few : goal.collect-requires-clause-few
collect-requires-clause-few c =
    omega (arith, ap length (ap (λ p. p.gathered.items) c.store-self.ensures.unmoved.progress_is ∙ only-run c.args.self.now c.args.count c.requires.run))

pub invariant_of-self : goal.invariant_of-self
invariant_of-self c =
    let e = c.args.self.now in
    record {
      kept = stands-kept
          (closed e c.args.value c.requires.takes c.args.count c.store-self.new.self c.requires.run c.requires.other
          (c.as_slice.ensures.value ∙ c.repeated_bytes-run.ensures ∙ ap (λ v. bytes_of e.progress.width (repeated c.args.count v)) c.current.ensures)
          c.store-self.ensures.end c.store-self.ensures.bytes c.store-self.ensures.unmoved c.collect.ensures);
    }

pub returns : goal.returns
returns c =
    let e = c.args.self.now in
    record {
      accepted_is = stands-accepted
          (closed e c.args.value c.requires.takes c.args.count c.store-self.new.self c.requires.run c.requires.other
          (c.as_slice.ensures.value ∙ c.repeated_bytes-run.ensures ∙ ap (λ v. bytes_of e.progress.width (repeated c.args.count v)) c.current.ensures)
          c.store-self.ensures.end c.store-self.ensures.bytes c.store-self.ensures.unmoved c.collect.ensures);
      width_is = ap (λ p. p.width) c.collect.ensures ∙ ap (λ p. p.width) c.store-self.ensures.unmoved.progress_is;
      room_is = c.store-self.ensures.unmoved.room_is;
      lent_is = c.store-self.ensures.unmoved.lent_is;
    }
