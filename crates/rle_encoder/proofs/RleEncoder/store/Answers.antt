use Rattle.std.proofs.Common.{length, refl, ap, ◌∙◌}
use Rattle.packed.proofs.Overwrite.{length-overwrite}
use Rattle.rle_encoder.proofs.Added.{accepted-over, kept-over}
use Rattle.rle_encoder.proofs.RleEncoder.store.Goals as goal

pub invariant_of-self : goal.invariant_of-self
invariant_of-self c = record { kept = kept-over c.args.at c.args.bytes.now c.args.self.now.kept c.write_bytes.ensures.bytes c.requires.behind c.requires.fits }

pub returns-clause-unmoved : goal.returns-clause-unmoved
returns-clause-unmoved c =
    let e = c.args.self.now in
    record {
      progress_is = refl;
      room_is = ap length c.write_bytes.ensures.bytes ∙ length-overwrite e.out.now c.args.at c.args.bytes.now c.requires.fits;
      accepted_is = accepted-over c.args.at c.args.bytes.now e.kept c.write_bytes.ensures.bytes c.requires.behind c.requires.fits;
      lent_is = refl;
    }
