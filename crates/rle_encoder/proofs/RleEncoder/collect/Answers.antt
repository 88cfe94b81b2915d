use Rattle.std.proofs.Common.{refl, ap}
use Rattle.rle_encoder.proofs.Added.{collected-one}
use Rattle.rle_encoder.proofs.Keeping.{stands-accepted, stands-kept}
use Rattle.rle_encoder.proofs.RleEncoder.collect.Goals as goal

pub invariant_of-self : goal.invariant_of-self
invariant_of-self c = record { kept = stands-kept (collected-one c.args.self.now c.args.value c.requires.takes c.args.alike c.requires.calm c.requires.few c.requires.alike c.collect.ensures) }

pub returns : goal.returns
returns c =
    record {
      accepted_is = stands-accepted (collected-one c.args.self.now c.args.value c.requires.takes c.args.alike c.requires.calm c.requires.few c.requires.alike c.collect.ensures);
      width_is = ap (λ p. p.width) c.collect.ensures;
      room_is = refl;
      lent_is = refl;
    }
