use Rattle.std.proofs.Common.{refl, arith}
use lib.ListN.{length-replicate}
use Rattle.rle_encoder.specs.Extending.{or_zero}
use Rattle.rle_encoder.proofs.Added.{extended, run-facts}
use Rattle.rle_encoder.proofs.Keeping.{stands-accepted, stands-kept}
use Rattle.rle_encoder.proofs.RleEncoder.extend.Goals as goal

pub overflow_add-self : goal.overflow_add-self
overflow_add-self c =
    omega (arith, (run-facts c.args.self.now c.in-Repeating.before c.in-Repeating.is).1, c.requires.room.count, length-replicate c.args.count (or_zero c.args.self.now.progress.same))

pub invariant_of-self : goal.invariant_of-self
invariant_of-self c = record { kept = stands-kept (extended c.args.self.now c.in-Repeating.before c.args.count c.in-Repeating.is c.requires.room) }

pub returns-in-Repeating : goal.returns-in-Repeating
returns-in-Repeating c =
    record {
      accepted_is = stands-accepted (extended c.args.self.now c.in-Repeating.before c.args.count c.in-Repeating.is c.requires.room);
      width_is = refl;
      room_is = refl;
      lent_is = refl;
    }
