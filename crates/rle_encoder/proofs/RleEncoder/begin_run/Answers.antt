use Rattle.std.proofs.Common.{ap, ◌∙◌}
use Rattle.rle_encoder.proofs.Added.{begun}
use Rattle.rle_encoder.proofs.Keeping.{stands-accepted, stands-kept}
use Rattle.rle_encoder.proofs.RleEncoder.begin_run.Goals as goal

pub invariant_of-self : goal.invariant_of-self
invariant_of-self c =
    record { kept = stands-kept (begun c.args.self.now c.args.value c.write_header.new.self c.requires c.write_header.ensures.front c.write_header.ensures.unmoved c.close_group.ensures) }

pub returns : goal.returns
returns c =
    record {
      accepted_is = stands-accepted (begun c.args.self.now c.args.value c.write_header.new.self c.requires c.write_header.ensures.front c.write_header.ensures.unmoved c.close_group.ensures);
      width_is = ap (λ p. p.width) c.close_group.ensures ∙ ap (λ p. p.width) c.write_header.ensures.unmoved.progress_is;
      room_is = c.write_header.ensures.unmoved.room_is;
      lent_is = c.write_header.ensures.unmoved.lent_is;
    }
