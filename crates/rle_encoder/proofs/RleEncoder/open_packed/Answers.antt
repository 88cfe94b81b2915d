use Rattle.std.proofs.Common.{[], ◌∷◌, ◌++◌, length, ap, ◌∙◌, arith}
use Rattle.rle_encoder.proofs.Added.{length-group, open-room, opened}
use Rattle.rle_encoder.proofs.Keeping.{stands-accepted, stands-kept}
use Rattle.rle_encoder.proofs.RleEncoder.open_packed.Goals as goal

pub store-self-requires-clause-fits : goal.store-self-requires-clause-fits
store-self-requires-clause-fits c =
    let e = c.args.self.now in
    omega (
      arith,
      open-room e c.args.value c.requires.fills c.requires.phase,
      ap length (c.as_slice.ensures.value ∙ c.group_with-group.ensures),
      length-group e.progress.width (e.progress.gathered.items ++ c.args.value ∷ []),
    )

pub invariant_of-self : goal.invariant_of-self
invariant_of-self c =
    record {
      kept = stands-kept
          (opened c.args.self.now c.args.value c.requires.fills c.store-self.new.self c.requires.phase
          (c.as_slice.ensures.value ∙ c.group_with-group.ensures) c.store-self.ensures.end c.store-self.ensures.bytes c.store-self.ensures.unmoved c.close_group.ensures);
    }

pub returns : goal.returns
returns c =
    record {
      accepted_is = stands-accepted
          (opened c.args.self.now c.args.value c.requires.fills c.store-self.new.self c.requires.phase
          (c.as_slice.ensures.value ∙ c.group_with-group.ensures) c.store-self.ensures.end c.store-self.ensures.bytes c.store-self.ensures.unmoved c.close_group.ensures);
      width_is = ap (λ p. p.width) c.close_group.ensures ∙ ap (λ p. p.width) c.store-self.ensures.unmoved.progress_is;
      room_is = c.store-self.ensures.unmoved.room_is;
      lent_is = c.store-self.ensures.unmoved.lent_is;
    }
