use Rattle.std.proofs.Common.{[], ◌∷◌, ◌++◌, length, ap, ◌∙◌, arith, length-set}
use Rattle.rle_encoder.proofs.Added.{grow-room, grown, header-inside, length-group}
use Rattle.rle_encoder.proofs.Keeping.{stands-accepted, stands-kept}
use Rattle.rle_encoder.proofs.RleEncoder.extend_packed.Goals as goal

pub store-end-requires-clause-fits : goal.store-end-requires-clause-fits
store-end-requires-clause-fits c =
    let e = c.args.self.now in
    omega (
      arith,
      grow-room e c.args.value c.requires.fills c.args.header c.args.groups c.requires.phase,
      ap length (c.as_slice.ensures.value ∙ c.group_with-group.ensures),
      length-group e.progress.width (e.progress.gathered.items ++ c.args.value ∷ []),
    )

pub overflow_add-groups : goal.overflow_add-groups
overflow_add-groups c = omega (arith, (header-inside c.args.self.now c.args.header c.args.groups c.requires.phase).1)

pub header_of-requires : goal.header_of-requires
header_of-requires c = (header-inside c.args.self.now c.args.header c.args.groups c.requires.phase).1

pub bounds-self-header : goal.bounds-self-header
bounds-self-header c =
    omega (arith, (header-inside c.args.self.now c.args.header c.args.groups c.requires.phase).0, c.args.self.now.kept.inside, c.store-end.ensures.unmoved.room_is)

pub invariant_of-self : goal.invariant_of-self
invariant_of-self c =
    record {
      kept = stands-kept
          (grown c.args.self.now c.args.value c.requires.fills c.args.header c.args.groups c.requires.phase c.store-end.new.self
          (c.as_slice.ensures.value ∙ c.group_with-group.ensures) c.store-end.ensures.end c.store-end.ensures.bytes c.store-end.ensures.unmoved c.header_of.ensures c.open_run.ensures c.close_group.ensures);
    }

pub returns : goal.returns
returns c =
    record {
      accepted_is = stands-accepted
          (grown c.args.self.now c.args.value c.requires.fills c.args.header c.args.groups c.requires.phase c.store-end.new.self
          (c.as_slice.ensures.value ∙ c.group_with-group.ensures) c.store-end.ensures.end c.store-end.ensures.bytes c.store-end.ensures.unmoved c.header_of.ensures c.open_run.ensures c.close_group.ensures);
      width_is = ap (λ p. p.width) c.close_group.ensures ∙ ap (λ p. p.width) c.store-end.ensures.unmoved.progress_is;
      room_is = length-set c.store-end.new.self.out.now c.args.header c.header_of.result ∙ c.store-end.ensures.unmoved.room_is;
      lent_is = c.store-end.ensures.unmoved.lent_is;
    }
