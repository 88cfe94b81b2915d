use Rattle.std.proofs.Common.{sym, refl, ap, ◌∙◌, set, take, arith, length-set}
use lib.Seq.{take-set-lt}
use Rattle.rle_encoder.proofs.Added.{front-packing, header-inside}
use Rattle.rle_encoder.proofs.Keeping.{accepted-front, front-under, kept-header}
use Rattle.rle_encoder.proofs.RleEncoder.write_header.Goals as goal

pub header_of-requires : goal.header_of-requires
header_of-requires c = omega (arith, (header-inside c.args.self.now c.in-Packing.header c.in-Packing.groups c.in-Packing.is).1)

pub bounds-self-header : goal.bounds-self-header
bounds-self-header c = omega (arith, (header-inside c.args.self.now c.in-Packing.header c.in-Packing.groups c.in-Packing.is).0, c.args.self.now.kept.inside)

pub invariant_of-self : goal.invariant_of-self
invariant_of-self c =
    let e = c.args.self.now in
    record { kept = kept-header c.header_of.result e.kept c.in-Packing.is (header-inside e c.in-Packing.header c.in-Packing.groups c.in-Packing.is).0 }

pub returns-in-Packing : goal.returns-in-Packing
returns-in-Packing c =
    let e = c.args.self.now in
    let byte = c.header_of.result in
    let early = (header-inside e c.in-Packing.header c.in-Packing.groups c.in-Packing.is).0 in
    let size = length-set e.out.now c.in-Packing.header byte in
    record {
      front = take-set-lt e.progress.written e.out.now c.in-Packing.header byte early
          ∙ ap (set (take e.progress.written e.out.now) c.in-Packing.header) c.header_of.ensures
          ∙ sym (front-packing e.progress.written e.out.now c.in-Packing.is);
      unmoved = record {
        progress_is = refl;
        accepted_is = accepted-front e.kept (set e.out.now c.in-Packing.header byte) size (front-under e.progress.written byte e.out.now c.in-Packing.is early);
        room_is = size;
        lent_is = refl;
      };
    }
