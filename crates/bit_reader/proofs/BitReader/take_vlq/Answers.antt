use Rattle.std.proofs.Common.{◌≡◌, Ok, sym, refl, ap, ◌∙◌, arith}
use Rattle.bit_reader.specs.Reader.{page}
use Rattle.packed.specs.Vlq.{read_vlq, number_of, taken_of}
use Rattle.bit_reader.proofs.BitReader.take_vlq.Goals as goal

pub returns : goal.returns
returns c =
    let r = c.args.self.now in
    let read : read_vlq (page r) r.byte_offset ≡ Ok (c.in_ok-value.value, c.in_ok-value.taken) = sym c.read_vlq.ensures.value ∙ c.in_ok-value.was in
    let taken = ap taken_of read in
    record {
      value = sym (ap number_of read);
      moved =
          record {
            same = refl;
            to = omega (arith, taken);
          };
    }
