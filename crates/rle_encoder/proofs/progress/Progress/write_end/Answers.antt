use Rattle.std.proofs.Common.{length, sym, le_refl, arith, length-set}
use Rattle.std.proofs.lemmas.Bool.{eqb-true}
use Rattle.rle_encoder.proofs.Closed.{count-bound, empty-ends, equal-ends, mixed-ends, no-value, open-ends, packed_ends, positive, repeating-ends, some-value}
use Rattle.rle_encoder.proofs.Keeping.{kept-behind, kept-header, kept-stands}
use Rattle.rle_encoder.proofs.progress.Progress.write_end.Goals as goal

-- ---- the run that repeats

pub write_run-requires-clause-short : goal.write_run-requires-clause-short
write_run-requires-clause-short c = count-bound (kept-stands c.requires) c.in-Repeating.count c.in-Repeating.is

pub write_run-requires-clause-fits : goal.write_run-requires-clause-fits
write_run-requires-clause-fits c = (repeating-ends (kept-stands c.requires) c.in-Repeating.count c.in-Repeating.is).0

pub returns-in-Repeating : goal.returns-in-Repeating
returns-in-Repeating c =
    let p = c.args.self.now in
    let ends = repeating-ends (kept-stands c.requires) c.in-Repeating.count c.in-Repeating.is in
    record {
      ended = ends.1 c.write_run.result c.write_run.new.out c.write_run.ensures.end c.write_run.ensures.bytes;
      kept = c.write_run.ensures.kept;
    }

-- ---- collected values, with no packed run open

pub write_run-requires-then-is_some-clause-fits : goal.write_run-requires-then-is_some-clause-fits
write_run-requires-then-is_some-clause-fits c =
    let one = some-value c.args.self.now.same c.if-is_some.ensures in
    (equal-ends (kept-stands c.requires) c.len.result one.0 c.len.ensures.value c.in-Gathering.is one.1).0

pub bounds-out-self : goal.bounds-out-self
bounds-out-self c =
    let p = c.args.self.now in
    omega (arith, (mixed-ends (kept-stands c.requires) c.in-Gathering.is (positive (length p.gathered.items) c.if-is_empty.ensures) (no-value p.same c.if-is_some.ensures)).0)

pub write_group-requires-clause-fits : goal.write_group-requires-clause-fits
write_group-requires-clause-fits c =
    let p = c.args.self.now in
    omega (
      arith,
      length-set c.args.out.now p.written c.header_of.result,
      (mixed-ends (kept-stands c.requires) c.in-Gathering.is (positive (length p.gathered.items) c.if-is_empty.ensures) (no-value p.same c.if-is_some.ensures)).0,
    )

pub write_group-requires-clause-kept : goal.write_group-requires-clause-kept
write_group-requires-clause-kept c = kept-behind c.args.self.now.written c.header_of.result c.requires (le_refl _)

pub returns-then-is_empty : goal.returns-then-is_empty
returns-then-is_empty c =
    record {
      ended = empty-ends (kept-stands c.requires) c.in-Gathering.is (eqb-true (length c.args.self.now.gathered.items) 0 (sym c.if-is_empty.ensures));
      kept = c.requires;
    }

pub returns-then-is_some : goal.returns-then-is_some
returns-then-is_some c =
    let p = c.args.self.now in
    let one = some-value p.same c.if-is_some.ensures in
    let ends = equal-ends (kept-stands c.requires) c.len.result one.0 c.len.ensures.value c.in-Gathering.is one.1 in
    record {
      ended = ends.1 c.write_run-then-is_some.result c.write_run-then-is_some.new.out c.write_run-then-is_some.ensures.end c.write_run-then-is_some.ensures.bytes;
      kept = c.write_run-then-is_some.ensures.kept;
    }

pub returns-else-is_some : goal.returns-else-is_some
returns-else-is_some c =
    let p = c.args.self.now in
    let byte = c.header_of.result in
    let ends = mixed-ends (kept-stands c.requires) c.in-Gathering.is (positive (length p.gathered.items) c.if-is_empty.ensures) (no-value p.same c.if-is_some.ensures) in
    record {
      ended = ends.1 c.write_group.result byte c.write_group.new.out c.write_group.ensures.end c.header_of.ensures c.write_group.ensures.bytes;
      kept = c.write_group.ensures.kept;
    }

-- ---- behind an open packed run

pub header_of-requires-then-is_empty-2 : goal.header_of-requires-then-is_empty-2
header_of-requires-then-is_empty-2 c = omega (arith, (open-ends (kept-stands c.requires) c.in-Packing.header c.in-Packing.groups c.in-Packing.is).1)

pub bounds-out-header : goal.bounds-out-header
bounds-out-header c = omega (arith, (open-ends (kept-stands c.requires) c.in-Packing.header c.in-Packing.groups c.in-Packing.is).0, c.requires.inside)

pub overflow_add-groups : goal.overflow_add-groups
overflow_add-groups c = omega (arith, (open-ends (kept-stands c.requires) c.in-Packing.header c.in-Packing.groups c.in-Packing.is).1)

pub header_of-requires-else-is_empty-2 : goal.header_of-requires-else-is_empty-2
header_of-requires-else-is_empty-2 c = (open-ends (kept-stands c.requires) c.in-Packing.header c.in-Packing.groups c.in-Packing.is).1

pub bounds-out-header-else-is_empty-2 : goal.bounds-out-header-else-is_empty-2
bounds-out-header-else-is_empty-2 c = omega (arith, (open-ends (kept-stands c.requires) c.in-Packing.header c.in-Packing.groups c.in-Packing.is).0, c.requires.inside)

pub write_group-requires-else-is_empty-2-clause-fits : goal.write_group-requires-else-is_empty-2-clause-fits
write_group-requires-else-is_empty-2-clause-fits c =
    let p = c.args.self.now in
    omega (
      arith,
      length-set c.args.out.now c.in-Packing.header c.header_of-else-is_empty-2.result,
      (packed_ends (kept-stands c.requires) c.in-Packing.header c.in-Packing.groups c.in-Packing.is (positive (length p.gathered.items) c.if-is_empty-2.ensures)).0,
    )

pub write_group-requires-else-is_empty-2-clause-kept : goal.write_group-requires-else-is_empty-2-clause-kept
write_group-requires-else-is_empty-2-clause-kept c =
    kept-header c.header_of-else-is_empty-2.result c.requires c.in-Packing.is (open-ends (kept-stands c.requires) c.in-Packing.header c.in-Packing.groups c.in-Packing.is).0

pub returns-then-is_empty-2 : goal.returns-then-is_empty-2
returns-then-is_empty-2 c =
    let ends = open-ends (kept-stands c.requires) c.in-Packing.header c.in-Packing.groups c.in-Packing.is in
    record {
      ended = ends.2 (eqb-true (length c.args.self.now.gathered.items) 0 (sym c.if-is_empty-2.ensures)) c.header_of-then-is_empty-2.result c.header_of-then-is_empty-2.ensures;
      kept = kept-header c.header_of-then-is_empty-2.result c.requires c.in-Packing.is ends.0;
    }

pub returns-else-is_empty-2 : goal.returns-else-is_empty-2
returns-else-is_empty-2 c =
    let p = c.args.self.now in
    let byte = c.header_of-else-is_empty-2.result in
    let ends = packed_ends (kept-stands c.requires) c.in-Packing.header c.in-Packing.groups c.in-Packing.is (positive (length p.gathered.items) c.if-is_empty-2.ensures) in
    record {
      ended = ends.1 c.write_group-else-is_empty-2.result byte c.write_group-else-is_empty-2.new.out c.write_group-else-is_empty-2.ensures.end c.header_of-else-is_empty-2.ensures c.write_group-else-is_empty-2.ensures.bytes;
      kept = c.write_group-else-is_empty-2.ensures.kept;
    }
