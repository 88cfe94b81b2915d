use Rattle.std.proofs.Common.{◌≡◌, ◌+◌, ◌*◌, ◌-◌, ◌++◌, length, refl, ap, ap₂, sym, ◌∙◌, mul_assoc, arith, length-take, length-drop}
use Rattle.std.proofs.lemmas.Slice.{take-put_mid}
use Rattle.packed.specs.Bytes.{cells_at}
use Rattle.packed.proofs.Bytes.{group_inside, cells_at-append, cells_at-rest}
use Rattle.packed.proofs.bit_pack.unpack.Goals as goal

pub loop-group-init : goal.loop-group-init
unfolding cells_at
loop-group-init g c = refl

pub overflow_mul-group : goal.overflow_mul-group
overflow_mul-group g c =
    let inside = group_inside (length c.args.output.now) c.args.num_bits (length c.args.input.now) c.loop-group.group (omega arith) c.requires.room in
    record { fits = omega arith }

pub slice_bounds-unpack_group-count : goal.slice_bounds-unpack_group-count
slice_bounds-unpack_group-count g c =
    let inside = group_inside (length c.args.output.now) c.args.num_bits (length c.args.input.now) c.loop-group.group (omega arith) c.requires.room in
    omega arith

pub slice_bounds-unpack_group-start : goal.slice_bounds-unpack_group-start
slice_bounds-unpack_group-start g c =
    let inside = group_inside (length c.args.output.now) c.args.num_bits (length c.args.input.now) c.loop-group.group (omega arith) c.requires.room in
    omega arith

pub unpack_group-requires-clause-room : goal.unpack_group-requires-clause-room
unpack_group-requires-clause-room g c =
    let inside = group_inside (length c.args.output.now) c.args.num_bits (length c.args.input.now) c.loop-group.group (omega arith) c.requires.room in
    simp (length-take, length-drop) (omega arith)

pub loop-group-preserved : goal.loop-group-preserved
loop-group-preserved g c =
    let made = g.T.Element.made in
    let s = c.args.input.now in
    let w = c.args.num_bits in
    let k = 8 * c.loop-group.group in
    let next : 8 * (c.loop-group.group + 1) ≡ k + 8 = omega arith in
    take-put_mid k (k + 8 - k) c.loop-group.output c.unpack_group.new.cells (8 * (c.loop-group.group + 1)) (omega arith) (omega arith)
    ∙ ap₂ ◌++◌ c.loop-group.invariant (c.unpack_group.ensures ∙ cells_at-rest made s (c.loop-group.group * w) w 8)
    ∙ ap (λ p. cells_at made s 0 w k ++ cells_at made s p w 8) (omega (arith, mul_assoc 8 c.loop-group.group w))
    ∙ sym (cells_at-append made s 0 w k 8)
    ∙ ap (cells_at made s 0 w) (sym next)
