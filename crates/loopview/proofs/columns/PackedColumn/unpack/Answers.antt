use Rattle.std.proofs.Common.{◌≡◌, ◌^◌, ◌<◌, get_or, sym, ◌∙◌, subst, ap₂, arith}
use Rattle.std.proofs.lemmas.List.{with_items_is}
use Rattle.loopview.specs.Columns.{unpacked_at, width_of}
use Rattle.loopview.proofs.Cells.{unpacked-below}
use Rattle.loopview.proofs.columns.PackedColumn.unpack.Goals as goal

pub returns-clause-below : goal.returns-clause-below
returns-clause-below c =
    let w = width_of c.args.self in
    let bytes = c.args.bytes.now in
    let all : c.unpack_into-found.result ≡ c.args.count = omega (arith, c.in_ok-values.ensures.len) in
    let values =
    with_items_is c.in_ok-values.values c.unpack_into-found.new.cells (omega arith)
    ∙ c.unpack_into-found.ensures.values (omega (arith, c.in_ok-values.ensures.len))
    ∙ ap₂ (λ w k. unpacked_at w k bytes) c.width.ensures all in
    λ i h. subst (λ l. get_or l i 0 < 2 ^ w) (sym values) (unpacked-below w c.args.count bytes i h)
