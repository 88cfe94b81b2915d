use Rattle.std.proofs.Common.{[], sym, subst}
use Rattle.rle_encoder.proofs.Keeping.{Stands, new-stands, stands-kept}
use Rattle.rle_encoder.proofs.RleEncoder.empty.Goals as goal

pub invariant_of-result : goal.invariant_of-result
invariant_of-result c = record { kept = stands-kept (subst (λ p. Stands p c.args.out.now []) (sym c.new.ensures) (new-stands c.args.width c.args.out.now c.requires)) }
