use Rattle.std.proofs.Common.{ℕ, ◌+◌, ◌^◌, ◌<◌, length, get_or, sym, ap, ◌∙◌, subst, arith}
use Rattle.std.proofs.ByRecursion.{All-get_or}
use Rattle.packed.specs.Bytes.{overwrite}
use Rattle.rle.specs.Runs.{padded}
use Rattle.rle_encoder.specs.Encoding.{group_bytes}
use Rattle.rle_encoder.proofs.Added.{kept-over, length-group}
use Rattle.rle_encoder.proofs.Closed.{padded-values}
use Rattle.rle_encoder.proofs.Keeping.{kept-stands}
use Rattle.rle_encoder.proofs.progress.Progress.write_group.Goals as goal

pub group_bytes-group-requires-clause-fits : goal.group_bytes-group-requires-clause-fits
group_bytes-group-requires-clause-fits c =
    let p = c.args.self.now in
    let all = padded-values (kept-stands c.requires.kept) c.requires.calm in
    subst (λ l. (i : ℕ) → i < length l → get_or l i 0 < 2 ^ p.width) (sym (c.padded_group.ensures ∙ ap padded c.as_slice.ensures.value))
    (λ i inside. All-get_or (λ v. v < 2 ^ p.width) (padded p.gathered.items) i 0 inside all)

pub write_bytes-requires : goal.write_bytes-requires
write_bytes-requires c =
    let p = c.args.self.now in
    let group = c.as_slice-2.ensures.value ∙ c.group_bytes-group.ensures in
    omega (arith, ap length group, length-group p.width c.padded_group.result, c.requires.fits)

pub returns : goal.returns
returns c =
    let p = c.args.self.now in
    let group = c.as_slice-2.ensures.value ∙ c.group_bytes-group.ensures ∙ ap (group_bytes p.width) (c.padded_group.ensures ∙ ap padded c.as_slice.ensures.value) in
    let long = length-group p.width (padded p.gathered.items) in
    record {
      bytes = c.write_bytes.ensures.bytes ∙ ap (overwrite c.args.out.now c.args.at) group;
      end = c.write_bytes.ensures.end ∙ ap (λ l. c.args.at + length l) group ∙ ap (λ n. c.args.at + n) long;
      kept = kept-over c.args.at c.as_slice-2.result.now c.requires.kept c.write_bytes.ensures.bytes c.requires.behind (omega (arith, ap length group, long, c.requires.fits));
    }
