use Rattle.std.proofs.Common.{◌≤◌, length, subst, sym}
use Rattle.std.proofs.lemmas.Option.{slice_get_past}
use Rattle.enc_names.specs.EncodingTable.{ids}
use Rattle.enc_names.proofs.encoding_id.EncodingId.from_number.Goals as goal

pub returns-else-place-ids : goal.returns-else-place-ids
returns-else-place-ids c =
    let past : length ids ≤ c.args.number =
    subst (λ xs. length xs ≤ c.args.number) c.ids-ids.ensures c.if-place-ids.false in
    sym (slice_get_past ids c.args.number past)
