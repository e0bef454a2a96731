-- By computation, encoding by encoding.
use Rattle.std.proofs.Common.{◌≡◌, Some, refl}
use Rattle.enc_names.specs.declared.encoding_id.EncodingId.{EncodingId}
use Rattle.enc_names.specs.declared.encoding_id.EncodingId.TheVariants.{Utf8}
use Rattle.enc_names.specs.EncodingTable.{name_by_id}
use Rattle.enc_names.specs.LabelIds.{id_pairs}
use Rattle.enc_stream.specs.Labels.{encoding_of_label}
use Rattle.encoding_rs.proofs.laws.names_are_labels.Goals as goal

by_id : (id : EncodingId) → encoding_of_label (name_by_id id) ≡ Some (record { id = id })
unfolding id_pairs
by_id Utf8 = refl
by_id _ = refl

pub returns : goal.returns
returns c = by_id c.args.encoding.id
