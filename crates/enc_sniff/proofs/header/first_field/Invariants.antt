use Rattle.std.proofs.Common.{◌≡◌, length}
use Rattle.enc_sniff.specs.HeaderFields.{first_field as field_in}
use Rattle.enc_sniff.proofs.header.first_field.Given as goal

abbrev pub invariant-lines : goal.invariant-lines
invariant-lines l = field_in l.name l.rest ≡ field_in l.name l.bytes

abbrev pub decreases-lines : goal.decreases-lines
decreases-lines l = length l.rest
