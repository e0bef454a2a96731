use Rattle.std.proofs.Common.{◌≡◌, length}
use Rattle.std.specs.List.{list_all}
use Rattle.std.specs.Char.{is_ascii_whitespace}
use Rattle.enc_sniff.specs.HeaderTokens.{unquoted}
use Rattle.enc_sniff.proofs.quoted.is_blank.Given as goal

abbrev pub invariant-bytes : goal.invariant-bytes
invariant-bytes l =
    list_all is_ascii_whitespace (unquoted l.rest) ≡ list_all is_ascii_whitespace (unquoted l.text)

abbrev pub decreases-bytes : goal.decreases-bytes
decreases-bytes l = length l.rest
