use Rattle.std.proofs.Common.{◌≡◌, length}
use Rattle.std.specs.Char.{is_ascii_whitespace}
use Rattle.enc_sniff.specs.Positions.{past}
use Rattle.enc_sniff.specs.HeaderTokens.{unquoted}
use Rattle.enc_sniff.proofs.quoted.past_spaces.Given as goal

abbrev pub invariant-spaces : goal.invariant-spaces
invariant-spaces l =
    past is_ascii_whitespace (unquoted l.rest) ≡ past is_ascii_whitespace (unquoted l.text)

abbrev pub decreases-spaces : goal.decreases-spaces
decreases-spaces l = length l.rest
