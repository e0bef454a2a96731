use Rattle.std.proofs.Common.{length}
use Rattle.enc_sniff.proofs.ParameterLemmas.{TokensLeft}
use Rattle.enc_sniff.proofs.mail.first_parameter.Given as goal

abbrev pub invariant-tokens : goal.invariant-tokens
invariant-tokens l = TokensLeft l.name l.body l.rest

abbrev pub decreases-tokens : goal.decreases-tokens
decreases-tokens l = length l.rest
