use Rattle.std.proofs.Common.{◌≡◌, length}
use Rattle.enc_sniff.specs.Content.{content_label}
use Rattle.enc_sniff.proofs.content.content_label.Given as goal

abbrev pub invariant-places : goal.invariant-places
invariant-places l = content_label l.rest ≡ content_label l.content

abbrev pub decreases-places : goal.decreases-places
decreases-places l = length l.rest
