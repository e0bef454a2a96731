use Rattle.std.proofs.Common.{◌≡◌, map}
use Rattle.enc_reader.specs.Items.{character_item}
use Rattle.enc_reader.specs.Places.{position_after}
use Rattle.enc_reader.proofs.position.Position.after_text.Given as goal

abbrev pub invariant-loop-character : goal.invariant-loop-character
invariant-loop-character l =
    l.position ≡ position_after l.fn.self (map character_item l.yielded)
