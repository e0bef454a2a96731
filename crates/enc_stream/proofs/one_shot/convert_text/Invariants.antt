use Rattle.std.proofs.Common.{◌-◌, chars, length, true}
use Rattle.std.specs.Vec.{vec_len, vec_capacity}
use denote.Text.{Utf8}
use denote.Shadow.{shadow}
use Rattle.enc_stream.specs.Encoder.{steps_left}
use Rattle.enc_stream.proofs.OneShotEncodeLemmas.{HasEncoded, HasRoomForCall}
use Rattle.enc_stream.proofs.one_shot.convert_text.Given as goal

abbrev pub invariant-calls : goal.invariant-calls
invariant-calls l = shadow (Utf8 l.unread)
    × HasEncoded l.fn.encoding l.fn.text l.encoder l.unread l.bytes.items l.had_unmappables
    × HasRoomForCall l.encoder l.unread (length l.bytes.items)
    (vec_capacity l.bytes - vec_len l.bytes)

abbrev pub decreases-calls : goal.decreases-calls
decreases-calls l = steps_left l.encoder true (chars l.unread)
