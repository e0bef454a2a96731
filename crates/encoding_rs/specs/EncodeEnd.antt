-- Calls with which an encoder's run reaches its end: each gets a character and has room for it.
use Rattle.std.specs.Prelude.{ℕ, ◌+◌, ◌≤◌, Bool, List, if◌then◌else◌}
use Rattle.enc_stream.specs.declared.encoding.Encoding.{Encoding}
use Rattle.encoding_rs.specs.declared.encode_run.EncodeCall.{EncodeCall}
use Rattle.enc_stream.specs.Properties.{output_encoding_of}
use Rattle.enc_stream.specs.Encoder.{room_kept_for_references}

-- the room with which a call makes progress: four bytes, and those kept free for references
abbrev pub least_room : List ℕ → Encoding → Bool → ℕ
least_room b e replace =
    if replace then 4 + room_kept_for_references b (output_encoding_of e) else 4

-- a call that gets a character and has that room
pub record CanEncodeMore (b : List ℕ) (e : Encoding) (call : EncodeCall) : Type 0 where
  pub offered : 1 ≤ call.offer
  pub roomy : least_room b e call.replace ≤ call.room
