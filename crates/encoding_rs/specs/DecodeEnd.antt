-- Calls with which a decoder's run reaches its end: each gets a byte and has room for a character.
use Rattle.std.specs.Prelude.{ℕ, ◌≤◌, Bool, if◌then◌else◌}
use Rattle.encoding_rs.specs.declared.run.DecodeCall.{DecodeCall}

-- A call that gets a byte and has room for any character: four code units of UTF-8, or two of
-- UTF-16.
pub record CanDecodeMore (call : DecodeCall) : Type 0 where
  pub offered : 1 ≤ call.offer
  pub roomy : (if call.utf16 then 2 else 4) ≤ call.room
