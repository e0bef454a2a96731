-- Reads that lend bytes of the reader's own buffer.
use Rattle.std.specs.Prelude.{◌≡◌, ℕ, ◌≤◌, Bool, true, List, ◌++◌, length, take, Option}
use Rattle.enc_reader.specs.Reading.{ReaderState, HandsOut}
use Rattle.enc_reader.specs.Turn.{IsOwnText}

-- A read that hands out `handed`, and lends it if it is long. Of the bytes unread before, with
-- those that the source gives in the read, any 4096 or more at the front that are their own text
-- are lent, all of them.
pub record LendsLongText (remaining_before remaining_after : Option (List ℕ))
    (old new : ReaderState) (handed : List ℕ) (had_before had_after lent : Bool) : Type 0 where
  pub hands_out : HandsOut remaining_before remaining_after old new handed had_before had_after
  pub long : (n : ℕ) → 4096 ≤ n → n ≤ length (old.unread ++ hands_out.bytes)
      → IsOwnText old.decoder (take n (old.unread ++ hands_out.bytes))
      → (lent ≡ true) × (n ≤ length handed)
