-- What each of the decoder's own states holds, and which byte order marks may still come in it.
use Rattle.std.proofs.Common.{◌≡◌, ℕ, ◌≤◌, Bool, true, false, List, [], ◌∷◌, length, refl, sym, arith, inl, None, rules}
use Rattle.std.proofs.lemmas.Bool.{false≢true}
use Rattle.enc_stream.specs.declared.life_cycle.LifeCycle.{LifeCycle}
use Rattle.enc_stream.specs.declared.life_cycle.LifeCycle.TheVariants.{AtStart, AtUtf8Start, AtUtf16BeStart}
use Rattle.enc_stream.specs.declared.life_cycle.LifeCycle.TheVariants.{AtUtf16LeStart, SeenUtf8First, SeenUtf8Second}
use Rattle.enc_stream.specs.declared.life_cycle.LifeCycle.TheVariants.{SeenUtf16BeFirst}
use Rattle.enc_stream.specs.declared.life_cycle.LifeCycle.TheVariants.{SeenUtf16LeFirst, Converting, Finished}
use Rattle.enc_stream.specs.declared.life_cycle.LifeCycle.TheVariants.{ConvertingWithPendingBb}
use Rattle.enc_stream.specs.declared.encoding.Encoding.{Encoding}
use Rattle.enc_stream.specs.declared.bom.BomHandling.{BomHandling}
use Rattle.enc_stream.specs.declared.bom.BomHandling.TheVariants.{Off, Sniff, Remove}
use Rattle.enc_names.specs.declared.encoding_id.EncodingId.{EncodingId}
use Rattle.enc_names.specs.declared.encoding_id.EncodingId.TheVariants.{Utf8, Utf16be, Utf16le}
use Rattle.enc_decoder.specs.Remainder.{AreBytes}
use Rattle.enc_decoder.specs.CodecState.{CodecState}
use Rattle.enc_stream.specs.Bom.{Mark, find_mark, marks_begun, marks_looked_for}
use Rattle.enc_stream.specs.LifeCycle.{marks_of, awaits_mark, held_mark_bytes, has_ended, start_life}
use Rattle.enc_stream.specs.LifeCycle.{decoder_state_of, HeldBytesMatchCodec}
use Rattle.enc_stream.specs.MarkLaws.{MayBeginMark}
use Rattle.enc_stream.specs.Decoding.{DecoderState, are_still_held, held_after}
use Rattle.enc_stream.proofs.MarkFirstLemmas.{AreFound, found_all, found_utf_8, found_utf_16be, found_utf_16le}

-- the bytes held are no whole mark
pub held_unmarked : (life : LifeCycle) → find_mark (marks_of life) (held_mark_bytes life) ≡ None
held_unmarked AtStart = refl
held_unmarked _ = refl

pub held_are_bytes : (life : LifeCycle) → AreBytes (held_mark_bytes life)
held_are_bytes AtStart = search rules
held_are_bytes _ = search rules

pub held_are_few : (life : LifeCycle) → length (held_mark_bytes life) ≤ 2
held_are_few AtStart = omega arith
held_are_few _ = omega arith

pub second_if_two : (life : LifeCycle) → length (held_mark_bytes life) ≡ 2 → life ≡ SeenUtf8Second
second_if_two SeenUtf8Second two = refl
second_if_two AtStart two = absurd (omega arith)
second_if_two _ two = absurd (omega arith)

-- While a byte order mark may come, the bytes held begin one of those that may.
pub may_begin : (life : LifeCycle) → awaits_mark life ≡ true
    → AreFound (marks_of life) (marks_of life) × MayBeginMark (marks_of life) (held_mark_bytes life)
may_begin AtStart awaits = (found_all, inl (_, _, refl))
may_begin AtUtf8Start awaits = (found_utf_8, inl (_, _, refl))
may_begin AtUtf16BeStart awaits = (found_utf_16be, inl (_, _, refl))
may_begin AtUtf16LeStart awaits = (found_utf_16le, inl (_, _, refl))
may_begin SeenUtf8First awaits = (found_utf_8, inl (_, _, refl))
may_begin SeenUtf8Second awaits = (found_utf_8, inl (_, _, refl))
may_begin SeenUtf16BeFirst awaits = (found_utf_16be, inl (_, _, refl))
may_begin SeenUtf16LeFirst awaits = (found_utf_16le, inl (_, _, refl))
may_begin _ awaits = absurd (false≢true awaits)

-- otherwise none may come
pub none_awaited : (life : LifeCycle) → awaits_mark life ≡ false → marks_of life ≡ []
none_awaited ConvertingWithPendingBb none = refl
none_awaited Converting none = refl
none_awaited Finished none = refl
none_awaited _ none = absurd (false≢true (sym none))

pub awaiting_goes_on : (life : LifeCycle) → awaits_mark life ≡ true → has_ended life ≡ false
awaiting_goes_on Finished awaits = absurd (false≢true awaits)
awaiting_goes_on AtStart awaits = refl
awaiting_goes_on _ awaits = refl

-- The marks that may still come are those that the held bytes begin.
pub held_begin : (life : LifeCycle) → marks_begun (marks_of life) (held_mark_bytes life)
    ≡ marks_of life
held_begin AtStart = refl
held_begin _ = refl

-- A state as its caller knows it: the byte order marks that may come are those that the pending
-- bytes begin, and these are then held.
pub record HoldsMarks (d : DecoderState) : Type 0 where
  pub begun : marks_begun d.marks d.pending ≡ d.marks
  pub held : held_after (are_still_held d.held d.marks d.pending 0) d.pending ≡ d.held
  pub unmarked : find_mark d.marks d.pending ≡ None

none_held : (pending : List ℕ) → held_after false pending ≡ false
none_held [] = refl
none_held (b ∷ pending) = refl

-- with nothing pending, and in text
module _ (e : Encoding) (set : ℕ) (pending : List ℕ) where
  at_front : (marks : List Mark) → pending ≡ [] → marks_begun marks [] ≡ marks
      → find_mark marks [] ≡ None → HoldsMarks (record {
        encoding = e;
        marks = marks;
        set = set;
        pending = pending;
        held = false;
        finished = false;
      })
  at_front marks none begun unmarked =
      record { begun = rw none begun; held = rw none refl; unmarked = rw none unmarked }

  in_text : (finished : Bool) → HoldsMarks (record {
    encoding = e;
    marks = [];
    set = set;
    pending = pending;
    held = false;
    finished = finished;
  })
  in_text finished = record { begun = refl; held = none_held pending; unmarked = refl }

pub holds_marks : (e : Encoding) (life : LifeCycle) (v : CodecState) → HeldBytesMatchCodec life v
    → HoldsMarks (decoder_state_of e life v)
holds_marks e AtStart v holds =
    at_front e v.set v.pending (marks_of AtStart) (holds.unread refl).1 refl refl
holds_marks e AtUtf8Start v holds =
    at_front e v.set v.pending (marks_of AtUtf8Start) (holds.unread refl).1 refl refl
holds_marks e AtUtf16BeStart v holds =
    at_front e v.set v.pending (marks_of AtUtf16BeStart) (holds.unread refl).1 refl refl
holds_marks e AtUtf16LeStart v holds =
    at_front e v.set v.pending (marks_of AtUtf16LeStart) (holds.unread refl).1 refl refl
holds_marks e Converting v holds = in_text e v.set v.pending false
holds_marks e Finished v holds = in_text e v.set v.pending true
holds_marks e SeenUtf8First v holds = record { begun = refl; held = refl; unmarked = refl }
holds_marks e SeenUtf8Second v holds = record { begun = refl; held = refl; unmarked = refl }
holds_marks e SeenUtf16BeFirst v holds = record { begun = refl; held = refl; unmarked = refl }
holds_marks e SeenUtf16LeFirst v holds = record { begun = refl; held = refl; unmarked = refl }
holds_marks e ConvertingWithPendingBb v holds =
    record { begun = refl; held = refl; unmarked = refl }

-- At the start no byte of a byte order mark is held, the end is not reached, and the byte order
-- marks that may come are those looked for.
pub record Starts (handling : BomHandling) (e : Encoding) : Type 0 where
  pub marks : marks_of (start_life handling e.id) ≡ marks_looked_for handling e
  pub none_held : held_mark_bytes (start_life handling e.id) ≡ []
  pub going : has_ended (start_life handling e.id) ≡ false

on_removal : (id : EncodingId) → Starts Remove (record { id = id })
on_removal Utf8 = record { marks = refl; none_held = refl; going = refl }
on_removal Utf16be = record { marks = refl; none_held = refl; going = refl }
on_removal Utf16le = record { marks = refl; none_held = refl; going = refl }
on_removal _ = record { marks = refl; none_held = refl; going = refl }

pub starts : (handling : BomHandling) (e : Encoding) → Starts handling e
starts Off e = record { marks = refl; none_held = refl; going = refl }
starts Sniff e = record { marks = refl; none_held = refl; going = refl }
starts Remove e = on_removal e.id
