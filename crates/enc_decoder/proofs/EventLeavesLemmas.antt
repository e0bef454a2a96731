-- What each event of the loop over bytes leaves, and the call that it ends.
use Rattle.enc_decoder.proofs.StageLemmas.{stage_at}
use Rattle.enc_decoder.proofs.NextEventLemmas.{holds_sequences}
use Rattle.std.proofs.lemmas.Bool.{false≢true}
use Rattle.std.proofs.Common.{◌≡◌, ℕ, ◌<◌, suc, Bool, true, false, List, [], ◌∷◌, ◌++◌, length, get_or}
use Rattle.std.proofs.Common.{take, drop, refl, ap, ◌∙◌, sym, arith, append-nil, inl, inr, subst, drop-cons}
use Rattle.std.proofs.Common.{length-drop, length-take}
use Rattle.std.proofs.Math.ListN.{drop_of_length-le}
use Rattle.enc_decoder.specs.declared.byte_codec.Emission.{Emission}
use Rattle.enc_decoder.specs.declared.machine.NextEvent.TheVariants.{NeedsInput, HoldsByte, Emits}
use Rattle.enc_output.specs.declared.decoder_result.DecoderResult.{DecoderResult}
use Rattle.enc_output.specs.declared.decoder_result.DecoderResult.TheVariants.{InputEmpty, OutputFull, Malformed}
use Rattle.enc_utf8.specs.Text.{units_of_text}
use Rattle.enc_decoder.specs.Sequence.{Sequence, is_malformed, is_repeated_escape}
use Rattle.enc_decoder.specs.Segmentation.{sequences_of}
use Rattle.enc_decoder.specs.Remainder.{Remainder, AreBytes, AreFirstSequences, Determines, IsUndetermined}
use Rattle.enc_decoder.specs.CodecState.{CodecState, remainder_of}
use Rattle.enc_decoder.specs.CodecLaw.{IsNextEvent, MayFollowRead, text_chars, taken_bytes}
use Rattle.enc_decoder.specs.Call.{IsRawCall, DecoderStops, ReadsToReported, AreReportedLens}
use Rattle.enc_decoder.specs.Call.{is_replacement_mode}
use Rattle.enc_decoder.specs.CallRecord.{Call}
use Rattle.enc_decoder.proofs.SegmentationLemmas.{sequences_of-nil}
use Rattle.enc_decoder.proofs.DeterminedLemmas.{determined_at}
use Rattle.enc_decoder.proofs.ByteLemmas.{bytes-drop, determines_by_more}
use Rattle.enc_decoder.proofs.NextEventLemmas as event
use Rattle.enc_decoder.proofs.StageLemmas.{Stage}
use Rattle.enc_decoder.proofs.LeavesLemmas.{Leaves, AreAccounted, call_at, nothing_read}
use Rattle.enc_decoder.proofs.StateLeavesLemmas.{LeadsOn, unread, byte_follows, rest_follows, state_leaves}

-- a call that puts nothing out
abbrev pub quiet : Stage → ℕ → DecoderResult → Call
quiet stage room result = record {
  src = stage.src;
  last = stage.last;
  mode = stage.mode;
  room = room;
  result = result;
  read = stage.read;
  wrote = [];
  replaced = false;
}

-- the same by what it leaves
abbrev pub quiet_call : {units_of : ℕ → List ℕ} {now new : Remainder} {room : ℕ}
    {result : DecoderResult} (stage : Stage) → Leaves now new stage → AreAccounted now new stage
    → DecoderStops units_of now new (quiet stage room result) [] stage.done result
    → IsRawCall units_of now new (quiet stage room result)
quiet_call stage leaves accounted stops = record {
  call = record {
    put = [];
    done = stage.done;
    within = leaves.within;
    residual = leaves.residual;
    set = leaves.set;
    text = refl;
    scalars = refl;
    fits = omega arith;
    flag = refl;
    none_replaced = λ _. refl;
    stops = stops;
  };
  accounted = accounted;
  goes_on = λ y _ first. leaves.goes_on y first;
}

module _ {C : Type 0} (state : C → CodecState) (c : C) (stage : Stage) where
  abbrev now : Remainder
  now = remainder_of (state c)

  abbrev byte : ℕ
  byte = get_or stage.src stage.read 0

  -- nothing of the unread bytes is read
  abbrev at_start : Stage
  at_start = stage_at stage 0 [] [] false

  byte_first : stage.read < length stage.src
      → unread stage ≡ byte ∷ drop (suc stage.read) stage.src
  byte_first has_next = drop-cons stage.src stage.read 0 has_next

  -- the bytes that are read with a sequence: the next byte, or none
  taken : (takes : Bool) → (takes ≡ true → stage.read < length stage.src)
      → take (length (taken_bytes takes byte)) (unread stage) ≡ taken_bytes takes byte
  taken true has_next = ap (take 1) (byte_first (has_next refl))
  taken false has_next = refl

  -- what follows them
  followed : (takes : Bool) → (takes ≡ true → stage.read < length stage.src) → (y : List ℕ)
      → MayFollowRead (unread stage) (length (taken_bytes takes byte)) stage.last y
      → MayFollowRead stage.src stage.read stage.last (taken_bytes takes byte ++ y)
  followed true has_next y follows =
      byte_follows stage.src stage.read stage.last y (has_next refl)
  followed false has_next y follows = record {
    more = λ has_byte.
        let begins = follows.more (omega (arith, has_byte, length-drop stage.read stage.src)) in
        let same_byte = ap (λ x. get_or x 0 0) (byte_first has_byte) in
        (begins.0, begins.1 ∙ ap (λ b. b ∷ begins.0) same_byte);
    ended = λ all_read. follows.ended (omega (arith, length-drop stage.read stage.src));
  }

  -- what may follow the bytes read so far begins with them
  parted : (takes : Bool) → (takes ≡ true → stage.read < length stage.src) → (y : List ℕ)
      → MayFollowRead stage.src stage.read stage.last y
      → (z : List ℕ) × (y ≡ taken_bytes takes byte ++ z)
  parted true has_next y follows = follows.more (has_next refl)
  parted false has_next y follows = (y, refl)

  -- more input is needed
  pub input_empty : {units_of : ℕ → List ℕ} {room : ℕ}
      → IsNextEvent state c stage.src stage.read stage.last NeedsInput
      → IsRawCall units_of now now (call_at stage room InputEmpty 0 [] false)
  input_empty needs =
      let all_read : unread stage ≡ [] = drop_of_length-le stage.src needs.0 in
      quiet_call at_start (nothing_read at_start) (append-nil (state c).pending) (record {
        only_put = refl;
        all_read = sym (ap length all_read);
        none_determined = λ _ s determines. needs.2 s
            (subst (λ x. Determines now.sequences x (s ∷ [])) all_read determines);
        none_left = λ is_last. ap (λ x. sequences_of (state c).rule (state c).set (x ++ []))
            (needs.1 is_last) ∙ sequences_of-nil (state c).rule (state c).set;
        none_pending = needs.1;
      })

  -- a byte is held
  pub holds_byte : {n : C} → IsNextEvent state c stage.src stage.read stage.last (HoldsByte n)
      → LeadsOn (state c) (state n) stage 1 []
  holds_byte {n} held =
      let one_byte = taken true (λ _. held.0) in
      record {
        within = omega (arith, held.0, length-drop stage.read stage.src);
        same_rule = λ i. (held.1.0 i).rule;
        set = λ i. (held.1.0 i).set;
        accounted = ap (λ x. (state c).pending ++ x) one_byte ∙ (λ i. (sym held.1.0 i).pending);
        first = λ y _. ap (λ x. now.sequences (x ++ y)) one_byte
            ∙ event.holds_sequences (state c) (state n) byte held.1.0 y;
        undetermined = λ _. held.1.1;
      }

  -- a sequence
  module _ {s : Emission C} (emits : IsNextEvent state c stage.src stage.read stage.last (Emits s))
    where
      abbrev pub emitted : Sequence
      emitted = event.sequence emits.0

      -- the number of bytes read with it
      abbrev pub count : ℕ
      count = length (taken_bytes s.takes_byte byte)

      pub has_byte : s.takes_byte ≡ true → stage.read < length stage.src
      has_byte takes = (emits.1 takes).0

      comes : (y : List ℕ) → MayFollowRead stage.src stage.read stage.last y
          → AreFirstSequences (emitted ∷ []) (now.sequences y)
      comes y follows = let parts = parted s.takes_byte has_byte y follows in (
        _,
        ap now.sequences parts.1 ∙ emits.0.first parts.0
            (subst (MayFollowRead stage.src stage.read stage.last) parts.1 follows),
      )

      -- the next byte determines it
      shown_next : stage.read < length stage.src
          → Determines now.sequences (take 1 (unread stage)) (emitted ∷ [])
      shown_next has_next z _ = rw (taken true (λ _. has_next))
          (comes (byte ∷ z) (byte_follows stage.src stage.read stage.last z has_next))

      shown_then : 0 < length (unread stage)
          → Determines now.sequences (take 1 (unread stage)) (emitted ∷ [])
      shown_then some = shown_next (omega (arith, length-drop stage.read stage.src))

      pub leads : LeadsOn (state c) (state s.next) stage count (emitted ∷ [])
      leads =
          let read_with = taken s.takes_byte has_byte in
          record {
            within = omega (arith, ap length read_with, length-take count (unread stage));
            same_rule = emits.0.same_rule;
            set = refl;
            accounted = rw (read_with, emits.0.parts, append-nil) refl;
            first = λ y follows. rw read_with
                (emits.0.first y (followed s.takes_byte has_byte y follows));
            undetermined = λ some. (emits.1 (takes_some s.takes_byte some)).2;
          }
        where
          takes_some : (takes : Bool) → 0 < length (taken_bytes takes byte) → takes ≡ true
          takes_some true some = refl
          takes_some false some = absurd (omega arith)

      pub reads : AreBytes stage.src → ReadsToReported (is_repeated_escape s.kind) now.sequences
          (unread stage) (emitted ∷ []) count (state s.next).pending
      reads bytes =
          by_kind (is_repeated_escape s.kind) s.takes_byte emits.0.late emits.0.clean emits.1
        where
          by_kind : (late takes : Bool) → (late ≡ true → takes ≡ true)
              → (takes ≡ true → late ≡ false → (state s.next).pending ≡ [])
              → (takes ≡ true → (stage.read < length stage.src) × IsUndetermined now.sequences
              × IsUndetermined (remainder_of (state s.next)).sequences)
              → ReadsToReported late now.sequences (unread stage) (emitted ∷ [])
              (length (taken_bytes takes byte)) (state s.next).pending
          by_kind true true late_takes clean next = record {
            not_shown = inr ((next refl).1 emitted);
            shown = shown_next (next refl).0;
          }
          by_kind true false late_takes clean next = absurd (false≢true (late_takes refl))
          by_kind false true late_takes clean next = record {
            not_shown = inl (clean refl refl);
            shown_next = λ more. determines_by_more now.sequences (unread stage) 1 2
                (emitted ∷ []) (bytes-drop stage.read stage.src bytes) (omega arith)
                (shown_next (next refl).0);
          }
          by_kind false false late_takes clean next =
              record { not_shown = inr (inl refl); shown_next = shown_then }

      -- its text doesn't fit
      pub output_full : {units_of : ℕ → List ℕ} {room : ℕ}
          → (is_replacement_mode stage.mode ≡ false → is_malformed s.kind ≡ false)
          → room < length (units_of_text units_of (text_chars s.text))
          → IsRawCall units_of now now (call_at stage room OutputFull 0 [] false)
      output_full not_reported full = quiet_call at_start (nothing_read at_start)
          (append-nil (state c).pending) (record {
            only_put = refl;
            next = emitted;
            determined = determined_at stage.last now.sequences (unread stage) (emitted ∷ [])
                (λ z ends. comes (unread stage ++ z)
                (rest_follows stage.src stage.read stage.last z ends));
            not_reported = not_reported;
            full = omega (arith, full);
            reads = record { not_shown = inl refl; shown_next = shown_then };
          })

      -- it is malformed, and is reported
      abbrev pub reported : {units_of : ℕ → List ℕ} {room a : ℕ} → AreBytes stage.src
          → is_replacement_mode stage.mode ≡ false → is_malformed s.kind ≡ true
          → a ≡ length (state s.next).pending
          → IsRawCall units_of now (remainder_of (state s.next))
          (call_at stage room (Malformed s.len a) count [] false)
      reported bytes fatal malformed is_pending =
          let leaves : Leaves now (remainder_of (state s.next))
          (stage_at stage count (emitted ∷ []) [] false) = state_leaves bytes leads in
          quiet_call (stage_at stage count (emitted ∷ []) [] false) leaves leads.accounted (record {
            next = emitted;
            then_next = refl;
            malformed = malformed;
            replacement = emits.0.replacement malformed;
            not_replaced = fatal;
            len = emits.0.len;
            not_empty = omega (arith, emits.0.len, emits.0.some);
            pending = is_pending;
            bounds = subst (AreReportedLens s.kind s.len) (sym is_pending)
                (emits.0.bounds malformed);
            determined = determined_at stage.last now.sequences (unread stage) (emitted ∷ [])
                (λ z ends. (_, leaves.residual z ends));
            none_after = leaves.none_after;
            reads = reads bytes;
          })
