-- Each call of a run of a decoder takes it nearer to its end, or ends it.
use Rattle.std.proofs.Common.{◌≡◌, ℕ, ◌+◌, ◌-◌, ◌*◌, ◌<◌, ◌≤◌, ◌⊎◌, inl, inr, Bool, true, false, List, length, take}
use Rattle.std.proofs.Common.{drop, nat_le, arith, if◌then◌else◌}
use Rattle.std.specs.List.{All}
use Rattle.std.proofs.lemmas.Bool.{leb-false}
use Rattle.std.proofs.lemmas.List.{length-take}
use Rattle.std.proofs.Math.ListN.{length-drop}
use Rattle.enc_stream.specs.declared.bom.BomHandling.{BomHandling}
use Rattle.enc_stream.specs.declared.encoding.Encoding.{Encoding}
use Rattle.encoding_rs.specs.declared.run.DecodeCall.{DecodeCall}
use Rattle.enc_stream.specs.Decoding.{has_finished, TakesSmallTexts}
use Rattle.encoding_rs.specs.Run.{units_of_call, DecodeRunState, DecodeRunAdvances, decode_run_start}
use Rattle.encoding_rs.specs.DecodeEnd.{CanDecodeMore}
use Rattle.enc_decoder.specs.Call.{decode_error_mode}
use Rattle.enc_stream.proofs.DecoderProgressLemmas.{nearer}
use Rattle.enc_stream.proofs.OutputFullLemmas.{four_bytes, two_units}
use Rattle.encoding_rs.specs.Runs.{IsRun}
use Rattle.encoding_rs.proofs.RunLemmas.{ends_within}

small_by : (utf16 : Bool) → TakesSmallTexts (units_of_call utf16) (if utf16 then 2 else 4)
small_by true = two_units
small_by false = four_bytes

-- the distance of a run from the end: two for each unread byte, and one for each pending byte
abbrev left : List ℕ → DecodeRunState → ℕ
left bytes s = 2 * (length bytes - s.read) + length s.decoder.pending

one_nearer : (bytes : List ℕ) (call : DecodeCall) (a b : DecodeRunState) → a.read ≤ length bytes
    → CanDecodeMore call → DecodeRunAdvances bytes call a b
    → (b.read ≤ length bytes) × ((has_finished b.decoder ≡ true) ⊎ (left bytes b < left bytes a))
one_nearer bytes call a b within can_go_on advances =
    let unread = drop a.read bytes in
    let decodes = advances.call.answers.decodes in
    let in_offer = decodes.call.within in
    let size = length-take call.offer unread in
    let rest = length-drop a.read bytes in (
      omega (arith, within, advances.read, in_offer, size, rest),
      elim (nearer (small_by call.utf16) (record {
        src = take call.offer unread;
        last = nat_le (length unread) call.offer;
        mode = decode_error_mode call.replace;
        room = call.room;
        result = advances.result;
        read = advances.more;
        wrote = _;
        replaced = advances.replaced;
      }) can_go_on.roomy decodes
          (λ not_last. let more_than_offered = leb-false (length unread) call.offer not_last in
          omega (arith, more_than_offered, size, can_go_on.offered))) [
            | inl ended ↦ inl ended
            | inr less ↦ inr (omega (arith, less, in_offer, size, rest, advances.read, within))
          ],
    )

-- Two calls for each byte, and one more, are enough.
pub ends : (handling : BomHandling) (e : Encoding) (bytes : List ℕ) (calls : List DecodeCall)
    (n : ℕ) (b : DecodeRunState) → n ≤ length calls
    → (has_finished b.decoder ≡ true) ⊎ (n ≡ length calls) → All CanDecodeMore calls
    → IsRun (DecodeRunAdvances bytes) (take n calls) (decode_run_start handling e) b
    → (n ≤ 2 * length bytes + 1)
    × (2 * length bytes + 1 ≤ length calls → has_finished b.decoder ≡ true)
ends handling e bytes calls n b =
    ends_within (DecodeRunAdvances bytes) CanDecodeMore (λ s. s.read ≤ length bytes)
    (λ s. has_finished s.decoder) (left bytes) (λ call old new advances. advances.not_finished)
    (one_nearer bytes) calls n (2 * length bytes + 1) (decode_run_start handling e) b (omega arith)
    (omega arith)
