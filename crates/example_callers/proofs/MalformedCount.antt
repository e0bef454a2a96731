-- The malformed sequences to come before a call without replacement, and after it: by the fields of
-- its clause `call`.
use Rattle.std.proofs.Common.{◌≡◌, ℕ, ◌+◌, true, false, List, [], ◌∷◌, ◌++◌, drop, refl, ap, ◌∙◌, sym}
use Rattle.std.proofs.Common.{append-nil, add_assoc, zero-add, if◌then◌else◌}
use Rattle.std.specs.Char.{encode_utf8}
use Rattle.enc_output.specs.declared.decoder_result.DecoderResult.{DecoderResult}
use Rattle.enc_output.specs.declared.decoder_result.DecoderResult.TheVariants as raw
use Rattle.enc_decoder.specs.Sequence.{Sequence, is_malformed, any_malformed}
use Rattle.enc_decoder.specs.declared.error_mode.ErrorMode.TheVariants.{Fatal}
use Rattle.enc_decoder.specs.Call.{DecoderStops}
use Rattle.std.proofs.lemmas.Bool.{or_parts}
use Rattle.encoding_rs.specs.Decoding.{DecoderState, decoder_remainder, remaining_sequences, DecodesChunk}
use Rattle.encoding_rs.specs.Decoding.{reporting_call}
use Rattle.example_callers.specs.Count.{malformed_count}
use Rattle.example_callers.proofs.WrittenText.{drop_whole}

malformed_count-append : (a b : List Sequence)
    → malformed_count (a ++ b) ≡ malformed_count a + malformed_count b
malformed_count-append [] b = sym (zero-add (malformed_count b))
malformed_count-append (s ∷ a) b =
    let first = if is_malformed s.kind then 1 else 0 in
    ap (λ n. first + n) (malformed_count-append a b)
    ∙ sym (add_assoc first (malformed_count a) (malformed_count b))

none_counted : (ss : List Sequence) → any_malformed ss ≡ false → malformed_count ss ≡ 0
none_counted [] none = refl
none_counted (s ∷ ss) none =
    let both_valid = or_parts (is_malformed s.kind) (any_malformed ss) none in
    rw (both_valid.0, none_counted ss both_valid.1) refl

-- the number of malformed sequences that a call reports
abbrev pub reported : DecoderResult → ℕ
reported raw.InputEmpty = 0
reported raw.OutputFull = 0
reported (raw.Malformed l a) = 1

-- The malformed sequences to come before a call are the one that it reports and those to come after
-- it.
counts_now : {old new : DecoderState} {src : List ℕ} {room : ℕ} (result : DecoderResult)
    {read : ℕ} {wrote : List ℕ}
    → DecodesChunk encode_utf8 old new (reporting_call src true room result read wrote)
    → malformed_count (remaining_sequences old src)
    ≡ reported result + malformed_count (remaining_sequences new (drop read src))
counts_now {old} {new} {src} {room} result {read} {wrote} decodes =
    let call = decodes.call in
    let after = remaining_sequences new (drop read src) in
    ap (λ x. malformed_count (remaining_sequences old x)) (sym (append-nil src))
    ∙ ap malformed_count (call.residual [] (λ _. refl)
    ∙ ap (λ x. call.done ++ remaining_sequences new x) (append-nil (drop read src)))
    ∙ malformed_count-append call.done after
    ∙ ap (λ n. n + malformed_count after) (by_result result call.stops)
  where
    by_result : (r : DecoderResult)
        → DecoderStops encode_utf8 (decoder_remainder old) (decoder_remainder new)
        (reporting_call src true room result read wrote) decodes.call.put decodes.call.done r
        → malformed_count decodes.call.done ≡ reported r
    by_result raw.InputEmpty stops = ap malformed_count stops.only_put
        ∙ none_counted decodes.call.put (sym decodes.call.flag)
    by_result raw.OutputFull stops = ap malformed_count stops.only_put
        ∙ none_counted decodes.call.put (sym decodes.call.flag)
    by_result (raw.Malformed l a) stops =
        ap malformed_count stops.then_next
        ∙ malformed_count-append decodes.call.put (stops.next ∷ [])
        ∙ ap (λ n. n + malformed_count (stops.next ∷ []))
        (none_counted decodes.call.put (sym decodes.call.flag))
        ∙ rw stops.malformed refl

-- The same, where why it stopped and the bytes unread are known by other names.
pub counted_by : {old new : DecoderState} {src rest : List ℕ} {room : ℕ} {result r : DecoderResult}
    {read : ℕ} {wrote : List ℕ}
    → DecodesChunk encode_utf8 old new (reporting_call src true room result read wrote)
    → result ≡ r
    → rest ≡ drop read src
    → malformed_count (remaining_sequences old src)
    ≡ reported r + malformed_count (remaining_sequences new rest)
counted_by {result = result} decodes is rest_is = rw (← is, rest_is) (counts_now result decodes)

-- Before a call that returns `InputEmpty` none is to come.
pub none_at_end : {old new : DecoderState} {src : List ℕ} {room : ℕ} (result : DecoderResult)
    {read : ℕ} {wrote : List ℕ}
    → DecodesChunk encode_utf8 old new (reporting_call src true room result read wrote)
    → result ≡ raw.InputEmpty → malformed_count (remaining_sequences old src) ≡ 0
none_at_end {new} {src} raw.InputEmpty {read} decodes is =
    counts_now raw.InputEmpty decodes
    ∙ zero-add (malformed_count (remaining_sequences new (drop read src)))
    ∙ ap (λ x. malformed_count (remaining_sequences new x))
    (drop_whole src read decodes.call.stops.all_read)
    ∙ ap malformed_count (decodes.call.stops.none_left refl)
none_at_end raw.OutputFull decodes is = absurd (let none : ⊥ = cc in none)
none_at_end (raw.Malformed l a) decodes is = absurd (let none : ⊥ = cc in none)
