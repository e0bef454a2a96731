-- What calls with replacement write, and the text of the whole input: by the fields of their clause
-- `call`.
use Rattle.std.proofs.Common.{◌≡◌, ℕ, ◌+◌, ◌≤◌, Bool, true, List, [], ◌∷◌, ◌++◌, length, take, drop, refl, ap, ◌∙◌, sym}
use Rattle.std.proofs.Common.{append_assoc, append-nil, length-append, arith, false, true≢false}
use Rattle.std.proofs.Math.Seq.{drop-length, take-append-add, take-append_seam}
use Rattle.std.proofs.lemmas.List.{take-append-drop, take-append-le, length-take-le}
use Rattle.std.specs.Char.{encode_utf8}
use Rattle.enc_utf8.specs.declared.coder_result.CoderResult.{CoderResult}
use Rattle.enc_utf8.specs.declared.coder_result.CoderResult.TheVariants.{InputEmpty, OutputFull}
use Rattle.enc_utf8.specs.Text.{units_of_text}
use Rattle.enc_decoder.specs.Sequence.{Sequence, sequence_text}
use Rattle.enc_decoder.proofs.SequenceLemmas.{units-append}
use Rattle.enc_stream.specs.declared.bom.BomHandling.TheVariants.{Sniff}
use Rattle.enc_stream.specs.declared.encoding.Encoding.{Encoding}
use Rattle.encoding_rs.specs.Decoding.{DecoderState, fresh_decoder, remaining_sequences, DecodesChunk}
use Rattle.encoding_rs.specs.Decoding.{replacing_call, whole_utf_8}

-- the text of sequences, in UTF-8
abbrev pub utf_8 : List Sequence → List ℕ
utf_8 ss = units_of_text encode_utf8 (sequence_text ss)

-- The text to come before a call is what the call writes and the text to come after it.
pub written_then : {old new : DecoderState} {src : List ℕ} {last : Bool} {room : ℕ}
    (result : CoderResult) {read : ℕ} {wrote : List ℕ} {replaced : Bool}
    → DecodesChunk encode_utf8 old new (replacing_call src last room result read wrote replaced)
    → (z : List ℕ) → (last ≡ true → z ≡ [])
    → utf_8 (remaining_sequences old (src ++ z))
    ≡ wrote ++ utf_8 (remaining_sequences new (drop read src ++ z))
written_then {new} {src} InputEmpty {read} decodes z none_after =
    let after = remaining_sequences new (drop read src ++ z) in
    ap utf_8 (decodes.call.residual z none_after)
    ∙ units-append encode_utf8 decodes.call.done after
    ∙ ap (λ x. x ++ utf_8 after)
    (ap utf_8 decodes.call.stops.only_put ∙ sym decodes.call.text)
written_then {new} {src} OutputFull {read} decodes z none_after =
    let after = remaining_sequences new (drop read src ++ z) in
    ap utf_8 (decodes.call.residual z none_after)
    ∙ units-append encode_utf8 decodes.call.done after
    ∙ ap (λ x. x ++ utf_8 after)
    (ap utf_8 decodes.call.stops.only_put ∙ sym decodes.call.text)

pub drop_whole : (x : List ℕ) (n : ℕ) → n ≡ length x → drop n x ≡ []
drop_whole x n e = ap (λ k. drop k x) e ∙ drop-length x

-- `InputEmpty` leaves nothing unread, and at the end of the input nothing to come.
at_input_empty : {old new : DecoderState} {src : List ℕ} {last : Bool} {room : ℕ}
    (result : CoderResult) {read : ℕ} {wrote : List ℕ} {replaced : Bool}
    → DecodesChunk encode_utf8 old new (replacing_call src last room result read wrote replaced)
    → result ≡ InputEmpty
    → (drop read src ≡ []) × (last ≡ true → remaining_sequences new [] ≡ [])
at_input_empty {src} InputEmpty {read} decodes is =
    (drop_whole src read decodes.call.stops.all_read, decodes.call.stops.none_left)
at_input_empty OutputFull decodes is = absurd (let none : ⊥ = cc in none)

-- the same after `InputEmpty`
pub written_chunk : {old new : DecoderState} {src : List ℕ} {last : Bool} {room : ℕ}
    (result : CoderResult) {read : ℕ} {wrote : List ℕ} {replaced : Bool}
    → DecodesChunk encode_utf8 old new (replacing_call src last room result read wrote replaced)
    → result ≡ InputEmpty → (z : List ℕ) → (last ≡ true → z ≡ [])
    → utf_8 (remaining_sequences old (src ++ z)) ≡ wrote ++ utf_8 (remaining_sequences new z)
written_chunk {new} result {wrote} decodes is z none_after =
    written_then result decodes z none_after
    ∙ ap (λ x. wrote ++ utf_8 (remaining_sequences new (x ++ z)))
    (at_input_empty result decodes is).0

-- At the end of the input all text is written.
pub written_all : {old new : DecoderState} {src : List ℕ} {room : ℕ} (result : CoderResult)
    {read : ℕ} {wrote : List ℕ} {replaced : Bool}
    → DecodesChunk encode_utf8 old new (replacing_call src true room result read wrote replaced)
    → result ≡ InputEmpty → utf_8 (remaining_sequences old src) ≡ wrote
written_all {old} {src} result {wrote} decodes is =
    ap (λ x. utf_8 (remaining_sequences old x)) (sym (append-nil src))
    ∙ written_chunk result decodes is [] (λ _. refl)
    ∙ ap (λ ss. wrote ++ utf_8 ss) ((at_input_empty result decodes is).1 refl) ∙ append-nil wrote

-- The text of a whole input split in two is that to come of a new decoder.
pub whole_in_two : {e : Encoding} {d : DecoderState} (bytes : List ℕ) {front back : List ℕ} (n : ℕ)
    → d ≡ fresh_decoder Sniff e → front ≡ take n bytes → back ≡ drop n bytes
    → whole_utf_8 Sniff e bytes ≡ utf_8 (remaining_sequences d (front ++ back))
whole_in_two {e} {d} bytes {front} {back} n is front_is back_is =
    let joined : front ++ back ≡ bytes =
    ap (λ x. x ++ back) front_is ∙ ap (λ x. take n bytes ++ x) back_is ∙ take-append-drop n bytes
    in
    ap (λ x. whole_utf_8 Sniff e x) (sym joined)
    ∙ ap (λ s. utf_8 (remaining_sequences s (front ++ back))) (sym is)

-- n bytes written to a slice after m others
pub two_parts : (a b t : List ℕ) {m n : ℕ} → m ≤ length a → n ≤ length b
    → take (m + n) (take m a ++ (b ++ t)) ≡ take m a ++ take n b
two_parts a b t {m} {n} within_a within_b =
    ap (λ k. take (k + n) (take m a ++ (b ++ t))) (sym (length-take-le m a within_a))
    ∙ take-append-add (take m a) (b ++ t) n
    ∙ ap (λ x. take m a ++ x) (take-append-le n b t within_b)

-- If a text begins with n bytes, these are its first n.
pub first_of : {text : List ℕ} (dst more : List ℕ) {n : ℕ} → n ≤ length dst
    → text ≡ take n dst ++ more → take n dst ≡ take n text
first_of {text} dst more {n} within is =
    sym (ap (take n) is
    ∙ ap (λ k. take k (take n dst ++ more)) (sym (length-take-le n dst within))
    ∙ take-append_seam (take n dst) more)

-- The same for n bytes written after m others.
pub first_of_two : {text : List ℕ} (a b t more : List ℕ) {m n : ℕ} → m ≤ length a → n ≤ length b
    → text ≡ take m a ++ (take n b ++ more)
    → take (m + n) (take m a ++ (b ++ t)) ≡ take (m + n) text
first_of_two {text} a b t more {m} {n} within_a within_b is =
    let front = take m a ++ take n b in
    let front_length : m + n ≡ length front =
    omega (
      arith,
      length-append (take m a) (take n b),
      length-take-le m a within_a,
      length-take-le n b within_b,
    ) in
    two_parts a b t within_a within_b
    ∙ sym (ap (take (m + n)) (is ∙ sym (append_assoc (take m a) (take n b) more))
    ∙ ap (λ k. take k (front ++ more)) front_length ∙ take-append_seam front more)

-- The first chunk is not the last.
pub not_last : {z : List ℕ} → false ≡ true → z ≡ []
not_last is = absurd (true≢false (sym is))
