-- What comes next, as the loop takes it.
use Rattle.std.proofs.Common.{◌*◌, ◌-◌, refl}
use Rattle.std.specs.Int.{from_bool}
use Rattle.std.proofs.Common.{◌≡◌, ℕ, ◌<◌, Bool, true, false, List, [], ◌∷◌, ◌++◌, length, ap, ◌∙◌}
use Rattle.std.proofs.Common.{sym, append_assoc, ◌+◌, length-append, arith, ◌≤◌}
use Rattle.enc_decoder.specs.declared.byte_codec.Emission.{Emission}
use Rattle.enc_decoder.specs.Sequence.{Sequence}
use Rattle.enc_decoder.specs.Segmentation.{sequences_of}
use Rattle.enc_decoder.specs.CodecState.{CodecState, remainder_of}
use Rattle.enc_decoder.specs.CodecLaw.{taken_bytes, text_chars, IsNextSequence}

-- a held byte is pending, and the state goes on with it
pub holds_sequences : (v n : CodecState) (b : ℕ) → n ≡ record v { pending = v.pending ++ b ∷ [] }
    → (y : List ℕ) → (remainder_of v).sequences (b ∷ y) ≡ (remainder_of n).sequences y
holds_sequences v n b is_next y =
    ap (sequences_of v.rule v.set) (sym (append_assoc v.pending (b ∷ []) y))
    ∙ ap (λ (s : CodecState). (remainder_of s).sequences y) (sym is_next)

module _ {C : Type 0} {state : C → CodecState} {c : C} {may_follow : List ℕ → Type 0}
    {took : List ℕ} {s : Emission C} (next : IsNextSequence state c may_follow took s) where
  abbrev pub sequence : Sequence
  sequence = record {
    bytes = next.bytes;
    text = text_chars s.text;
    kind = s.kind;
    set = (state s.next).set;
  }

-- Where reading stands after a sequence: past the next byte if that is read with it.
abbrev pub end_after : Bool → ℕ → ℕ
end_after takes read = read + from_bool takes

pub end_is : (takes : Bool) (read b : ℕ)
    → read + length (taken_bytes takes b) ≡ end_after takes read
end_is true read b = refl
end_is false read b = refl

taken_within : (takes : Bool) (read len b : ℕ) → (takes ≡ true → read < len) → read ≤ len
    → read + length (taken_bytes takes b) ≤ len
taken_within true read len b has_next within = omega (arith, has_next refl)
taken_within false read len b has_next within = omega (arith, within)

-- After a sequence fewer bytes are pending or unread, if an unread byte counts twice.
pub fewer_left : {C : Type 0} {state : C → CodecState} {c : C} {may_follow : List ℕ → Type 0}
    {len : ℕ} {s : Emission C} (b read : ℕ)
    → IsNextSequence state c may_follow (taken_bytes s.takes_byte b) s
    → (s.takes_byte ≡ true → read < len) → read ≤ len
    → 2 * (len - end_after s.takes_byte read) + length (state s.next).pending
    < 2 * (len - read) + length (state c).pending
fewer_left {state = state} {c} {len = len} {s = s} b read next has_next within =
    let took : ℕ = length (taken_bytes s.takes_byte b) in
    let pending : length (state c).pending + took
    ≡ length next.bytes + length (state s.next).pending =
    sym (length-append (state c).pending (taken_bytes s.takes_byte b)) ∙ ap length next.parts
    ∙ length-append next.bytes (state s.next).pending in
    omega (
      arith,
      next.some,
      pending,
      end_is s.takes_byte read b,
      taken_within s.takes_byte read len b has_next within,
    )
