-- How far bytes are the characters of their own numbers, for every codec.
use Rattle.enc_output.proofs.OverwrittenTextLemmas.{is_text}
use Rattle.std.proofs.Common.{◌≡◌, ℕ, ◌+◌, ◌<◌, ◌≤◌, Bool, true, false, List, [], ◌∷◌, ◌++◌, length}
use Rattle.std.proofs.Common.{get_or, take, drop, drop-cons, zero, suc, refl, ap, ◌∙◌}
use Rattle.std.specs.Prelude.{All}
use Rattle.std.proofs.lemmas.List.Elements.{All-head, All-tail}
use Rattle.std.proofs.Common.{sym, subst, arith, append_assoc}
use Rattle.std.proofs.lemmas.List.{take_more}
use Rattle.enc_decoder.specs.declared.byte_codec.Kind.TheVariants.{Valid}
use Rattle.enc_decoder.specs.declared.byte_codec.Emission.{Emission}
use Rattle.enc_decoder.specs.declared.byte_codec.HandlerResult.TheVariants.{Continue, Emit}
use Rattle.enc_decoder.specs.Sequence.{Sequence}
use Rattle.enc_decoder.specs.Segmentation.{Rule, sequences_of}
use Rattle.enc_decoder.specs.Remainder.{AreFirstSequences, Determines}
use Rattle.enc_decoder.specs.CodecState.{CodecState, remainder_of}
use Rattle.enc_decoder.specs.CodecLaw.{text_chars, taken_bytes, HandlesByte}
use Rattle.enc_decoder.specs.Latin1.{IsLatin1Sequence, AreLatin1Sequences, IsLatin1Prefix, HasNoByteSequences}
use Rattle.enc_decoder.specs.Latin1.{AreLatin1Bytes, CodecMayBeLatin1}
use Rattle.enc_decoder.specs.Taking.{IsWholeChar}
use Rattle.enc_decoder.proofs.DeterminedLemmas.{begins_after, none_determined}
use Rattle.enc_decoder.proofs.NextEventLemmas.{holds_sequences, sequence}

-- a byte that is a valid sequence by itself
pub has_bytes_by : (rule : Rule) (b : ℕ) (z : List ℕ) → (rule 0 b z).kind ≡ Valid
    → (rule 0 b z).more ≡ 0
    → ¬ (HasNoByteSequences rule)
has_bytes_by rule b z v m n = omega (arith, m, n b z v)

-- where there is none, no byte is found to be one
pub no_latin1_without_bytes : (v : CodecState) → HasNoByteSequences v.rule → ¬ (CodecMayBeLatin1 v)
no_latin1_without_bytes v n m = m.has_bytes n

-- nor is one found with another character set
pub no_latin1_after_start : (v : CodecState) → (v.set ≡ 0 → ⊥) → ¬ (CodecMayBeLatin1 v)
no_latin1_after_start v n m = n m.at_start

-- one byte more
themselves_then : (ss : List Sequence) (z : List ℕ) (s : Sequence) (b : ℕ) → AreLatin1Sequences ss z
    → IsLatin1Sequence s b → AreLatin1Sequences (ss ++ s ∷ []) (z ++ b ∷ [])
themselves_then [] [] s b are_latin1 is_latin1 = (is_latin1, tt)
themselves_then [] (c ∷ z) s b are_latin1 is_latin1 = absurd are_latin1
themselves_then (t ∷ ss) [] s b are_latin1 is_latin1 = absurd are_latin1
themselves_then (t ∷ ss) (c ∷ z) s b are_latin1 is_latin1 =
    (are_latin1.0, themselves_then ss z s b are_latin1.1 is_latin1)

-- Where no byte is pending, a sequence that is shown with the next byte is that byte.
alone : (takes : Bool) (b : ℕ) (x y : List ℕ) → taken_bytes takes b ≡ x ++ y → 0 < length x
    → (takes ≡ true) × (x ≡ b ∷ []) × (y ≡ [])
alone takes b [] y parts some = absurd (omega arith)
alone true b (c ∷ []) y parts some = (refl, (cc), (cc))
alone true b (c ∷ d ∷ x) y parts some = absurd (cc)
alone false b (c ∷ x) y parts some = absurd (cc)

-- The first k bytes are so, and after them a state goes on that has nothing pending.
pub record Latin1Front {C : Type 0} (state : C → CodecState) (v : CodecState) (bytes : List ℕ)
    (k : ℕ)
    (now : C) : Type 0 where
  pub within : k ≤ length bytes
  pub front : List Sequence
  pub themselves : AreLatin1Sequences front (take k bytes)
  pub rest : (y : List ℕ) → (remainder_of v).sequences (take k bytes ++ y) ≡ front
      ++ (remainder_of (state now)).sequences y
  pub none_pending : (state now).pending ≡ []

pub latin1_begins : {C : Type 0} {state : C → CodecState} {c : C} {bytes : List ℕ}
    → (state c).pending ≡ []
    → Latin1Front state (state c) bytes 0 c
latin1_begins n = record {
  within = omega arith;
  front = [];
  themselves = tt;
  rest = λ y. refl;
  none_pending = n;
}

module _ {C : Type 0} {state : C → CodecState} {v : CodecState} {bytes : List ℕ} {k : ℕ} {now : C}
    (latin1_front : Latin1Front state v bytes k now) where
  -- k bytes are so, if a byte more is not
  prefix_if : (k < length bytes → (s : Sequence) → IsLatin1Sequence s (get_or bytes k 0)
      → Determines (remainder_of v).sequences (take (k + 1) bytes) (latin1_front.front ++ s ∷ [])
      → ⊥)
      → IsLatin1Prefix (remainder_of v).sequences bytes k
  prefix_if n = record {
    within = latin1_front.within;
    front = latin1_front.front;
    themselves = latin1_front.themselves;
    first = λ z _. ((remainder_of (state now)).sequences z, latin1_front.rest z);
    longest = n;
  }

  -- all bytes are so
  pub latin1_all : length bytes ≤ k → IsLatin1Prefix (remainder_of v).sequences bytes k
  latin1_all h = prefix_if (λ l s i d. omega arith)

  -- one byte further
  further : k < length bytes → (y : List ℕ)
      → (remainder_of v).sequences (take (k + 1) bytes ++ y)
      ≡ latin1_front.front ++ (remainder_of (state now)).sequences
      (get_or bytes k 0 ∷ y)
  further h y = rw (take_more bytes k 0 h, append_assoc (take k bytes))
      (latin1_front.rest (get_or bytes k 0 ∷ y))

  -- the next byte is held, and nothing is determined
  pub latin1_ends_waiting : k < length bytes → (n : C)
      → HandlesByte state now (get_or bytes k 0) (Continue n)
      → IsLatin1Prefix (remainder_of v).sequences bytes k
  latin1_ends_waiting h n continues = prefix_if (λ l s i.
      none_determined (remainder_of v).sequences (remainder_of (state n)).sequences
      (take (k + 1) bytes)
      latin1_front.front
      (λ y. further h y ∙ ap (λ ss. latin1_front.front ++ ss)
      (holds_sequences (state now) (state n) (get_or bytes k 0) continues.0 y)) continues.1 s)

  -- what a byte more determines comes first
  comes_first : k < length bytes → (s : Sequence)
      → Determines (remainder_of v).sequences (take (k + 1) bytes)
      (latin1_front.front ++ s ∷ [])
      → AreFirstSequences (s ∷ []) ((remainder_of (state now)).sequences (get_or bytes k 0 ∷ []))
  comes_first h s d =
      begins_after latin1_front.front (s ∷ [])
      ((remainder_of (state now)).sequences (get_or bytes k 0 ∷ []))
      ((remainder_of v).sequences (take (k + 1) bytes ++ []))
      (further h []) (d [] tt)

  module _ (has_next : k < length bytes) (s : Emission C)
      (shows : HandlesByte state now (get_or bytes k 0) (Emit s)) where
    abbrev byte : ℕ
    byte = get_or bytes k 0

    abbrev itself : Sequence
    itself = record (sequence shows.0) { bytes = byte ∷ [] }

    is_itself : (s.takes_byte ≡ true) × (shows.0.bytes ≡ byte ∷ [])
        × ((state s.next).pending ≡ [])
    is_itself = alone s.takes_byte byte shows.0.bytes (state s.next).pending
        (ap (λ x. x ++ taken_bytes s.takes_byte byte) (sym latin1_front.none_pending)
        ∙ shows.0.parts) shows.0.some

    first_itself : (y : List ℕ) → (remainder_of (state now)).sequences (byte ∷ y)
        ≡ itself ∷ (remainder_of (state s.next)).sequences y
    first_itself y =
        let took_byte = ap (λ t. taken_bytes t byte) is_itself.0 in
        ap (λ x. (remainder_of (state now)).sequences (x ++ y)) (sym took_byte)
        ∙ shows.0.first y (y, ap (λ x. x ++ y) took_byte)
        ∙ ap (λ x. record itself { bytes = x } ∷ (remainder_of (state s.next)).sequences y)
        is_itself.1

    -- the byte is a character of its own number
    pub latin1_goes_on : s.kind ≡ Valid → text_chars s.text ≡ byte ∷ []
        → Latin1Front state v bytes (k + 1) s.next
    latin1_goes_on valid is_text = record {
      within = omega arith;
      front = latin1_front.front ++ itself ∷ [];
      themselves = subst (AreLatin1Sequences (latin1_front.front ++ itself ∷ []))
          (sym (take_more bytes k 0 has_next))
          (themselves_then latin1_front.front (take k bytes) itself byte latin1_front.themselves
          (record { bytes = refl; text = is_text; kind = valid }));
      rest = λ y. further has_next y ∙ ap (λ ss. latin1_front.front ++ ss) (first_itself y)
          ∙ sym (append_assoc latin1_front.front (itself ∷ [])
          ((remainder_of (state s.next)).sequences y));
      none_pending = is_itself.2;
    }

    -- the byte is none
    pub latin1_ends_showing : (s.takes_byte ≡ true → s.kind ≡ Valid → text_chars s.text ≡ byte ∷ []
        → ⊥) → IsLatin1Prefix (remainder_of v).sequences bytes k
    latin1_ends_showing none = prefix_if (λ _ q is_latin1 determines.
        let first = comes_first has_next q determines in
        let begins = sym first.1 ∙ first_itself [] in
        let is_byte : itself ≡ q = cc in
        none is_itself.0 (ap (λ (r : Sequence). r.kind) is_byte ∙ is_latin1.kind)
        (ap (λ (r : Sequence). r.text) is_byte ∙ is_latin1.text))

-- bytes that are characters with their numbers, with the same state after them

module _ {C : Type 0} {state : C → CodecState} {v : CodecState} {bytes : List ℕ} {now : C} where
  run_goes_on : {k : ℕ} (latin1_front : Latin1Front state v bytes k now) → k < length bytes
      → IsWholeChar (state now).rule (state now).set (get_or bytes k 0 ∷ []) (get_or bytes k 0)
      → Latin1Front state v bytes (k + 1) now
  run_goes_on {k} latin1_front has_next is_char =
      let byte = get_or bytes k 0 in
      let rule = (state now).rule in
      let set = (state now).set in
      let itself : Sequence = record {
        bytes = byte ∷ [];
        text = byte ∷ [];
        kind = Valid;
        set = set;
      } in
      let none = latin1_front.none_pending in
      let first : (y : List ℕ) → (remainder_of (state now)).sequences (byte ∷ y)
      ≡ itself ∷ (remainder_of (state now)).sequences y = λ y.
      ap (λ p. sequences_of rule set (p ++ byte ∷ y)) none ∙ is_char y
      ∙ ap (λ p. itself ∷ sequences_of rule set (p ++ y)) (sym none) in
      record {
        within = omega arith;
        front = latin1_front.front ++ itself ∷ [];
        themselves = subst (AreLatin1Sequences (latin1_front.front ++ itself ∷ []))
            (sym (take_more bytes k 0 has_next))
            (themselves_then latin1_front.front (take k bytes) itself byte latin1_front.themselves
            (record { bytes = refl; text = refl; kind = refl }));
        rest = λ y. further latin1_front has_next y
            ∙ ap (λ ss. latin1_front.front ++ ss) (first y)
            ∙ sym (append_assoc latin1_front.front (itself ∷ [])
            ((remainder_of (state now)).sequences y));
        none_pending = none;
      }

  pub latin1_runs : (n : ℕ) {k : ℕ} → Latin1Front state v bytes k now → k + n ≤ length bytes
      → AreLatin1Bytes (state now).rule (state now).set (take n (drop k bytes))
      → Latin1Front state v bytes (k + n) now
  latin1_runs zero {k} latin1_front within are =
      let same : k ≡ k + 0 = omega arith in
      subst (λ j. Latin1Front state v bytes j now) same latin1_front
  latin1_runs (suc n) {k} latin1_front within are =
      let byte = get_or bytes k 0 in
      let rest = take n (drop (suc k) bytes) in
      let Own = λ (b : ℕ). IsWholeChar (state now).rule (state now).set (b ∷ []) b in
      let split : take (suc n) (drop k bytes) ≡ byte ∷ rest =
      ap (take (suc n)) (drop-cons bytes k 0 (omega arith)) in
      let own = subst (All Own) split are in
      let next : suc k ≡ k + 1 = omega arith in
      let count : k + 1 + n ≡ k + suc n = omega arith in
      subst (λ j. Latin1Front state v bytes j now) count
      (latin1_runs n (run_goes_on latin1_front (omega arith) (All-head Own byte rest own))
      (omega arith) (subst (λ j. All Own (take n (drop j bytes))) next
      (All-tail Own byte rest own)))
